-- What a history keeps, and how it ends.
use Rattle.std.proofs.Common.{◌≡◌, ℕ, eqb, List, [], ◌∷◌, ◌++◌, length, refl, sym, ap, ◌∙◌, arith, length-set, length-append}
use Rattle.std.proofs.lemmas.Bool.{false≢true, cond-true, cond-false, eq-eqb, ne_eqb}
use Rattle.values_undef.specs.Access.{choice_of_event}
use Rattle.message_memory.specs.declared.history.Call.{Call}
use Rattle.message_memory.specs.Memory.{IsClosedView}
use Rattle.message_memory.specs.History.{view_of, after_call, calls_by}
use Rattle.message_memory.specs.HistoryLaws.{HistoriesKeepViews, HistoriesKeepLocations, FailuresEndHistories, FailsWithTheLast, StepsAreCalls}
use Rattle.message_memory.proofs.StepLaws.{failures_fail, keep_locations}
use Rattle.message_memory.proofs.HistoryLemmas.{well_formed_calls, all_at, call_made}
use Rattle.message_memory.proofs.Runs.{calls_by-append}

pub views_many : HistoriesKeepViews
views_many s [] = refl
views_many s (c ∷ calls) = views_many (after_call s c) calls ∙ length-set s.views c.thread _

pub locations_many : HistoriesKeepLocations
locations_many s [] w h = (refl, refl)
locations_many s (c ∷ calls) w h =
    let t = after_call s c in
    let i = c.thread in
    let first = keep_locations s.memory t.memory (view_of s i) (view_of t i) i c.access (choice_of_event c.event) c.event w.well_formed (all_at (IsClosedView s.memory) s.views i h.0.there w.closed) h.0.proper h.0.step in
    let more = locations_many t calls (well_formed_calls s (c ∷ []) w (h.0, tt)) h.1 in
    (more.0 ∙ first.0, more.1 ∙ first.1)

-- where the memory has failed, the last call is the failure
pub failed_ends : FailuresEndHistories
failed_ends s [] legal runs failed = absurd (false≢true (sym runs ∙ failed))
failed_ends s (c ∷ []) legal runs failed =
    let t = after_call s c in
    let f = failures_fail s.memory t.memory (view_of s c.thread) (view_of t c.thread) c.thread c.access (choice_of_event c.event) c.event legal.0.step in
    record { before = []; last = c; whole = refl; failure = sym f ∙ failed }
failed_ends s (c ∷ d ∷ ds) legal runs failed =
    let rest = failed_ends (after_call s c) (d ∷ ds) legal.1 legal.1.0.step.legal.running failed in
    record { before = c ∷ rest.before; last = rest.last; whole = ap (λ (l : List Call). c ∷ l) rest.whole; failure = rest.failure }

-- and where the last call is none, it has not
pub fails_with_last : FailsWithTheLast
fails_with_last s [] last legal =
    let t = after_call s last in
    failures_fail s.memory t.memory (view_of s last.thread) (view_of t last.thread) last.thread last.access (choice_of_event last.event) last.event legal.0.step
fails_with_last s (c ∷ before) last legal = fails_with_last (after_call s c) before last legal.1

pub steps_calls : StepsAreCalls
steps_calls s i silent a c e m' v' l p step = call_made s i silent (view_of s i) a c e m' v' l p refl step

-- ---- the calls of a thread

pub own_first : (c : Call) (cs : List Call) (i : ℕ) → c.thread ≡ i → calls_by i (c ∷ cs) ≡ c ∷ calls_by i cs
own_first c cs i e = cond-true (eqb c.thread i) (c ∷ calls_by i cs) (calls_by i cs) (eq-eqb c.thread i e)

pub other_first : (c : Call) (cs : List Call) (i : ℕ) → (c.thread ≡ i → ⊥) → calls_by i (c ∷ cs) ≡ calls_by i cs
other_first c cs i ne = cond-false (eqb c.thread i) (c ∷ calls_by i cs) (calls_by i cs) (ne_eqb c.thread i ne)

-- a longer list with as many calls of a thread has none of it in what was added
pub none_between : (i : ℕ) (xs ys : List Call) → calls_by i xs ≡ calls_by i (xs ++ ys) → calls_by i ys ≡ []
none_between i xs ys e = empty (calls_by i ys) (let n = ap {B = ℕ} length (e ∙ calls_by-append i xs ys) ∙ length-append (calls_by i xs) (calls_by i ys) in omega arith)
  where
    empty : (l : List Call) → length l ≡ 0 → l ≡ []
    empty [] n = refl
    empty (x ∷ l) n = absurd (omega arith)
