-- What the last entries of a run's threads tell of its ending, and its ending of them.
use Rattle.std.proofs.Common.{◌≡◌, ◌<◌, ◌+◌, ◌⊎◌, inl, inr, ℕ, zero, suc, Bool, true, false, ◌&&◌, ◌||◌, ◌==◌, List, [], ◌∷◌, ◌++◌, length, refl, sym, ap, subst, ◌∙◌, if◌then◌else◌, arith}
use Rattle.std.specs.List.{AllByRecursion, list_all, range_with_len}
use Rattle.std.proofs.lemmas.Bool.{false≢true, true≢false, and_parts, eqb-true, ne_eqb}
use Rattle.values_undef.specs.Access.{ends_thread, is_finish, is_spend, is_failure}
use Rattle.values_undef.specs.Journal.{last_fails, has_finished, all_finished}
use Rattle.values_undef.specs.declared.access.Event.{Event}
use Rattle.values_undef.specs.declared.access.Event.TheVariants.{NaRead, NaWrite, Read, Write, Update, Miss, Fence, Print, Fail, FailCompare, Finish, Spend}
use Rattle.values_undef.specs.declared.journal.Entry.{Entry}
use Rattle.values_undef.specs.declared.journal.Ending.{Ending}
use Rattle.values_undef.specs.declared.journal.Ending.TheVariants as ending
use Rattle.il_syntax.specs.declared.program.Program.{Program}
use Rattle.view_machine.specs.State.{State, has_ended as has_noted, initial_state}
use Rattle.view_machine.specs.Runs.{IsEntry, after_entry, IsRunFrom, IsJournalRun}
use Rattle.view_machine.proofs.Callers.{entries_of_threads, none_later, ends_here}
use Rattle.run_choices.specs.Complete.{IsComplete, has_ended, has_spent}
use Rattle.refinement.specs.Refinement.{EndsInFailure}
use Rattle.refinement.proofs.Callers.{failing_ends}
use Rattle.reports.specs.Runs.{IsReportedRun}
use Rattle.reports.specs.Laws.{TellsEnd, EndingsTellTheEnd}
use Rattle.run_choices.proofs.Callers.{spend_ends}

-- ---- events that end a thread

-- the finish, the end of a budget, or neither
data EndKind (e : Event) : Type 0 where
  finishes : e ≡ Finish → EndKind e
  spends : e ≡ Spend → EndKind e
  goes_on : ends_thread e ≡ false → is_finish e ≡ false → is_spend e ≡ false → EndKind e

end_kind : (e : Event) → EndKind e
end_kind (NaRead x v) = goes_on refl refl refl
end_kind (NaWrite x v version) = goes_on refl refl refl
end_kind (Read y order v to) = goes_on refl refl refl
end_kind (Write y order v from to) = goes_on refl refl refl
end_kind (Update y order old new read to) = goes_on refl refl refl
end_kind (Miss y order old read) = goes_on refl refl refl
end_kind (Fence order) = goes_on refl refl refl
end_kind (Print v) = goes_on refl refl refl
end_kind (Fail cause) = goes_on refl refl refl
end_kind (FailCompare y read) = goes_on refl refl refl
end_kind Finish = finishes refl
end_kind Spend = spends refl

-- a thread that ended either finished or was stopped
ends_by : (e : Event) → ends_thread e ≡ true → is_finish e ≡ false → is_spend e ≡ true
ends_by e ends other = go (end_kind e)
  where
    go : EndKind e → is_spend e ≡ true
    go (finishes is) = absurd (true≢false (sym (ap is_finish is) ∙ other))
    go (spends is) = ap is_spend is
    go (goes_on a b c) = absurd (true≢false (sym ends ∙ a))

-- one that finished has ended, wasn't stopped, and didn't fail
record IsFinishing (e : Event) : Type 0 where
  ends : ends_thread e ≡ true
  spends : is_spend e ≡ false
  fails : is_failure e ≡ false

finishing : (e : Event) → is_finish e ≡ true → IsFinishing e
finishing e finish = go (end_kind e)
  where
    go : EndKind e → IsFinishing e
    go (finishes is) = record { ends = ap ends_thread is; spends = ap is_spend is; fails = ap is_failure is }
    go (spends is) = absurd (true≢false (sym finish ∙ ap is_finish is))
    go (goes_on a b c) = absurd (true≢false (sym finish ∙ b))

-- ---- a thread that ended makes no more entries

abbrev NoneOf : ℕ → List Entry → Type 0
NoneOf i entries = AllByRecursion (λ (e : Entry). e.thread ≡ i → ⊥) entries

none_finished : (i : ℕ) (es : List Entry) → NoneOf i es → has_finished es i ≡ false
none_finished i [] h = refl
none_finished i (e ∷ es) h = rw (ne_eqb e.thread i h.0) (none_finished i es h.1)

none_spent : (i : ℕ) (es : List Entry) → NoneOf i es → has_spent es i ≡ false
none_spent i [] h = refl
none_spent i (e ∷ es) h = rw (ne_eqb e.thread i h.0) (none_spent i es h.1)

not_last : (es : List Entry) (e : Entry) → NoneOf e.thread (es ++ e ∷ []) → ⊥
not_last [] e h = h.0 refl
not_last (x ∷ es) e h = not_last es e h.1

-- what comes after the end of a thread
none_after : (p : Program) (s : State) (e : Entry) (es : List Entry) (i : ℕ) → IsEntry p s e → IsRunFrom p (after_entry p s e) es → e.thread ≡ i → ends_thread e.event ≡ true → NoneOf i es
none_after p s e es i made run same ends =
    none_later p (after_entry p s e) es i run (subst (λ (k : ℕ). has_noted (after_entry p s e) k ≡ true) same (ends_here p s e made ends))

-- no thread both finishes and is stopped
one_end : (p : Program) (s : State) (es : List Entry) (i : ℕ) → IsRunFrom p s es → has_finished es i ≡ true → has_spent es i ≡ true → ⊥
one_end p s [] i run finished spent = false≢true finished
one_end p s (e ∷ es) i run finished spent =
    go (e.thread == i) (is_finish e.event) (is_spend e.event) refl refl refl finished spent (one_end p (after_entry p s e) es i run.1)
  where
    none : e.thread ≡ i → ends_thread e.event ≡ true → NoneOf i es
    none same ends = none_after p s e es i run.0 run.1 same ends

    go : (own fin spend : Bool) → (e.thread == i) ≡ own → is_finish e.event ≡ fin → is_spend e.event ≡ spend → ((own && fin) || has_finished es i) ≡ true → ((own && spend) || has_spent es i) ≡ true
        → (has_finished es i ≡ true → has_spent es i ≡ true → ⊥) → ⊥
    go false fin spend own a b f q more = more f q
    go true true true own a b f q more = true≢false (sym b ∙ (finishing e.event a).spends)
    go true true false own a b f q more = true≢false (sym q ∙ none_spent i es (none (eqb-true e.thread i own) (finishing e.event a).ends))
    go true false true own a b f q more = true≢false (sym f ∙ none_finished i es (none (eqb-true e.thread i own) (spend_ends e.event b)))
    go true false false own a b f q more = more f q

-- the thread of a failure doesn't finish
failing_unfinished : (p : Program) (s : State) (es : List Entry) (last : Entry) → IsRunFrom p s (es ++ last ∷ []) → is_failure last.event ≡ true → has_finished (es ++ last ∷ []) last.thread ≡ true → ⊥
failing_unfinished p s [] last run fails finished = go (last.thread == last.thread) (is_finish last.event) refl finished
  where
    go : (own fin : Bool) → is_finish last.event ≡ fin → ((own && fin) || false) ≡ true → ⊥
    go false fin a f = false≢true f
    go true true a f = true≢false (sym fails ∙ (finishing last.event a).fails)
    go true false a f = false≢true f
failing_unfinished p s (e ∷ es) last run fails finished =
    go (e.thread == last.thread) (is_finish e.event) refl refl finished (failing_unfinished p (after_entry p s e) es last run.1 fails)
  where
    go : (own fin : Bool) → (e.thread == last.thread) ≡ own → is_finish e.event ≡ fin → ((own && fin) || has_finished (es ++ last ∷ []) last.thread) ≡ true
        → (has_finished (es ++ last ∷ []) last.thread ≡ true → ⊥) → ⊥
    go false fin own a f more = more f
    go true false own a f more = more f
    go true true own a f more =
        not_last es last (none_after p s e (es ++ last ∷ []) last.thread run.0 run.1 (eqb-true e.thread last.thread own) (finishing e.event a).ends)

at_last : (P : Entry → Type 0) (es : List Entry) (e : Entry) → AllByRecursion P (es ++ e ∷ []) → P e
at_last P [] e h = h.0
at_last P (x ∷ es) e h = at_last P es e h.1

-- ---- the threads of a journal

-- an entry of the thread, or one of another, in front of the others
spent_by : (own ends finish spend more_ended more_finished more_spent : Bool)
    → (ends ≡ true → finish ≡ false → spend ≡ true) → (more_ended ≡ true → more_finished ≡ false → more_spent ≡ true)
    → ((own && ends) || more_ended) ≡ true → ((own && finish) || more_finished) ≡ false → ((own && spend) || more_spent) ≡ true
spent_by true true true spend more_ended more_finished more_spent here more e f = absurd cc
spent_by true true false true more_ended more_finished more_spent here more e f = refl
spent_by true true false false more_ended more_finished more_spent here more e f = let bad : false ≡ true = here refl refl in absurd cc
spent_by true false true spend more_ended more_finished more_spent here more e f = absurd cc
spent_by true false false true more_ended more_finished more_spent here more e f = refl
spent_by true false false false more_ended more_finished more_spent here more e f = more e f
spent_by false ends finish spend more_ended more_finished more_spent here more e f = more e f

ended_unfinished : (entries : List Entry) (i : ℕ) → has_ended entries i ≡ true → has_finished entries i ≡ false → has_spent entries i ≡ true
ended_unfinished [] i e f = absurd cc
ended_unfinished (x ∷ xs) i e f =
    spent_by (x.thread == i) (ends_thread x.event) (is_finish x.event) (is_spend x.event) (has_ended xs i) (has_finished xs i) (has_spent xs i)
    (ends_by x.event) (ended_unfinished xs i) e f

-- tests of the numbers of a range

all_of : (test : ℕ → Bool) (start count : ℕ) → list_all test (range_with_len start count) ≡ true → (i : ℕ) → i < count → test (start + i) ≡ true
all_of test start zero e i below = absurd (omega arith)
all_of test start (suc n) e zero below = let same : start ≡ start + 0 = omega arith in subst (λ k. test k ≡ true) same (and_parts (test start) (list_all test (range_with_len (start + 1) n)) e).0
all_of test start (suc n) e (suc i) below =
    let same : start + 1 + i ≡ start + suc i = omega arith in
    subst (λ k. test k ≡ true) same (all_of test (start + 1) n (and_parts (test start) (list_all test (range_with_len (start + 1) n)) e).1 i (omega arith))

abbrev Fails : (ℕ → Bool) → (start count : ℕ) → Type 0
Fails test start count = (i : ℕ) × (i < count) × (test (start + i) ≡ false)

one_of : (test : ℕ → Bool) (start count : ℕ) → list_all test (range_with_len start count) ≡ false → Fails test start count
one_of test start zero e = absurd cc
one_of test start (suc n) e = go (test start) refl (λ more. one_of test (start + 1) n more)
  where
    later : Fails test (start + 1) n → Fails test start (suc n)
    later x = let below : x.0 < n = x.1 in let same : start + 1 + x.0 ≡ start + suc x.0 = omega arith in (suc x.0, omega arith, subst (λ k. test k ≡ false) same x.2)

    go : (t : Bool) → test start ≡ t → (list_all test (range_with_len (start + 1) n) ≡ false → Fails test (start + 1) n) → Fails test start (suc n)
    go false f again = let same : start ≡ start + 0 = omega arith in (0, omega arith, subst (λ k. test k ≡ false) same f)
    go true f again = later (again (rw f at e))

-- ---- the ending of a run

module _ (p : Program) (entries : List Entry) (steps : ℕ) (run : IsJournalRun p entries) (complete : IsComplete p entries steps) where
  abbrev threads : ℕ
  threads = length p.threads

  abbrev AllFinish : Type 0
  AllFinish = (i : ℕ) → i < threads → has_finished entries i ≡ true

  abbrev IsStopped : Type 0
  IsStopped = (last_fails entries ≡ false) × (i : ℕ) × (i < threads) × (has_spent entries i ≡ true)

  ended : last_fails entries ≡ false → (i : ℕ) → i < threads → has_ended entries i ≡ true
  ended f i below = go complete.whole
    where
      go : (last_fails entries ≡ true) ⊎ ((j : ℕ) → j < threads → has_ended entries j ≡ true) → has_ended entries i ≡ true
      go (inl fails) = let bad : true ≡ false = sym fails ∙ f in absurd cc
      go (inr all) = all i below

  fails_all : last_fails entries ≡ true → AllFinish → ⊥
  fails_all fails all =
      let end = (failing_ends entries).1 fails in
      let there : end.last.thread < threads = at_last (λ (e : Entry). e.thread < threads) end.before end.last (subst (λ (es : List Entry). AllByRecursion (λ (e : Entry). e.thread < threads) es) end.split (entries_of_threads p entries run)) in
      failing_unfinished p (initial_state p) end.before end.last (subst (λ (es : List Entry). IsJournalRun p es) end.split run) end.fails
      (subst (λ (es : List Entry). has_finished es end.last.thread ≡ true) end.split (all end.last.thread there))

  all_finish : all_finished entries threads ≡ true → AllFinish
  all_finish finished i below = let same : 0 + i ≡ i = omega arith in subst (λ k. has_finished entries k ≡ true) same (all_of (has_finished entries) 0 threads finished i below)

  unfinished : all_finished entries threads ≡ false → (i : ℕ) × (i < threads) × (has_finished entries i ≡ false)
  unfinished none =
      let one = one_of (has_finished entries) 0 threads none in
      let same : 0 + one.0 ≡ one.0 = omega arith in
      (one.0, one.1, subst (λ k. has_finished entries k ≡ false) same one.2)

  stopped : last_fails entries ≡ false → all_finished entries threads ≡ false → IsStopped
  stopped going none = let one = unfinished none in (going, one.0, one.1, ended_unfinished entries one.0 (ended going one.0 one.1) one.2)

  not_both : IsStopped → AllFinish → ⊥
  not_both stop all = one_end p (initial_state p) entries stop.1 run (all stop.1 stop.2) stop.3

  not_all : all_finished entries threads ≡ false → AllFinish → ⊥
  not_all none all = let one = unfinished none in true≢false (sym (all one.0 one.1) ∙ one.2)

  tells : (fails finished : Bool) → last_fails entries ≡ fails → all_finished entries threads ≡ finished
      → TellsEnd entries threads (if fails then ending.Failed else (if finished then ending.Done else ending.Spent))
  tells true finished e f = record {
    done = (λ (q : ending.Failed ≡ ending.Done). absurd cc, λ all. absurd (fails_all e all));
    failed = (λ q. e, λ q. refl);
    spent = (λ (q : ending.Failed ≡ ending.Spent). absurd cc, λ stop. absurd (true≢false (sym e ∙ stop.0)));
  }
  tells false true e f = record {
    done = (λ q. all_finish f, λ all. refl);
    failed = (λ (q : ending.Done ≡ ending.Failed). absurd cc, λ fails. absurd (true≢false (sym fails ∙ e)));
    spent = (λ (q : ending.Done ≡ ending.Spent). absurd cc, λ stop. absurd (not_both stop (all_finish f)));
  }
  tells false false e f = record {
    done = (λ (q : ending.Spent ≡ ending.Done). absurd cc, λ all. absurd (not_all f all));
    failed = (λ (q : ending.Spent ≡ ending.Failed). absurd cc, λ fails. absurd (true≢false (sym fails ∙ e)));
    spent = (λ q. stopped e f, λ stop. refl);
  }

pub endings_tell : EndingsTellTheEnd
endings_tell steps r is =
    tells r.target r.journal steps is.run is.complete (last_fails r.journal) (all_finished r.journal (length r.target.threads)) refl refl
