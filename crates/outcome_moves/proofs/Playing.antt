-- An entry of a run, made again.
use Rattle.std.proofs.Common.{◌≡◌, ⊎_elim, ℕ, zero, suc, ◌+◌, ◌<◌, ◌≤◌, Bool, true, false, ltb, List, [], ◌∷◌, ◌++◌, length, get_or, take, drop, refl, sym, ap, ◌∙◌, subst, arith}
use Rattle.std.proofs.lemmas.Bool.{cases_Bool, true≢false, ltb-true, ltb-false}
use Rattle.std.proofs.lemmas.List.{get_or-set_same, take_more}
use Rattle.values_undef.specs.Access.{choice_of_event, is_spend}
use Rattle.values_undef.specs.declared.access.Access.{Access}
use Rattle.values_undef.specs.declared.access.Access.TheVariants as access
use Rattle.values_undef.specs.declared.access.Event.{Event}
use Rattle.values_undef.specs.declared.access.Choice.{Choice}
use Rattle.values_undef.specs.declared.access.Choice.TheVariants.{Plain}
use Rattle.values_undef.specs.declared.journal.Entry.{Entry}
use Rattle.il_syntax.specs.declared.program.Program.{Program}
use Rattle.views.specs.ThreadView.{ThreadView}
use Rattle.message_memory.specs.Memory.{Memory}
use Rattle.message_memory.specs.Step.{IsLegal}
use Rattle.thread_core.specs.declared.next.Next.{Next}
use Rattle.thread_core.specs.declared.next.Next.TheVariants as next
use Rattle.thread_core.specs.Frames.{Stack, next_of}
use Rattle.thread_core.specs.Alone.{local_after_silent}
use Rattle.view_machine.specs.declared.stepped.Stepped.TheVariants as stepped
use Rattle.view_machine.specs.State.{State, StepTaken, local_in, view_in, next_in, idle, after_step, initial_state}
use Rattle.view_machine.specs.Runs.{after_silent, AreSilent, after_event_by, IsEntry, after_entry, IsJournalRun, IsRunTo}
use Rattle.view_machine.proofs.Callers.{silent_steps_local, runs_cut, run_goes_on}
use Rattle.outcome_nodes.proofs.Callers.{Spends, Makes, EntryDone, entry_done}

abbrev access_of : Next → Access
access_of next.Silent = access.Finish
access_of (next.Access a) = a

pub same_access : (a b : Access) → (let x : Next = next.Access a in x) ≡ next.Access b → a ≡ b
same_access a b e = ap access_of e

silent_at : (p : Program) (i k n : ℕ) (s : State) → AreSilent p i n s → k < n → next_in (after_silent p i k s) i ≡ next.Silent
silent_at p i k zero s h l = absurd (omega (arith, l))
silent_at p i zero (suc n) s h l = h.1
silent_at p i (suc k) (suc n) s h l = silent_at p i k n (after_step p s i Plain).state h.2 (omega (arith, l))

-- a thread that makes at most the silent steps of the entry, and stops before them at an access alone, stops at that of the entry
pub record Played (p : Program) (s : State) (e : Entry) (k : ℕ) (n : Next) : Type 0 where
  pub same : k ≡ e.silent
  pub access : Access
  pub asks : n ≡ next.Access access
  pub legal : IsLegal s.memory (view_in s e.thread) access (choice_of_event e.event)

pub played : (p : Program) (s : State) (e : Entry) (k : ℕ) (n : Next) → IsEntry p s e → is_spend e.event ≡ false → k ≤ e.silent → n ≡ next_in (after_silent p e.thread k s) e.thread → (n ≡ next.Silent → k ≡ e.silent) → Played p s e k n
played p s e k n h q le asks stop =
    ⊎_elim (λ (m : Spends p s e). absurd (true≢false (ap is_spend (sym m.event) ∙ q))) makes d.cases
  where
    d : EntryDone p s e
    d = entry_done p s e h

    same : k ≡ e.silent
    same =
        ⊎_elim
        (λ (b : ltb k e.silent ≡ true). stop (asks ∙ silent_at p e.thread k e.silent s h.silent (ltb-true k e.silent b)))
        (λ (b : ltb k e.silent ≡ false). let r = ltb-false k e.silent b in omega (arith, r, le))
        (cases_Bool (ltb k e.silent))

    local : next_in (after_silent p e.thread e.silent s) e.thread ≡ next_of (local_after_silent p e.silent (local_in s e.thread))
    local =
        ap (λ (t : State). next_in t e.thread) (silent_steps_local p e.thread e.silent s d.running d.silent).1
        ∙ ap (λ (x : Stack). next_of x) (get_or-set_same s.locals e.thread (local_after_silent p e.silent (local_in s e.thread)) idle d.running.there)

    makes : Makes p s e → Played p s e k n
    makes m = record {
      same = same;
      access = m.access;
      asks = asks ∙ ap (λ (x : ℕ). next_in (after_silent p e.thread x s) e.thread) same ∙ local ∙ m.asks;
      legal = m.legal;
    }

-- the entry at an index of a run
split_at : (entries : List Entry) (k : ℕ) (d : Entry) → k < length entries → entries ≡ take k entries ++ get_or entries k d ∷ drop (suc k) entries
split_at [] k d l = absurd (omega (arith, l))
split_at (x ∷ entries) zero d l = refl
split_at (x ∷ entries) (suc k) d l = ap (λ (r : List Entry). x ∷ r) (split_at entries k d (omega (arith, l)))

pub entry_at : (p : Program) (entries : List Entry) (k : ℕ) (d : Entry) (s : State) → IsJournalRun p entries → k < length entries → IsRunTo p (take k entries) s → IsEntry p s (get_or entries k d)
entry_at p entries k d s run l to =
    let r = runs_cut p (initial_state p) (take k entries) (get_or entries k d ∷ drop (suc k) entries) (subst (IsJournalRun p) (split_at entries k d l) run) in
    subst (λ (t : State). IsEntry p t (get_or entries k d)) to.state r.1.0

pub more_at : (p : Program) (entries : List Entry) (k : ℕ) (d : Entry) (s t : State) → IsJournalRun p entries → k < length entries → IsRunTo p (take k entries) s → t ≡ after_entry p s (get_or entries k d) → IsRunTo p (take (k + 1) entries) t
more_at p entries k d s t run l to e =
    subst (λ (x : List Entry). IsRunTo p x t) (sym (take_more entries k d l))
    (subst (IsRunTo p (take k entries ++ get_or entries k d ∷ [])) (sym e) (run_goes_on p (take k entries) s (get_or entries k d) to (entry_at p entries k d s run l to)))

pub play_legal : (p : Program) (s : State) (e : Entry) (k : ℕ) (n : Next) (m : Memory) (v : ThreadView) (a : Access) (c : Choice) → Played p s e k n → m ≡ s.memory → v ≡ view_in s e.thread → n ≡ next.Access a → c ≡ choice_of_event e.event → IsLegal m v a c
play_legal p s e k n m v a c q em ev ea ec =
    subst (λ (x : Memory). IsLegal x v a c) (sym em)
    (subst (λ (x : ThreadView). IsLegal s.memory x a c) (sym ev)
    (subst (λ (x : Access). IsLegal s.memory (view_in s e.thread) x c) (same_access q.access a (sym q.asks ∙ ea))
    (subst (IsLegal s.memory (view_in s e.thread) q.access) (sym ec) q.legal)))

pub play_state : (p : Program) (s t u : State) (e : Entry) (k : ℕ) (n : Next) (c : Choice) (x : Event) → Played p s e k n → is_spend e.event ≡ false → t ≡ after_silent p e.thread k s → c ≡ choice_of_event e.event
    → after_step p t e.thread c ≡ record { state = u; done = stepped.Did x } → u ≡ after_entry p s e
play_state p s t u e k n c x q h et ec made =
    sym (ap (λ (y : StepTaken). y.state) made) ∙ ap (λ (y : State). (after_step p y e.thread c).state) (et ∙ ap (λ (y : ℕ). after_silent p e.thread y s) q.same)
    ∙ ap (λ (y : Choice). (after_step p (after_silent p e.thread e.silent s) e.thread y).state) ec
    ∙ sym (ap (λ (b : Bool). after_event_by p (after_silent p e.thread e.silent s) e.thread e.event b) h)
