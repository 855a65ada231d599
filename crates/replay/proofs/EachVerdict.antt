-- No journal lacks a verdict. Whether the machine has a step with a choice, and whether two events are the same, is not
-- decided here: that neither can be is a contradiction.
use Rattle.std.proofs.Common.{◌≡◌, ℕ, zero, suc, ◌<◌, ◌≤◌, ◌⊎◌, inl, inr, Bool, true, false, List, [], ◌∷◌, length, take, slice_get, IsSomeAnd, refl, sym, ap, subst, ◌∙◌, arith}
use Rattle.std.proofs.lemmas.Bool.{cases_lt}
use Rattle.std.proofs.lemmas.List.{length-set}
use Rattle.values_undef.specs.Access.{choice_of_event}
use Rattle.values_undef.specs.Journal.{ending_in}
use Rattle.values_undef.specs.declared.access.Choice.TheVariants.{Plain}
use Rattle.values_undef.specs.declared.access.Access.{Access}
use Rattle.values_undef.specs.declared.access.Access.TheVariants as access
use Rattle.values_undef.specs.declared.access.Event.{Event}
use Rattle.values_undef.specs.declared.journal.Entry.{Entry}
use Rattle.il_syntax.specs.declared.program.Program.{Program}
use Rattle.message_memory.specs.Step.{step_result}
use Rattle.thread_core.specs.declared.next.Next.{Next}
use Rattle.thread_core.specs.declared.next.Next.TheVariants as next
use Rattle.view_machine.specs.declared.stepped.Stepped.TheVariants as stepped
use Rattle.thread_core.specs.Frames.{advanced}
use Rattle.view_machine.specs.State.{State, local_in, has_ended, next_in, view_in, Allows, IsRunning, IsStep, step_by, after_step, initial_state}
use Rattle.view_machine.specs.Runs.{is_spend, after_silent, AreSilent, MakesEventBy, MakesEvent, IsEntry, after_entry, IsRunFrom, state_after}
use Rattle.replay.specs.declared.verdict.Why.{Why}
use Rattle.replay.specs.declared.verdict.Why.TheVariants as why
use Rattle.replay.specs.declared.verdict.Verdict.{Verdict}
use Rattle.replay.specs.declared.verdict.Verdict.TheVariants.{Run, NotAStep}
use Rattle.replay.specs.Reasons.{IsAtAccess, before_event, IsFirstReason}
use Rattle.replay.specs.Verdicts.{IsVerdict}
use Rattle.replay.specs.Laws.{NoJournalLacksAVerdict}
use Rattle.replay.proofs.FirstReasons.{stands, first_thread, first_after, first_fewer, stays_silent, spends_at_the_end, has_no_choice, has_other_event, makes_event, entry_made}

-- a thing is or isn't: nothing contradicts both
em : (A : Type 0) → ((A ⊎ (A → ⊥)) → ⊥) → ⊥
em A k = k (inr (λ a. k (inl a)))

-- ---- silent steps

abbrev StopsEarly : Program → ℕ → ℕ → State → Type 0
StopsEarly p i n s = (did : ℕ) × (did < n) × AreSilent p i did s × IsAtAccess (next_in (after_silent p i did s) i)

still_running : (p : Program) (s : State) (i : ℕ) (n : Next) → n ≡ next.Silent → IsRunning s i → IsRunning (step_by p s i Plain n).state i
still_running p s i next.Silent e r = record { there = let there = r.there in omega (arith, there, length-set s.locals i (advanced p (local_in s i))); going = r.going; running = r.running }
still_running p s i (next.Access a) e r = cc

silent_or_access : (p : Program) (i n : ℕ) (s : State) → IsRunning s i → (AreSilent p i n s × IsRunning (after_silent p i n s) i) ⊎ StopsEarly p i n s
silent_or_access p i zero s r = inl (tt, r)
silent_or_access p i (suc n) s r = go (next_in s i) refl (λ q. silent_or_access p i n (after_step p s i Plain).state (still_running p s i (next_in s i) q r))
  where
    step : next_in s i ≡ next.Silent → IsStep s i Plain
    step q = record { able = r; allowed = subst (Allows s.memory (view_in s i) Plain) (sym q) refl }

    more : next_in s i ≡ next.Silent → (AreSilent p i n (after_step p s i Plain).state × IsRunning (after_silent p i n (after_step p s i Plain).state) i) ⊎ StopsEarly p i n (after_step p s i Plain).state
        → (AreSilent p i (suc n) s × IsRunning (after_silent p i (suc n) s) i) ⊎ StopsEarly p i (suc n) s
    more q (inl h) = inl ((step q, q, h.0), h.1)
    more q (inr x) = let below = x.1 in inr (suc x.0, omega (arith, below), (step q, q, x.2), x.3)

    go : (m : Next) → next_in s i ≡ m
        → (next_in s i ≡ next.Silent → (AreSilent p i n (after_step p s i Plain).state × IsRunning (after_silent p i n (after_step p s i Plain).state) i) ⊎ StopsEarly p i n (after_step p s i Plain).state)
        → (AreSilent p i (suc n) s × IsRunning (after_silent p i (suc n) s) i) ⊎ StopsEarly p i (suc n) s
    go next.Silent q rest = more q (rest q)
    go (next.Access a) q rest = inr (zero, omega arith, tt, subst IsAtAccess (sym q) tt)

-- ---- one entry

abbrev Told : Program → State → Entry → Type 0
Told p s e = IsEntry p s e ⊎ ((w : Why) × IsFirstReason p s e w)

module _ (p : Program) (s : State) (e : Entry) (k : Told p s e → ⊥) where
  abbrev t : State
  t = before_event p s e

  -- after its silent steps
  module _ (r : IsRunning s e.thread) (silent : AreSilent p e.thread e.silent s) (running : IsRunning t e.thread) where
    made : MakesEvent p t e.thread e.event → ⊥
    made h = k (inl (entry_made p s t e silent refl h))

    spends : is_spend e.event ≡ true → (next_in t e.thread ≡ next.Access access.Finish) ⊎ (next_in t e.thread ≡ next.Access access.Finish → ⊥) → ⊥
    spends spend (inl finish) = k (inr (why.Silent e.silent, spends_at_the_end p t e finish spend s silent refl r))
    spends spend (inr other) = made (subst (MakesEventBy p t e.thread e.event) (sym spend) (record { able = running; unfinished = other }))

    steps : (a : Access) → next_in t e.thread ≡ next.Access a → is_spend e.event ≡ false → IsStep t e.thread (choice_of_event e.event) ⊎ (IsStep t e.thread (choice_of_event e.event) → ⊥) → ⊥
    steps a n unspent (inr none) = k (inr (why.Choice, has_no_choice p t e (subst IsAtAccess (sym n) tt) unspent none s silent refl r))
    steps a n unspent (inl step) = em (is ≡ e.event) go
      where
        is : Event
        is = (step_result t.memory (view_in t e.thread) e.thread a (choice_of_event e.event)).event

        done : (after_step p t e.thread (choice_of_event e.event)).done ≡ stepped.Did is
        done = ap (λ (m : Next). (step_by p t e.thread (choice_of_event e.event) m).done) n

        go : (is ≡ e.event) ⊎ (is ≡ e.event → ⊥) → ⊥
        go (inl same) = made (makes_event p t e.thread e.event unspent step (done ∙ ap stepped.Did same))
        go (inr other) = k (inr (why.Event is, has_other_event p t e is unspent step done other s silent refl r))

    plain : is_spend e.event ≡ false → (m : Next) → next_in t e.thread ≡ m → ⊥
    plain unspent next.Silent n = k (inr (why.Silent e.silent, stays_silent p t e n unspent s silent refl r))
    plain unspent (next.Access a) n = em (IsStep t e.thread (choice_of_event e.event)) (steps a n unspent)

    by_event : (b : Bool) → is_spend e.event ≡ b → ⊥
    by_event true spend = em (next_in t e.thread ≡ next.Access access.Finish) (spends spend)
    by_event false unspent = plain unspent (next_in t e.thread) refl

  from_running : IsRunning s e.thread → (AreSilent p e.thread e.silent s × IsRunning t e.thread) ⊎ StopsEarly p e.thread e.silent s → ⊥
  from_running r (inl h) = by_event r h.0 h.1 (is_spend e.event) refl
  from_running r (inr x) = k (inr (why.Silent x.0, first_fewer p s e x.0 r x.1 x.2 x.3))

  if_failed : e.thread < length s.locals → has_ended s e.thread ≡ false → (b : Bool) → s.memory.failed ≡ b → ⊥
  if_failed there going true f = k (inr (why.After, first_after p s e (stands s e.thread there going) f))
  if_failed there going false f =
      let r : IsRunning s e.thread = record { there = there; going = going; running = f } in
      from_running r (silent_or_access p e.thread e.silent s r)

  if_ended : e.thread < length s.locals → (b : Bool) → has_ended s e.thread ≡ b → ⊥
  if_ended there true g = k (inr (why.Thread, first_thread p s e (inr g)))
  if_ended there false g = if_failed there g s.memory.failed refl

  entry_told : (e.thread < length s.locals) ⊎ (length s.locals ≤ e.thread) → ⊥
  entry_told (inl there) = if_ended there (has_ended s e.thread) refl
  entry_told (inr out) = k (inr (why.Thread, first_thread p s e (inl out)))

-- ---- a journal

-- the entries are a run from this state, or some entry is the first that isn't
abbrev Judged : Program → State → List Entry → Type 0
Judged p s entries = IsRunFrom p s entries
    ⊎ ((k : ℕ) × (w : Why) × IsRunFrom p s (take k entries) × IsSomeAnd (slice_get entries k) (λ e. IsFirstReason p (state_after p s (take k entries)) e w))

judged_from : (p : Program) (s : State) (entries : List Entry) → (Judged p s entries → ⊥) → ⊥
judged_from p s [] lacks = lacks (inl tt)
judged_from p s (e ∷ es) lacks = entry_told p s e (told (judged_from p (after_entry p s e) es)) (cases_lt e.thread (length s.locals))
  where
    later : IsEntry p s e → Judged p (after_entry p s e) es → Judged p s (e ∷ es)
    later made (inl run) = inl (made, run)
    later made (inr x) = inr (suc x.0, x.1, (made, x.2), x.3)

    told : ((Judged p (after_entry p s e) es → ⊥) → ⊥) → Told p s e → ⊥
    told more (inl made) = more (λ h. lacks (later made h))
    told more (inr x) = lacks (inr (zero, x.0, tt, x.1))

pub no_journal_lacks_a_verdict : NoJournalLacksAVerdict
no_journal_lacks_a_verdict p journal none = judged_from p (initial_state p) journal go
  where
    go : Judged p (initial_state p) journal → ⊥
    go (inl run) = none (Run (ending_in journal (length p.threads))) (run, refl)
    go (inr x) = none (NotAStep x.0 x.1) (record { before = x.2; reason = x.3 })
