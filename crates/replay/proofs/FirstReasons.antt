-- Which reasons hold of an entry.
use Rattle.std.proofs.Common.{◌≡◌, ◌≢◌, ℕ, zero, suc, ◌<◌, ◌≤◌, ◌⊎◌, inl, inr, Bool, true, false, length, Some, None, refl, sym, ap, subst, ◌∙◌, arith}
use Rattle.std.proofs.lemmas.Bool.{false≢true, true≢false}
use Rattle.values_undef.specs.Access.{choice_of_event}
use Rattle.values_undef.specs.declared.access.Event.{Event}
use Rattle.values_undef.specs.declared.access.Access.{Access}
use Rattle.values_undef.specs.declared.access.Access.TheVariants as access
use Rattle.values_undef.specs.declared.access.Choice.{Choice}
use Rattle.values_undef.specs.declared.access.Choice.TheVariants.{Plain}
use Rattle.values_undef.specs.declared.journal.Entry.{Entry}
use Rattle.il_syntax.specs.declared.program.Program.{Program}
use Rattle.thread_core.specs.declared.next.Next.{Next}
use Rattle.thread_core.specs.declared.next.Next.TheVariants as next
use Rattle.thread_core.specs.Programs.{IsProperNext}
use Rattle.thread_core.specs.Alone.{within}
use Rattle.thread_core.proofs.Callers.{within_none, within_finish}
use Rattle.view_machine.specs.declared.stepped.Stepped.TheVariants as stepped
use Rattle.view_machine.specs.State.{State, has_ended, next_in, view_in, IsRunning, IsStep, step_by, after_step, IsSpendable}
use Rattle.std.specs.Prelude.{IsTrue, ◌↔◌}
use Rattle.view_machine.specs.State.{StepTaken}
use Rattle.view_machine.specs.declared.stepped.Stepped.{Stepped}
use Rattle.view_machine.specs.Runs.{after_event, after_entry}
use Rattle.message_memory.specs.Step.{IsLegal}
use Rattle.view_machine.proofs.Callers.{step_legal}
use Rattle.view_machine.specs.Runs.{is_spend, after_silent, AreSilent, MakesEventBy, MakesEvent, IsEntry}
use Rattle.replay.specs.declared.verdict.Why.{Why}
use Rattle.replay.specs.declared.verdict.Why.TheVariants as why
use Rattle.replay.specs.Reasons.{IsGone, IsAtAccess, HasOtherSilent, before_event, IsReason, rank, IsFirstReason, IsReasonOfEvent}

-- ---- a thread that runs

pub running_stays : (s : State) (i : ℕ) → IsRunning s i → IsGone s i → ⊥
running_stays s i r (inl h) = absurd (omega (arith, r.there))
running_stays s i r (inr h) = true≢false (sym h ∙ r.going)

pub running_unfailed : (s : State) (i : ℕ) → IsRunning s i → s.memory.failed ≡ true → ⊥
running_unfailed s i r h = true≢false (sym h ∙ r.running)

-- a thread that is there and has not ended is not gone
pub stands : (s : State) (i : ℕ) → i < length s.locals → has_ended s i ≡ false → IsGone s i → ⊥
stands s i there going (inl h) = absurd (omega (arith, there, h))
stands s i there going (inr h) = true≢false (sym h ∙ going)

-- ---- silent steps

at_access_not_silent : (n : Next) → n ≡ next.Silent → IsAtAccess n → ⊥
at_access_not_silent n e h = subst IsAtAccess e h

-- within silent steps the code is at no access
silent_within : (p : Program) (i n did : ℕ) (s : State) → AreSilent p i n s → did < n → IsAtAccess (next_in (after_silent p i did s) i) → ⊥
silent_within p i zero did s h less a = absurd (omega arith)
silent_within p i (suc n) zero s h less a = at_access_not_silent (next_in s i) h.1 a
silent_within p i (suc n) (suc did) s h less a = silent_within p i n did (after_step p s i Plain).state h.2 (omega arith) a

-- before an access that is no end of a budget, the silent steps are those of the entry
no_other_silent : (p : Program) (s : State) (entry : Entry) (did : ℕ) → AreSilent p entry.thread entry.silent s → IsAtAccess (next_in (before_event p s entry) entry.thread) → is_spend entry.event ≡ false → HasOtherSilent p s entry did → ⊥
no_other_silent p s entry did h a e (inl r) = silent_within p entry.thread entry.silent did s h r.fewer r.access
no_other_silent p s entry did h a e (inr (inl r)) =
    at_access_not_silent (next_in (before_event p s entry) entry.thread) (ap (λ (n : ℕ). next_in (after_silent p entry.thread n s) entry.thread) (sym r.all) ∙ r.silent) a
no_other_silent p s entry did h a e (inr (inr r)) = true≢false (sym r.event ∙ e)

-- ---- first reasons

pub first_thread : (p : Program) (s : State) (entry : Entry) → IsGone s entry.thread → IsFirstReason p s entry why.Thread
first_thread p s entry h = record { holds = h; first = λ other less _. absurd (omega arith) }

only_thread : (p : Program) (s : State) (entry : Entry) (other : Why) → rank other < 1 → (IsGone s entry.thread → ⊥) → IsReason p s entry other → ⊥
only_thread p s entry why.Thread less here h = here h
only_thread p s entry why.After less here h = absurd (omega arith)
only_thread p s entry (why.Silent did) less here h = absurd (omega arith)
only_thread p s entry why.Choice less here h = absurd (omega arith)
only_thread p s entry (why.Event is) less here h = absurd (omega arith)

pub first_after : (p : Program) (s : State) (entry : Entry) → (IsGone s entry.thread → ⊥) → s.memory.failed ≡ true → IsFirstReason p s entry why.After
first_after p s entry here h = record { holds = h; first = λ other less q. only_thread p s entry other less here q }

before_silent : (p : Program) (s : State) (entry : Entry) (other : Why) → rank other < 2 → IsRunning s entry.thread → IsReason p s entry other → ⊥
before_silent p s entry why.Thread less r h = running_stays s entry.thread r h
before_silent p s entry why.After less r h = running_unfailed s entry.thread r h
before_silent p s entry (why.Silent did) less r h = absurd (omega arith)
before_silent p s entry why.Choice less r h = absurd (omega arith)
before_silent p s entry (why.Event is) less r h = absurd (omega arith)

pub first_silent : (p : Program) (s : State) (entry : Entry) (did : ℕ) → IsRunning s entry.thread → HasOtherSilent p s entry did → IsFirstReason p s entry (why.Silent did)
first_silent p s entry did r h = record { holds = h; first = λ other less q. before_silent p s entry other less r q }

-- the code reached an access after fewer steps
pub first_fewer : (p : Program) (s : State) (entry : Entry) (did : ℕ) → IsRunning s entry.thread → did < entry.silent → AreSilent p entry.thread did s → IsAtAccess (next_in (after_silent p entry.thread did s) entry.thread) → IsFirstReason p s entry (why.Silent did)
first_fewer p s entry did r less h a = first_silent p s entry did r (inl (record { fewer = less; steps = h; access = a }))

before_choice : (p : Program) (s : State) (entry : Entry) (other : Why) → rank other < 3 → IsRunning s entry.thread → AreSilent p entry.thread entry.silent s
    → IsAtAccess (next_in (before_event p s entry) entry.thread) → is_spend entry.event ≡ false → IsReason p s entry other → ⊥
before_choice p s entry why.Thread less r h a e q = running_stays s entry.thread r q
before_choice p s entry why.After less r h a e q = running_unfailed s entry.thread r q
before_choice p s entry (why.Silent did) less r h a e q = no_other_silent p s entry did h a e q
before_choice p s entry why.Choice less r h a e q = absurd (omega arith)
before_choice p s entry (why.Event is) less r h a e q = absurd (omega arith)

before_other_event : (p : Program) (s : State) (entry : Entry) (other : Why) → rank other < 4 → IsRunning s entry.thread → AreSilent p entry.thread entry.silent s
    → IsAtAccess (next_in (before_event p s entry) entry.thread) → is_spend entry.event ≡ false → IsStep (before_event p s entry) entry.thread (choice_of_event entry.event) → IsReason p s entry other → ⊥
before_other_event p s entry why.Thread less r h a e step q = running_stays s entry.thread r q
before_other_event p s entry why.After less r h a e step q = running_unfailed s entry.thread r q
before_other_event p s entry (why.Silent did) less r h a e step q = no_other_silent p s entry did h a e q
before_other_event p s entry why.Choice less r h a e step q = q.none step
before_other_event p s entry (why.Event is) less r h a e step q = absurd (omega arith)

-- ---- after the silent steps

pub stays_silent : (p : Program) (t : State) (entry : Entry) → next_in t entry.thread ≡ next.Silent → is_spend entry.event ≡ false → IsReasonOfEvent p t entry (why.Silent entry.silent)
stays_silent p t entry n e s h q r =
    first_silent p s entry entry.silent r (inr (inl (record { all = refl; steps = h; silent = ap (λ (u : State). next_in u entry.thread) (sym q) ∙ n; event = e })))

pub spends_at_the_end : (p : Program) (t : State) (entry : Entry) → next_in t entry.thread ≡ next.Access access.Finish → is_spend entry.event ≡ true → IsReasonOfEvent p t entry (why.Silent entry.silent)
spends_at_the_end p t entry n e s h q r =
    first_silent p s entry entry.silent r (inr (inr (record { all = refl; steps = h; finish = ap (λ (u : State). next_in u entry.thread) (sym q) ∙ n; event = e })))

pub has_no_choice : (p : Program) (t : State) (entry : Entry) → IsAtAccess (next_in t entry.thread) → is_spend entry.event ≡ false → (IsStep t entry.thread (choice_of_event entry.event) → ⊥) → IsReasonOfEvent p t entry why.Choice
has_no_choice p t entry a e none s h q r =
    let a' : IsAtAccess (next_in (before_event p s entry) entry.thread) = subst (λ (u : State). IsAtAccess (next_in u entry.thread)) q a in
    record {
      holds = record { event = e; none = λ step. none (subst (λ (u : State). IsStep u entry.thread (choice_of_event entry.event)) (sym q) step) };
      first = λ other less f. before_choice p s entry other less r h a' e f;
    }

-- a step that has an event is at an access
did_access : (p : Program) (s : State) (i : ℕ) (c : Choice) (n : Next) (e : Event) → (step_by p s i c n).done ≡ stepped.Did e → IsAtAccess n
did_access p s i c next.Silent e q = cc
did_access p s i c (next.Access a) e q = tt

pub has_other_event : (p : Program) (t : State) (entry : Entry) (is : Event) → is_spend entry.event ≡ false → IsStep t entry.thread (choice_of_event entry.event)
    → (after_step p t entry.thread (choice_of_event entry.event)).done ≡ stepped.Did is → is ≢ entry.event → IsReasonOfEvent p t entry (why.Event is)
has_other_event p t entry is e step done other s h q r =
    let step' : IsStep (before_event p s entry) entry.thread (choice_of_event entry.event) = subst (λ (u : State). IsStep u entry.thread (choice_of_event entry.event)) q step in
    let done' : (after_step p (before_event p s entry) entry.thread (choice_of_event entry.event)).done ≡ stepped.Did is =
    subst (λ (u : State). (after_step p u entry.thread (choice_of_event entry.event)).done ≡ stepped.Did is) q done in
    let a = did_access p (before_event p s entry) entry.thread (choice_of_event entry.event) (next_in (before_event p s entry) entry.thread) is done' in
    record {
      holds = record { event = e; step = step'; done = done'; other = other };
      first = λ w less f. before_other_event p s entry w less r h a e step' f;
    }

-- ---- an entry that the machine makes

running_before : (p : Program) (s : State) (i n : ℕ) (e : Event) (b : Bool) → AreSilent p i n s → MakesEventBy p (after_silent p i n s) i e b → IsRunning s i
running_before p s i (suc n) e b h q = h.0.able
running_before p s i zero e true h q = q.able
running_before p s i zero e false h q = q.step.able

silent_makes_none : (p : Program) (s : State) (i : ℕ) (e : Event) → next_in s i ≡ next.Silent → (b : Bool) → b ≡ false → MakesEventBy p s i e b → ⊥
silent_makes_none p s i e n true h q = true≢false h
silent_makes_none p s i e n false h q = at_access_not_silent (next_in s i) n (did_access p s i (choice_of_event e) (next_in s i) e q.event)

finish_spends_none : (p : Program) (s : State) (i : ℕ) (e : Event) → next_in s i ≡ next.Access access.Finish → (b : Bool) → b ≡ true → MakesEventBy p s i e b → ⊥
finish_spends_none p s i e n true h q = q.unfinished n
finish_spends_none p s i e n false h q = false≢true h

makes_step : (p : Program) (s : State) (i : ℕ) (e : Event) (b : Bool) → b ≡ false → MakesEventBy p s i e b → IsStep s i (choice_of_event e) × ((after_step p s i (choice_of_event e)).done ≡ stepped.Did e)
makes_step p s i e true h q = absurd (true≢false h)
makes_step p s i e false h q = (q.step, q.event)

pub entry_has_no_reason : (p : Program) (s : State) (entry : Entry) (w : Why) → IsEntry p s entry → IsReason p s entry w → ⊥
entry_has_no_reason p s entry why.Thread h q = running_stays s entry.thread (running_before p s entry.thread entry.silent entry.event (is_spend entry.event) h.silent h.event) q
entry_has_no_reason p s entry why.After h q = running_unfailed s entry.thread (running_before p s entry.thread entry.silent entry.event (is_spend entry.event) h.silent h.event) q
entry_has_no_reason p s entry (why.Silent did) h (inl r) = silent_within p entry.thread entry.silent did s h.silent r.fewer r.access
entry_has_no_reason p s entry (why.Silent did) h (inr (inl r)) =
    silent_makes_none p (before_event p s entry) entry.thread entry.event (ap (λ (n : ℕ). next_in (after_silent p entry.thread n s) entry.thread) (sym r.all) ∙ r.silent) (is_spend entry.event) r.event h.event
entry_has_no_reason p s entry (why.Silent did) h (inr (inr r)) =
    finish_spends_none p (before_event p s entry) entry.thread entry.event (ap (λ (n : ℕ). next_in (after_silent p entry.thread n s) entry.thread) (sym r.all) ∙ r.finish) (is_spend entry.event) r.event h.event
entry_has_no_reason p s entry why.Choice h q = q.none (makes_step p (before_event p s entry) entry.thread entry.event (is_spend entry.event) q.event h.event).0
entry_has_no_reason p s entry (why.Event is) h q =
    let m = makes_step p (before_event p s entry) entry.thread entry.event (is_spend entry.event) q.event h.event in
    let same : stepped.Did is ≡ stepped.Did entry.event = sym q.done ∙ m.1 in
    q.other (cc)

-- ---- one reason

less_or_not : (a b : ℕ) → (a < b) ⊎ (b ≤ a)
less_or_not zero zero = inr (omega arith)
less_or_not zero (suc b) = inl (omega arith)
less_or_not (suc a) zero = inr (omega arith)
less_or_not (suc a) (suc b) =
    elim (less_or_not a b) as (λ _. (suc a < suc b) ⊎ (suc b ≤ suc a)) [ inl h ↦ inl (omega arith) | inr h ↦ inr (omega arith) ]

-- the code made so many silent steps, and no more than the entry's
other_silent_steps : (p : Program) (s : State) (entry : Entry) (did : ℕ) → HasOtherSilent p s entry did → AreSilent p entry.thread did s × ((IsAtAccess (next_in (after_silent p entry.thread did s) entry.thread) × (did < entry.silent)) ⊎ (did ≡ entry.silent))
other_silent_steps p s entry did (inl r) = (r.steps, inl (r.access, r.fewer))
other_silent_steps p s entry did (inr (inl r)) = (r.steps, inr r.all)
other_silent_steps p s entry did (inr (inr r)) = (r.steps, inr r.all)

no_more : (p : Program) (s : State) (entry : Entry) (did : ℕ) → HasOtherSilent p s entry did → entry.silent < did → ⊥
no_more p s entry did (inl r) l = absurd (omega (arith, r.fewer))
no_more p s entry did (inr (inl r)) l = absurd (omega (arith, r.all))
no_more p s entry did (inr (inr r)) l = absurd (omega (arith, r.all))

not_fewer : (p : Program) (s : State) (entry : Entry) (a b : ℕ) → HasOtherSilent p s entry a → HasOtherSilent p s entry b → a < b → ⊥
not_fewer p s entry a b h q l =
    elim (other_silent_steps p s entry a h).1 as (λ _. ⊥) [
      | inl r ↦ silent_within p entry.thread b a s (other_silent_steps p s entry b q).0 l r.0
      | inr e ↦ absurd (no_more p s entry b q (omega arith))
    ]

pub one_other_silent : (p : Program) (s : State) (entry : Entry) (a b : ℕ) → HasOtherSilent p s entry a → HasOtherSilent p s entry b → a ≡ b
one_other_silent p s entry a b h q =
    elim (less_or_not a b) as (λ _. a ≡ b) [
      | inl l ↦ absurd (not_fewer p s entry a b h q l)
      | inr l ↦ elim (less_or_not b a) as (λ _. a ≡ b) [ inl g ↦ absurd (not_fewer p s entry b a q h g) | inr g ↦ omega arith ]
    ]

-- ---- steps of the code

-- the code is silent or at an access
pub at_access : (n : Next) → (n ≡ next.Silent → ⊥) → IsAtAccess n
at_access next.Silent h = absurd (h refl)
at_access (next.Access a) h = tt

-- a thread that has used up its budget, and still has an access to make, is at its end
pub spend_refused : (p : Program) (s : State) (entry : Entry) (n : Next) (a : Access) → n ≡ next_in s entry.thread → IsProperNext p n → is_spend entry.event ≡ true → within true n ≡ Some a → IsReasonOfEvent p s entry (why.Silent entry.silent)
spend_refused p s entry n a comes proper e asks = spends_at_the_end p s entry (sym comes ∙ within_finish p n a proper asks) e

-- one that has no access to make may end
pub spend_made : (p : Program) (s : State) (entry : Entry) (n : Next) → n ≡ next_in s entry.thread → IsRunning s entry.thread → within true n ≡ None → IsSpendable s entry.thread
spend_made p s entry n comes r none = record { able = r; unfinished = λ f. (within_none true n (λ _. refl) none).1 (comes ∙ f) }

-- the step of the machine has the event of the entry
pub makes_event : (p : Program) (s : State) (i : ℕ) (e : Event) → is_spend e ≡ false → IsStep s i (choice_of_event e) → (after_step p s i (choice_of_event e)).done ≡ stepped.Did e → MakesEvent p s i e
makes_event p s i e q step done = let P : Bool → Type 0 = MakesEventBy p s i e in subst P (sym q) (record { step = step; event = done })

-- ---- what the machine's step tells of the event

pub did_event : (p : Program) (s u : State) (i : ℕ) (ch : Choice) (e is : Event) (d : Stepped) → ch ≡ choice_of_event e → is_spend e ≡ false → IsStep s i ch
    → after_step p s i ch ≡ record { state = u; done = d } → d ≡ stepped.Did is → is ≡ e → MakesEvent p s i e
did_event p s u i ch e is d q f step made told same =
    makes_event p s i e f (subst (λ (x : Choice). IsStep s i x) q step)
    (ap (λ (x : Choice). (after_step p s i x).done) (sym q) ∙ ap (λ (t : StepTaken). t.done) made ∙ told ∙ ap stepped.Did same)

pub did_other : (p : Program) (s u : State) (entry : Entry) (ch : Choice) (is : Event) (d : Stepped) → ch ≡ choice_of_event entry.event → is_spend entry.event ≡ false → IsStep s entry.thread ch
    → after_step p s entry.thread ch ≡ record { state = u; done = d } → d ≡ stepped.Did is → is ≢ entry.event → IsReasonOfEvent p s entry (why.Event is)
did_other p s u entry ch is d q f step made told other =
    has_other_event p s entry is f (subst (λ (x : Choice). IsStep s entry.thread x) q step)
    (ap (λ (x : Choice). (after_step p s entry.thread x).done) (sym q) ∙ ap (λ (t : StepTaken). t.done) made ∙ told) other

pub from_true : (P : Type 0) (b : Bool) → (IsTrue b ↔ P) → b ≡ true → P
from_true P b h e = h.0 e

pub from_false : (P : Type 0) (b : Bool) → (IsTrue b ↔ P) → b ≡ false → P → ⊥
from_false P b h e q = true≢false (sym (h.1 q) ∙ e)

-- a choice with which the access isn't legal is no step
pub no_choice : (p : Program) (s : State) (entry : Entry) (ch : Choice) (a : Access) → ch ≡ choice_of_event entry.event → is_spend entry.event ≡ false → next_in s entry.thread ≡ next.Access a
    → (IsLegal s.memory (view_in s entry.thread) a ch → ⊥) → IsReasonOfEvent p s entry why.Choice
no_choice p s entry ch a q f asks none =
    has_no_choice p s entry (subst IsAtAccess (sym asks) tt) f
    (λ step. none (step_legal s entry.thread ch a asks (subst (λ (x : Choice). IsStep s entry.thread x) (sym q) step)))

-- ---- the whole entry

pub entry_made : (p : Program) (s t : State) (entry : Entry) → AreSilent p entry.thread entry.silent s → t ≡ before_event p s entry → MakesEvent p t entry.thread entry.event → IsEntry p s entry
entry_made p s t entry h e made = record { silent = h; event = subst (λ (x : State). MakesEvent p x entry.thread entry.event) e made }

pub state_made : (p : Program) (s t u : State) (entry : Entry) → t ≡ before_event p s entry → u ≡ after_event p t entry.thread entry.event → u ≡ after_entry p s entry
state_made p s t u entry e made = made ∙ ap (λ (x : State). after_event p x entry.thread entry.event) e
