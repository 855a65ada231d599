-- What one entry does to the state, and what comes after the end of a thread.
use Rattle.std.proofs.Common.{◌≡◌, ℕ, zero, suc, ◌<◌, Bool, true, false, List, [], ◌∷◌, ◌++◌, length, get_or, set, refl, sym, ap, ◌∙◌, arith}
use Rattle.std.specs.List.{AllByRecursion}
use Rattle.std.proofs.lemmas.Bool.{false≢true}
use Rattle.std.proofs.lemmas.List.{length-set, get_or-set_other}
use Rattle.values_undef.specs.Access.{choice_of_event, is_failure, ends_thread}
use Rattle.values_undef.specs.Journal.{is_finish}
use Rattle.values_undef.specs.declared.access.Choice.{Choice}
use Rattle.values_undef.specs.declared.access.Choice.TheVariants.{Plain}
use Rattle.values_undef.specs.declared.access.Event.{Event}
use Rattle.values_undef.specs.declared.access.Event.TheVariants as event
use Rattle.values_undef.specs.declared.journal.Entry.{Entry}
use Rattle.il_syntax.specs.declared.program.Program.{Program}
use Rattle.message_memory.specs.Step.{step_result, MemStep}
use Rattle.message_memory.proofs.Callers.{failures_fail}
use Rattle.thread_core.specs.declared.next.Next.{Next}
use Rattle.thread_core.specs.declared.next.Next.TheVariants as step
use Rattle.view_machine.specs.declared.stepped.Stepped.TheVariants as stepped
use Rattle.view_machine.specs.State.{State, view_in, next_in, has_ended, Allows, step_by, after_step}
use Rattle.view_machine.specs.Runs.{is_spend, after_silent, AreSilent, MakesEventBy, after_event_by, IsEntry, after_entry, IsRunFrom}
use Rattle.view_machine.proofs.RunLaws.{spend_is}

-- kinds of events
pub ends_is : (e : Event) → is_spend e ≡ false → is_finish e ≡ ends_thread e
ends_is (event.NaRead x v) h = refl
ends_is (event.NaWrite x v n) h = refl
ends_is (event.Read y o v to) h = refl
ends_is (event.Write y o v a b) h = refl
ends_is (event.Update y o a b c d) h = refl
ends_is (event.Miss y o v a) h = refl
ends_is (event.Fence order) h = refl
ends_is (event.Print v) h = refl
ends_is (event.Fail cause) h = refl
ends_is (event.FailCompare y read) h = refl
ends_is event.Finish h = refl
ends_is event.Spend h = cc

-- silent steps keep the views, the notes of ends and the number of threads
step_views : (p : Program) (s : State) (i : ℕ) (c : Choice) (n : Next) → n ≡ step.Silent → (step_by p s i c n).state.views ≡ s.views
step_views p s i c step.Silent e = refl
step_views p s i c (step.Access a) e = cc

step_ended : (p : Program) (s : State) (i : ℕ) (c : Choice) (n : Next) → n ≡ step.Silent → (step_by p s i c n).state.ended ≡ s.ended
step_ended p s i c step.Silent e = refl
step_ended p s i c (step.Access a) e = cc

step_threads : (p : Program) (s : State) (i : ℕ) (c : Choice) (n : Next) → length (step_by p s i c n).state.locals ≡ length s.locals
step_threads p s i c step.Silent = length-set s.locals i _
step_threads p s i c (step.Access a) = length-set s.locals i _

pub silent_views : (p : Program) (i n : ℕ) (s : State) → AreSilent p i n s → (after_silent p i n s).views ≡ s.views
silent_views p i zero s h = refl
silent_views p i (suc n) s h = silent_views p i n (after_step p s i Plain).state h.2 ∙ step_views p s i Plain (next_in s i) h.1

pub silent_ended : (p : Program) (i n : ℕ) (s : State) → AreSilent p i n s → (after_silent p i n s).ended ≡ s.ended
silent_ended p i zero s h = refl
silent_ended p i (suc n) s h = silent_ended p i n (after_step p s i Plain).state h.2 ∙ step_ended p s i Plain (next_in s i) h.1

pub silent_threads : (p : Program) (i n : ℕ) (s : State) → length (after_silent p i n s).locals ≡ length s.locals
silent_threads p i zero s = refl
silent_threads p i (suc n) s = silent_threads p i n (after_step p s i Plain).state ∙ step_threads p s i Plain (next_in s i)

event_threads : (p : Program) (s : State) (i : ℕ) (e : Event) (b : Bool) → length (after_event_by p s i e b).locals ≡ length s.locals
event_threads p s i e true = refl
event_threads p s i e false = step_threads p s i (choice_of_event e) (next_in s i)

-- an entry keeps the number of threads
pub entry_threads : (p : Program) (s : State) (e : Entry) → length (after_entry p s e).locals ≡ length s.locals
entry_threads p s e =
    event_threads p (after_silent p e.thread e.silent s) e.thread e.event (is_spend e.event) ∙ silent_threads p e.thread e.silent s

pub event_there : (p : Program) (s : State) (i : ℕ) (e : Event) (b : Bool) → MakesEventBy p s i e b → i < length s.locals
event_there p s i e true h = h.able.there
event_there p s i e false h = h.step.able.there

-- its thread is there
pub entry_there : (p : Program) (s : State) (e : Entry) → IsEntry p s e → e.thread < length s.locals
entry_there p s e h =
    let there = event_there p (after_silent p e.thread e.silent s) e.thread e.event (is_spend e.event) h.event in
    omega (arith, there, silent_threads p e.thread e.silent s)

-- what a step that has an event notes of the thread's end, and whether it fails
step_notes : (p : Program) (s : State) (i : ℕ) (c : Choice) (n : Next) (e : Event) → (step_by p s i c n).done ≡ stepped.Did e → (step_by p s i c n).state.ended ≡ set s.ended i (is_finish e)
step_notes p s i c step.Silent e q = cc
step_notes p s i c (step.Access a) e q =
    let same : (step_result s.memory (view_in s i) i a c).event ≡ e = cc in ap (λ (x : Event). set s.ended i (is_finish x)) same

event_notes : (p : Program) (s : State) (i : ℕ) (e : Event) (b : Bool) → is_spend e ≡ b → MakesEventBy p s i e b → (after_event_by p s i e b).ended ≡ set s.ended i (ends_thread e)
event_notes p s i e true q h = ap (λ (x : Event). set s.ended i (ends_thread x)) (sym (spend_is e q))
event_notes p s i e false q h =
    step_notes p s i (choice_of_event e) (next_in s i) e h.event ∙ ap (set s.ended i) (ends_is e q)

-- an entry notes whether its event ends its thread
pub entry_notes : (p : Program) (s : State) (e : Entry) → IsEntry p s e → (after_entry p s e).ended ≡ set s.ended e.thread (ends_thread e.event)
entry_notes p s e h =
    event_notes p (after_silent p e.thread e.silent s) e.thread e.event (is_spend e.event) refl h.event
    ∙ ap (λ (x : List Bool). set x e.thread (ends_thread e.event)) (silent_ended p e.thread e.silent s h.silent)

step_fails : (p : Program) (s : State) (i : ℕ) (c : Choice) (n : Next) (e : Event) → Allows s.memory (view_in s i) c n → (step_by p s i c n).done ≡ stepped.Did e
    → (step_by p s i c n).state.memory.failed ≡ is_failure e
step_fails p s i c step.Silent e h q = cc
step_fails p s i c (step.Access a) e h q =
    let o = step_result s.memory (view_in s i) i a c in
    let same : o.event ≡ e = cc in
    let made : MemStep s.memory (view_in s i) i a c e o.memory o.view = record { legal = h; event = same; memory = refl; view = refl } in
    failures_fail s.memory o.memory (view_in s i) o.view i a c e made

event_fails : (p : Program) (s : State) (i : ℕ) (e : Event) (b : Bool) → is_spend e ≡ b → MakesEventBy p s i e b → (after_event_by p s i e b).memory.failed ≡ is_failure e
event_fails p s i e true q h = h.able.running ∙ ap is_failure (sym (spend_is e q))
event_fails p s i e false q h = step_fails p s i (choice_of_event e) (next_in s i) e h.step.allowed h.event

-- the memory fails exactly by an entry that is a failure
pub entry_fails : (p : Program) (s : State) (e : Entry) → IsEntry p s e → (after_entry p s e).memory.failed ≡ is_failure e.event
entry_fails p s e h = event_fails p (after_silent p e.thread e.silent s) e.thread e.event (is_spend e.event) refl h.event

-- ---- the end of a thread

event_going : (p : Program) (s : State) (i : ℕ) (e : Event) (b : Bool) → MakesEventBy p s i e b → has_ended s i ≡ false
event_going p s i e true h = h.able.going
event_going p s i e false h = h.step.able.going

-- a thread that makes an entry has not ended
pub entry_going : (p : Program) (s : State) (e : Entry) → IsEntry p s e → has_ended s e.thread ≡ false
entry_going p s e h =
    ap (λ (x : List Bool). get_or x e.thread true) (sym (silent_ended p e.thread e.silent s h.silent))
    ∙ event_going p (after_silent p e.thread e.silent s) e.thread e.event (is_spend e.event) h.event

-- so none of a thread that has ended is its own
pub entry_other : (p : Program) (s : State) (e : Entry) (i : ℕ) → IsEntry p s e → has_ended s i ≡ true → e.thread ≡ i → ⊥
entry_other p s e i h over own = false≢true (sym (entry_going p s e h) ∙ ap (has_ended s) own ∙ over)

-- one that has ended has ended after each entry
pub stays_ended : (p : Program) (s : State) (e : Entry) (i : ℕ) → IsEntry p s e → has_ended s i ≡ true → has_ended (after_entry p s e) i ≡ true
stays_ended p s e i h over =
    ap (λ (x : List Bool). get_or x i true) (entry_notes p s e h)
    ∙ get_or-set_other s.ended e.thread i (ends_thread e.event) true (λ own. entry_other p s e i h over (sym own))
    ∙ over

-- an entry that ends its thread leaves it ended
pub ends_here : (p : Program) (s : State) (e : Entry) → IsEntry p s e → ends_thread e.event ≡ true → has_ended (after_entry p s e) e.thread ≡ true
ends_here p s e h ends =
    ap (λ (x : List Bool). get_or x e.thread true) (entry_notes p s e h ∙ ap (set s.ended e.thread) ends) ∙ set_true s.ended e.thread
  where
    set_true : (bs : List Bool) (i : ℕ) → get_or (set bs i true) i true ≡ true
    set_true [] i = refl
    set_true (b ∷ bs) zero = refl
    set_true (b ∷ bs) (suc i) = set_true bs i

-- after the end of a thread no entry is its own
pub none_later : (p : Program) (s : State) (entries : List Entry) (i : ℕ) → IsRunFrom p s entries → has_ended s i ≡ true → AllByRecursion (λ e. e.thread ≡ i → ⊥) entries
none_later p s [] i h over = tt
none_later p s (e ∷ more) i h over = (entry_other p s e i h.0 over, none_later p (after_entry p s e) more i h.1 (stays_ended p s e i h.0 over))

-- an entry that ends its thread is its last
pub end_last : (p : Program) (s : State) (before : List Entry) (e : Entry) (after : List Entry) → IsRunFrom p s (before ++ e ∷ after) → ends_thread e.event ≡ true → AllByRecursion (λ x. x.thread ≡ e.thread → ⊥) after
end_last p s [] e after h ends = none_later p (after_entry p s e) after e.thread h.1 (ends_here p s e h.0 ends)
end_last p s (x ∷ before) e after h ends = end_last p (after_entry p s x) before e after h.1 ends
