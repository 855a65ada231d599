-- Events, and the accesses that they come from.
use Rattle.std.proofs.Common.{◌≡◌, ℕ, Bool, true, false, cond, length, Some, slice_get, refl, sym, ap, subst, ◌∙◌}
use Rattle.std.proofs.lemmas.Bool.{cond_both}
use Rattle.values_undef.specs.Access.{choice_of_event, ends_thread, is_atomic_event}
use Rattle.values_undef.specs.Journal.{is_finish}
use Rattle.values_undef.specs.declared.access.Access.{Access}
use Rattle.values_undef.specs.declared.access.Access.TheVariants.{NaRead, NaWrite, Read, Write, Update, Fence, Print, Fail, Finish, Spend}
use Rattle.values_undef.specs.declared.access.Choice.{Choice}
use Rattle.values_undef.specs.declared.access.Choice.TheVariants.{Plain, Message, Place, Take}
use Rattle.values_undef.specs.declared.access.Event.{Event}
use Rattle.values_undef.specs.declared.access.Event.TheVariants as event
use Rattle.il_syntax.specs.declared.program.Program.{Program}
use Rattle.views.specs.ThreadView.{ThreadView}
use Rattle.message_memory.specs.Memory.{Memory}
use Rattle.message_memory.specs.Step.{AdmitsChoice, IsLegal, StepResult, step_result, is_racy, meets_undef, read_at}
use Rattle.thread_core.specs.declared.next.Next.{Next}
use Rattle.thread_core.specs.declared.next.Next.TheVariants as step
use Rattle.view_machine.specs.declared.stepped.Stepped.TheVariants as stepped
use Rattle.view_machine.specs.State.{State, view_in, next_in, Allows, step_by}
use Rattle.view_machine.specs.Runs.{is_spend, MakesAccess}
use Rattle.chooser.specs.Chosen.{leaves_choice, IsChosen, IsChosenBy}
use Rattle.chooser.specs.Chosen.{chooser_after as asked_after}
use Rattle.walker.specs.Choices.{IsEventChosen, IsEventChosenBy, chooser_after_event}
use Rattle.run_choices.specs.Candidates.{candidates_by}

-- an access that leaves a choice has an atomic event, and no other has
atomic_exactly : (m : Memory) (v : ThreadView) (i : ℕ) (a : Access) (c : Choice) → AdmitsChoice m v a c → is_atomic_event (step_result m v i a c).event ≡ leaves_choice a
atomic_exactly m v i (NaRead x) Plain h = refl
atomic_exactly m v i (NaWrite x n) Plain h = cond_both (is_racy m v x) _ _ (λ (o : StepResult). is_atomic_event o.event ≡ false) (λ _. refl) (λ _. refl)
atomic_exactly m v i (Read y order) (Message to) h = refl
atomic_exactly m v i (Write y order n) (Place from to) h = refl
atomic_exactly m v i (Update y order kind) (Message to) h =
    cond_both (meets_undef kind (read_at m y to).value) _ _ (λ (o : StepResult). is_atomic_event o.event ≡ true) (λ _. refl) (λ _. refl)
atomic_exactly m v i (Update y order kind) (Take read to) h = refl
atomic_exactly m v i (Fence order) Plain h = refl
atomic_exactly m v i (Print n) Plain h = refl
atomic_exactly m v i (Fail cause) Plain h = refl
atomic_exactly m v i Finish Plain h = refl
atomic_exactly m v i Spend Plain h = refl
atomic_exactly m v i _ _ h = absurd h

-- the event of the access that comes next
pub event_is : (p : Program) (s : State) (i : ℕ) (a : Access) (e : Event) → next_in s i ≡ step.Access a → MakesAccess p s i e → (step_result s.memory (view_in s i) i a (choice_of_event e)).event ≡ e
event_is p s i a e n h =
    let q : (step_by p s i (choice_of_event e) (step.Access a)).done ≡ stepped.Did e = ap (λ (x : Next). (step_by p s i (choice_of_event e) x).done) (sym n) ∙ h.event in
    cc

pub finish_is : (p : Program) (s : State) (i : ℕ) (a : Access) (e : Event) → next_in s i ≡ step.Access a → MakesAccess p s i e → a ≡ Finish → e ≡ event.Finish
finish_is p s i a e n h f =
    sym (event_is p s i a e n h) ∙ ap (λ (x : Access). (step_result s.memory (view_in s i) i x (choice_of_event e)).event) f

pub atomic_is : (p : Program) (s : State) (i : ℕ) (a : Access) (e : Event) → next_in s i ≡ step.Access a → MakesAccess p s i e → is_atomic_event e ≡ leaves_choice a
atomic_is p s i a e n h =
    ap is_atomic_event (sym (event_is p s i a e n h))
    ∙ atomic_exactly s.memory (view_in s i) i a (choice_of_event e) (subst (Allows s.memory (view_in s i) (choice_of_event e)) n h.step.allowed).admits

chosen_by : {C : Type 0} (answer : C → ℕ → ℕ → ℕ) (s : State) (i : ℕ) (a : Access) (chooser : C) (e : Event) (b : Bool) → next_in s i ≡ step.Access a
    → IsChosenBy answer s.memory (view_in s i) a chooser i (choice_of_event e) b → IsEventChosenBy answer s i chooser e b
chosen_by answer s i a chooser e true n h =
    subst (λ (x : Next). slice_get (candidates_by s i x) (answer chooser i (length (candidates_by s i x))) ≡ Some (choice_of_event e)) (sym n) h
chosen_by answer s i a chooser e false n h = tt

-- what is chosen for the access is chosen for its event
pub event_chosen : {C : Type 0} (answer : C → ℕ → ℕ → ℕ) (p : Program) (s : State) (i : ℕ) (a : Access) (chooser : C) (e : Event) → next_in s i ≡ step.Access a → MakesAccess p s i e
    → IsChosen answer s.memory (view_in s i) a chooser i (choice_of_event e) → IsEventChosen answer s i chooser e
event_chosen answer p s i a chooser e n h c =
    subst (IsEventChosenBy answer s i chooser e) (sym (atomic_is p s i a e n h)) (chosen_by answer s i a chooser e (leaves_choice a) n c)

pub event_asked : {C : Type 0} (next : C → ℕ → ℕ → C) (p : Program) (s : State) (i : ℕ) (a : Access) (chooser : C) (e : Event) → next_in s i ≡ step.Access a → MakesAccess p s i e
    → asked_after next s.memory (view_in s i) a chooser i ≡ chooser_after_event next s i chooser e
event_asked next p s i a chooser e n h = λ j.
    cond (sym (atomic_is p s i a e n h) j) (next chooser i (length (candidates_by s i (sym n j)))) chooser

-- what is legal for a memory and a view is so for the same ones
pub legal_in : (m m' : Memory) (v v' : ThreadView) (a : Access) (c : Choice) → m ≡ m' → v ≡ v' → IsLegal m v a c → IsLegal m' v' a c
legal_in m m' v v' a c e f h = subst (λ (x : Memory). IsLegal x v' a c) e (subst (λ (x : ThreadView). IsLegal m x a c) f h)
