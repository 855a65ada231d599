-- A thread that asks for an access has a legal choice.
use Rattle.std.proofs.Common.{◌≡◌, ⊎_elim, ℕ, ◌≤◌, true, false, List, [], ◌∷◌, length, Some, refl, ap, ◌∙◌, subst, arith}
use Rattle.std.specs.Prelude.{slice_get}
use Rattle.std.proofs.lemmas.Bool.{cases_Bool}
use Rattle.std.proofs.lemmas.List.{get_or-set_same}
use Rattle.values_undef.specs.Access.{leaves_choice}
use Rattle.values_undef.specs.declared.access.Access.{Access}
use Rattle.values_undef.specs.declared.access.Access.TheVariants as access
use Rattle.values_undef.specs.declared.access.Choice.{Choice}
use Rattle.il_syntax.specs.declared.program.Program.{Program}
use Rattle.views.specs.ThreadView.{ThreadView, no_view}
use Rattle.message_memory.specs.Memory.{Memory, IsWellFormedMemory, IsClosedView}
use Rattle.message_memory.specs.Step.{IsLegal, IsProper}
use Rattle.message_memory.specs.Candidates.{candidates}
use Rattle.message_memory.specs.EventLaws.{spends}
use Rattle.message_memory.proofs.Callers.{candidates_some, candidates_legal, plain_legal, leaves_atomic, plain_leaves}
use Rattle.thread_core.specs.declared.next.Next.TheVariants as next
use Rattle.thread_core.specs.Programs.{IsProperProgram, IsProperNext, IsProperAccess}
use Rattle.thread_core.specs.Frames.{next_of}
use Rattle.thread_core.specs.Alone.{HasSilent, local_after_silent}
use Rattle.thread_core.specs.Steps.{IsProperStack}
use Rattle.thread_core.proofs.Callers.{next_proper}
use Rattle.view_machine.specs.State.{State, local_in, view_in, idle, IsRunning}
use Rattle.view_machine.specs.Runs.{after_silent}
use Rattle.view_machine.specs.Laws.{IsReached}
use Rattle.view_machine.proofs.Callers.{silent_steps_local, silent_reached, proper_in, all_get}

-- ---- a choice

abbrev HasChoice : Memory → ThreadView → Access → Type 0
HasChoice m v a = (c : Choice) × IsLegal m v a c

first_of : (xs : List Choice) → 1 ≤ length xs → (c : Choice) × (slice_get xs 0 ≡ Some c)
first_of [] l = absurd (omega (arith, l))
first_of (c ∷ xs) l = (c, refl)

some_choice : (m : Memory) (v : ThreadView) (a : Access) → IsWellFormedMemory m → IsClosedView m v → m.failed ≡ false → IsProper m a → HasChoice m v a
some_choice m v a well_formed closed running proper =
    ⊎_elim
    (λ (q : leaves_choice a ≡ true).
    let t = leaves_atomic a q in
    let c = first_of (candidates m v a) (candidates_some m v a well_formed closed proper t) in
    (c.0, candidates_legal m v a well_formed running proper t c.0 (0, c.1)))
    (λ (q : leaves_choice a ≡ false). (_, plain_legal m v a running (plain_leaves a q)))
    (cases_Bool (leaves_choice a))

-- ---- in a state of a run

pub proper_there : (p : Program) (s : State) (i k : ℕ) (a : Access) → IsProperProgram p → IsReached p s → IsRunning s i → HasSilent p k (local_in s i) → next_of (local_after_silent p k (local_in s i)) ≡ next.Access a → IsProperAccess p a
proper_there p s i k a ok reached g h asks = subst (IsProperNext p) asks (next_proper p (local_after_silent p k (local_in s i)) stack)
  where
    here : local_in (after_silent p i k s) i ≡ local_after_silent p k (local_in s i)
    here = ap (λ (u : State). local_in u i) (silent_steps_local p i k s g h).1 ∙ get_or-set_same s.locals i (local_after_silent p k (local_in s i)) idle g.there

    whole : IsReached p (after_silent p i k s)
    whole = silent_reached p i k s ok reached (silent_steps_local p i k s g h).0

    stack : IsProperStack p (local_after_silent p k (local_in s i))
    stack = subst (IsProperStack p) here (all_get (IsProperStack p) (after_silent p i k s).locals i idle (omega (arith, whole.threads, reached.threads, g.there)) whole.stacks)

pub choice_there : (p : Program) (s : State) (i : ℕ) (a : Access) → IsReached p s → IsRunning s i → IsProperAccess p a → HasChoice s.memory (view_in s i) a
choice_there p s i a reached g proper =
    some_choice s.memory (view_in s i) a reached.well_formed.well_formed
    (all_get (IsClosedView s.memory) s.views i no_view (omega (arith, reached.views, g.there)) reached.well_formed.closed) g.running
    (proper_in p s.memory a reached.na reached.atomic proper)

-- no thread asks for `Spend`
pub never_spends : (p : Program) (a : Access) → IsProperAccess p a → spends a ≡ false
never_spends p (access.NaRead x) h = refl
never_spends p (access.NaWrite x v) h = refl
never_spends p (access.Read y order) h = refl
never_spends p (access.Write y order v) h = refl
never_spends p (access.Update y order kind) h = refl
never_spends p (access.Fence order) h = refl
never_spends p (access.Print v) h = refl
never_spends p (access.Fail cause) h = refl
never_spends p access.Finish h = refl
never_spends p access.Spend h = absurd h
