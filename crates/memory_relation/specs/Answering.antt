-- One access made on both sides: the source answers the target's.
use Rattle.std.specs.Prelude.{◌≡◌, ℕ, true, ◌⊎◌, if◌then◌else◌}
use Rattle.values_undef.specs.declared.access.Access.{Access}
use Rattle.values_undef.specs.declared.access.Access.TheVariants.{Update}
use Rattle.values_undef.specs.declared.access.Choice.{Choice}
use Rattle.values_undef.specs.declared.access.Choice.TheVariants.{Message, Take}
use Rattle.values_undef.specs.Access.{is_failure}
use Rattle.values_undef.specs.Matching.{IsEventBelow}
use Rattle.views.specs.ThreadView.{ThreadView}
use Rattle.message_memory.specs.Memory.{Memory}
use Rattle.message_memory.specs.Step.{IsLegal, StepResult, step_result, read_at, succeeds}
use Rattle.memory_relation.specs.Relation.{Pairing, GoesOn}

-- the access failed
pub record IsFailed (o : StepResult) : Type 0 where
  pub event : is_failure o.event ≡ true
  pub memory : o.memory.failed ≡ true

-- the choice that the source takes for one of the target: the same, but where an update can't take the message's place
abbrev pub choice_for : Memory → Access → Choice → Choice
choice_for s (Update y order kind) (Take read to) = if succeeds kind (read_at s y read).value then Take read to else Message read
choice_for s a c = c

-- events match, and the relation holds again
pub record IsMatch (p q : Pairing) (i : ℕ) (t s : Memory) (o o' : StepResult) : Type 0 where
  pub event : IsEventBelow o.event o'.event
  pub goes_on : GoesOn p q i t s o.memory o'.memory o.view o'.view

-- the source's access b answers the target's access a, made with this choice: it fails, or is made with the same choice and matches
pub record IsAnswered (p q : Pairing) (i : ℕ) (t s : Memory) (v w : ThreadView) (a b : Access) (c : Choice) : Type 0 where
  pub legal : IsLegal s w b (choice_for s b c)
  pub cases : IsFailed (step_result s w i b (choice_for s b c)) ⊎ ((choice_for s b c ≡ c) × IsMatch p q i t s (step_result t v i a c) (step_result s w i b c))
