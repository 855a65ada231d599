-- An access to an atomic location at a message, told by the memory in which no room was made yet.
use Rattle.std.specs.Prelude.{ℕ, ◌+◌, if◌then◌else◌}
use Rattle.values_undef.specs.declared.value.Val.{Val}
use Rattle.values_undef.specs.declared.access.Order.{Order}
use Rattle.values_undef.specs.declared.access.UpdateKind.{UpdateKind}
use Rattle.values_undef.specs.declared.access.Access.{Access}
use Rattle.values_undef.specs.declared.access.Access.TheVariants.{Read, Write, Update}
use Rattle.values_undef.specs.declared.access.Choice.{Choice}
use Rattle.values_undef.specs.declared.access.Choice.TheVariants.{Message, Place, Take}
use Rattle.values_undef.specs.declared.access.Event.{Event}
use Rattle.values_undef.specs.declared.access.Event.TheVariants as event
use Rattle.message_memory.specs.Memory.{Memory}
use Rattle.message_memory.specs.Step.{read_at, succeeds, meets_undef, updated}
use Rattle.memory_likeness.specs.Answering.{choice_behind}

-- the event of an update of this value
abbrev pub update_behind : ℕ → Order → UpdateKind → Val → ℕ → Event
update_behind y order kind old b =
    if succeeds kind old
    then event.Update y order old (updated kind old) b (b + 2)
    else (if meets_undef kind old then event.FailCompare y b else event.Miss y order old b)

-- its event at the message that ends at b, where it puts in one behind that after room was made
abbrev pub event_behind : Memory → Access → ℕ → Event
event_behind m (Read y order) b = event.Read y order (read_at m y b).value b
event_behind m (Write y order v) b = event.Write y order v (b + 1) (b + 2)
event_behind m (Update y order kind) b = update_behind y order kind (read_at m y b).value b
event_behind m _ b = event.Spend

-- the choice that is legal without the room where `choice_behind` is legal with it
abbrev pub choice_close : Memory → Access → ℕ → Choice
choice_close m (Write y order v) b = Place b (b + 1)
choice_close m (Update y order kind) b = if succeeds kind (read_at m y b).value then Take b (b + 1) else Message b
choice_close m a b = choice_behind m a b
