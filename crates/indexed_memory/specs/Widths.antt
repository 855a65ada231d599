-- Which accesses have a choice by the width of a gap alone.
use Rattle.std.specs.Prelude.{ℕ, ◌+◌, ◌==◌, Option, Some, None, List, if◌then◌else◌}
use Rattle.values_undef.specs.declared.access.UpdateKind.{UpdateKind}
use Rattle.values_undef.specs.declared.access.UpdateKind.TheVariants.{Add, Swap, Cas}
use Rattle.values_undef.specs.declared.access.Access.{Access}
use Rattle.values_undef.specs.declared.access.Access.TheVariants.{NaRead, NaWrite, Read, Write, Update, Fence, Print, Fail, Finish, Spend}
use Rattle.values_undef.specs.declared.access.Choice.{Choice}
use Rattle.message_memory.specs.declared.message.Message.{Message}
use Rattle.message_memory.specs.Candidates.{choice_at, choices_from}
use Rattle.indexed_memory.specs.declared.runs.Run.{Run}
use Rattle.indexed_memory.specs.Sorted.{message_of, newest_first}

-- how wide the gap after a message has to be, where that alone decides; a compare-exchange looks at the message
abbrev pub width_of_update : UpdateKind → Option ℕ
width_of_update (Add a) = Some 1
width_of_update (Swap a) = Some 1
width_of_update (Cas expected new) = None

abbrev pub width_for : Access → Option ℕ
width_for (NaRead x) = None
width_for (NaWrite x value) = None
width_for (Read y order) = Some 0
width_for (Write y order value) = Some 4
width_for (Update y order kind) = width_of_update kind
width_for (Fence order) = None
width_for (Print n) = None
width_for (Fail cause) = None
width_for Finish = None
width_for Spend = None

-- how many gaps of a run are at least so wide
abbrev pub wide_in : Run → ℕ → ℕ
wide_in run width = if width == 0 then 256 else if width == 1 then run.narrow else run.wide

-- the choice at the message of number k, which is not the last
abbrev pub choice_below : List Message → List ℕ → Access → ℕ → Option Choice
choice_below pool places a k = choice_at a (Some (message_of pool places (k + 1)).from) (message_of pool places k)

-- the choices at the messages below the one of number j, from the timestamp `seen` on
abbrev pub choices_under : List Message → List ℕ → ℕ → Access → ℕ → List Choice
choices_under pool places seen a j = choices_from seen a (Some (message_of pool places j).from) (newest_first pool places j)
