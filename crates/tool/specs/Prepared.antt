-- What was read for a command, and what was made of it, before anything is written.
use Rattle.std.specs.Prelude.{ℕ, List, Option, Some, None, Result, Ok, Err}
use Rattle.sq_outside.specs.Faults.{Rose}
use Rattle.sq_outside.specs.Source.{ConsumesAll, ConsumesAtMost, ConsumesLimitAndOne, ConsumesPrefix}
use Rattle.words.specs.declared.command.Command.{Command}
use Rattle.tool.specs.declared.answer.Output.{Output}
use Rattle.tool.specs.declared.output.NoOutput.{NoOutput}
use Rattle.tool.specs.declared.output.NoOutput.TheVariants as no_output
use Rattle.tool.specs.Commands.{limit_of}
use Rattle.tool.specs.Outputs.{TakesSome, TakesAtMost, IsOutput}
use Rattle.tool.specs.Answers.{Seen}

-- an input within the limit, all of it; or one that is longer; or why neither was read
abbrev pub HasRead : ℕ → (source_before source_now : Seen) → Result (Option (List ℕ)) NoOutput → Type 0
HasRead limit a b (Ok (Some bytes)) = ConsumesAll a.bytes b.bytes limit bytes
HasRead limit a b (Ok None) = ConsumesLimitAndOne a.bytes b.bytes limit
HasRead limit a b (Err no_output.Read) = ConsumesAtMost a.bytes b.bytes limit × Rose a.faults b.faults
HasRead limit a b (Err no_output.NoMemory) = ConsumesPrefix a.bytes b.bytes

-- the output of a command, or why there is none
abbrev pub HasPrepared : Command → (source_before source_now : Seen) → Result Output NoOutput → Type 0
HasPrepared command a b (Ok o) = IsOutput command a.bytes b.bytes o.bytes.items o.status
HasPrepared command a b (Err no_output.Read) = TakesAtMost (limit_of command) a.bytes b.bytes × Rose a.faults b.faults
HasPrepared command a b (Err no_output.NoMemory) = TakesSome (limit_of command) a.bytes b.bytes
