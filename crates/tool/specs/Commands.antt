-- The table of the commands: what each of them means.
use Rattle.std.specs.Prelude.{◌≡◌, ℕ, true, false, List, Option}
use Rattle.words.specs.declared.command.Command.{Command}
use Rattle.words.specs.declared.command.Command.TheVariants.{Check, Opt, Tidy, Validate, Seq, Walk, Run, Replay, Graph, Litmus, Outcomes, Refute, Gen}
use Rattle.tool.specs.declared.status.Status.{Status}
use Rattle.tool.specs.Meaning.{CommandMeaning}
use Rattle.tool.specs.Check.{check_meaning}
use Rattle.tool.specs.Opt.{opt_meaning}
use Rattle.tool.specs.Tidy.{tidy_meaning}
use Rattle.tool.specs.Validate.{validate_meaning}
use Rattle.tool.specs.Seq.{seq_meaning}
use Rattle.tool.specs.Walk.{walk_meaning}
use Rattle.tool.specs.Run.{run_meaning}
use Rattle.tool.specs.Replay.{replay_meaning}
use Rattle.tool.specs.Graph.{graph_meaning}
use Rattle.tool.specs.Litmus.{litmus_meaning}
use Rattle.tool.specs.Outcomes.{outcomes_meaning}
use Rattle.tool.specs.Refute.{refute_meaning}
use Rattle.tool.specs.Gen.{gen_meaning}

abbrev pub meaning_of : Command → CommandMeaning
meaning_of Check = check_meaning
meaning_of Opt = opt_meaning
meaning_of (Tidy order draws steps) = tidy_meaning order draws steps
meaning_of Validate = validate_meaning
meaning_of (Seq function) = seq_meaning function
meaning_of (Walk order draws steps) = walk_meaning order draws steps
meaning_of (Run seed steps) = run_meaning seed steps
meaning_of Replay = replay_meaning
meaning_of Graph = graph_meaning
meaning_of (Litmus seed seeds steps) = litmus_meaning seed seeds steps
meaning_of (Outcomes steps states) = outcomes_meaning steps states
meaning_of (Refute steps states) = refute_meaning steps states
meaning_of (Gen number functions form) = gen_meaning number functions form

-- the most bytes that the input of a command may have, where it reads any
abbrev pub limit_of : Command → Option ℕ
limit_of command = (meaning_of command).limit

-- what the caller of a command sees to
abbrev pub HasCondition : Command → Type 0
HasCondition command = (meaning_of command).condition

-- the commands that wait for nothing, and those that write the report of a run
abbrev pub WaitsForNothing : Command → Type 0
WaitsForNothing command = (meaning_of command).waits ≡ false

abbrev pub ReportsRuns : Command → Type 0
ReportsRuns command = (meaning_of command).reports ≡ true

-- the output of a command for its whole input, and the status that goes with it
abbrev pub IsOutputOf : Command → List ℕ → List ℕ → Status → Type 0
IsOutputOf command = (meaning_of command).output

-- the statuses of a command's work, or want of memory
abbrev pub IsWorkStatus : Command → Status → Type 0
IsWorkStatus command = (meaning_of command).works
