-- The facts of each command, and its condition where words mean it.
use Rattle.std.proofs.Common.{ℕ, ◌^◌, ◌<◌, ◌≤◌, true, false, List, Option, Some, None, arith}
use Rattle.words.specs.declared.command.Command.{Command}
use Rattle.words.specs.declared.command.Command.TheVariants.{Check, Opt, Tidy, Validate, Seq, Walk, Run, Replay, Graph, Litmus, Outcomes, Refute, Gen}
use Rattle.words.specs.Meaning.{GivesNumber, Means}
use Rattle.outcomes_session.specs.Session.{HasOutcomesCondition}
use Rattle.reports.specs.Targets.{IsOptimised, IsTidiedTarget}
use Rattle.tool.specs.Commands.{meaning_of, HasCondition}
use Rattle.tool.specs.Walk.{IsWalkOf}
use Rattle.tool.specs.Run.{IsThreadedRun}
use Rattle.tool.specs.Laws.{ReportsTellRuns}
use Rattle.tool.proofs.CommandFacts.{CommandFacts}
use Rattle.tool.proofs.CheckFacts.{check_facts}
use Rattle.tool.proofs.OptFacts.{opt_facts}
use Rattle.tool.proofs.ValidateFacts.{validate_facts}
use Rattle.tool.proofs.SeqFacts.{seq_facts}
use Rattle.tool.proofs.ReportFacts.{report_facts}
use Rattle.tool.proofs.ReplayFacts.{replay_facts}
use Rattle.tool.proofs.GraphFacts.{graph_facts}
use Rattle.tool.proofs.LitmusFacts.{litmus_facts}
use Rattle.tool.proofs.OutcomesFacts.{outcomes_facts}
use Rattle.tool.proofs.RefuteFacts.{refute_facts}
use Rattle.tool.proofs.GenFacts.{gen_facts}

pub command_facts : (command : Command) → CommandFacts (meaning_of command)
command_facts Check = check_facts
command_facts Opt = opt_facts
command_facts (Tidy order draws steps) = report_facts false IsTidiedTarget (IsWalkOf order draws steps) steps
command_facts Validate = validate_facts
command_facts (Seq function) = seq_facts function
command_facts (Walk order draws steps) = report_facts false IsOptimised (IsWalkOf order draws steps) steps
command_facts (Run seed steps) = report_facts true IsOptimised (IsThreadedRun seed steps) steps
command_facts Replay = replay_facts
command_facts Graph = graph_facts
command_facts (Litmus seed seeds steps) = litmus_facts seed seeds steps
command_facts (Outcomes steps states) = outcomes_facts steps states
command_facts (Refute steps states) = refute_facts steps states
command_facts (Gen number functions form) = gen_facts number functions form

gives_budget : (o : Option (List ℕ)) (n : ℕ) → GivesNumber 1 16384 1000 o n → (1 ≤ n) × (n ≤ 16384)
gives_budget None n is = (omega (arith, is), omega (arith, is))
gives_budget (Some text) n is = (is.1, is.2)

gives_functions : (o : Option (List ℕ)) (n : ℕ) → GivesNumber 1 256 4 o n → (1 ≤ n) × (n ≤ 256)
gives_functions None n is = (omega (arith, is), omega (arith, is))
gives_functions (Some text) n is = (is.1, is.2)

gives_first : (o : Option (List ℕ)) (n : ℕ) → GivesNumber 0 9223372036854775807 0 o n → n < 2 ^ 63
gives_first None n is = omega (arith, is)
gives_first (Some text) n is = let few = is.2 in omega (arith, few)

gives_within : (most default : ℕ) (o : Option (List ℕ)) (n : ℕ) → 1 ≤ default → default ≤ most → GivesNumber 1 most default o n → (1 ≤ n) × (n ≤ most)
gives_within most default None n low high is = (omega (arith, is), omega (arith, is))
gives_within most default (Some text) n low high is = (is.1, is.2)

gives_search : (o q : Option (List ℕ)) (steps states : ℕ) → GivesNumber 1 100 100 o steps × GivesNumber 1 1048576 65536 q states → HasOutcomesCondition steps states
gives_search o q steps states is =
    let budget = gives_within 100 100 o steps (omega arith) (omega arith) is.0 in
    let nodes = gives_within 1048576 65536 q states (omega arith) (omega arith) is.1 in
    record { some_steps = budget.0; few_steps = budget.1; some_states = nodes.0; few_states = nodes.1 }

of_values : (command : Command) (words : List (List ℕ)) → Means words command → HasCondition command
of_values (Tidy order draws steps) words m = gives_budget _ steps m.values.2
of_values (Walk order draws steps) words m = gives_budget _ steps m.values.2
of_values (Run seed steps) words m = gives_budget _ steps m.values.1
of_values (Litmus seed seeds steps) words m =
    let counts = gives_within 500 100 _ seeds (omega arith) (omega arith) m.values.1 in
    let budget = gives_within 100 100 _ steps (omega arith) (omega arith) m.values.2 in
    record { small = gives_first _ seed m.values.0; some = counts.0; few = counts.1; some_steps = budget.0; few_steps = budget.1 }
of_values (Outcomes steps states) words m = gives_search _ _ steps states m.values
of_values (Refute steps states) words m = gives_search _ _ steps states m.values
of_values (Gen number functions form) words m = gives_functions _ functions m.values.1
of_values _ words m = tt

pub has_condition : (words : List (List ℕ)) (command : Command) → Means words command → HasCondition command
has_condition words command m = of_values command words m

pub reports_tell_runs : ReportsTellRuns
reports_tell_runs command bytes out s is condition output = (command_facts command).tells bytes out s is condition output
