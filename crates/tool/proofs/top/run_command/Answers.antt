use Rattle.words.specs.declared.command.Command.TheVariants.{Run}
use Rattle.tool.proofs.CompleteLemmas.{works, refuses}
use Rattle.tool.proofs.top.run_command.Goals as goal

pub returns-clause-answer : goal.returns-clause-answer
returns-clause-answer g c = c.put.ensures.answer (Run c.args.seed c.args.steps) _ _ c.run_output-made.ensures.prepared

pub returns-clause-works : goal.returns-clause-works
returns-clause-works g c input source sink = works (Run c.args.seed c.args.steps) _ _ _ _ c.put.result (returns-clause-answer g c) input source sink

pub returns-clause-refuses : goal.returns-clause-refuses
returns-clause-refuses g c input source sink = refuses (Run c.args.seed c.args.steps) _ _ _ _ c.put.result (returns-clause-answer g c) input source sink
