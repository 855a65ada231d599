use Rattle.tool.proofs.CompleteLemmas.{works, refuses}
use Rattle.tool.proofs.top.quiet.Goals as goal

pub returns-clause-answer : goal.returns-clause-answer
returns-clause-answer g c = c.put.ensures.answer c.args.command.now _ _ c.make_output-made.ensures.prepared

pub returns-clause-works : goal.returns-clause-works
returns-clause-works g c input source sink = works c.args.command.now _ _ _ _ c.put.result (returns-clause-answer g c) input source sink

pub returns-clause-refuses : goal.returns-clause-refuses
returns-clause-refuses g c input source sink = refuses c.args.command.now _ _ _ _ c.put.result (returns-clause-answer g c) input source sink
