use Rattle.pass_chain.specs.Stages.{AreStages}
use Rattle.pass_chain.proofs.chains.stages_of.Given as goal

abbrev pub invariant-loop-chain : goal.invariant-loop-chain
invariant-loop-chain l = AreStages l.yielded l.stages
