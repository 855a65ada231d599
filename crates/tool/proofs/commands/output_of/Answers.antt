use Rattle.std.proofs.Common.{sym}
use Rattle.tool.proofs.commands.output_of.Goals as goal

pub returns-in-Seq : goal.returns-in-Seq
returns-in-Seq g c = rw (c.in-Seq.is, sym c.as_slice-in-Seq.ensures) c.output-in-Seq.ensures

pub returns-in-Litmus : goal.returns-in-Litmus
returns-in-Litmus g c = rw c.in-Litmus.is c.output-in-Litmus.ensures

pub returns-in-Outcomes : goal.returns-in-Outcomes
returns-in-Outcomes g c = rw c.in-Outcomes.is c.output-in-Outcomes.ensures

pub returns-in-Refute : goal.returns-in-Refute
returns-in-Refute g c = rw c.in-Refute.is c.output-in-Refute.ensures
