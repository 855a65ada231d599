use Rattle.tool.proofs.SeqFacts.{seqs_have_one_output}
use Rattle.tool.proofs.laws.seqs_have_one_output.Goals as goal

pub returns : goal.returns
returns c = seqs_have_one_output
