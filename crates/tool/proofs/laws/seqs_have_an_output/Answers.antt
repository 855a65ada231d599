use Rattle.tool.proofs.EachVerdict.{seqs_have_an_output}
use Rattle.tool.proofs.laws.seqs_have_an_output.Goals as goal

pub returns : goal.returns
returns c = seqs_have_an_output c.each_pair_is_judged.ensures c.each_pair_has_a_verdict.ensures c.sessions_have_one_answer.ensures.some
