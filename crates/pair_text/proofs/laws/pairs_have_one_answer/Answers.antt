use Rattle.pair_text.proofs.OneAnswer.{one_pair, one_pair_refusal, pair_unrefused}
use Rattle.pair_text.proofs.EachInput.{each_pair}
use Rattle.pair_text.proofs.laws.pairs_have_one_answer.Goals as goal

pub returns-clause-some : goal.returns-clause-some
returns-clause-some c = each_pair

pub returns-clause-one : goal.returns-clause-one
returns-clause-one c = one_pair

pub returns-clause-apart : goal.returns-clause-apart
returns-clause-apart c = pair_unrefused

pub returns-clause-refusal : goal.returns-clause-refusal
returns-clause-refusal c = one_pair_refusal
