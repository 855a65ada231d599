use Rattle.pair_text.proofs.OneAnswer.{texts_unrefused, one_texts_refusal}
use Rattle.pair_text.proofs.EachInput.{each_texts}
use Rattle.pair_text.proofs.laws.texts_have_one_answer.Goals as goal

pub returns-clause-some : goal.returns-clause-some
returns-clause-some c = each_texts

pub returns-clause-apart : goal.returns-clause-apart
returns-clause-apart c = texts_unrefused

pub returns-clause-one : goal.returns-clause-one
returns-clause-one c = one_texts_refusal
