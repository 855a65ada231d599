use Rattle.litmus_text.proofs.EachInput.{each_input}
use Rattle.litmus_text.proofs.OneInput.{input_unrefused, one_input, one_refusal}
use Rattle.litmus_text.proofs.laws.litmus_inputs_have_one_answer.Goals as goal

pub returns-clause-some : goal.returns-clause-some
returns-clause-some c = each_input

pub returns-clause-one : goal.returns-clause-one
returns-clause-one c = one_input

pub returns-clause-apart : goal.returns-clause-apart
returns-clause-apart c = input_unrefused

pub returns-clause-refusal : goal.returns-clause-refusal
returns-clause-refusal c = one_refusal
