use Rattle.seq_session.proofs.EachAnswer.{each_seq_answer}
use Rattle.seq_session.proofs.OneAnswer.{one_seq_answer}
use Rattle.seq_session.proofs.laws.sessions_have_one_answer.Goals as goal

pub returns-clause-some : goal.returns-clause-some
returns-clause-some c = each_seq_answer

pub returns-clause-one : goal.returns-clause-one
returns-clause-one c = one_seq_answer
