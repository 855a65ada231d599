use Rattle.seq_text.proofs.OneSession.{one_session, one_session_refusal, session_unrefused}
use Rattle.seq_text.proofs.EachSession.{each_session}
use Rattle.seq_text.proofs.laws.sessions_have_one_answer.Goals as goal

pub returns-clause-some : goal.returns-clause-some
returns-clause-some c = each_session

pub returns-clause-one : goal.returns-clause-one
returns-clause-one c = one_session

pub returns-clause-apart : goal.returns-clause-apart
returns-clause-apart c = session_unrefused

pub returns-clause-refusal : goal.returns-clause-refusal
returns-clause-refusal c = one_session_refusal
