use Rattle.std.proofs.Common.{◌≡◌}
use Rattle.il_reader.proofs.Callers.{only, exact}
use Rattle.seq_text.specs.Reading.{ReadsSession, IsFirstSessionRefusal}
use Rattle.seq_text.proofs.OneSession.{one_session, one_session_refusal, session_unrefused}
use Rattle.seq_text.proofs.input.read_session.Goals as goal

pub returns-clause-only : goal.returns-clause-only
returns-clause-only c p q events line reads =
    let input = c.args.input.now in
    only (λ x. ReadsSession input x.source x.target x.events.items x.first_line) (IsFirstSessionRefusal input)
    (λ x. (x.source ≡ p) × (x.target ≡ q) × (x.events.items ≡ events) × (x.first_line ≡ line))
    (λ x other. one_session input x.source x.target x.events.items x.first_line p q events line other reads)
    (λ r refused. session_unrefused input p q events line r reads refused) c.read_input.result c.read_input.ensures.answer

pub returns-clause-exact : goal.returns-clause-exact
returns-clause-exact c r refused =
    let input = c.args.input.now in
    exact (λ x. ReadsSession input x.source x.target x.events.items x.first_line) (IsFirstSessionRefusal input) r
    (λ x reads. session_unrefused input x.source x.target x.events.items x.first_line r reads refused)
    (λ q other. one_session_refusal input q r other refused) c.read_input.result c.read_input.ensures.answer
