use Rattle.std.proofs.Common.{◌∙◌, List, ap, sym}
use Rattle.il_syntax.specs.declared.program.Function.{Function}
use Rattle.seq_session.specs.Session.{function_number}
use Rattle.seq_session.proofs.Answered.{named_answered}
use Rattle.seq_session.proofs.session.named.Goals as goal

pub returns-in-Some : goal.returns-in-Some
returns-in-Some c =
    named_answered c.args.session.now.source c.args.session.now.target c.args.session.now.events.items c.args.session.now.first_line _ c.in-Some.function c.judged.result
    (ap (λ (fs : List Function). function_number fs c.args.name.now) (sym c.as_slice.ensures) ∙ sym c.function_number.ensures.exact ∙ c.in-Some.is) c.judged.ensures
