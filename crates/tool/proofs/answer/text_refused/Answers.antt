use Rattle.std.proofs.Common.{◌≡◌, IfOk, subst}
use Rattle.il_reader.specs.Refusal.{IfRefused}
use Rattle.il_parser.specs.Text.{IsFirstRefusal}
use Rattle.tool.specs.Refusals.{refusal_line}
use Rattle.tool.specs.declared.status.Status.TheVariants as status
use Rattle.tool.proofs.OutputLemmas.{text_is_refused}
use Rattle.tool.proofs.answer.text_refused.Goals as goal

pub returns-in-Refused : goal.returns-in-Refused
returns-in-Refused c =
    let first = subst (λ fault. IfRefused fault (λ r. IsFirstRefusal c.args.input.now r)) c.in-Refused.is c.requires in
    let made = subst (λ word. IfOk c.refused.result (λ o. (o.bytes.items ≡ refusal_line word c.in-Refused.line c.in-Refused.column) × (o.status ≡ status.Input))) c.word.ensures c.refused.ensures in
    text_is_refused c.args.input.now c.in-Refused.rule c.in-Refused.line c.in-Refused.column c.refused.result first made
