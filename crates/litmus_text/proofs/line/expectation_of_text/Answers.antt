use Rattle.std.proofs.Common.{◌∙◌, ap, map, List}
use Rattle.std.specs.Borrow.{Bor}
use Rattle.std.proofs.lemmas.Result.{IfOk-weaker}
use Rattle.text_parts.specs.Lines.{Text}
use Rattle.litmus_text.specs.Expectation.{named_locations}
use Rattle.litmus_text.proofs.ExpectationWords.{line_decodes}
use Rattle.litmus_text.proofs.Names.{are_named}
use Rattle.litmus_text.proofs.line.expectation_of_text.Goals as goal

pub returns : goal.returns
returns c =
    let cut = ap (λ (ps : List (Bor Text)). map (λ x. x.now) ps) c.as_slice.ensures.value ∙ c.in_ok-words.ensures in
    IfOk-weaker c.of_words.result _ _ (λ o h. line_decodes (named_locations c.args.finals c.args.p.now) (are_named c.args.p.now c.requires c.args.finals) c.args.line.now _ o cut h) c.of_words.ensures
