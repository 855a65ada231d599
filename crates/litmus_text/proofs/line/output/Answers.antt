use Rattle.std.proofs.Common.{◌∙◌, ap, map, List}
use Rattle.std.specs.Borrow.{Bor}
use Rattle.text_parts.specs.Lines.{Text}
use Rattle.litmus_text.proofs.ExpectationWords.{word_decodes}
use Rattle.litmus_text.proofs.line.output.Goals as goal

pub returns : goal.returns
returns c =
    let cut = ap (λ (ps : List (Bor Text)). map (λ x. x.now) ps) c.as_slice.ensures.value ∙ c.in_ok-pieces.ensures in
    word_decodes c.args.word.now _ c.output_of_pieces.result cut c.output_of_pieces.ensures
