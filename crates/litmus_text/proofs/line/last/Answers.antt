use Rattle.std.proofs.Common.{◌∙◌, ap, map, List}
use Rattle.std.specs.Borrow.{Bor}
use Rattle.text_parts.specs.Lines.{Text}
use Rattle.litmus_text.specs.Expectation.{named_locations}
use Rattle.litmus_text.proofs.ExpectationWords.{last_decodes}
use Rattle.litmus_text.proofs.Names.{are_named}
use Rattle.litmus_text.proofs.line.last.Goals as goal

pub returns : goal.returns
returns c =
    let cut = ap (λ (ps : List (Bor Text)). map (λ x. x.now) ps) c.as_slice.ensures.value ∙ c.in_ok-pieces.ensures in
    last_decodes (named_locations c.args.finals c.args.p.now) (are_named c.args.p.now c.requires c.args.finals) c.args.word.now _ c.last_of_pieces.result cut c.last_of_pieces.ensures
