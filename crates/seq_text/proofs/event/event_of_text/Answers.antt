use Rattle.std.proofs.Common.{◌∙◌, ap, map, List}
use Rattle.std.specs.Borrow.{Bor}
use Rattle.text_parts.specs.Lines.{Text}
use Rattle.seq_text.proofs.EventWords.{line_decodes}
use Rattle.seq_text.proofs.event.event_of_text.Goals as goal

pub returns : goal.returns
returns c =
    let cut = ap (λ (ps : List (Bor Text)). map (λ x. x.now) ps) c.as_slice.ensures.value ∙ c.in_ok-words.ensures in
    line_decodes c.args.p.now c.args.line.now _ c.event.result c.requires.names cut c.event.ensures
