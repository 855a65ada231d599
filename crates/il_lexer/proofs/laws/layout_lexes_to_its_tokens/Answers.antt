use Rattle.il_lexer.proofs.LayoutLemmas.{laid_lexes}
use Rattle.il_lexer.proofs.laws.layout_lexes_to_its_tokens.Goals as goal

pub returns : goal.returns
returns c ps laid = laid_lexes ps 0 laid
