use Rattle.il_lexer.proofs.Total as total
use Rattle.il_lexer.proofs.laws.each_text_lexes.Goals as goal

pub returns : goal.returns
returns c bytes = let l = total.each_text_lexes bytes in (l.tokens, l.stop, l.lexes)
