use Rattle.std.proofs.Common.{refl, arith}
use Rattle.il_lexer.proofs.SlicesLemmas.{slices}
use Rattle.il_lexer.proofs.laws.tokens_are_the_text.Goals as goal

pub returns : goal.returns
returns c bytes ts rest l = slices bytes l refl (omega arith)
