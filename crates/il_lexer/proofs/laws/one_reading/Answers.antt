use Rattle.il_lexer.proofs.Unique as unique
use Rattle.il_lexer.proofs.laws.one_reading.Goals as goal

pub returns : goal.returns
returns c bytes ts us rest other l m = unique.one_reading l m
