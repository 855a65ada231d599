use Rattle.std.proofs.Common.{lit<, ap, ◌∙◌}
use Rattle.std.specs.Str.Iter.{split_text, split_has_more, split_pattern}
use Rattle.std.proofs.lemmas.Iterator.{YieldsList-from_take}
use Rattle.std.proofs.lemmas.Iterator.Consumers.{map_from_collect}
use Rattle.std.proofs.lemmas.Iterator.Splits.{YieldsList-from_str_split}
use Rattle.litmus_text.proofs.line.pieces_of_last.Goals as goal

pub returns : goal.returns
returns c =
    map_from_collect _ c.collect.ensures.ran
    (YieldsList-from_take 3
    (YieldsList-from_str_split 61 c.args.word.now (lit< tt) (ap split_text c.take.ensures.source ∙ c.split.ensures.text) (ap split_has_more c.take.ensures.source ∙ c.split.ensures.has_more) (ap split_pattern c.take.ensures.source ∙ c.split.ensures.pattern))
    c.take.ensures.count)
