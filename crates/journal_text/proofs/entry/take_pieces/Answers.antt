use Rattle.std.proofs.Common.{lit<, ap, ◌∙◌, ◌++◌, map, List}
use Rattle.std.specs.Borrow.{Bor}
use Rattle.std.specs.Str.Iter.{split_text, split_has_more, split_pattern}
use Rattle.std.proofs.lemmas.Iterator.{YieldsList-from_take}
use Rattle.std.proofs.lemmas.Iterator.Adapters.{fact_from_extend}
use Rattle.std.proofs.lemmas.Iterator.Consumers.{YieldsList-at}
use Rattle.std.proofs.lemmas.Iterator.Splits.{YieldsList-from_str_split}
use Rattle.text_parts.specs.Lines.{Text}
use Rattle.journal_text.proofs.entry.take_pieces.Goals as goal

pub returns : goal.returns
returns c =
    let road =
    YieldsList-from_take 9
    (YieldsList-from_str_split 32 c.args.line.now (lit< tt) (ap split_text c.take.ensures.source ∙ c.split.ensures.text) (ap split_has_more c.take.ensures.source ∙ c.split.ensures.has_more) (ap split_pattern c.take.ensures.source ∙ c.split.ensures.pattern))
    c.take.ensures.count in
    fact_from_extend (λ (x : Bor Text). x.now) c.extend.result c.extend.ensures.ran (λ it b. YieldsList-at b road)
    (λ xs e h. ap (λ (ys : List (Bor Text)). map (λ x. x.now) ys) (h.0 ∙ ap (λ (ys : List (Bor Text)). ys ++ xs) c.clear.ensures.items) ∙ e)
