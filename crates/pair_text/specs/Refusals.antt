-- Why an input of two programs is refused, and where.
use Rattle.std.specs.Prelude.{◌++◌, List, ℕ, codes}
use Rattle.text_parts.specs.Lines.{Text, whole_line}
use Rattle.il_grammar.specs.Rule.{rule_word}
use Rattle.pair_text.specs.declared.fault.PairRule.{PairRule}
use Rattle.pair_text.specs.declared.fault.PairRule.TheVariants.{T, Grammar}

-- the word of the line between the two texts
abbrev pub target_word : Text
target_word = codes "target"

-- the words by which refusals name the rules
abbrev pub pair_rule_word : PairRule → List ℕ
pair_rule_word T = codes "T"
pair_rule_word (Grammar rule) = rule_word rule

-- what stands before the target
abbrev pub before_target : Text → Text
before_target source = source ++ whole_line target_word
