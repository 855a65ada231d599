-- Why an input of `litmus` is refused, and where.
use Rattle.std.specs.Prelude.{ℕ, ◌+◌, ◌++◌, List, codes}
use Rattle.text_parts.specs.Lines.{Text, newlines, whole_line}
use Rattle.il_grammar.specs.Rule.{rule_word}
use Rattle.litmus_text.specs.declared.fault.LitmusRule.{LitmusRule}
use Rattle.litmus_text.specs.declared.fault.LitmusRule.TheVariants.{X, Grammar}

-- the word of the line between the program and the expectations
abbrev pub expect_word : Text
expect_word = codes "expect"

-- the words by which refusals name the rules
abbrev pub litmus_rule_word : LitmusRule → List ℕ
litmus_rule_word X = codes "X"
litmus_rule_word (Grammar rule) = rule_word rule

-- the line of the expectation of this number, counted over the whole input
abbrev pub expectation_line_number : Text → ℕ → ℕ
expectation_line_number program_text at = newlines (program_text ++ whole_line expect_word) + 1 + at
