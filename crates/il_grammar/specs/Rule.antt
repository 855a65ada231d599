-- The words by which refusals name the rules of a text.
use Rattle.std.specs.Prelude.{ℕ, List, codes}
use Rattle.il_grammar.specs.declared.rule.Rule.{Rule}
use Rattle.il_grammar.specs.declared.rule.Rule.TheVariants.{P1, P2, P3, P4, P5, C1, C2, C3, C4, C5, C6, C7, C8}

abbrev pub rule_word : Rule → List ℕ
rule_word P1 = codes "P1"
rule_word P2 = codes "P2"
rule_word P3 = codes "P3"
rule_word P4 = codes "P4"
rule_word P5 = codes "P5"
rule_word C1 = codes "C1"
rule_word C2 = codes "C2"
rule_word C3 = codes "C3"
rule_word C4 = codes "C4"
rule_word C5 = codes "C5"
rule_word C6 = codes "C6"
rule_word C7 = codes "C7"
rule_word C8 = codes "C8"
