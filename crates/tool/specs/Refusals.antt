-- The line of a refusal, and the refusals of texts.
use Rattle.std.specs.Prelude.{◌≡◌, ℕ, List, ◌++◌, codes}
use Rattle.std.specs.Fmt.{decimal}
use Rattle.il_grammar.specs.Rule.{rule_word}
use Rattle.il_grammar.specs.declared.rule.Rule.{Rule}
use Rattle.il_reader.specs.Refusal.{Refusal}
use Rattle.il_parser.specs.Text.{IsFirstRefusal}
use Rattle.tool.specs.declared.status.Status.{Status}
use Rattle.tool.specs.declared.status.Status.TheVariants as status

-- `refused`, the rule that is broken, and where
abbrev pub refusal_line : List ℕ → ℕ → ℕ → List ℕ
refusal_line rule line column = codes "refused " ++ (rule ++ (codes " line " ++ (decimal line ++ (codes " column " ++ (decimal column ++ codes "\n")))))

-- an input that is longer than its limit
abbrev pub too_long_line : List ℕ
too_long_line = codes "refused P6 line 1 column 1\n"

-- the most bytes of a text
abbrev pub text_limit : ℕ
text_limit = 1048576

-- The bytes are the text of no program; the output says which rule they break first, and where.
pub record IsTextRefusal (bytes out : List ℕ) (result : Status) : Type 0 where
  pub refusal : Refusal Rule
  pub first : IsFirstRefusal bytes refusal
  pub written : out ≡ refusal_line (rule_word refusal.rule) refusal.line refusal.column
  pub status : result ≡ status.Input

abbrev pub HasTextRefusal : List ℕ → Type 0
HasTextRefusal bytes = (r : Refusal Rule) × IsFirstRefusal bytes r
