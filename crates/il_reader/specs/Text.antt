-- Which texts are written as a text of the grammar, and what the first refusal of form of another is.
use Rattle.std.specs.Prelude.{◌≡◌, ℕ, ◌-◌, List, [], ◌∷◌, ◌++◌, map, length, get_or, Some, None, Result}
use Rattle.std.specs.List.{position}
use Rattle.token_machine.specs.Text.{Spells, IsFirstFault}
use Rattle.token_machine.specs.declared.fault.Fault.{Fault}
use Rattle.il_lexer.specs.declared.token.Token.{Token}
use Rattle.il_lexer.specs.Text.{is_foreign, Rest, at_end, stopped_at, Lexes}
use Rattle.il_grammar.specs.declared.syntax.Span.{Span}
use Rattle.il_grammar.specs.declared.syntax.RawText.{RawText}
use Rattle.il_grammar.specs.declared.rule.Rule.{Rule}
use Rattle.il_grammar.specs.declared.rule.Rule.TheVariants.{P1, P2, P3}
use Rattle.il_grammar.specs.Name.{name_text}
use Rattle.il_grammar.specs.Grammar.{TextTree, spelling}
use Rattle.il_grammar.specs.Mapped.{terminal_map}
use Rattle.il_grammar.specs.Reading.{text_tree_of}
use Rattle.il_reader.specs.declared.fault.InputFault.{InputFault}
use Rattle.il_reader.specs.Terminals.{terminals_of, after_header, has_fences}
use Rattle.il_reader.specs.Refusal.{Refusal, Answers, refusal_at}

abbrev pub unknown_start : Rest → List ℕ
unknown_start at_end = []
unknown_start (stopped_at at) = at ∷ []

-- where the terminals of a text begin
abbrev pub starts : List Token → Rest → List ℕ
starts tokens rest = map (λ t. t.start) tokens ++ unknown_start rest

-- the place of a terminal, or the end of the text
abbrev pub place_at : List ℕ → List Token → Rest → ℕ → ℕ
place_at bytes tokens rest index = get_or (starts tokens rest) index (length bytes)

-- the bytes are a text that is written so, with places for names
pub record Writes (bytes : List ℕ) (tree : TextTree Span) : Type 0 where
  pub tokens : List Token
  pub stop : Rest
  pub rest : List Token
  pub pure : position is_foreign bytes ≡ None
  pub lexed : Lexes 0 bytes tokens stop
  pub headed : after_header bytes tokens ≡ Some rest
  pub spelled : Spells spelling (terminals_of bytes (has_fences bytes tokens) rest stop) tree

-- the bytes are a text that is written so, with texts for names
pub record WritesNamed (bytes : List ℕ) (tree : TextTree (List ℕ)) : Type 0 where
  pub tokens : List Token
  pub stop : Rest
  pub rest : List Token
  pub pure : position is_foreign bytes ≡ None
  pub lexed : Lexes 0 bytes tokens stop
  pub headed : after_header bytes tokens ≡ Some rest
  pub spelled : Spells spelling (map (terminal_map (name_text bytes)) (terminals_of bytes (has_fences bytes tokens) rest stop)) tree

-- the first refusal of form: a foreign byte anywhere, then the header, then the first fault of the grammar
pub data IsFormRefusal (bytes : List ℕ) (r : Refusal Rule) : Type 0 where
  foreign : (at : ℕ) → position is_foreign bytes ≡ Some at → r ≡ refusal_at bytes P1 at → IsFormRefusal bytes r
  headless : (tokens : List Token) (stop : Rest) → position is_foreign bytes ≡ None → Lexes 0 bytes tokens stop → after_header bytes tokens ≡ None
      → r ≡ refusal_at bytes P2 (place_at bytes tokens stop 0) → IsFormRefusal bytes r
  faulty : (tokens : List Token) (stop : Rest) (rest : List Token) (f : Fault Rule)
      → position is_foreign bytes ≡ None → Lexes 0 bytes tokens stop → after_header bytes tokens ≡ Some rest
      → IsFirstFault spelling P3 (terminals_of bytes (has_fences bytes tokens) rest stop) f
      → r ≡ refusal_at bytes f.rule (place_at bytes tokens stop (length (starts tokens stop) - f.left)) → IsFormRefusal bytes r

-- the answer is the text as the bytes write it, or their first refusal of form
abbrev pub IsAnswer : List ℕ → Result RawText (InputFault Rule) → Type 0
IsAnswer bytes = Answers (λ x. Writes bytes (text_tree_of x)) (IsFormRefusal bytes)
