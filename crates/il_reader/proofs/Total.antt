-- Each text spells statements or has a first refusal.
use Rattle.std.proofs.Common.{◌≡◌, ◌⊎◌, inl, inr, List, ℕ, Option, Some, None, refl}
use Rattle.std.specs.List.{position}
use Rattle.token_machine.specs.declared.fault.Fault.{Fault}
use Rattle.token_machine.specs.Text.{Spells, IsFirstFault}
use Rattle.token_machine.proofs.Callers.{spelled_or_faulty}
use Rattle.il_lexer.specs.declared.token.Token.{Token}
use Rattle.il_lexer.specs.Text.{is_foreign, Rest, Lexes}
use Rattle.il_lexer.proofs.Callers.{each_text_lexes}
use Rattle.il_grammar.specs.declared.syntax.Span.{Span}
use Rattle.il_grammar.specs.declared.rule.Rule.{Rule}
use Rattle.il_grammar.specs.declared.rule.Rule.TheVariants.{P3}
use Rattle.il_grammar.specs.Grammar.{TextTree, spelling}
use Rattle.il_grammar.proofs.Callers.{reads, no_place}
use Rattle.il_reader.specs.Refusal.{Refusal}
use Rattle.il_reader.specs.Terminals.{terminals_of, after_header, has_fences}
use Rattle.il_reader.specs.Text.{Writes, IsFormRefusal, foreign, headless, faulty}

module _ (bytes : List ℕ) where
  abbrev pub HasAnswer : Type 0
  HasAnswer = ((xs : TextTree Span) × Writes bytes xs) ⊎ ((r : Refusal Rule) × IsFormRefusal bytes r)

  in_sentence : (tokens : List Token) (stop : Rest) (rest : List Token) → position is_foreign bytes ≡ None → Lexes 0 bytes tokens stop → after_header bytes tokens ≡ Some rest → ((xs : TextTree Span) × Spells spelling (terminals_of bytes (has_fences bytes tokens) rest stop) xs) ⊎ ((f : Fault Rule) × IsFirstFault spelling P3 (terminals_of bytes (has_fences bytes tokens) rest stop) f) → HasAnswer
  in_sentence tokens stop rest pure l h (inl (xs, p)) = inl (xs, record { tokens = tokens; stop = stop; rest = rest; pure = pure; lexed = l; headed = h; spelled = p })
  in_sentence tokens stop rest pure l h (inr (f, p)) = inr (_, faulty tokens stop rest f pure l h p refl)

  in_tokens : (tokens : List Token) (stop : Rest) → position is_foreign bytes ≡ None → Lexes 0 bytes tokens stop → (o : Option (List Token)) → after_header bytes tokens ≡ o → HasAnswer
  in_tokens tokens stop pure l None h = inr (_, headless tokens stop pure l h refl)
  in_tokens tokens stop pure l (Some rest) h = in_sentence tokens stop rest pure l h (spelled_or_faulty P3 (reads no_place) (terminals_of bytes (has_fences bytes tokens) rest stop))

  in_bytes : (o : Option ℕ) → position is_foreign bytes ≡ o → HasAnswer
  in_bytes (Some at) e = inr (_, foreign at e refl)
  in_bytes None e = let l = each_text_lexes bytes in in_tokens l.tokens l.stop e l.lexes (after_header bytes l.tokens) refl

  pub each_text : HasAnswer
  each_text = in_bytes (position is_foreign bytes) refl
