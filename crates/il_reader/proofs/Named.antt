-- Statements with texts for names, and without what begins no token.
use Rattle.std.proofs.Common.{◌≡◌, ℕ, Bool, false, List, [], ◌∷◌, map, refl, subst}
use Rattle.token_machine.specs.Text.{Spells}
use Rattle.il_lexer.specs.declared.token.Token.{Token}
use Rattle.il_lexer.specs.Text.{Rest, at_end, stopped_at}
use Rattle.il_grammar.specs.declared.syntax.Span.{Span}
use Rattle.il_grammar.specs.declared.terminal.Terminal.TheVariants as terminal
use Rattle.il_grammar.specs.Name.{name_text}
use Rattle.il_grammar.specs.Grammar.{TextTree, spelling}
use Rattle.il_grammar.specs.Mapped.{terminal_map, text_map}
use Rattle.il_grammar.proofs.Callers.{spelled_before, spelled_after, no_place, no_unknown}
use Rattle.il_reader.specs.Terminals.{terminal_of, terminals_of, with_fences, is_fence_word, has_fences}
use Rattle.il_reader.specs.Text.{Writes, WritesNamed}
use Rattle.il_reader.proofs.Fences.{with_unknown}

whole : (bytes : List ℕ) (fences : Bool) (rest : List Token) (stop : Rest) (xs : TextTree Span) → Spells spelling (terminals_of bytes fences rest stop) xs → stop ≡ at_end
whole bytes fences rest at_end xs p = refl
whole bytes fences rest (stopped_at at) xs p =
    absurd (no_unknown (terminal.Il ∷ terminal.Version ∷ with_fences (is_fence_word bytes fences) false (map (terminal_of bytes) rest)) [] xs
    (subst (λ ts. Spells spelling (terminal.Il ∷ terminal.Version ∷ ts) xs) (with_unknown (is_fence_word bytes fences) false (map (terminal_of bytes) rest)) p))

pub lexed_whole : (bytes : List ℕ) (xs : TextTree Span) (p : Writes bytes xs) → p.stop ≡ at_end
lexed_whole bytes xs p = whole bytes (has_fences bytes p.tokens) p.rest p.stop xs p.spelled

pub named_placed : (bytes : List ℕ) (tree : TextTree (List ℕ)) → WritesNamed bytes tree → (xs : TextTree Span) × Writes bytes xs × (text_map (name_text bytes) xs ≡ tree)
named_placed bytes tree p =
    let found = spelled_before (name_text bytes) no_place _ tree p.spelled in
    (found.0, record { tokens = p.tokens; stop = p.stop; rest = p.rest; pure = p.pure; lexed = p.lexed; headed = p.headed; spelled = found.1 }, found.2)

pub placed_named : (bytes : List ℕ) (tree : TextTree (List ℕ)) → (xs : TextTree Span) × Writes bytes xs × (text_map (name_text bytes) xs ≡ tree) → WritesNamed bytes tree
placed_named bytes tree (xs, p, e) =
    record {
      tokens = p.tokens;
      stop = p.stop;
      rest = p.rest;
      pure = p.pure;
      lexed = p.lexed;
      headed = p.headed;
      spelled = subst (λ t. Spells spelling (map (terminal_map (name_text bytes)) (terminals_of bytes (has_fences bytes p.tokens) p.rest p.stop)) t) e (spelled_after (name_text bytes) no_place _ xs p.spelled);
    }
