-- The words of a text at which a check can be answered, in the order in which they stand.
use Rattle.std.proofs.Common.{◌≡◌, ℕ, ◌<◌, ◌≤◌, List, [], ◌∷◌, ◌++◌, map, length, Bool, true, false, cond, codes, Option, Some, None, refl, subst, sym, arith}
use Rattle.std.specs.Str.{bytes_eq}
use Rattle.std.specs.Prelude.{◌&&◌}
use Rattle.std.proofs.lemmas.Bool.{cond_both}
use Rattle.values_undef.specs.Access.{is_fence_order}
use Rattle.token_machine.specs.Text.{tokens_of}
use Rattle.values_undef.specs.declared.access.Order.TheVariants.{Rlx, Acq, Rel, AcqRel}
use Rattle.values_undef.specs.declared.arithmetic.Op.TheVariants as ops
use Rattle.il_lexer.specs.declared.token.Token.{Token}
use Rattle.il_lexer.specs.declared.token.TokenKind.{TokenKind}
use Rattle.il_lexer.specs.declared.token.TokenKind.TheVariants as kinds
use Rattle.il_lexer.specs.Text.{Rest, at_end, stopped_at}
use Rattle.il_lexer.specs.Slices.{AreTokensOf, end_of}
use Rattle.il_lexer.proofs.Callers.{slices}
use Rattle.il_grammar.specs.declared.syntax.Span.{Span}
use Rattle.il_grammar.specs.declared.terminal.Terminal.{Terminal}
use Rattle.il_grammar.specs.declared.terminal.Terminal.TheVariants as t
use Rattle.il_grammar.specs.Grammar.{Marks, TextTree, spelling}
use Rattle.il_reader.specs.Terminals.{word_of, symbol_terminal, of_kind, terminal_of, unknown_terminal, after_header, text_of, has_fences, as_fence_order, is_name_with, with_fences, is_fence_word}
use Rattle.il_reader.specs.Text.{Writes}
use Rattle.il_reader.proofs.Callers.{lexed_whole, span_of, HasPlace, no_place, own_place, place_of_kind}

-- a place comes after another, and has room for a byte
abbrev pub Comes : ℕ → Option Span → Type 0
Comes low None = Unit {0}
Comes low (Some s) = (low ≤ s.start) × (s.start < s.end)

abbrev pub past : ℕ → Option Span → ℕ
past low None = low
past low (Some s) = s.end

-- the places of terminals rise from one place to another
abbrev pub AreRising : ℕ → ℕ → List (Terminal Span) → Type 0
AreRising high low [] = low ≤ high
AreRising high low (x ∷ xs) = Comes low (span_of x) × AreRising high (past low (span_of x)) xs

abbrev pub Rising : ℕ → ℕ → Marks Span → Type 0
Rising high low marks = AreRising high low (tokens_of marks)

comes_next : (high low : ℕ) (s : Span) (x : Terminal Span) (xs : List (Terminal Span)) → HasPlace s x → low ≤ s.start → s.start < s.end → ((from : ℕ) → from ≤ s.end → AreRising high from xs) → AreRising high low (x ∷ xs)
comes_next high low s x xs (no_place e) after some more =
    subst (λ o. Comes low o × AreRising high (past low o) xs) (sym e) (tt, more low (omega arith))
comes_next high low s x xs (own_place e) after some more =
    subst (λ o. Comes low o × AreRising high (past low o) xs) (sym e) ((after, some), more s.end (omega arith))

unknown_rises : (high low : ℕ) (stop : Rest) → low ≤ high → AreRising high low (unknown_terminal stop)
unknown_rises high low at_end h = h
unknown_rises high low (stopped_at at) h = (tt, h)

module _ (bytes : List ℕ) (stop : Rest) where
  tokens_rise : (ts : List Token) (to from low : ℕ) → low ≤ from → to ≤ length bytes → AreTokensOf bytes from ts to → AreRising (length bytes) low (map (terminal_of bytes) ts ++ unknown_terminal stop)
  tokens_rise [] to from low below inside all = unknown_rises (length bytes) low stop (omega (arith, all.0))
  tokens_rise (x ∷ ts) to from low below inside all =
      comes_next (length bytes) low (record { start = x.start; end = x.end }) (terminal_of bytes x) (map (terminal_of bytes) ts ++ unknown_terminal stop)
      (place_of_kind x.kind (text_of bytes x) (record { start = x.start; end = x.end })) (omega (arith, all.0)) all.2.some
      (λ next h. tokens_rise ts to x.end next h inside all.3)

-- An order of a fence has the place of the order.

span_same : (behind : Bool) (x : Terminal Span) → span_of (as_fence_order behind x) ≡ span_of x
span_same behind (t.OrderWord o w) = cond_both (behind && is_fence_order o) (t.FenceOrder o w) (t.OrderWord o w) (λ x. span_of x ≡ Some w) (λ _. refl) (λ _. refl)
span_same behind x = refl

fences_rise : (test : Span → Bool) (behind : Bool) (high low : ℕ) (xs : List (Terminal Span)) → AreRising high low xs → AreRising high low (with_fences test behind xs)
fences_rise test behind high low [] h = h
fences_rise test behind high low (x ∷ xs) h =
    subst (λ o. Comes low o × AreRising high (past low o) (with_fences test (is_name_with test x) xs)) (sym (span_same behind x))
    (h.0, fences_rise test (is_name_with test x) high (past low (span_of x)) xs h.1)

-- After the header.

chosen : {X : Type 0} (b : Bool) (x y : X) → cond b (Some x) None ≡ Some y → x ≡ y
chosen true x y e = cc
chosen false x y e = absurd (cc)

pub tokens_after_header : (bytes : List ℕ) (to : ℕ) (tokens rest : List Token) → after_header bytes tokens ≡ Some rest → AreTokensOf bytes 0 tokens to → (from : ℕ) × AreTokensOf bytes from rest to
tokens_after_header bytes to [] rest e all = absurd (cc)
tokens_after_header bytes to (x ∷ []) rest e all = absurd (cc)
tokens_after_header bytes to (x ∷ y ∷ ts) rest e all = (y.end, subst (λ l. AreTokensOf bytes y.end l to) (chosen _ ts rest e) all.3.3)

-- the tokens after the header of a text that is written
pub written_tokens : (bytes : List ℕ) (tree : TextTree Span) (w : Writes bytes tree) → (from : ℕ) × AreTokensOf bytes from w.rest (length bytes)
written_tokens bytes tree w =
    tokens_after_header bytes (length bytes) w.tokens w.rest w.headed
    (subst (λ stop. AreTokensOf bytes 0 w.tokens (end_of bytes stop)) (lexed_whole bytes tree w) (slices bytes w.lexed refl (omega arith)))

pub written_rises : (bytes : List ℕ) (tree : TextTree Span) → Writes bytes tree → Rising (length bytes) 0 (spelling tree)
written_rises bytes tree w =
    let tokens = written_tokens bytes tree w in
    subst (AreRising (length bytes) 0) (sym w.spelled.tokens) (
      tt,
      (
        tt,
        fences_rise (is_fence_word bytes (has_fences bytes w.tokens)) false (length bytes) 0 (map (terminal_of bytes) w.rest ++ unknown_terminal w.stop)
            (tokens_rise bytes w.stop w.rest (length bytes) tokens.0 0 (omega arith) (omega arith) tokens.1),
      ),
    )
