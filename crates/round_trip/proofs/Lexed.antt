-- A text that is laid out so is written as the tree that its marked tokens spell.
use Rattle.std.proofs.Common.{◌≡◌, ℕ, ◌+◌, ◌-◌, List, [], ◌∷◌, ◌++◌, length, map, take, drop, Bool, true, false, cond, not, ◌&&◌, ltb, Some, None, refl, sym, ap, ◌∙◌, subst, append_assoc, arith, length-append}
use Rattle.std.proofs.lemmas.List.{take_at, drop_at, append-nil}
use Rattle.std.proofs.lemmas.Bool.{and_parts, and_from, cond_both, cond-true, cond-false, le-ltb}
use Rattle.std.proofs.lemmas.Bool.Decides.{nat_tests}
use Rattle.std.specs.List.{list_all, slice_range, position, position_or_len}
use Rattle.std.proofs.lemmas.List.Folds.{list_all-append}
use Rattle.std.specs.Prelude.{codes}
use Rattle.std.specs.Str.{bytes_eq}
use Rattle.values_undef.specs.Access.{is_fence_order}
use Rattle.token_machine.specs.Text.{WithinLimits, tokens_of, plain}
use Rattle.il_syntax.specs.Name.{is_letter, is_digit, is_word_byte}
use Rattle.il_lexer.specs.declared.token.Token.{Token}
use Rattle.il_lexer.specs.declared.token.TokenKind.{TokenKind}
use Rattle.il_lexer.specs.declared.token.TokenKind.TheVariants.{Word, Number, Symbol}
use Rattle.il_lexer.specs.Lexeme.{is_double, is_lexeme}
use Rattle.il_lexer.specs.Text.{is_blank, is_foreign, at_end, Lexes}
use Rattle.il_lexer.specs.Layout.{Printed, rendered, tokens_from, IsSeparated, IsLaidOut}
use Rattle.il_lexer.proofs.Callers.{laid_lexes, among}
use Rattle.il_grammar.specs.declared.syntax.Span.{Span}
use Rattle.il_grammar.specs.declared.terminal.Terminal.{Terminal}
use Rattle.il_grammar.specs.declared.terminal.Terminal.TheVariants as t
use Rattle.il_grammar.specs.Name.{name_text}
use Rattle.il_grammar.specs.Grammar.{Marks, TextTree, spelling}
use Rattle.il_grammar.specs.Mapped.{terminal_map}
use Rattle.il_reader.specs.Terminals.{of_kind, terminal_of, as_fence_order, is_name_with, with_fences, is_fence_word}
use Rattle.il_reader.specs.Text.{WritesNamed}
use Rattle.round_trip.proofs.Laid.{AreRead, without_fence, Laid}
use Rattle.round_trip.proofs.Fenced.{StandRight, fences_back}

-- the slice of the bytes that stand at a place is these bytes
slice_there : (front text rest : List ℕ) (at : ℕ) → length front ≡ at → slice_range (front ++ (text ++ rest)) at (at + length text) ≡ text
slice_there front text rest at here =
    let long : at + length text - at ≡ length text = omega arith in
    ap (λ n. take n (drop at (front ++ (text ++ rest)))) long
    ∙ ap (take (length text)) (drop_at front (text ++ rest) at here)
    ∙ take_at text rest (length text) refl

-- the terminals of the tokens, with texts for names
module _ (whole : List ℕ) where
  abbrev named : List Token → List (Terminal (List ℕ))
  named ts = map (terminal_map (name_text whole)) (map (terminal_of whole) ts)

  pub read_there : (ps : List Printed) (ms : Marks (List ℕ)) (front : List ℕ) (at : ℕ) → length front ≡ at → whole ≡ front ++ rendered ps → AreRead ps ms → named (tokens_from at ps) ≡ map without_fence (tokens_of ms)
  read_there [] [] front at here is r = refl
  read_there [] (m ∷ ms) front at here is r = absurd r
  read_there (p ∷ ps) [] front at here is r = absurd r
  read_there (p ∷ ps) (m ∷ ms) front at here is r =
      let slice : slice_range whole at (at + length p.text) ≡ p.text =
      ap (λ l. slice_range l at (at + length p.text)) is ∙ slice_there front p.text (p.blanks_after ++ rendered ps) at here in
      let span : Span = record { start = at; end = at + length p.text } in
      let first : terminal_map (name_text whole) (of_kind p.kind (slice_range whole at (at + length p.text)) span) ≡ without_fence m.token =
      ap (λ l. terminal_map (name_text whole) (of_kind p.kind l span)) slice ∙ r.0 (name_text whole) span slice in
      let behind : whole ≡ (front ++ (p.text ++ p.blanks_after)) ++ rendered ps =
      is ∙ ap (λ l. front ++ l) (sym (append_assoc p.text p.blanks_after (rendered ps))) ∙ sym (append_assoc front (p.text ++ p.blanks_after) (rendered ps)) in
      let two = length-append front (p.text ++ p.blanks_after) in
      let one = length-append p.text p.blanks_after in
      let place : length (front ++ (p.text ++ p.blanks_after)) ≡ at + length p.text + length p.blanks_after = omega (arith, two, one, here) in
      (λ i. first i ∷ read_there ps ms (front ++ (p.text ++ p.blanks_after)) (at + length p.text + length p.blanks_after) place behind r.2 i)

pub within_limits : (ps : List Printed) (ms : Marks (List ℕ)) → AreRead ps ms → WithinLimits ms
within_limits [] [] r = tt
within_limits [] (m ∷ ms) r = absurd r
within_limits (p ∷ ps) [] r = absurd r
within_limits (p ∷ ps) (m ∷ ms) r = (r.1, within_limits ps ms r.2)

-- no foreign byte stands in a text that is laid out

abbrev is_native : ℕ → Bool
is_native b = not (is_foreign b)

native_word_byte : (b : ℕ) → is_word_byte b ≡ true → is_native b ≡ true
native_word_byte b e = grind (arith, nat_tests)

native_letter : (b : ℕ) → is_letter b ≡ true → is_native b ≡ true
native_letter b e = grind (arith, nat_tests)

native_digit : (b : ℕ) → is_digit b ≡ true → is_native b ≡ true
native_digit b e = grind (arith, nat_tests)

native_blank : (b : ℕ) → is_blank b ≡ true → is_native b ≡ true
native_blank b e = grind (arith, nat_tests)

native_double : (b c : ℕ) → is_double b c ≡ true → (is_native b ≡ true) × (is_native c ≡ true)
native_double b c e = (grind (arith, nat_tests), grind (arith, nat_tests))

all_native : (test : ℕ → Bool) → ((b : ℕ) → test b ≡ true → is_native b ≡ true) → (bytes : List ℕ) → list_all test bytes ≡ true → list_all is_native bytes ≡ true
all_native test each [] e = refl
all_native test each (b ∷ bytes) e =
    let parts = and_parts (test b) (list_all test bytes) e in
    and_from (is_native b) (list_all is_native bytes) (each b parts.0) (all_native test each bytes parts.1)

native_lexeme : (kind : TokenKind) (text : List ℕ) → is_lexeme kind text ≡ true → list_all is_native text ≡ true
native_lexeme Word [] e = refl
native_lexeme Word (b ∷ bs) e =
    let parts = and_parts (is_letter b) (list_all is_word_byte bs) e in
    and_from (is_native b) (list_all is_native bs) (native_letter b parts.0) (all_native is_word_byte native_word_byte bs parts.1)
native_lexeme Number [] e = refl
native_lexeme Number (b ∷ bs) e =
    let parts = and_parts (is_digit b) (list_all is_digit bs) e in
    and_from (is_native b) (list_all is_native bs) (native_digit b parts.0) (all_native is_digit native_digit bs parts.1)
native_lexeme Symbol [] e = refl
native_lexeme Symbol (b ∷ []) e = and_from (is_native b) true (among is_native b (codes "(){},;=+-*/%&|^<") e refl) refl
native_lexeme Symbol (b ∷ c ∷ []) e =
    let both = native_double b c e in and_from (is_native b) (is_native c && true) both.0 (and_from (is_native c) true both.1 refl)
native_lexeme Symbol (b ∷ c ∷ d ∷ bs) e = absurd (cc)

native_rendered : (ps : List Printed) → IsLaidOut ps → list_all is_native (rendered ps) ≡ true
native_rendered [] laid = refl
native_rendered (p ∷ ps) laid =
    list_all-append is_native p.text (p.blanks_after ++ rendered ps)
    ∙ and_from (list_all is_native p.text) (list_all is_native (p.blanks_after ++ rendered ps)) (native_lexeme p.kind p.text laid.0)
    (list_all-append is_native p.blanks_after (rendered ps)
    ∙ and_from (list_all is_native p.blanks_after) (list_all is_native (rendered ps)) (all_native is_blank native_blank p.blanks_after laid.1) (native_rendered ps laid.3))

native_length : (bytes : List ℕ) → list_all is_native bytes ≡ true → position_or_len is_foreign bytes ≡ length bytes
native_length [] e = refl
native_length (b ∷ bytes) e =
    let parts = and_parts (is_native b) (list_all is_native bytes) e in
    cond-true (is_native b) (1 + position_or_len is_foreign bytes) 0 parts.0
    ∙ ap (λ n. 1 + n) (native_length bytes parts.1)
    ∙ omega arith

native_pure : (bytes : List ℕ) → list_all is_native bytes ≡ true → position is_foreign bytes ≡ None
native_pure bytes e =
    let here = native_length bytes e in
    cond-false (ltb (position_or_len is_foreign bytes) (length bytes)) (Some (position_or_len is_foreign bytes)) None
    (le-ltb (position_or_len is_foreign bytes) (length bytes) (omega (arith, here)))

-- texts for names, before or after it is known what stands behind the word `fence`

as_named : {N M : Type 0} (f : N → M) (behind : Bool) (x : Terminal N) → terminal_map f (as_fence_order behind x) ≡ as_fence_order behind (terminal_map f x)
as_named f behind (t.OrderWord o w) =
    cond_both (behind && is_fence_order o) (t.FenceOrder o w) (t.OrderWord o w) (λ x. terminal_map f x ≡ cond (behind && is_fence_order o) (t.FenceOrder o (f w)) (t.OrderWord o (f w)))
    (λ e. sym (cond-true (behind && is_fence_order o) (t.FenceOrder o (f w)) (t.OrderWord o (f w)) e))
    (λ e. sym (cond-false (behind && is_fence_order o) (t.FenceOrder o (f w)) (t.OrderWord o (f w)) e))
as_named f behind x = refl

is_named : {N M : Type 0} (f : N → M) (test : M → Bool) (x : Terminal N) → is_name_with (λ n. test (f n)) x ≡ is_name_with test (terminal_map f x)
is_named f test (t.Name n) = refl
is_named f test x = refl

with_named : {N M : Type 0} (f : N → M) (test : M → Bool) (behind : Bool) (xs : List (Terminal N)) → map (terminal_map f) (with_fences (λ n. test (f n)) behind xs) ≡ with_fences test behind (map (terminal_map f) xs)
with_named f test behind [] = refl
with_named f test behind (x ∷ xs) =
    (λ i. as_named f behind x i ∷ with_named f test (is_name_with (λ n. test (f n)) x) xs i)
    ∙ ap (λ b. as_fence_order behind (terminal_map f x) ∷ with_fences test b (map (terminal_map f) xs)) (is_named f test x)

-- the word `fence`, where it is looked for
abbrev pub is_fence_text : Bool → List ℕ → Bool
is_fence_text fences text = fences && bytes_eq text (codes "fence")

-- the header, and a text after it that begins with a new line
abbrev pub header : Bool → List ℕ
header false = codes "il 1"
header true = codes "il 2"

-- the terminals after the header
read_named : (bytes : List ℕ) (fences : Bool) (ps : List Printed) (ms : Marks (List ℕ)) (front : List ℕ) (at : ℕ) → length front ≡ at → bytes ≡ front ++ rendered ps → AreRead ps ms → StandRight (is_fence_text fences) false (tokens_of ms)
    → map (terminal_map (name_text bytes)) (with_fences (is_fence_word bytes fences) false (map (terminal_of bytes) (tokens_from at ps) ++ [])) ≡ tokens_of ms
read_named bytes fences ps ms front at here same read right =
    ap (λ ts. map (terminal_map (name_text bytes)) (with_fences (is_fence_word bytes fences) false ts)) (append-nil (map (terminal_of bytes) (tokens_from at ps)))
    ∙ with_named (name_text bytes) (is_fence_text fences) false (map (terminal_of bytes) (tokens_from at ps))
    ∙ ap (with_fences (is_fence_text fences) false) (read_there bytes ps ms front at here same read)
    ∙ fences_back (is_fence_text fences) false (tokens_of ms) right

pub written : (fences : Bool) (rest : List ℕ) (ms : Marks (List ℕ)) (tree : TextTree (List ℕ)) → spelling tree ≡ plain t.Il ∷ plain t.Version ∷ ms → Laid (10 ∷ rest) ms → StandRight (is_fence_text fences) false (tokens_of ms)
    → WritesNamed (header fences ++ 10 ∷ rest) tree
written false rest ms tree spelled l right =
    let bytes = codes "il 1" ++ 10 ∷ rest in
    let il : Printed = record { kind = Word; text = codes "il"; blanks_after = codes " " } in
    let version : Printed = record { kind = Number; text = codes "1"; blanks_after = l.lead } in
    let all = il ∷ version ∷ l.pieces in
    let same : bytes ≡ rendered all = ap (λ b. codes "il 1" ++ b) l.text in
    let front = codes "il 1" ++ l.lead in
    let apart : IsSeparated Number (codes "1") (l.lead ++ rendered l.pieces) = subst (IsSeparated Number (codes "1")) l.text refl in
    let laid : IsLaidOut all = (refl, refl, refl, (refl, l.blanks, apart, l.laid)) in
    let at = 4 + length l.lead in
    let here : length front ≡ at = omega arith in
    record {
      tokens = tokens_from 0 all;
      stop = at_end;
      rest = tokens_from at l.pieces;
      pure = native_pure bytes (ap (list_all is_native) same ∙ native_rendered all laid);
      lexed = subst (λ b. Lexes 0 b (tokens_from 0 all) at_end) (sym same) (laid_lexes all 0 laid);
      headed = refl;
      spelled = record {
        tokens = ap tokens_of spelled ∙ sym (ap (λ ts. t.Il ∷ t.Version ∷ ts) (read_named bytes false l.pieces ms front at here same l.read right));
        within = subst WithinLimits (sym spelled) (refl, (refl, within_limits l.pieces ms l.read));
      };
    }
written true rest ms tree spelled l right =
    let bytes = codes "il 2" ++ 10 ∷ rest in
    let il : Printed = record { kind = Word; text = codes "il"; blanks_after = codes " " } in
    let version : Printed = record { kind = Number; text = codes "2"; blanks_after = l.lead } in
    let all = il ∷ version ∷ l.pieces in
    let same : bytes ≡ rendered all = ap (λ b. codes "il 2" ++ b) l.text in
    let front = codes "il 2" ++ l.lead in
    let apart : IsSeparated Number (codes "2") (l.lead ++ rendered l.pieces) = subst (IsSeparated Number (codes "2")) l.text refl in
    let laid : IsLaidOut all = (refl, refl, refl, (refl, l.blanks, apart, l.laid)) in
    let at = 4 + length l.lead in
    let here : length front ≡ at = omega arith in
    record {
      tokens = tokens_from 0 all;
      stop = at_end;
      rest = tokens_from at l.pieces;
      pure = native_pure bytes (ap (list_all is_native) same ∙ native_rendered all laid);
      lexed = subst (λ b. Lexes 0 b (tokens_from 0 all) at_end) (sym same) (laid_lexes all 0 laid);
      headed = refl;
      spelled = record {
        tokens = ap tokens_of spelled ∙ sym (ap (λ ts. t.Il ∷ t.Version ∷ ts) (read_named bytes true l.pieces ms front at here same l.read right));
        within = subst WithinLimits (sym spelled) (refl, (refl, within_limits l.pieces ms l.read));
      };
    }
