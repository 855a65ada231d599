-- Each text has tokens.
use Rattle.std.proofs.Common.{◌≡◌, ◌≢◌, ℕ, zero, suc, ◌+◌, ◌<◌, ◌≤◌, List, [], ◌∷◌, length, drop, get_or, Option, Some, None, Bool, true, false, nat_lt, ◌==◌, refl, sym, subst, arith}
use Rattle.std.proofs.lemmas.Bool.Decides.{nat_tests}
use Rattle.std.specs.List.{prefix_len}
use Rattle.il_lexer.specs.declared.token.Token.{Token}
use Rattle.il_lexer.specs.declared.token.TokenKind.{TokenKind}
use Rattle.il_lexer.specs.Lexeme.{lexeme_of}
use Rattle.il_lexer.specs.Text.{is_blank, in_line, Rest, at_end, stopped_at, Lexes, blank}
use Rattle.il_lexer.proofs.Split.{first_and_rest}
use Rattle.il_lexer.proofs.Places.{comment_here, token_here, token_some, unknown_here, nothing_left}

pub record Lexing (bytes : List ℕ) (at : ℕ) : Type 0 where
  pub tokens : List Token
  pub stop : Rest
  pub lexes : Lexes at (drop at bytes) tokens stop

is_hash : (b : ℕ) → (b == 35) ≡ true → b ≡ 35
is_hash b e = grind (arith, nat_tests)

is_no_hash : (b : ℕ) → (b == 35) ≡ false → b ≢ 35
is_no_hash b e h = grind (arith, nat_tests)

is_below : (a b : ℕ) → nat_lt a b ≡ true → a < b
is_below a b e = grind (arith, nat_tests)

is_not_below : (a b : ℕ) → nat_lt a b ≡ false → b ≤ a
is_not_below a b e = grind (arith, nat_tests)

module _ (bytes : List ℕ) (n at : ℕ) (near : length bytes ≤ at + suc n) (inside : at < length bytes) (next : (later : ℕ) → length bytes ≤ later + n → Lexing bytes later) where
  at_token : (kind : TokenKind) (len : ℕ) → lexeme_of (drop at bytes) ≡ Some (kind, len) → 0 < len → Lexing bytes at
  at_token kind len e some =
      let l = next (at + len) (omega (arith, near, some)) in
      record { tokens = record { kind = kind; start = at; end = at + len } ∷ l.tokens; stop = l.stop; lexes = token_here bytes at kind len l.tokens l.stop e l.lexes }

  at_lexeme : is_blank (get_or bytes at 0) ≡ false → get_or bytes at 0 ≢ 35 → (o : Option (TokenKind × ℕ)) → lexeme_of (drop at bytes) ≡ o → Lexing bytes at
  at_lexeme no_blank no_hash None e = record { tokens = []; stop = stopped_at at; lexes = unknown_here bytes at inside no_blank no_hash e }
  at_lexeme no_blank no_hash (Some x) e = at_token x.0 x.1 e (token_some (drop at bytes) (Some x) (sym e))

  at_visible : is_blank (get_or bytes at 0) ≡ false → (hash : Bool) → (get_or bytes at 0 == 35) ≡ hash → Lexing bytes at
  at_visible no_blank true e =
      let len = prefix_len in_line (drop (at + 1) bytes) in
      let l = next (at + 1 + len) (omega (arith, near)) in
      record { tokens = l.tokens; stop = l.stop; lexes = comment_here bytes at len l.tokens l.stop inside (is_hash (get_or bytes at 0) e) refl l.lexes }
  at_visible no_blank false e = at_lexeme no_blank (is_no_hash (get_or bytes at 0) e) (lexeme_of (drop at bytes)) refl

  at_byte : (b : Bool) → is_blank (get_or bytes at 0) ≡ b → Lexing bytes at
  at_byte true e =
      let l = next (at + 1) (omega (arith, near)) in
      record { tokens = l.tokens; stop = l.stop; lexes = subst (λ xs. Lexes at xs l.tokens l.stop) (sym (first_and_rest bytes at (get_or bytes at 0) inside refl)) (blank e l.lexes) }
  at_byte false e = at_visible e (get_or bytes at 0 == 35) refl

at_place : (bytes : List ℕ) (n at : ℕ) → length bytes ≤ at + suc n → ((later : ℕ) → length bytes ≤ later + n → Lexing bytes later) → (b : Bool) → nat_lt at (length bytes) ≡ b → Lexing bytes at
at_place bytes n at near next true e = at_byte bytes n at near (is_below at (length bytes) e) next (is_blank (get_or bytes at 0)) refl
at_place bytes n at near next false e = record { tokens = []; stop = at_end; lexes = nothing_left bytes at (is_not_below at (length bytes) e) }

lexing : (n : ℕ) (bytes : List ℕ) (at : ℕ) → length bytes ≤ at + n → Lexing bytes at
lexing zero bytes at near = record { tokens = []; stop = at_end; lexes = nothing_left bytes at (omega (arith, near)) }
lexing (suc n) bytes at near = at_place bytes n at near (λ later far. lexing n bytes later far) (nat_lt at (length bytes)) refl

pub each_text_lexes : (bytes : List ℕ) → Lexing bytes 0
each_text_lexes bytes = lexing (length bytes) bytes 0 (omega arith)
