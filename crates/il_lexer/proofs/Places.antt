-- One blank, comment or token more, at a place in the text.
use Rattle.std.proofs.Common.{◌≡◌, ◌≢◌, ℕ, ◌+◌, ◌<◌, ◌≤◌, List, [], ◌∷◌, length, drop, get_or, Option, Some, None, true, false, refl, sym, ap, ◌∙◌, subst, arith, drop-drop, length-append, IfSome}
use Rattle.std.proofs.lemmas.List.{drop_all}
use Rattle.std.proofs.Math.Seq.{drop-append_seam}
use Rattle.std.specs.List.{prefix_len}
use Rattle.il_lexer.specs.declared.token.Token.{Token}
use Rattle.il_lexer.specs.declared.token.TokenKind.{TokenKind}
use Rattle.il_lexer.specs.declared.token.TokenKind.TheVariants.{Word, Number, Symbol}
use Rattle.il_lexer.specs.Lexeme.{is_lexeme, lexeme_of, BeginsNoToken}
use Rattle.il_lexer.specs.Text.{is_blank, in_line, Rest, at_end, ended, stopped_at, Lexes, comment, token, unknown}
use Rattle.il_lexer.proofs.Split.{cut, cut_rest, ends_line, first_and_rest}
use Rattle.il_lexer.proofs.Longest.{Found, Taken, taken}

pub comment_here : (bytes : List ℕ) (at n : ℕ) (ts : List Token) (stop : Rest) → at < length bytes → get_or bytes at 0 ≡ 35 → n ≡ prefix_len in_line (drop (at + 1) bytes) → Lexes (at + 1 + n) (drop (at + 1 + n) bytes) ts stop → Lexes at (drop at bytes) ts stop
comment_here bytes at n ts stop inside is len l =
    let after = drop (at + 1) bytes in
    let c = cut in_line after in
    let size : length c.front ≡ n = c.len ∙ sym len in
    let rest : drop (at + 1 + n) bytes ≡ c.rest = sym (drop-drop n (at + 1) bytes) ∙ ap (λ k. drop k after) len ∙ cut_rest in_line after c in
    comment c.front c.rest (first_and_rest bytes at 35 inside is ∙ ap (λ xs. 35 ∷ xs) c.whole) c.all (ends_line c.rest c.stops)
    (subst (λ k. Lexes (at + 1 + k) c.rest ts stop) (sym size) (subst (λ xs. Lexes (at + 1 + n) xs ts stop) rest l))

-- a token as its length tells
found_token : (bytes : List ℕ) (at : ℕ) (kind : TokenKind) (n : ℕ) (ts : List Token) (stop : Rest) → Found (drop at bytes) kind n → Lexes (at + n) (drop (at + n) bytes) ts stop → Lexes at (drop at bytes) (record { kind = kind; start = at; end = at + n } ∷ ts) stop
found_token bytes at kind n ts stop f l =
    let rest : drop (at + n) bytes ≡ f.rest = sym (drop-drop n at bytes) ∙ ap (λ k. drop k (drop at bytes)) (sym f.len) ∙ ap (drop (length f.text)) f.whole ∙ drop-append_seam f.text f.rest in
    subst (λ k. Lexes at (drop at bytes) (record { kind = kind; start = at; end = at + k } ∷ ts) stop) f.len
    (token f.text f.rest f.whole f.is f.longest (subst (λ k. Lexes (at + k) f.rest ts stop) (sym f.len) (subst (λ xs. Lexes (at + n) xs ts stop) rest l)))

pub token_here : (bytes : List ℕ) (at : ℕ) (kind : TokenKind) (n : ℕ) (ts : List Token) (stop : Rest) → lexeme_of (drop at bytes) ≡ Some (kind, n) → Lexes (at + n) (drop (at + n) bytes) ts stop → Lexes at (drop at bytes) (record { kind = kind; start = at; end = at + n } ∷ ts) stop
token_here bytes at kind n ts stop e l = found_token bytes at kind n ts stop (subst (Taken (drop at bytes)) e (taken (drop at bytes))) l

pub some_length : (kind : TokenKind) (text : List ℕ) → is_lexeme kind text ≡ true → 0 < length text
some_length Word [] is = absurd (cc)
some_length Number [] is = absurd (cc)
some_length Symbol [] is = absurd (cc)
some_length kind (b ∷ text) is = omega arith

pub token_some : (bytes : List ℕ) (o : Option (TokenKind × ℕ)) → o ≡ lexeme_of bytes → IfSome o (λ x. 0 < x.1)
token_some bytes None e = tt
token_some bytes (Some x) e =
    let f = subst (Taken bytes) (sym e) (taken bytes) in omega (arith, f.len, some_length x.0 f.text f.is)

pub token_within : (bytes : List ℕ) (o : Option (TokenKind × ℕ)) → o ≡ lexeme_of bytes → IfSome o (λ x. x.1 ≤ length bytes)
token_within bytes None e = tt
token_within bytes (Some x) e =
    let f = subst (Taken bytes) (sym e) (taken bytes) in
    omega (arith, f.len, ap length f.whole, length-append f.text f.rest)

pub unknown_here : (bytes : List ℕ) (at : ℕ) → at < length bytes → is_blank (get_or bytes at 0) ≡ false → get_or bytes at 0 ≢ 35 → lexeme_of (drop at bytes) ≡ None → Lexes at (drop at bytes) [] (stopped_at at)
unknown_here bytes at inside no_blank no_comment e =
    let here = first_and_rest bytes at _ inside refl in
    subst (λ xs. Lexes at xs [] (stopped_at at)) (sym here)
    (unknown no_blank no_comment (subst BeginsNoToken here (subst (Taken (drop at bytes)) e (taken (drop at bytes)))))

pub nothing_left : (bytes : List ℕ) (at : ℕ) → length bytes ≤ at → Lexes at (drop at bytes) [] at_end
nothing_left bytes at past = subst (λ xs. Lexes at xs [] at_end) (sym (drop_all at bytes past)) ended
