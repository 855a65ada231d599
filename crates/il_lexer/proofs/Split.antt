-- A list, cut where a test first fails.
use Rattle.std.proofs.Common.{◌≡◌, ℕ, suc, ◌+◌, ◌<◌, List, [], ◌∷◌, ◌++◌, length, drop, get_or, Bool, true, false, cond, ◌&&◌, refl, sym, ap, ◌∙◌, subst, arith, add-one, drop-cons}
use Rattle.std.specs.List.{list_all, prefix_len}
use Rattle.std.proofs.lemmas.Bool.Decides.{nat_tests}
use Rattle.std.proofs.Math.Seq.{drop-append_seam}
use Rattle.il_lexer.specs.declared.token.Token.{Token}
use Rattle.il_lexer.specs.Text.{is_blank, in_line, EndsLine, Rest, Lexes, blank}

-- the test fails at the front, if anything is there
abbrev pub StopsTest : (ℕ → Bool) → List ℕ → Type 0
StopsTest p [] = Unit {0}
StopsTest p (x ∷ xs) = p x ≡ false

pub record Cut (p : ℕ → Bool) (xs : List ℕ) : Type 0 where
  pub front : List ℕ
  pub rest : List ℕ
  pub whole : xs ≡ front ++ rest
  pub all : list_all p front ≡ true
  pub len : length front ≡ prefix_len p xs
  pub stops : StopsTest p rest

cut_cons : (p : ℕ → Bool) (x : ℕ) (xs : List ℕ) → Cut p xs → (b : Bool) → p x ≡ b → Cut p (x ∷ xs)
cut_cons p x xs c true e = record {
  front = x ∷ c.front;
  rest = c.rest;
  whole = ap (λ l. x ∷ l) c.whole;
  all = ap (λ b. b && list_all p c.front) e ∙ c.all;
  len = ap suc c.len ∙ omega arith ∙ sym (ap (λ b. cond b (1 + prefix_len p xs) 0) e);
  stops = c.stops;
}
cut_cons p x xs c false e = record {
  front = [];
  rest = x ∷ xs;
  whole = refl;
  all = refl;
  len = sym (ap (λ b. cond b (1 + prefix_len p xs) 0) e);
  stops = e;
}

pub cut : (p : ℕ → Bool) (xs : List ℕ) → Cut p xs
cut p [] = record { front = []; rest = []; whole = refl; all = refl; len = refl; stops = tt }
cut p (x ∷ xs) = cut_cons p x xs (cut p xs) (p x) refl

pub cut_rest : (p : ℕ → Bool) (xs : List ℕ) (c : Cut p xs) → drop (prefix_len p xs) xs ≡ c.rest
cut_rest p xs c = ap (λ n. drop n xs) (sym c.len) ∙ ap (drop (length c.front)) c.whole ∙ drop-append_seam c.front c.rest

is_newline : (b : ℕ) → in_line b ≡ false → b ≡ 10
is_newline b h = grind (arith, nat_tests)

pub ends_line : (rest : List ℕ) → StopsTest in_line rest → EndsLine rest
ends_line [] h = tt
ends_line (b ∷ bs) h = is_newline b h

pub first_and_rest : (bytes : List ℕ) (at b : ℕ) → at < length bytes → get_or bytes at 0 ≡ b → drop at bytes ≡ b ∷ drop (at + 1) bytes
first_and_rest bytes at b inside is = drop-cons bytes at 0 inside ∙ ap (λ x. x ∷ drop (suc at) bytes) is ∙ ap (λ n. b ∷ drop n bytes) (sym (add-one at))

-- one blank more
pub blank_here : (bytes : List ℕ) (at : ℕ) (ts : List Token) (stop : Rest) → at < length bytes → is_blank (get_or bytes at 0) ≡ true → Lexes (at + 1) (drop (at + 1) bytes) ts stop → Lexes at (drop at bytes) ts stop
blank_here bytes at ts stop inside is l =
    subst (λ bs. Lexes at bs ts stop) (sym (first_and_rest bytes at _ inside refl)) (blank is l)
