-- The token that is taken is the longest.
use Rattle.std.proofs.Common.{◌≡◌, ℕ, suc, List, [], ◌∷◌, ◌++◌, length, Option, Some, None, Bool, true, false, cond, ◌&&◌, refl, sym, ap, ◌∙◌, subst, arith}
use Rattle.std.proofs.lemmas.Bool.Decides.{nat_tests}
use Rattle.std.proofs.lemmas.List.Folds.{list_all-append}
use Rattle.std.specs.List.{list_all, prefix_len}
use Rattle.il_lexer.specs.declared.token.TokenKind.{TokenKind}
use Rattle.il_lexer.specs.declared.token.TokenKind.TheVariants.{Word, Number, Symbol}
use Rattle.il_syntax.specs.Name.{is_letter, is_digit, is_word_byte}
use Rattle.il_lexer.specs.Lexeme.{is_single, is_double, is_lexeme, IsLongest, BeginsNoToken, single_of, symbol_of, lexeme_of}
use Rattle.il_lexer.proofs.Split.{cut, StopsTest}

pub both : (a b : Bool) → a && b ≡ true → (a ≡ true) × (b ≡ true)
both true b h = (refl, h)
both false b h = absurd (cc)

pub letter_no_digit : (b : ℕ) → is_letter b ≡ true → is_digit b ≡ true → ⊥
letter_no_digit b l d = grind (arith, nat_tests)

pub double_no_letter : (b c : ℕ) → is_double b c ≡ true → is_letter b ≡ true → ⊥
double_no_letter b c d l = grind (arith, nat_tests)

pub double_no_digit : (b c : ℕ) → is_double b c ≡ true → is_digit b ≡ true → ⊥
double_no_digit b c d l = grind (arith, nat_tests)

pub clash : (b : Bool) → b ≡ true → b ≡ false → ⊥
clash b t f = cc

-- the front of a list in which all pass stops at what fails
not_past : (p : ℕ → Bool) (front : List ℕ) (x : ℕ) (more : List ℕ) → p x ≡ false → list_all p (front ++ x ∷ more) ≡ true → ⊥
not_past p front x more fails all =
    let parts = both (list_all p front) (list_all p (x ∷ more)) (sym (list_all-append p front (x ∷ more)) ∙ all) in
    clash (p x) ((both (p x) (list_all p more) parts.1).0) fails

-- a symbol of two bytes or more begins with two that are one
two_bytes : (b c : ℕ) (bs : List ℕ) → is_lexeme Symbol (b ∷ c ∷ bs) ≡ true → is_double b c ≡ true
two_bytes b c [] h = h
two_bytes b c (d ∷ bs) h = absurd (cc)

longer_symbol : (b : ℕ) (front : List ℕ) (x : ℕ) (more : List ℕ) → is_lexeme Symbol (b ∷ (front ++ x ∷ more)) ≡ true → (c : ℕ) × (is_double b c ≡ true)
longer_symbol b [] x more h = (x, two_bytes b x more h)
longer_symbol b (c ∷ front) x more h = (c, two_bytes b c (front ++ x ∷ more) h)

stops_at : (p : ℕ → Bool) (rest : List ℕ) (x : ℕ) (xs : List ℕ) → rest ≡ x ∷ xs → StopsTest p rest → p x ≡ false
stops_at p rest x xs e h = subst (StopsTest p) e h

-- a token at the front
pub record Found (bytes : List ℕ) (kind : TokenKind) (n : ℕ) : Type 0 where
  pub text : List ℕ
  pub rest : List ℕ
  pub whole : bytes ≡ text ++ rest
  pub len : length text ≡ n
  pub is : is_lexeme kind text ≡ true
  pub longest : IsLongest text rest

pub word_longest : (b : ℕ) (front rest : List ℕ) → is_letter b ≡ true → StopsTest is_word_byte rest → IsLongest (b ∷ front) rest
word_longest b front rest l stops Word x more others e is =
    not_past is_word_byte front x more (stops_at is_word_byte rest x _ e stops) ((both (is_letter b) _ is).1)
word_longest b front rest l stops Number x more others e is = letter_no_digit b l ((both (is_digit b) _ is).0)
word_longest b front rest l stops Symbol x more others e is = let d = longer_symbol b front x more is in double_no_letter b d.0 d.1 l

pub number_longest : (b : ℕ) (front rest : List ℕ) → is_letter b ≡ false → is_digit b ≡ true → StopsTest is_digit rest → IsLongest (b ∷ front) rest
number_longest b front rest l d stops Word x more others e is = clash (is_letter b) ((both (is_letter b) _ is).0) l
number_longest b front rest l d stops Number x more others e is =
    not_past is_digit front x more (stops_at is_digit rest x _ e stops) ((both (is_digit b) _ is).1)
number_longest b front rest l d stops Symbol x more others e is = let s = longer_symbol b front x more is in double_no_digit b s.0 s.1 d

pub double_longest : (b c : ℕ) (rest : List ℕ) → is_letter b ≡ false → is_digit b ≡ false → IsLongest (b ∷ c ∷ []) rest
double_longest b c rest l d Word x more others e is = clash (is_letter b) ((both (is_letter b) _ is).0) l
double_longest b c rest l d Number x more others e is = clash (is_digit b) ((both (is_digit b) _ is).0) d
double_longest b c rest l d Symbol x more others e is = cc

-- what follows makes no symbol of two bytes
abbrev pub NoDouble : ℕ → List ℕ → Type 0
NoDouble b [] = Unit {0}
NoDouble b (c ∷ cs) = is_double b c ≡ false

pub single_longest : (b : ℕ) (rest : List ℕ) → is_letter b ≡ false → is_digit b ≡ false → NoDouble b rest → IsLongest (b ∷ []) rest
single_longest b rest l d n Word x more others e is = clash (is_letter b) ((both (is_letter b) _ is).0) l
single_longest b rest l d n Number x more others e is = clash (is_digit b) ((both (is_digit b) _ is).0) d
single_longest b rest l d n Symbol x more others e is = clash (is_double b x) (two_bytes b x more is) (subst (NoDouble b) e n)

word_found : (b : ℕ) (bs : List ℕ) → is_letter b ≡ true → Found (b ∷ bs) Word (suc (prefix_len is_word_byte bs))
word_found b bs l =
    let c = cut is_word_byte bs in
    record {
      text = b ∷ c.front;
      rest = c.rest;
      whole = ap (λ xs. b ∷ xs) c.whole;
      len = ap suc c.len;
      is = ap (λ t. t && list_all is_word_byte c.front) l ∙ c.all;
      longest = word_longest b c.front c.rest l c.stops;
    }

number_found : (b : ℕ) (bs : List ℕ) → is_letter b ≡ false → is_digit b ≡ true → Found (b ∷ bs) Number (suc (prefix_len is_digit bs))
number_found b bs l d =
    let c = cut is_digit bs in
    record {
      text = b ∷ c.front;
      rest = c.rest;
      whole = ap (λ xs. b ∷ xs) c.whole;
      len = ap suc c.len;
      is = ap (λ t. t && list_all is_digit c.front) d ∙ c.all;
      longest = number_longest b c.front c.rest l d c.stops;
    }

-- what a token or none at the front says
abbrev pub Taken : List ℕ → Option (TokenKind × ℕ) → Type 0
Taken bytes None = BeginsNoToken bytes
Taken bytes (Some x) = Found bytes x.0 x.1

no_single : (b : ℕ) (bs : List ℕ) → is_letter b ≡ false → is_digit b ≡ false → is_single b ≡ false → NoDouble b bs → BeginsNoToken (b ∷ bs)
no_single b bs l d s n Word [] rest e is = cc
no_single b bs l d s n Word (x ∷ text) rest e is = let same : b ≡ x = cc in clash (is_letter x) ((both (is_letter x) _ is).0) (subst (λ y. is_letter y ≡ false) same l)
no_single b bs l d s n Number [] rest e is = cc
no_single b bs l d s n Number (x ∷ text) rest e is = let same : b ≡ x = cc in clash (is_digit x) ((both (is_digit x) _ is).0) (subst (λ y. is_digit y ≡ false) same d)
no_single b bs l d s n Symbol [] rest e is = cc
no_single b bs l d s n Symbol (x ∷ []) rest e is = let same : b ≡ x = cc in clash (is_single x) is (subst (λ y. is_single y ≡ false) same s)
no_single b bs l d s n Symbol (x ∷ y ∷ text) rest e is =
    let same : b ≡ x = cc in
    let tail : bs ≡ y ∷ (text ++ rest) = cc in
    clash (is_double x y) (two_bytes x y text is) (subst (λ z. is_double z y ≡ false) same (subst (NoDouble b) tail n))

single_taken : (b : ℕ) (bs : List ℕ) (t : Bool) → is_single b ≡ t → is_letter b ≡ false → is_digit b ≡ false → NoDouble b bs → Taken (b ∷ bs) (cond t (Some (Symbol, 1)) None)
single_taken b bs true s l d n = record { text = b ∷ []; rest = bs; whole = refl; len = refl; is = s; longest = single_longest b bs l d n }
single_taken b bs false s l d n = no_single b bs l d s n

double_taken : (b c : ℕ) (cs : List ℕ) (t : Bool) → is_double b c ≡ t → is_letter b ≡ false → is_digit b ≡ false → Taken (b ∷ c ∷ cs) (cond t (Some (Symbol, 2)) (single_of b))
double_taken b c cs true two l d = record { text = b ∷ c ∷ []; rest = cs; whole = refl; len = refl; is = two; longest = double_longest b c cs l d }
double_taken b c cs false two l d = single_taken b (c ∷ cs) (is_single b) refl l d two

symbol_taken : (b : ℕ) (bs : List ℕ) → is_letter b ≡ false → is_digit b ≡ false → Taken (b ∷ bs) (symbol_of b bs)
symbol_taken b [] l d = single_taken b [] (is_single b) refl l d tt
symbol_taken b (c ∷ cs) l d = double_taken b c cs (is_double b c) refl l d

lexeme_taken : (b : ℕ) (bs : List ℕ) (l d : Bool) → is_letter b ≡ l → is_digit b ≡ d → Taken (b ∷ bs) (cond l (Some (Word, suc (prefix_len is_word_byte bs))) (cond d (Some (Number, suc (prefix_len is_digit bs))) (symbol_of b bs)))
lexeme_taken b bs true d l e = word_found b bs l
lexeme_taken b bs false true l e = number_found b bs l e
lexeme_taken b bs false false l e = symbol_taken b bs l e

no_token_at_end : BeginsNoToken []
no_token_at_end Word [] rest e is = cc
no_token_at_end Number [] rest e is = cc
no_token_at_end Symbol [] rest e is = cc
no_token_at_end kind (x ∷ text) rest e is = cc

pub taken : (bytes : List ℕ) → Taken bytes (lexeme_of bytes)
unfolding lexeme_of
taken [] = no_token_at_end
taken (b ∷ bs) = lexeme_taken b bs (is_letter b) (is_digit b) refl refl
