-- A text has one reading as tokens.
use Rattle.std.proofs.Common.{◌≡◌, ◌≢◌, ℕ, ◌+◌, List, [], ◌∷◌, ◌++◌, length, true, false, not, codes, refl, sym, ap, ◌∙◌, subst, arith}
use Rattle.std.proofs.lemmas.Bool.Decides.{nat_tests}
use Rattle.std.specs.List.{list_all}
use Rattle.std.proofs.lemmas.Bool.{not-true}
use Rattle.il_lexer.specs.declared.token.Token.{Token}
use Rattle.il_lexer.specs.declared.token.TokenKind.{TokenKind}
use Rattle.il_lexer.specs.declared.token.TokenKind.TheVariants.{Word, Number, Symbol}
use Rattle.il_syntax.specs.Name.{is_letter, is_digit}
use Rattle.il_lexer.specs.Lexeme.{is_single, is_double, is_lexeme, IsLongest}
use Rattle.il_lexer.specs.Text.{is_blank, in_line, EndsLine, Rest, Lexes, ended, unknown, blank, comment, token}
use Rattle.il_lexer.proofs.Longest.{both, clash, letter_no_digit, double_no_letter, double_no_digit}
use Rattle.il_lexer.proofs.LayoutLemmas.{among, single_no_letter, single_no_digit}

-- how two ways to cut a list lie to each other
pub data Cuts : List ℕ → List ℕ → List ℕ → List ℕ → Type 0 where
  same : {a x : List ℕ} → Cuts a x a x
  longer : {a b x y : List ℕ} (c : ℕ) (more : List ℕ) → b ≡ a ++ c ∷ more → x ≡ c ∷ (more ++ y) → Cuts a x b y
  shorter : {a b x y : List ℕ} (c : ℕ) (more : List ℕ) → a ≡ b ++ c ∷ more → y ≡ c ∷ (more ++ x) → Cuts a x b y

cuts_cons : (h : ℕ) (a x b y : List ℕ) → Cuts a x b y → Cuts (h ∷ a) x (h ∷ b) y
cuts_cons h a x b y same = same
cuts_cons h a x b y (longer c more e f) = longer c more (ap (λ l. h ∷ l) e) f
cuts_cons h a x b y (shorter c more e f) = shorter c more (ap (λ l. h ∷ l) e) f

cuts : (a x b y : List ℕ) → a ++ x ≡ b ++ y → Cuts a x b y
cuts [] x [] y e = subst (λ z. Cuts [] x [] z) e same
cuts [] x (h ∷ b) y e = longer h b refl e
cuts (h ∷ a) x [] y e = shorter h a refl (sym e)
cuts (h ∷ a) x (g ∷ b) y e =
    let head : h ≡ g = cc in
    let tail : a ++ x ≡ b ++ y = cc in
    subst (λ z. Cuts (h ∷ a) x (z ∷ b) y) head (cuts_cons h a x b y (cuts a x b y tail))

-- the longest of two tokens at one place is both
same_text : (k k' : TokenKind) (a x b y : List ℕ) → Cuts a x b y → is_lexeme k a ≡ true → IsLongest a x → is_lexeme k' b ≡ true → IsLongest b y → (a ≡ b) × (x ≡ y)
same_text k k' a x b y same is long is' long' = (refl, refl)
same_text k k' a x b y (longer c more e f) is long is' long' = absurd (long k' c more y f (ap (is_lexeme k') (sym e) ∙ is'))
same_text k k' a x b y (shorter c more e f) is long is' long' = absurd (long' k c more x f (ap (is_lexeme k) (sym e) ∙ is))

same_kind : (k k' : TokenKind) (text : List ℕ) → is_lexeme k text ≡ true → is_lexeme k' text ≡ true → k ≡ k'
same_kind Word Word text is is' = refl
same_kind Number Number text is is' = refl
same_kind Symbol Symbol text is is' = refl
same_kind Word k' [] is is' = absurd (cc)
same_kind Number k' [] is is' = absurd (cc)
same_kind Symbol k' [] is is' = absurd (cc)
same_kind Word Number (b ∷ text) is is' = absurd (letter_no_digit b ((both (is_letter b) _ is).0) ((both (is_digit b) _ is').0))
same_kind Number Word (b ∷ text) is is' = absurd (letter_no_digit b ((both (is_letter b) _ is').0) ((both (is_digit b) _ is).0))
same_kind Word Symbol (b ∷ []) is is' = absurd (clash (is_letter b) ((both (is_letter b) _ is).0) (single_no_letter b is'))
same_kind Symbol Word (b ∷ []) is is' = absurd (clash (is_letter b) ((both (is_letter b) _ is').0) (single_no_letter b is))
same_kind Number Symbol (b ∷ []) is is' = absurd (clash (is_digit b) ((both (is_digit b) _ is).0) (single_no_digit b is'))
same_kind Symbol Number (b ∷ []) is is' = absurd (clash (is_digit b) ((both (is_digit b) _ is').0) (single_no_digit b is))
same_kind Word Symbol (b ∷ c ∷ []) is is' = absurd (double_no_letter b c is' ((both (is_letter b) _ is).0))
same_kind Symbol Word (b ∷ c ∷ []) is is' = absurd (double_no_letter b c is ((both (is_letter b) _ is').0))
same_kind Number Symbol (b ∷ c ∷ []) is is' = absurd (double_no_digit b c is' ((both (is_digit b) _ is).0))
same_kind Symbol Number (b ∷ c ∷ []) is is' = absurd (double_no_digit b c is ((both (is_digit b) _ is').0))
same_kind Word Symbol (b ∷ c ∷ d ∷ text) is is' = absurd (cc)
same_kind Symbol Word (b ∷ c ∷ d ∷ text) is is' = absurd (cc)
same_kind Number Symbol (b ∷ c ∷ d ∷ text) is is' = absurd (cc)
same_kind Symbol Number (b ∷ c ∷ d ∷ text) is is' = absurd (cc)

not_in_line : (a : List ℕ) (c : ℕ) (more : List ℕ) → c ≡ 10 → list_all in_line (a ++ c ∷ more) ≡ true → ⊥
not_in_line [] c more ten all = clash (in_line c) ((both (in_line c) (list_all in_line more) all).0) (ap in_line ten)
not_in_line (b ∷ a) c more ten all = not_in_line a c more ten ((both (in_line b) _ all).1)

-- two comments at one place are one
same_note : (a x b y : List ℕ) → Cuts a x b y → list_all in_line a ≡ true → EndsLine x → list_all in_line b ≡ true → EndsLine y → (a ≡ b) × (x ≡ y)
same_note a x b y same all ends all' ends' = (refl, refl)
same_note a x b y (longer c more e f) all ends all' ends' = absurd (not_in_line a c more (subst EndsLine f ends) (ap (list_all in_line) (sym e) ∙ all'))
same_note a x b y (shorter c more e f) all ends all' ends' = absurd (not_in_line b c more (subst EndsLine f ends') (ap (list_all in_line) (sym e) ∙ all))

letter_no_blank : (b : ℕ) → is_letter b ≡ true → is_blank b ≡ false
letter_no_blank b l = grind (arith, nat_tests)

digit_no_blank : (b : ℕ) → is_digit b ≡ true → is_blank b ≡ false
digit_no_blank b d = grind (arith, nat_tests)

double_no_blank : (b c : ℕ) → is_double b c ≡ true → is_blank b ≡ false
double_no_blank b c d = grind (arith, nat_tests)

single_no_blank : (b : ℕ) → is_single b ≡ true → is_blank b ≡ false
single_no_blank b s = not-true (is_blank b) (among (λ c. not (is_blank c)) b (codes "(){},;=+-*/%&|^<") s refl)

letter_no_hash : (b : ℕ) → is_letter b ≡ true → b ≢ 35
letter_no_hash b l e = clash (is_letter b) l (ap is_letter e)

digit_no_hash : (b : ℕ) → is_digit b ≡ true → b ≢ 35
digit_no_hash b d e = clash (is_digit b) d (ap is_digit e)

double_no_hash : (b c : ℕ) → is_double b c ≡ true → b ≢ 35
double_no_hash b c d e = grind (arith, nat_tests)

single_no_hash : (b : ℕ) → is_single b ≡ true → b ≢ 35
single_no_hash b s e = clash (is_single b) s (ap is_single e)

-- the first byte of a token
token_byte : (k : TokenKind) (b : ℕ) (text : List ℕ) → is_lexeme k (b ∷ text) ≡ true → (is_blank b ≡ false) × (b ≢ 35)
token_byte Word b text is = let l = (both (is_letter b) _ is).0 in (letter_no_blank b l, letter_no_hash b l)
token_byte Number b text is = let d = (both (is_digit b) _ is).0 in (digit_no_blank b d, digit_no_hash b d)
token_byte Symbol b [] is = (single_no_blank b is, single_no_hash b is)
token_byte Symbol b (c ∷ []) is = (double_no_blank b c is, double_no_hash b c is)
token_byte Symbol b (c ∷ d ∷ text) is = absurd (cc)

token_head : (k : TokenKind) (b : ℕ) (bytes text rest : List ℕ) → b ∷ bytes ≡ text ++ rest → is_lexeme k text ≡ true → (is_blank b ≡ false) × (b ≢ 35)
token_head Word b bytes [] rest e is = absurd (cc)
token_head Number b bytes [] rest e is = absurd (cc)
token_head Symbol b bytes [] rest e is = absurd (cc)
token_head k b bytes (c ∷ text) rest e is =
    let head : c ≡ b = cc in subst (λ x. (is_blank x ≡ false) × (x ≢ 35)) head (token_byte k c text is)

no_token_in_nothing : (k : TokenKind) (text rest : List ℕ) → [] ≡ text ++ rest → is_lexeme k text ≡ true → ⊥
no_token_in_nothing Word [] rest e is = cc
no_token_in_nothing Number [] rest e is = cc
no_token_in_nothing Symbol [] rest e is = cc
no_token_in_nothing k (c ∷ text) rest e is = cc

hash_is_no_blank : (b : ℕ) (bytes rest : List ℕ) → b ∷ bytes ≡ 35 ∷ rest → is_blank b ≡ true → ⊥
hash_is_no_blank b bytes rest e is = let head : b ≡ 35 = cc in clash (is_blank b) is (ap is_blank head)

hash_is_no_token : (k : TokenKind) (all note text rest : List ℕ) → all ≡ 35 ∷ note → all ≡ text ++ rest → is_lexeme k text ≡ true → ⊥
hash_is_no_token k all note text rest e e' is = (token_head k 35 note text rest (sym e ∙ e') is).1 refl

tail_same : (all xs ys : List ℕ) → all ≡ 35 ∷ xs → all ≡ 35 ∷ ys → xs ≡ ys
tail_same all xs ys e f = cc

pub one_reading : {at : ℕ} {bytes : List ℕ} {ts ts' : List Token} {s s' : Rest} → Lexes at bytes ts s → Lexes at bytes ts' s' → (ts ≡ ts') × (s ≡ s')
one_reading ended ended = (refl, refl)
one_reading ended (comment note rest e all ends l) = absurd (cc)
one_reading ended (token {kind = k} text rest e is long l) = absurd (no_token_in_nothing k text rest e is)
one_reading (unknown nb nh nothing) (unknown nb' nh' nothing') = (refl, refl)
one_reading {bytes = b ∷ bytes} (unknown nb nh nothing) (blank is l) = absurd (clash (is_blank b) is nb)
one_reading {bytes = b ∷ bytes} (unknown nb nh nothing) (comment note rest e all ends l) = absurd (nh (cc))
one_reading (unknown nb nh nothing) (token {kind = k} text rest e is long l) = absurd (nothing k text rest e is)
one_reading {bytes = b ∷ bytes} (blank is l) (unknown nb nh nothing) = absurd (clash (is_blank b) is nb)
one_reading (blank is l) (blank is' l') = one_reading l l'
one_reading {bytes = b ∷ bytes} (blank is l) (comment note rest e all ends l') = absurd (hash_is_no_blank b bytes _ e is)
one_reading {bytes = b ∷ bytes} (blank is l) (token {kind = k} text rest e is' long l') = absurd (clash (is_blank b) is ((token_head k b bytes text rest e is').0))
one_reading (comment note rest e all ends l) ended = absurd (cc)
one_reading {bytes = b ∷ bytes} (comment note rest e all ends l) (unknown nb nh nothing) = absurd (nh (cc))
one_reading {bytes = b ∷ bytes} (comment note rest e all ends l) (blank is l') = absurd (hash_is_no_blank b bytes _ e is)
one_reading {at = at} {bytes = bytes} {ts' = ts'} {s' = s'} (comment note rest e all ends l) (comment note' rest' e' all' ends' l') =
    let cut = same_note note rest note' rest' (cuts note rest note' rest' (tail_same bytes (note ++ rest) (note' ++ rest') e e')) all ends all' ends' in
    one_reading l (subst (λ n. Lexes (at + 1 + length n) rest ts' s') (sym cut.0) (subst (λ r. Lexes (at + 1 + length note') r ts' s') (sym cut.1) l'))
one_reading {bytes = bytes} (comment note rest e all ends l) (token {kind = k} text rest' e' is long l') = absurd (hash_is_no_token k bytes _ text rest' e e' is)
one_reading (token {kind = k} text rest e is long l) ended = absurd (no_token_in_nothing k text rest e is)
one_reading (token {kind = k} text rest e is long l) (unknown nb nh nothing) = absurd (nothing k text rest e is)
one_reading {bytes = b ∷ bytes} (token {kind = k} text rest e is long l) (blank is' l') = absurd (clash (is_blank b) is' ((token_head k b bytes text rest e is).0))
one_reading {bytes = bytes} (token {kind = k} text rest e is long l) (comment note rest' e' all ends l') = absurd (hash_is_no_token k bytes _ text rest e' e is)
one_reading {at = at} {s' = s'} (token {ts = ts} {kind = k} text rest e is long l) (token {ts = ts'} {kind = k'} text' rest' e' is' long' l') =
    let cut = same_text k k' text rest text' rest' (cuts text rest text' rest' (sym e ∙ e')) is long is' long' in
    let kinds = same_kind k k' text is (ap (is_lexeme k') cut.0 ∙ is') in
    let after = one_reading l (subst (λ n. Lexes (at + length n) rest ts' s') (sym cut.0) (subst (λ r. Lexes (at + length text') r ts' s') (sym cut.1) l')) in
    ((λ i. record { kind = kinds i; start = at; end = at + length (cut.0 i) } ∷ after.0 i), after.1)
