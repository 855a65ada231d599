-- A text that is laid out so is read as its tokens.
use Rattle.std.proofs.Common.{◌≡◌, ℕ, ◌+◌, List, [], ◌∷◌, ◌++◌, length, Bool, true, false, not, ◌||◌, ◌==◌, codes, refl, sym, ap, ◌∙◌, subst, arith}
use Rattle.std.proofs.lemmas.Bool.Decides.{nat_tests}
use Rattle.std.specs.List.{list_all, list_any}
use Rattle.std.proofs.lemmas.Bool.{not-true}
use Rattle.il_lexer.specs.declared.token.Token.{Token}
use Rattle.il_lexer.specs.declared.token.TokenKind.{TokenKind}
use Rattle.il_lexer.specs.declared.token.TokenKind.TheVariants.{Word, Number, Symbol}
use Rattle.il_syntax.specs.Name.{is_letter, is_digit, is_word_byte}
use Rattle.il_lexer.specs.Lexeme.{is_single, is_double, is_lexeme, IsLongest}
use Rattle.il_lexer.specs.Text.{is_blank, Rest, at_end, Lexes, ended, blank, token}
use Rattle.il_lexer.specs.Layout.{Printed, rendered, tokens_from, IsSeparated, IsLaidOut}
use Rattle.il_lexer.proofs.Split.{StopsTest}
use Rattle.il_lexer.proofs.Longest.{both, word_longest, number_longest, double_longest, single_longest, NoDouble}

digit_no_letter : (b : ℕ) → is_digit b ≡ true → is_letter b ≡ false
digit_no_letter b d = grind (arith, nat_tests)

double_no_letter_false : (b c : ℕ) → is_double b c ≡ true → is_letter b ≡ false
double_no_letter_false b c d = grind (arith, nat_tests)

double_no_digit_false : (b c : ℕ) → is_double b c ≡ true → is_digit b ≡ false
double_no_digit_false b c d = grind (arith, nat_tests)

same_byte : (s b : ℕ) → (s == b) ≡ true → s ≡ b
same_byte s b e = grind (arith, nat_tests)

-- what holds of each byte of a list holds of one that is among them
among_step : (p : ℕ → Bool) (b x : ℕ) (xs : List ℕ) (t : Bool) → (x == b) ≡ t → (x == b) || list_any (λ s. s == b) xs ≡ true → (p x ≡ true) × (list_all p xs ≡ true) → (list_any (λ s. s == b) xs ≡ true → list_all p xs ≡ true → p b ≡ true) → p b ≡ true
among_step p b x xs true e any all rest = subst (λ y. p y ≡ true) (same_byte x b e) all.0
among_step p b x xs false e any all rest = rest (ap (λ t. t || list_any (λ s. s == b) xs) (sym e) ∙ any) all.1

pub among : (p : ℕ → Bool) (b : ℕ) (xs : List ℕ) → list_any (λ s. s == b) xs ≡ true → list_all p xs ≡ true → p b ≡ true
among p b [] any all = absurd (cc)
among p b (x ∷ xs) any all = among_step p b x xs (x == b) refl any (both (p x) (list_all p xs) all) (among p b xs)

pub single_no_letter : (b : ℕ) → is_single b ≡ true → is_letter b ≡ false
single_no_letter b s = not-true (is_letter b) (among (λ c. not (is_letter c)) b (codes "(){},;=+-*/%&|^<") s refl)

pub single_no_digit : (b : ℕ) → is_single b ≡ true → is_digit b ≡ false
single_no_digit b s = not-true (is_digit b) (among (λ c. not (is_digit c)) b (codes "(){},;=+-*/%&|^<") s refl)

word_stops : (text rest : List ℕ) → IsSeparated Word text rest → StopsTest is_word_byte rest
word_stops text [] h = tt
word_stops text (c ∷ rest) h = h

number_stops : (text rest : List ℕ) → IsSeparated Number text rest → StopsTest is_digit rest
number_stops text [] h = tt
number_stops text (c ∷ rest) h = h

symbol_stops : (b : ℕ) (rest : List ℕ) → IsSeparated Symbol (b ∷ []) rest → NoDouble b rest
symbol_stops b [] h = tt
symbol_stops b (c ∷ rest) h = h

apart_longest : (kind : TokenKind) (text rest : List ℕ) → is_lexeme kind text ≡ true → IsSeparated kind text rest → IsLongest text rest
apart_longest Word [] rest is apart = absurd (cc)
apart_longest Word (b ∷ text) rest is apart = word_longest b text rest ((both (is_letter b) _ is).0) (word_stops (b ∷ text) rest apart)
apart_longest Number [] rest is apart = absurd (cc)
apart_longest Number (b ∷ text) rest is apart =
    let d = (both (is_digit b) _ is).0 in number_longest b text rest (digit_no_letter b d) d (number_stops (b ∷ text) rest apart)
apart_longest Symbol [] rest is apart = absurd (cc)
apart_longest Symbol (b ∷ []) rest is apart = single_longest b rest (single_no_letter b is) (single_no_digit b is) (symbol_stops b rest apart)
apart_longest Symbol (b ∷ c ∷ []) rest is apart = double_longest b c rest (double_no_letter_false b c is) (double_no_digit_false b c is)
apart_longest Symbol (b ∷ c ∷ d ∷ text) rest is apart = absurd (cc)

blanks_lex : (at : ℕ) (blanks_after rest : List ℕ) (ts : List Token) (stop : Rest) → list_all is_blank blanks_after ≡ true → Lexes (at + length blanks_after) rest ts stop → Lexes at (blanks_after ++ rest) ts stop
blanks_lex at [] rest ts stop all l = subst (λ n. Lexes n rest ts stop) (omega arith) l
blanks_lex at (b ∷ blanks_after) rest ts stop all l =
    let parts = both (is_blank b) (list_all is_blank blanks_after) all in
    let here : at + length (b ∷ blanks_after) ≡ at + 1 + length blanks_after = omega arith in
    blank parts.0 (blanks_lex (at + 1) blanks_after rest ts stop parts.1 (subst (λ n. Lexes n rest ts stop) here l))

pub laid_lexes : (ps : List Printed) (at : ℕ) → IsLaidOut ps → Lexes at (rendered ps) (tokens_from at ps) at_end
laid_lexes [] at laid = ended
laid_lexes (p ∷ ps) at laid =
    let rest = p.blanks_after ++ rendered ps in
    token p.text rest refl laid.0 (apart_longest p.kind p.text rest laid.0 laid.2)
    (blanks_lex (at + length p.text) p.blanks_after (rendered ps) _ at_end laid.1 (laid_lexes ps (at + length p.text + length p.blanks_after) laid.3))
