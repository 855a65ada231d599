-- Names of a letter and rising numbers: they may be declared, and no two are equal.
use Rattle.std.proofs.Common.{◌≡◌, ◌≤◌, ◌<◌, ◌^◌, ◌%◌, ℕ, zero, suc, ◌+◌, Bool, true, false, ◌==◌, not, ◌&&◌, ◌||◌, nat_le, List, [], ◌∷◌, ◌++◌, length, map, refl, ap, ◌∙◌, arith}
use Rattle.std.specs.List.{list_all, range_with_len}
use Rattle.std.specs.Fmt.{decimal}
use Rattle.std.specs.Str.{bytes_eq}
use Rattle.std.proofs.lemmas.Bool.{le-leb, and_parts, and_from, eqb-true, leb-true}
use Rattle.std.proofs.lemmas.Slice.Eq.{bytes_eq-Decides}
use Rattle.std.proofs.lemmas.Fmt.{decimal_by_steps, decimal_injective, length-decimal-le}
use Rattle.std.proofs.lemmas.List.Folds.{list_all-append}
use Rattle.il_syntax.specs.declared.program.Location.{Location}
use Rattle.il_syntax.specs.Name.{is_word_byte, is_letter, is_digit, is_name, is_among, reserved}
use Rattle.il_syntax.specs.Checks.{is_declarable, among_by, distinct_by, apart_by}
use Rattle.gen_program.specs.Generated.{numbered}

-- digits stand in words

digit_in_word : (n : ℕ) → n < 10 → is_word_byte (48 + n) ≡ true
digit_in_word n h = go (is_letter (48 + n)) (is_digit (48 + n)) (and_from (nat_le 48 (48 + n)) (nat_le (48 + n) 57) (le-leb 48 (48 + n) (omega arith)) (le-leb (48 + n) 57 (omega arith)))
  where
    go : (p q : Bool) → q ≡ true → (p || q) ≡ true
    go true q e = refl
    go false q e = e

digits_in_word : (n : ℕ) → n < 2 ^ 64 → list_all is_word_byte (decimal n) ≡ true
digits_in_word =
    decimal_by_steps (λ n ds. list_all is_word_byte ds ≡ true) (λ n h. ap (λ b. b && true) (digit_in_word n h))
    (λ n ds h e.
    list_all-append is_word_byte ds ((48 + n % 10) ∷ []) ∙ and_from (list_all is_word_byte ds) (is_word_byte (48 + n % 10) && true) e (ap (λ b. b && true) (digit_in_word (n % 10) (omega arith))))

-- a number begins with a digit, and no reserved word has one in its second place

abbrev Begins : List ℕ → Type 0
Begins [] = ⊥
Begins (d ∷ ds) = d < 58

begins : (n : ℕ) → n < 2 ^ 64 → Begins (decimal n)
begins = decimal_by_steps (λ n ds. Begins ds) (λ n h. omega arith) more
  where
    more : (n : ℕ) (ds : List ℕ) → 10 ≤ n → Begins ds → Begins (ds ++ ((48 + n % 10) ∷ []))
    more n [] h e = absurd e
    more n (d ∷ ds) h e = e

abbrev has_letter_second : List ℕ → Bool
has_letter_second [] = true
has_letter_second (b ∷ []) = true
has_letter_second (b ∷ (c ∷ cs)) = nat_le 58 c

not_reserved : (b d : ℕ) (ds : List ℕ) (words : List (List ℕ)) → d < 58 → list_all has_letter_second words ≡ true → is_among words (b ∷ (d ∷ ds)) ≡ false
not_reserved b d ds [] h e = refl
not_reserved b d ds (w ∷ words) h e =
    let p = and_parts (has_letter_second w) (list_all has_letter_second words) e in
    (λ i. differs w p.0 i || not_reserved b d ds words h p.1 i)
  where
    apart : (c : ℕ) (cs : List ℕ) → nat_le 58 c ≡ true → (d == c) ≡ false
    apart c cs f = go (d == c) refl
      where
        go : (t : Bool) → (d == c) ≡ t → t ≡ false
        go false k = refl
        go true k = let same = eqb-true d c k in let more = leb-true 58 c f in absurd (omega arith)

    third : (p q : Bool) → q ≡ false → (p && (q && bytes_eq ds [])) ≡ false
    third true q f = λ i. f i && bytes_eq ds []
    third false q f = refl

    differs : (w : List ℕ) → has_letter_second w ≡ true → bytes_eq (b ∷ (d ∷ ds)) w ≡ false
    differs [] f = refl
    differs (a ∷ []) f = and_false (b == a)
      where
        and_false : (p : Bool) → (p && false) ≡ false
        and_false true = refl
        and_false false = refl
    differs (a ∷ (c ∷ cs)) f = both (b == a) (d == c) (bytes_eq ds cs) (apart c cs f)
      where
        both : (p q r : Bool) → q ≡ false → (p && (q && r)) ≡ false
        both true q r f = λ i. f i && r
        both false q r f = refl

reserved_words : list_all has_letter_second reserved ≡ true
reserved_words = refl

pub declarable : (letter i : ℕ) → is_letter letter ≡ true → i < 2 ^ 32 → is_declarable (numbered letter i) ≡ true
declarable letter i l h =
    let digits = digits_in_word i (omega arith) in
    let n = length-decimal-le 10 i (omega arith) (omega arith) (omega arith) in
    and_from (is_name (numbered letter i)) (nat_le (length (numbered letter i)) 32)
    (and_from (is_letter letter && (is_word_byte letter && list_all is_word_byte (decimal i))) (not (is_among reserved (numbered letter i)))
    (and_from (is_letter letter) (is_word_byte letter && list_all is_word_byte (decimal i)) l (and_from (is_word_byte letter) (list_all is_word_byte (decimal i)) (λ j. l j || is_digit letter) digits))
    (ap not (unreserved (decimal i) (begins i (omega arith)))))
    (le-leb (length (numbered letter i)) 32 (omega arith))
  where
    unreserved : (ds : List ℕ) → Begins ds → is_among reserved (letter ∷ ds) ≡ false
    unreserved [] b = absurd b
    unreserved (d ∷ ds) b = not_reserved letter d ds reserved b reserved_words

-- two names

pub other_letter : (a b i j : ℕ) → (a == b) ≡ false → bytes_eq (numbered a i) (numbered b j) ≡ false
other_letter a b i j e = λ k. e k && bytes_eq (decimal i) (decimal j)

tail_same : {x : ℕ} {xs ys : List ℕ} → x ∷ xs ≡ x ∷ ys → xs ≡ ys
tail_same {x} {xs} {ys} e = cc

pub other_number : (a i j : ℕ) → i < j → j < 2 ^ 64 → bytes_eq (numbered a i) (numbered a j) ≡ false
other_number a i j l h = go (bytes_eq (numbered a i) (numbered a j)) refl
  where
    go : (b : Bool) → bytes_eq (numbered a i) (numbered a j) ≡ b → b ≡ false
    go false e = refl
    go true e =
        let same = decimal_injective i j (omega arith) h (tail_same {x = a} ((bytes_eq-Decides (numbered a i) (numbered a j)).0 e)) in absurd (omega arith)

-- Things with names of this letter and rising numbers.
module _ {X : Type 0} (name : X → List ℕ) (letter : ℕ) where
  abbrev pub AreNumbered : ℕ → List X → Type 0
  AreNumbered a [] = Unit {0}
  AreNumbered a (x ∷ xs) = (name x ≡ numbered letter a) × AreNumbered (a + 1) xs

  pub all_declarable : (a : ℕ) (xs : List X) → is_letter letter ≡ true → a + length xs < 2 ^ 32 → AreNumbered a xs → list_all (λ x. is_declarable (name x)) xs ≡ true
  all_declarable a [] l h n = refl
  all_declarable a (x ∷ xs) l h n =
      and_from (is_declarable (name x)) (list_all (λ x. is_declarable (name x)) xs) (ap is_declarable n.0 ∙ declarable letter a l (omega arith)) (all_declarable (a + 1) xs l (omega arith) n.1)

  pub none_of_letter : (other i a : ℕ) (xs : List X) → (other == letter) ≡ false → AreNumbered a xs → among_by name xs (numbered other i) ≡ false
  none_of_letter other i a [] e n = refl
  none_of_letter other i a (x ∷ xs) e n =
      λ k. (ap (bytes_eq (numbered other i)) n.0 ∙ other_letter other letter i a e) k || none_of_letter other i (a + 1) xs e n.1 k

  pub none_of_less : (i a : ℕ) (xs : List X) → i < a → a + length xs < 2 ^ 32 → AreNumbered a xs → among_by name xs (numbered letter i) ≡ false
  none_of_less i a [] l h n = refl
  none_of_less i a (x ∷ xs) l h n =
      λ k. (ap (bytes_eq (numbered letter i)) n.0 ∙ other_number letter i a l (omega arith)) k || none_of_less i (a + 1) xs (omega arith) (omega arith) n.1 k

  pub all_distinct : (a : ℕ) (xs : List X) → a + length xs < 2 ^ 32 → AreNumbered a xs → distinct_by name xs ≡ true
  all_distinct a [] h n = refl
  all_distinct a (x ∷ xs) h n =
      and_from (not (among_by name xs (name x))) (distinct_by name xs) (ap not (ap (among_by name xs) n.0 ∙ none_of_less a (a + 1) xs (omega arith) (omega arith) n.1)) (all_distinct (a + 1) xs (omega arith) n.1)

  pub none_among_names : (other i a : ℕ) (xs : List X) → (other == letter) ≡ false → AreNumbered a xs → is_among (map name xs) (numbered other i) ≡ false
  none_among_names other i a [] e n = refl
  none_among_names other i a (x ∷ xs) e n =
      λ k. (ap (bytes_eq (numbered other i)) n.0 ∙ other_letter other letter i a e) k || none_among_names other i (a + 1) xs e n.1 k

-- what is made of a range of numbers
pub made_numbered : {X : Type 0} (name : X → List ℕ) (letter : ℕ) (make : ℕ → X) → ((i : ℕ) → name (make i) ≡ numbered letter i) → (a n : ℕ) → AreNumbered name letter a (map make (range_with_len a n))
made_numbered name letter make e a zero = tt
made_numbered name letter make e a (suc n) = (e a, made_numbered name letter make e (a + 1) n)

pub all_made : {X : Type 0} (make : ℕ → X) (test : X → Bool) (a n m : ℕ) → a + n ≤ m → ((i : ℕ) → i < m → test (make i) ≡ true) → list_all test (map make (range_with_len a n)) ≡ true
all_made make test a zero m h e = refl
all_made make test a (suc n) m h e =
    and_from (test (make a)) (list_all test (map make (range_with_len (a + 1) n))) (e a (omega arith)) (all_made make test (a + 1) n m (omega arith) e)

-- locations apart from others
pub all_apart : {X : Type 0} (name : X → List ℕ) (letter other a b : ℕ) (xs : List X) (ls : List Location) → (other == letter) ≡ false → AreNumbered name letter a xs → AreNumbered (λ (l : Location). l.name) other b ls → apart_by name xs ls ≡ true
all_apart name letter other a b xs [] e n m = refl
all_apart name letter other a b xs (l ∷ ls) e n m =
    and_from (not (among_by name xs l.name)) (apart_by name xs ls) (ap not (ap (among_by name xs) m.0 ∙ none_of_letter name letter other b a xs e n)) (all_apart name letter other a (b + 1) xs ls e n m.1)
