-- The names of locations that may be named: they have no blank and no sign `=`, and none stands twice.
use Rattle.std.proofs.Common.{◌≡◌, ◌∙◌, ◌==◌, ◌+◌, ◌-◌, ◌<◌, ◌≤◌, ◌⊎◌, inl, inr, ℕ, zero, suc, sym, ap, refl, Bool, true, false, not, List, [], ◌∷◌, ◌++◌, length, map, append_assoc, arith}
use Rattle.std.specs.List.{All, list_all}
use Rattle.std.specs.Option.{option_map_or}
use Rattle.std.specs.Str.{bytes_eq}
use Rattle.std.proofs.lemmas.Bool.{and_parts, and_from, cases_lt, not-true}
use Rattle.std.proofs.lemmas.Bool.Decides.{nat_tests}
use Rattle.std.proofs.lemmas.List.{map-append, length-append}
use Rattle.std.proofs.lemmas.List.Elements.{All-cons, All-nil}
use Rattle.std.proofs.lemmas.List.Folds.{list_all-append}
use Rattle.il_syntax.specs.Name.{begins_with_letter, is_among, is_name, is_word, is_word_byte, reserved}
use Rattle.il_syntax.specs.Text.{location_name}
use Rattle.il_syntax.specs.WellFormed.{IsWellFormed, distinct}
use Rattle.il_syntax.specs.declared.program.Location.{Location}
use Rattle.il_syntax.specs.declared.program.Program.{Program}
use Rattle.il_syntax.proofs.Callers.{slice_get-left, slice_get-right}
use Rattle.text_parts.specs.Lines.{Text}
use Rattle.journal_text.proofs.Callers.{are_visible, plain_names}
use Rattle.litmus_text.specs.Expectation.{named_locations}

abbrev pub names_of_all : List Location → List Text
names_of_all locations = map (λ l. l.name) locations

pub record AreNamed (locations : List Location) : Type 0 where
  pub visible : list_all (λ l. are_visible l.name) locations ≡ true
  pub names : list_all is_name (names_of_all locations) ≡ true
  pub apart : distinct (names_of_all locations) ≡ true

-- a name has no sign `=`

word_byte : (b : ℕ) → is_word_byte b ≡ true → (b == 61) ≡ false
word_byte b h = go (b == 61) refl
  where
    go : (t : Bool) → (b == 61) ≡ t → (b == 61) ≡ false
    go false e = e
    go true e =
        let is : b ≡ 61 = grind (arith, nat_tests) in
        let bad : is_word_byte 61 ≡ true = ap is_word_byte (sym is) ∙ h in
        let never : false ≡ true = bad in
        absurd cc

no_equals : (bs : Text) → list_all is_word_byte bs ≡ true → All (λ b. (b == 61) ≡ false) bs
no_equals [] h = All-nil (λ b. (b == 61) ≡ false)
no_equals (b ∷ bs) h =
    let parts = and_parts (is_word_byte b) (list_all is_word_byte bs) h in
    All-cons (λ b. (b == 61) ≡ false) b bs (word_byte b parts.0) (no_equals bs parts.1)

name_plain : (name : Text) → is_name name ≡ true → All (λ b. (b == 61) ≡ false) name
name_plain name h =
    let word = and_parts (is_word name) (not (is_among reserved name)) h in
    no_equals name (and_parts (begins_with_letter name) (list_all is_word_byte name) word.0).1

pub plain_name : (locations : List Location) (i : ℕ) → list_all is_name (names_of_all locations) ≡ true → All (λ b. (b == 61) ≡ false) (location_name locations i)
plain_name [] i h = All-nil (λ b. (b == 61) ≡ false)
plain_name (l ∷ ls) zero h = name_plain l.name (and_parts (is_name l.name) (list_all is_name (names_of_all ls)) h).0
plain_name (l ∷ ls) (suc i) h = plain_name ls i (and_parts (is_name l.name) (list_all is_name (names_of_all ls)) h).1

-- the locations of a well-formed program

among_front : (xs ys : List Text) (name : Text) → is_among (xs ++ ys) name ≡ false → is_among xs name ≡ false
among_front [] ys name h = refl
among_front (x ∷ xs) ys name h = go (bytes_eq name x) refl (among_front xs ys name)
  where
    go : (t : Bool) → bytes_eq name x ≡ t → (is_among (xs ++ ys) name ≡ false → is_among xs name ≡ false) → is_among (x ∷ xs) name ≡ false
    go true e more = let bad : true ≡ false = rw e at h in absurd cc
    go false e more = rw e (more (rw e at h))

distinct_front : (xs ys : List Text) → distinct (xs ++ ys) ≡ true → distinct xs ≡ true
distinct_front [] ys h = refl
distinct_front (x ∷ xs) ys h =
    let parts = and_parts (not (is_among (xs ++ ys) x)) (distinct (xs ++ ys)) h in
    rw (among_front xs ys x (not-true (is_among (xs ++ ys) x) parts.0)) (distinct_front xs ys parts.1)

module _ (p : Program) (h : IsWellFormed p) where
  abbrev rest_names : List Text
  rest_names = map (λ f. f.name) p.functions

  all_names : names_of_all p.na ++ (names_of_all p.atomic ++ rest_names) ≡ names_of_all (p.na ++ p.atomic) ++ rest_names
  all_names = sym (append_assoc (names_of_all p.na) (names_of_all p.atomic) rest_names) ∙ ap (λ (ns : List Text). ns ++ rest_names) (sym (map-append (λ l. l.name) p.na p.atomic))

  named_all : AreNamed (p.na ++ p.atomic)
  named_all = record {
    visible = list_all-append (λ l. are_visible l.name) p.na p.atomic ∙ and_from _ _ (plain_names p h).na (plain_names p h).atomic;
    names =
        let first = and_parts _ _ h.names in
        let all = ap (list_all is_name) (sym all_names) ∙ first.0 in
        (and_parts _ _ (sym (list_all-append is_name (names_of_all (p.na ++ p.atomic)) rest_names) ∙ all)).0;
    apart =
        let first = and_parts _ _ h.distinct_names in
        distinct_front (names_of_all (p.na ++ p.atomic)) rest_names (ap distinct (sym all_names) ∙ first.0);
  }

  pub are_named : (finals : Bool) → AreNamed (named_locations finals p)
  are_named true = named_all
  are_named false = record { visible = refl; names = refl; apart = refl }

-- a place among two lists of locations

module _ (na atomic : List Location) where
  at_na : (x : ℕ) → x < length na → location_name (na ++ atomic) x ≡ location_name na x
  at_na x below = ap (λ o. option_map_or (λ (l : Location). l.name) o []) (slice_get-left na atomic x below)

  at_atomic : (y : ℕ) → location_name (na ++ atomic) (length na + y) ≡ location_name atomic y
  at_atomic y = ap (λ o. option_map_or (λ (l : Location). l.name) o []) (slice_get-right na atomic (length na + y) y refl)

  module _ (word : Text) where
    pub found_na : (x : ℕ) → x < length na → word ≡ location_name na x → (x < length (na ++ atomic)) × (word ≡ location_name (na ++ atomic) x)
    found_na x below is = (omega (arith, below, length-append na atomic), is ∙ sym (at_na x below))

    pub found_atomic : (y : ℕ) → y < length atomic → word ≡ location_name atomic y → (length na + y < length (na ++ atomic)) × (word ≡ location_name (na ++ atomic) (length na + y))
    found_atomic y below is = (omega (arith, below, length-append na atomic), is ∙ sym (at_atomic y))

    pub found_none : ((x : ℕ) → x < length na → word ≡ location_name na x → ⊥) → ((y : ℕ) → y < length atomic → word ≡ location_name atomic y → ⊥)
        → (i : ℕ) → i < length (na ++ atomic) → word ≡ location_name (na ++ atomic) i → ⊥
    found_none no_na no_atomic i below is = go (cases_lt i (length na))
      where
        beyond : length na ≤ i → (y : ℕ) → i ≡ length na + y → ⊥
        beyond l y e = no_atomic y (omega (arith, below, e, length-append na atomic)) (is ∙ ap (location_name (na ++ atomic)) e ∙ at_atomic y)

        go : (i < length na) ⊎ (length na ≤ i) → ⊥
        go (inl l) = no_na i l (is ∙ at_na i l)
        go (inr l) = beyond l (i - length na) (omega (arith, l))
