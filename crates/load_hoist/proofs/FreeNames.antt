-- The number of a new name is the least free one, and the name may be declared.
use Rattle.std.proofs.Common.{◌≡◌, ◌≤◌, ◌<◌, ◌^◌, ◌%◌, ℕ, zero, suc, ◌+◌, ◌-◌, Bool, true, false, cond, eqb, ◌&&◌, ◌||◌, nat_le, nat_lt, List, [], ◌∷◌, ◌++◌, length, length-append, drop, map, refl, sym, ap, ◌∙◌, subst, ◌⊎◌, inl, inr, arith}
use Rattle.std.specs.Prelude.{IsTrue}
use Rattle.std.specs.List.{list_any, list_all}
use Rattle.std.specs.Fmt.{decimal}
use Rattle.std.specs.Str.{bytes_eq}
use Rattle.std.specs.Str.Parse.{digits_value}
use Rattle.std.proofs.lemmas.Bool.{eq-eqb, false≢true, le-leb, ltb-true, cases_lt, and_parts, and_from}
use Rattle.std.proofs.lemmas.Slice.Eq.{bytes_eq-Decides}
use Rattle.std.proofs.lemmas.Fmt.{decimal_is_IsNumeral, decimal_by_steps, length-decimal-le}
use Rattle.std.proofs.lemmas.List.Folds.{list_all-append, list_any-append}
use Rattle.std.proofs.lemmas.Map.Steps.{le-length_from_below}
use Rattle.std.proofs.lemmas.List.{length-map}
use Rattle.il_syntax.specs.Name.{is_word_byte, is_letter, is_digit, is_name, is_among}
use Rattle.il_syntax.specs.WellFormed.{is_short}
use Rattle.load_hoist.specs.declared.growth.Growth.{Growth}
use Rattle.load_hoist.specs.Introduced.{hoisted_name, free_number, next_number, may_grow, grown}
use Rattle.load_hoist.specs.Taken.{AreTakenBelow}
use Rattle.load_hoist.specs.Laws.{NextNumberIsLeastFree}

-- the number that a name tells
abbrev told : List ℕ → ℕ
told name = digits_value 10 (drop 2 name)

told_name : (k : ℕ) → k < 2 ^ 64 → told (hoisted_name k) ≡ k
told_name k h = (decimal_is_IsNumeral k h).1

any_told : (k : ℕ) (xs : List (List ℕ)) → k < 2 ^ 64 → is_among xs (hoisted_name k) ≡ true → list_any (eqb k) (map told xs) ≡ true
any_told k [] h e = absurd (false≢true e)
any_told k (x ∷ xs) h e = go (bytes_eq (hoisted_name k) x) refl e (λ g. any_told k xs h g)
  where
    either : (p q : Bool) → q ≡ true → (p || q) ≡ true
    either true q e = refl
    either false q e = e

    go : (b : Bool) → bytes_eq (hoisted_name k) x ≡ b → (b || list_any (λ name. bytes_eq (hoisted_name k) name) xs) ≡ true → (is_among xs (hoisted_name k) ≡ true → list_any (eqb k) (map told xs) ≡ true) →
        (eqb k (told x) || list_any (eqb k) (map told xs)) ≡ true
    go true f g more =
        let same = (bytes_eq-Decides (hoisted_name k) x).0 f in
        ap (λ b. b || list_any (eqb k) (map told xs)) (eq-eqb k (told x) (sym (told_name k h) ∙ ap told same))
    go false f g more = either (eqb k (told x)) (list_any (eqb k) (map told xs)) (more g)

-- each lesser number's name is taken
pub free_least : (tries k : ℕ) (taken : List (List ℕ)) (j : ℕ) → k ≤ j → j < free_number tries k taken → is_among taken (hoisted_name j) ≡ true
free_least zero k taken j a b = absurd (omega arith)
free_least (suc n) k taken j a b = go (is_among taken (hoisted_name k)) refl b (λ m l. free_least n (k + 1) taken j m l)
  where
    go : (t : Bool) → is_among taken (hoisted_name k) ≡ t → j < cond t (free_number n (k + 1) taken) k → (k + 1 ≤ j → j < free_number n (k + 1) taken → is_among taken (hoisted_name j) ≡ true) → is_among taken (hoisted_name j) ≡ true
    go true e l more = later (cases_lt k j)
      where
        later : (k < j) ⊎ (j ≤ k) → is_among taken (hoisted_name j) ≡ true
        later (inl m) = more (omega arith) l
        later (inr m) = let same : k ≡ j = omega arith in subst (λ i. is_among taken (hoisted_name i) ≡ true) same e
    go false e l more = absurd (omega arith)

-- it is free, or the number after all that were tried
pub free_or_last : (tries k : ℕ) (taken : List (List ℕ)) → (is_among taken (hoisted_name (free_number tries k taken)) ≡ false) ⊎ (free_number tries k taken ≡ k + tries)
free_or_last zero k taken = inr (omega arith)
free_or_last (suc n) k taken = go (is_among taken (hoisted_name k)) refl (free_or_last n (k + 1) taken)
  where
    go : (t : Bool) → is_among taken (hoisted_name k) ≡ t → (is_among taken (hoisted_name (free_number n (k + 1) taken)) ≡ false) ⊎ (free_number n (k + 1) taken ≡ (k + 1) + n) →
        (is_among taken (hoisted_name (cond t (free_number n (k + 1) taken) k)) ≡ false) ⊎ (cond t (free_number n (k + 1) taken) k ≡ k + suc n)
    go true e (inl f) = inl f
    go true e (inr f) = inr (omega arith)
    go false e more = inl e

pub free_at_most : (tries k : ℕ) (taken : List (List ℕ)) → free_number tries k taken ≤ k + tries
free_at_most zero k taken = omega arith
free_at_most (suc n) k taken = go (is_among taken (hoisted_name k)) (free_at_most n (k + 1) taken)
  where
    go : (t : Bool) → free_number n (k + 1) taken ≤ (k + 1) + n → cond t (free_number n (k + 1) taken) k ≤ k + suc n
    go true h = omega arith
    go false h = omega arith

-- one try more
pub free_step : (n k m : ℕ) (taken : List (List ℕ)) → n ≡ suc m → is_among taken (hoisted_name k) ≡ true → free_number n k taken ≡ free_number m (k + 1) taken
free_step n k m taken e t = ap (λ i. free_number i k taken) e ∙ ap (λ b. cond b (free_number m (k + 1) taken) k) t

pub free_here : (n k m : ℕ) (taken : List (List ℕ)) → n ≡ suc m → is_among taken (hoisted_name k) ≡ false → free_number n k taken ≡ k
free_here n k m taken e t = ap (λ i. free_number i k taken) e ∙ ap (λ b. cond b (free_number m (k + 1) taken) k) t

-- among more names than are taken one is free
pub next_is_free : (taken : List (List ℕ)) → length taken < 2 ^ 63 → is_among taken (hoisted_name (free_number (length taken) 0 taken)) ≡ false
next_is_free taken few = go (is_among taken (hoisted_name (free_number (length taken) 0 taken))) refl (free_or_last (length taken) 0 taken)
  where
    go : (t : Bool) → is_among taken (hoisted_name (free_number (length taken) 0 taken)) ≡ t → (is_among taken (hoisted_name (free_number (length taken) 0 taken)) ≡ false) ⊎ (free_number (length taken) 0 taken ≡ 0 + length taken) → is_among taken (hoisted_name (free_number (length taken) 0 taken)) ≡ false
    go t e (inl f) = f
    go false e (inr f) = e
    go true e (inr f) =
        let all = le-length_from_below (map told taken) (length taken + 1)
        (λ q h. any_told q taken (omega arith) (each q h (cases_lt q (length taken)))) in
        let n = length-map taken told in absurd (omega arith)
      where
        each : (q : ℕ) → q < length taken + 1 → (q < length taken) ⊎ (length taken ≤ q) → is_among taken (hoisted_name q) ≡ true
        each q h (inl l) = free_least (length taken) 0 taken q (omega arith) (omega arith)
        each q h (inr l) = let same : free_number (length taken) 0 taken ≡ q = omega arith in subst (λ i. is_among taken (hoisted_name i) ≡ true) same e

-- where the names of lower numbers are taken the search may begin there

skipped : (d k n m : ℕ) (taken : List (List ℕ)) → ((j : ℕ) → k ≤ j → j < k + d → is_among taken (hoisted_name j) ≡ true) → n ≡ d + m → free_number n k taken ≡ free_number m (k + d) taken
skipped zero k n m taken t e = ap (λ i. free_number i k taken) (let f : n ≡ m = omega (arith, e) in f) ∙ ap (λ i. free_number m i taken) (let f : k ≡ k + 0 = omega arith in f)
skipped (suc d) k n m taken t e =
    free_step n k (d + m) taken (omega (arith, e)) (t k (omega arith) (omega arith))
    ∙ skipped d (k + 1) (d + m) m taken (λ j a b. t j (omega (arith, a)) (omega (arith, b))) refl
    ∙ ap (λ i. free_number m i taken) (let f : (k + 1) + d ≡ k + suc d = omega arith in f)

-- there are at least as many names as numbers with a name that is taken
pub taken_few : (from : ℕ) (taken : List (List ℕ)) → from < 2 ^ 64 → AreTakenBelow from taken → from ≤ length taken
taken_few from taken few t =
    let all = le-length_from_below (map told taken) from (λ q h. any_told q taken (omega (arith, few, h)) (t q h)) in
    let n = length-map taken told in omega (arith, all, n)

pub free_from : (from : ℕ) (taken : List (List ℕ)) → from < 2 ^ 64 → AreTakenBelow from taken → free_number (length taken - from) from taken ≡ free_number (length taken) 0 taken
free_from from taken few t =
    let enough = taken_few from taken few t in
    sym (skipped from 0 (length taken) (length taken - from) taken (λ j a b. t j (omega (arith, b))) (omega (arith, enough)) ∙ ap (λ i. free_number (length taken - from) i taken) (let f : 0 + from ≡ from = omega arith in f))

-- after a new register its number's name is taken too, with all lower ones
module _ (names : List (List ℕ)) (g : Growth) where
  abbrev next : ℕ
  next = next_number names g

  abbrev among : List (List ℕ) → ℕ → Bool
  among taken k = is_among taken (hoisted_name k)

  among_parts : (k : ℕ) → among ((grown names g).registers ++ names) k ≡ ((among g.registers k || (bytes_eq (hoisted_name k) (hoisted_name next) || false)) || among names k)
  among_parts k =
      list_any-append (bytes_eq (hoisted_name k)) (g.registers ++ hoisted_name next ∷ []) names
      ∙ ap (λ (b : Bool). b || among names k) (list_any-append (bytes_eq (hoisted_name k)) g.registers (hoisted_name next ∷ []))

  old_among : (p q r : Bool) → (p || r) ≡ true → ((p || (q || false)) || r) ≡ true
  old_among true q r e = refl
  old_among false true r e = refl
  old_among false false r e = e

  new_among : (p q r : Bool) → q ≡ true → ((p || (q || false)) || r) ≡ true
  new_among true q r e = refl
  new_among false true r e = refl
  new_among false false r e = absurd (false≢true e)

  taken_so : (k : ℕ) → k < next + 1 → (k < next) ⊎ (next ≤ k) → among ((grown names g).registers ++ names) k ≡ true
  taken_so k h (inl l) =
      among_parts k
      ∙ old_among (among g.registers k) (bytes_eq (hoisted_name k) (hoisted_name next)) (among names k)
      (sym (list_any-append (bytes_eq (hoisted_name k)) g.registers names) ∙ free_least (length (g.registers ++ names)) 0 (g.registers ++ names) k (omega arith) l)
  taken_so k h (inr l) =
      among_parts k
      ∙ new_among (among g.registers k) (bytes_eq (hoisted_name k) (hoisted_name next)) (among names k)
      ((bytes_eq-Decides (hoisted_name k) (hoisted_name next)).1 (ap hoisted_name (let e : k ≡ next = omega (arith, h, l) in e)))

  pub taken_after : (registers : List (List ℕ)) (name : List ℕ) (k : ℕ) → k ≡ next → name ≡ hoisted_name k → registers ≡ g.registers ++ name ∷ [] → AreTakenBelow (k + 1) (registers ++ names)
  taken_after registers name k e f is j h =
      ap (λ (others : List (List ℕ)). among (others ++ names) j) (is ∙ ap (λ (text : List ℕ). g.registers ++ text ∷ []) (f ∙ ap hoisted_name e)) ∙ taken_so j (omega (arith, h, e)) (cases_lt j next)

  -- and is no large number
  pub next_few : IsTrue (may_grow g) → length names < 2 ^ 32 → next < 2 ^ 33
  next_few may few =
      let most = free_at_most (length (g.registers ++ names)) 0 (g.registers ++ names) in
      let m = (and_parts (nat_lt (length g.registers) 64) (nat_lt g.statements 4096) may).0 in
      let registers = ltb-true (length g.registers) 64 m in
      let long = length-append g.registers names in
      omega arith

pub next_number_is_least_free : NextNumberIsLeastFree
next_number_is_least_free names g few =
    (next_is_free (g.registers ++ names) few, λ k l. free_least (length (g.registers ++ names)) 0 (g.registers ++ names) k (omega arith) l)

-- digits stand in words

digit_in_word : (n : ℕ) → n < 10 → is_word_byte (48 + n) ≡ true
digit_in_word n h = go (is_letter (48 + n)) (is_digit (48 + n)) (and_from (nat_le 48 (48 + n)) (nat_le (48 + n) 57) (le-leb 48 (48 + n) (omega arith)) (le-leb (48 + n) 57 (omega arith)))
  where
    go : (p q : Bool) → q ≡ true → (p || q) ≡ true
    go true q e = refl
    go false q e = e

pub digits_in_word : (n : ℕ) → n < 2 ^ 64 → list_all is_word_byte (decimal n) ≡ true
digits_in_word =
    decimal_by_steps (λ n ds. list_all is_word_byte ds ≡ true) (λ n h. ap (λ b. b && true) (digit_in_word n h))
    (λ n ds h e.
    list_all-append is_word_byte ds ((48 + n % 10) ∷ []) ∙ and_from (list_all is_word_byte ds) (is_word_byte (48 + n % 10) && true) e (ap (λ b. b && true) (digit_in_word (n % 10) (omega arith))))

pub hoisted_is_name : (k : ℕ) → k < 2 ^ 64 → is_name (hoisted_name k) ≡ true
hoisted_is_name k h = ap (λ b. b && true) (digits_in_word k h)

pub hoisted_is_short : (k : ℕ) → k < 10 ^ 10 → is_short (hoisted_name k) ≡ true
hoisted_is_short k h = let n = length-decimal-le 10 k (omega arith) h (omega arith) in le-leb (length (hoisted_name k)) 32 (omega arith)
