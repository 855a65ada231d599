-- Lists of numbers by commas.
use Rattle.std.proofs.Common.{◌≡◌, ◌∙◌, ◌==◌, ◌<◌, ◌≤◌, ◌^◌, ℕ, zero, suc, refl, sym, ap, ap₂, subst, Bool, true, false, List, [], ◌∷◌, ◌++◌, length, get_or, map, Result, Ok, Err, Option, Some, None, arith}
use Rattle.std.specs.Prelude.{MatchResult, IsErr, decimal}
use Rattle.std.specs.List.{All, join_with_byte, slice_split}
use Rattle.std.specs.Borrow.{Bor}
use Rattle.std.proofs.lemmas.Fmt.{decimal_is_IsNumeral, decimal_injective}
use Rattle.std.proofs.lemmas.Str.Parse.{digit_at, digit_from_value}
use Rattle.std.proofs.lemmas.List.Splits.{join_with_byte-slice_split, length-slice_split}
use Rattle.clap.proofs.CutLemmas.{Lacks, slice_split-Lacks, slice_split-at}
use Rattle.words.specs.Numbers.{AreNumbers, IsNumber}
use Rattle.std.specs.Str.Parse.{AllDigits}
use Rattle.std.proofs.lemmas.Bool.Decides.{nat_tests}
use Rattle.words.proofs.Spelled.{IsPlain}
use Rattle.words.specs.Meaning.{GivesNumbers}
use Rattle.words.specs.Spelling.{WordText}
use Rattle.words.specs.declared.command.WordsFault.{WordsFault}
use Rattle.words.specs.declared.command.WordsFault.TheVariants.{Refused}

no_comma : (n : ℕ) → n < 2 ^ 64 → Lacks 44 (decimal n)
no_comma n h i lt = let at = digit_at (decimal n) i (decimal_is_IsNumeral n h).0.1 lt in λ e. absurd (omega (arith, at))

rest_small : (high n : ℕ) (ns : List ℕ) → All (λ k. k ≤ high) (n ∷ ns) → All (λ k. k ≤ high) ns
rest_small high n ns h k d lt = h (suc k) d (omega arith)

splits : (high : ℕ) (ns : List ℕ) → high < 2 ^ 64 → 1 ≤ length ns → All (λ k. k ≤ high) ns → slice_split (λ x. x == 44) (join_with_byte 44 (map decimal ns)) ≡ map decimal ns
splits high [] h some small = absurd (omega arith)
splits high (n ∷ []) h some small = let fits : n ≤ high = small 0 n (omega arith) in slice_split-Lacks 44 (decimal n) (no_comma n (omega arith))
splits high (n ∷ (m ∷ ms)) h some small =
    let fits : n ≤ high = small 0 n (omega arith) in
    slice_split-at 44 (decimal n) (join_with_byte 44 (map decimal (m ∷ ms))) (no_comma n (omega arith))
    ∙ ap (λ ps. decimal n ∷ ps) (splits high (m ∷ ms) h (omega arith) (rest_small high n (m ∷ ms) small))

length_map : {A B : Type 0} (f : A → B) (xs : List A) → length (map f xs) ≡ length xs
length_map f [] = refl
length_map f (x ∷ xs) = ap suc (length_map f xs)

module _ {V : Type 0} (items : V → List ℕ) (high : ℕ) (text : WordText) (pieces : List (Bor WordText)) where
  -- each piece is read, and then the list of them
  abbrev pub ReadsEach : Result V WordsFault → Type 0
  ReadsEach r = MatchResult r (λ v. (map (λ x. x.now) pieces ≡ map decimal (items v)) × All (λ n. n ≤ high) (items v))
      (λ e. e ≡ Refused → (ns : List ℕ) → map (λ x. x.now) pieces ≡ map decimal ns → All (λ n. n ≤ high) ns → ⊥)

  abbrev pub ReadsList : Result V WordsFault → Type 0
  ReadsList r = MatchResult r (λ v. AreNumbers high text (items v)) (λ e. e ≡ Refused → (ns : List ℕ) → AreNumbers high text ns → ⊥)

  pub list_read : (r : Result V WordsFault) → high < 2 ^ 64 → map (λ x. x.now) pieces ≡ slice_split (λ b. b == 44) text → length pieces ≤ 4096 → ReadsEach r → ReadsList r
  list_read (Ok v) fits cut few h =
      let lengths : length (items v) ≡ length pieces = sym (length_map decimal (items v)) ∙ ap length (sym h.0) ∙ length_map (λ (x : Bor WordText). x.now) pieces in
      let some = length-slice_split (λ b. b == 44) text in
      let pieces_some : length pieces ≡ length (slice_split (λ b. b == 44) text) = sym (length_map (λ (x : Bor WordText). x.now) pieces) ∙ ap length cut in
      record {
        listed = sym (join_with_byte-slice_split 44 text) ∙ ap (join_with_byte 44) (sym cut ∙ h.0);
        some = omega arith;
        few = omega arith;
        small = h.1;
      }
  list_read (Err e) fits cut few h = λ is ns a. h is ns (cut ∙ ap (slice_split (λ b. b == 44)) a.listed ∙ splits high ns fits a.some a.small) a.small

-- more pieces than a list may have
pub too_many : (high : ℕ) (text : WordText) (pieces : List (Bor WordText)) → high < 2 ^ 64 → map (λ x. x.now) pieces ≡ slice_split (λ b. b == 44) text → 4096 < length pieces → (ns : List ℕ) → AreNumbers high text ns → ⊥
too_many high text pieces fits cut many ns a =
    let same : map (λ x. x.now) pieces ≡ map decimal ns = cut ∙ ap (slice_split (λ b. b == 44)) a.listed ∙ splits high ns fits a.some a.small in
    let lengths : length pieces ≡ length ns = sym (length_map (λ (x : Bor WordText). x.now) pieces) ∙ ap length same ∙ length_map decimal ns in
    let few = a.few in
    absurd (omega arith)

-- a piece that is no number of the range
now_at : (pieces : List (Bor WordText)) (ns : List ℕ) (i : ℕ) (d : Bor WordText) → i < length pieces → map (λ x. x.now) pieces ≡ map decimal ns → ((get_or pieces i d).now ≡ decimal (get_or ns i 0)) × (i < length ns)
now_at [] ns i d lt same = absurd (omega arith)
now_at (p ∷ ps) [] i d lt same = absurd cc
now_at (p ∷ ps) (n ∷ ns) zero d lt same = (cc, omega arith)
now_at (p ∷ ps) (n ∷ ns) (suc i) d lt same =
    let rest : map (λ x. x.now) ps ≡ map decimal ns = cc in
    let below = now_at ps ns i d (omega arith) rest in
    (below.0, omega (arith, below.1))

pub piece_refused : (pieces : List (Bor WordText)) (top high i : ℕ) (d : Bor WordText) → top ≡ high → i < length pieces → ((n : ℕ) → IsNumber 0 top (get_or pieces i d).now n → ⊥)
    → (ns : List ℕ) → map (λ x. x.now) pieces ≡ map decimal ns → All (λ n. n ≤ high) ns → ⊥
piece_refused pieces top high i d tops lt h ns same small =
    let at = now_at pieces ns i d lt same in
    let fits : get_or ns i 0 ≤ high = small i 0 at.1 in
    h (get_or ns i 0) (at.0, omega arith, omega arith)

pub err_anyhow : {V : Type 0} (P : V → Type 0) (Q : WordsFault → Type 0) (r : Result V WordsFault) → IsErr r → ((e : WordsFault) → Q e) → MatchResult r P Q
err_anyhow P Q (Ok v) h q = absurd cc
err_anyhow P Q (Err e) h q = q e

-- an option that lists numbers, and one that is left out
pub numbers_left : (high : ℕ) (value : Option WordText) (ns : List ℕ) → None ≡ value → ns ≡ [] → GivesNumbers high value ns
numbers_left high value ns same none = subst (λ v. GivesNumbers high v ns) same none

pub numbers_set : (high : ℕ) (text : WordText) (value : Option WordText) (r : Result (List ℕ) WordsFault) → Some text ≡ value
    → MatchResult r (λ ns. AreNumbers high text ns) (λ e. e ≡ Refused → (ns : List ℕ) → AreNumbers high text ns → ⊥)
    → MatchResult r (λ ns. GivesNumbers high value ns) (λ e. e ≡ Refused → (ns : List ℕ) → GivesNumbers high value ns → ⊥)
numbers_set high text value r same h = subst (λ v. MatchResult r (λ ns. GivesNumbers high v ns) (λ e. e ≡ Refused → (ns : List ℕ) → GivesNumbers high v ns → ⊥)) same h

plain_digits : (ds : WordText) → 0 < length ds → AllDigits 10 ds → IsPlain ds
plain_digits [] h d = absurd (omega arith)
plain_digits (x ∷ xs) h d =
    let low : 48 ≤ x = (digit_from_value x d.0).0 in
    let differs : (x == 45) ≡ false = grind (arith, nat_tests) in
    rw differs

pub plain_decimal : (n : ℕ) → n < 2 ^ 64 → IsPlain (decimal n)
plain_decimal n h = let digits = (decimal_is_IsNumeral n h).0 in plain_digits (decimal n) digits.0 digits.1

plain_front : (xs rest : WordText) → 0 < length xs → IsPlain xs → IsPlain (xs ++ rest)
plain_front [] rest h p = absurd (omega arith)
plain_front (x ∷ xs) rest h p = go (x == 45) refl
  where
    go : (t : Bool) → (x == 45) ≡ t → IsPlain (x ∷ (xs ++ rest))
    go true e = absurd (let bad : Some xs ≡ None = rw e at p in cc)
    go false e = rw e

-- a list of numbers begins with a digit
pub plain_numbers : (high : ℕ) (text : WordText) (ns : List ℕ) → high < 2 ^ 64 → AreNumbers high text ns → IsPlain text
plain_numbers high text ns h a = subst IsPlain (sym a.listed) (go ns a.some a.small)
  where
    go : (ns : List ℕ) → 1 ≤ length ns → All (λ k. k ≤ high) ns → IsPlain (join_with_byte 44 (map decimal ns))
    go [] some small = absurd (omega arith)
    go (n ∷ []) some small = let fits : n ≤ high = small 0 n (omega arith) in plain_decimal n (omega arith)
    go (n ∷ (m ∷ ms)) some small =
        let fits : n ≤ high = small 0 n (omega arith) in
        plain_front (decimal n) _ (decimal_is_IsNumeral n (omega arith)).0.0 (plain_decimal n (omega arith))

-- and no other numbers
same_decimals : (high : ℕ) (ns ms : List ℕ) → high < 2 ^ 64 → All (λ k. k ≤ high) ns → All (λ k. k ≤ high) ms → map decimal ns ≡ map decimal ms → ns ≡ ms
same_decimals high [] [] h a b e = refl
same_decimals high [] (m ∷ ms) h a b e = absurd cc
same_decimals high (n ∷ ns) [] h a b e = absurd cc
same_decimals high (n ∷ ns) (m ∷ ms) h a b e =
    let n_fits : n ≤ high = a 0 n (omega arith) in
    let m_fits : m ≤ high = b 0 m (omega arith) in
    let texts : decimal n ≡ decimal m = cc in
    let rest : map decimal ns ≡ map decimal ms = cc in
    ap₂ (λ x xs. x ∷ xs) (decimal_injective n m (omega arith) (omega arith) texts) (same_decimals high ns ms h (rest_small high n ns a) (rest_small high m ms b) rest)

pub same_numbers : (high : ℕ) (text : WordText) (ns ms : List ℕ) → high < 2 ^ 64 → AreNumbers high text ns → AreNumbers high text ms → ns ≡ ms
same_numbers high text ns ms h a b =
    same_decimals high ns ms h a.small b.small
    (sym (splits high ns h a.some a.small) ∙ ap (slice_split (λ x. x == 44)) (sym a.listed ∙ b.listed) ∙ splits high ms h b.some b.small)
