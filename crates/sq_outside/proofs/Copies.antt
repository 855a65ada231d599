-- What a source gives into a slice: the first bytes that are left.
use Rattle.std.proofs.Common.{◌≡◌, ℕ, zero, suc, ◌+◌, ◌<◌, ◌≤◌, [], ◌++◌, List, length, drop, take, min, refl, sym, ap, ◌∙◌, arith}
use Rattle.std.proofs.lemmas.List.{take-append-drop, take-append-le, take_all, nil_from_length, drop-drop, length-take, length-drop, length-append}

-- what was copied stands first
pub copied_first : (from into new : List ℕ) (n : ℕ) → n ≤ length from → new ≡ take n from ++ drop n into → take n new ≡ take n from
copied_first from into new n fits is =
    ap (take n) is ∙ take-append-le n (take n from) (drop n into) (omega (arith, length-take n from)) ∙ take_all n (take n from) (omega (arith, length-take n from))

-- what is left, in two parts
pub parted : (xs rest given : List ℕ) (at n : ℕ) → rest ≡ drop at xs → given ≡ take n rest → drop at xs ≡ given ++ drop (at + n) xs
parted xs rest given at n back is = sym (take-append-drop n (drop at xs)) ∙ cc (is, drop-drop n at xs)

-- nothing is given only at the end, or where there is no place
pub none_left : (rest into new : List ℕ) (piece n : ℕ) → (piece ≡ 0 → length rest ≡ 0) → n ≡ min piece (min (length rest) (length into)) → new ≡ take n rest ++ drop n into → n ≡ 0 → 0 < length new → length rest ≡ 0
none_left rest into new zero n some count is none places = some refl
none_left rest into new (suc piece) n some count is none places =
    let long : length new ≡ length (take n rest ++ drop n into) = ap length is in
    omega (arith, length-append (take n rest) (drop n into), length-take n rest, length-drop n into)

pub ended : (xs rest : List ℕ) (at n : ℕ) → rest ≡ drop at xs → n ≡ 0 → rest ≡ [] → drop (at + n) xs ≡ []
ended xs rest at n back none end = sym (drop-drop n at xs) ∙ rw (none, ← back) end
