-- Lines of a range of places, one after the other.
use Rattle.std.proofs.Common.{◌≡◌, ◌∙◌, ℕ, zero, suc, ◌+◌, List, [], ◌∷◌, ◌++◌, append_assoc, append-nil, sym, ap, arith}
use Rattle.std.specs.List.{flat_map, range_with_len}
use Rattle.std.proofs.lemmas.Grind.{flat_map-append}

range_more : (a n : ℕ) → range_with_len a (suc n) ≡ range_with_len a n ++ (a + n) ∷ []
range_more a zero = ap (λ (m : ℕ). m ∷ []) (let h : a ≡ a + 0 = omega arith in h)
range_more a (suc n) =
    let h : a + 1 + n ≡ a + suc n = omega arith in
    ap (λ (ns : List ℕ). a ∷ ns) (range_more (a + 1) n ∙ ap (λ (m : ℕ). range_with_len (a + 1) n ++ m ∷ []) h)

pub lines_more : (f : ℕ → List ℕ) (start text new : List ℕ) (i : ℕ) → text ≡ start ++ flat_map f (range_with_len 0 i) → new ≡ text ++ f i → new ≡ start ++ flat_map f (range_with_len 0 (i + 1))
lines_more f start text new i is more =
    more ∙ ap (λ (t : List ℕ). t ++ f i) is ∙ append_assoc start (flat_map f (range_with_len 0 i)) (f i)
    ∙ ap (λ (t : List ℕ). start ++ t)
    (sym (ap (λ (m : ℕ). flat_map f (range_with_len 0 m)) (let h : i + 1 ≡ suc i = omega arith in h) ∙ ap (flat_map f) (range_more 0 i) ∙ flat_map-append f (range_with_len 0 i) ((0 + i) ∷ []) ∙ ap (λ (t : List ℕ). flat_map f (range_with_len 0 i) ++ t) (append-nil (f (0 + i)) ∙ ap f (let h : 0 + i ≡ i = omega arith in h))))
