-- Lists that are compared element by element, and lists that grow by one.
use Rattle.std.proofs.Common.{◌≡◌, ◌&&◌, ℕ, zero, suc, ◌+◌, ◌<◌, ◌≤◌, Bool, List, [], ◌∷◌, ◌++◌, length, drop, map, refl, sym, ap, ◌∙◌, arith}
use Rattle.std.specs.List.{range_with_len}
use Rattle.std.specs.declared.cmp.Ordering.{Ordering}
use Rattle.std.specs.declared.cmp.Ordering.TheVariants.{Less, Greater}
use Rattle.std.specs.Ordering.{ordering_then}
use Rattle.std.specs.Cmp.Lexicographic.{slice_cmp, pointwise}
use Rattle.std.proofs.lemmas.List.{map-append, append_assoc}
use Rattle.std.proofs.lemmas.List.FromFn.{map-range_with_len_more}

more_left : {X : Type 0} (xs : List X) (k : ℕ) → k < length xs → (y : X) × (zs : List X) × (drop k xs ≡ y ∷ zs)
more_left [] k l = absurd (omega (arith, l))
more_left (x ∷ xs) zero l = (x, xs, refl)
more_left (x ∷ xs) (suc k) l = more_left xs k (omega (arith, l))

none_left : {X : Type 0} (xs : List X) (k : ℕ) → length xs ≤ k → drop k xs ≡ []
none_left [] zero l = refl
none_left [] (suc k) l = refl
none_left (x ∷ xs) zero l = absurd (omega (arith, l))
none_left (x ∷ xs) (suc k) l = none_left xs k (omega (arith, l))

-- the second list ends at k, or the first one
pub second_ends : {X : Type 0} (R : X → X → Ordering) (xs ys : List X) (k : ℕ) → k < length xs → length ys ≤ k → slice_cmp R (drop k xs) (drop k ys) ≡ slice_cmp R xs ys → Greater ≡ slice_cmp R xs ys
second_ends R xs ys k l m h =
    let a = more_left xs k l in
    let b = none_left ys k m in (λ i. slice_cmp R (sym a.2 i) (sym b i)) ∙ h

pub first_ends : {X : Type 0} (R : X → X → Ordering) (xs ys : List X) (k : ℕ) → length xs ≤ k → k < length ys → slice_cmp R (drop k xs) (drop k ys) ≡ slice_cmp R xs ys → Less ≡ slice_cmp R xs ys
first_ends R xs ys k l m h =
    let a = none_left xs k l in
    let b = more_left ys k m in (λ i. slice_cmp R (sym a i) (sym b.2 i)) ∙ h

-- of images
pub mapped_cmp : {X Y : Type 0} (f : X → Y) (R : Y → Y → Ordering) (xs ys : List X) → slice_cmp (λ x y. R (f x) (f y)) xs ys ≡ slice_cmp R (map f xs) (map f ys)
mapped_cmp f R [] [] = refl
mapped_cmp f R [] (y ∷ ys) = refl
mapped_cmp f R (x ∷ xs) [] = refl
mapped_cmp f R (x ∷ xs) (y ∷ ys) = ap (ordering_then (R (f x) (f y))) (mapped_cmp f R xs ys)

pub mapped_test : {X Y : Type 0} (f : X → Y) (E : Y → Y → Bool) (xs ys : List X) → pointwise (λ x y. E (f x) (f y)) xs ys ≡ pointwise E (map f xs) (map f ys)
mapped_test f E [] [] = refl
mapped_test f E [] (y ∷ ys) = refl
mapped_test f E (x ∷ xs) [] = refl
mapped_test f E (x ∷ xs) (y ∷ ys) = ap (λ (b : Bool). E (f x) (f y) && b) (mapped_test f E xs ys)

-- ---- one more

pub image_more : {X Y : Type 0} (f : X → Y) (g : ℕ → Y) (out new : List X) (x : X) (k : ℕ) → map f out ≡ map g (range_with_len 0 k) → f x ≡ g k → new ≡ out ++ x ∷ [] → map f new ≡ map g (range_with_len 0 (k + 1))
image_more f g out new x k h is more =
    ap (map f) more ∙ map-append f out (x ∷ []) ∙ (λ i. h i ++ is i ∷ []) ∙ sym (map-range_with_len_more g 0 k k (omega arith))

pub value_more : {Y : Type 0} (g : ℕ → Y) (start out new : List Y) (v : Y) (k : ℕ) → out ≡ start ++ map g (range_with_len 0 k) → v ≡ g k → new ≡ out ++ v ∷ [] → new ≡ start ++ map g (range_with_len 0 (k + 1))
value_more g start out new v k h is more =
    more ∙ (λ i. h i ++ is i ∷ []) ∙ append_assoc start (map g (range_with_len 0 k)) (g k ∷ []) ∙ ap (λ ys. start ++ ys) (sym (map-range_with_len_more g 0 k k (omega arith)))
