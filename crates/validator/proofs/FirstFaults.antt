-- There is one first fault, and one function that is refused first.
use Rattle.std.proofs.Common.{◌≡◌, ◌∙◌, ◌<◌, ◌≤◌, ◌⊎◌, ℕ, zero, suc, List, [], ◌∷◌, inl, inr, refl, sym, ap, arith}
use Rattle.std.specs.List.{AllZip}
use Rattle.il_syntax.specs.declared.program.Function.{Function}
use Rattle.validator.specs.declared.fault.Fault.{Fault}
use Rattle.validator.specs.declared.fault.Fault.TheVariants.{V1, V2, V3, V4, V5, V6, V7}
use Rattle.validator.specs.Faults.{Accepts, IsFirst, HasFault, number}
use Rattle.validator.specs.Programs.{IsFirstRefused}

-- a fault by its number

abbrev fault_of : ℕ → Fault
fault_of zero = V7
fault_of (suc zero) = V1
fault_of (suc (suc zero)) = V2
fault_of (suc (suc (suc zero))) = V3
fault_of (suc (suc (suc (suc zero)))) = V4
fault_of (suc (suc (suc (suc (suc zero))))) = V5
fault_of (suc (suc (suc (suc (suc (suc zero)))))) = V6
fault_of (suc (suc (suc (suc (suc (suc (suc n))))))) = V7

numbered : (w : Fault) → fault_of (number w) ≡ w
numbered V1 = refl
numbered V2 = refl
numbered V3 = refl
numbered V4 = refl
numbered V5 = refl
numbered V6 = refl
numbered V7 = refl

pub same_fault : (v w : Fault) → number v ≡ number w → v ≡ w
same_fault v w e = sym (numbered v) ∙ ap fault_of e ∙ numbered w

-- there is one first fault

module _ (Has : ℕ → Fault → Type 0) where
  ordered : (s t : ℕ) (v w : Fault) → (s < t) ⊎ ((s ≡ t) × (number v ≤ number w)) → (t < s) ⊎ ((t ≡ s) × (number w ≤ number v)) → (s ≡ t) × (v ≡ w)
  ordered s t v w (inl below) (inl above) = absurd (omega (arith, below, above))
  ordered s t v w (inl below) (inr same) = absurd (omega (arith, below, same.0))
  ordered s t v w (inr same) (inl above) = absurd (omega (arith, above, same.0))
  ordered s t v w (inr same) (inr back) = (same.0, same_fault v w (omega (arith, same.1, back.1)))

  pub one_first_fault : (s t : ℕ) (v w : Fault) → IsFirst Has s v → IsFirst Has t w → (s ≡ t) × (v ≡ w)
  one_first_fault s t v w h k = ordered s t v w (h.1 t w k.0) (k.1 s v h.0)

-- there is one function that is refused first

pub one_first_refused : (fs gs : List Function) (j k s t : ℕ) (v w : Fault) → IsFirstRefused fs gs j s v → IsFirstRefused fs gs k t w → (j ≡ k) × (s ≡ t) × (v ≡ w)
one_first_refused [] gs j k s t v w h i = absurd h
one_first_refused (f ∷ fs) [] j k s t v w h i = absurd h
one_first_refused (f ∷ fs) (g ∷ gs) zero zero s t v w h i = let same = one_first_fault (HasFault f g) s t v w h i in (refl, same.0, same.1)
one_first_refused (f ∷ fs) (g ∷ gs) zero (suc k) s t v w h i = absurd (i.0 s v h.0)
one_first_refused (f ∷ fs) (g ∷ gs) (suc j) zero s t v w h i = absurd (h.0 t w i.0)
one_first_refused (f ∷ fs) (g ∷ gs) (suc j) (suc k) s t v w h i =
    let more = one_first_refused fs gs j k s t v w h.1 i.1 in
    (ap suc more.0, more.1, more.2)

pub none_refused : (fs gs : List Function) (k s : ℕ) (v : Fault) → AllZip Accepts fs gs → IsFirstRefused fs gs k s v → ⊥
none_refused [] gs k s v all h = absurd h
none_refused (f ∷ fs) [] k s v all h = absurd h
none_refused (f ∷ fs) (g ∷ gs) zero s v all h = all.0 s v h.0
none_refused (f ∷ fs) (g ∷ gs) (suc k) s v all h = none_refused fs gs k s v all.1 h.1
