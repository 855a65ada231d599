-- Updates that stand below others: whether they write, and what.
use Rattle.std.proofs.Common.{◌≡◌, true, false, refl, sym, subst, ◌⊎◌, inl, inr}
use Rattle.std.proofs.lemmas.Bool.{false≢true}
use Rattle.values_undef.specs.Value.{IsBelow}
use Rattle.values_undef.specs.Arithmetic.{number_result}
use Rattle.values_undef.specs.Update.{succeeds, meets_undef, updated}
use Rattle.values_undef.specs.Matching.{IsKindBelow, adds, swaps, compares, DoTheSame, UpdatesMatch}
use Rattle.values_undef.specs.declared.arithmetic.Op.TheVariants.{Add as Sum}
use Rattle.values_undef.specs.declared.value.Val.{Val}
use Rattle.values_undef.specs.declared.value.Val.TheVariants.{Def, Undef}
use Rattle.values_undef.specs.declared.access.UpdateKind.{UpdateKind}
use Rattle.values_undef.specs.declared.access.UpdateKind.TheVariants.{Add, Swap, Cas}
use Rattle.values_undef.proofs.Orders.{strict_in_undef_below}

-- what the lower one writes is below
pub updated_below : (k l : UpdateKind) (a b : Val) → IsKindBelow k l → IsBelow a b → IsBelow (updated k a) (updated l b)
updated_below k l a b (adds {a = c} {b = d} p) q = strict_in_undef_below (number_result Sum) a c b d q p
updated_below k l a b (swaps p) q = p
updated_below k l a b (compares p r) q = r

-- an update that meets `Undef` doesn't write
pub undef_fails : (l : UpdateKind) (b : Val) → meets_undef l b ≡ true → succeeds l b ≡ false
undef_fails (Add a) b e = absurd (false≢true e)
undef_fails (Swap a) b e = absurd (false≢true e)
undef_fails (Cas Undef d) b e = refl
undef_fails (Cas (Def x) d) Undef e = refl
undef_fails (Cas (Def x) d) (Def z) e = absurd (false≢true e)

compares_same : (e f c d a b : Val) → IsBelow e f → IsBelow a b → IsBelow c d → (meets_undef (Cas f d) b ≡ true) ⊎ DoTheSame (Cas e c) (Cas f d) a b
compares_same e Undef c d a b p q r = inl refl
compares_same e (Def x) c d a Undef p q r = inl refl
compares_same e (Def x) c d a (Def z) p q r =
    inr (subst (λ (f : Val). DoTheSame (Cas f c) (Cas (Def x) d) a (Def z)) (sym p)
    (subst (λ (f : Val). DoTheSame (Cas (Def x) c) (Cas (Def x) d) f (Def z)) (sym q) (record { target_defined = refl; source_defined = refl; same = refl; new = r })))

-- the upper one meets `Undef`, or both do the same
pub update_below : UpdatesMatch
update_below k l a b (adds {a = c} {b = d} p) q =
    inr (record { target_defined = refl; source_defined = refl; same = refl; new = strict_in_undef_below (number_result Sum) a c b d q p })
update_below k l a b (swaps p) q = inr (record { target_defined = refl; source_defined = refl; same = refl; new = p })
update_below k l a b (compares {a = e} {b = f} {c = c} {d = d} p r) q = compares_same e f c d a b p q r
