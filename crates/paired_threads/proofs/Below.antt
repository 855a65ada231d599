-- Registers and operands below those of the source.
use Rattle.std.proofs.Common.{◌≡◌, ℕ, ◌<◌, ◌≤◌, List, [], ◌∷◌, length, map, refl, sym, subst, inl, inr, arith, set}
use Rattle.std.proofs.lemmas.Bool.{cases_eq, cases_lt}
use Rattle.std.proofs.lemmas.List.{length-set, get_or-set_same, get_or-set_other, get_or_past}
use Rattle.std.specs.List.{AllByRecursion}
use Rattle.values_undef.specs.declared.value.Val.{Val}
use Rattle.values_undef.specs.declared.value.Val.TheVariants.{Def, Undef}
use Rattle.values_undef.specs.Value.{IsBelow}
use Rattle.values_undef.proofs.Callers.{below_refl}
use Rattle.il_syntax.specs.declared.statement.Atom.{Atom}
use Rattle.il_syntax.specs.declared.statement.Atom.TheVariants.{Const, Reg}
use Rattle.il_syntax.specs.declared.statement.Rmw.{Rmw}
use Rattle.il_syntax.specs.declared.statement.Rmw.TheVariants.{Add, Swap, Cas}
use Rattle.thread_core.specs.Programs.{IsProperAtom, IsProperUpdate}
use Rattle.thread_core.specs.Frames.{evaluated, evaluated_kind}
use Rattle.paired_threads.specs.Values.{register, RegistersBelow, ValuesBelow, IsKindBelow}
use Rattle.values_undef.specs.Matching.{adds, swaps, compares}

pub below_at : (b c b' c' : Val) → b' ≡ b → c' ≡ c → IsBelow b c → IsBelow b' c'
below_at b c b' c' e f h = subst (λ z. IsBelow z c') (sym e) (subst (λ z. IsBelow b z) (sym f) h)

pub set_same : (ts : List Val) (r : ℕ) (b : Val) → r < length ts → register (set ts r b) r ≡ b
set_same ts r b l = get_or-set_same ts r b Undef l

pub set_other : (ts : List Val) (r i : ℕ) (b : Val) → (i ≡ r → ⊥) → register (set ts r b) i ≡ register ts i
set_other ts r i b n = get_or-set_other ts r i b Undef n

-- both get a value in one register
pub set_below : (old : ℕ) (ts ss : List Val) (r : ℕ) (b c : Val) → length ts ≡ length ss → IsBelow b c → RegistersBelow old ts ss → RegistersBelow old (set ts r b) (set ss r c)
set_below old ts ss r b c same below h i l = elim (cases_eq i r) [
  | inr n ↦ below_at _ _ _ _ (set_other ts r i b n) (set_other ss r i c n) (h i l)
  | inl e ↦ elim (cases_lt r (length ts)) [
    | inl w ↦ subst (λ j. IsBelow (register (set ts r b) j) (register (set ss r c) j)) (sym e) (below_at b c _ _ (set_same ts r b w) (set_same ss r c (omega (arith, same, w))) below)
    | inr past ↦
        let u : length (set ts r b) ≤ i = omega (arith, length-set ts r b, e, past) in
        let w : length (set ss r c) ≤ i = omega (arith, length-set ss r c, e, past, same) in
        below_at Undef Undef _ _ (get_or_past (set ts r b) i Undef u) (get_or_past (set ss r c) i Undef w) tt
  ]
]

-- the target alone gets a value in a new register
pub set_new : (old : ℕ) (ts ss : List Val) (r : ℕ) (b : Val) → old ≤ r → RegistersBelow old ts ss → RegistersBelow old (set ts r b) ss
set_new old ts ss r b new h i l = let n : i ≡ r → ⊥ = λ e. omega (arith, e) in below_at _ _ _ _ (set_other ts r i b n) refl (h i l)

module _ (old : ℕ) (ts ss : List Val) (below : RegistersBelow old ts ss) where
  pub atom_below : (a : Atom) → IsProperAtom old a → IsBelow (evaluated ts a) (evaluated ss a)
  atom_below (Const n) proper = below_refl (Def n)
  atom_below (Reg r) proper = below r proper

  pub atoms_below : (args : List Atom) → AllByRecursion (IsProperAtom old) args → ValuesBelow (map (evaluated ts) args) (map (evaluated ss) args)
  atoms_below [] proper = tt
  atoms_below (a ∷ args) proper = (atom_below a proper.0, atoms_below args proper.1)

  pub kind_below : (kind : Rmw) → IsProperUpdate old kind → IsKindBelow (evaluated_kind ts kind) (evaluated_kind ss kind)
  kind_below (Add a) proper = adds (atom_below a proper)
  kind_below (Swap a) proper = swaps (atom_below a proper)
  kind_below (Cas expected new) proper = compares (atom_below expected proper.0) (atom_below new proper.1)
