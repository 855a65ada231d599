-- Registers that are given their zeros, and locations that are given what they have.
use Rattle.std.proofs.Common.{◌≡◌, ℕ, zero, suc, pos, ◌+◌, List, [], ◌∷◌, take, replicate, set, get_or, refl, sym, ap, ◌∙◌}
use Rattle.std.specs.List.{AllByRecursion}
use Rattle.std.proofs.lemmas.List.{set-get_or}
use Rattle.values_undef.specs.declared.value.Val.{Val}
use Rattle.values_undef.specs.declared.value.Val.TheVariants.{Def, Undef}
use Rattle.thread_core.specs.Frames.{blank, loaded}
use Rattle.il_syntax.specs.declared.program.Program.{Program}
use Rattle.thread_core.specs.Frames.{called}
use Rattle.seq_semantics.specs.declared.place.Perm.TheVariants.{Bare}
use Rattle.seq_semantics.specs.Seq.{Seq, place_in, seq_begun}
use Rattle.seq_pair.specs.Pair.{bared}

abbrev nought : Val
nought = Def (pos 0)

get_replicate : (n i : ℕ) → get_or (replicate n nought) i nought ≡ nought
get_replicate zero i = refl
get_replicate (suc n) zero = refl
get_replicate (suc n) (suc i) = get_replicate n i

set_replicate : (n i : ℕ) → set (replicate n nought) i nought ≡ replicate n nought
set_replicate n i = ap (set (replicate n nought) i) (sym (get_replicate n i)) ∙ set-get_or (replicate n nought) i nought

loads_zeros : (values : List Val) (from : ℕ) → AllByRecursion (λ v. v ≡ nought) values → loaded from values blank ≡ blank
loads_zeros [] from h = refl
loads_zeros (v ∷ values) from h = ap (λ z. loaded (from + 1) values z) (ap (set blank from) h.0 ∙ set_replicate 64 from) ∙ loads_zeros values (from + 1) h.1

all_zero : (k n : ℕ) → AllByRecursion (λ v. v ≡ nought) (take k (replicate n nought))
all_zero zero n = tt
all_zero (suc k) zero = tt
all_zero (suc k) (suc n) = (refl, all_zero k n)

-- a function that is given zeros begins as one that is given nothing
pub begun_of_zeros : (p : Program) (f k : ℕ) → seq_begun p f (take k (replicate 8 nought)) ≡ seq_begun p f []
begun_of_zeros p f k = ap (λ registers. record (seq_begun p f []) { frame = record (called p f []) { registers = registers } }) (loads_zeros (take k (replicate 8 nought)) 0 (all_zero k 8))

-- a location that was lost before is lost again
pub bared_again : (s : Seq) (x : ℕ) → (place_in s.places x).permission ≡ Bare → bared s x ≡ s
bared_again s x e = ap (λ places. record s { places = places }) (ap (λ permission. set s.places x (record { permission = permission; value = (place_in s.places x).value })) (sym e) ∙ set-get_or s.places x (record { permission = Bare; value = Undef }))
