-- The last entries, one thread after the other.
use Rattle.std.proofs.Common.{◌≡◌, ⊎_elim, ℕ, zero, suc, ◌+◌, ◌<◌, List, [], ◌∷◌, ◌++◌, length, sym, ap, ◌∙◌, subst, arith, add-one}
use Rattle.std.proofs.lemmas.Bool.{cases_eq}
use Rattle.std.proofs.lemmas.List.{length-append}
use Rattle.values_undef.specs.declared.journal.Entry.{Entry}
use Rattle.il_syntax.specs.declared.program.Program.{Program}
use Rattle.view_machine.specs.State.{State}
use Rattle.outcome_nodes.specs.Standing.{last_entry, with_last_entries}

pub many_last : (p : Program) (steps : ℕ) (entries : List Entry) (s : State) (m : ℕ) → length (with_last_entries p steps entries s m) ≡ length entries + m
many_last p steps entries s zero = omega arith
many_last p steps entries s (suc m) = omega (arith, length-append (with_last_entries p steps entries s m) (last_entry p steps entries s m ∷ []), many_last p steps entries s m)

pub one_last : (p : Program) (steps : ℕ) (entries : List Entry) (s : State) (m : ℕ) (before after : List Entry) (e : Entry) → before ≡ with_last_entries p steps entries s m → e ≡ last_entry p steps entries s m → after ≡ before ++ e ∷ []
    → after ≡ with_last_entries p steps entries s (m + 1)
one_last p steps entries s m before after e q r t =
    t ∙ ap (λ (xs : List Entry). xs ++ e ∷ []) q ∙ ap (λ (x : Entry). with_last_entries p steps entries s m ++ x ∷ []) r ∙ sym (ap (with_last_entries p steps entries s) (add-one m))

-- what holds of the threads below m and of m
pub one_more : (P : ℕ → Type 0) (m : ℕ) → ((j : ℕ) → j < m → P j) → P m → (j : ℕ) → j < m + 1 → P j
one_more P m h q j l = ⊎_elim (λ (e : j ≡ m). subst P (sym e) q) (λ (e : j ≡ m → ⊥). h j (omega (arith, l, e))) (cases_eq j m)
