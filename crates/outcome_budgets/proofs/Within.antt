-- A run within a budget, with one more entry.
use Rattle.std.proofs.Common.{◌≡◌, ⊎_elim, ℕ, ◌+◌, ◌<◌, ◌≤◌, Bool, true, false, cond, eqb, ◌&&◌, List, [], ◌∷◌, ◌++◌, length, refl, sym, ap, ◌∙◌, arith}
use Rattle.std.specs.Prelude.{◌||◌}
use Rattle.std.proofs.lemmas.Bool.{cases_Bool, cases_eq, cond-true, cond-false, eq-eqb, ne_eqb, eqb-true, and_parts}
use Rattle.values_undef.specs.Access.{is_spend}
use Rattle.values_undef.specs.Journal.{entry_steps, used_steps}
use Rattle.values_undef.specs.declared.journal.Entry.{Entry}
use Rattle.il_syntax.specs.declared.program.Program.{Program}
use Rattle.run_choices.specs.Complete.{has_spent}
use Rattle.run_choices.proofs.Callers.{used_more, spent_more}
use Rattle.outcome_budgets.specs.Budgets.{KeepsBudget}

pub used_here : (entries : List Entry) (e : Entry) → used_steps (entries ++ e ∷ []) e.thread ≡ used_steps entries e.thread + entry_steps e
used_here entries e =
    let own : cond (eqb e.thread e.thread) (entry_steps e) 0 ≡ entry_steps e = cond-true (eqb e.thread e.thread) (entry_steps e) 0 (eq-eqb e.thread e.thread refl) in
    omega (arith, used_more entries e e.thread, own)

used_other : (entries : List Entry) (e : Entry) (j : ℕ) → (e.thread ≡ j → ⊥) → used_steps (entries ++ e ∷ []) j ≡ used_steps entries j
used_other entries e j n =
    let none : cond (eqb e.thread j) (entry_steps e) 0 ≡ 0 = cond-false (eqb e.thread j) (entry_steps e) 0 (ne_eqb e.thread j n) in
    omega (arith, used_more entries e j, none)

pub within_more : (p : Program) (entries : List Entry) (e : Entry) (steps : ℕ) → KeepsBudget p entries steps → used_steps entries e.thread + entry_steps e ≤ steps
    → (is_spend e.event ≡ true → used_steps entries e.thread + entry_steps e ≡ steps) → KeepsBudget p (entries ++ e ∷ []) steps
within_more p entries e steps w l full = record { within = within; spent = spent }
  where
    here : (j : ℕ) → e.thread ≡ j → used_steps (entries ++ e ∷ []) j ≡ used_steps entries e.thread + entry_steps e
    here j q = ap (used_steps (entries ++ e ∷ [])) (sym q) ∙ used_here entries e

    within : (j : ℕ) → j < length p.threads → used_steps (entries ++ e ∷ []) j ≤ steps
    within j there =
        ⊎_elim (λ (q : e.thread ≡ j). omega (arith, here j q, l)) (λ (n : e.thread ≡ j → ⊥). omega (arith, used_other entries e j n, w.within j there)) (cases_eq e.thread j)

    -- it has had its `Spend` before, or has it now
    spent : (j : ℕ) → j < length p.threads → has_spent (entries ++ e ∷ []) j ≡ true → used_steps (entries ++ e ∷ []) j ≡ steps
    spent j there h =
        ⊎_elim
        (λ (before : has_spent entries j ≡ true). omega (arith, used_more entries e j, w.spent j there before, within j there))
        (λ (none : has_spent entries j ≡ false).
        let now = and_parts (eqb e.thread j) (is_spend e.event) (sym (ap (λ (b : Bool). b || (eqb e.thread j && is_spend e.event)) none) ∙ sym (spent_more entries e j) ∙ h) in
        here j (eqb-true e.thread j now.0) ∙ full now.1)
        (cases_Bool (has_spent entries j))
