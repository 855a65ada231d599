-- The list of the outcomes of some runs, run by run.
use Rattle.std.proofs.Common.{◌≡◌, ◌∙◌, ◌⊎◌, inl, inr, ⊎_elim, ℕ, ◌+◌, ◌<◌, ◌≤◌, List, [], ◌∷◌, length, map, get_or, sym, ap, subst, arith}
use Rattle.std.specs.List.{AllByRecursion, Contains}
use Rattle.std.proofs.lemmas.Bool.{cases_eq}
use Rattle.std.proofs.lemmas.List.{get_or-map, length-map}
use Rattle.values_undef.specs.declared.journal.Entry.{Entry}
use Rattle.values_undef.proofs.Callers.{all_get}
use Rattle.il_syntax.specs.declared.program.Program.{Program}
use Rattle.view_machine.specs.Runs.{IsJournalRun}
use Rattle.run_choices.specs.Complete.{IsComplete}
use Rattle.outcome_nodes.specs.Outcome.{FinalOutcome, HaveAllOutcomes, IsOutcome, final_outcome_of}
use Rattle.outcome_list.specs.declared.found.Found.{Found}
use Rattle.outcome_list.specs.List.{found_outcome, IsAdded, IsFirstOf, IsFound, IsNew}

abbrev HasThose : Program → List (List Entry) → ℕ → List Found → Type 0
HasThose p runs k list = (j : ℕ) → j < k → Contains (map found_outcome list) (final_outcome_of p (get_or runs j []))

later : (p : Program) (runs : List (List Entry)) (k : ℕ) (f : Found) → IsFirstOf p runs k f → IsFirstOf p runs (k + 1) f
later p runs k f h = record { at = h.at; there = omega (arith, h.there); journal = h.journal; outcome = h.outcome; first = h.first }

first_each : (p : Program) (runs : List (List Entry)) (k : ℕ) (before : List Found) (f : Found) → HasThose p runs k before → AllByRecursion (IsFirstOf p runs k) before → Contains before f ⊎ IsNew p (get_or runs k []) before f
    → IsFirstOf p runs (k + 1) f
first_each p runs k before f those h (inl c) = later p runs k f (subst (IsFirstOf p runs k) c.2 (all_get (IsFirstOf p runs k) before c.0 f c.1 h))
first_each p runs k before f those h (inr new) = record {
  at = k;
  there = omega arith;
  journal = new.journal;
  outcome = ap (final_outcome_of p) new.journal ∙ sym new.outcome;
  first = λ j l same. new.other (subst (λ (o : FinalOutcome). Contains (map found_outcome before) o) same (those j l));
}

all_first : (p : Program) (runs : List (List Entry)) (k : ℕ) (before some : List Found) → HasThose p runs k before → AllByRecursion (IsFirstOf p runs k) before
    → AllByRecursion (λ f. Contains before f ⊎ IsNew p (get_or runs k []) before f) some → AllByRecursion (IsFirstOf p runs (k + 1)) some
all_first p runs k before [] those h each = tt
all_first p runs k before (f ∷ some) those h each = (first_each p runs k before f those h each.0, all_first p runs k before some those h each.1)

module _ (p : Program) (runs : List (List Entry)) (k : ℕ) (before after : List Found) (added : IsAdded p (get_or runs k []) before after) (those : HasThose p runs k before) where
  pub first_more : AllByRecursion (IsFirstOf p runs k) before → AllByRecursion (IsFirstOf p runs (k + 1)) after
  first_more h = all_first p runs k before after those h added.each

  pub those_more : HasThose p runs (k + 1) after
  those_more j l =
      ⊎_elim (λ (q : j ≡ k). subst (λ (n : ℕ). Contains (map found_outcome after) (final_outcome_of p (get_or runs n []))) (sym q) added.has)
      (λ (q : j ≡ k → ⊥). added.kept (final_outcome_of p (get_or runs j [])) (those j (omega (arith, l, q)))) (cases_eq j k)

-- the list has all outcomes, and no others

pub nothing_missed : (p : Program) (steps k : ℕ) (runs : List (List Entry)) (list : List Found) → HaveAllOutcomes p steps runs → length runs ≤ k → HasThose p runs k list → (o : FinalOutcome) → IsOutcome p steps o → Contains (map found_outcome list) o
nothing_missed p steps k runs list all many those o is =
    let at = all.all o is in
    let l = length-map runs (final_outcome_of p) in
    let there : at.0 < length runs = omega (arith, l, at.1) in
    subst (λ (q : FinalOutcome). Contains (map found_outcome list) q) (sym (get_or-map (final_outcome_of p) runs at.0 [] o there) ∙ at.2) (those at.0 (omega (arith, there, many)))

is_found : (p : Program) (steps k : ℕ) (runs : List (List Entry)) (f : Found) → HaveAllOutcomes p steps runs → k ≤ length runs → IsFirstOf p runs k f → IsFound p steps f
is_found p steps k runs f all few h =
    let run = all_get (λ entries. IsJournalRun p entries × IsComplete p entries steps) runs h.at [] (omega (arith, h.there, few)) all.complete in
    let mine = subst (λ (j : List Entry). IsJournalRun p j × IsComplete p j steps) (sym h.journal) run in
    (mine.0, mine.1, h.outcome)

pub nothing_invented : (p : Program) (steps k : ℕ) (runs : List (List Entry)) (list : List Found) → HaveAllOutcomes p steps runs → k ≤ length runs → AllByRecursion (IsFirstOf p runs k) list → AllByRecursion (IsFound p steps) list
nothing_invented p steps k runs [] all few h = tt
nothing_invented p steps k runs (f ∷ list) all few h = (is_found p steps k runs f all few h.0, nothing_invented p steps k runs list all few h.1)

pub first_at_end : (p : Program) (k : ℕ) (runs : List (List Entry)) (list : List Found) → k ≤ length runs → length runs ≤ k → AllByRecursion (IsFirstOf p runs k) list → AllByRecursion (IsFirstOf p runs (length runs)) list
first_at_end p k runs list few many h =
    let e : k ≡ length runs = omega (arith, few, many) in subst (λ (n : ℕ). AllByRecursion (IsFirstOf p runs n) list) e h
