-- The runs have all outcomes that the nodes show; the first node.
use Rattle.std.proofs.Common.{◌≡◌, ◌⊎◌, ⊎_elim, ℕ, zero, suc, ◌+◌, ◌<◌, ◌≤◌, List, [], ◌∷◌, length, map, get_or, replicate, refl, sym, ap, ◌∙◌, subst, arith}
use Rattle.std.proofs.lemmas.Bool.{cases_eq}
use Rattle.std.specs.List.{AllByRecursion, Contains, range_with_len}
use Rattle.values_undef.specs.declared.access.Event.{Event}
use Rattle.values_undef.specs.declared.journal.Ending.{Ending}
use Rattle.values_undef.specs.declared.journal.Entry.{Entry}
use Rattle.il_syntax.specs.declared.program.Program.{Program}
use Rattle.thread_core.specs.Programs.{IsProperProgram}
use Rattle.view_machine.specs.Runs.{IsJournalRun}
use Rattle.run_choices.specs.Complete.{IsComplete}
use Rattle.outcome_nodes.specs.Nodes.{Node, first_node, told_by}
use Rattle.outcome_nodes.specs.Laws.{IsClosedUnderMoves}
use Rattle.outcome_nodes.specs.Outcome.{FinalOutcome, final_outcome_of, IsOutcome, HaveAllOutcomes, Fails, Ends, failed_outcome, ended_outcome}
use Rattle.outcome_nodes.specs.Reached.{IsReachable, begins}
use Rattle.outcome_nodes.specs.Standing.{node_of}
use Rattle.outcome_nodes.proofs.Callers.{nodes_told, of_failed_run, of_ended_run, shown_are_outcomes, first_run}
use Rattle.outcome_search.specs.Runs.{nodes_of, Extends, IsCompleteRun, AreCompleteRuns, IsShortRun}
use Rattle.outcome_search.specs.Search.{HasFailure, HasEnding}
use Rattle.outcome_search.proofs.Lists.{contains_map, contains_more, get_any, mapped_from, all_weaker}

module _ (p : Program) (steps : ℕ) (nodes : List Node) (runs : List (List Entry)) where
  pub have_all : IsProperProgram p → IsClosedUnderMoves p steps nodes → ((n : Node) → Contains nodes n → IsReachable p steps n) → AreCompleteRuns p steps runs → ((n : Node) → Contains nodes n → HasFailure p steps n runs) → ((n : Node) → Contains nodes n → HasEnding p steps n runs)
      → HaveAllOutcomes p steps runs
  have_all ok closed reached complete failures endings = record {
    complete = all_weaker (IsCompleteRun p steps) (λ entries. IsJournalRun p entries × IsComplete p entries steps) runs (λ entries h. (h.run, h.complete)) complete;
    all = λ o q.
        let s = (shown_are_outcomes p steps nodes o ok closed reached).0 q in
        ⊎_elim
        (λ (f : Fails p steps s.node × (failed_outcome s.node ≡ o)).
        let r = failures s.node s.listed f.0 in
        subst (Contains (map (final_outcome_of p) runs)) (of_failed_run p steps s.node r.0 r.2 ∙ f.1) (contains_map (final_outcome_of p) runs r.0 r.1))
        (λ (e : (ending : Ending) × Ends p steps s.node ending × (ended_outcome s.node ending ≡ o)).
        let r = endings s.node s.listed e.1.stand in
        subst (Contains (map (final_outcome_of p) runs)) (of_ended_run p steps s.node e.0 r.0 e.1 r.2 ∙ e.2) (contains_map (final_outcome_of p) runs r.0 r.1))
        s.shows;
  }

-- ---- endings, run by run

module _ (p : Program) (steps : ℕ) where
  failures_more : (n : Node) (runs more : List (List Entry)) → Extends runs more → HasFailure p steps n runs → HasFailure p steps n more
  failures_more n runs more a h = λ f. let q = h f in (q.0, contains_more runs more q.0 a q.1, q.2)

  endings_more : (n : Node) (runs more : List (List Entry)) → Extends runs more → HasEnding p steps n runs → HasEnding p steps n more
  endings_more n runs more a h = λ f. let q = h f in (q.0, contains_more runs more q.0 a q.1, q.2)

  pub failures_kept : (nodes : List Node) (runs more : List (List Entry)) → Extends runs more → ((n : Node) → Contains nodes n → HasFailure p steps n runs) → (n : Node) → Contains nodes n → HasFailure p steps n more
  failures_kept nodes runs more a h = λ n c. failures_more n runs more a (h n c)

  module _ (kept : List (List Entry)) where
    pub one_more_ends : (runs more : List (List Entry)) (k : ℕ) (entries : List Entry) → Extends runs more → k < length kept → get_or kept k entries ≡ entries
        → ((i : ℕ) (d : List Entry) → i < k → HasEnding p steps (node_of p steps (get_or kept i d)) runs) → HasEnding p steps (node_of p steps entries) more
        → (i : ℕ) (d : List Entry) → i < k + 1 → HasEnding p steps (node_of p steps (get_or kept i d)) more
    one_more_ends runs more k entries a below here old new = λ i d l.
        ⊎_elim
        (λ (f : i ≡ k).
        subst (λ (x : List Entry). HasEnding p steps (node_of p steps x) more) (sym (ap (λ (j : ℕ). get_or kept j d) f ∙ get_any kept k d entries below ∙ here)) new)
        (λ (f : i ≡ k → ⊥). endings_more _ runs more a (old i d (omega (arith, l, f))))
        (cases_eq i k)

    pub each_ends : (runs : List (List Entry)) (k : ℕ) → length kept ≤ k → ((i : ℕ) (d : List Entry) → i < k → HasEnding p steps (node_of p steps (get_or kept i d)) runs) → (n : Node) → Contains (nodes_of p steps kept) n → HasEnding p steps n runs
    each_ends runs k l all n c =
        let r = mapped_from (node_of p steps) kept n c in
        subst (λ (m : Node). HasEnding p steps m runs) (ap (node_of p steps) r.1.2 ∙ r.2) (all r.1.0 r.0 (omega (arith, l, r.1.1)))

-- ---- the first node

told_none : (a n : ℕ) → map (told_by []) (range_with_len a n) ≡ replicate n []
told_none a zero = refl
told_none a (suc n) = ap (λ (t : List (List Event)). [] ∷ t) (told_none (a + 1) n)

pub first_is : (p : Program) (steps : ℕ) → IsProperProgram p → node_of p steps [] ≡ first_node p steps
first_is p steps ok = nodes_told p steps (node_of p steps []) (first_node p steps) ok (first_run p steps).reached begins (told_none 0 (length p.threads)) refl refl

pub first_short : (p : Program) (steps most : ℕ) → IsShortRun p steps most []
first_short p steps most = record { run = first_run p steps; few = omega arith; small = tt }
