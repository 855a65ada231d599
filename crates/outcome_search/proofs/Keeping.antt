-- Runs that are kept.
use Rattle.std.proofs.Common.{◌≡◌, ◌⊎◌, ⊎_elim, ℕ, zero, suc, ◌+◌, ◌*◌, ◌<◌, ◌≤◌, List, [], ◌∷◌, ◌++◌, length, map, get_or, refl, sym, ap, ◌∙◌, subst, arith}
use Rattle.std.proofs.lemmas.List.{length-append, length-map, map-append}
use Rattle.std.specs.List.{All, AllByRecursion, Contains}
use Rattle.values_undef.specs.declared.access.Event.{Event}
use Rattle.values_undef.specs.declared.journal.Entry.{Entry}
use Rattle.values_undef.proofs.Callers.{all_push, all_map}
use Rattle.il_syntax.specs.declared.program.Program.{Program}
use Rattle.outcome_nodes.specs.Nodes.{Node, first_node}
use Rattle.outcome_nodes.specs.Reached.{IsReachable}
use Rattle.outcome_nodes.specs.Standing.{node_of, IsNodeRun}
use Rattle.outcome_moves.specs.Room.{largest_stamp, AreSmall}
use Rattle.outcome_search.specs.Runs.{nodes_of, AreDifferent, IsShortRun, AreShortRuns, AreKeptRuns, HasMoreNodes}
use Rattle.outcome_search.proofs.Lists.{last_cases, contains_behind, all_contained, all_places, all_weaker, mapped_from}

small_more : (most more : ℕ) (entries : List Entry) → most ≤ more → AreSmall most entries → AreSmall more entries
small_more most more [] l h = tt
small_more most more (e ∷ entries) l h = (omega (arith, l, h.0), small_more most more entries l h.1)

different_push : (nodes : List Node) (n : Node) → AreDifferent nodes → (Contains nodes n → ⊥) → AreDifferent (nodes ++ n ∷ [])
different_push [] n d h = (λ c. h c, tt)
different_push (m ∷ nodes) n d h = (
  λ c. ⊎_elim (λ (q : Contains nodes m). d.0 q) (λ (q : m ≡ n). h (0, omega arith, q)) (last_cases nodes n m c),
  different_push nodes n d.1 (λ c. h (contains_behind m n nodes c)),
)

module _ (p : Program) (steps : ℕ) where
  pub short_more : (most more : ℕ) (entries : List Entry) → most ≤ more → IsShortRun p steps most entries → IsShortRun p steps more entries
  short_more most more entries l h = record {
    run = h.run;
    few = omega (arith, l, h.few);
    small = small_more (2 * most) (2 * more) entries (omega (arith, l)) h.small;
  }

  pub shorts_more : (most more : ℕ) (runs : List (List Entry)) → most ≤ more → AreShortRuns p steps most runs → AreShortRuns p steps more runs
  shorts_more most more runs l h = all_weaker (IsShortRun p steps most) (IsShortRun p steps more) runs (λ entries q. short_more most more entries l q) h

  pub reached_all : (most : ℕ) (runs : List (List Entry)) → AreShortRuns p steps most runs → AllByRecursion (IsReachable p steps) (nodes_of p steps runs)
  reached_all most runs h = all_map (IsShortRun p steps most) (IsReachable p steps) (node_of p steps) runs (λ entries q. q.run.reached) h

  pub reached_each : (most : ℕ) (runs : List (List Entry)) (n : Node) → AreShortRuns p steps most runs → Contains (nodes_of p steps runs) n → IsReachable p steps n
  reached_each most runs n h c = all_contained (IsReachable p steps) (nodes_of p steps runs) n (reached_all most runs h) c

  pub none_found : (runs : List (List Entry)) (entries : List Entry) (k : ℕ) → length runs ≤ k → ((i : ℕ) (d : List Entry) → i < k → node_of p steps (get_or runs i d) ≡ node_of p steps entries → ⊥) → Contains (nodes_of p steps runs) (node_of p steps entries) → ⊥
  none_found runs entries k l h c =
      let r = mapped_from (node_of p steps) runs (node_of p steps entries) c in
      h r.1.0 r.0 (omega (arith, l, r.1.1)) (ap (node_of p steps) r.1.2 ∙ r.2)

  pub not_there : (runs more : List (List Entry)) (entries other : List Entry) → runs ≡ more → entries ≡ other → (Contains (nodes_of p steps runs) (node_of p steps entries) → ⊥) → Contains (nodes_of p steps more) (node_of p steps other) → ⊥
  not_there runs more entries other e f h c = h (subst (λ (x : List (List Entry)). Contains (nodes_of p steps x) (node_of p steps entries)) (sym e) (subst (λ (x : List Entry). Contains (nodes_of p steps more) (node_of p steps x)) (sym f) c))

  module _ (limit : ℕ) (runs : List (List Entry)) (entries : List Entry) (kept : AreKeptRuns p steps limit runs) (short : IsShortRun p steps (length runs + 1) entries) (new : Contains (nodes_of p steps runs) (node_of p steps entries) → ⊥) where
    one_more : nodes_of p steps (runs ++ entries ∷ []) ≡ nodes_of p steps runs ++ node_of p steps entries ∷ []
    one_more = map-append (node_of p steps) runs (entries ∷ [])

    pub kept_more : length runs < limit → AreKeptRuns p steps limit (runs ++ entries ∷ [])
    kept_more l =
        let many : length (runs ++ entries ∷ []) ≡ length runs + 1 = length-append runs (entries ∷ []) in
        record {
          few = omega (arith, many, l);
          short = subst (λ (k : ℕ). AreShortRuns p steps k (runs ++ entries ∷ [])) (sym many) (all_push (IsShortRun p steps (length runs + 1)) runs entries (shorts_more (length runs) (length runs + 1) runs (omega arith) kept.short) short);
          different = subst AreDifferent (sym one_more) (different_push (nodes_of p steps runs) (node_of p steps entries) kept.different new);
        }

    pub too_many : limit ≤ length runs → HasMoreNodes p steps limit
    too_many l = record {
      nodes = nodes_of p steps runs ++ node_of p steps entries ∷ [];
      reached = all_places (IsReachable p steps) _ (all_push (IsReachable p steps) (nodes_of p steps runs) (node_of p steps entries) (reached_all (length runs) runs kept.short) short.run.reached);
      different = different_push (nodes_of p steps runs) (node_of p steps entries) kept.different new;
      more = omega (arith, l, length-append (nodes_of p steps runs) (node_of p steps entries ∷ []), length-map runs (node_of p steps));
    }
