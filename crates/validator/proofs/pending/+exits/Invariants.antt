use Rattle.std.proofs.Common.{◌≡◌, ◌+◌, ℕ, drop}
use Rattle.il_paths.specs.Tree.{tree_of, tree_of_all, sites_of}
use Rattle.il_paths.specs.Code.{placed}
use Rattle.location_sets.specs.Sets.{has}
use Rattle.validator.specs.Walk.{role_at}
use Rattle.validator.specs.Pending.{pending_after}
use Rattle.validator.proofs.pending.+exits.Given as goal

abbrev pub invariant-exit_block-loop-statement : goal.invariant-exit_block-loop-statement
invariant-exit_block-loop-statement l =
    let rest = tree_of_all (drop l.statement-index l.statement-items) in
    record {
      pending : (x : ℕ) → pending_after (role_at l.parts) x (placed l.site (tree_of l.block)) (has x l.before) ≡ pending_after (role_at l.parts) x (placed l.at rest) (has x l.set);
      place : l.at + sites_of rest ≡ l.site + sites_of (tree_of l.block);
    }
