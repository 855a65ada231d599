use Rattle.std.proofs.Common.{◌+◌, Bool, drop, sym, ap, ◌∙◌, arith}
use Rattle.il_paths.specs.Tree.{Tree, Empty, before_rest, tree_of_all, sites_of}
use Rattle.il_paths.specs.Code.{placed}
use Rattle.il_paths.proofs.Callers.{tree_of-block, sites_of-drop}
use Rattle.path_meets.specs.Chain.{may_rank}
use Rattle.path_meets.proofs.Callers.{exit-drop}
use Rattle.location_sets.specs.Sets.{has}
use Rattle.validator.specs.Roles.{pending_step}
use Rattle.validator.specs.Walk.{role_at}
use Rattle.validator.specs.Pending.{pending_after}
use Rattle.validator.proofs.pending.+exits.Goals as goal

pub exit_block-loop-statement-init : goal.exit_block-loop-statement-init
exit_block-loop-statement-init t c =
    let e = tree_of-block c.args.block.now ∙ ap tree_of_all (sym c.as_slice-statement-items.ensures) in
    let set = sym (c.in_ok-set.ensures) in
    record {
      pending = λ x i. pending_after (role_at c.args.parts.now) x (placed c.args.site (e i)) (has x (set i));
      place = ap (λ (tree : Tree). c.args.site + sites_of tree) (sym e);
    }

pub exit_block-loop-statement-preserved : goal.exit_block-loop-statement-preserved
exit_block-loop-statement-preserved t c =
    let ss = c.as_slice-statement-items.result.now in
    let i = c.loop-statement.statement-index in
    let s = c.statement-item.result in
    let at = c.loop-statement.at in
    let rest = tree_of_all (drop (i + 1) ss) in
    let role = role_at c.args.parts.now in
    let set = c.loop-statement.set in
    let next = c.in_ok-after.ensures.site in
    let place = c.loop-statement.invariant.place in
    let count = sites_of-drop ss i s c.loop-statement-test.true c.statement-item.is in
    record {
      pending = λ x.
          c.loop-statement.invariant.pending x ∙
          exit-drop Bool may_rank 1 (pending_step role x) ss i s at (has x set) c.loop-statement-test.true c.statement-item.is ∙
          (λ j. pending_after role x (placed (sym next j) rest) (pending_after role x (placed at (before_rest s Empty)) (has x (sym c.as_slice.ensures j)))) ∙
          ap (pending_after role x (placed c.in_ok-after.after.site rest)) (sym (c.in_ok-after.ensures.pending x));
      place = omega (arith, next, place, count);
    }
