use Rattle.std.proofs.Common.{◌+◌, ◌++◌, ◌∷◌, [], ℕ, Bool, List, drop, sym, ap, ◌∙◌, append_assoc, arith}
use Rattle.std.specs.Prelude.{◌||◌}
use Rattle.il_syntax.specs.declared.statement.Stmt.TheOpen.{If, While}
use Rattle.il_syntax.specs.Statements.{Head}
use Rattle.il_paths.specs.Tree.{Tree, Empty, before_rest, tree_of, tree_of_all, sites_of}
use Rattle.il_paths.specs.Code.{placed}
use Rattle.il_paths.proofs.Callers.{tree_of-block, sites_of-drop}
use Rattle.path_meets.specs.Chain.{may_rank}
use Rattle.path_meets.specs.Walks.{meet_of_turns}
use Rattle.path_meets.proofs.Callers.{exit-drop, table-drop, table-if, table-while}
use Rattle.location_sets.specs.Sets.{has, column}
use Rattle.validator.specs.Roles.{pending_after_role, pending_step}
use Rattle.validator.specs.Walk.{role_at}
use Rattle.validator.specs.Pending.{pending_after, pending_within}
use Rattle.validator.proofs.PendingLaws.{or_meet, head_of-if, head_of-while}
use Rattle.validator.proofs.pending.+fills.Goals as goal

pub fill_block-loop-statement-init : goal.fill_block-loop-statement-init
fill_block-loop-statement-init t c =
    let e = tree_of-block c.args.block.now ∙ ap tree_of_all (sym c.as_slice-statement-items.ensures) in
    let set = sym (c.in_ok-set.ensures) in
    record {
      pending = λ x i. pending_after (role_at c.args.parts.now) x (placed c.args.site (e i)) (has x (set i));
      place = ap (λ (tree : Tree). c.args.site + sites_of tree) (sym e);
      sets = λ x i. column x c.args.sets.now ++ pending_within (role_at c.args.parts.now) x (placed c.args.site (e i)) (has x (set i));
    }

pub fill_block-loop-statement-preserved : goal.fill_block-loop-statement-preserved
fill_block-loop-statement-preserved t c =
    let ss = c.as_slice-statement-items.result.now in
    let i = c.loop-statement.statement-index in
    let s = c.statement-item.result in
    let at = c.loop-statement.at in
    let rest = tree_of_all (drop (i + 1) ss) in
    let role = role_at c.args.parts.now in
    let set = c.loop-statement.set in
    let next = c.in_ok-after.ensures.site in
    let place = c.loop-statement.invariant.place in
    let count = sites_of-drop ss i s c.loop-statement-test.true c.statement-item.is in
    let same = c.as_slice.ensures in
    let had = c.loop-statement.sets in
    record {
      pending = λ x.
          c.loop-statement.invariant.pending x ∙
          exit-drop Bool may_rank 1 (pending_step role x) ss i s at (has x set) c.loop-statement-test.true c.statement-item.is ∙
          (λ j. pending_after role x (placed (sym next j) rest) (pending_after role x (placed at (before_rest s Empty)) (has x (sym same j)))) ∙
          ap (pending_after role x (placed c.in_ok-after.after.site rest)) (sym (c.in_ok-after.ensures.pending x));
      place = omega (arith, next, place, count);
      sets = λ x.
          let here = pending_within role x (placed at (before_rest s Empty)) (has x set) in
          let after = pending_after role x (placed at (before_rest s Empty)) (has x set) in
          let exit = c.in_ok-after.ensures.pending x ∙ ap (λ (l : List ℕ). pending_after role x (placed at (before_rest s Empty)) (has x l)) same in
          let new = c.in_ok-after.ensures.sets x ∙ ap (λ (l : List ℕ). column x had ++ pending_within role x (placed at (before_rest s Empty)) (has x l)) same in
          c.loop-statement.invariant.sets x ∙
          ap (λ (l : List Bool). column x had ++ l) (table-drop Bool may_rank 1 (pending_step role x) ss i s at (has x set) c.loop-statement-test.true c.statement-item.is) ∙
          sym (append_assoc (column x had) here (pending_within role x (placed (at + sites_of (before_rest s Empty)) rest) after)) ∙
          (λ j. sym new j ++ pending_within role x (placed (sym next j) rest) (sym exit j));
    }

pub fill-returns-in_ok-set-in-If-clause-sets : goal.fill-returns-in_ok-set-in-If-clause-sets
fill-returns-in_ok-set-in-If-clause-sets t c = λ x.
    let role = role_at c.args.parts.now in
    let s = c.args.statement.now in
    let site = c.args.site in
    let had = column x c.args.sets.now in
    let first = has x c.args.before.now in
    let yes = tree_of c.in-If.yes in
    let no = tree_of c.in-If.no in
    let head : Head = If c.in-If.a tt tt in
    let m = pending_after_role x (role site) head first in
    let one = pending_within role x (placed (site + 1) yes) m in
    let other = pending_within role x (placed (site + 1 + sites_of yes) no) m in
    let same = head_of-if s c.in-If.a c.in-If.yes c.in-If.no c.in-If.is in
    let own = c.in_ok-own-in-If.ensures x ∙ (λ i. pending_after_role x (c.role_at.ensures i) (same i) first) in
    let start = ap (has x) c.as_slice.ensures ∙ own in
    let again = ap (has x) c.as_slice-in-If.ensures ∙ own in
    let put = c.in_ok-one-in-If.ensures.sets x ∙ (λ i. c.in_ok-push_set-in-If.ensures x i ++ pending_within role x (placed (site + 1) yes) (start i)) in
    c.in_ok-other-in-If.ensures.sets x ∙ (λ i. put i ++ pending_within role x (placed (c.in_ok-one-in-If.ensures.site i) no) (again i)) ∙
    append_assoc (had ++ first ∷ []) one other ∙ append_assoc had (first ∷ []) (one ++ other) ∙
    ap (λ (l : List Bool). had ++ l) (sym (table-if Bool may_rank 1 (pending_step role x) s c.in-If.a c.in-If.yes c.in-If.no site first c.in-If.is))

pub fill-returns-in_ok-turned-in-While-clause-sets : goal.fill-returns-in_ok-turned-in-While-clause-sets
fill-returns-in_ok-turned-in-While-clause-sets t c = λ x.
    let role = role_at c.args.parts.now in
    let s = c.args.statement.now in
    let site = c.args.site in
    let had = column x c.args.sets.now in
    let first = has x c.args.before.now in
    let body = tree_of c.in-While.body in
    let head : Head = While c.in-While.a tt in
    let step = pending_after_role x (role site) head in
    let turn = pending_after role x (placed (site + 1) body) in
    let low = meet_of_turns Bool may_rank 1 (λ b. turn (step b)) first in
    let within = pending_within role x (placed (site + 1) body) (step low) in
    let same = head_of-while s c.in-While.a c.in-While.body c.in-While.is in
    let own = c.in_ok-own-in-While.ensures x ∙ (λ i. pending_after_role x (c.role_at-in-While.ensures i) (same i) first) in
    let turned = c.in_ok-turn-in-While.ensures.pending x ∙ ap turn (ap (has x) c.as_slice-in-While.ensures ∙ own) in
    let lowest = c.in_ok-low-in-While.ensures x ∙ ap (λ (b : Bool). first || b) (ap (has x) c.as_slice-in-While-2.ensures ∙ turned) ∙ or_meet first (turn (step first)) in
    let put = c.in_ok-push_set-in-While.ensures x ∙ ap (λ (b : Bool). had ++ b ∷ []) (ap (has x) c.as_slice-in-While-3.ensures ∙ lowest) in
    let start = c.in_ok-set-in-While.ensures x ∙ (λ i. pending_after_role x (c.role_at-in-While-2.ensures i) (same i) ((ap (has x) c.as_slice-in-While-4.ensures ∙ lowest) i)) in
    c.in_ok-turned-in-While.ensures.sets x ∙ (λ i. put i ++ pending_within role x (placed (site + 1) body) ((ap (has x) c.as_slice-in-While-5.ensures ∙ start) i)) ∙
    append_assoc had (low ∷ []) within ∙
    ap (λ (l : List Bool). had ++ l) (sym (table-while Bool may_rank 1 (pending_step role x) s c.in-While.a c.in-While.body site first c.in-While.is))
