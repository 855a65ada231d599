use Rattle.std.proofs.Common.{◌++◌, [], ◌∷◌, List, refl, sym, ap, ◌∙◌}
use Rattle.std.proofs.lemmas.List.{drop_all}
use Rattle.il_syntax.specs.declared.statement.Stmt.{Stmt}
use Rattle.il_syntax.specs.declared.statement.Stmt as made
use Rattle.il_paths.specs.Tree.{Tree, tree_of_all}
use Rattle.il_paths.proofs.Callers.{tree_of-block}
use Rattle.rewriting.specs.Puts.{puts}
use Rattle.rewriting.proofs.Callers.{puts-empty, leaf_of}
use Rattle.load_hoist.specs.Introduced.{introduced}
use Rattle.load_hoist.proofs.PutLoads.{after_plain, after_if, after_while}
use Rattle.load_hoist.proofs.hoist.+hoists.Goals as goal

pub hoist_block-loop-statement-init : goal.hoist_block-loop-statement-init
hoist_block-loop-statement-init t c =
    let na = c.args.na in
    let names = c.args.names.now in
    let inside = c.args.inside.now in
    let g = c.args.growing.now.growth in
    let e = tree_of-block c.args.block.now ∙ ap tree_of_all (sym c.as_slice-statement-items.ensures) in
    record {
      taken = c.requires.taken;
      kept = ap (λ (ss : List Stmt). puts ss (introduced na names (tree_of_all c.as_slice-statement-items.result.now) inside g).0) c.new-kept.ensures ∙ ap (λ (tree : Tree). (introduced na names tree inside g).0) (sym e);
      growth = ap (λ (tree : Tree). (introduced na names tree inside g).1) (sym e);
    }

pub hoist_block-returns-clause-block : goal.hoist_block-returns-clause-block
hoist_block-returns-clause-block t c =
    let ss = c.as_slice-statement-items.result.now in
    let kept = c.loop-statement.kept in
    let none = ap tree_of_all (drop_all c.loop-statement.statement-index ss c.loop-statement-test.false) in
    tree_of-block (record { statements = kept }) ∙ sym (puts-empty kept) ∙
    ap (λ (tree : Tree). puts kept (introduced c.args.na c.args.names.now tree c.args.inside.now c.loop-statement.growing.growth).0) (sym none) ∙ c.loop-statement.invariant.kept

pub hoist_statement-returns-in_ok-push-in-If-clause-kept : goal.hoist_statement-returns-in_ok-push-in-If-clause-kept
hoist_statement-returns-in_ok-push-in-If-clause-kept t c rest =
    let new = made.If c.in-If.a c.in_ok-one-in-If.one c.in_ok-other-in-If.other in
    (after_if c.args.na c.args.names.now c.args.inside.now c.args.growing.now.growth rest c.args.statement.now new c.in-If.a c.in-If.yes c.in-If.no c.in_ok-one-in-If.one c.in_ok-other-in-If.other
    c.hoist_block.new.growing.growth c.hoist_block-in-If.new.growing.growth c.in-If.is refl c.in_ok-one-in-If.ensures.block c.in_ok-one-in-If.ensures.growth c.in_ok-other-in-If.ensures.block c.in_ok-other-in-If.ensures.growth c.args.kept.now).0 ∙
    ap (λ (ss : List Stmt). puts ss (introduced c.args.na c.args.names.now rest c.args.inside.now c.hoist_block-in-If.new.growing.growth).0) (sym c.in_ok-push-in-If.ensures.ok)

pub hoist_statement-returns-in_ok-push-in-While-clause-kept : goal.hoist_statement-returns-in_ok-push-in-While-clause-kept
hoist_statement-returns-in_ok-push-in-While-clause-kept t c rest =
    let new = made.While c.in-While.a c.in_ok-turn-in-While.turn in
    (after_while c.args.na c.args.names.now c.args.inside.now c.args.growing.now.growth rest c.args.statement.now new c.in-While.a c.in-While.body c.in_ok-turn-in-While.turn
    c.as_slice.result.now c.put_loads.new.growing.growth c.hoist_block-in-While.new.growing.growth c.in-While.is refl (c.as_slice.ensures ∙ c.in_ok-within-in-While.ensures.within) c.in_ok-within-in-While.ensures.growth
    c.in_ok-turn-in-While.ensures.block c.in_ok-turn-in-While.ensures.growth c.args.kept.now).0 ∙
    ap (λ (ss : List Stmt). puts ss (introduced c.args.na c.args.names.now rest c.args.inside.now c.hoist_block-in-While.new.growing.growth).0)
    (sym (c.in_ok-push-in-While.ensures.ok ∙ ap (λ (ss : List Stmt). ss ++ new ∷ []) c.in_ok-within-in-While.ensures.kept))

pub hoist_statement-returns-in_ok-push-in-While-clause-growth : goal.hoist_statement-returns-in_ok-push-in-While-clause-growth
hoist_statement-returns-in_ok-push-in-While-clause-growth t c rest =
    (after_while c.args.na c.args.names.now c.args.inside.now c.args.growing.now.growth rest c.args.statement.now (made.While c.in-While.a c.in_ok-turn-in-While.turn) c.in-While.a c.in-While.body c.in_ok-turn-in-While.turn
    c.as_slice.result.now c.put_loads.new.growing.growth c.hoist_block-in-While.new.growing.growth c.in-While.is refl (c.as_slice.ensures ∙ c.in_ok-within-in-While.ensures.within) c.in_ok-within-in-While.ensures.growth
    c.in_ok-turn-in-While.ensures.block c.in_ok-turn-in-While.ensures.growth c.args.kept.now).1

pub hoist_statement-returns-in_ok-push-in_default : goal.hoist_statement-returns-in_ok-push-in_default
hoist_statement-returns-in_ok-push-in_default t c =
    let na = c.args.na in
    let names = c.args.names.now in
    let inside = c.args.inside.now in
    let g = c.args.growing.now.growth in
    let kept = c.args.kept.now in
    let s = c.args.statement.now in
    let plain = leaf_of s c.in_default.not-If c.in_default.not-While in
    let push = c.in_ok-push-in_default.ensures.ok ∙ ap (λ (u : Stmt). kept ++ u ∷ []) c.in_ok-new-in_default.ensures in
    record {
      kept = λ (rest : Tree). (after_plain na names inside g rest s plain.0 plain.1 kept).0 ∙ ap (λ (ss : List Stmt). puts ss (introduced na names rest inside g).0) (sym push);
      growth = λ (rest : Tree). (after_plain na names inside g rest s plain.0 plain.1 kept).1;
      taken = c.requires.taken;
    }
