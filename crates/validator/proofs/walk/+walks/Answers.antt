use Rattle.std.proofs.Common.{◌+◌, ◌-◌, ◌++◌, ◌∷◌, [], List, Bool, length, drop, sym, ap, ◌∙◌, arith}
use Rattle.std.proofs.lemmas.List.{drop_all, take_all, length-drop}
use Rattle.il_syntax.specs.declared.statement.Stmt.{Stmt}
use Rattle.il_paths.specs.Tree.{Tree, tree_of_all}
use Rattle.il_paths.proofs.Callers.{tree_of-block}
use Rattle.validator.specs.declared.walk.Part.{Part}
use Rattle.validator.specs.Walk.{walk, before_loop, inserted_part, and_then}
use Rattle.validator.specs.Walked.{came_to}
use Rattle.validator.proofs.WalkLaws.{walk-inserted, walk-alone, walk-paired, at_end-came}
use Rattle.validator.proofs.walk.+walks.Goals as goal

pub walk_block-loop-i-init : goal.walk_block-loop-i-init
walk_block-loop-i-init t c =
    let target = tree_of-block c.args.target.now ∙ ap tree_of_all (sym c.as_slice-statements.ensures) in
    let source = tree_of-block c.args.source.now ∙ ap tree_of_all (sym c.as_slice-partners.ensures) in
    record { same = (λ i. walk c.args.new (target i) (source i) c.args.parts.now.items); within = omega arith }

pub walk_block-loop-i-preserved-then-is_inserted : goal.walk_block-loop-i-preserved-then-is_inserted
walk_block-loop-i-preserved-then-is_inserted t c =
    let new = c.args.new in
    let ss = c.as_slice-statements.result.now in
    let i = c.loop-i.i in
    let s = c.index-statements-i.result in
    let left = tree_of_all (drop c.loop-i.next c.as_slice-partners.result.now) in
    let own = sym c.is_inserted.ensures ∙ c.if-is_inserted.true in
    let rest = tree_of_all (drop (i + 1) ss) in
    let done = c.loop-i.parts.items in
    let all = take_all (length ss - (i + 1)) (drop (i + 1) ss) (omega (arith, length-drop (i + 1) ss)) in
    let e = walk-inserted new ss i s left done c.loop-i-test.true c.index-statements-i.is own in
    record {
      same = c.loop-i.invariant.same ∙ e ∙ ap (λ (b : Bool). walk new rest left (done ++ inserted_part b ∷ [])) (sym (c.before_loop-followed.ensures ∙ ap (λ (l : List Stmt). before_loop new (tree_of_all l)) all)) ∙ ap (λ (p : Part). walk new rest left (done ++ p ∷ [])) (sym c.inserted_part.ensures) ∙ ap (walk new rest left) (sym c.in_ok-push.ensures.items);
      within = c.loop-i.invariant.within;
    }

pub walk_block-returns-then-not-branch : goal.walk_block-returns-then-not-branch
walk_block-returns-then-not-branch t c =
    let new = c.args.new in
    let ss = c.as_slice-statements.result.now in
    let pp = c.as_slice-partners.result.now in
    let i = c.loop-i.i in
    let n = c.loop-i.next in
    let later = c.walk_statement.new.parts.items in
    let e = walk-paired new ss pp i n c.index-statements-i.result c.in-Some.partner.now c.loop-i.parts.items later c.in_ok-walk_statement-in-Some.field-0 c.loop-i-test.true c.index-statements-i.is c.in-Some.ensures.lookup.3.0 c.in-Some.ensures.lookup.1 c.in_ok-walk_statement-in-Some.ensures in
    c.loop-i.invariant.same ∙ e ∙ ap (λ (b : Bool). and_then (came_to b later) (walk new (tree_of_all (drop (i + 1) ss)) (tree_of_all (drop (n + 1) pp)))) c.if-not-branch.true

pub walk_block-loop-i-preserved : goal.walk_block-loop-i-preserved
walk_block-loop-i-preserved t c =
    let new = c.args.new in
    let ss = c.as_slice-statements.result.now in
    let pp = c.as_slice-partners.result.now in
    let i = c.loop-i.i in
    let n = c.loop-i.next in
    let later = c.walk_statement.new.parts.items in
    let e = walk-paired new ss pp i n c.index-statements-i.result c.in-Some.partner.now c.loop-i.parts.items later c.in_ok-walk_statement-in-Some.field-0 c.loop-i-test.true c.index-statements-i.is c.in-Some.ensures.lookup.3.0 c.in-Some.ensures.lookup.1 c.in_ok-walk_statement-in-Some.ensures in
    record {
      same = c.loop-i.invariant.same ∙ e ∙ ap (λ (b : Bool). and_then (came_to b later) (walk new (tree_of_all (drop (i + 1) ss)) (tree_of_all (drop (n + 1) pp)))) c.if-not-branch.false;
      within = let h = c.in-Some.ensures.lookup.3.0 in omega arith;
    }

pub walk_block-returns-in-None : goal.walk_block-returns-in-None
walk_block-returns-in-None t c =
    let new = c.args.new in
    let ss = c.as_slice-statements.result.now in
    let pp = c.as_slice-partners.result.now in
    let i = c.loop-i.i in
    let none = ap tree_of_all (drop_all c.loop-i.next pp c.in-None.ensures.lookup.3) in
    let done = c.loop-i.parts.items in
    c.loop-i.invariant.same ∙ ap (λ (left : Tree). walk new (tree_of_all (drop i ss)) left done) none ∙ walk-alone new ss i c.index-statements-i.result done c.loop-i-test.true c.index-statements-i.is (sym c.is_inserted.ensures ∙ c.if-is_inserted.false)

pub walk_block-returns : goal.walk_block-returns
walk_block-returns t c =
    let new = c.args.new in
    let ss = c.as_slice-statements.result.now in
    let pp = c.as_slice-partners.result.now in
    let left = tree_of_all (drop c.loop-i.next pp) in
    let done = c.loop-i.parts.items in
    let none = ap tree_of_all (drop_all c.loop-i.i ss c.loop-i-test.false) in
    c.loop-i.invariant.same ∙ ap (λ (tree : Tree). walk new tree left done) none ∙ at_end-came pp c.loop-i.next done c.loop-i.invariant.within
