use Rattle.std.proofs.Common.{ℕ, eqb, length, drop, refl, sym, ap, ◌∙◌, arith}
use Rattle.il_paths.specs.Tree.{tree_of_all}
use Rattle.il_paths.proofs.Callers.{tree_of-block}
use Rattle.tidy.specs.Decided.{same_blocks}
use Rattle.tidy.proofs.HeadsListed.{too_few, at_the_end}
use Rattle.tidy.proofs.judging.+blocks.Goals as goal

pub same_blocks-loop-statement-init : goal.same_blocks-loop-statement-init
same_blocks-loop-statement-init t c =
    let one = tree_of-block c.args.block.now ∙ ap tree_of_all (sym c.as_slice-statement-items.ensures) in
    let other = tree_of-block c.args.other.now ∙ ap tree_of_all (sym c.as_slice-others.ensures) in
    record { same = sym (λ i. same_blocks (one i) (other i)); place = refl; few = omega arith }

pub same_blocks-returns-in-None : goal.same_blocks-returns-in-None
same_blocks-returns-in-None t c =
    let ss = c.as_slice-statement-items.result.now in
    let os = c.as_slice-others.result.now in
    let i = c.loop-statement.statement-index in
    let place = c.loop-statement.invariant.place in
    let short = c.in-None.ensures.lookup.3 in
    sym
    (sym c.loop-statement.invariant.same ∙ ap (λ (k : ℕ). same_blocks (tree_of_all (drop i ss)) (tree_of_all (drop k os))) place ∙
    too_few ss os i c.statement-item.result c.loop-statement-test.true c.statement-item.is (omega (arith, place, short)))

pub same_blocks-returns : goal.same_blocks-returns
same_blocks-returns t c =
    let ss = c.as_slice-statement-items.result.now in
    let os = c.as_slice-others.result.now in
    let i = c.loop-statement.statement-index in
    let place = c.loop-statement.invariant.place in
    let few = c.loop-statement.invariant.few in
    ap (λ (k : ℕ). eqb k (length os)) place ∙
    sym
    (sym c.loop-statement.invariant.same ∙ ap (λ (k : ℕ). same_blocks (tree_of_all (drop i ss)) (tree_of_all (drop k os))) place ∙
    at_the_end ss os i c.loop-statement-test.false (omega (arith, place, few)))
