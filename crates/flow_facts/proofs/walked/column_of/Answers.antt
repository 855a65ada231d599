use Rattle.std.proofs.Common.{◌≡◌, ◌++◌, length, drop, take, arith, sym, ◌∙◌, subst}
use Rattle.std.proofs.Math.Seq.{take-append_seam}
use Rattle.il_paths.specs.Tree.{tree_of}
use Rattle.flow_facts.specs.Columns.{AreLevels}
use Rattle.flow_facts.proofs.walked.column_of.Goals as goal

pub returns-clause-levels : goal.returns-clause-levels
returns-clause-levels c =
    let new = c.settle.new.levels in
    let len : length new ≡ c.in_ok-levels.levels.len = omega (arith, c.in_ok-levels.levels.ok.0, c.settle.auto.levels) in
    let rest = drop (length new) c.in_ok-levels.levels.items in
    let e = subst (λ n. take n (new ++ rest) ≡ new) len (take-append_seam new rest) in
    subst (AreLevels (tree_of c.args.block.now) c.args.kind c.args.pair.now) (sym (c.from_vec.ensures ∙ e)) c.settle.ensures
