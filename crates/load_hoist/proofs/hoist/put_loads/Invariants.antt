use Rattle.std.proofs.Common.{◌≡◌, ◌-◌, ◌++◌, map, drop}
use Rattle.il_paths.specs.Tree.{tree_of}
use Rattle.load_hoist.specs.declared.growth.Extra.{Extra}
use Rattle.load_hoist.specs.Introduced.{extras, load_of}
use Rattle.load_hoist.specs.Taken.{IsTaken}
use Rattle.load_hoist.proofs.hoist.put_loads.Given as goal

abbrev pub invariant-loop-x : goal.invariant-loop-x
invariant-loop-x l =
    let left = extras l.names (tree_of l.body) l.inside (l.na - l.x) l.x l.growing.growth in
    let all = extras l.names (tree_of l.body) l.inside l.na 0 l.fn.growing.growth in
    record {
      within : l.within ++ map (λ (e : Extra). e.x) left.0 ≡ map (λ (e : Extra). e.x) all.0;
      growth : left.1 ≡ all.1;
      taken : IsTaken l.names l.growing;
      kept : l.kept ++ map load_of left.0 ≡ l.fn.kept ++ map load_of all.0;
    }

abbrev pub invariant-loop-outer : goal.invariant-loop-outer
invariant-loop-outer l =
    let all = extras l.names (tree_of l.body) l.inside l.na 0 l.fn.growing.growth in
    l.within ++ drop l.outer-index l.inside ≡ map (λ (e : Extra). e.x) all.0 ++ l.inside
