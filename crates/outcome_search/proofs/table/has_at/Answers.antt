use Rattle.std.proofs.Common.{rules, ◌≡◌, ℕ, ◌<◌, List, length, get_or, refl, ap, ◌∙◌, arith}
use Rattle.std.proofs.lemmas.Bool.{false≢true}
use Rattle.std.proofs.lemmas.List.{get_or-map}
use Rattle.values_undef.proofs.Callers.{all_get}
use Rattle.outcome_nodes.specs.Standing.{node_of}
use Rattle.outcome_search.proofs.Placing.{at_place, none_at}
use Rattle.outcome_search.proofs.table.has_at.Goals as goal

pub returns-then-branch : goal.returns-then-branch
returns-then-branch c =
    let p = c.args.p.now in
    let steps = c.args._steps in
    let runs = c.args.runs.now in
    let places = c.args.places.now in
    let n = node_of p steps c.args.entries.now in
    let k = c.loop-k.k in
    let i : ℕ = get_or places k 0 in
    let other = c.deref.result.now in
    let l : k < length places = omega (arith, c.loop-k-test.true) in
    let below : i < length runs = all_get (λ (j : ℕ). j < length runs) places k 0 l c.requires.within in
    let here : get_or runs i other ≡ other = first_of (search rules, cc) in (
      λ _. at_place p steps runs places n k l (get_or-map (node_of p steps) runs i other n below ∙ ap (node_of p steps) here ∙ c.in_ok-same_node.ensures.0 c.if-branch.true),
      λ _. refl,
    )

pub returns : goal.returns
returns c = (
  λ f. absurd (false≢true f),
  λ q. absurd (none_at c.args.p.now c.args._steps c.args.runs.now c.args.places.now (node_of c.args.p.now c.args._steps c.args.entries.now) c.loop-k.k (omega (arith, c.loop-k-test.false)) c.loop-k.invariant q),
)
