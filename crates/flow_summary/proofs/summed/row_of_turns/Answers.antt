use Rattle.il_paths.specs.Tree.{tree_of}
use Rattle.path_meets.specs.Walks.{meet_of_turns}
use Rattle.flow_facts.specs.declared.level.Level.{Level}
use Rattle.flow_facts.specs.Levels.{rank_of}
use Rattle.flow_facts.proofs.Callers.{items-at, loop_step}
use Rattle.flow_summary.specs.Effects.{through}
use Rattle.flow_summary.proofs.EffectLaws.{turns_monotone}
use Rattle.flow_summary.proofs.summed.row_of_turns.Goals as goal

pub loop-known-preserved : goal.loop-known-preserved
loop-known-preserved c =
    let row = c.args.row.now in
    let kind = c.args.kind in
    let t = tree_of c.args.body.now in
    loop_step (λ x a l. meet_of_turns Level rank_of 2 (through kind x a t) l) (turns_monotone kind t) row c.loop-known.new c.push_known.new.row c.turned.result _ c.loop-known.known-index (items-at row c.loop-known.known-index _ c.loop-known-test.true) c.turned.ensures (c.in_ok-push_known.ensures) c.loop-known.invariant
