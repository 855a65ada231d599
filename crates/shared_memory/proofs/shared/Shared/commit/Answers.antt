use Rattle.std.proofs.Common.{sym, ap, ◌∙◌, arith, length}
use Rattle.shared_memory.specs.Passes.{SharedValue}
use Rattle.shared_memory.specs.Turns.{in_turn, seen_of}
use Rattle.shared_memory.proofs.Keeping.{may_commit}
use Rattle.shared_memory.proofs.shared.Shared.commit.Goals as goal

pub store-requires : goal.store-requires
store-requires g c =
    let n = c.self.invariant.0 in
    let h = c.requires.turn.1 in
    let m = c.args.seat.now.me in (
      c.requires.own ∙ ap (λ (r : SharedValue). r.id) (sym c.self.view_is),
      omega arith,
      may_commit _ _ _ _ m.0.params c.args.thread (seen_of m.0) c.requires.turn.0 _ (h.seat ∙ ap (in_turn m.0.params c.args.thread (seen_of m.0)) h.calls) h.own (c.requires.count ∙ ap length h.calls) h.share,
    )
