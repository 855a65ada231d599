use Rattle.std.proofs.Common.{sym, ap, ◌∙◌, arith}
use Rattle.shared_memory.specs.Passes.{SharedValue}
use Rattle.shared_memory.proofs.Keeping.{may_lock}
use Rattle.shared_memory.proofs.shared.Shared.lock.Goals as goal

pub compare_exchange-found-requires : goal.compare_exchange-found-requires
compare_exchange-found-requires g c =
    let n = c.self.invariant.0 in
    let same = c.loop.invariant in
    (same.0 ∙ (c.requires.own ∙ ap (λ (r : SharedValue). r.id) (sym c.self.view_is)), omega arith, may_lock _ _ _ _ _ _ _ (same.1 ∙ c.requires.rest))
