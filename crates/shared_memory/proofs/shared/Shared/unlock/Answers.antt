use Rattle.std.proofs.Common.{sym, ap, ◌∙◌, arith}
use Rattle.shared_memory.specs.Passes.{SharedValue}
use Rattle.shared_memory.proofs.Keeping.{may_unlock}
use Rattle.shared_memory.proofs.shared.Shared.unlock.Goals as goal

pub store-requires : goal.store-requires
store-requires g c = let n = c.self.invariant.0 in (c.requires.own ∙ ap (λ (r : SharedValue). r.id) (sym c.self.view_is), omega arith, may_unlock _ _ _ _ _ _ _ c.requires.turn)
