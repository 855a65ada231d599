use Rattle.std.proofs.Common.{rules}
use Rattle.shared_memory.proofs.Slots.{kept_new_at}
use Rattle.shared_memory.proofs.slot.SlotValue.new.Goals as goal

pub invariant_of-result : goal.invariant_of-result
invariant_of-result g c = kept_new_at _ _ _ _ _ _ _ (search rules) (search rules) c.requires (search rules) (search rules) (search rules) (search rules)
