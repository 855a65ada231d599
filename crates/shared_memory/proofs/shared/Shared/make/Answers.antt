use Rattle.std.proofs.Common.{rules, ◌≡◌, ◌∷◌, [], List, sym, subst}
use Rattle.atomic_table.specs.Table.{opening}
use Rattle.shared_memory.specs.Slot.{SlotContents, slot_contents}
use Rattle.shared_memory.specs.Turns.{TurnRule, starting}
use Rattle.shared_memory.proofs.Handing.{opens}
use Rattle.shared_memory.proofs.shared.Shared.make.Goals as goal

pub new-requires-2 : goal.new-requires-2
new-requires-2 g c =
    let key = c.in_ok-key.key in
    let slots : c.push_reserved.new.self.items ≡ slot_contents key [] ∷ [] = search rules in
    subst (λ (xs : List SlotContents). TurnRule key (opening (0 ∷ 0 ∷ []) xs (starting key))) (sym slots) (opens key)
