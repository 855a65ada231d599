use Rattle.std.proofs.Common.{sym, ap, ◌∙◌, ◌∷◌, List, ℕ}
use Rattle.atomic_table.specs.Table.{rest}
use Rattle.shared_memory.specs.Passes.{SharedValue}
use Rattle.shared_memory.specs.Slot.{SlotContents, slot_contents}
use Rattle.shared_memory.specs.Turns.{Seated, seen_of}
use Rattle.shared_memory.proofs.shared.Shared.call_in_turn.Goals as goal

pub slot_mut-slot-requires : goal.slot_mut-slot-requires
slot_mut-slot-requires g c =
    let m = c.args.seat.now.me in
    let l = slot_contents m.0.params (seen_of m.0) in
    let carried = ap (λ (x : Seated). x.1) c.requires.turn in
    (c.requires.own ∙ ap (λ (r : SharedValue). r.id) (sym c.self.view_is), (l, carried ∙ ap (λ (x : List (ℕ × SlotContents)). (0, l) ∷ rest x) (sym carried)))
