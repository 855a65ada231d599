use Rattle.std.proofs.Common.{◌≡◌, List, length, map, sym, ap, ◌∙◌, subst}
use Rattle.shared_memory.specs.Passes.{weave}
use Rattle.shared_memory.specs.Turns.{Seated}
use Rattle.shared_memory.specs.Passes.{SharedValue, PassValue, PassesValue, IsRow, own_calls, seen_by, IsWholeHistory}
use Rattle.shared_memory.proofs.Handing.{closes}
use Rattle.shared_memory.proofs.Rows.{wove, length-seen}
use Rattle.shared_memory.proofs.shared.Shared.close.Goals as goal

pub returns : goal.returns
returns g c =
    let room : SharedValue = record { id = c.self.inside.table.shared.table_id; params = c.self.inside.table.shared.key } in
    let list = c.passes.inside.list.items in
    let same : room ≡ c.args.self = c.self.view_is in
    let items : list ≡ c.args.passes.list = ap (λ (p : PassesValue). p.list) c.passes.view_is in
    let all : length list ≡ room.params.threads = ap length items ∙ (c.requires.all ∙ ap (λ (r : SharedValue). r.params.threads) (sym same)) in
    let row = subst (λ (x : SharedValue × List PassValue). IsRow x.0 0 x.1) (λ j. (sym same j, sym items j)) c.requires.row in
    let seat = c.join_all-seat.ensures.seat in
    let end = closes room.params _ _ (map seen_by list) _ _ _ (ap (λ (m : Seated). m.0) seat) (length-seen list ∙ all) c.close_with-closed.ensures.values.2 c.take-slot.ensures.value in
    let w = wove room list _ c.into_journal.result all row end c.into_journal.ensures.journal c.into_journal.ensures.history in
    subst (λ (x : SharedValue × List PassValue). IsWholeHistory x.0.params c.into_journal.result x.1 (weave c.into_journal.result (map own_calls x.1))) (λ j. (same j, items j)) w
