use Rattle.std.proofs.Common.{◌≡◌, ◌∷◌, [], ◌++◌, ◌+◌, List, length, map, sym, ap, ◌∙◌, subst, append_assoc, length-append}
use Rattle.shared_memory.specs.Turns.{Seated, both_parts}
use Rattle.shared_memory.specs.Passes.{SharedValue, PassValue, IsRow, seen_by}
use Rattle.shared_memory.proofs.Handing.{may_join}
use Rattle.shared_memory.proofs.Rows.{seat_in_row}
use Rattle.shared_memory.proofs.close.join_all.Goals as goal

pub loop-before-init : goal.loop-before-init
loop-before-init g c =
    let room : SharedValue = record { id = c.args.shared.now.table_id; params = c.args.shared.now.key } in
    let row = subst (IsRow room 0) c.in-Some.ensures.items c.requires.row in
    let s = seat_in_row room c.pop.new.self.items c.in-Some.last [] row c.last.inside.seat.table_id c.last.inside.seat.me c.last.inside.thread c.last.inside.view c.last.view_is c.last.invariant.rest in
    (s.0, (c.in-Some.last ∷ [], sym c.in-Some.ensures.items, s.1))

pub join_seat-requires : goal.join_seat-requires
join_seat-requires g c =
    let room : SharedValue = record { id = c.args.shared.now.table_id; params = c.args.shared.now.key } in
    let i = c.loop-before.invariant in
    let done = i.1.0 in
    let items = c.pop-in-loop-before.new.self.items in
    let before = c.in-Some-pop.before in
    let whole : items ++ before ∷ done ≡ c.args.list.items = sym (append_assoc items (before ∷ []) done) ∙ (ap (λ (l : List PassValue). l ++ done) (sym c.in-Some-pop.ensures.items) ∙ i.1.1) in
    let row = subst (IsRow room 0) (sym whole) c.requires.row in
    let front = c.before-in-Some-pop in
    let s = seat_in_row room items before done row front.inside.seat.table_id front.inside.seat.me front.inside.thread front.inside.view front.view_is front.invariant.rest in
    let more : length c.loop-before.list.items ≡ length items + 1 = ap length c.in-Some-pop.ensures.items ∙ length-append items (before ∷ []) in (
      s.0,
      i.0,
      ap (λ (m : Seated). m.1) i.1.2,
      c.requires.table,
      may_join _ _ _ _ _ room.params (length items) (length c.loop-before.list.items) (before.seen ∷ []) (map seen_by done) (ap (λ (m : Seated). m.0) s.1) (ap (λ (m : Seated). m.0) i.1.2) more,
    )

pub loop-before-preserved-in-Some-pop : goal.loop-before-preserved-in-Some-pop
loop-before-preserved-in-Some-pop g c =
    let room : SharedValue = record { id = c.args.shared.now.table_id; params = c.args.shared.now.key } in
    let i = c.loop-before.invariant in
    let done = i.1.0 in
    let items = c.pop-in-loop-before.new.self.items in
    let before = c.in-Some-pop.before in
    let whole : items ++ before ∷ done ≡ c.args.list.items = sym (append_assoc items (before ∷ []) done) ∙ (ap (λ (l : List PassValue). l ++ done) (sym c.in-Some-pop.ensures.items) ∙ i.1.1) in
    let row = subst (IsRow room 0) (sym whole) c.requires.row in
    let front = c.before-in-Some-pop in
    let s = seat_in_row room items before done row front.inside.seat.table_id front.inside.seat.me front.inside.thread front.inside.view front.view_is front.invariant.rest in
    let j = c.join_seat.ensures in
    (j.0 ∙ s.0, (before ∷ done, whole, j.2 ∙ (λ k. (both_parts (s.1 k).0 (i.1.2 k).0, (s.1 k).1))))

pub loop-before-preserved : goal.loop-before-preserved
loop-before-preserved g c =
    let room : SharedValue = record { id = c.args.shared.now.table_id; params = c.args.shared.now.key } in
    let i = c.loop-before.invariant in
    let done = i.1.0 in
    let items = c.pop-in-loop-before.new.self.items in
    let before = c.in-Some-pop.before in
    let whole : items ++ before ∷ done ≡ c.args.list.items = sym (append_assoc items (before ∷ []) done) ∙ (ap (λ (l : List PassValue). l ++ done) (sym c.in-Some-pop.ensures.items) ∙ i.1.1) in
    let row = subst (IsRow room 0) (sym whole) c.requires.row in
    let front = c.before-in-Some-pop in
    let s = seat_in_row room items before done row front.inside.seat.table_id front.inside.seat.me front.inside.thread front.inside.view front.view_is front.invariant.rest in
    let j = c.join_seat.ensures in
    (j.0 ∙ s.0, (before ∷ done, whole, j.2 ∙ (λ k. (both_parts (s.1 k).0 (i.1.2 k).0, (s.1 k).1))))
