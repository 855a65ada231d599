use Rattle.std.proofs.Common.{◌≡◌, ◌++◌, ◌∷◌, [], ℕ, length, sym, ap, ◌∙◌, add-one, zero-add, arith, replicate, ◌-◌, ◌+◌}
use Rattle.views.specs.ThreadView.{zero_view}
use Rattle.shared_memory.specs.Turns.{Seated, resting, left_part, right_part, at_rest}
use Rattle.shared_memory.specs.declared.params.SeatNote.{SeatNote}
use Rattle.shared_memory.specs.Passes.{SharedValue, fresh_from, fresh_pass, pass_value}
use Rattle.shared_memory.proofs.Handing.{may_split}
use Rattle.shared_memory.proofs.Rows.{fresh_push, length-fresh, one_less, fresh_seat}
use Rattle.shared_memory.proofs.opening.split_off.Goals as goal

pub split_seat-rest-requires : goal.split_seat-rest-requires
split_seat-rest-requires g c =
    let i = c.loop-thread.invariant in
    let me = ap (λ (m : Seated). m.0) i.1 ∙ ap (resting c.args.shared.now.key c.loop-thread.thread) (one_less c.args.threads c.loop-thread.thread c.loop-thread-test.true) in
    (i.0, c.requires.words, may_split _ _ _ _ _ _ _ me)

pub push_reserved-requires : goal.push_reserved-requires
push_reserved-requires g c =
    let i = c.loop-thread.invariant in
    let n = c.loop-thread.list.ok.0 in
    let m = ap length i.2 in
    let k = length-fresh (record { id = c.args.shared.now.table_id; params = c.args.shared.now.key }) 0 c.loop-thread.thread in
    let room = c.requires.room in
    let same = i.3 in
    let test = c.loop-thread-test.true in
    omega arith

pub invariant_of-push_reserved : goal.invariant_of-push_reserved
invariant_of-push_reserved g c =
    let i = c.loop-thread.invariant in
    let s = c.split_seat-rest.ensures in
    let key = c.args.shared.now.key in
    let thread = c.loop-thread.thread in
    let me = ap (λ (m : Seated). m.0) i.1 ∙ ap (resting key thread) (one_less c.args.threads thread c.loop-thread-test.true) in
    let dealt : c.split_seat-rest.new.seat.me ≡ at_rest key thread [] = s.2 ∙ (λ j. (left_part (me j), ap (λ (m : Seated). m.1) i.1 j)) in
    let named = c.requires.named in
    let few = c.requires.few in
    let test = c.loop-thread-test.true in
    fresh_seat key thread c.split_seat-rest.new.seat.me c.zero.result (omega arith) (omega arith) dealt (c.zero.ensures ∙ ap zero_view c.requires.locations)

pub loop-thread-preserved : goal.loop-thread-preserved
loop-thread-preserved g c =
    let i = c.loop-thread.invariant in
    let s = c.split_seat-rest.ensures in
    let key = c.args.shared.now.key in
    let thread = c.loop-thread.thread in
    let memory : SharedValue = record { id = c.args.shared.now.table_id; params = key } in
    let left = replicate (c.args.threads - (thread + 1)) [] in
    let me = ap (λ (m : Seated). m.0) i.1 ∙ ap (resting key thread) (one_less c.args.threads thread c.loop-thread-test.true) in
    let dealt : c.split_seat-rest.new.seat.me ≡ at_rest key thread [] = s.2 ∙ (λ j. (left_part (me j), ap (λ (m : Seated). m.1) i.1 j)) in
    let zero = c.zero.ensures ∙ ap zero_view c.requires.locations in
    let pass : pass_value c.split_seat-rest.new.seat.table_id c.split_seat-rest.new.seat.me thread c.zero.result ≡ fresh_pass memory (0 + thread) =
    (λ j. pass_value ((s.0 ∙ i.0) j) (dealt j) thread (zero j)) ∙ ap (fresh_pass memory) (sym (zero-add thread)) in (
      s.3 ∙ i.0,
      s.4 ∙ (ap (λ (v : SeatNote). (right_part v, [])) me ∙ ap (λ (k : ℕ). (resting key k left, [])) (sym (add-one thread))),
      c.push_reserved.ensures.items ∙ ((λ j. i.2 j ++ pass j ∷ []) ∙ (fresh_push memory 0 thread ∙ ap (fresh_from memory 0) (sym (add-one thread)))),
      c.push_reserved.ensures.capacity ∙ i.3,
    )
