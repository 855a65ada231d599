use Rattle.std.proofs.Common.{◌≡◌, ◌<◌, ℕ, List, length, get_or, sym, ap, ◌∙◌, subst, arith}
use Rattle.shared_memory.specs.declared.params.SharedParams.{SharedParams}
use Rattle.shared_memory.specs.Passes.{PassValue, IsRow, IsPassOf}
use Rattle.shared_memory.proofs.Callers.{length-fresh, fresh_row, row_kept, refill_same}
use Rattle.threads_rows.proofs.Passing.{ready_list}
use Rattle.threads_rows.proofs.accesses.each_once.Goals as goal

pub access_each-requires-clause-ready : goal.access_each-requires-clause-ready
access_each-requires-clause-ready g c =
    let made = c.in_ok-shared.ensures in
    let share : 0 < c.in_ok-shared.shared.params.share = subst (λ (b : SharedParams). 0 < b.share) (sym made.params) (omega arith) in
    λ _ _ k p lt. ready_list c.in_ok-shared.shared c.lent.result.now (length c.args.p.now.threads) (c.lent.ensures.value ∙ made.passes) share k p lt

pub close-requires-clause-all : goal.close-requires-clause-all
close-requires-clause-all g c κs =
    let made = c.in_ok-shared.ensures in
    let same : length c.access_each.new.passes ≡ length c.in_ok-shared.passes.list = c.access_each.auto.passes ∙ ap length c.lent.ensures.value in
    ap length (refill_same c.in_ok-shared.passes.list c.access_each.new.passes same)
    ∙ (same ∙ (ap length made.passes ∙ (length-fresh c.in_ok-shared.shared 0 (length c.args.p.now.threads) ∙ ap (λ (b : SharedParams). b.threads) (sym made.params))))

pub close-requires-clause-row : goal.close-requires-clause-row
close-requires-clause-row g c κs =
    let made = c.in_ok-shared.ensures in
    let memory = c.in_ok-shared.shared in
    let old = c.in_ok-shared.passes.list in
    let new = c.access_each.new.passes in
    let value : c.lent.result.now ≡ old = c.lent.ensures.value in
    let same : length new ≡ length old = c.access_each.auto.passes ∙ ap length value in
    let row : IsRow memory 0 old = subst (IsRow memory 0) (sym made.passes) (fresh_row memory 0 (length c.args.p.now.threads)) in
    let each : (k : ℕ) (p : PassValue) → k < length old → IsPassOf memory (get_or new k p) × ((get_or new k p).thread ≡ (get_or old k p).thread) =
    λ k p lt. let e = c.access_each.ensures k p (subst (λ (l : List PassValue). k < length l) (sym value) lt) in
    (e.pass, e.thread ∙ ap (λ (l : List PassValue). (get_or l k p).thread) value) in
    subst (IsRow memory 0) (sym (refill_same old new same)) (row_kept memory 0 old new same row each)
