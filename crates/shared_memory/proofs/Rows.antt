-- Rows of passes: dealt out at the start, and gathered at the end.
use Rattle.std.proofs.Common.{◌≡◌, ℕ, zero, suc, ◌+◌, ◌-◌, ◌<◌, ◌≤◌, List, [], ◌∷◌, ◌++◌, length, map, replicate, take, drop, get_or, refl, sym, ap, ◌∙◌, subst, arith, Some, slice_get, length-append}
use mathlib.Core.List.{IsPrefix}
use Rattle.std.specs.List.{refill}
use Rattle.views.specs.ThreadView.{ThreadView, zero_view, no_view}
use Rattle.message_memory.specs.declared.history.Call.{Call}
use Rattle.values_undef.specs.declared.journal.Entry.{Entry}
use Rattle.message_memory.specs.History.{calls_by, entries_of}
use Rattle.std.proofs.lemmas.List.{get_or-replicate}
use Rattle.shared_memory.specs.Slot.{IsHistory, view_with}
use Rattle.shared_memory.proofs.Calls.{woven}
use Rattle.shared_memory.specs.declared.params.SharedParams.{SharedParams}
use Rattle.shared_memory.specs.Slot.{SlotContents}
use Rattle.shared_memory.specs.Turns.{Seated, AllBelow, AllFrom, resting, seen_of, at_rest}
use Rattle.shared_memory.specs.Passes.{SharedValue, PassValue, fresh_pass, fresh_from, IsRow, IsPassOf, own_calls, seen_by, IsWholeHistory, IsAtRest, IsPass, pass_value, weave}
use Rattle.atomic_table.specs.Seated.{TableId}
use Rattle.shared_memory.proofs.Handing.{Ends, Closes}

pub fresh_push : (memory : SharedValue) (first n : ℕ) → fresh_from memory first n ++ fresh_pass memory (first + n) ∷ [] ≡ fresh_from memory first (suc n)
fresh_push memory first zero = let e : first + 0 ≡ first = omega arith in ap (λ (k : ℕ). fresh_pass memory k ∷ []) e
fresh_push memory first (suc n) =
    let e : first + suc n ≡ suc first + n = omega arith in
    ap (λ l. fresh_pass memory first ∷ l) (ap (λ (k : ℕ). fresh_from memory (suc first) n ++ fresh_pass memory k ∷ []) e ∙ fresh_push memory (suc first) n)

pub length-fresh : (memory : SharedValue) (first n : ℕ) → length (fresh_from memory first n) ≡ n
length-fresh memory first zero = refl
length-fresh memory first (suc n) = ap suc (length-fresh memory (suc first) n)

-- one list of those that are left
pub one_less : (n k : ℕ) → k < n → replicate (n - k) [] ≡ [] ∷ replicate (n - (k + 1)) (let none : List Call = [] in none)
one_less n k lt = let e : n - k ≡ suc (n - (k + 1)) = omega arith in ap (λ (m : ℕ). replicate m (let none : List Call = [] in none)) e

pub row_at : (memory : SharedValue) (first : ℕ) (xs : List PassValue) (p : PassValue) (ys : List PassValue) → IsRow memory first (xs ++ p ∷ ys) → IsPassOf memory p × (p.thread ≡ first + length xs)
row_at memory first [] p ys row = (row.0.0, row.0.1 ∙ omega arith)
row_at memory first (x ∷ xs) p ys row = let r = row_at memory (suc first) xs p ys row.1 in (r.0, let e = r.1 in omega arith)

-- what the last state tells, for the passes
own_list : (memory : SharedValue) (h : List Call) (first : ℕ) (ps : List PassValue) → IsRow memory first ps → AllFrom (Ends h) first (map seen_by ps) → (i : ℕ) → i < length ps → get_or (map own_calls ps) i [] ≡ calls_by (first + i) h
own_list memory h first [] row ends i lt = absurd (omega arith)
own_list memory h first (p ∷ ps) row ends zero lt = ap (λ (k : ℕ). calls_by k p.seen) row.0.1 ∙ (ends.0.own ∙ ap (λ (k : ℕ). calls_by k h) (omega arith))
own_list memory h first (p ∷ ps) row ends (suc i) lt = own_list memory h (suc first) ps row.1 ends.1 i (omega arith) ∙ ap (λ (k : ℕ). calls_by k h) (omega arith)

own_pass : (memory : SharedValue) (h : List Call) (first : ℕ) (ps : List PassValue) → IsRow memory first ps → AllFrom (Ends h) first (map seen_by ps) → (i : ℕ) (p : PassValue) → slice_get ps i ≡ Some p
    → (own_calls p ≡ calls_by (first + i) h) × IsPrefix p.seen h
own_pass memory h first [] row ends i p at = absurd cc
own_pass memory h first (q ∷ ps) row ends zero p at =
    let same : q ≡ p = cc in
    subst (λ (x : PassValue). (own_calls x ≡ calls_by (first + 0) h) × IsPrefix x.seen h) same
    (ap (λ (k : ℕ). calls_by k q.seen) row.0.1 ∙ (ends.0.own ∙ ap (λ (k : ℕ). calls_by k h) (omega arith)), ends.0.begins)
own_pass memory h first (q ∷ ps) row ends (suc i) p at =
    let r = own_pass memory h (suc first) ps row.1 ends.1 i p at in
    (r.0 ∙ ap (λ (k : ℕ). calls_by k h) (omega arith), r.1)

length-own : (ps : List PassValue) → length (map own_calls ps) ≡ length ps
length-own [] = refl
length-own (p ∷ ps) = ap suc (length-own ps)

pub length-seen : (ps : List PassValue) → length (map seen_by ps) ≡ length ps
length-seen [] = refl
length-seen (p ∷ ps) = ap suc (length-seen ps)

pub wove : (memory : SharedValue) (ps : List PassValue) (l : SlotContents) (journal : List Entry) → length ps ≡ memory.params.threads → IsRow memory 0 ps → Closes memory.params (map seen_by ps) l → journal ≡ entries_of l.calls → IsHistory l.params l.calls
    → IsWholeHistory memory.params journal ps (weave journal (map own_calls ps))
wove memory ps l journal all row c is legal =
    let h : List Call = l.calls in
    let below : AllBelow (length ps) h = subst (λ (n : ℕ). AllBelow n h) (sym all) c.threads_named in
    let whole : weave (entries_of h) (map own_calls ps) ≡ h = woven h (map own_calls ps) (subst (λ (n : ℕ). AllBelow n h) (sym (length-own ps)) below)
    (λ i lt. own_list memory h 0 ps row c.each_thread i (subst (λ (n : ℕ). i < n) (length-own ps) lt) ∙ ap (λ (k : ℕ). calls_by k h) (omega arith)) in
    let same : weave journal (map own_calls ps) ≡ h = ap (λ (j : List Entry). weave j (map own_calls ps)) is ∙ whole in
    subst (IsWholeHistory memory.params journal ps) (sym same) (record {
      journal_is = sym is;
      legal = subst (λ (b : SharedParams). IsHistory b h) c.made_with legal;
      none_over = below;
      own = λ i p at. (own_pass memory h 0 ps row c.each_thread i p at).0 ∙ ap (λ (k : ℕ). calls_by k h) (omega arith);
      begins = λ i p at. (own_pass memory h 0 ps row c.each_thread i p at).1;
    })

-- the seat of a pass that stands in a row
pub seat_in_row : (memory : SharedValue) (xs : List PassValue) (p : PassValue) (ys : List PassValue) → IsRow memory 0 (xs ++ p ∷ ys) → (id : TableId) (me : Seated) (thread : ℕ) (view : ThreadView) → pass_value id me thread view ≡ p → IsAtRest me thread
    → (id ≡ memory.id) × (me ≡ (resting memory.params (length xs) (p.seen ∷ []), []))
seat_in_row memory xs p ys row id me thread view is rest =
    let r = row_at memory 0 xs p ys row in
    let params : me.0.params ≡ memory.params = ap (λ (x : PassValue). x.params) is ∙ r.0.params in
    let place : thread ≡ length xs = ap (λ (x : PassValue). x.thread) is ∙ (r.1 ∙ omega arith) in
    (ap (λ (x : PassValue). x.id) is ∙ r.0.id, rest ∙ (λ j. (resting (params j) (place j) ((is j).seen ∷ []), [])))

-- a fresh pass by its place
pub fresh_row : (memory : SharedValue) (first n : ℕ) → IsRow memory first (fresh_from memory first n)
fresh_row memory first zero = tt
fresh_row memory first (suc n) = ((record { id = refl; params = refl }, refl), fresh_row memory (suc first) n)

-- a row in which each pass was changed for one of the same thread
pub row_kept : (memory : SharedValue) (first : ℕ) (xs ys : List PassValue) → length ys ≡ length xs → IsRow memory first xs
    → ((k : ℕ) (p : PassValue) → k < length xs → IsPassOf memory (get_or ys k p) × ((get_or ys k p).thread ≡ (get_or xs k p).thread)) → IsRow memory first ys
row_kept memory first [] [] same row each = tt
row_kept memory first [] (y ∷ ys) same row each = absurd (omega arith)
row_kept memory first (x ∷ xs) [] same row each = absurd (omega arith)
row_kept memory first (x ∷ xs) (y ∷ ys) same row each =
    let e = each 0 x (omega arith) in
    ((e.0, e.1 ∙ row.0.1), row_kept memory (suc first) xs ys (omega arith) row.1 (λ k p lt. each (suc k) p (omega arith)))

pub two_of : (xs : List PassValue) (p q : PassValue) → length (xs ++ p ∷ q ∷ []) ≡ 2 → xs ≡ []
two_of [] p q n = refl
two_of (x ∷ xs) p q n = let m = length-append xs (p ∷ q ∷ []) in absurd (omega arith)

pub refill_same : (xs ys : List PassValue) → length ys ≡ length xs → refill (length xs) xs ys ≡ ys
refill_same xs ys same = subst (λ (n : ℕ). take n (ys ++ drop (length ys) xs) ≡ ys) same (whole ys (drop (length ys) xs))
  where
    whole : (l m : List PassValue) → take (length l) (l ++ m) ≡ l
    whole [] m = refl
    whole (x ∷ l) m = ap (λ k. x ∷ k) (whole l m)

-- the first view of a thread
pub fresh_view : (params : SharedParams) (thread : ℕ) → thread < params.threads → view_with params [] thread ≡ zero_view (length params.na + length params.atomic)
fresh_view params thread lt = get_or-replicate params.threads thread (zero_view (length params.na + length params.atomic)) no_view lt

-- the seat of a fresh pass
pub fresh_seat : (params : SharedParams) (thread : ℕ) (me : Seated) (view : ThreadView) → thread < params.threads → params.threads ≤ 16 → me ≡ at_rest params thread [] → view ≡ zero_view (length params.na + length params.atomic) → IsPass me thread view
fresh_seat params thread me view lt few is none = record {
  rest = is ∙ (λ j. at_rest (sym is j).0.params thread (seen_of (sym is j).0));
  named = omega arith;
  view_is = none ∙ (sym (fresh_view params thread lt) ∙ (λ j. view_with (sym is j).0.params (seen_of (sym is j).0) thread));
}
