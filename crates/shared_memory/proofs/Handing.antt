-- Seats are split before the first call and joined after the last. These two keep the rule too, and so does the opening. What the last state tells.
use Rattle.std.proofs.Common.{◌≡◌, ◌≢◌, ℕ, zero, suc, ◌+◌, ◌≤◌, cond, eqb, ltb, ◌&&◌, List, [], ◌∷◌, ◌++◌, length, set, refl, sym, ap, ◌∙◌, subst, ⊎_elim, arith, eq-eqb, ne_eqb}
use mathlib.Core.Logic.{dite}
use mathlib.Core.Option.{some, some-injective, some-ne-none}
use mathlib.Core.List.{IsPrefix}
use native.Mathlib.Decide.{ℕ_discrete}
use lib.ListN.{get_elem?}
use Rattle.std.proofs.lemmas.Bool.{false≢true, cond-true, cond-false, and_left, and_right, and_from, lt-ltb, le-ltb}
use Rattle.atomic_table.specs.Table.{Splits, Joins, opening, Final, Seen}
use Rattle.atomic_table.proofs.Lists.{set_else, at_longer}
use Rattle.message_memory.specs.declared.history.Call.{Call}
use Rattle.message_memory.specs.History.{calls_by}
use Rattle.shared_memory.specs.declared.params.SharedParams.{SharedParams}
use Rattle.shared_memory.specs.declared.params.SeatNote.{SeatNote}
use Rattle.shared_memory.specs.Slot.{SlotContents, slot_contents}
use Rattle.shared_memory.specs.Turns.{AllBelow, resting, starting, AllFrom, ThreadKnown, SeatKnown, TurnRule, left_part, right_part, both_parts, spent}
use Rattle.shared_memory.proofs.Lists.{all_from_map, all_from_above, all_from_append, all_from_at, all_from_empty, seats_after, at_end}
use Rattle.shared_memory.proofs.Keeping.{Whole, turn_of, known_first}

-- the same, for another owner of the numbers
owned_by : {params : SharedParams} {h : List Call} {owner next : ℕ → ℕ} {j i : ℕ} {told : SharedParams} {k : ℕ} {seen : List Call} → ThreadKnown params h owner j told k seen → next k ≡ i → ThreadKnown params h next i told k seen
owned_by known e = record { owns = e; named = known.named; begins = known.begins; own = known.own; same = known.same }

split_owner : ℕ → ℕ → ℕ → (ℕ → ℕ) → ℕ → ℕ
split_owner first id new owner k = cond (eqb (owner k) id && ltb first k) new (owner k)

splits_at : (params : SharedParams) (id : ℕ) (a : SharedParams) (first : ℕ) (x : List Call) (xs : List (List Call)) → Splits (TurnRule params) id (resting a first (x ∷ xs)) (resting a first (x ∷ [])) (resting a (suc first) xs)
unfolding split_owner
splits_at params id a first x xs s r at =
    let v : SeatNote = resting a first (x ∷ xs) in
    let left : SeatNote = resting a first (x ∷ []) in
    let right : SeatNote = resting a (suc first) xs in
    let h : List Call = r.history in
    let new : ℕ = length (set s.views id left) in
    let owner : ℕ → ℕ = split_owner first id new r.owner in
    let k = r.each_seat id v at in
    let stays : (j : ℕ) (d : SeatNote) → j ≢ id → SeatKnown params h (turn_of s) r.owner j d → SeatKnown params h (turn_of s) owner j d =
    λ j d apart b. record {
      each_thread = all_from_map (ThreadKnown params h r.owner j d.params) (ThreadKnown params h owner j d.params)
          (λ n seen known. owned_by known (cond-false (eqb (r.owner n) id && ltb first n) new (r.owner n) (and_left (eqb (r.owner n) id) (ltb first n) (ne_eqb (r.owner n) id (λ e. apart (sym known.owns ∙ e)))) ∙ known.owns)) d.first d.seens b.each_thread;
      turn_is = b.turn_is;
    } in
    let mine : SeatKnown params h (turn_of s) owner id left = record {
      each_thread = (owned_by k.each_thread.0 (cond-false (eqb (r.owner first) id && ltb first first) new (r.owner first) (and_right (eqb (r.owner first) id) (ltb first first) (le-ltb first first (omega arith))) ∙ k.each_thread.0.owns), tt);
      turn_is = λ on. absurd (false≢true on);
    } in
    let theirs : SeatKnown params h (turn_of s) owner new right = record {
      each_thread = all_from_map (λ n seen. (suc first ≤ n) × ThreadKnown params h r.owner id a n seen) (ThreadKnown params h owner new a)
          (λ n seen p. let above = p.0 in owned_by p.1 (cond-true (eqb (r.owner n) id && ltb first n) new (r.owner n) (and_from (eqb (r.owner n) id) (ltb first n) (eq-eqb (r.owner n) id p.1.owns) (lt-ltb first n (omega arith)))))
          (suc first) xs (all_from_above (ThreadKnown params h r.owner id a) (suc first) (suc first) (omega arith) xs k.each_thread.1);
      turn_is = λ on. absurd (false≢true on);
    } in
    record {
      history = h;
      owner = owner;
      wide = r.wide;
      deep = r.deep;
      counted = r.counted;
      threads_named = r.threads_named;
      shares_kept = r.shares_kept;
      each_seat = λ j d e. ⊎_elim
          (λ was. seats_after (SeatKnown params h (turn_of s) owner) s.views id left mine (λ j d apart there. stays j d apart (r.each_seat j d there)) j d was)
          (λ (t : (j ≡ new) × (right ≡ d)). subst (λ (y : ℕ × SeatNote). SeatKnown params h (turn_of s) owner y.0 y.1) (λ i. (sym t.0 i, t.1 i)) theirs)
          (at_end (set s.views id left) right d j e);
      free = r.free;
      held = λ ne. let o = r.held ne in let apart : o.0 ≢ id = (λ (e : o.0 ≡ id). let same : v ≡ o.1 = some-injective v o.1 (sym at ∙ (ap (get_elem? s.views) (sym e) ∙ o.2)) in false≢true (ap (λ (d : SeatNote). d.holds) same ∙ o.3)) in
          (o.0, o.1, at_longer (set s.views id left) (right ∷ []) o.0 o.1 (set_else s.views id o.0 left apart ∙ o.2), o.3);
    }

-- splitting the first thread off
pub may_split : (params : SharedParams) (id : ℕ) (v : SeatNote) (a : SharedParams) (first : ℕ) (x : List Call) (xs : List (List Call)) → v ≡ resting a first (x ∷ xs) → Splits (TurnRule params) id v (left_part v) (right_part v)
may_split params id v a first x xs is = subst (λ (v : SeatNote). Splits (TurnRule params) id v (left_part v) (right_part v)) (sym is) (splits_at params id a first x xs)

join_owner : ℕ → ℕ → (ℕ → ℕ) → ℕ → ℕ
join_owner id other owner k = cond (eqb (owner k) other) id (owner k)

joins_at : (params : SharedParams) (id other : ℕ) (a : SharedParams) (first next : ℕ) (xs ys : List (List Call)) → next ≡ first + length xs
    → Joins (TurnRule params) id (resting a first xs) other (resting a next ys) (resting a first (xs ++ ys)) spent
unfolding join_owner
joins_at params id other a first next xs ys row s r at apart there =
    let v : SeatNote = resting a first xs in
    let u : SeatNote = resting a next ys in
    let w : SeatNote = resting a first (xs ++ ys) in
    let h : List Call = r.history in
    let owner : ℕ → ℕ = join_owner id other r.owner in
    let vs : List SeatNote = set s.views id w in
    let was : get_elem? s.views other ≡ some u = sym (set_else s.views id other w apart) ∙ there in
    let k = r.each_seat id v at in
    let l = r.each_seat other u was in
    let kept : (j : ℕ) → j ≢ other → (told : SharedParams) (n : ℕ) (seen : List Call) → ThreadKnown params h r.owner j told n seen → ThreadKnown params h owner j told n seen =
    λ j ne told n seen known. owned_by known (cond-false (eqb (r.owner n) other) id (r.owner n) (ne_eqb (r.owner n) other (λ e. ne (sym known.owns ∙ e))) ∙ known.owns) in
    let unlocked : (n : ℕ) (seen : List Call) → ThreadKnown params h r.owner other a n seen → ThreadKnown params h owner id a n seen =
    λ n seen known. owned_by known (cond-true (eqb (r.owner n) other) id (r.owner n) (eq-eqb (r.owner n) other known.owns)) in
    let mine : SeatKnown params h (turn_of s) owner id w = record {
      each_thread = all_from_append (ThreadKnown params h owner id a) first next xs ys row
          (all_from_map (ThreadKnown params h r.owner id a) (ThreadKnown params h owner id a) (kept id (λ e. apart (sym e)) a) first xs k.each_thread)
          (all_from_map (ThreadKnown params h r.owner other a) (ThreadKnown params h owner id a) unlocked next ys l.each_thread);
      turn_is = λ on. absurd (false≢true on);
    } in
    let stays : (j : ℕ) (d : SeatNote) → j ≢ other → SeatKnown params h (turn_of s) r.owner j d → SeatKnown params h (turn_of s) owner j d =
    λ j d ne b. record {
      each_thread = all_from_map (ThreadKnown params h r.owner j d.params) (ThreadKnown params h owner j d.params) (kept j ne d.params) d.first d.seens b.each_thread;
      turn_is = b.turn_is;
    } in
    record {
      history = h;
      owner = owner;
      wide = r.wide;
      deep = r.deep;
      counted = r.counted;
      threads_named = r.threads_named;
      shares_kept = r.shares_kept;
      each_seat = seats_after (SeatKnown params h (turn_of s) owner) vs other spent (record { each_thread = tt; turn_is = λ on. absurd (false≢true on) })
          (λ j d ne e. ⊎_elim
          (λ (t : (j ≡ id) × (w ≡ d)). subst (λ (y : ℕ × SeatNote). SeatKnown params h (turn_of s) owner y.0 y.1) (λ i. (sym t.0 i, t.1 i)) mine)
          (λ (t : (j ≢ id) × (get_elem? s.views j ≡ some d)). stays j d ne (r.each_seat j d t.1))
          (Rattle.atomic_table.proofs.Lists.at_set s.views id j w d e));
      free = r.free;
      held = λ ne.
          let o = r.held ne in
          let j : ℕ = o.0 in
          let d : SeatNote = o.1 in
          let not_mine : j ≢ id = (λ (e : j ≡ id). let same : v ≡ d = some-injective v d (sym at ∙ (ap (get_elem? s.views) (sym e) ∙ o.2)) in false≢true (ap (λ (d : SeatNote). d.holds) same ∙ o.3)) in
          let not_other : j ≢ other = (λ (e : j ≡ other). let same : u ≡ d = some-injective u d (sym was ∙ (ap (get_elem? s.views) (sym e) ∙ o.2)) in false≢true (ap (λ (d : SeatNote). d.holds) same ∙ o.3)) in
          (j, d, set_else vs other j spent not_other ∙ (set_else s.views id j w not_mine ∙ o.2), o.3);
    }

-- joining the seat of the threads that follow
pub may_join : (params : SharedParams) (id other : ℕ) (v u : SeatNote) (a : SharedParams) (first next : ℕ) (xs ys : List (List Call)) → v ≡ resting a first xs → u ≡ resting a next ys → next ≡ first + length xs
    → Joins (TurnRule params) id v other u (both_parts v u) spent
may_join params id other v u a first next xs ys mine theirs row = subst (λ (x : SeatNote × SeatNote). Joins (TurnRule params) id x.0 other x.1 (both_parts x.0 x.1) spent) (λ i. (sym mine i, sym theirs i)) (joins_at params id other a first next xs ys row)

-- the table as it is made
pub opens : (params : SharedParams) → TurnRule params (opening (0 ∷ 0 ∷ []) (slot_contents params [] ∷ []) (starting params))
opens params = record {
  history = [];
  owner = λ _. 0;
  wide = refl;
  deep = refl;
  counted = refl;
  threads_named = tt;
  shares_kept = λ i. omega arith;
  each_seat = alone;
  free = λ _. refl;
  held = λ ne. absurd (ne refl);
}
  where
    knows : SeatKnown params [] 0 (λ _. 0) 0 (starting params)
    knows = record {
      each_thread = all_from_empty (ThreadKnown params [] (λ _. 0) 0 params) 0 params.threads (λ k lt. record { owns = refl; named = omega arith; begins = ([], refl); own = refl; same = refl });
      turn_is = λ on. absurd (false≢true on);
    }

    alone : (j : ℕ) (v : SeatNote) → get_elem? (starting params ∷ []) j ≡ some v → SeatKnown params [] 0 (λ _. 0) j v
    alone zero v e = subst (SeatKnown params [] 0 (λ _. 0) 0) (some-injective (starting params) v e) knows
    alone (suc j) v e = absurd (some-ne-none v (sym e))

-- what the last state tells of one thread's list
pub record Ends (history : List Call) (thread : ℕ) (seen : List Call) : Type 0 where
  pub begins : IsPrefix seen history
  pub own : calls_by thread seen ≡ calls_by thread history

-- the turn is free where one seat has all numbers and not the turn
all_free : (params : SharedParams) (id : ℕ) (seens : List (List Call)) (s : Whole) (r : TurnRule params s) → get_elem? s.views id ≡ some (resting params 0 seens) → length seens ≡ params.threads → turn_of s ≡ 0
all_free params id seens s r at all = dite (ℕ_discrete (turn_of s) 0) (λ e. e) (λ ne.
    let o = r.held ne in
    let d : SeatNote = o.1 in
    let theirs = known_first d (r.each_seat o.0 d o.2) o.3 in
    let named = theirs.named in
    let mine = all_from_at (ThreadKnown params r.history r.owner id params) 0 seens d.first (r.each_seat id (resting params 0 seens) at).each_thread (omega arith) (omega arith) in
    let e : o.0 ≡ id = sym theirs.owns ∙ mine.1.owns in
    let same : resting params 0 seens ≡ d = some-injective (resting params 0 seens) d (sym at ∙ (ap (get_elem? s.views) (sym e) ∙ o.2)) in
    absurd (false≢true (ap (λ (d : SeatNote). d.holds) same ∙ o.3)))

-- the slot_contents of the last state, where one seat has all numbers
pub record Closes (params : SharedParams) (seens : List (List Call)) (l : SlotContents) : Type 0 where
  pub made_with : l.params ≡ params
  pub threads_named : AllBelow params.threads l.calls
  pub each_thread : AllFrom (Ends l.calls) 0 seens

pub closes : (params : SharedParams) (id : ℕ) (v : SeatNote) (seens : List (List Call)) (ws : List ℕ) (xs : List SlotContents) (l : SlotContents) → v ≡ resting params 0 seens → length seens ≡ params.threads
    → Final (Seen (TurnRule params) id v) ws xs → get_elem? xs 0 ≡ some l → Closes params seens l
closes params id v seens ws xs l is all final found =
    let s : Whole = final.0 in
    let r = final.1.0 in
    let at : get_elem? s.views id ≡ some (resting params 0 seens) = final.1.1 ∙ ap some is in
    let free = all_free params id seens s r at all in
    let same : slot_contents params r.history ≡ l = some-injective (slot_contents params r.history) l (sym (final.4 0 (slot_contents params r.history) (r.free free)) ∙ found) in
    subst (Closes params seens) same (record {
      made_with = refl;
      threads_named = r.threads_named;
      each_thread = all_from_map (ThreadKnown params r.history r.owner id params) (Ends r.history) (λ k seen known. record { begins = known.begins; own = known.own }) 0 seens (r.each_seat id (resting params 0 seens) at).each_thread;
    })
