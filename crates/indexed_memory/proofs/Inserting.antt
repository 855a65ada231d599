-- One more place among sorted ones, at the rank of its message.
use Rattle.std.proofs.Common.{◌≡◌, ℕ, pos, zero, suc, ◌+◌, ◌-◌, ◌/◌, ◌<◌, ◌≤◌, ltb, List, [], ◌∷◌, length, get_or, refl, sym, ap, ◌∙◌, arith, ⊎_elim}
use Rattle.std.specs.List.{insert}
use Rattle.std.proofs.lemmas.Bool.{cases_eq, cases_lt, cond-true, cond-false, lt-ltb, le-ltb}
use Rattle.std.proofs.lemmas.List.Edits.{get_or-insert_at, get_or-insert_below, get_or-insert_above, length-insert}
use Rattle.message_memory.specs.declared.message.Message.{Message}
use Rattle.message_memory.specs.Memory.{first_message, inserted}
use Rattle.indexed_memory.specs.declared.runs.Run.{Run}
use Rattle.indexed_memory.specs.Sorted.{message_of, newest_first, history_of, AreSorted, IsRank, AreRuns, run_of, no_run}
use Rattle.indexed_memory.proofs.Agreeing.{newest_same, run_same}

-- what stands for a missing message has no say in one that is there
pub message_any : (pool : List Message) (i : ℕ) (d e : Message) → i < length pool → get_or pool i d ≡ get_or pool i e
message_any [] i d e l = absurd (omega (arith, l))
message_any (m ∷ pool) zero d e l = refl
message_any (m ∷ pool) (suc i) d e l = message_any pool i d e (omega (arith, l))

module _ (pool : List Message) (places : List ℕ) (k place : ℕ) where
  new_below : (j : ℕ) → j < k → k ≤ length places → message_of pool (insert places k place) j ≡ message_of pool places j
  new_below j l b = ap (λ (i : ℕ). get_or pool i (first_message 0 (pos 0))) (get_or-insert_below places k place 0 j l b)

  new_at : k ≤ length places → message_of pool (insert places k place) k ≡ message_of pool (place ∷ []) 0
  new_at b = ap (λ (i : ℕ). get_or pool i (first_message 0 (pos 0))) (get_or-insert_at places k place 0 b)

  new_above : (j : ℕ) → k ≤ j → k ≤ length places → message_of pool (insert places k place) (suc j) ≡ message_of pool places j
  new_above j l b =
      let e : suc j ≡ j + 1 = omega arith in
      ap (λ (i : ℕ). message_of pool (insert places k place) i) e
      ∙ ap (λ (i : ℕ). get_or pool i (first_message 0 (pos 0))) (get_or-insert_above places k place 0 j l b)

  module _ (rank : IsRank pool places (message_of pool (place ∷ []) 0).to k) where
    inserted_up : (j : ℕ) → k ≤ j → j ≤ length places
        → newest_first pool (insert places k place) (suc j) ≡ inserted (message_of pool (place ∷ []) 0) (newest_first pool places j)
    inserted_up zero l b =
        let e : 0 ≡ k = omega arith in
        let h : message_of pool (insert places k place) 0 ≡ message_of pool (place ∷ []) 0 = ap (λ (i : ℕ). message_of pool (insert places k place) i) e ∙ new_at rank.most in
        λ i. h i ∷ []
    inserted_up (suc j) l b =
        ⊎_elim
        (λ (e : suc j ≡ k).
        let h : message_of pool (insert places k place) (suc j) ≡ message_of pool (place ∷ []) 0 = ap (λ (i : ℕ). message_of pool (insert places k place) i) e ∙ new_at rank.most in
        let t = newest_same pool pool places (insert places k place) (suc j) (λ i a. new_below i (omega arith) rank.most) in
        (λ i. h i ∷ t i)
        ∙ sym (cond-true (ltb (message_of pool places j).to (message_of pool (place ∷ []) 0).to) _ _ (lt-ltb _ _ (rank.below j (omega arith)))))
        (λ (e : suc j ≡ k → ⊥).
        let h = new_above j (omega (arith, e)) rank.most in
        let t = inserted_up j (omega (arith, e)) (omega arith) in
        (λ i. h i ∷ t i)
        ∙ sym (cond-false (ltb (message_of pool places j).to (message_of pool (place ∷ []) 0).to) _ _ (le-ltb _ _ (rank.above j (omega (arith, e)) (omega arith)))))
        (cases_eq (suc j) k)

    -- the messages are those before, and the new one in its order
    pub history_inserted : history_of pool (insert places k place) ≡ inserted (message_of pool (place ∷ []) 0) (history_of pool places)
    history_inserted =
        let n : length (insert places k place) ≡ suc (length places) = omega (arith, length-insert places k place rank.most) in
        ap (λ (i : ℕ). newest_first pool (insert places k place) i) n ∙ inserted_up (length places) rank.most (omega arith)

    -- they weakly rise
    to_below : (j : ℕ) → j < k → (message_of pool (insert places k place) j).to < (message_of pool (place ∷ []) 0).to
    to_below j l = let e = ap (λ (x : Message). x.to) (new_below j l rank.most) in omega (arith, e, rank.below j l)

    to_above : (j : ℕ) → k ≤ j → j < length places → (message_of pool (place ∷ []) 0).to ≤ (message_of pool (insert places k place) (suc j)).to
    to_above j l b = let e = ap (λ (x : Message). x.to) (new_above j l rank.most) in omega (arith, e, rank.above j l b)

    rises : AreSorted pool places → (j i : ℕ) → j ≤ i → i ≤ length places → (message_of pool (insert places k place) j).to ≤ (message_of pool (insert places k place) i).to
    rises s j zero l b = let e : j ≡ 0 = omega arith in let q = ap (λ (x : ℕ). (message_of pool (insert places k place) x).to) e in omega (arith, q)
    rises s zero (suc i) l b =
        ⊎_elim
        (λ (a : suc i < k).
        let p = ap (λ (x : Message). x.to) (new_below 0 (omega arith) rank.most) in let q = ap (λ (x : Message). x.to) (new_below (suc i) a rank.most) in
        omega (arith, p, q, s.rising 0 (suc i) (omega arith) (omega (arith, rank.most))))
        (λ (a : k ≤ suc i). ⊎_elim
        (λ (e : k ≡ suc i). let q = ap (λ (x : Message). x.to) (ap (λ (x : ℕ). message_of pool (insert places k place) x) (sym e) ∙ new_at rank.most) in omega (arith, q, to_below 0 (omega arith)))
        (λ (e : k ≡ suc i → ⊥). ⊎_elim
        (λ (z : 0 < k). omega (arith, to_below 0 z, to_above i (omega (arith, e)) (omega arith)))
        (λ (z : k ≤ 0). let f : 0 ≡ k = omega arith in
        let q = ap (λ (x : Message). x.to) (ap (λ (x : ℕ). message_of pool (insert places k place) x) f ∙ new_at rank.most) in
        omega (arith, q, to_above i (omega arith) (omega arith)))
        (cases_lt 0 k))
        (cases_eq k (suc i)))
        (cases_lt (suc i) k)
    rises s (suc j) (suc i) l b =
        ⊎_elim
        (λ (a : suc i < k).
        let p = ap (λ (x : Message). x.to) (new_below (suc j) (omega arith) rank.most) in let q = ap (λ (x : Message). x.to) (new_below (suc i) a rank.most) in
        omega (arith, p, q, s.rising (suc j) (suc i) l (omega (arith, rank.most))))
        (λ (a : k ≤ suc i). ⊎_elim
        (λ (e : suc j < k). ⊎_elim
        (λ (z : k ≡ suc i). let q = ap (λ (x : Message). x.to) (ap (λ (x : ℕ). message_of pool (insert places k place) x) (sym z) ∙ new_at rank.most) in omega (arith, q, to_below (suc j) e))
        (λ (z : k ≡ suc i → ⊥). omega (arith, to_below (suc j) e, to_above i (omega (arith, z)) (omega arith)))
        (cases_eq k (suc i)))
        (λ (e : k ≤ suc j). ⊎_elim
        (λ (z : k ≡ suc j). let q = ap (λ (x : Message). x.to) (ap (λ (x : ℕ). message_of pool (insert places k place) x) (sym z) ∙ new_at rank.most) in ⊎_elim
        (λ (y : j ≡ i). let p = ap (λ (x : ℕ). (message_of pool (insert places k place) (suc x)).to) y in omega (arith, p))
        (λ (y : j ≡ i → ⊥). omega (arith, q, to_above i (omega (arith, y)) (omega arith)))
        (cases_eq j i))
        (λ (z : k ≡ suc j → ⊥).
        let p = ap (λ (x : Message). x.to) (new_above j (omega (arith, z)) rank.most) in let q = ap (λ (x : Message). x.to) (new_above i (omega (arith, z)) rank.most) in
        omega (arith, p, q, s.rising j i (omega arith) (omega arith)))
        (cases_eq k (suc j)))
        (cases_lt (suc j) k))
        (cases_lt (suc i) k)

    place_within : AreSorted pool places → place < length pool → (j : ℕ) → j ≤ length places → get_or (insert places k place) j 0 < length pool
    place_within s h j b =
        ⊎_elim
        (λ (a : j < k). let q = get_or-insert_below places k place 0 j a rank.most in omega (arith, q, s.within j (omega (arith, rank.most))))
        (λ (a : k ≤ j). ⊎_elim
        (λ (e : k ≡ j). let q = ap (λ (x : ℕ). get_or (insert places k place) x 0) (sym e) ∙ get_or-insert_at places k place 0 rank.most in omega (arith, q, h))
        (λ (e : k ≡ j → ⊥).
        let f : j ≡ j - 1 + 1 = omega (arith, e) in
        let q = ap (λ (x : ℕ). get_or (insert places k place) x 0) f ∙ get_or-insert_above places k place 0 (j - 1) (omega (arith, e)) rank.most in
        omega (arith, q, s.within (j - 1) (omega (arith, e))))
        (cases_eq k j))
        (cases_lt j k)

    pub sorted_inserted : AreSorted pool places → place < length pool → AreSorted pool (insert places k place)
    sorted_inserted s h =
        let n = length-insert places k place rank.most in
        record { within = λ j l. place_within s h j (omega arith); rising = λ j i l b. rises s j i l (omega arith) }

    -- the runs below the place are those before
    pub runs_kept : (runs : List Run) → AreRuns pool places runs → (r : ℕ) → r < (k - 1) / 256 → get_or runs r no_run ≡ run_of pool (insert places k place) r
    runs_kept runs a r l =
        a.counted r (omega (arith, a.all, rank.most)) ∙ sym (run_same pool pool places (insert places k place) r k (omega arith) (λ i b. new_below i b rank.most))
