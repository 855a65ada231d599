-- What is found among sorted messages, by the rank of a timestamp.
use Rattle.std.proofs.Common.{◌≡◌, ℕ, zero, suc, ◌+◌, ◌<◌, ◌≤◌, min, max, Bool, true, false, not, eqb, List, length, Some, None, refl, sym, ap, ◌∙◌, subst, arith, ⊎_elim}
use Rattle.std.specs.Prelude.{◌&&◌}
use Rattle.std.proofs.lemmas.Bool.{cases_eq, cases_lt, cond-true, cond-false, eq-eqb, ne_eqb, lt-ltb, le-ltb}
use Rattle.message_memory.specs.declared.message.Message.{Message}
use Rattle.message_memory.specs.Memory.{message_at, overlaps, is_free, IsDisjointAndSorted}
use Rattle.indexed_memory.specs.Sorted.{message_of, newest_first, history_of, IsRank}

module _ (pool : List Message) (places : List ℕ) where
  -- the first messages of sorted ones are sorted
  pub part : (n k : ℕ) → k < n → IsDisjointAndSorted (newest_first pool places n) → IsDisjointAndSorted (newest_first pool places (suc k))
  part zero k l h = absurd (omega arith)
  part (suc zero) k l h = subst (λ (i : ℕ). IsDisjointAndSorted (newest_first pool places (suc i))) (let e : 0 ≡ k = omega arith in e) h
  part (suc (suc n)) k l h =
      ⊎_elim
      (λ (e : k ≡ suc n). subst (λ (i : ℕ). IsDisjointAndSorted (newest_first pool places (suc i))) (sym e) h)
      (λ (e : k ≡ suc n → ⊥). part (suc n) k (omega (arith, e)) h.2)
      (cases_eq k (suc n))

  -- a message begins where each earlier one has ended, and is not empty
  pub begins_after : (k j : ℕ) → j < k → IsDisjointAndSorted (newest_first pool places (suc k)) → ((message_of pool places j).to ≤ (message_of pool places k).from) × ((message_of pool places k).from < (message_of pool places k).to)
  begins_after zero j l h = absurd (omega arith)
  begins_after (suc k) j l h =
      ⊎_elim
      (λ (e : j ≡ k). (subst (λ (i : ℕ). (message_of pool places i).to ≤ (message_of pool places (suc k)).from) (sym e) h.0, h.1))
      (λ (e : j ≡ k → ⊥). let b = begins_after k j (omega (arith, e)) h.2 in (omega (arith, b.0, b.1, h.0), h.1))
      (cases_eq j k)

  pub ends_late : (k : ℕ) → IsDisjointAndSorted (newest_first pool places (suc k)) → (message_of pool places k).from ≤ (message_of pool places k).to
  ends_late zero h = omega (arith, h.0, h.1)
  ends_late (suc k) h = omega (arith, h.1)

  -- ---- a message

  pub find_none : (to n : ℕ) → ((k : ℕ) → k < n → (message_of pool places k).to ≡ to → ⊥) → message_at to (newest_first pool places n) ≡ None
  find_none to zero h = refl
  find_none to (suc n) h =
      cond-false (eqb (message_of pool places n).to to) _ _ (ne_eqb _ _ (h n (omega arith)))
      ∙ find_none to n (λ k l. h k (omega arith))

  find_some : (to r n : ℕ) → r < n → (message_of pool places r).to ≡ to → ((k : ℕ) → r < k → k < n → (message_of pool places k).to ≡ to → ⊥) → message_at to (newest_first pool places n) ≡ Some (message_of pool places r)
  find_some to r zero l e h = absurd (omega arith)
  find_some to r (suc n) l e h =
      ⊎_elim
      (λ (q : r ≡ n). cond-true (eqb (message_of pool places n).to to) _ _ (eq-eqb _ _ (ap (λ (i : ℕ). (message_of pool places i).to) (sym q) ∙ e)) ∙ ap (λ (i : ℕ). Some (message_of pool places i)) (sym q))
      (λ (q : r ≡ n → ⊥). cond-false (eqb (message_of pool places n).to to) _ _ (ne_eqb _ _ (h n (omega (arith, q)) (omega arith)))
      ∙ find_some to r n (omega (arith, q)) e (λ k a b. h k a (omega arith)))
      (cases_eq r n)

  pub found : (to r : ℕ) → IsRank pool places to r → IsDisjointAndSorted (history_of pool places) → r < length places → (message_of pool places r).to ≡ to → message_at to (history_of pool places) ≡ Some (message_of pool places r)
  found to r rank h l e =
      find_some to r (length places) l e
      (λ k a b q. let s = begins_after k r a (part (length places) k b h) in absurd (omega (arith, s.0, s.1, e, q)))

  pub not_found : (to r : ℕ) → IsRank pool places to r → IsDisjointAndSorted (history_of pool places) → (r < length places → (message_of pool places r).to ≡ to → ⊥) → message_at to (history_of pool places) ≡ None
  not_found to r rank h none =
      find_none to (length places)
      (λ k l q. ⊎_elim
      (λ (e : k ≡ r). none (omega (arith, e)) (ap (λ (i : ℕ). (message_of pool places i).to) (sym e) ∙ q))
      (λ (e : k ≡ r → ⊥). other k l q e)
      (cases_eq k r))
    where
      other : (k : ℕ) → k < length places → (message_of pool places k).to ≡ to → (k ≡ r → ⊥) → ⊥
      other k l q e = ⊎_elim
          (λ (b : k < r). absurd (omega (arith, rank.below k b, q)))
          (λ (b : r ≤ k). let s = begins_after k r (omega (arith, b, e)) (part (length places) k l h) in absurd (omega (arith, rank.above r (omega arith) (omega (arith, b, l)), s.0, s.1, q)))
          (cases_lt k r)

  -- ---- an interval

  pub all_free : (from to n : ℕ) → ((k : ℕ) → k < n → min to (message_of pool places k).to ≤ max from (message_of pool places k).from) → is_free from to (newest_first pool places n) ≡ true
  all_free from to zero h = refl
  all_free from to (suc n) h =
      let m = message_of pool places n in
      ap (λ (b : Bool). not b && is_free from to (newest_first pool places n)) (le-ltb _ _ (h n (omega arith)))
      ∙ all_free from to n (λ k l. h k (omega arith))

  pub one_overlaps : (from to r n : ℕ) → r < n → max from (message_of pool places r).from < min to (message_of pool places r).to → is_free from to (newest_first pool places n) ≡ false
  one_overlaps from to r zero l h = absurd (omega arith)
  one_overlaps from to r (suc n) l h =
      ⊎_elim
      (λ (e : r ≡ n). ap (λ (b : Bool). not b && is_free from to (newest_first pool places n)) (lt-ltb _ _ (subst (λ (i : ℕ). max from (message_of pool places i).from < min to (message_of pool places i).to) e h)))
      (λ (e : r ≡ n → ⊥). ap (λ (b : Bool). not (overlaps from to (message_of pool places n)) && b) (one_overlaps from to r n (omega (arith, e)) h) ∙ and_false (not (overlaps from to (message_of pool places n))))
      (cases_eq r n)
    where
      and_false : (b : Bool) → (b && false) ≡ false
      and_false true = refl
      and_false false = refl

  -- nothing overlaps an interval that begins behind each message, or ends before the next
  pub free_at : (from to r : ℕ) → IsRank pool places (from + 1) r → IsDisjointAndSorted (history_of pool places) → (r < length places → to ≤ (message_of pool places r).from) → is_free from to (history_of pool places) ≡ true
  free_at from to r rank h behind =
      all_free from to (length places)
      (λ k l. ⊎_elim
      (λ (b : k < r). let s = rank.below k b in omega (arith, s))
      (λ (b : r ≤ k). let q = behind (omega (arith, b, l)) in ⊎_elim
      (λ (e : k ≡ r). let q2 = subst (λ (i : ℕ). to ≤ (message_of pool places i).from) (sym e) q in omega (arith, q2))
      (λ (e : k ≡ r → ⊥). let s = begins_after k r (omega (arith, b, e)) (part (length places) k l h) in let t = ends_late r (part (length places) r (omega (arith, b, l)) h) in omega (arith, q, s.0, t))
      (cases_eq k r))
      (cases_lt k r))

  pub taken_at : (from to r : ℕ) → from < to → IsRank pool places (from + 1) r → IsDisjointAndSorted (history_of pool places) → r < length places → (message_of pool places r).from < to → is_free from to (history_of pool places) ≡ false
  taken_at from to r f rank h l b =
      one_overlaps from to r (length places) l (wide r (rank.above r (omega arith) l) (part (length places) r l h) b)
    where
      wide : (r : ℕ) → from + 1 ≤ (message_of pool places r).to → IsDisjointAndSorted (newest_first pool places (suc r)) → (message_of pool places r).from < to → max from (message_of pool places r).from < min to (message_of pool places r).to
      wide zero a s b = absurd (omega (arith, s.1, a))
      wide (suc r) a s b = omega (arith, f, a, s.1, b)
