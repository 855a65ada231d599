-- What the calls tell of sorted messages.
use Rattle.std.proofs.Common.{◌≡◌, ℕ, zero, suc, ◌+◌, ◌-◌, ◌<◌, ◌≤◌, min, cond, eqb, ltb, List, [], ◌∷◌, ◌++◌, length, reverse, Option, Some, None, IsSome, refl, sym, ap, ◌∙◌, subst, arith, ⊎_elim}
use Rattle.std.proofs.lemmas.Bool.{cases_eq, cases_lt, cond-true, cond-false, eq-eqb, ne_eqb, lt-ltb, le-ltb, false≢true}
use Rattle.std.proofs.lemmas.List.Sums.{sum_by-cons}
use Rattle.std.proofs.lemmas.List.{reverse-append}
use Rattle.message_memory.specs.declared.message.Message.{Message}
use Rattle.message_memory.specs.Memory.{message_at}
use Rattle.indexed_memory.specs.declared.ranks.Rank.TheVariants.{At, Between}
use Rattle.indexed_memory.specs.Sorted.{message_of, newest_first, history_of, AreSorted, IsRank, gap_of}
use Rattle.indexed_memory.specs.Calls.{below, rank_by, rank_in, gap_after, gap_in}
use Rattle.indexed_memory.proofs.Finding.{find_none}

module _ (pool : List Message) (places : List ℕ) where
  -- ---- rank

  below_is : (to r n : ℕ) → IsRank pool places to r → n ≤ length places → below to (newest_first pool places n) ≡ min r n
  below_is to r zero rank b = omega arith
  below_is to r (suc n) rank b =
      ⊎_elim
      (λ (l : n < r).
      let c = ap {B = ℕ} (λ b. cond b 1 0) (lt-ltb _ _ (rank.below n l)) in
      omega (arith, more n, c, below_is to r n rank (omega arith)))
      (λ (l : r ≤ n).
      let c = ap {B = ℕ} (λ b. cond b 1 0) (le-ltb _ _ (rank.above n l (omega arith))) in
      omega (arith, more n, c, below_is to r n rank (omega arith)))
      (cases_lt n r)
    where
      more : (n : ℕ) → below to (newest_first pool places (suc n)) ≡ cond (ltb (message_of pool places n).to to) 1 0 + below to (newest_first pool places n)
      more n = sum_by-cons (λ (m : Message). cond (ltb m.to to) 1 0) (message_of pool places n) (newest_first pool places n)

  pub below_rank : (to r : ℕ) → IsRank pool places to r → below to (history_of pool places) ≡ r
  below_rank to r rank = below_is to r (length places) rank (omega arith) ∙ (let m = rank.most in omega (arith, m))

  some_at : (to r n : ℕ) → r < n → (message_of pool places r).to ≡ to → IsSome (message_at to (newest_first pool places n))
  some_at to r zero l e = absurd (omega arith)
  some_at to r (suc n) l e =
      ⊎_elim
      (λ (q : (message_of pool places n).to ≡ to). subst IsSome (sym (cond-true (eqb (message_of pool places n).to to) (Some (message_of pool places n)) (message_at to (newest_first pool places n)) (eq-eqb _ _ q))) refl)
      (λ (q : (message_of pool places n).to ≡ to → ⊥).
      subst IsSome (sym (cond-false (eqb (message_of pool places n).to to) (Some (message_of pool places n)) (message_at to (newest_first pool places n)) (ne_eqb _ _ q)))
      (some_at to r n (⊎_elim (λ (s : r ≡ n). absurd (q (ap (λ (i : ℕ). (message_of pool places i).to) (sym s) ∙ e))) (λ (s : r ≡ n → ⊥). omega (arith, s)) (cases_eq r n)) e))
      (cases_eq (message_of pool places n).to to)

  at_some : (k : ℕ) (o : Option Message) → IsSome o → rank_by k o ≡ At k
  at_some k (Some m) s = refl
  at_some k None s = absurd (false≢true s)

  pub rank_at : (to r : ℕ) → IsRank pool places to r → r < length places → (message_of pool places r).to ≡ to → At r ≡ rank_in to (history_of pool places)
  rank_at to r rank l e =
      sym (ap (λ (k : ℕ). rank_by k (message_at to (history_of pool places))) (below_rank to r rank) ∙ at_some r (message_at to (history_of pool places)) (some_at to r (length places) l e))

  pub rank_between : (to r : ℕ) → AreSorted pool places → IsRank pool places to r → (r < length places → (message_of pool places r).to ≡ to → ⊥) → Between r ≡ rank_in to (history_of pool places)
  rank_between to r sorted rank none =
      let missing = find_none pool places to (length places) (λ k l e.
      ⊎_elim
      (λ (s : k < r). absurd (omega (arith, rank.below k s, e)))
      (λ (s : r ≤ k). none (omega arith) (let p = sorted.rising r k s l in let q = rank.above r (omega arith) (omega arith) in omega (arith, p, q, e)))
      (cases_lt k r)) in
      sym (ap (λ (k : ℕ). rank_by k (message_at to (history_of pool places))) (below_rank to r rank) ∙ ap (rank_by r) missing)

  -- ---- gaps

  -- n messages from the one of number i on, oldest first
  abbrev rising : ℕ → ℕ → List Message
  rising i zero = []
  rising i (suc n) = message_of pool places i ∷ rising (suc i) n

  rising_last : (i n : ℕ) → rising i n ++ message_of pool places (i + n) ∷ [] ≡ rising i (suc n)
  rising_last i zero = let e : i + 0 ≡ i = omega arith in λ j. message_of pool places (e j) ∷ []
  rising_last i (suc n) =
      let e : i + suc n ≡ suc i + n = omega arith in
      λ j. message_of pool places i ∷ ((ap (λ (k : ℕ). rising (suc i) n ++ message_of pool places k ∷ []) e ∙ rising_last (suc i) n) j)

  reversed : (n : ℕ) → reverse (newest_first pool places n) ≡ rising 0 n
  reversed zero = refl
  reversed (suc n) =
      let e : n ≡ 0 + n = omega arith in
      reverse-append (message_of pool places n ∷ []) (newest_first pool places n)
      ∙ ap (λ (ms : List Message). ms ++ message_of pool places n ∷ []) (reversed n)
      ∙ ap (λ (k : ℕ). rising 0 n ++ message_of pool places k ∷ []) e
      ∙ rising_last 0 n

  gap_there : (k i n : ℕ) → k + 1 < n → gap_after k (rising i n) ≡ Some (gap_of pool places (i + k))
  gap_there k i zero l = absurd (omega arith)
  gap_there k i (suc zero) l = absurd (omega arith)
  gap_there zero i (suc (suc n)) l =
      let e : i + 0 + 1 ≡ suc i = omega arith in
      let f : i + 0 ≡ i = omega arith in
      λ j. Some ((message_of pool places (sym e j)).from - (message_of pool places (sym f j)).to)
  gap_there (suc k) i (suc (suc n)) l =
      let e : suc i + k ≡ i + suc k = omega arith in
      gap_there k (suc i) (suc n) (omega arith) ∙ ap (λ (x : ℕ). Some (gap_of pool places x)) e

  gap_none : (k i n : ℕ) → n ≤ k + 1 → gap_after k (rising i n) ≡ None
  gap_none k i zero l = refl
  gap_none k i (suc zero) l = refl
  gap_none zero i (suc (suc n)) l = absurd (omega arith)
  gap_none (suc k) i (suc (suc n)) l = gap_none k (suc i) (suc n) (omega arith)

  pub gap_is : (k : ℕ) → k + 1 < length places → gap_in k (history_of pool places) ≡ Some (gap_of pool places k)
  gap_is k l =
      let e : 0 + k ≡ k = omega arith in
      ap (gap_after k) (reversed (length places)) ∙ gap_there k 0 (length places) l ∙ ap (λ (x : ℕ). Some (gap_of pool places x)) e

  pub last_gap : (k : ℕ) → k + 1 ≡ length places → gap_in k (history_of pool places) ≡ None
  last_gap k e = ap (gap_after k) (reversed (length places)) ∙ gap_none k 0 (length places) (omega (arith, e))
