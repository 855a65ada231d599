-- How many choices an access has among sorted messages.
use Rattle.std.proofs.Common.{◌≡◌, ℕ, zero, suc, ◌+◌, ◌-◌, ◌*◌, ◌/◌, ◌<◌, ◌≤◌, Bool, true, false, cond, leb, List, [], ◌++◌, length, get_or, Option, Some, None, IsSome, IfSome, is_some, refl, sym, ap, ◌∙◌, subst, arith, length-append}
use Rattle.std.specs.Option.{option_to_list}
use Rattle.std.proofs.lemmas.Bool.{cond-true, cond-false, le-leb, lt-leb}
use Rattle.values_undef.specs.declared.access.Access.{Access}
use Rattle.values_undef.specs.declared.access.Access.TheVariants.{NaRead, NaWrite, Read, Write, Update, Fence, Print, Fail, Finish, Spend}
use Rattle.values_undef.specs.declared.access.UpdateKind.TheVariants.{Add, Swap, Cas}
use Rattle.values_undef.specs.declared.access.Choice.{Choice}
use Rattle.message_memory.specs.declared.message.Message.{Message}
use Rattle.message_memory.specs.Candidates.{choice_at, choices_from}
use Rattle.indexed_memory.specs.declared.runs.Run.{Run}
use Rattle.indexed_memory.specs.Sorted.{message_of, newest_first, history_of, IsRank, gaps_in, run_of, AreRuns, no_run}
use Rattle.indexed_memory.proofs.GapSums.{gaps_none, gaps_more, gaps_all}
use Rattle.indexed_memory.specs.Widths.{width_for, wide_in, choice_below, choices_under}

-- a choice or none, as a number
number_of : (o : Option Choice) → length (option_to_list o) ≡ cond (is_some o) 1 0
number_of (Some c) = refl
number_of None = refl

number_if : (b : Bool) (c : Choice) → length (option_to_list (cond b (Some c) None)) ≡ cond b 1 0
number_if true c = refl
number_if false c = refl

some_if : (b : Bool) (c : Choice) → is_some (cond b (Some c) None) ≡ b
some_if true c = refl
some_if false c = refl

-- an access has a choice at a message exactly where the gap after it is wide enough
gap_is : (a : Access) (w above : ℕ) (m : Message) → width_for a ≡ Some w → is_some (choice_at a (Some above) m) ≡ leb w (above - m.to)
gap_is (Read y order) w above m e = sym (le-leb w (above - m.to) (let q : 0 ≡ w = cc in omega (arith, q)))
gap_is (Write y order value) w above m e = let q : 4 ≡ w = cc in some_if (leb 4 (above - m.to)) _ ∙ ap (λ (i : ℕ). leb i (above - m.to)) q
gap_is (Update y order (Add x)) w above m e = let q : 1 ≡ w = cc in some_if (leb 1 (above - m.to)) _ ∙ ap (λ (i : ℕ). leb i (above - m.to)) q
gap_is (Update y order (Swap x)) w above m e = let q : 1 ≡ w = cc in some_if (leb 1 (above - m.to)) _ ∙ ap (λ (i : ℕ). leb i (above - m.to)) q
gap_is (Update y order (Cas x z)) w above m e = cc
gap_is (NaRead x) w above m e = cc
gap_is (NaWrite x value) w above m e = cc
gap_is (Fence order) w above m e = cc
gap_is (Print n) w above m e = cc
gap_is (Fail cause) w above m e = cc
gap_is Finish w above m e = cc
gap_is Spend w above m e = cc

module _ (pool : List Message) (places : List ℕ) (seen : ℕ) (a : Access) (low : ℕ) (rank : IsRank pool places seen low) where
  -- below the rank there is none
  none_under : (n : ℕ) (above : Option ℕ) → n ≤ low → choices_from seen a above (newest_first pool places n) ≡ []
  none_under zero above l = refl
  none_under (suc n) above l =
      let m = message_of pool places n in
      ap (λ (o : Option Choice). option_to_list o ++ choices_from seen a (Some m.from) (newest_first pool places n)) (cond-false (leb seen m.to) (choice_at a above m) None (lt-leb _ _ (rank.below n (omega arith))))
      ∙ none_under n (Some m.from) (omega arith)

  pub none_at : (above : Option ℕ) → choices_from seen a above (newest_first pool places low) ≡ []
  none_at above = none_under low above (omega arith)

  -- from it on, one at each message that has one
  pub one_at : (n : ℕ) (above : Option ℕ) → low ≤ n → n < length places
      → choices_from seen a above (newest_first pool places (suc n)) ≡ option_to_list (choice_at a above (message_of pool places n)) ++ choices_under pool places seen a n
  one_at n above l b =
      let m = message_of pool places n in
      ap (λ (o : Option Choice). option_to_list o ++ choices_under pool places seen a n) (cond-true (leb seen m.to) (choice_at a above m) None (le-leb _ _ (rank.above n l b)))

  pub count_one : (n : ℕ) (above : Option ℕ) → low ≤ n → n < length places
      → length (choices_from seen a above (newest_first pool places (suc n))) ≡ cond (is_some (choice_at a above (message_of pool places n))) 1 0 + length (choices_under pool places seen a n)
  count_one n above l b =
      omega (arith, ap length (one_at n above l b), length-append (option_to_list (choice_at a above (message_of pool places n))) (choices_under pool places seen a n), number_of (choice_at a above (message_of pool places n)))

  -- one step down
  pub count_below_one : (j : ℕ) → low < j → j < length places
      → length (choices_under pool places seen a j) ≡ cond (is_some (choice_below pool places a (j - 1))) 1 0 + length (choices_under pool places seen a (j - 1))
  count_below_one zero l b = absurd (omega arith)
  count_below_one (suc n) l b =
      let e : suc n - 1 ≡ n = omega arith in
      let f : n + 1 ≡ suc n = omega arith in
      count_one n (Some (message_of pool places (suc n)).from) (omega arith) (omega arith)
      ∙ ap (λ (i : ℕ). cond (is_some (choice_at a (Some (message_of pool places i).from) (message_of pool places n))) 1 0 + length (choices_under pool places seen a n)) (sym f)
      ∙ ap (λ (i : ℕ). cond (is_some (choice_below pool places a i)) 1 0 + length (choices_under pool places seen a i)) (sym e)

  -- a run of gaps has as many choices as it has gaps that are wide enough
  pub choices_counted : (w j d : ℕ) → width_for a ≡ Some w → low ≤ j → j + d < length places
      → length (choices_under pool places seen a (j + d)) ≡ gaps_in pool places w j d + length (choices_under pool places seen a j)
  choices_counted w j zero e l b =
      let q : j + 0 ≡ j = omega arith in
      let z = gaps_none pool places w j in
      omega (arith, ap (λ (i : ℕ). length (choices_under pool places seen a i)) q, z)
  choices_counted w j (suc d) e l b =
      let r : j + suc d - 1 ≡ j + d = omega arith in
      let p = count_below_one (j + suc d) (omega arith) b in
      let p2 = ap {B = ℕ} (λ (i : ℕ). cond (is_some (choice_below pool places a i)) 1 0 + length (choices_under pool places seen a i)) r in
      let g = ap {B = ℕ} (λ (t : Bool). cond t 1 0) (gap_is a w (message_of pool places (j + d + 1)).from (message_of pool places (j + d)) e) in
      let u = gaps_more pool places w j d in
      p ∙ p2 ∙ omega (arith, g, u, choices_counted w j d e l (omega arith))

  jump_by : (w i d j number : ℕ) → width_for a ≡ Some w → low ≤ i → i + d ≡ j → j < length places → number ≡ gaps_in pool places w i d
      → number + length (choices_under pool places seen a i) ≡ length (choices_under pool places seen a j)
  jump_by w i d j number e l q b n =
      omega (arith, n, choices_counted w i d e l (omega (arith, q, b)), ap (λ (k : ℕ). length (choices_under pool places seen a k)) q)

  wide_is : (b : Access) (w r : ℕ) → width_for b ≡ Some w → wide_in (run_of pool places r) w ≡ gaps_in pool places w (256 * r) 256
  wide_is (Read y order) w r e = let q : 0 ≡ w = cc in subst (λ (i : ℕ). wide_in (run_of pool places r) i ≡ gaps_in pool places i (256 * r) 256) q (sym (gaps_all pool places (256 * r) 256))
  wide_is (Write y order value) w r e = let q : 4 ≡ w = cc in subst (λ (i : ℕ). wide_in (run_of pool places r) i ≡ gaps_in pool places i (256 * r) 256) q refl
  wide_is (Update y order (Add x)) w r e = let q : 1 ≡ w = cc in subst (λ (i : ℕ). wide_in (run_of pool places r) i ≡ gaps_in pool places i (256 * r) 256) q refl
  wide_is (Update y order (Swap x)) w r e = let q : 1 ≡ w = cc in subst (λ (i : ℕ). wide_in (run_of pool places r) i ≡ gaps_in pool places i (256 * r) 256) q refl
  wide_is (Update y order (Cas x z)) w r e = cc
  wide_is (NaRead x) w r e = cc
  wide_is (NaWrite x value) w r e = cc
  wide_is (Fence order) w r e = cc
  wide_is (Print n) w r e = cc
  wide_is (Fail cause) w r e = cc
  wide_is Finish w r e = cc
  wide_is Spend w r e = cc

  -- down by a whole run
  pub jump : (width : Option ℕ) (number j : ℕ) (runs : List Run) → AreRuns pool places runs → width ≡ width_for a → IsSome width
      → IfSome width (λ w. number ≡ wide_in (get_or runs (j / 256 - 1) no_run) w) → low + 256 ≤ j → j ≡ 256 * (j / 256) → j < length places
      → number + length (choices_under pool places seen a (j - 256)) ≡ length (choices_under pool places seen a j)
  jump None number j runs h we s n lo m b = cc
  jump (Some w) number j runs h we s n lo m b =
      let r = j / 256 - 1 in
      let inside : r < length runs = omega (arith, h.all, m, b, lo) in
      let x : 256 * r ≡ j - 256 = omega (arith, m, lo) in
      jump_by w (j - 256) 256 j number (sym we) (omega (arith, lo)) (omega (arith, lo)) b
      (n ∙ ap (λ (run : Run). wide_in run w) (h.counted r inside) ∙ wide_is a w r (sym we) ∙ ap (λ (i : ℕ). gaps_in pool places w i 256) x)

  -- the newest message
  pub count_newest : low < length places
      → length (choices_from seen a None (history_of pool places)) ≡ cond (is_some (choice_at a None (message_of pool places (length places - 1)))) 1 0 + length (choices_under pool places seen a (length places - 1))
  count_newest l = at_last (length places) l (omega arith)
    where
      at_last : (n : ℕ) → low < n → n ≤ length places
          → length (choices_from seen a None (newest_first pool places n)) ≡ cond (is_some (choice_at a None (message_of pool places (n - 1)))) 1 0 + length (choices_under pool places seen a (n - 1))
      at_last zero l b = absurd (omega arith)
      at_last (suc n) l b =
          let e : suc n - 1 ≡ n = omega arith in
          count_one n None (omega arith) (omega arith)
          ∙ ap (λ (i : ℕ). cond (is_some (choice_at a None (message_of pool places i))) 1 0 + length (choices_under pool places seen a i)) (sym e)

pub length_newest : (pool : List Message) (places : List ℕ) (n : ℕ) → length (newest_first pool places n) ≡ n
length_newest pool places zero = refl
length_newest pool places (suc n) = omega (arith, length_newest pool places n)
