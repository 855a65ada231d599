-- The choice of a number among sorted messages.
use Rattle.std.proofs.Common.{◌≡◌, ℕ, zero, suc, ◌+◌, ◌-◌, ◌*◌, ◌/◌, ◌<◌, ◌≤◌, List, [], ◌∷◌, ◌++◌, length, get_or, Option, Some, None, IsSome, IfSome, refl, sym, ap, ◌∙◌, arith, ⊎_elim, length-append, append_assoc}
use Rattle.std.proofs.lemmas.Bool.{cases_lt}
use Rattle.std.specs.Option.{option_to_list}
use Rattle.std.specs.List.{slice_get}
use Rattle.values_undef.specs.declared.access.Access.{Access}
use Rattle.values_undef.specs.declared.access.Choice.{Choice}
use Rattle.message_memory.specs.declared.message.Message.{Message}
use Rattle.message_memory.specs.Candidates.{choice_at, choices_from}
use Rattle.indexed_memory.specs.declared.runs.Run.{Run}
use Rattle.indexed_memory.specs.Sorted.{message_of, newest_first, history_of, IsRank, AreRuns, no_run}
use Rattle.indexed_memory.specs.Widths.{width_for, wide_in, choice_below, choices_under}
use Rattle.indexed_memory.proofs.Counting.{one_at, none_at, jump}

-- what is found behind a choice or none
get_behind : (o : Option Choice) (cs : List Choice) (k : ℕ) (c : Choice) → o ≡ Some c → slice_get (option_to_list o ++ cs) (suc k) ≡ slice_get cs k
get_behind (Some d) cs k c e = refl
get_behind None cs k c e = cc

get_there : (o : Option Choice) (cs : List Choice) (c : Choice) → o ≡ Some c → slice_get (option_to_list o ++ cs) 0 ≡ Some c
get_there (Some d) cs c e = e
get_there None cs c e = cc

get_past : (o : Option Choice) (cs : List Choice) (k : ℕ) → o ≡ None → slice_get (option_to_list o ++ cs) k ≡ slice_get cs k
get_past None cs k e = refl
get_past (Some d) cs k e = cc

get_behind_all : (xs ys : List Choice) (n k : ℕ) → n + length xs ≡ k → slice_get (xs ++ ys) k ≡ slice_get ys n
get_behind_all [] ys n k e = let f : k ≡ n = omega (arith, e) in ap (slice_get ys) f
get_behind_all (x ∷ xs) ys n zero e = absurd (omega (arith, e))
get_behind_all (x ∷ xs) ys n (suc k) e = get_behind_all xs ys n k (omega (arith, e))

-- there is a choice of each number below how many there are
pub some_choice : (cs : List Choice) (k : ℕ) → k < length cs → slice_get cs k ≡ None → ⊥
some_choice [] k l e = absurd (omega (arith, l))
some_choice (c ∷ cs) zero l e = absurd (none_is_not_some (sym e))
  where
    none_is_not_some : None ≡ Some c → ⊥
    none_is_not_some e = cc
some_choice (c ∷ cs) (suc k) l e = some_choice cs k (omega (arith, l)) e

module _ (pool : List Message) (places : List ℕ) (seen : ℕ) (a : Access) (low : ℕ) (rank : IsRank pool places seen low) where
  -- the choices at and below a message, where those above it are passed over
  below_is : (j : ℕ) → low < j → j < length places → choices_under pool places seen a j ≡ option_to_list (choice_below pool places a (j - 1)) ++ choices_under pool places seen a (j - 1)
  below_is zero l b = absurd (omega arith)
  below_is (suc n) l b =
      let e : suc n - 1 ≡ n = omega arith in
      let f : n + 1 ≡ suc n = omega arith in
      one_at pool places seen a low rank n (Some (message_of pool places (suc n)).from) (omega arith) (omega arith)
      ∙ ap (λ (i : ℕ). option_to_list (choice_at a (Some (message_of pool places i).from) (message_of pool places n)) ++ choices_under pool places seen a n) (sym f)
      ∙ ap (λ (i : ℕ). option_to_list (choice_below pool places a i) ++ choices_under pool places seen a i) (sym e)

  pub nth_there : (j : ℕ) → low < j → j < length places → (c : Choice) (left : ℕ) → left ≡ 0 → choice_below pool places a (j - 1) ≡ Some c → slice_get (choices_under pool places seen a j) left ≡ Some c
  nth_there j l b c left z e =
      ap (slice_get (choices_under pool places seen a j)) z
      ∙ ap (λ (cs : List Choice). slice_get cs 0) (below_is j l b)
      ∙ get_there (choice_below pool places a (j - 1)) (choices_under pool places seen a (j - 1)) c e

  pub nth_behind : (j : ℕ) → low < j → j < length places → (c : Choice) (left : ℕ) → (left ≡ 0 → ⊥) → choice_below pool places a (j - 1) ≡ Some c
      → slice_get (choices_under pool places seen a (j - 1)) (left - 1) ≡ slice_get (choices_under pool places seen a j) left
  nth_behind j l b c left z e =
      let f : left ≡ suc (left - 1) = omega (arith, z) in
      sym (
      ap (slice_get (choices_under pool places seen a j)) f
      ∙ ap (λ (cs : List Choice). slice_get cs (suc (left - 1))) (below_is j l b)
      ∙ get_behind (choice_below pool places a (j - 1)) (choices_under pool places seen a (j - 1)) (left - 1) c e
      )

  pub nth_past : (j : ℕ) → low < j → j < length places → (left : ℕ) → choice_below pool places a (j - 1) ≡ None
      → slice_get (choices_under pool places seen a (j - 1)) left ≡ slice_get (choices_under pool places seen a j) left
  nth_past j l b left e =
      sym (ap (λ (cs : List Choice). slice_get cs left) (below_is j l b) ∙ get_past (choice_below pool places a (j - 1)) (choices_under pool places seen a (j - 1)) left e)

  -- the choices in so many gaps stand before those below them
  split : (j d : ℕ) → low ≤ j → j + d < length places → (xs : List Choice) × (choices_under pool places seen a (j + d) ≡ xs ++ choices_under pool places seen a j)
  split j zero l b = let e : j + 0 ≡ j = omega arith in ([], ap (choices_under pool places seen a) e)
  split j (suc d) l b =
      let s = split j d l (omega arith) in
      let r : j + suc d - 1 ≡ j + d = omega arith in
      let first = option_to_list (choice_below pool places a (j + suc d - 1)) in (
        first ++ s.0,
        below_is (j + suc d) (omega arith) b
            ∙ ap (λ (i : ℕ). first ++ choices_under pool places seen a i) r
            ∙ ap (λ (cs : List Choice). first ++ cs) s.1
            ∙ sym (append_assoc first s.0 (choices_under pool places seen a j)),
      )

  passed : (i d j number left : ℕ) → i + d ≡ j → low ≤ i → j < length places → number + length (choices_under pool places seen a i) ≡ length (choices_under pool places seen a j) → number ≤ left
      → slice_get (choices_under pool places seen a i) (left - number) ≡ slice_get (choices_under pool places seen a j) left
  passed i d j number left e l b n le =
      let s = split i d l (omega (arith, e, b)) in
      let f : choices_under pool places seen a j ≡ s.0 ++ choices_under pool places seen a i = ap (choices_under pool places seen a) (sym e) ∙ s.1 in
      let many = ap {B = ℕ} (λ (cs : List Choice). length cs) f in
      sym (
      ap (λ (cs : List Choice). slice_get cs left) f
      ∙ get_behind_all s.0 (choices_under pool places seen a i) (left - number) left (omega (arith, many, length-append s.0 (choices_under pool places seen a i), n, le))
      )

  -- a whole run is passed over
  pub nth_jumped : (width : Option ℕ) (number j left : ℕ) (runs : List Run) → AreRuns pool places runs → width ≡ width_for a → IsSome width
      → IfSome width (λ w. number ≡ wide_in (get_or runs (j / 256 - 1) no_run) w) → low + 256 ≤ j → j ≡ 256 * (j / 256) → j < length places → number ≤ left
      → slice_get (choices_under pool places seen a (j - 256)) (left - number) ≡ slice_get (choices_under pool places seen a j) left
  nth_jumped width number j left runs h we s n lo m b le =
      passed (j - 256) 256 j number left (omega (arith, lo)) (omega (arith, lo)) b (jump pool places seen a low rank width number j runs h we s n lo m b) le

  -- ---- the newest message

  newest_is : low < length places
      → choices_from seen a None (history_of pool places) ≡ option_to_list (choice_at a None (message_of pool places (length places - 1))) ++ choices_under pool places seen a (length places - 1)
  newest_is l = at_last (length places) l (omega arith)
    where
      at_last : (n : ℕ) → low < n → n ≤ length places
          → choices_from seen a None (newest_first pool places n) ≡ option_to_list (choice_at a None (message_of pool places (n - 1))) ++ choices_under pool places seen a (n - 1)
      at_last zero l b = absurd (omega arith)
      at_last (suc n) l b =
          let e : suc n - 1 ≡ n = omega arith in
          one_at pool places seen a low rank n None (omega arith) (omega arith)
          ∙ ap (λ (i : ℕ). option_to_list (choice_at a None (message_of pool places i)) ++ choices_under pool places seen a i) (sym e)

  pub newest_there : low < length places → (c : Choice) (k : ℕ) → k ≡ 0 → choice_at a None (message_of pool places (length places - 1)) ≡ Some c → slice_get (choices_from seen a None (history_of pool places)) k ≡ Some c
  newest_there l c k z e =
      ap (slice_get (choices_from seen a None (history_of pool places))) z
      ∙ ap (λ (cs : List Choice). slice_get cs 0) (newest_is l)
      ∙ get_there (choice_at a None (message_of pool places (length places - 1))) (choices_under pool places seen a (length places - 1)) c e

  pub newest_behind : low < length places → (c : Choice) (k : ℕ) → (k ≡ 0 → ⊥) → choice_at a None (message_of pool places (length places - 1)) ≡ Some c
      → slice_get (choices_under pool places seen a (length places - 1)) (k - 1) ≡ slice_get (choices_from seen a None (history_of pool places)) k
  newest_behind l c k z e =
      let f : k ≡ suc (k - 1) = omega (arith, z) in
      sym (
      ap (slice_get (choices_from seen a None (history_of pool places))) f
      ∙ ap (λ (cs : List Choice). slice_get cs (suc (k - 1))) (newest_is l)
      ∙ get_behind (choice_at a None (message_of pool places (length places - 1))) (choices_under pool places seen a (length places - 1)) (k - 1) c e
      )

  pub newest_past : low < length places → (k : ℕ) → choice_at a None (message_of pool places (length places - 1)) ≡ None
      → slice_get (choices_under pool places seen a (length places - 1)) k ≡ slice_get (choices_from seen a None (history_of pool places)) k
  newest_past l k e =
      sym (ap (λ (cs : List Choice). slice_get cs k) (newest_is l) ∙ get_past (choice_at a None (message_of pool places (length places - 1))) (choices_under pool places seen a (length places - 1)) k e)

  -- where there is a choice, there is a message from the rank on
  pub some_above : (k : ℕ) → k < length (choices_from seen a None (history_of pool places)) → low < length places
  some_above k l =
      ⊎_elim
      (λ (b : low < length places). b)
      (λ (g : length places ≤ low).
      let e : low ≡ length places = omega (arith, g, rank.most) in
      let many = ap {B = ℕ} (λ (n : ℕ). length (choices_from seen a None (newest_first pool places n))) e in
      let none = ap {B = ℕ} (λ (cs : List Choice). length cs) (none_at pool places seen a low rank None) in
      absurd (omega (arith, l, many, none)))
      (cases_lt low (length places))

  -- ---- the end of the search

  -- at the rank there is no choice left
  pub nth_none : (j left : ℕ) → j ≡ low → slice_get (choices_under pool places seen a j) left ≡ None
  nth_none j left e =
      ap (λ (i : ℕ). slice_get (choices_under pool places seen a i) left) e
      ∙ ap (λ (cs : List Choice). slice_get cs left) (none_at pool places seen a low rank (Some (message_of pool places low).from))
