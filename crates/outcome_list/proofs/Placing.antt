-- Where an outcome stands in a rising list.
use Rattle.std.proofs.Common.{◌≡◌, ℕ, zero, suc, ◌+◌, ◌<◌, ◌≤◌, true, false, List, [], ◌∷◌, length, map, get_or, refl, sym, ap, ◌∙◌, subst, arith, ◌⊎◌, inl, inr, ⊎_elim, ltb, Result, Ok, Err, IfOk, IfErr}
use Rattle.std.specs.List.{AllByRecursion, Contains, insert}
use Rattle.std.specs.List.Sorted.{IsSortedBy, IsBinarySearchResult, IsSearchInRange}
use Rattle.std.specs.declared.cmp.Ordering.{Ordering}
use Rattle.std.specs.declared.cmp.Ordering.TheVariants.{Less, Equal, Greater}
use Rattle.std.specs.Ordering.{is_lt, is_gt, ordering_reverse}
use Rattle.std.specs.Cmp.{tied_itself}
use Rattle.std.proofs.lemmas.Bool.{cases_Bool, true≢false, ltb-true, ltb-false}
use Rattle.std.proofs.lemmas.List.{get_or-map, length-map}
use Rattle.std.proofs.lemmas.List.Edits.{get_or-insert_at, length-insert}
use Rattle.std.proofs.lemmas.List.Sorted.{searchable_from_sorted}
use Rattle.outcome_nodes.specs.Outcome.{FinalOutcome, final_outcome_of}
use Rattle.outcome_list.specs.Order.{outcome_cmp, AreOutcomesRising}
use Rattle.il_syntax.specs.declared.program.Program.{Program}
use Rattle.values_undef.specs.declared.journal.Entry.{Entry}
use Rattle.outcome_list.specs.declared.found.Found.{Found}
use Rattle.outcome_list.specs.List.{found_outcome, IsPlaceFor, IsAdded, IsNew}
use Rattle.outcome_list.proofs.Orders.{outcomes_total, outcomes_equal}

turned : (o q : FinalOutcome) → outcome_cmp o q ≡ Greater → outcome_cmp q o ≡ Less
turned o q e = outcomes_total.antisymm q o ∙ ap ordering_reverse e

not_less : (r : Ordering) → r ≡ Less → is_lt (ordering_reverse r) ≡ false
not_less r e = ap (λ (s : Ordering). is_lt (ordering_reverse s)) e

no_found : FinalOutcome → Found
no_found o = record { outcome = o; journal = [] }

-- each but the last is less than the next
adjacent : (list : List Found) (k : ℕ) (d : Found) → AreOutcomesRising (map found_outcome list) → suc k < length list → outcome_cmp (found_outcome (get_or list k d)) (found_outcome (get_or list (suc k) d)) ≡ Less
adjacent [] k d h l = absurd (omega (arith, l))
adjacent (f ∷ []) k d h l = absurd (omega (arith, l))
adjacent (f ∷ g ∷ list) zero d h l = h.0.0
adjacent (f ∷ g ∷ list) (suc k) d h l = adjacent (g ∷ list) k d h.1 (omega (arith, l))

sorted : (list : List Found) → AreOutcomesRising (map found_outcome list) → IsSortedBy (λ f g. is_lt (outcome_cmp (found_outcome f) (found_outcome g))) list
sorted list h k d from l =
    let one : suc k ≡ k + 1 = omega arith in
    let less : outcome_cmp (found_outcome (get_or list k d)) (found_outcome (get_or list (k + 1) d)) ≡ Less =
    subst (λ (j : ℕ). outcome_cmp (found_outcome (get_or list k d)) (found_outcome (get_or list j d)) ≡ Less) one (adjacent list k d h (omega (arith, l))) in
    ap is_lt (outcomes_total.antisymm (found_outcome (get_or list (k + 1) d)) (found_outcome (get_or list k d))) ∙ not_less (outcome_cmp (found_outcome (get_or list k d)) (found_outcome (get_or list (k + 1) d))) less

-- what the search of a place tells
pub place_told : (list : List Found) (o : FinalOutcome) (r : Result ℕ ℕ) → AreOutcomesRising (map found_outcome list) → IsSearchInRange r (length list) → IsBinarySearchResult (λ f. outcome_cmp (found_outcome f) o) list r
    → IfOk r (λ k. Contains (map found_outcome list) o) × IfErr r (IsPlaceFor (map found_outcome list) o)
place_told list o (Ok k) h bound found = (
  (k, omega (arith, bound, length-map list found_outcome), get_or-map found_outcome list k (no_found o) o bound ∙ outcomes_equal (found_outcome (get_or list k (no_found o))) o (found (no_found o))),
  tt,
)
place_told list o (Err k) h bound found =
    let at = found (searchable_from_sorted outcomes_total found_outcome list o (sorted list h)) in (
      tt,
      record {
        within = omega (arith, bound, length-map list found_outcome);
        before = λ j l. ap (λ (q : FinalOutcome). outcome_cmp q o) (get_or-map found_outcome list j (no_found o) o (omega (arith, bound, l))) ∙ at.0 j (no_found o) (omega arith) l;
        after = λ j from l.
            let m : j < length list = omega (arith, l, length-map list found_outcome) in
            ap (λ (q : FinalOutcome). outcome_cmp q o) (get_or-map found_outcome list j (no_found o) o m) ∙ at.1 j (no_found o) from m;
      },
    )

-- ---- one more

all_but : (P : FinalOutcome → Type 0) (os : List FinalOutcome) (k : ℕ) (o : FinalOutcome) → P o → AllByRecursion P os → AllByRecursion P (insert os k o)
all_but P os zero o p a = (p, a)
all_but P [] (suc k) o p a = (p, tt)
all_but P (q ∷ os) (suc k) o p a = (a.0, all_but P os k o p a.1)

all_after : (os : List FinalOutcome) (o : FinalOutcome) → ((j : ℕ) → j < length os → outcome_cmp (get_or os j o) o ≡ Greater) → AllByRecursion (λ q. outcome_cmp o q ≡ Less) os
all_after [] o h = tt
all_after (q ∷ os) o h = (turned q o (h 0 (omega arith)), all_after os o (λ j l. h (suc j) (omega (arith, l))))

pub put_rising : (os : List FinalOutcome) (o : FinalOutcome) (k : ℕ) → AreOutcomesRising os → IsPlaceFor os o k → AreOutcomesRising (insert os k o)
put_rising os o zero h at = (all_after os o (λ j l. at.after j (omega arith) l), h)
put_rising [] o (suc k) h at = absurd (omega (arith, at.within))
put_rising (q ∷ os) o (suc k) h at = (
  all_but (λ r. outcome_cmp q r ≡ Less) os k o (at.before 0 (omega arith)) h.0,
  put_rising os o k h.1 (record { within = omega (arith, at.within); before = λ j l. at.before (suc j) (omega (arith, l)); after = λ j from l. at.after (suc j) (omega (arith, from)) (omega (arith, l)) }),
)

pub map_insert : {X Y : Type 0} (f : X → Y) (xs : List X) (k : ℕ) (x : X) → map f (insert xs k x) ≡ insert (map f xs) k (f x)
map_insert f xs zero x = refl
map_insert f [] (suc k) x = refl
map_insert f (y ∷ xs) (suc k) x = ap (λ (ys : List _). f y ∷ ys) (map_insert f xs k x)

pub insert_has : {X : Type 0} (xs : List X) (k : ℕ) (x : X) → k ≤ length xs → Contains (insert xs k x) x
insert_has xs k x l = (k, omega (arith, length-insert xs k x l, l), get_or-insert_at xs k x x l)

pub insert_keeps : {X : Type 0} (xs : List X) (k : ℕ) (x y : X) → k ≤ length xs → Contains xs y → Contains (insert xs k x) y
insert_keeps xs zero x y l c = (suc c.0, omega (arith, c.1), c.2)
insert_keeps [] (suc k) x y l c = absurd (omega (arith, l))
insert_keeps (z ∷ xs) (suc k) x y l (zero, below, is) = (zero, omega arith, is)
insert_keeps (z ∷ xs) (suc k) x y l (suc j, below, is) =
    let r = insert_keeps xs k x y (omega (arith, l)) (j, omega (arith, below), is) in (suc r.0, omega (arith, r.1), r.2)

pub all_insert : {X : Type 0} (P : X → Type 0) (xs : List X) (k : ℕ) (x : X) → P x → AllByRecursion P xs → AllByRecursion P (insert xs k x)
all_insert P xs zero x p a = (p, a)
all_insert P [] (suc k) x p a = (p, tt)
all_insert P (y ∷ xs) (suc k) x p a = (a.0, all_insert P xs k x p a.1)

-- ---- the list with one run more

-- an outcome that has a place in the list isn't there
not_there : (os : List FinalOutcome) (o : FinalOutcome) (k : ℕ) → IsPlaceFor os o k → Contains os o → ⊥
not_there os o k at c =
    let tie : outcome_cmp (get_or os c.0 o) o ≡ Equal = ap (λ (q : FinalOutcome). outcome_cmp q o) c.2 ∙ tied_itself outcomes_total o in
    ⊎_elim
    (λ (l : ltb c.0 k ≡ true). absurd (true≢false (ap is_lt (sym (at.before c.0 (ltb-true c.0 k l)) ∙ tie))))
    (λ (l : ltb c.0 k ≡ false). absurd (true≢false (ap is_gt (sym (at.after c.0 (ltb-false c.0 k l) c.1) ∙ tie))))
    (cases_Bool (ltb c.0 k))

contained_later : {X : Type 0} (x y : X) (xs : List X) → Contains xs y → Contains (x ∷ xs) y
contained_later x y xs c = (suc c.0, omega (arith, c.1), c.2)

all_contained_later : {X : Type 0} (x : X) (xs ys : List X) → AllByRecursion (λ y. Contains xs y) ys → AllByRecursion (λ y. Contains (x ∷ xs) y) ys
all_contained_later x xs [] h = tt
all_contained_later x xs (y ∷ ys) h = (contained_later x y xs h.0, all_contained_later x xs ys h.1)

all_contained : {X : Type 0} (xs : List X) → AllByRecursion (λ x. Contains xs x) xs
all_contained [] = tt
all_contained (x ∷ xs) = ((zero, omega arith, refl), all_contained_later x xs xs (all_contained xs))

all_old : (p : Program) (run : List Entry) (list some : List Found) → AllByRecursion (λ f. Contains list f) some → AllByRecursion (λ f. Contains list f ⊎ IsNew p run list f) some
all_old p run list [] h = tt
all_old p run list (f ∷ some) h = (inl h.0, all_old p run list some h.1)

pub run_there : (p : Program) (run : List Entry) (list : List Found) (o : FinalOutcome) → AreOutcomesRising (map found_outcome list) → o ≡ final_outcome_of p run → Contains (map found_outcome list) o → IsAdded p run list list
run_there p run list o rising same there = record { rising = rising; has = subst (λ (q : FinalOutcome). Contains (map found_outcome list) q) same there; kept = λ q c. c; each = all_old p run list list (all_contained list) }

pub run_put : (p : Program) (run : List Entry) (list new : List Found) (k : ℕ) (f : Found) → AreOutcomesRising (map found_outcome list) → found_outcome f ≡ final_outcome_of p run → f.journal ≡ run → IsPlaceFor (map found_outcome list) (found_outcome f) k → new ≡ insert list k f
    → IsAdded p run list new
run_put p run list new k f rising same journal at more = record {
  rising = subst AreOutcomesRising (sym here) (put_rising (map found_outcome list) (found_outcome f) k rising at);
  has = subst (λ (os : List FinalOutcome). Contains os (final_outcome_of p run)) (sym here) (subst (λ (o : FinalOutcome). Contains (insert (map found_outcome list) k (found_outcome f)) o) same (insert_has (map found_outcome list) k (found_outcome f) at.within));
  kept = λ o c. subst (λ (os : List FinalOutcome). Contains os o) (sym here) (insert_keeps (map found_outcome list) k (found_outcome f) o at.within c);
  each = subst (AllByRecursion (λ g. Contains list g ⊎ IsNew p run list g)) (sym more)
      (all_insert (λ g. Contains list g ⊎ IsNew p run list g) list k f (inr (record { journal = journal; outcome = same; other = not_there (map found_outcome list) (found_outcome f) k at })) (all_old p run list list (all_contained list)));
}
  where
    here : map found_outcome new ≡ insert (map found_outcome list) k (found_outcome f)
    here = ap (map found_outcome) more ∙ map_insert found_outcome list k f
