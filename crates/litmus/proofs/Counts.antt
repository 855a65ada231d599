-- The counts of a table's rows sum to the number of its runs: each run has the outcome of one first run.
use Rattle.std.proofs.Common.{◌≡◌, ℕ, zero, suc, ◌+◌, ◌<◌, ◌≤◌, Bool, true, false, not, cond, ◌||◌, List, [], ◌∷◌, ◌++◌, length, take, get_or, refl, sym, ap, ap₂, subst, ◌∙◌, arith}
use Rattle.std.specs.List.{AllZip, count_by, sum_by, list_any}
use Rattle.std.proofs.lemmas.Bool.{or_left, or_right, false_from_ne_true, true≢false}
use Rattle.std.proofs.lemmas.List.{append_assoc, take_all}
use Rattle.std.proofs.lemmas.List.Folds.{list_any-append, list_any_more}
use Rattle.std.proofs.lemmas.List.Sums.{sum_by-cons}
use Rattle.il_syntax.specs.declared.program.Program.{Program}
use Rattle.litmus.specs.Outcome.{EndAndOutputs, same_outcome}
use Rattle.litmus.specs.Table.{Run, IsTableRow, IsOutcomeTable, run_at, same_end, is_first, firsts}
use Rattle.litmus.specs.declared.table.Sample.{Sample}
use Rattle.litmus.proofs.Outcomes.{told, same_is}
use Rattle.litmus.proofs.Tables.{firsts_below, firsts_more}

abbrev total : {X : Type 0} → (X → ℕ) → List X → ℕ
total f [] = 0
total f (x ∷ xs) = f x + total f xs

abbrev one_if : Bool → ℕ
one_if b = cond b 1 0

sum_total : {X : Type 0} (f : X → ℕ) (xs : List X) → sum_by f xs ≡ total f xs
sum_total f [] = refl
sum_total f (x ∷ xs) = sum_by-cons f x xs ∙ ap (λ (n : ℕ). f x + n) (sum_total f xs)

total_zero : {X : Type 0} (xs : List X) → total (λ (x : X). 0) xs ≡ 0
total_zero [] = refl
total_zero (x ∷ xs) = omega (arith, total_zero xs)

total_append : {X : Type 0} (f : X → ℕ) (xs ys : List X) → total f (xs ++ ys) ≡ total f xs + total f ys
total_append f [] ys = omega arith
total_append f (x ∷ xs) ys = omega (arith, total_append f xs ys)

total_plus : {X : Type 0} (f g : X → ℕ) (xs : List X) → total (λ x. f x + g x) xs ≡ total f xs + total g xs
total_plus f g [] = refl
total_plus f g (x ∷ xs) = omega (arith, total_plus f g xs)

exchanged : {X Y : Type 0} (f : X → Y → ℕ) (xs : List X) (ys : List Y) → total (λ x. total (f x) ys) xs ≡ total (λ y. total (λ x. f x y) xs) ys
exchanged f [] ys = sym (total_zero ys)
exchanged f (x ∷ xs) ys = ap (λ (n : ℕ). total (f x) ys + n) (exchanged f xs ys) ∙ sym (total_plus (f x) (λ y. total (λ x. f x y) xs) ys)

-- how many of the first runs below run n have the outcome of r
abbrev hits : List Run → ℕ → Run → ℕ
hits runs n r = total (λ k. one_if (same_end (run_at runs k) r)) (firsts_below runs n)

-- whether run n is one of them
abbrev own : List Run → ℕ → Run → ℕ
own runs n r = total (λ i. one_if (same_end (run_at runs i) r)) (cond (is_first runs n) (n ∷ []) [])

same_back : (a b : Run) → same_end a b ≡ true → same_end b a ≡ true
same_back a b e = subst (λ (o : EndAndOutputs). same_outcome o a.outcome ≡ true) (told a.outcome b.outcome e) (same_is a.outcome)

or_none : (a b : Bool) → b ≡ false → (a || b) ≡ a
or_none false false e = refl
or_none true false e = refl
or_none a true e = absurd (true≢false e)

one_more_hit : (runs : List Run) (n : ℕ) (r : Run) → suc n ≤ length runs → hits runs n r ≡ one_if (list_any (same_end r) (take n runs))
    → hits runs (suc n) r ≡ one_if (list_any (same_end r) (take (suc n) runs))
one_more_hit runs n r within before = add ∙ step (same_end r (run_at runs n)) refl
  where
    plus : n + 1 ≡ suc n
    plus = omega arith

    any_more : list_any (same_end r) (take (suc n) runs) ≡ (list_any (same_end r) (take n runs) || same_end r (run_at runs n))
    any_more = ap (λ (m : ℕ). list_any (same_end r) (take m runs)) (sym plus) ∙ list_any_more (same_end r) runs n _ (omega (arith, within))

    add : hits runs (suc n) r ≡ hits runs n r + own runs n r
    add =
        ap (λ (m : ℕ). hits runs m r) (sym plus) ∙ ap (total (λ i. one_if (same_end (run_at runs i) r))) (firsts_more runs n)
        ∙ total_append (λ i. one_if (same_end (run_at runs i) r)) (firsts_below runs n) (cond (is_first runs n) (n ∷ []) [])

    none : same_end r (run_at runs n) ≡ false → (b : Bool) → total (λ i. one_if (same_end (run_at runs i) r)) (cond b (n ∷ []) []) ≡ 0
    none e false = refl
    none e true =
        let back : same_end (run_at runs n) r ≡ false = false_from_ne_true (same_end (run_at runs n) r) (λ t. true≢false (sym (same_back (run_at runs n) r t) ∙ e)) in
        ap (λ (b : Bool). one_if b + 0) back

    one : same_end r (run_at runs n) ≡ true → (a : Bool) → list_any (same_end (run_at runs n)) (take n runs) ≡ a → own runs n r ≡ one_if (not a)
    one e false q =
        let back : same_end (run_at runs n) r ≡ true = same_back r (run_at runs n) e in
        ap (λ (b : Bool). total (λ i. one_if (same_end (run_at runs i) r)) (cond (not b) (n ∷ []) [])) q ∙ ap (λ (b : Bool). one_if b + 0) back
    one e true q = ap (λ (b : Bool). total (λ i. one_if (same_end (run_at runs i) r)) (cond (not b) (n ∷ []) [])) q

    whole : (a : Bool) → one_if a + one_if (not a) ≡ 1
    whole false = refl
    whole true = refl

    step : (b : Bool) → same_end r (run_at runs n) ≡ b → hits runs n r + own runs n r ≡ one_if (list_any (same_end r) (take (suc n) runs))
    step false e =
        let rest : (list_any (same_end r) (take n runs) || same_end r (run_at runs n)) ≡ list_any (same_end r) (take n runs) = or_none (list_any (same_end r) (take n runs)) (same_end r (run_at runs n)) e in
        let last : own runs n r ≡ 0 = none e (is_first runs n) in
        let kept : hits runs n r + own runs n r ≡ hits runs n r = omega (arith, last) in
        kept ∙ before ∙ ap one_if (sym rest) ∙ ap one_if (sym any_more)
    step true e =
        let outcome : r.outcome ≡ (run_at runs n).outcome = told r.outcome (run_at runs n).outcome e in
        let moved : list_any (same_end r) (take n runs) ≡ list_any (same_end (run_at runs n)) (take n runs) =
        ap (λ (o : EndAndOutputs). list_any (λ (x : Run). same_outcome o x.outcome) (take n runs)) outcome in
        let found : (list_any (same_end r) (take n runs) || same_end r (run_at runs n)) ≡ true = or_right (list_any (same_end r) (take n runs)) (same_end r (run_at runs n)) e in
        let front : hits runs n r ≡ one_if (list_any (same_end (run_at runs n)) (take n runs)) = before ∙ ap one_if moved in
        let last : own runs n r ≡ one_if (not (list_any (same_end (run_at runs n)) (take n runs))) = one e (list_any (same_end (run_at runs n)) (take n runs)) refl in
        let sum : hits runs n r + own runs n r ≡ 1 = ap₂ (λ (x y : ℕ). x + y) front last ∙ whole (list_any (same_end (run_at runs n)) (take n runs)) in
        sum ∙ ap one_if (sym found) ∙ ap one_if (sym any_more)

-- among the runs below n there is one first run with the outcome, where a run has it
one_hit : (runs : List Run) (n : ℕ) (r : Run) → n ≤ length runs → hits runs n r ≡ one_if (list_any (same_end r) (take n runs))
one_hit runs zero r within = refl
one_hit runs (suc n) r within = one_more_hit runs n r within (one_hit runs n r (omega (arith, within)))

-- each run has the outcome of a run
each_has_one : (front runs : List Run) → total (λ r. one_if (list_any (same_end r) (front ++ runs))) runs ≡ length runs
each_has_one front [] = refl
each_has_one front (r ∷ runs) =
    let here : list_any (same_end r) (front ++ r ∷ runs) ≡ true =
    list_any-append (same_end r) front (r ∷ runs) ∙ or_right (list_any (same_end r) front) (list_any (same_end r) (r ∷ runs)) (or_left (same_end r r) (list_any (same_end r) runs) (same_is r.outcome)) in
    let rest : total (λ q. one_if (list_any (same_end q) (front ++ r ∷ runs))) runs ≡ length runs =
    ap (λ (xs : List Run). total (λ q. one_if (list_any (same_end q) xs)) runs) (sym (append_assoc front (r ∷ []) runs)) ∙ each_has_one (front ++ r ∷ []) runs in
    let head : one_if (list_any (same_end r) (front ++ r ∷ runs)) ≡ 1 = ap one_if here in
    omega (arith, head, rest)

total_same : {X : Type 0} (f g : X → ℕ) (xs : List X) → ((x : X) → f x ≡ g x) → total f xs ≡ total g xs
total_same f g [] h = refl
total_same f g (x ∷ xs) h = ap₂ (λ (a b : ℕ). a + b) (h x) (total_same f g xs h)

counts_are : (seed : ℕ) (runs : List Run) (ks : List ℕ) (samples : List Sample) → AllZip (IsTableRow seed runs) ks samples
    → total (λ (s : Sample). s.count) samples ≡ total (λ k. total (λ r. one_if (same_end (run_at runs k) r)) runs) ks
counts_are seed runs [] [] h = refl
counts_are seed runs [] (s ∷ samples) h = absurd h
counts_are seed runs (k ∷ ks) [] h = absurd h
counts_are seed runs (k ∷ ks) (s ∷ samples) h =
    ap₂ (λ (x y : ℕ). x + y) (h.0.count ∙ sum_total (λ r. one_if (same_end (run_at runs k) r)) runs) (counts_are seed runs ks samples h.1)

pub counts_sum : (p : Program) (seed seeds steps : ℕ) (samples : List Sample) → IsOutcomeTable p seed seeds steps samples → sum_by (λ (s : Sample). s.count) samples ≡ seeds
counts_sum p seed seeds steps samples t =
    let runs = t.runs in
    let whole : take (length runs) runs ≡ runs = take_all (length runs) runs (omega arith) in
    sum_total (λ (s : Sample). s.count) samples ∙ counts_are seed runs (firsts runs) samples t.rows
    ∙ exchanged (λ (k : ℕ) (r : Run). one_if (same_end (run_at runs k) r)) (firsts runs) runs
    ∙ total_same (λ (r : Run). hits runs (length runs) r) (λ (r : Run). one_if (list_any (same_end r) runs)) runs
    (λ (r : Run). one_hit runs (length runs) r (omega arith) ∙ ap (λ (xs : List Run). one_if (list_any (same_end r) xs)) whole)
    ∙ each_has_one [] runs ∙ t.count
