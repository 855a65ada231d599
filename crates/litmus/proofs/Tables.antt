-- Rows that are made one after the other.
use Rattle.std.proofs.Common.{◌≡◌, ℕ, zero, suc, ◌+◌, ◌<◌, Bool, true, false, cond, List, [], ◌∷◌, ◌++◌, length, take, get_or, refl, sym, ap, subst, ◌∙◌, arith}
use Rattle.std.specs.List.{AllZip, filter, range_with_len}
use Rattle.std.proofs.lemmas.List.Elements.{filter-append}
use Rattle.std.proofs.lemmas.List.{append-nil}
use Rattle.il_syntax.specs.declared.program.Program.{Program}
use Rattle.litmus.specs.Table.{Run, IsTableRow, IsSeedRun, IsOutcomeTable, is_first, firsts, run_at}
use Rattle.litmus.specs.declared.table.Sample.{Sample}

-- the first runs below run n
abbrev pub firsts_below : List Run → ℕ → List ℕ
firsts_below runs n = filter (is_first runs) (range_with_len 0 n)

range_suc : (a n : ℕ) → range_with_len a (suc n) ≡ range_with_len a n ++ (a + n) ∷ []
range_suc a zero =
    let place : a ≡ a + 0 = omega arith in
    ap (λ (x : ℕ). x ∷ []) place
range_suc a (suc n) =
    let place : a + 1 + n ≡ a + suc n = omega arith in
    ap (λ (xs : List ℕ). a ∷ xs) (range_suc (a + 1) n ∙ ap (λ (x : ℕ). range_with_len (a + 1) n ++ x ∷ []) place)

pub range_more : (a n : ℕ) → range_with_len a (n + 1) ≡ range_with_len a n ++ (a + n) ∷ []
range_more a n =
    let plus : n + 1 ≡ suc n = omega arith in
    ap (range_with_len a) plus ∙ range_suc a n

pub range_from_zero : (n : ℕ) → range_with_len 0 (n + 1) ≡ range_with_len 0 n ++ n ∷ []
range_from_zero n =
    let place : 0 + n ≡ n = omega arith in
    range_more 0 n ∙ ap (λ (x : ℕ). range_with_len 0 n ++ x ∷ []) place

pub zip_append : {X Y : Type 0} (R : X → Y → Type 0) (xs us : List X) (ys vs : List Y) → AllZip R xs ys → AllZip R us vs → AllZip R (xs ++ us) (ys ++ vs)
zip_append R [] us [] vs h k = k
zip_append R [] us (y ∷ ys) vs h k = absurd h
zip_append R (x ∷ xs) us [] vs h k = absurd h
zip_append R (x ∷ xs) us (y ∷ ys) vs h k = (h.0, zip_append R xs us ys vs h.1 k)

pub firsts_more : (runs : List Run) (n : ℕ) → firsts_below runs (n + 1) ≡ firsts_below runs n ++ cond (is_first runs n) (n ∷ []) []
firsts_more runs n = ap (filter (is_first runs)) (range_from_zero n) ∙ filter-append (is_first runs) (range_with_len 0 n) (n ∷ [])

-- a run that isn't the first has no row
pub row_passed : (seed : ℕ) (runs : List Run) (n : ℕ) (samples : List Sample) → is_first runs n ≡ false → AllZip (IsTableRow seed runs) (firsts_below runs n) samples
    → AllZip (IsTableRow seed runs) (firsts_below runs (n + 1)) samples
row_passed seed runs n samples no_first h =
    let same : firsts_below runs n ++ cond false (n ∷ []) [] ≡ firsts_below runs n = append-nil (firsts_below runs n) in
    subst (λ (ks : List ℕ). AllZip (IsTableRow seed runs) ks samples) (sym (firsts_more runs n ∙ ap (λ (b : Bool). firsts_below runs n ++ cond b (n ∷ []) []) no_first ∙ same)) h

pub row_added : (seed : ℕ) (runs : List Run) (n : ℕ) (samples new : List Sample) (s : Sample) → is_first runs n ≡ true → AllZip (IsTableRow seed runs) (firsts_below runs n) samples → IsTableRow seed runs n s
    → new ≡ samples ++ s ∷ [] → AllZip (IsTableRow seed runs) (firsts_below runs (n + 1)) new
row_added seed runs n samples new s first h row pushed =
    subst (λ (ks : List ℕ). AllZip (IsTableRow seed runs) ks new) (sym (firsts_more runs n ∙ ap (λ (b : Bool). firsts_below runs n ++ cond b (n ∷ []) []) first))
    (subst (AllZip (IsTableRow seed runs) (firsts_below runs n ++ n ∷ [])) (sym pushed) (zip_append (IsTableRow seed runs) (firsts_below runs n) (n ∷ []) samples (s ∷ []) h (row, tt)))

seed_more : (p : Program) (seed n steps : ℕ) (r : Run) (runs : List Run) → IsSeedRun p seed steps r → (length runs ≡ n) × ((k : ℕ) → k < n → IsSeedRun p (seed + 1 + k) steps (run_at runs k))
    → (suc (length runs) ≡ suc n) × ((k : ℕ) → k < suc n → IsSeedRun p (seed + k) steps (run_at (r ∷ runs) k))
seed_more p seed n steps r runs first rest = (ap suc rest.0, go)
  where
    go : (k : ℕ) → k < suc n → IsSeedRun p (seed + k) steps (run_at (r ∷ runs) k)
    go zero lt =
        let place : seed ≡ seed + 0 = omega arith in
        subst (λ (s : ℕ). IsSeedRun p s steps r) place first
    go (suc k) lt =
        let place : seed + 1 + k ≡ seed + suc k = omega arith in
        subst (λ (s : ℕ). IsSeedRun p s steps (run_at runs k)) place (rest.1 k (omega (arith, lt)))

-- the runs of the seeds, by number
pub each_seed : (p : Program) (seed seeds steps : ℕ) (runs : List Run) → AllZip (λ (s : ℕ) (r : Run). IsSeedRun p s steps r) (range_with_len seed seeds) runs
    → (length runs ≡ seeds) × ((k : ℕ) → k < seeds → IsSeedRun p (seed + k) steps (run_at runs k))
each_seed p seed zero steps [] h = (refl, λ k lt. absurd (omega (arith, lt)))
each_seed p seed zero steps (r ∷ runs) h = absurd h
each_seed p seed (suc n) steps [] h = absurd h
each_seed p seed (suc n) steps (r ∷ runs) h = seed_more p seed n steps r runs h.0 (each_seed p (seed + 1) n steps runs h.1)

pub table_of : (p : Program) (seed seeds steps : ℕ) (runs : List Run) (samples : List Sample) → AllZip (λ (s : ℕ) (r : Run). IsSeedRun p s steps r) (range_with_len seed seeds) runs
    → AllZip (IsTableRow seed runs) (firsts runs) samples → IsOutcomeTable p seed seeds steps samples
table_of p seed seeds steps runs samples h rows =
    let each = each_seed p seed seeds steps runs h in
    record { runs = runs; count = each.0; each = each.1; rows = rows }
