-- Each row of a table is a run of one of the seeds.
use Rattle.std.proofs.Common.{◌≡◌, ℕ, ◌+◌, ◌<◌, ◌≤◌, List, [], ◌∷◌, length, get_or, refl, sym, ap, subst, ◌∙◌, arith}
use Rattle.std.specs.List.{All, AllZip, range_with_len}
use Rattle.std.proofs.lemmas.List.Elements.{All-nil, All-cons, All-head, All-tail, All-filter, All-from_get_or}
use Rattle.std.proofs.lemmas.List.FromFn.{get_or-range_with_len, length-range_with_len}
use Rattle.values_undef.specs.declared.journal.Ending.{Ending}
use Rattle.values_undef.specs.Journal.{ending_in}
use Rattle.values_undef.specs.declared.journal.Entry.{Entry}
use Rattle.il_syntax.specs.declared.program.Program.{Program}
use Rattle.litmus.specs.Laws.{IsRunOfSeeds}
use Rattle.litmus.specs.Outcome.{EndAndOutputs}
use Rattle.litmus.specs.Sampled.{IsSampled}
use Rattle.litmus.specs.Table.{Run, IsTableRow, IsOutcomeTable, is_first, firsts, run_at}
use Rattle.litmus.specs.declared.table.Sample.{Sample}

zip_all : (R : ℕ → Sample → Type 0) (Q : Sample → Type 0) (n : ℕ) (ks : List ℕ) (samples : List Sample) → AllZip R ks samples → All (λ k. k < n) ks
    → ((k : ℕ) (s : Sample) → k < n → R k s → Q s) → All Q samples
zip_all R Q n [] [] h below f = All-nil Q
zip_all R Q n [] (s ∷ samples) h below f = absurd h
zip_all R Q n (k ∷ ks) [] h below f = absurd h
zip_all R Q n (k ∷ ks) (s ∷ samples) h below f =
    All-cons Q s samples (f k s (All-head (λ k. k < n) k ks below) h.0) (zip_all R Q n ks samples h.1 (All-tail (λ k. k < n) k ks below) f)

range_below : (n : ℕ) → All (λ k. k < n) (range_with_len 0 n)
range_below n = All-from_get_or (λ k. k < n) (range_with_len 0 n) 0 (λ i lt.
    let below : i < n = omega (arith, lt, length-range_with_len 0 n) in
    let is = get_or-range_with_len 0 n i 0 below in
    omega (arith, is, below))

pub rows_are_runs : (p : Program) (seed seeds steps : ℕ) (samples : List Sample) → IsOutcomeTable p seed seeds steps samples → All (IsRunOfSeeds p seed seeds steps) samples
rows_are_runs p seed seeds steps samples t =
    zip_all (IsTableRow seed t.runs) (IsRunOfSeeds p seed seeds steps) (length t.runs) (firsts t.runs) samples t.rows (All-filter (is_first t.runs) (λ k. k < length t.runs) (range_with_len 0 (length t.runs)) (range_below (length t.runs)))
    (λ k s lt row.
    let below : k < seeds = omega (arith, lt, t.count) in
    let of = t.each k below in
    let journal : (run_at t.runs k).journal ≡ s.journal = sym row.journal in
    record {
      from = omega (arith, row.seed_is);
      below = omega (arith, row.seed_is, below);
      sampled = subst (λ (n : ℕ). IsSampled p n steps s.journal) (sym row.seed_is) (subst (IsSampled p (seed + k) steps) journal of.sampled);
      ending = row.ending ∙ ap (λ (o : EndAndOutputs). o.ending) of.outcome ∙ ap (λ (j : List Entry). ending_in j (length p.threads)) journal;
    })
