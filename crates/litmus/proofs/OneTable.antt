-- A seed has one run, and so many seeds have one table.
use Rattle.std.proofs.Common.{◌≡◌, ℕ, ◌+◌, ◌<◌, List, [], ◌∷◌, length, get_or, refl, sym, ap, ap₂, subst, ◌∙◌, arith}
use Rattle.std.specs.List.{AllZip}
use Rattle.std.proofs.lemmas.List.{ext_get_or}
use Rattle.values_undef.specs.declared.journal.Entry.{Entry}
use Rattle.il_syntax.specs.declared.program.Program.{Program}
use Rattle.chooser.specs.Draws.{generators, drawn_by, after_draw_by}
use Rattle.walker.proofs.Callers.{determined}
use Rattle.litmus.specs.Outcome.{EndAndOutputs, outcome_in}
use Rattle.litmus.specs.Sampled.{IsSampled, drawn_order}
use Rattle.litmus.specs.Table.{Run, IsTableRow, IsSeedRun, IsOutcomeTable, firsts, absent_run, run_at}
use Rattle.litmus.specs.declared.table.Sample.{Sample}
use Rattle.litmus.proofs.DrawnRuns.{drawn_chosen}

pub one_run : (p : Program) (seed steps : ℕ) (one other : List Entry) → IsSampled p seed steps one → IsSampled p seed steps other → one ≡ other
one_run p seed steps one other x y =
    determined drawn_by after_draw_by p (drawn_order seed (length p.threads)) steps (generators seed (length p.threads)) one other x.run x.complete x.turns (drawn_chosen p one seed x.run x.drawn)
    y.run y.complete y.turns (drawn_chosen p other seed y.run y.drawn)

same_run : (p : Program) (seed steps : ℕ) (a b : Run) → IsSeedRun p seed steps a → IsSeedRun p seed steps b → a ≡ b
same_run p seed steps a b x y =
    let journal = one_run p seed steps a.journal b.journal x.sampled y.sampled in
    let outcome : a.outcome ≡ b.outcome = x.outcome ∙ ap (λ (j : List Entry). outcome_in j (length p.threads)) journal ∙ sym y.outcome in
    λ i. record { journal = journal i; outcome = outcome i }

same_row : (seed : ℕ) (runs : List Run) (k : ℕ) (a b : Sample) → IsTableRow seed runs k a → IsTableRow seed runs k b → a ≡ b
same_row seed runs k a b x y =
    let seeds = x.seed_is ∙ sym y.seed_is in
    let counts = x.count ∙ sym y.count in
    let journals = x.journal ∙ sym y.journal in
    let endings = x.ending ∙ sym y.ending in
    λ i. record { seed = seeds i; count = counts i; journal = journals i; ending = endings i }

same_rows : (seed : ℕ) (runs : List Run) (ks : List ℕ) (one other : List Sample) → AllZip (IsTableRow seed runs) ks one → AllZip (IsTableRow seed runs) ks other → one ≡ other
same_rows seed runs [] [] [] h l = refl
same_rows seed runs [] [] (s ∷ other) h l = absurd l
same_rows seed runs [] (r ∷ one) other h l = absurd h
same_rows seed runs (k ∷ ks) [] other h l = absurd h
same_rows seed runs (k ∷ ks) (r ∷ one) [] h l = absurd l
same_rows seed runs (k ∷ ks) (r ∷ one) (s ∷ other) h l = ap₂ (λ (x : Sample) (xs : List Sample). x ∷ xs) (same_row seed runs k r s h.0 l.0) (same_rows seed runs ks one other h.1 l.1)

pub one_table : (p : Program) (seed seeds steps : ℕ) (one other : List Sample) → IsOutcomeTable p seed seeds steps one → IsOutcomeTable p seed seeds steps other → one ≡ other
one_table p seed seeds steps one other x y =
    let runs : x.runs ≡ y.runs =
    ext_get_or absent_run x.runs y.runs (x.count ∙ sym y.count) (λ k lt.
    let below : k < seeds = omega (arith, lt, x.count) in
    same_run p (seed + k) steps (run_at x.runs k) (run_at y.runs k) (x.each k below) (y.each k below)) in
    same_rows seed y.runs (firsts y.runs) one other (subst (λ (rs : List Run). AllZip (IsTableRow seed rs) (firsts rs) one) runs x.rows) y.rows
