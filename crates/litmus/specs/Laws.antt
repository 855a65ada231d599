-- What the definitions promise.
use Rattle.std.specs.Prelude.{◌≡◌, ◌↔◌, ℕ, ◌+◌, ◌<◌, ◌≤◌, true, false, List, length, get_or}
use Rattle.std.specs.List.{All, sum_by}
use Rattle.values_undef.specs.Journal.{ending_in}
use Rattle.values_undef.specs.declared.journal.Entry.{Entry}
use Rattle.il_syntax.specs.declared.program.Program.{Program}
use Rattle.litmus.specs.Outcome.{EndAndOutputs, same_outcome}
use Rattle.litmus.specs.Sampled.{IsSampled}
use Rattle.litmus.specs.Table.{IsOutcomeTable}
use Rattle.litmus.specs.declared.table.Sample.{Sample}

-- the test of outcomes is equality
abbrev pub OutcomesAreToldApart : Type 0
OutcomesAreToldApart = (a b : EndAndOutputs) → (same_outcome a b ≡ true) ↔ (a ≡ b)

-- a seed has one run
abbrev pub SeedsHaveOneRun : Type 0
SeedsHaveOneRun = (p : Program) (seed steps : ℕ) (one other : List Entry) → IsSampled p seed steps one → IsSampled p seed steps other → one ≡ other

-- so many seeds have one table
abbrev pub SeedsHaveOneTable : Type 0
SeedsHaveOneTable = (p : Program) (seed seeds steps : ℕ) (one other : List Sample) → IsOutcomeTable p seed seeds steps one → IsOutcomeTable p seed seeds steps other → one ≡ other

-- the counts of the rows are those of all seeds
abbrev pub CountsSumToTheSeeds : Type 0
CountsSumToTheSeeds = (p : Program) (seed seeds steps : ℕ) (samples : List Sample) → IsOutcomeTable p seed seeds steps samples → sum_by (λ s. s.count) samples ≡ seeds

-- a row's journal is the run of the seed that it names, which is one of the seeds, with its ending
pub record IsRunOfSeeds (p : Program) (seed seeds steps : ℕ) (s : Sample) : Type 0 where
  pub from : seed ≤ s.seed
  pub below : s.seed < seed + seeds
  pub sampled : IsSampled p s.seed steps s.journal
  pub ending : s.ending ≡ ending_in s.journal (length p.threads)

abbrev pub RowsAreRuns : Type 0
RowsAreRuns = (p : Program) (seed seeds steps : ℕ) (samples : List Sample) → IsOutcomeTable p seed seeds steps samples → All (IsRunOfSeeds p seed seeds steps) samples
