-- The table of the outcomes of some runs.
use Rattle.std.specs.Prelude.{◌≡◌, ℕ, ◌+◌, ◌<◌, not, Bool, List, [], length, take, get_or}
use Rattle.std.specs.List.{AllZip, count_by, filter, list_any, range_with_len}
use Rattle.values_undef.specs.declared.journal.Ending.{Ending}
use Rattle.values_undef.specs.declared.journal.Ending.TheVariants.{Spent}
use Rattle.values_undef.specs.declared.journal.Entry.{Entry}
use Rattle.il_syntax.specs.declared.program.Program.{Program}
use Rattle.litmus.specs.Outcome.{EndAndOutputs, outcome_in, same_outcome}
use Rattle.litmus.specs.Sampled.{IsSampled}
use Rattle.litmus.specs.declared.table.Sample.{Sample}

-- a run with what it comes to
pub record Run : Type 0 where
  pub journal : List Entry
  pub outcome : EndAndOutputs

-- what stands for a run that is not there
abbrev pub absent_run : Run
absent_run = record { journal = []; outcome = record { ending = Spent; outputs = [] } }

abbrev pub run_at : List Run → ℕ → Run
run_at runs k = get_or runs k absent_run

-- two runs come to one outcome
abbrev pub same_end : Run → Run → Bool
same_end a b = same_outcome a.outcome b.outcome

-- run k is the first with its outcome
abbrev pub is_first : List Run → ℕ → Bool
is_first runs k = not (list_any (same_end (run_at runs k)) (take k runs))

-- the runs that are the first with their outcomes
abbrev pub firsts : List Run → List ℕ
firsts runs = filter (is_first runs) (range_with_len 0 (length runs))

-- the row of run k, where the runs are those of the seeds from `seed` on: its seed, how many runs have its outcome, and its journal
pub record IsTableRow (seed : ℕ) (runs : List Run) (k : ℕ) (s : Sample) : Type 0 where
  pub seed_is : s.seed ≡ seed + k
  pub count : s.count ≡ count_by (same_end (run_at runs k)) runs
  pub journal : s.journal ≡ (run_at runs k).journal
  pub ending : s.ending ≡ (run_at runs k).outcome.ending

-- run k is the run of a seed, with its outcome
pub record IsSeedRun (p : Program) (seed steps : ℕ) (r : Run) : Type 0 where
  pub sampled : IsSampled p seed steps r.journal
  pub outcome : r.outcome ≡ outcome_in r.journal (length p.threads)

-- The table of so many seeds, from `seed` on: of the runs of the seeds, each that is the first with its outcome has its row, in
-- the order of the seeds. So each outcome has one row, which names its least seed.
pub record IsOutcomeTable (p : Program) (seed seeds steps : ℕ) (samples : List Sample) : Type 0 where
  pub runs : List Run
  pub count : length runs ≡ seeds
  pub each : (k : ℕ) → k < seeds → IsSeedRun p (seed + k) steps (run_at runs k)
  pub rows : AllZip (IsTableRow seed runs) (firsts runs) samples
