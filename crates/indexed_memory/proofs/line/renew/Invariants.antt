use Rattle.std.proofs.Common.{◌≡◌, ◌+◌, ◌-◌, ◌*◌, ◌<◌, ◌≤◌, ℕ, length, get_or, vec_capacity}
use Rattle.indexed_memory.specs.Sorted.{run_of, no_run}
use Rattle.indexed_memory.proofs.line.renew.Given as goal

abbrev pub invariant-loop-runs : goal.invariant-loop-runs
invariant-loop-runs l = record {
  known : 256 * length l.runs.items < length l.places;
  counted : (r : ℕ) → r < length l.runs.items → get_or l.runs.items r no_run ≡ run_of l.pool l.places r;
  room : length l.places ≤ 256 * vec_capacity l.runs + 256;
  kept : vec_capacity l.fn.runs ≤ vec_capacity l.runs;
}

abbrev pub decreases-loop-runs : goal.decreases-loop-runs
decreases-loop-runs l = length l.places - length l.runs.items
