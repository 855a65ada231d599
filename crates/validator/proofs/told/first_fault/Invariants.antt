use Rattle.std.proofs.Common.{◌≡◌, ℕ, ◌<◌, None}
use Rattle.validator.specs.Told.{fault_at}
use Rattle.validator.proofs.told.first_fault.Given as goal

abbrev pub invariant-loop-site : goal.invariant-loop-site
invariant-loop-site l = (other : ℕ) → other < l.site → fault_at l.table l.parts l.needs l.pending other ≡ None
