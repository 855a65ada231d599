use Rattle.std.proofs.Common.{◌≤◌, length}
use Rattle.std.specs.List.{AllZip}
use Rattle.litmus.specs.Table.{IsTableRow}
use Rattle.litmus.proofs.Tables.{firsts_below}
use Rattle.litmus.proofs.table.table.Given as goal

abbrev pub invariant-loop-k : goal.invariant-loop-k
invariant-loop-k l = record { within : l.k ≤ length l.runs; rows : AllZip (IsTableRow l.seed l.runs) (firsts_below l.runs l.k) l.samples.items }
