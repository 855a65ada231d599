use Rattle.std.proofs.Common.{◌≡◌, ◌≤◌}
use Rattle.std.specs.List.{range_with_len}
use Rattle.litmus.proofs.driver.seeds_from.Given as goal

abbrev pub invariant-loop-k : goal.invariant-loop-k
invariant-loop-k l = record { few : l.k ≤ l.seeds; list : l.list.items ≡ range_with_len l.seed l.k }
