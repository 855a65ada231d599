use Rattle.std.proofs.Common.{◌≡◌, drop}
use Rattle.flow_facts.specs.Rows.{higher, level_in}
use Rattle.flow_facts.proofs.known.level_in.Given as goal

abbrev pub invariant-loop-known : goal.invariant-loop-known
invariant-loop-known l = higher l.level (level_in (drop l.known-index l.row) l.x l.a) ≡ level_in l.row l.x l.a
