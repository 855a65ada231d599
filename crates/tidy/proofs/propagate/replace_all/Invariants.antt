use Rattle.std.proofs.Common.{◌≡◌, map, take}
use Rattle.tidy.specs.Propagated.{propagated_atom}
use Rattle.tidy.specs.Least.{least_at}
use Rattle.tidy.proofs.propagate.replace_all.Given as goal

abbrev pub invariant-loop-a : goal.invariant-loop-a
invariant-loop-a l = l.new ≡ map (propagated_atom (least_at l.rows l.site)) (take l.a-index l.atoms)
