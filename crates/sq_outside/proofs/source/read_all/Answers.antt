use Rattle.std.proofs.KnownBytes.{Consumes-trans}
use Rattle.sq_outside.proofs.source.read_all.Goals as goal

pub returns-then-is_err-clause-prefix : goal.returns-then-is_err-clause-prefix
returns-then-is_err-clause-prefix g c = (_, Consumes-trans _ _ _ _ _ c.loop-turn.invariant.taken c.in-Ok.ensures.bytes.0)
