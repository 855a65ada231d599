use Rattle.forwarding.proofs.ForwardLaws.{forwarded_by_table}
use Rattle.forwarding.proofs.walk.forward.Goals as goal

pub returns : goal.returns
returns g c = forwarded_by_table c.args.kind c.args.f.now c.in_ok-rewritten.field-0 _ c.in_ok-table.ensures c.in_ok-rewritten.ensures
