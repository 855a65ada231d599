use Rattle.forwarding.proofs.BestLaws.{best_is_least, least_is_one}
use Rattle.forwarding.proofs.walk.Forwarding.best.Goals as goal

pub returns : goal.returns
returns c = least_is_one _ c.args.x _ _ c.best.ensures (best_is_least _ c.args.x)
