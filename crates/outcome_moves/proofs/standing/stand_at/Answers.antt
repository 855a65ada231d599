use Rattle.outcome_moves.proofs.Making.{none_spends}
use Rattle.outcome_moves.proofs.standing.stand_at.Goals as goal

pub stand-requires-clause-unspent : goal.stand-requires-clause-unspent
stand-requires-clause-unspent c = none_spends c.args.entries.now c.requires.run.stands.unspent
