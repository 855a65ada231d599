use Rattle.dead_store.proofs.UndeadLaws.{undead_is_one}
use Rattle.dead_store.proofs.laws.undead_is_one.Goals as goal

pub returns : goal.returns
returns c = undead_is_one
