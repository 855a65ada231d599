use Rattle.std.proofs.Common.{ℕ, [], get_or}
use Rattle.location_sets.specs.Sets.{has}
use Rattle.dead_store.proofs.drop.drop_dead_stores.Goals as goal

pub returns : goal.returns
returns c =
    let sets = c.in_ok-sets.sets in
    record { dead = λ (site x : ℕ). has x (get_or sets site []); overwritten = c.in_ok-sets.ensures; changed = c.in_ok-new.ensures }
