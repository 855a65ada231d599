-- What the walk from the end keeps: whether a location is overwritten first, from whether it is so after a
-- statement. No public clause cites this file.
use Rattle.std.specs.Prelude.{ℕ, Bool, true, false, if◌then◌else◌}
use Rattle.il_syntax.specs.Statements.{Head}
use Rattle.il_paths.specs.Code.{Visit}
use Rattle.dead_store.specs.Overwritten.{stores_to, needs}

abbrev pub overwritten_change : ℕ → Head → Bool → Bool
overwritten_change x head later = if stores_to x head then true else (if needs x head then false else later)

abbrev pub overwritten_step : ℕ → Visit → Bool → Bool
overwritten_step x v later = overwritten_change x v.head later
