-- The examples, by the walk that finds the least.
use Rattle.std.proofs.Common.{◌≡◌, refl}
use Rattle.il_paths.specs.Tree.{Tree}
use Rattle.flow_facts.specs.declared.level.Kind.TheVariants.{Stores, Both}
use Rattle.flow_facts.specs.declared.level.Level.{Level}
use Rattle.flow_facts.specs.declared.level.Level.TheVariants.{Nothing, Held, Fresh}
use Rattle.flow_summary.specs.declared.effect.Effect.{Effect}
use Rattle.flow_summary.specs.Examples.{one, HasEffect, releasing, turning, branching, with_release, fenced_twice, fenced_once, storing_loop, LevelsByExample}
use Rattle.flow_summary.specs.Effects.{at_level, through}
use Rattle.flow_summary.proofs.EffectLaws.{effect_is, levels_least}

abbrev found : Tree → Effect
found t = record { nothing = through Both 0 one t Nothing; held = through Both 0 one t Held; fresh = through Both 0 one t Fresh }

found_so : (t : Tree) (level : Level) → at_level (found t) level ≡ through Both 0 one t level
found_so t Nothing = refl
found_so t Held = refl
found_so t Fresh = refl

effect_by : (t : Tree) → HasEffect t (through Both 0 one t Nothing) (through Both 0 one t Held) (through Both 0 one t Fresh)
effect_by t = effect_is Both 0 one 0 t (found t) (found_so t)

pub levels_by_example : LevelsByExample
levels_by_example =
    (effect_by releasing, effect_by turning, effect_by branching, (levels_least Stores 0 one with_release, levels_least Stores 0 one fenced_twice, levels_least Stores 0 one fenced_once), levels_least Both 0 one storing_loop)
