-- Laws of functions without their dead stores.
use Rattle.std.specs.Prelude.{◌≡◌}
use Rattle.il_syntax.specs.declared.program.Function.{Function}
use Rattle.il_syntax.specs.WellFormed.{Declared, IsFunctionWellFormed}
use Rattle.dead_store.specs.Undead.{IsUndead}

-- A function has one such function.
abbrev pub UndeadIsOne : Type 0
UndeadIsOne = (f g h : Function) → IsUndead f g → IsUndead f h → g ≡ h

-- It fits wherever the function fits.
abbrev pub UndeadFits : Type 0
UndeadFits = (d : Declared) (f g : Function) → IsFunctionWellFormed d f → IsUndead f g → IsFunctionWellFormed d g
