-- Laws of forwarding.
use Rattle.std.specs.Prelude.{◌≡◌}
use Rattle.il_syntax.specs.declared.program.Function.{Function}
use Rattle.il_syntax.specs.WellFormed.{Declared, IsFunctionWellFormed}
use Rattle.flow_facts.specs.declared.level.Kind.{Kind}
use Rattle.forwarding.specs.Forwarded.{IsForwarded}

-- A function is forwarded in one way.
abbrev pub ForwardedIsOne : Type 0
ForwardedIsOne = (kind : Kind) (f g h : Function) → IsForwarded kind f g → IsForwarded kind f h → g ≡ h

-- What fits a program before fits it after.
abbrev pub ForwardedFits : Type 0
ForwardedFits = (kind : Kind) (d : Declared) (f g : Function) → IsFunctionWellFormed d f → IsForwarded kind f g → IsFunctionWellFormed d g
