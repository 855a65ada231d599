-- Which targets are accepted.
use Rattle.std.specs.Prelude.{◌≡◌, IsTrue}
use Rattle.il_syntax.specs.declared.program.Function.{Function}
use Rattle.il_syntax.specs.WellFormed.{Declared, function_numbers_exist}
use Rattle.validator.specs.Accepted.{Accepted}
use Rattle.validator.specs.Faults.{Accepts}

-- A target of its source's name that stands beside it, and on whose runs each turned load is known and each pending location
-- is settled in time, is accepted. Both are functions whose numbers exist, each in a program of its own. (That an accepted
-- target stands so is the validator's law.)
abbrev pub TargetsBesideAreAccepted : Type 0
TargetsBesideAreAccepted = (d e : Declared) (f g : Function) → IsTrue (function_numbers_exist d f) → IsTrue (function_numbers_exist e g) → g.name ≡ f.name → Accepted f g → Accepts f g
