-- Laws of tidied functions.
use Rattle.std.specs.Prelude.{◌≡◌, ◌↔◌}
use Rattle.il_syntax.specs.declared.program.Function.{Function}
use Rattle.il_syntax.specs.WellFormed.{Declared, IsFunctionWellFormed}
use Rattle.tidy.specs.Tidied.{IsTidied}
use Rattle.tidy.specs.Accepts.{TidyAccepts}
use Rattle.tidy.specs.Judged.{IsTidiness}
use Rattle.tidy.specs.declared.judging.Tidiness.{Tidiness}
use Rattle.tidy.specs.declared.judging.Tidiness.TheVariants.{Yes}

-- a function accepts what it is tidied to
abbrev pub TidiedIsAccepted : Type 0
TidiedIsAccepted = (f g : Function) → IsTidied f g → TidyAccepts f g

-- and it fits wherever the function fits
abbrev pub TidiedFits : Type 0
TidiedFits = (d : Declared) (f g : Function) → IsFunctionWellFormed d f → IsTidied f g → IsFunctionWellFormed d g

-- two functions have one answer, which is yes exactly where the one accepts the other
abbrev pub TidinessIsOne : Type 0
TidinessIsOne = (f g : Function) (one other : Tidiness) → IsTidiness f g one → IsTidiness f g other → one ≡ other

abbrev pub YesIsAccepted : Type 0
YesIsAccepted = (f g : Function) (answer : Tidiness) → IsTidiness f g answer → (answer ≡ Yes) ↔ TidyAccepts f g

-- it is yes of what a function is tidied to
abbrev pub TidiedIsYes : Type 0
TidiedIsYes = (f g : Function) (answer : Tidiness) → IsTidied f g → IsTidiness f g answer → answer ≡ Yes
