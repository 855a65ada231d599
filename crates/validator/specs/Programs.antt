-- Whether the functions of one program may stand for those of another.
use Rattle.std.specs.Prelude.{ℕ, zero, suc, List, [], ◌∷◌}
use Rattle.std.specs.List.{AllZip}
use Rattle.il_syntax.specs.declared.program.Function.{Function}
use Rattle.il_syntax.specs.declared.program.Program.{Program}
use Rattle.validator.specs.declared.fault.Fault.{Fault}
use Rattle.validator.specs.declared.programs.Verdict.{Verdict}
use Rattle.validator.specs.declared.programs.Verdict.TheVariants.{OtherShape, Refused, Accepted}
use Rattle.validator.specs.Faults.{Accepts, IsFirstFault}
use Rattle.validator.specs.Shape.{SameShape}

-- one shape, and each function an accepted target of the source's
pub record AreAcceptedPrograms (source target : Program) : Type 0 where
  pub shape : SameShape source target
  pub functions : AllZip Accepts source.functions target.functions

-- This function of the targets is the first that its source doesn't accept, and at this site is its first fault.
abbrev pub IsFirstRefused : List Function → List Function → ℕ → ℕ → Fault → Type 0
IsFirstRefused [] gs k site why = ⊥
IsFirstRefused (f ∷ fs) [] k site why = ⊥
IsFirstRefused (f ∷ fs) (g ∷ gs) zero site why = IsFirstFault f g site why
IsFirstRefused (f ∷ fs) (g ∷ gs) (suc k) site why = Accepts f g × IsFirstRefused fs gs k site why

-- what is answered: the shape comes first, then the functions by their numbers
abbrev pub IsProgramVerdict : Program → Program → Verdict → Type 0
IsProgramVerdict source target OtherShape = SameShape source target → ⊥
IsProgramVerdict source target (Refused k site why) = SameShape source target × IsFirstRefused source.functions target.functions k site why
IsProgramVerdict source target Accepted = AreAcceptedPrograms source target
