-- The programs that run in the place of the one that was given.
use Rattle.std.specs.Prelude.{◌≡◌}
use Rattle.il_syntax.specs.declared.program.Program.{Program}
use Rattle.il_syntax.specs.WellFormed.{IsWellFormed}
use Rattle.pass_chain.specs.declared.chains.ProgramChain.{ProgramChain}
use Rattle.pass_chain.specs.Chain.{IsOptAll}
use Rattle.simulation.specs.Chain.{AreAcceptedTargets}
use Rattle.tidy.specs.Programs.{IsTidiedProgram}
use Rattle.lift_tidy.specs.Lifted.{IsTidyTarget}

-- the target of the passes: the last program of their chain
abbrev pub target_program : ProgramChain → Program
target_program c = c.undead

-- The target is the last of the five programs that the passes make of the given one.
pub record IsOptimised (given target : Program) : Type 0 where
  pub chain : ProgramChain
  pub made : IsOptAll given chain
  pub last : target ≡ target_program chain

-- The target is what the last of the five programs is tidied to.
pub record IsTidiedTarget (given target : Program) : Type 0 where
  pub optimised : Program
  pub made : IsOptimised given optimised
  pub tidied : IsTidiedProgram optimised target

-- The chain is that of the given program. Its last program is well-formed and has the threads of the given one, and
-- journals can be lifted along it.
pub record IsChainOf (given : Program) (c : ProgramChain) : Type 0 where
  pub made : IsOptAll given c
  pub first : c.source ≡ given
  pub well_formed : IsWellFormed (target_program c)
  pub threads : (target_program c).threads ≡ given.threads
  pub accepted : AreAcceptedTargets c

-- The program is what the last of the chain is tidied to, and journals can be lifted from it to that.
pub record IsTidiedOf (c : ProgramChain) (q : Program) : Type 0 where
  pub made : IsTidiedProgram (target_program c) q
  pub accepted : IsTidyTarget (target_program c) q
