-- Neighbouring programs of a chain: one shape, and each function an accepted target of the one before.
use Rattle.il_syntax.specs.declared.program.Program.{Program}
use Rattle.il_syntax.specs.WellFormed.{IsWellFormed}
use Rattle.validator.specs.Programs.{AreAcceptedPrograms}
use Rattle.pass_chain.specs.declared.chains.ProgramChain.{ProgramChain}
use Rattle.pass_chain.specs.Chain.{IsOptAll}

abbrev pub IsAcceptedNeighbour : Program → Program → Type 0
IsAcceptedNeighbour = AreAcceptedPrograms

pub record AreNeighbours (c : ProgramChain) : Type 0 where
  pub stored : IsAcceptedNeighbour c.source c.stored
  pub introduced : IsAcceptedNeighbour c.stored c.introduced
  pub loaded : IsAcceptedNeighbour c.introduced c.loaded
  pub undead : IsAcceptedNeighbour c.loaded c.undead

-- The neighbouring programs of each chain are accepted.
abbrev pub ChainsAreAccepted : Type 0
ChainsAreAccepted = (p : Program) (c : ProgramChain) → IsWellFormed p → IsOptAll p c → AreNeighbours c
