-- What has a chain.
use Rattle.std.specs.Prelude.{ℕ, List}
use Rattle.il_syntax.specs.declared.program.Function.{Function}
use Rattle.il_syntax.specs.declared.program.Program.{Program}
use Rattle.pass_chain.specs.declared.chains.FunctionChain.{FunctionChain}
use Rattle.pass_chain.specs.declared.chains.ProgramChain.{ProgramChain}
use Rattle.pass_chain.specs.Chain.{IsOpt, IsOptAll}

-- Each function has a chain, whatever locations and names there are, and each program.
abbrev pub EachFunctionHasAChain : Type 0
EachFunctionHasAChain = (na : ℕ) (names : List (List ℕ)) (f : Function) → (c : FunctionChain) × IsOpt na names f c

abbrev pub EachProgramHasAChain : Type 0
EachProgramHasAChain = (p : Program) → (c : ProgramChain) × IsOptAll p c
