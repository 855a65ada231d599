-- What the four passes make one after the other, of a function and of a program.
use Rattle.std.specs.Prelude.{◌≡◌, ℕ, List, length, map}
use Rattle.std.specs.List.{AllZip}
use Rattle.il_syntax.specs.declared.program.Function.{Function}
use Rattle.il_syntax.specs.declared.program.Program.{Program}
use Rattle.il_syntax.specs.WellFormed.{names_of, with_functions}
use Rattle.flow_facts.specs.declared.level.Kind.TheVariants.{Stores, Loads}
use Rattle.forwarding.specs.Forwarded.{IsForwarded}
use Rattle.load_hoist.specs.Introduced.{IsIntroduced}
use Rattle.dead_store.specs.Undead.{IsUndead}
use Rattle.pass_chain.specs.declared.chains.FunctionChain.{FunctionChain}
use Rattle.pass_chain.specs.declared.chains.ProgramChain.{ProgramChain}

-- the five functions that the passes make of f, in a program with so many na locations and these names of
-- locations and functions
pub record IsOpt (na : ℕ) (names : List (List ℕ)) (f : Function) (c : FunctionChain) : Type 0 where
  pub source : c.source ≡ f
  pub stored : IsForwarded Stores c.source c.stored
  pub introduced : IsIntroduced na names c.stored c.introduced
  pub loaded : IsForwarded Loads c.introduced c.loaded
  pub undead : IsUndead c.loaded c.undead

-- the five programs, each function by its own chain
pub record IsOptAll (p : Program) (c : ProgramChain) : Type 0 where
  pub chains : List FunctionChain
  pub each : AllZip (IsOpt (length p.na) (names_of p)) p.functions chains
  pub source : c.source ≡ with_functions p (map (λ (k : FunctionChain). k.source) chains)
  pub stored : c.stored ≡ with_functions p (map (λ (k : FunctionChain). k.stored) chains)
  pub introduced : c.introduced ≡ with_functions p (map (λ (k : FunctionChain). k.introduced) chains)
  pub loaded : c.loaded ≡ with_functions p (map (λ (k : FunctionChain). k.loaded) chains)
  pub undead : c.undead ≡ with_functions p (map (λ (k : FunctionChain). k.undead) chains)
