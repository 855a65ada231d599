-- The functions of chains, stage by stage. No public clause cites this file.
use Rattle.std.specs.Prelude.{◌≡◌, List, [], ◌∷◌, ◌++◌, map}
use Rattle.pass_chain.specs.declared.chains.FunctionChain.{FunctionChain}
use Rattle.pass_chain.specs.declared.chains.Stages.{Stages}

-- the functions of one more chain stand at the ends
pub record ArePut (c : FunctionChain) (old new : Stages) : Type 0 where
  pub source : new.source ≡ old.source ++ c.source ∷ []
  pub stored : new.stored ≡ old.stored ++ c.stored ∷ []
  pub introduced : new.introduced ≡ old.introduced ++ c.introduced ∷ []
  pub loaded : new.loaded ≡ old.loaded ++ c.loaded ∷ []
  pub undead : new.undead ≡ old.undead ++ c.undead ∷ []

-- the lists are of these chains
pub record AreStages (chains : List FunctionChain) (s : Stages) : Type 0 where
  pub source : s.source ≡ map (λ (k : FunctionChain). k.source) chains
  pub stored : s.stored ≡ map (λ (k : FunctionChain). k.stored) chains
  pub introduced : s.introduced ≡ map (λ (k : FunctionChain). k.introduced) chains
  pub loaded : s.loaded ≡ map (λ (k : FunctionChain). k.loaded) chains
  pub undead : s.undead ≡ map (λ (k : FunctionChain). k.undead) chains
