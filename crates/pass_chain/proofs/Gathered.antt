-- The conditions of the passes in the chain, and the lists of functions that are made of chains.
use Rattle.std.proofs.Common.{◌≡◌, ◌≤◌, List, [], ◌∷◌, ◌++◌, map, sym, ap, ◌∙◌, arith}
use Rattle.std.proofs.lemmas.List.{map-append}
use Rattle.il_syntax.specs.declared.program.Function.{Function}
use Rattle.il_syntax.specs.Statements.{site_count}
use Rattle.rewriting.proofs.Callers.{changed_count}
use Rattle.flow_facts.specs.declared.level.Kind.{Kind}
use Rattle.forwarding.specs.Forwarded.{forwarded_leaf, IsForwarded}
use Rattle.pass_chain.specs.declared.chains.FunctionChain.{FunctionChain}
use Rattle.pass_chain.specs.declared.chains.Stages.{Stages}
use Rattle.pass_chain.specs.Stages.{ArePut, AreStages}

-- forwarding leaves the number of statements
pub forwarded_few : (kind : Kind) (f g : Function) → site_count f.body.statements ≤ 4096 → IsForwarded kind f g → site_count g.body.statements ≤ 4096
forwarded_few kind f g few is = let same = changed_count (λ site. forwarded_leaf (is.best site)) f g is.changed in omega arith

-- one chain more
pub put_stages : (ks : List FunctionChain) (k : FunctionChain) (old new : Stages) → AreStages ks old → ArePut k old new → AreStages (ks ++ k ∷ []) new
put_stages ks k old new s p = record {
  source = p.source ∙ put (λ j. j.source) old.source s.source;
  stored = p.stored ∙ put (λ j. j.stored) old.stored s.stored;
  introduced = p.introduced ∙ put (λ j. j.introduced) old.introduced s.introduced;
  loaded = p.loaded ∙ put (λ j. j.loaded) old.loaded s.loaded;
  undead = p.undead ∙ put (λ j. j.undead) old.undead s.undead;
}
  where
    put : (part : FunctionChain → Function) (fs : List Function) → fs ≡ map part ks → fs ++ part k ∷ [] ≡ map part (ks ++ k ∷ [])
    put part fs e = ap (λ (gs : List Function). gs ++ part k ∷ []) e ∙ sym (map-append part ks (k ∷ []))
