-- The neighbouring programs of a chain are accepted.
use Rattle.std.proofs.Common.{◌≡◌, ◌<◌, ◌^◌, true, List, [], ◌∷◌, length, map, sym, ap, ◌∙◌, subst}
use Rattle.std.specs.List.{AllZip, list_all}
use Rattle.std.proofs.lemmas.Bool.{and_parts}
use Rattle.il_syntax.specs.declared.program.Function.{Function}
use Rattle.il_syntax.specs.declared.program.Program.{Program}
use Rattle.il_syntax.specs.WellFormed.{Declared, declared_by, with_functions, IsFunctionWellFormed}
use Rattle.il_syntax.specs.Checks.{function_fits}
use Rattle.il_syntax.proofs.Callers.{function_fits-is_well_formed, functions_fit}
use Rattle.flow_facts.specs.declared.level.Kind.TheVariants.{Stores, Loads}
use Rattle.validator.specs.Faults.{Accepts}
use Rattle.validator.specs.Shape.{SameSignature}
use Rattle.acceptance.proofs.Callers.{forwarded_is_accepted, introduced_is_accepted, undead_is_accepted}
use Rattle.pass_chain.specs.declared.chains.FunctionChain.{FunctionChain}
use Rattle.pass_chain.specs.Chain.{IsOpt}
use Rattle.pass_chain.proofs.Callers.{chain_fits, few_names}
use Rattle.parallel_driver.specs.Neighbours.{IsAcceptedNeighbour, ChainsAreAccepted}

-- one function and its target
record IsTarget (f g : Function) : Type 0 where
  signature : SameSignature f g
  accepted : Accepts f g

record AreTargets (c : FunctionChain) : Type 0 where
  stored : IsTarget c.source c.stored
  introduced : IsTarget c.stored c.introduced
  loaded : IsTarget c.introduced c.loaded
  undead : IsTarget c.loaded c.undead

same_signature : (f g : Function) → g.name ≡ f.name → g.params ≡ f.params → SameSignature f g
same_signature f g n k = record { name = n; params = k }

are_targets : (d : Declared) (f : Function) (c : FunctionChain) → length d.names < 2 ^ 32 → IsFunctionWellFormed d f → IsOpt d.na d.names f c → AreTargets c
are_targets d f c few w o =
    let fits = chain_fits d f c few w o in
    record {
      stored = record { signature = same_signature c.source c.stored (fits.stored.name ∙ sym fits.source.name) (fits.stored.params ∙ sym fits.source.params); accepted = forwarded_is_accepted Stores c.source c.stored o.stored };
      introduced = record { signature = same_signature c.stored c.introduced (fits.introduced.name ∙ sym fits.stored.name) (fits.introduced.params ∙ sym fits.stored.params); accepted = introduced_is_accepted d d.na d.names c.stored c.introduced fits.stored.well_formed o.introduced };
      loaded = record { signature = same_signature c.introduced c.loaded (fits.loaded.name ∙ sym fits.introduced.name) (fits.loaded.params ∙ sym fits.introduced.params); accepted = forwarded_is_accepted Loads c.introduced c.loaded o.loaded };
      undead = record { signature = same_signature c.loaded c.undead (fits.undead.name ∙ sym fits.loaded.name) (fits.undead.params ∙ sym fits.loaded.params); accepted = undead_is_accepted c.loaded c.undead o.undead };
    }

-- two neighbouring functions of each chain
module _ (d : Declared) (few : length d.names < 2 ^ 32) (one other : FunctionChain → Function) (target : (c : FunctionChain) → AreTargets c → IsTarget (one c) (other c)) where
  all_targets : (fs : List Function) (cs : List FunctionChain) → list_all (function_fits d) fs ≡ true → AllZip (IsOpt d.na d.names) fs cs → AllZip SameSignature (map one cs) (map other cs) × AllZip Accepts (map one cs) (map other cs)
  all_targets [] [] w z = (tt, tt)
  all_targets [] (c ∷ cs) w z = absurd z
  all_targets (f ∷ fs) [] w z = absurd z
  all_targets (f ∷ fs) (c ∷ cs) w z =
      let p = and_parts (function_fits d f) (list_all (function_fits d) fs) w in
      let t = target c (are_targets d f c few (function_fits-is_well_formed d f p.0) z.0) in
      let more = all_targets fs cs p.1 z.1 in
      ((t.signature, more.0), (t.accepted, more.1))

-- two programs with the functions of the chains
neighbour : (p q r : Program) (fs gs : List Function) → q ≡ with_functions p fs → r ≡ with_functions p gs → AllZip SameSignature fs gs × AllZip Accepts fs gs → IsAcceptedNeighbour q r
neighbour p q r fs gs e k h = record {
  shape = record {
    na = ap (λ (s : Program). s.na) k ∙ sym (ap (λ (s : Program). s.na) e);
    atomic = ap (λ (s : Program). s.atomic) k ∙ sym (ap (λ (s : Program). s.atomic) e);
    threads = ap (λ (s : Program). s.threads) k ∙ sym (ap (λ (s : Program). s.threads) e);
    functions = subst (λ (xs : List Function). AllZip SameSignature xs r.functions) (sym (ap (λ (s : Program). s.functions) e)) (subst (AllZip SameSignature fs) (sym (ap (λ (s : Program). s.functions) k)) h.0);
  };
  functions = subst (λ (xs : List Function). AllZip Accepts xs r.functions) (sym (ap (λ (s : Program). s.functions) e)) (subst (AllZip Accepts fs) (sym (ap (λ (s : Program). s.functions) k)) h.1);
}

pub chains_are_accepted : ChainsAreAccepted
chains_are_accepted p c w o =
    let d = declared_by p in
    let few = few_names p w in
    let fits = functions_fit p w in
    let source = λ (k : FunctionChain). k.source in
    let stored = λ (k : FunctionChain). k.stored in
    let introduced = λ (k : FunctionChain). k.introduced in
    let loaded = λ (k : FunctionChain). k.loaded in
    let undead = λ (k : FunctionChain). k.undead in
    record {
      stored = neighbour p c.source c.stored (map source o.chains) (map stored o.chains) o.source o.stored (all_targets d few source stored (λ k t. t.stored) p.functions o.chains fits o.each);
      introduced = neighbour p c.stored c.introduced (map stored o.chains) (map introduced o.chains) o.stored o.introduced (all_targets d few stored introduced (λ k t. t.introduced) p.functions o.chains fits o.each);
      loaded = neighbour p c.introduced c.loaded (map introduced o.chains) (map loaded o.chains) o.introduced o.loaded (all_targets d few introduced loaded (λ k t. t.loaded) p.functions o.chains fits o.each);
      undead = neighbour p c.loaded c.undead (map loaded o.chains) (map undead o.chains) o.loaded o.undead (all_targets d few loaded undead (λ k t. t.undead) p.functions o.chains fits o.each);
    }
