-- The functions and programs of a chain are well-formed.
use Rattle.std.proofs.Common.{◌≡◌, ◌<◌, ◌^◌, ℕ, true, ◌&&◌, nat_le, List, [], ◌∷◌, ◌++◌, length, map, length-append, refl, sym, ap, ◌∙◌, subst, arith}
use Rattle.std.specs.Prelude.{Some}
use Rattle.std.specs.List.{AllZip, list_all}
use Rattle.std.proofs.lemmas.Bool.{and_parts, and_from, leb-true}
use Rattle.std.proofs.lemmas.List.{length-map}
use Rattle.il_syntax.specs.declared.program.Function.{Function}
use Rattle.il_syntax.specs.declared.program.Location.{Location}
use Rattle.il_syntax.specs.declared.program.Program.{Program}
use Rattle.il_syntax.specs.WellFormed.{Declared, names_of, params_of, declared_by, with_function, with_functions, IsFunctionWellFormed, IsWellFormed, Fits}
use Rattle.il_syntax.specs.Checks.{is_declarable, function_fits, thread_fits, counts_fit, values_fit, globals_are_distinct, globals_fit}
use Rattle.il_syntax.proofs.Callers.{function_fits-is_well_formed, well_formed-function_fits, well_formed-program_fits, functions_fit, functions_replaced, fitting_functions_may_be_replaced, fitting_is_well_formed, names_of_changed}
use Rattle.flow_facts.specs.declared.level.Kind.TheVariants.{Stores, Loads}
use Rattle.forwarding.proofs.Callers.{forwarded_fits}
use Rattle.load_hoist.proofs.Callers.{introduced_fits}
use Rattle.dead_store.proofs.Callers.{undead_fits}
use Rattle.pass_chain.specs.declared.chains.FunctionChain.{FunctionChain}
use Rattle.pass_chain.specs.Chain.{IsOpt}
use Rattle.pass_chain.specs.Laws.{OptAllIsWellFormed, ChainsFit}

-- a function that stands for f in a program
pub record StandsFor (d : Declared) (f g : Function) : Type 0 where
  pub well_formed : IsFunctionWellFormed d g
  pub name : g.name ≡ f.name
  pub params : g.params ≡ f.params

pub record ChainFits (d : Declared) (f : Function) (c : FunctionChain) : Type 0 where
  pub source : StandsFor d f c.source
  pub stored : StandsFor d f c.stored
  pub introduced : StandsFor d f c.introduced
  pub loaded : StandsFor d f c.loaded
  pub undead : StandsFor d f c.undead

pub chain_fits : (d : Declared) (f : Function) (c : FunctionChain) → length d.names < 2 ^ 32 → IsFunctionWellFormed d f → IsOpt d.na d.names f c → ChainFits d f c
chain_fits d f c few w o =
    let source : StandsFor d f c.source = record { well_formed = subst (IsFunctionWellFormed d) (sym o.source) w; name = ap (λ (g : Function). g.name) o.source; params = ap (λ (g : Function). g.params) o.source } in
    let stored : StandsFor d f c.stored = record { well_formed = forwarded_fits Stores d c.source c.stored source.well_formed o.stored; name = o.stored.changed.heads.name ∙ source.name; params = o.stored.changed.heads.params ∙ source.params } in
    let introduced : StandsFor d f c.introduced = record { well_formed = introduced_fits d c.stored c.introduced few stored.well_formed o.introduced; name = o.introduced.name ∙ stored.name; params = o.introduced.params ∙ stored.params } in
    let loaded : StandsFor d f c.loaded = record { well_formed = forwarded_fits Loads d c.introduced c.loaded introduced.well_formed o.loaded; name = o.loaded.changed.heads.name ∙ introduced.name; params = o.loaded.changed.heads.params ∙ introduced.params } in
    let undead : StandsFor d f c.undead = record { well_formed = undead_fits d c.loaded c.undead loaded.well_formed o.undead; name = o.undead.changed.heads.name ∙ loaded.name; params = o.undead.changed.heads.params ∙ loaded.params } in
    record { source = source; stored = stored; introduced = introduced; loaded = loaded; undead = undead }

-- one of the five functions of each chain
module _ (d : Declared) (few : length d.names < 2 ^ 32) (part : FunctionChain → Function) (fits : (f : Function) (c : FunctionChain) → ChainFits d f c → StandsFor d f (part c)) where
  record AllStand (fs : List Function) (cs : List FunctionChain) : Type 0 where
    names : map (λ (f : Function). f.name) (map part cs) ≡ map (λ (f : Function). f.name) fs
    params : map (λ (f : Function). f.params) (map part cs) ≡ map (λ (f : Function). f.params) fs
    fit : list_all (function_fits d) (map part cs) ≡ true

  all_stand : (fs : List Function) (cs : List FunctionChain) → list_all (function_fits d) fs ≡ true → AllZip (IsOpt d.na d.names) fs cs → AllStand fs cs
  all_stand [] [] w z = record { names = refl; params = refl; fit = refl }
  all_stand [] (c ∷ cs) w z = absurd z
  all_stand (f ∷ fs) [] w z = absurd z
  all_stand (f ∷ fs) (c ∷ cs) w z =
      let p = and_parts (function_fits d f) (list_all (function_fits d) fs) w in
      let s = fits f c (chain_fits d f c few (function_fits-is_well_formed d f p.0) z.0) in
      let more = all_stand fs cs p.1 z.1 in
      record {
        names = λ i. s.name i ∷ more.names i;
        params = λ i. s.params i ∷ more.params i;
        fit = and_from (function_fits d (part c)) (list_all (function_fits d) (map part cs)) (well_formed-function_fits d (part c) s.well_formed) more.fit;
      }

-- a well-formed program has few names
pub few_names : (p : Program) → IsWellFormed p → length (names_of p) < 2 ^ 32
few_names p w =
    let e = well_formed-program_fits p w in
    let rest = list_all (function_fits (declared_by p)) p.functions && list_all (thread_fits (params_of p)) p.threads in
    let a = and_parts (globals_fit p) rest e in
    let g = and_parts (counts_fit p) (list_all is_declarable (names_of p) && (globals_are_distinct p && (values_fit p.na && values_fit p.atomic))) a.0 in
    let c1 = and_parts (nat_le (length p.na) 16) (nat_le (length p.atomic) 16 && (nat_le (length p.functions) 256 && (nat_le (length p.threads) 16 && nat_le 1 (length p.threads)))) g.0 in
    let c2 = and_parts (nat_le (length p.atomic) 16) (nat_le (length p.functions) 256 && (nat_le (length p.threads) 16 && nat_le 1 (length p.threads))) c1.1 in
    let c3 = and_parts (nat_le (length p.functions) 256) (nat_le (length p.threads) 16 && nat_le 1 (length p.threads)) c2.1 in
    let na = leb-true (length p.na) 16 c1.0 in
    let atomic = leb-true (length p.atomic) 16 c2.0 in
    let functions = leb-true (length p.functions) 256 c3.0 in
    let nas = map (λ (l : Location). l.name) p.na in
    let atomics = map (λ (l : Location). l.name) p.atomic in
    let fs = map (λ (f : Function). f.name) p.functions in
    let n1 = length-append nas (atomics ++ fs) in
    let n2 = length-append atomics fs in
    let n3 = length-map p.na (λ (l : Location). l.name) in
    let n4 = length-map p.atomic (λ (l : Location). l.name) in
    let n5 = length-map p.functions (λ (f : Function). f.name) in
    omega arith

part_well_formed : (p : Program) → IsWellFormed p → (cs : List FunctionChain) → AllZip (IsOpt (length p.na) (names_of p)) p.functions cs →
    (part : FunctionChain → Function) → ((f : Function) (c : FunctionChain) → ChainFits (declared_by p) f c → StandsFor (declared_by p) f (part c)) → IsWellFormed (with_functions p (map part cs))
part_well_formed p w cs z part fits =
    let s = all_stand (declared_by p) (few_names p w) part fits p.functions cs (functions_fit p w) z in
    functions_replaced p (map part cs) s.names s.params w s.fit

pub opt_all_is_well_formed : OptAllIsWellFormed
opt_all_is_well_formed p c w o =
    record {
      source = subst IsWellFormed (sym o.source) (part_well_formed p w o.chains o.each (λ (k : FunctionChain). k.source) (λ f k s. s.source));
      stored = subst IsWellFormed (sym o.stored) (part_well_formed p w o.chains o.each (λ (k : FunctionChain). k.stored) (λ f k s. s.stored));
      introduced = subst IsWellFormed (sym o.introduced) (part_well_formed p w o.chains o.each (λ (k : FunctionChain). k.introduced) (λ f k s. s.introduced));
      loaded = subst IsWellFormed (sym o.loaded) (part_well_formed p w o.chains o.each (λ (k : FunctionChain). k.loaded) (λ f k s. s.loaded));
      undead = subst IsWellFormed (sym o.undead) (part_well_formed p w o.chains o.each (λ (k : FunctionChain). k.undead) (λ f k s. s.undead));
    }

-- each function of a chain fits where the first one does
pub chains_fit : ChainsFit
chains_fit p f c fits o =
    let q = with_function p f in
    let d = declared_by q in
    let w = fitting_is_well_formed p f fits in
    let same = sym (names_of_changed p (Some f)) in
    let parts = chain_fits d f c (few_names q fits.1) w (subst (λ (names : List (List ℕ)). IsOpt (length p.na) names f c) same o) in
    let fit = λ (g : Function) (s : StandsFor d f g). fitting_functions_may_be_replaced p f g fits s.name s.params s.well_formed in
    record { source = fit c.source parts.source; stored = fit c.stored parts.stored; introduced = fit c.introduced parts.introduced; loaded = fit c.loaded parts.loaded; undead = fit c.undead parts.undead }
