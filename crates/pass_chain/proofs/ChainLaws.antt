-- A function has one chain, and so has a program.
use Rattle.std.proofs.Common.{◌≡◌, ℕ, List, [], ◌∷◌, length, map, refl, sym, ap, ◌∙◌, subst}
use Rattle.std.specs.List.{AllZip}
use Rattle.il_syntax.specs.declared.program.Function.{Function}
use Rattle.il_syntax.specs.WellFormed.{names_of, with_functions}
use Rattle.flow_facts.specs.declared.level.Kind.TheVariants.{Stores, Loads}
use Rattle.forwarding.specs.Forwarded.{IsForwarded}
use Rattle.forwarding.proofs.Callers.{forwarded_is_one}
use Rattle.load_hoist.specs.Introduced.{IsIntroduced}
use Rattle.load_hoist.proofs.Callers.{introduced_is_one}
use Rattle.dead_store.specs.Undead.{IsUndead}
use Rattle.dead_store.proofs.Callers.{undead_is_one}
use Rattle.pass_chain.specs.declared.chains.FunctionChain.{FunctionChain}
use Rattle.pass_chain.specs.Chain.{IsOpt}
use Rattle.pass_chain.specs.Laws.{OptIsOne, OptAllIsOne}

pub opt_is_one : OptIsOne
opt_is_one na names f c d p q =
    let source = p.source ∙ sym q.source in
    let stored = forwarded_is_one Stores c.source c.stored d.stored p.stored (subst (λ (s : Function). IsForwarded Stores s d.stored) (sym source) q.stored) in
    let introduced = introduced_is_one na names c.stored c.introduced d.introduced p.introduced (subst (λ (s : Function). IsIntroduced na names s d.introduced) (sym stored) q.introduced) in
    let loaded = forwarded_is_one Loads c.introduced c.loaded d.loaded p.loaded (subst (λ (s : Function). IsForwarded Loads s d.loaded) (sym introduced) q.loaded) in
    let undead = undead_is_one c.loaded c.undead d.undead p.undead (subst (λ (s : Function). IsUndead s d.undead) (sym loaded) q.undead) in
    λ i. record { source = source i; stored = stored i; introduced = introduced i; loaded = loaded i; undead = undead i }

-- each function has one chain, so there is one list of them
one_list : (na : ℕ) (names : List (List ℕ)) (fs : List Function) (cs ds : List FunctionChain) → AllZip (IsOpt na names) fs cs → AllZip (IsOpt na names) fs ds → cs ≡ ds
one_list na names [] [] [] p q = refl
one_list na names [] [] (d ∷ ds) p q = absurd q
one_list na names [] (c ∷ cs) ds p q = absurd p
one_list na names (f ∷ fs) [] ds p q = absurd p
one_list na names (f ∷ fs) (c ∷ cs) [] p q = absurd q
one_list na names (f ∷ fs) (c ∷ cs) (d ∷ ds) p q = λ i. opt_is_one na names f c d p.0 q.0 i ∷ one_list na names fs cs ds p.1 q.1 i

pub opt_all_is_one : OptAllIsOne
opt_all_is_one p c d a b =
    let chains = one_list (length p.na) (names_of p) p.functions a.chains b.chains a.each b.each in
    let source = a.source ∙ ap (λ (ks : List FunctionChain). with_functions p (map (λ (k : FunctionChain). k.source) ks)) chains ∙ sym b.source in
    let stored = a.stored ∙ ap (λ (ks : List FunctionChain). with_functions p (map (λ (k : FunctionChain). k.stored) ks)) chains ∙ sym b.stored in
    let introduced = a.introduced ∙ ap (λ (ks : List FunctionChain). with_functions p (map (λ (k : FunctionChain). k.introduced) ks)) chains ∙ sym b.introduced in
    let loaded = a.loaded ∙ ap (λ (ks : List FunctionChain). with_functions p (map (λ (k : FunctionChain). k.loaded) ks)) chains ∙ sym b.loaded in
    let undead = a.undead ∙ ap (λ (ks : List FunctionChain). with_functions p (map (λ (k : FunctionChain). k.undead) ks)) chains ∙ sym b.undead in
    λ i. record { source = source i; stored = stored i; introduced = introduced i; loaded = loaded i; undead = undead i }
