-- Each function has a chain, and each program.
use Rattle.std.proofs.Common.{◌≡◌, ◌⊎◌, inl, inr, ℕ, ◌<◌, ◌≤◌, Bool, true, false, List, [], ◌∷◌, length, map, Option, Some, None, slice_get, refl, arith}
use Rattle.std.proofs.lemmas.Bool.{cases_lt}
use Rattle.std.specs.Prelude.{◌↔◌}
use Rattle.std.specs.List.{AllZip}
use Rattle.il_syntax.specs.declared.statement.Atom.{Atom}
use Rattle.il_syntax.specs.declared.statement.Stmt.TheOpen.{Load}
use Rattle.il_syntax.specs.declared.program.Function.{Function}
use Rattle.il_syntax.specs.declared.program.Program.{Program}
use Rattle.il_syntax.specs.WellFormed.{names_of, with_functions}
use Rattle.il_paths.specs.Code.{placed}
use Rattle.il_paths.specs.Tree.{Leaf, Tree, tree_of, sites_of, heads_in, block_of}
use Rattle.il_paths.proofs.Callers.{site_within, tree_of-block_of}
use Rattle.rewriting.specs.Changed.{changed_tree, IsChanged}
use Rattle.flow_facts.specs.declared.level.Kind.{Kind}
use Rattle.flow_facts.specs.declared.level.Kind.TheVariants.{Stores, Loads}
use Rattle.flow_facts.specs.Rows.{IsBest}
use Rattle.forwarding.specs.Forwarded.{forwarded_leaf, IsForwarded}
use Rattle.load_hoist.specs.Introduced.{introduced, growth_of, IsIntroduced}
use Rattle.dead_store.specs.Undead.{dropped_leaf, IsUndead}
use Rattle.dead_store.specs.Overwritten.{IsOverwrittenAfter}
use Rattle.pass_chain.specs.declared.chains.FunctionChain.{FunctionChain}
use Rattle.pass_chain.specs.declared.chains.ProgramChain.{ProgramChain}
use Rattle.pass_chain.specs.Chain.{IsOpt, IsOptAll}
use Rattle.completeness.specs.Chains.{EachFunctionHasAChain, EachProgramHasAChain}
use Rattle.completeness.proofs.Best.{best_exists}
use Rattle.completeness.proofs.Dead.{dead_decided}

changed : (changes : ℕ → Leaf → Leaf) (f : Function) → (g : Function) × IsChanged changes f g
changed changes f =
    let t = changed_tree changes 0 (tree_of f.body) in
    (record { name = f.name; params = f.params; registers = f.registers; body = block_of t; result = f.result }, record { heads = record { name = refl; params = refl; registers = refl; result = refl }; body = tree_of-block_of t })

module _ (f : Function) where
  abbrev t : Tree
  t = tree_of f.body

  abbrev best_at : Kind → (site x : ℕ) → (site < sites_of t) ⊎ (sites_of t ≤ site) → Option Atom
  best_at kind site x (inl lt) = (best_exists kind t site lt x).0
  best_at kind site x (inr le) = None

  best_so : (kind : Kind) (site x : ℕ) → site < sites_of t → (c : (site < sites_of t) ⊎ (sites_of t ≤ site)) → IsBest (placed 0 t) site kind x (best_at kind site x c)
  best_so kind site x lt (inl l) = (best_exists kind t site l x).1
  best_so kind site x lt (inr le) = absurd (omega (arith, lt, le))

  forwarded : (kind : Kind) → (g : Function) × IsForwarded kind f g
  forwarded kind =
      let best : ℕ → ℕ → Option Atom = λ site x. best_at kind site x (cases_lt site (sites_of t)) in
      let c = changed (λ site. forwarded_leaf (best site)) f in
      (c.0, record { best = best; is_best = λ site r x at. best_so kind site x (site_within t site (Load r x) at) (cases_lt site (sites_of t)); changed = c.1 })

  abbrev dead_at : (site x : ℕ) → (site < sites_of t) ⊎ (sites_of t ≤ site) → Bool
  dead_at site x (inl lt) = (dead_decided t site x lt).0
  dead_at site x (inr le) = false

  dead_so : (site x : ℕ) → site < sites_of t → (c : (site < sites_of t) ⊎ (sites_of t ≤ site)) → (dead_at site x c ≡ true) ↔ IsOverwrittenAfter t site x
  dead_so site x lt (inl l) = (dead_decided t site x l).1
  dead_so site x lt (inr le) = absurd (omega (arith, lt, le))

  undead : (g : Function) × IsUndead f g
  undead =
      let dead : ℕ → ℕ → Bool = λ site x. dead_at site x (cases_lt site (sites_of t)) in
      let c = changed (λ site. dropped_leaf (dead site)) f in
      (c.0, record { dead = dead; overwritten = λ site x lt. dead_so site x lt (cases_lt site (sites_of t)); changed = c.1 })

  grown : (na : ℕ) (names : List (List ℕ)) → (g : Function) × IsIntroduced na names f g
  grown na names =
      let new = introduced na names t [] (growth_of f) in (
        record { name = f.name; params = f.params; registers = new.1.registers; body = block_of new.0; result = f.result },
        record { name = refl; params = refl; result = refl; body = tree_of-block_of new.0; registers = refl },
      )

pub each_function_has_a_chain : EachFunctionHasAChain
each_function_has_a_chain na names f =
    let stored = forwarded f Stores in
    let introduced = grown stored.0 na names in
    let loaded = forwarded introduced.0 Loads in
    let undead = undead loaded.0 in (
      record { source = f; stored = stored.0; introduced = introduced.0; loaded = loaded.0; undead = undead.0 },
      record { source = refl; stored = stored.1; introduced = introduced.1; loaded = loaded.1; undead = undead.1 },
    )

all_chains : (na : ℕ) (names : List (List ℕ)) (fs : List Function) → (chains : List FunctionChain) × AllZip (IsOpt na names) fs chains
all_chains na names [] = ([], tt)
all_chains na names (f ∷ fs) =
    let c = each_function_has_a_chain na names f in
    let more = all_chains na names fs in
    (c.0 ∷ more.0, (c.1, more.1))

pub each_program_has_a_chain : EachProgramHasAChain
each_program_has_a_chain p =
    let all = all_chains (length p.na) (names_of p) p.functions in (
      record {
        source = with_functions p (map (λ (k : FunctionChain). k.source) all.0);
        stored = with_functions p (map (λ (k : FunctionChain). k.stored) all.0);
        introduced = with_functions p (map (λ (k : FunctionChain). k.introduced) all.0);
        loaded = with_functions p (map (λ (k : FunctionChain). k.loaded) all.0);
        undead = with_functions p (map (λ (k : FunctionChain). k.undead) all.0);
      },
      record { chains = all.0; each = all.1; source = refl; stored = refl; introduced = refl; loaded = refl; undead = refl },
    )
