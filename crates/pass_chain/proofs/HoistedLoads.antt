-- After load forwarding no load of a hoisted location stands in its loop.
use Rattle.std.proofs.Common.{◌≡◌, ℕ, ◌+◌, [], length, Option, Some, None, slice_get, refl, sym, ap, ◌∙◌, subst, arith}
use Rattle.il_syntax.specs.declared.statement.Atom.{Atom}
use Rattle.il_syntax.specs.declared.statement.Atom.TheVariants.{Reg}
use Rattle.il_syntax.specs.declared.statement.Stmt.TheOpen.{Skip, Copy, Compute, Load, Store, AtomicLoad, AtomicStore, Update, Fence, Print, If, While, Call}
use Rattle.il_syntax.specs.Statements.{Head}
use Rattle.il_syntax.specs.WellFormed.{IsFunctionWellFormed}
use Rattle.il_paths.specs.Tree.{Leaf, head_of_leaf, Tree, tree_of, heads_in}
use Rattle.il_paths.specs.Code.{placed}
use Rattle.rewriting.proofs.Callers.{came_of}
use Rattle.flow_facts.specs.declared.level.Kind.TheVariants.{Stores, Loads}
use Rattle.flow_facts.specs.declared.level.Level.TheVariants.{Nothing}
use Rattle.flow_facts.specs.Rows.{IsBest}
use Rattle.forwarding.specs.Forwarded.{forwarded_leaf, copy_or_load}
use Rattle.forwarding.proofs.Callers.{forwarded_fits}
use Rattle.load_hoist.specs.Introduced.{growth_of}
use Rattle.load_hoist.specs.Hoisted.{WellHoisted}
use Rattle.load_hoist.proofs.Callers.{gives_below, introduced_is_well_hoisted, hoisted_pairs_are_known}
use Rattle.pass_chain.specs.Laws.{HoistedLoadsAreGone}

-- a load that is a load after forwarding had no atom
stays_load : (best : ℕ → Option Atom) (r x : ℕ) (leaf : Leaf) → head_of_leaf (forwarded_leaf best leaf) ≡ Load r x → (head_of_leaf leaf ≡ Load r x) × (best x ≡ None)
stays_load best r x (Load s y) e = go (best y) refl e
  where
    location : {s y r x : ℕ} → (let h : Head = Load s y in let k : Head = Load r x in h ≡ k) → y ≡ x
    location {s} {y} {r} {x} f = cc

    go : (b : Option Atom) → best y ≡ b → head_of_leaf (copy_or_load b s y) ≡ Load r x → (let h : Head = Load s y in let k : Head = Load r x in h ≡ k) × (best x ≡ None)
    go None f g = (g, ap best (sym (location g)) ∙ f)
    go (Some a) f g = absurd cc
stays_load best r x Skip e = absurd cc
stays_load best r x (Copy s a) e = absurd cc
stays_load best r x (Compute s op a b) e = absurd cc
stays_load best r x (Store y a) e = absurd cc
stays_load best r x (AtomicLoad s order y) e = absurd cc
stays_load best r x (AtomicStore order y a) e = absurd cc
stays_load best r x (Update s order y kind) e = absurd cc
stays_load best r x (Fence order) e = absurd cc
stays_load best r x (Print a) e = absurd cc
stays_load best r x (If a none _) e = absurd none
stays_load best r x (While a none) e = absurd none
stays_load best r x (Call s function args) e = absurd cc

pub hoisted_loads_are_gone : HoistedLoadsAreGone
hoisted_loads_are_gone d na names f c site r e w o h inside is =
    let old = length c.stored.registers in
    let t = tree_of c.introduced.body in
    let stored_fits = forwarded_fits Stores d c.source c.stored (subst (IsFunctionWellFormed d) (sym o.source) w) o.stored in
    let well : WellHoisted old [] (placed 0 t) =
    subst (λ (tree : Tree). WellHoisted old [] (placed 0 tree)) (sym o.introduced.body) (introduced_is_well_hoisted na names (tree_of c.stored.body) (growth_of c.stored) (gives_below d c.stored stored_fits)) in
    let best = o.loaded.best in
    let came = came_of (λ n. forwarded_leaf (best n)) r e.x 0 t site (ap (λ (tree : Tree). slice_get (heads_in tree) site) (sym o.loaded.changed.body) ∙ is) in
    let stays = stays_load (best (0 + site)) r e.x came.leaf came.is in
    let same : 0 + site ≡ site = omega arith in
    let found = o.loaded.is_best site r e.x (came.stood ∙ ap Some stays.0) in
    let none = subst (λ b. IsBest (placed 0 t) site Loads e.x b) (ap (λ n. best n e.x) (sym same) ∙ stays.1) found in
    let known = hoisted_pairs_are_known t old site e Nothing well h inside (none (Reg e.r)) in
    absurd (omega (arith, known))
