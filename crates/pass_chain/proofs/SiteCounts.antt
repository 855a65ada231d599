-- The counts of a chain are those of sites.
use Rattle.std.proofs.Common.{◌≡◌, ℕ, ◌+◌, ◌-◌, ◌≤◌, Bool, true, false, cond, ◌&&◌, List, [], ◌∷◌, ◌++◌, length, map, Option, Some, None, refl, sym, ap, ◌∙◌, subst, arith}
use Rattle.std.specs.Prelude.{count_by, sum, if◌then◌else◌}
use Rattle.std.specs.List.{AllZip}
use Rattle.std.proofs.lemmas.List.Sums.{sum_by-cons}
use Rattle.il_syntax.specs.declared.statement.Atom.{Atom}
use Rattle.il_syntax.specs.declared.statement.Stmt.TheOpen.{Skip, Copy, Compute, Load, Store, AtomicLoad, AtomicStore, Update, Fence, Print, If, While, Call}
use Rattle.il_syntax.specs.declared.program.Function.{Function}
use Rattle.il_syntax.specs.declared.program.Program.{Program}
use Rattle.il_syntax.specs.Statements.{Head, heads_of_all, site_count}
use Rattle.il_paths.specs.Tree.{Leaf, head_of_leaf, Tree, Empty, Then, IfThen, WhileThen, tree_of, heads_in, sites_of}
use Rattle.il_paths.proofs.Callers.{heads_agree}
use Rattle.rewriting.specs.Changed.{changed_tree, IsChanged}
use Rattle.rewriting.specs.Kinds.{unchanged}
use Rattle.rewriting.proofs.Callers.{each_rewritten}
use Rattle.il_syntax.specs.WellFormed.{names_of}
use Rattle.flow_facts.specs.declared.level.Kind.{Kind}
use Rattle.flow_facts.specs.declared.level.Kind.TheVariants as kind
use Rattle.forwarding.specs.Forwarded.{copy_or_load, forwarded_leaf, IsForwarded}
use Rattle.dead_store.specs.Undead.{dropped_leaf, IsUndead}
use Rattle.load_hoist.proofs.Callers.{introduced_more, introduced_grown}
use Rattle.pass_chain.specs.declared.chains.FunctionChain.{FunctionChain}
use Rattle.pass_chain.specs.declared.counts.Counted.TheVariants.{Loads, Stores}
use Rattle.pass_chain.specs.Chain.{IsOpt, IsOptAll}
use Rattle.pass_chain.specs.Counts.{is_na_load, is_na_store, head_is_copy, head_is_skip, accesses, statements_of_program, registers_of_program, became, became_in}
use Rattle.pass_chain.specs.Laws.{CountsAreOfSites}

abbrev one_if : Bool → ℕ
one_if b = cond b 1 0

-- How many statements pass a test before and after, where each that doesn't any more passes another.
module _ (was is : Head → Bool) where
  abbrev Beside : Head → Head → Type 0
  Beside h k = one_if (was h) ≡ one_if (was k) + one_if (was h && is k)

  abbrev Counted : List Head → List Head → Type 0
  Counted hs ks = count_by was hs ≡ count_by was ks + became was is hs ks

  counted : (hs ks : List Head) → AllZip Beside hs ks → Counted hs ks
  counted [] [] z = refl
  counted [] (k ∷ ks) z = absurd z
  counted (h ∷ hs) [] z = absurd z
  counted (h ∷ hs) (k ∷ ks) z =
      let one = sum_by-cons (λ (x : Head). one_if (was x)) h hs in
      let other = sum_by-cons (λ (x : Head). one_if (was x)) k ks in
      let more = counted hs ks z.1 in
      let here = z.0 in
      omega (arith, one, other, more, here)

  beside_append : (hs ks is' js : List Head) → AllZip Beside hs ks → AllZip Beside is' js → AllZip Beside (hs ++ is') (ks ++ js)
  beside_append [] [] is' js z y = y
  beside_append [] (k ∷ ks) is' js z y = absurd z
  beside_append (h ∷ hs) [] is' js z y = absurd z
  beside_append (h ∷ hs) (k ∷ ks) is' js z y = (z.0, beside_append hs ks is' js z.1 y)

  -- so in a tree that is changed in place
  module _ (branches : (a : Atom) → was (If a tt tt) ≡ false) (loops : (a : Atom) → was (While a tt) ≡ false) (changed : ℕ → Leaf → Leaf) (each : (n : ℕ) (leaf : Leaf) → Beside (head_of_leaf leaf) (head_of_leaf (changed n leaf))) where
    stays : (h : Head) → was h ≡ false → Beside h h
    stays h e = ap one_if e ∙ sym (λ i. one_if (e i) + one_if (e i && is h))

    tree_beside : (t : Tree) (n : ℕ) → AllZip Beside (heads_in t) (heads_in (changed_tree changed n t))
    tree_beside Empty n = tt
    tree_beside (Then leaf rest) n = (each n leaf, tree_beside rest (n + 1))
    tree_beside (IfThen a y m rest) n = (
      stays (If a tt tt) (branches a),
      beside_append (heads_in y) _ _ _ (tree_beside y (n + 1)) (beside_append (heads_in m) _ _ _ (tree_beside m (n + 1 + sites_of y)) (tree_beside rest (n + 1 + sites_of y + sites_of m))),
    )
    tree_beside (WhileThen a body rest) n = (stays (While a tt) (loops a), beside_append (heads_in body) _ _ _ (tree_beside body (n + 1)) (tree_beside rest (n + 1 + sites_of body)))

    pub counted_changed : (f g : Function) → IsChanged changed f g → Counted (heads_of_all f.body.statements) (heads_of_all g.body.statements)
    counted_changed f g c =
        let new = ap heads_in (sym c.body) ∙ heads_agree g.body in
        subst (λ (hs : List Head). Counted hs (heads_of_all g.body.statements)) (heads_agree f.body)
        (subst (λ (ks : List Head). Counted (heads_in (tree_of f.body)) ks) new (counted (heads_in (tree_of f.body)) (heads_in (changed_tree changed 0 (tree_of f.body))) (tree_beside (tree_of f.body) 0)))

-- loads that become copies

no_copy : (h : Head) → (is_na_load h && head_is_copy h) ≡ false
no_copy Skip = refl
no_copy (Copy r a) = refl
no_copy (Compute r op a b) = refl
no_copy (Load r x) = refl
no_copy (Store x a) = refl
no_copy (AtomicLoad r order y) = refl
no_copy (AtomicStore order y a) = refl
no_copy (Update r order y kind) = refl
no_copy (Fence order) = refl
no_copy (Print a) = refl
no_copy (If a p q) = refl
no_copy (While a p) = refl
no_copy (Call r f args) = refl

same_load : (h : Head) → Beside is_na_load head_is_copy h h
same_load h = let e = ap one_if (no_copy h) in omega (arith, e)

load_beside : (mark : Option Atom) (r x : ℕ) → Beside is_na_load head_is_copy (Load r x) (head_of_leaf (copy_or_load mark r x))
load_beside None r x = refl
load_beside (Some a) r x = refl

forwarded_beside : (best : ℕ → Option Atom) (leaf : Leaf) → Beside is_na_load head_is_copy (head_of_leaf leaf) (head_of_leaf (forwarded_leaf best leaf))
forwarded_beside best =
    each_rewritten (λ leaf new. Beside is_na_load head_is_copy (head_of_leaf leaf) (head_of_leaf new)) (record unchanged { load = λ r x. copy_or_load (best x) r x })
    (record { skip = refl; copy = λ r a. refl; compute = λ r op a b. refl; load = λ r x. load_beside (best x) r x; store = λ x a. refl; other = λ leaf. same_load (head_of_leaf leaf) })

abbrev heads : Function → List Head
heads f = heads_of_all f.body.statements

loads_counted : (kind : Kind) (f g : Function) → IsForwarded kind f g → Counted is_na_load head_is_copy (heads f) (heads g)
loads_counted kind f g is = counted_changed is_na_load head_is_copy (λ a. refl) (λ a. refl) (λ site. forwarded_leaf (is.best site)) (λ n. forwarded_beside (is.best n)) f g is.changed

-- stores that become a `skip`

no_skip : (h : Head) → (is_na_store h && head_is_skip h) ≡ false
no_skip Skip = refl
no_skip (Copy r a) = refl
no_skip (Compute r op a b) = refl
no_skip (Load r x) = refl
no_skip (Store x a) = refl
no_skip (AtomicLoad r order y) = refl
no_skip (AtomicStore order y a) = refl
no_skip (Update r order y kind) = refl
no_skip (Fence order) = refl
no_skip (Print a) = refl
no_skip (If a p q) = refl
no_skip (While a p) = refl
no_skip (Call r f args) = refl

same_store : (h : Head) → Beside is_na_store head_is_skip h h
same_store h = let e = ap one_if (no_skip h) in omega (arith, e)

store_beside : (b : Bool) (x : ℕ) (a : Atom) → Beside is_na_store head_is_skip (Store x a) (head_of_leaf (if b then Skip else Store x a))
store_beside true x a = refl
store_beside false x a = refl

dropped_beside : (dead : ℕ → Bool) (leaf : Leaf) → Beside is_na_store head_is_skip (head_of_leaf leaf) (head_of_leaf (dropped_leaf dead leaf))
dropped_beside dead =
    each_rewritten (λ leaf new. Beside is_na_store head_is_skip (head_of_leaf leaf) (head_of_leaf new)) (record unchanged { store = λ x a. if dead x then Skip else Store x a })
    (record { skip = refl; copy = λ r a. refl; compute = λ r op a b. refl; load = λ r x. refl; store = λ x a. store_beside (dead x) x a; other = λ leaf. same_store (head_of_leaf leaf) })

stores_counted : (f g : Function) → IsUndead f g → Counted is_na_store head_is_skip (heads f) (heads g)
stores_counted f g is = counted_changed is_na_store head_is_skip (λ a. refl) (λ a. refl) (λ site. dropped_leaf (is.dead site)) (λ n. dropped_beside (is.dead n)) f g is.changed

-- Over all functions of a program.

abbrev total : (Function → ℕ) → List Function → ℕ
total count fs = sum (map count fs)

total-cons : (count : Function → ℕ) (f : Function) (fs : List Function) → total count (f ∷ fs) ≡ count f + total count fs
total-cons count f fs = sum_by-cons (λ (n : ℕ). n) (count f) (map count fs)

module _ (na : ℕ) (names : List (List ℕ)) where
  abbrev Chains : List Function → List FunctionChain → Type 0
  Chains fs ks = AllZip (IsOpt na names) fs ks

  module _ (was is : Head → Bool) (one other : FunctionChain → Function) (each : (f : Function) (k : FunctionChain) → IsOpt na names f k → Counted was is (heads (one k)) (heads (other k))) where
    abbrev CountedIn : List Function → List Function → Type 0
    CountedIn fs gs = total (λ f. count_by was (heads f)) fs ≡ total (λ f. count_by was (heads f)) gs + became_in was is fs gs

    chains_counted : (fs : List Function) (ks : List FunctionChain) → Chains fs ks → CountedIn (map one ks) (map other ks)
    chains_counted [] [] z = refl
    chains_counted [] (k ∷ ks) z = absurd z
    chains_counted (f ∷ fs) [] z = absurd z
    chains_counted (f ∷ fs) (k ∷ ks) z =
        let before = total-cons (λ g. count_by was (heads g)) (one k) (map one ks) in
        let after = total-cons (λ g. count_by was (heads g)) (other k) (map other ks) in
        let here = each f k z.0 in
        let more = chains_counted fs ks z.1 in
        omega (arith, before, after, here, more)

    pub programs_counted : (fs : List Function) (ks : List FunctionChain) → Chains fs ks → (p q : Program) → p.functions ≡ map one ks → q.functions ≡ map other ks → CountedIn p.functions q.functions
    programs_counted fs ks z p q e f =
        subst (λ (gs : List Function). CountedIn gs q.functions) (sym e) (subst (λ (gs : List Function). CountedIn (map one ks) gs) (sym f) (chains_counted fs ks z))

  abbrev sites : Function → ℕ
  sites f = site_count f.body.statements

  abbrev registers : Function → ℕ
  registers f = length f.registers

  record GrownIn (fs gs : List Function) : Type 0 where
    more : total registers fs ≤ total registers gs
    alike : total sites gs + total registers fs ≡ total sites fs + total registers gs

  chains_grown : (fs : List Function) (ks : List FunctionChain) → Chains fs ks → GrownIn (map (λ k. k.stored) ks) (map (λ k. k.introduced) ks)
  chains_grown [] [] z = record { more = omega arith; alike = refl }
  chains_grown [] (k ∷ ks) z = absurd z
  chains_grown (f ∷ fs) [] z = absurd z
  chains_grown (f ∷ fs) (k ∷ ks) z =
      let rest = chains_grown fs ks z.1 in
      let s1 = total-cons sites k.stored (map (λ (j : FunctionChain). j.stored) ks) in
      let s2 = total-cons sites k.introduced (map (λ (j : FunctionChain). j.introduced) ks) in
      let r1 = total-cons registers k.stored (map (λ (j : FunctionChain). j.stored) ks) in
      let r2 = total-cons registers k.introduced (map (λ (j : FunctionChain). j.introduced) ks) in
      let here = introduced_grown na names k.stored k.introduced z.0.introduced in
      let most = introduced_more na names k.stored k.introduced z.0.introduced in
      let more = rest.more in
      let alike = rest.alike in
      record { more = omega (arith, r1, r2, most, more); alike = omega (arith, s1, s2, r1, r2, here, alike) }

pub counts_are_of_sites : CountsAreOfSites
counts_are_of_sites p c o =
    let na = length p.na in
    let names = names_of p in
    let source = ap (λ (q : Program). q.functions) o.source in
    let stored = ap (λ (q : Program). q.functions) o.stored in
    let introduced = ap (λ (q : Program). q.functions) o.introduced in
    let loaded = ap (λ (q : Program). q.functions) o.loaded in
    let undead = ap (λ (q : Program). q.functions) o.undead in
    let one = programs_counted na names is_na_load head_is_copy (λ k. k.source) (λ k. k.stored) (λ f k h. loads_counted kind.Stores k.source k.stored h.stored) p.functions o.chains o.each c.source c.stored source stored in
    let two = programs_counted na names is_na_load head_is_copy (λ k. k.introduced) (λ k. k.loaded) (λ f k h. loads_counted kind.Loads k.introduced k.loaded h.loaded) p.functions o.chains o.each c.introduced c.loaded introduced loaded in
    let three = programs_counted na names is_na_store head_is_skip (λ k. k.loaded) (λ k. k.undead) (λ f k h. stores_counted k.loaded k.undead h.undead) p.functions o.chains o.each c.loaded c.undead loaded undead in
    let grown : GrownIn na names c.stored.functions c.introduced.functions = subst (λ (fs : List Function). GrownIn na names fs c.introduced.functions) (sym stored) (subst (λ (gs : List Function). GrownIn na names (map (λ (k : FunctionChain). k.stored) o.chains) gs) (sym introduced) (chains_grown na names p.functions o.chains o.each)) in
    let first : accesses Loads c.source ≡ accesses Loads c.stored + became_in is_na_load head_is_copy c.source.functions c.stored.functions = one in
    let second : accesses Loads c.introduced ≡ accesses Loads c.loaded + became_in is_na_load head_is_copy c.introduced.functions c.loaded.functions = two in
    let third : accesses Stores c.loaded ≡ accesses Stores c.undead + became_in is_na_store head_is_skip c.loaded.functions c.undead.functions = three in
    let more : registers_of_program c.stored ≤ registers_of_program c.introduced = grown.more in
    let alike : statements_of_program c.introduced + registers_of_program c.stored ≡ statements_of_program c.stored + registers_of_program c.introduced = grown.alike in
    record {
      forwarded = omega (arith, first, second);
      fewer_stored = omega (arith, first);
      fewer_loaded = omega (arith, second);
      introduced = omega (arith, more, alike);
      more_introduced = omega (arith, more, alike);
      removed = omega (arith, third);
      fewer_undead = omega (arith, third);
    }
