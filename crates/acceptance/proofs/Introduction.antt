-- A function with loads hoisted before its loops has new loads before loops, and so is accepted.
use Rattle.std.proofs.Common.{◌≡◌, ℕ, zero, suc, ◌+◌, ◌≤◌, Bool, true, false, cond, List, [], ◌∷◌, ◌++◌, length, map, refl, sym, ap, ◌∙◌, subst, arith, append_assoc, append-nil, length-append}
use Rattle.il_syntax.specs.declared.statement.Stmt.TheOpen.{If, While}
use Rattle.il_syntax.specs.Statements.{Head}
use Rattle.il_paths.specs.Tree.{head_of_leaf, Tree, Empty, Then, IfThen, WhileThen, tree_of}
use Rattle.il_paths.specs.Code.{AllHeads}
use Rattle.load_hoist.specs.declared.growth.Extra.{Extra}
use Rattle.load_hoist.specs.declared.growth.Growth.{Growth}
use Rattle.load_hoist.specs.Introduced.{grown, gets_load, extras, introduced, growth_of}
use Rattle.load_hoist.specs.Laws.{GivesBelow}
use Rattle.load_hoist.proofs.Callers.{gives_below}
use Rattle.acceptance.specs.Known.{AreNew, HasNewLoads, nothing, keeps, branches, loops, LoadsOld}
use Rattle.acceptance.specs.Laws.{IntroducedIsAccepted}
use Rattle.acceptance.proofs.Growth.{new_loads_are_accepted}
use Rattle.il_paths.proofs.Callers.{all_heads_more}

-- the registers only grow
abbrev Grows : Growth → Growth → Type 0
Grows g h = (more : List (List ℕ)) × (h.registers ≡ g.registers ++ more)

grows_self : (g : Growth) → Grows g g
grows_self g = ([], sym (append-nil g.registers))

grows_on : (g h k : Growth) → Grows g h → Grows h k → Grows g k
grows_on g h k a b = (a.0 ++ b.0, b.1 ∙ ap (λ (names : List (List ℕ)). names ++ b.0) a.1 ∙ append_assoc g.registers a.0 b.0)

longer : (g h : Growth) → Grows g h → length g.registers ≤ length h.registers
longer g h a = let e = ap length a.1 in let l = length-append g.registers a.0 in omega (arith, e, l)

grown_grows : (names : List (List ℕ)) (g : Growth) → Grows g (grown names g)
grown_grows names g = (_, refl)

grown_longer : (names : List (List ℕ)) (g : Growth) → length (grown names g).registers ≡ length g.registers + 1
grown_longer names g = length-append g.registers _

module _ (names : List (List ℕ)) (body : Tree) (inside : List ℕ) where
  abbrev with_extra : ℕ → ℕ → Growth → List Extra × Growth
  with_extra n x g =
      let more = extras names body inside n (x + 1) (grown names g) in (record { r = length g.registers; x = x } ∷ more.0, more.1)

  extra_grows : (n x : ℕ) (g : Growth) (t : Bool) → Grows (grown names g) (extras names body inside n (x + 1) (grown names g)).1 → Grows g (extras names body inside n (x + 1) g).1 → Grows g (cond t (with_extra n x g) (extras names body inside n (x + 1) g)).1
  extra_grows n x g true more none =
      grows_on g (grown names g) (extras names body inside n (x + 1) (grown names g)).1 (grown_grows names g) more
  extra_grows n x g false more none = none

  extras_grow : (n x : ℕ) (g : Growth) → Grows g (extras names body inside n x g).1
  extras_grow zero x g = grows_self g
  extras_grow (suc n) x g =
      extra_grows n x g (gets_load body inside x g) (extras_grow n (x + 1) (grown names g)) (extras_grow n (x + 1) g)

  module _ (old end : ℕ) where
    extra_new : (n x : ℕ) (g : Growth) (t : Bool) → (old ≤ length (grown names g).registers → length (extras names body inside n (x + 1) (grown names g)).1.registers ≤ end → AreNew old end (extras names body inside n (x + 1) (grown names g)).0) → (old ≤ length g.registers → length (extras names body inside n (x + 1) g).1.registers ≤ end → AreNew old end (extras names body inside n (x + 1) g).0) → old ≤ length g.registers → length (cond t (with_extra n x g) (extras names body inside n (x + 1) g)).1.registers ≤ end → AreNew old end (cond t (with_extra n x g) (extras names body inside n (x + 1) g)).0
    extra_new n x g true more none a b =
        let one = grown_longer names g in
        let rest = longer (grown names g) (extras names body inside n (x + 1) (grown names g)).1 (extras_grow n (x + 1) (grown names g)) in
        (a, omega (arith, one, rest, b), more (omega (arith, a, one)) b)
    extra_new n x g false more none a b = none a b

    extras_new : (n x : ℕ) (g : Growth) → old ≤ length g.registers → length (extras names body inside n x g).1.registers ≤ end → AreNew old end (extras names body inside n x g).0
    extras_new zero x g a b = tt
    extras_new (suc n) x g a b =
        extra_new n x g (gets_load body inside x g) (extras_new n (x + 1) (grown names g)) (extras_new n (x + 1) g) a b

module _ (na : ℕ) (names : List (List ℕ)) where
  all_grow : (t : Tree) (inside : List ℕ) (g : Growth) → Grows g (introduced na names t inside g).1
  all_grow Empty inside g = grows_self g
  all_grow (Then leaf rest) inside g = all_grow rest inside g
  all_grow (IfThen a y n rest) inside g =
      let one = introduced na names y inside g in
      let other = introduced na names n inside one.1 in
      let more = introduced na names rest inside other.1 in
      grows_on g one.1 more.1 (all_grow y inside g) (grows_on one.1 other.1 more.1 (all_grow n inside one.1) (all_grow rest inside other.1))
  all_grow (WhileThen a body rest) inside g =
      let put = extras names body inside na 0 g in
      let within = map (λ (e : Extra). e.x) put.0 ++ inside in
      let turn = introduced na names body within put.1 in
      let more = introduced na names rest inside turn.1 in
      grows_on g put.1 more.1 (extras_grow names body inside na 0 g) (grows_on put.1 turn.1 more.1 (all_grow body within put.1) (all_grow rest inside turn.1))

  has_new : (old end : ℕ) (t : Tree) (inside : List ℕ) (g : Growth) → old ≤ length g.registers → length (introduced na names t inside g).1.registers ≤ end → HasNewLoads old end t (introduced na names t inside g).0
  has_new old end Empty inside g a b = nothing
  has_new old end (Then leaf rest) inside g a b = keeps leaf (has_new old end rest inside g a b)
  has_new old end (IfThen c y n rest) inside g a b =
      let one = introduced na names y inside g in
      let other = introduced na names n inside one.1 in
      let l1 = longer g one.1 (all_grow y inside g) in
      let l2 = longer one.1 other.1 (all_grow n inside one.1) in
      let l3 = longer other.1 (introduced na names rest inside other.1).1 (all_grow rest inside other.1) in
      branches c (has_new old end y inside g a (omega (arith, l2, l3, b))) (has_new old end n inside one.1 (omega (arith, a, l1)) (omega (arith, l3, b))) (has_new old end rest inside other.1 (omega (arith, a, l1, l2)) b)
  has_new old end (WhileThen c body rest) inside g a b =
      let put = extras names body inside na 0 g in
      let within = map (λ (e : Extra). e.x) put.0 ++ inside in
      let turn = introduced na names body within put.1 in
      let l1 = longer g put.1 (extras_grow names body inside na 0 g) in
      let l2 = longer put.1 turn.1 (all_grow body within put.1) in
      let l3 = longer turn.1 (introduced na names rest inside turn.1).1 (all_grow rest inside turn.1) in
      loops c put.0 (extras_new names body inside old end na 0 g a (omega (arith, l2, l3, b))) (has_new old end body within put.1 (omega (arith, a, l1)) (omega (arith, l3, b))) (has_new old end rest inside turn.1 (omega (arith, a, l1, l2)) b)

-- a load gives its register
loads_old : (n : ℕ) (h : Head) → GivesBelow n h → LoadsOld n h
loads_old n h below r x e = subst (λ (k : Head). GivesBelow n k) e below

pub introduced_is_accepted : IntroducedIsAccepted
introduced_is_accepted d na names f g w is =
    let t = tree_of f.body in
    let old = length f.registers in
    let end = length g.registers in
    let grows = all_grow na names t [] (growth_of f) in
    let count = ap length is.registers in
    new_loads_are_accepted f g (record {
      name = is.name;
      params = is.params;
      result = is.result;
      more = grows.0;
      registers = is.registers ∙ grows.1;
      old = all_heads_more (GivesBelow old) (LoadsOld old) (loads_old old) t (gives_below d f w);
      body = subst (HasNewLoads old end t) (sym is.body) (has_new na names old end t [] (growth_of f) (omega arith) (omega (arith, count)));
    })
