-- A program has one target of each kind.
use Rattle.std.proofs.Common.{◌≡◌, ℕ, ◌+◌, ◌<◌, ◌≤◌, Bool, true, false, List, [], ◌∷◌, map, Option, Some, None, refl, sym, ap, ◌∙◌, subst, arith}
use Rattle.std.specs.List.{AllZip}
use Rattle.il_syntax.specs.declared.statement.Atom.{Atom}
use Rattle.il_syntax.specs.declared.program.Function.{Function}
use Rattle.il_syntax.specs.declared.program.Program.{Program}
use Rattle.il_paths.specs.Tree.{Tree, Leaf, Empty, Then, IfThen, WhileThen, tree_of, sites_of, head_of_leaf}
use Rattle.il_paths.proofs.Callers.{at_most_both, site_within}
use Rattle.rewriting.proofs.Callers.{one_block, changed_is_one}
use Rattle.pass_chain.proofs.Callers.{opt_all_is_one}
use Rattle.tidy.specs.Atoms.{atoms_in, with_atoms}
use Rattle.tidy.specs.Propagated.{IsLeast, propagated_atom, propagated_tree, IsPropagated}
use Rattle.tidy.specs.Tidied.{folded_leaf, cleared_leaf, IsFolded, IsCleared, IsTidied}
use Rattle.tidy.specs.Programs.{IsTidiedProgram}
use Rattle.reports.specs.Targets.{IsOptimised, IsTidiedTarget, target_program}
use Rattle.reports.specs.Laws.{TargetsAreOne}

-- ---- what a function is tidied to

least_one : (known : Atom → Type 0) (one other : Option Atom) → IsLeast known one → IsLeast known other → one ≡ other
least_one known None None p q = refl
least_one known None (Some b) p q = absurd (p b q.0)
least_one known (Some a) None p q = absurd (q a p.0)
least_one known (Some a) (Some b) p q = ap Some (at_most_both a b (p.1 b q.0) (q.1 a p.0))

-- two choices of atoms that agree at the sites of a tree
abbrev Agree : (one other : ℕ → ℕ → Option Atom) → (from count : ℕ) → Type 0
Agree one other from count = (site r : ℕ) → from ≤ site → site < from + count → one site r ≡ other site r

module _ (one other : ℕ → ℕ → Option Atom) where
  at_site : (n count : ℕ) → Agree one other n (1 + count) → one n ≡ other n
  at_site n count e = λ i r. e n r (omega arith) (omega arith) i

  tree_one : (n : ℕ) (t : Tree) → Agree one other n (sites_of t) → propagated_tree one n t ≡ propagated_tree other n t
  tree_one n Empty e = refl
  tree_one n (Then leaf rest) e =
      let here = at_site n (sites_of rest) e in
      let later = tree_one (n + 1) rest (λ site r f l. e site r (omega (arith, f)) (omega (arith, l))) in
      λ i. Then (with_atoms leaf (map (propagated_atom (here i)) (atoms_in leaf))) (later i)
  tree_one n (IfThen a yes_block no_block rest) e =
      let here = at_site n (sites_of yes_block + sites_of no_block + sites_of rest) (λ site r f l. e site r f (omega (arith, l))) in
      let first = tree_one (n + 1) yes_block (λ site r f l. e site r (omega (arith, f)) (omega (arith, l))) in
      let second = tree_one (n + 1 + sites_of yes_block) no_block (λ site r f l. e site r (omega (arith, f)) (omega (arith, l))) in
      let later = tree_one (n + 1 + sites_of yes_block + sites_of no_block) rest (λ site r f l. e site r (omega (arith, f)) (omega (arith, l))) in
      λ i. IfThen (propagated_atom (here i) a) (first i) (second i) (later i)
  tree_one n (WhileThen a body rest) e =
      let here = at_site n (sites_of body + sites_of rest) (λ site r f l. e site r f (omega (arith, l))) in
      let first = tree_one (n + 1) body (λ site r f l. e site r (omega (arith, f)) (omega (arith, l))) in
      let later = tree_one (n + 1 + sites_of body) rest (λ site r f l. e site r (omega (arith, f)) (omega (arith, l))) in
      λ i. WhileThen (propagated_atom (here i) a) (first i) (later i)

propagated_is_one : (f g h : Function) → IsPropagated f g → IsPropagated f h → g ≡ h
propagated_is_one f g h p q =
    let name = p.name ∙ sym q.name in
    let params = p.params ∙ sym q.params in
    let registers = p.registers ∙ sym q.registers in
    let trees = tree_one p.least q.least 0 (tree_of f.body) (λ site r from l. least_one _ (p.least site r) (q.least site r) (p.is_least site r (omega (arith, l))) (q.is_least site r (omega (arith, l)))) in
    let body = one_block g.body h.body (p.body ∙ trees ∙ sym q.body) in
    let ends : p.at_end ≡ q.at_end = λ i r. least_one _ (p.at_end r) (q.at_end r) (p.is_least_at_end r) (q.is_least_at_end r) i in
    let result = p.result ∙ ap (λ (least : ℕ → Option Atom). propagated_atom least f.result) ends ∙ sym q.result in
    λ i. record { name = name i; params = params i; registers = registers i; body = body i; result = result i }

same_test : (p q : Bool) → (p ≡ true → q ≡ true) → (q ≡ true → p ≡ true) → p ≡ q
same_test true q f g = sym (f refl)
same_test false true f g = g refl
same_test false false f g = refl

cleared_is_one : (f g h : Function) → IsCleared f g → IsCleared f h → g ≡ h
cleared_is_one f g h p q =
    changed_is_one (λ site. cleared_leaf (p.live site)) (λ site. cleared_leaf (q.live site)) f g h
    (λ site leaf e.
    let l = site_within (tree_of f.body) site (head_of_leaf leaf) e in
    let same : p.live site ≡ q.live site = λ i r.
    same_test (p.live site r) (q.live site r) (λ d. (q.is_live site r l).1 ((p.is_live site r l).0 d)) (λ d. (p.is_live site r l).1 ((q.is_live site r l).0 d)) i in
    ap (λ (live : ℕ → Bool). cleared_leaf live leaf) same)
    p.changed q.changed

tidied_is_one : (f g h : Function) → IsTidied f g → IsTidied f h → g ≡ h
tidied_is_one f g h p q =
    let read = propagated_is_one f p.read q.read p.propagated q.propagated in
    let computed = changed_is_one (λ site. folded_leaf) (λ site. folded_leaf) p.read p.computed q.computed (λ site leaf e. refl) p.folded (subst (λ (k : Function). IsFolded k q.computed) (sym read) q.folded) in
    cleared_is_one p.computed g h p.cleared (subst (λ (k : Function). IsCleared k h) (sym computed) q.cleared)

-- ---- and a program

all_tidied : (fs gs hs : List Function) → AllZip IsTidied fs gs → AllZip IsTidied fs hs → gs ≡ hs
all_tidied [] [] [] p q = refl
all_tidied [] [] (h ∷ hs) p q = absurd q
all_tidied [] (g ∷ gs) hs p q = absurd p
all_tidied (f ∷ fs) [] hs p q = absurd p
all_tidied (f ∷ fs) (g ∷ gs) [] p q = absurd q
all_tidied (f ∷ fs) (g ∷ gs) (h ∷ hs) p q = λ i. tidied_is_one f g h p.0 q.0 i ∷ all_tidied fs gs hs p.1 q.1 i

programs_tidied : (p one other : Program) → IsTidiedProgram p one → IsTidiedProgram p other → one ≡ other
programs_tidied p one other x y =
    let na = x.na ∙ sym y.na in
    let atomic = x.atomic ∙ sym y.atomic in
    let threads = x.threads ∙ sym y.threads in
    let functions = all_tidied p.functions one.functions other.functions x.functions y.functions in
    λ i. record { na = na i; atomic = atomic i; functions = functions i; threads = threads i }

optimised_once : (given one other : Program) → IsOptimised given one → IsOptimised given other → one ≡ other
optimised_once given one other x y = x.last ∙ ap target_program (opt_all_is_one given x.chain y.chain x.made y.made) ∙ sym y.last

pub targets_are_one : TargetsAreOne
targets_are_one given one other = (
  optimised_once given one other,
  λ x y.
      let same = optimised_once given x.optimised y.optimised x.made y.made in
      programs_tidied x.optimised one other x.tidied (subst (λ (p : Program). IsTidiedProgram p other) (sym same) y.tidied),
)
