-- A forwarded function fits where the function did: the atom of a known pair stands in a statement on each
-- path to the load.
use Rattle.std.proofs.Common.{◌≡◌, ◌<◌, ℕ, Bool, true, ◌&&◌, nat_lt, List, [], ◌∷◌, Option, Some, None, length, slice_get, refl, sym, ap, ◌∙◌, subst}
use Rattle.std.specs.Prelude.{◌≢◌}
use Rattle.std.specs.List.{AllByRecursion, list_all}
use Rattle.std.proofs.lemmas.Bool.{and_parts, and_from}
use Rattle.il_syntax.specs.declared.statement.Atom.{Atom}
use Rattle.il_syntax.specs.declared.statement.Stmt.TheOpen.{Skip, Copy, Compute, Load, Store, AtomicLoad, AtomicStore, Update, Fence, Print, If, While, Call}
use Rattle.il_syntax.specs.Statements.{Head, heads_of_all}
use Rattle.il_syntax.specs.declared.program.Function.{Function}
use Rattle.il_syntax.specs.WellFormed.{Declared, IsFunctionWellFormed, atom_exists, numbers_exist}
use Rattle.il_syntax.specs.Checks.{head_fits}
use Rattle.il_paths.specs.Tree.{Leaf, head_of_leaf, Tree, tree_of, sites_of, heads_in}
use Rattle.il_paths.specs.Code.{Visit, Code, End, Plain, Branch, Loop, placed, first, first_head, go, AllCode}
use Rattle.il_paths.specs.Paths.{RunsTo}
use Rattle.il_paths.specs.Meets.{fold_forward}
use Rattle.il_paths.proofs.Callers.{heads_agree, all_heads_of, runs_step, before_reaches, all_placed, all_first, all_go, site_within}
use Rattle.rewriting.specs.Kinds.{unchanged}
use Rattle.rewriting.proofs.Callers.{each_rewritten, changed_fits}
use Rattle.flow_facts.specs.declared.level.Kind.{Kind}
use Rattle.flow_facts.specs.declared.level.Level.{Level}
use Rattle.flow_facts.specs.declared.level.Level.TheVariants.{Nothing}
use Rattle.flow_facts.specs.Levels.{level_step}
use Rattle.flow_facts.specs.Rows.{IsBest}
use Rattle.flow_facts.proofs.Callers.{Came, by_store, by_load, kept, came, levels_exist}
use Rattle.forwarding.specs.Forwarded.{copy_or_load, forwarded_leaf, IsForwarded}
use Rattle.forwarding.specs.Laws.{ForwardedFits}

module _ (registers functions : ℕ) (kind : Kind) (x : ℕ) (a : Atom) where
  abbrev Exist : Head → Type 0
  Exist h = numbers_exist registers functions h ≡ true

  -- one statement further an atom that is known exists
  known_exists : (h : Head) (l new : Level) → Exist h → (l ≢ Nothing → atom_exists registers a ≡ true) → Came x a h l new → atom_exists registers a ≡ true
  known_exists h l new e old (by_store is _) = subst Exist is e
  known_exists h l new e old (by_load r is same _) = ap (atom_exists registers) same ∙ subst Exist is e
  known_exists h l new e old (kept k) = old k.above

  head_of_first : (c : Code) (v : Visit) → first c ≡ Some v → first_head c ≡ Some v.head
  head_of_first End v e = cc
  head_of_first (Plain w rest) v e = let same : w ≡ v = cc in ap (λ (u : Visit). Some u.head) same
  head_of_first (Branch w yes_block no_block rest) v e = let same : w ≡ v = cc in ap (λ (u : Visit). Some u.head) same
  head_of_first (Loop w body rest) v e = let same : w ≡ v = cc in ap (λ (u : Visit). Some u.head) same

  -- so along a path
  along : (p : List Visit) (c k : Code) (l : Level) → AllCode Exist c → RunsTo c p k → (l ≢ Nothing → atom_exists registers a ≡ true) → fold_forward (level_step kind x a) p l ≢ Nothing → atom_exists registers a ≡ true
  along [] c k l all run old up = old up
  along (v ∷ p) c k l all run old up =
      let s = runs_step run in
      let here = all_first Exist c v.head all (head_of_first c v s.0) in
      along p (go c s.1.0) k (level_step kind x a v l) (all_go Exist c s.1.0 all) s.1.1
      (λ u. known_exists v.head l (level_step kind x a v l) here old (came kind x a v.head l u)) up

all_true : {X : Type 0} (test : X → Bool) (xs : List X) → list_all test xs ≡ true → AllByRecursion (λ y. test y ≡ true) xs
all_true test [] h = tt
all_true test (y ∷ ys) h = let q = and_parts (test y) (list_all test ys) h in (q.0, all_true test ys q.1)

module _ (kind : Kind) (d : Declared) (f g : Function) (fits : IsFunctionWellFormed d f) (forwarded : IsForwarded kind f g) where
  abbrev registers : ℕ
  registers = length f.registers

  abbrev functions : ℕ
  functions = length d.params

  abbrev tree : Tree
  tree = tree_of f.body

  all_exist : AllCode (λ h. numbers_exist registers functions h ≡ true) (placed 0 tree)
  all_exist =
      let exist = λ (h : Head). numbers_exist registers functions h ≡ true in
      let numbers = (and_parts _ _ (and_parts _ _ fits.numbers).1).0 in
      all_placed exist 0 tree (all_heads_of exist tree (subst (AllByRecursion exist) (sym (heads_agree f.body)) (all_true (numbers_exist registers functions) (heads_of_all f.body.statements) numbers)))

  best_exists : (site x : ℕ) (a : Atom) → site < sites_of tree → IsBest (placed 0 tree) site kind x (Some a) → atom_exists registers a ≡ true
  best_exists site x a h best =
      let l = levels_exist kind x a tree site h in
      let path = l.1.reached in
      let run = before_reaches (placed 0 tree) site path.0 path.1 in
      along registers functions kind x a path.0 (placed 0 tree) run.continuation Nothing all_exist run.run (λ up. absurd (up refl)) (λ n. best.0 l.0 l.1 (sym path.2 ∙ n))

  abbrev fitting : Head → Bool
  fitting h = head_fits registers d.na d.atomic d.params h

  copy_fits : (site r x : ℕ) (best : Option Atom) → site < sites_of tree → IsBest (placed 0 tree) site kind x best → fitting (Load r x) ≡ true → fitting (head_of_leaf (copy_or_load best r x)) ≡ true
  copy_fits site r x None h is e = e
  copy_fits site r x (Some a) h is e =
      let there = (and_parts (nat_lt r registers) _ e).0 in
      and_from (nat_lt r registers && atom_exists registers a) true (and_from (nat_lt r registers) (atom_exists registers a) there (best_exists site x a h is)) refl

  each_fits : (site : ℕ) (leaf : Leaf) → slice_get (heads_in tree) site ≡ Some (head_of_leaf leaf) → fitting (head_of_leaf leaf) ≡ true → fitting (head_of_leaf (forwarded_leaf (forwarded.best site) leaf)) ≡ true
  each_fits site =
      each_rewritten (λ leaf new. slice_get (heads_in tree) site ≡ Some (head_of_leaf leaf) → fitting (head_of_leaf leaf) ≡ true → fitting (head_of_leaf new) ≡ true)
      (record unchanged { load = λ r x. copy_or_load (forwarded.best site x) r x })
      (record {
        skip = λ at e. e;
        copy = λ r a at e. e;
        compute = λ r op a b at e. e;
        load = λ r x at e. copy_fits site r x (forwarded.best site x) (site_within tree site (Load r x) at) (forwarded.is_best site r x at) e;
        store = λ x a at e. e;
        other = λ leaf at e. e;
      })

pub forwarded_fits : ForwardedFits
forwarded_fits kind d f g fits forwarded =
    changed_fits (λ site. forwarded_leaf (forwarded.best site)) d f g (each_fits kind d f g fits forwarded) fits forwarded.changed
