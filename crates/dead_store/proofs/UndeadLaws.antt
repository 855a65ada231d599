-- A function has one function without its dead stores, which fits where it does.
use Rattle.std.proofs.Common.{◌≡◌, ◌<◌, ℕ, Bool, true, false, cond, length, List, Some, slice_get, refl, sym, arith}
use Rattle.std.proofs.lemmas.Option.{slice_get_within}
use Rattle.il_syntax.specs.declared.statement.Stmt.TheOpen.{Skip, Copy, Compute, Load, Store, AtomicLoad, AtomicStore, Update, Fence, Print, If, While, Call}
use Rattle.il_syntax.specs.Statements.{Head}
use Rattle.il_syntax.specs.Checks.{head_fits}
use Rattle.il_paths.specs.Tree.{Leaf, head_of_leaf, Tree, tree_of, heads_in, sites_of}
use Rattle.il_paths.proofs.Callers.{length-heads_in, site_within}
use Rattle.rewriting.proofs.Callers.{changed_is_one, changed_fits}
use Rattle.dead_store.specs.Undead.{dropped_leaf}
use Rattle.dead_store.specs.Laws.{UndeadIsOne, UndeadFits}

-- a leaf is changed in one way by tests that say the same
one_leaf : (one other : ℕ → Bool) → ((x : ℕ) → one x ≡ other x) → (leaf : Leaf) → dropped_leaf one leaf ≡ dropped_leaf other leaf
one_leaf one other e Skip = refl
one_leaf one other e (Copy r a) = refl
one_leaf one other e (Compute r op a b) = refl
one_leaf one other e (Load r x) = refl
one_leaf one other e (Store x a) = λ i. let s : Leaf = Skip in let t : Leaf = Store x a in cond (e x i) s t
one_leaf one other e (AtomicLoad r order y) = refl
one_leaf one other e (AtomicStore order y a) = refl
one_leaf one other e (Update r order y kind) = refl
one_leaf one other e (Fence order) = refl
one_leaf one other e (Print a) = refl
one_leaf one other e (If a none _) = absurd none
one_leaf one other e (While a none) = absurd none
one_leaf one other e (Call r function args) = refl

same_test : (p q : Bool) → (p ≡ true → q ≡ true) → (q ≡ true → p ≡ true) → p ≡ q
same_test true q f g = sym (f refl)
same_test false true f g = g refl
same_test false false f g = refl

pub undead_is_one : UndeadIsOne
undead_is_one f g h p q =
    changed_is_one (λ site. dropped_leaf (p.dead site)) (λ site. dropped_leaf (q.dead site)) f g h
    (λ site leaf e.
    let l = site_within (tree_of f.body) site (head_of_leaf leaf) e in
    one_leaf (p.dead site) (q.dead site) (λ x.
    same_test (p.dead site x) (q.dead site x) (λ d. (q.overwritten site x l).1 ((p.overwritten site x l).0 d)) (λ d. (p.overwritten site x l).1 ((q.overwritten site x l).0 d)))
    leaf)
    p.changed q.changed

-- a `skip` fits, and so does what stays
leaf_fits : (n na atomic : ℕ) (params : List ℕ) (dead : ℕ → Bool) (leaf : Leaf) → head_fits n na atomic params (head_of_leaf leaf) ≡ true → head_fits n na atomic params (head_of_leaf (dropped_leaf dead leaf)) ≡ true
leaf_fits n na atomic params dead Skip e = e
leaf_fits n na atomic params dead (Copy r a) e = e
leaf_fits n na atomic params dead (Compute r op a b) e = e
leaf_fits n na atomic params dead (Load r x) e = e
leaf_fits n na atomic params dead (Store x a) e = go (dead x) e
  where
    go : (b : Bool) → head_fits n na atomic params (Store x a) ≡ true → head_fits n na atomic params (head_of_leaf (let s : Leaf = Skip in let t : Leaf = Store x a in cond b s t)) ≡ true
    go true f = refl
    go false f = f
leaf_fits n na atomic params dead (AtomicLoad r order y) e = e
leaf_fits n na atomic params dead (AtomicStore order y a) e = e
leaf_fits n na atomic params dead (Update r order y kind) e = e
leaf_fits n na atomic params dead (Fence order) e = e
leaf_fits n na atomic params dead (Print a) e = e
leaf_fits n na atomic params dead (If a none _) e = absurd none
leaf_fits n na atomic params dead (While a none) e = absurd none
leaf_fits n na atomic params dead (Call r function args) e = e

pub undead_fits : UndeadFits
undead_fits d f g w u =
    changed_fits (λ site. dropped_leaf (u.dead site)) d f g
    (λ site leaf at e. leaf_fits (length f.registers) d.na d.atomic d.params (u.dead site) leaf e)
    w u.changed
