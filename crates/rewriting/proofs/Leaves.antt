-- What holds of each statement of a tree at its site, and what a change in place leaves as it is.
use Rattle.std.proofs.Common.{◌≡◌, ℕ, ◌+◌, List, [], ◌∷◌, ◌++◌, length, Some, slice_get, refl, sym, ap, ◌∙◌, subst, arith}
use Rattle.std.proofs.lemmas.Option.{slice_get_within}
use Rattle.il_syntax.specs.Statements.{Head}
use Rattle.il_syntax.proofs.Callers.{slice_get-left, slice_get-right}
use Rattle.il_syntax.specs.declared.statement.Stmt.TheOpen.{If, While}
use Rattle.il_paths.specs.Tree.{Leaf, head_of_leaf, Tree, Empty, Then, IfThen, WhileThen, heads_in, sites_of}
use Rattle.il_paths.proofs.Callers.{length-heads_in}
use Rattle.rewriting.specs.Changed.{changed_tree}
use Rattle.rewriting.specs.Laws.{AtEachSite}

-- a fact of each statement of the tree, counted from a site
abbrev pub AllLeaves : (ℕ → Leaf → Type 0) → ℕ → Tree → Type 0
AllLeaves P n Empty = Unit {0}
AllLeaves P n (Then leaf rest) = P n leaf × AllLeaves P (n + 1) rest
AllLeaves P n (IfThen a yes_block no_block rest) =
    AllLeaves P (n + 1) yes_block × AllLeaves P (n + 1 + sites_of yes_block) no_block × AllLeaves P (n + 1 + sites_of yes_block + sites_of no_block) rest
AllLeaves P n (WhileThen a body rest) = AllLeaves P (n + 1) body × AllLeaves P (n + 1 + sites_of body) rest

get_left : (xs ys : List Head) (i : ℕ) (x : Head) → slice_get xs i ≡ Some x → slice_get (xs ++ ys) i ≡ Some x
get_left xs ys i x e = slice_get-left xs ys i (slice_get_within xs i x e) ∙ e

get_right : (xs ys : List Head) (n i : ℕ) → length xs ≡ n → slice_get (xs ++ ys) (n + i) ≡ slice_get ys i
get_right xs ys n i e = slice_get-right xs ys (n + i) i (ap (λ m. m + i) (sym e))

abbrev From : (ℕ → Leaf → Type 0) → ℕ → List Head → Type 0
From P n heads = (i : ℕ) (leaf : Leaf) → slice_get heads i ≡ Some (head_of_leaf leaf) → P (n + i) leaf

behind : (P : ℕ → Leaf → Type 0) (n m : ℕ) (xs ys : List Head) → length xs ≡ m → From P n (xs ++ ys) → From P (n + m) ys
behind P n m xs ys e f i leaf g =
    let same : n + (m + i) ≡ n + m + i = omega arith in
    subst (λ k. P k leaf) same (f (m + i) leaf (get_right xs ys m i e ∙ g))

before : (P : ℕ → Leaf → Type 0) (n : ℕ) (xs ys : List Head) → From P n (xs ++ ys) → From P n xs
before P n xs ys f i leaf g = f i leaf (get_left xs ys i (head_of_leaf leaf) g)

pub all_leaves_from : (P : ℕ → Leaf → Type 0) (n : ℕ) (t : Tree) → From P n (heads_in t) → AllLeaves P n t
all_leaves_from P n Empty f = tt
all_leaves_from P n (Then leaf rest) f =
    let same : n + 0 ≡ n = omega arith in
    (subst (λ k. P k leaf) same (f 0 leaf refl), all_leaves_from P (n + 1) rest (behind P n 1 (head_of_leaf leaf ∷ []) (heads_in rest) (omega arith) f))
all_leaves_from P n (IfThen a yes_block no_block rest) f =
    let inner = heads_in yes_block ++ (heads_in no_block ++ heads_in rest) in
    let g = behind P n 1 (If a tt tt ∷ []) inner (omega arith) f in
    let h = behind P (n + 1) (sites_of yes_block) (heads_in yes_block) (heads_in no_block ++ heads_in rest) (length-heads_in yes_block) g in
    let k = behind P (n + 1 + sites_of yes_block) (sites_of no_block) (heads_in no_block) (heads_in rest) (length-heads_in no_block) h in (
      all_leaves_from P (n + 1) yes_block (before P (n + 1) (heads_in yes_block) (heads_in no_block ++ heads_in rest) g),
      all_leaves_from P (n + 1 + sites_of yes_block) no_block (before P (n + 1 + sites_of yes_block) (heads_in no_block) (heads_in rest) h),
      all_leaves_from P (n + 1 + sites_of yes_block + sites_of no_block) rest k,
    )
all_leaves_from P n (WhileThen a body rest) f =
    let g = behind P n 1 (While a tt ∷ []) (heads_in body ++ heads_in rest) (omega arith) f in
    let h = behind P (n + 1) (sites_of body) (heads_in body) (heads_in rest) (length-heads_in body) g in
    (all_leaves_from P (n + 1) body (before P (n + 1) (heads_in body) (heads_in rest) g), all_leaves_from P (n + 1 + sites_of body) rest h)

-- what holds at each site holds of each statement, counted from 0
pub all_leaves : (P : ℕ → Leaf → Type 0) (t : Tree) → AtEachSite P t → AllLeaves P 0 t
all_leaves P t f =
    all_leaves_from P 0 t (λ i leaf e. let same : i ≡ 0 + i = omega arith in subst (λ k. P k leaf) same (f i leaf e))

-- all sites stay
pub sites_stay : (changed : ℕ → Leaf → Leaf) (site : ℕ) (t : Tree) → sites_of (changed_tree changed site t) ≡ sites_of t
sites_stay changed n Empty = refl
sites_stay changed n (Then leaf rest) = omega (arith, sites_stay changed (n + 1) rest)
sites_stay changed n (IfThen a yes_block no_block rest) =
    omega (arith, sites_stay changed (n + 1) yes_block, sites_stay changed (n + 1 + sites_of yes_block) no_block, sites_stay changed (n + 1 + sites_of yes_block + sites_of no_block) rest)
sites_stay changed n (WhileThen a body rest) =
    omega (arith, sites_stay changed (n + 1) body, sites_stay changed (n + 1 + sites_of body) rest)

-- changes that agree on the statements of a tree make one tree of it
pub one_tree : (one other : ℕ → Leaf → Leaf) (n : ℕ) (t : Tree) → AllLeaves (λ site leaf. one site leaf ≡ other site leaf) n t → changed_tree one n t ≡ changed_tree other n t
one_tree one other n Empty e = refl
one_tree one other n (Then leaf rest) e = λ i. Then (e.0 i) (one_tree one other (n + 1) rest e.1 i)
one_tree one other n (IfThen a yes_block no_block rest) e =
    λ i. IfThen a (one_tree one other (n + 1) yes_block e.0 i) (one_tree one other (n + 1 + sites_of yes_block) no_block e.1 i) (one_tree one other (n + 1 + sites_of yes_block + sites_of no_block) rest e.2 i)
one_tree one other n (WhileThen a body rest) e =
    λ i. WhileThen a (one_tree one other (n + 1) body e.0 i) (one_tree one other (n + 1 + sites_of body) rest e.1 i)
