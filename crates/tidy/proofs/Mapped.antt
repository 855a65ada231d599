-- The statements of a tree in text order, after each was changed in place.
use Rattle.std.proofs.Common.{◌≡◌, ℕ, zero, suc, ◌+◌, List, [], ◌∷◌, ◌++◌, length, map, Option, Some, slice_get, refl, sym, ap, ◌∙◌, arith}
use Rattle.std.proofs.lemmas.Option.{none-some, same_Some}
use Rattle.il_syntax.specs.declared.statement.Atom.{Atom}
use Rattle.il_syntax.specs.declared.statement.Stmt.TheOpen.{Skip, Copy, Compute, Load, Store, AtomicLoad, AtomicStore, Update, Fence, Print, If, While, Call}
use Rattle.il_syntax.specs.Statements.{Head}
use Rattle.il_paths.specs.Tree.{Leaf, head_of_leaf, Tree, Empty, Then, IfThen, WhileThen, heads_in, sites_of}
use Rattle.il_paths.proofs.Callers.{length-heads_in}
use Rattle.rewriting.specs.Changed.{changed_tree}
use Rattle.tidy.specs.Atoms.{atoms_in, with_atoms}
use Rattle.tidy.specs.Propagated.{propagated_atom, propagated_tree}
use Rattle.tidy.specs.Accepts.{SameBlocks}

-- each element by its place, counted from one
abbrev pub mapped : (ℕ → Head → Head) → ℕ → List Head → List Head
mapped F n [] = []
mapped F n (h ∷ hs) = F n h ∷ mapped F (n + 1) hs

pub mapped-append : (F : ℕ → Head → Head) (n : ℕ) (xs ys : List Head) → mapped F n (xs ++ ys) ≡ mapped F n xs ++ mapped F (n + length xs) ys
mapped-append F n [] ys = let same : n ≡ n + 0 = omega arith in ap (λ (m : ℕ). mapped F m ys) same
mapped-append F n (x ∷ xs) ys =
    let same : n + 1 + length xs ≡ n + suc (length xs) = omega arith in
    ap (λ (hs : List Head). F n x ∷ hs) (mapped-append F (n + 1) xs ys ∙ ap (λ (m : ℕ). mapped F (n + 1) xs ++ mapped F m ys) same)

pub mapped_at : (F : ℕ → Head → Head) (n : ℕ) (hs : List Head) (i : ℕ) (h : Head) → slice_get hs i ≡ Some h → slice_get (mapped F n hs) i ≡ Some (F (n + i) h)
mapped_at F n [] i h e = absurd (none-some h e)
mapped_at F n (x ∷ hs) zero h e = let same : n ≡ n + 0 = omega arith in λ j. Some (F (same j) (same_Some x h e j))
mapped_at F n (x ∷ hs) (suc i) h e = let same : n + 1 + i ≡ n + suc i = omega arith in mapped_at F (n + 1) hs i h e ∙ ap (λ (m : ℕ). Some (F m h)) same

-- counted from 0
pub mapped_there : (F : ℕ → Head → Head) (hs : List Head) (i : ℕ) (h : Head) → slice_get hs i ≡ Some h → slice_get (mapped F 0 hs) i ≡ Some (F i h)
mapped_there F hs i h e = let same : 0 + i ≡ i = omega arith in mapped_at F 0 hs i h e ∙ ap (λ (m : ℕ). Some (F m h)) same

-- two parts, and three
two_parts : (F : ℕ → Head → Head) (n m : ℕ) (xs ys us vs : List Head) → length xs ≡ m → us ≡ mapped F n xs → vs ≡ mapped F (n + m) ys → us ++ vs ≡ mapped F n (xs ++ ys)
two_parts F n m xs ys us vs l u v =
    (λ i. u i ++ (v ∙ ap (λ (k : ℕ). mapped F (n + k) ys) (sym l)) i) ∙ sym (mapped-append F n xs ys)

-- a change that leaves `if` and `while`
module _ (changed : ℕ → Leaf → Leaf) (F : ℕ → Head → Head) (leaves : (site : ℕ) (leaf : Leaf) → head_of_leaf (changed site leaf) ≡ F site (head_of_leaf leaf))
    (ifs : (site : ℕ) (a : Atom) → F site (If a tt tt) ≡ If a tt tt) (whiles : (site : ℕ) (a : Atom) → F site (While a tt) ≡ While a tt) where
  pub heads_changed : (n : ℕ) (t : Tree) → heads_in (changed_tree changed n t) ≡ mapped F n (heads_in t)
  heads_changed n Empty = refl
  heads_changed n (Then leaf rest) = λ i. leaves n leaf i ∷ heads_changed (n + 1) rest i
  heads_changed n (IfThen a y m rest) =
      λ i. sym (ifs n a) i ∷ two_parts F (n + 1) (sites_of y) (heads_in y) (heads_in m ++ heads_in rest) _ _ (length-heads_in y) (heads_changed (n + 1) y)
      (two_parts F (n + 1 + sites_of y) (sites_of m) (heads_in m) (heads_in rest) _ _ (length-heads_in m) (heads_changed (n + 1 + sites_of y) m) (heads_changed (n + 1 + sites_of y + sites_of m) rest)) i
  heads_changed n (WhileThen a body rest) =
      λ i. sym (whiles n a) i ∷ two_parts F (n + 1) (sites_of body) (heads_in body) (heads_in rest) _ _ (length-heads_in body) (heads_changed (n + 1) body) (heads_changed (n + 1 + sites_of body) rest) i

-- atoms replaced
abbrev pub replaced_head : (ℕ → ℕ → Option Atom) → ℕ → Head → Head
replaced_head least site head = with_atoms head (map (propagated_atom (least site)) (atoms_in head))

replaced_leaf : (least : ℕ → Option Atom) (leaf : Leaf) → head_of_leaf (with_atoms leaf (map (propagated_atom least) (atoms_in leaf))) ≡ with_atoms (head_of_leaf leaf) (map (propagated_atom least) (atoms_in (head_of_leaf leaf)))
replaced_leaf least Skip = refl
replaced_leaf least (Copy r a) = refl
replaced_leaf least (Compute r op a b) = refl
replaced_leaf least (Load r x) = refl
replaced_leaf least (Store x a) = refl
replaced_leaf least (AtomicLoad r order y) = refl
replaced_leaf least (AtomicStore order y a) = refl
replaced_leaf least (Update r order y kind) = refl
replaced_leaf least (Fence order) = refl
replaced_leaf least (Print a) = refl
replaced_leaf least (If a none _) = absurd none
replaced_leaf least (While a none) = absurd none
replaced_leaf least (Call r f args) = refl

pub heads_replaced : (least : ℕ → ℕ → Option Atom) (n : ℕ) (t : Tree) → heads_in (propagated_tree least n t) ≡ mapped (replaced_head least) n (heads_in t)
heads_replaced least n Empty = refl
heads_replaced least n (Then leaf rest) = λ i. replaced_leaf (least n) leaf i ∷ heads_replaced least (n + 1) rest i
heads_replaced least n (IfThen a y m rest) =
    ap (λ (hs : List Head). If (propagated_atom (least n) a) tt tt ∷ hs) (two_parts (replaced_head least) (n + 1) (sites_of y) (heads_in y) (heads_in m ++ heads_in rest) _ _ (length-heads_in y) (heads_replaced least (n + 1) y)
    (two_parts (replaced_head least) (n + 1 + sites_of y) (sites_of m) (heads_in m) (heads_in rest) _ _ (length-heads_in m) (heads_replaced least (n + 1 + sites_of y) m) (heads_replaced least (n + 1 + sites_of y + sites_of m) rest)))
heads_replaced least n (WhileThen a body rest) =
    ap (λ (hs : List Head). While (propagated_atom (least n) a) tt ∷ hs) (two_parts (replaced_head least) (n + 1) (sites_of body) (heads_in body) (heads_in rest) _ _ (length-heads_in body) (heads_replaced least (n + 1) body) (heads_replaced least (n + 1 + sites_of body) rest))

-- ---- blocks

pub blocks_replaced : (least : ℕ → ℕ → Option Atom) (n : ℕ) (t : Tree) → SameBlocks t (propagated_tree least n t)
blocks_replaced least n Empty = tt
blocks_replaced least n (Then leaf rest) = blocks_replaced least (n + 1) rest
blocks_replaced least n (IfThen a y m rest) = (blocks_replaced least (n + 1) y, blocks_replaced least (n + 1 + sites_of y) m, blocks_replaced least (n + 1 + sites_of y + sites_of m) rest)
blocks_replaced least n (WhileThen a body rest) = (blocks_replaced least (n + 1) body, blocks_replaced least (n + 1 + sites_of body) rest)

pub blocks_same : (t : Tree) → SameBlocks t t
blocks_same Empty = tt
blocks_same (Then leaf rest) = blocks_same rest
blocks_same (IfThen a y m rest) = (blocks_same y, blocks_same m, blocks_same rest)
blocks_same (WhileThen a body rest) = (blocks_same body, blocks_same rest)

pub blocks_changed : (changed : ℕ → Leaf → Leaf) (n : ℕ) (t u : Tree) → SameBlocks t u → SameBlocks t (changed_tree changed n u)
blocks_changed changed n Empty Empty h = tt
blocks_changed changed n (Then one rest) (Then other more) h = blocks_changed changed (n + 1) rest more h
blocks_changed changed n (IfThen a y m rest) (IfThen b y' m' more) h =
    (blocks_changed changed (n + 1) y y' h.0, blocks_changed changed (n + 1 + sites_of y') m m' h.1, blocks_changed changed (n + 1 + sites_of y' + sites_of m') rest more h.2)
blocks_changed changed n (WhileThen a body rest) (WhileThen b body' more) h = (blocks_changed changed (n + 1) body body' h.0, blocks_changed changed (n + 1 + sites_of body') rest more h.1)
blocks_changed changed n Empty (Then other more) h = absurd h
blocks_changed changed n Empty (IfThen b y' m' more) h = absurd h
blocks_changed changed n Empty (WhileThen b body' more) h = absurd h
blocks_changed changed n (Then one rest) Empty h = absurd h
blocks_changed changed n (Then one rest) (IfThen b y' m' more) h = absurd h
blocks_changed changed n (Then one rest) (WhileThen b body' more) h = absurd h
blocks_changed changed n (IfThen a y m rest) Empty h = absurd h
blocks_changed changed n (IfThen a y m rest) (Then other more) h = absurd h
blocks_changed changed n (IfThen a y m rest) (WhileThen b body' more) h = absurd h
blocks_changed changed n (WhileThen a body rest) Empty h = absurd h
blocks_changed changed n (WhileThen a body rest) (Then other more) h = absurd h
blocks_changed changed n (WhileThen a body rest) (IfThen b y' m' more) h = absurd h
