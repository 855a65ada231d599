-- What stands at a site after a change in place.
use Rattle.std.proofs.Common.{◌≡◌, ◌<◌, ◌≤◌, ℕ, zero, suc, ◌+◌, ◌-◌, List, ◌++◌, length, Some, slice_get, refl, sym, ◌∙◌, subst, ◌⊎◌, inl, inr, arith}
use Rattle.std.proofs.lemmas.Bool.{cases_lt}
use Rattle.il_syntax.specs.declared.statement.Atom.{Atom}
use Rattle.il_syntax.specs.Statements.{Head}
use Rattle.il_syntax.specs.declared.statement.Stmt.TheOpen.{Load}
use Rattle.il_syntax.proofs.Callers.{slice_get-left, slice_get-right}
use Rattle.il_paths.specs.Tree.{Leaf, head_of_leaf, Tree, Empty, Then, IfThen, WhileThen, heads_in, sites_of}
use Rattle.il_paths.proofs.Callers.{length-heads_in}
use Rattle.rewriting.specs.Changed.{changed_tree}
use Rattle.rewriting.proofs.Leaves.{sites_stay}

-- a place in two lists of heads, one after the other, beside two of the same lengths
data Place (xs ys vs ws : List Head) (i : ℕ) : Type 0 where
  in_first : slice_get (xs ++ ys) i ≡ slice_get xs i → slice_get (vs ++ ws) i ≡ slice_get vs i → Place xs ys vs ws i
  in_second : (j : ℕ) → i ≡ length xs + j → slice_get (xs ++ ys) i ≡ slice_get ys j → slice_get (vs ++ ws) i ≡ slice_get ws j → Place xs ys vs ws i

place : (xs ys vs ws : List Head) (i : ℕ) → length xs ≡ length vs → Place xs ys vs ws i
place xs ys vs ws i e = go (cases_lt i (length xs))
  where
    go : (i < length xs) ⊎ (length xs ≤ i) → Place xs ys vs ws i
    go (inl l) = in_first (slice_get-left xs ys i l) (slice_get-left vs ws i (omega arith))
    go (inr l) = in_second (i - length xs) (omega arith) (slice_get-right xs ys i (i - length xs) (omega arith)) (slice_get-right vs ws i (i - length xs) (omega arith))

-- A load after the change comes of the statement that stood at its site.
pub record CameOf (changed : ℕ → Leaf → Leaf) (n : ℕ) (t : Tree) (i r x : ℕ) : Type 0 where
  pub leaf : Leaf
  pub stood : slice_get (heads_in t) i ≡ Some (head_of_leaf leaf)
  pub is : head_of_leaf (changed (n + i) leaf) ≡ Load r x

some_is : {h k : Head} → Some h ≡ Some k → h ≡ k
some_is {h} {k} e = cc

module _ (changed : ℕ → Leaf → Leaf) (r x : ℕ) where
  -- from a part of the tree to the tree
  moved : (n m i j : ℕ) (part whole : Tree) → m + j ≡ n + i → slice_get (heads_in whole) i ≡ slice_get (heads_in part) j → CameOf changed m part j r x → CameOf changed n whole i r x
  moved n m i j part whole e f c = record { leaf = c.leaf; stood = f ∙ c.stood; is = subst (λ k. head_of_leaf (changed k c.leaf) ≡ Load r x) e c.is }

  same_length : (n : ℕ) (t : Tree) → length (heads_in (changed_tree changed n t)) ≡ length (heads_in t)
  same_length n t = length-heads_in (changed_tree changed n t) ∙ sites_stay changed n t ∙ sym (length-heads_in t)

  -- what is known of a part
  abbrev Came : ℕ → Tree → Type 0
  Came n t = (i : ℕ) → slice_get (heads_in (changed_tree changed n t)) i ≡ Some (Load r x) → CameOf changed n t i r x

  in_blocks : (n : ℕ) (a : Atom) (y m rest : Tree) → Came (n + 1) y → Came (n + 1 + sites_of y) m → Came (n + 1 + sites_of y + sites_of m) rest → (i : ℕ) →
      slice_get (heads_in (changed_tree changed (n + 1) y) ++ (heads_in (changed_tree changed (n + 1 + sites_of y) m) ++ heads_in (changed_tree changed (n + 1 + sites_of y + sites_of m) rest))) i ≡ Some (Load r x) →
      CameOf changed n (IfThen a y m rest) (suc i) r x
  in_blocks n a y m rest of_y of_m of_rest i e =
      first (place (heads_in (changed_tree changed (n + 1) y)) (heads_in (changed_tree changed (n + 1 + sites_of y) m) ++ heads_in (changed_tree changed (n + 1 + sites_of y + sites_of m) rest)) (heads_in y) (heads_in m ++ heads_in rest) i (same_length (n + 1) y))
    where
      later : (j : ℕ) → i ≡ length (heads_in (changed_tree changed (n + 1) y)) + j → slice_get (heads_in (changed_tree changed (n + 1 + sites_of y) m) ++ heads_in (changed_tree changed (n + 1 + sites_of y + sites_of m) rest)) j ≡ Some (Load r x) →
          slice_get (heads_in y ++ (heads_in m ++ heads_in rest)) i ≡ slice_get (heads_in m ++ heads_in rest) j →
          Place (heads_in (changed_tree changed (n + 1 + sites_of y) m)) (heads_in (changed_tree changed (n + 1 + sites_of y + sites_of m) rest)) (heads_in m) (heads_in rest) j → CameOf changed n (IfThen a y m rest) (suc i) r x
      later j k f g (in_first p q) =
          let l = length-heads_in y in
          let s = same_length (n + 1) y in
          moved n (n + 1 + sites_of y) (suc i) j m (IfThen a y m rest) (omega arith) (g ∙ q) (of_m j (sym p ∙ f))
      later j k f g (in_second o u p q) =
          let l = length-heads_in y in
          let s = same_length (n + 1) y in
          let l2 = length-heads_in m in
          let s2 = same_length (n + 1 + sites_of y) m in
          moved n (n + 1 + sites_of y + sites_of m) (suc i) o rest (IfThen a y m rest) (omega arith) (g ∙ q) (of_rest o (sym p ∙ f))

      first : Place (heads_in (changed_tree changed (n + 1) y)) (heads_in (changed_tree changed (n + 1 + sites_of y) m) ++ heads_in (changed_tree changed (n + 1 + sites_of y + sites_of m) rest)) (heads_in y) (heads_in m ++ heads_in rest) i → CameOf changed n (IfThen a y m rest) (suc i) r x
      first (in_first p q) = moved n (n + 1) (suc i) i y (IfThen a y m rest) (omega arith) q (of_y i (sym p ∙ e))
      first (in_second j k p q) =
          later j k (sym p ∙ e) q (place (heads_in (changed_tree changed (n + 1 + sites_of y) m)) (heads_in (changed_tree changed (n + 1 + sites_of y + sites_of m) rest)) (heads_in m) (heads_in rest) j (same_length (n + 1 + sites_of y) m))

  in_body : (n : ℕ) (a : Atom) (body rest : Tree) → Came (n + 1) body → Came (n + 1 + sites_of body) rest → (i : ℕ) →
      slice_get (heads_in (changed_tree changed (n + 1) body) ++ heads_in (changed_tree changed (n + 1 + sites_of body) rest)) i ≡ Some (Load r x) → CameOf changed n (WhileThen a body rest) (suc i) r x
  in_body n a body rest of_body of_rest i e =
      first (place (heads_in (changed_tree changed (n + 1) body)) (heads_in (changed_tree changed (n + 1 + sites_of body) rest)) (heads_in body) (heads_in rest) i (same_length (n + 1) body))
    where
      first : Place (heads_in (changed_tree changed (n + 1) body)) (heads_in (changed_tree changed (n + 1 + sites_of body) rest)) (heads_in body) (heads_in rest) i → CameOf changed n (WhileThen a body rest) (suc i) r x
      first (in_first p q) = moved n (n + 1) (suc i) i body (WhileThen a body rest) (omega arith) q (of_body i (sym p ∙ e))
      first (in_second j k p q) =
          let l = length-heads_in body in
          let s = same_length (n + 1) body in
          moved n (n + 1 + sites_of body) (suc i) j rest (WhileThen a body rest) (omega arith) q (of_rest j (sym p ∙ e))

  pub came_of : (n : ℕ) (t : Tree) (i : ℕ) → slice_get (heads_in (changed_tree changed n t)) i ≡ Some (Load r x) → CameOf changed n t i r x
  came_of n Empty i e = absurd cc
  came_of n (Then leaf rest) zero e =
      let same : n ≡ n + 0 = omega arith in
      record { leaf = leaf; stood = refl; is = subst (λ k. head_of_leaf (changed k leaf) ≡ Load r x) same (some_is e) }
  came_of n (Then leaf rest) (suc i) e = moved n (n + 1) (suc i) i rest (Then leaf rest) (omega arith) refl (came_of (n + 1) rest i e)
  came_of n (IfThen a y m rest) zero e = absurd cc
  came_of n (IfThen a y m rest) (suc i) e = in_blocks n a y m rest (came_of (n + 1) y) (came_of (n + 1 + sites_of y) m) (came_of (n + 1 + sites_of y + sites_of m) rest) i e
  came_of n (WhileThen a body rest) zero e = absurd cc
  came_of n (WhileThen a body rest) (suc i) e = in_body n a body rest (came_of (n + 1) body) (came_of (n + 1 + sites_of body) rest) i e
