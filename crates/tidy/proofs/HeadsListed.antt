-- The statements of a tree one after the other, and blocks beside blocks.
use Rattle.std.proofs.Common.{◌≡◌, ℕ, zero, suc, ◌+◌, ◌<◌, ◌≤◌, false, eqb, List, [], ◌∷◌, ◌++◌, length, map, get_or, drop, refl, sym, ap, ◌∙◌, append_assoc, append-nil, ⊎_elim, arith}
use Rattle.std.proofs.lemmas.Bool.{cases_lt, cases_eq, eq-eqb, ne_eqb}
use Rattle.std.proofs.lemmas.List.{drop_all}
use Rattle.il_syntax.specs.declared.statement.Stmt.{Stmt}
use Rattle.il_syntax.specs.Statements.{Head, head_of}
use Rattle.il_paths.specs.Tree.{Tree, Empty, before_rest, tree_of_all, heads_in}
use Rattle.il_paths.proofs.Callers.{Shape, plain_shape, if_shape, while_shape, shape_of, tree_of-drop}
use Rattle.tidy.specs.Decided.{same_blocks}

heads_in-put : (put : Tree → Tree) (rest : Tree) → Shape put → heads_in (put rest) ≡ heads_in (put Empty) ++ heads_in rest
heads_in-put put rest (plain_shape leaf f) = rw (f rest, f Empty) refl
heads_in-put put rest (if_shape a one other f) = rw (f rest, f Empty) (simp (append-nil, append_assoc))
heads_in-put put rest (while_shape a body f) = rw (f rest, f Empty) (simp (append-nil, append_assoc))

pub heads_in-drop : (ss : List Stmt) (i : ℕ) (s : Stmt) → i < length ss → s ≡ get_or ss i s → heads_in (tree_of_all (drop i ss)) ≡ heads_in (before_rest s Empty) ++ heads_in (tree_of_all (drop (i + 1) ss))
heads_in-drop ss i s h e = ap heads_in (tree_of-drop ss i s h e) ∙ heads_in-put (before_rest s) (tree_of_all (drop (i + 1) ss)) (shape_of s)

pub heads_push : (xs : List Stmt) (s : Stmt) → map head_of (xs ++ s ∷ []) ≡ map head_of xs ++ head_of s ∷ []
heads_push [] s = refl
heads_push (x ∷ xs) s = ap (λ (hs : List Head). head_of x ∷ hs) (heads_push xs s)

-- ---- blocks

put_none : (put : Tree → Tree) (rest : Tree) → Shape put → same_blocks (put rest) Empty ≡ false
put_none put rest (plain_shape leaf f) = ap (λ (t : Tree). same_blocks t Empty) (f rest)
put_none put rest (if_shape a one other f) = ap (λ (t : Tree). same_blocks t Empty) (f rest)
put_none put rest (while_shape a body f) = ap (λ (t : Tree). same_blocks t Empty) (f rest)

none_put : (put : Tree → Tree) (rest : Tree) → Shape put → same_blocks Empty (put rest) ≡ false
none_put put rest (plain_shape leaf f) = ap (λ (t : Tree). same_blocks Empty t) (f rest)
none_put put rest (if_shape a one other f) = ap (λ (t : Tree). same_blocks Empty t) (f rest)
none_put put rest (while_shape a body f) = ap (λ (t : Tree). same_blocks Empty t) (f rest)

-- a statement more on one side alone
pub too_few : (ss os : List Stmt) (i : ℕ) (s : Stmt) → i < length ss → s ≡ get_or ss i s → length os ≤ i → same_blocks (tree_of_all (drop i ss)) (tree_of_all (drop i os)) ≡ false
too_few ss os i s h e l =
    (λ j. same_blocks (tree_of-drop ss i s h e j) (tree_of_all (drop_all i os l j))) ∙ put_none (before_rest s) (tree_of_all (drop (i + 1) ss)) (shape_of s)

there : (os : List Stmt) (i : ℕ) → i < length os → (s : Stmt) × (s ≡ get_or os i s)
there [] i l = absurd (omega (arith, l))
there (o ∷ os) zero l = (o, refl)
there (o ∷ os) (suc i) l = there os i (omega (arith, l))

pub at_the_end : (ss os : List Stmt) (i : ℕ) → length ss ≤ i → i ≤ length os → same_blocks (tree_of_all (drop i ss)) (tree_of_all (drop i os)) ≡ eqb i (length os)
at_the_end ss os i h l = ap (λ (xs : List Stmt). same_blocks (tree_of_all xs) (tree_of_all (drop i os))) (drop_all i ss h) ∙ ⊎_elim none more (cases_eq i (length os))
  where
    none : i ≡ length os → same_blocks Empty (tree_of_all (drop i os)) ≡ eqb i (length os)
    none e = ap (λ (ys : List Stmt). same_blocks Empty (tree_of_all ys)) (drop_all i os (omega (arith, e))) ∙ sym (eq-eqb i (length os) e)

    more : (i ≡ length os → ⊥) → same_blocks Empty (tree_of_all (drop i os)) ≡ eqb i (length os)
    more n =
        let inside : i < length os = ⊎_elim (λ (k : i < length os). k) (λ (k : length os ≤ i). absurd (n (omega (arith, k, l)))) (cases_lt i (length os)) in
        let o = there os i inside in
        ap (same_blocks Empty) (tree_of-drop os i o.0 inside o.1) ∙ none_put (before_rest o.0) (tree_of_all (drop (i + 1) os)) (shape_of o.0) ∙ sym (ne_eqb i (length os) n)
