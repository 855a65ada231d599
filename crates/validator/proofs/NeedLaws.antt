-- What statements need, one after the other.
use Rattle.std.proofs.Common.{◌≡◌, ℕ, zero, suc, ◌+◌, ◌<◌, List, [], ◌∷◌, ◌++◌, map, length, get_or, drop, slice_get, Some, refl, ap, ◌∙◌, append_assoc, append-nil, arith}
use Rattle.std.proofs.lemmas.Option.{none-some, same_Some}
use Rattle.il_syntax.specs.declared.statement.Stmt.{Stmt}
use Rattle.il_syntax.specs.Statements.{Head}
use Rattle.il_paths.specs.Tree.{Tree, Empty, before_rest, tree_of_all, heads_in, sites_of}
use Rattle.il_paths.proofs.Callers.{Shape, plain_shape, if_shape, while_shape, shape_of, tree_of-drop, length-heads_in, site_within}
use Rattle.validator.specs.declared.told.Need.{Need}
use Rattle.validator.specs.Told.{need_of, needs_of, need_at}

map_append : (xs ys : List Head) → map need_of (xs ++ ys) ≡ map need_of xs ++ map need_of ys
map_append [] ys = refl
map_append (x ∷ xs) ys = ap (λ (l : List Need). need_of x ∷ l) (map_append xs ys)

heads_in-put : (put : Tree → Tree) (rest : Tree) → Shape put → heads_in (put rest) ≡ heads_in (put Empty) ++ heads_in rest
heads_in-put put rest (plain_shape leaf f) = rw (f rest, f Empty) refl
heads_in-put put rest (if_shape a one other f) = rw (f rest, f Empty) (simp (append-nil, append_assoc))
heads_in-put put rest (while_shape a body f) = rw (f rest, f Empty) (simp (append-nil, append_assoc))

pub needs_of-drop : (ss : List Stmt) (i : ℕ) (s : Stmt) → i < length ss → s ≡ get_or ss i s → needs_of (tree_of_all (drop i ss)) ≡ needs_of (before_rest s Empty) ++ needs_of (tree_of_all (drop (i + 1) ss))
needs_of-drop ss i s h e =
    let rest = tree_of_all (drop (i + 1) ss) in
    ap needs_of (tree_of-drop ss i s h e) ∙ ap (map need_of) (heads_in-put (before_rest s) rest (shape_of s)) ∙ map_append (heads_in (before_rest s Empty)) (heads_in rest)

map_length : (xs : List Head) → length (map need_of xs) ≡ length xs
map_length [] = refl
map_length (x ∷ xs) = omega (arith, map_length xs)

pub length-needs_of : (t : Tree) → length (needs_of t) ≡ sites_of t
length-needs_of t = map_length (heads_in t) ∙ length-heads_in t

need_there : (xs : List Head) (site : ℕ) (h : Head) → slice_get xs site ≡ Some h → need_at (map need_of xs) site ≡ need_of h
need_there [] site h e = absurd (none-some h e)
need_there (x ∷ xs) zero h e = ap need_of (same_Some x h e)
need_there (x ∷ xs) (suc site) h e = need_there xs site h e

-- the need at the site of a statement is that statement's
pub need_is : (t : Tree) (site : ℕ) (h : Head) → slice_get (heads_in t) site ≡ Some h → need_at (needs_of t) site ≡ need_of h
need_is t site h e = need_there (heads_in t) site h e

head_there : (xs : List Head) (site : ℕ) → site < length xs → (h : Head) × (slice_get xs site ≡ Some h)
head_there [] site k = absurd (omega (arith, k))
head_there (x ∷ xs) zero k = (x, refl)
head_there (x ∷ xs) (suc site) k = head_there xs site (omega (arith, k))

-- each site has a statement
pub head_at : (t : Tree) (site : ℕ) → site < sites_of t → (h : Head) × (slice_get (heads_in t) site ≡ Some h)
head_at t site k = head_there (heads_in t) site (omega (arith, k, length-heads_in t))
