-- What holds of each statement of code, and so of the one that a run comes to.
use Rattle.std.proofs.Common.{◌≡◌, ℕ, ◌+◌, List, [], ◌∷◌, ◌++◌, length, slice_get, Some, refl, sym, ◌∙◌, subst, arith, append_assoc, append-nil, length-append}
use Rattle.std.proofs.lemmas.Option.{none-some, same_Some}
use Rattle.il_syntax.specs.declared.statement.Stmt.TheOpen.{If, While}
use Rattle.il_syntax.specs.Statements.{Head}
use Rattle.il_paths.specs.Tree.{head_of_leaf, Tree, Empty, Then, IfThen, WhileThen, sites_of, heads_in}
use Rattle.il_paths.specs.Code.{Visit, Code, End, Plain, Branch, Loop, placed, join, first}
use Rattle.il_paths.specs.Paths.{IsPath, RunsTo, here, on, into_yes_block, into_no_block, around, out}
use Rattle.il_paths.proofs.Callers.{path_runs, runs_halves, runs_first, length-heads_in}

-- each statement of the code
abbrev pub AllVisits : (Visit → Type 0) → Code → Type 0
AllVisits P End = Unit {0}
AllVisits P (Plain v rest) = P v × AllVisits P rest
AllVisits P (Branch v yes_block no_block rest) = P v × AllVisits P yes_block × AllVisits P no_block × AllVisits P rest
AllVisits P (Loop v body rest) = P v × AllVisits P body × AllVisits P rest

pub all_join : (P : Visit → Type 0) (a b : Code) → AllVisits P a → AllVisits P b → AllVisits P (join a b)
all_join P End b f g = g
all_join P (Plain v rest) b f g = (f.0, all_join P rest b f.1 g)
all_join P (Branch v y n rest) b f g = (f.0, f.1, f.2, all_join P rest b f.3 g)
all_join P (Loop v body rest) b f g = (f.0, f.1, all_join P rest b f.2 g)

-- what holds of each statement holds of each that is still to do
pub all_runs : (P : Visit → Type 0) {c k : Code} {p : List Visit} → RunsTo c p k → AllVisits P c → AllVisits P k
all_runs P here f = f
all_runs P (on l) f = all_runs P l f.1
all_runs P (into_yes_block {yes_block = y} {rest = r} l) f = all_runs P l (all_join P y r f.1 f.3)
all_runs P (into_no_block {no_block = n} {rest = r} l) f = all_runs P l (all_join P n r f.2 f.3)
all_runs P (around {v = v} {body = b} {rest = r} l) f = all_runs P l (all_join P b (Loop v b r) f.1 f)
all_runs P (out l) f = all_runs P l f.2

pub all_first : (P : Visit → Type 0) (c : Code) (v : Visit) → first c ≡ Some v → AllVisits P c → P v
all_first P End v e f = absurd (none-some v e)
all_first P (Plain w rest) v e f = subst P (same_Some w v e) f.0
all_first P (Branch w y n rest) v e f = subst P (same_Some w v e) f.0
all_first P (Loop w body rest) v e f = subst P (same_Some w v e) f.0

-- the statement stands on the list at its site
abbrev StandsIn : List Head → Visit → Type 0
StandsIn all v = slice_get all v.site ≡ Some v.head

seam : (pre post : List Head) (n : Head) → slice_get (pre ++ (n ∷ post)) (length pre) ≡ Some n
seam [] post n = refl
seam (m ∷ pre) post n = seam pre post n

at_seam : (all pre post : List Head) (n : Head) (site : ℕ) → all ≡ pre ++ (n ∷ post) → length pre ≡ site → slice_get all site ≡ Some n
at_seam all pre post n site e h = rw (e, ← h) (seam pre post n)

all_placed : (t : Tree) (all pre post : List Head) (n : ℕ) → all ≡ pre ++ (heads_in t ++ post) → length pre ≡ n → AllVisits (StandsIn all) (placed n t)
all_placed Empty all pre post n e h = tt
all_placed (Then leaf rest) all pre post n e h =
    let m = head_of_leaf leaf in
    (at_seam all pre _ m n e h, all_placed rest all (pre ++ m ∷ []) post (n + 1) (e ∙ sym (append_assoc pre (m ∷ []) _)) (omega (arith, length-append pre (m ∷ []))))
all_placed (IfThen test a b rest) all pre post n e h =
    let m : Head = If test tt tt in
    let ta = heads_in a in
    let tb = heads_in b in
    let tr = heads_in rest in
    let pa = pre ++ m ∷ [] in
    let na = length-append pre (m ∷ []) in
    let nb = length-append pa ta in
    let nr = length-append (pa ++ ta) tb in (
      at_seam all pre _ m n e h,
      all_placed a all pa (tb ++ (tr ++ post)) (n + 1) (e ∙ simp append_assoc) (omega arith),
      all_placed b all (pa ++ ta) (tr ++ post) (n + 1 + sites_of a) (e ∙ simp append_assoc) (omega (arith, length-heads_in a)),
      all_placed rest all ((pa ++ ta) ++ tb) post (n + 1 + sites_of a + sites_of b) (e ∙ simp append_assoc) (omega (arith, length-heads_in a, length-heads_in b)),
    )
all_placed (WhileThen test a rest) all pre post n e h =
    let m : Head = While test tt in
    let ta = heads_in a in
    let tr = heads_in rest in
    let pa = pre ++ m ∷ [] in
    let na = length-append pre (m ∷ []) in
    let nr = length-append pa ta in (
      at_seam all pre _ m n e h,
      all_placed a all pa (tr ++ post) (n + 1) (e ∙ simp append_assoc) (omega arith),
      all_placed rest all (pa ++ ta) post (n + 1 + sites_of a) (e ∙ simp append_assoc) (omega (arith, length-heads_in a)),
    )

-- the statement that comes next stands at its site
pub stands_next : (t : Tree) (k : Code) (p : List Visit) (v : Visit) → RunsTo (placed 0 t) p k → first k ≡ Some v → slice_get (heads_in t) v.site ≡ Some v.head
stands_next t k p v l e =
    all_first (StandsIn (heads_in t)) k v e (all_runs (StandsIn (heads_in t)) l (all_placed t (heads_in t) [] [] 0 (sym (append-nil (heads_in t))) refl))

-- so does each statement of a path
pub visited_head : (t : Tree) (p : List Visit) (v : Visit) (q : List Visit) → IsPath (placed 0 t) (p ++ (v ∷ q)) → slice_get (heads_in t) v.site ≡ Some v.head
visited_head t p v q path =
    let run = runs_halves p (path_runs path) in
    stands_next t run.0 p v run.1 (runs_first run.2)
