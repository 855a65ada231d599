-- The pairs that statements give, one statement after the other; other pairs stay at nothing.
use Rattle.std.proofs.Common.{◌≡◌, ℕ, zero, suc, Bool, true, false, cond, ◌&&◌, ◌||◌, ◌==◌, arith, ◌+◌, ◌<◌, ◌≤◌, List, [], ◌∷◌, ◌++◌, length, get_or, drop, refl, sym, ap, ◌∙◌, subst, append_assoc, append-nil}
use Rattle.std.specs.List.{list_any}
use Rattle.std.proofs.lemmas.Bool.{false≢true, or_parts}
use Rattle.std.proofs.lemmas.List.Folds.{list_any-append}
use Rattle.il_syntax.specs.declared.statement.Stmt.{Stmt}
use Rattle.il_syntax.specs.declared.statement.Atom.{Atom}
use Rattle.il_syntax.specs.declared.statement.Atom.TheVariants.{Reg}
use Rattle.il_syntax.specs.declared.statement.Stmt.TheOpen.{Skip, Copy, Compute, Load, Store, AtomicLoad, AtomicStore, Update, Fence, Print, If, While, Call}
use Rattle.il_syntax.specs.Statements.{Head}
use Rattle.il_paths.specs.Tree.{head_of_leaf, Tree, Empty, Then, IfThen, WhileThen, before_rest, tree_of_all, sites_of}
use Rattle.il_paths.specs.Code.{Visit, placed}
use Rattle.il_paths.specs.Heads.{is_acquire, is_release}
use Rattle.il_paths.proofs.Callers.{Shape, plain_shape, if_shape, while_shape, shape_of, tree_of-drop}
use Rattle.path_meets.specs.Walks.{meet, meet_of_turns, exit, table}
use Rattle.path_meets.proofs.Callers.{least_rank, turned_rank, table_least}
use Rattle.flow_facts.specs.declared.given.Pair.{Pair}
use Rattle.flow_facts.specs.declared.level.Kind.{Kind}
use Rattle.flow_facts.specs.declared.level.Level.{Level}
use Rattle.flow_facts.specs.declared.level.Level.TheVariants.{Nothing, Held, Fresh}
use Rattle.flow_facts.specs.declared.transfer.Transfer.{Transfer}
use Rattle.flow_facts.specs.declared.transfer.Transfer.TheVariants.{Keeps, Becomes}
use Rattle.flow_facts.specs.Levels.{rank_of, stores_give, loads_give, after_transfer, synchronised, losing, level_change, level_step, IsLevel}
use Rattle.il_paths.specs.Atoms.{atoms_equal}
use Rattle.flow_facts.specs.Rounds.{given_by, given_of}
use Rattle.flow_facts.proofs.LevelLaws.{rank_bounded, rank_injective, step_monotone}

given_of-put : (put : Tree → Tree) (rest : Tree) → Shape put → given_of (put rest) ≡ given_of (put Empty) ++ given_of rest
given_of-put put rest (plain_shape leaf f) = rw (f rest, f Empty) (simp append-nil)
given_of-put put rest (if_shape head one other f) = rw (f rest, f Empty) (simp (append-nil, append_assoc))
given_of-put put rest (while_shape head body f) = rw (f rest, f Empty) (simp (append-nil, append_assoc))

pub given_of-drop : (ss : List Stmt) (i : ℕ) (s : Stmt) → i < length ss → s ≡ get_or ss i s → given_of (tree_of_all (drop i ss)) ≡ given_of (before_rest s Empty) ++ given_of (tree_of_all (drop (i + 1) ss))
given_of-drop ss i s h e = ap given_of (tree_of-drop ss i s h e) ∙ given_of-put (before_rest s) (tree_of_all (drop (i + 1) ss)) (shape_of s)

-- whether the pair is this one
abbrev pub is_given : ℕ → Atom → Pair → Bool
is_given x a g = (g.x == x) && atoms_equal a g.a

none_of : (p : Pair → Bool) (xs ys : List Pair) → list_any p (xs ++ ys) ≡ false → (list_any p xs ≡ false) × (list_any p ys ≡ false)
none_of p xs ys e = or_parts (list_any p xs) (list_any p ys) (sym (list_any-append p xs ys) ∙ e)

quiet_losing : (r : ℕ) (a : Atom) (other : Transfer) → after_transfer other Nothing ≡ Nothing → after_transfer (losing r a other) Nothing ≡ Nothing
quiet_losing r a other e = go (atoms_equal a (Reg r))
  where
    go : (t : Bool) → after_transfer (cond t (Becomes Nothing) other) Nothing ≡ Nothing
    go true = refl
    go false = e

quiet_synchronised : (p q : Bool) → after_transfer (synchronised p q) Nothing ≡ Nothing
quiet_synchronised true true = refl
quiet_synchronised true false = refl
quiet_synchronised false true = refl
quiet_synchronised false false = refl

quiet_store : (p q k : Bool) → ((p && q) || false) ≡ false → after_transfer (cond p (cond (q && k) (Becomes Fresh) (Becomes Nothing)) Keeps) Nothing ≡ Nothing
quiet_store true true k e = absurd (false≢true (sym e))
quiet_store true false k e = refl
quiet_store false q k e = refl

quiet_load : (p q k : Bool) → ((p && q) || false) ≡ false → after_transfer (cond q (cond (p && k) (Becomes Held) (Becomes Nothing)) Keeps) Nothing ≡ Nothing
quiet_load true true k e = absurd (false≢true (sym e))
quiet_load true false k e = refl
quiet_load false true k e = refl
quiet_load false false k e = refl

-- what doesn't give the pair keeps it at nothing
quiet_head : (kind : Kind) (pair : Pair) (head : Head) → list_any (is_given pair.x pair.a) (given_by head) ≡ false → level_change kind pair.x pair.a head Nothing ≡ Nothing
quiet_head kind pair Skip e = refl
quiet_head kind pair (Copy r b) e = quiet_losing r pair.a Keeps refl
quiet_head kind pair (Compute r op b c) e = quiet_losing r pair.a Keeps refl
quiet_head kind pair (Load r y) e = quiet_load (y == pair.x) (atoms_equal pair.a (Reg r)) (loads_give kind) e
quiet_head kind pair (Store y b) e = quiet_store (y == pair.x) (atoms_equal pair.a b) (stores_give kind) e
quiet_head kind pair (AtomicLoad r order y) e =
    let h : Head = AtomicLoad r order y in quiet_losing r pair.a (synchronised (is_acquire h) (is_release h)) (quiet_synchronised (is_acquire h) (is_release h))
quiet_head kind pair (AtomicStore order y b) e = let h : Head = AtomicStore order y b in quiet_synchronised (is_acquire h) (is_release h)
quiet_head kind pair (Update r order y update) e =
    let h : Head = Update r order y update in quiet_losing r pair.a (synchronised (is_acquire h) (is_release h)) (quiet_synchronised (is_acquire h) (is_release h))
quiet_head kind pair (Fence order) e = let h : Head = Fence order in quiet_synchronised (is_acquire h) (is_release h)
quiet_head kind pair (Print b) e = refl
quiet_head kind pair (If b one other) e = refl
quiet_head kind pair (While b body) e = refl
quiet_head kind pair (Call r function args) e = refl

below_nothing : (l : Level) → rank_of l ≤ 0 → l ≡ Nothing
below_nothing l h = rank_injective l Nothing (omega arith)

turned_nothing : (f : Level → Level) → meet_of_turns Level rank_of 2 f Nothing ≡ Nothing
turned_nothing f = below_nothing _ (turned_rank Level rank_of f 2 Nothing)

meet_nothing : (a b : Level) → a ≡ Nothing → meet Level rank_of a b ≡ Nothing
meet_nothing a b e = below_nothing _ (let r = ap rank_of e in omega (arith, (least_rank Level rank_of a b).0))

-- each is nothing
abbrev AllNothing : List Level → Type 0
AllNothing ls = (s : ℕ) → get_or ls s Nothing ≡ Nothing

nothing_append : (xs ys : List Level) → AllNothing xs → AllNothing ys → AllNothing (xs ++ ys)
nothing_append [] ys f g s = g s
nothing_append (x ∷ xs) ys f g zero = f zero
nothing_append (x ∷ xs) ys f g (suc s) = nothing_append xs ys (λ k. f (suc k)) g s

nothing_cons : (l : Level) (ls : List Level) → l ≡ Nothing → AllNothing ls → AllNothing (l ∷ ls)
nothing_cons l ls e f zero = e
nothing_cons l ls e f (suc s) = f s

module _ (kind : Kind) (pair : Pair) where
  abbrev step : Visit → Level → Level
  step = level_step kind pair.x pair.a

  abbrev given : List Pair → Bool
  given = list_any (is_given pair.x pair.a)

  quiet_exit : (t : Tree) (n : ℕ) → given (given_of t) ≡ false → exit Level rank_of 2 step (placed n t) Nothing ≡ Nothing
  quiet_exit Empty n e = refl
  quiet_exit (Then leaf rest) n e =
      let p = none_of (is_given pair.x pair.a) (given_by (head_of_leaf leaf)) (given_of rest) e in
      ap (exit Level rank_of 2 step (placed (n + 1) rest)) (quiet_head kind pair (head_of_leaf leaf) p.0) ∙ quiet_exit rest (n + 1) p.1
  quiet_exit (IfThen test a b rest) n e =
      let q = none_of (is_given pair.x pair.a) (given_of a) (given_of b ++ given_of rest) e in
      let r = none_of (is_given pair.x pair.a) (given_of b) (given_of rest) q.1 in
      let f = exit Level rank_of 2 step in
      ap (f (placed (n + 1 + sites_of a + sites_of b) rest)) (meet_nothing (f (placed (n + 1) a) Nothing) (f (placed (n + 1 + sites_of a) b) Nothing) (quiet_exit a (n + 1) q.0)) ∙ quiet_exit rest (n + 1 + sites_of a + sites_of b) r.1
  quiet_exit (WhileThen test a rest) n e =
      let q = none_of (is_given pair.x pair.a) (given_of a) (given_of rest) e in
      let f = exit Level rank_of 2 step in
      ap (f (placed (n + 1 + sites_of a) rest)) (turned_nothing (λ m. f (placed (n + 1) a) m)) ∙ quiet_exit rest (n + 1 + sites_of a) q.1

  quiet_table : (t : Tree) (n : ℕ) (l : Level) → l ≡ Nothing → given (given_of t) ≡ false → AllNothing (table Level rank_of 2 step (placed n t) l)
  quiet_table Empty n l le e = λ s. refl
  quiet_table (Then leaf rest) n l le e =
      let p = none_of (is_given pair.x pair.a) (given_by (head_of_leaf leaf)) (given_of rest) e in
      nothing_cons l _ le (quiet_table rest (n + 1) (level_change kind pair.x pair.a (head_of_leaf leaf) l) (ap (level_change kind pair.x pair.a (head_of_leaf leaf)) le ∙ quiet_head kind pair (head_of_leaf leaf) p.0) p.1)
  quiet_table (IfThen test a b rest) n l le e =
      let q = none_of (is_given pair.x pair.a) (given_of a) (given_of b ++ given_of rest) e in
      let r = none_of (is_given pair.x pair.a) (given_of b) (given_of rest) q.1 in
      let f = exit Level rank_of 2 step in
      let low = meet_nothing (f (placed (n + 1) a) l) (f (placed (n + 1 + sites_of a) b) l) (ap (f (placed (n + 1) a)) le ∙ quiet_exit a (n + 1) q.0) in
      nothing_cons l _ le
      (nothing_append _ _ (quiet_table a (n + 1) l le q.0) (nothing_append _ _ (quiet_table b (n + 1 + sites_of a) l le r.0) (quiet_table rest (n + 1 + sites_of a + sites_of b) _ low r.1)))
  quiet_table (WhileThen test a rest) n l le e =
      let q = none_of (is_given pair.x pair.a) (given_of a) (given_of rest) e in
      let g = λ (m : Level). exit Level rank_of 2 step (placed (n + 1) a) m in
      let low = meet_of_turns Level rank_of 2 g l in
      let lowe = ap (meet_of_turns Level rank_of 2 g) le ∙ turned_nothing g in
      nothing_cons low _ lowe (nothing_append _ _ (quiet_table a (n + 1) _ lowe q.0) (quiet_table rest (n + 1 + sites_of a) _ lowe q.1))

  -- a pair that no statement gives is at nothing
  pub never_given : (t : Tree) (s : ℕ) → s < sites_of t → given (given_of t) ≡ false → IsLevel (placed 0 t) s kind pair.x pair.a Nothing
  never_given t s h e =
      subst (IsLevel (placed 0 t) s kind pair.x pair.a) (quiet_table t 0 Nothing refl e s) (table_least Level rank_of 2 step (step_monotone kind pair.x pair.a) rank_bounded t Nothing Nothing s h)
