-- The turns that a walk finds, and what the next makes of them.
use Rattle.std.proofs.Common.{◌≡◌, ◌≤◌, ◌<◌, ℕ, ◌+◌, Bool, true, false, ◌&&◌, List, [], ◌∷◌, ◌++◌, length, get_or, drop, map, reverse, refl, sym, ap, ◌∙◌, append_assoc, append-nil, subst, arith}
use Rattle.std.proofs.lemmas.List.{reverse-append, map-append}
use Rattle.il_syntax.specs.declared.statement.Atom.{Atom}
use Rattle.il_syntax.specs.declared.statement.Stmt.{Stmt, If, While}
use Rattle.il_syntax.specs.declared.statement.Block.{Block}
use Rattle.il_paths.specs.Tree.{Tree, Empty, before_rest, tree_of, tree_of_all}
use Rattle.il_paths.specs.Code.{Visit, placed}
use Rattle.il_paths.proofs.Callers.{Shape, plain_shape, if_shape, while_shape, shape_of, tree_of-drop, before_rest-if, before_rest-while}
use Rattle.path_meets.specs.Chain.{must_rank}
use Rattle.path_meets.specs.Walks.{meet, exit}
use Rattle.path_meets.proofs.Callers.{exit_monotone, exit-placed, exit_tree-drop, table_tree-drop, exit_tree-if, exit_tree-while, table_tree-if, table_tree-while}
use Rattle.backward_sets.specs.Turns.{AreFound, AreTurns, none_yet, are_found}
use Rattle.backward_sets.proofs.Callers.{taken_first, in_parts}
use Rattle.tidy.specs.Known.{known_change, known_step}
use Rattle.tidy.specs.declared.known.KnownPair.{KnownPair}
use Rattle.tidy.specs.Rows.{known_in, known_column, exit_known, table_known}
use Rattle.tidy.specs.Turns.{turns_known, FillsRows}
use Rattle.tidy.proofs.KnownLaws.{known_monotone}

-- of two facts, what comes of the higher serves for the lower
both : (a b : Bool) → meet Bool must_rank a b ≡ (a && b)
both true true = refl
both true false = refl
both false true = refl
both false false = refl

turn_serves : (low high : Bool) (f : Bool → Bool) → must_rank low ≤ must_rank high → (low && f high) ≡ (low && f low)
turn_serves true true f h = refl
turn_serves true false f h = absurd (omega (arith, h))
turn_serves false high f h = refl

and_below : (a b : Bool) → must_rank (a && b) ≤ must_rank a
and_below true true = omega arith
and_below true false = omega arith
and_below false b = omega arith

pub column-reverse : (r : ℕ) (a : Atom) (rows : List (List KnownPair)) → known_column r a (reverse rows) ≡ reverse (known_column r a rows)
column-reverse r a [] = refl
column-reverse r a (row ∷ rows) =
    let known = λ (each : List KnownPair). known_in each r a in
    ap (map known) (reverse-append (row ∷ []) rows) ∙ map-append known (reverse rows) (row ∷ []) ∙ ap (λ (bs : List Bool). bs ++ known row ∷ []) (column-reverse r a rows) ∙ sym (reverse-append (known row ∷ []) (known_column r a rows))

module _ (r : ℕ) (a : Atom) where
  turns_known-put : (put : Tree → Tree) (rest : Tree) (l : Bool) → Shape put → turns_known r a (put rest) l ≡ turns_known r a (put Empty) l ++ turns_known r a rest (exit_known r a (put Empty) l)
  turns_known-put put rest l (plain_shape leaf f) = rw (f rest, f Empty) refl
  turns_known-put put rest l (if_shape test a b f) = rw (f rest, f Empty) (simp (append-nil, append_assoc))
  turns_known-put put rest l (while_shape test a f) = rw (f rest, f Empty) (simp append-nil)

  -- the turns of a list of statements, the first one's first
  pub turns_known-drop : (ss : List Stmt) (i : ℕ) (s : Stmt) (l : Bool) → i < length ss → s ≡ get_or ss i s → turns_known r a (tree_of_all (drop i ss)) l ≡ turns_known r a (before_rest s Empty) l ++ turns_known r a (tree_of_all (drop (i + 1) ss)) (exit_known r a (before_rest s Empty) l)
  turns_known-drop ss i s l h e =
      ap (λ (t : Tree). turns_known r a t l) (tree_of-drop ss i s h e) ∙ turns_known-put (before_rest s) (tree_of_all (drop (i + 1) ss)) l (shape_of s)

  module _ (s : Stmt) (l : Bool) where
    turns_known-if : (c : Atom) (one other : Block) → s ≡ If c one other → turns_known r a (before_rest s Empty) l ≡ turns_known r a (tree_of one) l ++ turns_known r a (tree_of other) l
    turns_known-if c one other e = ap (λ (t : Tree). turns_known r a t l) (before_rest-if s c one other Empty e) ∙ ap (λ (bs : List Bool). turns_known r a (tree_of one) l ++ bs) (append-nil (turns_known r a (tree_of other) l))

    turns_known-while : (c : Atom) (body : Block) → s ≡ While c body → turns_known r a (before_rest s Empty) l ≡ exit_known r a (tree_of body) l ∷ turns_known r a (tree_of body) l
    turns_known-while c body e = ap (λ (t : Tree). turns_known r a t l) (before_rest-while s c body Empty e) ∙ ap (λ (bs : List Bool). exit_known r a (tree_of body) l ∷ bs) (append-nil (turns_known r a (tree_of body) l))

    -- those of an `if`
    pub turns_if : (c : Atom) (one other : Block) → s ≡ If c one other → (old mid new : List Bool) → mid ≡ old ++ turns_known r a (tree_of one) l → new ≡ mid ++ turns_known r a (tree_of other) l → new ≡ old ++ turns_known r a (before_rest s Empty) l
    turns_if c one other e old mid new em en =
        en ∙ ap (λ (bs : List Bool). bs ++ turns_known r a (tree_of other) l) em
        ∙ append_assoc old (turns_known r a (tree_of one) l) (turns_known r a (tree_of other) l) ∙ ap (λ (bs : List Bool). old ++ bs) (sym (turns_known-if c one other e))

    -- and those of a `while`
    pub turns_while : (c : Atom) (body : Block) → s ≡ While c body → (turn : Bool) (old mid inner new : List Bool) → turn ≡ exit_known r a (tree_of body) l →
        inner ≡ turns_known r a (tree_of body) l → mid ≡ old ++ turn ∷ [] → new ≡ mid ++ inner → new ≡ old ++ turns_known r a (before_rest s Empty) l
    turns_while c body e turn old mid inner new t ei em en =
        en ∙ (λ i. em i ++ ei i) ∙ append_assoc old (turn ∷ []) (turns_known r a (tree_of body) l)
        ∙ ap (λ (b : Bool). old ++ b ∷ turns_known r a (tree_of body) l) t ∙ ap (λ (bs : List Bool). old ++ bs) (sym (turns_known-while c body e))

  exit_monotone_known : (t : Tree) (b c : Bool) → must_rank b ≤ must_rank c → must_rank (exit_known r a t b) ≤ must_rank (exit_known r a t c)
  exit_monotone_known t b c h =
      let step : Visit → Bool → Bool = known_step r a in
      let low = exit_monotone Bool must_rank 1 step (known_monotone r a) (placed 0 t) b c h in
      let eb = ap must_rank (exit-placed Bool must_rank 1 (known_change r a) t 0 b) in
      let ec = ap must_rank (exit-placed Bool must_rank 1 (known_change r a) t 0 c) in
      subst (λ n. n ≤ must_rank (exit_known r a t c)) eb (subst (λ n. must_rank (exit Bool must_rank 1 step (placed 0 t) b) ≤ n) ec low)

  -- nothing is found of no statement
  pub fills_none : (l : Bool) (turns rows : List Bool) → FillsRows r a Empty l turns rows l turns rows
  fills_none l turns rows others (none_yet e o) = (refl, sym (append-nil rows), e ∙ sym o)
  fills_none l turns rows others (are_found f) = (refl, sym (append-nil rows), f.is ∙ append-nil others)

  -- a statement, and others after it
  pub fills_on : (ss : List Stmt) (i : ℕ) (s : Stmt) (l m n : Bool) (turns turns1 turns2 rows rows1 rows2 : List Bool) → i < length ss → s ≡ get_or ss i s →
      FillsRows r a (before_rest s Empty) l turns rows m turns1 rows1 → FillsRows r a (tree_of_all (drop (i + 1) ss)) m turns1 rows1 n turns2 rows2 →
      FillsRows r a (tree_of_all (drop i ss)) l turns rows n turns2 rows2
  fills_on ss i s l m n turns turns1 turns2 rows rows1 rows2 inside is f g others told =
      let rest = tree_of_all (drop (i + 1) ss) in
      let it = before_rest s Empty in
      let parts = in_parts must_rank (turns_known r a (tree_of_all (drop i ss))) (turns_known r a it) (turns_known r a rest) (exit_known r a it) (λ c. turns_known-drop ss i s c inside is) l turns others told in
      let p = f parts.0 parts.1 in
      let q = g others (parts.2 m turns1 p.2 (λ c h. subst (λ d. must_rank d ≤ must_rank (exit_known r a it c)) (sym p.0) (exit_monotone_known it l c h))) in (
        q.0 ∙ ap (exit_known r a rest) p.0 ∙ sym (exit_tree-drop Bool must_rank 1 (known_change r a) ss i s l inside is),
        q.1 ∙ (λ j. p.1 j ++ table_known r a rest (p.0 j)) ∙ append_assoc rows (table_known r a it l) (table_known r a rest (exit_known r a it l))
            ∙ ap (λ (bs : List Bool). rows ++ bs) (sym (table_tree-drop Bool must_rank 1 (known_change r a) ss i s l inside is)),
        q.2,
      )

  module _ (s : Stmt) (l : Bool) (turns turns1 turns2 rows rows1 rows2 last : List Bool) where
    -- an `if`
    pub fills_if : (c : Atom) (one other : Block) → s ≡ If c one other → (yes_row no_row new : Bool) → rows1 ≡ rows ++ l ∷ [] →
        FillsRows r a (tree_of one) l turns rows1 yes_row turns1 rows2 → FillsRows r a (tree_of other) l turns1 rows2 no_row turns2 last →
        new ≡ (yes_row && no_row) → FillsRows r a (before_rest s Empty) l turns rows new turns2 last
    fills_if c one other e yes_row no_row new pushed f g is others told =
        let parts = in_parts must_rank (turns_known r a (before_rest s Empty)) (turns_known r a (tree_of one)) (turns_known r a (tree_of other)) (λ b. b) (λ b. turns_known-if s b c one other e) l turns others told in
        let p = f parts.0 parts.1 in
        let q = g others (parts.2 l turns1 p.2 (λ b h. h)) in
        let ys = table_known r a (tree_of one) l in
        let ns = table_known r a (tree_of other) l in (
          is ∙ (λ i. p.0 i && q.0 i) ∙ sym (both (exit_known r a (tree_of one) l) (exit_known r a (tree_of other) l)) ∙ sym (exit_tree-if Bool must_rank 1 (known_change r a) s c one other l e),
          q.1 ∙ ap (λ (bs : List Bool). bs ++ ns) (p.1 ∙ ap (λ (bs : List Bool). bs ++ ys) pushed) ∙ append_assoc (rows ++ l ∷ []) ys ns ∙ append_assoc rows (l ∷ []) (ys ++ ns)
              ∙ ap (λ (bs : List Bool). rows ++ bs) (sym (table_tree-if Bool must_rank 1 (known_change r a) s c one other l e)),
          q.2,
        )

    -- and a `while`
    pub fills_while : (c : Atom) (body : Block) → s ≡ While c body → (told : List Bool) (turn low again : Bool) →
        ((others : List Bool) → AreTurns must_rank (turns_known r a (before_rest s Empty)) l turns others → AreFound must_rank (turns_known r a (before_rest s Empty)) l told others) →
        ((taken : Bool) (more : List Bool) → told ≡ more ++ taken ∷ [] → (turn ≡ taken) × (turns1 ≡ more)) → low ≡ (l && turn) → rows1 ≡ rows ++ low ∷ [] →
        FillsRows r a (tree_of body) low turns1 rows1 again turns2 last → FillsRows r a (before_rest s Empty) l turns rows low turns2 last
    fills_while c body e told turn low again find take lo pushed f others tell =
        let around = exit_known r a (tree_of body) in
        let g = find others tell in
        let inner = turns_known r a (tree_of body) g.first in
        let t = take (around g.first) (others ++ reverse inner) (taken_first must_rank told others (around g.first ∷ []) inner (g.is ∙ ap (λ (bs : List Bool). others ++ reverse bs) (turns_known-while s g.first c body e))) in
        let known : low ≡ (l && around l) = lo ∙ ap (λ (b : Bool). l && b) t.0 ∙ turn_serves l g.first around g.above in
        let found : low ≡ meet Bool must_rank l (around l) = known ∙ sym (both l (around l)) in
        let below = and_below l (around l) in
        let same = ap must_rank known in
        let above = g.above in
        let p = f others (are_found (record { first = g.first; above = omega (arith, below, same, above); is = t.1 })) in (
          found ∙ sym (exit_tree-while Bool must_rank 1 (known_change r a) s c body l e),
          p.1 ∙ ap (λ (bs : List Bool). bs ++ table_known r a (tree_of body) low) pushed ∙ append_assoc rows (low ∷ []) (table_known r a (tree_of body) low)
              ∙ ap (λ (b : Bool). rows ++ b ∷ table_known r a (tree_of body) b) found ∙ ap (λ (bs : List Bool). rows ++ bs) (sym (table_tree-while Bool must_rank 1 (known_change r a) s c body l e)),
          p.2,
        )
