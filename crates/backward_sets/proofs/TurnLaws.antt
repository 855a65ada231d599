-- The turns that a walk finds, and what the next makes of them.
use Rattle.std.proofs.Common.{◌≡◌, ◌≤◌, ◌<◌, ℕ, ◌+◌, Bool, true, false, List, [], ◌∷◌, ◌++◌, length, get_or, drop, reverse, refl, sym, ap, ◌∙◌, append_assoc, append-nil, subst, ⊎_elim, arith}
use Rattle.std.proofs.lemmas.List.{reverse-append, length-append, nil_from_length}
use Rattle.il_syntax.specs.declared.statement.Atom.{Atom}
use Rattle.il_syntax.specs.declared.statement.Stmt.{Stmt, If, While}
use Rattle.il_syntax.specs.declared.statement.Stmt.TheOpen as open_form
use Rattle.il_syntax.specs.declared.statement.Block.{Block}
use Rattle.il_syntax.specs.Statements.{Head, head_of}
use Rattle.il_paths.specs.Tree.{Tree, Empty, before_rest, tree_of, tree_of_all}
use Rattle.il_paths.specs.Code.{Visit, placed}
use Rattle.il_paths.proofs.Callers.{Shape, plain_shape, if_shape, while_shape, shape_of, tree_of-drop, before_rest-if, before_rest-while}
use Rattle.path_meets.specs.Walks.{meet, enter}
use Rattle.path_meets.proofs.Callers.{least_is, least_rank, enter_monotone, enter-placed, enter_tree-drop, after_tree-drop, enter_tree-while}
use Rattle.backward_sets.specs.Walk.{before_tree, after_sites}
use Rattle.backward_sets.specs.Turns.{turns_of, AreFound, AreTurns, none_yet, are_found, Fills}
use Rattle.backward_sets.specs.Meets.{KeepsOrder}
use Rattle.backward_sets.proofs.SetLaws.{head_of-while, before_if, after_if, after_while}

module _ (rank : Bool → ℕ) where
  -- of two facts, what comes of the higher serves for the lower
  stays : (a b : Bool) → rank a ≤ rank b → meet Bool rank a b ≡ a
  stays a b h = ⊎_elim (λ e. e.0) (λ e. absurd (omega (arith, h, e.1))) (least_is Bool rank a b)

  turn_serves : (low high : Bool) (f : Bool → Bool) → rank low ≤ rank high → meet Bool rank low (f high) ≡ meet Bool rank low (f low)
  turn_serves true true f h = refl
  turn_serves false false f h = refl
  turn_serves true false f h = stays true (f false) (above (f false)) ∙ sym (stays true (f true) (above (f true)))
    where
      above : (b : Bool) → rank true ≤ rank b
      above true = omega arith
      above false = h
  turn_serves false true f h = stays false (f true) (above (f true)) ∙ sym (stays false (f false) (above (f false)))
    where
      above : (b : Bool) → rank false ≤ rank b
      above true = h
      above false = omega arith

  -- where there are none yet, all turns are found
  none_before : (xs ys : List Bool) → [] ≡ xs ++ ys → xs ≡ []
  none_before xs ys e = let short = ap length e ∙ length-append xs ys in nil_from_length xs (omega (arith, short))

  pub found_now : (found : Bool → List Bool) (l : Bool) (turns others new : List Bool) → turns ≡ [] → AreTurns rank found l turns others → new ≡ turns ++ found l → AreFound rank found l (reverse new) others
  found_now found l turns others new none f is = record { first = l; above = omega arith; is = ap reverse (is ∙ ap (λ (bs : List Bool). bs ++ found l) none) ∙ ap (λ (bs : List Bool). bs ++ reverse (found l)) (sym (empty f)) }
    where
      empty : AreTurns rank found l turns others → others ≡ []
      empty (none_yet e o) = o
      empty (are_found g) = none_before others (reverse (found g.first)) (sym none ∙ g.is)

  -- turns of statements in two parts: those of one part are taken first, and then those of the other
  pub taken_first : (turns others ones twos : List Bool) → turns ≡ others ++ reverse (ones ++ twos) → turns ≡ (others ++ reverse twos) ++ reverse ones
  taken_first turns others ones twos e = e ∙ ap (λ (bs : List Bool). others ++ bs) (reverse-append ones twos) ∙ sym (append_assoc others (reverse twos) (reverse ones))

  pub in_parts : (whole ones twos : Bool → List Bool) (between : Bool → Bool) → ((b : Bool) → whole b ≡ ones b ++ twos (between b)) → (l : Bool) (turns others : List Bool) → AreTurns rank whole l turns others →
      (left : List Bool) × AreTurns rank ones l turns left × ((m : Bool) (taken : List Bool) → taken ≡ left → ((b : Bool) → rank l ≤ rank b → rank m ≤ rank (between b)) → AreTurns rank twos m taken others)
  in_parts whole ones twos between joined l turns others (none_yet e o) = ([], none_yet e refl, λ m taken is below. none_yet is o)
  in_parts whole ones twos between joined l turns others (are_found f) =
      let late = twos (between f.first) in (
        others ++ reverse late,
        are_found (record { first = f.first; above = f.above; is = taken_first turns others (ones f.first) late (f.is ∙ ap (λ (bs : List Bool). others ++ reverse bs) (joined f.first)) }),
        λ m taken is below. are_found (record { first = between f.first; above = below f.first f.above; is = is }),
      )

module _ (rank : Bool → ℕ) (change : ℕ → Head → Bool → Bool) (x : ℕ) where
  turns_of-put : (put : Tree → Tree) (rest : Tree) (l : Bool) → Shape put → turns_of rank change x (put rest) l ≡ turns_of rank change x rest l ++ turns_of rank change x (put Empty) (before_tree rank change x rest l)
  turns_of-put put rest l (plain_shape leaf f) = rw (f rest, f Empty) (sym (append-nil (turns_of rank change x rest l)))
  turns_of-put put rest l (if_shape test a b f) = rw (f rest, f Empty) refl
  turns_of-put put rest l (while_shape test a f) = rw (f rest, f Empty) refl

  -- the turns of a list of statements, the first one's last
  pub turns_of-drop : (ss : List Stmt) (i : ℕ) (s : Stmt) (l : Bool) → i < length ss → s ≡ get_or ss i s → turns_of rank change x (tree_of_all (drop i ss)) l ≡ turns_of rank change x (tree_of_all (drop (i + 1) ss)) l ++ turns_of rank change x (before_rest s Empty) (before_tree rank change x (tree_of_all (drop (i + 1) ss)) l)
  turns_of-drop ss i s l h e =
      ap (λ (t : Tree). turns_of rank change x t l) (tree_of-drop ss i s h e) ∙ turns_of-put (before_rest s) (tree_of_all (drop (i + 1) ss)) l (shape_of s)

  module _ (s : Stmt) (l : Bool) where
    turns_of-if : (a : Atom) (one other : Block) → s ≡ If a one other → turns_of rank change x (before_rest s Empty) l ≡ turns_of rank change x (tree_of other) l ++ turns_of rank change x (tree_of one) l
    turns_of-if a one other e = ap (λ (t : Tree). turns_of rank change x t l) (before_rest-if s a one other Empty e)

    turns_of-while : (a : Atom) (body : Block) → s ≡ While a body → turns_of rank change x (before_rest s Empty) l ≡ (let once = change x (open_form.While a tt) l in change x (open_form.While a tt) (before_tree rank change x (tree_of body) once) ∷ turns_of rank change x (tree_of body) once)
    turns_of-while a body e = ap (λ (t : Tree). turns_of rank change x t l) (before_rest-while s a body Empty e)

    -- those of an `if`
    pub turns_if : (a : Atom) (one other : Block) → s ≡ If a one other → (old mid new : List Bool) → mid ≡ old ++ turns_of rank change x (tree_of other) l → new ≡ mid ++ turns_of rank change x (tree_of one) l → new ≡ old ++ turns_of rank change x (before_rest s Empty) l
    turns_if a one other e old mid new em en =
        en ∙ ap (λ (bs : List Bool). bs ++ turns_of rank change x (tree_of one) l) em
        ∙ append_assoc old (turns_of rank change x (tree_of other) l) (turns_of rank change x (tree_of one) l) ∙ ap (λ (bs : List Bool). old ++ bs) (sym (turns_of-if a one other e))

    -- and those of a `while`
    pub turns_while : (a : Atom) (body : Block) → s ≡ While a body → (once turn again : Bool) (old mid inner new : List Bool) →
        once ≡ change x (head_of s) l → turn ≡ before_tree rank change x (tree_of body) once → again ≡ change x (head_of s) turn →
        inner ≡ turns_of rank change x (tree_of body) once → mid ≡ old ++ again ∷ [] → new ≡ mid ++ inner → new ≡ old ++ turns_of rank change x (before_rest s Empty) l
    turns_while a body e once turn again old mid inner new o t g ei em en =
        let h = head_of-while s a body e in
        let w = open_form.While a tt in
        let k : once ≡ change x w l = o ∙ ap (λ (head : Head). change x head l) h in
        let m : again ≡ change x w (before_tree rank change x (tree_of body) once) = g ∙ (λ i. change x (h i) (t i)) in
        en ∙ (λ i. em i ++ ei i) ∙ append_assoc old (again ∷ []) (turns_of rank change x (tree_of body) once)
        ∙ ap (λ (b : Bool). old ++ b ∷ turns_of rank change x (tree_of body) once) m
        ∙ ap (λ (b : Bool). old ++ change x w (before_tree rank change x (tree_of body) b) ∷ turns_of rank change x (tree_of body) b) k
        ∙ ap (λ (bs : List Bool). old ++ bs) (sym (turns_of-while a body e))

  module _ (keeps : KeepsOrder rank change) where
    before_monotone : (t : Tree) (a b : Bool) → rank a ≤ rank b → rank (before_tree rank change x t a) ≤ rank (before_tree rank change x t b)
    before_monotone t a b h =
        let step : Visit → Bool → Bool = λ v. change x v.head in
        let low = enter_monotone Bool rank 1 step (keeps.monotone x) keeps.bounded (placed 0 t) a b h in
        let ea = ap rank (enter-placed Bool rank 1 (change x) t 0 a) in
        let eb = ap rank (enter-placed Bool rank 1 (change x) t 0 b) in
        subst (λ n. n ≤ rank (before_tree rank change x t b)) ea (subst (λ n. rank (enter Bool rank 1 step (placed 0 t) a) ≤ n) eb low)

    -- a statement before others
    pub fills_on : (ss : List Stmt) (i : ℕ) (s : Stmt) (l m n : Bool) (turns turns1 turns2 sets sets1 sets2 : List Bool) → i < length ss → s ≡ get_or ss i s →
        Fills rank change x (tree_of_all (drop (i + 1) ss)) l turns sets m turns1 sets1 → Fills rank change x (before_rest s Empty) m turns1 sets1 n turns2 sets2 →
        Fills rank change x (tree_of_all (drop i ss)) l turns sets n turns2 sets2
    fills_on ss i s l m n turns turns1 turns2 sets sets1 sets2 inside is f g others told =
        let rest = tree_of_all (drop (i + 1) ss) in
        let it = before_rest s Empty in
        let b = before_tree rank change x rest l in
        let parts = in_parts rank (turns_of rank change x (tree_of_all (drop i ss))) (turns_of rank change x rest) (turns_of rank change x it) (before_tree rank change x rest) (λ c. turns_of-drop ss i s c inside is) l turns others told in
        let p = f parts.0 parts.1 in
        let q = g others (parts.2 m turns1 p.2 (λ c h. subst (λ d. rank d ≤ rank (before_tree rank change x rest c)) (sym p.0) (before_monotone rest l c h))) in
        let late = after_sites rank change x rest l in
        let early = after_sites rank change x it b in (
          q.0 ∙ ap (before_tree rank change x it) p.0 ∙ sym (enter_tree-drop Bool rank 1 (change x) ss i s l inside is),
          q.1 ∙ (λ j. p.1 j ++ reverse (after_sites rank change x it (p.0 j))) ∙ append_assoc sets (reverse late) (reverse early)
              ∙ ap (λ (bs : List Bool). sets ++ bs) (sym (reverse-append early late))
              ∙ ap (λ (bs : List Bool). sets ++ reverse bs) (sym (after_tree-drop Bool rank 1 (change x) ss i s l inside is)),
          q.2,
        )

    module _ (s : Stmt) (l : Bool) (turns turns1 turns2 sets sets1 sets2 last : List Bool) where
      -- an `if`
      pub fills_if : (a : Atom) (one other : Block) → s ≡ If a one other → (yes_set no_set low new : Bool) →
          Fills rank change x (tree_of other) l turns sets no_set turns1 sets1 → Fills rank change x (tree_of one) l turns1 sets1 yes_set turns2 sets2 →
          low ≡ meet Bool rank yes_set no_set → last ≡ sets2 ++ low ∷ [] → new ≡ change x (head_of s) low → Fills rank change x (before_rest s Empty) l turns sets new turns2 last
      fills_if a one other e yes_set no_set low new f g lo el is others told =
          let parts = in_parts rank (turns_of rank change x (before_rest s Empty)) (turns_of rank change x (tree_of other)) (turns_of rank change x (tree_of one)) (λ b. b) (λ b. turns_of-if s b a one other e) l turns others told in
          let p = f parts.0 parts.1 in
          let q = g others (parts.2 l turns1 p.2 (λ b h. h)) in
          let found = lo ∙ (λ i. meet Bool rank (q.0 i) (p.0 i)) in
          (before_if rank change x s l a one other e low new found is, after_if rank change x s l a one other e sets sets1 sets2 last low p.1 q.1 el found, q.2)

      -- and a `while`
      pub fills_while : (a : Atom) (body : Block) → s ≡ While a body → (told : List Bool) (once turn low again next : Bool) →
          ((others : List Bool) → AreTurns rank (turns_of rank change x (before_rest s Empty)) l turns others → AreFound rank (turns_of rank change x (before_rest s Empty)) l told others) →
          once ≡ change x (head_of s) l → ((taken : Bool) (more : List Bool) → told ≡ more ++ taken ∷ [] → (turn ≡ taken) × (turns1 ≡ more)) → low ≡ meet Bool rank once turn →
          Fills rank change x (tree_of body) low turns1 sets again turns2 sets1 → next ≡ meet Bool rank l again → last ≡ sets1 ++ next ∷ [] →
          Fills rank change x (before_rest s Empty) l turns sets low turns2 last
      fills_while a body e told once turn low again next find o take lo f nx el others tell =
          let w = open_form.While a tt in
          let around = λ (m : Bool). change x w (before_tree rank change x (tree_of body) m) in
          let k : once ≡ change x w l = o ∙ ap (λ (head : Head). change x head l) (head_of-while s a body e) in
          let g = find others tell in
          let high = change x w g.first in
          let inner = turns_of rank change x (tree_of body) high in
          let t = take (around high) (others ++ reverse inner) (taken_first rank told others (around high ∷ []) inner (g.is ∙ ap (λ (bs : List Bool). others ++ reverse bs) (turns_of-while s g.first a body e))) in
          let below : rank (change x w l) ≤ rank high = keeps.monotone x (record { site = 0; head = w }) l g.first g.above in
          let known : low ≡ meet Bool rank (change x w l) (around (change x w l)) = lo ∙ (λ i. meet Bool rank (k i) (t.0 i)) ∙ turn_serves rank (change x w l) high around below in
          let found = known ∙ sym (enter_tree-while Bool rank 1 (change x) s a body l e) in
          let lowest = (least_rank Bool rank (change x w l) (around (change x w l))).0 in
          let same = ap rank known in
          let p = f others (are_found (record { first = high; above = omega (arith, lowest, same, below); is = t.1 })) in
          (found, after_while rank change x s l a body e sets sets1 last low next found p.1 (nx ∙ ap (meet Bool rank l) p.0) el, p.2)
