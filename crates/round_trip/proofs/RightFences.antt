-- The fences of a program's tree are spelled by their word, and each has an order that a fence may have.
use Rattle.std.proofs.Common.{◌≡◌, ℕ, Bool, true, false, not, ◌&&◌, cond, List, [], ◌∷◌, ◌++◌, length, map, refl, sym, ap, ◌∙◌, subst}
use Rattle.std.specs.Prelude.{codes}
use Rattle.std.specs.List.{list_all}
use Rattle.std.proofs.lemmas.Bool.{and_parts, and_from, false≢true}
use Rattle.values_undef.specs.Access.{is_fence_order}
use Rattle.values_undef.specs.declared.access.Order.{Order}
use Rattle.il_syntax.specs.declared.statement.Atom.{Atom}
use Rattle.il_syntax.specs.declared.statement.Stmt.{Stmt}
use Rattle.il_syntax.specs.declared.statement.Block.{Block}
use Rattle.il_syntax.specs.declared.statement.Stmt.TheOpen.{Stmt-F, Skip, Copy, Compute, Load, Store, AtomicLoad, AtomicStore, Update, Fence, Print, If, While, Call}
use Rattle.il_syntax.specs.declared.statement.Stmt.TheViews.{roll-Stmt}
use Rattle.il_syntax.specs.declared.statement.Stmt.TheFolds.{fold-Block, fold-roll-Stmt, map-Stmt}
use Rattle.il_syntax.specs.declared.statement.Rmw.{Rmw}
use Rattle.il_syntax.specs.declared.statement.Rmw.TheVariants as kinds
use Rattle.il_syntax.specs.declared.program.Function.{Function}
use Rattle.il_syntax.specs.declared.program.Program.{Program}
use Rattle.il_syntax.specs.Statements.{Head, heads_step, heads_block, heads_of, heads_of_all}
use Rattle.il_syntax.specs.WellFormed.{declared_by, order_is_allowed, each_statement}
use Rattle.il_syntax.specs.Checks.{head_fits, function_fits}
use Rattle.il_syntax.specs.Fences.{is_no_fence, has_no_fence}
use Rattle.il_grammar.specs.Grammar.{Snoc, empty, append, Tree, Trees, no_tree, add_tree, Routine}
use Rattle.il_grammar.specs.Reading.{snoc, snoc_from}
use Rattle.round_trip.proofs.Fenced.{EachIs, HasRightFences, HaveRightFences}
use Rattle.round_trip.proofs.Lists.{in_order, block}
use Rattle.round_trip.proofs.Written.{written_atom, written_update, written_choice, written_step, written_block, written_statement, written_function, written_tree}
use Rattle.round_trip.proofs.Statements.{fold_block, Each, Known, KnownBlock, known, by_blocks, each_holds}
use Rattle.round_trip.proofs.Fits.{each_rule, all_in_both}
use Rattle.il_syntax.proofs.Callers.{WellFormedFacts, FunctionFacts, function_facts}
use Rattle.round_trip.proofs.Lexed.{is_fence_text}

-- `good` is a test that each statement passes, and that a fence passes only where its word and order are right
module _ (p : Program) (registers : List (List ℕ)) (test : List ℕ → Bool) (good : Head → Bool) (right : (o : Order) → good (Fence o) ≡ true → (test (codes "fence") ≡ true) × (is_fence_order o ≡ true)) where
  record IsRight (tree : Tree (List ℕ)) (heads : List Head) : Type 0 where
    fences : list_all good heads ≡ true → HasRightFences test tree

  abbrev tree_block : Block → List (Tree (List ℕ))
  tree_block = fold-Block (Tree (List ℕ)) (List (Tree (List ℕ))) (written_step p registers) written_block

  abbrev heads_in : Block → List Head
  heads_in = fold-Block (List Head) (List Head) heads_step heads_block

  abbrev Right : Stmt → Type 0
  Right s = IsRight (written_statement p registers s) (heads_of s)

  abbrev IsRightLayer : Stmt-F Stmt Block → Type 0
  IsRightLayer x = IsRight
      (written_step p registers (map-Stmt Stmt Block (Tree (List ℕ)) (List (Tree (List ℕ))) (written_statement p registers) tree_block x))
      (heads_step (map-Stmt Stmt Block (List Head) (List Head) heads_of heads_in x))

  rolled : (x : Stmt-F Stmt Block) → IsRightLayer x → Right (roll-Stmt x)
  rolled x h = subst (λ (q : Tree (List ℕ) × List Head). IsRight q.0 q.1)
      (λ i. (
        sym (fold-roll-Stmt (Tree (List ℕ)) (List (Tree (List ℕ))) (written_step p registers) written_block x) i,
        sym (fold-roll-Stmt (List Head) (List Head) heads_step heads_block x) i,
      )) h

  abbrev trees : List Stmt → List (Tree (List ℕ))
  trees = map (written_statement p registers)

  block_right : (ss : List Stmt) → Each Right ss → (front : Trees (List ℕ)) → HaveRightFences test front → list_all good (heads_of_all ss) ≡ true → HaveRightFences test (in_order front (trees ss))
  block_right [] each front f e = f
  block_right (s ∷ ss) each front f e =
      let parts = all_in_both good (heads_of s) (heads_of_all ss) e in
      block_right ss each.1 (add_tree front (written_statement p registers s)) (f, each.0.fences parts.0) parts.1

  abbrev Inner : Type 0
  Inner = List (Tree (List ℕ)) × List Head

  abbrev folded : Block → Inner
  folded b = (tree_block b, heads_in b)

  abbrev mapped : Block → Inner
  mapped b = (trees b.statements, heads_of_all b.statements)

  mapped_folded : (b : Block) → mapped b ≡ folded b
  mapped_folded b = λ i. (sym (fold_block (written_step p registers) written_block b) i, sym (fold_block heads_step heads_block b) i)

  tail_good : (h : Head) (hs : List Head) → list_all good (h ∷ hs) ≡ true → list_all good hs ≡ true
  tail_good h hs e = (and_parts (good h) (list_all good hs) e).1

  if_right : (a : Atom) (one other : List Stmt) → Each Right one → Each Right other → list_all good (If a tt tt ∷ (heads_of_all one ++ heads_of_all other)) ≡ true → HasRightFences test (written_choice (written_atom registers a) (trees one) (trees other))
  if_right a one [] first second e =
      block_right one first no_tree tt (all_in_both good (heads_of_all one) [] (tail_good (If a tt tt) (heads_of_all one ++ []) e)).0
  if_right a one (s ∷ other) first second e =
      let inner = all_in_both good (heads_of_all one) (heads_of_all (s ∷ other)) (tail_good (If a tt tt) (heads_of_all one ++ heads_of_all (s ∷ other)) e) in
      (block_right one first no_tree tt inner.0, block_right (s ∷ other) second no_tree tt inner.1)

  abbrev IfRight : Atom → Inner → Inner → Type 0
  IfRight a one other = IsRight (written_step p registers (If a one.0 other.0)) (heads_step (If a one.1 other.1))

  abbrev WhileRight : Atom → Inner → Type 0
  WhileRight a body = IsRight (written_step p registers (While a body.0)) (heads_step (While a body.1))

  update_right : (r : ℕ) (o : Order) (y : ℕ) (kind : Rmw) → HasRightFences test (written_step p registers (Update r o y kind))
  update_right r o y (kinds.Add a) = tt
  update_right r o y (kinds.Swap a) = tt
  update_right r o y (kinds.Cas expected new) = tt

  right_layer : (y : Stmt-F (Known Right) (KnownBlock Right)) → IsRightLayer (known Right y)
  right_layer Skip = record { fences = λ e. tt }
  right_layer (Copy r a) = record { fences = λ e. tt }
  right_layer (Compute r op a b) = record { fences = λ e. tt }
  right_layer (Load r x) = record { fences = λ e. tt }
  right_layer (Store x a) = record { fences = λ e. tt }
  right_layer (AtomicLoad r o y) = record { fences = λ e. tt }
  right_layer (AtomicStore o y a) = record { fences = λ e. tt }
  right_layer (Update r o y kind) = record { fences = λ e. update_right r o y kind }
  right_layer (Fence o) = record { fences = λ e. right o (and_parts (good (Fence o)) true e).0 }
  right_layer (Print a) = record { fences = λ e. tt }
  right_layer (If a one other) =
      subst (λ q. IfRight a q (folded other.0)) (mapped_folded one.0)
      (subst (IfRight a (mapped one.0)) (mapped_folded other.0) (record { fences = if_right a one.0.statements other.0.statements one.1 other.1 }))
  right_layer (While a body) =
      subst (WhileRight a) (mapped_folded body.0)
      (record { fences = λ e. block_right body.0.statements body.1 no_tree tt (tail_good (While a tt) (heads_of_all body.0.statements) e) })
  right_layer (Call r g args) = record { fences = λ e. tt }

  pub statements_right : (ss : List Stmt) → list_all good (heads_of_all ss) ≡ true → HaveRightFences test (block (trees ss))
  statements_right ss e = block_right ss (each_holds Right (by_blocks Right (λ y. rolled (known Right y) (right_layer y))) ss) no_tree tt e

-- functions

module _ (p : Program) where
  abbrev Fine : Bool → Routine (List ℕ) → Type 0
  Fine fences f = HaveRightFences (is_fence_text fences) f.body

  orders_right : (o : Order) → order_is_allowed (Fence o) ≡ true → (is_fence_text true (codes "fence") ≡ true) × (is_fence_order o ≡ true)
  orders_right o e = (refl, e)

  none_right : (o : Order) → is_no_fence (Fence o) ≡ true → (is_fence_text false (codes "fence") ≡ true) × (is_fence_order o ≡ true)
  none_right o e = absurd (false≢true e)

  all_allowed : (registers na atomic : ℕ) (params : List ℕ) (hs : List Head) → list_all (head_fits registers na atomic params) hs ≡ true → list_all order_is_allowed hs ≡ true
  all_allowed registers na atomic params [] e = refl
  all_allowed registers na atomic params (h ∷ hs) e =
      let q = and_parts (head_fits registers na atomic params h) (list_all (head_fits registers na atomic params) hs) e in
      and_from (order_is_allowed h) (list_all order_is_allowed hs) (each_rule registers na atomic params h q.0).order (all_allowed registers na atomic params hs q.1)

  with_fences_right : (fs : List Function) (front : Snoc (Routine (List ℕ))) → list_all (function_fits (declared_by p)) fs ≡ true → EachIs (Fine true) front → EachIs (Fine true) (snoc_from front (map (written_function p) fs))
  with_fences_right [] front e h = h
  with_fences_right (f ∷ fs) front e h =
      let q = and_parts (function_fits (declared_by p) f) (list_all (function_fits (declared_by p)) fs) e in
      let facts = function_facts (declared_by p) f q.0 in
      with_fences_right fs (append front (written_function p f)) q.1
      (h, statements_right p f.registers (is_fence_text true) order_is_allowed orders_right f.body.statements (all_allowed _ _ _ _ (heads_of_all f.body.statements) facts.statements))

  without_fences_right : (fs : List Function) (front : Snoc (Routine (List ℕ))) → list_all (each_statement is_no_fence) fs ≡ true → EachIs (Fine false) front → EachIs (Fine false) (snoc_from front (map (written_function p) fs))
  without_fences_right [] front e h = h
  without_fences_right (f ∷ fs) front e h =
      let q = and_parts (each_statement is_no_fence f) (list_all (each_statement is_no_fence) fs) e in
      without_fences_right fs (append front (written_function p f)) q.1
      (h, statements_right p f.registers (is_fence_text false) is_no_fence none_right f.body.statements q.0)

  pub tree_right : (none : Bool) → has_no_fence p ≡ none → WellFormedFacts p → EachIs (Fine (not none)) (written_tree p).functions
  tree_right true e facts = without_fences_right p.functions empty e tt
  tree_right false e facts = with_fences_right p.functions empty facts.functions tt
