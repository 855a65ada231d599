-- A statement with places for names means what it means with texts for them, and has no fault.
use Rattle.std.proofs.Common.{◌≡◌, ℕ, ◌+◌, ◌<◌, ◌≤◌, List, [], ◌∷◌, ◌++◌, Bool, true, false, Some, None, refl, sym, ap, ◌∙◌, arith}
use Rattle.std.specs.Prelude.{slice_get, is_some, unwrap_or, ◌==◌}
use Rattle.std.specs.Option.{option_map_or}
use Rattle.std.proofs.lemmas.Bool.{lt-ltb, eq-eqb}
use Rattle.il_syntax.specs.declared.statement.Atom.{Atom}
use Rattle.il_syntax.specs.declared.statement.Atom.TheVariants.{Reg}
use Rattle.il_syntax.specs.declared.statement.Rmw.TheVariants as kinds
use Rattle.il_syntax.specs.declared.statement.Stmt.{Stmt}
use Rattle.il_syntax.specs.declared.statement.Stmt.TheVariants as stmt
use Rattle.il_syntax.specs.declared.statement.Stmt.TheViews as view
use Rattle.il_grammar.specs.declared.rule.Rule.{Rule}
use Rattle.il_grammar.specs.declared.rule.Rule.TheVariants.{C1, C5, C6, C7}
use Rattle.il_grammar.specs.declared.syntax.Span.{Span}
use Rattle.il_grammar.specs.declared.syntax.RawAtom.{RawAtom}
use Rattle.il_grammar.specs.declared.syntax.RawAtom.TheVariants.{Constant, Named}
use Rattle.il_grammar.specs.declared.syntax.RawUpdate.TheVariants.{Add as Adding, Swap as Swapping}
use Rattle.il_grammar.specs.Name.{name_text}
use Rattle.il_grammar.specs.Grammar.{Snoc, empty, append, Simple, skip, store, fence, print, copy, compute, load, update, cas, call, Tree, simply, choice, choice_else, repeat, Trees, no_tree, add_tree}
use Rattle.il_grammar.specs.Mapped.{snoc_map, atom_map, simple_map, tree_map, trees_map}
use Rattle.il_names.specs.Known.{Known, number_of, snoc_length}
use Rattle.il_names.specs.Meaning.{block, choice_meaning, atom_meaning, atoms_meaning, simple_meaning, tree_meaning, trees_meaning}
use Rattle.il_names.specs.Faults.{unless, count, count_all, too_many_statements, register_faults, atom_faults, na_faults, atomic_faults, arity_faults, function_faults, atoms_faults, fence_order_faults, simple_faults, tree_faults, trees_faults}
use Rattle.il_names.proofs.Callers.{none_in_both, none_in_three, none_in_four, none_in_five}
use Rattle.round_trip.proofs.Means.{AtomMeans, AtomsMean, SimpleMeans, TreeMeans, TreesMean}

-- a map changes no length
pub snoc_length_map : {A B : Type 0} (f : A → B) (xs : Snoc A) → snoc_length (snoc_map f xs) ≡ snoc_length xs
snoc_length_map f empty = refl
snoc_length_map f (append xs x) = ap (λ n. n + 1) (snoc_length_map f xs)

-- there is room for one more statement
room : (before at : ℕ) → before < 4096 → too_many_statements before at ≡ []
room before at low = ap (λ b. unless b C7 at) (lt-ltb before 4096 low)

-- a test that passes
passes : {b : Bool} (rule : Rule) (at : ℕ) → b ≡ true → unless b rule at ≡ []
passes rule at is = ap (λ t. unless t rule at) is

module _ (bytes : List ℕ) (known : Known) where
  abbrev pub f : Span → List ℕ
  f = name_text bytes

  -- a name of something known
  known_name : (names : List (List ℕ)) (n : Span) (i : ℕ) (rule : Rule) → number_of names (f n) ≡ Some i → unless (is_some (number_of names (f n))) rule n.start ≡ []
  known_name names n i rule is = ap (λ o. unless (is_some o) rule n.start) is

  -- its number
  number_is : (names : List (List ℕ)) (n : Span) (i : ℕ) → number_of names (f n) ≡ Some i → unwrap_or (number_of names (f n)) 0 ≡ i
  number_is names n i is = ap (λ o. unwrap_or o 0) is

  pub atom_is : (a : RawAtom Span) (v : Atom) → AtomMeans known (atom_map f a) v → atom_meaning bytes known a ≡ v
  atom_is (Constant x) v e = sym e
  atom_is (Named n) v (r, is, e) = ap Reg (number_is known.registers n r is) ∙ sym e

  pub atom_faultless : (a : RawAtom Span) (v : Atom) → AtomMeans known (atom_map f a) v → atom_faults bytes known a ≡ []
  atom_faultless (Constant x) v e = refl
  atom_faultless (Named n) v (r, is, e) = known_name known.registers n r C1 is

  atoms_are : (args : Snoc (RawAtom Span)) (list : List Atom) → AtomsMean known (snoc_map (atom_map f) args) list → atoms_meaning bytes known args ≡ list
  atoms_are empty list e = sym e
  atoms_are (append args a) list (front, last, before, here, e) = (λ i. atoms_are args front before i ++ atom_is a last here i ∷ []) ∙ sym e

  atoms_faultless : (args : Snoc (RawAtom Span)) (list : List Atom) → AtomsMean known (snoc_map (atom_map f) args) list → atoms_faults bytes known args ≡ []
  atoms_faultless empty list e = refl
  atoms_faultless (append args a) list (front, last, before, here, e) =
      none_in_both (atoms_faults bytes known args) (atom_faults bytes known a) (atoms_faultless args front before) (atom_faultless a last here)

  pub callee_faultless : (g : Span) (arguments i : ℕ) → number_of known.functions (f g) ≡ Some i → slice_get known.parameter_counts i ≡ Some arguments → function_faults bytes known g arguments ≡ []
  callee_faultless g arguments i is counted =
      ap (arity_faults bytes known g arguments) is
      ∙ ap (λ o. unless (option_map_or (λ n. arguments == n) o false) C6 g.start) counted
      ∙ passes C6 g.start (eq-eqb arguments arguments refl)

  simple_is : (x : Simple Span) (s : Stmt) → SimpleMeans known (simple_map f x) s → simple_meaning bytes known x ≡ s
  simple_is (skip w) s e = sym e
  simple_is (store w None x a) s (v, value, (i, is, e)) = (λ j. stmt.Store (number_is known.na x i is j) (atom_is a v value j)) ∙ sym e
  simple_is (store w (Some o) y a) s (v, value, (i, is, allowed, e)) = (λ j. stmt.AtomicStore o.order (number_is known.atomic y i is j) (atom_is a v value j)) ∙ sym e
  simple_is (fence w o) s (allowed, e) = sym e
  simple_is (print w a) s (v, value, e) = ap stmt.Print (atom_is a v value) ∙ sym e
  simple_is (copy n a) s (r, v, is, value, e) = (λ j. stmt.Copy (number_is known.registers n r is j) (atom_is a v value j)) ∙ sym e
  simple_is (compute n a op b) s (r, v, w, is, one, other, e) = (λ j. stmt.Compute (number_is known.registers n r is j) op (atom_is a v one j) (atom_is b w other j)) ∙ sym e
  simple_is (load n None x) s (r, is, (i, at, e)) = (λ j. stmt.Load (number_is known.registers n r is j) (number_is known.na x i at j)) ∙ sym e
  simple_is (load n (Some o) y) s (r, is, (i, at, allowed, e)) = (λ j. stmt.AtomicLoad (number_is known.registers n r is j) o.order (number_is known.atomic y i at j)) ∙ sym e
  simple_is (update n Adding o y a) s (r, i, v, is, at, value, e) =
      (λ j. stmt.Update (number_is known.registers n r is j) o.order (number_is known.atomic y i at j) (kinds.Add (atom_is a v value j))) ∙ sym e
  simple_is (update n Swapping o y a) s (r, i, v, is, at, value, e) =
      (λ j. stmt.Update (number_is known.registers n r is j) o.order (number_is known.atomic y i at j) (kinds.Swap (atom_is a v value j))) ∙ sym e
  simple_is (cas n o y a b) s (r, i, v, w, is, at, one, other, e) =
      (λ j. stmt.Update (number_is known.registers n r is j) o.order (number_is known.atomic y i at j) (kinds.Cas (atom_is a v one j) (atom_is b w other j))) ∙ sym e
  simple_is (call n g args) s (r, i, list, is, at, counted, there, e) =
      (λ j. stmt.Call (number_is known.registers n r is j) (number_is known.functions g i at j) (atoms_are args list there j)) ∙ sym e

  simple_faultless : (x : Simple Span) (s : Stmt) (before : ℕ) → SimpleMeans known (simple_map f x) s → before < 4096 → simple_faults bytes known x before ≡ []
  simple_faultless (skip w) s before e low = room before w.start low
  simple_faultless (store w None x a) s before (v, value, (i, is, e)) low =
      none_in_both (too_many_statements before w.start) _ (room before w.start low) (none_in_both (na_faults bytes known x) (atom_faults bytes known a) (known_name known.na x i _ is) (atom_faultless a v value))
  simple_faultless (store w (Some o) y a) s before (v, value, (i, is, allowed, e)) low =
      none_in_four (too_many_statements before w.start) _ (atomic_faults bytes known y) (atom_faults bytes known a) (room before w.start low) (passes C5 o.word.start allowed) (known_name known.atomic y i _ is) (atom_faultless a v value)
  simple_faultless (fence w o) s before (allowed, e) low =
      none_in_both (too_many_statements before w.start) (fence_order_faults o) (room before w.start low) (passes C5 o.word.start allowed)
  simple_faultless (print w a) s before (v, value, e) low =
      none_in_both (too_many_statements before w.start) (atom_faults bytes known a) (room before w.start low) (atom_faultless a v value)
  simple_faultless (copy n a) s before (r, v, is, value, e) low =
      none_in_three (register_faults bytes known n) (too_many_statements before n.start) (atom_faults bytes known a) (known_name known.registers n r C1 is) (room before n.start low) (atom_faultless a v value)
  simple_faultless (compute n a op b) s before (r, v, w, is, one, other, e) low =
      none_in_four (register_faults bytes known n) (too_many_statements before n.start) (atom_faults bytes known a) (atom_faults bytes known b) (known_name known.registers n r C1 is) (room before n.start low) (atom_faultless a v one) (atom_faultless b w other)
  simple_faultless (load n None x) s before (r, is, (i, at, e)) low =
      none_in_three (register_faults bytes known n) (too_many_statements before n.start) (na_faults bytes known x) (known_name known.registers n r C1 is) (room before n.start low) (known_name known.na x i _ at)
  simple_faultless (load n (Some o) y) s before (r, is, (i, at, allowed, e)) low =
      none_in_four (register_faults bytes known n) (too_many_statements before n.start) _ (atomic_faults bytes known y) (known_name known.registers n r C1 is) (room before n.start low) (passes C5 o.word.start allowed) (known_name known.atomic y i _ at)
  simple_faultless (update n w o y a) s before (r, i, v, is, at, value, e) low =
      none_in_four (register_faults bytes known n) (too_many_statements before n.start) (atomic_faults bytes known y) (atom_faults bytes known a) (known_name known.registers n r C1 is) (room before n.start low) (known_name known.atomic y i _ at) (atom_faultless a v value)
  simple_faultless (cas n o y a b) s before (r, i, v, w, is, at, one, other, e) low =
      none_in_five (register_faults bytes known n) (too_many_statements before n.start) (atomic_faults bytes known y) (atom_faults bytes known a) (atom_faults bytes known b) (known_name known.registers n r C1 is) (room before n.start low) (known_name known.atomic y i _ at) (atom_faultless a v one) (atom_faultless b w other)
  simple_faultless (call n g args) s before (r, i, list, is, at, counted, there, e) low =
      none_in_four (register_faults bytes known n) (too_many_statements before n.start) (function_faults bytes known g (snoc_length args)) (atoms_faults bytes known args) (known_name known.registers n r C1 is) (room before n.start low)
      (callee_faultless g (snoc_length args) i at (counted ∙ ap Some (snoc_length_map (atom_map f) args))) (atoms_faultless args list there)

  -- what a statement is, how many statements it is, and that it has no fault where there is room for them
  pub record TreeRead (x : Tree Span) (s : Stmt) (n : ℕ) : Type 0 where
    pub meaning : tree_meaning bytes known x ≡ s
    pub counted : count x ≡ n
    pub faultless : (before : ℕ) → before + n ≤ 4096 → tree_faults bytes known x before ≡ []

  pub record TreesRead (xs : Trees Span) (list : List Stmt) (n : ℕ) : Type 0 where
    pub meaning : trees_meaning bytes known xs ≡ list
    pub counted : count_all xs ≡ n
    pub faultless : (before : ℕ) → before + n ≤ 4096 → trees_faults bytes known xs before ≡ []

  mutual
    tree_read : (x : Tree Span) (s : Stmt) (n : ℕ) → TreeMeans known (tree_map f x) s n → TreeRead x s n
    tree_read (simply x) s n (means, one) = record {
      meaning = simple_is x s means;
      counted = sym one;
      faultless = λ before low. simple_faultless x s before means (omega (arith, low, one));
    }
    tree_read (choice w a one) s n (v, list, k, value, inner, e, counts) =
        let r = trees_read one list k inner in record {
          meaning = (λ j. choice_meaning (atom_is a v value j) (r.meaning j) []) ∙ sym e;
          counted = omega (arith, r.counted, counts);
          faultless = λ before low. none_in_three (too_many_statements before w.start) (atom_faults bytes known a) (trees_faults bytes known one (before + 1)) (room before w.start (omega (arith, low, counts))) (atom_faultless a v value)
              (r.faultless (before + 1) (omega (arith, low, counts)));
        }
    tree_read (choice_else w a one other) s n (v, list, last, k, m, value, inner, later, e, counts) =
        let r = trees_read one list k inner in
        let q = trees_read other last m later in record {
          meaning = (λ j. choice_meaning (atom_is a v value j) (r.meaning j) (q.meaning j)) ∙ sym e;
          counted = omega (arith, r.counted, q.counted, counts);
          faultless = λ before low. none_in_four (too_many_statements before w.start) (atom_faults bytes known a) (trees_faults bytes known one (before + 1)) (trees_faults bytes known other (before + 1 + count_all one))
              (room before w.start (omega (arith, low, counts))) (atom_faultless a v value) (r.faultless (before + 1) (omega (arith, low, counts))) (q.faultless (before + 1 + count_all one) (omega (arith, low, counts, r.counted)));
        }
    tree_read (repeat w a body) s n (v, list, k, value, inner, e, counts) =
        let r = trees_read body list k inner in record {
          meaning = (λ j. view.While (atom_is a v value j) (block (r.meaning j))) ∙ sym e;
          counted = omega (arith, r.counted, counts);
          faultless = λ before low. none_in_three (too_many_statements before w.start) (atom_faults bytes known a) (trees_faults bytes known body (before + 1)) (room before w.start (omega (arith, low, counts))) (atom_faultless a v value)
              (r.faultless (before + 1) (omega (arith, low, counts)));
        }

    pub trees_read : (xs : Trees Span) (list : List Stmt) (n : ℕ) → TreesMean known (trees_map f xs) list n → TreesRead xs list n
    trees_read no_tree list n (e, none) = record { meaning = sym e; counted = sym none; faultless = λ before low. refl }
    trees_read (add_tree xs x) list n (front, last, k, m, before_it, here, e, counts) =
        let r = trees_read xs front k before_it in
        let q = tree_read x last m here in record {
          meaning = (λ j. r.meaning j ++ q.meaning j ∷ []) ∙ sym e;
          counted = omega (arith, r.counted, q.counted, counts);
          faultless = λ before low. none_in_both (trees_faults bytes known xs before) (tree_faults bytes known x (before + count_all xs)) (r.faultless before (omega (arith, low, counts)))
              (q.faultless (before + count_all xs) (omega (arith, low, counts, r.counted)));
        }
