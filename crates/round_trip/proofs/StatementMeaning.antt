-- The tree of a well-formed statement means that statement.
use Rattle.std.proofs.Common.{◌≡◌, ℕ, zero, suc, ◌+◌, ◌^◌, List, [], ◌∷◌, ◌++◌, length, map, Bool, true, ◌&&◌, nat_lt, leb, Some, refl, sym, ap, ◌∙◌, subst, append_assoc, arith, length-append, zero-add}
use Rattle.std.specs.Prelude.{ℤ, pos, negsuc, slice_get, codes}
use Rattle.std.specs.List.{list_all}
use Rattle.std.proofs.lemmas.Bool.{and_parts, ltb-true, leb-false, cond-true, cond_both, le-leb, lt-ltb, eqb-true}
use Rattle.std.proofs.lemmas.List.{map-id, append-nil, length-map}
use Rattle.values_undef.specs.declared.access.Order.{Order}
use Rattle.il_syntax.specs.declared.statement.Atom.{Atom}
use Rattle.il_syntax.specs.declared.statement.Atom.TheVariants.{Const, Reg}
use Rattle.il_syntax.specs.declared.statement.Rmw.{Rmw}
use Rattle.il_syntax.specs.declared.statement.Rmw.TheVariants as kinds
use Rattle.il_syntax.specs.declared.statement.Stmt.{Stmt}
use Rattle.il_syntax.specs.declared.statement.Block.{Block}
use Rattle.il_syntax.specs.declared.statement.Stmt.TheOpen.{Stmt-F, Skip, Copy, Compute, Load, Store, AtomicLoad, AtomicStore, Update, Fence, Print, If, While, Call}
use Rattle.il_syntax.specs.declared.statement.Stmt.TheVariants.{rolls-Skip, rolls-Copy, rolls-Compute, rolls-Load, rolls-Store, rolls-AtomicLoad, rolls-AtomicStore, rolls-Update, rolls-Fence, rolls-Print, rolls-If, rolls-While, rolls-Call}
use Rattle.il_syntax.specs.declared.statement.Stmt.TheViews.{roll-Stmt}
use Rattle.il_syntax.specs.declared.statement.Stmt.TheFolds.{fold-Block, fold-roll-Stmt, map-Stmt}
use Rattle.il_syntax.specs.declared.program.Program.{Program}
use Rattle.il_syntax.specs.Statements.{Head, heads_step, heads_block, heads_of, heads_of_all}
use Rattle.il_syntax.specs.Text.{register_name, location_name, function_name}
use Rattle.il_syntax.specs.WellFormed.{params_of, is_signed_64, atom_exists, operands_exist, has_params}
use Rattle.il_syntax.specs.Checks.{head_fits}
use Rattle.il_grammar.specs.declared.syntax.RawAtom.{RawAtom}
use Rattle.il_grammar.specs.Grammar.{Snoc, empty, append, Tree, Trees, no_tree, add_tree, repeat}
use Rattle.il_grammar.specs.Reading.{snoc, snoc_from}
use Rattle.il_names.specs.Known.{Known, number_of, snoc_length}
use Rattle.il_names.specs.Meaning.{literal_value, negated, choice_meaning}
use Rattle.il_names.proofs.Callers.{snoc_length_snoc}
use Rattle.round_trip.proofs.Lists.{in_order, block}
use Rattle.round_trip.proofs.Written.{written_number, written_atom, written_update, written_choice, written_step, written_block, written_statement}
use Rattle.round_trip.proofs.Statements.{fold_block, Each, Known as KnownOf, KnownBlock, known as known_layer, by_blocks, each_holds}
use Rattle.round_trip.proofs.Fits.{Fits, first_fits, rest_fits, all_in_both}
use Rattle.round_trip.proofs.Means.{AtomMeans, AtomsMean, SimpleMeans, TreeMeans, TreesMean}
use Rattle.round_trip.proofs.Names.{AllApart, number_found}

-- a number with its sign is read back
pub number_value : (n : ℤ) → is_signed_64 n ≡ true → n ≡ literal_value (written_number n)
number_value (pos n) e = sym (cond-true (leb n 9223372036854775807) (pos n) (pos 9223372036854775807) (le-leb n 9223372036854775807 (omega (arith, ltb-true n (2 ^ 63) e))))
number_value (negsuc n) e =
    let low = ltb-true n (2 ^ 63) e in
    cond_both (leb (suc n) 9223372036854775807) (negated (suc n)) (negsuc 9223372036854775807) (λ z. negsuc n ≡ z) (λ small. refl)
    (λ large. ap negsuc (omega (arith, low, leb-false (suc n) 9223372036854775807 large)))

-- a function that is there has as many parameters as a call says
pub params_there : (params : List ℕ) (g count : ℕ) → nat_lt g (length params) ≡ true → has_params params g count ≡ true → slice_get params g ≡ Some count
params_there [] g count below agree = absurd (omega (arith, ltb-true g 0 below))
params_there (n ∷ params) zero count below agree = ap Some (sym (eqb-true count n agree))
params_there (n ∷ params) (suc g) count below agree = params_there params g count (lt-ltb g (length params) (omega (arith, ltb-true (suc g) (suc (length params)) below))) agree

-- what statements of a function with these registers may speak of
abbrev pub known_for : Program → List (List ℕ) → Known
known_for p registers = record {
  na = map (λ l. l.name) p.na;
  atomic = map (λ l. l.name) p.atomic;
  functions = map (λ f. f.name) p.functions;
  parameter_counts = params_of p;
  registers = registers;
}

pub record NamesApart (p : Program) (registers : List (List ℕ)) : Type 0 where
  pub registers_apart : AllApart registers
  pub na_apart : AllApart (map (λ l. l.name) p.na)
  pub atomic_apart : AllApart (map (λ l. l.name) p.atomic)
  pub functions_apart : AllApart (map (λ f. f.name) p.functions)

module _ (p : Program) (registers : List (List ℕ)) (names : NamesApart p registers) where
  abbrev known : Known
  known = known_for p registers

  abbrev pub fits : Head → Bool
  fits = head_fits (length registers) (length p.na) (length p.atomic) (params_of p)

  register_number : (r : ℕ) → nat_lt r (length registers) ≡ true → number_of registers (register_name registers r) ≡ Some r
  register_number r below =
      let same = map-id registers in
      subst (λ list. number_of list (register_name registers r) ≡ Some r) same
      (number_found (λ n. n) registers r (subst AllApart (sym same) names.registers_apart) (ltb-true r (length registers) below))

  na_number : (x : ℕ) → nat_lt x (length p.na) ≡ true → number_of known.na (location_name p.na x) ≡ Some x
  na_number x below = number_found (λ l. l.name) p.na x names.na_apart (ltb-true x (length p.na) below)

  atomic_number : (y : ℕ) → nat_lt y (length p.atomic) ≡ true → number_of known.atomic (location_name p.atomic y) ≡ Some y
  atomic_number y below = number_found (λ l. l.name) p.atomic y names.atomic_apart (ltb-true y (length p.atomic) below)

  pub function_number : (g : ℕ) → nat_lt g (length p.functions) ≡ true → number_of known.functions (function_name p.functions g) ≡ Some g
  function_number g below = number_found (λ f. f.name) p.functions g names.functions_apart (ltb-true g (length p.functions) below)

  pub atom_means : (a : Atom) → atom_exists (length registers) a ≡ true → AtomMeans known (written_atom registers a) a
  atom_means (Const n) e = ap Const (number_value n e)
  atom_means (Reg r) e = (r, register_number r e, refl)

  atoms_from : (args : List Atom) (front : Snoc (RawAtom (List ℕ))) (list : List Atom) → AtomsMean known front list → list_all (atom_exists (length registers)) args ≡ true → AtomsMean known (snoc_from front (map (written_atom registers) args)) (list ++ args)
  atoms_from [] front list before e = subst (AtomsMean known front) (sym (append-nil list)) before
  atoms_from (a ∷ args) front list before e =
      let parts = and_parts (atom_exists (length registers) a) (list_all (atom_exists (length registers)) args) e in
      subst (AtomsMean known (snoc_from (append front (written_atom registers a)) (map (written_atom registers) args))) (append_assoc list (a ∷ []) args)
      (atoms_from args (append front (written_atom registers a)) (list ++ a ∷ []) (list, a, before, atom_means a parts.0, refl) parts.1)

  atoms_mean : (args : List Atom) → list_all (atom_exists (length registers)) args ≡ true → AtomsMean known (snoc (map (written_atom registers) args)) args
  atoms_mean args e = atoms_from args empty [] refl e

  update_means : (r : ℕ) (o : Order) (y : ℕ) (kind : Rmw) → nat_lt r (length registers) ≡ true → nat_lt y (length p.atomic) ≡ true → operands_exist (length registers) kind ≡ true → SimpleMeans known (written_update registers (register_name registers r) o (location_name p.atomic y) kind) (roll-Stmt (Update r o y kind))
  update_means r o y (kinds.Add a) below there e = (r, y, a, register_number r below, atomic_number y there, atom_means a e, rolls-Update r o y (kinds.Add a))
  update_means r o y (kinds.Swap a) below there e = (r, y, a, register_number r below, atomic_number y there, atom_means a e, rolls-Update r o y (kinds.Swap a))
  update_means r o y (kinds.Cas a b) below there e =
      let parts = and_parts (atom_exists (length registers) a) (atom_exists (length registers) b) e in
      (r, y, a, b, register_number r below, atomic_number y there, atom_means a parts.0, atom_means b parts.1, rolls-Update r o y (kinds.Cas a b))

  -- a tree means a statement with these heads
  record IsMeant (tree : Tree (List ℕ)) (heads : List Head) (s : Stmt) : Type 0 where
    means : list_all fits heads ≡ true → TreeMeans known tree s (length heads)

  abbrev Meant : Stmt → Type 0
  Meant s = IsMeant (written_statement p registers s) (heads_of s) s

  abbrev tree_block : Block → List (Tree (List ℕ))
  tree_block = fold-Block (Tree (List ℕ)) (List (Tree (List ℕ))) (written_step p registers) written_block

  abbrev heads_in : Block → List Head
  heads_in = fold-Block (List Head) (List Head) heads_step heads_block

  abbrev IsMeantLayer : Stmt-F Stmt Block → Type 0
  IsMeantLayer x = IsMeant
      (written_step p registers (map-Stmt Stmt Block (Tree (List ℕ)) (List (Tree (List ℕ))) (written_statement p registers) tree_block x))
      (heads_step (map-Stmt Stmt Block (List Head) (List Head) heads_of heads_in x))
      (roll-Stmt x)

  rolled : (x : Stmt-F Stmt Block) → IsMeantLayer x → Meant (roll-Stmt x)
  rolled x meant = subst (λ (q : Tree (List ℕ) × List Head). IsMeant q.0 q.1 (roll-Stmt x))
      (λ i. (
        sym (fold-roll-Stmt (Tree (List ℕ)) (List (Tree (List ℕ))) (written_step p registers) written_block x) i,
        sym (fold-roll-Stmt (List Head) (List Head) heads_step heads_block x) i,
      )) meant

  abbrev trees : List Stmt → List (Tree (List ℕ))
  trees = map (written_statement p registers)

  trees_from : (ss : List Stmt) → Each Meant ss → (front : Trees (List ℕ)) (list : List Stmt) (n : ℕ) → TreesMean known front list n → list_all fits (heads_of_all ss) ≡ true → TreesMean known (in_order front (trees ss)) (list ++ ss) (n + length (heads_of_all ss))
  trees_from [] each front list n before e =
      let none : n ≡ n + 0 = omega arith in
      subst (λ (q : List Stmt × ℕ). TreesMean known front q.0 q.1) (λ i. (sym (append-nil list) i, none i)) before
  trees_from (s ∷ ss) each front list n before e =
      let parts = all_in_both fits (heads_of s) (heads_of_all ss) e in
      let here : TreesMean known (add_tree front (written_statement p registers s)) (list ++ s ∷ []) (n + length (heads_of s)) =
      (list, s, n, length (heads_of s), before, each.0.means parts.0, refl, refl) in
      let joined = length-append (heads_of s) (heads_of_all ss) in
      let counts : n + length (heads_of s) + length (heads_of_all ss) ≡ n + length (heads_of s ++ heads_of_all ss) = omega (arith, joined) in
      subst (λ (q : List Stmt × ℕ). TreesMean known (in_order front (trees (s ∷ ss))) q.0 q.1) (λ i. (append_assoc list (s ∷ []) ss i, counts i))
      (trees_from ss each.1 (add_tree front (written_statement p registers s)) (list ++ s ∷ []) (n + length (heads_of s)) here parts.1)

  trees_mean : (ss : List Stmt) → Each Meant ss → list_all fits (heads_of_all ss) ≡ true → TreesMean known (block (trees ss)) ss (length (heads_of_all ss))
  trees_mean ss each e =
      subst (TreesMean known (block (trees ss)) ss) (zero-add (length (heads_of_all ss))) (trees_from ss each no_tree [] 0 (refl, refl) e)

  abbrev FitsHere : Head → Type 0
  FitsHere = Fits (length registers) (length p.na) (length p.atomic) (params_of p)

  own_fits : (h : Head) (hs : List Head) → list_all fits (h ∷ hs) ≡ true → FitsHere h
  own_fits = first_fits (length registers) (length p.na) (length p.atomic) (params_of p)

  inner_fits : (h : Head) (hs : List Head) → list_all fits (h ∷ hs) ≡ true → list_all fits hs ≡ true
  inner_fits = rest_fits (length registers) (length p.na) (length p.atomic) (params_of p)

  choice_means : (a : Atom) (one other : List Stmt) → Each Meant one → Each Meant other → (s : Stmt) → s ≡ choice_meaning a one other → list_all fits (If a tt tt ∷ (heads_of_all one ++ heads_of_all other)) ≡ true
      → TreeMeans known (written_choice (written_atom registers a) (trees one) (trees other)) s (length (If a tt tt ∷ (heads_of_all one ++ heads_of_all other)))
  choice_means a one [] first second s is e =
      let own = own_fits (If a tt tt) (heads_of_all one ++ []) e in
      let inner = all_in_both fits (heads_of_all one) [] (inner_fits (If a tt tt) (heads_of_all one ++ []) e) in
      let none : List Head = [] in
      let joined = length-append (heads_of_all one) none in
      (a, one, length (heads_of_all one), atom_means a own.numbers, trees_mean one first inner.0, is, omega (arith, joined))
  choice_means a one (t ∷ other) first second s is e =
      let later = heads_of_all (t ∷ other) in
      let own = own_fits (If a tt tt) (heads_of_all one ++ later) e in
      let inner = all_in_both fits (heads_of_all one) later (inner_fits (If a tt tt) (heads_of_all one ++ later) e) in
      let joined = length-append (heads_of_all one) later in
      (a, one, t ∷ other, length (heads_of_all one), length later, atom_means a own.numbers, trees_mean one first inner.0, trees_mean (t ∷ other) second inner.1, is, omega (arith, joined))

  if_means : (a : Atom) (one other : Block) → Each Meant one.statements → Each Meant other.statements → IsMeant (written_choice (written_atom registers a) (trees one.statements) (trees other.statements)) (If a tt tt ∷ (heads_of_all one.statements ++ heads_of_all other.statements)) (roll-Stmt (If a one other))
  if_means a one other first second = record {
    means = λ e. choice_means a one.statements other.statements first second (roll-Stmt (If a one other)) (rolls-If a one other) e;
  }

  while_means : (a : Atom) (body : Block) → Each Meant body.statements → IsMeant (repeat (codes "while") (written_atom registers a) (block (trees body.statements))) (While a tt ∷ heads_of_all body.statements) (roll-Stmt (While a body))
  while_means a body each = record {
    means = λ e.
        let own = own_fits (While a tt) (heads_of_all body.statements) e in
        (a, body.statements, length (heads_of_all body.statements), atom_means a own.numbers, trees_mean body.statements each (inner_fits (While a tt) (heads_of_all body.statements) e), rolls-While a body, omega arith);
  }

  -- the trees and heads of a block

  abbrev Inner : Type 0
  Inner = List (Tree (List ℕ)) × List Head

  abbrev folded : Block → Inner
  folded b = (tree_block b, heads_in b)

  abbrev mapped : Block → Inner
  mapped b = (trees b.statements, heads_of_all b.statements)

  mapped_folded : (b : Block) → mapped b ≡ folded b
  mapped_folded b = λ i. (sym (fold_block (written_step p registers) written_block b) i, sym (fold_block heads_step heads_block b) i)

  abbrev IfMeant : Atom → Block → Block → Inner → Inner → Type 0
  IfMeant a x y one other = IsMeant (written_step p registers (If a one.0 other.0)) (heads_step (If a one.1 other.1)) (roll-Stmt (If a x y))

  abbrev WhileMeant : Atom → Block → Inner → Type 0
  WhileMeant a x body = IsMeant (written_step p registers (While a body.0)) (heads_step (While a body.1)) (roll-Stmt (While a x))

  meant_layer : (y : Stmt-F (KnownOf Meant) (KnownBlock Meant)) → IsMeantLayer (known_layer Meant y)
  meant_layer Skip = record { means = λ e. (rolls-Skip, refl) }
  meant_layer (Copy r a) = record {
    means = λ e.
        let parts = and_parts (nat_lt r (length registers)) (atom_exists (length registers) a) (own_fits (Copy r a) [] e).numbers in
        ((r, a, register_number r parts.0, atom_means a parts.1, rolls-Copy r a), refl);
  }
  meant_layer (Compute r op a b) = record {
    means = λ e.
        let parts = and_parts (nat_lt r (length registers)) (atom_exists (length registers) a && atom_exists (length registers) b) (own_fits (Compute r op a b) [] e).numbers in
        let operands = and_parts (atom_exists (length registers) a) (atom_exists (length registers) b) parts.1 in
        ((r, a, b, register_number r parts.0, atom_means a operands.0, atom_means b operands.1, rolls-Compute r op a b), refl);
  }
  meant_layer (Load r x) = record {
    means = λ e. let own = own_fits (Load r x) [] e in ((r, register_number r own.numbers, (x, na_number x own.na_location, rolls-Load r x)), refl);
  }
  meant_layer (Store x a) = record {
    means = λ e. let own = own_fits (Store x a) [] e in ((a, atom_means a own.numbers, (x, na_number x own.na_location, rolls-Store x a)), refl);
  }
  meant_layer (AtomicLoad r o y) = record {
    means = λ e. let own = own_fits (AtomicLoad r o y) [] e in ((r, register_number r own.numbers, (y, atomic_number y own.atomic_location, own.order, rolls-AtomicLoad r o y)), refl);
  }
  meant_layer (AtomicStore o y a) = record {
    means = λ e. let own = own_fits (AtomicStore o y a) [] e in ((a, atom_means a own.numbers, (y, atomic_number y own.atomic_location, own.order, rolls-AtomicStore o y a)), refl);
  }
  meant_layer (Update r o y kind) = record {
    means = λ e.
        let own = own_fits (Update r o y kind) [] e in
        let parts = and_parts (nat_lt r (length registers)) (operands_exist (length registers) kind) own.numbers in
        (update_means r o y kind parts.0 own.atomic_location parts.1, refl);
  }
  meant_layer (Fence o) = record { means = λ e. (((own_fits (Fence o) [] e).order, rolls-Fence o), refl) }
  meant_layer (Print a) = record { means = λ e. ((a, atom_means a (own_fits (Print a) [] e).numbers, rolls-Print a), refl) }
  meant_layer (If a one other) =
      subst (λ q. IfMeant a one.0 other.0 q (folded other.0)) (mapped_folded one.0)
      (subst (IfMeant a one.0 other.0 (mapped one.0)) (mapped_folded other.0) (if_means a one.0 other.0 one.1 other.1))
  meant_layer (While a body) = subst (WhileMeant a body.0) (mapped_folded body.0) (while_means a body.0 body.1)
  meant_layer (Call r g args) = record {
    means = λ e.
        let own = own_fits (Call r g args) [] e in
        let parts = and_parts (nat_lt r (length registers)) (nat_lt g (length (params_of p)) && list_all (atom_exists (length registers)) args) own.numbers in
        let callee = and_parts (nat_lt g (length (params_of p))) (list_all (atom_exists (length registers)) args) parts.1 in
        let there : nat_lt g (length p.functions) ≡ true = subst (λ n. nat_lt g n ≡ true) (length-map p.functions (λ f. f.params)) callee.0 in
        let counted : snoc_length (snoc (map (written_atom registers) args)) ≡ length args = snoc_length_snoc (map (written_atom registers) args) ∙ length-map args (written_atom registers) in
        ((r, g, args, register_number r parts.0, function_number g there, params_there (params_of p) g (length args) callee.0 own.arity ∙ ap Some (sym counted), atoms_mean args callee.1, rolls-Call r g args), refl);
  }

  pub statements_mean : (ss : List Stmt) → list_all fits (heads_of_all ss) ≡ true → TreesMean known (block (trees ss)) ss (length (heads_of_all ss))
  statements_mean ss e = trees_mean ss (each_holds Meant (by_blocks Meant (λ y. rolled (known_layer Meant y) (meant_layer y))) ss) e
