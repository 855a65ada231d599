-- The lines of a statement are read as its tree.
use Rattle.std.proofs.Common.{◌≡◌, ℕ, suc, ◌+◌, ◌^◌, ◌≤◌, max, List, [], ◌∷◌, ◌++◌, length, map, Bool, true, ◌&&◌, nat_lt, refl, sym, ap, subst, append_assoc, arith}
use Rattle.std.specs.Prelude.{codes, ℤ, pos, negsuc}
use Rattle.std.specs.List.{list_all}
use Rattle.std.specs.Fmt.{signed_decimal}
use Rattle.std.proofs.lemmas.Bool.{and_parts, ltb-true}
use Rattle.values_undef.specs.declared.access.Order.{Order}
use Rattle.values_undef.specs.declared.arithmetic.Op.{Op}
use Rattle.token_machine.specs.Text.{plain}
use Rattle.il_syntax.specs.declared.statement.Atom.{Atom}
use Rattle.il_syntax.specs.declared.statement.Atom.TheVariants.{Const, Reg}
use Rattle.il_syntax.specs.declared.statement.Rmw.{Rmw}
use Rattle.il_syntax.specs.declared.statement.Rmw.TheVariants as kinds
use Rattle.il_syntax.specs.declared.statement.Stmt.{Stmt}
use Rattle.il_syntax.specs.declared.statement.Block.{Block}
use Rattle.il_syntax.specs.declared.statement.Stmt.TheOpen.{Stmt-F, Skip, Copy, Compute, Load, Store, AtomicLoad, AtomicStore, Update, Fence, Print, If, While, Call}
use Rattle.il_syntax.specs.declared.statement.Stmt.TheViews.{roll-Stmt}
use Rattle.il_syntax.specs.declared.statement.Stmt.TheFolds.{fold-Block, fold-roll-Stmt, map-Stmt}
use Rattle.il_syntax.specs.declared.program.Program.{Program}
use Rattle.il_syntax.specs.Name.{is_name}
use Rattle.il_syntax.specs.Statements.{Head, heads_step, heads_block, heads_of, heads_of_all, depth_step, depth_block, depth_of, depth_of_all}
use Rattle.il_syntax.specs.Text.{register_name, location_name, function_name, name_or_empty, atom_text, op_text, compute_text, update_text, call_text, assignment, Lines, all_at, else_text, line, listed as listed_text, statement_text_step, block_text_step, statement_text}
use Rattle.il_syntax.specs.WellFormed.{is_signed_64, atom_exists, operands_exist}
use Rattle.il_syntax.specs.Checks.{head_fits}
use Rattle.il_grammar.specs.declared.terminal.Terminal.TheVariants as t
use Rattle.il_grammar.specs.Grammar.{Tree, no_tree, literal, name, atom, open_at, simple, repeat, statement, statements, listed_if_any}
use Rattle.il_grammar.specs.Reading.{snoc}
use Rattle.round_trip.proofs.Parts.{Spelling, Closed, Open, closed_closed, closed_open, open_closed, closed_as, as_open, nothing, space, on_line, word, named, number, left_paren, right_paren, block_brace, close_brace, comma, semicolon, minus, equals, operator, order_word, fence_order_word}
use Rattle.round_trip.proofs.Lists.{block, all, AllOpen, closed_listed, all_statements}
use Rattle.round_trip.proofs.Written.{written_number, written_atom, written_update, written_choice, written_step, written_block, written_statement}
use Rattle.round_trip.proofs.Statements.{fold_block, Each, Known, KnownBlock, known, by_blocks, each_holds}
use Rattle.round_trip.proofs.Fits.{Fits, first_fits, rest_fits, all_in_both, name_there}

-- numbers and atoms

pub number_text : (n : ℤ) → is_signed_64 n ≡ true → Open (signed_decimal n) (literal (written_number n))
number_text (pos n) e = number 9223372036854775807 n (omega arith) (omega (arith, ltb-true n (2 ^ 63) e))
number_text (negsuc n) e = closed_open minus (number 9223372036854775808 (suc n) (omega arith) (omega (arith, ltb-true n (2 ^ 63) e)))

-- a name of an item
pub name_text : {X : Type 0} (of : X → List ℕ) (xs : List X) (i : ℕ) → list_all (λ x. is_name (of x)) xs ≡ true → nat_lt i (length xs) ≡ true → Open (name_or_empty of xs i) (name (name_or_empty of xs i))
name_text of xs i all below = named (name_or_empty of xs i) (name_there of xs i all below)

-- what a function's statements may speak of has names
pub record HasNames (p : Program) (registers : List (List ℕ)) : Type 0 where
  pub registers_named : list_all is_name registers ≡ true
  pub na_named : list_all (λ l. is_name l.name) p.na ≡ true
  pub atomic_named : list_all (λ l. is_name l.name) p.atomic ≡ true
  pub functions_named : list_all (λ f. is_name f.name) p.functions ≡ true

module _ (p : Program) (registers : List (List ℕ)) (params : List ℕ) (names : HasNames p registers) (counted : length params ≡ length p.functions) where
  abbrev pub fits : Head → Bool
  fits = head_fits (length registers) (length p.na) (length p.atomic) params

  abbrev FitsHere : Head → Type 0
  FitsHere = Fits (length registers) (length p.na) (length p.atomic) params

  register_text : (r : ℕ) → nat_lt r (length registers) ≡ true → Open (register_name registers r) (name (register_name registers r))
  register_text r below = name_text (λ n. n) registers r names.registers_named below

  pub atom_part : (a : Atom) → atom_exists (length registers) a ≡ true → Open (atom_text registers a) (atom (written_atom registers a))
  atom_part (Const n) e = number_text n e
  atom_part (Reg r) e = register_text r e

  atoms_part : (args : List Atom) → list_all (atom_exists (length registers)) args ≡ true → AllOpen (atom_text registers) (written_atom registers) atom args
  atoms_part [] e = tt
  atoms_part (a ∷ args) e =
      let parts = and_parts (atom_exists (length registers) a) (list_all (atom_exists (length registers)) args) e in
      (atom_part a parts.0, atoms_part args parts.1)

  na_text : (x : ℕ) → nat_lt x (length p.na) ≡ true → Open (location_name p.na x) (name (location_name p.na x))
  na_text x below = name_text (λ l. l.name) p.na x names.na_named below

  atomic_text : (y : ℕ) → nat_lt y (length p.atomic) ≡ true → Open (location_name p.atomic y) (name (location_name p.atomic y))
  atomic_text y below = name_text (λ l. l.name) p.atomic y names.atomic_named below

  function_text : (g : ℕ) → nat_lt g (length p.functions) ≡ true → Open (function_name p.functions g) (name (function_name p.functions g))
  function_text g below = name_text (λ f. f.name) p.functions g names.functions_named below

  -- a statement that gives a register a value
  assigned : (k r : ℕ) {right : List ℕ} {f : Spelling} → nat_lt r (length registers) ≡ true → Open right f → Closed (line k (assignment registers r right)) (λ ms. name (register_name registers r) (plain t.Equals ∷ f (plain t.Semicolon ∷ ms)))
  assigned k r below right = on_line k (open_closed (closed_open (open_closed (register_text r below) refl equals) right) refl semicolon)

  load_word : Closed (codes "load ") (λ ms. plain t.Load ∷ ms)
  load_word = open_closed (word (codes "load") refl (λ f span e. refl)) refl space

  store_word : Closed (codes "store ") (λ ms. plain (t.Store (codes "store")) ∷ ms)
  store_word = open_closed (word (codes "store") refl (λ f span e. ap t.Store e)) refl space

  computed : (o : Op) (a b : Atom) → atom_exists (length registers) a ≡ true → atom_exists (length registers) b ≡ true → Open (compute_text registers o a b) (λ ms. atom (written_atom registers a) (plain (t.Operator o) ∷ atom (written_atom registers b) ms))
  computed o a b ea eb =
      let front = atom_text registers a ++ codes " " in
      let first : Closed front (atom (written_atom registers a)) = open_closed (atom_part a ea) refl space in
      closed_open (subst (λ bytes. Closed bytes (λ ms. atom (written_atom registers a) (plain (t.Operator o) ∷ ms))) (sym (append_assoc front (op_text o) (codes " "))) (closed_closed first (operator o))) (atom_part b eb)

  add_word : Closed (codes "add ") (λ ms. plain t.Add ∷ ms)
  add_word = open_closed (word (codes "add") refl (λ f span e. refl)) refl space

  swap_word : Closed (codes "swap ") (λ ms. plain t.Swap ∷ ms)
  swap_word = open_closed (word (codes "swap") refl (λ f span e. refl)) refl space

  cas_word : Closed (codes "cas ") (λ ms. plain t.Cas ∷ ms)
  cas_word = open_closed (word (codes "cas") refl (λ f span e. refl)) refl space

  updated : (k r : ℕ) (o : Order) (y : ℕ) (kind : Rmw) → nat_lt r (length registers) ≡ true → nat_lt y (length p.atomic) ≡ true → operands_exist (length registers) kind ≡ true → Closed (line k (assignment registers r (update_text registers o (location_name p.atomic y) kind))) (λ ms. simple (written_update registers (register_name registers r) o (location_name p.atomic y) kind) (plain t.Semicolon ∷ ms))
  updated k r o y (kinds.Add a) below there e =
      assigned k r below (closed_open (open_closed (closed_open (open_closed (closed_open add_word (order_word o)) refl space) (atomic_text y there)) refl comma) (atom_part a e))
  updated k r o y (kinds.Swap a) below there e =
      assigned k r below (closed_open (open_closed (closed_open (open_closed (closed_open swap_word (order_word o)) refl space) (atomic_text y there)) refl comma) (atom_part a e))
  updated k r o y (kinds.Cas expected new) below there e =
      let parts = and_parts (atom_exists (length registers) expected) (atom_exists (length registers) new) e in
      let first = open_closed (closed_open (open_closed (closed_open (open_closed (closed_open cas_word (order_word o)) refl space) (atomic_text y there)) refl comma) (atom_part expected parts.0)) refl comma in
      assigned k r below (closed_open first (atom_part new parts.1))

  call_word : Closed (codes "call ") (λ ms. plain t.Call ∷ ms)
  call_word = open_closed (word (codes "call") refl (λ f span e. refl)) refl space

  called : (g : ℕ) (args : List Atom) → nat_lt g (length p.functions) ≡ true → list_all (atom_exists (length registers)) args ≡ true → Open (call_text registers (function_name p.functions g) args) (λ ms. plain t.Call ∷ name (function_name p.functions g) (plain t.LeftParen ∷ listed_if_any atom (snoc (map (written_atom registers) args)) (plain t.RightParen ∷ ms)))
  called g args there e =
      let front = codes "call " ++ function_name p.functions g ++ codes "(" in
      let texts = listed_text (map (atom_text registers) args) in
      let list : Closed (texts ++ codes ")") (λ ms. listed_if_any atom (snoc (map (written_atom registers) args)) (plain t.RightParen ∷ ms)) =
      closed_listed (atom_text registers) (written_atom registers) atom args (atoms_part args e) refl right_paren in
      let before : Closed front (λ ms. plain t.Call ∷ name (function_name p.functions g) (plain t.LeftParen ∷ ms)) =
      open_closed (closed_open call_word (function_text g there)) refl left_paren in
      as_open (subst (λ bytes. Closed bytes (λ ms. plain t.Call ∷ name (function_name p.functions g) (plain t.LeftParen ∷ listed_if_any atom (snoc (map (written_atom registers) args)) (plain t.RightParen ∷ ms))))
      (sym (append_assoc front texts (codes ")"))) (closed_closed before list))

  -- the lines of a statement, of its heads and of its depth, are read as its tree
  record IsRight (text : Lines) (tree : Tree (List ℕ)) (heads : List Head) (deep : ℕ) : Type 0 where
    part : (k depth : ℕ) → depth + deep ≤ 32 → list_all fits heads ≡ true → Closed (text k) (statement tree depth)

  abbrev text_block : Block → List Lines
  text_block = fold-Block Lines (List Lines) (statement_text_step p registers) block_text_step

  abbrev tree_block : Block → List (Tree (List ℕ))
  tree_block = fold-Block (Tree (List ℕ)) (List (Tree (List ℕ))) (written_step p registers) written_block

  abbrev Right : Stmt → Type 0
  Right s = IsRight (statement_text p registers s) (written_statement p registers s) (heads_of s) (depth_of s)

  abbrev IsRightLayer : Stmt-F Stmt Block → Type 0
  IsRightLayer x = IsRight
      (statement_text_step p registers (map-Stmt Stmt Block Lines (List Lines) (statement_text p registers) text_block x))
      (written_step p registers (map-Stmt Stmt Block (Tree (List ℕ)) (List (Tree (List ℕ))) (written_statement p registers) tree_block x))
      (heads_step (map-Stmt Stmt Block (List Head) (List Head) heads_of (fold-Block (List Head) (List Head) heads_step heads_block) x))
      (depth_step (map-Stmt Stmt Block ℕ ℕ depth_of (fold-Block ℕ ℕ depth_step depth_block) x))

  rolled : (x : Stmt-F Stmt Block) → IsRightLayer x → Right (roll-Stmt x)
  rolled x right = subst (λ (q : Lines × Tree (List ℕ) × List Head × ℕ). IsRight q.0 q.1 q.2 q.3)
      (λ i. (
        sym (fold-roll-Stmt Lines (List Lines) (statement_text_step p registers) block_text_step x) i,
        sym (fold-roll-Stmt (Tree (List ℕ)) (List (Tree (List ℕ))) (written_step p registers) written_block x) i,
        sym (fold-roll-Stmt (List Head) (List Head) heads_step heads_block x) i,
        sym (fold-roll-Stmt ℕ ℕ depth_step depth_block x) i,
      )) right

  statements_part : (ss : List Stmt) → Each Right ss → (k depth : ℕ) → depth + depth_of_all ss ≤ 32 → list_all fits (heads_of_all ss) ≡ true → Closed (all_at k (map (statement_text p registers) ss)) (all (λ x. statement x depth) (map (written_statement p registers) ss))
  statements_part [] each k depth low fit = nothing
  statements_part (s ∷ ss) each k depth low fit =
      let parts = all_in_both fits (heads_of s) (heads_of_all ss) fit in
      closed_closed (each.0.part k depth (omega (arith, low)) parts.0) (statements_part ss each.1 k depth (omega (arith, low)) parts.1)

  block_part : (ss : List Stmt) → Each Right ss → (k depth : ℕ) → depth + depth_of_all ss ≤ 32 → list_all fits (heads_of_all ss) ≡ true → Closed (all_at k (map (statement_text p registers) ss)) (statements (block (map (written_statement p registers) ss)) depth)
  block_part ss each k depth low fit = closed_as (all_statements depth (map (written_statement p registers) ss) no_tree) (statements_part ss each k depth low fit)

  -- blocks

  block_line : (k depth : ℕ) (front : List ℕ) {f : Spelling} → depth ≤ 32 → Open front f → Closed (line k (front ++ codes " {")) (λ ms. f (open_at depth ∷ ms))
  block_line k depth front low o = on_line k (open_closed o refl (closed_closed space (block_brace depth low)))

  if_word : Closed (codes "if ") (λ ms. plain (t.If (codes "if")) ∷ ms)
  if_word = open_closed (word (codes "if") refl (λ f span e. ap t.If e)) refl space

  while_word : Closed (codes "while ") (λ ms. plain (t.While (codes "while")) ∷ ms)
  while_word = open_closed (word (codes "while") refl (λ f span e. ap t.While e)) refl space

  else_line : (k depth : ℕ) → depth ≤ 32 → Closed (line k (codes "} else {")) (λ ms. plain t.Close ∷ plain t.Else ∷ open_at depth ∷ ms)
  else_line k depth low = on_line k (closed_closed close_brace (closed_closed space (closed_closed (open_closed (word (codes "else") refl (λ f span e. refl)) refl space) (block_brace depth low))))

  own_fits : (h : Head) (hs : List Head) → list_all fits (h ∷ hs) ≡ true → FitsHere h
  own_fits = first_fits (length registers) (length p.na) (length p.atomic) params

  inner_fits : (h : Head) (hs : List Head) → list_all fits (h ∷ hs) ≡ true → list_all fits hs ≡ true
  inner_fits = rest_fits (length registers) (length p.na) (length p.atomic) params

  abbrev texts : List Stmt → List Lines
  texts = map (statement_text p registers)

  abbrev trees : List Stmt → List (Tree (List ℕ))
  trees = map (written_statement p registers)

  if_part : (a : Atom) (one other : List Stmt) → Each Right one → Each Right other → (k depth : ℕ) → depth + (1 + max (depth_of_all one) (depth_of_all other)) ≤ 32 → list_all fits (If a tt tt ∷ (heads_of_all one ++ heads_of_all other)) ≡ true
      → Closed (line k (codes "if " ++ atom_text registers a ++ codes " {") ++ all_at (k + 1) (texts one) ++ else_text k (texts other)) (statement (written_choice (written_atom registers a) (trees one) (trees other)) depth)
  if_part a one [] first second k depth low fit =
      let own = own_fits (If a tt tt) (heads_of_all one ++ []) fit in
      let inner = all_in_both fits (heads_of_all one) [] (inner_fits (If a tt tt) (heads_of_all one ++ []) fit) in
      let head = block_line k (suc depth) (codes "if " ++ atom_text registers a) (omega (arith, low)) (closed_open if_word (atom_part a own.numbers)) in
      closed_closed (closed_closed head (block_part one first (k + 1) (suc depth) (omega (arith, low)) inner.0)) (on_line k close_brace)
  if_part a one (s ∷ other) first second k depth low fit =
      let all_other = heads_of_all (s ∷ other) in
      let own = own_fits (If a tt tt) (heads_of_all one ++ all_other) fit in
      let inner = all_in_both fits (heads_of_all one) all_other (inner_fits (If a tt tt) (heads_of_all one ++ all_other) fit) in
      let head = block_line k (suc depth) (codes "if " ++ atom_text registers a) (omega (arith, low)) (closed_open if_word (atom_part a own.numbers)) in
      let middle = else_line k (suc depth) (omega (arith, low)) in
      closed_closed (closed_closed head (block_part one first (k + 1) (suc depth) (omega (arith, low)) inner.0))
      (closed_closed (closed_closed middle (block_part (s ∷ other) second (k + 1) (suc depth) (omega (arith, low)) inner.1)) (on_line k close_brace))

  while_part : (a : Atom) (body : List Stmt) → Each Right body → (k depth : ℕ) → depth + (1 + depth_of_all body) ≤ 32 → list_all fits (While a tt ∷ heads_of_all body) ≡ true
      → Closed (line k (codes "while " ++ atom_text registers a ++ codes " {") ++ all_at (k + 1) (texts body) ++ line k (codes "}")) (statement (repeat (codes "while") (written_atom registers a) (block (trees body))) depth)
  while_part a body each k depth low fit =
      let own = own_fits (While a tt) (heads_of_all body) fit in
      let head = block_line k (suc depth) (codes "while " ++ atom_text registers a) (omega (arith, low)) (closed_open while_word (atom_part a own.numbers)) in
      closed_closed (closed_closed head (block_part body each (k + 1) (suc depth) (omega (arith, low)) (inner_fits (While a tt) (heads_of_all body) fit))) (on_line k close_brace)

  -- the lines, trees, heads and depth of a block

  abbrev Inner : Type 0
  Inner = List Lines × List (Tree (List ℕ)) × List Head × ℕ

  abbrev folded : Block → Inner
  folded b = (text_block b, tree_block b, fold-Block (List Head) (List Head) heads_step heads_block b, fold-Block ℕ ℕ depth_step depth_block b)

  abbrev mapped : Block → Inner
  mapped b = (texts b.statements, trees b.statements, heads_of_all b.statements, depth_of_all b.statements)

  mapped_folded : (b : Block) → mapped b ≡ folded b
  mapped_folded b = λ i. (
    sym (fold_block (statement_text_step p registers) block_text_step b) i,
    sym (fold_block (written_step p registers) written_block b) i,
    sym (fold_block heads_step heads_block b) i,
    sym (fold_block depth_step depth_block b) i,
  )

  abbrev IfRight : Atom → Inner → Inner → Type 0
  IfRight a one other = IsRight (statement_text_step p registers (If a one.0 other.0)) (written_step p registers (If a one.1 other.1)) (heads_step (If a one.2 other.2)) (depth_step (If a one.3 other.3))

  abbrev WhileRight : Atom → Inner → Type 0
  WhileRight a body = IsRight (statement_text_step p registers (While a body.0)) (written_step p registers (While a body.1)) (heads_step (While a body.2)) (depth_step (While a body.3))

  right_layer : (y : Stmt-F (Known Right) (KnownBlock Right)) → IsRightLayer (known Right y)
  right_layer Skip = record { part = λ k depth low fit. on_line k (open_closed (word (codes "skip") refl (λ f span e. ap t.Skip e)) refl semicolon) }
  right_layer (Copy r a) = record {
    part = λ k depth low fit.
        let parts = and_parts (nat_lt r (length registers)) (atom_exists (length registers) a) (own_fits (Copy r a) [] fit).numbers in
        assigned k r parts.0 (atom_part a parts.1);
  }
  right_layer (Compute r op a b) = record {
    part = λ k depth low fit.
        let parts = and_parts (nat_lt r (length registers)) (atom_exists (length registers) a && atom_exists (length registers) b) (own_fits (Compute r op a b) [] fit).numbers in
        let operands = and_parts (atom_exists (length registers) a) (atom_exists (length registers) b) parts.1 in
        assigned k r parts.0 (computed op a b operands.0 operands.1);
  }
  right_layer (Load r x) = record {
    part = λ k depth low fit. let own = own_fits (Load r x) [] fit in assigned k r own.numbers (closed_open load_word (na_text x own.na_location));
  }
  right_layer (Store x a) = record {
    part = λ k depth low fit.
        let own = own_fits (Store x a) [] fit in
        on_line k (open_closed (closed_open (open_closed (closed_open store_word (na_text x own.na_location)) refl comma) (atom_part a own.numbers)) refl semicolon);
  }
  right_layer (AtomicLoad r o y) = record {
    part = λ k depth low fit.
        let own = own_fits (AtomicLoad r o y) [] fit in
        assigned k r own.numbers (closed_open (open_closed (closed_open load_word (order_word o)) refl space) (atomic_text y own.atomic_location));
  }
  right_layer (AtomicStore o y a) = record {
    part = λ k depth low fit.
        let own = own_fits (AtomicStore o y a) [] fit in
        let place = closed_open (open_closed (closed_open store_word (order_word o)) refl space) (atomic_text y own.atomic_location) in
        on_line k (open_closed (closed_open (open_closed place refl comma) (atom_part a own.numbers)) refl semicolon);
  }
  right_layer (Update r o y kind) = record {
    part = λ k depth low fit.
        let own = own_fits (Update r o y kind) [] fit in
        let parts = and_parts (nat_lt r (length registers)) (operands_exist (length registers) kind) own.numbers in
        updated k r o y kind parts.0 own.atomic_location parts.1;
  }
  right_layer (Fence o) = record {
    part = λ k depth low fit. on_line k (open_closed (closed_open (open_closed (word (codes "fence") refl (λ f span e. ap t.Name e)) refl space) (fence_order_word o)) refl semicolon);
  }
  right_layer (Print a) = record {
    part = λ k depth low fit.
        let own = own_fits (Print a) [] fit in
        on_line k (open_closed (closed_open (open_closed (word (codes "print") refl (λ f span e. ap t.Print e)) refl space) (atom_part a own.numbers)) refl semicolon);
  }
  right_layer (If a one other) =
      subst (λ q. IfRight a q (folded other.0)) (mapped_folded one.0)
      (subst (IfRight a (mapped one.0)) (mapped_folded other.0) (record { part = if_part a one.0.statements other.0.statements one.1 other.1 }))
  right_layer (While a body) = subst (WhileRight a) (mapped_folded body.0) (record { part = while_part a body.0.statements body.1 })
  right_layer (Call r g args) = record {
    part = λ k depth low fit.
        let parts = and_parts (nat_lt r (length registers)) (nat_lt g (length params) && list_all (atom_exists (length registers)) args) (own_fits (Call r g args) [] fit).numbers in
        let callee = and_parts (nat_lt g (length params)) (list_all (atom_exists (length registers)) args) parts.1 in
        assigned k r parts.0 (called g args (subst (λ n. nat_lt g n ≡ true) counted callee.0) callee.1);
  }

  -- the lines of a function's statements are read as their trees
  pub statements_text_read : (ss : List Stmt) (k : ℕ) → depth_of_all ss ≤ 32 → list_all fits (heads_of_all ss) ≡ true → Closed (all_at k (map (statement_text p registers) ss)) (statements (block (map (written_statement p registers) ss)) 0)
  statements_text_read ss k low fit = block_part ss (each_holds Right (by_blocks Right (λ y. rolled (known Right y) (right_layer y))) ss) k 0 (omega (arith, low)) fit
