-- No line of the canonical text of a program is the separator.
use Rattle.std.proofs.Common.{◌≡◌, ◌∙◌, ◌+◌, ◌&&◌, ℕ, sym, ap, subst, refl, Bool, true, List, [], ◌∷◌, ◌++◌, map, take, drop, codes}
use Rattle.std.specs.List.{flat_map, list_all}
use Rattle.std.specs.Fmt.{signed_decimal}
use Rattle.std.proofs.lemmas.Bool.{cond_both, and_parts, and_from}
use Rattle.std.proofs.lemmas.List.{take-append-drop}
use Rattle.std.proofs.lemmas.List.Folds.{list_all-append}
use Rattle.values_undef.specs.declared.access.Order.{Order}
use Rattle.values_undef.specs.declared.access.Order.TheVariants.{Rlx, Acq, Rel, AcqRel}
use Rattle.values_undef.specs.declared.arithmetic.Op.{Op}
use Rattle.values_undef.specs.declared.arithmetic.Op.TheVariants as op
use Rattle.il_syntax.specs.declared.statement.Atom.{Atom}
use Rattle.il_syntax.specs.declared.statement.Atom.TheVariants.{Const, Reg}
use Rattle.il_syntax.specs.declared.statement.Rmw.{Rmw}
use Rattle.il_syntax.specs.declared.statement.Rmw.TheVariants.{Add, Swap, Cas}
use Rattle.il_syntax.specs.declared.statement.Stmt.{Stmt}
use Rattle.il_syntax.specs.declared.statement.Block.{Block}
use Rattle.il_syntax.specs.declared.statement.Stmt.TheOpen.{Stmt-F, Skip, Copy, Compute, Load, Store, AtomicLoad, AtomicStore, Update, Fence, Print, If, While, Call}
use Rattle.il_syntax.specs.declared.statement.Stmt.TheViews.{roll-Stmt, roll-Block}
use Rattle.il_syntax.specs.declared.statement.Stmt.TheFolds.{fold-Block, fold-roll-Stmt, fold-roll-Block, ind-Stmt, map-Stmt, map-Block}
use Rattle.il_syntax.specs.declared.program.Function.{Function}
use Rattle.il_syntax.specs.declared.program.Location.{Location}
use Rattle.il_syntax.specs.declared.program.Program.{Program}
use Rattle.il_syntax.specs.declared.program.Start.{Start}
use Rattle.il_syntax.specs.Name.{is_name}
use Rattle.il_syntax.specs.Fences.{has_no_fence}
use Rattle.il_syntax.specs.Text.{Lines, all_at, assignment, atom_text, block_text_step, call_text, compute_text, else_text, function_name, function_text, line, location_name, location_text, op_text, order_text, program_text, register_name, registers_text, statement_text_step, statement_text, statements_text, thread_text, update_text}
use Rattle.il_syntax.specs.WellFormed.{IsWellFormed}
use Rattle.il_syntax.proofs.Callers.{all_both}
use Rattle.text_parts.specs.Lines.{Text}
use Rattle.text_parts.specs.Division.{HasLinesBut}
use Rattle.text_parts.proofs.Callers.{both_lines, no_lines, one_line}
use Rattle.replay_text.specs.Division.{journal_word}
use Rattle.replay_text.proofs.CleanTexts.{Clean, literal, both, found_clean, listed_clean, marked_line, name_clean, names_clean, signed_clean}

order_clean : (order : Order) → Clean (order_text order)
order_clean Rlx = record { is = refl }
order_clean Acq = record { is = refl }
order_clean Rel = record { is = refl }
order_clean AcqRel = record { is = refl }

op_clean : (o : Op) → Clean (op_text o)
op_clean op.Add = record { is = refl }
op_clean op.Sub = record { is = refl }
op_clean op.Mul = record { is = refl }
op_clean op.Div = record { is = refl }
op_clean op.Rem = record { is = refl }
op_clean op.And = record { is = refl }
op_clean op.Or = record { is = refl }
op_clean op.Xor = record { is = refl }
op_clean op.Eq = record { is = refl }
op_clean op.Ne = record { is = refl }
op_clean op.Lt = record { is = refl }
op_clean op.Le = record { is = refl }

-- the names of a program
pub record HasNames (p : Program) : Type 0 where
  pub na : list_all (λ l. is_name l.name) p.na ≡ true
  pub atomic : list_all (λ l. is_name l.name) p.atomic ≡ true
  pub functions : list_all (λ f. is_name f.name) p.functions ≡ true
  pub registers : list_all (λ f. list_all is_name f.registers) p.functions ≡ true

-- lines of any depth
abbrev AreLined : List Lines → Type 0
AreLined [] = Unit {0}
AreLined (l ∷ ls) = ((depth : ℕ) → HasLinesBut journal_word (l depth)) × AreLined ls

all_lined : (ls : List Lines) (depth : ℕ) → AreLined ls → HasLinesBut journal_word (all_at depth ls)
all_lined [] depth h = no_lines journal_word
all_lined (l ∷ ls) depth h = both_lines journal_word (h.0 depth) (all_lined ls depth h.1)

module _ (p : Program) (names : HasNames p) (registers : List Text) (named : list_all is_name registers ≡ true) where
  register : (r : ℕ) → Clean (register_name registers r)
  register r = found_clean (λ name. name) registers r named

  na : (x : ℕ) → Clean (location_name p.na x)
  na x = found_clean (λ l. l.name) p.na x names.na

  atomic : (y : ℕ) → Clean (location_name p.atomic y)
  atomic y = found_clean (λ l. l.name) p.atomic y names.atomic

  function : (f : ℕ) → Clean (function_name p.functions f)
  function f = found_clean (λ f. f.name) p.functions f names.functions

  atom : (a : Atom) → Clean (atom_text registers a)
  atom (Const n) = signed_clean n
  atom (Reg r) = register r

  blank : Clean (codes " ")
  blank = literal (codes " ") refl

  comma : Clean (codes ", ")
  comma = literal (codes ", ") refl

  compute_clean : (o : Op) (a b : Atom) → Clean (compute_text registers o a b)
  compute_clean o a b = both (both (both (both (atom a) blank) (op_clean o)) blank) (atom b)

  -- a word, an order and an atomic location
  access_clean : (text : Text) (order : Order) (y : ℕ) → Clean text → Clean (text ++ order_text order ++ codes " " ++ location_name p.atomic y)
  access_clean text order y h = both (both (both h (order_clean order)) blank) (atomic y)

  update_clean : (order : Order) (y : ℕ) (kind : Rmw) → Clean (update_text registers order (location_name p.atomic y) kind)
  update_clean order y (Add a) = both (both (access_clean (codes "add ") order y (literal (codes "add ") refl)) comma) (atom a)
  update_clean order y (Swap a) = both (both (access_clean (codes "swap ") order y (literal (codes "swap ") refl)) comma) (atom a)
  update_clean order y (Cas a b) = both (both (both (both (access_clean (codes "cas ") order y (literal (codes "cas ") refl)) comma) (atom a)) comma) (atom b)

  call_clean : (f : ℕ) (args : List Atom) → Clean (call_text registers (function_name p.functions f) args)
  call_clean f args = both (both (both (both (literal (codes "call ") refl) (function f)) (literal (codes "(") refl)) (listed_clean (atom_text registers) args atom)) (literal (codes ")") refl)

  assigned : (depth r : ℕ) {right : Text} → Clean right → HasLinesBut journal_word (line depth (assignment registers r right))
  assigned depth r h = marked_line depth (codes ";") (both (both (register r) (literal (codes " = ") refl)) h) refl refl

  closing : (depth : ℕ) → HasLinesBut journal_word (line depth (codes "}"))
  closing depth = marked_line depth (codes "}") (literal [] refl) refl refl

  else_lined : (ls : List Lines) (depth : ℕ) → AreLined ls → HasLinesBut journal_word (else_text depth ls)
  else_lined [] depth h = closing depth
  else_lined (l ∷ ls) depth h = both_lines journal_word (both_lines journal_word (marked_line depth (codes "} else {") (literal [] refl) refl refl) (all_lined (l ∷ ls) (depth + 1) h)) (closing depth)

  abbrev IsLined : Stmt → Type 0
  IsLined s = (depth : ℕ) → HasLinesBut journal_word (statement_text p registers s depth)

  abbrev BlockIsLined : Block → Type 0
  BlockIsLined b = AreLined (fold-Block Lines (List Lines) (statement_text_step p registers) block_text_step b)

  abbrev Known : Type 0
  Known = (s : Stmt) × IsLined s

  abbrev KnownBlock : Type 0
  KnownBlock = (b : Block) × BlockIsLined b

  abbrev lines_layer : Stmt-F Known KnownBlock → Stmt-F Lines (List Lines)
  lines_layer y = map-Stmt Stmt Block Lines (List Lines) (statement_text p registers) (fold-Block Lines (List Lines) (statement_text_step p registers) block_text_step)
      (map-Stmt Known KnownBlock Stmt Block (λ e. e.0) (λ e. e.0) y)

  layer_lined : (y : Stmt-F Known KnownBlock) (depth : ℕ) → HasLinesBut journal_word (statement_text_step p registers (lines_layer y) depth)
  layer_lined Skip depth = marked_line depth (codes ";") (literal (codes "skip") refl) refl refl
  layer_lined (Copy r a) depth = assigned depth r (atom a)
  layer_lined (Compute r o a b) depth = assigned depth r (compute_clean o a b)
  layer_lined (Load r x) depth = assigned depth r (both (literal (codes "load ") refl) (na x))
  layer_lined (Store x a) depth = marked_line depth (codes ";") (both (both (both (literal (codes "store ") refl) (na x)) comma) (atom a)) refl refl
  layer_lined (AtomicLoad r order y) depth = assigned depth r (access_clean (codes "load ") order y (literal (codes "load ") refl))
  layer_lined (AtomicStore order y a) depth = marked_line depth (codes ";") (both (both (access_clean (codes "store ") order y (literal (codes "store ") refl)) comma) (atom a)) refl refl
  layer_lined (Update r order y kind) depth = assigned depth r (update_clean order y kind)
  layer_lined (Fence o) depth = marked_line depth (codes ";") (both (literal (codes "fence ") refl) (order_clean o)) refl refl
  layer_lined (Print a) depth = marked_line depth (codes ";") (both (literal (codes "print ") refl) (atom a)) refl refl
  layer_lined (If a one other) depth =
      both_lines journal_word (both_lines journal_word (marked_line depth (codes " {") (both (literal (codes "if ") refl) (atom a)) refl refl) (all_lined _ (depth + 1) one.1)) (else_lined _ depth other.1)
  layer_lined (While a body) depth =
      both_lines journal_word (both_lines journal_word (marked_line depth (codes " {") (both (literal (codes "while ") refl) (atom a)) refl refl) (all_lined _ (depth + 1) body.1)) (closing depth)
  layer_lined (Call r f args) depth = assigned depth r (call_clean f args)

  known_lined : (es : List Known) → AreLined (map (statement_text p registers) (map (λ e. e.0) es))
  known_lined [] = tt
  known_lined (e ∷ es) = (e.1, known_lined es)

  statement_lined : (s : Stmt) → IsLined s
  statement_lined = ind-Stmt IsLined BlockIsLined
      (λ x y is. subst (λ z. IsLined (roll-Stmt z)) is
      (λ depth. subst (λ (f : Lines). HasLinesBut journal_word (f depth)) (sym (fold-roll-Stmt Lines (List Lines) (statement_text_step p registers) block_text_step (map-Stmt Known KnownBlock Stmt Block (λ e. e.0) (λ e. e.0) y))) (layer_lined y depth)))
      (λ x y is. subst (λ z. BlockIsLined (roll-Block z)) is
      (subst AreLined (sym (fold-roll-Block Lines (List Lines) (statement_text_step p registers) block_text_step (map-Block Known KnownBlock Stmt Block (λ e. e.0) (λ e. e.0) y))) (known_lined y.statements)))

  statements_lined : (ss : List Stmt) (depth : ℕ) → HasLinesBut journal_word (statements_text p registers depth ss)
  statements_lined [] depth = no_lines journal_word
  statements_lined (s ∷ ss) depth = both_lines journal_word (statement_lined s depth) (statements_lined ss depth)

-- things one after another
each_lined : {X : Type 0} (ok : X → Bool) (text : X → Text) → ((x : X) → ok x ≡ true → HasLinesBut journal_word (text x)) → (xs : List X) → list_all ok xs ≡ true → HasLinesBut journal_word (flat_map text xs)
each_lined ok text each [] h = no_lines journal_word
each_lined ok text each (x ∷ xs) h = let parts = and_parts (ok x) (list_all ok xs) h in both_lines journal_word (each x parts.0) (each_lined ok text each xs parts.1)

every_lined : {X : Type 0} (text : X → Text) → ((x : X) → HasLinesBut journal_word (text x)) → (xs : List X) → HasLinesBut journal_word (flat_map text xs)
every_lined text each [] = no_lines journal_word
every_lined text each (x ∷ xs) = both_lines journal_word (each x) (every_lined text each xs)

location_lined : (sort : Text) → Clean sort → (l : Location) → is_name l.name ≡ true → HasLinesBut journal_word (location_text sort l)
unfolding location_text
location_lined sort h l named =
    marked_line 0 (codes ";") (both (both (both (both h (literal (codes " ") refl)) (name_clean l.name named)) (literal (codes " = ") refl)) (signed_clean l.value)) refl refl

registers_lined : (names : List Text) → list_all is_name names ≡ true → HasLinesBut journal_word (registers_text names)
registers_lined [] h = no_lines journal_word
registers_lined (n ∷ ns) h = marked_line 1 (codes ";") (both (literal (codes "reg ") refl) (names_clean (n ∷ ns) h)) refl refl

module _ (p : Program) (names : HasNames p) where
  thread_lined : (t : Start) → HasLinesBut journal_word (thread_text p t)
  unfolding thread_text
  thread_lined t =
      marked_line 0 (codes ");")
      (both (both (both (literal (codes "thread ") refl) (found_clean (λ f. f.name) p.functions t.function names.functions)) (literal (codes "(") refl)) (listed_clean signed_decimal t.args signed_clean)) refl refl

  function_lined : (f : Function) → (is_name f.name && list_all is_name f.registers) ≡ true → HasLinesBut journal_word (function_text p f)
  unfolding function_text
  function_lined f h =
      let parts = and_parts (is_name f.name) (list_all is_name f.registers) h in
      let halves = and_parts (list_all is_name (take f.params f.registers)) (list_all is_name (drop f.params f.registers))
      (sym (list_all-append is_name (take f.params f.registers) (drop f.params f.registers)) ∙ ap (list_all is_name) (take-append-drop f.params f.registers) ∙ parts.1) in
      both_lines journal_word (both_lines journal_word (both_lines journal_word (both_lines journal_word
      (marked_line 0 (codes ") {") (both (both (both (literal (codes "fn ") refl) (name_clean f.name parts.0)) (literal (codes "(") refl)) (names_clean (take f.params f.registers) halves.0)) refl refl)
      (registers_lined (drop f.params f.registers) halves.1))
      (statements_lined p names f.registers parts.1 f.body.statements 1))
      (marked_line 1 (codes ";") (both (literal (codes "return ") refl) (atom p names f.registers parts.1 f.result)) refl refl))
      (marked_line 0 (codes "}") (literal [] refl) refl refl)

  lined : HasLinesBut journal_word (program_text p)
  unfolding program_text
  lined =
      both_lines journal_word (both_lines journal_word (both_lines journal_word (both_lines journal_word
      (cond_both (has_no_fence p) (codes "il 1") (codes "il 2") (λ (t : Text). HasLinesBut journal_word (line 0 t)) (λ _. one_line journal_word (codes "il 1") refl) (λ _. one_line journal_word (codes "il 2") refl))
      (each_lined (λ l. is_name l.name) (location_text (codes "na")) (location_lined (codes "na") (literal (codes "na") refl)) p.na names.na))
      (each_lined (λ l. is_name l.name) (location_text (codes "atomic")) (location_lined (codes "atomic") (literal (codes "atomic") refl)) p.atomic names.atomic))
      (each_lined (λ f. is_name f.name && list_all is_name f.registers) (function_text p) function_lined p.functions
      (all_both (λ f. is_name f.name) (λ f. list_all is_name f.registers) p.functions names.functions names.registers)))
      (every_lined (thread_text p) thread_lined p.threads)

-- the names of a well-formed program

named : {X : Type 0} (name : X → Text) (xs : List X) → list_all is_name (map name xs) ≡ true → list_all (λ x. is_name (name x)) xs ≡ true
named name [] h = refl
named name (x ∷ xs) h = let parts = and_parts (is_name (name x)) (list_all is_name (map name xs)) h in and_from (is_name (name x)) (list_all (λ x. is_name (name x)) xs) parts.0 (named name xs parts.1)

has_names : (p : Program) → IsWellFormed p → HasNames p
has_names p h =
    let na_names : List Text = map (λ l. l.name) p.na in
    let atomic_names : List Text = map (λ l. l.name) p.atomic in
    let function_names : List Text = map (λ f. f.name) p.functions in
    let all = and_parts (list_all is_name (na_names ++ (atomic_names ++ function_names))) (list_all (λ f. list_all is_name f.registers) p.functions) h.names in
    let first = and_parts (list_all is_name na_names) (list_all is_name (atomic_names ++ function_names)) (sym (list_all-append is_name na_names (atomic_names ++ function_names)) ∙ all.0) in
    let second = and_parts (list_all is_name atomic_names) (list_all is_name function_names) (sym (list_all-append is_name atomic_names function_names) ∙ first.1) in
    record {
      na = named (λ l. l.name) p.na first.0;
      atomic = named (λ l. l.name) p.atomic second.0;
      functions = named (λ f. f.name) p.functions second.1;
      registers = all.1;
    }

pub program_lined : (p : Program) → IsWellFormed p → HasLinesBut journal_word (program_text p)
program_lined p h = lined p (has_names p h)
