-- What is wrong with the names of a text, in the order of the text, and at one place in the order of
-- the rules.
use Rattle.std.specs.Prelude.{ℕ, ◌+◌, List, [], ◌∷◌, ◌++◌, length, Bool, true, false, not, ◌&&◌, ◌==◌, nat_lt, nat_le, Option, Some, None, is_some, if◌then◌else◌, slice_get}
use Rattle.std.specs.Option.{option_map_or}
use Rattle.il_syntax.specs.Name.{is_among}
use Rattle.il_syntax.specs.WellFormed.{is_load_order, is_store_order}
use Rattle.il_grammar.specs.declared.rule.Rule.{Rule}
use Rattle.il_grammar.specs.declared.rule.Rule.TheVariants.{C1, C2, C3, C4, C5, C6, C7, C8}
use Rattle.il_grammar.specs.declared.syntax.Span.{Span}
use Rattle.il_grammar.specs.declared.syntax.RawAtom.{RawAtom}
use Rattle.il_grammar.specs.declared.syntax.RawAtom.TheVariants.{Constant, Named}
use Rattle.il_grammar.specs.declared.syntax.RawOrder.{RawOrder}
use Rattle.il_grammar.specs.declared.syntax.RawLocation.{RawLocation}
use Rattle.values_undef.specs.Access.{is_fence_order}
use Rattle.il_grammar.specs.Name.{name_text}
use Rattle.il_grammar.specs.Grammar.{Snoc, empty, append, Simple, skip, store, fence, print, copy, compute, load, update, cas, call, Tree, simply, choice, choice_else, repeat, Trees, no_tree, add_tree, Routine, Thread, TextTree}
use Rattle.il_names.specs.declared.fault.NameFault.{NameFault}
use Rattle.il_names.specs.Known.{Known, number_of, added, texts_after, na_names, atomic_names, function_names, parameter_counts, registers_of, snoc_length}

-- a rule that is broken at a place unless a test passes
abbrev pub unless : Bool → Rule → ℕ → List NameFault
unless true rule at = []
unless false rule at = record { rule = rule; place = at } ∷ []

-- how many statements a tree has, those of its blocks among them
abbrev mutual
  pub count : Tree Span → ℕ
  count (simply x) = 1
  count (choice w a first_by_place) = 1 + count_all first_by_place
  count (choice_else w a first_by_place second) = 1 + (count_all first_by_place + count_all second)
  count (repeat w a body) = 1 + count_all body

  pub count_all : Trees Span → ℕ
  count_all no_tree = 0
  count_all (add_tree xs x) = count_all xs + count x

-- C7: one statement more, after so many of the function
abbrev pub too_many_statements : ℕ → ℕ → List NameFault
too_many_statements before at = unless (nat_lt before 4096) C7 at

-- C5: a load does not release, and a store does not acquire
abbrev pub load_order_faults : Option (RawOrder Span) → List NameFault
load_order_faults None = []
load_order_faults (Some o) = unless (is_load_order o.order) C5 o.word.start

abbrev pub store_order_faults : Option (RawOrder Span) → List NameFault
store_order_faults None = []
store_order_faults (Some o) = unless (is_store_order o.order) C5 o.word.start

-- C5: a fence acquires or releases
abbrev pub fence_order_faults : RawOrder Span → List NameFault
fence_order_faults o = unless (is_fence_order o.order) C5 o.word.start

module _ (bytes : List ℕ) (known : Known) where
  -- C1: a register
  abbrev pub register_faults : Span → List NameFault
  register_faults r = unless (is_some (number_of known.registers (name_text bytes r))) C1 r.start

  abbrev pub atom_faults : RawAtom Span → List NameFault
  atom_faults (Constant x) = []
  atom_faults (Named n) = register_faults n

  -- C1, C4: a location of an access without an order
  abbrev pub na_faults : Span → List NameFault
  na_faults x =
      unless (is_some (number_of known.na (name_text bytes x))) (if is_some (number_of known.atomic (name_text bytes x)) then C4 else C1) x.start

  -- C1, C3: a location of an access with an order
  abbrev pub atomic_faults : Span → List NameFault
  atomic_faults y =
      unless (is_some (number_of known.atomic (name_text bytes y))) (if is_some (number_of known.na (name_text bytes y)) then C3 else C1) y.start

  abbrev pub location_faults : Option (RawOrder Span) → Span → List NameFault
  location_faults None x = na_faults x
  location_faults (Some o) y = atomic_faults y

  -- C1, C6: a function with so many arguments, of functions with one name the first_by_place
  abbrev pub arity_faults : Span → ℕ → Option ℕ → List NameFault
  arity_faults g arguments None = unless false C1 g.start
  arity_faults g arguments (Some number) = unless (option_map_or (λ n. arguments == n) (slice_get known.parameter_counts number) false) C6 g.start

  abbrev pub function_faults : Span → ℕ → List NameFault
  function_faults g arguments = arity_faults g arguments (number_of known.functions (name_text bytes g))

  abbrev pub atoms_faults : Snoc (RawAtom Span) → List NameFault
  atoms_faults empty = []
  atoms_faults (append args a) = atoms_faults args ++ atom_faults a

  -- of a statement that stands after so many of its function
  abbrev pub simple_faults : Simple Span → ℕ → List NameFault
  simple_faults (skip w) before = too_many_statements before w.start
  simple_faults (store w o x a) before = too_many_statements before w.start ++ (store_order_faults o ++ (location_faults o x ++ atom_faults a))
  simple_faults (fence w o) before = too_many_statements before w.start ++ fence_order_faults o
  simple_faults (print w a) before = too_many_statements before w.start ++ atom_faults a
  simple_faults (copy r a) before = register_faults r ++ (too_many_statements before r.start ++ atom_faults a)
  simple_faults (compute r a op b) before = register_faults r ++ (too_many_statements before r.start ++ (atom_faults a ++ atom_faults b))
  simple_faults (load r o x) before = register_faults r ++ (too_many_statements before r.start ++ (load_order_faults o ++ location_faults o x))
  simple_faults (update r w o y a) before = register_faults r ++ (too_many_statements before r.start ++ (atomic_faults y ++ atom_faults a))
  simple_faults (cas r o y a b) before = register_faults r ++ (too_many_statements before r.start ++ (atomic_faults y ++ (atom_faults a ++ atom_faults b)))
  simple_faults (call r g args) before =
      register_faults r ++ (too_many_statements before r.start ++ (function_faults g (snoc_length args) ++ atoms_faults args))

  abbrev mutual
    pub tree_faults : Tree Span → ℕ → List NameFault
    tree_faults (simply x) before = simple_faults x before
    tree_faults (choice w a first_by_place) before = too_many_statements before w.start ++ (atom_faults a ++ trees_faults first_by_place (before + 1))
    tree_faults (choice_else w a first_by_place second) before =
        too_many_statements before w.start ++ (atom_faults a ++ (trees_faults first_by_place (before + 1) ++ trees_faults second (before + 1 + count_all first_by_place)))
    tree_faults (repeat w a body) before = too_many_statements before w.start ++ (atom_faults a ++ trees_faults body (before + 1))

    pub trees_faults : Trees Span → ℕ → List NameFault
    trees_faults no_tree before = []
    trees_faults (add_tree xs x) before = trees_faults xs before ++ tree_faults x (before + count_all xs)

  -- of an `if` with an `else`, up to the `else`
  abbrev pub half_faults : Span → RawAtom Span → Trees Span → ℕ → List NameFault
  half_faults w a first_by_place before = too_many_statements before w.start ++ (atom_faults a ++ trees_faults first_by_place (before + 1))

-- Declarations.

module _ (bytes : List ℕ) where
  -- C2, C7: a name that is declared where these names were declared before, and that is one of so many at most
  abbrev pub declaration_faults : List (List ℕ) → Bool → Span → List NameFault
  declaration_faults before has_room n =
      unless (not (is_among before (name_text bytes n))) C2 n.start
      ++ unless (has_room && nat_le (length (name_text bytes n)) 32) C7 n.start

  -- the names of all locations, and how many there are of a kind
  abbrev pub location_names : Snoc (RawLocation Span) → List (List ℕ)
  location_names empty = []
  location_names (append ls l) = added (location_names ls) (name_text bytes l.name)

  abbrev pub is_same_kind : Bool → Bool → ℕ
  is_same_kind true true = 1
  is_same_kind false false = 1
  is_same_kind _ _ = 0

  abbrev pub count_of_kind : Bool → Snoc (RawLocation Span) → ℕ
  count_of_kind kind empty = 0
  count_of_kind kind (append ls l) = count_of_kind kind ls + is_same_kind kind l.is_atomic

  abbrev pub locations_faults : Snoc (RawLocation Span) → List NameFault
  locations_faults empty = []
  locations_faults (append ls l) =
      locations_faults ls ++ declaration_faults (location_names ls) (nat_lt (count_of_kind l.is_atomic ls) 16) l.name

  -- parameters or registers, after these names and so many registers, up to a limit
  abbrev pub registers_faults : List (List ℕ) → ℕ → ℕ → Snoc Span → List NameFault
  registers_faults before registers limit empty = []
  registers_faults before registers limit (append rs r) =
      registers_faults before registers limit rs
      ++ declaration_faults (texts_after bytes before rs) (nat_lt (registers + snoc_length rs) limit) r

  -- the declarations of a function, after all names so far, the global ones among them
  abbrev pub routine_faults : List (List ℕ) → List (List ℕ) → Bool → Routine Span → List NameFault
  routine_faults all globals has_room f =
      let before = added globals (name_text bytes f.name) in
      declaration_faults all has_room f.name
      ++ (registers_faults before 0 8 f.parameters
      ++ registers_faults (texts_after bytes before f.parameters) (snoc_length f.parameters) 64 f.registers)

  -- all names after it
  abbrev pub names_with : List (List ℕ) → Routine Span → List (List ℕ)
  names_with all f = texts_after bytes (texts_after bytes (added all (name_text bytes f.name)) f.parameters) f.registers

  -- every name that functions declare after these, their parameters and registers among them
  abbrev pub names_after : List (List ℕ) → Snoc (Routine Span) → List (List ℕ)
  names_after before empty = before
  names_after before (append fs f) = names_with (names_after before fs) f

  -- the names of the functions after these
  abbrev pub globals_after : List (List ℕ) → Snoc (Routine Span) → List (List ℕ)
  globals_after before empty = before
  globals_after before (append fs f) = added (globals_after before fs) (name_text bytes f.name)

  -- what a function's statements may speak of, in a text with these locations and functions
  abbrev pub known_in : Snoc (RawLocation Span) → Snoc (Routine Span) → List (List ℕ) → Known
  known_in ls fs registers = record {
    na = na_names bytes ls;
    atomic = atomic_names bytes ls;
    functions = function_names bytes fs;
    parameter_counts = parameter_counts bytes fs;
    registers = registers;
  }

  -- the declarations of a function after others, in a text with these locations
  abbrev pub function_declaration_faults : Snoc (RawLocation Span) → Snoc (Routine Span) → Routine Span → List NameFault
  function_declaration_faults ls earlier f =
      routine_faults (names_after (location_names ls) earlier) (globals_after (location_names ls) earlier) (nat_lt (snoc_length earlier) 256) f

  abbrev pub body_faults : Known → Routine Span → List NameFault
  body_faults known f = trees_faults bytes known f.body 0 ++ atom_faults bytes known f.result

  abbrev pub functions_faults : Snoc (RawLocation Span) → Snoc (Routine Span) → Snoc (Routine Span) → List NameFault
  functions_faults ls all empty = []
  functions_faults ls all (append fs f) =
      functions_faults ls all fs ++ (function_declaration_faults ls fs f ++ body_faults (known_in ls all (registers_of bytes f)) f)

  abbrev pub threads_faults : Known → Snoc (Thread Span) → List NameFault
  threads_faults known empty = []
  threads_faults known (append ts x) =
      threads_faults known ts ++ (unless (nat_lt (snoc_length ts) 16) C7 x.word.start ++ function_faults bytes known x.function (snoc_length x.arguments))

  -- C8
  abbrev pub missing_thread : Snoc (Thread Span) → List NameFault
  missing_thread ts = unless (nat_lt 0 (snoc_length ts)) C8 (length bytes)

  -- of a whole text
  abbrev pub name_faults : TextTree Span → List NameFault
  name_faults p =
      locations_faults p.locations
      ++ (functions_faults p.locations p.functions p.functions
      ++ (threads_faults (known_in p.locations p.functions []) p.threads ++ missing_thread p.threads))

-- the first_by_place fault, if there is one
abbrev pub first_by_place : List NameFault → Option NameFault
first_by_place [] = None
first_by_place (f ∷ fs) = Some f
