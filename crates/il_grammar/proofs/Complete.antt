-- What the grammar spells is read, to the tree that it spells.
use Rattle.std.proofs.Common.{◌≡◌, ◌≢◌, ℕ, suc, List, [], ◌∷◌, ◌++◌, Bool, true, false, Option, Some, None, refl, sym, ap, ◌∙◌}
use Rattle.values_undef.specs.declared.arithmetic.Op.{Op}
use Rattle.values_undef.specs.declared.arithmetic.Op.TheVariants.{Sub}
use Rattle.values_undef.specs.declared.access.Order.TheVariants.{Rlx}
use Rattle.token_machine.specs.Text.{Mark, plain}
use Rattle.token_machine.specs.Machine.{Move, reject, shift, Accepts, ended, moves}
use Rattle.il_grammar.specs.declared.rule.Rule.{Rule}
use Rattle.il_grammar.specs.declared.terminal.Terminal.{Terminal}
use Rattle.il_grammar.specs.declared.terminal.Terminal.TheVariants as t
use Rattle.il_grammar.specs.declared.syntax.Literal.{Literal}
use Rattle.il_grammar.specs.declared.syntax.Literal.TheVariants.{Positive, Negative}
use Rattle.il_grammar.specs.declared.syntax.RawAtom.{RawAtom}
use Rattle.il_grammar.specs.declared.syntax.RawAtom.TheVariants.{Constant, Named}
use Rattle.il_grammar.specs.declared.syntax.RawOrder.{RawOrder}
use Rattle.il_grammar.specs.declared.syntax.RawUpdate.{RawUpdate}
use Rattle.il_grammar.specs.declared.syntax.RawUpdate.TheVariants.{Add as Adding, Swap as Swapping}
use Rattle.il_grammar.specs.declared.syntax.RawLocation.{RawLocation}
use Rattle.il_grammar.specs.Grammar.{Snoc, empty, append, Simple, skip, store, fence, print, copy, compute, load, update, cas, call, Tree, simply, choice, choice_else, repeat, Trees, no_tree, add_tree, Routine, Thread, TextTree, Marks, number_up_to, open_at, literal, name, atom, order, order_if_any, update_word, listed, listed_if_any, each, simple, statement, statements, location_word, location, registers, function, thread, spelling, past, past_depth}
use Rattle.il_grammar.specs.Machine.{Opening, ReaderHead, ThreadHead, Stack, bottom, inner, Frame, in_yes, in_no, in_body, UpdateUse, updating, comparing, NameUse, of_location, of_function, of_parameter, of_register, stored, loaded, updated, called, of_thread, AtomUse, printed, chosen, repeated, second_of, value_of, operand_of, new_of, argument_of, returned, assigned, LiteralUse, of_location_value, of_thread_argument, ReaderState, begin, at_version, at_locations, at_name, at_location_equals, at_literal, at_literal_magnitude, at_location_end, at_functions, at_parameters, at_parameter_list, after_parameter, at_body, at_registers, after_register, ready, at_semicolon, at_equals, at_right, at_atom, at_magnitude, after_operand, at_store, at_store_comma, at_load, at_update_order, at_update_comma, at_cas_comma, at_arguments, at_argument_list, after_argument, at_block, after_yes, at_return_end, at_function_close, at_threads, at_thread_arguments, at_literal_list, after_literal, at_thread_end, opening, head, thread_head, finished, finished_thread, text_tree, depth_of, inner_depth, after_name, after_operand_of, after_atom, after_literal_of, close_block, close, leave, from_atom, from_literal, from_ready, from_threads, from_functions, step, finish}

module _ {N : Type 0} where
  abbrev Leads : TextTree N → ReaderState N → Marks N → Type 0
  Leads p = Accepts step finish p

  -- the marks go on with a token, and no `else` and no `reg`
  abbrev Opens : Marks N → Type 0
  Opens [] = ⊥
  Opens (m ∷ ms) = (m.token ≢ t.Else) × (m.token ≢ t.Reg)

  after_yes_step : (k : Stack N) (xs : Trees N) (w : N) (a : RawAtom N) (first : Trees N) (x : Terminal N) → x ≢ t.Else → step (after_yes k xs w a first) x ≡ step (ready k (add_tree xs (choice w a first))) x
  after_yes_step k xs w a first t.Else other = absurd (other refl)
  after_yes_step k xs w a first _ other = refl

  no_else : (k : Stack N) (xs : Trees N) (p : TextTree N) (w : N) (a : RawAtom N) (first : Trees N) (ms : Marks N) → Opens ms → Leads p (ready k (add_tree xs (choice w a first))) ms → Leads p (after_yes k xs w a first) ms
  no_else k xs p w a first [] other l = absurd other
  no_else k xs p w a first (m ∷ ms) other (moves e l) = moves (after_yes_step k xs w a first m.token other.0 ∙ e) l

  registers_step : (o : Opening N) (ps : Snoc N) (x : Terminal N) → x ≢ t.Reg → step (at_registers o ps) x ≡ step (ready (bottom (head o ps empty)) no_tree) x
  registers_step o ps t.Reg other = absurd (other refl)
  registers_step o ps _ other = refl

  no_reg : (o : Opening N) (ps : Snoc N) (p : TextTree N) (ms : Marks N) → Opens ms → Leads p (ready (bottom (head o ps empty)) no_tree) ms → Leads p (at_registers o ps) ms
  no_reg o ps p [] other l = absurd other
  no_reg o ps p (m ∷ ms) other (moves e l) = moves (registers_step o ps m.token other.1 ∙ e) l

  simple_opens : (x : Simple N) (rest : Marks N) → Opens (simple x rest)
  simple_opens (skip w) rest = ((λ e. cc), (λ e. cc))
  simple_opens (store w o x a) rest = ((λ e. cc), (λ e. cc))
  simple_opens (fence w o) rest = ((λ e. cc), (λ e. cc))
  simple_opens (print w a) rest = ((λ e. cc), (λ e. cc))
  simple_opens (copy r a) rest = ((λ e. cc), (λ e. cc))
  simple_opens (compute r a op b) rest = ((λ e. cc), (λ e. cc))
  simple_opens (load r o x) rest = ((λ e. cc), (λ e. cc))
  simple_opens (update r w o y a) rest = ((λ e. cc), (λ e. cc))
  simple_opens (cas r o y a b) rest = ((λ e. cc), (λ e. cc))
  simple_opens (call r g args) rest = ((λ e. cc), (λ e. cc))

  statement_opens : (x : Tree N) (depth : ℕ) (rest : Marks N) → Opens (statement x depth rest)
  statement_opens (simply x) depth rest = simple_opens x (plain t.Semicolon ∷ rest)
  statement_opens (choice w a first) depth rest = ((λ e. cc), (λ e. cc))
  statement_opens (choice_else w a first second) depth rest = ((λ e. cc), (λ e. cc))
  statement_opens (repeat w a body) depth rest = ((λ e. cc), (λ e. cc))

  statements_open : (xs : Trees N) (depth : ℕ) (rest : Marks N) → Opens rest → Opens (statements xs depth rest)
  statements_open no_tree depth rest opens = opens
  statements_open (add_tree xs x) depth rest opens = statements_open xs depth (statement x depth rest) (statement_opens x depth rest)

  atom_leads : (u : AtomUse N) (p : TextTree N) (a : RawAtom N) (ms : Marks N) → Leads p (after_atom u a) ms → Leads p (at_atom u) (atom a ms)
  atom_leads u p (Constant (Positive n)) ms l = moves refl l
  atom_leads u p (Constant (Negative n)) ms l = moves refl (moves refl l)
  atom_leads u p (Named n) ms l = moves refl l

  literal_leads : (u : LiteralUse N) (p : TextTree N) (x : Literal) (ms : Marks N) → Leads p (after_literal_of u x) ms → Leads p (at_literal u) (literal x ms)
  literal_leads u p (Positive n) ms l = moves refl l
  literal_leads u p (Negative n) ms l = moves refl (moves refl l)

  -- the right side of an assignment may begin with an atom, and so may the arguments of a call
  right_leads : (k : Stack N) (xs : Trees N) (r : N) (p : TextTree N) (a : RawAtom N) (ms : Marks N) → Leads p (after_operand k xs r a) ms → Leads p (at_right k xs r) (atom a ms)
  right_leads k xs r p (Constant (Positive n)) ms l = moves refl l
  right_leads k xs r p (Constant (Negative n)) ms l = moves refl (moves refl l)
  right_leads k xs r p (Named n) ms l = moves refl l

  first_argument_leads : (k : Stack N) (xs : Trees N) (r g : N) (p : TextTree N) (a : RawAtom N) (ms : Marks N) → Leads p (after_argument k xs r g empty a) ms → Leads p (at_argument_list k xs r g) (atom a ms)
  first_argument_leads k xs r g p (Constant (Positive n)) ms l = moves refl l
  first_argument_leads k xs r g p (Constant (Negative n)) ms l = moves refl (moves refl l)
  first_argument_leads k xs r g p (Named n) ms l = moves refl l

  first_literal_leads : (h : ThreadHead N) (p : TextTree N) (x : Literal) (ms : Marks N) → Leads p (after_literal h empty x) ms → Leads p (at_literal_list h) (literal x ms)
  first_literal_leads h p (Positive n) ms l = moves refl l
  first_literal_leads h p (Negative n) ms l = moves refl (moves refl l)

  store_leads : (k : Stack N) (xs : Trees N) (w : N) (p : TextTree N) (o : Option (RawOrder N)) (x : N) (ms : Marks N) → Leads p (at_store_comma k xs w o x) ms → Leads p (at_store k xs w) (order_if_any o (name x ms))
  store_leads k xs w p None x ms l = moves refl l
  store_leads k xs w p (Some o) x ms l = moves refl (moves refl l)

  load_leads : (k : Stack N) (xs : Trees N) (r : N) (p : TextTree N) (o : Option (RawOrder N)) (x : N) (ms : Marks N) → Leads p (at_semicolon k xs (load r o x)) ms → Leads p (at_load k xs r) (order_if_any o (name x ms))
  load_leads k xs r p None x ms l = moves refl l
  load_leads k xs r p (Some o) x ms l = moves refl (moves refl l)

  update_leads : (u : UpdateUse N) (p : TextTree N) (o : RawOrder N) (y : N) (a : RawAtom N) (ms : Marks N) → Leads p (after_operand_of u o y a) ms → Leads p (at_update_order u) (order o (name y (plain t.Comma ∷ atom a ms)))
  update_leads u p o y a ms l = moves refl (moves refl (moves refl (atom_leads (operand_of u o y) p a ms l)))

  arguments_lead : (k : Stack N) (xs : Trees N) (r g : N) (p : TextTree N) (args : Snoc (RawAtom N)) (a : RawAtom N) (ms : Marks N) → Leads p (after_argument k xs r g args a) ms → Leads p (at_argument_list k xs r g) (listed atom args a ms)
  arguments_lead k xs r g p empty a ms l = first_argument_leads k xs r g p a ms l
  arguments_lead k xs r g p (append args b) a ms l =
      arguments_lead k xs r g p args b _ (moves refl (atom_leads (argument_of k xs r g (append args b)) p a ms l))

  call_leads : (k : Stack N) (xs : Trees N) (r g : N) (p : TextTree N) (args : Snoc (RawAtom N)) (ms : Marks N) → Leads p (at_semicolon k xs (call r g args)) ms → Leads p (at_argument_list k xs r g) (listed_if_any atom args (plain t.RightParen ∷ ms))
  call_leads k xs r g p empty ms l = moves refl l
  call_leads k xs r g p (append args a) ms l = arguments_lead k xs r g p args a _ (moves refl l)

  simple_leads : (x : Simple N) (k : Stack N) (xs : Trees N) (p : TextTree N) (rest : Marks N) → Leads p (ready k (add_tree xs (simply x))) rest → Leads p (ready k xs) (simple x (plain t.Semicolon ∷ rest))
  simple_leads (skip w) k xs p rest l = moves refl (moves refl l)
  simple_leads (store w o x a) k xs p rest l = moves refl (store_leads k xs w p o x _ (moves refl (atom_leads (value_of k xs w o x) p a _ (moves refl l))))
  simple_leads (fence w o) k xs p rest l = moves refl (moves refl (moves refl l))
  simple_leads (print w a) k xs p rest l = moves refl (atom_leads (printed k xs w) p a _ (moves refl l))
  simple_leads (copy r a) k xs p rest l = moves refl (moves refl (right_leads k xs r p a _ (moves refl l)))
  simple_leads (compute r a op b) k xs p rest l = moves refl (moves refl (right_leads k xs r p a _ (moves refl (atom_leads (second_of k xs r a op) p b _ (moves refl l)))))
  simple_leads (load r o x) k xs p rest l = moves refl (moves refl (moves refl (load_leads k xs r p o x _ (moves refl l))))
  simple_leads (update r Adding o y a) k xs p rest l = moves refl (moves refl (moves refl (update_leads (updating k xs r Adding) p o y a _ (moves refl l))))
  simple_leads (update r Swapping o y a) k xs p rest l = moves refl (moves refl (moves refl (update_leads (updating k xs r Swapping) p o y a _ (moves refl l))))
  simple_leads (cas r o y a b) k xs p rest l = moves refl (moves refl (moves refl (update_leads (comparing k xs r) p o y a _ (moves refl (atom_leads (new_of k xs r o y a) p b _ (moves refl l))))))
  simple_leads (call r g args) k xs p rest l = moves refl (moves refl (moves refl (moves refl (moves refl (call_leads k xs r g p args _ (moves refl l))))))

  mutual
    statement_leads : (x : Tree N) (k : Stack N) (xs : Trees N) (p : TextTree N) (rest : Marks N) → Opens rest → Leads p (ready k (add_tree xs x)) rest → Leads p (ready k xs) (statement x (depth_of k) rest)
    statement_leads (simply x) k xs p rest other l = simple_leads x k xs p rest l
    statement_leads (choice w a first) k xs p rest other l =
        moves refl (atom_leads (chosen k xs w) p a _ (moves refl (statements_lead first (inner (in_yes k xs w a)) p (plain t.Close ∷ _) ((λ e. cc), (λ e. cc)) (moves refl (no_else k xs p w a first rest other l)))))
    statement_leads (choice_else w a first second) k xs p rest other l =
        moves refl (atom_leads (chosen k xs w) p a _ (moves refl (statements_lead first (inner (in_yes k xs w a)) p (plain t.Close ∷ _) ((λ e. cc), (λ e. cc)) (moves refl (moves refl (moves refl (statements_lead second (inner (in_no k xs w a first)) p (plain t.Close ∷ _) ((λ e. cc), (λ e. cc)) (moves refl l))))))))
    statement_leads (repeat w a body) k xs p rest other l =
        moves refl (atom_leads (repeated k xs w) p a _ (moves refl (statements_lead body (inner (in_body k xs w a)) p (plain t.Close ∷ _) ((λ e. cc), (λ e. cc)) (moves refl l))))

    statements_lead : (ys : Trees N) (k : Stack N) (p : TextTree N) (rest : Marks N) → Opens rest → Leads p (ready k ys) rest → Leads p (ready k no_tree) (statements ys (depth_of k) rest)
    statements_lead no_tree k p rest other l = l
    statements_lead (add_tree ys y) k p rest other l =
        statements_lead ys k p (statement y (depth_of k) rest) (statement_opens y (depth_of k) rest) (statement_leads y k ys p rest other l)

  location_leads : (ls : Snoc (RawLocation N)) (p : TextTree N) (x : RawLocation N) (kind : Bool) → x.is_atomic ≡ kind → (rest : Marks N) → Leads p (at_locations (append ls x)) rest → Leads p (at_locations ls) (location_word kind ∷ name x.name (plain t.Equals ∷ literal x.value (plain t.Semicolon ∷ rest)))
  location_leads ls p x false is rest l = moves refl (moves refl (moves refl (literal_leads (of_location_value ls false x.name) p x.value _ (moves (ap (λ b. shift None (at_locations (append ls (record { is_atomic = b; name = x.name; value = x.value })))) (sym is)) l))))
  location_leads ls p x true is rest l = moves refl (moves refl (moves refl (literal_leads (of_location_value ls true x.name) p x.value _ (moves (ap (λ b. shift None (at_locations (append ls (record { is_atomic = b; name = x.name; value = x.value })))) (sym is)) l))))

  locations_lead : (ls : Snoc (RawLocation N)) (p : TextTree N) (rest : Marks N) → Leads p (at_locations ls) rest → Leads p (at_locations empty) (each location ls rest)
  locations_lead empty p rest l = l
  locations_lead (append ls x) p rest l = locations_lead ls p (location x rest) (location_leads ls p x x.is_atomic refl rest l)

  parameters_lead : (o : Opening N) (p : TextTree N) (ps : Snoc N) (q : N) (rest : Marks N) → Leads p (after_parameter o ps q) rest → Leads p (at_parameter_list o) (listed name ps q rest)
  parameters_lead o p empty q rest l = moves refl l
  parameters_lead o p (append ps x) q rest l = parameters_lead o p ps x _ (moves refl (moves refl l))

  parameter_list_leads : (o : Opening N) (p : TextTree N) (ps : Snoc N) (rest : Marks N) → Leads p (at_body o ps) rest → Leads p (at_parameter_list o) (listed_if_any name ps (plain t.RightParen ∷ rest))
  parameter_list_leads o p empty rest l = moves refl l
  parameter_list_leads o p (append ps x) rest l = parameters_lead o p ps x _ (moves refl l)

  register_list_leads : (o : Opening N) (ps : Snoc N) (p : TextTree N) (rs : Snoc N) (r : N) (rest : Marks N) → Leads p (after_register o ps rs r) rest → Leads p (at_name (of_register o ps empty)) (listed name rs r rest)
  register_list_leads o ps p empty r rest l = moves refl l
  register_list_leads o ps p (append rs q) r rest l = register_list_leads o ps p rs q _ (moves refl (moves refl l))

  registers_lead : (o : Opening N) (ps : Snoc N) (p : TextTree N) (rs : Snoc N) (rest : Marks N) → Opens rest → Leads p (ready (bottom (head o ps rs)) no_tree) rest → Leads p (at_registers o ps) (registers rs rest)
  registers_lead o ps p empty rest opens l = no_reg o ps p rest opens l
  registers_lead o ps p (append rs r) rest opens l = moves refl (register_list_leads o ps p rs r _ (moves refl l))

  body_opens : (xs : Trees N) (rest : Marks N) → Opens (statements xs 0 (plain t.Return ∷ rest))
  body_opens xs rest = statements_open xs 0 (plain t.Return ∷ rest) ((λ e. cc), (λ e. cc))

  function_leads : (ls : Snoc (RawLocation N)) (fs : Snoc (Routine N)) (p : TextTree N) (f : Routine N) (rest : Marks N) → Leads p (at_functions ls (append fs f)) rest → Leads p (at_functions ls fs) (function f rest)
  function_leads ls fs p f rest l =
      let o = opening ls fs f.name in
      let h = head o f.parameters f.registers in
      moves refl (moves refl (moves refl
      (parameter_list_leads o p f.parameters _ (moves refl
      (registers_lead o f.parameters p f.registers _ (body_opens f.body _)
      (statements_lead f.body (bottom h) p (plain t.Return ∷ _) ((λ e. cc), (λ e. cc))
      (moves refl (atom_leads (returned h f.body) p f.result _ (moves refl (moves refl l))))))))))

  functions_lead : (ls : Snoc (RawLocation N)) (fs : Snoc (Routine N)) (p : TextTree N) (rest : Marks N) → Leads p (at_functions ls fs) rest → Leads p (at_functions ls empty) (each function fs rest)
  functions_lead ls empty p rest l = l
  functions_lead ls (append fs f) p rest l = functions_lead ls fs p (function f rest) (function_leads ls fs p f rest l)

  literals_lead : (h : ThreadHead N) (p : TextTree N) (args : Snoc Literal) (x : Literal) (rest : Marks N) → Leads p (after_literal h args x) rest → Leads p (at_literal_list h) (listed literal args x rest)
  literals_lead h p empty x rest l = first_literal_leads h p x rest l
  literals_lead h p (append args y) x rest l = literals_lead h p args y _ (moves refl (literal_leads (of_thread_argument h (append args y)) p x rest l))

  literal_list_leads : (h : ThreadHead N) (p : TextTree N) (args : Snoc Literal) (rest : Marks N) → Leads p (at_thread_end h args) rest → Leads p (at_literal_list h) (listed_if_any literal args (plain t.RightParen ∷ rest))
  literal_list_leads h p empty rest l = moves refl l
  literal_list_leads h p (append args x) rest l = literals_lead h p args x _ (moves refl l)

  threads_lead : (ls : Snoc (RawLocation N)) (fs : Snoc (Routine N)) (ts : Snoc (Thread N)) (p : TextTree N) (rest : Marks N) → Leads p (at_threads ls fs ts) rest → Leads p (at_threads ls fs empty) (each thread ts rest)
  threads_lead ls fs empty p rest l = l
  threads_lead ls fs (append ts x) p rest l =
      threads_lead ls fs ts p (thread x rest) (moves refl (moves refl (moves refl (literal_list_leads (thread_head ls fs ts x.word x.function) p x.arguments _ (moves refl l)))))

  -- a later part may begin where an earlier one may go on

  functions_step : (ls : Snoc (RawLocation N)) (x : Terminal N) → x ≢ t.Na → x ≢ t.Atomic → step (at_locations ls) x ≡ step (at_functions ls empty) x
  functions_step ls t.Na other another = absurd (other refl)
  functions_step ls t.Atomic other another = absurd (another refl)
  functions_step ls _ other another = refl

  -- the marks go on with no location
  abbrev NoLocation : Marks N → Type 0
  NoLocation [] = Unit {0}
  NoLocation (m ∷ ms) = (m.token ≢ t.Na) × (m.token ≢ t.Atomic)

  to_functions : (ls : Snoc (RawLocation N)) (p : TextTree N) (ms : Marks N) → NoLocation ms → Leads p (at_functions ls empty) ms → Leads p (at_locations ls) ms
  to_functions ls p [] other (ended e) = ended e
  to_functions ls p (m ∷ ms) other (moves e l) = moves (functions_step ls m.token other.0 other.1 ∙ e) l

  threads_step : (ls : Snoc (RawLocation N)) (fs : Snoc (Routine N)) (x : Terminal N) → x ≢ t.Fn → step (at_functions ls fs) x ≡ step (at_threads ls fs empty) x
  threads_step ls fs t.Fn other = absurd (other refl)
  threads_step ls fs _ other = refl

  -- the marks go on with no function
  abbrev NoFunction : Marks N → Type 0
  NoFunction [] = Unit {0}
  NoFunction (m ∷ ms) = m.token ≢ t.Fn

  to_threads : (ls : Snoc (RawLocation N)) (fs : Snoc (Routine N)) (p : TextTree N) (ms : Marks N) → Leads p (at_threads ls fs empty) ms → NoFunction ms → Leads p (at_functions ls fs) ms
  to_threads ls fs p [] (ended e) other = ended e
  to_threads ls fs p (m ∷ ms) (moves e l) other = moves (threads_step ls fs m.token other ∙ e) l

  threads_begin : (ts : Snoc (Thread N)) (rest : Marks N) → NoLocation rest → NoFunction rest → NoLocation (each thread ts rest) × NoFunction (each thread ts rest)
  threads_begin empty rest a b = (a, b)
  threads_begin (append ts x) rest a b = threads_begin ts (thread x rest) ((λ e. cc), (λ e. cc)) (λ e. cc)

  functions_begin : (fs : Snoc (Routine N)) (rest : Marks N) → NoLocation rest → NoLocation (each function fs rest)
  functions_begin empty rest a = a
  functions_begin (append fs f) rest a = functions_begin fs (function f rest) ((λ e. cc), (λ e. cc))

  -- each text of the grammar is read
  pub spelling_leads : (p : TextTree N) → Leads p begin (spelling p)
  spelling_leads p =
      let ls = p.locations in
      let fs = p.functions in
      let begins = threads_begin p.threads [] tt tt in
      let last : Leads p (at_threads ls fs p.threads) [] = ended refl in
      moves refl (moves refl (locations_lead ls p _
      (to_functions ls p _ (functions_begin fs _ begins.0)
      (functions_lead ls fs p _ (to_threads ls fs p _ (threads_lead ls fs p.threads p [] last) begins.1)))))
