-- What each state has read, and how a text can go on from it.
use Rattle.std.proofs.Common.{◌≡◌, ◌≢◌, ℕ, suc, List, [], ◌∷◌, ◌++◌, Bool, true, false, Option, Some, None, refl, sym, ap, ◌∙◌}
use Rattle.values_undef.specs.declared.arithmetic.Op.{Op}
use Rattle.values_undef.specs.declared.arithmetic.Op.TheVariants.{Sub}
use Rattle.values_undef.specs.declared.access.Order.TheVariants.{Rlx}
use Rattle.token_machine.specs.Text.{Mark, plain}
use Rattle.token_machine.specs.Machine.{Move, reject, shift, Keeps, Ending}
use Rattle.il_grammar.specs.declared.rule.Rule.{Rule}
use Rattle.il_grammar.specs.declared.terminal.Terminal.{Terminal}
use Rattle.il_grammar.specs.declared.terminal.Terminal.TheVariants as t
use Rattle.il_grammar.specs.declared.syntax.Literal.{Literal}
use Rattle.il_grammar.specs.declared.syntax.Literal.TheVariants.{Positive, Negative}
use Rattle.il_grammar.specs.declared.syntax.RawAtom.{RawAtom}
use Rattle.il_grammar.specs.declared.syntax.RawAtom.TheVariants.{Constant, Named}
use Rattle.il_grammar.specs.declared.syntax.RawOrder.{RawOrder}
use Rattle.il_grammar.specs.declared.syntax.RawUpdate.{RawUpdate}
use Rattle.il_grammar.specs.declared.syntax.RawUpdate.TheVariants.{Add as Adding, Swap as Swapping}
use Rattle.il_grammar.specs.declared.syntax.RawLocation.{RawLocation}
use Rattle.il_grammar.specs.Grammar.{Snoc, empty, append, Simple, skip, store, fence, print, copy, compute, load, update, cas, call, Tree, simply, choice, choice_else, repeat, Trees, no_tree, add_tree, Routine, Thread, TextTree, Marks, number_up_to, open_at, literal, name, atom, order, order_if_any, update_word, listed, listed_if_any, each, simple, statement, statements, location_word, location, registers, function, thread, spelling, past, past_depth}
use Rattle.il_grammar.specs.Machine.{Opening, ReaderHead, ThreadHead, Stack, bottom, inner, Frame, in_yes, in_no, in_body, UpdateUse, updating, comparing, NameUse, of_location, of_function, of_parameter, of_register, stored, loaded, updated, called, of_thread, AtomUse, printed, chosen, repeated, second_of, value_of, operand_of, new_of, argument_of, returned, assigned, LiteralUse, of_location_value, of_thread_argument, ReaderState, begin, at_version, at_locations, at_name, at_location_equals, at_literal, at_literal_magnitude, at_location_end, at_functions, at_parameters, at_parameter_list, after_parameter, at_body, at_registers, after_register, ready, at_semicolon, at_equals, at_right, at_atom, at_magnitude, after_operand, at_store, at_store_comma, at_load, at_update_order, at_update_comma, at_cas_comma, at_arguments, at_argument_list, after_argument, at_block, after_yes, at_return_end, at_function_close, at_threads, at_thread_arguments, at_literal_list, after_literal, at_thread_end, opening, head, thread_head, finished, finished_thread, text_tree, depth_of, inner_depth, after_name, after_operand_of, after_atom, after_literal_of, close_block, close, leave, from_atom, from_literal, from_ready, from_threads, from_functions, step, finish}

module _ {N : Type 0} where
  abbrev pub mark : Terminal N → Option Rule → Mark (Terminal N) Rule
  mark x r = record { token = x; exceeds = r }

  module _ {X : Type 0} (spell : X → Marks N → Marks N) where
    -- one after another, each with a comma after it
    abbrev pub with_commas : Snoc X → Marks N → Marks N
    with_commas empty rest = rest
    with_commas (append xs x) rest = with_commas xs (spell x (plain t.Comma ∷ rest))

    pub listed_commas : (xs : Snoc X) (x : X) (rest : Marks N) → listed spell xs x rest ≡ with_commas xs (spell x rest)
    listed_commas empty x rest = refl
    listed_commas (append xs y) x rest = listed_commas xs y (plain t.Comma ∷ spell x rest)

  -- the tokens up to the functions, and up to the threads
  abbrev pub located : Snoc (RawLocation N) → Marks N → Marks N
  located ls rest = plain t.Il ∷ plain t.Version ∷ each location ls rest

  abbrev pub functioned : Snoc (RawLocation N) → Snoc (Routine N) → Marks N → Marks N
  functioned ls fs rest = located ls (each function fs rest)

  abbrev pub threaded : Snoc (RawLocation N) → Snoc (Routine N) → Snoc (Thread N) → Marks N → Marks N
  threaded ls fs ts rest = functioned ls fs (each thread ts rest)

  -- the tokens up to a function's name, its parameters, its registers and its statements
  abbrev pub opened : Opening N → Marks N → Marks N
  opened o rest = functioned o.locations o.functions (plain t.Fn ∷ name o.name rest)

  abbrev pub in_parentheses : Opening N → Marks N → Marks N
  in_parentheses o rest = opened o (plain t.LeftParen ∷ rest)

  abbrev pub with_parameters : Opening N → Snoc N → Marks N → Marks N
  with_parameters o ps rest = in_parentheses o (listed_if_any name ps (plain t.RightParen ∷ rest))

  abbrev pub in_braces : Opening N → Snoc N → Marks N → Marks N
  in_braces o ps rest = with_parameters o ps (plain t.Open ∷ rest)

  abbrev pub headed : ReaderHead N → Marks N → Marks N
  headed h rest = in_braces h.opening h.parameters (registers h.registers rest)

  abbrev mutual
    -- the tokens up to the first statement of a block
    pub start : Stack N → Marks N → Marks N
    start (bottom h) rest = headed h rest
    start (inner f) rest = up_to_brace f (open_at (inner_depth f) ∷ rest)

    -- the tokens up to the brace of a block
    pub up_to_brace : Frame N → Marks N → Marks N
    up_to_brace (in_yes k xs w a) rest = start k (statements xs (depth_of k) (plain (t.If w) ∷ atom a rest))
    up_to_brace (in_no k xs w a first) rest = start k (statements xs (depth_of k) (plain (t.If w) ∷ atom a (open_at (suc (depth_of k)) ∷ statements first (suc (depth_of k)) (plain t.Close ∷ plain t.Else ∷ rest))))
    up_to_brace (in_body k xs w a) rest = start k (statements xs (depth_of k) (plain (t.While w) ∷ atom a rest))

  -- the tokens up to a place in a block
  abbrev pub before : Stack N → Trees N → Marks N → Marks N
  before k xs rest = start k (statements xs (depth_of k) rest)

  -- the tokens up to the right side of an assignment
  abbrev pub assigning : Stack N → Trees N → N → Marks N → Marks N
  assigning k xs r rest = before k xs (name r (plain t.Equals ∷ rest))

  abbrev pub before_update : UpdateUse N → Marks N → Marks N
  before_update (updating k xs r w) rest = assigning k xs r (update_word w ∷ rest)
  before_update (comparing k xs r) rest = assigning k xs r (plain t.Cas ∷ rest)

  abbrev pub before_thread : ThreadHead N → Marks N → Marks N
  before_thread h rest = threaded h.locations h.functions h.threads (plain (t.Thread h.word) ∷ name h.function rest)

  abbrev pub before_name : NameUse N → Marks N → Marks N
  before_name (of_location ls kind) rest = located ls (location_word kind ∷ rest)
  before_name (of_function ls fs) rest = functioned ls fs (plain t.Fn ∷ rest)
  before_name (of_parameter o ps) rest = in_parentheses o (with_commas name ps rest)
  before_name (of_register o ps rs) rest = in_braces o ps (plain t.Reg ∷ with_commas name rs rest)
  before_name (stored k xs w o) rest = before k xs (plain (t.Store w) ∷ order o rest)
  before_name (loaded k xs r o) rest = assigning k xs r (plain t.Load ∷ order o rest)
  before_name (updated u o) rest = before_update u (order o rest)
  before_name (called k xs r) rest = assigning k xs r (plain t.Call ∷ rest)
  before_name (of_thread ls fs ts w) rest = threaded ls fs ts (plain (t.Thread w) ∷ rest)

  abbrev pub before_atom : AtomUse N → Marks N → Marks N
  before_atom (printed k xs w) rest = before k xs (plain (t.Print w) ∷ rest)
  before_atom (chosen k xs w) rest = before k xs (plain (t.If w) ∷ rest)
  before_atom (repeated k xs w) rest = before k xs (plain (t.While w) ∷ rest)
  before_atom (second_of k xs r a op) rest = assigning k xs r (atom a (plain (t.Operator op) ∷ rest))
  before_atom (value_of k xs w o x) rest = before k xs (plain (t.Store w) ∷ order_if_any o (name x (plain t.Comma ∷ rest)))
  before_atom (operand_of u o y) rest = before_update u (order o (name y (plain t.Comma ∷ rest)))
  before_atom (new_of k xs r o y a) rest = assigning k xs r (plain t.Cas ∷ order o (name y (plain t.Comma ∷ atom a (plain t.Comma ∷ rest))))
  before_atom (argument_of k xs r g args) rest = assigning k xs r (plain t.Call ∷ name g (plain t.LeftParen ∷ with_commas atom args rest))
  before_atom (returned h xs) rest = before (bottom h) xs (plain t.Return ∷ rest)
  before_atom (assigned k xs r) rest = assigning k xs r rest

  abbrev pub before_literal : LiteralUse N → Marks N → Marks N
  before_literal (of_location_value ls kind n) rest = located ls (location_word kind ∷ name n (plain t.Equals ∷ rest))
  before_literal (of_thread_argument h args) rest = before_thread h (plain t.LeftParen ∷ with_commas literal args rest)

  -- the tokens that led to a state, and then the rest
  abbrev pub written : ReaderState N → Marks N → Marks N
  written begin rest = rest
  written at_version rest = plain t.Il ∷ rest
  written (at_locations ls) rest = located ls rest
  written (at_name u) rest = before_name u rest
  written (at_location_equals ls kind n) rest = located ls (location_word kind ∷ name n rest)
  written (at_literal u) rest = before_literal u rest
  written (at_literal_magnitude u) rest = before_literal u (plain (t.Operator Sub) ∷ rest)
  written (at_location_end ls l) rest = located ls (location_word l.is_atomic ∷ name l.name (plain t.Equals ∷ literal l.value rest))
  written (at_functions ls fs) rest = functioned ls fs rest
  written (at_parameters o) rest = opened o rest
  written (at_parameter_list o) rest = in_parentheses o rest
  written (after_parameter o ps p) rest = in_parentheses o (with_commas name ps (name p rest))
  written (at_body o ps) rest = with_parameters o ps rest
  written (at_registers o ps) rest = in_braces o ps rest
  written (after_register o ps rs r) rest = in_braces o ps (plain t.Reg ∷ with_commas name rs (name r rest))
  written (ready k xs) rest = before k xs rest
  written (at_semicolon k xs x) rest = before k xs (simple x rest)
  written (at_equals k xs r) rest = before k xs (name r rest)
  written (at_right k xs r) rest = assigning k xs r rest
  written (at_atom u) rest = before_atom u rest
  written (at_magnitude u) rest = before_atom u (plain (t.Operator Sub) ∷ rest)
  written (after_operand k xs r a) rest = assigning k xs r (atom a rest)
  written (at_store k xs w) rest = before k xs (plain (t.Store w) ∷ rest)
  written (at_store_comma k xs w o x) rest = before k xs (plain (t.Store w) ∷ order_if_any o (name x rest))
  written (at_load k xs r) rest = assigning k xs r (plain t.Load ∷ rest)
  written (at_update_order u) rest = before_update u rest
  written (at_update_comma u o y) rest = before_update u (order o (name y rest))
  written (at_cas_comma k xs r o y a) rest = assigning k xs r (plain t.Cas ∷ order o (name y (plain t.Comma ∷ atom a rest)))
  written (at_arguments k xs r g) rest = assigning k xs r (plain t.Call ∷ name g rest)
  written (at_argument_list k xs r g) rest = assigning k xs r (plain t.Call ∷ name g (plain t.LeftParen ∷ rest))
  written (after_argument k xs r g args a) rest = assigning k xs r (plain t.Call ∷ name g (plain t.LeftParen ∷ with_commas atom args (atom a rest)))
  written (at_block f) rest = up_to_brace f rest
  written (after_yes k xs w a first) rest = before (inner (in_yes k xs w a)) first (plain t.Close ∷ rest)
  written (at_return_end h xs a) rest = before (bottom h) xs (plain t.Return ∷ atom a rest)
  written (at_function_close h xs a) rest = before (bottom h) xs (plain t.Return ∷ atom a (plain t.Semicolon ∷ rest))
  written (at_threads ls fs ts) rest = threaded ls fs ts rest
  written (at_thread_arguments h) rest = before_thread h rest
  written (at_literal_list h) rest = before_thread h (plain t.LeftParen ∷ rest)
  written (after_literal h args x) rest = before_thread h (plain t.LeftParen ∷ with_commas literal args (literal x rest))
  written (at_thread_end h args) rest = before_thread h (plain t.LeftParen ∷ listed_if_any literal args (plain t.RightParen ∷ rest))

  -- a name ends the same text, whatever it is read for; so does an atom, and a literal
  pub after_name_keeps : (u : NameUse N) (n : N) (rest : Marks N) → written (after_name u n) rest ≡ before_name u (name n rest)
  after_name_keeps (of_location ls kind) n rest = refl
  after_name_keeps (of_function ls fs) n rest = refl
  after_name_keeps (of_parameter o ps) n rest = refl
  after_name_keeps (of_register o ps rs) n rest = refl
  after_name_keeps (stored k xs w o) n rest = refl
  after_name_keeps (loaded k xs r o) n rest = refl
  after_name_keeps (updated u o) n rest = refl
  after_name_keeps (called k xs r) n rest = refl
  after_name_keeps (of_thread ls fs ts w) n rest = refl

  pub after_atom_keeps : (u : AtomUse N) (a : RawAtom N) (rest : Marks N) → written (after_atom u a) rest ≡ before_atom u (atom a rest)
  after_atom_keeps (printed k xs w) a rest = refl
  after_atom_keeps (chosen k xs w) a rest = refl
  after_atom_keeps (repeated k xs w) a rest = refl
  after_atom_keeps (second_of k xs r a op) b rest = refl
  after_atom_keeps (value_of k xs w o x) a rest = refl
  after_atom_keeps (operand_of (updating k xs r w) o y) a rest = refl
  after_atom_keeps (operand_of (comparing k xs r) o y) a rest = refl
  after_atom_keeps (new_of k xs r o y a) b rest = refl
  after_atom_keeps (argument_of k xs r g args) a rest = refl
  after_atom_keeps (returned h xs) a rest = refl
  after_atom_keeps (assigned k xs r) a rest = refl

  pub after_literal_keeps : (u : LiteralUse N) (x : Literal) (rest : Marks N) → written (after_literal_of u x) rest ≡ before_literal u (literal x rest)
  after_literal_keeps (of_location_value ls kind n) x rest = refl
  after_literal_keeps (of_thread_argument h args) x rest = refl

  close_keeps : (k : Stack N) (xs : Trees N) → Keeps written (ready k xs) t.Close (close k xs)
  close_keeps (bottom h) xs = tt
  close_keeps (inner (in_yes k ys w a)) xs = λ rest. refl
  close_keeps (inner (in_no k ys w a first)) xs = λ rest. refl
  close_keeps (inner (in_body k ys w a)) xs = λ rest. refl

  leave_keeps : (k : Stack N) (xs : Trees N) → Keeps written (ready k xs) t.Return (leave k xs)
  leave_keeps (bottom h) xs = λ rest. refl
  leave_keeps (inner f) xs = tt

  ready_keeps : (k : Stack N) (xs : Trees N) (x : Terminal N) → Keeps written (ready k xs) x (from_ready k xs x)
  ready_keeps k xs (t.Skip w) = λ rest. refl
  ready_keeps k xs (t.Store w) = λ rest. refl
  ready_keeps k xs (t.Print w) = λ rest. refl
  ready_keeps k xs (t.If w) = λ rest. refl
  ready_keeps k xs (t.While w) = λ rest. refl
  ready_keeps k xs (t.Name r) = λ rest. refl
  ready_keeps k xs t.Close = close_keeps k xs
  ready_keeps k xs t.Return = leave_keeps k xs
  ready_keeps k xs _ = tt

  atom_keeps : (u : AtomUse N) (x : Terminal N) → Keeps written (at_atom u) x (from_atom u x)
  atom_keeps u (t.Operator Sub) = λ rest. refl
  atom_keeps u (t.Name n) = after_atom_keeps u (Named n)
  atom_keeps u (t.Number n) = after_atom_keeps u (Constant (Positive n))
  atom_keeps u _ = tt

  literal_keeps : (u : LiteralUse N) (x : Terminal N) → Keeps written (at_literal u) x (from_literal u x)
  literal_keeps u (t.Operator Sub) = λ rest. refl
  literal_keeps u (t.Number n) = after_literal_keeps u (Positive n)
  literal_keeps u _ = tt

  threads_keep : (ls : Snoc (RawLocation N)) (fs : Snoc (Routine N)) (ts : Snoc (Thread N)) (x : Terminal N) → Keeps written (at_threads ls fs ts) x (from_threads ls fs ts x)
  threads_keep ls fs ts (t.Thread w) = λ rest. refl
  threads_keep ls fs ts _ = tt

  functions_keep : (ls : Snoc (RawLocation N)) (fs : Snoc (Routine N)) (x : Terminal N) → Keeps written (at_functions ls fs) x (from_functions ls fs x)
  functions_keep ls fs t.Fn = λ rest. refl
  functions_keep ls fs x = threads_keep ls fs empty x

  pub step_keeps : (s : ReaderState N) (x : Terminal N) → Keeps written s x (step s x)
  step_keeps begin t.Il = λ rest. refl
  step_keeps begin _ = tt
  step_keeps at_version t.Version = λ rest. refl
  step_keeps at_version _ = tt
  step_keeps (at_locations ls) t.Na = λ rest. refl
  step_keeps (at_locations ls) t.Atomic = λ rest. refl
  step_keeps (at_locations ls) x = functions_keep ls empty x
  step_keeps (at_name u) (t.Name n) = after_name_keeps u n
  step_keeps (at_name u) _ = tt
  step_keeps (at_location_equals ls kind n) t.Equals = λ rest. refl
  step_keeps (at_location_equals ls kind n) _ = tt
  step_keeps (at_literal u) x = literal_keeps u x
  step_keeps (at_literal_magnitude u) (t.Number n) = after_literal_keeps u (Negative n)
  step_keeps (at_literal_magnitude u) _ = tt
  step_keeps (at_location_end ls l) t.Semicolon = λ rest. refl
  step_keeps (at_location_end ls l) _ = tt
  step_keeps (at_functions ls fs) x = functions_keep ls fs x
  step_keeps (at_parameters o) t.LeftParen = λ rest. refl
  step_keeps (at_parameters o) _ = tt
  step_keeps (at_parameter_list o) t.RightParen = λ rest. refl
  step_keeps (at_parameter_list o) (t.Name n) = λ rest. refl
  step_keeps (at_parameter_list o) _ = tt
  step_keeps (after_parameter o ps p) t.Comma = λ rest. refl
  step_keeps (after_parameter o ps p) t.RightParen = λ rest. ap (in_parentheses o) (listed_commas name ps p (plain t.RightParen ∷ rest))
  step_keeps (after_parameter o ps p) _ = tt
  step_keeps (at_body o ps) t.Open = λ rest. refl
  step_keeps (at_body o ps) _ = tt
  step_keeps (at_registers o ps) t.Reg = λ rest. refl
  step_keeps (at_registers o ps) x = ready_keeps (bottom (head o ps empty)) no_tree x
  step_keeps (after_register o ps rs r) t.Comma = λ rest. refl
  step_keeps (after_register o ps rs r) t.Semicolon = λ rest. ap (λ l. in_braces o ps (plain t.Reg ∷ l)) (listed_commas name rs r (plain t.Semicolon ∷ rest))
  step_keeps (after_register o ps rs r) _ = tt
  step_keeps (ready k xs) x = ready_keeps k xs x
  step_keeps (at_semicolon k xs s) t.Semicolon = λ rest. refl
  step_keeps (at_semicolon k xs s) _ = tt
  step_keeps (at_equals k xs r) t.Equals = λ rest. refl
  step_keeps (at_equals k xs r) (t.FenceOrder o v) = λ rest. refl
  step_keeps (at_equals k xs r) _ = tt
  step_keeps (at_right k xs r) t.Load = λ rest. refl
  step_keeps (at_right k xs r) t.Add = λ rest. refl
  step_keeps (at_right k xs r) t.Swap = λ rest. refl
  step_keeps (at_right k xs r) t.Cas = λ rest. refl
  step_keeps (at_right k xs r) t.Call = λ rest. refl
  step_keeps (at_right k xs r) x = atom_keeps (assigned k xs r) x
  step_keeps (at_atom u) x = atom_keeps u x
  step_keeps (at_magnitude u) (t.Number n) = after_atom_keeps u (Constant (Negative n))
  step_keeps (at_magnitude u) _ = tt
  step_keeps (after_operand k xs r a) t.Semicolon = λ rest. refl
  step_keeps (after_operand k xs r a) (t.Operator op) = λ rest. refl
  step_keeps (after_operand k xs r a) _ = tt
  step_keeps (at_store k xs w) (t.OrderWord o v) = λ rest. refl
  step_keeps (at_store k xs w) (t.Name x) = λ rest. refl
  step_keeps (at_store k xs w) _ = tt
  step_keeps (at_store_comma k xs w o x) t.Comma = λ rest. refl
  step_keeps (at_store_comma k xs w o x) _ = tt
  step_keeps (at_load k xs r) (t.OrderWord o v) = λ rest. refl
  step_keeps (at_load k xs r) (t.Name x) = λ rest. refl
  step_keeps (at_load k xs r) _ = tt
  step_keeps (at_update_order u) (t.OrderWord o v) = λ rest. refl
  step_keeps (at_update_order u) _ = tt
  step_keeps (at_update_comma u o y) t.Comma = λ rest. refl
  step_keeps (at_update_comma u o y) _ = tt
  step_keeps (at_cas_comma k xs r o y a) t.Comma = λ rest. refl
  step_keeps (at_cas_comma k xs r o y a) _ = tt
  step_keeps (at_arguments k xs r g) t.LeftParen = λ rest. refl
  step_keeps (at_arguments k xs r g) _ = tt
  step_keeps (at_argument_list k xs r g) t.RightParen = λ rest. refl
  step_keeps (at_argument_list k xs r g) x = atom_keeps (argument_of k xs r g empty) x
  step_keeps (after_argument k xs r g args a) t.Comma = λ rest. refl
  step_keeps (after_argument k xs r g args a) t.RightParen = λ rest. ap (λ l. assigning k xs r (plain t.Call ∷ name g (plain t.LeftParen ∷ l))) (listed_commas atom args a (plain t.RightParen ∷ rest))
  step_keeps (after_argument k xs r g args a) _ = tt
  step_keeps (at_block f) t.Open = λ rest. refl
  step_keeps (at_block f) _ = tt
  step_keeps (after_yes k xs w a first) t.Else = λ rest. refl
  step_keeps (after_yes k xs w a first) x = ready_keeps k (add_tree xs (choice w a first)) x
  step_keeps (at_return_end h xs a) t.Semicolon = λ rest. refl
  step_keeps (at_return_end h xs a) _ = tt
  step_keeps (at_function_close h xs a) t.Close = λ rest. refl
  step_keeps (at_function_close h xs a) _ = tt
  step_keeps (at_threads ls fs ts) x = threads_keep ls fs ts x
  step_keeps (at_thread_arguments h) t.LeftParen = λ rest. refl
  step_keeps (at_thread_arguments h) _ = tt
  step_keeps (at_literal_list h) t.RightParen = λ rest. refl
  step_keeps (at_literal_list h) x = literal_keeps (of_thread_argument h empty) x
  step_keeps (after_literal h args x) t.Comma = λ rest. refl
  step_keeps (after_literal h args x) t.RightParen = λ rest. ap (λ l. before_thread h (plain t.LeftParen ∷ l)) (listed_commas literal args x (plain t.RightParen ∷ rest))
  step_keeps (after_literal h args x) _ = tt
  step_keeps (at_thread_end h args) t.Semicolon = λ rest. refl
  step_keeps (at_thread_end h args) _ = tt
