-- How a text can go on from each state to its end.
use Rattle.std.proofs.Common.{◌≡◌, ◌≢◌, ℕ, suc, List, [], ◌∷◌, ◌++◌, Bool, true, false, Option, Some, None, refl, sym, ap, ◌∙◌}
use Rattle.values_undef.specs.declared.arithmetic.Op.{Op}
use Rattle.values_undef.specs.declared.arithmetic.Op.TheVariants.{Sub}
use Rattle.values_undef.specs.declared.access.Order.TheVariants.{Rlx}
use Rattle.token_machine.specs.Text.{Mark, plain}
use Rattle.token_machine.specs.Machine.{Move, reject, shift, Keeps, Ending}
use Rattle.il_grammar.specs.declared.rule.Rule.{Rule}
use Rattle.il_grammar.specs.declared.terminal.Terminal.{Terminal}
use Rattle.il_grammar.specs.declared.terminal.Terminal.TheVariants as t
use Rattle.il_grammar.specs.declared.syntax.Literal.{Literal}
use Rattle.il_grammar.specs.declared.syntax.Literal.TheVariants.{Positive, Negative}
use Rattle.il_grammar.specs.declared.syntax.RawAtom.{RawAtom}
use Rattle.il_grammar.specs.declared.syntax.RawAtom.TheVariants.{Constant, Named}
use Rattle.il_grammar.specs.declared.syntax.RawOrder.{RawOrder}
use Rattle.il_grammar.specs.declared.syntax.RawUpdate.{RawUpdate}
use Rattle.il_grammar.specs.declared.syntax.RawUpdate.TheVariants.{Add as Adding, Swap as Swapping}
use Rattle.il_grammar.specs.declared.syntax.RawLocation.{RawLocation}
use Rattle.il_grammar.specs.Grammar.{Snoc, empty, append, Simple, skip, store, fence, print, copy, compute, load, update, cas, call, Tree, simply, choice, choice_else, repeat, Trees, no_tree, add_tree, Routine, Thread, TextTree, Marks, number_up_to, open_at, literal, name, atom, order, order_if_any, update_word, listed, listed_if_any, each, simple, statement, statements, location_word, location, registers, function, thread, spelling, past, past_depth}
use Rattle.il_grammar.specs.Machine.{Opening, ReaderHead, ThreadHead, Stack, bottom, inner, Frame, in_yes, in_no, in_body, UpdateUse, updating, comparing, NameUse, of_location, of_function, of_parameter, of_register, stored, loaded, updated, called, of_thread, AtomUse, printed, chosen, repeated, second_of, value_of, operand_of, new_of, argument_of, returned, assigned, LiteralUse, of_location_value, of_thread_argument, ReaderState, begin, at_version, at_locations, at_name, at_location_equals, at_literal, at_literal_magnitude, at_location_end, at_functions, at_parameters, at_parameter_list, after_parameter, at_body, at_registers, after_register, ready, at_semicolon, at_equals, at_right, at_atom, at_magnitude, after_operand, at_store, at_store_comma, at_load, at_update_order, at_update_comma, at_cas_comma, at_arguments, at_argument_list, after_argument, at_block, after_yes, at_return_end, at_function_close, at_threads, at_thread_arguments, at_literal_list, after_literal, at_thread_end, opening, head, thread_head, finished, finished_thread, text_tree, depth_of, inner_depth, after_name, after_operand_of, after_atom, after_literal_of, close_block, close, leave, from_atom, from_literal, from_ready, from_threads, from_functions, step, finish}
use Rattle.il_grammar.proofs.Trace.{mark, listed_commas, located, functioned, threaded, in_parentheses, in_braces, before, assigning, before_thread, written, step_keeps, after_name_keeps, after_atom_keeps, after_literal_keeps}

-- one way on is enough; a name is needed on it
module _ {N : Type 0} (any : N) where
  abbrev CanEnd : ReaderState N → Type 0
  CanEnd = Ending spelling written

  -- a state from which a move leads to one that can end can end
  before_move : (s next : ReaderState N) (m : Mark (Terminal N) Rule) → ((rest : Marks N) → written next rest ≡ written s (m ∷ rest)) → CanEnd next → CanEnd s
  before_move s next m kept e = record { marks = m ∷ e.marks; tree = e.tree; text = e.text ∙ kept e.marks }

  at_end : (s : ReaderState N) (p : TextTree N) → spelling p ≡ written s [] → CanEnd s
  at_end s p e = record { marks = []; tree = p; text = e }

  same_text : (s other : ReaderState N) → ((rest : Marks N) → written s rest ≡ written other rest) → CanEnd s → CanEnd other
  same_text s other same e = record { marks = e.marks; tree = e.tree; text = e.text ∙ same e.marks }

  abbrev zero : RawAtom N
  zero = Constant (Positive 0)

  abbrev rlx : RawOrder N
  rlx = record { order = Rlx; word = any }

  function_ending : (h : ReaderHead N) (xs : Trees N) (a : RawAtom N) → CanEnd (at_function_close h xs a)
  function_ending h xs a = record { marks = plain t.Close ∷ []; tree = text_tree h.opening.locations (append h.opening.functions (finished h xs a)) empty; text = refl }

  return_ending : (h : ReaderHead N) (xs : Trees N) (a : RawAtom N) → CanEnd (at_return_end h xs a)
  return_ending h xs a = before_move _ _ (plain t.Semicolon) (λ rest. refl) (function_ending h xs a)

  mutual
    ready_ending : (k : Stack N) (xs : Trees N) → CanEnd (ready k xs)
    ready_ending (bottom h) xs =
        before_move (ready (bottom h) xs) (at_atom (returned h xs)) (plain t.Return) (λ rest. refl)
        (before_move (at_atom (returned h xs)) (at_return_end h xs (Named any)) (plain (t.Name any)) (λ rest. refl) (return_ending h xs (Named any)))
    ready_ending (inner f) xs = closed_ending f xs

    closed_ending : (f : Frame N) (xs : Trees N) → CanEnd (ready (inner f) xs)
    closed_ending (in_yes k ys w a) xs =
        before_move _ (ready k (add_tree ys (choice w a xs))) (plain t.Close) (λ rest. refl) (ready_ending k (add_tree ys (choice w a xs)))
    closed_ending (in_no k ys w a first) xs =
        before_move _ (ready k (add_tree ys (choice_else w a first xs))) (plain t.Close) (λ rest. refl) (ready_ending k (add_tree ys (choice_else w a first xs)))
    closed_ending (in_body k ys w a) xs =
        before_move _ (ready k (add_tree ys (repeat w a xs))) (plain t.Close) (λ rest. refl) (ready_ending k (add_tree ys (repeat w a xs)))

  simple_ending : (k : Stack N) (xs : Trees N) (x : Simple N) → CanEnd (at_semicolon k xs x)
  simple_ending k xs x = before_move _ (ready k (add_tree xs (simply x))) (plain t.Semicolon) (λ rest. refl) (ready_ending k (add_tree xs (simply x)))

  block_ending : (f : Frame N) → CanEnd (at_block f)
  block_ending f = before_move _ (ready (inner f) no_tree) (open_at (inner_depth f)) (λ rest. refl) (ready_ending (inner f) no_tree)

  operand_ending : (k : Stack N) (xs : Trees N) (r : N) (a : RawAtom N) → CanEnd (after_operand k xs r a)
  operand_ending k xs r a = before_move _ (ready k (add_tree xs (simply (copy r a)))) (plain t.Semicolon) (λ rest. refl) (ready_ending k (add_tree xs (simply (copy r a))))

  argument_ending : (k : Stack N) (xs : Trees N) (r g : N) (args : Snoc (RawAtom N)) (a : RawAtom N) → CanEnd (after_argument k xs r g args a)
  argument_ending k xs r g args a =
      before_move _ (at_semicolon k xs (call r g (append args a))) (plain t.RightParen)
      (λ rest. ap (λ l. assigning k xs r (plain t.Call ∷ name g (plain t.LeftParen ∷ l))) (listed_commas atom args a (plain t.RightParen ∷ rest)))
      (simple_ending k xs (call r g (append args a)))

  cas_ending : (k : Stack N) (xs : Trees N) (r : N) (o : RawOrder N) (y : N) (a : RawAtom N) → CanEnd (at_cas_comma k xs r o y a)
  cas_ending k xs r o y a =
      before_move _ (at_atom (new_of k xs r o y a)) (plain t.Comma) (λ rest. refl)
      (before_move _ (at_semicolon k xs (cas r o y a (Named any))) (plain (t.Name any)) (λ rest. refl) (simple_ending k xs (cas r o y a (Named any))))

  after_atom_ending : (u : AtomUse N) (a : RawAtom N) → CanEnd (after_atom u a)
  after_atom_ending (printed k xs w) a = simple_ending k xs (print w a)
  after_atom_ending (chosen k xs w) a = block_ending (in_yes k xs w a)
  after_atom_ending (repeated k xs w) a = block_ending (in_body k xs w a)
  after_atom_ending (second_of k xs r a op) b = simple_ending k xs (compute r a op b)
  after_atom_ending (value_of k xs w o x) a = simple_ending k xs (store w o x a)
  after_atom_ending (operand_of (updating k xs r w) o y) a = simple_ending k xs (update r w o y a)
  after_atom_ending (operand_of (comparing k xs r) o y) a = cas_ending k xs r o y a
  after_atom_ending (new_of k xs r o y a) b = simple_ending k xs (cas r o y a b)
  after_atom_ending (argument_of k xs r g args) a = argument_ending k xs r g args a
  after_atom_ending (returned h xs) a = return_ending h xs a
  after_atom_ending (assigned k xs r) a = operand_ending k xs r a

  atom_ending : (u : AtomUse N) → CanEnd (at_atom u)
  atom_ending u = before_move _ _ (plain (t.Name any)) (after_atom_keeps u (Named any)) (after_atom_ending u (Named any))

  right_ending : (k : Stack N) (xs : Trees N) (r : N) → CanEnd (at_right k xs r)
  right_ending k xs r = same_text (at_atom (assigned k xs r)) (at_right k xs r) (λ rest. refl) (atom_ending (assigned k xs r))

  update_comma_ending : (u : UpdateUse N) (o : RawOrder N) (y : N) → CanEnd (at_update_comma u o y)
  update_comma_ending u o y = before_move _ (at_atom (operand_of u o y)) (plain t.Comma) (λ rest. refl) (atom_ending (operand_of u o y))

  store_comma_ending : (k : Stack N) (xs : Trees N) (w : N) (o : Option (RawOrder N)) (x : N) → CanEnd (at_store_comma k xs w o x)
  store_comma_ending k xs w o x = before_move _ (at_atom (value_of k xs w o x)) (plain t.Comma) (λ rest. refl) (atom_ending (value_of k xs w o x))

  argument_list_ending : (k : Stack N) (xs : Trees N) (r g : N) → CanEnd (at_argument_list k xs r g)
  argument_list_ending k xs r g = before_move _ (at_semicolon k xs (call r g empty)) (plain t.RightParen) (λ rest. refl) (simple_ending k xs (call r g empty))

  arguments_ending : (k : Stack N) (xs : Trees N) (r g : N) → CanEnd (at_arguments k xs r g)
  arguments_ending k xs r g = before_move _ (at_argument_list k xs r g) (plain t.LeftParen) (λ rest. refl) (argument_list_ending k xs r g)

  location_ending : (ls : Snoc (RawLocation N)) (l : RawLocation N) → CanEnd (at_location_end ls l)
  location_ending ls l = before_move _ (at_locations (append ls l)) (plain t.Semicolon) (λ rest. refl) (at_end _ (text_tree (append ls l) empty empty) refl)

  thread_ending : (h : ThreadHead N) (args : Snoc Literal) → CanEnd (at_thread_end h args)
  thread_ending h args =
      before_move _ (at_threads h.locations h.functions (append h.threads (finished_thread h args))) (plain t.Semicolon) (λ rest. refl)
      (at_end _ (text_tree h.locations h.functions (append h.threads (finished_thread h args))) refl)

  after_literal_ending : (h : ThreadHead N) (args : Snoc Literal) (x : Literal) → CanEnd (after_literal h args x)
  after_literal_ending h args x =
      before_move _ (at_thread_end h (append args x)) (plain t.RightParen)
      (λ rest. ap (λ l. before_thread h (plain t.LeftParen ∷ l)) (listed_commas literal args x (plain t.RightParen ∷ rest))) (thread_ending h (append args x))

  literal_use_ending : (u : LiteralUse N) (x : Literal) → CanEnd (after_literal_of u x)
  literal_use_ending (of_location_value ls kind n) x = location_ending ls (record { is_atomic = kind; name = n; value = x })
  literal_use_ending (of_thread_argument h args) x = after_literal_ending h args x

  literal_ending : (u : LiteralUse N) → CanEnd (at_literal u)
  literal_ending u = before_move _ _ (plain (t.Number 0)) (after_literal_keeps u (Positive 0)) (literal_use_ending u (Positive 0))

  equals_ending : (ls : Snoc (RawLocation N)) (kind : Bool) (n : N) → CanEnd (at_location_equals ls kind n)
  equals_ending ls kind n = before_move _ (at_literal (of_location_value ls kind n)) (plain t.Equals) (λ rest. refl) (literal_ending (of_location_value ls kind n))

  registers_ending : (o : Opening N) (ps : Snoc N) → CanEnd (at_registers o ps)
  registers_ending o ps = same_text (ready (bottom (head o ps empty)) no_tree) (at_registers o ps) (λ rest. refl) (ready_ending (bottom (head o ps empty)) no_tree)

  body_ending : (o : Opening N) (ps : Snoc N) → CanEnd (at_body o ps)
  body_ending o ps = before_move _ (at_registers o ps) (plain t.Open) (λ rest. refl) (registers_ending o ps)

  parameter_ending : (o : Opening N) (ps : Snoc N) (p : N) → CanEnd (after_parameter o ps p)
  parameter_ending o ps p =
      before_move _ (at_body o (append ps p)) (plain t.RightParen) (λ rest. ap (in_parentheses o) (listed_commas name ps p (plain t.RightParen ∷ rest))) (body_ending o (append ps p))

  parameter_list_ending : (o : Opening N) → CanEnd (at_parameter_list o)
  parameter_list_ending o = before_move _ (at_body o empty) (plain t.RightParen) (λ rest. refl) (body_ending o empty)

  parameters_ending : (o : Opening N) → CanEnd (at_parameters o)
  parameters_ending o = before_move _ (at_parameter_list o) (plain t.LeftParen) (λ rest. refl) (parameter_list_ending o)

  register_ending : (o : Opening N) (ps rs : Snoc N) (r : N) → CanEnd (after_register o ps rs r)
  register_ending o ps rs r =
      before_move _ (ready (bottom (head o ps (append rs r))) no_tree) (plain t.Semicolon)
      (λ rest. ap (λ l. in_braces o ps (plain t.Reg ∷ l)) (listed_commas name rs r (plain t.Semicolon ∷ rest))) (ready_ending (bottom (head o ps (append rs r))) no_tree)

  literal_list_ending : (h : ThreadHead N) → CanEnd (at_literal_list h)
  literal_list_ending h = before_move _ (at_thread_end h empty) (plain t.RightParen) (λ rest. refl) (thread_ending h empty)

  thread_arguments_ending : (h : ThreadHead N) → CanEnd (at_thread_arguments h)
  thread_arguments_ending h = before_move _ (at_literal_list h) (plain t.LeftParen) (λ rest. refl) (literal_list_ending h)

  after_name_ending : (u : NameUse N) (n : N) → CanEnd (after_name u n)
  after_name_ending (of_location ls kind) n = equals_ending ls kind n
  after_name_ending (of_function ls fs) n = parameters_ending (opening ls fs n)
  after_name_ending (of_parameter o ps) n = parameter_ending o ps n
  after_name_ending (of_register o ps rs) n = register_ending o ps rs n
  after_name_ending (stored k xs w o) n = store_comma_ending k xs w (Some o) n
  after_name_ending (loaded k xs r o) n = simple_ending k xs (load r (Some o) n)
  after_name_ending (updated u o) n = update_comma_ending u o n
  after_name_ending (called k xs r) n = arguments_ending k xs r n
  after_name_ending (of_thread ls fs ts w) n = thread_arguments_ending (thread_head ls fs ts w n)

  name_ending : (u : NameUse N) → CanEnd (at_name u)
  name_ending u = before_move _ _ (plain (t.Name any)) (after_name_keeps u any) (after_name_ending u any)

  store_ending : (k : Stack N) (xs : Trees N) (w : N) → CanEnd (at_store k xs w)
  store_ending k xs w = before_move _ (at_store_comma k xs w None any) (plain (t.Name any)) (λ rest. refl) (store_comma_ending k xs w None any)

  load_ending : (k : Stack N) (xs : Trees N) (r : N) → CanEnd (at_load k xs r)
  load_ending k xs r = before_move _ (at_semicolon k xs (load r None any)) (plain (t.Name any)) (λ rest. refl) (simple_ending k xs (load r None any))

  update_order_ending : (u : UpdateUse N) → CanEnd (at_update_order u)
  update_order_ending u = before_move _ (at_name (updated u rlx)) (plain (t.OrderWord Rlx any)) (λ rest. refl) (name_ending (updated u rlx))

  locations_ending : (ls : Snoc (RawLocation N)) → CanEnd (at_locations ls)
  locations_ending ls = at_end _ (text_tree ls empty empty) refl

  version_ending : CanEnd at_version
  version_ending = before_move _ (at_locations empty) (plain t.Version) (λ rest. refl) (locations_ending empty)

  pub ending : (s : ReaderState N) → CanEnd s
  ending begin = before_move _ at_version (plain t.Il) (λ rest. refl) version_ending
  ending at_version = version_ending
  ending (at_locations ls) = locations_ending ls
  ending (at_name u) = name_ending u
  ending (at_location_equals ls kind n) = equals_ending ls kind n
  ending (at_literal u) = literal_ending u
  ending (at_literal_magnitude u) = before_move _ _ (plain (t.Number 0)) (after_literal_keeps u (Negative 0)) (literal_use_ending u (Negative 0))
  ending (at_location_end ls l) = location_ending ls l
  ending (at_functions ls fs) = at_end _ (text_tree ls fs empty) refl
  ending (at_parameters o) = parameters_ending o
  ending (at_parameter_list o) = parameter_list_ending o
  ending (after_parameter o ps p) = parameter_ending o ps p
  ending (at_body o ps) = body_ending o ps
  ending (at_registers o ps) = registers_ending o ps
  ending (after_register o ps rs r) = register_ending o ps rs r
  ending (ready k xs) = ready_ending k xs
  ending (at_semicolon k xs x) = simple_ending k xs x
  ending (at_equals k xs r) = before_move _ (at_right k xs r) (plain t.Equals) (λ rest. refl) (right_ending k xs r)
  ending (at_right k xs r) = right_ending k xs r
  ending (at_atom u) = atom_ending u
  ending (at_magnitude u) = before_move _ _ (plain (t.Number 0)) (after_atom_keeps u (Constant (Negative 0))) (after_atom_ending u (Constant (Negative 0)))
  ending (after_operand k xs r a) = operand_ending k xs r a
  ending (at_store k xs w) = store_ending k xs w
  ending (at_store_comma k xs w o x) = store_comma_ending k xs w o x
  ending (at_load k xs r) = load_ending k xs r
  ending (at_update_order u) = update_order_ending u
  ending (at_update_comma u o y) = update_comma_ending u o y
  ending (at_cas_comma k xs r o y a) = cas_ending k xs r o y a
  ending (at_arguments k xs r g) = arguments_ending k xs r g
  ending (at_argument_list k xs r g) = argument_list_ending k xs r g
  ending (after_argument k xs r g args a) = argument_ending k xs r g args a
  ending (at_block f) = block_ending f
  ending (after_yes k xs w a first) = same_text (ready k (add_tree xs (choice w a first))) (after_yes k xs w a first) (λ rest. refl) (ready_ending k (add_tree xs (choice w a first)))
  ending (at_return_end h xs a) = return_ending h xs a
  ending (at_function_close h xs a) = function_ending h xs a
  ending (at_threads ls fs ts) = at_end _ (text_tree ls fs ts) refl
  ending (at_thread_arguments h) = thread_arguments_ending h
  ending (at_literal_list h) = literal_list_ending h
  ending (after_literal h args x) = after_literal_ending h args x
  ending (at_thread_end h args) = thread_ending h args
