-- The machine doesn't look at names.
use Rattle.std.proofs.Common.{◌≡◌, ◌≢◌, ℕ, suc, List, [], ◌∷◌, ◌++◌, Bool, true, false, Option, Some, None, map, Result, Ok, Err, refl, sym, ap, ◌∙◌}
use Rattle.values_undef.specs.declared.arithmetic.Op.{Op}
use Rattle.values_undef.specs.declared.arithmetic.Op.TheVariants.{Sub}
use Rattle.values_undef.specs.declared.access.Order.TheVariants.{Rlx}
use Rattle.token_machine.specs.Text.{Mark, plain, tokens_of, Spells}
use Rattle.token_machine.specs.Machine.{Move, reject, shift, Accepts, moves}
use Rattle.il_grammar.specs.declared.rule.Rule.{Rule}
use Rattle.il_grammar.specs.declared.terminal.Terminal.{Terminal}
use Rattle.il_grammar.specs.declared.terminal.Terminal.TheVariants as t
use Rattle.il_grammar.specs.declared.syntax.Literal.{Literal}
use Rattle.il_grammar.specs.declared.syntax.Literal.TheVariants.{Positive, Negative}
use Rattle.il_grammar.specs.declared.syntax.RawAtom.{RawAtom}
use Rattle.il_grammar.specs.declared.syntax.RawAtom.TheVariants.{Constant, Named}
use Rattle.il_grammar.specs.declared.syntax.RawOrder.{RawOrder}
use Rattle.il_grammar.specs.declared.syntax.RawUpdate.{RawUpdate}
use Rattle.il_grammar.specs.declared.syntax.RawUpdate.TheVariants.{Add as Adding, Swap as Swapping}
use Rattle.il_grammar.specs.declared.syntax.RawLocation.{RawLocation}
use Rattle.il_grammar.specs.Grammar.{Snoc, empty, append, Simple, skip, store, fence, print, copy, compute, load, update, cas, call, Tree, simply, choice, choice_else, repeat, Trees, no_tree, add_tree, Routine, Thread, TextTree, Marks, number_up_to, open_at, literal, name, atom, order, order_if_any, update_word, listed, listed_if_any, each, simple, statement, statements, location_word, location, registers, function, thread, spelling, past, past_depth}
use Rattle.il_grammar.specs.Machine.{Opening, ReaderHead, ThreadHead, Stack, bottom, inner, Frame, in_yes, in_no, in_body, UpdateUse, updating, comparing, NameUse, of_location, of_function, of_parameter, of_register, stored, loaded, updated, called, of_thread, AtomUse, printed, chosen, repeated, second_of, value_of, operand_of, new_of, argument_of, returned, assigned, LiteralUse, of_location_value, of_thread_argument, ReaderState, begin, at_version, at_locations, at_name, at_location_equals, at_literal, at_literal_magnitude, at_location_end, at_functions, at_parameters, at_parameter_list, after_parameter, at_body, at_registers, after_register, ready, at_semicolon, at_equals, at_right, at_atom, at_magnitude, after_operand, at_store, at_store_comma, at_load, at_update_order, at_update_comma, at_cas_comma, at_arguments, at_argument_list, after_argument, at_block, after_yes, at_return_end, at_function_close, at_threads, at_thread_arguments, at_literal_list, after_literal, at_thread_end, opening, head, thread_head, finished, finished_thread, text_tree, depth_of, inner_depth, after_name, after_operand_of, after_atom, after_literal_of, close_block, close, leave, from_atom, from_literal, from_ready, from_threads, from_functions, step, finish}
use Rattle.token_machine.specs.Mapped.{move_map, answer_map, finish_map}
use Rattle.token_machine.specs.declared.fault.Fault.{Fault}
use Rattle.token_machine.proofs.Callers.{answer_mapped, spells_answer, answer_spells}
use Rattle.il_grammar.specs.declared.rule.Rule.TheVariants.{P3}
use Rattle.il_grammar.specs.Machine.{answer}
use Rattle.il_grammar.specs.Mapped.{snoc_map, terminal_map, atom_map, order_map, option_order_map, simple_map, tree_map, trees_map, location_map, routine_map, thread_map, text_map}
use Rattle.il_grammar.proofs.Instance.{reads}

module _ {N M : Type 0} (f : N → M) where
  abbrev opening_map : Opening N → Opening M
  opening_map o = record { locations = snoc_map (location_map f) o.locations; functions = snoc_map (routine_map f) o.functions; name = f o.name }

  abbrev head_map : ReaderHead N → ReaderHead M
  head_map h = record { opening = opening_map h.opening; parameters = snoc_map f h.parameters; registers = snoc_map f h.registers }

  abbrev thread_head_map : ThreadHead N → ThreadHead M
  thread_head_map h = record { locations = snoc_map (location_map f) h.locations; functions = snoc_map (routine_map f) h.functions; threads = snoc_map (thread_map f) h.threads; word = f h.word; function = f h.function }

  abbrev mutual
    stack_map : Stack N → Stack M
    stack_map (bottom h) = bottom (head_map h)
    stack_map (inner k) = inner (frame_map k)

    frame_map : Frame N → Frame M
    frame_map (in_yes k xs w a) = in_yes (stack_map k) (trees_map f xs) (f w) (atom_map f a)
    frame_map (in_no k xs w a first) = in_no (stack_map k) (trees_map f xs) (f w) (atom_map f a) (trees_map f first)
    frame_map (in_body k xs w a) = in_body (stack_map k) (trees_map f xs) (f w) (atom_map f a)

  abbrev update_use_map : UpdateUse N → UpdateUse M
  update_use_map (updating k xs r w) = updating (stack_map k) (trees_map f xs) (f r) w
  update_use_map (comparing k xs r) = comparing (stack_map k) (trees_map f xs) (f r)

  abbrev name_use_map : NameUse N → NameUse M
  name_use_map (of_location ls kind) = of_location (snoc_map (location_map f) ls) kind
  name_use_map (of_function ls fs) = of_function (snoc_map (location_map f) ls) (snoc_map (routine_map f) fs)
  name_use_map (of_parameter o ps) = of_parameter (opening_map o) (snoc_map f ps)
  name_use_map (of_register o ps rs) = of_register (opening_map o) (snoc_map f ps) (snoc_map f rs)
  name_use_map (stored k xs w o) = stored (stack_map k) (trees_map f xs) (f w) (order_map f o)
  name_use_map (loaded k xs r o) = loaded (stack_map k) (trees_map f xs) (f r) (order_map f o)
  name_use_map (updated u o) = updated (update_use_map u) (order_map f o)
  name_use_map (called k xs r) = called (stack_map k) (trees_map f xs) (f r)
  name_use_map (of_thread ls fs ts w) = of_thread (snoc_map (location_map f) ls) (snoc_map (routine_map f) fs) (snoc_map (thread_map f) ts) (f w)

  abbrev atom_use_map : AtomUse N → AtomUse M
  atom_use_map (printed k xs w) = printed (stack_map k) (trees_map f xs) (f w)
  atom_use_map (chosen k xs w) = chosen (stack_map k) (trees_map f xs) (f w)
  atom_use_map (repeated k xs w) = repeated (stack_map k) (trees_map f xs) (f w)
  atom_use_map (second_of k xs r a op) = second_of (stack_map k) (trees_map f xs) (f r) (atom_map f a) op
  atom_use_map (value_of k xs w o x) = value_of (stack_map k) (trees_map f xs) (f w) (option_order_map f o) (f x)
  atom_use_map (operand_of u o y) = operand_of (update_use_map u) (order_map f o) (f y)
  atom_use_map (new_of k xs r o y a) = new_of (stack_map k) (trees_map f xs) (f r) (order_map f o) (f y) (atom_map f a)
  atom_use_map (argument_of k xs r g args) = argument_of (stack_map k) (trees_map f xs) (f r) (f g) (snoc_map (atom_map f) args)
  atom_use_map (returned h xs) = returned (head_map h) (trees_map f xs)
  atom_use_map (assigned k xs r) = assigned (stack_map k) (trees_map f xs) (f r)

  abbrev literal_use_map : LiteralUse N → LiteralUse M
  literal_use_map (of_location_value ls kind n) = of_location_value (snoc_map (location_map f) ls) kind (f n)
  literal_use_map (of_thread_argument h args) = of_thread_argument (thread_head_map h) args

  abbrev state_map : ReaderState N → ReaderState M
  state_map begin = begin
  state_map at_version = at_version
  state_map (at_locations ls) = at_locations (snoc_map (location_map f) ls)
  state_map (at_name u) = at_name (name_use_map u)
  state_map (at_location_equals ls kind n) = at_location_equals (snoc_map (location_map f) ls) kind (f n)
  state_map (at_literal u) = at_literal (literal_use_map u)
  state_map (at_literal_magnitude u) = at_literal_magnitude (literal_use_map u)
  state_map (at_location_end ls l) = at_location_end (snoc_map (location_map f) ls) (location_map f l)
  state_map (at_functions ls fs) = at_functions (snoc_map (location_map f) ls) (snoc_map (routine_map f) fs)
  state_map (at_parameters o) = at_parameters (opening_map o)
  state_map (at_parameter_list o) = at_parameter_list (opening_map o)
  state_map (after_parameter o ps p) = after_parameter (opening_map o) (snoc_map f ps) (f p)
  state_map (at_body o ps) = at_body (opening_map o) (snoc_map f ps)
  state_map (at_registers o ps) = at_registers (opening_map o) (snoc_map f ps)
  state_map (after_register o ps rs r) = after_register (opening_map o) (snoc_map f ps) (snoc_map f rs) (f r)
  state_map (ready k xs) = ready (stack_map k) (trees_map f xs)
  state_map (at_semicolon k xs x) = at_semicolon (stack_map k) (trees_map f xs) (simple_map f x)
  state_map (at_equals k xs r) = at_equals (stack_map k) (trees_map f xs) (f r)
  state_map (at_right k xs r) = at_right (stack_map k) (trees_map f xs) (f r)
  state_map (at_atom u) = at_atom (atom_use_map u)
  state_map (at_magnitude u) = at_magnitude (atom_use_map u)
  state_map (after_operand k xs r a) = after_operand (stack_map k) (trees_map f xs) (f r) (atom_map f a)
  state_map (at_store k xs w) = at_store (stack_map k) (trees_map f xs) (f w)
  state_map (at_store_comma k xs w o x) = at_store_comma (stack_map k) (trees_map f xs) (f w) (option_order_map f o) (f x)
  state_map (at_load k xs r) = at_load (stack_map k) (trees_map f xs) (f r)
  state_map (at_update_order u) = at_update_order (update_use_map u)
  state_map (at_update_comma u o y) = at_update_comma (update_use_map u) (order_map f o) (f y)
  state_map (at_cas_comma k xs r o y a) = at_cas_comma (stack_map k) (trees_map f xs) (f r) (order_map f o) (f y) (atom_map f a)
  state_map (at_arguments k xs r g) = at_arguments (stack_map k) (trees_map f xs) (f r) (f g)
  state_map (at_argument_list k xs r g) = at_argument_list (stack_map k) (trees_map f xs) (f r) (f g)
  state_map (after_argument k xs r g args a) = after_argument (stack_map k) (trees_map f xs) (f r) (f g) (snoc_map (atom_map f) args) (atom_map f a)
  state_map (at_block k) = at_block (frame_map k)
  state_map (after_yes k xs w a first) = after_yes (stack_map k) (trees_map f xs) (f w) (atom_map f a) (trees_map f first)
  state_map (at_return_end h xs a) = at_return_end (head_map h) (trees_map f xs) (atom_map f a)
  state_map (at_function_close h xs a) = at_function_close (head_map h) (trees_map f xs) (atom_map f a)
  state_map (at_threads ls fs ts) = at_threads (snoc_map (location_map f) ls) (snoc_map (routine_map f) fs) (snoc_map (thread_map f) ts)
  state_map (at_thread_arguments h) = at_thread_arguments (thread_head_map h)
  state_map (at_literal_list h) = at_literal_list (thread_head_map h)
  state_map (after_literal h args x) = after_literal (thread_head_map h) args x
  state_map (at_thread_end h args) = at_thread_end (thread_head_map h) args

  mutual
    depth_mapped : (k : Stack N) → depth_of (stack_map k) ≡ depth_of k
    depth_mapped (bottom h) = refl
    depth_mapped (inner k) = inner_depth_mapped k

    inner_depth_mapped : (k : Frame N) → inner_depth (frame_map k) ≡ inner_depth k
    inner_depth_mapped (in_yes k xs w a) = ap suc (depth_mapped k)
    inner_depth_mapped (in_no k xs w a first) = ap suc (depth_mapped k)
    inner_depth_mapped (in_body k xs w a) = ap suc (depth_mapped k)

  after_name_mapped : (u : NameUse N) (n : N) → after_name (name_use_map u) (f n) ≡ state_map (after_name u n)
  after_name_mapped (of_location ls kind) n = refl
  after_name_mapped (of_function ls fs) n = refl
  after_name_mapped (of_parameter o ps) n = refl
  after_name_mapped (of_register o ps rs) n = refl
  after_name_mapped (stored k xs w o) n = refl
  after_name_mapped (loaded k xs r o) n = refl
  after_name_mapped (updated u o) n = refl
  after_name_mapped (called k xs r) n = refl
  after_name_mapped (of_thread ls fs ts w) n = refl

  after_atom_mapped : (u : AtomUse N) (a : RawAtom N) → after_atom (atom_use_map u) (atom_map f a) ≡ state_map (after_atom u a)
  after_atom_mapped (printed k xs w) a = refl
  after_atom_mapped (chosen k xs w) a = refl
  after_atom_mapped (repeated k xs w) a = refl
  after_atom_mapped (second_of k xs r a op) b = refl
  after_atom_mapped (value_of k xs w o x) a = refl
  after_atom_mapped (operand_of (updating k xs r w) o y) a = refl
  after_atom_mapped (operand_of (comparing k xs r) o y) a = refl
  after_atom_mapped (new_of k xs r o y a) b = refl
  after_atom_mapped (argument_of k xs r g args) a = refl
  after_atom_mapped (returned h xs) a = refl
  after_atom_mapped (assigned k xs r) a = refl

  after_literal_mapped : (u : LiteralUse N) (x : Literal) → after_literal_of (literal_use_map u) x ≡ state_map (after_literal_of u x)
  after_literal_mapped (of_location_value ls kind n) x = refl
  after_literal_mapped (of_thread_argument h args) x = refl

  close_mapped : (k : Stack N) (xs : Trees N) → close (stack_map k) (trees_map f xs) ≡ move_map state_map (close k xs)
  close_mapped (bottom h) xs = refl
  close_mapped (inner (in_yes k ys w a)) xs = refl
  close_mapped (inner (in_no k ys w a first)) xs = refl
  close_mapped (inner (in_body k ys w a)) xs = refl

  leave_mapped : (k : Stack N) (xs : Trees N) → leave (stack_map k) (trees_map f xs) ≡ move_map state_map (leave k xs)
  leave_mapped (bottom h) xs = refl
  leave_mapped (inner k) xs = refl

  atom_mapped : (u : AtomUse N) (x : Terminal N) → from_atom (atom_use_map u) (terminal_map f x) ≡ move_map state_map (from_atom u x)
  atom_mapped u (t.Operator Sub) = refl
  atom_mapped u (t.Name n) = ap (shift None) (after_atom_mapped u (Named n))
  atom_mapped u (t.Number n) = ap (shift (past 9223372036854775807 n)) (after_atom_mapped u (Constant (Positive n)))
  atom_mapped u _ = refl

  literal_mapped : (u : LiteralUse N) (x : Terminal N) → from_literal (literal_use_map u) (terminal_map f x) ≡ move_map state_map (from_literal u x)
  literal_mapped u (t.Operator Sub) = refl
  literal_mapped u (t.Number n) = ap (shift (past 9223372036854775807 n)) (after_literal_mapped u (Positive n))
  literal_mapped u _ = refl

  ready_mapped : (k : Stack N) (xs : Trees N) (x : Terminal N) → from_ready (stack_map k) (trees_map f xs) (terminal_map f x) ≡ move_map state_map (from_ready k xs x)
  ready_mapped k xs t.Close = close_mapped k xs
  ready_mapped k xs t.Return = leave_mapped k xs
  ready_mapped k xs _ = refl

  threads_mapped : (ls : Snoc (RawLocation N)) (fs : Snoc (Routine N)) (ts : Snoc (Thread N)) (x : Terminal N) → from_threads (snoc_map (location_map f) ls) (snoc_map (routine_map f) fs) (snoc_map (thread_map f) ts) (terminal_map f x) ≡ move_map state_map (from_threads ls fs ts x)
  threads_mapped ls fs ts (t.Thread w) = refl
  threads_mapped ls fs ts _ = refl

  functions_mapped : (ls : Snoc (RawLocation N)) (fs : Snoc (Routine N)) (x : Terminal N) → from_functions (snoc_map (location_map f) ls) (snoc_map (routine_map f) fs) (terminal_map f x) ≡ move_map state_map (from_functions ls fs x)
  functions_mapped ls fs t.Fn = refl
  functions_mapped ls fs x = threads_mapped ls fs empty x

  step_mapped : (s : ReaderState N) (x : Terminal N) → step (state_map s) (terminal_map f x) ≡ move_map state_map (step s x)
  step_mapped begin t.Il = refl
  step_mapped begin _ = refl
  step_mapped at_version t.Version = refl
  step_mapped at_version _ = refl
  step_mapped (at_locations ls) t.Na = refl
  step_mapped (at_locations ls) t.Atomic = refl
  step_mapped (at_locations ls) x = functions_mapped ls empty x
  step_mapped (at_name u) (t.Name n) = ap (shift None) (after_name_mapped u n)
  step_mapped (at_name u) _ = refl
  step_mapped (at_location_equals ls kind n) t.Equals = refl
  step_mapped (at_location_equals ls kind n) _ = refl
  step_mapped (at_literal u) x = literal_mapped u x
  step_mapped (at_literal_magnitude u) (t.Number n) = ap (shift (past 9223372036854775808 n)) (after_literal_mapped u (Negative n))
  step_mapped (at_literal_magnitude u) _ = refl
  step_mapped (at_location_end ls l) t.Semicolon = refl
  step_mapped (at_location_end ls l) _ = refl
  step_mapped (at_functions ls fs) x = functions_mapped ls fs x
  step_mapped (at_parameters o) t.LeftParen = refl
  step_mapped (at_parameters o) _ = refl
  step_mapped (at_parameter_list o) t.RightParen = refl
  step_mapped (at_parameter_list o) (t.Name n) = refl
  step_mapped (at_parameter_list o) _ = refl
  step_mapped (after_parameter o ps p) t.Comma = refl
  step_mapped (after_parameter o ps p) t.RightParen = refl
  step_mapped (after_parameter o ps p) _ = refl
  step_mapped (at_body o ps) t.Open = refl
  step_mapped (at_body o ps) _ = refl
  step_mapped (at_registers o ps) t.Reg = refl
  step_mapped (at_registers o ps) x = ready_mapped (bottom (head o ps empty)) no_tree x
  step_mapped (after_register o ps rs r) t.Comma = refl
  step_mapped (after_register o ps rs r) t.Semicolon = refl
  step_mapped (after_register o ps rs r) _ = refl
  step_mapped (ready k xs) x = ready_mapped k xs x
  step_mapped (at_semicolon k xs s) t.Semicolon = refl
  step_mapped (at_semicolon k xs s) _ = refl
  step_mapped (at_equals k xs r) t.Equals = refl
  step_mapped (at_equals k xs r) (t.FenceOrder o v) = refl
  step_mapped (at_equals k xs r) _ = refl
  step_mapped (at_right k xs r) t.Load = refl
  step_mapped (at_right k xs r) t.Add = refl
  step_mapped (at_right k xs r) t.Swap = refl
  step_mapped (at_right k xs r) t.Cas = refl
  step_mapped (at_right k xs r) t.Call = refl
  step_mapped (at_right k xs r) x = atom_mapped (assigned k xs r) x
  step_mapped (at_atom u) x = atom_mapped u x
  step_mapped (at_magnitude u) (t.Number n) = ap (shift (past 9223372036854775808 n)) (after_atom_mapped u (Constant (Negative n)))
  step_mapped (at_magnitude u) _ = refl
  step_mapped (after_operand k xs r a) t.Semicolon = refl
  step_mapped (after_operand k xs r a) (t.Operator op) = refl
  step_mapped (after_operand k xs r a) _ = refl
  step_mapped (at_store k xs w) (t.OrderWord o v) = refl
  step_mapped (at_store k xs w) (t.Name x) = refl
  step_mapped (at_store k xs w) _ = refl
  step_mapped (at_store_comma k xs w o x) t.Comma = refl
  step_mapped (at_store_comma k xs w o x) _ = refl
  step_mapped (at_load k xs r) (t.OrderWord o v) = refl
  step_mapped (at_load k xs r) (t.Name x) = refl
  step_mapped (at_load k xs r) _ = refl
  step_mapped (at_update_order u) (t.OrderWord o v) = refl
  step_mapped (at_update_order u) _ = refl
  step_mapped (at_update_comma u o y) t.Comma = refl
  step_mapped (at_update_comma u o y) _ = refl
  step_mapped (at_cas_comma k xs r o y a) t.Comma = refl
  step_mapped (at_cas_comma k xs r o y a) _ = refl
  step_mapped (at_arguments k xs r g) t.LeftParen = refl
  step_mapped (at_arguments k xs r g) _ = refl
  step_mapped (at_argument_list k xs r g) t.RightParen = refl
  step_mapped (at_argument_list k xs r g) x = atom_mapped (argument_of k xs r g empty) x
  step_mapped (after_argument k xs r g args a) t.Comma = refl
  step_mapped (after_argument k xs r g args a) t.RightParen = refl
  step_mapped (after_argument k xs r g args a) _ = refl
  step_mapped (at_block k) t.Open = ap (λ d. shift (past_depth d) (ready (inner (frame_map k)) no_tree)) (inner_depth_mapped k)
  step_mapped (at_block k) _ = refl
  step_mapped (after_yes k xs w a first) t.Else = refl
  step_mapped (after_yes k xs w a first) x = ready_mapped k (add_tree xs (choice w a first)) x
  step_mapped (at_return_end h xs a) t.Semicolon = refl
  step_mapped (at_return_end h xs a) _ = refl
  step_mapped (at_function_close h xs a) t.Close = refl
  step_mapped (at_function_close h xs a) _ = refl
  step_mapped (at_threads ls fs ts) x = threads_mapped ls fs ts x
  step_mapped (at_thread_arguments h) t.LeftParen = refl
  step_mapped (at_thread_arguments h) _ = refl
  step_mapped (at_literal_list h) t.RightParen = refl
  step_mapped (at_literal_list h) x = literal_mapped (of_thread_argument h empty) x
  step_mapped (after_literal h args x) t.Comma = refl
  step_mapped (after_literal h args x) t.RightParen = refl
  step_mapped (after_literal h args x) _ = refl
  step_mapped (at_thread_end h args) t.Semicolon = refl
  step_mapped (at_thread_end h args) _ = refl

  finish_mapped : (s : ReaderState N) → finish (state_map s) ≡ finish_map (text_map f) (finish s)
  finish_mapped (at_locations ls) = refl
  finish_mapped (at_functions ls fs) = refl
  finish_mapped (at_threads ls fs ts) = refl
  finish_mapped _ = refl

  -- the answer for other names is the answer, with other names in it
  pub answer_renamed : (ts : List (Terminal N)) → answer begin (map (terminal_map f) ts) ≡ answer_map (text_map f) (answer begin ts)
  answer_renamed ts = answer_mapped step finish step finish state_map (text_map f) (terminal_map f) P3 step_mapped finish_mapped ts begin

  -- a name of the first sort makes each state go on
  module _ (any : N) where
    tree_found : (ts : List (Terminal N)) (tree : TextTree M) (r : Result (TextTree N) (Fault Rule)) → r ≡ answer begin ts → answer_map (text_map f) r ≡ Ok tree → (xs : TextTree N) × Spells spelling ts xs × (text_map f xs ≡ tree)
    tree_found ts tree (Ok xs) is e = (xs, answer_spells P3 (reads any) ts xs (sym is), cc)
    tree_found ts tree (Err fault) is e = absurd (cc)

    -- tokens that, with their names read so, spell a tree, spell one that is it
    pub spelled_before : (ts : List (Terminal N)) (tree : TextTree M) → Spells spelling (map (terminal_map f) ts) tree → (xs : TextTree N) × Spells spelling ts xs × (text_map f xs ≡ tree)
    spelled_before ts tree spells =
        tree_found ts tree (answer begin ts) refl (sym (answer_renamed ts) ∙ spells_answer P3 (reads (f any)) (map (terminal_map f) ts) tree spells)

    -- and the other way round
    pub spelled_after : (ts : List (Terminal N)) (xs : TextTree N) → Spells spelling ts xs → Spells spelling (map (terminal_map f) ts) (text_map f xs)
    spelled_after ts xs spells =
        answer_spells P3 (reads (f any)) (map (terminal_map f) ts) (text_map f xs) (answer_renamed ts ∙ ap (answer_map (text_map f)) (spells_answer P3 (reads any) ts xs spells))
