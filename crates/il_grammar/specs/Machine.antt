-- A machine that reads the grammar: what may come next, token by token. A device of proofs; what
-- texts mean is said by the grammar alone.
use Rattle.std.specs.Prelude.{ℕ, suc, List, Bool, true, false, Option, Some, None, Result}
use Rattle.values_undef.specs.declared.arithmetic.Op.{Op}
use Rattle.values_undef.specs.declared.arithmetic.Op.TheVariants.{Sub}
use Rattle.token_machine.specs.declared.fault.Fault.{Fault}
use Rattle.token_machine.specs.Machine.{Move, reject, shift, read_from}
use Rattle.il_grammar.specs.declared.rule.Rule.{Rule}
use Rattle.il_grammar.specs.declared.rule.Rule.TheVariants.{P3}
use Rattle.il_grammar.specs.declared.terminal.Terminal.{Terminal}
use Rattle.il_grammar.specs.declared.terminal.Terminal.TheVariants as t
use Rattle.il_grammar.specs.declared.syntax.Literal.{Literal}
use Rattle.il_grammar.specs.declared.syntax.Literal.TheVariants.{Positive, Negative}
use Rattle.il_grammar.specs.declared.syntax.RawAtom.{RawAtom}
use Rattle.il_grammar.specs.declared.syntax.RawAtom.TheVariants.{Constant, Named}
use Rattle.il_grammar.specs.declared.syntax.RawOrder.{RawOrder}
use Rattle.il_grammar.specs.declared.syntax.RawUpdate.{RawUpdate}
use Rattle.il_grammar.specs.declared.syntax.RawUpdate.TheVariants.{Add as Adding, Swap as Swapping}
use Rattle.il_grammar.specs.declared.syntax.RawLocation.{RawLocation}
use Rattle.il_grammar.specs.Grammar.{Snoc, empty, append, Simple, skip, store, fence, print, copy, compute, load, update, cas, call, Tree, simply, choice, choice_else, repeat, Trees, no_tree, add_tree, Routine, Thread, TextTree, past, past_depth}

-- what stands before the function that is read, with its name
pub record Opening (N : Type 0) : Type 0 where
  pub locations : Snoc (RawLocation N)
  pub functions : Snoc (Routine N)
  pub name : N

-- a function whose body is read, with what stands before it
pub record ReaderHead (N : Type 0) : Type 0 where
  pub opening : Opening N
  pub parameters : Snoc N
  pub registers : Snoc N

-- what stands before the thread that is read, with its word and function
pub record ThreadHead (N : Type 0) : Type 0 where
  pub locations : Snoc (RawLocation N)
  pub functions : Snoc (Routine N)
  pub threads : Snoc (Thread N)
  pub word : N
  pub function : N

-- the blocks that are open, each with what stands before it
mutual
  pub data Stack (N : Type 0) : Type 0 where
    bottom : ReaderHead N → Stack N
    inner : Frame N → Stack N

  pub data Frame (N : Type 0) : Type 0 where
    in_yes : Stack N → Trees N → N → RawAtom N → Frame N
    in_no : Stack N → Trees N → N → RawAtom N → Trees N → Frame N
    in_body : Stack N → Trees N → N → RawAtom N → Frame N

-- which update is read, with its register
pub data UpdateUse (N : Type 0) : Type 0 where
  updating : Stack N → Trees N → N → RawUpdate → UpdateUse N
  comparing : Stack N → Trees N → N → UpdateUse N

-- whose name is read
pub data NameUse (N : Type 0) : Type 0 where
  of_location : Snoc (RawLocation N) → Bool → NameUse N
  of_function : Snoc (RawLocation N) → Snoc (Routine N) → NameUse N
  of_parameter : Opening N → Snoc N → NameUse N
  of_register : Opening N → Snoc N → Snoc N → NameUse N
  stored : Stack N → Trees N → N → RawOrder N → NameUse N
  loaded : Stack N → Trees N → N → RawOrder N → NameUse N
  updated : UpdateUse N → RawOrder N → NameUse N
  called : Stack N → Trees N → N → NameUse N
  of_thread : Snoc (RawLocation N) → Snoc (Routine N) → Snoc (Thread N) → N → NameUse N

-- whose atom is read
pub data AtomUse (N : Type 0) : Type 0 where
  printed : Stack N → Trees N → N → AtomUse N
  chosen : Stack N → Trees N → N → AtomUse N
  repeated : Stack N → Trees N → N → AtomUse N
  second_of : Stack N → Trees N → N → RawAtom N → Op → AtomUse N
  value_of : Stack N → Trees N → N → Option (RawOrder N) → N → AtomUse N
  operand_of : UpdateUse N → RawOrder N → N → AtomUse N
  new_of : Stack N → Trees N → N → RawOrder N → N → RawAtom N → AtomUse N
  argument_of : Stack N → Trees N → N → N → Snoc (RawAtom N) → AtomUse N
  returned : ReaderHead N → Trees N → AtomUse N
  assigned : Stack N → Trees N → N → AtomUse N

-- whose literal is read
pub data LiteralUse (N : Type 0) : Type 0 where
  of_location_value : Snoc (RawLocation N) → Bool → N → LiteralUse N
  of_thread_argument : ThreadHead N → Snoc Literal → LiteralUse N

pub data ReaderState (N : Type 0) : Type 0 where
  begin : ReaderState N
  at_version : ReaderState N
  at_locations : Snoc (RawLocation N) → ReaderState N
  at_name : NameUse N → ReaderState N
  at_location_equals : Snoc (RawLocation N) → Bool → N → ReaderState N
  at_literal : LiteralUse N → ReaderState N
  at_literal_magnitude : LiteralUse N → ReaderState N
  at_location_end : Snoc (RawLocation N) → RawLocation N → ReaderState N
  at_functions : Snoc (RawLocation N) → Snoc (Routine N) → ReaderState N
  at_parameters : Opening N → ReaderState N
  at_parameter_list : Opening N → ReaderState N
  after_parameter : Opening N → Snoc N → N → ReaderState N
  at_body : Opening N → Snoc N → ReaderState N
  at_registers : Opening N → Snoc N → ReaderState N
  after_register : Opening N → Snoc N → Snoc N → N → ReaderState N
  ready : Stack N → Trees N → ReaderState N
  at_semicolon : Stack N → Trees N → Simple N → ReaderState N
  at_equals : Stack N → Trees N → N → ReaderState N
  at_right : Stack N → Trees N → N → ReaderState N
  at_atom : AtomUse N → ReaderState N
  at_magnitude : AtomUse N → ReaderState N
  after_operand : Stack N → Trees N → N → RawAtom N → ReaderState N
  at_store : Stack N → Trees N → N → ReaderState N
  at_store_comma : Stack N → Trees N → N → Option (RawOrder N) → N → ReaderState N
  at_load : Stack N → Trees N → N → ReaderState N
  at_update_order : UpdateUse N → ReaderState N
  at_update_comma : UpdateUse N → RawOrder N → N → ReaderState N
  at_cas_comma : Stack N → Trees N → N → RawOrder N → N → RawAtom N → ReaderState N
  at_arguments : Stack N → Trees N → N → N → ReaderState N
  at_argument_list : Stack N → Trees N → N → N → ReaderState N
  after_argument : Stack N → Trees N → N → N → Snoc (RawAtom N) → RawAtom N → ReaderState N
  at_block : Frame N → ReaderState N
  after_yes : Stack N → Trees N → N → RawAtom N → Trees N → ReaderState N
  at_return_end : ReaderHead N → Trees N → RawAtom N → ReaderState N
  at_function_close : ReaderHead N → Trees N → RawAtom N → ReaderState N
  at_threads : Snoc (RawLocation N) → Snoc (Routine N) → Snoc (Thread N) → ReaderState N
  at_thread_arguments : ThreadHead N → ReaderState N
  at_literal_list : ThreadHead N → ReaderState N
  after_literal : ThreadHead N → Snoc Literal → Literal → ReaderState N
  at_thread_end : ThreadHead N → Snoc Literal → ReaderState N

module _ {N : Type 0} where
  abbrev pub opening : Snoc (RawLocation N) → Snoc (Routine N) → N → Opening N
  opening ls fs n = record { locations = ls; functions = fs; name = n }

  abbrev pub head : Opening N → Snoc N → Snoc N → ReaderHead N
  head o ps rs = record { opening = o; parameters = ps; registers = rs }

  abbrev pub thread_head : Snoc (RawLocation N) → Snoc (Routine N) → Snoc (Thread N) → N → N → ThreadHead N
  thread_head ls fs ts w n = record { locations = ls; functions = fs; threads = ts; word = w; function = n }

  abbrev pub finished : ReaderHead N → Trees N → RawAtom N → Routine N
  finished h xs a = record { name = h.opening.name; parameters = h.parameters; registers = h.registers; body = xs; result = a }

  abbrev pub finished_thread : ThreadHead N → Snoc Literal → Thread N
  finished_thread h args = record { word = h.word; function = h.function; arguments = args }

  abbrev pub text_tree : Snoc (RawLocation N) → Snoc (Routine N) → Snoc (Thread N) → TextTree N
  text_tree ls fs ts = record { locations = ls; functions = fs; threads = ts }

  abbrev mutual
    pub depth_of : Stack N → ℕ
    depth_of (bottom h) = 0
    depth_of (inner f) = inner_depth f

    pub inner_depth : Frame N → ℕ
    inner_depth (in_yes k xs w a) = suc (depth_of k)
    inner_depth (in_no k xs w a first) = suc (depth_of k)
    inner_depth (in_body k xs w a) = suc (depth_of k)

  abbrev pub after_name : NameUse N → N → ReaderState N
  after_name (of_location ls kind) n = at_location_equals ls kind n
  after_name (of_function ls fs) n = at_parameters (opening ls fs n)
  after_name (of_parameter o ps) n = after_parameter o ps n
  after_name (of_register o ps rs) n = after_register o ps rs n
  after_name (stored k xs w o) n = at_store_comma k xs w (Some o) n
  after_name (loaded k xs r o) n = at_semicolon k xs (load r (Some o) n)
  after_name (updated u o) n = at_update_comma u o n
  after_name (called k xs r) n = at_arguments k xs r n
  after_name (of_thread ls fs ts w) n = at_thread_arguments (thread_head ls fs ts w n)

  abbrev pub after_operand_of : UpdateUse N → RawOrder N → N → RawAtom N → ReaderState N
  after_operand_of (updating k xs r w) o y a = at_semicolon k xs (update r w o y a)
  after_operand_of (comparing k xs r) o y a = at_cas_comma k xs r o y a

  abbrev pub after_atom : AtomUse N → RawAtom N → ReaderState N
  after_atom (printed k xs w) a = at_semicolon k xs (print w a)
  after_atom (chosen k xs w) a = at_block (in_yes k xs w a)
  after_atom (repeated k xs w) a = at_block (in_body k xs w a)
  after_atom (second_of k xs r a op) b = at_semicolon k xs (compute r a op b)
  after_atom (value_of k xs w o x) a = at_semicolon k xs (store w o x a)
  after_atom (operand_of u o y) a = after_operand_of u o y a
  after_atom (new_of k xs r o y a) b = at_semicolon k xs (cas r o y a b)
  after_atom (argument_of k xs r g args) a = after_argument k xs r g args a
  after_atom (returned h xs) a = at_return_end h xs a
  after_atom (assigned k xs r) a = after_operand k xs r a

  abbrev pub after_literal_of : LiteralUse N → Literal → ReaderState N
  after_literal_of (of_location_value ls kind n) x = at_location_end ls (record { is_atomic = kind; name = n; value = x })
  after_literal_of (of_thread_argument h args) x = after_literal h args x

  abbrev pub close_block : Frame N → Trees N → ReaderState N
  close_block (in_yes k xs w a) first = after_yes k xs w a first
  close_block (in_no k xs w a first) second = ready k (add_tree xs (choice_else w a first second))
  close_block (in_body k xs w a) body = ready k (add_tree xs (repeat w a body))

  abbrev pub close : Stack N → Trees N → Move Rule (ReaderState N)
  close (bottom h) xs = reject
  close (inner f) xs = shift None (close_block f xs)

  abbrev pub leave : Stack N → Trees N → Move Rule (ReaderState N)
  leave (bottom h) xs = shift None (at_atom (returned h xs))
  leave (inner f) xs = reject

  -- where an atom may come
  abbrev pub from_atom : AtomUse N → Terminal N → Move Rule (ReaderState N)
  from_atom u (t.Operator Sub) = shift None (at_magnitude u)
  from_atom u (t.Name n) = shift None (after_atom u (Named n))
  from_atom u (t.Number n) = shift (past 9223372036854775807 n) (after_atom u (Constant (Positive n)))
  from_atom u _ = reject

  abbrev pub from_literal : LiteralUse N → Terminal N → Move Rule (ReaderState N)
  from_literal u (t.Operator Sub) = shift None (at_literal_magnitude u)
  from_literal u (t.Number n) = shift (past 9223372036854775807 n) (after_literal_of u (Positive n))
  from_literal u _ = reject

  abbrev pub from_ready : Stack N → Trees N → Terminal N → Move Rule (ReaderState N)
  from_ready k xs (t.Skip w) = shift None (at_semicolon k xs (skip w))
  from_ready k xs (t.Store w) = shift None (at_store k xs w)
  from_ready k xs (t.Print w) = shift None (at_atom (printed k xs w))
  from_ready k xs (t.If w) = shift None (at_atom (chosen k xs w))
  from_ready k xs (t.While w) = shift None (at_atom (repeated k xs w))
  from_ready k xs (t.Name r) = shift None (at_equals k xs r)
  from_ready k xs t.Close = close k xs
  from_ready k xs t.Return = leave k xs
  from_ready k xs _ = reject

  abbrev pub from_threads : Snoc (RawLocation N) → Snoc (Routine N) → Snoc (Thread N) → Terminal N → Move Rule (ReaderState N)
  from_threads ls fs ts (t.Thread w) = shift None (at_name (of_thread ls fs ts w))
  from_threads ls fs ts _ = reject

  abbrev pub from_functions : Snoc (RawLocation N) → Snoc (Routine N) → Terminal N → Move Rule (ReaderState N)
  from_functions ls fs t.Fn = shift None (at_name (of_function ls fs))
  from_functions ls fs other = from_threads ls fs empty other

  abbrev pub step : ReaderState N → Terminal N → Move Rule (ReaderState N)
  step begin t.Il = shift None at_version
  step begin _ = reject
  step at_version t.Version = shift None (at_locations empty)
  step at_version _ = reject
  step (at_locations ls) t.Na = shift None (at_name (of_location ls false))
  step (at_locations ls) t.Atomic = shift None (at_name (of_location ls true))
  step (at_locations ls) other = from_functions ls empty other
  step (at_name u) (t.Name n) = shift None (after_name u n)
  step (at_name u) _ = reject
  step (at_location_equals ls kind n) t.Equals = shift None (at_literal (of_location_value ls kind n))
  step (at_location_equals ls kind n) _ = reject
  step (at_literal u) other = from_literal u other
  step (at_literal_magnitude u) (t.Number n) = shift (past 9223372036854775808 n) (after_literal_of u (Negative n))
  step (at_literal_magnitude u) _ = reject
  step (at_location_end ls l) t.Semicolon = shift None (at_locations (append ls l))
  step (at_location_end ls l) _ = reject
  step (at_functions ls fs) other = from_functions ls fs other
  step (at_parameters o) t.LeftParen = shift None (at_parameter_list o)
  step (at_parameters o) _ = reject
  step (at_parameter_list o) t.RightParen = shift None (at_body o empty)
  step (at_parameter_list o) (t.Name n) = shift None (after_parameter o empty n)
  step (at_parameter_list o) _ = reject
  step (after_parameter o ps p) t.Comma = shift None (at_name (of_parameter o (append ps p)))
  step (after_parameter o ps p) t.RightParen = shift None (at_body o (append ps p))
  step (after_parameter o ps p) _ = reject
  step (at_body o ps) t.Open = shift None (at_registers o ps)
  step (at_body o ps) _ = reject
  step (at_registers o ps) t.Reg = shift None (at_name (of_register o ps empty))
  step (at_registers o ps) other = from_ready (bottom (head o ps empty)) no_tree other
  step (after_register o ps rs r) t.Comma = shift None (at_name (of_register o ps (append rs r)))
  step (after_register o ps rs r) t.Semicolon = shift None (ready (bottom (head o ps (append rs r))) no_tree)
  step (after_register o ps rs r) _ = reject
  step (ready k xs) other = from_ready k xs other
  step (at_semicolon k xs x) t.Semicolon = shift None (ready k (add_tree xs (simply x)))
  step (at_semicolon k xs x) _ = reject
  step (at_equals k xs r) t.Equals = shift None (at_right k xs r)
  step (at_equals k xs r) (t.FenceOrder o v) = shift None (at_semicolon k xs (fence r (record { order = o; word = v })))
  step (at_equals k xs r) _ = reject
  step (at_right k xs r) t.Load = shift None (at_load k xs r)
  step (at_right k xs r) t.Add = shift None (at_update_order (updating k xs r Adding))
  step (at_right k xs r) t.Swap = shift None (at_update_order (updating k xs r Swapping))
  step (at_right k xs r) t.Cas = shift None (at_update_order (comparing k xs r))
  step (at_right k xs r) t.Call = shift None (at_name (called k xs r))
  step (at_right k xs r) other = from_atom (assigned k xs r) other
  step (at_atom u) other = from_atom u other
  step (at_magnitude u) (t.Number n) = shift (past 9223372036854775808 n) (after_atom u (Constant (Negative n)))
  step (at_magnitude u) _ = reject
  step (after_operand k xs r a) t.Semicolon = shift None (ready k (add_tree xs (simply (copy r a))))
  step (after_operand k xs r a) (t.Operator op) = shift None (at_atom (second_of k xs r a op))
  step (after_operand k xs r a) _ = reject
  step (at_store k xs w) (t.OrderWord o v) = shift None (at_name (stored k xs w (record { order = o; word = v })))
  step (at_store k xs w) (t.Name x) = shift None (at_store_comma k xs w None x)
  step (at_store k xs w) _ = reject
  step (at_store_comma k xs w o x) t.Comma = shift None (at_atom (value_of k xs w o x))
  step (at_store_comma k xs w o x) _ = reject
  step (at_load k xs r) (t.OrderWord o v) = shift None (at_name (loaded k xs r (record { order = o; word = v })))
  step (at_load k xs r) (t.Name x) = shift None (at_semicolon k xs (load r None x))
  step (at_load k xs r) _ = reject
  step (at_update_order u) (t.OrderWord o v) = shift None (at_name (updated u (record { order = o; word = v })))
  step (at_update_order u) _ = reject
  step (at_update_comma u o y) t.Comma = shift None (at_atom (operand_of u o y))
  step (at_update_comma u o y) _ = reject
  step (at_cas_comma k xs r o y a) t.Comma = shift None (at_atom (new_of k xs r o y a))
  step (at_cas_comma k xs r o y a) _ = reject
  step (at_arguments k xs r g) t.LeftParen = shift None (at_argument_list k xs r g)
  step (at_arguments k xs r g) _ = reject
  step (at_argument_list k xs r g) t.RightParen = shift None (at_semicolon k xs (call r g empty))
  step (at_argument_list k xs r g) other = from_atom (argument_of k xs r g empty) other
  step (after_argument k xs r g args a) t.Comma = shift None (at_atom (argument_of k xs r g (append args a)))
  step (after_argument k xs r g args a) t.RightParen = shift None (at_semicolon k xs (call r g (append args a)))
  step (after_argument k xs r g args a) _ = reject
  step (at_block f) t.Open = shift (past_depth (inner_depth f)) (ready (inner f) no_tree)
  step (at_block f) _ = reject
  step (after_yes k xs w a first) t.Else = shift None (at_block (in_no k xs w a first))
  step (after_yes k xs w a first) other = from_ready k (add_tree xs (choice w a first)) other
  step (at_return_end h xs a) t.Semicolon = shift None (at_function_close h xs a)
  step (at_return_end h xs a) _ = reject
  step (at_function_close h xs a) t.Close = shift None (at_functions h.opening.locations (append h.opening.functions (finished h xs a)))
  step (at_function_close h xs a) _ = reject
  step (at_threads ls fs ts) other = from_threads ls fs ts other
  step (at_thread_arguments h) t.LeftParen = shift None (at_literal_list h)
  step (at_thread_arguments h) _ = reject
  step (at_literal_list h) t.RightParen = shift None (at_thread_end h empty)
  step (at_literal_list h) other = from_literal (of_thread_argument h empty) other
  step (after_literal h args x) t.Comma = shift None (at_literal (of_thread_argument h (append args x)))
  step (after_literal h args x) t.RightParen = shift None (at_thread_end h (append args x))
  step (after_literal h args x) _ = reject
  step (at_thread_end h args) t.Semicolon = shift None (at_threads h.locations h.functions (append h.threads (finished_thread h args)))
  step (at_thread_end h args) _ = reject

  -- the tree, where a text may end
  abbrev pub finish : ReaderState N → Option (TextTree N)
  finish (at_locations ls) = Some (text_tree ls empty empty)
  finish (at_functions ls fs) = Some (text_tree ls fs empty)
  finish (at_threads ls fs ts) = Some (text_tree ls fs ts)
  finish _ = None

  -- the answer from a state on: the tree, or the first fault
  abbrev pub answer : ReaderState N → List (Terminal N) → Result (TextTree N) (Fault Rule)
  answer = read_from step finish P3
