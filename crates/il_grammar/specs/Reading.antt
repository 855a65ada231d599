-- What a reading function answers, as trees.
use Rattle.std.specs.Prelude.{◌≡◌, ℕ, Bool, true, false, List, [], ◌∷◌, length, map, Option, Some, None, Result, Ok, Err}
use Rattle.token_machine.specs.declared.fault.Fault.{Fault}
use Rattle.il_grammar.specs.declared.rule.Rule.{Rule}
use Rattle.il_grammar.specs.declared.rule.Rule.TheVariants.{P3}
use Rattle.il_grammar.specs.declared.terminal.Terminal.{Terminal}
use Rattle.il_grammar.specs.declared.terminal.Terminal.TheVariants as t
use Rattle.il_grammar.specs.declared.syntax.Span.{Span}
use Rattle.il_grammar.specs.declared.syntax.RawAtom.{RawAtom}
use Rattle.il_grammar.specs.declared.syntax.RawSimple.{RawSimple}
use Rattle.il_grammar.specs.declared.syntax.RawSimple.TheVariants as raw
use Rattle.il_grammar.specs.declared.syntax.RawStatement.{RawStatement}
use Rattle.il_grammar.specs.declared.syntax.RawStatement.TheOpen.{RawStatement-F}
use Rattle.il_grammar.specs.declared.syntax.RawStatement.TheOpen as layer
use Rattle.il_grammar.specs.declared.syntax.RawStatement.TheFolds.{fold-RawStatement}
use Rattle.il_grammar.specs.declared.syntax.RawLocation.{RawLocation}
use Rattle.il_grammar.specs.declared.syntax.RawFunction.{RawFunction}
use Rattle.il_grammar.specs.declared.syntax.RawThread.{RawThread}
use Rattle.il_grammar.specs.declared.syntax.RawText.{RawText}
use Rattle.il_grammar.specs.declared.syntax.Literal.{Literal}
use Rattle.il_grammar.specs.declared.syntax.RawUpdate.TheVariants as updates
use Rattle.il_grammar.specs.declared.leaf.BehindName.{BehindName}
use Rattle.il_grammar.specs.declared.leaf.BehindName.TheVariants as behinds
use Rattle.il_grammar.specs.declared.leaf.RightWord.{RightWord}
use Rattle.il_grammar.specs.declared.leaf.RightWord.TheVariants as words
use Rattle.il_grammar.specs.Machine.{Opening, head, ThreadHead, Stack, bottom, updating, comparing, of_parameter, of_register, called, argument_of, of_thread_argument, ReaderState, at_name, at_literal, at_body, ready, at_semicolon, at_right, at_atom, at_load, at_update_order, at_thread_end}
use Rattle.il_grammar.specs.Grammar.{Snoc, empty, append, Simple, skip, store, fence, print, copy, compute, load, update, cas, call, Tree, simply, choice, choice_else, repeat, Trees, no_tree, add_tree, Routine, Thread, TextTree}

abbrev pub snoc_from : {A : Type 0} → Snoc A → List A → Snoc A
snoc_from xs [] = xs
snoc_from xs (y ∷ ys) = snoc_from (append xs y) ys

abbrev pub snoc : {A : Type 0} → List A → Snoc A
snoc = snoc_from empty

abbrev pub in_order : Trees Span → List (Tree Span) → Trees Span
in_order xs [] = xs
in_order xs (y ∷ ys) = in_order (add_tree xs y) ys

abbrev pub text_block_of : List (Tree Span) → Trees Span
text_block_of = in_order no_tree

abbrev pub simple_of : RawSimple → Simple Span
simple_of (raw.Skip w) = skip w
simple_of (raw.Store w o x a) = store w o x a
simple_of (raw.Fence w o) = fence w o
simple_of (raw.Print w a) = print w a
simple_of (raw.Copy r a) = copy r a
simple_of (raw.Compute r a op b) = compute r a op b
simple_of (raw.Load r o x) = load r o x
simple_of (raw.Update r w o y a) = update r w o y a
simple_of (raw.Cas r o y a b) = cas r o y a b
simple_of (raw.Call r g args) = call r g (snoc args.items)

-- one layer, with the trees of the statements in it
abbrev pub tree_step : RawStatement-F (Tree Span) → Tree Span
tree_step (layer.Simple x) = simply (simple_of x)
tree_step (layer.If w a first) = choice w a (text_block_of first.items)
tree_step (layer.IfElse w a first second) = choice_else w a (text_block_of first.items) (text_block_of second.items)
tree_step (layer.While w a body) = repeat w a (text_block_of body.items)

-- a statement without where it lies in memory
unfoldable pub tree : RawStatement → Tree Span
tree = fold-RawStatement (Tree Span) tree_step

abbrev pub trees : List RawStatement → Trees Span
trees xs = text_block_of (map tree xs)

abbrev pub routine : RawFunction → Routine Span
routine f = record { name = f.name; parameters = snoc f.parameters.items; registers = snoc f.registers.items; body = trees f.body.items; result = f.result }

abbrev pub routines : List RawFunction → Snoc (Routine Span)
routines fs = snoc (map routine fs)

abbrev pub thread_of : RawThread → Thread Span
thread_of x = record { word = x.word; function = x.function; arguments = snoc x.arguments.items }

abbrev pub threads_of : List RawThread → Snoc (Thread Span)
threads_of ts = snoc (map thread_of ts)

-- the tree of a text as it is written
abbrev pub text_tree_of : RawText → TextTree Span
text_tree_of x = record { locations = snoc x.locations.items; functions = routines x.functions.items; threads = threads_of x.threads.items }

-- a simple statement begins here
abbrev pub begins_simple : Terminal Span → Bool
begins_simple (t.Skip w) = true
begins_simple (t.Store w) = true
begins_simple (t.Print w) = true
begins_simple (t.Name r) = true
begins_simple _ = false

abbrev pub begins_statement : List (Terminal Span) → Bool
begins_statement [] = false
begins_statement (t.If w ∷ ts) = true
begins_statement (t.While w ∷ ts) = true
begins_statement (other ∷ ts) = begins_simple other

-- a text ends here, or is refused at what follows
abbrev pub text_end_of : TextTree Span → List (Terminal Span) → Result (TextTree Span) (Fault Rule)
text_end_of p [] = Ok p
text_end_of p (other ∷ ts) = Err (record { rule = P3; left = length (other ∷ ts) })

-- after a name or an atom of a list comes another one, or what stands behind the list
abbrev pub parameter_or_body : Bool → Opening Span → Snoc Span → ReaderState Span
parameter_or_body true o ps = at_name (of_parameter o ps)
parameter_or_body false o ps = at_body o ps

abbrev pub register_or_statement : Bool → Opening Span → Snoc Span → Snoc Span → ReaderState Span
register_or_statement true o ps rs = at_name (of_register o ps rs)
register_or_statement false o ps rs = ready (bottom (head o ps rs)) no_tree

abbrev pub argument_or_end : Bool → Stack Span → Trees Span → Span → Span → Snoc (RawAtom Span) → ReaderState Span
argument_or_end true k xs r g args = at_atom (argument_of k xs r g args)
argument_or_end false k xs r g args = at_semicolon k xs (call r g args)

abbrev pub literal_or_end : Bool → ThreadHead Span → Snoc Literal → ReaderState Span
literal_or_end true h args = at_literal (of_thread_argument h args)
literal_or_end false h args = at_thread_end h args

-- what a word on the right side of an assignment begins
abbrev pub after_right_word : RightWord → Stack Span → Trees Span → Span → ReaderState Span
after_right_word words.Load k xs r = at_load k xs r
after_right_word words.Add k xs r = at_update_order (updating k xs r updates.Add)
after_right_word words.Swap k xs r = at_update_order (updating k xs r updates.Swap)
after_right_word words.Cas k xs r = at_update_order (comparing k xs r)
after_right_word words.Call k xs r = at_name (called k xs r)

-- what comes after what stands behind the name that a statement begins with
abbrev pub after_behind : BehindName → Stack Span → Trees Span → Span → ReaderState Span
after_behind behinds.Equals k xs r = at_right k xs r
after_behind (behinds.Order o) k xs r = at_semicolon k xs (fence r o)
