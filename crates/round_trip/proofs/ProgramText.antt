-- The canonical text of a well-formed program is written as its tree.
use Rattle.std.proofs.Common.{◌≡◌, ℕ, List, [], ◌∷◌, ◌++◌, length, map, take, drop, Bool, true, false, not, cond, nat_lt, refl, sym, ap, ◌∙◌, subst, append_assoc}
use Rattle.std.specs.Prelude.{codes, ℤ}
use Rattle.std.specs.List.{list_all, flat_map}
use Rattle.std.specs.Fmt.{signed_decimal}
use Rattle.std.proofs.lemmas.Bool.{and_parts}
use Rattle.std.proofs.lemmas.List.{map-id, take-append-drop, append-nil, length-map}
use Rattle.token_machine.specs.Text.{plain, tokens_of}
use Rattle.il_syntax.specs.declared.program.Function.{Function}
use Rattle.il_syntax.specs.declared.program.Location.{Location}
use Rattle.il_syntax.specs.declared.program.Start.{Start}
use Rattle.il_syntax.specs.declared.program.Program.{Program}
use Rattle.il_syntax.specs.Name.{is_name}
use Rattle.il_syntax.specs.Text.{line, listed as listed_text, registers_text, location_text, function_text, thread_text, program_text}
use Rattle.il_syntax.specs.WellFormed.{declared_by, params_of, is_signed_64, thread_numbers_exist, thread_arity_agrees}
use Rattle.il_syntax.specs.Checks.{function_fits, thread_fits, values_fit}
use Rattle.il_grammar.specs.declared.terminal.Terminal.{Terminal}
use Rattle.il_grammar.specs.declared.terminal.Terminal.TheVariants as t
use Rattle.il_grammar.specs.Grammar.{Marks, literal, name, listed_if_any, each, location_word, location, registers, function, thread, spelling}
use Rattle.il_grammar.specs.Reading.{snoc}
use Rattle.il_grammar.specs.Grammar.{empty}
use Rattle.il_reader.specs.Text.{WritesNamed}
use Rattle.round_trip.proofs.Laid.{Laid, ended, blank}
use Rattle.round_trip.proofs.Lexed.{is_fence_text, written}
use Rattle.round_trip.proofs.Fenced.{StandRight, text_right}
use Rattle.round_trip.proofs.RightFences.{tree_right}
use Rattle.il_syntax.specs.Fences.{has_no_fence}
use Rattle.round_trip.proofs.Parts.{Spelling, Stops, Closed, Open, closed_closed, closed_open, open_closed, closed_as, nothing, space, on_line, word, named, left_paren, right_paren, open_brace, close_brace, semicolon, equals}
use Rattle.round_trip.proofs.Lists.{all, AllOpen, AllClosed, closed_all, closed_listed, all_each, some_registers}
use Rattle.round_trip.proofs.Written.{written_number, written_location, written_function, written_thread, written_locations, written_tree}
use Rattle.round_trip.proofs.Fits.{all_in_both}
use Rattle.round_trip.proofs.StatementTexts.{number_text, name_text, HasNames, atom_part, statements_text_read}
use Rattle.il_syntax.proofs.Callers.{WellFormedFacts, FunctionFacts, function_facts, declarable_names, free_names}

-- names with commas between them

names_open : (xs : List (List ℕ)) → list_all is_name xs ≡ true → AllOpen (λ x. x) (λ x. x) name xs
names_open [] e = tt
names_open (x ∷ xs) e = let parts = and_parts (is_name x) (list_all is_name xs) e in (named x parts.0, names_open xs parts.1)

names_listed : {after : List ℕ} {f : Spelling} (xs : List (List ℕ)) → list_all is_name xs ≡ true → Stops after → Closed after f → Closed (listed_text xs ++ after) (λ ms. listed_if_any name (snoc xs) (f ms))
names_listed {after} {f} xs e stops end =
    subst (λ ys. Closed (listed_text ys ++ after) (λ ms. listed_if_any name (snoc ys) (f ms))) (map-id xs)
    (closed_listed (λ x. x) (λ x. x) name xs (names_open xs e) stops end)

-- a list between what comes before and after it
around : {front : List ℕ} (middle after : List ℕ) {f g : Spelling} → Closed front f → Closed (middle ++ after) g → Closed (front ++ middle ++ after) (λ ms. f (g ms))
around {front} middle after {f} {g} one other = subst (λ bytes. Closed bytes (λ ms. f (g ms))) (sym (append_assoc front middle after)) (closed_closed one other)

-- a word of the language, and a blank
spaced : (text : List ℕ) {x : Terminal (List ℕ)} → Open text (λ ms. plain x ∷ ms) → Closed (text ++ codes " ") (λ ms. plain x ∷ ms)
spaced text o = open_closed o refl space

-- locations

location_read : (sort : List ℕ) (is_atomic : Bool) (l : Location) → Open sort (λ ms. location_word is_atomic ∷ ms) → is_name l.name ≡ true → is_signed_64 l.value ≡ true → Closed (location_text sort l) (location (written_location is_atomic l))
unfolding location_text
location_read sort is_atomic l o is fits =
    on_line 0 (open_closed (closed_open (open_closed (closed_open (open_closed o refl space) (named l.name is)) refl equals) (number_text l.value fits)) refl semicolon)

locations_read : (sort : List ℕ) (is_atomic : Bool) → Open sort (λ ms. location_word is_atomic ∷ ms) → (ls : List Location) → list_all (λ l. is_name l.name) ls ≡ true → values_fit ls ≡ true → AllClosed (location_text sort) (written_location is_atomic) location ls
locations_read sort is_atomic o [] e f = tt
locations_read sort is_atomic o (l ∷ ls) e f =
    let names = and_parts (is_name l.name) (list_all (λ l. is_name l.name) ls) e in
    let values = and_parts (is_signed_64 l.value) (values_fit ls) f in
    (location_read sort is_atomic l o names.0 values.0, locations_read sort is_atomic o ls names.1 values.1)

-- functions

registers_read : (xs : List (List ℕ)) → list_all is_name xs ≡ true → Closed (registers_text xs) (registers (snoc xs))
registers_read [] e = nothing
registers_read (x ∷ xs) e =
    closed_as (some_registers x xs)
    (on_line 1 (around (listed_text (x ∷ xs)) (codes ";") (spaced (codes "reg") (word (codes "reg") refl (λ f span e. refl))) (names_listed (x ∷ xs) e refl semicolon)))

module _ (p : Program) (facts : WellFormedFacts p) where
  has_names : (registers : List (List ℕ)) → list_all is_name registers ≡ true → HasNames p registers
  has_names registers e = record {
    registers_named = e;
    na_named = declarable_names (λ l. l.name) p.na facts.na_declarable;
    atomic_named = declarable_names (λ l. l.name) p.atomic facts.atomic_declarable;
    functions_named = declarable_names (λ f. f.name) p.functions facts.functions_declarable;
  }

  function_read : (f : Function) → is_name f.name ≡ true → FunctionFacts (declared_by p) f → Closed (function_text p f) (function (written_function p f))
  unfolding function_text
  function_read f is own =
      let all_named = free_names (declared_by p).names f.registers own.free in
      let cut = all_in_both is_name (take f.params f.registers) (drop f.params f.registers) (ap (list_all is_name) (take-append-drop f.params f.registers) ∙ all_named) in
      let names = has_names f.registers all_named in
      let counted = length-map p.functions (λ f. f.params) in
      let front = open_closed (closed_open (spaced (codes "fn") (word (codes "fn") refl (λ f span e. refl))) (named f.name is)) refl left_paren in
      let head = on_line 0 (around (listed_text (take f.params f.registers)) (codes ") {") front (names_listed (take f.params f.registers) cut.0 refl (closed_closed right_paren (closed_closed space open_brace)))) in
      let body = statements_text_read p f.registers (params_of p) names counted f.body.statements 1 own.shallow own.statements in
      let last = on_line 1 (open_closed (closed_open (spaced (codes "return") (word (codes "return") refl (λ f span e. refl))) (atom_part p f.registers (params_of p) names counted f.result own.result)) refl semicolon) in
      closed_closed (closed_closed (closed_closed (closed_closed head (registers_read (drop f.params f.registers) cut.1)) body) last) (on_line 0 close_brace)

  functions_read : (fs : List Function) → list_all (λ f. is_name f.name) fs ≡ true → list_all (function_fits (declared_by p)) fs ≡ true → AllClosed (function_text p) (written_function p) function fs
  functions_read [] e g = tt
  functions_read (f ∷ fs) e g =
      let names = and_parts (is_name f.name) (list_all (λ f. is_name f.name) fs) e in
      let fit = and_parts (function_fits (declared_by p) f) (list_all (function_fits (declared_by p)) fs) g in
      (function_read f names.0 (function_facts (declared_by p) f fit.0), functions_read fs names.1 fit.1)

  -- threads

  numbers_open : (ns : List ℤ) → list_all is_signed_64 ns ≡ true → AllOpen signed_decimal written_number literal ns
  numbers_open [] e = tt
  numbers_open (n ∷ ns) e = let parts = and_parts (is_signed_64 n) (list_all is_signed_64 ns) e in (number_text n parts.0, numbers_open ns parts.1)

  thread_read : (x : Start) → thread_fits (params_of p) x ≡ true → Closed (thread_text p x) (thread (written_thread p x))
  unfolding thread_text
  thread_read x fit =
      let numbers = and_parts (thread_numbers_exist (length (params_of p)) x) (thread_arity_agrees (params_of p) x) fit in
      let parts = and_parts (nat_lt x.function (length (params_of p))) (list_all is_signed_64 x.args) numbers.0 in
      let there : nat_lt x.function (length p.functions) ≡ true = subst (λ n. nat_lt x.function n ≡ true) (length-map p.functions (λ f. f.params)) parts.0 in
      let callee = name_text (λ f. f.name) p.functions x.function (declarable_names (λ f. f.name) p.functions facts.functions_declarable) there in
      let front = open_closed (closed_open (spaced (codes "thread") (word (codes "thread") refl (λ f span e. ap t.Thread e))) callee) refl left_paren in
      on_line 0 (around (listed_text (map signed_decimal x.args)) (codes ");") front (closed_listed signed_decimal written_number literal x.args (numbers_open x.args parts.1) refl (closed_closed right_paren semicolon)))

  threads_read : (xs : List Start) → list_all (thread_fits (params_of p)) xs ≡ true → AllClosed (thread_text p) (written_thread p) thread xs
  threads_read [] e = tt
  threads_read (x ∷ xs) e =
      let parts = and_parts (thread_fits (params_of p) x) (list_all (thread_fits (params_of p)) xs) e in (thread_read x parts.0, threads_read xs parts.1)

all_append : {X : Type 0} (spell : X → Spelling) (xs ys : List X) (ms : Marks (List ℕ)) → all spell (xs ++ ys) ms ≡ all spell xs (all spell ys ms)
all_append spell [] ys ms = refl
all_append spell (x ∷ xs) ys ms = ap (spell x) (all_append spell xs ys ms)

-- all after the header
abbrev after_header : Program → Marks (List ℕ)
after_header p =
    all location (map (written_location false) p.na) (all location (map (written_location true) p.atomic)
    (all function (map (written_function p) p.functions) (all thread (map (written_thread p) p.threads) [])))

spelled : (p : Program) → spelling (written_tree p) ≡ plain t.Il ∷ plain t.Version ∷ after_header p
spelled p =
    let threads = all_each thread (map (written_thread p) p.threads) empty [] in
    let functions = all_each function (map (written_function p) p.functions) empty (all thread (map (written_thread p) p.threads) []) in
    let later = all function (map (written_function p) p.functions) (all thread (map (written_thread p) p.threads) []) in
    let locations = all_each location (written_locations p) empty later in
    ap (λ ms. plain t.Il ∷ plain t.Version ∷ ms)
    (ap (λ ms. each location (snoc (written_locations p)) (each function (snoc (map (written_function p) p.functions)) ms)) (sym threads)
    ∙ ap (each location (snoc (written_locations p))) (sym functions)
    ∙ sym locations
    ∙ all_append location (map (written_location false) p.na) (map (written_location true) p.atomic) later)

by_header : (p : Program) (none : Bool) → has_no_fence p ≡ none → (rest : List ℕ) → Laid (10 ∷ rest) (after_header p) → ((none : Bool) → has_no_fence p ≡ none → StandRight (is_fence_text (not none)) false (tokens_of (after_header p)))
    → WritesNamed (line 0 (cond none (codes "il 1") (codes "il 2")) ++ rest) (written_tree p)
by_header p true e rest laid right = written false rest (after_header p) (written_tree p) (spelled p) laid (right true e)
by_header p false e rest laid right = written true rest (after_header p) (written_tree p) (spelled p) laid (right false e)

pub text_is_written : (p : Program) → WellFormedFacts p → WritesNamed (program_text p) (written_tree p)
unfolding program_text
text_is_written p facts =
    let na = flat_map (location_text (codes "na")) p.na in
    let atomic = flat_map (location_text (codes "atomic")) p.atomic in
    let functions = flat_map (function_text p) p.functions in
    let threads = flat_map (thread_text p) p.threads in
    let na_read = locations_read (codes "na") false (word (codes "na") refl (λ f span e. refl)) p.na (declarable_names (λ l. l.name) p.na facts.na_declarable) facts.na_values in
    let atomic_read = locations_read (codes "atomic") true (word (codes "atomic") refl (λ f span e. refl)) p.atomic (declarable_names (λ l. l.name) p.atomic facts.atomic_declarable) facts.atomic_values in
    let functions_there = functions_read p facts p.functions (declarable_names (λ f. f.name) p.functions facts.functions_declarable) facts.functions in
    let threads_there = threads_read p facts p.threads facts.threads in
    let whole : Closed (na ++ atomic ++ functions ++ threads) (λ ms. all location (map (written_location false) p.na) (all location (map (written_location true) p.atomic) (all function (map (written_function p) p.functions) (all thread (map (written_thread p) p.threads) ms)))) =
    closed_closed (closed_closed (closed_closed (closed_all (location_text (codes "na")) (written_location false) location p.na na_read) (closed_all (location_text (codes "atomic")) (written_location true) location p.atomic atomic_read))
    (closed_all (function_text p) (written_function p) function p.functions functions_there)) (closed_all (thread_text p) (written_thread p) thread p.threads threads_there) in
    let laid : Laid (na ++ atomic ++ functions ++ threads) (after_header p) = subst (λ bytes. Laid bytes (after_header p)) (append-nil (na ++ atomic ++ functions ++ threads)) (whole.lay [] [] ended) in
    let right : (none : Bool) → has_no_fence p ≡ none → StandRight (is_fence_text (not none)) false (tokens_of (after_header p)) =
    λ none e. (subst (λ ms. StandRight (is_fence_text (not none)) false (tokens_of ms)) (spelled p) (text_right (is_fence_text (not none)) (written_tree p) (tree_right p none e facts))).1.1 in
    let head : List ℕ = line 0 (cond (has_no_fence p) (codes "il 1") (codes "il 2")) in
    let same : head ++ (na ++ atomic ++ functions ++ threads) ≡ head ++ na ++ atomic ++ functions ++ threads =
    sym (append_assoc head (na ++ atomic ++ functions) threads)
    ∙ ap (λ (x : List ℕ). x ++ threads) (sym (append_assoc head (na ++ atomic) functions) ∙ ap (λ (x : List ℕ). x ++ functions) (sym (append_assoc head na atomic))) in
    subst (λ bytes. WritesNamed bytes (written_tree p)) same (by_header p (has_no_fence p) refl (na ++ atomic ++ functions ++ threads) (blank refl laid) right)
