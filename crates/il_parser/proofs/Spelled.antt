-- What the marks of a text that is written tell: its names are names, and its blocks lie no deeper
-- than the limit.
use Rattle.std.proofs.Common.{◌≡◌, ℕ, suc, ◌+◌, ◌≤◌, List, [], ◌∷◌, ◌++◌, map, length, Bool, true, false, not, cond, ◌&&◌, nat_le, Option, Some, None, refl, sym, ap, ◌∙◌, subst, arith}
use Rattle.std.specs.List.{list_all}
use Rattle.std.proofs.lemmas.Bool.{and_parts, and_from, or_left, leb-true, cond_both}
use Rattle.token_machine.specs.Text.{plain, tokens_of, WithinLimits}
use Rattle.values_undef.specs.Access.{is_fence_order}
use Rattle.il_syntax.specs.Name.{is_letter, is_digit, is_word_byte, is_word, is_name, is_among, reserved}
use Rattle.il_syntax.specs.Statements.{depth_of, depth_of_all}
use Rattle.il_lexer.specs.declared.token.Token.{Token}
use Rattle.il_lexer.specs.declared.token.TokenKind.{TokenKind}
use Rattle.il_lexer.specs.declared.token.TokenKind.TheVariants as kinds
use Rattle.il_lexer.specs.Lexeme.{is_lexeme}
use Rattle.il_lexer.specs.Text.{Rest, at_end, stopped_at}
use Rattle.il_lexer.specs.Slices.{AreTokensOf}
use Rattle.il_grammar.specs.declared.rule.Rule.TheVariants.{P5}
use Rattle.il_grammar.specs.declared.terminal.Terminal.{Terminal}
use Rattle.il_grammar.specs.declared.terminal.Terminal.TheVariants as t
use Rattle.il_grammar.specs.declared.syntax.Span.{Span}
use Rattle.il_grammar.specs.declared.syntax.Literal.{Literal}
use Rattle.il_grammar.specs.declared.syntax.Literal.TheVariants.{Positive, Negative}
use Rattle.il_grammar.specs.declared.syntax.RawAtom.{RawAtom}
use Rattle.il_grammar.specs.declared.syntax.RawAtom.TheVariants.{Constant, Named}
use Rattle.il_grammar.specs.declared.syntax.RawOrder.{RawOrder}
use Rattle.il_grammar.specs.declared.syntax.RawUpdate.TheVariants.{Add as Adding, Swap as Swapping}
use Rattle.il_grammar.specs.declared.syntax.RawLocation.{RawLocation}
use Rattle.il_grammar.specs.Name.{name_text}
use Rattle.il_grammar.specs.Grammar.{Snoc, empty, append, Simple, skip, store, fence, print, copy, compute, load, update, cas, call, Tree, simply, choice, choice_else, repeat, Trees, no_tree, add_tree, Routine, TextTree, Marks, past_depth, open_at, literal, name, atom, order_if_any, listed, listed_if_any, each, simple, statement, statements, location, registers, function, thread, spelling}
use Rattle.il_reader.specs.Terminals.{word_of, symbol_terminal, of_kind, terminal_of, unknown_terminal, has_fences, as_fence_order, is_name_with, with_fences, is_fence_word}
use Rattle.il_reader.specs.Text.{Writes}
use Rattle.il_reader.proofs.Callers.{name_is_not_reserved, span_of, HasPlace, no_place, own_place, word_place, symbol_place}
use Rattle.il_names.specs.Known.{Known}
use Rattle.il_names.specs.Meaning.{atom_meaning, simple_meaning, tree_meaning, trees_meaning}
use Rattle.il_parser.proofs.Rising.{written_tokens}
use Rattle.il_parser.proofs.Each.{EachOf}
use Rattle.il_parser.proofs.Heads.{depth_of-skip, depth_of-copy, depth_of-compute, depth_of-load, depth_of-store, depth_of-atomic_load, depth_of-atomic_store, depth_of-update, depth_of-fence, depth_of-print, depth_of-call, depth_of-if, depth_of-while, depth_of_all-push}

-- Tokens.

abbrev pub IsNamed : List ℕ → Terminal Span → Type 0
IsNamed bytes (t.Name n) = is_name (name_text bytes n) ≡ true
IsNamed bytes _ = Unit {0}

abbrev AreNamed : List ℕ → List (Terminal Span) → Type 0
AreNamed bytes [] = Unit {0}
AreNamed bytes (x ∷ xs) = IsNamed bytes x × AreNamed bytes xs

lexeme_word : (text : List ℕ) → is_lexeme kinds.Word text ≡ true → is_word text ≡ true
lexeme_word [] e = absurd (cc)
lexeme_word (b ∷ bs) e =
    let both = and_parts (is_letter b) (list_all is_word_byte bs) e in
    and_from (is_letter b) (is_word_byte b && list_all is_word_byte bs) both.0 (and_from (is_word_byte b) (list_all is_word_byte bs) (or_left (is_letter b) (is_digit b) both.0) both.1)

not_true : (b : Bool) → (b ≡ true → ⊥) → not b ≡ true
not_true true h = absurd (h refl)
not_true false h = refl

module _ (bytes : List ℕ) (s : Span) where
  word_named : (x : Terminal Span) → word_of (name_text bytes s) s ≡ x → HasPlace s x → is_lexeme kinds.Word (name_text bytes s) ≡ true → IsNamed bytes x
  word_named (t.Name n) e (no_place p) is = absurd (cc)
  word_named (t.Name n) e (own_place p) is =
      let same : n ≡ s = cc in
      subst (λ k. is_name (name_text bytes k) ≡ true) (sym same)
      (and_from (is_word (name_text bytes s)) _ (lexeme_word (name_text bytes s) is) (not_true (is_among reserved (name_text bytes s)) (name_is_not_reserved (name_text bytes s) s (e ∙ ap t.Name same))))
  word_named _ e p is = tt

  symbol_named : (x : Terminal Span) → span_of x ≡ None → IsNamed bytes x
  symbol_named (t.Name n) e = absurd (cc)
  symbol_named _ e = tt

  token_named : (kind : TokenKind) → is_lexeme kind (name_text bytes s) ≡ true → IsNamed bytes (of_kind kind (name_text bytes s) s)
  token_named kinds.Word is = word_named (word_of (name_text bytes s) s) refl (word_place (name_text bytes s) s) is
  token_named kinds.Number is = tt
  token_named kinds.Symbol is = symbol_named (symbol_terminal (name_text bytes s)) (symbol_place (name_text bytes s))

unknown_named : (bytes : List ℕ) (stop : Rest) → AreNamed bytes (unknown_terminal stop)
unknown_named bytes at_end = tt
unknown_named bytes (stopped_at at) = (tt, tt)

tokens_named : (bytes : List ℕ) (stop : Rest) (ts : List Token) (from to : ℕ) → AreTokensOf bytes from ts to → AreNamed bytes (map (terminal_of bytes) ts ++ unknown_terminal stop)
tokens_named bytes stop [] from to all = unknown_named bytes stop
tokens_named bytes stop (x ∷ ts) from to all = (token_named bytes (record { start = x.start; end = x.end }) x.kind all.2.spelled, tokens_named bytes stop ts x.end to all.3)

fence_named : (bytes : List ℕ) (behind : Bool) (x : Terminal Span) → IsNamed bytes x → IsNamed bytes (as_fence_order behind x)
fence_named bytes behind (t.OrderWord o w) h = cond_both (behind && is_fence_order o) (t.FenceOrder o w) (t.OrderWord o w) (IsNamed bytes) (λ _. tt) (λ _. tt)
fence_named bytes behind x h = h

fences_named : (bytes : List ℕ) (test : Span → Bool) (behind : Bool) (xs : List (Terminal Span)) → AreNamed bytes xs → AreNamed bytes (with_fences test behind xs)
fences_named bytes test behind [] h = tt
fences_named bytes test behind (x ∷ xs) h = (fence_named bytes behind x h.0, fences_named bytes test (is_name_with test x) xs h.1)

-- Marks.

-- no limit is exceeded, and names are names
abbrev pub AreFine : List ℕ → Marks Span → Type 0
AreFine bytes [] = Unit {0}
AreFine bytes (m ∷ ms) = (m.exceeds ≡ None) × IsNamed bytes m.token × AreFine bytes ms

are_fine : (bytes : List ℕ) (ms : Marks Span) → WithinLimits ms → AreNamed bytes (tokens_of ms) → AreFine bytes ms
are_fine bytes [] within named = tt
are_fine bytes (m ∷ ms) within named = (within.0, named.0, are_fine bytes ms within.1 named.1)

pub written_fine : (bytes : List ℕ) (tree : TextTree Span) → Writes bytes tree → AreFine bytes (spelling tree)
written_fine bytes tree w =
    let tokens = written_tokens bytes tree w in
    are_fine bytes (spelling tree) w.spelled.within
    (subst (AreNamed bytes) (sym w.spelled.tokens) (
      tt,
      (
        tt,
        fences_named bytes (is_fence_word bytes (has_fences bytes w.tokens)) false (map (terminal_of bytes) w.rest ++ unknown_terminal w.stop)
            (tokens_named bytes w.stop w.rest tokens.0 (length bytes) tokens.1),
      ),
    ))

-- what is left of marks after a part
module _ (bytes : List ℕ) where
  literal_rest : (x : Literal) (rest : Marks Span) → AreFine bytes (literal x rest) → AreFine bytes rest
  literal_rest (Positive n) rest h = h.2
  literal_rest (Negative n) rest h = h.2.2

  atom_rest : (a : RawAtom Span) (rest : Marks Span) → AreFine bytes (atom a rest) → AreFine bytes rest
  atom_rest (Constant x) rest h = literal_rest x rest h
  atom_rest (Named n) rest h = h.2

  order_rest : (o : Option (RawOrder Span)) (rest : Marks Span) → AreFine bytes (order_if_any o rest) → AreFine bytes rest
  order_rest None rest h = h
  order_rest (Some o) rest h = h.2

  -- Parts one after another, each with a fact of its own.
  module _ {X : Type 0} (spell : X → Marks Span → Marks Span) (P : X → Type 0) (part : (x : X) (rest : Marks Span) → AreFine bytes (spell x rest) → P x × AreFine bytes rest) where
    listed_fine : (xs : Snoc X) (x : X) (rest : Marks Span) → AreFine bytes (listed spell xs x rest) → EachOf P (append xs x) × AreFine bytes rest
    listed_fine empty x rest h = let own = part x rest h in ((tt, own.0), own.1)
    listed_fine (append xs y) x rest h =
        let before = listed_fine xs y (plain t.Comma ∷ spell x rest) h in
        let own = part x rest before.1.2 in
        ((before.0, own.0), own.1)

    listed_if_any_fine : (xs : Snoc X) (rest : Marks Span) → AreFine bytes (listed_if_any spell xs rest) → EachOf P xs × AreFine bytes rest
    listed_if_any_fine empty rest h = (tt, h)
    listed_if_any_fine (append xs x) rest h = listed_fine xs x rest h

    each_fine : (xs : Snoc X) (rest : Marks Span) → AreFine bytes (each spell xs rest) → EachOf P xs × AreFine bytes rest
    each_fine empty rest h = (tt, h)
    each_fine (append xs x) rest h =
        let before = each_fine xs (spell x rest) h in
        let own = part x rest before.1 in
        ((before.0, own.0), own.1)

  atoms_rest : (args : Snoc (RawAtom Span)) (rest : Marks Span) → AreFine bytes (listed_if_any atom args rest) → AreFine bytes rest
  atoms_rest args rest h = (listed_if_any_fine atom (λ _. Unit {0}) (λ a rest h. (tt, atom_rest a rest h)) args rest h).1

  simple_rest : (x : Simple Span) (rest : Marks Span) → AreFine bytes (simple x rest) → AreFine bytes rest
  simple_rest (skip w) rest h = h.2
  simple_rest (store w o x a) rest h = atom_rest a rest (order_rest o _ h.2).2.2
  simple_rest (fence w o) rest h = h.2.2
  simple_rest (print w a) rest h = atom_rest a rest h.2
  simple_rest (copy r a) rest h = atom_rest a rest h.2.2
  simple_rest (compute r a op b) rest h = atom_rest b rest (atom_rest a _ h.2.2).2
  simple_rest (load r o x) rest h = (order_rest o _ h.2.2.2).2
  simple_rest (update r Adding o y a) rest h = atom_rest a rest h.2.2.2.2.2.2
  simple_rest (update r Swapping o y a) rest h = atom_rest a rest h.2.2.2.2.2.2
  simple_rest (cas r o y a b) rest h = atom_rest b rest (atom_rest a _ h.2.2.2.2.2.2).2
  simple_rest (call r g args) rest h = (atoms_rest args _ h.2.2.2.2.2).2

  -- How deep blocks lie.

  not_past : (depth : ℕ) (b : Bool) → nat_le depth 32 ≡ b → cond b None (Some P5) ≡ None → depth ≤ 32
  not_past depth true e n = leb-true depth 32 e
  not_past depth false e n = absurd (cc)

  within_depth : (depth : ℕ) → past_depth depth ≡ None → depth ≤ 32
  within_depth depth e = not_past depth (nat_le depth 32) refl e

  module _ (known : Known) where
    simple_shallow : (x : Simple Span) → depth_of (simple_meaning bytes known x) ≡ 0
    simple_shallow (skip w) = depth_of-skip
    simple_shallow (store w None x a) = depth_of-store _ _
    simple_shallow (store w (Some o) x a) = depth_of-atomic_store _ _ _
    simple_shallow (fence w o) = depth_of-fence _
    simple_shallow (print w a) = depth_of-print _
    simple_shallow (copy r a) = depth_of-copy _ _
    simple_shallow (compute r a op b) = depth_of-compute _ _ _ _
    simple_shallow (load r None x) = depth_of-load _ _
    simple_shallow (load r (Some o) x) = depth_of-atomic_load _ _ _
    simple_shallow (update r w o y a) = depth_of-update _ _ _ _
    simple_shallow (cas r o y a b) = depth_of-update _ _ _ _
    simple_shallow (call r g args) = depth_of-call _ _ _

    mutual
      tree_shallow : (x : Tree Span) (depth : ℕ) (rest : Marks Span) → depth ≤ 32 → AreFine bytes (statement x depth rest) → (depth + depth_of (tree_meaning bytes known x) ≤ 32) × AreFine bytes rest
      tree_shallow (simply x) depth rest inside h = (omega (arith, simple_shallow x), (simple_rest x (plain t.Semicolon ∷ rest) h).2)
      tree_shallow (choice w a first) depth rest inside h =
          let k = atom_rest a (open_at (suc depth) ∷ statements first (suc depth) (plain t.Close ∷ rest)) h.2 in
          let one = trees_shallow first (suc depth) (plain t.Close ∷ rest) (within_depth (suc depth) k.0) k.2 in
          (omega (arith, depth_of-if (atom_meaning bytes known a) (trees_meaning bytes known first) [], one.0), one.1.2)
      tree_shallow (choice_else w a first second) depth rest inside h =
          let after = plain t.Close ∷ plain t.Else ∷ open_at (suc depth) ∷ statements second (suc depth) (plain t.Close ∷ rest) in
          let k = atom_rest a (open_at (suc depth) ∷ statements first (suc depth) after) h.2 in
          let one = trees_shallow first (suc depth) after (within_depth (suc depth) k.0) k.2 in
          let other = trees_shallow second (suc depth) (plain t.Close ∷ rest) (within_depth (suc depth) k.0) one.1.2.2.2 in
          (omega (arith, depth_of-if (atom_meaning bytes known a) (trees_meaning bytes known first) (trees_meaning bytes known second), one.0, other.0), other.1.2)
      tree_shallow (repeat w a body) depth rest inside h =
          let k = atom_rest a (open_at (suc depth) ∷ statements body (suc depth) (plain t.Close ∷ rest)) h.2 in
          let one = trees_shallow body (suc depth) (plain t.Close ∷ rest) (within_depth (suc depth) k.0) k.2 in
          (omega (arith, depth_of-while (atom_meaning bytes known a) (trees_meaning bytes known body), one.0), one.1.2)

      trees_shallow : (xs : Trees Span) (depth : ℕ) (rest : Marks Span) → depth ≤ 32 → AreFine bytes (statements xs depth rest) → (depth + depth_of_all (trees_meaning bytes known xs) ≤ 32) × AreFine bytes rest
      trees_shallow no_tree depth rest inside h = (omega arith, h)
      trees_shallow (add_tree xs x) depth rest inside h =
          let before = trees_shallow xs depth (statement x depth rest) inside h in
          let last = tree_shallow x depth rest inside before.1 in
          (omega (arith, depth_of_all-push (trees_meaning bytes known xs) (tree_meaning bytes known x), before.0, last.0), last.1)

  -- Declarations.

  abbrev pub HasName : Span → Type 0
  HasName n = is_name (name_text bytes n) ≡ true

  name_fine : (n : Span) (rest : Marks Span) → AreFine bytes (name n rest) → HasName n × AreFine bytes rest
  name_fine n rest h = (h.1, h.2)

  location_fine : (l : RawLocation Span) (rest : Marks Span) → AreFine bytes (location l rest) → HasName l.name × AreFine bytes rest
  location_fine l rest h = (h.2.1, (literal_rest l.value (plain t.Semicolon ∷ rest) h.2.2.2).2)

  registers_fine : (rs : Snoc Span) (rest : Marks Span) → AreFine bytes (registers rs rest) → EachOf HasName rs × AreFine bytes rest
  registers_fine empty rest h = (tt, h)
  registers_fine (append rs r) rest h = let all = listed_fine name HasName name_fine rs r (plain t.Semicolon ∷ rest) h.2 in (all.0, all.1.2)

  pub record IsSpelled (f : Routine Span) : Type 0 where
    pub name : HasName f.name
    pub parameters : EachOf HasName f.parameters
    pub registers : EachOf HasName f.registers
    pub depth : (known : Known) → depth_of_all (trees_meaning bytes known f.body) ≤ 32

  function_fine : (f : Routine Span) (rest : Marks Span) → AreFine bytes (function f rest) → IsSpelled f × AreFine bytes rest
  function_fine f rest h =
      let result = plain t.Return ∷ atom f.result (plain t.Semicolon ∷ plain t.Close ∷ rest) in
      let body = statements f.body 0 result in
      let ps = listed_if_any_fine name HasName name_fine f.parameters (plain t.RightParen ∷ plain t.Open ∷ registers f.registers body) h.2.2.2 in
      let rs = registers_fine f.registers body ps.1.2.2 in
      let inside : (known : Known) → (0 + depth_of_all (trees_meaning bytes known f.body) ≤ 32) × AreFine bytes result = λ known. trees_shallow known f.body 0 result (omega arith) rs.1 in
      let end = (inside (record { na = []; atomic = []; functions = []; parameter_counts = []; registers = [] })).1 in (
        record { name = h.2.1; parameters = ps.0; registers = rs.0; depth = λ known. let d = (inside known).0 in omega arith },
        (atom_rest f.result (plain t.Semicolon ∷ plain t.Close ∷ rest) end.2).2.2,
      )

-- what is spelled in a text that is written
pub record AreSpelled (bytes : List ℕ) (tree : TextTree Span) : Type 0 where
  pub locations : EachOf (λ l. HasName bytes l.name) tree.locations
  pub functions : EachOf (IsSpelled bytes) tree.functions

pub written_spelled : (bytes : List ℕ) (tree : TextTree Span) → Writes bytes tree → AreSpelled bytes tree
written_spelled bytes tree w =
    let fine = written_fine bytes tree w in
    let ls = each_fine bytes location (λ l. HasName bytes l.name) (location_fine bytes) tree.locations (each function tree.functions (each thread tree.threads [])) fine.2.2 in
    let fs = each_fine bytes function (IsSpelled bytes) (function_fine bytes) tree.functions (each thread tree.threads []) ls.1 in
    record { locations = ls.0; functions = fs.0 }
