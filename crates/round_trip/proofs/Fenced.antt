-- In a tree whose fences have their word, each order behind the word `fence` is that of a fence.
use Rattle.std.proofs.Common.{◌≡◌, ℕ, suc, Bool, true, false, ◌&&◌, cond, List, [], ◌∷◌, map, Option, Some, None, refl, ap, ◌∙◌}
use Rattle.std.proofs.lemmas.Bool.{false≢true}
use Rattle.token_machine.specs.Text.{plain, tokens_of}
use Rattle.values_undef.specs.Access.{is_fence_order}
use Rattle.il_grammar.specs.declared.terminal.Terminal.{Terminal}
use Rattle.il_grammar.specs.declared.terminal.Terminal.TheVariants as t
use Rattle.il_grammar.specs.declared.syntax.Literal.{Literal}
use Rattle.il_grammar.specs.declared.syntax.Literal.TheVariants.{Positive, Negative}
use Rattle.il_grammar.specs.declared.syntax.RawAtom.{RawAtom}
use Rattle.il_grammar.specs.declared.syntax.RawAtom.TheVariants.{Constant, Named}
use Rattle.il_grammar.specs.declared.syntax.RawOrder.{RawOrder}
use Rattle.il_grammar.specs.declared.syntax.RawUpdate.TheVariants.{Add as Adding, Swap as Swapping}
use Rattle.il_grammar.specs.declared.syntax.RawLocation.{RawLocation}
use Rattle.il_grammar.specs.Grammar.{Snoc, empty, append, Simple, skip, store, fence, print, copy, compute, load, update, cas, call, Tree, simply, choice, choice_else, repeat, Trees, no_tree, add_tree, Routine, Thread, TextTree, Marks, literal, name, atom, order_if_any, listed, listed_if_any, each, simple, statement, statements, location, location_word, registers, function, thread, spelling}
use Rattle.il_reader.specs.Terminals.{as_fence_order, is_name_with, with_fences}
use Rattle.round_trip.proofs.Laid.{without_fence}

abbrev pub EachIs : {X : Type 0} → (X → Type 0) → Snoc X → Type 0
EachIs P empty = Unit {0}
EachIs P (append xs x) = EachIs P xs × P x

all_are : {X : Type 0} (xs : Snoc X) → EachIs (λ (x : X). Unit {0}) xs
all_are empty = tt
all_are (append xs x) = (all_are xs, tt)

module _ (test : List ℕ → Bool) where
  -- an order behind a name that passes the test is that of a fence, and no other is
  abbrev StandsRight : Bool → Terminal (List ℕ) → Type 0
  StandsRight behind (t.OrderWord o w) = behind ≡ false
  StandsRight behind (t.FenceOrder o w) = (behind ≡ true) × (is_fence_order o ≡ true)
  StandsRight behind _ = Unit {0}

  abbrev pub StandRight : Bool → List (Terminal (List ℕ)) → Type 0
  StandRight behind [] = Unit {0}
  StandRight behind (x ∷ xs) = StandsRight behind x × StandRight (is_name_with test x) xs

  one_back : (behind : Bool) (x : Terminal (List ℕ)) → StandsRight behind x → as_fence_order behind (without_fence x) ≡ x
  one_back behind (t.OrderWord o w) e = ap (λ b. cond (b && is_fence_order o) (t.FenceOrder o w) (t.OrderWord o w)) e
  one_back behind (t.FenceOrder o w) (e, f) = λ i. cond (e i && f i) (t.FenceOrder o w) (t.OrderWord o w)
  one_back behind x e = refl

  same_name : (x : Terminal (List ℕ)) → is_name_with test (without_fence x) ≡ is_name_with test x
  same_name (t.FenceOrder o w) = refl
  same_name x = refl

  -- so the pass over the tokens that were read one by one gives them back
  pub fences_back : (behind : Bool) (xs : List (Terminal (List ℕ))) → StandRight behind xs → with_fences test behind (map without_fence xs) ≡ xs
  fences_back behind [] h = refl
  fences_back behind (x ∷ xs) h =
      ap (λ b. as_fence_order behind (without_fence x) ∷ with_fences test b (map without_fence xs)) (same_name x)
      ∙ (λ i. one_back behind x h.0 i ∷ fences_back (is_name_with test x) xs h.1 i)

  -- whatever stands before
  abbrev Right : Marks (List ℕ) → Type 0
  Right ms = (behind : Bool) → StandRight behind (tokens_of ms)

  abbrev pub IsRightFence : Simple (List ℕ) → Type 0
  IsRightFence (fence w o) = (test w ≡ true) × (is_fence_order o.order ≡ true)
  IsRightFence _ = Unit {0}

  abbrev mutual
    pub HasRightFences : Tree (List ℕ) → Type 0
    HasRightFences (simply x) = IsRightFence x
    HasRightFences (choice w a first) = HaveRightFences first
    HasRightFences (choice_else w a first second) = HaveRightFences first × HaveRightFences second
    HasRightFences (repeat w a body) = HaveRightFences body

    pub HaveRightFences : Trees (List ℕ) → Type 0
    HaveRightFences no_tree = Unit {0}
    HaveRightFences (add_tree xs x) = HaveRightFences xs × HasRightFences x

  name_right : (n : List ℕ) (rest : Marks (List ℕ)) → Right rest → Right (name n rest)
  name_right n rest h behind = (tt, h (test n))

  literal_right : (x : Literal) (rest : Marks (List ℕ)) → Right rest → Right (literal x rest)
  literal_right (Positive n) rest h behind = (tt, h false)
  literal_right (Negative n) rest h behind = (tt, (tt, h false))

  atom_right : (a : RawAtom (List ℕ)) (rest : Marks (List ℕ)) → Right rest → Right (atom a rest)
  atom_right (Constant x) rest h = literal_right x rest h
  atom_right (Named n) rest h = name_right n rest h

  -- behind a word that is no name an order may stand
  order_right : (o : Option (RawOrder (List ℕ))) (rest : Marks (List ℕ)) → Right rest → StandRight false (tokens_of (order_if_any o rest))
  order_right None rest h = h false
  order_right (Some o) rest h = (refl, h false)

  module _ {X : Type 0} (spell : X → Marks (List ℕ) → Marks (List ℕ)) (one : (x : X) (rest : Marks (List ℕ)) → Right rest → Right (spell x rest)) where
    listed_right : (xs : Snoc X) (x : X) (rest : Marks (List ℕ)) → Right rest → Right (listed spell xs x rest)
    listed_right empty x rest h = one x rest h
    listed_right (append xs y) x rest h = listed_right xs y (plain t.Comma ∷ spell x rest) (λ behind. (tt, one x rest h false))

    listed_if_any_right : (xs : Snoc X) (rest : Marks (List ℕ)) → Right rest → Right (listed_if_any spell xs rest)
    listed_if_any_right empty rest h = h
    listed_if_any_right (append xs x) rest h = listed_right xs x rest h

  simple_right : (x : Simple (List ℕ)) (rest : Marks (List ℕ)) → IsRightFence x → Right rest → Right (simple x rest)
  simple_right (skip w) rest f h behind = (tt, h false)
  simple_right (store w o x a) rest f h behind =
      (tt, order_right o (name x (plain t.Comma ∷ atom a rest)) (name_right x (plain t.Comma ∷ atom a rest) (λ b. (tt, atom_right a rest h false))))
  simple_right (fence w o) rest f h behind = (tt, (f, h false))
  simple_right (print w a) rest f h behind = (tt, atom_right a rest h false)
  simple_right (copy r a) rest f h behind = (tt, (tt, atom_right a rest h false))
  simple_right (compute r a op b) rest f h behind =
      (tt, (tt, atom_right a (plain (t.Operator op) ∷ atom b rest) (λ _. (tt, atom_right b rest h false)) false))
  simple_right (load r o x) rest f h behind = (tt, (tt, (tt, order_right o (name x rest) (name_right x rest h))))
  simple_right (update r Adding o y a) rest f h behind = (tt, (tt, (tt, (refl, (tt, (tt, atom_right a rest h false))))))
  simple_right (update r Swapping o y a) rest f h behind = (tt, (tt, (tt, (refl, (tt, (tt, atom_right a rest h false))))))
  simple_right (cas r o y a b) rest f h behind =
      (tt, (tt, (tt, (refl, (tt, (tt, atom_right a (plain t.Comma ∷ atom b rest) (λ _. (tt, atom_right b rest h false)) false))))))
  simple_right (call r g args) rest f h behind =
      (tt, (tt, (tt, (tt, (tt, listed_if_any_right atom atom_right args (plain t.RightParen ∷ rest) (λ _. (tt, h false)) false)))))

  mutual
    tree_right : (x : Tree (List ℕ)) (depth : ℕ) (rest : Marks (List ℕ)) → HasRightFences x → Right rest → Right (statement x depth rest)
    tree_right (simply x) depth rest f h behind = simple_right x (plain t.Semicolon ∷ rest) f (λ _. (tt, h false)) behind
    tree_right (choice w a first) depth rest f h behind =
        (tt, atom_right a _ (λ _. (tt, trees_right first (suc depth) (plain t.Close ∷ rest) f (λ _. (tt, h false)) false)) false)
    tree_right (choice_else w a first second) depth rest f h behind =
        (tt, atom_right a _ (λ _. (tt, trees_right first (suc depth) _ f.0 (λ _. (tt, (tt, (tt, trees_right second (suc depth) (plain t.Close ∷ rest) f.1 (λ _. (tt, h false)) false)))) false)) false)
    tree_right (repeat w a body) depth rest f h behind =
        (tt, atom_right a _ (λ _. (tt, trees_right body (suc depth) (plain t.Close ∷ rest) f (λ _. (tt, h false)) false)) false)

    trees_right : (xs : Trees (List ℕ)) (depth : ℕ) (rest : Marks (List ℕ)) → HaveRightFences xs → Right rest → Right (statements xs depth rest)
    trees_right no_tree depth rest f h = h
    trees_right (add_tree xs x) depth rest f h = trees_right xs depth (statement x depth rest) f.0 (tree_right x depth rest f.1 h)

  word_right : (is_atomic : Bool) (rest : Marks (List ℕ)) → Right rest → Right (location_word is_atomic ∷ rest)
  word_right true rest h behind = (tt, h false)
  word_right false rest h behind = (tt, h false)

  location_right : (x : RawLocation (List ℕ)) (rest : Marks (List ℕ)) → Right rest → Right (location x rest)
  location_right x rest h =
      word_right x.is_atomic (name x.name (plain t.Equals ∷ literal x.value (plain t.Semicolon ∷ rest))) (name_right x.name (plain t.Equals ∷ literal x.value (plain t.Semicolon ∷ rest)) (λ _. (tt, literal_right x.value (plain t.Semicolon ∷ rest) (λ _. (tt, h false)) false)))

  registers_right : (xs : Snoc (List ℕ)) (rest : Marks (List ℕ)) → Right rest → Right (registers xs rest)
  registers_right empty rest h behind = h behind
  registers_right (append xs x) rest h behind = (tt, listed_right name name_right xs x (plain t.Semicolon ∷ rest) (λ _. (tt, h false)) false)

  function_right : (f : Routine (List ℕ)) (rest : Marks (List ℕ)) → HaveRightFences f.body → Right rest → Right (function f rest)
  function_right f rest fences h behind = (
    tt,
    (
      tt,
      (
        tt,
        listed_if_any_right name name_right f.parameters _
            (λ _. (tt, (tt, registers_right f.registers _ (trees_right f.body 0 _ fences (λ _. (tt, atom_right f.result _ (λ _. (tt, (tt, h false))) false))) false))) false,
      ),
    ),
  )

  thread_right : (x : Thread (List ℕ)) (rest : Marks (List ℕ)) → Right rest → Right (thread x rest)
  thread_right x rest h behind =
      (tt, (tt, (tt, listed_if_any_right literal literal_right x.arguments _ (λ _. (tt, (tt, h false))) false)))

  -- one after another
  each_right : {X : Type 0} (spell : X → Marks (List ℕ) → Marks (List ℕ)) (P : X → Type 0) → ((x : X) (rest : Marks (List ℕ)) → P x → Right rest → Right (spell x rest)) → (xs : Snoc X) (rest : Marks (List ℕ)) → EachIs P xs → Right rest → Right (each spell xs rest)
  each_right spell P one empty rest f h = h
  each_right spell P one (append xs x) rest f h = each_right spell P one xs (spell x rest) f.0 (one x rest f.1 h)

  -- a text whose functions have right fences
  pub text_right : (p : TextTree (List ℕ)) → EachIs (λ (f : Routine (List ℕ)). HaveRightFences f.body) p.functions → StandRight false (tokens_of (spelling p))
  text_right p fences = (
    tt,
    (
      tt,
      each_right location (λ _. Unit {0}) (λ x rest _ h. location_right x rest h) p.locations _ (all_are p.locations)
          (each_right function (λ (f : Routine (List ℕ)). HaveRightFences f.body) function_right p.functions _ fences
          (each_right thread (λ _. Unit {0}) (λ x rest _ h. thread_right x rest h) p.threads [] (all_are p.threads) (λ _. tt))) false,
    ),
  )
