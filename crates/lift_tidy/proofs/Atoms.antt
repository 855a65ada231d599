-- Atoms that stand for others have their values, and statements with such atoms do the same.
use Rattle.std.proofs.Common.{◌≡◌, ℕ, true, List, [], ◌∷◌, map, get_or, refl, sym, ap, ◌∙◌}
use Rattle.std.proofs.lemmas.Bool.{or_left, or_right}
use Rattle.std.specs.List.{AllZip}
use Rattle.values_undef.specs.Arithmetic.{result_of}
use Rattle.values_undef.specs.declared.value.Val.{Val}
use Rattle.values_undef.specs.declared.access.UpdateKind.{UpdateKind}
use Rattle.values_undef.specs.declared.access.UpdateKind.TheVariants as kind
use Rattle.values_undef.specs.declared.access.Access.TheVariants as access
use Rattle.il_syntax.specs.declared.statement.Atom.{Atom}
use Rattle.il_syntax.specs.declared.statement.Atom.TheVariants.{Const, Reg}
use Rattle.il_syntax.specs.declared.statement.Rmw.{Rmw}
use Rattle.il_syntax.specs.declared.statement.Rmw.TheVariants.{Add, Swap, Cas}
use Rattle.il_syntax.specs.declared.statement.Stmt.TheOpen.{Skip, Copy, Compute, Load, Store, AtomicLoad, AtomicStore, Update, Fence, Print, If, While, Call}
use Rattle.il_syntax.specs.Statements.{Head}
use Rattle.thread_core.specs.declared.next.Next.TheVariants as next
use Rattle.thread_core.specs.Frames.{evaluated, evaluated_kind, decided, computed, next_print, next_at}
use Rattle.il_paths.specs.Atoms.{atoms_equal}
use Rattle.tidy.specs.Atoms.{among_atoms, atoms_of_update, atoms_in, update_with, with_atoms}
use Rattle.tidy.specs.Accepts.{StandsFor, same, known_for}
use Rattle.il_paths.proofs.Callers.{atoms_equal-refl}

-- the second atom has in the target the value of the first in the source
abbrev pub HasValueOf : List Val → List Val → Atom → Atom → Type 0
HasValueOf ts ss a b = evaluated ts b ≡ evaluated ss a

module _ (ts ss : List Val) where
  atom_agrees : (b : Atom) → ((k : ℕ) → atoms_equal b (Reg k) ≡ true → evaluated ts (Reg k) ≡ evaluated ss (Reg k)) → evaluated ts b ≡ evaluated ss b
  atom_agrees (Const n) h = refl
  atom_agrees (Reg k) h = h k (atoms_equal-refl (Reg k))

  module _ (known : ℕ → Atom → Type 0) (holds : (r : ℕ) (a : Atom) → known r a → evaluated ss (Reg r) ≡ evaluated ss a) where
    pub stands : (a b : Atom) → StandsFor known a b → ((k : ℕ) → atoms_equal b (Reg k) ≡ true → evaluated ts (Reg k) ≡ evaluated ss (Reg k)) → HasValueOf ts ss a b
    stands a b (same e) h = atom_agrees b h ∙ ap (evaluated ss) (sym e)
    stands a b (known_for r e k) h = atom_agrees b h ∙ sym (holds r b k) ∙ ap (evaluated ss) (sym e)

    pub all_stand : (xs bs : List Atom) → AllZip (StandsFor known) xs bs → ((k : ℕ) → among_atoms k bs ≡ true → evaluated ts (Reg k) ≡ evaluated ss (Reg k)) → AllZip (HasValueOf ts ss) xs bs
    all_stand [] [] z h = tt
    all_stand [] (b ∷ bs) z h = absurd z
    all_stand (a ∷ xs) [] z h = absurd z
    all_stand (a ∷ xs) (b ∷ bs) z h = (
      stands a b z.0 (λ k e. h k (or_left (atoms_equal b (Reg k)) (among_atoms k bs) e)),
      all_stand xs bs z.1 (λ k e. h k (or_right (atoms_equal b (Reg k)) (among_atoms k bs) e)),
    )

  -- the first atom of a list, and the second
  pub first_value : (a d : Atom) (rest bs : List Atom) → AllZip (HasValueOf ts ss) (a ∷ rest) bs → evaluated ts (get_or bs 0 d) ≡ evaluated ss a
  first_value a d rest [] z = absurd z
  first_value a d rest (b ∷ bs) z = z.0

  pub second_value : (a c d : Atom) (rest bs : List Atom) → AllZip (HasValueOf ts ss) (a ∷ c ∷ rest) bs → evaluated ts (get_or bs 1 d) ≡ evaluated ss c
  second_value a c d rest [] z = absurd z
  second_value a c d rest (b ∷ bs) z = first_value c d rest bs z.1

  pub all_values : (xs bs : List Atom) → AllZip (HasValueOf ts ss) xs bs → map (evaluated ts) bs ≡ map (evaluated ss) xs
  all_values [] [] z = refl
  all_values [] (b ∷ bs) z = absurd z
  all_values (a ∷ xs) [] z = absurd z
  all_values (a ∷ xs) (b ∷ bs) z = λ i. z.0 i ∷ all_values xs bs z.1 i

  kind_same : (k : Rmw) (bs : List Atom) → AllZip (HasValueOf ts ss) (atoms_of_update k) bs → evaluated_kind ts (update_with k bs) ≡ evaluated_kind ss k
  kind_same (Add a) bs z = ap (λ (v : Val). kind.Add v) (first_value a a [] bs z)
  kind_same (Swap a) bs z = ap (λ (v : Val). kind.Swap v) (first_value a a [] bs z)
  kind_same (Cas a c) bs z = λ i. kind.Cas (first_value a a (c ∷ []) bs z i) (second_value a c c [] bs z i)

  -- the statement wants the same
  pub next_same : (depth : ℕ) (h : Head) (bs : List Atom) → AllZip (HasValueOf ts ss) (atoms_in h) bs → next_at ts depth (with_atoms h bs) ≡ next_at ss depth h
  next_same depth Skip bs z = refl
  next_same depth (Copy r a) bs z = refl
  next_same depth (Compute r op a b) bs z = λ i. computed (result_of op (first_value a a (b ∷ []) bs z i) (second_value a b b [] bs z i))
  next_same depth (Load r x) bs z = refl
  next_same depth (Store x a) bs z = ap (λ (v : Val). next.Access (access.NaWrite x v)) (first_value a a [] bs z)
  next_same depth (AtomicLoad r order y) bs z = refl
  next_same depth (AtomicStore order y a) bs z = ap (λ (v : Val). next.Access (access.Write y order v)) (first_value a a [] bs z)
  next_same depth (Update r order y k) bs z = ap (λ (u : UpdateKind). next.Access (access.Update y order u)) (kind_same k bs z)
  next_same depth (Fence order) bs z = refl
  next_same depth (Print a) bs z = ap next_print (first_value a a [] bs z)
  next_same depth (If a _ _) bs z = ap decided (first_value a a [] bs z)
  next_same depth (While a _) bs z = ap decided (first_value a a [] bs z)
  next_same depth (Call r f args) bs z = refl
