-- Rows with a pair more, and without some.
use Rattle.std.proofs.Common.{◌≡◌, ℕ, Bool, true, false, not, ◌&&◌, ◌||◌, eqb, List, [], ◌∷◌, ◌++◌, Some, refl, sym, ap, ◌∙◌, ⊎_elim}
use Rattle.std.proofs.lemmas.Bool.{false≢true, and_parts, or_cases, eqb-true, or_parts}
use Rattle.std.specs.List.{list_any}
use Rattle.il_syntax.specs.declared.statement.Atom.{Atom}
use Rattle.il_paths.specs.Atoms.{atoms_equal}
use Rattle.tidy.specs.declared.known.KnownPair.{KnownPair}
use Rattle.tidy.specs.Known.{touches}
use Rattle.tidy.specs.Rows.{is_pair, known_in}
use Rattle.il_paths.proofs.Callers.{atoms_equal-true}

-- a pair put to the end
pub known-push : (row : List KnownPair) (pair : KnownPair) (r : ℕ) (a : Atom) → known_in (row ++ pair ∷ []) r a ≡ (known_in row r a || is_pair r a pair)
known-push [] pair r a = alone (is_pair r a pair)
  where
    alone : (b : Bool) → (b || false) ≡ b
    alone true = refl
    alone false = refl
known-push (p ∷ row) pair r a = go (is_pair r a p) (known-push row pair r a)
  where
    go : (b : Bool) → known_in (row ++ pair ∷ []) r a ≡ (known_in row r a || is_pair r a pair) → (b || known_in (row ++ pair ∷ []) r a) ≡ ((b || known_in row r a) || is_pair r a pair)
    go true h = refl
    go false h = h

-- a pair that passes a test of its register and atom is kept, and another isn't
module _ (test : ℕ → Atom → Bool) (pair : KnownPair) (r : ℕ) (a : Atom) (rest new : Bool) (before : new ≡ (test r a && rest)) where
  same_test : is_pair r a pair ≡ true → test pair.r pair.a ≡ test r a
  same_test e =
      let parts = and_parts _ _ e in
      (λ i. test (eqb-true pair.r r parts.0 i) (sym (atoms_equal-true a pair.a parts.1) i))

  pub pair_kept : test pair.r pair.a ≡ true → (new || is_pair r a pair) ≡ (test r a && (is_pair r a pair || rest))
  pair_kept t = go (is_pair r a pair) (λ e. sym (same_test e) ∙ t)
    where
      go : (b : Bool) → (b ≡ true → test r a ≡ true) → (new || b) ≡ (test r a && (b || rest))
      go true h = last new ∙ sym (ap (λ (c : Bool). c && true) (h refl))
        where
          last : (c : Bool) → (c || true) ≡ true
          last true = refl
          last false = refl
      go false h = none new ∙ before
        where
          none : (c : Bool) → (c || false) ≡ c
          none true = refl
          none false = refl

  pub pair_left : test pair.r pair.a ≡ false → new ≡ (test r a && (is_pair r a pair || rest))
  pair_left t = go (is_pair r a pair) (λ e. sym (same_test e) ∙ t)
    where
      go : (b : Bool) → (b ≡ true → test r a ≡ false) → new ≡ (test r a && (b || rest))
      go true h = before ∙ ap (λ (c : Bool). c && rest) (h refl) ∙ sym (ap (λ (c : Bool). c && true) (h refl))
      go false h = before

-- where a register stands in no pair, nothing changes
unnamed : (row : List KnownPair) (k r : ℕ) (a : Atom) → list_any (λ pair. touches pair.r pair.a (Some k)) row ≡ false → known_in row r a ≡ true → touches r a (Some k) ≡ false
unnamed [] k r a e h = absurd (false≢true h)
unnamed (p ∷ row) k r a e h =
    let parts = or_parts (touches p.r p.a (Some k)) (list_any (λ pair. touches pair.r pair.a (Some k)) row) e in
    ⊎_elim
    (λ (m : is_pair r a p ≡ true). let same = and_parts (eqb p.r r) (atoms_equal a p.a) m in (λ i. touches (sym (eqb-true p.r r same.0) i) (atoms_equal-true a p.a same.1 i) (Some k)) ∙ parts.0)
    (λ (m : known_in row r a ≡ true). unnamed row k r a parts.1 m) (or_cases (is_pair r a p) (known_in row r a) h)

pub unnamed_stays : (row : List KnownPair) (k r : ℕ) (a : Atom) → list_any (λ pair. touches pair.r pair.a (Some k)) row ≡ false → known_in row r a ≡ (not (touches r a (Some k)) && known_in row r a)
unnamed_stays row k r a e = go (known_in row r a) refl
  where
    go : (b : Bool) → known_in row r a ≡ b → b ≡ (not (touches r a (Some k)) && b)
    go true h = sym (ap (λ (t : Bool). not t && true) (unnamed row k r a e h))
    go false h = none (not (touches r a (Some k)))
      where
        none : (c : Bool) → false ≡ (c && false)
        none true = refl
        none false = refl
