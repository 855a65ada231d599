-- What the code finds is the least.
use Rattle.std.proofs.Common.{◌≡◌, ◌<◌, ℕ, Bool, true, false, cond, eqb, List, [], ◌∷◌, get_or, Option, Some, None, refl, sym, subst, ⊎_elim, ◌⊎◌, inl, inr}
use Rattle.std.proofs.lemmas.Bool.{false≢true, or_cases, or_left, or_right, and_parts, and_from, both_ways}
use Rattle.std.proofs.lemmas.Option.{none-some, same_Some}
use Rattle.il_syntax.specs.declared.statement.Atom.{Atom}
use Rattle.il_syntax.specs.declared.program.Function.{Function}
use Rattle.il_paths.specs.Atoms.{atoms_equal, AtMost, comes_first, first_of}
use Rattle.il_paths.specs.Tree.{tree_of, sites_of}
use Rattle.il_paths.proofs.Callers.{atoms_equal-true, atoms_equal-refl, at_most_self, at_most_trans, lower_is, first_is_least}
use Rattle.tidy.specs.declared.known.KnownPair.{KnownPair}
use Rattle.tidy.specs.Known.{IsKnown, IsKnownAtEnd}
use Rattle.tidy.specs.Propagated.{IsLeast}
use Rattle.tidy.specs.Rows.{is_pair, known_in, AreKnownRows, IsLastRow}
use Rattle.tidy.specs.Least.{least_in, least_at}

-- the same is said of the least by words that mean the same
pub least_by : (P Q : Atom → Type 0) (o : Option Atom) → ((a : Atom) → P a → Q a) → ((a : Atom) → Q a → P a) → IsLeast P o → IsLeast Q o
least_by P Q None f g h = λ a q. h a (g a q)
least_by P Q (Some b) f g h = (f b h.0, λ a q. h.1 a (g a q))

first_is_below : (a b : Atom) → AtMost (first_of a (Some b)) b
first_is_below a b = go (lower_is a b)
  where
    go : ((first_of a (Some b) ≡ a) × AtMost a b) ⊎ ((first_of a (Some b) ≡ b) × AtMost b a) → AtMost (first_of a (Some b)) b
    go (inl h) = subst (λ (c : Atom). AtMost c b) (sym h.0) h.1
    go (inr h) = subst (λ (c : Atom). AtMost c b) (sym h.0) (at_most_self b)

one_of : (P : Atom → Type 0) (a : Atom) (o : Option Atom) → P a → ((b : Atom) → o ≡ Some b → P b) → P (first_of a o)
one_of P a None p f = p
one_of P a (Some b) p f = go (comes_first a b)
  where
    go : (c : Bool) → P (cond c a b)
    go true = p
    go false = f b refl

-- it is least of what the row knows
pub least_is : (row : List KnownPair) (r : ℕ) → IsLeast (λ a. known_in row r a ≡ true) (least_in row r)
least_is [] r = λ a e. false≢true e
least_is (p ∷ row) r = go (eqb p.r r) refl (least_in row r) (least_is row r)
  where
    go : (b : Bool) → eqb p.r r ≡ b → (o : Option Atom) → IsLeast (λ a. known_in row r a ≡ true) o → IsLeast (λ a. known_in (p ∷ row) r a ≡ true) (cond b (Some (first_of p.a o)) o)
    go true e o h = (one_of (λ a. known_in (p ∷ row) r a ≡ true) p.a o (or_left (is_pair r p.a p) (known_in row r p.a) (and_from (eqb p.r r) (atoms_equal p.a p.a) e (atoms_equal-refl p.a))) (λ b f. or_right (is_pair r b p) (known_in row r b) (in_row o h b f)), λ a k. at_most o h a k)
      where
        in_row : (o : Option Atom) → IsLeast (λ a. known_in row r a ≡ true) o → (b : Atom) → o ≡ Some b → known_in row r b ≡ true
        in_row None h b f = absurd (none-some b f)
        in_row (Some c) h b f = subst (λ (a : Atom). known_in row r a ≡ true) (same_Some c b f) h.0

        below : (o : Option Atom) → IsLeast (λ a. known_in row r a ≡ true) o → (a : Atom) → known_in row r a ≡ true → AtMost (first_of p.a o) a
        below None h a k = absurd (h a k)
        below (Some c) h a k = at_most_trans (first_of p.a (Some c)) c a (first_is_below p.a c) (h.1 a k)

        at_most : (o : Option Atom) → IsLeast (λ a. known_in row r a ≡ true) o → (a : Atom) → known_in (p ∷ row) r a ≡ true → AtMost (first_of p.a o) a
        at_most o h a k =
            ⊎_elim (λ (m : is_pair r a p ≡ true). subst (AtMost (first_of p.a o)) (sym (atoms_equal-true a p.a (and_parts (eqb p.r r) (atoms_equal a p.a) m).1)) (first_is_least p.a o))
            (λ (m : known_in row r a ≡ true). below o h a m) (or_cases (is_pair r a p) (known_in row r a) k)
    go false e o h =
        least_by (λ a. known_in row r a ≡ true) (λ a. known_in (p ∷ row) r a ≡ true) o (λ a k. or_right (is_pair r a p) (known_in row r a) k)
        (λ a k. ⊎_elim (λ (m : is_pair r a p ≡ true). absurd (both_ways (eqb p.r r) e (and_parts (eqb p.r r) (atoms_equal a p.a) m).0)) (λ (m : known_in row r a ≡ true). m) (or_cases (is_pair r a p) (known_in row r a) k)) h

-- so where rows have what is known, it is the least known
pub least_known : (f : Function) (rows : List (List KnownPair)) → AreKnownRows f rows → (site r : ℕ) → site < sites_of (tree_of f.body) → IsLeast (IsKnown f site r) (least_at rows site r)
least_known f rows h site r l =
    least_by (λ a. known_in (get_or rows site []) r a ≡ true) (IsKnown f site r) (least_at rows site r) (λ a. (h site r a l).0) (λ a. (h site r a l).1) (least_is (get_or rows site []) r)

pub least_at_end : (f : Function) (row : List KnownPair) → IsLastRow f row → (r : ℕ) → IsLeast (IsKnownAtEnd f r) (least_in row r)
least_at_end f row h r = least_by (λ a. known_in row r a ≡ true) (IsKnownAtEnd f r) (least_in row r) (λ a. (h r a).0) (λ a. (h r a).1) (least_is row r)
