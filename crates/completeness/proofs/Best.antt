-- At each site each location has a least atom above nothing, or none: an atom that is above nothing was stored or loaded on
-- each path that leads there, so it is one of finitely many.
use Rattle.std.proofs.Common.{◌≡◌, ◌≢◌, ◌⊎◌, inl, inr, ⊎_elim, ℕ, zero, suc, ◌<◌, ◌≤◌, List, [], ◌∷◌, ◌++◌, slice_get, Option, Some, None, refl, sym, ap, ◌∙◌, subst, append_assoc}
use Rattle.std.specs.Prelude.{MatchOption}
use Rattle.std.specs.List.{AllByRecursion}
use Rattle.std.proofs.lemmas.Option.{none-some, same_Some}
use Rattle.il_syntax.specs.declared.statement.Atom.{Atom}
use Rattle.il_syntax.specs.declared.statement.Atom.TheVariants.{Reg}
use Rattle.il_syntax.specs.declared.statement.Stmt.TheOpen.{Skip, Copy, Compute, Load, Store, AtomicLoad, AtomicStore, Update, Fence, Print, If, While, Call}
use Rattle.il_syntax.specs.Statements.{Head}
use Rattle.il_paths.specs.Atoms.{AtMost, first_of}
use Rattle.il_paths.specs.Code.{Visit, Code, placed}
use Rattle.il_paths.specs.Meets.{fold_forward}
use Rattle.il_paths.specs.Paths.{IsPath}
use Rattle.il_paths.specs.Tree.{Tree, sites_of, heads_in}
use Rattle.il_paths.proofs.Callers.{at_most_self, at_most_trans, lower_is}
use Rattle.flow_facts.specs.declared.level.Kind.{Kind}
use Rattle.flow_facts.specs.declared.level.Level.{Level}
use Rattle.flow_facts.specs.declared.level.Level.TheVariants.{Nothing, Held, Fresh}
use Rattle.flow_facts.specs.Levels.{level_step, IsLevel}
use Rattle.flow_facts.specs.Rows.{IsAboveNothing, IsBest}
use Rattle.flow_facts.proofs.Callers.{levels_exist, levels_are_one, Came, by_store, by_load, kept, came}
use Rattle.validator.proofs.Callers.{visited_head}

-- the atom of the pair that a statement makes
abbrev made_atom : Head → Option Atom
made_atom (Load r x) = Some (Reg r)
made_atom (Store x a) = Some a
made_atom _ = None

abbrev with_atom : Option Atom → List Atom → List Atom
with_atom None atoms = atoms
with_atom (Some a) atoms = a ∷ atoms

abbrev atoms_of : List Head → List Atom
atoms_of [] = []
atoms_of (h ∷ hs) = with_atom (made_atom h) (atoms_of hs)

-- what holds of all of them holds of one that a statement makes

all_but : (P : Atom → Type 0) (o : Option Atom) (atoms : List Atom) → AllByRecursion P (with_atom o atoms) → AllByRecursion P atoms
all_but P None atoms h = h
all_but P (Some a) atoms h = h.1

the_first : (P : Atom → Type 0) (o : Option Atom) (atoms : List Atom) (a : Atom) → o ≡ Some a → AllByRecursion P (with_atom o atoms) → P a
the_first P None atoms a e h = absurd (none-some a e)
the_first P (Some b) atoms a e h = subst P (same_Some b a e) h.0

one_of : (P : Atom → Type 0) (hs : List Head) (k : ℕ) (h : Head) (a : Atom) → slice_get hs k ≡ Some h → made_atom h ≡ Some a → AllByRecursion P (atoms_of hs) → P a
one_of P [] k h a at e all = absurd (none-some h at)
one_of P (g ∷ hs) zero h a at e all = the_first P (made_atom g) (atoms_of hs) a (ap made_atom (same_Some g h at) ∙ e) all
one_of P (g ∷ hs) (suc k) h a at e all = one_of P hs k h a at e (all_but P (made_atom g) (atoms_of hs) all)

-- a statement of a path that makes the pair
record Makes (a : Atom) (p : List Visit) : Type 0 where
  before : List Visit
  visit : Visit
  after : List Visit
  is : p ≡ before ++ visit ∷ after
  makes : made_atom visit.head ≡ Some a

later : (a : Atom) (v : Visit) (p : List Visit) → Makes a p → Makes a (v ∷ p)
later a v p m = record { before = v ∷ m.before; visit = m.visit; after = m.after; is = ap (λ (q : List Visit). v ∷ q) m.is; makes = m.makes }

here : (a : Atom) (v : Visit) (p : List Visit) → made_atom v.head ≡ Some a → Makes a (v ∷ p)
here a v p e = record { before = []; visit = v; after = p; is = refl; makes = e }

module _ (kind : Kind) (x : ℕ) (a : Atom) where
  -- what is above nothing after a path was so before it, or is made on it
  made_on : (p : List Visit) (l : Level) → fold_forward (level_step kind x a) p l ≢ Nothing → (l ≢ Nothing) ⊎ Makes a p
  made_on [] l up = inl up
  made_on (v ∷ p) l up = ⊎_elim (λ k. go (came kind x a v.head l k)) (λ m. inr (later a v p m)) (made_on p (level_step kind x a v l) up)
    where
      go : Came x a v.head l (level_step kind x a v l) → (l ≢ Nothing) ⊎ Makes a (v ∷ p)
      go (by_store e f) = inr (here a v p (ap made_atom e))
      go (by_load r e f g) = inr (here a v p (ap made_atom e ∙ ap Some (sym f)))
      go (kept k) = inl k.above

module _ (kind : Kind) (t : Tree) (site : ℕ) (lt : site < sites_of t) (x : ℕ) where
  abbrev Above : Atom → Type 0
  Above a = IsAboveNothing (placed 0 t) site kind x a

  abbrev IsNothing : Atom → Type 0
  IsNothing a = IsLevel (placed 0 t) site kind x a Nothing

  above_of : (a : Atom) (m : Level) → IsLevel (placed 0 t) site kind x a m → m ≢ Nothing → Above a
  above_of a m is up l k e = up (levels_are_one kind x a (placed 0 t) site m l is k ∙ e)

  decided : (a : Atom) → IsNothing a ⊎ Above a
  decided a = go (levels_exist kind x a t site lt)
    where
      go : (l : Level) × IsLevel (placed 0 t) site kind x a l → IsNothing a ⊎ Above a
      go (Nothing, h) = inl h
      go (Held, h) = inr (above_of a Held h (λ e. cc))
      go (Fresh, h) = inr (above_of a Fresh h (λ e. cc))

  not_both : (a : Atom) → IsNothing a → Above a → ⊥
  not_both a h above = above Nothing h refl

  -- among these atoms the least, or none

  abbrev Least : List Atom → Option Atom → Type 0
  Least atoms best = MatchOption best (AllByRecursion IsNothing atoms) (λ b. Above b × AllByRecursion (λ a. Above a → AtMost b a) atoms)

  none_above : (b : Atom) (atoms : List Atom) → AllByRecursion IsNothing atoms → AllByRecursion (λ a. Above a → AtMost b a) atoms
  none_above b [] h = tt
  none_above b (a ∷ atoms) h = ((λ above. absurd (not_both a h.0 above)), none_above b atoms h.1)

  comes_before : (b c : Atom) (atoms : List Atom) → AtMost b c → AllByRecursion (λ a. Above a → AtMost c a) atoms → AllByRecursion (λ a. Above a → AtMost b a) atoms
  comes_before b c [] le h = tt
  comes_before b c (a ∷ atoms) le h = ((λ above. at_most_trans b c a le (h.0 above)), comes_before b c atoms le h.1)

  one_more : (a : Atom) (atoms : List Atom) → IsNothing a ⊎ Above a → (o : Option Atom) → Least atoms o → (best : Option Atom) × Least (a ∷ atoms) best
  one_more a atoms (inl h) None all = (None, (h, all))
  one_more a atoms (inl h) (Some b) all = (Some b, (all.0, ((λ above. absurd (not_both a h above)), all.1)))
  one_more a atoms (inr above) None all = (Some a, (above, ((λ k. at_most_self a), none_above a atoms all)))
  one_more a atoms (inr above) (Some b) all =
      ⊎_elim (λ first. (Some a, (above, ((λ k. at_most_self a), comes_before a b atoms first.1 all.1)))) (λ second. (Some b, (all.0, ((λ k. second.1), all.1)))) (lower_is a b)

  least : (atoms : List Atom) → (best : Option Atom) × Least atoms best
  least [] = (None, tt)
  least (a ∷ atoms) = let l = least atoms in one_more a atoms (decided a) l.0 l.1

  -- what is above nothing is one of them
  among : (P : Atom → Type 0) (a : Atom) → AllByRecursion P (atoms_of (heads_in t)) → Above a → P a
  among P a all above = go (levels_exist kind x a t site lt)
    where
      go : (l : Level) × IsLevel (placed 0 t) site kind x a l → P a
      go (l, h) =
          let p = h.reached.0 in
          let b = h.reached.1 in
          ⊎_elim (λ up. absurd (up refl))
          (λ m.
          let path : IsPath (placed 0 t) (m.before ++ (m.visit ∷ (m.after ++ (b.0 ∷ b.1)))) =
          subst (IsPath (placed 0 t)) (ap (λ (q : List Visit). q ++ (b.0 ∷ b.1)) m.is ∙ append_assoc m.before (m.visit ∷ m.after) (b.0 ∷ b.1)) b.3 in
          one_of P (heads_in t) m.visit.site m.visit.head a (visited_head t m.before m.visit (m.after ++ (b.0 ∷ b.1)) path) m.makes all)
          (made_on kind x a p Nothing (λ e. above l h (sym h.reached.2 ∙ e)))

  best_of : (best : Option Atom) → Least (atoms_of (heads_in t)) best → IsBest (placed 0 t) site kind x best
  best_of None all = λ a. ⊎_elim (λ h. h) (λ above. absurd (not_both a (among IsNothing a all above) above)) (decided a)
  best_of (Some b) all = (all.0, λ a above. among (λ c. Above c → AtMost b c) a all.1 above above)

  pub best_exists : (best : Option Atom) × IsBest (placed 0 t) site kind x best
  best_exists = let l = least (atoms_of (heads_in t)) in (l.0, best_of l.0 l.1)
