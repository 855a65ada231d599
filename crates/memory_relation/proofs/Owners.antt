-- Who has a location pending, and how related parts are moved.
use Rattle.std.proofs.Common.{◌≡◌, ℕ, ◌≤◌, true, false, List, get_or, Option, Some, None, refl, sym, ap, ◌∙◌, subst, arith}
use Rattle.std.proofs.lemmas.Bool.{eqb-true, ne_eqb, eq-eqb, false≢true}
use Rattle.message_memory.specs.declared.message.Versioned.{Versioned}
use Rattle.message_memory.specs.Memory.{Memory, absent_location}
use Rattle.views.specs.ThreadView.{ThreadView}
use Rattle.message_memory.specs.Step.{reach}
use Rattle.memory_relation.specs.Relation.{Pairing, is_thread, respected, AreCellsRelated, AreMemoriesRelated, AreTimesRelated, AreViewsRelated, GoesOn}

pub thread_owner : (i : ℕ) (o : Option ℕ) → is_thread i o ≡ true → o ≡ Some i
thread_owner i None e = absurd (false≢true e)
thread_owner i (Some j) e = ap (λ (k : ℕ). Some k) (eqb-true j i e)

pub owner_thread : (i : ℕ) (o : Option ℕ) → o ≡ Some i → is_thread i o ≡ true
owner_thread i o e = ap (is_thread i) e ∙ eq-eqb i i refl

pub none_thread : (i : ℕ) (o : Option ℕ) → o ≡ None → is_thread i o ≡ false
none_thread i o e = ap (is_thread i) e

pub other_thread : (i j : ℕ) (o : Option ℕ) → o ≡ Some j → (j ≡ i → ⊥) → is_thread i o ≡ false
other_thread i j o e h = ap (is_thread i) e ∙ ne_eqb j i h

-- what the source has written is no older than the image of what the target has
pub cell_le : (m : List ℕ) (o : Option ℕ) (t s : Versioned) → AreCellsRelated m o t s → get_or m t.version 0 ≤ s.version
cell_le m None t s c = omega (arith, c.settled refl)
cell_le m (Some j) t s c = omega (arith, c.hidden j refl)

pub cells_moved : (m m' : List ℕ) (o o' : Option ℕ) (t t' s s' : Versioned) → m' ≡ m → o' ≡ o → t' ≡ t → s' ≡ s → AreCellsRelated m o t s → AreCellsRelated m' o' t' s'
cells_moved m m' o o' t t' s s' a b c d r =
    subst (λ (x : List ℕ). AreCellsRelated x o' t' s') (sym a)
    (subst (λ (x : Option ℕ). AreCellsRelated m x t' s') (sym b)
    (subst (λ (x : Versioned). AreCellsRelated m o x s') (sym c)
    (subst (λ (x : Versioned). AreCellsRelated m o t x) (sym d) r)))

-- times are related in memories that have the same non-atomic locations, and so are views
pub times_moved : (p : Pairing) (i : ℕ) (t s t' s' : Memory) (v w : List ℕ) → t'.na ≡ t.na → s'.na ≡ s.na → AreTimesRelated p i t s v w → AreTimesRelated p i t' s' v w
times_moved p i t s t' s' v w e f r = record {
  image = r.image;
  target_last = λ x l h. r.target_last x l h ∙ sym (ap (λ a. (get_or a x absent_location).version) e);
  source_last = λ x l h. r.source_last x l h ∙ sym (ap (λ a. (get_or a x absent_location).version) f);
}

pub views_moved : (p : Pairing) (i : ℕ) (t s t' s' : Memory) (v w : ThreadView) → t'.na ≡ t.na → s'.na ≡ s.na → AreViewsRelated p i t s v w → AreViewsRelated p i t' s' v w
views_moved p i t s t' s' v w e f r = record {
  cur = times_moved p i t s t' s' (respected v) (respected w) e f r.cur;
  got = times_moved p i t s t' s' (reach v) (reach w) e f r.got;
  rel = r.rel;
}

-- so the relation goes on where maps, owners and non-atomic locations stay
pub goes_on : (p : Pairing) (i : ℕ) (t s t' s' : Memory) (v w : ThreadView) → t'.na ≡ t.na → s'.na ≡ s.na → AreMemoriesRelated p t' s' → AreViewsRelated p i t s v w → GoesOn p p i t s t' s' v w
goes_on p i t s t' s' v w e f m r = record {
  memories = m;
  views = views_moved p i t s t' s' v w e f r;
  others = λ j h v w q. views_moved p j t s t' s' v w e f q;
  pending = λ j h x l. refl;
}
