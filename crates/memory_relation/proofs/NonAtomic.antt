-- What the two sides know of one non-atomic location.
use Rattle.std.proofs.Common.{◌≡◌, ℕ, ◌<◌, ◌≤◌, true, false, List, length, get_or, Option, Some, None, Bool, refl, sym, ap, ◌∙◌, subst, arith, ◌⊎◌, inl, inr, ⊎_elim}
use Rattle.std.proofs.lemmas.Bool.{cond-true, cond-false, ltb-true, ltb-false, lt-ltb, le-ltb, cases_Bool}
use Rattle.values_undef.specs.Value.{IsBelow}
use Rattle.values_undef.specs.declared.value.Val.{Val}
use Rattle.values_undef.specs.declared.value.Val.TheVariants.{Undef}
use Rattle.values_undef.proofs.Callers.{below_undef}
use Rattle.memory_relation.specs.Images.{map_at}
use Rattle.memory_relation.proofs.Images.{rising_le}
use Rattle.views.specs.ThreadView.{ThreadView}
use Rattle.message_memory.specs.Memory.{Memory, location_in}
use Rattle.message_memory.specs.Step.{is_racy, read_value}
use Rattle.memory_relation.specs.Relation.{Pairing, owner, is_thread, hides, AreCellsRelated, AreMemoriesRelated, respected, AreTimesRelated, AreViewsRelated}
use Rattle.memory_relation.specs.Laws.{ReadsAreBelow, LoadsAreAnswered}
use Rattle.memory_relation.proofs.Owners.{goes_on}

-- the target has seen no more than the last version
pub target_within : (p : Pairing) (i : ℕ) (t s : Memory) (v w : List ℕ) (x : ℕ) → AreMemoriesRelated p t s → AreTimesRelated p i t s v w → x < length p.maps → get_or v x 0 ≤ (location_in t x).version
target_within p i t s v w x m r l = omega (arith, r.image.within x l, (m.cells x l).places)

-- nor has the source, more than the image of that
pub source_within : (p : Pairing) (i : ℕ) (t s : Memory) (v w : List ℕ) (x : ℕ) → AreMemoriesRelated p t s → AreTimesRelated p i t s v w → x < length p.maps → hides p i x ≡ false
    → get_or w x 0 ≤ get_or (map_at p.maps x) (location_in t x).version 0
source_within p i t s v w x m r l h =
    let c = m.cells x l in
    omega (arith, r.image.mapped x l h, rising_le (map_at p.maps x) (get_or v x 0) (location_in t x).version c.rising (target_within p i t s v w x m r l) (omega (arith, c.places)))

-- another thread has the location pending: the source is behind
pub pending_behind : (p : Pairing) (i j : ℕ) (t s : Memory) (v w : ThreadView) (x : ℕ) → AreMemoriesRelated p t s → AreViewsRelated p i t s v w → x < length p.maps → hides p i x ≡ false → owner p x ≡ Some j
    → is_racy s w x ≡ true
pending_behind p i j t s v w x m r l h e = lt-ltb _ _ (omega (arith, source_within p i t s (respected v) (respected w) x m r.cur l h, (m.cells x l).hidden j e))

-- nobody has it pending: both race, or none does
pub racy_same : (p : Pairing) (i : ℕ) (t s : Memory) (v w : ThreadView) (x : ℕ) → AreMemoriesRelated p t s → AreViewsRelated p i t s v w → x < length p.maps → owner p x ≡ None
    → is_racy s w x ≡ is_racy t v x
racy_same p i t s v w x m r l e =
    ⊎_elim
    (λ (b : is_racy t v x ≡ true). lt-ltb _ _ (omega (arith, mapped, c.settled e, c.rising.rises (get_or v.cur x 0) (location_in t x).version (ltb-true _ _ b) (omega (arith, c.places)))) ∙ sym b)
    (λ (b : is_racy t v x ≡ false). le-ltb _ _ (omega (arith, mapped, c.settled e, rising_le (map_at p.maps x) (location_in t x).version (get_or v.cur x 0) c.rising (ltb-false _ _ b) (r.cur.image.within x l))) ∙ sym b)
    (cases_Bool (is_racy t v x))
  where
    c : AreCellsRelated (map_at p.maps x) (owner p x) (location_in t x) (location_in s x)
    c = m.cells x l

    mapped : get_or w.cur x 0 ≡ get_or (map_at p.maps x) (get_or v.cur x 0) 0
    mapped = r.cur.image.mapped x l (ap (is_thread i) e)

pub reads_below : ReadsAreBelow
reads_below p i t s v w x m r l h = choose (owner p x) refl
  where
    both_sides : (b : Bool) → (b ≡ false) ⊎ (b ≡ true)
    both_sides false = inl refl
    both_sides true = inr refl

    choose : (o : Option ℕ) → owner p x ≡ o → IsBelow (read_value t v x) (read_value s w x)
    choose (Some j) e = below_undef (read_value t v x) (read_value s w x) (cond-true (is_racy s w x) Undef (location_in s x).value (pending_behind p i j t s v w x m r l h e))
    choose None e =
        ⊎_elim
        (λ (b : is_racy t v x ≡ false).
        subst (λ (d : Val). IsBelow d (read_value s w x)) (sym (cond-false (is_racy t v x) Undef (location_in t x).value b))
        (subst (IsBelow (location_in t x).value) (sym (cond-false (is_racy s w x) Undef (location_in s x).value (racy_same p i t s v w x m r l e ∙ b))) ((m.cells x l).value e)))
        (λ (b : is_racy t v x ≡ true).
        below_undef (read_value t v x) (read_value s w x) (cond-true (is_racy s w x) Undef (location_in s x).value (racy_same p i t s v w x m r l e ∙ b)))
        (both_sides (is_racy t v x))

pub loads_answered : LoadsAreAnswered
loads_answered p i t s v w x m r l h = record {
  legal = record { running = m.source_runs; admits = tt };
  cases = inr (
    refl,
    record {
      event = record { form = refl; values = (reads_below p i t s v w x m r l h, tt) };
      goes_on = goes_on p i t s t s v w refl refl m r;
    },
  );
}
