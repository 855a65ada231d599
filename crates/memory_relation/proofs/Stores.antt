-- A store to a non-atomic location, on both sides or in the source alone.
use Rattle.std.proofs.Common.{◌≡◌, ℕ, ◌<◌, ◌≤◌, ◌++◌, true, false, cond, eqb, List, [], ◌∷◌, length, get_or, replicate, set, Option, Some, None, refl, sym, ap, ◌∙◌, subst, arith, ◌⊎◌, inl, inr, ⊎_elim}
use Rattle.std.proofs.lemmas.Bool.{cond-true, cond-false, cond_both, ne_eqb, eq-eqb, cases_Bool, cases_eq, cases_lt, false≢true, both_ways, ltb-false, le-ltb}
use Rattle.std.proofs.lemmas.Option.{none-some}
use Rattle.std.proofs.lemmas.List.{length-set, length-append, get_or-set_same, get_or-set_other, get_or_at, get_or-replicate, get_or_past, length-replicate}
use Rattle.values_undef.specs.Value.{IsBelow}
use Rattle.values_undef.specs.declared.value.Val.{Val}
use Rattle.values_undef.specs.declared.access.Access.TheVariants.{NaWrite}
use Rattle.values_undef.specs.declared.access.Choice.TheVariants.{Plain}
use Rattle.views.specs.Timestamps.{raised}
use Rattle.views.specs.ThreadView.{ThreadView, raised_view}
use Rattle.memory_relation.specs.Images.{map_at, with_number, nowhere}
use Rattle.memory_relation.proofs.Images.{rising_more, image_but, image_more, image_raise_new, image_hide, with_number_same, with_number_other, length-with_number}
use Rattle.views.proofs.Callers.{get_or-raised_same, get_or-raised_other}
use Rattle.message_memory.specs.declared.message.Message.{Message as TheMessage}
use Rattle.message_memory.specs.declared.message.Versioned.{Versioned}
use Rattle.message_memory.specs.Memory.{Memory, location_in, absent_location, messages, IsClosed, IsClosedView}
use Rattle.message_memory.specs.Step.{StepResult, step_result, is_racy, reach, carried}
use Rattle.message_memory.proofs.Callers.{parts_ordered, zip_more}
use Rattle.memory_relation.specs.Relation.{Pairing, owner, is_thread, hides, AreCellsRelated, AreMessagesRelated, AreMemoriesRelated, respected, AreTimesRelated, AreViewsRelated, GoesOn, next, settle, hide, opening_pairing}
use Rattle.memory_relation.specs.Answering.{IsFailed, IsMatch}
use Rattle.memory_relation.specs.Laws.{StoresAreAnswered, StoresAreRelated, StoresSettle, StoresAreBlocked, StoresAreRemoved, PendingFollows}
use Rattle.memory_relation.proofs.Owners.{owner_thread, none_thread, other_thread, cell_le, cells_moved}
use Rattle.memory_relation.proofs.Histories.{cond_others}
use Rattle.memory_relation.proofs.NonAtomic.{target_within, pending_behind, racy_same}

-- the memory after a store that is no race
abbrev pub stored : Memory → ℕ → Val → Memory
stored m x n = record m { na = set m.na x (record { value = n; version = next m x }) }

stored_same : (m : Memory) (x : ℕ) (n : Val) → x < length m.na → location_in (stored m x n) x ≡ record { value = n; version = next m x }
stored_same m x n l = get_or-set_same m.na x (record { value = n; version = next m x }) absent_location l

stored_other : (m : Memory) (x z : ℕ) (n : Val) → (z ≡ x → ⊥) → location_in (stored m x n) z ≡ location_in m z
stored_other m x z n e = get_or-set_other m.na x z (record { value = n; version = next m x }) absent_location e

owner_same : (p : Pairing) (x : ℕ) (o : Option ℕ) → x < length p.owners → get_or (set p.owners x o) x None ≡ o
owner_same p x o l = get_or-set_same p.owners x o None l

owner_other : (p : Pairing) (x z : ℕ) (o : Option ℕ) → (z ≡ x → ⊥) → get_or (set p.owners x o) z None ≡ owner p z
owner_other p x z o e = get_or-set_other p.owners x z o None e

-- both threads are at the last version by these times, and nobody else has the location pending
pub record MayStore (p : Pairing) (i : ℕ) (t s : Memory) (v w : List ℕ) (x : ℕ) : Type 0 where
  pub target_last : get_or v x 0 ≡ (location_in t x).version
  pub source_last : get_or w x 0 ≡ (location_in s x).version
  pub free : (j : ℕ) → (j ≡ i → ⊥) → hides p j x ≡ false

may_own : (p : Pairing) (i : ℕ) (t s : Memory) (v w : List ℕ) (x : ℕ) → AreTimesRelated p i t s v w → x < length p.maps → owner p x ≡ Some i → MayStore p i t s v w x
may_own p i t s v w x r l e = record {
  target_last = r.target_last x l (owner_thread i (owner p x) e);
  source_last = r.source_last x l (owner_thread i (owner p x) e);
  free = λ j h. other_thread j i (owner p x) e (λ same. h (sym same));
}

-- the target knows the last version, and nobody has the location pending: so does the source
may_unowned : (p : Pairing) (i : ℕ) (t s : Memory) (v w : List ℕ) (x : ℕ) → AreMemoriesRelated p t s → AreTimesRelated p i t s v w → x < length p.maps → owner p x ≡ None → (location_in t x).version ≤ get_or v x 0 → MayStore p i t s v w x
may_unowned p i t s v w x m r l e a =
    let last : get_or v x 0 ≡ (location_in t x).version = omega (arith, a, target_within p i t s v w x m r l) in
    record {
      target_last = last;
      source_last = r.image.mapped x l (none_thread i (owner p x) e) ∙ ap (λ (k : ℕ). get_or (map_at p.maps x) k 0) last ∙ (m.cells x l).settled e;
      free = λ j h. none_thread j (owner p x) e;
    }

-- it is so of what the threads respect, and of what they may come to respect
pub record MayBothStore (p : Pairing) (i : ℕ) (t s : Memory) (v w : ThreadView) (x : ℕ) : Type 0 where
  pub cur : MayStore p i t s (respected v) (respected w) x
  pub got : MayStore p i t s (reach v) (reach w) x

both_own : (p : Pairing) (i : ℕ) (t s : Memory) (v w : ThreadView) (x : ℕ) → AreViewsRelated p i t s v w → x < length p.maps → owner p x ≡ Some i → MayBothStore p i t s v w x
both_own p i t s v w x r l e = record { cur = may_own p i t s (respected v) (respected w) x r.cur l e; got = may_own p i t s (reach v) (reach w) x r.got l e }

-- what a thread may come to respect lies between what it respects and the last version
both_unowned : (p : Pairing) (i : ℕ) (t s : Memory) (v w : ThreadView) (x : ℕ) → AreMemoriesRelated p t s → AreViewsRelated p i t s v w → IsClosedView t v → x < length p.maps → owner p x ≡ None → is_racy t v x ≡ false → MayBothStore p i t s v w x
both_unowned p i t s v w x m r closed l e a =
    let last : (location_in t x).version ≤ get_or v.cur x 0 = ltb-false _ _ a in
    record {
      cur = may_unowned p i t s (respected v) (respected w) x m r.cur l e last;
      got = may_unowned p i t s (reach v) (reach w) x m r.got l e (omega (arith, last, parts_ordered v.cur v.got x closed.ordered.got_length closed.ordered.got_above));
    }

-- ---- on both sides

-- what is hidden after it was hidden before, and elsewhere
settle_hides : (p : Pairing) (x n j z : ℕ) → x < length p.owners → hides (settle p x n) j z ≡ true → (z ≡ x → ⊥) × (hides p j z ≡ true)
settle_hides p x n j z l h =
    let other : z ≡ x → ⊥ = λ e. false≢true (sym (ap (is_thread j) (ap (λ (k : ℕ). get_or (set p.owners x None) k None) e ∙ owner_same p x None l)) ∙ h) in
    (other, sym (ap (is_thread j) (owner_other p x z None other)) ∙ h)

settle_shows : (p : Pairing) (x n j z : ℕ) → (z ≡ x → ⊥) → hides (settle p x n) j z ≡ false → hides p j z ≡ false
settle_shows p x n j z e h = sym (ap (is_thread j) (owner_other p x z None e)) ∙ h

-- what others have pending stays
settle_others : (p : Pairing) (x n j z : ℕ) → x < length p.owners → hides p j x ≡ false → hides (settle p x n) j z ≡ hides p j z
settle_others p x n j z l free =
    ⊎_elim
    (λ (e : z ≡ x). ap (hides (settle p x n) j) e ∙ ap (is_thread j) (owner_same p x None l) ∙ sym free ∙ ap (hides p j) (sym e))
    (λ (e : z ≡ x → ⊥). ap (is_thread j) (owner_other p x z None e))
    (cases_eq z x)

settled_memories : (p : Pairing) (t s : Memory) (x : ℕ) (a b : Val) → AreMemoriesRelated p t s → x < length p.maps → IsBelow a b → AreMemoriesRelated (settle p x (next s x)) (stored t x a) (stored s x b)
settled_memories p t s x a b m l below = record {
  target_places = length-set t.na x _ ∙ m.target_places ∙ sym longer;
  source_places = length-set s.na x _ ∙ m.source_places ∙ sym longer;
  owner_places = length-set p.owners x None ∙ m.owner_places ∙ sym longer;
  cells = λ z h.
      ⊎_elim
      (λ (e : z ≡ x). subst (λ (k : ℕ). AreCellsRelated (map_at (with_number p.maps x n) k) (owner (settle p x n) k) (location_in (stored t x a) k) (location_in (stored s x b) k)) (sym e) here)
      (λ (e : z ≡ x → ⊥).
      cells_moved _ _ _ _ _ _ _ _ (with_number_other p.maps x n z e) (owner_other p x z None e) (stored_other t x z a e) (stored_other s x z b e) (m.cells z (omega (arith, longer))))
      (cases_eq z x);
  atomic = m.atomic;
  histories = λ y. zip_more (AreMessagesRelated p.maps) (AreMessagesRelated (with_number p.maps x n))
      (λ (k k' : TheMessage) q. record { from = q.from; to = q.to; value = q.value; times = image_more p.maps (λ z. false) k.times k'.times x n l q.times }) (messages t y) (messages s y) (m.histories y);
  outputs = m.outputs;
  target_runs = m.target_runs;
  source_runs = m.source_runs;
}
  where
    n : ℕ
    n = next s x

    longer : length (with_number p.maps x n) ≡ length p.maps
    longer = length-with_number p.maps x n

    c : AreCellsRelated (map_at p.maps x) (owner p x) (location_in t x) (location_in s x)
    c = m.cells x l

    new : AreCellsRelated (map_at p.maps x ++ n ∷ []) None (record { value = a; version = next t x }) (record { value = b; version = n })
    new = record {
      rising = rising_more (map_at p.maps x) (location_in t x).version n c.rising c.places (omega (arith, cell_le (map_at p.maps x) (owner p x) (location_in t x) (location_in s x) c));
      places = omega (arith, length-append (map_at p.maps x) (n ∷ []), c.places);
      settled = λ e. get_or_at (map_at p.maps x) n [] 0 (next t x) c.places;
      value = λ e. below;
      hidden = λ j e. absurd (none-some j e);
    }

    here : AreCellsRelated (map_at (with_number p.maps x n) x) (owner (settle p x n) x) (location_in (stored t x a) x) (location_in (stored s x b) x)
    here =
        cells_moved _ _ _ _ _ _ _ _ (with_number_same p.maps x n l) (owner_same p x None (omega (arith, m.owner_places)))
        (stored_same t x a (omega (arith, m.target_places))) (stored_same s x b (omega (arith, m.source_places))) new

pub settled_times : (p : Pairing) (i : ℕ) (t s : Memory) (v w : List ℕ) (x : ℕ) (a b : Val) → AreMemoriesRelated p t s → AreTimesRelated p i t s v w → IsClosed t v → x < length p.maps → MayStore p i t s v w x
    → AreTimesRelated (settle p x (next s x)) i (stored t x a) (stored s x b) (raised v x (next t x)) (raised w x (next s x))
settled_times p i t s v w x a b m r covers l may = record {
  image = image_raise_new p.maps (hides p i) (hides (settle p x (next s x)) i) v w x (next t x) (next s x) l (omega (arith, covers.locations, m.target_places))
      (sym (m.cells x l).places) (omega (arith, may.source_last)) (settle_shows p x (next s x) i) r.image;
  target_last = λ z h k.
      let other = settle_hides p x (next s x) i z in_owners k in
      get_or-raised_other v x (next t x) z other.0 ∙ r.target_last z (omega (arith, length-with_number p.maps x (next s x))) other.1 ∙ sym (ap (λ (c : Versioned). c.version) (stored_other t x z a other.0));
  source_last = λ z h k.
      let other = settle_hides p x (next s x) i z in_owners k in
      get_or-raised_other w x (next s x) z other.0 ∙ r.source_last z (omega (arith, length-with_number p.maps x (next s x))) other.1 ∙ sym (ap (λ (c : Versioned). c.version) (stored_other s x z b other.0));
}
  where
    in_owners : x < length p.owners
    in_owners = omega (arith, m.owner_places)

pub settled_others_times : (p : Pairing) (i : ℕ) (t s : Memory) (x : ℕ) (a b : Val) (j : ℕ) (v w : List ℕ) → AreMemoriesRelated p t s → x < length p.maps → hides p j x ≡ false → AreTimesRelated p j t s v w
    → AreTimesRelated (settle p x (next s x)) j (stored t x a) (stored s x b) v w
settled_others_times p i t s x a b j v w m l free r = record {
  image = image_but (with_number p.maps x n) (hides p j) (hides (settle p x n) j) v w
      (λ z h k. ⊎_elim (λ (e : z ≡ x). ap (hides p j) e ∙ free) (λ (e : z ≡ x → ⊥). settle_shows p x n j z e k) (cases_eq z x)) (image_more p.maps (hides p j) v w x n l r.image);
  target_last = λ z h k.
      let other = settle_hides p x n j z in_owners k in
      r.target_last z (omega (arith, length-with_number p.maps x n)) other.1 ∙ sym (ap (λ (c : Versioned). c.version) (stored_other t x z a other.0));
  source_last = λ z h k.
      let other = settle_hides p x n j z in_owners k in
      r.source_last z (omega (arith, length-with_number p.maps x n)) other.1 ∙ sym (ap (λ (c : Versioned). c.version) (stored_other s x z b other.0));
}
  where
    n : ℕ
    n = next s x

    in_owners : x < length p.owners
    in_owners = omega (arith, m.owner_places)

settled_views : (p : Pairing) (i : ℕ) (t s : Memory) (v w : ThreadView) (x : ℕ) (a b : Val) → AreMemoriesRelated p t s → AreViewsRelated p i t s v w → IsClosedView t v → x < length p.maps → MayBothStore p i t s v w x
    → AreViewsRelated (settle p x (next s x)) i (stored t x a) (stored s x b) (raised_view v x (next t x)) (raised_view w x (next s x))
settled_views p i t s v w x a b m r closed l may = record {
  cur = settled_times p i t s (respected v) (respected w) x a b m r.cur closed.cur l may.cur;
  got = settled_times p i t s (reach v) (reach w) x a b m r.got closed.got l may.got;
  rel = image_more p.maps nowhere (carried v) (carried w) x (next s x) l r.rel;
}

settled_others : (p : Pairing) (i : ℕ) (t s : Memory) (x : ℕ) (a b : Val) (j : ℕ) (v w : ThreadView) → AreMemoriesRelated p t s → x < length p.maps → hides p j x ≡ false → AreViewsRelated p j t s v w
    → AreViewsRelated (settle p x (next s x)) j (stored t x a) (stored s x b) v w
settled_others p i t s x a b j v w m l free r = record {
  cur = settled_others_times p i t s x a b j (respected v) (respected w) m l free r.cur;
  got = settled_others_times p i t s x a b j (reach v) (reach w) m l free r.got;
  rel = image_more p.maps nowhere (carried v) (carried w) x (next s x) l r.rel;
}

-- a store that is made on both sides
pub store_matches : (p : Pairing) (i : ℕ) (t s : Memory) (v w : ThreadView) (x : ℕ) (a b : Val) → AreMemoriesRelated p t s → AreViewsRelated p i t s v w → IsClosedView t v → x < length p.maps → IsBelow a b → MayBothStore p i t s v w x
    → IsMatch p (settle p x (next s x)) i t s (step_result t v i (NaWrite x a) Plain) (step_result s w i (NaWrite x b) Plain)
store_matches p i t s v w x a b m r covers l below may =
    cond_others (IsMatch p (settle p x (next s x)) i t s) (is_racy t v x) (is_racy s w x) _ _ _ _ (le-ltb _ _ (omega (arith, may.cur.target_last))) (le-ltb _ _ (omega (arith, may.cur.source_last)))
    (record {
      event = record { form = refl; values = (below, tt) };
      goes_on = record {
        memories = settled_memories p t s x a b m l below;
        views = settled_views p i t s v w x a b m r covers l may;
        others = λ j h v w q. settled_others p i t s x a b j v w m l (may.cur.free j h) q;
        pending = λ j h z k. settle_others p x (next s x) j z (omega (arith, m.owner_places)) (may.cur.free j h);
      };
    })

-- ---- in the source alone

hide_shows : (p : Pairing) (x i j z : ℕ) → (z ≡ x → ⊥) → hides (hide p x i) j z ≡ hides p j z
hide_shows p x i j z e = ap (is_thread j) (owner_other p x z (Some i) e)

hide_own : (p : Pairing) (x i j : ℕ) → x < length p.owners → hides (hide p x i) j x ≡ eqb i j
hide_own p x i j l = ap (is_thread j) (owner_same p x (Some i) l)

hide_others : (p : Pairing) (x i j z : ℕ) → x < length p.owners → (j ≡ i → ⊥) → hides p j x ≡ false → hides (hide p x i) j z ≡ hides p j z
hide_others p x i j z l h free =
    ⊎_elim
    (λ (e : z ≡ x). ap (hides (hide p x i) j) e ∙ hide_own p x i j l ∙ ne_eqb i j (λ s. h (sym s)) ∙ sym free ∙ ap (hides p j) (sym e))
    (λ (e : z ≡ x → ⊥). hide_shows p x i j z e)
    (cases_eq z x)

-- what another thread hides after it hid before
hide_other : (p : Pairing) (x i j z : ℕ) → x < length p.owners → (j ≡ i → ⊥) → hides (hide p x i) j z ≡ true → z ≡ x → ⊥
hide_other p x i j z l h k e = both_ways (hides (hide p x i) j z) (ap (hides (hide p x i) j) e ∙ hide_own p x i j l ∙ ne_eqb i j (λ s. h (sym s))) k

hidden_memories : (p : Pairing) (i : ℕ) (t s : Memory) (x : ℕ) (b : Val) → AreMemoriesRelated p t s → x < length p.maps → AreMemoriesRelated (hide p x i) t (stored s x b)
hidden_memories p i t s x b m l = record {
  target_places = m.target_places;
  source_places = length-set s.na x _ ∙ m.source_places;
  owner_places = length-set p.owners x (Some i) ∙ m.owner_places;
  cells = λ z h.
      ⊎_elim
      (λ (e : z ≡ x). subst (λ (k : ℕ). AreCellsRelated (map_at p.maps k) (owner (hide p x i) k) (location_in t k) (location_in (stored s x b) k)) (sym e) here)
      (λ (e : z ≡ x → ⊥). cells_moved _ _ _ _ _ _ _ _ refl (owner_other p x z (Some i) e) refl (stored_other s x z b e) (m.cells z h))
      (cases_eq z x);
  atomic = m.atomic;
  histories = m.histories;
  outputs = m.outputs;
  target_runs = m.target_runs;
  source_runs = m.source_runs;
}
  where
    c : AreCellsRelated (map_at p.maps x) (owner p x) (location_in t x) (location_in s x)
    c = m.cells x l

    new : AreCellsRelated (map_at p.maps x) (Some i) (location_in t x) (record { value = b; version = next s x })
    new = record {
      rising = c.rising;
      places = c.places;
      settled = λ e. absurd (none-some i (sym e));
      value = λ e. absurd (none-some i (sym e));
      hidden = λ j e. omega (arith, cell_le (map_at p.maps x) (owner p x) (location_in t x) (location_in s x) c);
    }

    here : AreCellsRelated (map_at p.maps x) (owner (hide p x i) x) (location_in t x) (location_in (stored s x b) x)
    here = cells_moved _ _ _ _ _ _ _ _ refl (owner_same p x (Some i) (omega (arith, m.owner_places))) refl (stored_same s x b (omega (arith, m.source_places))) new

pub hidden_times : (p : Pairing) (i : ℕ) (t s : Memory) (v w : List ℕ) (x : ℕ) (b : Val) → AreMemoriesRelated p t s → AreTimesRelated p i t s v w → IsClosed t v → x < length p.maps → MayStore p i t s v w x
    → AreTimesRelated (hide p x i) i t (stored s x b) v (raised w x (next s x))
hidden_times p i t s v w x b m r covers l may = record {
  image = image_hide p.maps (hides p i) (hides (hide p x i) i) v w x (next s x) l own
      (λ z h. sym (hide_shows p x i i z (λ e. both_ways (hides (hide p x i) i z) h (ap (hides (hide p x i) i) e ∙ own))) ∙ h) r.image;
  target_last = λ z h k.
      ⊎_elim
      (λ (e : z ≡ x). subst (λ (q : ℕ). get_or v q 0 ≡ (location_in t q).version) (sym e) may.target_last)
      (λ (e : z ≡ x → ⊥). r.target_last z h (sym (hide_shows p x i i z e) ∙ k))
      (cases_eq z x);
  source_last = λ z h k.
      ⊎_elim
      (λ (e : z ≡ x). subst (λ (q : ℕ). get_or (raised w x (next s x)) q 0 ≡ (location_in (stored s x b) q).version) (sym e) here)
      (λ (e : z ≡ x → ⊥).
      get_or-raised_other w x (next s x) z e ∙ r.source_last z h (sym (hide_shows p x i i z e) ∙ k) ∙ sym (ap (λ (c : Versioned). c.version) (stored_other s x z b e)))
      (cases_eq z x);
}
  where
    own : hides (hide p x i) i x ≡ true
    own = hide_own p x i i (omega (arith, m.owner_places)) ∙ eq-eqb i i refl

    here : get_or (raised w x (next s x)) x 0 ≡ (location_in (stored s x b) x).version
    here =
        let in_view : x < length w = omega (arith, r.image.places, covers.locations, m.target_places) in
        let raised_to : get_or (raised w x (next s x)) x 0 ≡ next s x = omega (arith, get_or-raised_same w x (next s x) in_view, may.source_last) in
        raised_to ∙ sym (ap (λ (c : Versioned). c.version) (stored_same s x b (omega (arith, m.source_places))))

pub hidden_others_times : (p : Pairing) (i : ℕ) (t s : Memory) (x : ℕ) (b : Val) (j : ℕ) (v w : List ℕ) → AreMemoriesRelated p t s → x < length p.maps → (j ≡ i → ⊥) → hides p j x ≡ false → AreTimesRelated p j t s v w
    → AreTimesRelated (hide p x i) j t (stored s x b) v w
hidden_others_times p i t s x b j v w m l h free r = record {
  image = image_but p.maps (hides p j) (hides (hide p x i) j) v w
      (λ z h k. ⊎_elim (λ (e : z ≡ x). ap (hides p j) e ∙ free) (λ (e : z ≡ x → ⊥). sym (hide_shows p x i j z e) ∙ k) (cases_eq z x)) r.image;
  target_last = λ z q k. let other = hide_other p x i j z in_owners h k in r.target_last z q (sym (hide_shows p x i j z other) ∙ k);
  source_last = λ z q k.
      let other = hide_other p x i j z in_owners h k in
      r.source_last z q (sym (hide_shows p x i j z other) ∙ k) ∙ sym (ap (λ (c : Versioned). c.version) (stored_other s x z b other));
}
  where
    in_owners : x < length p.owners
    in_owners = omega (arith, m.owner_places)

hidden_views : (p : Pairing) (i : ℕ) (t s : Memory) (v w : ThreadView) (x : ℕ) (b : Val) → AreMemoriesRelated p t s → AreViewsRelated p i t s v w → IsClosedView t v → x < length p.maps → MayBothStore p i t s v w x
    → AreViewsRelated (hide p x i) i t (stored s x b) v (raised_view w x (next s x))
hidden_views p i t s v w x b m r closed l may = record {
  cur = hidden_times p i t s (respected v) (respected w) x b m r.cur closed.cur l may.cur;
  got = hidden_times p i t s (reach v) (reach w) x b m r.got closed.got l may.got;
  rel = r.rel;
}

hidden_others : (p : Pairing) (i : ℕ) (t s : Memory) (x : ℕ) (b : Val) (j : ℕ) (v w : ThreadView) → AreMemoriesRelated p t s → x < length p.maps → (j ≡ i → ⊥) → hides p j x ≡ false → AreViewsRelated p j t s v w
    → AreViewsRelated (hide p x i) j t (stored s x b) v w
hidden_others p i t s x b j v w m l h free r = record {
  cur = hidden_others_times p i t s x b j (respected v) (respected w) m l h free r.cur;
  got = hidden_others_times p i t s x b j (reach v) (reach w) m l h free r.got;
  rel = r.rel;
}

-- a store that is made in the source alone
pub store_hides : (p : Pairing) (i : ℕ) (t s : Memory) (v w : ThreadView) (x : ℕ) (b : Val) → AreMemoriesRelated p t s → AreViewsRelated p i t s v w → IsClosedView t v → x < length p.maps → MayBothStore p i t s v w x
    → GoesOn p (hide p x i) i t s t (step_result s w i (NaWrite x b) Plain).memory v (step_result s w i (NaWrite x b) Plain).view
store_hides p i t s v w x b m r covers l may =
    cond_both (is_racy s w x) _ _ (λ (o : StepResult). GoesOn p (hide p x i) i t s t o.memory v o.view)
    (λ e. absurd (both_ways (is_racy s w x) (le-ltb _ _ (omega (arith, may.cur.source_last))) e))
    (λ e. record {
      memories = hidden_memories p i t s x b m l;
      views = hidden_views p i t s v w x b m r covers l may;
      others = λ j h v w q. hidden_others p i t s x b j v w m l h (may.cur.free j h) q;
      pending = λ j h z k. hide_others p x i j z (omega (arith, m.owner_places)) h (may.cur.free j h);
    })

-- ---- the laws

race_fails : (s : Memory) (w : ThreadView) (i x : ℕ) (b : Val) → is_racy s w x ≡ true → IsFailed (step_result s w i (NaWrite x b) Plain)
race_fails s w i x b e = subst IsFailed (sym (cond-true (is_racy s w x) _ _ e)) (record { event = refl; memory = refl })

pub stores_blocked : StoresAreBlocked
stores_blocked p i j t s v w x b m r l e h = race_fails s w i x b (pending_behind p i j t s v w x m r l (other_thread i j (owner p x) e h) e)

pub stores_related : StoresAreRelated
stores_related p i t s v w x a b m r covers l below e current =
    store_matches p i t s v w x a b m r covers l below (both_unowned p i t s v w x m r covers l e current)

pub stores_settle : StoresSettle
stores_settle p i t s v w x a b m r covers l below e = store_matches p i t s v w x a b m r covers l below (both_own p i t s v w x r l e)

-- the source's store is a race, or may be made
may_store : (p : Pairing) (i : ℕ) (t s : Memory) (v w : ThreadView) (x : ℕ) (b : Val) → AreMemoriesRelated p t s → AreViewsRelated p i t s v w → IsClosedView t v → x < length p.maps
    → IsFailed (step_result s w i (NaWrite x b) Plain) ⊎ MayBothStore p i t s v w x
may_store p i t s v w x b m r covers l = choose (owner p x) refl
  where
    choose : (o : Option ℕ) → owner p x ≡ o → IsFailed (step_result s w i (NaWrite x b) Plain) ⊎ MayBothStore p i t s v w x
    choose None e =
        ⊎_elim
        (λ (c : is_racy s w x ≡ true). inl (race_fails s w i x b c))
        (λ (c : is_racy s w x ≡ false). inr (both_unowned p i t s v w x m r covers l e (sym (racy_same p i t s v w x m r l e) ∙ c)))
        (cases_Bool (is_racy s w x))
    choose (Some j) e =
        ⊎_elim
        (λ (h : j ≡ i). inr (both_own p i t s v w x r l (e ∙ ap (λ (k : ℕ). Some k) h)))
        (λ (h : j ≡ i → ⊥). inl (stores_blocked p i j t s v w x b m r l e h))
        (cases_eq j i)

pub stores_answered : StoresAreAnswered
stores_answered p i t s v w x a b m r covers l below = record {
  legal = record { running = m.source_runs; admits = tt };
  cases =
      ⊎_elim (λ (f : IsFailed (step_result s w i (NaWrite x b) Plain)). inl f)
      (λ (may : MayBothStore p i t s v w x). inr (refl, store_matches p i t s v w x a b m r covers l below may))
      (may_store p i t s v w x b m r covers l);
}

pub stores_removed : StoresAreRemoved
stores_removed p i t s v w x b m r covers l =
    ⊎_elim (λ (f : IsFailed (step_result s w i (NaWrite x b) Plain)). inl f)
    (λ (may : MayBothStore p i t s v w x). inr (store_hides p i t s v w x b m r covers l may))
    (may_store p i t s v w x b m r covers l)

-- ---- who has a location pending afterwards

hides_settled : (p : Pairing) (x n j z : ℕ) → x < length p.owners → hides (settle p x n) j z ≡ cond (eqb z x) false (hides p j z)
hides_settled p x n j z l =
    ⊎_elim
    (λ (e : z ≡ x). ap (hides (settle p x n) j) e ∙ ap (is_thread j) (owner_same p x None l) ∙ sym (cond-true (eqb z x) false (hides p j z) (eq-eqb z x e)))
    (λ (e : z ≡ x → ⊥). ap (is_thread j) (owner_other p x z None e) ∙ sym (cond-false (eqb z x) false (hides p j z) (ne_eqb z x e)))
    (cases_eq z x)

hides_hidden : (p : Pairing) (x i j z : ℕ) → x < length p.owners → hides (hide p x i) j z ≡ cond (eqb z x) (eqb i j) (hides p j z)
hides_hidden p x i j z l =
    ⊎_elim
    (λ (e : z ≡ x). ap (hides (hide p x i) j) e ∙ hide_own p x i j l ∙ sym (cond-true (eqb z x) (eqb i j) (hides p j z) (eq-eqb z x e)))
    (λ (e : z ≡ x → ⊥). hide_shows p x i j z e ∙ sym (cond-false (eqb z x) (eqb i j) (hides p j z) (ne_eqb z x e)))
    (cases_eq z x)

pub pending_follows : PendingFollows
pending_follows = record { settled = hides_settled; hidden = hides_hidden; opening = λ n i x. none_thread i _ (opening_none n x) }
  where
    opening_none : (n x : ℕ) → owner (opening_pairing n) x ≡ None
    opening_none n x =
        ⊎_elim (λ (l : x < n). get_or-replicate {A = Option ℕ} n x None None l) (λ (l : n ≤ x). get_or_past (replicate {A = Option ℕ} n None) x None (omega (arith, length-replicate {A = Option ℕ} n None))) (cases_lt x n)
