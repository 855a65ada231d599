-- An atomic access on both sides.
use Rattle.std.proofs.Common.{◌≡◌, ℕ, ◌<◌, ◌≤◌, Bool, true, false, cond, List, length, get_or, refl, sym, ap, ◌∙◌, subst, arith, ◌⊎◌, inl, inr, ⊎_elim}
use Rattle.std.proofs.lemmas.Bool.{cond-true, cond-false}
use Rattle.std.specs.Option.{IsSome}
use Rattle.std.specs.Prelude.{pos}
use Rattle.values_undef.specs.Value.{IsBelow}
use Rattle.values_undef.specs.Access.{acquires, releases}
use Rattle.values_undef.specs.declared.value.Val.{Val}
use Rattle.values_undef.specs.declared.access.Order.{Order}
use Rattle.values_undef.specs.declared.access.Order.TheVariants.{Rlx, Acq, Rel, AcqRel}
use Rattle.values_undef.specs.declared.access.UpdateKind.{UpdateKind}
use Rattle.values_undef.specs.declared.access.Access.{Access}
use Rattle.values_undef.specs.declared.access.Access.TheVariants.{Read, Write, Update}
use Rattle.values_undef.specs.declared.access.Choice.{Choice}
use Rattle.values_undef.specs.declared.access.Choice.TheVariants.{Message, Place, Take}
use Rattle.views.specs.Timestamps.{raised, joined}
use Rattle.views.specs.ThreadView.{ThreadView, raised_view, fenced}
use Rattle.values_undef.proofs.Callers.{event_refl, undef_fails, update_below}
use Rattle.memory_relation.specs.Images.{map_at, AreRising, IsImageBut, IsImage, nowhere}
use Rattle.memory_relation.proofs.Images.{image_raise, image_join, image_weaken, rising_le}
use Rattle.views.proofs.Callers.{joined_same}
use Rattle.message_memory.specs.declared.message.Message.{Message as TheMessage}
use Rattle.message_memory.specs.Memory.{Memory, messages, location_in, view_index, message_at, first_message}
use Rattle.message_memory.specs.Step.{step_result, view_after_read, message_times, read_at, timestamp_in, succeeds, meets_undef, write_message, update_message, AdmitsChoice, IsLegal, reach, carried}
use Rattle.message_memory.proofs.Callers.{some_from_and, raised_atomic, cond_related, some_and, and_some}
use Rattle.memory_relation.specs.Relation.{Pairing, owner, hides, HidesNothing, AreMessagesRelated, AreMemoriesRelated, respected, AreTimesRelated, AreViewsRelated}
use Rattle.values_undef.specs.Matching.{DoTheSame, without_place, IsKindBelow, loads, stores, reads, writes, updates, fences, prints, fails, finishes, spends}
use Rattle.memory_relation.specs.Answering.{IsFailed, IsMatch, IsAnswered, choice_for}
use Rattle.memory_relation.specs.Laws.{AtomicAccessesAreAnswered, FencesAreAnswered, ChoicesAreFound}
use Rattle.memory_relation.proofs.Owners.{thread_owner, goes_on}
use Rattle.memory_relation.proofs.Histories.{cond_others, AreFound, found_related, free_same, message_related}

-- ---- the same place on both sides

pub rising_maps : (p : Pairing) (t s : Memory) → AreMemoriesRelated p t s → AreRising p.maps
rising_maps p t s m x l = (m.cells x l).rising

pub place_same : (p : Pairing) (t s : Memory) (y : ℕ) → AreMemoriesRelated p t s → view_index t y ≡ view_index s y
place_same p t s y m = omega (arith, m.target_places, m.source_places)

pub seen_same : (p : Pairing) (i : ℕ) (t s : Memory) (v w : ThreadView) (y : ℕ) → AreMemoriesRelated p t s → AreViewsRelated p i t s v w → timestamp_in s w y ≡ timestamp_in t v y
seen_same p i t s v w y m r =
    ap (λ (k : ℕ). get_or w.cur k 0) (sym (place_same p t s y m)) ∙ r.cur.image.kept (view_index t y) (omega (arith, m.target_places))

pub raised_image : (p : Pairing) (but : ℕ → Bool) (t s : Memory) (v w : List ℕ) (y to : ℕ) → AreMemoriesRelated p t s → IsImageBut p.maps but v w
    → IsImageBut p.maps but (raised v (view_index t y) to) (raised w (view_index s y) to)
raised_image p but t s v w y to m r =
    subst (λ (k : ℕ). IsImageBut p.maps but (raised v (view_index t y) to) (raised w k to)) (place_same p t s y m)
    (image_raise p.maps but v w (view_index t y) to (omega (arith, m.target_places)) r)

-- the times after the place has been raised, and the views
raised_times : (p : Pairing) (i : ℕ) (t s : Memory) (v w : List ℕ) (y to : ℕ) → AreMemoriesRelated p t s → AreTimesRelated p i t s v w
    → AreTimesRelated p i t s (raised v (view_index t y) to) (raised w (view_index s y) to)
raised_times p i t s v w y to m r = record {
  image = raised_image p (hides p i) t s v w y to m r.image;
  target_last = λ x l h. raised_atomic t v y to x (omega (arith, m.target_places)) ∙ r.target_last x l h;
  source_last = λ x l h. raised_atomic s w y to x (omega (arith, m.source_places)) ∙ r.source_last x l h;
}

pub raised_related : (p : Pairing) (i : ℕ) (t s : Memory) (v w : ThreadView) (y to : ℕ) → AreMemoriesRelated p t s → AreViewsRelated p i t s v w
    → AreViewsRelated p i t s (raised_view v (view_index t y) to) (raised_view w (view_index s y) to)
raised_related p i t s v w y to m r = record {
  cur = raised_times p i t s (respected v) (respected w) y to m r.cur;
  got = raised_times p i t s (reach v) (reach w) y to m r.got;
  rel = r.rel;
}

-- a message knows of a location no more than its last version, and of one that is pending less
message_within : (p : Pairing) (t s : Memory) (old old' : TheMessage) (x : ℕ) → AreMemoriesRelated p t s → AreMessagesRelated p.maps old old' → x < length p.maps
    → (get_or old.times x 0 ≤ (location_in t x).version) × (get_or old'.times x 0 ≤ get_or (map_at p.maps x) (location_in t x).version 0)
message_within p t s old old' x m q l =
    let c = m.cells x l in
    let within : get_or old.times x 0 ≤ (location_in t x).version = omega (arith, q.times.within x l, c.places) in
    (within, omega (arith, q.times.mapped x l refl, rising_le (map_at p.maps x) (get_or old.times x 0) (location_in t x).version c.rising within (omega (arith, c.places))))

-- the times after both have joined what related messages hand on
joined_times : (p : Pairing) (i : ℕ) (t s : Memory) (v w : List ℕ) (old old' : TheMessage) → AreMemoriesRelated p t s → AreMessagesRelated p.maps old old' → AreTimesRelated p i t s v w
    → AreTimesRelated p i t s (joined v old.times) (joined w old'.times)
joined_times p i t s v w old old' m q r = record {
  image = image_join p.maps (hides p i) v w old.times old'.times (rising_maps p t s m) r.image q.times;
  target_last = λ x l h.
      joined_same v old.times x (omega (arith, (message_within p t s old old' x m q l).0, r.target_last x l h)) ∙ r.target_last x l h;
  source_last = λ x l h.
      joined_same w old'.times x (omega (arith, (message_within p t s old old' x m q l).1, (m.cells x l).hidden i (thread_owner i (owner p x) h), r.source_last x l h)) ∙ r.source_last x l h;
}

-- a message that both read: what the threads may come to respect joins it, and what they respect if they acquire
pub heard_related : (p : Pairing) (i : ℕ) (t s : Memory) (v w : ThreadView) (y : ℕ) (order : Order) (to : ℕ) (old old' : TheMessage) → AreMemoriesRelated p t s → AreMessagesRelated p.maps old old' → AreViewsRelated p i t s v w
    → AreViewsRelated p i t s (view_after_read t v y order to old) (view_after_read s w y order to old')
heard_related p i t s v w y order to old old' m q r =
    let after = raised_related p i t s v w y to m r in
    record {
      cur = cond_related (AreTimesRelated p i t s) (acquires order) (acquires order)
          (joined (raised v.cur (view_index t y) to) old.times) (raised v.cur (view_index t y) to) (joined (raised w.cur (view_index s y) to) old'.times) (raised w.cur (view_index s y) to)
          refl (joined_times p i t s (raised v.cur (view_index t y) to) (raised w.cur (view_index s y) to) old old' m q after.cur) after.cur;
      got = joined_times p i t s (raised v.got (view_index t y) to) (raised w.got (view_index s y) to) old old' m q after.got;
      rel = after.rel;
    }

-- what a thread knows that hides nothing
shown_image : (p : Pairing) (i : ℕ) (t s : Memory) (v w : List ℕ) → HidesNothing p i → AreTimesRelated p i t s v w → IsImage p.maps v w
shown_image p i t s v w h r = image_weaken p.maps (hides p i) v w h r.image

-- what a write hands on is an image: where it releases, since nothing is hidden; else since what is carried is one
pub handed_on_image : (p : Pairing) (i : ℕ) (t s : Memory) (v w : ThreadView) (y : ℕ) (order : Order) (to : ℕ) → AreMemoriesRelated p t s → AreViewsRelated p i t s v w → (releases order ≡ true → HidesNothing p i)
    → IsImage p.maps (message_times t v y order to) (message_times s w y order to)
handed_on_image p i t s v w y order to m r h = choose (releases order) h
  where
    choose : (b : Bool) → (b ≡ true → HidesNothing p i) → IsImage p.maps (cond b (respected v) (raised (carried v) (view_index t y) to)) (cond b (respected w) (raised (carried w) (view_index s y) to))
    choose true h = shown_image p i t s (respected v) (respected w) (h refl) r.cur
    choose false h = raised_image p nowhere t s (carried v) (carried w) y to m r.rel

-- ---- a fence

fenced_related : (p : Pairing) (i : ℕ) (t s : Memory) (v w : ThreadView) (order : Order) → AreViewsRelated p i t s v w → (releases order ≡ true → HidesNothing p i) → AreViewsRelated p i t s (fenced v order) (fenced w order)
fenced_related p i t s v w Rlx r h = r
fenced_related p i t s v w Acq r h = record { cur = r.got; got = r.got; rel = r.rel }
fenced_related p i t s v w Rel r h = record { cur = r.cur; got = r.got; rel = shown_image p i t s (respected v) (respected w) (h refl) r.cur }
fenced_related p i t s v w AcqRel r h = record { cur = r.got; got = r.got; rel = shown_image p i t s (reach v) (reach w) (h refl) r.got }

pub fences_answered : FencesAreAnswered
fences_answered p i t s v w order m r h = record {
  legal = record { running = m.source_runs; admits = tt };
  cases = inr (
    refl,
    record {
      event = event_refl _;
      goes_on = goes_on p i t s t s _ _ refl refl m (fenced_related p i t s v w order r h);
    },
  );
}

-- ---- the three accesses

pub read_related : (p : Pairing) (t s : Memory) (y to : ℕ) → AreMemoriesRelated p t s → IsSome (message_at to (messages t y)) → AreFound p.maps (message_at to (messages t y)) (message_at to (messages s y)) (first_message 0 (pos 0))
read_related p t s y to m found = found_related p.maps to (messages t y) (messages s y) _ (m.histories y) found

pub read_answered : (p : Pairing) (i : ℕ) (t s : Memory) (v w : ThreadView) (y : ℕ) (order : Order) (to : ℕ) → AreMemoriesRelated p t s → AreViewsRelated p i t s v w → AdmitsChoice t v (Read y order) (Message to)
    → IsAnswered p p i t s v w (Read y order) (Read y order) (Message to)
read_answered p i t s v w y order to m r h =
    let q = read_related p t s y to m h.1 in
    record {
      legal = record { running = m.source_runs; admits = (omega (arith, h.0, seen_same p i t s v w y m r), q.found) };
      cases = inr (
        refl,
        record {
          event = record { form = refl; values = (q.related.value, tt) };
          goes_on = goes_on p i t s t s _ _ refl refl m (heard_related p i t s v w y order to (read_at t y to) (read_at s y to) m q.related r);
        },
      );
    }

pub write_answered : (p : Pairing) (i : ℕ) (t s : Memory) (v w : ThreadView) (y : ℕ) (order : Order) (a b : Val) (from to : ℕ) → AreMemoriesRelated p t s → AreViewsRelated p i t s v w → IsBelow a b → y < length t.atomic
    → AdmitsChoice t v (Write y order a) (Place from to) → (releases order ≡ true → HidesNothing p i) → IsAnswered p p i t s v w (Write y order a) (Write y order b) (Place from to)
write_answered p i t s v w y order a b from to m r below l h release =
    let after = raised_related p i t s v w y to m r in
    record {
      legal = record {
        running = m.source_runs;
        admits = (h.0, omega (arith, h.1, seen_same p i t s v w y m r), free_same p.maps from to (messages t y) (messages s y) (m.histories y) ∙ h.2);
      };
      cases = inr (
        refl,
        record {
          event = record { form = refl; values = (below, tt) };
          goes_on = goes_on p i t s _ _ _ _ refl refl
              (message_related p t s y (write_message t v y order a from to) (write_message s w y order b from to) m l
              (record { from = refl; to = refl; value = below; times = handed_on_image p i t s (raised_view v (view_index t y) to) (raised_view w (view_index s y) to) y order to m after release })) after;
        },
      );
    }

-- an update whose compare-exchange meets `Undef` in the source, at the message that is read
undef_answered : (p : Pairing) (i : ℕ) (t s : Memory) (v w : ThreadView) (y : ℕ) (order : Order) (k l : UpdateKind) (c : Choice) (to : ℕ) → AreMemoriesRelated p t s → timestamp_in s w y ≤ to → IsSome (message_at to (messages s y))
    → meets_undef l (read_at s y to).value ≡ true → choice_for s (Update y order l) c ≡ Message to → IsAnswered p p i t s v w (Update y order k) (Update y order l) c
undef_answered p i t s v w y order k l c to m seen_le found undef e = record {
  legal = subst (IsLegal s w (Update y order l)) (sym e) (record {
    running = m.source_runs;
    admits = (seen_le, some_and (message_at to (messages s y)) (λ old. succeeds l old.value ≡ false) _ found (undef_fails l (read_at s y to).value undef));
  });
  cases = inl (subst (λ d. IsFailed (step_result s w i (Update y order l) d)) (sym e) (subst IsFailed (sym (cond-true (meets_undef l (read_at s y to).value) _ _ undef)) (record { event = refl; memory = refl })));
}

pub miss_answered : (p : Pairing) (i : ℕ) (t s : Memory) (v w : ThreadView) (y : ℕ) (order : Order) (k l : UpdateKind) (to : ℕ) → AreMemoriesRelated p t s → AreViewsRelated p i t s v w → IsKindBelow k l
    → AdmitsChoice t v (Update y order k) (Message to) → IsAnswered p p i t s v w (Update y order k) (Update y order l) (Message to)
miss_answered p i t s v w y order k l to m r kinds h =
    let q = read_related p t s y to m (some_from_and _ _ h.1) in
    let seen_le : timestamp_in s w y ≤ to = omega (arith, h.0, seen_same p i t s v w y m r) in
    ⊎_elim
    (λ (u : meets_undef l (read_at s y to).value ≡ true). undef_answered p i t s v w y order k l (Message to) to m seen_le q.found u refl)
    (λ (d : DoTheSame k l (read_at t y to).value (read_at s y to).value).
    record {
      legal = record {
        running = m.source_runs;
        admits = (seen_le, some_and (message_at to (messages s y)) (λ old. succeeds l old.value ≡ false) _ q.found (sym d.same ∙ and_some (message_at to (messages t y)) (λ old. succeeds k old.value ≡ false) _ h.1));
      };
      cases = inr (
        refl,
        cond_others (IsMatch p p i t s) (meets_undef k (read_at t y to).value) (meets_undef l (read_at s y to).value) _ _ _ _ d.target_defined d.source_defined
            (record {
              event = record { form = refl; values = (q.related.value, tt) };
              goes_on = goes_on p i t s t s _ _ refl refl m (heard_related p i t s v w y order to (read_at t y to) (read_at s y to) m q.related r);
            }),
      );
    })
    (update_below k l (read_at t y to).value (read_at s y to).value kinds q.related.value)

pub take_answered : (p : Pairing) (i : ℕ) (t s : Memory) (v w : ThreadView) (y : ℕ) (order : Order) (k l : UpdateKind) (read to : ℕ) → AreMemoriesRelated p t s → AreViewsRelated p i t s v w → IsKindBelow k l → y < length t.atomic
    → AdmitsChoice t v (Update y order k) (Take read to) → (releases order ≡ true → HidesNothing p i) → IsAnswered p p i t s v w (Update y order k) (Update y order l) (Take read to)
take_answered p i t s v w y order k l read to m r kinds there h release =
    let q = read_related p t s y read m (some_from_and _ _ h.3) in
    let old = read_at t y read in
    let old' = read_at s y read in
    let seen_le : timestamp_in s w y ≤ read = omega (arith, h.0, seen_same p i t s v w y m r) in
    ⊎_elim
    (λ (u : meets_undef l old'.value ≡ true). undef_answered p i t s v w y order k l (Take read to) read m seen_le q.found u (cond-false (succeeds l old'.value) (Take read to) (Message read) (undef_fails l old'.value u)))
    (λ (d : DoTheSame k l old.value old'.value).
    let taken : succeeds l old'.value ≡ true = sym d.same ∙ and_some (message_at read (messages t y)) (λ old. succeeds k old.value ≡ true) _ h.3 in
    let same : choice_for s (Update y order l) (Take read to) ≡ Take read to = cond-true (succeeds l old'.value) (Take read to) (Message read) taken in
    let after = heard_related p i t s v w y order to old old' m q.related r in
    record {
      legal = subst (IsLegal s w (Update y order l)) (sym same) (record {
        running = m.source_runs;
        admits = (
          seen_le,
          h.1,
          free_same p.maps read to (messages t y) (messages s y) (m.histories y) ∙ h.2,
          some_and (message_at read (messages s y)) (λ old. succeeds l old.value ≡ true) _ q.found taken,
        );
      });
      cases = inr (
        same,
        record {
          event = record { form = refl; values = (q.related.value, (d.new, tt)) };
          goes_on = goes_on p i t s _ _ _ _ refl refl
              (message_related p t s y (update_message t v y order k old read to) (update_message s w y order l old' read to) m there
              (record {
                from = refl;
                to = refl;
                value = d.new;
                times = image_join p.maps nowhere _ _ old.times old'.times (rising_maps p t s m) (handed_on_image p i t s (view_after_read t v y order to old) (view_after_read s w y order to old') y order to m after release) q.related.times;
              })) after;
        },
      );
    })
    (update_below k l old.value old'.value kinds q.related.value)

-- ---- one access

read_cases : (p : Pairing) (i : ℕ) (t s : Memory) (v w : ThreadView) (y : ℕ) (order : Order) (c : Choice) → AreMemoriesRelated p t s → AreViewsRelated p i t s v w → AdmitsChoice t v (Read y order) c
    → IsAnswered p p i t s v w (Read y order) (Read y order) c
read_cases p i t s v w y order (Message to) m r h = read_answered p i t s v w y order to m r h
read_cases p i t s v w y order _ m r h = absurd h

write_cases : (p : Pairing) (i : ℕ) (t s : Memory) (v w : ThreadView) (y : ℕ) (order : Order) (a b : Val) (c : Choice) → AreMemoriesRelated p t s → AreViewsRelated p i t s v w → IsBelow a b → y < length t.atomic
    → AdmitsChoice t v (Write y order a) c → (releases order ≡ true → HidesNothing p i) → IsAnswered p p i t s v w (Write y order a) (Write y order b) c
write_cases p i t s v w y order a b (Place from to) m r below l h release = write_answered p i t s v w y order a b from to m r below l h release
write_cases p i t s v w y order a b _ m r below l h release = absurd h

update_cases : (p : Pairing) (i : ℕ) (t s : Memory) (v w : ThreadView) (y : ℕ) (order : Order) (k l : UpdateKind) (c : Choice) → AreMemoriesRelated p t s → AreViewsRelated p i t s v w → IsKindBelow k l → y < length t.atomic
    → AdmitsChoice t v (Update y order k) c → (releases order ≡ true → HidesNothing p i) → IsAnswered p p i t s v w (Update y order k) (Update y order l) c
update_cases p i t s v w y order k l (Message to) m r kinds there h release = miss_answered p i t s v w y order k l to m r kinds h
update_cases p i t s v w y order k l (Take read to) m r kinds there h release = take_answered p i t s v w y order k l read to m r kinds there h release
update_cases p i t s v w y order k l _ m r kinds there h release = absurd h

pub atomic_answered : AtomicAccessesAreAnswered
atomic_answered p i t s v w a b c m r (loads) atomic proper legal release = absurd atomic
atomic_answered p i t s v w a b c m r (stores q) atomic proper legal release = absurd atomic
atomic_answered p i t s v w a b c m r (reads {y = y} {order = order}) atomic proper legal release = read_cases p i t s v w y order c m r legal.admits
atomic_answered p i t s v w a b c m r (writes {y = y} {order = order} {a = d} {b = e} q) atomic proper legal release = write_cases p i t s v w y order d e c m r q proper.0 legal.admits release
atomic_answered p i t s v w a b c m r (updates {y = y} {order = order} {k = k} {l = l} q) atomic proper legal release = update_cases p i t s v w y order k l c m r q proper legal.admits release
atomic_answered p i t s v w a b c m r (fences) atomic proper legal release = absurd atomic
atomic_answered p i t s v w a b c m r (prints) atomic proper legal release = absurd atomic
atomic_answered p i t s v w a b c m r (fails) atomic proper legal release = absurd atomic
atomic_answered p i t s v w a b c m r (finishes) atomic proper legal release = absurd atomic
atomic_answered p i t s v w a b c m r (spends) atomic proper legal release = absurd atomic

-- ---- the choice

pub choice_cases : (s : Memory) (w : ThreadView) (b : Access) (c : Choice) → (choice_for s b c ≡ c) ⊎ (choice_for s b c ≡ without_place c)
choice_cases s w (Update y order kind) (Take read to) = choose (succeeds kind (read_at s y read).value)
  where
    choose : (b : Bool) → (cond b (Take read to) (Message read) ≡ Take read to) ⊎ (cond b (Take read to) (Message read) ≡ Message read)
    choose true = inl refl
    choose false = inr refl
choice_cases s w b c = inl refl

pub kept_choice : (s : Memory) (w : ThreadView) (b : Access) (c : Choice) → AdmitsChoice s w b c → choice_for s b c ≡ c
kept_choice s w (Update y order kind) (Take read to) h =
    cond-true (succeeds kind (read_at s y read).value) (Take read to) (Message read) (and_some (message_at read (messages s y)) (λ old. succeeds kind old.value ≡ true) _ h.3)
kept_choice s w b c h = refl

pub choices_found : ChoicesAreFound
choices_found s w b c legal = (
  λ own. kept_choice s w b c own.admits,
  λ no. ⊎_elim (λ (e : choice_for s b c ≡ c). absurd (no (subst (IsLegal s w b) e legal))) (λ (e : choice_for s b c ≡ without_place c). e) (choice_cases s w b c),
)
