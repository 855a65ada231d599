-- Accesses that put in no message.
use Rattle.std.proofs.Common.{◌≡◌, ℕ, ◌+◌, ◌<◌, ◌≤◌, true, false, ltb, List, [], length, get_or, set, refl, sym, ap, ◌∙◌, subst, arith, ⊎_elim}
use Rattle.std.proofs.lemmas.Bool.{cases_eq}
use Rattle.std.proofs.lemmas.List.{length-set}
use Rattle.std.specs.List.{AllZip}
use Rattle.std.specs.Option.{IsSome}
use Rattle.std.specs.Prelude.{pos, ℤ}
use Rattle.values_undef.specs.Access.{acquires}
use Rattle.values_undef.specs.declared.value.Val.{Val}
use Rattle.values_undef.specs.declared.access.Cause.{Cause}
use Rattle.values_undef.specs.declared.access.Order.{Order}
use Rattle.values_undef.specs.declared.access.UpdateKind.{UpdateKind}
use Rattle.values_undef.specs.declared.access.Access.TheVariants.{NaRead, NaWrite, Read, Update, Fence, Print, Fail, Finish, Spend}
use Rattle.values_undef.specs.declared.access.Choice.TheVariants.{Plain, Message}
use Rattle.values_undef.specs.declared.access.Event.TheVariants as event
use Rattle.views.specs.Timestamps.{raised}
use Rattle.views.specs.ThreadView.{ThreadView, raised_view, heard}
use Rattle.views.proofs.Callers.{length-raised, get_or-raised_same, get_or-raised_other}
use Rattle.message_memory.specs.declared.message.Message.{Message as TheMessage}
use Rattle.message_memory.specs.declared.message.Versioned.{Versioned}
use Rattle.message_memory.specs.Memory.{Memory, Messages, messages, message_at, location_in, view_index, first_message, absent_location, IsDisjointAndSorted}
use Rattle.message_memory.specs.Step.{is_racy, read_value, read_at, timestamp_in, view_after_read, meets_undef, succeeds}
use Rattle.memory_likeness.specs.Likeness.{Pairs, PairsAt, AreTimesAlike, AreViewsAlike, AreMessagesAlike, AreMemoriesAlike, AreBothSorted}
use Rattle.memory_likeness.specs.Answering.{StayAlike, AreResultsAlike, IsAnswered}
use Rattle.memory_likeness.proofs.Pairing.{pairs_rise, pair_of, pair_found}
use Rattle.memory_likeness.proofs.Times.{place_same, views_raised, views_heard, views_fenced}
use Rattle.message_memory.proofs.Callers.{cond_related, zip_more, some_and}

-- ---- from one pair of memories to another

pub times_more : (s t s' t' : Memory) (v w : List ℕ) → length s'.na ≡ length s.na → length s'.atomic ≡ length s.atomic
    → ((y a b : ℕ) → y < length s.atomic → PairsAt s t y a b → PairsAt s' t' y a b) → AreTimesAlike s t v w → AreTimesAlike s' t' v w
times_more s t s' t' v w e f more r = record {
  places = r.places;
  locations = omega (arith, r.locations);
  versions = λ x l. r.versions x (omega arith);
  stamps = λ y l.
      subst (λ (k : ℕ). PairsAt s' t' y (get_or v (k + y) 0) (get_or w (k + y) 0)) (sym e)
      (more y (get_or v (view_index s y) 0) (get_or w (view_index s y) 0) (omega arith) (r.stamps y (omega arith)));
}

pub views_more : (s t s' t' : Memory) (v w : ThreadView) → length s'.na ≡ length s.na → length s'.atomic ≡ length s.atomic
    → ((y a b : ℕ) → y < length s.atomic → PairsAt s t y a b → PairsAt s' t' y a b) → AreViewsAlike s t v w → AreViewsAlike s' t' v w
views_more s t s' t' v w e f more r = record {
  cur = times_more s t s' t' v.cur w.cur e f more r.cur;
  got = times_more s t s' t' v.got w.got e f more r.got;
  rel = times_more s t s' t' v.rel w.rel e f more r.rel;
}

-- the messages are as before
pub histories_kept : (s t s' t' : Memory) → length s'.na ≡ length s.na → s'.atomic ≡ s.atomic → t'.atomic ≡ t.atomic → AreMemoriesAlike s t
    → (y : ℕ) → y < length s'.atomic → AllZip (AreMessagesAlike s' t' y) (messages s' y) (messages t' y)
histories_kept s t s' t' e f g m y l =
    subst (λ (h : List Messages). AllZip (AreMessagesAlike s' t' y) (get_or h y []) (messages t' y)) (sym f)
    (subst (λ (h : List Messages). AllZip (AreMessagesAlike s' t' y) (messages s y) (get_or h y [])) (sym g)
    (zip_more (AreMessagesAlike s t y) (AreMessagesAlike s' t' y) kept (messages s y) (messages t y) (m.histories y (omega (arith, ap {B = ℕ} length f)))))
  where
    there : (z a b : ℕ) → PairsAt s t z a b → PairsAt s' t' z a b
    there z a b p = subst (λ (h : List Messages). Pairs (get_or h z []) (messages t' z) a b) (sym f) (subst (λ (h : List Messages). Pairs (messages s z) (get_or h z []) a b) (sym g) p)

    back : (z a b : ℕ) → PairsAt s' t' z a b → PairsAt s t z a b
    back z a b p = subst (λ (h : List Messages). Pairs (get_or h z []) (messages t z) a b) f (subst (λ (h : List Messages). Pairs (messages s' z) (get_or h z []) a b) g p)

    kept : (x n : TheMessage) → AreMessagesAlike s t y x n → AreMessagesAlike s' t' y x n
    kept x n r = record {
      value = r.value;
      times = times_more s t s' t' x.times n.times e (ap length f) (λ z a b h. there z a b) r.times;
      attached = λ a b p. r.attached a b (back y a b p);
    }

pub sorted_kept : (s t s' t' : Memory) → s'.atomic ≡ s.atomic → t'.atomic ≡ t.atomic → AreBothSorted s t → AreBothSorted s' t'
sorted_kept s t s' t' f g o = record {
  atomic = ap length g ∙ o.atomic ∙ sym (ap length f);
  first = λ y l. subst (λ (h : List Messages). IsDisjointAndSorted (get_or h y [])) (sym f) (o.first y (omega (arith, ap {B = ℕ} length f)));
  second = λ y l. subst (λ (h : List Messages). IsDisjointAndSorted (get_or h y [])) (sym g) (o.second y (omega (arith, ap {B = ℕ} length f)));
}

-- ---- nothing changes but a view

pub stay_alike : (s t : Memory) (v' w' : ThreadView) → AreMemoriesAlike s t → AreViewsAlike s t v' w' → StayAlike s t s t v' w'
stay_alike s t v' w' m r = record { memories = m; views = r; others = λ v w q. q }

-- ---- failures and outputs

pub other_flags : (s t s' t' : Memory) (v w : ThreadView) → s'.na ≡ s.na → t'.na ≡ t.na → s'.atomic ≡ s.atomic → t'.atomic ≡ t.atomic → t'.failed ≡ s'.failed → AreMemoriesAlike s t → AreViewsAlike s t v w → StayAlike s t s' t' v w
other_flags s t s' t' v w e f g h k m r = record {
  memories = record {
    na = f ∙ m.na ∙ sym e;
    atomic = ap length h ∙ m.atomic ∙ sym (ap length g);
    sorted = sorted_kept s t s' t' g h m.sorted;
    histories = histories_kept s t s' t' (ap length e) g h m;
    failed = k;
  };
  views = moved v w r;
  others = moved;
}
  where
    moved : (v w : ThreadView) → AreViewsAlike s t v w → AreViewsAlike s' t' v w
    moved v w q =
        views_more s t s' t' v w (ap length e) (ap length g)
        (λ y a b l p. subst (λ (z : List Messages). Pairs (get_or z y []) (messages t' y) a b) (sym g) (subst (λ (z : List Messages). Pairs (messages s y) (get_or z y []) a b) (sym h) p)) q

pub failed_alike : (s t : Memory) (v w : ThreadView) → AreMemoriesAlike s t → AreViewsAlike s t v w → StayAlike s t (record s { failed = true }) (record t { failed = true }) v w
failed_alike s t v w m r = other_flags s t (record s { failed = true }) (record t { failed = true }) v w refl refl refl refl refl m r

pub plain_legal : (s t : Memory) → AreMemoriesAlike s t → s.failed ≡ false → t.failed ≡ false
plain_legal s t m e = m.failed ∙ e

pub print_answered : (s t : Memory) (v w : ThreadView) (i : ℕ) (n : ℤ) → AreMemoriesAlike s t → AreViewsAlike s t v w → s.failed ≡ false → IsAnswered s t v w i (Print n) Plain Plain
print_answered s t v w i n m r e = record {
  legal = record { running = plain_legal s t m e; admits = tt };
  result = record { event = refl; alike = other_flags s t _ _ v w refl refl refl refl m.failed m r };
}

pub fail_answered : (s t : Memory) (v w : ThreadView) (i : ℕ) (cause : Cause) → AreMemoriesAlike s t → AreViewsAlike s t v w → s.failed ≡ false → IsAnswered s t v w i (Fail cause) Plain Plain
fail_answered s t v w i cause m r e = record {
  legal = record { running = plain_legal s t m e; admits = tt };
  result = record { event = refl; alike = failed_alike s t v w m r };
}

pub finish_answered : (s t : Memory) (v w : ThreadView) (i : ℕ) → AreMemoriesAlike s t → AreViewsAlike s t v w → s.failed ≡ false → IsAnswered s t v w i Finish Plain Plain
finish_answered s t v w i m r e = record { legal = record { running = plain_legal s t m e; admits = tt }; result = record { event = refl; alike = stay_alike s t v w m r } }

pub spend_answered : (s t : Memory) (v w : ThreadView) (i : ℕ) → AreMemoriesAlike s t → AreViewsAlike s t v w → s.failed ≡ false → IsAnswered s t v w i Spend Plain Plain
spend_answered s t v w i m r e = record { legal = record { running = plain_legal s t m e; admits = tt }; result = record { event = refl; alike = stay_alike s t v w m r } }

pub fence_answered : (s t : Memory) (v w : ThreadView) (i : ℕ) (order : Order) → AreMemoriesAlike s t → AreViewsAlike s t v w → s.failed ≡ false → IsAnswered s t v w i (Fence order) Plain Plain
fence_answered s t v w i order m r e = record {
  legal = record { running = plain_legal s t m e; admits = tt };
  result = record { event = refl; alike = stay_alike s t _ _ m (views_fenced s t v w order r) };
}

-- ---- a non-atomic location

pub location_same : (s t : Memory) (x : ℕ) → AreMemoriesAlike s t → location_in t x ≡ location_in s x
location_same s t x m = ap (λ (c : List Versioned). get_or c x absent_location) m.na

pub racy_same : (s t : Memory) (v w : ThreadView) (x : ℕ) → AreMemoriesAlike s t → AreViewsAlike s t v w → x < length s.na → is_racy t w x ≡ is_racy s v x
racy_same s t v w x m r l = ap (λ (c : Versioned). ltb (get_or w.cur x 0) c.version) (location_same s t x m) ∙ ap (λ (n : ℕ). ltb n (location_in s x).version) (r.cur.versions x l)

pub read_same : (s t : Memory) (v w : ThreadView) (x : ℕ) → AreMemoriesAlike s t → AreViewsAlike s t v w → x < length s.na → read_value t w x ≡ read_value s v x
read_same s t v w x m r l =
    cond_related (λ (a b : Val). a ≡ b) (is_racy t w x) (is_racy s v x) _ _ _ _ (racy_same s t v w x m r l) refl (ap (λ (c : Versioned). c.value) (location_same s t x m))

pub load_answered : (s t : Memory) (v w : ThreadView) (i x : ℕ) → AreMemoriesAlike s t → AreViewsAlike s t v w → s.failed ≡ false → x < length s.na → IsAnswered s t v w i (NaRead x) Plain Plain
load_answered s t v w i x m r e l = record {
  legal = record { running = plain_legal s t m e; admits = tt };
  result = record { event = ap (event.NaRead x) (read_same s t v w x m r l); alike = stay_alike s t v w m r };
}

-- a place of a non-atomic location is raised to the same version
pub version_raised : (s t s' t' : Memory) (v w : List ℕ) (x n : ℕ) → x < length s.na → length s'.na ≡ length s.na → s'.atomic ≡ s.atomic → t'.atomic ≡ t.atomic → AreTimesAlike s t v w → AreTimesAlike s' t' (raised v x n) (raised w x n)
version_raised s t s' t' v w x n l e f g r = record {
  places = length-raised w x n ∙ r.places ∙ sym (length-raised v x n);
  locations = omega (arith, length-raised v x n, r.locations, e, ap {B = ℕ} length f);
  versions = λ z h.
      ⊎_elim
      (λ (q : z ≡ x).
      subst (λ (j : ℕ). get_or (raised w x n) j 0 ≡ get_or (raised v x n) j 0) (sym q)
      (omega (arith, get_or-raised_same w x n (omega (arith, r.places, r.locations)), get_or-raised_same v x n (omega (arith, r.locations)), r.versions x l)))
      (λ (q : z ≡ x → ⊥). get_or-raised_other w x n z q ∙ r.versions z (omega arith) ∙ sym (get_or-raised_other v x n z q))
      (cases_eq z x);
  stamps = λ y h.
      let there : y < length s.atomic = omega (arith, ap {B = ℕ} length f) in
      let q : get_or (raised v x n) (view_index s' y) 0 ≡ get_or v (view_index s y) 0 = get_or-raised_other v x n (view_index s' y) (λ z. omega arith) ∙ ap (λ (k : ℕ). get_or v (k + y) 0) e in
      let p : get_or (raised w x n) (view_index s' y) 0 ≡ get_or w (view_index s y) 0 = get_or-raised_other w x n (view_index s' y) (λ z. omega arith) ∙ ap (λ (k : ℕ). get_or w (k + y) 0) e in
      subst (λ (h : List Messages). Pairs (get_or h y []) (messages t' y) (get_or (raised v x n) (view_index s' y) 0) (get_or (raised w x n) (view_index s' y) 0)) (sym f)
      (subst (λ (h : List Messages). Pairs (messages s y) (get_or h y []) (get_or (raised v x n) (view_index s' y) 0) (get_or (raised w x n) (view_index s' y) 0)) (sym g)
      (subst (λ (i : ℕ). PairsAt s t y i (get_or (raised w x n) (view_index s' y) 0)) (sym q) (subst (λ (i : ℕ). PairsAt s t y (get_or v (view_index s y) 0) i) (sym p) (r.stamps y there))));
}

pub store_answered : (s t : Memory) (v w : ThreadView) (i x : ℕ) (n : Val) → AreMemoriesAlike s t → AreViewsAlike s t v w → s.failed ≡ false → x < length s.na → IsAnswered s t v w i (NaWrite x n) Plain Plain
store_answered s t v w i x n m r e l = record {
  legal = record { running = plain_legal s t m e; admits = tt };
  result = cond_related (AreResultsAlike s t) (is_racy s v x) (is_racy t w x) _ _ _ _ (sym (racy_same s t v w x m r l))
      (record { event = refl; alike = failed_alike s t v w m r })
      (record { event = ap (λ (k : ℕ). event.NaWrite x n (k + 1)) versions; alike = record { memories = memories; views = views; others = others } });
}
  where
    versions : (location_in t x).version ≡ (location_in s x).version
    versions = ap (λ (c : Versioned). c.version) (location_same s t x m)

    next : ℕ
    next = (location_in s x).version + 1

    next' : ℕ
    next' = (location_in t x).version + 1

    s' : Memory
    s' = record s { na = set s.na x (record { value = n; version = next }) }

    t' : Memory
    t' = record t { na = set t.na x (record { value = n; version = next' }) }

    same_na : t'.na ≡ s'.na
    same_na = ap (λ (k : ℕ). set t.na x (record { value = n; version = k + 1 })) versions ∙ ap (λ (c : List Versioned). set c x (record { value = n; version = next })) m.na

    many : length s'.na ≡ length s.na
    many = length-set s.na x (record { value = n; version = next })

    memories : AreMemoriesAlike s' t'
    memories = record { na = same_na; atomic = m.atomic; sorted = sorted_kept s t s' t' refl refl m.sorted; histories = histories_kept s t s' t' many refl refl m; failed = m.failed }

    raised_times : (p q : List ℕ) → AreTimesAlike s t p q → AreTimesAlike s' t' (raised p x next) (raised q x next')
    raised_times p q h = subst (λ (k : ℕ). AreTimesAlike s' t' (raised p x next) (raised q x (k + 1))) (sym versions) (version_raised s t s' t' p q x next l many refl refl h)

    others : (p q : ThreadView) → AreViewsAlike s t p q → AreViewsAlike s' t' p q
    others p q h = views_more s t s' t' p q many refl (λ y a b _ z. z) h

    views : AreViewsAlike s' t' (raised_view v x next) (raised_view w x next')
    views = record { cur = raised_times v.cur w.cur r.cur; got = raised_times v.got w.got r.got; rel = (others v w r).rel }

-- ---- a message is read

-- the message of t that corresponds to one of s
pub record IsRead (s t : Memory) (v w : ThreadView) (y a b : ℕ) : Type 0 where
  pub pair : PairsAt s t y a b
  pub there : IsSome (message_at b (messages t y))
  pub seen : timestamp_in t w y ≤ b
  pub alike : AreMessagesAlike s t y (read_at s y a) (read_at t y b)

pub seen_pair : (s t : Memory) (v w : ThreadView) (y : ℕ) → AreMemoriesAlike s t → AreViewsAlike s t v w → y < length s.atomic → PairsAt s t y (timestamp_in s v y) (timestamp_in t w y)
seen_pair s t v w y m r l = subst (λ (k : ℕ). PairsAt s t y (timestamp_in s v y) (get_or w.cur k 0)) (sym (place_same s t y m.na)) (r.cur.stamps y l)

pub read_at_pair : (s t : Memory) (v w : ThreadView) (y a b : ℕ) → AreMemoriesAlike s t → AreViewsAlike s t v w → y < length s.atomic → timestamp_in s v y ≤ a → PairsAt s t y a b → IsRead s t v w y a b
read_at_pair s t v w y a b m r l h p =
    let o = m.sorted in
    let q = pair_found (AreMessagesAlike s t y) (messages s y) (messages t y) a b (first_message 0 (pos 0)) (o.first y l) (o.second y l) (m.histories y l) p in
    record {
      pair = p;
      there = q.second;
      seen = pairs_rise (messages s y) (messages t y) (timestamp_in s v y) (timestamp_in t w y) a b (o.first y l) (o.second y l) (seen_pair s t v w y m r l) p h;
      alike = q.related;
    }

pub read_of : (s t : Memory) (v w : ThreadView) (y a : ℕ) → AreMemoriesAlike s t → AreViewsAlike s t v w → y < length s.atomic → timestamp_in s v y ≤ a → IsSome (message_at a (messages s y)) → (b : ℕ) × IsRead s t v w y a b
read_of s t v w y a m r l h f =
    let p = pair_of (AreMessagesAlike s t y) (messages s y) (messages t y) a (m.histories y l) f in
    (p.0, read_at_pair s t v w y a p.0 m r l h p.1)

pub views_after_read : (s t : Memory) (v w : ThreadView) (y : ℕ) (order : Order) (a b : ℕ) (old old' : TheMessage) → AreBothSorted s t → AreMemoriesAlike s t → AreViewsAlike s t v w → y < length s.atomic → PairsAt s t y a b → AreTimesAlike s t old.times old'.times
    → AreViewsAlike s t (view_after_read s v y order a old) (view_after_read t w y order b old')
views_after_read s t v w y order a b old old' o m r l p q =
    subst (λ (k : ℕ). AreViewsAlike s t (view_after_read s v y order a old) (heard (raised_view w k b) old'.times (acquires order))) (sym (place_same s t y m.na))
    (views_heard s t (raised_view v (view_index s y) a) (raised_view w (view_index s y) b) old.times old'.times order o q (views_raised s t v w y a b o l p r))

pub read_answered : (s t : Memory) (v w : ThreadView) (i y : ℕ) (order : Order) (a b : ℕ) → AreBothSorted s t → AreMemoriesAlike s t → AreViewsAlike s t v w → s.failed ≡ false → y < length s.atomic → IsRead s t v w y a b
    → IsAnswered s t v w i (Read y order) (Message a) (Message b)
read_answered s t v w i y order a b o m r e l q = record {
  legal = record { running = plain_legal s t m e; admits = (q.seen, q.there) };
  result = record {
    event = ap (λ (n : Val). event.Read y order n 0) q.alike.value;
    alike = stay_alike s t _ _ m (views_after_read s t v w y order a b (read_at s y a) (read_at t y b) o m r l q.pair q.alike.times);
  };
}

-- an update that doesn't succeed on the message
pub miss_answered : (s t : Memory) (v w : ThreadView) (i y : ℕ) (order : Order) (kind : UpdateKind) (a b : ℕ) → AreBothSorted s t → AreMemoriesAlike s t → AreViewsAlike s t v w → s.failed ≡ false → y < length s.atomic → IsRead s t v w y a b
    → succeeds kind (read_at s y a).value ≡ false → IsAnswered s t v w i (Update y order kind) (Message a) (Message b)
miss_answered s t v w i y order kind a b o m r e l q fails = record {
  legal = record {
    running = plain_legal s t m e;
    admits = (q.seen, some_and (message_at b (messages t y)) (λ old. succeeds kind old.value ≡ false) _ q.there (ap (succeeds kind) q.alike.value ∙ fails));
  };
  result = cond_related (AreResultsAlike s t) (meets_undef kind (read_at s y a).value) (meets_undef kind (read_at t y b).value) _ _ _ _ (ap (meets_undef kind) (sym q.alike.value))
      (record { event = refl; alike = failed_alike s t v w m r })
      (record {
        event = ap (λ (n : Val). event.Miss y order n 0) q.alike.value;
        alike = stay_alike s t _ _ m (views_after_read s t v w y order a b (read_at s y a) (read_at t y b) o m r l q.pair q.alike.times);
      });
}
