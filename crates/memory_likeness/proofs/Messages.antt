-- Accesses that put in a message, at places that stand on one side of each message in both memories.
use Rattle.std.proofs.Common.{◌≡◌, ◌⊎◌, inl, inr, ⊎_elim, ℕ, ◌<◌, true, false, List, [], ◌∷◌, length, refl, sym, ap, ◌∙◌, subst, arith}
use Rattle.std.proofs.lemmas.Bool.{cases_eq}
use Rattle.std.proofs.lemmas.List.{length-set, get_or-set_same, get_or-set_other}
use Rattle.std.specs.List.{AllZip, AllByRecursion}
use Rattle.values_undef.specs.Access.{acquires}
use Rattle.values_undef.specs.declared.value.Val.{Val}
use Rattle.values_undef.specs.declared.access.Order.{Order}
use Rattle.values_undef.specs.declared.access.UpdateKind.{UpdateKind}
use Rattle.values_undef.specs.declared.access.Access.TheVariants.{Write, Update}
use Rattle.values_undef.specs.declared.access.Choice.TheVariants.{Place, Take}
use Rattle.values_undef.specs.declared.access.Event.TheVariants as event
use Rattle.views.specs.ThreadView.{ThreadView, raised_view, heard}
use Rattle.message_memory.specs.declared.message.Message.{Message as TheMessage}
use Rattle.message_memory.specs.Memory.{Memory, Messages, messages, inserted, is_free, view_index, with_message, IsDisjointAndSorted}
use Rattle.message_memory.specs.Step.{AdmitsChoice, read_at, view_after_read, write_message, update_message, updated}
use Rattle.memory_likeness.specs.Likeness.{Pairs, PairsAt, AreTimesAlike, AreViewsAlike, AreMessagesAlike, AreMemoriesAlike, AreBothSorted}
use Rattle.memory_likeness.specs.Answering.{IsAnswered}
use Rattle.memory_likeness.proofs.Pairing.{OnOneSide, zip_inserted, pairs_kept, pairs_new, pairs_back, pairs_first}
use Rattle.memory_likeness.proofs.Times.{place_same, times_joined, views_raised, views_heard, times_handed_on}
use Rattle.memory_likeness.proofs.Steps.{times_more, views_more, plain_legal, IsRead}
use Rattle.message_memory.proofs.Callers.{sorted_inserted, zip_more}

pub zip_and : {A B : Type 0} (R : A → B → Type 0) (P : B → Type 0) (xs : List A) (ys : List B) → AllZip R xs ys → AllByRecursion P ys → AllZip (λ x y. R x y × P y) xs ys
zip_and R P [] [] z q = tt
zip_and R P [] (y ∷ ys) z q = absurd z
zip_and R P (x ∷ xs) [] z q = absurd z
zip_and R P (x ∷ xs) (y ∷ ys) z q = ((z.0, q.0), zip_and R P xs ys z.1 q.1)

-- no message of the list begins here
abbrev pub NoneBegins : ℕ → Messages → Type 0
NoneBegins t k = AllByRecursion (λ n. n.from ≡ t → ⊥) k

-- none ends here
abbrev pub NoneEnds : ℕ → Messages → Type 0
NoneEnds t k = AllByRecursion (λ n. n.to ≡ t → ⊥) k

pub ends_elsewhere : (t : ℕ) (h k : Messages) (a b : ℕ) → NoneEnds t k → Pairs h k a b → b ≡ t → ⊥
ends_elsewhere t [] k a b q p e = p
ends_elsewhere t (m ∷ h) [] a b q p e = p
ends_elsewhere t (m ∷ h) (n ∷ k) a b q p e = ⊎_elim (λ (f : (m.to ≡ a) × (n.to ≡ b)). q.0 (f.1 ∙ e)) (λ (r : Pairs h k a b). ends_elsewhere t h k a b q.1 r e) p

-- a message u of s and a message v of t are to be put in at location y
pub record IsPlaced (s t : Memory) (y : ℕ) (u v : TheMessage) : Type 0 where
  pub there : y < length s.atomic
  pub side : AllZip (OnOneSide u.to v.to) (messages s y) (messages t y)
  pub apart : NoneBegins v.to (messages t y)
  pub first_rises : u.from < u.to
  pub second_rises : v.from < v.to
  pub first_free : is_free u.from u.to (messages s y) ≡ true
  pub second_free : is_free v.from v.to (messages t y) ≡ true

module _ (s t : Memory) (y : ℕ) (u v : TheMessage) (o : AreBothSorted s t) (m : AreMemoriesAlike s t) (q : IsPlaced s t y u v) where
  abbrev pub s' : Memory
  s' = with_message s y u

  abbrev pub t' : Memory
  t' = with_message t y v

  there' : y < length t.atomic
  there' = omega (arith, m.atomic, q.there)

  here_s : messages s' y ≡ inserted u (messages s y)
  here_s = get_or-set_same s.atomic y (inserted u (messages s y)) [] q.there

  here_t : messages t' y ≡ inserted v (messages t y)
  here_t = get_or-set_same t.atomic y (inserted v (messages t y)) [] there'

  other_s : (z : ℕ) → (z ≡ y → ⊥) → messages s' z ≡ messages s z
  other_s z e = get_or-set_other s.atomic y z (inserted u (messages s y)) [] e

  other_t : (z : ℕ) → (z ≡ y → ⊥) → messages t' z ≡ messages t z
  other_t z e = get_or-set_other t.atomic y z (inserted v (messages t y)) [] e

  pub pairs_grow : (z a b : ℕ) → PairsAt s t z a b → PairsAt s' t' z a b
  pairs_grow z a b p =
      ⊎_elim
      (λ (e : z ≡ y).
      subst (λ (j : ℕ). PairsAt s' t' j a b) (sym e)
      (subst (λ (h : Messages). Pairs h (messages t' y) a b) (sym here_s) (subst (λ (h : Messages). Pairs (inserted u (messages s y)) h a b) (sym here_t)
      (pairs_kept u v (messages s y) (messages t y) a b q.side (subst (λ (j : ℕ). PairsAt s t j a b) e p)))))
      (λ (e : z ≡ y → ⊥). subst (λ (h : Messages). Pairs h (messages t' z) a b) (sym (other_s z e)) (subst (λ (h : Messages). Pairs (messages s z) h a b) (sym (other_t z e)) p))
      (cases_eq z y)

  pub pair_of_new : PairsAt s' t' y u.to v.to
  pair_of_new = subst (λ (h : Messages). Pairs h (messages t' y) u.to v.to) (sym here_s) (subst (λ (h : Messages). Pairs (inserted u (messages s y)) h u.to v.to) (sym here_t) (pairs_new u v (messages s y) (messages t y) q.side))

  pub pairs_shrink : (z a b : ℕ) → PairsAt s' t' z a b → ((z ≡ y) × (u.to ≡ a) × (v.to ≡ b)) ⊎ PairsAt s t z a b
  pairs_shrink z a b p =
      ⊎_elim
      (λ (e : z ≡ y).
      ⊎_elim
      (λ (f : (u.to ≡ a) × (v.to ≡ b)). inl (e, f.0, f.1))
      (λ (r : Pairs (messages s y) (messages t y) a b). inr (subst (λ (j : ℕ). PairsAt s t j a b) (sym e) r))
      (pairs_back u v (messages s y) (messages t y) a b q.side
      (subst (λ (h : Messages). Pairs h (inserted v (messages t y)) a b) here_s (subst (λ (h : Messages). Pairs (messages s' y) h a b) here_t (subst (λ (j : ℕ). PairsAt s' t' j a b) e p)))))
      (λ (e : z ≡ y → ⊥). inr (subst (λ (h : Messages). Pairs h (messages t z) a b) (other_s z e) (subst (λ (h : Messages). Pairs (messages s' z) h a b) (other_t z e) p)))
      (cases_eq z y)

  many : length s'.atomic ≡ length s.atomic
  many = length-set s.atomic y (inserted u (messages s y))

  pub times_grow : (a b : List ℕ) → AreTimesAlike s t a b → AreTimesAlike s' t' a b
  times_grow a b r = times_more s t s' t' a b refl many (λ z c d _. pairs_grow z c d) r

  pub views_grow : (a b : ThreadView) → AreViewsAlike s t a b → AreViewsAlike s' t' a b
  views_grow a b r = views_more s t s' t' a b refl many (λ z c d _. pairs_grow z c d) r

  pub sorted_grow : AreBothSorted s' t'
  sorted_grow = record {
    atomic = length-set t.atomic y (inserted v (messages t y)) ∙ o.atomic ∙ sym many;
    first = λ z l. ⊎_elim
        (λ (e : z ≡ y). subst (λ (j : ℕ). IsDisjointAndSorted (messages s' j)) (sym e) (subst IsDisjointAndSorted (sym here_s) (sorted_inserted u (messages s y) (o.first y q.there) q.first_rises q.first_free)))
        (λ (e : z ≡ y → ⊥). subst IsDisjointAndSorted (sym (other_s z e)) (o.first z (omega (arith, many)))) (cases_eq z y);
    second = λ z l. ⊎_elim
        (λ (e : z ≡ y). subst (λ (j : ℕ). IsDisjointAndSorted (messages t' j)) (sym e) (subst IsDisjointAndSorted (sym here_t) (sorted_inserted v (messages t y) (o.second y q.there) q.second_rises q.second_free)))
        (λ (e : z ≡ y → ⊥). subst IsDisjointAndSorted (sym (other_t z e)) (o.second z (omega (arith, many)))) (cases_eq z y);
  }

  old_message : (z : ℕ) (c d : TheMessage) → (z ≡ y → d.from ≡ v.to → ⊥) → AreMessagesAlike s t z c d → AreMessagesAlike s' t' z c d
  old_message z c d clear r = record {
    value = r.value;
    times = times_grow c.times d.times r.times;
    attached = λ a b p e. ⊎_elim (λ (f : (z ≡ y) × (u.to ≡ a) × (v.to ≡ b)). absurd (clear f.0 (e ∙ sym f.2))) (λ (g : PairsAt s t z a b). r.attached a b g e) (pairs_shrink z a b p);
  }

  pub memories_grow : AreMessagesAlike s' t' y u v → AreMemoriesAlike s' t'
  memories_grow new = record {
    na = m.na;
    atomic = sorted_grow.atomic;
    sorted = sorted_grow;
    histories = λ z l. ⊎_elim
        (λ (e : z ≡ y). subst (λ (j : ℕ). AllZip (AreMessagesAlike s' t' j) (messages s' j) (messages t' j)) (sym e)
        (subst (λ (h : Messages). AllZip (AreMessagesAlike s' t' y) h (messages t' y)) (sym here_s) (subst (λ (h : Messages). AllZip (AreMessagesAlike s' t' y) (inserted u (messages s y)) h) (sym here_t)
        (zip_inserted (AreMessagesAlike s' t' y) u v (messages s y) (messages t y) new q.side
        (zip_more (λ c d. AreMessagesAlike s t y c d × (d.from ≡ v.to → ⊥)) (AreMessagesAlike s' t' y) (λ c d r. old_message y c d (λ _. r.1) r.0) (messages s y) (messages t y)
        (zip_and (AreMessagesAlike s t y) (λ d. d.from ≡ v.to → ⊥) (messages s y) (messages t y) (m.histories y q.there) q.apart))))))
        (λ (e : z ≡ y → ⊥).
        subst (λ (h : Messages). AllZip (AreMessagesAlike s' t' z) h (messages t' z)) (sym (other_s z e)) (subst (λ (h : Messages). AllZip (AreMessagesAlike s' t' z) (messages s z) h) (sym (other_t z e))
        (zip_more (AreMessagesAlike s t z) (AreMessagesAlike s' t' z) (λ c d r. old_message z c d (λ f. absurd (e f)) r) (messages s z) (messages t z) (m.histories z (omega (arith, many))))))
        (cases_eq z y);
    failed = m.failed;
  }

-- ---- a write

pub write_answered : (s t : Memory) (v w : ThreadView) (i y : ℕ) (order : Order) (n : Val) (from to from' to' : ℕ) → AreBothSorted s t → AreMemoriesAlike s t → AreViewsAlike s t v w → s.failed ≡ false → y < length s.atomic
    → AdmitsChoice s v (Write y order n) (Place from to) → AdmitsChoice t w (Write y order n) (Place from' to')
    → AllZip (OnOneSide to to') (messages s y) (messages t y) → NoneBegins to' (messages t y) → NoneEnds from' (messages t y)
    → IsAnswered s t v w i (Write y order n) (Place from to) (Place from' to')
write_answered s t v w i y order n from to from' to' o m r e l h k side apart none = record {
  legal = record { running = plain_legal s t m e; admits = k };
  result = record {
    event = refl;
    alike = record { memories = memories_grow s t y one two o m placed new; views = after; others = λ p q z. views_grow s t y one two o m placed p q z };
  };
}
  where
    one : TheMessage
    one = write_message s v y order n from to

    two : TheMessage
    two = write_message t w y order n from' to'

    placed : IsPlaced s t y one two
    placed = record { there = l; side = side; apart = apart; first_rises = h.0; second_rises = k.0; first_free = h.2; second_free = k.2 }

    s' : Memory
    s' = with_message s y one

    t' : Memory
    t' = with_message t y two

    more : y < length s'.atomic
    more = omega (arith, length-set s.atomic y (inserted one (messages s y)))

    sorted : AreBothSorted s' t'
    sorted = sorted_grow s t y one two o m placed

    after : AreViewsAlike s' t' (raised_view v (view_index s y) to) (raised_view w (view_index t y) to')
    after = subst (λ (j : ℕ). AreViewsAlike s' t' (raised_view v (view_index s y) to) (raised_view w j to')) (sym (place_same s t y m.na))
        (views_raised s' t' v w y to to' sorted more (pair_of_new s t y one two o m placed) (views_grow s t y one two o m placed v w r))

    new : AreMessagesAlike s' t' y one two
    new = record {
      value = refl;
      times = times_handed_on s' t' (raised_view v (view_index s y) to) (raised_view w (view_index t y) to') y order to to' sorted m.na more (pair_of_new s t y one two o m placed) after;
      attached = λ a b p f. ⊎_elim
          (λ (g : (y ≡ y) × (to ≡ a) × (to' ≡ b)). absurd (omega (arith, k.0, g.2, f)))
          (λ (g : PairsAt s t y a b). absurd (ends_elsewhere from' (messages s y) (messages t y) a b none g (sym f)))
          (pairs_shrink s t y one two o m placed y a b p);
    }

-- ---- an update that succeeds

pub take_answered : (s t : Memory) (v w : ThreadView) (i y : ℕ) (order : Order) (kind : UpdateKind) (read to read' to' : ℕ) → AreBothSorted s t → AreMemoriesAlike s t → AreViewsAlike s t v w → s.failed ≡ false → y < length s.atomic
    → AdmitsChoice s v (Update y order kind) (Take read to) → AdmitsChoice t w (Update y order kind) (Take read' to') → IsRead s t v w y read read'
    → AllZip (OnOneSide to to') (messages s y) (messages t y) → NoneBegins to' (messages t y)
    → IsAnswered s t v w i (Update y order kind) (Take read to) (Take read' to')
take_answered s t v w i y order kind read to read' to' o m r e l h k found side apart = record {
  legal = record { running = plain_legal s t m e; admits = k };
  result = record {
    event = ap (λ (n : Val). event.Update y order n (updated kind n) 0 0) found.alike.value;
    alike = record { memories = memories_grow s t y one two o m placed new; views = after; others = λ p q z. views_grow s t y one two o m placed p q z };
  };
}
  where
    old : TheMessage
    old = read_at s y read

    old' : TheMessage
    old' = read_at t y read'

    one : TheMessage
    one = update_message s v y order kind old read to

    two : TheMessage
    two = update_message t w y order kind old' read' to'

    placed : IsPlaced s t y one two
    placed = record { there = l; side = side; apart = apart; first_rises = h.1; second_rises = k.1; first_free = h.2; second_free = k.2 }

    s' : Memory
    s' = with_message s y one

    t' : Memory
    t' = with_message t y two

    more : y < length s'.atomic
    more = omega (arith, length-set s.atomic y (inserted one (messages s y)))

    sorted : AreBothSorted s' t'
    sorted = sorted_grow s t y one two o m placed

    told : AreTimesAlike s' t' old.times old'.times
    told = times_grow s t y one two o m placed old.times old'.times found.alike.times

    after : AreViewsAlike s' t' (view_after_read s v y order to old) (view_after_read t w y order to' old')
    after = subst (λ (j : ℕ). AreViewsAlike s' t' (view_after_read s v y order to old) (heard_at j)) (sym (place_same s t y m.na))
        (views_heard s' t' (raised_view v (view_index s y) to) (raised_view w (view_index s y) to') old.times old'.times order sorted told
        (views_raised s' t' v w y to to' sorted more (pair_of_new s t y one two o m placed) (views_grow s t y one two o m placed v w r)))
      where
        heard_at : ℕ → ThreadView
        heard_at j = heard (raised_view w j to') old'.times (acquires order)

    new : AreMessagesAlike s' t' y one two
    new = record {
      value = ap (updated kind) found.alike.value;
      times = times_joined s' t' _ _ old.times old'.times sorted
          (times_handed_on s' t' (view_after_read s v y order to old) (view_after_read t w y order to' old') y order to to' sorted m.na more (pair_of_new s t y one two o m placed) after) told;
      attached = λ a b p f. ⊎_elim
          (λ (g : (y ≡ y) × (to ≡ a) × (to' ≡ b)). absurd (omega (arith, k.1, g.2, f)))
          (λ (g : PairsAt s t y a b). pairs_first (messages s y) (messages t y) read read' a b (o.first y l) (o.second y l) found.pair g f)
          (pairs_shrink s t y one two o m placed y a b p);
    }
