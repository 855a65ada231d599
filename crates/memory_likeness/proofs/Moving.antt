-- A memory whose timestamps are moved is alike to what it was alike to.
use Rattle.std.proofs.Common.{◌≡◌, inl, inr, ⊎_elim, ℕ, ◌+◌, ◌<◌, ◌≤◌, ltb, List, [], ◌∷◌, length, map, get_or, refl, sym, ap, ◌∙◌, subst, arith}
use Rattle.std.proofs.lemmas.Bool.{cases_eq, cases_order, cond_both, ltb-true, ltb-false}
use Rattle.std.proofs.lemmas.List.{length-set, length-map, get_or-set_same, get_or-set_other, get_or-map}
use Rattle.std.specs.List.{AllZip}
use Rattle.views.specs.ThreadView.{ThreadView}
use Rattle.message_memory.specs.declared.message.Message.{Message as TheMessage}
use Rattle.message_memory.specs.Memory.{Memory, Messages, messages, view_index, IsDisjointAndSorted}
use Rattle.memory_likeness.specs.Likeness.{Pairs, PairsAt, AreTimesAlike, AreViewsAlike, AreMessagesAlike, AreMemoriesAlike, AreBothSorted}
use Rattle.memory_likeness.specs.Moved.{IsRisingMap, moved_times, moved_view, retimed, restamped, moved, opened}
use Rattle.memory_likeness.proofs.Times.{place_same}

pub opened_rises : (b : ℕ) → IsRisingMap (opened b)
opened_rises b = record {
  first = cond_both (ltb b 0) (0 + 2) 0 (λ (n : ℕ). n ≡ 0) (λ e. let l = ltb-true _ _ e in absurd (omega arith)) (λ e. refl);
  rises = λ x y l.
      cond_both (ltb b x) (x + 2) x (λ (n : ℕ). n < opened b y)
      (λ e. let i = ltb-true _ _ e in cond_both (ltb b y) (y + 2) y (λ (n : ℕ). x + 2 < n) (λ f. omega arith) (λ f. let j = ltb-false _ _ f in absurd (omega arith)))
      (λ e. cond_both (ltb b y) (y + 2) y (λ (n : ℕ). x < n) (λ f. omega arith) (λ f. omega arith));
}

pub map_injective : (g : ℕ → ℕ) → IsRisingMap g → (a b : ℕ) → g a ≡ g b → a ≡ b
map_injective g r a b e =
    ⊎_elim (λ (s : a ≡ b). s) (λ o. ⊎_elim (λ (s : a < b). absurd (omega (arith, r.rises a b s))) (λ (s : b < a). absurd (omega (arith, r.rises b a s))) o) (cases_order a b)

pub map_le : (g : ℕ → ℕ) → IsRisingMap g → (a b : ℕ) → a ≤ b → g a ≤ g b
map_le g r a b l = ⊎_elim (λ (e : a ≡ b). omega (arith, ap {B = ℕ} g e)) (λ (e : a ≡ b → ⊥). omega (arith, r.rises a b (omega arith))) (cases_eq a b)

-- ---- lists

pub zip_map : (R S : TheMessage → TheMessage → Type 0) (f : TheMessage → TheMessage) → ((m n : TheMessage) → R m n → S m (f n)) → (h k : Messages) → AllZip R h k → AllZip S h (map f k)
zip_map R S f q [] [] z = tt
zip_map R S f q [] (n ∷ k) z = absurd z
zip_map R S f q (m ∷ h) [] z = absurd z
zip_map R S f q (m ∷ h) (n ∷ k) z = (q m n z.0, zip_map R S f q h k z.1)

-- where f leaves the ends as they are, or moves them by g
pub pairs_mapped : (f : TheMessage → TheMessage) (g : ℕ → ℕ) → ((n : TheMessage) → (f n).to ≡ g n.to) → (h k : Messages) (a b : ℕ) → Pairs h k a b → Pairs h (map f k) a (g b)
pairs_mapped f g e [] k a b p = absurd p
pairs_mapped f g e (m ∷ h) [] a b p = absurd p
pairs_mapped f g e (m ∷ h) (n ∷ k) a b p =
    ⊎_elim (λ (q : (m.to ≡ a) × (n.to ≡ b)). inl (q.0, e n ∙ ap g q.1)) (λ (q : Pairs h k a b). inr (pairs_mapped f g e h k a b q)) p

pub pairs_unmapped : (f : TheMessage → TheMessage) (g : ℕ → ℕ) → ((n : TheMessage) → (f n).to ≡ g n.to) → (h k : Messages) (a b : ℕ) → Pairs h (map f k) a b → (c : ℕ) × (g c ≡ b) × Pairs h k a c
pairs_unmapped f g e [] k a b p = absurd p
pairs_unmapped f g e (m ∷ h) [] a b p = absurd p
pairs_unmapped f g e (m ∷ h) (n ∷ k) a b p =
    ⊎_elim
    (λ (q : (m.to ≡ a) × ((f n).to ≡ b)). (n.to, sym (e n) ∙ q.1, inl (q.0, refl)))
    (λ (q : Pairs h (map f k) a b). let r = pairs_unmapped f g e h k a b q in (r.0, r.1, inr r.2))
    p

pub sorted_mapped : (f : TheMessage → TheMessage) (g : ℕ → ℕ) → IsRisingMap g → ((n : TheMessage) → (f n).to ≡ g n.to) → ((n : TheMessage) → (f n).from ≡ g n.from) → (k : Messages) → IsDisjointAndSorted k → IsDisjointAndSorted (map f k)
sorted_mapped f g r e d [] s = absurd s
sorted_mapped f g r e d (n ∷ []) s = (d n ∙ ap g s.0 ∙ r.first, e n ∙ ap g s.1 ∙ r.first)
sorted_mapped f g r e d (n ∷ x ∷ k) s =
    (omega (arith, d n, e x, map_le g r x.to n.from s.0), omega (arith, d n, e n, r.rises n.from n.to s.1), sorted_mapped f g r e d (x ∷ k) s.2)

same_number : ℕ → ℕ
same_number n = n

-- ---- the memory

module _ (s t : Memory) (y : ℕ) (g : ℕ → ℕ) (r : IsRisingMap g) (o : AreBothSorted s t) (m : AreMemoriesAlike s t) (l : y < length s.atomic) where
  abbrev pub t' : Memory
  t' = moved t y g

  abbrev pub place : ℕ
  place = view_index t y

  abbrev told : List Messages
  told = map (map (retimed place g)) t.atomic

  pub here : messages t' y ≡ map (restamped g) (map (retimed place g) (messages t y))
  here = get_or-set_same told y (map (restamped g) (map (retimed place g) (messages t y))) [] (omega (arith, length-map t.atomic (map (retimed place g)), m.atomic))

  there : (z : ℕ) → z < length s.atomic → (z ≡ y → ⊥) → messages t' z ≡ map (retimed place g) (messages t z)
  there z h e =
      get_or-set_other told y z (map (restamped g) (map (retimed place g) (messages t y))) [] e
      ∙ get_or-map (map (retimed place g)) t.atomic z [] [] (omega (arith, m.atomic))

  many : length t'.atomic ≡ length t.atomic
  many = length-set told y (map (restamped g) (map (retimed place g) (messages t y))) ∙ length-map t.atomic (map (retimed place g))

  pub pairs_here : (a b : ℕ) → PairsAt s t y a b → PairsAt s t' y a (g b)
  pairs_here a b p =
      subst (λ (h : Messages). Pairs (messages s y) h a (g b)) (sym here)
      (pairs_mapped (restamped g) g (λ n. refl) (messages s y) (map (retimed place g) (messages t y)) a b
      (pairs_mapped (retimed place g) (λ n. n) (λ n. refl) (messages s y) (messages t y) a b p))

  pub pairs_there : (z a b : ℕ) → z < length s.atomic → (z ≡ y → ⊥) → PairsAt s t z a b → PairsAt s t' z a b
  pairs_there z a b h e p =
      subst (λ (k : Messages). Pairs (messages s z) k a b) (sym (there z h e)) (pairs_mapped (retimed place g) (λ n. n) (λ n. refl) (messages s z) (messages t z) a b p)

  pairs_back_here : (a b : ℕ) → PairsAt s t' y a b → (c : ℕ) × (g c ≡ b) × PairsAt s t y a c
  pairs_back_here a b p =
      let q = pairs_unmapped (restamped g) g (λ n. refl) (messages s y) (map (retimed place g) (messages t y)) a b (subst (λ (h : Messages). Pairs (messages s y) h a b) here p) in
      let u = pairs_unmapped (retimed place g) (λ n. n) (λ n. refl) (messages s y) (messages t y) a q.0 q.2 in
      (u.0, ap g u.1 ∙ q.1, u.2)

  pairs_back_there : (z a b : ℕ) → z < length s.atomic → (z ≡ y → ⊥) → PairsAt s t' z a b → PairsAt s t z a b
  pairs_back_there z a b h e p =
      let u = pairs_unmapped (retimed place g) (λ n. n) (λ n. refl) (messages s z) (messages t z) a b (subst (λ (k : Messages). Pairs (messages s z) k a b) (there z h e) p) in
      subst (λ (c : ℕ). PairsAt s t z a c) u.1 u.2

  pub times_moved : (v w : List ℕ) → AreTimesAlike s t v w → AreTimesAlike s t' v (moved_times place g w)
  times_moved v w q = record {
    places = length-set w place (g (get_or w place 0)) ∙ q.places;
    locations = q.locations;
    versions = λ x h. get_or-set_other w place x (g (get_or w place 0)) 0 (λ e. omega (arith, place_same s t y m.na)) ∙ q.versions x h;
    stamps = λ z h.
        ⊎_elim
        (λ (e : z ≡ y). subst (λ (j : ℕ). PairsAt s t' j (get_or v (view_index s j) 0) (get_or (moved_times place g w) (view_index s j) 0)) (sym e) at_place)
        (λ (e : z ≡ y → ⊥).
        subst (λ (n : ℕ). PairsAt s t' z (get_or v (view_index s z) 0) n) (sym (get_or-set_other w place (view_index s z) (g (get_or w place 0)) 0 (λ f. e (omega (arith, place_same s t y m.na)))))
        (pairs_there z (get_or v (view_index s z) 0) (get_or w (view_index s z) 0) h e (q.stamps z h)))
        (cases_eq z y);
  }
    where
      at_place : PairsAt s t' y (get_or v (view_index s y) 0) (get_or (moved_times place g w) (view_index s y) 0)
      at_place =
          subst (λ (j : ℕ). PairsAt s t' y (get_or v (view_index s y) 0) (get_or (moved_times place g w) j 0)) (place_same s t y m.na)
          (subst (λ (n : ℕ). PairsAt s t' y (get_or v (view_index s y) 0) n) (sym (get_or-set_same w place (g (get_or w place 0)) 0 (omega (arith, place_same s t y m.na, q.places, q.locations))))
          (pairs_here (get_or v (view_index s y) 0) (get_or w place 0) (subst (λ (j : ℕ). PairsAt s t y (get_or v (view_index s y) 0) (get_or w j 0)) (sym (place_same s t y m.na)) (q.stamps y l))))

  pub views_moved : (v w : ThreadView) → AreViewsAlike s t v w → AreViewsAlike s t' v (moved_view place g w)
  views_moved v w q = record { cur = times_moved v.cur w.cur q.cur; got = times_moved v.got w.got q.got; rel = times_moved v.rel w.rel q.rel }

  message_here : (c d : TheMessage) → AreMessagesAlike s t y c d → AreMessagesAlike s t' y c (restamped g (retimed place g d))
  message_here c d q = record {
    value = q.value;
    times = times_moved c.times d.times q.times;
    attached = λ a b p e. let u = pairs_back_here a b p in q.attached a u.0 u.2 (map_injective g r d.from u.0 (e ∙ sym u.1));
  }

  message_there : (z : ℕ) → z < length s.atomic → (z ≡ y → ⊥) → (c d : TheMessage) → AreMessagesAlike s t z c d → AreMessagesAlike s t' z c (retimed place g d)
  message_there z h f c d q = record {
    value = q.value;
    times = times_moved c.times d.times q.times;
    attached = λ a b p e. q.attached a b (pairs_back_there z a b h f p) e;
  }

  pub sorted_moved : AreBothSorted s t'
  sorted_moved = record {
    atomic = many ∙ o.atomic;
    first = o.first;
    second = λ z h.
        ⊎_elim
        (λ (e : z ≡ y).
        subst (λ (j : ℕ). IsDisjointAndSorted (messages t' j)) (sym e)
        (subst IsDisjointAndSorted (sym here)
        (sorted_mapped (restamped g) g r (λ n. refl) (λ n. refl) (map (retimed place g) (messages t y))
        (sorted_mapped (retimed place g) (λ n. n) (record { first = refl; rises = λ a b k. k }) (λ n. refl) (λ n. refl) (messages t y) (o.second y l)))))
        (λ (e : z ≡ y → ⊥).
        subst IsDisjointAndSorted (sym (there z h e))
        (sorted_mapped (retimed place g) (λ n. n) (record { first = refl; rises = λ a b k. k }) (λ n. refl) (λ n. refl) (messages t z) (o.second z h)))
        (cases_eq z y);
  }

  pub memories_moved : AreMemoriesAlike s t'
  memories_moved = record {
    na = m.na;
    atomic = many ∙ m.atomic;
    sorted = sorted_moved;
    histories = λ z h.
        ⊎_elim
        (λ (e : z ≡ y).
        subst (λ (j : ℕ). AllZip (AreMessagesAlike s t' j) (messages s j) (messages t' j)) (sym e)
        (subst (λ (k : Messages). AllZip (AreMessagesAlike s t' y) (messages s y) k) (sym here)
        (zip_map (λ c d. AreMessagesAlike s t' y c (restamped g d)) (AreMessagesAlike s t' y) (restamped g) (λ c d q. q) (messages s y) (map (retimed place g) (messages t y))
        (zip_map (AreMessagesAlike s t y) (λ c d. AreMessagesAlike s t' y c (restamped g d)) (retimed place g) message_here (messages s y) (messages t y) (m.histories y l)))))
        (λ (e : z ≡ y → ⊥).
        subst (λ (k : Messages). AllZip (AreMessagesAlike s t' z) (messages s z) k) (sym (there z h e))
        (zip_map (AreMessagesAlike s t z) (AreMessagesAlike s t' z) (retimed place g) (message_there z h e) (messages s z) (messages t z) (m.histories z h)))
        (cases_eq z y);
    failed = m.failed;
  }
