-- Each access of a memory is answered by one of a memory that is alike to it.
use Rattle.std.proofs.Common.{◌≡◌, inl, inr, ⊎_elim, ℕ, ◌+◌, ◌<◌, ◌≤◌, true, false, not, [], ◌∷◌, length, map, Option, refl, sym, ap, ◌∙◌, subst, arith}
use Rattle.std.proofs.lemmas.Bool.{cases_eq, cond-true, cond-false, and_parts, false≢true}
use Rattle.std.proofs.lemmas.List.{get_or-set_same}
use Rattle.std.specs.List.{AllZip}
use Rattle.std.specs.Option.{IsSome}
use Rattle.std.specs.Prelude.{pos}
use Rattle.values_undef.specs.Access.{leaves_choice}
use Rattle.values_undef.specs.declared.value.Val.{Val}
use Rattle.values_undef.specs.declared.access.Order.{Order}
use Rattle.values_undef.specs.declared.access.UpdateKind.{UpdateKind}
use Rattle.values_undef.specs.declared.access.Access.{Access}
use Rattle.values_undef.specs.declared.access.Access.TheVariants.{NaRead, NaWrite, Read, Write, Update, Fence, Print, Fail, Finish, Spend}
use Rattle.values_undef.specs.declared.access.Choice.{Choice}
use Rattle.values_undef.specs.declared.access.Choice.TheVariants.{Plain, Message, Place, Take}
use Rattle.views.specs.ThreadView.{ThreadView}
use Rattle.message_memory.specs.declared.message.Message.{Message as TheMessage}
use Rattle.message_memory.specs.Memory.{Memory, Messages, messages, message_at, overlaps, is_free, view_index, last_to, first_message, IsDisjointAndSorted}
use Rattle.message_memory.specs.Step.{AdmitsChoice, read_at, timestamp_in, succeeds}
use Rattle.message_memory.proofs.Callers.{some_from_and, not_over, zip_more, some_and, and_some}
use Rattle.memory_likeness.specs.Likeness.{Pairs, PairsAt, AreViewsAlike, AreMessagesAlike, AreMemoriesAlike, AreBothSorted}
use Rattle.memory_likeness.specs.Answering.{IsAnswered, IsFollowed, AccessesAreFollowed, made_room, view_with_room, choice_behind}
use Rattle.memory_likeness.specs.Moved.{moved, moved_view, opened, retimed, restamped}
use Rattle.memory_likeness.proofs.Pairing.{OnOneSide, find_there, pair_found, in_order, pairs_rise, pair_of, second_below, sorted_second}
use Rattle.memory_likeness.proofs.Steps.{IsRead, seen_pair, read_at_pair, read_of, read_answered, miss_answered, load_answered, store_answered, fence_answered, print_answered, fail_answered, finish_answered, spend_answered}
use Rattle.memory_likeness.proofs.Messages.{NoneBegins, NoneEnds, write_answered, take_answered}
use Rattle.memory_likeness.proofs.Moving.{opened_rises, here, pairs_here, views_moved, memories_moved}
use Rattle.memory_likeness.proofs.Room.{IsLastBelow, last_below, read_last, IsBeside, free_opened, sides_opened, none_begins, none_ends, opened_low}

-- ---- what is known of each message of s and its partner

zip_both : (R S : TheMessage → TheMessage → Type 0) (h k : Messages) → AllZip R h k → AllZip S h k → AllZip (λ m n. R m n × S m n) h k
zip_both R S [] [] p q = tt
zip_both R S [] (n ∷ k) p q = absurd p
zip_both R S (m ∷ h) [] p q = absurd p
zip_both R S (m ∷ h) (n ∷ k) p q = ((p.0, q.0), zip_both R S h k p.1 q.1)

zip_pairs : (R : TheMessage → TheMessage → Type 0) (h k : Messages) → AllZip R h k → AllZip (λ m n. Pairs h k m.to n.to) h k
zip_pairs R [] [] z = tt
zip_pairs R [] (n ∷ k) z = absurd z
zip_pairs R (m ∷ h) [] z = absurd z
zip_pairs R (m ∷ h) (n ∷ k) z =
    (inl (refl, refl), zip_more (λ c d. Pairs h k c.to d.to) (λ c d. Pairs (m ∷ h) (n ∷ k) c.to d.to) (λ c d p. inr p) h k (zip_pairs R h k z.1))

zip_free : (R : TheMessage → TheMessage → Type 0) (from to : ℕ) (h k : Messages) → AllZip R h k → is_free from to h ≡ true → AllZip (λ m n. not (overlaps from to m) ≡ true) h k
zip_free R from to [] [] z f = tt
zip_free R from to [] (n ∷ k) z f = absurd z
zip_free R from to (m ∷ h) [] z f = absurd z
zip_free R from to (m ∷ h) (n ∷ k) z f = let parts = and_parts _ _ f in (parts.0, zip_free R from to h k z.1 parts.1)

-- what lies below the first of them
zip_low : (R : TheMessage → TheMessage → Type 0) (b : ℕ) (n : TheMessage) (h k : Messages) → IsDisjointAndSorted (n ∷ k) → n.to ≡ b → AllZip R h k → AllZip (λ c d. b < d.to → b ≤ d.from) h k
zip_low R b n h k s e z =
    zip_more (λ c d. Pairs h k c.to d.to) (λ c d. b < d.to → b ≤ d.from) (λ c d p l. let q : d.to < n.to = second_below n h k c.to d.to s p in absurd (omega arith)) h k (zip_pairs R h k z)

up_to_last : (h k : Messages) (a b : ℕ) → IsDisjointAndSorted k → Pairs h k a b → b ≤ last_to k
up_to_last [] k a b s p = absurd p
up_to_last (m ∷ h) [] a b s p = absurd p
up_to_last (m ∷ h) (n ∷ k) a b s p = ⊎_elim (λ (q : (m.to ≡ a) × (n.to ≡ b)). omega (arith, q.1)) (λ (q : Pairs h k a b). let l : b < n.to = second_below n h k a b s q in omega arith) p

head_behind : (n : TheMessage) (h k : Messages) (a b : ℕ) → IsDisjointAndSorted (n ∷ k) → Pairs h k a b → b ≤ n.from
head_behind n [] k a b s p = absurd p
head_behind n (m ∷ h) [] a b s p = absurd p
head_behind n (m ∷ h) (x ∷ k) a b s p = let l : b ≤ x.to = up_to_last (m ∷ h) (x ∷ k) a b s.2 p in omega (arith, s.0)

zip_behind : (R : TheMessage → TheMessage → Type 0) (a b : ℕ) (h k : Messages) → AllZip R h k → IsDisjointAndSorted k → Pairs h k a b → AllZip (λ c d. b < d.to → b ≤ d.from) h k
zip_behind R a b [] [] z s p = tt
zip_behind R a b [] (n ∷ k) z s p = absurd z
zip_behind R a b (m ∷ h) [] z s p = absurd z
zip_behind R a b (m ∷ h) (n ∷ k) z s p =
    ⊎_elim
    (λ (q : (m.to ≡ a) × (n.to ≡ b)). ((λ l. absurd (omega (arith, q.1))), zip_low R b n h k s q.1 z.1))
    (λ (q : Pairs h k a b). ((λ _. head_behind n h k a b s q), zip_behind R a b h k z.1 (sorted_second n h k a b s q) q))
    p

-- a place begins behind the last message below it
after_last : (h : Messages) (a from to : ℕ) → IsDisjointAndSorted h → IsSome (message_at a h) → a < to → is_free from to h ≡ true → a ≤ from
after_last [] a from to s f l free = absurd (false≢true f)
after_last (m ∷ []) a from to s f l free =
    ⊎_elim (λ (e : m.to ≡ a). omega (arith, s.1)) (λ (e : m.to ≡ a → ⊥). absurd (none e f)) (cases_eq m.to a)
  where
    none : (m.to ≡ a → ⊥) → IsSome (message_at a (m ∷ [])) → ⊥
    none e f = false≢true (subst (λ (o : Option TheMessage). IsSome o) (find_there a m [] e) f)
after_last (m ∷ x ∷ h) a from to s f l free =
    let parts : (not (overlaps from to m) ≡ true) × (is_free from to (x ∷ h) ≡ true) = and_parts _ _ free in
    ⊎_elim
    (λ (e : m.to ≡ a). omega (arith, s.1, not_over from to m parts.0))
    (λ (e : m.to ≡ a → ⊥). after_last (x ∷ h) a from to s.2 (subst (λ (o : Option TheMessage). IsSome o) (find_there a m (x ∷ h) e) f) l parts.1)
    (cases_eq m.to a)

besides : (s t : Memory) (y a b from to : ℕ) → AreMemoriesAlike s t → y < length s.atomic → PairsAt s t y a b → IsLastBelow (messages s y) a to → is_free from to (messages s y) ≡ true
    → AllZip (IsBeside a b from to) (messages s y) (messages t y)
besides s t y a b from to m l p last free =
    zip_more (λ c d. (R c d × Pairs h k c.to d.to) × ((not (overlaps from to c) ≡ true) × (b < d.to → b ≤ d.from))) (IsBeside a b from to)
    (λ c d q. record {
      order = in_order h k c.to d.to a b (o.first y l) (o.second y l) q.0.1 p;
      last = last.last k c.to d.to q.0.1;
      free = inr (not_over from to c q.1.0);
      behind = q.1.1;
      attached = q.0.0.attached a b p;
    })
    h k
    (zip_both (λ c d. R c d × Pairs h k c.to d.to) (λ c d. (not (overlaps from to c) ≡ true) × (b < d.to → b ≤ d.from)) h k
    (zip_both R (λ c d. Pairs h k c.to d.to) h k z (zip_pairs R h k z))
    (zip_both (λ c d. not (overlaps from to c) ≡ true) (λ c d. b < d.to → b ≤ d.from) h k (zip_free R from to h k z free) (zip_behind R a b h k z (o.second y l) p)))
  where
    h : Messages
    h = messages s y

    k : Messages
    k = messages t y

    R : TheMessage → TheMessage → Type 0
    R c d = AreMessagesAlike s t y c d

    o : AreBothSorted s t
    o = m.sorted

    z : AllZip (AreMessagesAlike s t y) (messages s y) (messages t y)
    z = m.histories y l

-- ---- the room that is made

-- what holds in t after room has been made behind b, for a message of s that is put in at (from, to]
record HasRoom (s t : Memory) (v w : ThreadView) (y b from to : ℕ) : Type 0 where
  memories : AreMemoriesAlike s (moved t y (opened b))
  views : AreViewsAlike s (moved t y (opened b)) v (moved_view (view_index t y) (opened b) w)
  sides : AllZip (OnOneSide to (b + 2)) (messages s y) (messages (moved t y (opened b)) y)
  begins : NoneBegins (b + 2) (messages (moved t y (opened b)) y)
  ends : NoneEnds (b + 1) (messages (moved t y (opened b)) y)
  free : (c : ℕ) → b ≤ c → is_free c (b + 2) (messages (moved t y (opened b)) y) ≡ true
  seen : timestamp_in t w y ≤ b → timestamp_in (moved t y (opened b)) (moved_view (view_index t y) (opened b) w) y ≤ b

room_made : (s t : Memory) (v w : ThreadView) (y a b from to : ℕ) → AreMemoriesAlike s t → AreViewsAlike s t v w → y < length s.atomic → PairsAt s t y a b → IsLastBelow (messages s y) a to → a ≤ from → from < to
    → is_free from to (messages s y) ≡ true → HasRoom s t v w y b from to
room_made s t v w y a b from to m r l p last after rises free = record {
  memories = memories_moved s t y (opened b) (opened_rises b) m.sorted m l;
  views = views_moved s t y (opened b) (opened_rises b) m.sorted m l v w r;
  sides = subst (λ (k : Messages). AllZip (OnOneSide to (b + 2)) (messages s y) k) (sym same) (sides_opened a b from to (view_index t y) last.below (messages s y) (messages t y) z);
  begins = subst (NoneBegins (b + 2)) (sym same) (none_begins b (b + 2) (view_index t y) (omega arith) (omega arith) (messages t y));
  ends = subst (NoneEnds (b + 1)) (sym same) (none_ends b (b + 1) (view_index t y) (omega arith) (omega arith) (messages t y));
  free = λ c g. subst (λ (k : Messages). is_free c (b + 2) k ≡ true) (sym same) (free_opened a b from to c (view_index t y) after rises g (messages s y) (messages t y) z);
  seen = λ g.
      let at_place : timestamp_in (moved t y (opened b)) (moved_view (view_index t y) (opened b) w) y ≡ opened b (timestamp_in t w y) = get_or-set_same w.cur (view_index t y) (opened b (timestamp_in t w y)) 0 (omega (arith, r.cur.places, r.cur.locations, ap {B = ℕ} length m.na)) in
      omega (arith, at_place, opened_low b (timestamp_in t w y) g);
}
  where
    same : messages (moved t y (opened b)) y ≡ map (restamped (opened b)) (map (retimed (view_index t y) (opened b)) (messages t y))
    same = here s t y (opened b) (opened_rises b) m.sorted m l

    z : AllZip (IsBeside a b from to) (messages s y) (messages t y)
    z = besides s t y a b from to m l p last free

-- ---- the accesses

followed_plain : (s t : Memory) (v w : ThreadView) (i : ℕ) (a : Access) (c : Choice) (b : ℕ) → leaves_choice a ≡ false → made_room t a b ≡ t → view_with_room t w a b ≡ w → ((q : ThreadView) → view_with_room t q a b ≡ q)
    → IsAnswered s t v w i a c (choice_behind t a b) → IsFollowed s t v w i a c b
followed_plain s t v w i a c b e f g k r = record {
  found = λ h. absurd (false≢true (sym e ∙ h));
  answered = subst (λ (m : Memory). IsAnswered s m v (view_with_room t w a b) i a c (choice_behind t a b)) (sym f) (subst (λ (u : ThreadView). IsAnswered s t v u i a c (choice_behind t a b)) (sym g) r);
  others = λ p q z. subst (λ (m : Memory). AreViewsAlike s m p (view_with_room t q a b)) (sym f) (subst (λ (u : ThreadView). AreViewsAlike s t p u) (sym (k q)) z);
}

-- the message that is read or stood behind is found
found_pair : (s t : Memory) (y a b : ℕ) → AreMemoriesAlike s t → y < length s.atomic → PairsAt s t y a b → IsSome (message_at b (messages t y))
found_pair s t y a b m l p = (pair_found (AreMessagesAlike s t y) (messages s y) (messages t y) a b (first_message 0 (pos 0)) (m.sorted.first y l) (m.sorted.second y l) (m.histories y l) p).second

write_followed : (s t : Memory) (v w : ThreadView) (i y : ℕ) (order : Order) (n : Val) (from to : ℕ) → AreMemoriesAlike s t → AreViewsAlike s t v w → s.failed ≡ false → y < length s.atomic
    → AdmitsChoice s v (Write y order n) (Place from to) → (b : ℕ) × IsFollowed s t v w i (Write y order n) (Place from to) b
write_followed s t v w i y order n from to m r e l h =
    let last = last_below (messages s y) to (m.sorted.first y l) (omega (arith, h.0)) in
    let p = pair_of (AreMessagesAlike s t y) (messages s y) (messages t y) last.0 (m.histories y l) last.1.found in
    let after = after_last (messages s y) last.0 from to (m.sorted.first y l) last.1.found last.1.below h.2 in
    let q = room_made s t v w y last.0 p.0 from to m r l p.1 last.1 after h.0 h.2 in
    let seen : timestamp_in s v y ≤ last.0 = last.1.last (messages t y) (timestamp_in s v y) (timestamp_in t w y) (seen_pair s t v w y m r l) h.1 in
    let low : timestamp_in t w y ≤ p.0 = pairs_rise (messages s y) (messages t y) (timestamp_in s v y) (timestamp_in t w y) last.0 p.0 (m.sorted.first y l) (m.sorted.second y l) (seen_pair s t v w y m r l) p.1 seen in
    let there = q.seen low in (
      p.0,
      record {
        found = λ _. found_pair s t y last.0 p.0 m l p.1;
        answered = write_answered s (moved t y (opened p.0)) v (moved_view (view_index t y) (opened p.0) w) i y order n from to (p.0 + 1) (p.0 + 2) q.memories.sorted q.memories q.views e l h
            (omega arith, omega (arith, there), q.free (p.0 + 1) (omega arith)) q.sides q.begins q.ends;
        others = λ c d z. views_moved s t y (opened p.0) (opened_rises p.0) m.sorted m l c d z;
      },
    )

take_followed : (s t : Memory) (v w : ThreadView) (i y : ℕ) (order : Order) (kind : UpdateKind) (read to : ℕ) → AreMemoriesAlike s t → AreViewsAlike s t v w → s.failed ≡ false → y < length s.atomic
    → AdmitsChoice s v (Update y order kind) (Take read to) → (b : ℕ) × IsFollowed s t v w i (Update y order kind) (Take read to) b
take_followed s t v w i y order kind read to m r e l h =
    let found = some_from_and (message_at read (messages s y)) _ h.3 in
    let f = read_of s t v w y read m r l h.0 found in
    let b = f.0 in
    let last = read_last (messages s y) read to (m.sorted.first y l) found h.1 h.2 in
    let q = room_made s t v w y read b read to m r l f.1.pair last (omega arith) h.1 h.2 in
    let pair : PairsAt s (moved t y (opened b)) y read b = subst (λ (c : ℕ). PairsAt s (moved t y (opened b)) y read c) (opened_low b b (omega arith)) (pairs_here s t y (opened b) (opened_rises b) m.sorted m l read b f.1.pair) in
    let new : IsRead s (moved t y (opened b)) v (moved_view (view_index t y) (opened b) w) y read b = read_at_pair s (moved t y (opened b)) v (moved_view (view_index t y) (opened b) w) y read b q.memories q.views l h.0 pair in
    let hit : succeeds kind (read_at s y read).value ≡ true = and_some (message_at read (messages s y)) (λ old. succeeds kind old.value ≡ true) _ h.3 in
    let hit_before : succeeds kind (read_at t y b).value ≡ true = ap (succeeds kind) f.1.alike.value ∙ hit in
    let hit_after : succeeds kind (read_at (moved t y (opened b)) y b).value ≡ true = ap (succeeds kind) new.alike.value ∙ hit in
    let answered : IsAnswered s (moved t y (opened b)) v (moved_view (view_index t y) (opened b) w) i (Update y order kind) (Take read to) (Take b (b + 2)) =
    take_answered s (moved t y (opened b)) v (moved_view (view_index t y) (opened b) w) i y order kind read to b (b + 2) q.memories.sorted q.memories q.views e l h
    (new.seen, omega arith, q.free b (omega arith), some_and (message_at b (messages (moved t y (opened b)) y)) (λ old. succeeds kind old.value ≡ true) _ new.there hit_after) new q.sides q.begins in (
      b,
      record {
        found = λ _. f.1.there;
        answered =
            subst (λ (u : Memory). IsAnswered s u v (view_with_room t w (Update y order kind) b) i (Update y order kind) (Take read to) (choice_behind t (Update y order kind) b)) (sym (cond-true _ (moved t y (opened b)) t hit_before))
            (subst (λ (u : ThreadView). IsAnswered s (moved t y (opened b)) v u i (Update y order kind) (Take read to) (choice_behind t (Update y order kind) b)) (sym (cond-true _ (moved_view (view_index t y) (opened b) w) w hit_before))
            (subst (λ (d : Choice). IsAnswered s (moved t y (opened b)) v (moved_view (view_index t y) (opened b) w) i (Update y order kind) (Take read to) d) (sym (cond-true _ (Take b (b + 2)) (Message b) hit_before)) answered));
        others = λ c d z.
            subst (λ (u : Memory). AreViewsAlike s u c (view_with_room t d (Update y order kind) b)) (sym (cond-true _ (moved t y (opened b)) t hit_before))
            (subst (λ (u : ThreadView). AreViewsAlike s (moved t y (opened b)) c u) (sym (cond-true _ (moved_view (view_index t y) (opened b) d) d hit_before)) (views_moved s t y (opened b) (opened_rises b) m.sorted m l c d z));
      },
    )

miss_followed : (s t : Memory) (v w : ThreadView) (i y : ℕ) (order : Order) (kind : UpdateKind) (to : ℕ) → AreMemoriesAlike s t → AreViewsAlike s t v w → s.failed ≡ false → y < length s.atomic
    → AdmitsChoice s v (Update y order kind) (Message to) → (b : ℕ) × IsFollowed s t v w i (Update y order kind) (Message to) b
miss_followed s t v w i y order kind to m r e l h =
    let f = read_of s t v w y to m r l h.0 (some_from_and (message_at to (messages s y)) _ h.1) in
    let b = f.0 in
    let fails : succeeds kind (read_at s y to).value ≡ false = and_some (message_at to (messages s y)) (λ old. succeeds kind old.value ≡ false) _ h.1 in
    let before : succeeds kind (read_at t y b).value ≡ false = ap (succeeds kind) f.1.alike.value ∙ fails in (
      b,
      record {
        found = λ _. f.1.there;
        answered =
            subst (λ (u : Memory). IsAnswered s u v (view_with_room t w (Update y order kind) b) i (Update y order kind) (Message to) (choice_behind t (Update y order kind) b)) (sym (cond-false _ (moved t y (opened b)) t before))
            (subst (λ (u : ThreadView). IsAnswered s t v u i (Update y order kind) (Message to) (choice_behind t (Update y order kind) b)) (sym (cond-false _ (moved_view (view_index t y) (opened b) w) w before))
            (subst (λ (d : Choice). IsAnswered s t v w i (Update y order kind) (Message to) d) (sym (cond-false _ (Take b (b + 2)) (Message b) before)) (miss_answered s t v w i y order kind to b m.sorted m r e l f.1 fails)));
        others = λ c d z.
            subst (λ (u : Memory). AreViewsAlike s u c (view_with_room t d (Update y order kind) b)) (sym (cond-false _ (moved t y (opened b)) t before))
            (subst (λ (u : ThreadView). AreViewsAlike s t c u) (sym (cond-false _ (moved_view (view_index t y) (opened b) d) d before)) z);
      },
    )

read_followed : (s t : Memory) (v w : ThreadView) (i y : ℕ) (order : Order) (to : ℕ) → AreMemoriesAlike s t → AreViewsAlike s t v w → s.failed ≡ false → y < length s.atomic
    → AdmitsChoice s v (Read y order) (Message to) → (b : ℕ) × IsFollowed s t v w i (Read y order) (Message to) b
read_followed s t v w i y order to m r e l h =
    let f = read_of s t v w y to m r l h.0 h.1 in (
      f.0,
      record {
        found = λ _. f.1.there;
        answered = read_answered s t v w i y order to f.0 m.sorted m r e l f.1;
        others = λ c d z. z;
      },
    )

pub accesses_followed : AccessesAreFollowed
accesses_followed s t v w i (NaRead x) Plain m r proper legal = (0, followed_plain s t v w i (NaRead x) Plain 0 refl refl refl (λ q. refl) (load_answered s t v w i x m r legal.running proper))
accesses_followed s t v w i (NaWrite x n) Plain m r proper legal = (0, followed_plain s t v w i (NaWrite x n) Plain 0 refl refl refl (λ q. refl) (store_answered s t v w i x n m r legal.running proper))
accesses_followed s t v w i (Read y order) (Message to) m r proper legal = read_followed s t v w i y order to m r legal.running proper.0 legal.admits
accesses_followed s t v w i (Write y order n) (Place from to) m r proper legal = write_followed s t v w i y order n from to m r legal.running proper.0 legal.admits
accesses_followed s t v w i (Update y order kind) (Message to) m r proper legal = miss_followed s t v w i y order kind to m r legal.running proper legal.admits
accesses_followed s t v w i (Update y order kind) (Take read to) m r proper legal = take_followed s t v w i y order kind read to m r legal.running proper legal.admits
accesses_followed s t v w i (Fence order) Plain m r proper legal = (0, followed_plain s t v w i (Fence order) Plain 0 refl refl refl (λ q. refl) (fence_answered s t v w i order m r legal.running))
accesses_followed s t v w i (Print n) Plain m r proper legal = (0, followed_plain s t v w i (Print n) Plain 0 refl refl refl (λ q. refl) (print_answered s t v w i n m r legal.running))
accesses_followed s t v w i (Fail cause) Plain m r proper legal = (0, followed_plain s t v w i (Fail cause) Plain 0 refl refl refl (λ q. refl) (fail_answered s t v w i cause m r legal.running))
accesses_followed s t v w i Finish Plain m r proper legal = (0, followed_plain s t v w i Finish Plain 0 refl refl refl (λ q. refl) (finish_answered s t v w i m r legal.running))
accesses_followed s t v w i Spend Plain m r proper legal = (0, followed_plain s t v w i Spend Plain 0 refl refl refl (λ q. refl) (spend_answered s t v w i m r legal.running))
accesses_followed s t v w i _ _ m r proper legal = absurd legal.admits
