-- Messages of two lists that stand at one place.
use Rattle.std.proofs.Common.{◌≡◌, ◌⊎◌, inl, inr, ⊎_elim, ℕ, ◌<◌, ◌≤◌, max, false, eqb, ltb, [], ◌∷◌, Option, Some, refl, sym, ◌∙◌, subst, arith}
use Rattle.std.proofs.lemmas.Bool.{false≢true, cond-true, cond-false, ne_eqb, eq-eqb, cases_eq}
use Rattle.std.specs.List.{AllZip}
use Rattle.std.specs.Option.{unwrap_or, IsSome}
use Rattle.message_memory.specs.declared.message.Message.{Message as TheMessage}
use Rattle.message_memory.specs.Memory.{Messages, message_at, inserted, IsDisjointAndSorted}
use Rattle.memory_likeness.specs.Likeness.{Pairs}
use Rattle.message_memory.proofs.Callers.{cond_related}

-- ---- the order of pairs

pub first_below : (m : TheMessage) (h k : Messages) (a b : ℕ) → IsDisjointAndSorted (m ∷ h) → Pairs h k a b → a < m.to
first_below m [] k a b d p = absurd p
first_below m (x ∷ h) [] a b d p = absurd p
first_below m (x ∷ h) (n ∷ k) a b d p =
    ⊎_elim (λ (e : (x.to ≡ a) × (n.to ≡ b)). omega (arith, e.0, d.0, d.1)) (λ (q : Pairs h k a b). let l : a < x.to = first_below x h k a b d.2 q in omega (arith, d.0, d.1)) p

pub second_below : (n : TheMessage) (h k : Messages) (a b : ℕ) → IsDisjointAndSorted (n ∷ k) → Pairs h k a b → b < n.to
second_below n [] k a b d p = absurd p
second_below n (x ∷ h) [] a b d p = absurd p
second_below n (x ∷ h) (z ∷ k) a b d p =
    ⊎_elim (λ (e : (x.to ≡ a) × (z.to ≡ b)). omega (arith, e.1, d.0, d.1)) (λ (q : Pairs h k a b). let l : b < z.to = second_below z h k a b d.2 q in omega (arith, d.0, d.1)) p

pub sorted_tail : (m : TheMessage) (h k : Messages) (a b : ℕ) → IsDisjointAndSorted (m ∷ h) → Pairs h k a b → IsDisjointAndSorted h
sorted_tail m [] k a b d p = absurd p
sorted_tail m (x ∷ h) k a b d p = d.2

pub sorted_second : (m : TheMessage) (h k : Messages) (a b : ℕ) → IsDisjointAndSorted (m ∷ k) → Pairs h k a b → IsDisjointAndSorted k
sorted_second m [] k a b d p = absurd p
sorted_second m (x ∷ h) [] a b d p = absurd p
sorted_second m (x ∷ h) (n ∷ k) a b d p = d.2

-- two pairs stand in one order on both sides
abbrev pub IsInOrder : ℕ → ℕ → ℕ → ℕ → Type 0
IsInOrder a b c d = ((a < c) × (b < d)) ⊎ (((a ≡ c) × (b ≡ d)) ⊎ ((c < a) × (d < b)))

pub in_order : (h k : Messages) (a b c d : ℕ) → IsDisjointAndSorted h → IsDisjointAndSorted k → Pairs h k a b → Pairs h k c d → IsInOrder a b c d
in_order [] k a b c d s t p q = absurd p
in_order (m ∷ h) [] a b c d s t p q = absurd p
in_order (m ∷ h) (n ∷ k) a b c d s t p q =
    ⊎_elim
    (λ (e : (m.to ≡ a) × (n.to ≡ b)).
    ⊎_elim
    (λ (f : (m.to ≡ c) × (n.to ≡ d)). inr (inl (sym e.0 ∙ f.0, sym e.1 ∙ f.1)))
    (λ (g : Pairs h k c d). let l : c < m.to = first_below m h k c d s g in let r : d < n.to = second_below n h k c d t g in inr (inr (omega (arith, e.0), omega (arith, e.1))))
    q)
    (λ (f : Pairs h k a b).
    ⊎_elim
    (λ (e : (m.to ≡ c) × (n.to ≡ d)). let l : a < m.to = first_below m h k a b s f in let r : b < n.to = second_below n h k a b t f in inl (omega (arith, e.0), omega (arith, e.1)))
    (λ (g : Pairs h k c d). in_order h k a b c d (sorted_tail m h k a b s f) (sorted_second n h k a b t f) f g)
    q)
    p

pub pairs_rise : (h k : Messages) (a b c d : ℕ) → IsDisjointAndSorted h → IsDisjointAndSorted k → Pairs h k a b → Pairs h k c d → a ≤ c → b ≤ d
pairs_rise h k a b c d s t p q l =
    ⊎_elim (λ (e : (a < c) × (b < d)). omega (arith, e.1)) (λ o. ⊎_elim (λ (e : (a ≡ c) × (b ≡ d)). omega (arith, e.1)) (λ (e : (c < a) × (d < b)). absurd (omega (arith, e.0))) o) (in_order h k a b c d s t p q)

pub pairs_strict : (h k : Messages) (a b c d : ℕ) → IsDisjointAndSorted h → IsDisjointAndSorted k → Pairs h k a b → Pairs h k c d → a < c → b < d
pairs_strict h k a b c d s t p q l =
    ⊎_elim (λ (e : (a < c) × (b < d)). e.1) (λ o. ⊎_elim (λ (e : (a ≡ c) × (b ≡ d)). absurd (omega (arith, e.0))) (λ (e : (c < a) × (d < b)). absurd (omega (arith, e.0))) o) (in_order h k a b c d s t p q)

-- the second tells the first
pub pairs_first : (h k : Messages) (a b c d : ℕ) → IsDisjointAndSorted h → IsDisjointAndSorted k → Pairs h k a b → Pairs h k c d → b ≡ d → a ≡ c
pairs_first h k a b c d s t p q l =
    ⊎_elim (λ (e : (a < c) × (b < d)). absurd (omega (arith, e.1))) (λ o. ⊎_elim (λ (e : (a ≡ c) × (b ≡ d)). e.0) (λ (e : (c < a) × (d < b)). absurd (omega (arith, e.1))) o) (in_order h k a b c d s t p q)

pub pairs_max : (h k : Messages) (a b c d : ℕ) → IsDisjointAndSorted h → IsDisjointAndSorted k → Pairs h k a b → Pairs h k c d → Pairs h k (max a c) (max b d)
pairs_max h k a b c d s t p q =
    ⊎_elim
    (λ (e : (a < c) × (b < d)). moved c d (omega (arith, e.0)) (omega (arith, e.1)) q)
    (λ o. ⊎_elim (λ (e : (a ≡ c) × (b ≡ d)). moved c d (omega (arith, e.0)) (omega (arith, e.1)) q) (λ (e : (c < a) × (d < b)). moved a b (omega (arith, e.0)) (omega (arith, e.1)) p) o)
    (in_order h k a b c d s t p q)
  where
    moved : (e f : ℕ) → max a c ≡ e → max b d ≡ f → Pairs h k e f → Pairs h k (max a c) (max b d)
    moved e f l r p = subst (λ (z : ℕ). Pairs h k z (max b d)) (sym l) (subst (λ (z : ℕ). Pairs h k e z) (sym r) p)

-- ---- what is found

pub record AreFound (R : TheMessage → TheMessage → Type 0) (h k : Messages) (a b : ℕ) (d : TheMessage) : Type 0 where
  pub first : IsSome (message_at a h)
  pub second : IsSome (message_at b k)
  pub related : R (unwrap_or (message_at a h) d) (unwrap_or (message_at b k) d)

pub find_here : (a : ℕ) (m : TheMessage) (h : Messages) → m.to ≡ a → message_at a (m ∷ h) ≡ Some m
find_here a m h e = cond-true (eqb m.to a) (Some m) (message_at a h) (eq-eqb m.to a e)

pub find_there : (a : ℕ) (m : TheMessage) (h : Messages) → (m.to ≡ a → ⊥) → message_at a (m ∷ h) ≡ message_at a h
find_there a m h e = cond-false (eqb m.to a) (Some m) (message_at a h) (ne_eqb m.to a e)

found_as : (R : TheMessage → TheMessage → Type 0) (h k h' k' : Messages) (a b : ℕ) (d : TheMessage) → message_at a h ≡ message_at a h' → message_at b k ≡ message_at b k' → AreFound R h' k' a b d → AreFound R h k a b d
found_as R h k h' k' a b d e f r = record {
  first = subst (λ (o : Option TheMessage). IsSome o) (sym e) r.first;
  second = subst (λ (o : Option TheMessage). IsSome o) (sym f) r.second;
  related = subst (λ (o : Option TheMessage). R (unwrap_or o d) (unwrap_or (message_at b k) d)) (sym e) (subst (λ (o : Option TheMessage). R (unwrap_or (message_at a h') d) (unwrap_or o d)) (sym f) r.related);
}

found_ones : (R : TheMessage → TheMessage → Type 0) (h k : Messages) (a b : ℕ) (m n d : TheMessage) → message_at a h ≡ Some m → message_at b k ≡ Some n → R m n → AreFound R h k a b d
found_ones R h k a b m n d e f r = record {
  first = subst (λ (o : Option TheMessage). IsSome o) (sym e) refl;
  second = subst (λ (o : Option TheMessage). IsSome o) (sym f) refl;
  related = subst (λ (o : Option TheMessage). R (unwrap_or o d) (unwrap_or (message_at b k) d)) (sym e) (subst (λ (o : Option TheMessage). R m (unwrap_or o d)) (sym f) r);
}

-- the messages of a pair are found, and are related
pub pair_found : (R : TheMessage → TheMessage → Type 0) (h k : Messages) (a b : ℕ) (d : TheMessage) → IsDisjointAndSorted h → IsDisjointAndSorted k → AllZip R h k → Pairs h k a b → AreFound R h k a b d
pair_found R [] k a b d s t z p = absurd p
pair_found R (m ∷ h) [] a b d s t z p = absurd p
pair_found R (m ∷ h) (n ∷ k) a b d s t z p =
    ⊎_elim
    (λ (e : (m.to ≡ a) × (n.to ≡ b)). found_ones R (m ∷ h) (n ∷ k) a b m n d (find_here a m h e.0) (find_here b n k e.1) z.0)
    (λ (q : Pairs h k a b).
    let l : a < m.to = first_below m h k a b s q in
    let r : b < n.to = second_below n h k a b t q in
    found_as R (m ∷ h) (n ∷ k) h k a b d (find_there a m h (λ e. omega arith)) (find_there b n k (λ e. omega arith))
    (pair_found R h k a b d (sorted_tail m h k a b s q) (sorted_second n h k a b t q) z.1 q))
    p

-- what is found in the first has its pair
pub pair_of : (R : TheMessage → TheMessage → Type 0) (h k : Messages) (a : ℕ) → AllZip R h k → IsSome (message_at a h) → (b : ℕ) × Pairs h k a b
pair_of R [] k a z f = absurd (false≢true f)
pair_of R (m ∷ h) [] a z f = absurd z
pair_of R (m ∷ h) (n ∷ k) a z f =
    ⊎_elim
    (λ (e : m.to ≡ a). (n.to, inl (e, refl)))
    (λ (e : m.to ≡ a → ⊥).
    let r = pair_of R h k a z.1 (subst (λ (o : Option TheMessage). IsSome o) (find_there a m h e) f) in
    (r.0, inr r.1))
    (cases_eq m.to a)

-- ---- one more message on both sides

-- a message of each list stands on the same side of those that are put in
abbrev pub OnOneSide : ℕ → ℕ → TheMessage → TheMessage → Type 0
OnOneSide to to' m n = ltb m.to to ≡ ltb n.to to'

pub zip_inserted : (R : TheMessage → TheMessage → Type 0) (u v : TheMessage) (h k : Messages) → R u v → AllZip (OnOneSide u.to v.to) h k → AllZip R h k → AllZip R (inserted u h) (inserted v k)
zip_inserted R u v [] [] r o z = (r, tt)
zip_inserted R u v [] (n ∷ k) r o z = absurd z
zip_inserted R u v (m ∷ h) [] r o z = absurd z
zip_inserted R u v (m ∷ h) (n ∷ k) r o z =
    cond_related (AllZip R) (ltb m.to u.to) (ltb n.to v.to) (u ∷ m ∷ h) (m ∷ inserted u h) (v ∷ n ∷ k) (n ∷ inserted v k) o.0
    (r, z) (z.0, zip_inserted R u v h k r o.1 z.1)

pub pairs_kept : (u v : TheMessage) (h k : Messages) (a b : ℕ) → AllZip (OnOneSide u.to v.to) h k → Pairs h k a b → Pairs (inserted u h) (inserted v k) a b
pairs_kept u v [] k a b o p = absurd p
pairs_kept u v (m ∷ h) [] a b o p = absurd p
pairs_kept u v (m ∷ h) (n ∷ k) a b o p =
    cond_related (λ (r s : Messages). Pairs r s a b) (ltb m.to u.to) (ltb n.to v.to) (u ∷ m ∷ h) (m ∷ inserted u h) (v ∷ n ∷ k) (n ∷ inserted v k) o.0
    (inr p) (⊎_elim (λ (e : (m.to ≡ a) × (n.to ≡ b)). inl e) (λ (q : Pairs h k a b). inr (pairs_kept u v h k a b o.1 q)) p)

pub pairs_new : (u v : TheMessage) (h k : Messages) → AllZip (OnOneSide u.to v.to) h k → Pairs (inserted u h) (inserted v k) u.to v.to
pairs_new u v [] [] o = inl (refl, refl)
pairs_new u v [] (n ∷ k) o = absurd o
pairs_new u v (m ∷ h) [] o = absurd o
pairs_new u v (m ∷ h) (n ∷ k) o =
    cond_related (λ (r s : Messages). Pairs r s u.to v.to) (ltb m.to u.to) (ltb n.to v.to) (u ∷ m ∷ h) (m ∷ inserted u h) (v ∷ n ∷ k) (n ∷ inserted v k) o.0
    (inl (refl, refl)) (inr (pairs_new u v h k o.1))

-- a pair of these is an old one, or the new one
pub pairs_back : (u v : TheMessage) (h k : Messages) (a b : ℕ) → AllZip (OnOneSide u.to v.to) h k → Pairs (inserted u h) (inserted v k) a b → ((u.to ≡ a) × (v.to ≡ b)) ⊎ Pairs h k a b
pairs_back u v [] [] a b o p = ⊎_elim (λ (e : (u.to ≡ a) × (v.to ≡ b)). inl e) (λ (q : ⊥). absurd q) p
pairs_back u v [] (n ∷ k) a b o p = absurd o
pairs_back u v (m ∷ h) [] a b o p = absurd o
pairs_back u v (m ∷ h) (n ∷ k) a b o p =
    cond_related (λ (r s : Messages). Pairs r s a b → ((u.to ≡ a) × (v.to ≡ b)) ⊎ Pairs (m ∷ h) (n ∷ k) a b)
    (ltb m.to u.to) (ltb n.to v.to) (u ∷ m ∷ h) (m ∷ inserted u h) (v ∷ n ∷ k) (n ∷ inserted v k) o.0
    (λ q. q)
    (λ q. ⊎_elim (λ (e : (m.to ≡ a) × (n.to ≡ b)). inr (inl e)) (λ (r : Pairs (inserted u h) (inserted v k) a b). ⊎_elim (λ (e : (u.to ≡ a) × (v.to ≡ b)). inl e) (λ (f : Pairs h k a b). inr (inr f)) (pairs_back u v h k a b o.1 r)) q)
    p
