-- Behind a message of t that corresponds to the last one below a place of s there is room, once it has been made.
use Rattle.std.proofs.Common.{◌≡◌, ◌⊎◌, inl, inr, ⊎_elim, ℕ, ◌+◌, ◌<◌, ◌≤◌, max, min, true, not, ltb, [], ◌∷◌, map, Option, Some, refl, sym, ap, ◌∙◌, subst, arith}
use Rattle.std.proofs.lemmas.Bool.{cases_lt, cond-true, cond-false, lt-ltb, le-ltb, and_parts, and_from, eq-eqb, ne_eqb}
use Rattle.std.specs.List.{AllZip}
use Rattle.std.specs.Option.{IsSome}
use Rattle.message_memory.specs.declared.message.Message.{Message as TheMessage}
use Rattle.message_memory.specs.Memory.{Messages, message_at, overlaps, is_free, IsDisjointAndSorted}
use Rattle.memory_likeness.specs.Likeness.{Pairs}
use Rattle.memory_likeness.specs.Moved.{retimed, restamped, opened}
use Rattle.memory_likeness.proofs.Pairing.{OnOneSide, IsInOrder, first_below}
use Rattle.memory_likeness.proofs.Messages.{NoneBegins, NoneEnds}
use Rattle.memory_likeness.proofs.Moving.{zip_map}
use Rattle.message_memory.proofs.Callers.{not_over}

-- ---- room is made

pub opened_low : (b x : ℕ) → x ≤ b → opened b x ≡ x
opened_low b x l = cond-false (ltb b x) (x + 2) x (le-ltb b x l)

pub opened_high : (b x : ℕ) → b < x → opened b x ≡ x + 2
opened_high b x l = cond-true (ltb b x) (x + 2) x (lt-ltb b x l)

pub opened_skips : (b x c : ℕ) → b < c → c ≤ b + 2 → opened b x ≡ c → ⊥
opened_skips b x c l h e =
    ⊎_elim (λ (k : b < x). omega (arith, opened_high b x k)) (λ (k : x ≤ b). omega (arith, opened_low b x k)) (cases_lt b x)

pub none_begins : (b c i : ℕ) → b < c → c ≤ b + 2 → (k : Messages) → NoneBegins c (map (restamped (opened b)) (map (retimed i (opened b)) k))
none_begins b c i l h [] = tt
none_begins b c i l h (n ∷ k) = (opened_skips b n.from c l h, none_begins b c i l h k)

pub none_ends : (b c i : ℕ) → b < c → c ≤ b + 2 → (k : Messages) → NoneEnds c (map (restamped (opened b)) (map (retimed i (opened b)) k))
none_ends b c i l h [] = tt
none_ends b c i l h (n ∷ k) = (opened_skips b n.to c l h, none_ends b c i l h k)

-- ---- the last message below a place

-- a is the end of a message, and no message below `to` ends behind it
pub record IsLastBelow (h : Messages) (a to : ℕ) : Type 0 where
  pub found : IsSome (message_at a h)
  pub below : a < to
  pub last : (k : Messages) (c d : ℕ) → Pairs h k c d → c < to → c ≤ a

pub some_here : (a : ℕ) (m : TheMessage) (h : Messages) → m.to ≡ a → IsSome (message_at a (m ∷ h))
some_here a m h e = subst (λ (o : Option TheMessage). IsSome o) (sym (cond-true _ (Some m) (message_at a h) (eq-eqb m.to a e))) refl

some_there : (a : ℕ) (m : TheMessage) (h : Messages) → (m.to ≡ a → ⊥) → IsSome (message_at a h) → IsSome (message_at a (m ∷ h))
some_there a m h e s = subst (λ (o : Option TheMessage). IsSome o) (sym (cond-false _ (Some m) (message_at a h) (ne_eqb m.to a e))) s

head_last : (m : TheMessage) (h : Messages) (to : ℕ) → IsDisjointAndSorted (m ∷ h) → m.to < to → IsLastBelow (m ∷ h) m.to to
head_last m h to s l = record {
  found = some_here m.to m h refl;
  below = l;
  last = up_to;
}
  where
    up_to : (k : Messages) (c d : ℕ) → Pairs (m ∷ h) k c d → c < to → c ≤ m.to
    up_to [] c d p e = absurd p
    up_to (n ∷ k) c d p e = ⊎_elim (λ (q : (m.to ≡ c) × (n.to ≡ d)). omega (arith, q.0)) (λ (q : Pairs h k c d). let z = first_below m h k c d s q in omega arith) p

later_last : (m : TheMessage) (h : Messages) (a to : ℕ) → to ≤ m.to → IsLastBelow h a to → IsLastBelow (m ∷ h) a to
later_last m h a to l r = record {
  found = some_there a m h (λ e. omega (arith, r.below)) r.found;
  below = r.below;
  last = up_to;
}
  where
    up_to : (k : Messages) (c d : ℕ) → Pairs (m ∷ h) k c d → c < to → c ≤ a
    up_to [] c d p e = absurd p
    up_to (n ∷ k) c d p e = ⊎_elim (λ (q : (m.to ≡ c) × (n.to ≡ d)). absurd (omega (arith, q.0))) (λ (q : Pairs h k c d). r.last k c d q e) p

pub last_below : (h : Messages) (to : ℕ) → IsDisjointAndSorted h → 0 < to → (a : ℕ) × IsLastBelow h a to
last_below [] to s l = absurd s
last_below (m ∷ []) to s l = (m.to, head_last m [] to s (omega (arith, s.1)))
last_below (m ∷ n ∷ h) to s l =
    ⊎_elim
    (λ (e : m.to < to). (m.to, head_last m (n ∷ h) to s e))
    (λ (e : to ≤ m.to). let r = last_below (n ∷ h) to s.2 l in (r.0, later_last m (n ∷ h) r.0 to e r.1))
    (cases_lt m.to to)

-- the message that an update reads is the last below its place
pub read_last : (h : Messages) (a to : ℕ) → IsDisjointAndSorted h → IsSome (message_at a h) → a < to → is_free a to h ≡ true → IsLastBelow h a to
read_last h a to s f l free = record { found = f; below = l; last = up_to h s free }
  where
    up_to : (h : Messages) → IsDisjointAndSorted h → is_free a to h ≡ true → (k : Messages) (c d : ℕ) → Pairs h k c d → c < to → c ≤ a
    up_to [] s e k c d p i = absurd p
    up_to (m ∷ []) s e [] c d p i = absurd p
    up_to (m ∷ []) s e (n ∷ k) c d p i = ⊎_elim (λ (q : (m.to ≡ c) × (n.to ≡ d)). omega (arith, q.0, s.1)) (λ (q : ⊥). absurd q) p
    up_to (m ∷ x ∷ h) s e [] c d p i = absurd p
    up_to (m ∷ x ∷ h) s e (n ∷ k) c d p i =
        let parts : (not (overlaps a to m) ≡ true) × (is_free a to (x ∷ h) ≡ true) = and_parts _ _ e in
        ⊎_elim (λ (q : (m.to ≡ c) × (n.to ≡ d)). omega (arith, q.0, s.1, not_over a to m parts.0)) (λ (q : Pairs (x ∷ h) k c d). up_to (x ∷ h) s.2 parts.1 k c d q i) p

-- ---- each message of t lies on one side, and leaves the room free

-- of a message m of s and its partner n
pub record IsBeside (a b from to : ℕ) (m n : TheMessage) : Type 0 where
  pub order : IsInOrder m.to n.to a b
  pub last : m.to < to → m.to ≤ a
  pub free : m.to ≤ a ⊎ (min to m.to ≤ max from m.from)
  pub behind : b < n.to → b ≤ n.from
  pub attached : n.from ≡ b → m.from ≡ a

pub side_of : (a b from to : ℕ) (m n : TheMessage) → a < to → IsBeside a b from to m n → ltb m.to to ≡ ltb (opened b n.to) (b + 2)
side_of a b from to m n l r =
    ⊎_elim
    (λ (e : m.to ≤ a).
    let f : n.to ≤ b = low e in
    lt-ltb m.to to (omega arith) ∙ sym (lt-ltb (opened b n.to) (b + 2) (omega (arith, opened_low b n.to f))))
    (λ (e : a < m.to).
    let f : b < n.to = high e in
    le-ltb m.to to (⊎_elim (λ (g : m.to < to). absurd (omega (arith, r.last g))) (λ (g : to ≤ m.to). g) (cases_lt m.to to)) ∙ sym (le-ltb (opened b n.to) (b + 2) (omega (arith, opened_high b n.to f))))
    (other (cases_lt a m.to))
  where
    other : (a < m.to) ⊎ (m.to ≤ a) → (m.to ≤ a) ⊎ (a < m.to)
    other (inl e) = inr e
    other (inr e) = inl e

    low : m.to ≤ a → n.to ≤ b
    low e = ⊎_elim (λ (q : (m.to < a) × (n.to < b)). omega (arith, q.1)) (λ o. ⊎_elim (λ (q : (m.to ≡ a) × (n.to ≡ b)). omega (arith, q.1)) (λ (q : (a < m.to) × (b < n.to)). absurd (omega (arith, q.0))) o) r.order

    high : a < m.to → b < n.to
    high e = ⊎_elim (λ (q : (m.to < a) × (n.to < b)). absurd (omega (arith, q.0))) (λ o. ⊎_elim (λ (q : (m.to ≡ a) × (n.to ≡ b)). absurd (omega (arith, q.0))) (λ (q : (a < m.to) × (b < n.to)). q.1) o) r.order

-- nothing of n lies behind b and reaches up to what was moved
pub clear_of : (a b from to : ℕ) (m n : TheMessage) → a ≤ from → from < to → IsBeside a b from to m n → n.from ≤ b → b < n.to → ⊥
clear_of a b from to m n l k r low high =
    let begins : m.from ≡ a = r.attached (omega (arith, r.behind high)) in
    let above : a < m.to = up in
    ⊎_elim (λ (e : m.to ≤ a). omega arith) (λ (e : min to m.to ≤ max from m.from).
    ⊎_elim (λ (g : m.to < to). omega (arith, r.last g)) (λ (g : to ≤ m.to). omega arith) (cases_lt m.to to)) r.free
  where
    up : a < m.to
    up = ⊎_elim (λ (q : (m.to < a) × (n.to < b)). absurd (omega (arith, q.1))) (λ o. ⊎_elim (λ (q : (m.to ≡ a) × (n.to ≡ b)). absurd (omega (arith, q.1))) (λ (q : (a < m.to) × (b < n.to)). q.0) o) r.order

pub free_opened : (a b from to c i : ℕ) → a ≤ from → from < to → b ≤ c → (h k : Messages) → AllZip (IsBeside a b from to) h k → is_free c (b + 2) (map (restamped (opened b)) (map (retimed i (opened b)) k)) ≡ true
free_opened a b from to c i l r f [] [] z = refl
free_opened a b from to c i l r f [] (n ∷ k) z = absurd z
free_opened a b from to c i l r f (m ∷ h) [] z = absurd z
free_opened a b from to c i l r f (m ∷ h) (n ∷ k) z =
    and_from _ _ (ap not (le-ltb (max c (opened b n.from)) (min (b + 2) (opened b n.to)) apart)) (free_opened a b from to c i l r f h k z.1)
  where
    apart : min (b + 2) (opened b n.to) ≤ max c (opened b n.from)
    apart =
        ⊎_elim
        (λ (e : b < n.to).
        ⊎_elim (λ (g : b < n.from). omega (arith, opened_high b n.from g)) (λ (g : n.from ≤ b). absurd (clear_of a b from to m n l r z.0 g e)) (cases_lt b n.from))
        (λ (e : n.to ≤ b). omega (arith, opened_low b n.to e))
        (cases_lt b n.to)

pub sides_opened : (a b from to i : ℕ) → a < to → (h k : Messages) → AllZip (IsBeside a b from to) h k → AllZip (OnOneSide to (b + 2)) h (map (restamped (opened b)) (map (retimed i (opened b)) k))
sides_opened a b from to i l h k z =
    zip_map (λ m n. OnOneSide to (b + 2) m (restamped (opened b) n)) (OnOneSide to (b + 2)) (restamped (opened b)) (λ m n q. q) h (map (retimed i (opened b)) k)
    (zip_map (IsBeside a b from to) (λ m n. OnOneSide to (b + 2) m (restamped (opened b) n)) (retimed i (opened b)) (λ m n q. side_of a b from to m n l q) h k z)
