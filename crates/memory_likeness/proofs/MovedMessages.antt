-- Messages and memories with moved timestamps.
use Rattle.std.proofs.Common.{◌≡◌, ⊎_elim, ℕ, ◌+◌, ◌<◌, max, min, Bool, cond, not, ◌&&◌, eqb, ltb, List, [], ◌∷◌, length, map, set, Option, Some, None, refl, sym, ap, ◌∙◌, subst, arith}
use Rattle.std.proofs.lemmas.Bool.{cases_eq, false≢true}
use Rattle.std.proofs.lemmas.List.{length-set, length-map, get_or-set_same, get_or-set_other, get_or-map, ext_get_or}
use Rattle.std.specs.Option.{unwrap_or, option_map, IsSome}
use Rattle.message_memory.specs.declared.message.Message.{Message as TheMessage}
use Rattle.message_memory.specs.declared.message.Versioned.{Versioned}
use Rattle.message_memory.specs.Memory.{Memory, Messages, messages, message_at, inserted, overlaps, is_free, view_index, with_message}
use Rattle.memory_likeness.specs.Moved.{IsRisingMap, moved_times, moved_stamp, retimed, restamped, moved}
use Rattle.memory_likeness.proofs.MovedTimes.{map_max, map_min, map_lt, map_eq, stamp_rises, stamp_here, stamp_there, cond_mapped}

-- a message of location z
abbrev pub moved_message : ℕ → ℕ → (ℕ → ℕ) → ℕ → TheMessage → TheMessage
moved_message i y g z n = record { from = moved_stamp y g z n.from; to = moved_stamp y g z n.to; value = n.value; times = moved_times i g n.times }

pub message_same : (m n : TheMessage) → m.from ≡ n.from → m.to ≡ n.to → m.value ≡ n.value → m.times ≡ n.times → m ≡ n
message_same m n a b c d = λ k. record { from = a k; to = b k; value = c k; times = d k }

pub memory_same : (m n : Memory) → m.na ≡ n.na → m.atomic ≡ n.atomic → m.outputs ≡ n.outputs → m.failed ≡ n.failed → m ≡ n
memory_same m n a b c d = λ k. record { na = a k; atomic = b k; outputs = c k; failed = d k }

pub map_each : {A B : Type 0} (f g : A → B) → ((a : A) → f a ≡ g a) → (xs : List A) → map f xs ≡ map g xs
map_each f g e [] = refl
map_each f g e (x ∷ xs) = ap (λ y. y ∷ map f xs) (e x) ∙ ap (λ ys. g x ∷ ys) (map_each f g e xs)

map_twice : {A B C : Type 0} (f : B → C) (g : A → B) (xs : List A) → map f (map g xs) ≡ map (λ a. f (g a)) xs
map_twice f g [] = refl
map_twice f g (x ∷ xs) = ap (λ ys. f (g x) ∷ ys) (map_twice f g xs)

pub length-moved_memory : (m : Memory) (y : ℕ) (g : ℕ → ℕ) → length (moved m y g).atomic ≡ length m.atomic
length-moved_memory m y g = length-set (map (map (retimed (view_index m y) g)) m.atomic) y (map (restamped g) (map (retimed (view_index m y) g) (messages m y))) ∙ length-map m.atomic (map (retimed (view_index m y) g))

pub messages_moved : (m : Memory) (y : ℕ) (g : ℕ → ℕ) (z : ℕ) → z < length m.atomic → messages (moved m y g) z ≡ map (moved_message (view_index m y) y g z) (messages m z)
messages_moved m y g z l =
    ⊎_elim
    (λ (e : z ≡ y).
    subst (λ (k : ℕ). messages (moved m y g) k ≡ map (moved_message (view_index m y) y g k) (messages m k)) (sym e)
    (get_or-set_same told y (map (restamped g) (map (retimed (view_index m y) g) (messages m y))) [] (omega (arith, length-map m.atomic (map (retimed (view_index m y) g))))
    ∙ map_twice (restamped g) (retimed (view_index m y) g) (messages m y)
    ∙ map_each (λ n. restamped g (retimed (view_index m y) g n)) (moved_message (view_index m y) y g y) (λ n. message_same _ _ (sym (stamp_here y g n.from)) (sym (stamp_here y g n.to)) refl refl) (messages m y)))
    (λ (e : z ≡ y → ⊥).
    get_or-set_other told y z (map (restamped g) (map (retimed (view_index m y) g) (messages m y))) [] e
    ∙ get_or-map (map (retimed (view_index m y) g)) m.atomic z [] [] l
    ∙ map_each (retimed (view_index m y) g) (moved_message (view_index m y) y g z) (λ n. message_same _ _ (sym (stamp_there y g z n.from e)) (sym (stamp_there y g z n.to e)) refl refl) (messages m z))
    (cases_eq z y)
  where
    told : List Messages
    told = map (map (retimed (view_index m y) g)) m.atomic

-- ---- what is found, what is free, what is put in

module _ (f : TheMessage → TheMessage) (s : ℕ → ℕ) (r : IsRisingMap s) (ends : (n : TheMessage) → (f n).to ≡ s n.to) (begins : (n : TheMessage) → (f n).from ≡ s n.from) where
  pub found_moved : (t : ℕ) (h : Messages) → message_at (s t) (map f h) ≡ option_map f (message_at t h)
  found_moved t [] = refl
  found_moved t (n ∷ h) =
      ap (λ (b : Bool). cond b (Some (f n)) (message_at (s t) (map f h))) (ap (λ (x : ℕ). eqb x (s t)) (ends n) ∙ map_eq s r n.to t)
      ∙ ap (λ (o : Option TheMessage). cond (eqb n.to t) (Some (f n)) o) (found_moved t h)
      ∙ cond_mapped (option_map f) (eqb n.to t) (Some n) (message_at t h)

  over_moved : (a b : ℕ) (n : TheMessage) → overlaps (s a) (s b) (f n) ≡ overlaps a b n
  over_moved a b n =
      ap (λ (x : ℕ). ltb (max (s a) x) (min (s b) (f n).to)) (begins n) ∙ ap (λ (x : ℕ). ltb (max (s a) (s n.from)) (min (s b) x)) (ends n)
      ∙ ap (λ (x : ℕ). ltb x (min (s b) (s n.to))) (sym (map_max s r a n.from)) ∙ ap (ltb (s (max a n.from))) (sym (map_min s r b n.to))
      ∙ map_lt s r (max a n.from) (min b n.to)

  pub free_moved : (a b : ℕ) (h : Messages) → is_free (s a) (s b) (map f h) ≡ is_free a b h
  free_moved a b [] = refl
  free_moved a b (n ∷ h) = ap (λ (x : Bool). not x && is_free (s a) (s b) (map f h)) (over_moved a b n) ∙ ap (λ (x : Bool). not (overlaps a b n) && x) (free_moved a b h)

  pub inserted_moved : (u : TheMessage) (h : Messages) → inserted (f u) (map f h) ≡ map f (inserted u h)
  inserted_moved u [] = refl
  inserted_moved u (n ∷ h) =
      ap (λ (b : Bool). cond b (f u ∷ f n ∷ map f h) (f n ∷ inserted (f u) (map f h))) (ap (λ (x : ℕ). ltb x (f u).to) (ends n) ∙ ap (ltb (s n.to)) (ends u) ∙ map_lt s r n.to u.to)
      ∙ ap (λ (x : Messages). cond (ltb n.to u.to) (f u ∷ f n ∷ map f h) (f n ∷ x)) (inserted_moved u h)
      ∙ cond_mapped (map f) (ltb n.to u.to) (u ∷ n ∷ h) (n ∷ inserted u h)

pub some_mapped : (f : TheMessage → TheMessage) (o : Option TheMessage) → IsSome o → IsSome (option_map f o)
some_mapped f None h = absurd (false≢true h)
some_mapped f (Some x) h = refl

pub unwrap_mapped : (f : TheMessage → TheMessage) (o : Option TheMessage) (d : TheMessage) → IsSome o → unwrap_or (option_map f o) d ≡ f (unwrap_or o d)
unwrap_mapped f None d h = absurd (false≢true h)
unwrap_mapped f (Some x) d h = refl

-- ---- memories

pub with_moved : (m : Memory) (y : ℕ) (g : ℕ → ℕ) (z : ℕ) (u : TheMessage) → IsRisingMap g → z < length m.atomic → moved (with_message m z u) y g ≡ with_message (moved m y g) z (moved_message (view_index m y) y g z u)
with_moved m y g z u r l =
    memory_same _ _ refl (ext_get_or [] (moved (with_message m z u) y g).atomic (with_message (moved m y g) z (moved_message (view_index m y) y g z u)).atomic many each) refl refl
  where
    mm : ℕ → TheMessage → TheMessage
    mm k = moved_message (view_index m y) y g k

    added : length (with_message m z u).atomic ≡ length m.atomic
    added = length-set m.atomic z (inserted u (messages m z))

    many : length (moved (with_message m z u) y g).atomic ≡ length (with_message (moved m y g) z (moved_message (view_index m y) y g z u)).atomic
    many =
        length-moved_memory (with_message m z u) y g ∙ added ∙ sym (length-moved_memory m y g)
        ∙ sym (length-set (moved m y g).atomic z (inserted (moved_message (view_index m y) y g z u) (messages (moved m y g) z)))

    each : (k : ℕ) → k < length (moved (with_message m z u) y g).atomic → messages (moved (with_message m z u) y g) k ≡ messages (with_message (moved m y g) z (moved_message (view_index m y) y g z u)) k
    each k h =
        let there : k < length m.atomic = omega (arith, length-moved_memory (with_message m z u) y g, added) in
        messages_moved (with_message m z u) y g k (omega (arith, added))
        ∙ ⊎_elim
        (λ (e : k ≡ z).
        subst (λ (j : ℕ). map (mm j) (messages (with_message m z u) j) ≡ messages (with_message (moved m y g) z (mm z u)) j) (sym e)
        (ap (map (mm z)) (get_or-set_same m.atomic z (inserted u (messages m z)) [] l)
        ∙ sym (inserted_moved (mm z) (moved_stamp y g z) (stamp_rises y g z r) (λ n. refl) (λ n. refl) u (messages m z))
        ∙ ap (inserted (mm z u)) (sym (messages_moved m y g z l))
        ∙ sym (get_or-set_same (moved m y g).atomic z (inserted (mm z u) (messages (moved m y g) z)) [] (omega (arith, length-moved_memory m y g)))))
        (λ (e : k ≡ z → ⊥).
        ap (map (mm k)) (get_or-set_other m.atomic z k (inserted u (messages m z)) [] e)
        ∙ sym (messages_moved m y g k there)
        ∙ sym (get_or-set_other (moved m y g).atomic z k (inserted (mm z u) (messages (moved m y g) z)) [] e))
        (cases_eq k z)

pub na_moved : (m : Memory) (y : ℕ) (g : ℕ → ℕ) (c : List Versioned) → length c ≡ length m.na → moved (record m { na = c }) y g ≡ record (moved m y g) { na = c }
na_moved m y g c e = memory_same _ _ refl (ap (λ (n : ℕ). set (map (map (retimed (n + y) g)) m.atomic) y (map (restamped g) (map (retimed (n + y) g) (messages m y)))) e) refl refl
