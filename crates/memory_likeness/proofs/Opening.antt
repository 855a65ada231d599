-- The first memory is alike to itself.
use Rattle.std.proofs.Common.{◌≡◌, inl, ⊎_elim, ℕ, ◌+◌, ◌<◌, [], ◌∷◌, length, get_or, replicate, refl, sym, ◌∙◌, subst, arith}
use Rattle.std.proofs.lemmas.List.{length-map, length-replicate, get_or-map}
use Rattle.std.specs.List.{AllZip}
use Rattle.std.specs.Prelude.{pos}
use Rattle.views.proofs.Callers.{get_or-zeros}
use Rattle.message_memory.specs.declared.message.Message.{Message}
use Rattle.message_memory.specs.Memory.{Memory, Messages, messages, first_message, initial_memory, view_index}
use Rattle.message_memory.proofs.Callers.{initial_well_formed, initial_locations}
use Rattle.memory_likeness.specs.Likeness.{Pairs, PairsAt, AreTimesAlike, AreMessagesAlike}
use Rattle.memory_likeness.specs.Laws.{OpeningsAreAlike, MovedIsAlike}
use Rattle.memory_likeness.proofs.Moving.{memories_moved, views_moved}

pub openings_alike : OpeningsAreAlike
openings_alike na atomic = (
  record {
    na = refl;
    atomic = refl;
    sorted = record { atomic = refl; first = λ y l. (initial_well_formed na atomic).disjoint y l; second = λ y l. (initial_well_formed na atomic).disjoint y l };
    histories = λ y l. subst (λ (h : Messages). AllZip (AreMessagesAlike start start y) h h) (sym (only y (many y l))) (alike y (many y l), tt);
    failed = refl;
  },
  record { cur = zeros; got = zeros; rel = zeros },
)
  where
    start : Memory
    start = initial_memory na atomic

    one : ℕ → Message
    one y = first_message (length na + length atomic) (get_or atomic y (pos 0))

    many : (y : ℕ) → y < length start.atomic → y < length atomic
    many y l = omega (arith, length-map atomic (λ n. first_message (length na + length atomic) n ∷ []))

    only : (y : ℕ) → y < length atomic → messages start y ≡ one y ∷ []
    only y l = get_or-map (λ n. first_message (length na + length atomic) n ∷ []) atomic y (pos 0) [] l

    at_zero : (y : ℕ) → y < length atomic → PairsAt start start y 0 0
    at_zero y l = subst (λ (h : Messages). Pairs h h 0 0) (sym (only y l)) (inl (refl, refl))

    zeros : AreTimesAlike start start (replicate (length na + length atomic) 0) (replicate (length na + length atomic) 0)
    zeros = record {
      places = refl;
      locations = length-replicate {A = ℕ} (length na + length atomic) 0 ∙ initial_locations na atomic;
      versions = λ x l. refl;
      stamps = λ y l.
          subst (λ (n : ℕ). PairsAt start start y n n) (sym (get_or-zeros (length na + length atomic) (view_index start y))) (at_zero y (many y l));
    }

    alike : (y : ℕ) → y < length atomic → AreMessagesAlike start start y (one y) (one y)
    alike y l = record {
      value = refl;
      times = zeros;
      attached = λ a b p e.
          ⊎_elim (λ (q : (0 ≡ a) × (0 ≡ b)). q.0) (λ (q : ⊥). absurd q) (subst (λ (h : Messages). Pairs h h a b) (only y l) p);
    }

pub moved_alike : MovedIsAlike
moved_alike s t y g r m l = (memories_moved s t y g r m.sorted m l, λ v w q. views_moved s t y g r m.sorted m l v w q)
