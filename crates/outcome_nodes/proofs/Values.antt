-- Memories that are alike have the same last values.
use Rattle.std.proofs.Common.{◌≡◌, ℕ, ◌<◌, List, [], ◌∷◌, ◌++◌, length, map, refl, sym, ap, ◌∙◌, arith}
use Rattle.std.specs.List.{AllZip}
use Rattle.std.proofs.lemmas.List.{length-map, get_or-map, ext_get_or}
use Rattle.values_undef.specs.declared.value.Val.{Val}
use Rattle.values_undef.specs.declared.value.Val.TheVariants.{Undef}
use Rattle.message_memory.specs.declared.message.Versioned.{Versioned}
use Rattle.message_memory.specs.Memory.{Memory, Messages, messages}
use Rattle.memory_likeness.specs.Likeness.{AreMessagesAlike, AreMemoriesAlike}
use Rattle.outcome_nodes.specs.Outcome.{last_value, final_values}

last_alike : (s t : Memory) (y : ℕ) (h k : Messages) → AllZip (AreMessagesAlike s t y) h k → last_value k ≡ last_value h
last_alike s t y [] [] z = refl
last_alike s t y [] (n ∷ k) z = absurd z
last_alike s t y (m ∷ h) [] z = absurd z
last_alike s t y (m ∷ h) (n ∷ k) z = z.0.value

pub values_alike : (s t : Memory) → AreMemoriesAlike s t → final_values t ≡ final_values s
values_alike s t q = ap (λ (na : List Versioned). map (λ c. c.value) na ++ map last_value t.atomic) q.na ∙ ap (λ (values : List Val). map (λ c. c.value) s.na ++ values) atomic
  where
    at : (y : ℕ) → y < length s.atomic → last_value (messages t y) ≡ last_value (messages s y)
    at y l = last_alike s t y (messages s y) (messages t y) (q.histories y l)

    many_t : length (map last_value t.atomic) ≡ length t.atomic
    many_t = length-map t.atomic last_value

    many_s : length (map last_value s.atomic) ≡ length s.atomic
    many_s = length-map s.atomic last_value

    atomic : map last_value t.atomic ≡ map last_value s.atomic
    atomic =
        ext_get_or Undef (map last_value t.atomic) (map last_value s.atomic) (omega (arith, many_t, many_s, q.atomic))
        (λ y l.
        get_or-map last_value t.atomic y [] Undef (omega (arith, l, many_t)) ∙ at y (omega (arith, l, many_t, q.atomic)) ∙ sym (get_or-map last_value s.atomic y [] Undef (omega (arith, l, many_t, q.atomic))))
