-- The relation at the start.
use Rattle.std.proofs.Common.{◌≡◌, ℕ, ℤ, ◌+◌, ◌<◌, ◌≤◌, List, [], ◌∷◌, length, get_or, replicate, Option, None, refl, sym, ◌∙◌, subst, arith, ⊎_elim}
use Rattle.std.proofs.lemmas.Bool.{cases_lt, both_ways}
use Rattle.std.proofs.lemmas.List.{length-map, length-replicate, get_or-map, get_or-replicate, get_or_past}
use Rattle.std.proofs.lemmas.Option.{none-some}
use Rattle.std.specs.List.{AllZip}
use Rattle.std.specs.Prelude.{pos}
use Rattle.values_undef.specs.declared.value.Val.TheVariants.{Def}
use Rattle.memory_relation.specs.Images.{IsRising, map_at, AreRising, IsImage, nowhere}
use Rattle.memory_relation.proofs.Images.{image_zeros, image_but}
use Rattle.message_memory.specs.Memory.{Memory, Messages, messages, location_in, absent_location, first_message, initial_memory}
use Rattle.memory_relation.specs.Relation.{Pairing, owner, hides, AreCellsRelated, AreMessagesRelated, AreTimesRelated, opening_pairing}
use Rattle.memory_relation.specs.Laws.{OpeningsAreRelated}
use Rattle.memory_relation.proofs.Owners.{none_thread, cells_moved}

get_or-alike : {A : Type 0} (n i : ℕ) (d : A) → get_or (replicate n d) i d ≡ d
get_or-alike n i d =
    ⊎_elim (λ (l : i < n). get_or-replicate n i d d l) (λ (l : n ≤ i). get_or_past (replicate n d) i d (omega (arith, length-replicate n d))) (cases_lt i n)

first_rising : IsRising (0 ∷ [])
first_rising = record { some = omega arith; first = refl; rises = λ j k l h. let short : length {A = ℕ} (0 ∷ []) ≡ 1 = refl in absurd (omega (arith, l, h, short)) }

opening_map : (n x : ℕ) → x < n → map_at (opening_pairing n).maps x ≡ 0 ∷ []
opening_map n x l = get_or-replicate n x (0 ∷ []) [] l

opening_owner : (n x : ℕ) → owner (opening_pairing n) x ≡ None
opening_owner n x = get_or-alike n x None

openings_rise : (n : ℕ) → AreRising (opening_pairing n).maps
openings_rise n x l = subst IsRising (sym (opening_map n x (omega (arith, length-replicate {A = List ℕ} n (0 ∷ []))))) first_rising

first_cells : (n : ℤ) → AreCellsRelated (0 ∷ []) None (record { value = Def n; version = 0 }) (record { value = Def n; version = 0 })
first_cells n = record {
  rising = first_rising;
  places = refl;
  settled = λ e. refl;
  value = λ e. refl;
  hidden = λ j e. absurd (none-some j e);
}

first_messages : (maps : List (List ℕ)) (places : ℕ) (n : ℤ) → AreRising maps → AreMessagesRelated maps (first_message places n) (first_message places n)
first_messages maps places n r = record { from = refl; to = refl; value = refl; times = image_zeros maps places places r refl }

pub openings_related : OpeningsAreRelated
openings_related na atomic i = (
  record {
    target_places = places;
    source_places = places;
    owner_places = length-replicate {A = Option ℕ} (length na) None ∙ sym (length-replicate {A = List ℕ} (length na) (0 ∷ []));
    cells = λ x l.
        let within : x < length na = omega (arith, length-replicate {A = List ℕ} (length na) (0 ∷ [])) in
        let same : location_in start x ≡ record { value = Def (get_or na x (pos 0)); version = 0 } = get_or-map (λ n. record { value = Def n; version = 0 }) na x (pos 0) absent_location within in
        cells_moved _ _ _ _ _ _ _ _ (opening_map (length na) x within) (opening_owner (length na) x) same same (first_cells (get_or na x (pos 0)));
    atomic = refl;
    histories = λ y. same_histories y;
    outputs = refl;
    target_runs = refl;
    source_runs = refl;
  },
  record { cur = zeros; got = zeros; rel = zero_image },
)
  where
    p : Pairing
    p = opening_pairing (length na)

    start : Memory
    start = initial_memory na atomic

    zero_image : IsImage p.maps (replicate (length na + length atomic) 0) (replicate (length na + length atomic) 0)
    zero_image = image_zeros p.maps (length na + length atomic) (length na + length atomic) (openings_rise (length na)) refl

    zeros : AreTimesRelated p i start start (replicate (length na + length atomic) 0) (replicate (length na + length atomic) 0)
    zeros = record {
      image = image_but p.maps nowhere (hides p i) (replicate (length na + length atomic) 0) (replicate (length na + length atomic) 0) (λ x l e. refl) zero_image;
      target_last = λ x l h. absurd (both_ways _ (none_thread i (owner p x) (opening_owner (length na) x)) h);
      source_last = λ x l h. absurd (both_ways _ (none_thread i (owner p x) (opening_owner (length na) x)) h);
    }

    places : length start.na ≡ length p.maps
    places = length-map na (λ n. record { value = Def n; version = 0 }) ∙ sym (length-replicate {A = List ℕ} (length na) (0 ∷ []))

    same_histories : (y : ℕ) → AllZip (AreMessagesRelated p.maps) (messages start y) (messages start y)
    same_histories y =
        ⊎_elim
        (λ (l : y < length atomic).
        subst (λ (h : Messages). AllZip (AreMessagesRelated p.maps) h h)
        (sym (get_or-map (λ n. first_message (length na + length atomic) n ∷ []) atomic y (pos 0) [] l))
        (first_messages p.maps (length na + length atomic) (get_or atomic y (pos 0)) (openings_rise (length na)), tt))
        (λ (l : length atomic ≤ y).
        subst (λ (h : Messages). AllZip (AreMessagesRelated p.maps) h h) (sym (get_or_past start.atomic y [] (omega (arith, length-map atomic (λ n. first_message (length na + length atomic) n ∷ []))))) tt)
        (cases_lt y (length atomic))
