-- The first messages, line by line.
use Rattle.std.proofs.Common.{◌≡◌, ℕ, ℤ, pos, zero, suc, ◌+◌, ◌<◌, ◌≤◌, List, [], ◌∷◌, ◌++◌, length, get_or, take, map, vec_capacity, refl, sym, ap, ◌∙◌, subst, arith, length-append}
use Rattle.std.specs.List.{AllByRecursion}
use Rattle.std.proofs.lemmas.List.{map-append}
use Rattle.std.proofs.Math.Seq.{get_or-append_seam}
use Rattle.message_memory.specs.declared.message.Message.{Message}
use Rattle.message_memory.specs.Memory.{first_message}
use Rattle.indexed_memory.specs.declared.line.Line.{Line}
use Rattle.indexed_memory.specs.Sorted.{message_of, history_of, AreSorted, AreRuns}
use Rattle.indexed_memory.specs.Index.{line_history, histories_in, IsIndexLine}
use Rattle.indexed_memory.proofs.Growing.{histories_more, first_lines_more, line_push}

-- a line of one message
one_sorted : (pool : List Message) (place : ℕ) → place < length pool → AreSorted pool (place ∷ [])
one_sorted pool place l = record {
  within = λ k b. let e : 0 ≡ k = omega (arith, b) in subst (λ (i : ℕ). get_or (place ∷ []) i 0 < length pool) e l;
  rising = λ j k a b. let e : j ≡ k = omega (arith, a, b) in let q = ap (λ (i : ℕ). (message_of pool (place ∷ []) i).to) e in omega (arith, q);
}

one_runs : (pool : List Message) (place : ℕ) → AreRuns pool (place ∷ []) []
one_runs pool place = record { known = omega arith; all = omega arith; counted = λ r l. absurd (omega (arith, l)) }

take_next : (xs : List ℤ) (y : ℕ) → y < length xs → take (suc y) xs ≡ take y xs ++ get_or xs y (pos 0) ∷ []
take_next [] y l = absurd (omega (arith, l))
take_next (x ∷ xs) zero l = refl
take_next (x ∷ xs) (suc y) l = ap (λ (zs : List ℤ). x ∷ zs) (take_next xs y (omega (arith, l)))

module _ (locations : ℕ) (pool : List Message) (lines : List Line) (atomic : List ℤ) (m : Message) (line : Line) (y : ℕ) where
  pub first_each : y ≡ length pool → line.places.items ≡ y ∷ [] → line.runs.items ≡ [] → 1 ≤ vec_capacity line.places → AllByRecursion (IsIndexLine pool 0) lines → AllByRecursion (IsIndexLine (pool ++ m ∷ []) 0) (lines ++ line ∷ [])
  first_each e places runs room each =
      let n = length-append pool (m ∷ []) in
      let many = ap {B = ℕ} (λ (ps : List ℕ). length ps) places in
      line_push (IsIndexLine (pool ++ m ∷ []) 0) lines line
      (record {
        sorted = subst (AreSorted (pool ++ m ∷ [])) (sym places) (one_sorted (pool ++ m ∷ []) y (omega (arith, n, e)));
        runs = subst (λ (ps : List ℕ). AreRuns (pool ++ m ∷ []) ps line.runs.items) (sym places) (subst (AreRuns (pool ++ m ∷ []) (y ∷ [])) (sym runs) (one_runs (pool ++ m ∷ []) y));
        place_room = omega (arith, many, room);
        run_room = omega (arith, many);
      })
      (first_lines_more pool m lines each)

  pub first_histories : y ≡ length pool → y < length atomic → line.places.items ≡ y ∷ [] → m ≡ first_message locations (get_or atomic y (pos 0)) → AllByRecursion (IsIndexLine pool 0) lines
      → histories_in pool lines ≡ map (λ (n : ℤ). first_message locations n ∷ []) (take y atomic)
      → histories_in (pool ++ m ∷ []) (lines ++ line ∷ []) ≡ map (λ (n : ℤ). first_message locations n ∷ []) (take (y + 1) atomic)
  first_histories e l places is each h =
      let f : y + 1 ≡ suc y = omega arith in
      let first : message_of (pool ++ m ∷ []) (y ∷ []) 0 ≡ m = ap (λ (i : ℕ). get_or (pool ++ m ∷ []) i (first_message 0 (pos 0))) e ∙ get_or-append_seam pool m [] (first_message 0 (pos 0)) in
      let own : line_history (pool ++ m ∷ []) line ≡ first_message locations (get_or atomic y (pos 0)) ∷ [] = ap (history_of (pool ++ m ∷ [])) places ∙ (λ i. (first ∙ is) i ∷ []) in
      map-append (line_history (pool ++ m ∷ [])) lines (line ∷ [])
      ∙ (λ i. (histories_more pool m 0 lines each ∙ h) i ++ own i ∷ [])
      ∙ sym (map-append (λ (n : ℤ). first_message locations n ∷ []) (take y atomic) (get_or atomic y (pos 0) ∷ []))
      ∙ ap (map (λ (n : ℤ). first_message locations n ∷ [])) (sym (take_next atomic y l))
      ∙ ap (λ (k : ℕ). map (λ (n : ℤ). first_message locations n ∷ []) (take k atomic)) (sym f)
