-- One more message in the pool, and its place in a line.
use Rattle.std.proofs.Common.{◌≡◌, ℕ, pos, suc, ◌+◌, ◌-◌, ◌<◌, ◌≤◌, List, [], ◌∷◌, ◌++◌, length, get_or, set, vec_capacity, sym, ap, ◌∙◌, subst, arith}
use Rattle.std.specs.List.{AllByRecursion}
use Rattle.std.proofs.lemmas.List.{map-set}
use Rattle.std.proofs.Math.Seq.{get_or-append_seam}
use Rattle.message_memory.specs.declared.message.Message.{Message}
use Rattle.message_memory.specs.Memory.{first_message, inserted}
use Rattle.indexed_memory.specs.declared.line.Line.{Line}
use Rattle.indexed_memory.specs.Sorted.{message_of, history_of, AreSorted, AreRuns}
use Rattle.indexed_memory.specs.Index.{line_history, histories_in, IsIndexLine}
use Rattle.indexed_memory.proofs.Growing.{history_more, histories_more, lines_more, sorted_more, runs_more, line_at, line_set, history_at}

module _ (pool : List Message) (m : Message) (lines : List Line) (y : ℕ) (old : Line) (there : y < length lines) (is : (d : Line) → get_or lines y d ≡ old) where
  own : (P : Line → Type 0) → AllByRecursion P lines → P old
  own P each = subst P (is old) (line_at P lines y old there each)

  last_is : (place : ℕ) → place ≡ length pool → message_of (pool ++ m ∷ []) (place ∷ []) 0 ≡ m
  last_is place e = ap (λ (i : ℕ). get_or (pool ++ m ∷ []) i (first_message 0 (pos 0))) e ∙ get_or-append_seam pool m [] (first_message 0 (pos 0))

  -- the line before is right over the longer pool
  pub own_sorted : (spare : ℕ) → AllByRecursion (IsIndexLine pool spare) lines → AreSorted (pool ++ m ∷ []) old.places.items
  own_sorted spare each = sorted_more pool m old.places.items (own (IsIndexLine pool spare) each).sorted

  pub own_runs : (spare : ℕ) → AllByRecursion (IsIndexLine pool spare) lines → AreRuns (pool ++ m ∷ []) old.places.items old.runs.items
  own_runs spare each = runs_more pool m old (own (IsIndexLine pool spare) each).sorted (own (IsIndexLine pool spare) each).runs

  pub pushed_histories : (new : Line) (spare place : ℕ) → place ≡ length pool → AllByRecursion (IsIndexLine pool spare) lines
      → history_of (pool ++ m ∷ []) new.places.items ≡ inserted (message_of (pool ++ m ∷ []) (place ∷ []) 0) (history_of (pool ++ m ∷ []) old.places.items)
      → histories_in (pool ++ m ∷ []) (set lines y new) ≡ set (histories_in pool lines) y (inserted m (get_or (histories_in pool lines) y []))
  pushed_histories new spare place e each h =
      let o = own (IsIndexLine pool spare) each in
      let value : line_history (pool ++ m ∷ []) new ≡ inserted m (get_or (histories_in pool lines) y []) =
      h
      ∙ ap (λ (x : Message). inserted x (history_of (pool ++ m ∷ []) old.places.items)) (last_is place e)
      ∙ ap (inserted m) (history_more pool m old.places.items o.sorted ∙ sym (history_at pool lines y old there ∙ ap (line_history pool) (is old))) in
      map-set (line_history (pool ++ m ∷ [])) lines y new
      ∙ (λ i. set (histories_more pool m spare lines each i) y (value i))

  pub pushed_lines : (new : Line) (spare : ℕ) → 1 ≤ spare → AllByRecursion (IsIndexLine pool spare) lines → AreSorted (pool ++ m ∷ []) new.places.items → AreRuns (pool ++ m ∷ []) new.places.items new.runs.items
      → length new.places.items ≡ length old.places.items + 1 → vec_capacity old.places ≤ vec_capacity new.places → vec_capacity old.runs ≤ vec_capacity new.runs
      → AllByRecursion (IsIndexLine (pool ++ m ∷ []) (spare - 1)) (set lines y new)
  pushed_lines new spare some each sorted runs len places_room runs_room =
      let e : spare ≡ suc (spare - 1) = omega (arith, some) in
      let o = own (IsIndexLine pool spare) each in
      line_set (IsIndexLine (pool ++ m ∷ []) (spare - 1)) lines y new
      (record { sorted = sorted; runs = runs; place_room = omega (arith, o.place_room, len, places_room, some); run_room = omega (arith, o.run_room, len, runs_room, some) })
      (lines_more pool m (spare - 1) lines (subst (λ (n : ℕ). AllByRecursion (IsIndexLine pool n) lines) e each))
