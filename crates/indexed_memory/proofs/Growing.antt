-- Lines over a pool to whose end a message comes, and lines with more room.
use Rattle.std.proofs.Common.{◌≡◌, ℕ, pos, zero, suc, ◌+◌, ◌*◌, ◌<◌, ◌≤◌, List, [], ◌∷◌, ◌++◌, length, get_or, set, take, vec_capacity, refl, sym, ap, ◌∙◌, subst, arith, length-append}
use Rattle.std.specs.List.{AllByRecursion, AllZip}
use Rattle.std.proofs.lemmas.List.{get_or_append_left, length-map}
use Rattle.message_memory.specs.declared.message.Message.{Message}
use Rattle.message_memory.specs.Memory.{Messages, first_message}
use Rattle.indexed_memory.specs.declared.line.Line.{Line}
use Rattle.indexed_memory.specs.declared.runs.Run.{Run}
use Rattle.indexed_memory.specs.Sorted.{message_of, history_of, AreSorted, AreRuns}
use Rattle.indexed_memory.specs.Index.{line_history, histories_in, IsIndexLine, HasGrown, HasRoomFor}
use Rattle.indexed_memory.proofs.Agreeing.{newest_same, run_same}

module _ (pool : List Message) (m : Message) where
  message_more : (places : List ℕ) → AreSorted pool places → (i : ℕ) → i < length places → message_of (pool ++ m ∷ []) places i ≡ message_of pool places i
  message_more places s i l = get_or_append_left pool (m ∷ []) (first_message 0 (pos 0)) (get_or places i 0) (s.within i l)

  pub history_more : (places : List ℕ) → AreSorted pool places → history_of (pool ++ m ∷ []) places ≡ history_of pool places
  history_more places s = newest_same pool (pool ++ m ∷ []) places places (length places) (message_more places s)

  pub sorted_more : (places : List ℕ) → AreSorted pool places → AreSorted (pool ++ m ∷ []) places
  sorted_more places s = record {
    within = λ k l. let n = length-append pool (m ∷ []) in omega (arith, n, s.within k l);
    rising = λ j k l b.
        let p = ap (λ (x : Message). x.to) (message_more places s j (omega arith)) in let q = ap (λ (x : Message). x.to) (message_more places s k b) in
        omega (arith, p, q, s.rising j k l b);
  }

  pub runs_more : (line : Line) → AreSorted pool line.places.items → AreRuns pool line.places.items line.runs.items → AreRuns (pool ++ m ∷ []) line.places.items line.runs.items
  runs_more line s a = record {
    known = a.known;
    all = a.all;
    counted = λ r l. a.counted r l ∙ sym (run_same pool (pool ++ m ∷ []) line.places.items line.places.items r (length line.places.items) (omega (arith, a.known)) (message_more line.places.items s));
  }

  pub line_more : (spare : ℕ) (line : Line) → IsIndexLine pool (suc spare) line → IsIndexLine (pool ++ m ∷ []) spare line
  line_more spare line h = record {
    sorted = sorted_more line.places.items h.sorted;
    runs = runs_more line h.sorted h.runs;
    place_room = omega (arith, h.place_room);
    run_room = omega (arith, h.run_room);
  }

  pub lines_more : (spare : ℕ) (lines : List Line) → AllByRecursion (IsIndexLine pool (suc spare)) lines → AllByRecursion (IsIndexLine (pool ++ m ∷ []) spare) lines
  lines_more spare [] h = tt
  lines_more spare (line ∷ lines) h = (line_more spare line h.0, lines_more spare lines h.1)

  pub first_lines_more : (lines : List Line) → AllByRecursion (IsIndexLine pool 0) lines → AllByRecursion (IsIndexLine (pool ++ m ∷ []) 0) lines
  first_lines_more [] h = tt
  first_lines_more (line ∷ lines) h = (
    record { sorted = sorted_more line.places.items h.0.sorted; runs = runs_more line h.0.sorted h.0.runs; place_room = h.0.place_room; run_room = h.0.run_room },
    first_lines_more lines h.1,
  )

  pub histories_more : (spare : ℕ) (lines : List Line) → AllByRecursion (IsIndexLine pool spare) lines → histories_in (pool ++ m ∷ []) lines ≡ histories_in pool lines
  histories_more spare [] h = refl
  histories_more spare (line ∷ lines) h = λ i. history_more line.places.items h.0.sorted i ∷ histories_more spare lines h.1 i

-- ---- one line in a list

pub line_at : (P : Line → Type 0) (lines : List Line) (y : ℕ) (d : Line) → y < length lines → AllByRecursion P lines → P (get_or lines y d)
line_at P [] y d l h = absurd (omega arith)
line_at P (line ∷ lines) zero d l h = h.0
line_at P (line ∷ lines) (suc y) d l h = line_at P lines y d (omega arith) h.1

pub line_set : (P : Line → Type 0) (lines : List Line) (y : ℕ) (line : Line) → P line → AllByRecursion P lines → AllByRecursion P (set lines y line)
line_set P [] y line p h = h
line_set P (l ∷ lines) zero line p h = (p, h.1)
line_set P (l ∷ lines) (suc y) line p h = (h.0, line_set P lines y line p h.1)

pub line_push : (P : Line → Type 0) (lines : List Line) (line : Line) → P line → AllByRecursion P lines → AllByRecursion P (lines ++ line ∷ [])
line_push P [] line p h = (p, tt)
line_push P (l ∷ lines) line p h = (h.0, line_push P lines line p h.1)

pub history_at : (pool : List Message) (lines : List Line) (y : ℕ) (d : Line) → y < length lines → get_or (histories_in pool lines) y [] ≡ line_history pool (get_or lines y d)
history_at pool [] y d l = absurd (omega arith)
history_at pool (line ∷ lines) zero d l = refl
history_at pool (line ∷ lines) (suc y) d l = history_at pool lines y d (omega arith)

-- what stands for a missing line has no say in one that is there
pub line_any : (lines : List Line) (y : ℕ) (d e : Line) → y < length lines → get_or lines y d ≡ get_or lines y e
line_any [] y d e l = absurd (omega (arith, l))
line_any (line ∷ lines) zero d e l = refl
line_any (line ∷ lines) (suc y) d e l = line_any lines y d e (omega (arith, l))

pub line_there : (pool : List Message) (lines : List Line) (h : List Messages) (y : ℕ) → histories_in pool lines ≡ h → y < length h → y < length lines
line_there pool lines h y e l = let n = ap {B = ℕ} (λ (hs : List Messages). length hs) e in omega (arith, n, l, length-map lines (line_history pool))

-- ---- lines with more room

module _ (pool : List Message) where
  pub histories_grown : (olds news : List Line) → AllZip HasGrown olds news → histories_in pool news ≡ histories_in pool olds
  histories_grown [] [] h = refl
  histories_grown [] (new ∷ news) h = absurd h
  histories_grown (old ∷ olds) [] h = absurd h
  histories_grown (old ∷ olds) (new ∷ news) h = λ i. history_of pool (h.0.places i) ∷ histories_grown olds news h.1 i

  line_grown : (spare : ℕ) (old new : Line) → HasGrown old new → length new.places.items + spare ≤ vec_capacity new.places → length new.places.items + spare ≤ 256 * vec_capacity new.runs + 256
      → AreSorted pool old.places.items → AreRuns pool old.places.items old.runs.items → IsIndexLine pool spare new
  line_grown spare old new g p q s a = record {
    sorted = subst (AreSorted pool) (sym g.places) s;
    runs = subst (λ places. AreRuns pool places new.runs.items) (sym g.places) (subst (AreRuns pool old.places.items) (sym g.runs) a);
    place_room = p;
    run_room = q;
  }

  -- where room could be had for some alone, each has what it had
  pub lines_kept : (spare : ℕ) (olds news : List Line) → AllZip HasGrown olds news → AllByRecursion (IsIndexLine pool spare) olds → AllByRecursion (IsIndexLine pool spare) news
  lines_kept spare [] [] g h = tt
  lines_kept spare [] (new ∷ news) g h = absurd g
  lines_kept spare (old ∷ olds) [] g h = absurd g
  lines_kept spare (old ∷ olds) (new ∷ news) g h = (
    line_grown spare old new g.0 (omega (arith, ap {B = ℕ} (λ (places : List ℕ). length places) g.0.places, g.0.place_room, h.0.place_room)) (omega (arith, ap {B = ℕ} (λ (places : List ℕ). length places) g.0.places, g.0.run_room, h.0.run_room)) h.0.sorted h.0.runs,
    lines_kept spare olds news g.1 h.1,
  )

  -- and where it could be had for all, each has so much
  pub lines_roomy : (spare n : ℕ) (olds news : List Line) → AllZip HasGrown olds news → AllByRecursion (HasRoomFor n) news → AllByRecursion (IsIndexLine pool spare) olds → AllByRecursion (IsIndexLine pool n) news
  lines_roomy spare n [] [] g r h = tt
  lines_roomy spare n [] (new ∷ news) g r h = absurd g
  lines_roomy spare n (old ∷ olds) [] g r h = absurd g
  lines_roomy spare n (old ∷ olds) (new ∷ news) g r h = (
    line_grown n old new g.0 r.0.place_room (omega (arith, ap {B = ℕ} (λ (places : List ℕ). length places) g.0.places, ap {B = ℕ} (λ (runs : List Run). length runs) g.0.runs, r.0.run_room, h.0.runs.all)) h.0.sorted h.0.runs,
    lines_roomy spare n olds news g.1 r.1 h.1,
  )

-- ---- making room, line by line

pub grown_same : (lines : List Line) → AllZip HasGrown lines lines
grown_same [] = tt
grown_same (line ∷ lines) = (record { places = refl; runs = refl; place_room = omega arith; run_room = omega arith }, grown_same lines)

then_grown : (a b c : Line) → HasGrown a b → HasGrown b c → HasGrown a c
then_grown a b c p q = record {
  places = q.places ∙ p.places;
  runs = q.runs ∙ p.runs;
  place_room = omega (arith, p.place_room, q.place_room);
  run_room = omega (arith, p.run_room, q.run_room);
}

pub grown_set : (olds lines : List Line) (i : ℕ) (new : Line) → ((d : Line) → HasGrown (get_or lines i d) new) → AllZip HasGrown olds lines → AllZip HasGrown olds (set lines i new)
grown_set [] [] i new g h = tt
grown_set [] (line ∷ lines) i new g h = absurd h
grown_set (old ∷ olds) [] i new g h = absurd h
grown_set (old ∷ olds) (line ∷ lines) zero new g h = (then_grown old line new h.0 (g line), h.1)
grown_set (old ∷ olds) (line ∷ lines) (suc i) new g h = (h.0, grown_set olds lines i new g h.1)

ready_next : (P : Line → Type 0) (lines : List Line) (i : ℕ) (new : Line) → P new → AllByRecursion P (take i lines) → AllByRecursion P (take (suc i) (set lines i new))
ready_next P [] i new p h = tt
ready_next P (line ∷ lines) zero new p h = (p, tt)
ready_next P (line ∷ lines) (suc i) new p h = (h.0, ready_next P lines i new p h.1)

pub ready_set : (P : Line → Type 0) (lines : List Line) (i : ℕ) (new : Line) → P new → AllByRecursion P (take i lines) → AllByRecursion P (take (i + 1) (set lines i new))
ready_set P lines i new p h =
    let e : suc i ≡ i + 1 = omega arith in
    subst (λ (n : ℕ). AllByRecursion P (take n (set lines i new))) e (ready_next P lines i new p h)

pub none_ready : (P : Line → Type 0) (lines : List Line) → AllByRecursion P (take 0 lines)
none_ready P [] = tt
none_ready P (line ∷ lines) = tt
