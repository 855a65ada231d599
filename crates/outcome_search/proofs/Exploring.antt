-- The moves from a node, entered.
use Rattle.std.proofs.Common.{◌≡◌, ◌⊎◌, ⊎_elim, ℕ, zero, suc, ◌+◌, ◌*◌, ◌^◌, ◌<◌, ◌≤◌, true, false, List, [], ◌∷◌, ◌++◌, length, map, get_or, Result, Ok, Err, OnOk, refl, sym, ap, ◌∙◌, subst, arith}
use Rattle.std.proofs.lemmas.Bool.{cases_eq, true≢false}
use Rattle.std.proofs.lemmas.List.{length-map}
use Rattle.std.specs.List.{AllByRecursion, Contains}
use Rattle.values_undef.specs.declared.access.Access.{Access}
use Rattle.values_undef.specs.declared.journal.Entry.{Entry}
use Rattle.il_syntax.specs.declared.program.Program.{Program}
use Rattle.outcome_nodes.specs.Nodes.{Node, first_node, result_at}
use Rattle.outcome_nodes.specs.Laws.{IsClosedUnderMoves}
use Rattle.outcome_nodes.specs.Outcome.{Fails}
use Rattle.outcome_nodes.specs.Standing.{node_of, GoesOnBy, FailsBy}
use Rattle.outcome_moves.specs.Moves.{IsMoved, IsSmallMove, HasMovesOf, IsSomeMove}
use Rattle.outcome_moves.specs.Room.{AreSmall}
use Rattle.outcome_moves.specs.declared.moves.Move.{Move}
use Rattle.outcome_search.specs.Runs.{nodes_of, Extends, IsShortRun, IsCompleteRun}
use Rattle.outcome_search.specs.Search.{IsUsable, IsEntered, HasMoves, HasFailure, IsExplored, AreExplored}
use Rattle.outcome_search.proofs.Lists.{extends_map, contains_more, own_place, longer, all_both, all_weaker}
use Rattle.outcome_search.proofs.Keeping.{short_more}

module _ (p : Program) (steps most : ℕ) (entries : List Entry) (short : IsShortRun p steps most entries) (low : most < 2 ^ 31) where
  usable_one : (m : Move) → IsSomeMove p steps (node_of p steps entries) m → IsSmallMove entries m → IsUsable p steps (most + 1) m
  usable_one m s small = record {
    complete = λ fails.
        ⊎_elim
        (λ (q : (m.fails ≡ true) × FailsBy p steps (node_of p steps entries) s.thread s.access s.behind m.entries.items).
        record { run = q.1.run.run; complete = q.1.run.complete; few = omega (arith, small.0, short.few, low) })
        (λ (q : (m.fails ≡ false) × GoesOnBy p steps (node_of p steps entries) s.thread s.access s.behind m.entries.items). absurd (true≢false (sym fails ∙ q.0)))
        s.moved;
    goes = λ goes.
        ⊎_elim
        (λ (q : (m.fails ≡ true) × FailsBy p steps (node_of p steps entries) s.thread s.access s.behind m.entries.items). absurd (true≢false (sym q.0 ∙ goes)))
        (λ (q : (m.fails ≡ false) × GoesOnBy p steps (node_of p steps entries) s.thread s.access s.behind m.entries.items).
        record {
          run = q.1.run;
          few = omega (arith, small.0, short.few);
          small = subst (λ (k : ℕ). AreSmall k m.entries.items) (omega arith) (small.1 (2 * most) short.small);
        })
        s.moved;
  }

  pub usable_all : (moves : List Move) → AllByRecursion (IsSomeMove p steps (node_of p steps entries)) moves → AllByRecursion (IsSmallMove entries) moves → AllByRecursion (IsUsable p steps (most + 1)) moves
  usable_all moves h k = all_both (IsSomeMove p steps (node_of p steps entries)) (IsSmallMove entries) (IsUsable p steps (most + 1)) moves usable_one h k

pub explored_by : (p : Program) (steps : ℕ) (n : Node) (moves : List Move) (kept failed : List (List Entry)) → ((i : ℕ) → i < length p.threads → HasMovesOf p steps n moves i) → ((m : Move) → Contains moves m → IsEntered p steps kept failed m) → IsExplored p steps kept failed n
explored_by p steps n moves kept failed all entered = record {
  moves = λ i a b l asks move fine.
      let h = all i l a b asks move in
      ⊎_elim
      (λ (q : (h.0.fails ≡ true) × FailsBy p steps n i a b h.0.entries.items). absurd (true≢false (sym q.1.fails ∙ fine)))
      (λ (q : (h.0.fails ≡ false) × GoesOnBy p steps n i a b h.0.entries.items). subst (Contains (nodes_of p steps kept)) q.1.node ((entered h.0 h.1).goes q.0))
      h.2;
  failure = λ f.
      let h = all f.thread f.there f.access f.behind f.asks f.move in
      ⊎_elim
      (λ (q : (h.0.fails ≡ true) × FailsBy p steps n f.thread f.access f.behind h.0.entries.items). (h.0.entries.items, (entered h.0 h.1).fails q.0, q.1.run))
      (λ (q : (h.0.fails ≡ false) × GoesOnBy p steps n f.thread f.access f.behind h.0.entries.items). absurd (true≢false (sym f.fails ∙ q.1.fine)))
      h.2;
}

pub ok_then : {A B P Q : Type 0} (r : Result A B) → (P → Q) → OnOk r P → OnOk r Q
ok_then (Ok x) f h = f h
ok_then (Err e) f h = tt

-- ---- lists that grow

pub usable_more : (p : Program) (steps : ℕ) (kept more : List (List Entry)) → Extends kept more → (moves : List Move) → AllByRecursion (IsUsable p steps (length kept + 1)) moves → AllByRecursion (IsUsable p steps (length more + 1)) moves
usable_more p steps kept more a moves h =
    all_weaker (IsUsable p steps (length kept + 1)) (IsUsable p steps (length more + 1)) moves
    (λ m u. record { complete = u.complete; goes = λ f. short_more p steps (length kept + 1) (length more + 1) m.entries.items (omega (arith, longer kept more a)) (u.goes f) })
    h

module _ (p : Program) (steps : ℕ) (kept more failed other : List (List Entry)) (grows : Extends kept more) (grows_too : Extends failed other) where
  pub nodes_more : (n : Node) → Contains (nodes_of p steps kept) n → Contains (nodes_of p steps more) n
  nodes_more n c = contains_more (nodes_of p steps kept) (nodes_of p steps more) n (extends_map (node_of p steps) kept more grows) c

  pub entered_more : (m : Move) → IsEntered p steps kept failed m → IsEntered p steps more other m
  entered_more m h = record {
    fails = λ f. contains_more failed other m.entries.items grows_too (h.fails f);
    goes = λ f. nodes_more (node_of p steps m.entries.items) (h.goes f);
  }

  pub explored_more : (n : Node) → IsExplored p steps kept failed n → IsExplored p steps more other n
  explored_more n h = record {
    moves = λ i a b l asks move fine. nodes_more _ (h.moves i a b l asks move fine);
    failure = λ f. let q = h.failure f in (q.0, contains_more failed other q.0 grows_too q.1, q.2);
  }

  -- one more node is explored
  pub done_more : (d : ℕ) → d < length kept → AreExplored p steps d kept failed → ((n : Node) → get_or (nodes_of p steps kept) d n ≡ n → IsExplored p steps more other n) → AreExplored p steps (d + 1) more other
  done_more d l done h = λ k n lt there q.
      let old : Extends (nodes_of p steps kept) (nodes_of p steps more) = extends_map (node_of p steps) kept more grows in
      let as_many : length (nodes_of p steps kept) ≡ length kept = length-map kept (node_of p steps) in
      ⊎_elim
      (λ (f : k ≡ d). h n (sym (own_place (nodes_of p steps kept) (nodes_of p steps more) d n old (omega (arith, l, as_many))) ∙ ap (λ (j : ℕ). get_or (nodes_of p steps more) j n) (sym f) ∙ q))
      (λ (f : k ≡ d → ⊥).
      let below : k < length kept = omega (arith, l, lt, f) in
      explored_more n (done k n (omega (arith, lt, f)) below (sym (own_place (nodes_of p steps kept) (nodes_of p steps more) k n old (omega (arith, below, as_many))) ∙ q)))
      (cases_eq k d)

module _ (p : Program) (steps d : ℕ) (kept failed : List (List Entry)) (l : length kept ≤ d) (done : AreExplored p steps d kept failed) where
  explored_each : (n : Node) → Contains (nodes_of p steps kept) n → IsExplored p steps kept failed n
  explored_each n c = let below : c.0 < length kept = omega (arith, c.1, length-map kept (node_of p steps)) in done c.0 n (omega (arith, l, below)) below c.2

  pub closed : Contains (nodes_of p steps kept) (first_node p steps) → IsClosedUnderMoves p steps (nodes_of p steps kept)
  closed first = record { first = first; moves = λ n i a b c l asks move fine. (explored_each n c).moves i a b l asks move fine }

  pub failures : (n : Node) → Contains (nodes_of p steps kept) n → HasFailure p steps n failed
  failures n c = (explored_each n c).failure
