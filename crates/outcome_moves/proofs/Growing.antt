-- A list of moves that grows.
use Rattle.std.proofs.Common.{◌≡◌, ◌⊎◌, inl, inr, ⊎_elim, ℕ, ◌+◌, ◌<◌, ◌≤◌, true, false, List, [], ◌∷◌, ◌++◌, length, get_or, take, Option, None, Some, Result, Ok, Err, OnOk, refl, sym, ap, ◌∙◌, subst, arith}
use Rattle.std.specs.Prelude.{IsSome}
use Rattle.std.specs.List.{Contains}
use Rattle.std.proofs.lemmas.Bool.{true≢false}
use Rattle.std.proofs.lemmas.List.{append-nil, append_assoc, take_more, take_all}
use Rattle.std.proofs.lemmas.List.Elements.{Contains-append_left, Contains-append_right}
use Rattle.values_undef.specs.Access.{leaves_choice}
use Rattle.values_undef.specs.declared.access.Access.{Access}
use Rattle.values_undef.specs.declared.access.Access.TheVariants.{NaRead, NaWrite, Read, Write, Update, Fence, Print, Fail, Finish, Spend}
use Rattle.values_undef.specs.declared.journal.Entry.{Entry}
use Rattle.values_undef.proofs.Callers.{all_append}
use Rattle.il_syntax.specs.declared.program.Program.{Program}
use Rattle.message_memory.specs.Memory.{Memory, messages, message_at}
use Rattle.message_memory.specs.Candidates.{location_of}
use Rattle.message_memory.specs.Step.{IsLegal, StepResult}
use Rattle.memory_likeness.specs.Answering.{made_room, view_with_room, choice_behind}
use Rattle.outcome_nodes.specs.Nodes.{Node, view_at, Asks, IsMove, result_at, after_move, IsFinished, IsSpent}
use Rattle.outcome_nodes.specs.Standing.{node_of, IsNodeRun, GoesOnBy, FailsBy}
use Rattle.outcome_moves.specs.Ends.{end_in, HasEnd}
use Rattle.outcome_moves.specs.Moves.{IsWhat, IsMoved, IsSmallMove, HasMove, HasMovesOf, IsSomeMove, GrowsBy}
use Rattle.outcome_moves.specs.declared.standing.What.{What}
use Rattle.outcome_moves.specs.declared.standing.What.TheVariants as what
use Rattle.outcome_moves.specs.declared.moves.Move.{Move}
use Rattle.outcome_moves.proofs.Playing.{same_access}
use Rattle.outcome_moves.proofs.Ends.{ends_found}

-- ---- lists of moves

module _ (p : Program) (steps : ℕ) (n : Node) (entries : List Entry) where
  pub grows_none : (xs : List Move) → GrowsBy p steps n entries xs xs
  grows_none xs = ([], sym (append-nil xs), tt, tt)

  pub grows_one : (xs ys : List Move) (m : Move) → ys ≡ xs ++ m ∷ [] → IsSomeMove p steps n m → IsSmallMove entries m → GrowsBy p steps n entries xs ys
  grows_one xs ys m e q s = (m ∷ [], e, (q, tt), (s, tt))

  pub grows_then : (xs ys zs : List Move) → GrowsBy p steps n entries xs ys → GrowsBy p steps n entries ys zs → GrowsBy p steps n entries xs zs
  grows_then xs ys zs a b = (
    a.0 ++ b.0,
    b.1 ∙ ap (λ (q : List Move). q ++ b.0) a.1 ∙ append_assoc xs a.0 b.0,
    all_append (IsSomeMove p steps n) a.0 b.0 a.2 b.2,
    all_append (IsSmallMove entries) a.0 b.0 a.3 b.3,
  )

  pub has_more : (xs ys : List Move) (i : ℕ) (a : Access) (b : ℕ) → GrowsBy p steps n entries xs ys → HasMove p steps n xs i a b → HasMove p steps n ys i a b
  has_more xs ys i a b g h = (h.0, subst (λ (q : List Move). Contains q h.0) (sym g.1) (Contains-append_left xs g.0 h.0 h.1), h.2)

pub has_last : (p : Program) (steps : ℕ) (n : Node) (xs ys : List Move) (m : Move) (i : ℕ) (a : Access) (b : ℕ) → ys ≡ xs ++ m ∷ [] → IsMoved p steps n i a b m → HasMove p steps n ys i a b
has_last p steps n xs ys m i a b e q = (m, subst (λ (l : List Move). Contains l m) (sym e) (Contains-append_right xs (m ∷ []) m (0, omega arith, refl)), q)

-- ---- one thread asks for one access

pub asks_one : (steps : ℕ) (n : Node) (i : ℕ) (a b : Access) → Asks steps n i a → Asks steps n i b → a ≡ b
asks_one steps n i a b q r = same_access a b (sym q.next ∙ r.next)

pub finished_asks : (steps : ℕ) (n : Node) (i : ℕ) (a : Access) → IsFinished n i → Asks steps n i a → ⊥
finished_asks steps n i a f q = q.unfinished (same_access a Finish (sym q.next ∙ f))

pub spent_asks : (steps : ℕ) (n : Node) (i : ℕ) (a : Access) → IsSpent steps n i → Asks steps n i a → ⊥
spent_asks steps n i a f q = omega (arith, f.used, q.left)

-- a thread that asks for none has no moves
pub none_asked : (p : Program) (steps : ℕ) (entries : List Entry) (i : ℕ) (moves : List Move) (x : What) → IsWhat p steps entries i x → ((a : Access) → x ≡ what.Asks a → ⊥) → HasMovesOf p steps (node_of p steps entries) moves i
none_asked p steps entries i moves (what.Asks a) w h = absurd (h a refl)
none_asked p steps entries i moves what.Finished w h = λ a b asks move. absurd (finished_asks steps (node_of p steps entries) i a w asks)
none_asked p steps entries i moves what.Spent w h = λ a b asks move. absurd (spent_asks steps (node_of p steps entries) i a w asks)

-- ---- an access that leaves no choice is the same move everywhere

record AreOne (p : Program) (steps : ℕ) (n : Node) (i : ℕ) (a : Access) (b c : ℕ) : Type 0 where
  room : made_room n.memory a b ≡ made_room n.memory a c
  view : view_with_room n.memory (view_at n i) a b ≡ view_with_room n.memory (view_at n i) a c
  choice : choice_behind n.memory a b ≡ choice_behind n.memory a c
  after : after_move p steps n i a b ≡ after_move p steps n i a c
  result : result_at n i a b ≡ result_at n i a c

are_one : (p : Program) (steps : ℕ) (n : Node) (i : ℕ) (a : Access) (b c : ℕ) → leaves_choice a ≡ false → AreOne p steps n i a b c
are_one p steps n i (NaRead x) b c h = record { room = refl; view = refl; choice = refl; after = refl; result = refl }
are_one p steps n i (NaWrite x v) b c h = record { room = refl; view = refl; choice = refl; after = refl; result = refl }
are_one p steps n i (Read y o) b c h = absurd (true≢false h)
are_one p steps n i (Write y o v) b c h = absurd (true≢false h)
are_one p steps n i (Update y o k) b c h = absurd (true≢false h)
are_one p steps n i (Fence o) b c h = record { room = refl; view = refl; choice = refl; after = refl; result = refl }
are_one p steps n i (Print v) b c h = record { room = refl; view = refl; choice = refl; after = refl; result = refl }
are_one p steps n i (Fail x) b c h = record { room = refl; view = refl; choice = refl; after = refl; result = refl }
are_one p steps n i Finish b c h = record { room = refl; view = refl; choice = refl; after = refl; result = refl }
are_one p steps n i Spend b c h = record { room = refl; view = refl; choice = refl; after = refl; result = refl }

pub move_anywhere : (p : Program) (steps : ℕ) (n : Node) (i : ℕ) (a : Access) (b c : ℕ) → leaves_choice a ≡ false → IsMove n i a b → IsMove n i a c
move_anywhere p steps n i a b c h m =
    let q = are_one p steps n i a b c h in
    record {
      found = λ g. absurd (true≢false (sym g ∙ h));
      legal =
          subst (λ d. IsLegal (made_room n.memory a c) (view_with_room n.memory (view_at n i) a c) a d) q.choice
          (subst (λ v. IsLegal (made_room n.memory a c) v a (choice_behind n.memory a b)) q.view
          (subst (λ (x : Memory). IsLegal x (view_with_room n.memory (view_at n i) a b) a (choice_behind n.memory a b)) q.room m.legal));
    }

pub moved_anywhere : (p : Program) (steps : ℕ) (n : Node) (i : ℕ) (a : Access) (b c : ℕ) (m : Move) → leaves_choice a ≡ false → IsMoved p steps n i a b m → IsMoved p steps n i a c m
moved_anywhere p steps n i a b c m h =
    let q = are_one p steps n i a b c h in
    ⊎_elim
    (λ (r : (m.fails ≡ true) × FailsBy p steps n i a b m.entries.items). inl (r.0, record { run = r.1.run; fails = ap (λ (x : StepResult). x.memory.failed) (sym q.result) ∙ r.1.fails }))
    (λ (r : (m.fails ≡ false) × GoesOnBy p steps n i a b m.entries.items).
    inr (r.0, record { run = r.1.run; node = r.1.node ∙ q.after; fine = ap (λ (x : StepResult). x.memory.failed) (sym q.result) ∙ r.1.fine }))

-- ---- the places of the messages

pub end_or_before : (entries : List Entry) (k : ℕ) (d : Entry) (y b : ℕ) → k < length entries → HasEnd (take (k + 1) entries) y b → HasEnd (take k entries) y b ⊎ (end_in y (get_or entries k d).event ≡ Some b)
end_or_before entries k d y b l h = parts (take k entries) (subst (λ (xs : List Entry). HasEnd xs y b) (take_more entries k d l) h)
  where
    parts : (xs : List Entry) → HasEnd (xs ++ get_or entries k d ∷ []) y b → HasEnd xs y b ⊎ (end_in y (get_or entries k d).event ≡ Some b)
    parts [] q = ⊎_elim (λ (r : end_in y (get_or entries k d).event ≡ Some b). inr r) (λ r. absurd r) q
    parts (x ∷ xs) q = ⊎_elim (λ (r : end_in y x.event ≡ Some b). inl (inl r)) (λ (r : HasEnd (xs ++ get_or entries k d ∷ []) y b). ⊎_elim (λ (z : HasEnd xs y b). inl (inr z)) (λ z. inr z) (parts xs r)) q

-- a move at a message is one at the first message, or at one that an entry put in
pub move_at_end : (p : Program) (steps : ℕ) (entries : List Entry) (i : ℕ) (a : Access) (b : ℕ) → IsNodeRun p steps entries → leaves_choice a ≡ true → IsMove (node_of p steps entries) i a b → (b ≡ 0) ⊎ HasEnd entries (location_of a) b
move_at_end p steps entries i a b run h m =
    ends_found p entries (location_of a) b run.stands.run.run
    (subst (λ (x : Memory). IsSome (message_at b (messages x (location_of a)))) run.stands.memory (m.found h))

-- ---- all moves of a thread

module _ (p : Program) (steps : ℕ) (n : Node) (moves : List Move) (i : ℕ) (a : Access) (asks : Asks steps n i a) where
  told_of_one : ((b : ℕ) → IsMove n i a b → HasMove p steps n moves i a b) → HasMovesOf p steps n moves i
  told_of_one h other b asks' move =
      let same : a ≡ other = asks_one steps n i a other asks asks' in
      subst (λ (x : Access). HasMove p steps n moves i x b) same (h b (subst (λ (x : Access). IsMove n i x b) (sym same) move))

  pub all_anywhere : leaves_choice a ≡ false → (IsMove n i a 0 → HasMove p steps n moves i a 0) → HasMovesOf p steps n moves i
  all_anywhere none first = told_of_one (λ b move. let h = first (move_anywhere p steps n i a b 0 none move) in (h.0, h.1, moved_anywhere p steps n i a 0 b h.0 none h.2))

pub all_ends : (p : Program) (steps : ℕ) (entries : List Entry) (moves : List Move) (i : ℕ) (a : Access) (k : ℕ) → Asks steps (node_of p steps entries) i a → leaves_choice a ≡ true → IsNodeRun p steps entries → length entries ≤ k
    → (IsMove (node_of p steps entries) i a 0 → HasMove p steps (node_of p steps entries) moves i a 0)
    → ((b : ℕ) → HasEnd (take k entries) (location_of a) b → IsMove (node_of p steps entries) i a b → HasMove p steps (node_of p steps entries) moves i a b) → HasMovesOf p steps (node_of p steps entries) moves i
all_ends p steps entries moves i a k asks some run l first tried =
    told_of_one p steps (node_of p steps entries) moves i a asks
    (λ b move.
    ⊎_elim
    (λ (e : b ≡ 0). subst (HasMove p steps (node_of p steps entries) moves i a) (sym e) (first (subst (IsMove (node_of p steps entries) i a) e move)))
    (λ (h : HasEnd entries (location_of a) b). tried b (subst (λ (xs : List Entry). HasEnd xs (location_of a) b) (sym (take_all k entries l)) h) move)
    (move_at_end p steps entries i a b run some move))

pub on_ok_more : {T E : Type 0} {A B : Type 0} (r : Result T E) → OnOk r A → (A → B) → OnOk r B
on_ok_more (Ok x) h f = f h
on_ok_more (Err e) h f = h

pub end_same : (a b : ℕ) → Some a ≡ Some b → a ≡ b
end_same a b e = ap number_in e
  where
    number_in : Option ℕ → ℕ
    number_in None = 0
    number_in (Some x) = x
