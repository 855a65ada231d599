-- A list of different nodes is no longer than one that has each of them.
use Rattle.std.proofs.Common.{◌≡◌, ◌⊎◌, ⊎_elim, ℕ, zero, suc, ◌+◌, ◌<◌, ◌≤◌, Bool, true, false, eqb, List, [], ◌∷◌, length, get_or, refl, sym, ap, ◌∙◌, subst, arith}
use Rattle.std.proofs.lemmas.Bool.{cases_eq}
use Rattle.std.proofs.lemmas.Map.Steps.{length-le_from_distinct_below}
use Rattle.std.specs.List.{AllByRecursion, Contains, IsDistinct, list_any}
use Rattle.il_syntax.specs.declared.program.Program.{Program}
use Rattle.outcome_nodes.specs.Nodes.{Node}
use Rattle.outcome_nodes.specs.Laws.{IsClosedUnderMoves}
use Rattle.outcome_nodes.specs.Reached.{IsReachable, begins, moves}
use Rattle.outcome_search.specs.Runs.{AreDifferent, HasMoreNodes}
use Rattle.outcome_search.proofs.Lists.{get_any, contains_behind}

eqb_apart : (i j : ℕ) → (i ≡ j → ⊥) → eqb i j ≡ false
eqb_apart i j h = grind arith

any_behind : (q d : ℕ) (xs : List ℕ) → eqb q d ≡ false → list_any (eqb q) (d ∷ xs) ≡ true → list_any (eqb q) xs ≡ true
any_behind q d xs e t = grind (arith, e, t)

module _ (ys : List Node) where
  abbrev pub Has : List Node → Type 0
  Has xs = (n : Node) → Contains xs n → Contains ys n

  abbrev rest : (x : Node) (xs : List Node) → Has (x ∷ xs) → Has xs
  rest x xs s = λ n c. s n (contains_behind x n xs c)

  abbrev first : (x : Node) (xs : List Node) → Has (x ∷ xs) → Contains ys x
  first x xs s = s x (0, omega arith, refl)

  abbrev places : (xs : List Node) → Has xs → List ℕ
  places [] s = []
  places (x ∷ xs) s = (first x xs s).0 ∷ places xs (rest x xs s)

  as_many : (xs : List Node) (s : Has xs) → length (places xs s) ≡ length xs
  as_many [] s = refl
  as_many (x ∷ xs) s = ap (λ (k : ℕ). suc k) (as_many xs (rest x xs s))

  apart : (x : Node) (c : Contains ys x) (xs : List Node) (s : Has xs) → (Contains xs x → ⊥) → AllByRecursion (λ j. eqb c.0 j ≡ false) (places xs s)
  apart x c [] s h = tt
  apart x c (z ∷ xs) s h =
      let d = first z xs s in (
        ⊎_elim
            (λ (e : c.0 ≡ d.0). absurd (h (0, omega arith, sym d.2 ∙ ap (λ (k : ℕ). get_or ys k z) (sym e) ∙ get_any ys c.0 z x c.1 ∙ c.2)))
            (λ (e : c.0 ≡ d.0 → ⊥). eqb_apart c.0 d.0 e)
            (cases_eq c.0 d.0),
        apart x c xs (rest z xs s) (λ q. h (contains_behind z x xs q)),
      )

  distinct : (xs : List Node) (s : Has xs) → AreDifferent xs → IsDistinct eqb (places xs s)
  unfolding IsDistinct
  distinct [] s d = tt
  distinct (x ∷ xs) s d = (apart x (first x xs s) xs (rest x xs s) d.0, distinct xs (rest x xs s) d.1)

  below : (xs : List Node) (s : Has xs) (q : ℕ) → list_any (eqb q) (places xs s) ≡ true → q < length ys
  below [] s q t = absurd (grind (arith, t))
  below (x ∷ xs) s q t =
      let d = first x xs s in
      ⊎_elim
      (λ (e : q ≡ d.0). subst (λ (k : ℕ). k < length ys) (sym e) d.1)
      (λ (e : q ≡ d.0 → ⊥). below xs (rest x xs s) q (any_behind q d.0 (places xs (rest x xs s)) (eqb_apart q d.0 e) t))
      (cases_eq q d.0)

  pub no_longer : (xs : List Node) → Has xs → AreDifferent xs → length xs ≤ length ys
  no_longer xs s d = subst (λ (k : ℕ). k ≤ length ys) (as_many xs s) (length-le_from_distinct_below (places xs s) (length ys) (distinct xs s d) (below xs s))

reached_in : (p : Program) (steps : ℕ) (nodes : List Node) → IsClosedUnderMoves p steps nodes → (n : Node) → IsReachable p steps n → Contains nodes n
reached_in p steps nodes closed n begins = closed.first
reached_in p steps nodes closed n (moves m i a b r l asks move fine) = closed.moves m i a b (reached_in p steps nodes closed m r) l asks move fine

pub no_more : (p : Program) (steps limit : ℕ) (nodes : List Node) → IsClosedUnderMoves p steps nodes → length nodes ≤ limit → HasMoreNodes p steps limit → ⊥
no_more p steps limit nodes closed few h =
    let all : (n : Node) → Contains h.nodes n → Contains nodes n = λ n c. reached_in p steps nodes closed n (subst (IsReachable p steps) c.2 (h.reached c.0 n c.1)) in
    omega (arith, no_longer nodes h.nodes all h.different, h.more, few)
