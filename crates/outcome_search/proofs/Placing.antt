-- Places of runs, by the key of their node.
use Rattle.std.proofs.Common.{◌≡◌, ◌⊎◌, ⊎_elim, ℕ, zero, suc, ◌+◌, ◌<◌, ◌≤◌, Bool, cond, Result, Ok, Err, eqb, List, [], ◌∷◌, ◌++◌, length, map, get_or, refl, sym, ap, ◌∙◌, subst, arith}
use Rattle.std.specs.Prelude.{◌↔◌, IsTrue, IfOk}
use Rattle.std.proofs.lemmas.Bool.{cases_eq, cond_both}
use Rattle.std.proofs.lemmas.List.{length-append, length-map, get_or-map, get_or_append_left}
use Rattle.std.proofs.lemmas.List.Elements.{Contains-append_left, Contains-append_right}
use Rattle.std.specs.List.{AllByRecursion, Contains}
use Rattle.values_undef.specs.declared.journal.Entry.{Entry}
use Rattle.values_undef.proofs.Callers.{all_append}
use Rattle.il_syntax.specs.declared.program.Program.{Program}
use Rattle.outcome_nodes.specs.Nodes.{Node}
use Rattle.outcome_nodes.specs.Standing.{node_of}
use Rattle.equal_nodes.specs.Keys.{key_of}
use Rattle.outcome_search.specs.Runs.{nodes_of}
use Rattle.outcome_search.specs.Places.{ArePlaces, HasNodeAt}
use Rattle.outcome_search.proofs.Lists.{get_any, none_in, all_contained, all_weaker}

last_at : {A : Type 0} (xs : List A) (x d : A) → get_or (xs ++ x ∷ []) (length xs) d ≡ x
last_at [] x d = refl
last_at (y ∷ xs) x d = last_at xs x d

if_same : (k : ℕ) (xs : List ℕ) → cond (eqb k k) xs [] ≡ xs
if_same k xs = grind arith

pub if_ok_more : {A E : Type 0} {P Q : A → Type 0} (r : Result A E) → ((x : A) → P x → Q x) → IfOk r P → IfOk r Q
if_ok_more (Ok x) f h = f x h
if_ok_more (Err e) f h = tt

pub within_at : (runs more : List (List Entry)) (xs ys : List ℕ) → runs ≡ more → xs ≡ ys → AllByRecursion (λ i. i < length more) ys → AllByRecursion (λ i. i < length runs) xs
within_at runs more xs ys e f h = subst (λ (q : List (List Entry)). AllByRecursion (λ i. i < length q) xs) (sym e) (subst (AllByRecursion (λ i. i < length more)) (sym f) h)

module _ (p : Program) (steps : ℕ) (runs : List (List Entry)) where
  pub at_place : (places : List ℕ) (n : Node) (j : ℕ) → j < length places → get_or (nodes_of p steps runs) (get_or places j 0) n ≡ n → HasNodeAt p steps runs places n
  at_place places n j l e = (get_or places j 0, (j, l, get_any places j (get_or places j 0) 0 l), e)

  pub none_at : (places : List ℕ) (n : Node) (k : ℕ) → length places ≤ k → ((j : ℕ) → j < k → get_or (nodes_of p steps runs) (get_or places j 0) n ≡ n → ⊥) → HasNodeAt p steps runs places n → ⊥
  none_at places n k l h q = h q.1.0 (omega (arith, l, q.1.1)) (subst (λ (i : ℕ). get_or (nodes_of p steps runs) i n ≡ n) (sym (get_any places q.1.0 0 q.0 q.1.1 ∙ q.1.2)) q.2)

  module _ (places : ℕ → List ℕ) (h : ArePlaces p steps runs places) where
    pub found_there : (key : ℕ) (n : Node) → HasNodeAt p steps runs (places key) n → Contains (nodes_of p steps runs) n
    found_there key n q = let l : q.0 < length runs = all_contained (λ (i : ℕ). i < length runs) (places key) q.0 (h.within key) q.1 in (q.0, omega (arith, l, length-map runs (node_of p steps)), q.2)

    pub there_found : (key : ℕ) (n : Node) → key ≡ key_of n.told → Contains (nodes_of p steps runs) n → HasNodeAt p steps runs (places key) n
    there_found key n e c =
        let l : c.0 < length runs = omega (arith, c.1, length-map runs (node_of p steps)) in
        let ends : node_of p steps (get_or runs c.0 []) ≡ n = sym (get_or-map (node_of p steps) runs c.0 [] n l) ∙ c.2 in
        (c.0, subst (λ (k : ℕ). Contains (places k) c.0) (ap (λ (m : Node). key_of m.told) ends ∙ sym e) (h.listed c.0 [] l), c.2)

    pub found_exactly : (same : List (List Entry)) (xs : List ℕ) (key : ℕ) (n : Node) (b : Bool) → same ≡ runs → xs ≡ places key → key ≡ key_of n.told → IsTrue b ↔ HasNodeAt p steps same xs n → IsTrue b ↔ Contains (nodes_of p steps runs) n
    found_exactly same xs key n b e f q h = (
      λ t. found_there key n (subst (λ (r : List (List Entry)). HasNodeAt p steps r (places key) n) e (subst (λ (ys : List ℕ). HasNodeAt p steps same ys n) f (h.0 t))),
      λ c. h.1 (subst (λ (ys : List ℕ). HasNodeAt p steps same ys n) (sym f) (subst (λ (r : List (List Entry)). HasNodeAt p steps r (places key) n) (sym e) (there_found key n q c))),
    )

    pub not_found : (key : ℕ) (n : Node) → places key ≡ [] → key ≡ key_of n.told → Contains (nodes_of p steps runs) n → ⊥
    not_found key n none q c = let h = there_found key n q c in none_in h.0 (subst (λ (xs : List ℕ). Contains xs h.0) none h.1)

    pub places_more : (entries : List Entry) (key : ℕ) (after : ℕ → List ℕ) → key ≡ key_of (node_of p steps entries).told → ((k : ℕ) → after k ≡ places k ++ cond (eqb k key) (length runs ∷ []) []) → ArePlaces p steps (runs ++ entries ∷ []) after
    places_more entries key after e more = record {
      listed = λ i d l.
          ⊎_elim
          (λ (f : i ≡ length runs).
          let same : get_or (runs ++ entries ∷ []) i d ≡ entries = ap (λ (j : ℕ). get_or (runs ++ entries ∷ []) j d) f ∙ last_at runs entries d in
          let here : after key ≡ places key ++ length runs ∷ [] = more key ∙ ap (λ (q : List ℕ). places key ++ q) (if_same key (length runs ∷ [])) in
          subst (λ (k : ℕ). Contains (after k) i) (e ∙ ap (λ (x : List Entry). key_of (node_of p steps x).told) (sym same))
          (subst (λ (q : List ℕ). Contains q i) (sym here) (Contains-append_right (places key) (length runs ∷ []) i (0, omega arith, sym f))))
          (λ (f : i ≡ length runs → ⊥).
          let below : i < length runs = omega (arith, l, f, length-append runs (entries ∷ [])) in
          let same : get_or (runs ++ entries ∷ []) i d ≡ get_or runs i d = get_or_append_left runs (entries ∷ []) d i below in
          let k : ℕ = key_of (node_of p steps (get_or runs i d)).told in
          subst (λ (x : List Entry). Contains (after (key_of (node_of p steps x).told)) i) (sym same)
          (subst (λ (q : List ℕ). Contains q i) (sym (more k)) (Contains-append_left (places k) (cond (eqb k key) (length runs ∷ []) []) i (h.listed i d below))))
          (cases_eq i (length runs));
      within = λ k.
          let many : length (runs ++ entries ∷ []) ≡ length runs + 1 = length-append runs (entries ∷ []) in
          let few : AllByRecursion (λ i. i < length (runs ++ entries ∷ [])) (places k) = all_weaker (λ (i : ℕ). i < length runs) (λ (i : ℕ). i < length (runs ++ entries ∷ [])) (places k) (λ i l. omega (arith, l, many)) (h.within k) in
          let last : AllByRecursion (λ i. i < length (runs ++ entries ∷ [])) (cond (eqb k key) (length runs ∷ []) []) =
          cond_both (eqb k key) (length runs ∷ []) [] (λ (q : List ℕ). AllByRecursion (λ i. i < length (runs ++ entries ∷ [])) q) (λ _. (omega (arith, many), tt)) (λ _. tt) in
          subst (AllByRecursion (λ i. i < length (runs ++ entries ∷ []))) (sym (more k)) (all_append (λ (i : ℕ). i < length (runs ++ entries ∷ [])) (places k) (cond (eqb k key) (length runs ∷ []) []) few last);
    }
