-- Lists that grow, and what they contain.
use Rattle.std.proofs.Common.{◌≡◌, ◌⊎◌, inl, inr, ⊎_elim, ℕ, zero, suc, ◌+◌, ◌<◌, ◌≤◌, List, [], ◌∷◌, ◌++◌, length, map, get_or, refl, sym, ap, ◌∙◌, subst, arith}
use Rattle.std.proofs.lemmas.List.{append-nil, append_assoc, length-append, length-map, map-append, get_or-map, get_or_append_left}
use Rattle.std.proofs.lemmas.List.Elements.{Contains-append_left, Contains-append_right, Contains-append_cases}
use Rattle.std.specs.List.{All, AllByRecursion, Contains}
use Rattle.values_undef.proofs.Callers.{all_get}
use Rattle.outcome_search.specs.Runs.{Extends}

module _ {A : Type 0} where
  pub extends_same : (xs : List A) → Extends xs xs
  extends_same xs = ([], sym (append-nil xs))

  pub extends_more : (xs ys zs : List A) → Extends xs ys → Extends ys zs → Extends xs zs
  extends_more xs ys zs a b = (a.0 ++ b.0, b.1 ∙ ap (λ (q : List A). q ++ b.0) a.1 ∙ append_assoc xs a.0 b.0)

  pub contains_more : (xs ys : List A) (x : A) → Extends xs ys → Contains xs x → Contains ys x
  contains_more xs ys x a c = subst (λ (q : List A). Contains q x) (sym a.1) (Contains-append_left xs a.0 x c)

  pub longer : (xs ys : List A) → Extends xs ys → length xs ≤ length ys
  longer xs ys a = omega (arith, ap {B = ℕ} length a.1, length-append xs a.0)

  -- the elements at the places of the shorter list are its own
  pub own_place : (xs ys : List A) (k : ℕ) (x : A) → Extends xs ys → k < length xs → get_or ys k x ≡ get_or xs k x
  own_place xs ys k x a l = ap (λ (q : List A). get_or q k x) a.1 ∙ get_or_append_left xs a.0 x k l

  pub get_any : (xs : List A) (k : ℕ) (x y : A) → k < length xs → get_or xs k x ≡ get_or xs k y
  get_any [] k x y l = absurd (omega arith)
  get_any (z ∷ xs) zero x y l = refl
  get_any (z ∷ xs) (suc k) x y l = get_any xs k x y (omega arith)

  pub contains_last : (xs : List A) (x : A) → Contains (xs ++ x ∷ []) x
  contains_last xs x = Contains-append_right xs (x ∷ []) x (0, omega arith, refl)

  pub none_in : (x : A) → Contains [] x → ⊥
  none_in x c = omega (arith, c.1)

  -- an element of a list is its last one, or one of those before it
  pub last_cases : (rest : List A) (x y : A) → Contains (rest ++ x ∷ []) y → Contains rest y ⊎ (y ≡ x)
  last_cases rest x y c = ⊎_elim (λ (q : Contains rest y). inl q) (λ (q : Contains (x ∷ []) y). inr (one y q)) (Contains-append_cases rest (x ∷ []) y c)
    where
      one : (y : A) → Contains (x ∷ []) y → y ≡ x
      one y (zero, l, e) = sym e
      one y (suc k, l, e) = absurd (omega arith)

  pub contains_behind : (x y : A) (xs : List A) → Contains xs y → Contains (x ∷ xs) y
  contains_behind x y xs c = (suc c.0, omega (arith, c.1), c.2)

  pub all_contained : (P : A → Type 0) (xs : List A) (x : A) → AllByRecursion P xs → Contains xs x → P x
  all_contained P xs x h c = subst P c.2 (all_get P xs c.0 x c.1 h)

  pub all_places : (P : A → Type 0) (xs : List A) → AllByRecursion P xs → All P xs
  all_places P xs h = λ k d l. all_get P xs k d l h

  pub all_both : (P Q R : A → Type 0) (xs : List A) → ((x : A) → P x → Q x → R x) → AllByRecursion P xs → AllByRecursion Q xs → AllByRecursion R xs
  all_both P Q R [] f h k = tt
  all_both P Q R (x ∷ xs) f h k = (f x h.0 k.0, all_both P Q R xs f h.1 k.1)

  pub all_weaker : (P Q : A → Type 0) (xs : List A) → ((x : A) → P x → Q x) → AllByRecursion P xs → AllByRecursion Q xs
  all_weaker P Q [] f h = tt
  all_weaker P Q (x ∷ xs) f h = (f x h.0, all_weaker P Q xs f h.1)

module _ {A B : Type 0} (f : A → B) where
  pub extends_map : (xs ys : List A) → Extends xs ys → Extends (map f xs) (map f ys)
  extends_map xs ys a = (map f a.0, ap (map f) a.1 ∙ map-append f xs a.0)

  pub contains_map : (xs : List A) (x : A) → Contains xs x → Contains (map f xs) (f x)
  contains_map xs x c = (c.0, omega (arith, c.1, length-map xs f), get_or-map f xs c.0 x (f x) c.1 ∙ ap f c.2)

  -- an element of the images is that of an element
  pub mapped_from : (xs : List A) (y : B) → Contains (map f xs) y → (x : A) × Contains xs x × (f x ≡ y)
  mapped_from [] y c = absurd (none_in y c)
  mapped_from (x ∷ xs) y (zero, l, e) = (x, (0, omega arith, refl), e)
  mapped_from (x ∷ xs) y (suc k, l, e) = let r = mapped_from xs y (k, omega (arith, l), e) in (r.0, contains_behind x r.0 xs r.1, r.2)
