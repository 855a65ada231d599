-- What holds of each element of a list.
use Rattle.std.proofs.Common.{◌≡◌, ℕ, zero, suc, ◌<◌, Bool, true, List, [], ◌∷◌, ◌++◌, length, map, get_or, set, replicate, slice_get, Some, subst, arith}
use Rattle.std.proofs.lemmas.Bool.{and_parts}
use Rattle.std.specs.List.{list_all, AllByRecursion}

-- of the one at a place in the list, or else of the default
pub all_get : {X : Type 0} (P : X → Type 0) (xs : List X) (i : ℕ) (d : X) → i < length xs → AllByRecursion P xs → P (get_or xs i d)
all_get P [] i d l h = absurd (omega arith)
all_get P (y ∷ ys) zero d l h = h.0
all_get P (y ∷ ys) (suc i) d l h = all_get P ys i d (omega arith) h.1

pub all_or : {X : Type 0} (P : X → Type 0) (xs : List X) (i : ℕ) (d : X) → P d → AllByRecursion P xs → P (get_or xs i d)
all_or P [] i d q h = q
all_or P (x ∷ xs) zero d q h = h.0
all_or P (x ∷ xs) (suc i) d q h = all_or P xs i d q h.1

pub all_got : {X : Type 0} (P : X → Type 0) (xs : List X) (i : ℕ) (x : X) → AllByRecursion P xs → slice_get xs i ≡ Some x → P x
all_got P [] i x all e = cc
all_got P (y ∷ ys) zero x all e = let q : y ≡ x = cc in subst P q all.0
all_got P (y ∷ ys) (suc i) x all e = all_got P ys i x all.1 e

-- after one is put in the place of another, behind the last, or taken from there
pub all_set : {X : Type 0} (P : X → Type 0) (xs : List X) (i : ℕ) (x : X) → P x → AllByRecursion P xs → AllByRecursion P (set xs i x)
all_set P [] i x q h = tt
all_set P (y ∷ ys) zero x q h = (q, h.1)
all_set P (y ∷ ys) (suc i) x q h = (h.0, all_set P ys i x q h.1)

pub all_push : {X : Type 0} (P : X → Type 0) (xs : List X) (x : X) → AllByRecursion P xs → P x → AllByRecursion P (xs ++ x ∷ [])
all_push P [] x h q = (q, tt)
all_push P (y ∷ ys) x h q = (h.0, all_push P ys x h.1 q)

pub all_pop : {X : Type 0} (P : X → Type 0) (xs : List X) (x : X) → AllByRecursion P (xs ++ x ∷ []) → AllByRecursion P xs × P x
all_pop P [] x h = (tt, h.0)
all_pop P (y ∷ ys) x h = let r = all_pop P ys x h.1 in ((h.0, r.0), r.1)

pub all_append : {X : Type 0} (P : X → Type 0) (xs ys : List X) → AllByRecursion P xs → AllByRecursion P ys → AllByRecursion P (xs ++ ys)
all_append P [] ys h k = k
all_append P (x ∷ xs) ys h k = (h.0, all_append P xs ys h.1 k)

-- of the images of a list's elements, of copies of one, and of elements that pass a test
pub all_map : {X Y : Type 0} (P : X → Type 0) (Q : Y → Type 0) (f : X → Y) (xs : List X) → ((x : X) → P x → Q (f x)) → AllByRecursion P xs → AllByRecursion Q (map f xs)
all_map P Q f [] q h = tt
all_map P Q f (x ∷ xs) q h = (q x h.0, all_map P Q f xs q h.1)

pub all_images : {X Y : Type 0} (P : Y → Type 0) (f : X → Y) (xs : List X) → ((x : X) → P (f x)) → AllByRecursion P (map f xs)
all_images P f [] q = tt
all_images P f (x ∷ xs) q = (q x, all_images P f xs q)

pub all_replicate : {X : Type 0} (P : X → Type 0) (n : ℕ) (x : X) → P x → AllByRecursion P (replicate n x)
all_replicate P zero x q = tt
all_replicate P (suc n) x q = (q, all_replicate P n x q)

pub all_tested : {X : Type 0} (test : X → Bool) (P : X → Type 0) (xs : List X) → ((x : X) → test x ≡ true → P x) → list_all test xs ≡ true → AllByRecursion P xs
all_tested test P [] f h = tt
all_tested test P (x ∷ xs) f h =
    let q = and_parts (test x) (list_all test xs) h in (f x q.0, all_tested test P xs f q.1)
