-- The tests of a shape are true exactly where the parts are equal.
use Rattle.std.proofs.Common.{◌≡◌, ◌≤◌, ◌<◌, ℕ, ℤ, Bool, true, false, ◌&&◌, ◌==◌, List, [], ◌∷◌, length, refl, sym, ap, ◌∙◌, arith}
use Rattle.std.specs.Prelude.{◌↔◌}
use Rattle.std.specs.List.{AllZip}
use Rattle.std.specs.Ordering.{int_eq}
use Rattle.std.specs.Str.{bytes_eq}
use Rattle.std.proofs.lemmas.Bool.{false≢true, eqb-true, eq-eqb, and_parts, and_from}
use Rattle.std.proofs.lemmas.Slice.Eq.{bytes_eq-Decides}
use Rattle.std.proofs.lemmas.Bool.Decides.{Decides-int_eq}
use Rattle.il_syntax.specs.declared.program.Function.{Function}
use Rattle.il_syntax.specs.declared.program.Location.{Location}
use Rattle.il_syntax.specs.declared.program.Start.{Start}
use Rattle.il_syntax.specs.declared.program.Program.{Program}
use Rattle.validator.specs.Faults.{begins}
use Rattle.validator.specs.Shape.{is_nil, SameSignature, SameShape, locations_equal, numbers_equal, threads_equal, signatures_equal, parts_equal}

locations_are : (xs ys : List Location) → (locations_equal xs ys ≡ true) → ys ≡ xs
locations_are [] [] e = refl
locations_are [] (y ∷ ys) e = absurd (false≢true e)
locations_are (x ∷ xs) [] e = absurd (false≢true e)
locations_are (x ∷ xs) (y ∷ ys) e =
    let p = and_parts (bytes_eq x.name y.name) _ e in
    let q = and_parts (int_eq x.value y.value) (locations_equal xs ys) p.1 in
    let n = sym ((bytes_eq-Decides x.name y.name).0 p.0) in
    let v = sym ((Decides-int_eq x.value y.value).0 q.0) in
    λ i. record { name = n i; value = v i } ∷ locations_are xs ys q.1 i

locations_self : (xs : List Location) → locations_equal xs xs ≡ true
locations_self [] = refl
locations_self (x ∷ xs) =
    and_from (bytes_eq x.name x.name) _ ((bytes_eq-Decides x.name x.name).1 refl) (and_from (int_eq x.value x.value) _ ((Decides-int_eq x.value x.value).1 refl) (locations_self xs))

numbers_are : (xs ys : List ℤ) → (numbers_equal xs ys ≡ true) → ys ≡ xs
numbers_are [] [] e = refl
numbers_are [] (y ∷ ys) e = absurd (false≢true e)
numbers_are (x ∷ xs) [] e = absurd (false≢true e)
numbers_are (x ∷ xs) (y ∷ ys) e =
    let p = and_parts (int_eq x y) (numbers_equal xs ys) e in
    λ i. sym ((Decides-int_eq x y).0 p.0) i ∷ numbers_are xs ys p.1 i

numbers_self : (xs : List ℤ) → numbers_equal xs xs ≡ true
numbers_self [] = refl
numbers_self (x ∷ xs) = and_from (int_eq x x) _ ((Decides-int_eq x x).1 refl) (numbers_self xs)

threads_are : (xs ys : List Start) → (threads_equal xs ys ≡ true) → ys ≡ xs
threads_are [] [] e = refl
threads_are [] (y ∷ ys) e = absurd (false≢true e)
threads_are (x ∷ xs) [] e = absurd (false≢true e)
threads_are (x ∷ xs) (y ∷ ys) e =
    let p = and_parts (x.function == y.function) _ e in
    let q = and_parts (numbers_equal x.args y.args) (threads_equal xs ys) p.1 in
    let n = sym (eqb-true x.function y.function p.0) in
    let v = numbers_are x.args y.args q.0 in
    λ i. record { function = n i; args = v i } ∷ threads_are xs ys q.1 i

threads_self : (xs : List Start) → threads_equal xs xs ≡ true
threads_self [] = refl
threads_self (x ∷ xs) =
    and_from (x.function == x.function) _ (eq-eqb x.function x.function refl) (and_from (numbers_equal x.args x.args) _ (numbers_self x.args) (threads_self xs))

signatures_are : (xs ys : List Function) → (signatures_equal xs ys ≡ true) → AllZip SameSignature xs ys
signatures_are [] [] e = tt
signatures_are [] (y ∷ ys) e = absurd (false≢true e)
signatures_are (x ∷ xs) [] e = absurd (false≢true e)
signatures_are (x ∷ xs) (y ∷ ys) e =
    let p = and_parts (bytes_eq x.name y.name) _ e in
    let q = and_parts (x.params == y.params) (signatures_equal xs ys) p.1 in
    (record { name = sym ((bytes_eq-Decides x.name y.name).0 p.0); params = sym (eqb-true x.params y.params q.0) }, signatures_are xs ys q.1)

signatures_from : (xs ys : List Function) → AllZip SameSignature xs ys → signatures_equal xs ys ≡ true
signatures_from [] [] h = refl
signatures_from [] (y ∷ ys) h = absurd h
signatures_from (x ∷ xs) [] h = absurd h
signatures_from (x ∷ xs) (y ∷ ys) h =
    and_from (bytes_eq x.name y.name) _ ((bytes_eq-Decides x.name y.name).1 (sym h.0.name)) (and_from (x.params == y.params) _ (eq-eqb x.params y.params (sym h.0.params)) (signatures_from xs ys h.1))

pub shape_is : (p q : Program) → (parts_equal p q ≡ true) ↔ SameShape p q
shape_is p q = (
  λ e.
      let a = and_parts (locations_equal p.na q.na) _ e in
      let b = and_parts (locations_equal p.atomic q.atomic) _ a.1 in
      let c = and_parts (threads_equal p.threads q.threads) (signatures_equal p.functions q.functions) b.1 in
      record { na = locations_are p.na q.na a.0; atomic = locations_are p.atomic q.atomic b.0; threads = threads_are p.threads q.threads c.0; functions = signatures_are p.functions q.functions c.1 },
  λ s.
      and_from (locations_equal p.na q.na) _ (ap (locations_equal p.na) s.na ∙ locations_self p.na)
      (and_from (locations_equal p.atomic q.atomic) _ (ap (locations_equal p.atomic) s.atomic ∙ locations_self p.atomic)
      (and_from (threads_equal p.threads q.threads) _ (ap (threads_equal p.threads) s.threads ∙ threads_self p.threads) (signatures_from p.functions q.functions s.functions))),
)

-- lists of which one alone is empty, and what an empty list is equal to
pub locations_none : (xs ys : List Location) → length xs < 1 → is_nil ys ≡ locations_equal xs ys
locations_none [] [] h = refl
locations_none [] (y ∷ ys) h = refl
locations_none (x ∷ xs) ys h = absurd (omega (arith, h))

pub locations_left : (xs ys : List Location) → 1 ≤ length xs → length ys < 1 → false ≡ locations_equal xs ys
locations_left [] ys h k = absurd (omega (arith, h))
locations_left (x ∷ xs) [] h k = refl
locations_left (x ∷ xs) (y ∷ ys) h k = absurd (omega (arith, k))

pub numbers_none : (xs ys : List ℤ) → length xs < 1 → is_nil ys ≡ numbers_equal xs ys
numbers_none [] [] h = refl
numbers_none [] (y ∷ ys) h = refl
numbers_none (x ∷ xs) ys h = absurd (omega (arith, h))

pub numbers_left : (xs ys : List ℤ) → 1 ≤ length xs → length ys < 1 → false ≡ numbers_equal xs ys
numbers_left [] ys h k = absurd (omega (arith, h))
numbers_left (x ∷ xs) [] h k = refl
numbers_left (x ∷ xs) (y ∷ ys) h k = absurd (omega (arith, k))

pub threads_none : (xs ys : List Start) → length xs < 1 → is_nil ys ≡ threads_equal xs ys
threads_none [] [] h = refl
threads_none [] (y ∷ ys) h = refl
threads_none (x ∷ xs) ys h = absurd (omega (arith, h))

pub threads_left : (xs ys : List Start) → 1 ≤ length xs → length ys < 1 → false ≡ threads_equal xs ys
threads_left [] ys h k = absurd (omega (arith, h))
threads_left (x ∷ xs) [] h k = refl
threads_left (x ∷ xs) (y ∷ ys) h k = absurd (omega (arith, k))

pub signatures_none : (xs ys : List Function) → length xs < 1 → is_nil ys ≡ signatures_equal xs ys
signatures_none [] [] h = refl
signatures_none [] (y ∷ ys) h = refl
signatures_none (x ∷ xs) ys h = absurd (omega (arith, h))

pub signatures_left : (xs ys : List Function) → 1 ≤ length xs → length ys < 1 → false ≡ signatures_equal xs ys
signatures_left [] ys h k = absurd (omega (arith, h))
signatures_left (x ∷ xs) [] h k = refl
signatures_left (x ∷ xs) (y ∷ ys) h k = absurd (omega (arith, k))

pub begins_none : (xs ys : List (List ℕ)) → 1 ≤ length xs → length ys < 1 → false ≡ begins xs ys
begins_none [] ys h k = absurd (omega (arith, h))
begins_none (x ∷ xs) [] h k = refl
begins_none (x ∷ xs) (y ∷ ys) h k = absurd (omega (arith, k))
