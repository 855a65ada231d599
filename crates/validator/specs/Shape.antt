-- Programs of one shape: locations, threads and the functions' number, names and parameter counts are equal.
use Rattle.std.specs.Prelude.{◌≡◌, ℤ, Bool, true, false, ◌&&◌, ◌==◌, List, [], ◌∷◌}
use Rattle.std.specs.List.{AllZip}
use Rattle.std.specs.Ordering.{int_eq}
use Rattle.std.specs.Str.{bytes_eq}
use Rattle.il_syntax.specs.declared.program.Function.{Function}
use Rattle.il_syntax.specs.declared.program.Location.{Location}
use Rattle.il_syntax.specs.declared.program.Start.{Start}
use Rattle.il_syntax.specs.declared.program.Program.{Program}

pub record SameSignature (f g : Function) : Type 0 where
  pub name : g.name ≡ f.name
  pub params : g.params ≡ f.params

pub record SameShape (p q : Program) : Type 0 where
  pub na : q.na ≡ p.na
  pub atomic : q.atomic ≡ p.atomic
  pub threads : q.threads ≡ p.threads
  pub functions : AllZip SameSignature p.functions q.functions

-- The same as tests: for the contracts of the code.

abbrev pub is_nil : {A : Type 0} → List A → Bool
is_nil [] = true
is_nil (a ∷ more) = false

abbrev pub locations_equal : List Location → List Location → Bool
locations_equal [] [] = true
locations_equal [] (b ∷ bs) = false
locations_equal (a ∷ more) [] = false
locations_equal (a ∷ more) (b ∷ rest) = bytes_eq a.name b.name && (int_eq a.value b.value && locations_equal more rest)

abbrev pub numbers_equal : List ℤ → List ℤ → Bool
numbers_equal [] [] = true
numbers_equal [] (b ∷ bs) = false
numbers_equal (a ∷ more) [] = false
numbers_equal (a ∷ more) (b ∷ rest) = int_eq a b && numbers_equal more rest

abbrev pub threads_equal : List Start → List Start → Bool
threads_equal [] [] = true
threads_equal [] (b ∷ bs) = false
threads_equal (a ∷ more) [] = false
threads_equal (a ∷ more) (b ∷ rest) = (a.function == b.function) && (numbers_equal a.args b.args && threads_equal more rest)

abbrev pub signatures_equal : List Function → List Function → Bool
signatures_equal [] [] = true
signatures_equal [] (g ∷ gs) = false
signatures_equal (f ∷ more) [] = false
signatures_equal (f ∷ more) (g ∷ rest) = bytes_eq f.name g.name && ((f.params == g.params) && signatures_equal more rest)

abbrev pub parts_equal : Program → Program → Bool
parts_equal p q =
    locations_equal p.na q.na && (locations_equal p.atomic q.atomic && (threads_equal p.threads q.threads && signatures_equal p.functions q.functions))
