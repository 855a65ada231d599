-- The order of outcomes: by their ending, then by what is printed, thread by thread, then by their values.
use Rattle.std.specs.Prelude.{◌≡◌, ℕ, ℤ, pos, List, [], ◌∷◌}
use Rattle.std.specs.List.{AllByRecursion}
use Rattle.std.specs.declared.cmp.Ordering.{Ordering}
use Rattle.std.specs.declared.cmp.Ordering.TheVariants.{Less}
use Rattle.std.specs.Ordering.{ordering_then, nat_cmp, int_cmp}
use Rattle.std.specs.Cmp.Lexicographic.{slice_cmp}
use Rattle.values_undef.specs.declared.value.Val.{Val}
use Rattle.values_undef.specs.declared.value.Val.TheVariants.{Def, Undef}
use Rattle.values_undef.specs.declared.journal.Ending.{Ending}
use Rattle.values_undef.specs.declared.journal.Ending.TheVariants.{Done, Failed, Spent}
use Rattle.outcome_nodes.specs.Outcome.{FinalOutcome}

-- the place of an ending among the three
abbrev pub place_of_ending : Ending → ℕ
place_of_ending Done = 0
place_of_ending Failed = 1
place_of_ending Spent = 2

-- the numbers come first, by size, and then the value that is no number
abbrev pub class_of : Val → ℕ
class_of (Def n) = 0
class_of Undef = 1

abbrev pub number_told : Val → ℤ
number_told (Def n) = n
number_told Undef = pos 0

abbrev pub value_cmp : Val → Val → Ordering
value_cmp v w = ordering_then (nat_cmp (class_of v) (class_of w)) (int_cmp (number_told v) (number_told w))

-- lists are in the order of words in a dictionary
abbrev pub outcome_cmp : FinalOutcome → FinalOutcome → Ordering
outcome_cmp o q =
    ordering_then (nat_cmp (place_of_ending o.ending) (place_of_ending q.ending))
    (ordering_then (slice_cmp (slice_cmp int_cmp) o.printed q.printed) (slice_cmp value_cmp o.values q.values))

-- each comes before those behind it, so none stands there twice
abbrev pub AreOutcomesRising : List FinalOutcome → Type 0
AreOutcomesRising [] = Unit {0}
AreOutcomesRising (o ∷ os) = AllByRecursion (λ q. outcome_cmp o q ≡ Less) os × AreOutcomesRising os
