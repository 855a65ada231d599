-- What the definitions promise.
use Rattle.std.specs.Prelude.{◌≡◌, ◌⊎◌, ◌↔◌, ℤ, true, false, List, ◌++◌}
use Rattle.std.specs.List.{AllByRecursion, AllZip}
use Rattle.std.specs.declared.cmp.Ordering.TheVariants.{Equal}
use Rattle.std.specs.Cmp.{IsTotalOrder}
use Rattle.values_undef.specs.declared.journal.Ending.TheVariants.{Failed, Spent}
use Rattle.outcome_nodes.specs.Outcome.{FinalOutcome}
use Rattle.outcome_list.specs.Order.{outcome_cmp}
use Rattle.outcome_list.specs.List.{covers, found_outcome, is_missed}
use Rattle.outcome_list.specs.declared.found.Found.{Found}

-- any two outcomes are in one order
abbrev pub OutcomesAreOrdered : Type 0
OutcomesAreOrdered = IsTotalOrder outcome_cmp

-- and stand at one place only where they are equal
abbrev pub OutcomesHaveTheirPlaces : Type 0
OutcomesHaveTheirPlaces = (o q : FinalOutcome) → outcome_cmp o q ≡ Equal → o ≡ q

-- the one is a beginning of the other
abbrev pub IsBeginning : List ℤ → List ℤ → Type 0
IsBeginning begun whole = (rest : List ℤ) × (whole ≡ begun ++ rest)

-- an outcome covers itself, and where it has failed each in which each thread has begun with what it has printed; no other
abbrev pub CoversAsSaid : Type 0
CoversAsSaid = (q o : FinalOutcome) → (covers q o ≡ true) ↔ ((q ≡ o) ⊎ ((q.ending ≡ Failed) × AllZip IsBeginning q.printed o.printed))

-- an outcome of the target is missed exactly where it isn't spent and no outcome of the source covers it
abbrev pub MissedAsSaid : Type 0
MissedAsSaid = (source : List Found) (f : Found)
    → (is_missed source f ≡ true) ↔ ((f.outcome.ending ≡ Spent → ⊥) × AllByRecursion (λ g. covers (found_outcome g) (found_outcome f) ≡ false) source)
