-- What it is for one journal to refine another.
use Rattle.std.specs.Prelude.{◌≡◌, ℕ, ◌≤◌, true, List, [], ◌∷◌, ◌++◌, ◌⊎◌, if◌then◌else◌}
use Rattle.std.specs.List.{AllZip}
use Rattle.values_undef.specs.Access.{is_failure}
use Rattle.values_undef.specs.Journal.{used_steps}
use Rattle.values_undef.specs.declared.access.Event.{Event}
use Rattle.values_undef.specs.declared.journal.Entry.{Entry}
use Rattle.values_undef.specs.Matching.{IsEventBelow, is_traced}

-- an entry without its silent steps
pub record Traced : Type 0 where
  pub thread : ℕ
  pub event : Event

-- the entries that are no access to a non-atomic location
abbrev pub trace : List Entry → List Traced
trace [] = []
trace (e ∷ js) = if is_traced e.event then record { thread = e.thread; event = e.event } ∷ trace js else trace js

pub record IsTracedBelow (a b : Traced) : Type 0 where
  pub thread : a.thread ≡ b.thread
  pub event : IsEventBelow a.event b.event

-- the second matches a beginning of the first
abbrev pub BeginsBelow : List Traced → List Traced → Type 0
BeginsBelow ts [] = Unit {0}
BeginsBelow [] (s ∷ ss) = ⊥
BeginsBelow (t ∷ ts) (s ∷ ss) = IsTracedBelow t s × BeginsBelow ts ss

-- the journal ends in a failure
pub record EndsInFailure (js : List Entry) : Type 0 where
  pub before : List Entry
  pub last : Entry
  pub split : js ≡ before ++ last ∷ []
  pub fails : is_failure last.event ≡ true

-- nothing stands after a failure
abbrev pub StopsAtFailure : List Entry → Type 0
StopsAtFailure [] = Unit {0}
StopsAtFailure (e ∷ js) = (is_failure e.event ≡ true → js ≡ []) × StopsAtFailure js

-- the source fails, and what came before matches a beginning of the target's trace
pub record FailsSooner (target source : List Entry) : Type 0 where
  pub end : EndsInFailure source
  pub matches : BeginsBelow (trace target) (trace end.before)

pub record Refines (target source : List Entry) : Type 0 where
  pub cases : AllZip IsTracedBelow (trace target) (trace source) ⊎ FailsSooner target source
  pub steps : (i : ℕ) → used_steps source i ≤ used_steps target i
