-- What holds of journals that refine others, and of runs.
use Rattle.std.specs.Prelude.{◌≡◌, ◌↔◌, ℕ, true, ◌++◌, List, ◌⊎◌}
use Rattle.values_undef.specs.Journal.{Output, outputs_of, ending_in, last_fails}
use Rattle.values_undef.specs.declared.journal.Entry.{Entry}
use Rattle.il_syntax.specs.declared.program.Program.{Program}
use Rattle.view_machine.specs.State.{State}
use Rattle.view_machine.specs.Runs.{IsRunFrom}
use Rattle.refinement.specs.Refinement.{Refines, StopsAtFailure, EndsInFailure}

abbrev pub RefinesIsReflexive : Type 0
RefinesIsReflexive = (js : List Entry) → Refines js js

-- where nothing stands after a failure of the last
abbrev pub RefinesIsTransitive : Type 0
RefinesIsTransitive = (a b c : List Entry) → StopsAtFailure c → Refines a b → Refines b c → Refines a c

abbrev pub RunsStopAtFailure : Type 0
RunsStopAtFailure = (p : Program) (s : State) (js : List Entry) → IsRunFrom p s js → StopsAtFailure js

-- where the target ends in a failure, the source does
abbrev pub FailuresAreKept : Type 0
FailuresAreKept = (a b : List Entry) → StopsAtFailure b → Refines a b → EndsInFailure a → EndsInFailure b

-- a journal ends in a failure exactly where its last entry is one
abbrev pub FailingEnds : Type 0
FailingEnds = (js : List Entry) → EndsInFailure js ↔ (last_fails js ≡ true)

-- the same is printed, or a beginning of it and the source fails
abbrev pub OutputsAreKept : Type 0
OutputsAreKept = (a b : List Entry) → Refines a b → (outputs_of a ≡ outputs_of b) ⊎ (EndsInFailure b × ((more : List Output) × (outputs_of a ≡ outputs_of b ++ more)))

-- the ending is the same, or the source fails
abbrev pub EndingsAreKept : Type 0
EndingsAreKept = (a b : List Entry) (threads : ℕ) → StopsAtFailure b → Refines a b → (ending_in a threads ≡ ending_in b threads) ⊎ EndsInFailure b
