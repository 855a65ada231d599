-- What is known of each command: its outputs go with statuses of outputs, an input that it accepts is answered by its
-- work, and one that it refuses by a
-- refusal; and where it writes reports, they tell runs.
use Rattle.std.proofs.Common.{◌≡◌, ◌⊎◌, ℕ, true, List}
use Rattle.tool.specs.declared.status.Status.{Status}
use Rattle.tool.specs.declared.status.Status.TheVariants as status
use Rattle.tool.specs.Meaning.{CommandMeaning}
use Rattle.tool.specs.Refusals.{IsTextRefusal}
use Rattle.tool.specs.Headline.{TellsRun}
use Rattle.tool.specs.Outputs.{IsRefusalStatus}

-- a status that goes with an output
abbrev pub IsOutputStatus : Status → Type 0
IsOutputStatus status.Done = Unit {0}
IsOutputStatus status.NoMemory = ⊥
IsOutputStatus status.Words = ⊥
IsOutputStatus status.Read = ⊥
IsOutputStatus status.Write = ⊥
IsOutputStatus status.Input = Unit {0}
IsOutputStatus status.Failed = Unit {0}
IsOutputStatus status.Spent = Unit {0}
IsOutputStatus status.No = Unit {0}

pub record CommandFacts (m : CommandMeaning) : Type 0 where
  pub outputs : (bytes out : List ℕ) (s : Status) → m.output bytes out s → IsOutputStatus s
  pub works : (bytes out : List ℕ) (s : Status) → m.output bytes out s → m.accepted bytes → m.works s
  pub refuses : (bytes out : List ℕ) (s : Status) → m.output bytes out s → m.refused bytes → IsRefusalStatus s
  pub no_memory : m.works status.NoMemory
  pub tells : (bytes out : List ℕ) (s : Status) → m.reports ≡ true → m.condition → m.output bytes out s → TellsRun bytes out s ⊎ IsTextRefusal bytes out s
