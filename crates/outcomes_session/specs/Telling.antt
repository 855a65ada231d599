-- What comes of a search.
use Rattle.std.specs.Prelude.{ℕ, List}
use Rattle.il_syntax.specs.declared.program.Program.{Program}
use Rattle.litmus_text.specs.Expectation.{Expected}
use Rattle.outcome_search.specs.Runs.{HasMoreNodes}
use Rattle.outcomes_session.specs.Session.{IsToldOf}
use Rattle.outcomes_session.specs.declared.telling.Telling.{Telling}
use Rattle.outcomes_session.specs.declared.telling.Telling.TheVariants as telling

abbrev pub IsTelling : Program → List Expected → ℕ → ℕ → Telling → Type 0
IsTelling p expectations steps states telling.TooMany = HasMoreNodes p steps states
IsTelling p expectations steps states (telling.Told text met) = (HasMoreNodes p steps states → ⊥) × IsToldOf p expectations steps text met
