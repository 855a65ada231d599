-- In a run a failing entry is the last.
use Rattle.std.proofs.Common.{[], ◌∷◌}
use Rattle.view_machine.specs.Runs.{after_entry}
use Rattle.view_machine.proofs.Callers.{failure_last}
use Rattle.refinement.specs.Laws.{RunsStopAtFailure}

pub runs_stop : RunsStopAtFailure
runs_stop p s [] h = tt
runs_stop p s (e ∷ js) h = (λ f. failure_last p s [] e js h f, runs_stop p (after_entry p s e) js h.1)
