use Rattle.refinement.specs.Playings.{played, IsOpen}
use Rattle.refinement.proofs.playing.Playing.silent_steps.Given as goal

abbrev pub invariant-loop-made : goal.invariant-loop-made
invariant-loop-made g l = record {
  opened : IsOpen l.p l.news l.done l.entry l.rest l.made (played l.self.machine l.self.silent.items l.self.entries.items);
}
