-- What `seq_pair` answers: exactly the trace of the events, or exactly the first that isn't lawful.
use Rattle.std.specs.Prelude.{◌≡◌, ℕ, List, take}
use Rattle.il_syntax.specs.declared.program.Program.{Program}
use Rattle.seq_pair.specs.declared.event.EnvEvent.{EnvEvent}
use Rattle.seq_pair.specs.declared.trace.PairTrace.{PairTrace}
use Rattle.seq_pair.specs.declared.trace.PairFault.{PairFault}
use Rattle.seq_pair.specs.declared.trace.PairFault.TheVariants as fault
use Rattle.seq_pair.specs.Pair.{Pair, Came, Unlawful, pair_run, pair_end}
use Rattle.seq_pair.specs.Laws.{StaysRelated}

-- all events are lawful, and this is the trace of the pair that they lead to, which stays related
pub record IsTraceOf (p q : Program) (f : ℕ) (events : List EnvEvent) (trace : PairTrace) : Type 0 where
  pub pair : Pair
  pub run : pair_run p q f events ≡ Came pair
  pub labels : trace.labels ≡ pair.labels
  pub end : trace.end ≡ pair_end pair.stage
  pub related : StaysRelated pair

-- this event is the first that isn't lawful, and the pair that those before it lead to stays related
pub record IsUnlawfulAt (p q : Program) (f : ℕ) (events : List EnvEvent) (at : ℕ) : Type 0 where
  pub run : pair_run p q f events ≡ Unlawful at
  pub pair : Pair
  pub before : pair_run p q f (take at events) ≡ Came pair
  pub related : StaysRelated pair

abbrev pub IsFaultOf : (p q : Program) → ℕ → List EnvEvent → PairFault → Type 0
IsFaultOf p q f events (fault.Event at) = IsUnlawfulAt p q f events at
IsFaultOf p q f events fault.NoMemory = Unit {0}
