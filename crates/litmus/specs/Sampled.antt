-- The run of a seed: its turns and its choices are drawn from the seed.
use Rattle.std.specs.Prelude.{ℕ, ◌≤◌, ◌%◌, List, length, map}
use Rattle.std.specs.List.{range_with_len}
use Rattle.values_undef.specs.declared.journal.Entry.{Entry}
use Rattle.il_syntax.specs.declared.program.Program.{Program}
use Rattle.il_syntax.specs.WellFormed.{IsWellFormed}
use Rattle.view_machine.specs.Runs.{IsJournalRun}
use Rattle.chooser.specs.Draws.{generator, word}
use Rattle.run_choices.specs.Complete.{IsComplete}
use Rattle.run_choices.specs.Drawn.{Drawn}
use Rattle.walker.specs.Turns.{InTurns}

-- the stream of the generator from which turns are drawn; the streams of the choices are the threads
abbrev pub order_stream : ℕ
order_stream = 2000

-- how many turns are drawn
abbrev pub drawn_turns : ℕ
drawn_turns = 256

-- the order of turns of a seed: turn k is that of the thread that word k leaves when it is divided by the number of threads
abbrev pub drawn_order : ℕ → ℕ → List ℕ
drawn_order seed threads = map (λ k. word (generator seed order_stream) k % threads) (range_with_len 0 drawn_turns)

-- a run of the program, complete for a budget of steps, in the turns of an order, with the choices that are drawn from the seed
pub record IsDrawnWalk (p : Program) (order : List ℕ) (seed steps : ℕ) (journal : List Entry) : Type 0 where
  pub run : IsJournalRun p journal
  pub complete : IsComplete p journal steps
  pub turns : InTurns journal order (length p.threads)
  pub drawn : Drawn p journal seed

-- the run of a seed is one in the turns that the seed draws
abbrev pub IsSampled : Program → ℕ → ℕ → List Entry → Type 0
IsSampled p seed steps journal = IsDrawnWalk p (drawn_order seed (length p.threads)) seed steps journal

-- what is asked of a program and of the budget
pub record CanBeSampled (p : Program) (steps : ℕ) : Type 0 where
  pub well_formed : IsWellFormed p
  pub some : 1 ≤ steps
  pub few : steps ≤ 100
