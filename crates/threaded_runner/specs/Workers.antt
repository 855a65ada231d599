-- Workers of all threads, as a list that was filled from the last pass to the first.
use Rattle.std.specs.Prelude.{◌≡◌, ℕ, ◌+◌, ◌-◌, List, [], ◌∷◌}
use Rattle.il_syntax.specs.declared.program.Program.{Program}
use Rattle.thread_core.specs.Steps.{stack_in, ArePositions}
use Rattle.shared_memory.specs.Passes.{SharedValue, IsPassOf, own_calls}
use Rattle.threaded_runner.specs.declared.worker.Worker.{Worker}
use Rattle.threaded_runner.specs.Worked.{Worked}
use Rattle.threaded_runner.specs.Underway.{IsUnderway}

-- the worker stands at the beginning of its thread, with a pass of the memory and the whole budget
pub record IsReady {M : Type 0} (p : Program) (memory : SharedValue) (seed steps : ℕ) (w : Worker M) : Type 0 where
  pub pass : IsPassOf memory w.pass
  pub at : ArePositions p w.local
  pub underway : IsUnderway p w.pass.thread w.pass.seen (stack_in p w.local) w.draw seed steps steps

-- the worker has worked, with the same pass
pub record HasWorked {M : Type 0} (p : Program) (memory : SharedValue) (seed steps : ℕ) (old new : Worker M) : Type 0 where
  pub pass : IsPassOf memory new.pass
  pub thread : new.pass.thread ≡ old.pass.thread
  pub worked : Worked p old.pass.thread new.pass.seen (own_calls new.pass) seed steps

-- each of two lists, element by element
abbrev pub EachOf : {X : Type 0} → (X → X → Type 0) → List X → List X → Type 0
EachOf P [] [] = Unit {0}
EachOf P [] (y ∷ ys) = ⊥
EachOf P (x ∷ xs) [] = ⊥
EachOf P (x ∷ xs) (y ∷ ys) = P x y × EachOf P xs ys

-- the workers are those of the threads below n, the last one first
abbrev pub IsDescending : {M : Type 0} → ℕ → List (Worker M) → Type 0
IsDescending n [] = Unit {0}
IsDescending n (w ∷ ws) = (w.pass.thread + 1 ≡ n) × IsDescending (n - 1) ws
