-- What a command means. Each command has one value of this record, in the file of its name.
use Rattle.std.specs.Prelude.{ℕ, Bool, List, Option}
use Rattle.tool.specs.declared.status.Status.{Status}

pub record CommandMeaning : Type 1 where
  pub waits : Bool  -- whether it may wait for something
  pub reports : Bool  -- whether it runs the program of its input, and writes the report of that run
  pub limit : Option ℕ  -- the most bytes that its input may have; none where it reads nothing
  pub condition : Type 0  -- what the caller sees to
  pub output : List ℕ → List ℕ → Status → Type 0  -- what is written for a whole input, and with which status
  pub accepted : List ℕ → Type 0  -- the inputs for which it does its work
  pub refused : List ℕ → Type 0  -- the inputs that it refuses
  pub works : Status → Type 0  -- the statuses of its work, want of memory among them
