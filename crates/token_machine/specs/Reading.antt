-- How a reading function tells what it read.
use Rattle.std.specs.Prelude.{◌≡◌, Result, Ok, Err}
use Rattle.token_machine.specs.declared.fault.Fault.{Fault}
use Rattle.token_machine.specs.declared.fault.ReadError.{ReadError}
use Rattle.token_machine.specs.declared.fault.ReadError.TheVariants as errors

module _ {X Tree Rule : Type 0} where
  -- the answer from here on is the answer after what was read, or this fault
  abbrev pub Continues : Result X (ReadError Rule) → Result Tree (Fault Rule) → (X → Result Tree (Fault Rule)) → Type 0
  Continues (Ok x) here after = here ≡ after x
  Continues (Err errors.NoMemory) here after = Unit {0}
  Continues (Err (errors.Fault f)) here after = here ≡ Err f

module _ {Rule : Type 0} where
  -- a fact of the fault, unless memory ran out
  abbrev pub IfFault : ReadError Rule → (Fault Rule → Type 0) → Type 0
  IfFault errors.NoMemory p = Unit {0}
  IfFault (errors.Fault f) p = p f
