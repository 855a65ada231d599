-- A function of two programs, accepted.
use Rattle.std.specs.Prelude.{◌≡◌, ℕ, length, Some}
use Rattle.il_syntax.specs.declared.program.Function.{Function}
use Rattle.il_syntax.specs.declared.program.Program.{Program}
use Rattle.thread_core.specs.Programs.{function_at, IsProperFunction}
use Rattle.validator.specs.Accepted.{Accepted}

pub record PairedFunction (p q : Program) (k : ℕ) : Type 0 where
  pub source : Function
  pub target : Function
  pub source_there : function_at p k ≡ Some source
  pub target_there : function_at q k ≡ Some target
  pub source_proper : IsProperFunction p source
  pub target_proper : IsProperFunction q target
  pub accepted : Accepted source target

-- how many registers the source has: the target's further ones are new
abbrev pub old_registers : {p q : Program} {k : ℕ} → PairedFunction p q k → ℕ
old_registers fn = length fn.source.registers
