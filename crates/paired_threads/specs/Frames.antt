-- A call of a target beside the same call of its source.
use Rattle.std.specs.Prelude.{◌≡◌, ℕ, List, length}
use Rattle.il_syntax.specs.declared.program.Program.{Program}
use Rattle.il_paths.specs.Code.{Visit, Code, placed, AllCode}
use Rattle.il_paths.specs.Paths.{RunsTo}
use Rattle.thread_core.specs.Programs.{IsProperHead}
use Rattle.thread_core.specs.Frames.{Frame}
use Rattle.validator.specs.Beside.{Beside}
use Rattle.paired_threads.specs.Values.{RegistersBelow}
use Rattle.paired_threads.specs.Functions.{PairedFunction, old_registers}

-- `path` is what was run so far, in the source with the inserted loads put in.
pub record FramesPaired {p q : Program} {k : ℕ} (fn : PairedFunction p q k) (path : List Visit) (t s : Frame) : Type 0 where
  pub target_function : t.function ≡ k
  pub source_function : s.function ≡ k
  pub target_whole : length t.registers ≡ 64
  pub source_whole : length s.registers ≡ 64
  pub registers : RegistersBelow (old_registers fn) t.registers s.registers
  pub merged : Code
  pub run : RunsTo (placed 0 fn.accepted.merged) path merged
  pub beside : Beside (old_registers fn) fn.accepted.role s.continuation t.continuation merged
  pub source_proper : AllCode (IsProperHead p (old_registers fn)) s.continuation
  pub target_proper : AllCode (IsProperHead q 64) t.continuation
