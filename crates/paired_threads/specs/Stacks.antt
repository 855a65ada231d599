-- Threads of a target beside those of its source: all their calls. (Used by the simulation of whole
-- programs; a function alone has one call.)
use Rattle.std.specs.Prelude.{◌≡◌, ◌⊎◌, ℕ, List, [], ◌∷◌, ◌++◌, Some}
use Rattle.std.specs.List.{AllZip}
use Rattle.il_syntax.specs.declared.statement.Atom.{Atom}
use Rattle.il_syntax.specs.declared.program.Function.{Function}
use Rattle.il_syntax.specs.declared.program.Program.{Program}
use Rattle.il_paths.specs.Code.{Visit, first_head}
use Rattle.thread_core.specs.Programs.{function_at}
use Rattle.thread_core.specs.Frames.{Frame, Stack, evaluated, IsCall}
use Rattle.flow_facts.specs.declared.level.Level.TheVariants.{Nothing}
use Rattle.flow_facts.specs.Levels.{level_on}
use Rattle.validator.specs.Roles.{pends, pending_step}
use Rattle.paired_threads.specs.Functions.{PairedFunction}
use Rattle.paired_threads.specs.Frames.{FramesPaired}

-- a call of both, with the path that was run in it
pub record CallPaired (p q : Program) (t s : Frame) : Type 0 where
  pub number : ℕ
  pub function : PairedFunction p q number
  pub path : List Visit
  pub frames : FramesPaired function path t s

-- callers wait at their calls: so nothing is owed and nothing is pending there
pub record CallerPaired (p q : Program) (t s : Frame) : Type 0 where
  pub call : CallPaired p q t s
  pub waits : IsCall (first_head t.continuation)

abbrev pub CallersPaired : Program → Program → List Frame → List Frame → Type 0
CallersPaired p q ts ss = AllZip (CallerPaired p q) ts ss

pub record StacksPaired (p q : Program) (t s : Stack) : Type 0 where
  pub top : CallPaired p q t.top s.top
  pub callers : CallersPaired p q t.callers s.callers

-- ---- a step of a thread

-- a thread goes on silently, in its top call, by a further call or by a return: what was pending still is, and a
-- pair is at nothing, or at its level with its value
pub record StacksGoOn {p q : Program} {t s : Stack} (f : StacksPaired p q t s) (t' s' : Stack) : Type 0 where
  pub after : StacksPaired p q t' s'
  pub pending : (x : ℕ) → pends after.top.function.accepted.role x after.top.path ≡ pends f.top.function.accepted.role x f.top.path
  pub levels : (x : ℕ) (a : Atom) → (level_on x a after.top.path ≡ Nothing) ⊎ ((level_on x a after.top.path ≡ level_on x a f.top.path) × (evaluated t'.top.registers a ≡ evaluated t.top.registers a))

-- a thread makes the statement of the visit v, with an access on one side or on both
pub record StacksStep {p q : Program} {t s : Stack} (f : StacksPaired p q t s) (v : Visit) (t' s' : Stack) : Type 0 where
  pub after : StacksPaired p q t' s'
  pub path : after.top.path ≡ f.top.path ++ v ∷ []
  pub pending : (x : ℕ) → pends after.top.function.accepted.role x after.top.path ≡ pending_step f.top.function.accepted.role x v (pends f.top.function.accepted.role x f.top.path)

-- each function of the source has its accepted target
abbrev pub AllPaired : Program → Program → Type 0
AllPaired p q = (k : ℕ) (f : Function) → function_at p k ≡ Some f → PairedFunction p q k
