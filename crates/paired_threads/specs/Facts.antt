-- What the target may take an atom for, along the path that was run.
--
-- `read x` is what a load of x would give the source now, and `alone x` says that nobody else can
-- change that but by an acquire of this thread's after a release of its own. Both are of the memory
-- that stands behind the thread.
use Rattle.std.specs.Prelude.{◌≡◌, ◌≢◌, ℕ, Bool, true, false, List, Option, Some, None, if◌then◌else◌}
use Rattle.values_undef.specs.declared.value.Val.{Val}
use Rattle.values_undef.specs.Value.{IsBelow}
use Rattle.il_syntax.specs.declared.statement.Atom.{Atom}
use Rattle.il_syntax.specs.declared.statement.Atom.TheVariants.{Reg}
use Rattle.il_syntax.specs.declared.statement.Stmt.TheOpen.{Load, Store}
use Rattle.il_syntax.specs.Statements.{Head}
use Rattle.il_paths.specs.Code.{Visit}
use Rattle.il_paths.specs.Heads.{is_acquire, is_release, gives, stored_location, is_call}
use Rattle.thread_core.specs.Frames.{evaluated}
use Rattle.flow_facts.specs.declared.level.Level.{Level}
use Rattle.flow_facts.specs.declared.level.Level.TheVariants.{Nothing, Held, Fresh}
use Rattle.flow_facts.specs.Levels.{level_on}

-- a level before an acquire: others may have been heard already, so what is only held isn't owed
abbrev pub heard : Bool → Level → Level
heard acquire Nothing = Nothing
heard acquire Held = if acquire then Nothing else Held
heard acquire Fresh = Fresh

-- What is still owed before the next statement: at an acquire what is fresh, at a call nothing.
abbrev pub owed : Option Head → Level → Level
owed None level = level
owed (Some head) level = if is_call head then Nothing else heard (is_acquire head) level

pub record FactsHold (path : List Visit) (next : Option Head) (registers : List Val) (read : ℕ → Val) (alone : ℕ → Type 0) : Type 0 where
  pub known : (x : ℕ) (a : Atom) → (owed next (level_on x a path) ≡ Nothing → ⊥) → IsBelow (evaluated registers a) (read x)
  pub fresh : (x : ℕ) (a : Atom) → owed next (level_on x a path) ≡ Fresh → alone x

-- What a statement has to leave, for the facts to hold after it: `ts` and `read` are before it, `ts'`
-- and `read'` after it, in the target and in the source's memory. `head` is the statement of the
-- source with the inserted loads put in.
pub record FactsStay (head : Head) (ts ts' : List Val) (read read' : ℕ → Val) (alone alone' : ℕ → Type 0) : Type 0 where
  pub registers : (a : Atom) → ((r : ℕ) → gives head ≡ Some r → a ≡ Reg r → ⊥) → evaluated ts' a ≡ evaluated ts a
  pub stored : (x : ℕ) (a : Atom) → head ≡ Store x a → IsBelow (evaluated ts' a) (read' x) × alone' x
  pub loaded : (r x : ℕ) → head ≡ Load r x → IsBelow (evaluated ts' (Reg r)) (read' x)
  pub read_stays : (x : ℕ) → stored_location head ≢ Some x → is_call head ≡ false → (is_acquire head ≡ true → alone x) → (b : Val) → IsBelow b (read x) → IsBelow b (read' x)
  pub alone_stays : (x : ℕ) → stored_location head ≢ Some x → is_call head ≡ false → is_release head ≡ false → alone x → alone' x
