-- What the access of a statement does: it acquires, releases and writes as its statement does.
use Rattle.std.specs.Prelude.{◌≡◌, ℕ, true, List, Some}
use Rattle.values_undef.specs.declared.value.Val.{Val}
use Rattle.values_undef.specs.declared.access.Access.{Access}
use Rattle.il_syntax.specs.declared.program.Program.{Program}
use Rattle.il_syntax.specs.Statements.{Head}
use Rattle.il_paths.specs.Heads.{is_acquire, is_release, stored_location}
use Rattle.message_memory.specs.Step.{acquires_by as access_acquires, releases_by as access_releases, is_write_of}
use Rattle.thread_core.specs.Programs.{IsProperHead}
use Rattle.thread_core.specs.Frames.{next_at}
use Rattle.thread_core.specs.Asking.{asked}

pub record HasAccess (h : Head) (b : Access) : Type 0 where
  pub acquires : access_acquires b ≡ is_acquire h
  pub releases : access_releases b ≡ is_release h
  pub writes : (x : ℕ) → is_write_of x b ≡ true → stored_location h ≡ Some x

abbrev pub StatementsHaveTheirAccesses : Type 0
StatementsHaveTheirAccesses = (p : Program) (registers depth : ℕ) (values : List Val) (h : Head) → IsProperHead p registers h → HasAccess h (asked (next_at values depth h))
