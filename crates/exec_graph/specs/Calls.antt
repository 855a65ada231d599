-- A journal that is a run, each entry with its access. What a racy write and a failing compare-exchange were to do stands
-- in the program alone.
use Rattle.std.specs.Prelude.{Bool, true, false, List, [], ◌∷◌}
use Rattle.values_undef.specs.Access.{is_spend}
use Rattle.values_undef.specs.declared.access.Access.{Access}
use Rattle.values_undef.specs.declared.access.Access.TheVariants as access
use Rattle.values_undef.specs.declared.journal.Entry.{Entry}
use Rattle.il_syntax.specs.declared.program.Program.{Program}
use Rattle.message_memory.specs.declared.history.Call.{Call}
use Rattle.thread_core.specs.declared.next.Next.{Next}
use Rattle.thread_core.specs.Asking.{asked}
use Rattle.view_machine.specs.State.{State, next_in, initial_state}
use Rattle.view_machine.specs.Runs.{after_silent, after_entry}

-- the access of an entry: what its thread asks for, but where its budget ends
abbrev pub access_made : Bool → Next → Access
access_made true n = access.Spend
access_made false n = asked n

-- an entry with its access, from the state before it
abbrev pub call_from : Program → State → Entry → Call
call_from p s e = record {
  thread = e.thread;
  silent = e.silent;
  access = access_made (is_spend e.event) (next_in (after_silent p e.thread e.silent s) e.thread);
  event = e.event;
}

abbrev pub calls_past : Program → State → List Entry → List Call
calls_past p s [] = []
calls_past p s (e ∷ more) = call_from p s e ∷ calls_past p (after_entry p s e) more

-- the entries of a run of the program, each with its access
abbrev pub calls_in : Program → List Entry → List Call
calls_in p entries = calls_past p (initial_state p) entries
