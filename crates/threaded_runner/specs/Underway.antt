-- A thread that is on its way: what it has done, where it stands, and what it has left.
use Rattle.std.specs.Prelude.{◌≡◌, ◌⊎◌, ℕ, ◌+◌, Bool, true, false, List, [], ◌∷◌}
use Rattle.std.specs.List.{AllByRecursion}
use Rattle.rand_pcg.specs.Lcg.{Lcg}
use Rattle.values_undef.specs.Journal.{used_steps}
use Rattle.values_undef.specs.declared.access.Access.{Access}
use Rattle.values_undef.specs.declared.access.Access.TheVariants as access
use Rattle.il_syntax.specs.declared.program.Program.{Program}
use Rattle.message_memory.specs.declared.history.Call.{Call}
use Rattle.message_memory.specs.History.{calls_by, entries_of}
use Rattle.thread_core.specs.declared.next.Next.{Next}
use Rattle.thread_core.specs.declared.next.Next.TheVariants as next
use Rattle.thread_core.specs.Frames.{Stack}
use Rattle.thread_core.specs.Alone.{is_last, local_after_silent, local_after_event}
use Rattle.chooser.specs.Draws.{generator, word}
use Rattle.view_machine.specs.State.{local_in, initial_state}
use Rattle.view_machine.specs.Laws.{FollowsThread}
use Rattle.run_choices.specs.Drawn.{atomic_entries_of}
use Rattle.threaded_runner.specs.Worked.{CallsAreDrawn}

-- where a thread stands after calls
abbrev pub stack_after : Program → Stack → List Call → Stack
stack_after p l [] = l
stack_after p l (call ∷ calls) = stack_after p (local_after_event (local_after_silent p call.silent l) call.event) calls

-- The thread stands where its own calls have led it. None of them was its last. What they have used of the budget and what is
-- left are the budget, their choices are drawn, and the words of its generator are the seed's from the next one on.
pub record IsUnderway (p : Program) (thread : ℕ) (seen : List Call) (stack : Stack) (draw : Lcg) (seed steps left : ℕ) : Type 0 where
  pub follows : FollowsThread p thread (calls_by thread seen)
  pub goes_on : AllByRecursion (λ call. is_last call.event ≡ false) (calls_by thread seen)
  pub stands : stack ≡ stack_after p (local_in (initial_state p) thread) (calls_by thread seen)
  pub used : used_steps (entries_of (calls_by thread seen)) thread + left ≡ steps
  pub drawn : CallsAreDrawn p thread seen seed
  pub words : (k : ℕ) → word draw k ≡ word (generator seed thread) (atomic_entries_of thread (entries_of seen) + k)

-- The access of a thread's entry, from what comes next in the thread: what its code asks for, or the end of a
-- budget that is used up. With a budget that is used up it is one that ends the thread.
pub record IsNextAccess (n : Next) (spent : Bool) (a : Access) : Type 0 where
  pub asked : ((n ≡ next.Access a) × (a ≡ access.Spend → ⊥)) ⊎ ((a ≡ access.Spend) × (spent ≡ true) × (n ≡ next.Access access.Finish → ⊥))
  pub ends : spent ≡ true → (a ≡ access.Finish) ⊎ (a ≡ access.Spend)
