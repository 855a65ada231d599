-- What a thread does where a run ends, as the machine tells it.
use Rattle.std.proofs.Common.{◌≡◌, ◌⊎◌, ⊎_elim, ℕ, ◌+◌, ◌-◌, ◌<◌, ◌≤◌, Bool, true, false, ltb, List, length, get_or, refl, sym, ap, ◌∙◌, subst, arith}
use Rattle.std.proofs.lemmas.List.{get_or-set_same, get_or-set_other, length-set}
use Rattle.values_undef.specs.Journal.{used_steps}
use Rattle.values_undef.specs.declared.access.Access.{Access}
use Rattle.values_undef.specs.declared.access.Access.TheVariants as access
use Rattle.values_undef.specs.declared.journal.Entry.{Entry}
use Rattle.il_syntax.specs.declared.program.Program.{Program}
use Rattle.message_memory.specs.Memory.{Memory}
use Rattle.thread_core.specs.declared.next.Next.{Next}
use Rattle.thread_core.specs.declared.next.Next.TheVariants as next
use Rattle.thread_core.specs.Programs.{IsProperProgram, IsProperNext}
use Rattle.thread_core.specs.Frames.{Stack, next_of}
use Rattle.thread_core.specs.Alone.{HasSilent, local_after_silent}
use Rattle.view_machine.specs.State.{State, local_in, next_in, idle, IsRunning}
use Rattle.view_machine.specs.Runs.{after_silent, AreSilent}
use Rattle.view_machine.specs.Laws.{IsReached}
use Rattle.view_machine.proofs.Callers.{silent_steps_local, states_whole}
use Rattle.outcome_nodes.specs.Nodes.{local_of, used_of, is_silent}
use Rattle.outcome_nodes.specs.Standing.{node_of, IsNodeRun}
use Rattle.outcome_nodes.proofs.Callers.{silent_has, steps_are, end_or_not}
use Rattle.outcome_moves.proofs.Playing.{same_access}
use Rattle.outcome_moves.specs.Moves.{last_state, silent_there, IsWhat, StandsFrom}
use Rattle.outcome_moves.specs.declared.standing.What.{What}
use Rattle.outcome_moves.specs.declared.standing.What.TheVariants as what
use Rattle.std.proofs.lemmas.Bool.{cases_Bool, true≢false, ltb-true, ltb-false}

abbrev goes_on : Access → Bool
goes_on access.Finish = false
goes_on _ = true

-- from each thread on, the machine stands where the run ends
pub from_anywhere : (p : Program) (entries : List Entry) (i : ℕ) (t : State) → t ≡ last_state p entries → StandsFrom p entries i t
from_anywhere p entries i t e = record {
  memory = ap (λ (x : State). x.memory) e;
  views = ap (λ (x : State). x.views) e;
  ended = ap (λ (x : State). x.ended) e;
  threads = ap (λ (x : State). length x.locals) e;
  locals = λ j _. ap (λ (x : State). local_in x j) e;
}

module _ (p : Program) (steps : ℕ) (entries : List Entry) (i : ℕ) (ok : IsProperProgram p) (run : IsNodeRun p steps entries) (l : i < length p.threads) where
  abbrev s : State
  s = last_state p entries

  reached : IsReached p s
  reached = states_whole p entries s ok run.stands.run

  pub used_within : used_steps entries i ≤ steps
  used_within = run.stands.within i l

  module _ (t : State) (from : StandsFrom p entries i t) where
    pub running_from : IsRunning t i
    running_from = record {
      there = omega (arith, from.threads, l, reached.threads);
      going = ap (λ (b : List Bool). get_or b i true) from.ended ∙ run.stands.going i l;
      running = ap (λ (m : Memory). m.failed) from.memory ∙ run.stands.running;
    }

    local_from : local_in t i ≡ local_in s i
    local_from = from.locals i (omega (arith))

    module _ (r : ℕ) (n : Next) (few : r ≤ steps - used_steps entries i) (silent : AreSilent p i r t) (at : n ≡ next_in (after_silent p i r t) i) (stop : n ≡ next.Silent → r ≡ steps - used_steps entries i) where
      has_from : HasSilent p r (local_in t i)
      has_from = silent_has p i r t silent

      has : HasSilent p r (local_in s i)
      has = subst (HasSilent p r) local_from has_from

      next_local : n ≡ next_of (local_after_silent p r (local_in s i))
      next_local =
          at ∙ ap (λ (u : State). next_in u i) (silent_steps_local p i r t running_from has_from).1
          ∙ ap (λ (x : Stack). next_of x) (get_or-set_same t.locals i (local_after_silent p r (local_in t i)) idle running_from.there)
          ∙ ap (λ (x : Stack). next_of (local_after_silent p r x)) local_from

      -- then each thread behind it still does
      pub stands_behind : (u : State) → u ≡ after_silent p i r t → StandsFrom p entries (i + 1) u
      stands_behind u e = subst (StandsFrom p entries (i + 1)) (sym (e ∙ (silent_steps_local p i r t running_from has_from).1)) (record {
        memory = from.memory;
        views = from.views;
        ended = from.ended;
        threads = length-set t.locals i (local_after_silent p r (local_in t i)) ∙ from.threads;
        locals = λ j k. get_or-set_other t.locals i j (local_after_silent p r (local_in t i)) idle (λ q. omega (arith, q, k)) ∙ from.locals j (omega (arith, k));
      })

      pub silent_is : r ≡ silent_there p steps entries i
      silent_is = sym (steps_are p r (steps - used_steps entries i) (local_in s i) has few (λ e. stop (next_local ∙ e)))

      next_is : next_of (local_of (node_of p steps entries) i) ≡ n
      next_is = ap (λ (x : Stack). next_of x) (run.stands.locals i l ∙ ap (λ (x : ℕ). local_after_silent p x (local_in s i)) (sym silent_is)) ∙ sym next_local

      used_is : used_of (node_of p steps entries) i ≡ used_steps entries i + r
      used_is = run.stands.used i l ∙ ap (λ (x : ℕ). used_steps entries i + x) (sym silent_is)

      asks_there : (a : Access) → n ≡ next.Access a → IsProperNext p n → (a ≡ access.Finish → ⊥) → r < steps - used_steps entries i → IsWhat p steps entries i (what.Asks a)
      asks_there a e proper goes less = (
        record { next = next_is ∙ e; unfinished = goes; left = omega (arith, used_is, less, used_within) },
        subst (IsProperNext p) e proper,
      )

      spent_by : r ≡ steps - used_steps entries i → (n ≡ next.Access access.Finish → ⊥) → IsWhat p steps entries i what.Spent
      spent_by e goes = record { used = omega (arith, used_is, e, used_within); unfinished = λ f. goes (sym next_is ∙ f) }

      -- what the code tells of it
      pub what_is : (x : What) → IsProperNext p n → (n ≡ next.Silent → x ≡ what.Spent) → (n ≡ next.Access access.Finish → x ≡ what.Finished)
          → ((a : Access) → n ≡ next.Access a → (a ≡ access.Finish → ⊥) → ltb r (steps - used_steps entries i) ≡ true → x ≡ what.Asks a)
          → ((a : Access) → n ≡ next.Access a → (a ≡ access.Finish → ⊥) → ltb r (steps - used_steps entries i) ≡ false → x ≡ what.Spent) → IsWhat p steps entries i x
      what_is x proper silent_told finished_told asks_told spent_told = choose n refl
        where
          is : (y : What) → x ≡ y → IsWhat p steps entries i y → IsWhat p steps entries i x
          is y e h = subst (IsWhat p steps entries i) (sym e) h

          choose : (m : Next) → n ≡ m → IsWhat p steps entries i x
          choose next.Silent e = is what.Spent (silent_told e) (spent_by (stop e) (λ f. true≢false (ap is_silent (sym e ∙ f))))
          choose (next.Access a) e =
              ⊎_elim
              (λ (f : a ≡ access.Finish).
              let g : n ≡ next.Access access.Finish = e ∙ ap (λ (z : Access). let y : Next = next.Access z in y) f in
              is what.Finished (finished_told g) (next_is ∙ g))
              (λ (f : a ≡ access.Finish → ⊥).
              ⊎_elim
              (λ (b : ltb r (steps - used_steps entries i) ≡ true). is (what.Asks a) (asks_told a e f b) (asks_there a e proper f (ltb-true r (steps - used_steps entries i) b)))
              (λ (b : ltb r (steps - used_steps entries i) ≡ false).
              let least = ltb-false r (steps - used_steps entries i) b in
              is what.Spent (spent_told a e f b) (spent_by (omega (arith, few, least)) (λ g. f (same_access a access.Finish (sym e ∙ g)))))
              (cases_Bool (ltb r (steps - used_steps entries i))))
              (end_or_not a)
