-- A run within a budget goes on to one that is complete for it: each thread makes entries up to its end, one thread after
-- the other.
use Rattle.std.proofs.Common.{◌≡◌, ◌⊎◌, inl, inr, ⊎_elim, ℕ, zero, suc, ◌+◌, ◌<◌, ◌≤◌, true, false, List, [], ◌∷◌, ◌++◌, length, sym, ap, ◌∙◌, subst, arith}
use Rattle.std.proofs.lemmas.Bool.{cases_Bool, cases_lt, false≢true}
use Rattle.std.proofs.lemmas.List.{append_assoc, append-nil}
use Rattle.values_undef.specs.Access.{ends_thread}
use Rattle.values_undef.specs.Journal.{entry_steps, used_steps}
use Rattle.values_undef.specs.declared.journal.Entry.{Entry}
use Rattle.il_syntax.specs.declared.program.Program.{Program}
use Rattle.thread_core.specs.Programs.{IsProperProgram}
use Rattle.view_machine.specs.State.{State, has_ended, IsRunning, initial_state}
use Rattle.view_machine.specs.Runs.{IsEntry, after_entry, state_after}
use Rattle.view_machine.specs.Laws.{IsReached}
use Rattle.view_machine.proofs.Callers.{states_whole, stays_ended, ends_here}
use Rattle.outcome_nodes.proofs.Callers.{entry_done}
use Rattle.outcome_budgets.specs.Budgets.{KeepsBudget, CanBeCompleted, RunsCanBeCompleted}
use Rattle.outcome_budgets.proofs.Standing.{Stands, stands_first, stands_more, stands_all}
use Rattle.outcome_budgets.proofs.Within.{used_here}
use Rattle.outcome_budgets.proofs.Turning.{HasTurn, turn}

-- the run has failed, or thread i has ended
abbrev pub IsOver : State → ℕ → Type 0
IsOver s i = (s.memory.failed ≡ true) ⊎ (has_ended s i ≡ true)

-- entries lead from s on, within the budget
pub record GoesOn (p : Program) (entries : List Entry) (steps : ℕ) (s : State) : Type 0 where
  pub more : List Entry
  pub to : State
  pub stands : Stands p (entries ++ more) to
  pub within : KeepsBudget p (entries ++ more) steps
  pub keeps : (j : ℕ) → IsOver s j → IsOver to j

module _ (p : Program) (steps : ℕ) (ok : IsProperProgram p) where
  abbrev stays : (entries : List Entry) (s : State) → Stands p entries s → KeepsBudget p entries steps → GoesOn p entries steps s
  stays entries s st w = record {
    more = [];
    to = s;
    stands = subst (λ (x : List Entry). Stands p x s) (sym (append-nil entries)) st;
    within = subst (λ (x : List Entry). KeepsBudget p x steps) (sym (append-nil entries)) w;
    keeps = λ j h. h;
  }

  -- an entry, and then more
  abbrev goes_on : (entries : List Entry) (s : State) (e : Entry) → IsEntry p s e → GoesOn p (entries ++ e ∷ []) steps (after_entry p s e) → GoesOn p entries steps s
  goes_on entries s e h g = record {
    more = e ∷ g.more;
    to = g.to;
    stands = subst (λ (x : List Entry). Stands p x g.to) (append_assoc entries (e ∷ []) g.more) g.stands;
    within = subst (λ (x : List Entry). KeepsBudget p x steps) (append_assoc entries (e ∷ []) g.more) g.within;
    keeps = λ j over.
        g.keeps j (⊎_elim (λ (f : s.memory.failed ≡ true). absurd (false≢true (sym (entry_done p s e h).running.running ∙ f))) (λ (f : has_ended s j ≡ true). inr (stays_ended p s e j h f)) over);
  }

  -- entries, and then more
  abbrev goes_further : (entries : List Entry) (s : State) (g : GoesOn p entries steps s) → GoesOn p (entries ++ g.more) steps g.to → GoesOn p entries steps s
  goes_further entries s g h = record {
    more = g.more ++ h.more;
    to = h.to;
    stands = subst (λ (x : List Entry). Stands p x h.to) (append_assoc entries g.more h.more) h.stands;
    within = subst (λ (x : List Entry). KeepsBudget p x steps) (append_assoc entries g.more h.more) h.within;
    keeps = λ j over. h.keeps j (g.keeps j over);
  }

  -- ---- one thread

  abbrev EndsThread : List Entry → State → ℕ → Type 0
  EndsThread entries s i = (g : GoesOn p entries steps s) × IsOver g.to i

  -- it has made an entry, and used a step by it
  record Moves (entries : List Entry) (s : State) (i : ℕ) : Type 0 where
    entry : Entry
    made : IsEntry p s entry
    stands : Stands p (entries ++ entry ∷ []) (after_entry p s entry)
    within : KeepsBudget p (entries ++ entry ∷ []) steps
    used : used_steps entries i + 1 ≤ used_steps (entries ++ entry ∷ []) i

  -- one that goes on ends by its next entry, or uses a step
  moves : (entries : List Entry) (s : State) (i : ℕ) → i < length p.threads → Stands p entries s → KeepsBudget p entries steps → s.memory.failed ≡ false → has_ended s i ≡ false → EndsThread entries s i ⊎ Moves entries s i
  moves entries s i there st w f q = ⊎_elim (λ (e : ends_thread t.entry.event ≡ true). inl (ends e)) (λ (one : 1 ≤ entry_steps t.entry). inr (uses one)) t.moves
    where
      reached : IsReached p s
      reached = states_whole p entries s ok st.run

      able : IsRunning s i
      able = record { there = omega (arith, reached.threads, there); going = q; running = f }

      t : HasTurn p entries steps s i
      t = turn p entries steps s i ok reached w there able

      then_stands : Stands p (entries ++ t.entry ∷ []) (after_entry p s t.entry)
      then_stands = stands_more p entries s t.entry st t.made

      ends : ends_thread t.entry.event ≡ true → EndsThread entries s i
      ends e = (
        goes_on entries s t.entry t.made (stays (entries ++ t.entry ∷ []) (after_entry p s t.entry) then_stands t.within),
        inr (ap (has_ended (after_entry p s t.entry)) (sym t.own) ∙ ends_here p s t.entry t.made e),
      )

      used : used_steps (entries ++ t.entry ∷ []) i ≡ used_steps entries i + entry_steps t.entry
      used =
          ap (used_steps (entries ++ t.entry ∷ [])) (sym t.own)
          ∙ used_here entries t.entry
          ∙ ap (λ (j : ℕ). used_steps entries j + entry_steps t.entry) t.own

      uses : 1 ≤ entry_steps t.entry → Moves entries s i
      uses one = record { entry = t.entry; made = t.made; stands = then_stands; within = t.within; used = omega (arith, one, used) }

  over_or_moves : (entries : List Entry) (s : State) (i : ℕ) → i < length p.threads → Stands p entries s → KeepsBudget p entries steps → EndsThread entries s i ⊎ Moves entries s i
  over_or_moves entries s i there st w =
      ⊎_elim (λ (f : s.memory.failed ≡ true). inl (stays entries s st w, inl f))
      (λ (f : s.memory.failed ≡ false). ⊎_elim (λ (q : has_ended s i ≡ true). inl (stays entries s st w, inr q)) (moves entries s i there st w f) (cases_Bool (has_ended s i)))
      (cases_Bool s.memory.failed)

  -- it makes its entries up to its end: each but the last uses a step
  thread_ends : (fuel : ℕ) (entries : List Entry) (s : State) (i : ℕ) → i < length p.threads → steps ≤ used_steps entries i + fuel → Stands p entries s → KeepsBudget p entries steps → EndsThread entries s i
  thread_ends zero entries s i there enough st w =
      ⊎_elim (λ (g : EndsThread entries s i). g) (λ (m : Moves entries s i). absurd (omega (arith, enough, m.used, m.within.within i there))) (over_or_moves entries s i there st w)
  thread_ends (suc fuel) entries s i there enough st w =
      ⊎_elim (λ (g : EndsThread entries s i). g)
      (λ (m : Moves entries s i).
      let r = thread_ends fuel (entries ++ m.entry ∷ []) (after_entry p s m.entry) i there (omega (arith, enough, m.used)) m.stands m.within in
      (goes_on entries s m.entry m.made r.0, r.1))
      (over_or_moves entries s i there st w)

  -- ---- all threads

  abbrev EndThreads : List Entry → State → ℕ → Type 0
  EndThreads entries s m = (g : GoesOn p entries steps s) × ((i : ℕ) → i < m → IsOver g.to i)

  threads_end : (entries : List Entry) (s : State) → Stands p entries s → KeepsBudget p entries steps → (m : ℕ) → m ≤ length p.threads → EndThreads entries s m
  threads_end entries s st w zero l = (stays entries s st w, λ i h. absurd (omega (arith, h)))
  threads_end entries s st w (suc m) l =
      let g = threads_end entries s st w m (omega (arith, l)) in
      let h = thread_ends steps (entries ++ g.0.more) g.0.to m (omega (arith, l)) (omega arith) g.0.stands g.0.within in (
        goes_further entries s g.0 h.0,
        λ i r. ⊎_elim (λ (q : i < m). h.0.keeps i (g.1 i q)) (λ (q : m ≤ i). subst (IsOver h.0.to) (let same : m ≡ i = omega (arith, q, r) in same) h.1) (cases_lt i m),
      )

  pub completed : (entries : List Entry) (s : State) → Stands p entries s → KeepsBudget p entries steps → CanBeCompleted p entries steps
  completed entries s st w = record {
    more = g.more;
    run = g.stands.run.run;
    complete = record {
      within = g.within.within;
      spent = g.within.spent;
      whole =
          ⊎_elim (λ (f : g.to.memory.failed ≡ true). inl (g.stands.fails ∙ f))
          (λ (f : g.to.memory.failed ≡ false).
          inr (λ i l. g.stands.ended i l ∙ ⊎_elim (λ (q : g.to.memory.failed ≡ true). absurd (false≢true (sym f ∙ q))) (λ (q : has_ended g.to i ≡ true). q) (all.1 i l)))
          (cases_Bool g.to.memory.failed);
    };
  }
    where
      all : EndThreads entries s (length p.threads)
      all = threads_end entries s st w (length p.threads) (omega arith)

      g : GoesOn p entries steps s
      g = all.0

pub runs_completed : RunsCanBeCompleted
runs_completed p entries steps ok run w = completed p steps ok entries (state_after p (initial_state p) entries) (stands_all p [] entries (initial_state p) (stands_first p) run) w
