-- A node in which no thread goes on is the end of a run: each thread gets its last entry, one after the other.
use Rattle.std.proofs.Common.{◌≡◌, ◌⊎◌, inr, ⊎_elim, ℕ, zero, suc, ◌+◌, ◌-◌, ◌<◌, ◌≤◌, Bool, true, false, eqb, ◌&&◌, List, [], ◌∷◌, ◌++◌, length, refl, sym, ap, ◌∙◌, subst, arith}
use Rattle.std.specs.Prelude.{◌||◌}
use Rattle.std.proofs.lemmas.Bool.{cases_eq, false≢true, true≢false, cond-true, eq-eqb, ne_eqb, or_right, or_left}
use Rattle.std.proofs.lemmas.List.{get_or-set_same, get_or-set_other}
use Rattle.values_undef.specs.Access.{is_failure, is_spend, ends_thread, weight}
use Rattle.values_undef.specs.Journal.{is_finish, last_fails, has_finished, used_steps}
use Rattle.values_undef.specs.declared.access.Access.TheVariants as access
use Rattle.values_undef.specs.declared.access.Choice.TheVariants.{Plain}
use Rattle.values_undef.specs.declared.access.Event.{Event}
use Rattle.values_undef.specs.declared.access.Event.TheVariants as event
use Rattle.values_undef.specs.declared.journal.Entry.{Entry}
use Rattle.il_syntax.specs.declared.program.Program.{Program}
use Rattle.message_memory.specs.Memory.{Memory}
use Rattle.thread_core.specs.declared.next.Next.{Next}
use Rattle.thread_core.specs.declared.next.Next.TheVariants as next
use Rattle.thread_core.specs.Programs.{IsProperProgram}
use Rattle.thread_core.specs.Frames.{Stack, next_of}
use Rattle.view_machine.specs.State.{State, local_in, with_local, has_ended, idle, initial_state, IsRunning, IsSpendable, after_spend}
use Rattle.view_machine.specs.Runs.{after_silent, AreSilent, IsEntry, after_entry, IsRunTo, state_after}
use Rattle.view_machine.specs.Laws.{IsReached}
use Rattle.view_machine.proofs.Callers.{silent_steps_local, going_with, states_whole, run_goes_on}
use Rattle.run_choices.specs.Complete.{has_ended as journal_ended, has_spent}
use Rattle.run_choices.proofs.Callers.{fails_more, ended_more}
use Rattle.outcome_nodes.specs.Nodes.{Node, local_of, used_of, silent_steps, settled, settled_use, prints, IsFinished, IsSpent, HasPrinted}
use Rattle.outcome_nodes.specs.Reached.{IsRunOf, IsEndedRun, EndsAreOfRuns}
use Rattle.outcome_nodes.specs.Standing.{node_of, IsNodeRun, last_event, last_entry, with_last_entries}
use Rattle.outcome_nodes.proofs.Appending.{finished_more}
use Rattle.outcome_nodes.proofs.Following.{used_here, used_other, printed_none, spent_from, settled_same, use_same}
use Rattle.outcome_nodes.proofs.Rooms.{has_steps, few_steps}
use Rattle.outcome_nodes.proofs.Reaching.{state_of_access, access_entry, nodes_of_runs}

-- the last entry of thread m
abbrev closing : Program → ℕ → List Entry → State → ℕ → Event → Entry
closing p steps entries s m e = record { thread = m; silent = silent_steps p (steps - used_steps entries m) (local_in s m); event = e }

record IsClosing (p : Program) (steps : ℕ) (entries : List Entry) (s : State) (m : ℕ) (e : Event) (t : State) : Type 0 where
  entry : IsEntry p s (closing p steps entries s m e)
  state : after_entry p s (closing p steps entries s m e) ≡ t
  locals : (j : ℕ) → (j ≡ m → ⊥) → local_in t j ≡ local_in s j
  ended : (j : ℕ) → (j ≡ m → ⊥) → has_ended t j ≡ has_ended s j
  running : t.memory.failed ≡ false
  memory : t.memory ≡ s.memory

record IsLast (e : Event) : Type 0 where
  ends : ends_thread e ≡ true
  none : prints e ≡ []
  goes : is_failure e ≡ false

-- the threads below m have had their last entries
record IsEndedTo (p : Program) (steps : ℕ) (n : Node) (m : ℕ) (entries : List Entry) (s : State) : Type 0 where
  run : IsRunTo p entries s
  running : s.memory.failed ≡ false
  memory : n.memory ≡ record s.memory { outputs = [] }
  goes : last_fails entries ≡ false
  within : (j : ℕ) → j < length p.threads → used_steps entries j ≤ steps
  full : (j : ℕ) → j < length p.threads → has_spent entries j ≡ true → used_steps entries j ≡ steps
  printed : HasPrinted (length p.threads) n entries
  ended : (j : ℕ) → j < m → j < length p.threads → journal_ended entries j ≡ true
  finished : (j : ℕ) → j < m → j < length p.threads → IsFinished n j → has_finished entries j ≡ true
  spent : (j : ℕ) → j < m → j < length p.threads → IsSpent steps n j → has_finished entries j ≡ false
  going : (j : ℕ) → m ≤ j → j < length p.threads → has_ended s j ≡ false
  locals : (j : ℕ) → m ≤ j → j < length p.threads → local_of n j ≡ settled p steps (used_steps entries j) (local_in s j)
  used : (j : ℕ) → m ≤ j → j < length p.threads → used_of n j ≡ settled_use p steps (used_steps entries j) (local_in s j)
  unfinished : (j : ℕ) → m ≤ j → j < length p.threads → has_finished entries j ≡ false

close : (p : Program) (steps : ℕ) (n : Node) (m : ℕ) (entries : List Entry) (s t : State) (e : Event) → m < length p.threads → IsEndedTo p steps n m entries s → IsClosing p steps entries s m e t → IsLast e
    → (IsFinished n m → is_finish e ≡ true) → (IsSpent steps n m → is_finish e ≡ false) → (is_spend e ≡ true → used_of n m ≡ steps) → IsEndedTo p steps n (suc m) (entries ++ closing p steps entries s m e ∷ []) t
close p steps n m entries s t e l r c last fin spe full = record {
  run = subst (IsRunTo p (entries ++ x ∷ [])) c.state (run_goes_on p entries s x r.run c.entry);
  running = c.running;
  memory = r.memory ∙ ap (λ (m : Memory). record m { outputs = [] }) (sym c.memory);
  goes = fails_more entries x ∙ last.goes;
  within = λ j h. ⊎_elim (λ (q : j ≡ m). omega (arith, ap (used_steps (entries ++ x ∷ [])) q, now, few_steps p (steps - used_steps entries m) (local_in s m), r.within m l)) (λ (q : j ≡ m → ⊥). omega (arith, used_other entries x j q, r.within j h)) (cases_eq j m);
  full = λ j h q.
      ⊎_elim
      (λ (g : j ≡ m). ⊎_elim (λ (f : has_spent entries j ≡ true). omega (arith, ap (used_steps (entries ++ x ∷ [])) g, now, ap (used_steps entries) g, r.full j h f, few_steps p (steps - used_steps entries m) (local_in s m)))
      (λ (f : (m ≡ j) × (is_spend e ≡ true)). omega (arith, ap (used_steps (entries ++ x ∷ [])) g, now, r.used m (omega arith) l, full f.1)) (spent_from entries x j q))
      (λ (g : j ≡ m → ⊥). ⊎_elim (λ (f : has_spent entries j ≡ true). used_other entries x j g ∙ r.full j h f) (λ (f : (m ≡ j) × (is_spend e ≡ true)). absurd (g (sym f.0))) (spent_from entries x j q))
      (cases_eq j m);
  printed = λ j h. r.printed j h ∙ sym (printed_none entries x last.none j);
  ended = λ j h g.
      ended_more entries x j
      ∙ ⊎_elim
      (λ (q : j ≡ m). or_right (journal_ended entries j) _ (ap (λ (b : Bool). b && ends_thread e) (eq-eqb m j (sym q)) ∙ last.ends))
      (λ (q : j ≡ m → ⊥). or_left (journal_ended entries j) _ (r.ended j (omega arith) g))
      (cases_eq j m);
  finished = λ j h g f.
      finished_more entries x j
      ∙ ⊎_elim
      (λ (q : j ≡ m). or_right (has_finished entries j) _ (ap (λ (b : Bool). b && is_finish e) (eq-eqb m j (sym q)) ∙ fin (subst (IsFinished n) q f)))
      (λ (q : j ≡ m → ⊥). or_left (has_finished entries j) _ (r.finished j (omega arith) g f))
      (cases_eq j m);
  spent = λ j h g f.
      ⊎_elim
      (λ (q : j ≡ m). not_both j (spe (subst (IsSpent steps n) q f)) (r.unfinished j (omega arith) g))
      (λ (q : j ≡ m → ⊥). not_other j q (r.spent j (omega arith) g f))
      (cases_eq j m);
  going = λ j h g. c.ended j (λ q. omega arith) ∙ r.going j (omega arith) g;
  locals = λ j h g. r.locals j (omega arith) g ∙ settled_same p steps _ _ _ _ (sym (used_other entries x j (λ q. omega arith))) (sym (c.locals j (λ q. omega arith)));
  used = λ j h g. r.used j (omega arith) g ∙ use_same p steps _ _ _ _ (sym (used_other entries x j (λ q. omega arith))) (sym (c.locals j (λ q. omega arith)));
  unfinished = λ j h g. not_other j (λ q. omega arith) (r.unfinished j (omega arith) g);
}
  where
    x : Entry
    x = closing p steps entries s m e

    now : used_steps (entries ++ closing p steps entries s m e ∷ []) m ≡ used_steps entries m + silent_steps p (steps - used_steps entries m) (local_in s m)
    now = let none : weight e ≡ 0 = cond-true (ends_thread e) 0 1 last.ends in omega (arith, used_here entries (closing p steps entries s m e), none)

    not_other : (j : ℕ) → (j ≡ m → ⊥) → has_finished entries j ≡ false → has_finished (entries ++ closing p steps entries s m e ∷ []) j ≡ false
    not_other j q h = finished_more entries (closing p steps entries s m e) j ∙ ap (λ (b : Bool). b || (eqb m j && is_finish e)) h ∙ ap (λ (b : Bool). b && is_finish e) (ne_eqb m j (λ f. q (sym f)))

    and_no : (b c : Bool) → c ≡ false → (b && c) ≡ false
    and_no true c q = q
    and_no false c q = refl

    not_both : (j : ℕ) → is_finish e ≡ false → has_finished entries j ≡ false → has_finished (entries ++ closing p steps entries s m e ∷ []) j ≡ false
    not_both j q h = finished_more entries (closing p steps entries s m e) j ∙ ap (λ (b : Bool). b || (eqb m j && is_finish e)) h ∙ and_no (eqb m j) (is_finish e) q

-- ---- the two last entries

finish_closing : (p : Program) (steps : ℕ) (n : Node) (m : ℕ) (entries : List Entry) (s : State) → IsReached p s → m < length p.threads → IsEndedTo p steps n m entries s → IsFinished n m
    → IsClosing p steps entries s m event.Finish (state_of_access p s m (silent_steps p (steps - used_steps entries m) (local_in s m)) access.Finish Plain)
finish_closing p steps n m entries s reached l r f =
    let k = silent_steps p (steps - used_steps entries m) (local_in s m) in
    let e = access_entry p s m (silent_steps p (steps - used_steps entries m) (local_in s m)) access.Finish Plain (record { there = omega (arith, l, reached.threads); going = r.going m (omega arith) l; running = r.running })
    (has_steps p (steps - used_steps entries m) (local_in s m)) (ap (λ (q : Stack). next_of q) (sym (r.locals m (omega arith) l)) ∙ f) (record { running = r.running; admits = tt }) refl in
    record {
      entry = e.entry;
      state = e.state;
      locals = λ j q. get_or-set_other s.locals m j _ idle q;
      ended = λ j q. get_or-set_other s.ended m j true true q;
      running = r.running;
      memory = refl;
    }

spend_closing : (p : Program) (steps : ℕ) (n : Node) (m : ℕ) (entries : List Entry) (s : State) → IsReached p s → m < length p.threads → IsEndedTo p steps n m entries s → (IsFinished n m → ⊥)
    → IsClosing p steps entries s m event.Spend (after_spend (with_local s m (settled p steps (used_steps entries m) (local_in s m))) m)
spend_closing p steps n m entries s reached l r f = record {
  entry = record { silent = silent.0; event = subst (λ (t : State). IsSpendable t m) (sym silent.1) able };
  state = ap (λ (t : State). after_spend t m) silent.1;
  locals = λ j q. get_or-set_other s.locals m j _ idle q;
  ended = λ j q. get_or-set_other s.ended m j true true q;
  running = r.running;
  memory = refl;
}
  where
    running : IsRunning s m
    running = record { there = omega (arith, l, reached.threads); going = r.going m (omega arith) l; running = r.running }

    silent : AreSilent p m (silent_steps p (steps - used_steps entries m) (local_in s m)) s × (after_silent p m (silent_steps p (steps - used_steps entries m) (local_in s m)) s ≡ with_local s m (settled p steps (used_steps entries m) (local_in s m)))
    silent = silent_steps_local p m (silent_steps p (steps - used_steps entries m) (local_in s m)) s running (has_steps p (steps - used_steps entries m) (local_in s m))

    able : IsSpendable (with_local s m (settled p steps (used_steps entries m) (local_in s m))) m
    able = record {
      able = going_with s m (settled p steps (used_steps entries m) (local_in s m)) running;
      unfinished = λ q. f (ap (λ (z : Stack). next_of z) (r.locals m (omega arith) l ∙ sym (get_or-set_same s.locals m (settled p steps (used_steps entries m) (local_in s m)) idle running.there)) ∙ q);
    }

-- ---- all threads

-- how thread m ends is told by where it stands
finish_last : (x : Next) → x ≡ next.Access access.Finish → last_event x ≡ event.Finish
finish_last x e = ap last_event e

spend_last : (x : Next) → (x ≡ next.Access access.Finish → ⊥) → last_event x ≡ event.Spend
spend_last next.Silent h = refl
spend_last (next.Access access.Finish) h = absurd (h refl)
spend_last (next.Access (access.NaRead x)) h = refl
spend_last (next.Access (access.NaWrite x v)) h = refl
spend_last (next.Access (access.Read y o)) h = refl
spend_last (next.Access (access.Write y o v)) h = refl
spend_last (next.Access (access.Update y o k)) h = refl
spend_last (next.Access (access.Fence o)) h = refl
spend_last (next.Access (access.Print v)) h = refl
spend_last (next.Access (access.Fail c)) h = refl
spend_last (next.Access access.Spend) h = refl

module _ (p : Program) (steps : ℕ) (n : Node) (entries : List Entry) (s : State) (ok : IsProperProgram p) (R : IsRunOf p steps entries s n) where
  -- the last entries of the threads below m leave the other threads where they stand
  record IsClosedTo (m : ℕ) : Type 0 where
    state : State
    to : IsEndedTo p steps n m (with_last_entries p steps entries s m) state
    locals : (j : ℕ) → m ≤ j → local_in state j ≡ local_in s j
    used : (j : ℕ) → m ≤ j → used_steps (with_last_entries p steps entries s m) j ≡ used_steps entries j

  closed_none : IsClosedTo 0
  closed_none = record {
    state = s;
    to = record {
      run = R.run;
      running = R.running;
      memory = R.memory;
      goes = R.goes;
      within = R.within;
      full = λ j h q. absurd (true≢false (sym q ∙ R.unspent j));
      printed = R.printed;
      ended = λ j h. absurd (omega arith);
      finished = λ j h. absurd (omega arith);
      spent = λ j h. absurd (omega arith);
      going = λ j h g. R.going j g;
      locals = λ j h g. R.locals j g;
      used = λ j h g. R.used j g;
      unfinished = λ j h g. R.unfinished j;
    };
    locals = λ j h. refl;
    used = λ j h. refl;
  }

  closed_one : (m : ℕ) (t : State) (e : Event) → m < length p.threads → (c : IsClosedTo m) → IsClosing p steps (with_last_entries p steps entries s m) c.state m e t → IsLast e
      → last_event (next_of (settled p steps (used_steps entries m) (local_in s m))) ≡ e
      → (IsFinished n m → is_finish e ≡ true) → (IsSpent steps n m → is_finish e ≡ false) → (is_spend e ≡ true → used_of n m ≡ steps) → IsClosedTo (suc m)
  closed_one m t e l c closes last told fin spe full = record {
    state = t;
    to = subst (λ (x : Entry). IsEndedTo p steps n (suc m) (with_last_entries p steps entries s m ++ x ∷ []) t) same
        (close p steps n m (with_last_entries p steps entries s m) c.state t e l c.to closes last fin spe full);
    locals = λ j h. closes.locals j (λ q. omega (arith, h, q)) ∙ c.locals j (omega (arith, h));
    used = λ j h. used_other (with_last_entries p steps entries s m) (last_entry p steps entries s m) j (λ q. omega (arith, h, q)) ∙ c.used j (omega (arith, h));
  }
    where
      silent : silent_steps p (steps - used_steps (with_last_entries p steps entries s m) m) (local_in c.state m) ≡ silent_steps p (steps - used_steps entries m) (local_in s m)
      silent =
          ap (λ (x : ℕ). silent_steps p (steps - x) (local_in c.state m)) (c.used m (omega arith))
          ∙ ap (λ (x : Stack). silent_steps p (steps - used_steps entries m) x) (c.locals m (omega arith))

      same : closing p steps (with_last_entries p steps entries s m) c.state m e ≡ last_entry p steps entries s m
      same =
          ap (λ (x : ℕ). let y : Entry = record { thread = m; silent = x; event = e } in y) silent
          ∙ ap (λ (x : Event). let y : Entry = record { thread = m; silent = silent_steps p (steps - used_steps entries m) (local_in s m); event = x } in y) (sym told)

  closed_next : (m : ℕ) → m < length p.threads → IsClosedTo m → IsFinished n m ⊎ IsSpent steps n m → IsClosedTo (suc m)
  closed_next m there c ends =
      ⊎_elim
      (λ (f : IsFinished n m).
      closed_one m _ event.Finish there c (finish_closing p steps n m (with_last_entries p steps entries s m) c.state reached there c.to f) (record { ends = refl; none = refl; goes = refl })
      (finish_last _ (stands ∙ f)) (λ _. refl) (λ g. absurd (g.unfinished f)) (λ h. absurd (false≢true h)))
      (λ (f : IsSpent steps n m).
      closed_one m _ event.Spend there c (spend_closing p steps n m (with_last_entries p steps entries s m) c.state reached there c.to f.unfinished) (record { ends = refl; none = refl; goes = refl })
      (spend_last _ (λ q. f.unfinished (sym stands ∙ q))) (λ g. absurd (f.unfinished g)) (λ _. refl) (λ _. f.used))
      ends
    where
      reached : IsReached p c.state
      reached = states_whole p (with_last_entries p steps entries s m) c.state ok c.to.run

      stands : next_of (settled p steps (used_steps entries m) (local_in s m)) ≡ next_of (local_of n m)
      stands = ap (λ (x : Stack). next_of x) (sym (R.locals m there))

  closed_to : ((j : ℕ) → j < length p.threads → IsFinished n j ⊎ IsSpent steps n j) → (m : ℕ) → m ≤ length p.threads → IsClosedTo m
  closed_to ends zero l = closed_none
  closed_to ends (suc m) l = closed_next m (omega (arith, l)) (closed_to ends m (omega (arith, l))) (ends m (omega (arith, l)))

  all_ended : ((j : ℕ) → j < length p.threads → IsFinished n j ⊎ IsSpent steps n j) → IsEndedRun p steps n (with_last_entries p steps entries s (length p.threads))
  all_ended ends =
      let r = (closed_to ends (length p.threads) (omega arith)).to in
      record {
        run = r.run.run;
        complete = record { within = r.within; spent = r.full; whole = inr (λ j l. r.ended j l l) };
        goes = r.goes;
        finished = λ j l f. r.finished j l l f;
        spent = λ j l f. r.spent j l l f;
        printed = r.printed;
        many_printed = R.many_printed;
        memory = r.memory ∙ ap (λ (t : State). let m : Memory = record t.memory { outputs = [] } in m) (sym r.run.state);
      }

pub ends_of_runs : EndsAreOfRuns
ends_of_runs p steps n ok before ends =
    let q = nodes_of_runs p steps n ok before in
    (_, all_ended p steps n q.0 q.1 ok q.2 ends)

-- the run that the node is kept as, with the last entries
pub ended_with : (p : Program) (steps : ℕ) (entries : List Entry) → IsProperProgram p → IsNodeRun p steps entries → ((j : ℕ) → j < length p.threads → IsFinished (node_of p steps entries) j ⊎ IsSpent steps (node_of p steps entries) j)
    → IsEndedRun p steps (node_of p steps entries) (with_last_entries p steps entries (state_after p (initial_state p) entries) (length p.threads))
ended_with p steps entries ok run ends = all_ended p steps (node_of p steps entries) entries (state_after p (initial_state p) entries) ok run.stands ends
