-- A closed list of nodes that moves lead to shows exactly the outcomes of the program.
use Rattle.std.proofs.Common.{◌≡◌, ◌⊎◌, inl, inr, ⊎_elim, ℕ, ℤ, zero, suc, ◌+◌, ◌<◌, ◌≤◌, Bool, true, false, cond, List, [], length, map, get_or, refl, sym, ap, ◌∙◌, subst, arith}
use Rattle.std.specs.Prelude.{◌&&◌}
use Rattle.std.specs.List.{Contains, list_all, range_with_len}
use Rattle.std.proofs.lemmas.Bool.{cases_Bool, true≢false, cond-true, cond-false}
use Rattle.std.proofs.lemmas.List.Folds.{list_all_at}
use Rattle.std.proofs.lemmas.List.FromFn.{length-range_with_len, get_or-range_with_len, fill_by_all}
use Rattle.values_undef.specs.declared.value.Val.{Val}
use Rattle.values_undef.specs.Journal.{last_fails, has_finished, all_finished, ending_in}
use Rattle.values_undef.specs.declared.journal.Ending.{Ending}
use Rattle.values_undef.specs.declared.journal.Ending.TheVariants.{Done, Failed, Spent}
use Rattle.values_undef.specs.declared.journal.Entry.{Entry}
use Rattle.il_syntax.specs.declared.program.Program.{Program}
use Rattle.message_memory.specs.Memory.{Memory}
use Rattle.thread_core.specs.Programs.{IsProperProgram}
use Rattle.view_machine.specs.State.{initial_state}
use Rattle.view_machine.specs.Runs.{IsJournalRun, state_after}
use Rattle.run_choices.specs.Complete.{IsComplete}
use Rattle.outcome_nodes.specs.Nodes.{Node, IsFinished, IsSpent, printed_by, HasPrinted}
use Rattle.outcome_nodes.specs.Laws.{IsClosedUnderMoves, FailsFrom, EndsIn}
use Rattle.outcome_nodes.specs.Reached.{IsReachable, IsFailedRun, IsEndedRun}
use Rattle.outcome_nodes.specs.Outcome.{FinalOutcome, final_values, values_told, final_outcome_of, IsOutcome, Fails, EndsAs, Ends, failed_outcome, ended_outcome, IsShown, ShownAreOutcomes}
use Rattle.outcome_nodes.proofs.Missing.{nothing_missed}
use Rattle.outcome_nodes.proofs.Reaching.{nodes_of_runs, failures_of_runs}
use Rattle.outcome_nodes.proofs.Ending.{ends_of_runs}
use Rattle.outcome_nodes.proofs.Values.{values_alike}

-- ---- all threads have finished

all_range : (f : ℕ → Bool) (a n : ℕ) → ((i : ℕ) → a ≤ i → i < a + n → f i ≡ true) → list_all f (range_with_len a n) ≡ true
all_range f a zero h = refl
all_range f a (suc n) h =
    ap (λ (b : Bool). b && list_all f (range_with_len (a + 1) n)) (h a (omega arith) (omega arith))
    ∙ all_range f (a + 1) n (λ i l k. h i (omega arith) (omega arith))

finished_all : (entries : List Entry) (n : ℕ) → ((i : ℕ) → i < n → has_finished entries i ≡ true) → all_finished entries n ≡ true
finished_all entries n h = all_range (has_finished entries) 0 n (λ i l k. h i (omega arith))

finished_each : (entries : List Entry) (n i : ℕ) → all_finished entries n ≡ true → i < n → has_finished entries i ≡ true
finished_each entries n i h l =
    ⊎_elim (λ (q : has_finished entries i ≡ true). q)
    (λ (q : has_finished entries i ≡ false).
    let at : get_or (range_with_len 0 n) i 0 ≡ i = get_or-range_with_len 0 n i 0 l ∙ omega arith in
    absurd (true≢false (sym h ∙ list_all_at (has_finished entries) (range_with_len 0 n) i 0 (omega (arith, l, length-range_with_len 0 n)) (ap (has_finished entries) at ∙ q))))
    (cases_Bool (has_finished entries i))

-- ---- endings

ending_fails : (entries : List Entry) (n : ℕ) → last_fails entries ≡ true → ending_in entries n ≡ Failed
ending_fails entries n h = cond-true (last_fails entries) Failed (cond (all_finished entries n) Done Spent) h

ending_done : (entries : List Entry) (n : ℕ) → last_fails entries ≡ false → all_finished entries n ≡ true → ending_in entries n ≡ Done
ending_done entries n h q = cond-false (last_fails entries) Failed (cond (all_finished entries n) Done Spent) h ∙ cond-true (all_finished entries n) Done Spent q

ending_spent : (entries : List Entry) (n : ℕ) → last_fails entries ≡ false → all_finished entries n ≡ false → ending_in entries n ≡ Spent
ending_spent entries n h q = cond-false (last_fails entries) Failed (cond (all_finished entries n) Done Spent) h ∙ cond-false (all_finished entries n) Done Spent q

-- ---- the outcome of a journal

outcome_same : (e e' : Ending) (ps ps' : List (List ℤ)) (vs vs' : List Val) → e ≡ e' → ps ≡ ps' → vs ≡ vs' → (let o : FinalOutcome = record { ending = e; printed = ps; values = vs } in o) ≡ record { ending = e'; printed = ps'; values = vs' }
outcome_same e e' ps ps' vs vs' q r t =
    ap (λ (x : Ending). let o : FinalOutcome = record { ending = x; printed = ps; values = vs } in o) q
    ∙ ap (λ (x : List (List ℤ)). let o : FinalOutcome = record { ending = e'; printed = x; values = vs } in o) r
    ∙ ap (λ (x : List Val). let o : FinalOutcome = record { ending = e'; printed = ps'; values = x } in o) t

printed_list : (p : Program) (n : Node) (entries : List Entry) → length n.printed ≡ length p.threads → HasPrinted (length p.threads) n entries → n.printed ≡ map (printed_by entries) (range_with_len 0 (length p.threads))
printed_list p n entries many h = fill_by_all (printed_by entries) n.printed (length p.threads) [] many h

last_memory : Program → List Entry → Memory
last_memory p entries = (state_after p (initial_state p) entries).memory

of_failed : (p : Program) (n : Node) (entries : List Entry) → last_fails entries ≡ true → length n.printed ≡ length p.threads → HasPrinted (length p.threads) n entries → final_outcome_of p entries ≡ failed_outcome n
of_failed p n entries h many q =
    let e = ending_fails entries (length p.threads) h in
    outcome_same _ _ _ _ _ _ e (sym (printed_list p n entries many q)) (ap (λ (x : Ending). values_told x (state_after p (initial_state p) entries).memory) e)

of_ended : (p : Program) (n : Node) (entries : List Entry) (ending : Ending) → ending_in entries (length p.threads) ≡ ending → length n.printed ≡ length p.threads → HasPrinted (length p.threads) n entries
    → final_values (state_after p (initial_state p) entries).memory ≡ final_values n.memory → final_outcome_of p entries ≡ ended_outcome n ending
of_ended p n entries ending e many q values =
    outcome_same _ _ _ _ _ _ e (sym (printed_list p n entries many q)) (ap (λ (x : Ending). values_told x (state_after p (initial_state p) entries).memory) e ∙ told ending)
  where
    told : (x : Ending) → values_told x (state_after p (initial_state p) entries).memory ≡ values_told x n.memory
    told Done = values
    told Failed = refl
    told Spent = refl

-- ---- each outcome is shown

module _ (p : Program) (steps : ℕ) (nodes : List Node) (entries : List Entry) (ok : IsProperProgram p) (closed : IsClosedUnderMoves p steps nodes) (many : (n : Node) → Contains nodes n → length n.printed ≡ length p.threads) where
  shown_failed : last_fails entries ≡ true → FailsFrom p steps nodes entries → IsShown p steps nodes (final_outcome_of p entries)
  shown_failed h f = record {
    node = f.node;
    listed = f.listed;
    shows = inl (
      record { thread = f.thread; access = f.access; behind = f.behind; there = f.there; asks = f.asks; move = f.move; fails = f.fails },
      sym (of_failed p f.node entries h (many f.node f.listed) f.printed),
    );
  }

  shown_ended : last_fails entries ≡ false → EndsIn p steps nodes entries → IsShown p steps nodes (final_outcome_of p entries)
  shown_ended h f = ⊎_elim done spent (cases_Bool (all_finished entries (length p.threads)))
    where
      stand : (i : ℕ) → i < length p.threads → IsFinished f.node i ⊎ IsSpent steps f.node i
      stand i l = ⊎_elim (λ (q : has_finished entries i ≡ true). inl (f.finished i l q)) (λ (q : has_finished entries i ≡ false). inr (f.spent i l q)) (cases_Bool (has_finished entries i))

      shows : (ending : Ending) → ending_in entries (length p.threads) ≡ ending → EndsAs p f.node ending → IsShown p steps nodes (final_outcome_of p entries)
      shows ending e as_ended = record {
        node = f.node;
        listed = f.listed;
        shows = inr (
          ending,
          record { stand = stand; ending = as_ended },
          sym (of_ended p f.node entries ending e (many f.node f.listed) f.printed (sym (values_alike (state_after p (initial_state p) entries).memory f.node.memory f.memory))),
        );
      }

      done : all_finished entries (length p.threads) ≡ true → IsShown p steps nodes (final_outcome_of p entries)
      done q = shows Done (ending_done entries (length p.threads) h q) (λ i l. f.finished i l (finished_each entries (length p.threads) i q l))

      spent : all_finished entries (length p.threads) ≡ false → IsShown p steps nodes (final_outcome_of p entries)
      spent q = shows Spent (ending_spent entries (length p.threads) h q) (λ each. true≢false (sym (finished_all entries (length p.threads) (all each)) ∙ q))
        where
          all : ((i : ℕ) → i < length p.threads → IsFinished f.node i) → (i : ℕ) → i < length p.threads → has_finished entries i ≡ true
          all each i l =
              ⊎_elim (λ (r : has_finished entries i ≡ true). r) (λ (r : has_finished entries i ≡ false). absurd ((f.spent i l r).unfinished (each i l))) (cases_Bool (has_finished entries i))

  shown : IsJournalRun p entries → IsComplete p entries steps → IsShown p steps nodes (final_outcome_of p entries)
  shown run whole =
      ⊎_elim
      (λ (q : (last_fails entries ≡ true) × FailsFrom p steps nodes entries). shown_failed q.0 q.1)
      (λ (q : (last_fails entries ≡ false) × EndsIn p steps nodes entries). shown_ended q.0 q.1)
      (nothing_missed p steps nodes entries ok closed run whole)

-- ---- the outcome of a run that ends in a node

pub of_failed_run : (p : Program) (steps : ℕ) (n : Node) (entries : List Entry) → IsFailedRun p steps n entries → final_outcome_of p entries ≡ failed_outcome n
of_failed_run p steps n entries r = of_failed p n entries r.fails r.many_printed r.printed

ends_as : (p : Program) (steps : ℕ) (n : Node) (e : Ending) (entries : List Entry) → Ends p steps n e → IsEndedRun p steps n entries → ending_in entries (length p.threads) ≡ e
ends_as p steps n Done entries f r = ending_done entries (length p.threads) r.goes (finished_all entries (length p.threads) (λ i l. r.finished i l (f.ending i l)))
ends_as p steps n Failed entries f r = absurd f.ending
ends_as p steps n Spent entries f r =
    ⊎_elim
    (λ (h : all_finished entries (length p.threads) ≡ true).
    absurd (f.ending (λ i l. ⊎_elim (λ (g : IsFinished n i). g)
    (λ (g : IsSpent steps n i). absurd (true≢false (sym (finished_each entries (length p.threads) i h l) ∙ r.spent i l g))) (f.stand i l))))
    (λ (h : all_finished entries (length p.threads) ≡ false). ending_spent entries (length p.threads) r.goes h)
    (cases_Bool (all_finished entries (length p.threads)))

pub of_ended_run : (p : Program) (steps : ℕ) (n : Node) (ending : Ending) (entries : List Entry) → Ends p steps n ending → IsEndedRun p steps n entries → final_outcome_of p entries ≡ ended_outcome n ending
of_ended_run p steps n ending entries f r = of_ended p n entries ending (ends_as p steps n ending entries f r) r.many_printed r.printed (sym (ap final_values r.memory))

-- ---- and no other

module _ (p : Program) (steps : ℕ) (n : Node) (ok : IsProperProgram p) (reached : IsReachable p steps n) where
  of_fails : Fails p steps n → IsOutcome p steps (failed_outcome n)
  of_fails f =
      let r = failures_of_runs p steps n f.thread f.access f.behind ok reached f.there f.asks f.move f.fails in
      record { entries = r.0; run = r.1.run; complete = r.1.complete; outcome = of_failed_run p steps n r.0 r.1 }

  of_ends : (ending : Ending) → Ends p steps n ending → IsOutcome p steps (ended_outcome n ending)
  of_ends ending f =
      let r = ends_of_runs p steps n ok reached f.stand in
      record { entries = r.0; run = r.1.run; complete = r.1.complete; outcome = of_ended_run p steps n ending r.0 f r.1 }

pub shown_are_outcomes : ShownAreOutcomes
shown_are_outcomes p steps nodes o ok closed reached = (to, from)
  where
    many : (n : Node) → Contains nodes n → length n.printed ≡ length p.threads
    many n c = let q = nodes_of_runs p steps n ok (reached n c) in q.2.many_printed

    to : IsOutcome p steps o → IsShown p steps nodes o
    to q = subst (IsShown p steps nodes) q.outcome (shown p steps nodes q.entries ok closed many q.run q.complete)

    from : IsShown p steps nodes o → IsOutcome p steps o
    from s =
        ⊎_elim
        (λ (q : Fails p steps s.node × (failed_outcome s.node ≡ o)). subst (IsOutcome p steps) q.1 (of_fails p steps s.node ok (reached s.node s.listed) q.0))
        (λ (q : (ending : Ending) × Ends p steps s.node ending × (ended_outcome s.node ending ≡ o)). subst (IsOutcome p steps) q.2 (of_ends p steps s.node ok (reached s.node s.listed) q.0 q.1))
        s.shows
