-- Threads that have worked apart make one run, complete and drawn.
use Rattle.std.proofs.Common.{◌≡◌, ◌⊎◌, ℕ, zero, suc, ◌+◌, ◌%◌, ◌<◌, ◌≤◌, true, false, List, [], ◌∷◌, ◌++◌, length, inl, inr, refl, sym, ap, ◌∙◌, subst, ⊎_elim, arith, append_assoc, Some, get_or}
use mathlib.Core.List.{IsPrefix}
use Rattle.std.specs.Prelude.{slice_get}
use Rattle.std.proofs.lemmas.List.{length-replicate}
use Rattle.std.proofs.lemmas.Bool.{cases_eq}
use Rattle.values_undef.specs.Access.{choice_of_event, is_atomic_event}
use Rattle.values_undef.specs.Journal.{last_fails}
use Rattle.values_undef.specs.declared.access.Choice.{Choice}
use Rattle.values_undef.specs.declared.access.Event.{Event}
use Rattle.values_undef.specs.declared.access.Event.TheVariants.{NaRead, NaWrite, Read, Write, Update, Miss, Fence, Print, Fail, FailCompare, Finish, Spend}
use Rattle.values_undef.specs.declared.journal.Entry.{Entry}
use Rattle.il_syntax.specs.declared.program.Program.{Program}
use Rattle.views.specs.ThreadView.{zero_view, no_view}
use Rattle.message_memory.specs.declared.history.Call.{Call}
use Rattle.message_memory.specs.Candidates.{candidates}
use Rattle.message_memory.specs.History.{memory_state_after, calls_by, entry_of, entries_of}
use Rattle.message_memory.proofs.Callers.{histories_split, failures_last, none_between, views_many}
use Rattle.thread_core.specs.declared.next.Next.{Next}
use Rattle.chooser.specs.Draws.{generator, word}
use Rattle.il_syntax.specs.Given.{declared_values}
use Rattle.view_machine.specs.State.{State, initial_state}
use Rattle.view_machine.specs.Runs.{is_spend, after_silent}
use Rattle.view_machine.specs.Runs.{state_after as run_after}
use Rattle.view_machine.specs.Laws.{FollowsThread, IsHistoryOf}
use Rattle.run_choices.specs.Candidates.{candidates_by, candidates_in}
use Rattle.run_choices.specs.Complete.{has_ended}
use Rattle.run_choices.specs.Drawn.{TakesCandidate, candidates_of, atomic_entries_of}
use Rattle.threaded_runner.specs.Worked.{candidates_of_call}
use Rattle.view_machine.specs.Merged.{opening_of, IsAskedFor}
use Rattle.view_machine.proofs.Callers.{merged, ask_before}
use Rattle.threaded_runner.specs.Laws.{WorkedHistoriesRun}
use Rattle.threaded_runner.proofs.Own.{used_own, spent_own, ended_own, within_beginning, fails_last, split_calls}

-- each of so many numbers has the one, or some number has the other
one_or_all : (n : ℕ) (A B : ℕ → Type 0) → ((i : ℕ) → i < n → A i ⊎ B i) → ((i : ℕ) → i < n → A i) ⊎ ((i : ℕ) × (i < n) × B i)
one_or_all zero A B each = inl (λ i lt. absurd (omega arith))
one_or_all (suc n) A B each = ⊎_elim
    (λ (all : (i : ℕ) → i < n → A i). ⊎_elim
    (λ (a : A n). inl (λ i lt. ⊎_elim (λ (e : n ≡ i). subst A e a) (λ (ne : n ≡ i → ⊥). all i (omega arith)) (cases_eq n i)))
    (λ (b : B n). inr (n, omega arith, b))
    (each n (omega arith)))
    (λ (one : (i : ℕ) × (i < n) × B i). inr (one.0, (let lt = one.1 in omega arith), one.2))
    (one_or_all n A B (λ i lt. each i (omega arith)))

-- a beginning that ends in a failure is the whole history
failed_whole : (p : Program) (h seen : List Call) → IsHistoryOf p h → IsPrefix seen h → last_fails (entries_of seen) ≡ true → last_fails (entries_of h) ≡ true
failed_whole p h seen history begins fails =
    let f = fails_last seen fails in
    let rest = begins.0 in
    let whole : h ≡ f.before ++ f.last ∷ rest = sym begins.1 ∙ (ap (λ l. l ++ rest) f.whole ∙ append_assoc f.before (f.last ∷ []) rest) in
    let none : rest ≡ [] = failures_last (opening_of p) f.before rest f.last (subst (IsHistoryOf p) whole history) f.failure in
    ap (λ (l : List Call). last_fails (entries_of l)) (whole ∙ (ap (λ (l : List Call). f.before ++ f.last ∷ l) none ∙ sym f.whole)) ∙ fails

no_spend : (e : Event) → is_atomic_event e ≡ true → is_spend e ≡ false
no_spend (NaRead x v) a = refl
no_spend (NaWrite x v version) a = refl
no_spend (Read y order v to) a = refl
no_spend (Write y order v from to) a = refl
no_spend (Update y order old new read to) a = refl
no_spend (Miss y order old read) a = refl
no_spend (Fence order) a = refl
no_spend (Print v) a = refl
no_spend (Fail cause) a = refl
no_spend (FailCompare y read) a = refl
no_spend Finish a = refl
no_spend Spend a = absurd cc

-- the choices of an entry of the run are those of the call
same_choices : (p : Program) (before : List Call) (c : Call) (s : State) → IsAskedFor p before c s → is_spend c.event ≡ false → candidates_in s c.thread ≡ candidates_of_call (memory_state_after (opening_of p) before) c
same_choices p before c s asked none =
    ap (λ (n : Next). candidates_by s c.thread n) (asked.asks none)
    ∙ (λ j. candidates (asked.memory j) (get_or (asked.views j) c.thread no_view) c.access)

pub worked_run : WorkedHistoriesRun
worked_run p h seed steps history worked =
    let follows : (i : ℕ) → i < length p.threads → FollowsThread p i (calls_by i h) = λ i lt. (worked i lt).2.follows in
    record {
      run = merged p h history follows;
      complete = record {
        within = λ i lt. subst (λ (n : ℕ). n ≤ steps) (sym (used_own i h)) (worked i lt).2.within;
        spent = λ i lt e. used_own i h ∙ (worked i lt).2.spent (sym (spent_own i h) ∙ e);
        whole = ⊎_elim
            (λ (all : (i : ℕ) → i < length p.threads → has_ended (entries_of h) i ≡ true). inr all)
            (λ (one : (i : ℕ) × (i < length p.threads) × (last_fails (entries_of h) ≡ true)). inl one.2)
            (one_or_all (length p.threads) (λ i. has_ended (entries_of h) i ≡ true) (λ i. last_fails (entries_of h) ≡ true)
            (λ i lt. let w = worked i lt in ⊎_elim
            (λ (e : has_ended (entries_of (calls_by i h)) i ≡ true). inl (ended_own i h ∙ e))
            (λ (f : last_fails (entries_of w.0) ≡ true). inr (failed_whole p h w.0 history w.1 f))
            w.2.whole));
      };
      drawn = λ b e a parts atomic.
          let cut = split_calls h b e a parts in
          let c = cut.call in
          let i = c.thread in
          let history_here = subst (IsHistoryOf p) cut.whole history in
          let split = (histories_split (opening_of p) cut.before (c ∷ cut.after)).0 history_here in
          let there : i < length p.threads =
          let n = views_many (opening_of p) cut.before in
          let m = length-replicate (length p.threads) (zero_view (length (declared_values p.na) + length (declared_values p.atomic))) in
          let l = split.1.0.there in omega (arith, n, m, l) in
          let w = worked i there in
          let none : calls_by i w.1.0 ≡ [] = none_between i w.0 w.1.0 (sym w.2.own_is ∙ ap (calls_by i) (sym w.1.1)) in
          let inside = within_beginning i w.0 w.1.0 cut.before c cut.after (w.1.1 ∙ cut.whole) none refl in
          let happens : is_atomic_event c.event ≡ true = ap (λ (x : Entry). is_atomic_event x.event) cut.call_is ∙ atomic in
          let taken = w.2.drawn cut.before c inside.0 inside.1 refl happens in
          let asked = ask_before p cut.before c cut.after history_here (λ j lt. subst (λ (l : List Call). FollowsThread p j (calls_by j l)) cut.whole (follows j lt)) in
          let s = after_silent p i c.silent (run_after p (initial_state p) (entries_of cut.before)) in
          let same : candidates_in s i ≡ candidates_of_call (memory_state_after (opening_of p) cut.before) c = same_choices p cut.before c s asked (no_spend c.event happens) in
          let here : TakesCandidate p (run_after p (initial_state p) (entries_of cut.before)) (entry_of c) (word (generator seed i) (atomic_entries_of i (entries_of cut.before)) % length (candidates_in s i)) =
          subst (λ (choices : List Choice). slice_get choices (word (generator seed i) (atomic_entries_of i (entries_of cut.before)) % length choices) ≡ Some (choice_of_event c.event)) (sym same) taken in
          subst (λ (x : List Entry × Entry). let t = run_after p (initial_state p) x.0 in TakesCandidate p t x.1 (word (generator seed x.1.thread) (atomic_entries_of x.1.thread x.0) % length (candidates_of p t x.1))) (λ j. (cut.before_is j, cut.call_is j)) here;
    }
