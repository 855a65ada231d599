-- What is known of each entry of a run.
use Rattle.std.proofs.Common.{◌≡◌, ℕ, zero, suc, ◌+◌, ◌-◌, ◌<◌, ◌≤◌, ◌⊎◌, cond, eqb, replicate, Bool, true, false, List, [], ◌∷◌, length, get_or, set, Option, Some, None, refl, sym, ap, subst, ◌∙◌, arith, inl, inr}
use Rattle.std.proofs.lemmas.Bool.{cases_Bool}
use Rattle.std.proofs.lemmas.List.{length-replicate, get_or-replicate}
use Rattle.std.specs.List.{AllByRecursion}
use Rattle.values_undef.specs.Access.{is_failure, is_fence_order, choice_of_event}
use Rattle.values_undef.specs.declared.access.Order.{Order}
use Rattle.values_undef.specs.declared.access.Event.TheVariants as event
use Rattle.values_undef.specs.declared.journal.Entry.{Entry}
use Rattle.il_syntax.specs.declared.program.Program.{Program}
use Rattle.values_undef.specs.declared.value.Val.{Val}
use Rattle.views.specs.ThreadView.{ThreadView, no_view, zero_view}
use Rattle.views.proofs.Callers.{get_or-zeros, zero_ordered}
use Rattle.message_memory.specs.declared.history.Call.{Call}
use Rattle.message_memory.specs.Step.{acquires_by, IsProper}
use Rattle.message_memory.specs.History.{entry_of, entries_of, view_of}
use Rattle.thread_core.specs.Programs.{IsProperProgram}
use Rattle.view_machine.specs.State.{State, declared_values, initial_state}
use Rattle.view_machine.specs.Runs.{after_entry, IsJournalRun}
use Rattle.view_machine.proofs.Callers.{entries_of_threads}
use Rattle.exec_graph.specs.declared.row.Row.{Row}
use Rattle.exec_graph.specs.Calls.{calls_past, calls_in}
use Rattle.exec_graph.specs.Entries.{Stamp, call_at, thread_at, access_at, event_at, read_by, written_by}
use Rattle.exec_graph.specs.Known.{Interval}
use Rattle.exec_graph.specs.Numbers.{number_in_thread}
use Rattle.exec_graph.specs.Clock.{fence_of, acquires_in, releases_in, times_at, clock_by, handed_by, with_times, next_clock, HasPushed, last_acquires}
use Rattle.exec_graph.proofs.Cases.{interval_of}
use Rattle.exec_graph.proofs.Sets.{Cur, Got, Carried}
use Rattle.exec_graph.proofs.Agrees.{nothing_known}
use Rattle.exec_graph.proofs.Histories.{At, known_at, declared_in, none_got}
use Rattle.exec_graph.proofs.Theorem.{apart, legal_at}
use Rattle.exec_graph.proofs.Accesses.{TellsAccess, tells_access}
use Rattle.exec_graph.proofs.RunCalls.{runs_are_histories}
use Rattle.exec_graph.proofs.Entering.{entry_at, length-entries}
use Rattle.exec_graph.proofs.Ticking.{HasNumber, IsClock, number_few}
use Rattle.exec_graph.proofs.RowSteps.{IsEntered, Hands, RowsSoFar, clock_more, rows_more}

-- ---- the calls of a run are its entries

pub entries_from : (p : Program) (s : State) (entries : List Entry) → entries_of (calls_past p s entries) ≡ entries
entries_from p s [] = refl
entries_from p s (e ∷ more) = ap (λ (x : List Entry). e ∷ x) (entries_from p (after_entry p s e) more)

pub entries_in : (p : Program) (entries : List Entry) → entries_of (calls_in p entries) ≡ entries
entries_in p entries = entries_from p (initial_state p) entries

pub length-calls : (p : Program) (entries : List Entry) → length (calls_in p entries) ≡ length entries
length-calls p entries = sym (length-entries (calls_in p entries)) ∙ ap (λ (x : List Entry). length x) (entries_in p entries)

-- ---- each entry

pub run_at : (p : Program) (entries : List Entry) → IsProperProgram p → IsJournalRun p entries → (k : ℕ) → k < length entries → At (calls_in p entries) (declared_in (declared_values p.na)) (length (declared_values p.na)) k
run_at p entries ok run k l =
    known_at (declared_values p.na) (declared_values p.atomic) (length p.threads) (calls_in p entries) (runs_are_histories p entries ok run) k (let n = length-calls p entries in omega (arith, n, l))

pub all_there : (P : Entry → Type 0) (xs : List Entry) (k : ℕ) (d : Entry) → k < length xs → AllByRecursion P xs → P (get_or xs k d)
all_there P [] k d l h = absurd (omega (arith, l))
all_there P (x ∷ xs) zero d l h = h.0
all_there P (x ∷ xs) (suc k) d l h = all_there P xs k d (omega (arith, l)) h.1

pub run_threads : (p : Program) (entries : List Entry) → IsJournalRun p entries → (a : ℕ) → a < length (calls_in p entries) → thread_at (calls_in p entries) a < length p.threads
run_threads p entries run a l =
    let calls = calls_in p entries in
    let all = subst (AllByRecursion (λ e. e.thread < length p.threads)) (sym (entries_in p entries)) (entries_of_threads p entries run) in
    let there : a < length (entries_of calls) = let n = length-entries calls in omega (arith, n, l) in
    subst (λ (e : Entry). e.thread < length p.threads) (entry_at calls a (entry_of (call_at calls a)) there) (all_there (λ e. e.thread < length p.threads) (entries_of calls) a (entry_of (call_at calls a)) there all)

tells_at : (calls : List Call) (declared : ℕ → Val) (na k : ℕ) → At calls declared na k → TellsAccess (access_at calls k) (event_at calls k)
tells_at calls declared na k h =
    subst (TellsAccess (access_at calls k)) h.step.step.event (tells_access h.state.memory (view_of h.state (thread_at calls k)) (thread_at calls k) (access_at calls k) (choice_of_event (event_at calls k)) h.step.step.legal.admits)

pub run_entered : (p : Program) (entries : List Entry) (failing : Bool) → IsProperProgram p → IsJournalRun p entries → failing ≡ last_acquires (calls_in p entries) → (k : ℕ) → k < length entries → IsEntered (calls_in p entries) (length p.threads) k failing
run_entered p entries failing ok run f k l =
    let calls = calls_in p entries in
    let n = length-calls p entries in
    let at = run_at p entries ok run k l in
    let tells = tells_at calls _ _ k at in record {
      there = run_threads p entries run k (omega (arith, n, l));
      access = tells;
      acquires = λ stamp r. tells.reads stamp r ∙ by_failing at tells (cases_Bool (is_failure (event_at calls k)));
      new = λ stamp w b below e. no_other at stamp w b below e;
    }
  where
    by_failing : At (calls_in p entries) (declared_in (declared_values p.na)) (length (declared_values p.na)) k → TellsAccess (access_at (calls_in p entries) k) (event_at (calls_in p entries) k)
        → (is_failure (event_at (calls_in p entries) k) ≡ true) ⊎ (is_failure (event_at (calls_in p entries) k) ≡ false)
        → acquires_in (event_at (calls_in p entries) k) (acquires_by (access_at (calls_in p entries) k)) ≡ acquires_in (event_at (calls_in p entries) k) failing
    by_failing at tells (inr fine) = sym (tells.fine fine failing)
    by_failing at tells (inl fails) =
        let calls = calls_in p entries in
        let n = at.ending fails in
        let last : length calls - 1 ≡ k = omega (arith, n) in
        ap (acquires_in (event_at calls k)) (sym (f ∙ ap (λ (x : ℕ). acquires_by (access_at calls x)) last))

    no_other : At (calls_in p entries) (declared_in (declared_values p.na)) (length (declared_values p.na)) k → (stamp : Stamp) → written_by (event_at (calls_in p entries) k) ≡ Some stamp → (w : ℕ) → w < k → written_by (event_at (calls_in p entries) w) ≡ Some stamp → ⊥
    no_other at stamp wk w below ww =
        let calls = calls_in p entries in
        let i = interval_of (event_at calls k) stamp.location stamp.to wk in
        let j = interval_of (event_at calls w) stamp.location stamp.to ww in
        let mine : Interval = record { location = stamp.location; from = i.0; to = stamp.to } in
        let other : Interval = record { location = stamp.location; from = j.0; to = stamp.to } in
        let d = apart calls (declared_in (declared_values p.na)) (length (declared_values p.na)) k w at mine other below i.1 j.1 refl in
        let short = ((legal_at calls (declared_in (declared_values p.na)) (length (declared_values p.na)) k at).writes mine i.1).short in
        let at_w = run_at p entries ok run w (omega (arith, below, l)) in
        let short_too = ((legal_at calls (declared_in (declared_values p.na)) (length (declared_values p.na)) w at_w).writes other j.1).short in
        omega (arith, d, short, short_too)

pub run_fence : (p : Program) (entries : List Entry) → IsProperProgram p → IsJournalRun p entries → (k : ℕ) → k < length entries → (order : Order) → event_at (calls_in p entries) k ≡ event.Fence order → is_fence_order order ≡ true
run_fence p entries ok run k l order e =
    let calls = calls_in p entries in
    let at = run_at p entries ok run k l in
    let a = (tells_at calls _ _ k at).fence order (ap fence_of e) in
    subst (IsProper at.state.memory) a at.step.proper

-- ---- the next clock, and all that goes with it

next_is : (calls : List Call) (threads k : ℕ) (failing : Bool) (clocks : List ThreadView) (numbers : List ℕ) (handed : Stamp → Option (List ℕ)) (rows : List Row) → IsEntered calls threads k failing → RowsSoFar calls threads k clocks numbers handed rows
    → next_clock clocks numbers handed failing (entry_of (call_at calls k))
    ≡ clock_by (get_or clocks (thread_at calls k) no_view) (thread_at calls k) (number_in_thread calls k + 1) (fence_of (event_at calls k)) (acquires_in (event_at calls k) failing) (times_at handed (read_by (event_at calls k)))
next_is calls threads k failing clocks numbers handed rows i h =
    ap (λ (u : ℕ). clock_by (get_or clocks (thread_at calls k) no_view) (thread_at calls k) (u + 1) (fence_of (event_at calls k)) (acquires_in (event_at calls k) failing) (times_at handed (read_by (event_at calls k)))) (h.number (thread_at calls k) i.there)

pub next_within : (calls : List Call) (threads k : ℕ) (failing : Bool) (clocks : List ThreadView) (numbers : List ℕ) (handed : Stamp → Option (List ℕ)) (rows : List Row) (e : Entry) → IsEntered calls threads k failing → RowsSoFar calls threads k clocks numbers handed rows
    → e ≡ entry_of (call_at calls k) → (i : ℕ) → get_or (next_clock clocks numbers handed failing e).cur i 0 ≤ k + 1
next_within calls threads k failing clocks numbers handed rows e i h s j =
    let c = clock_more calls threads k failing (get_or clocks (thread_at calls k) no_view) handed i (h.clock (thread_at calls k) i.there) h.hands (fence_of (event_at calls k)) refl (read_by (event_at calls k)) refl in
    let w = c.cur j in
    let few = number_few calls j (suc k) in
    let same : get_or (next_clock clocks numbers handed failing e).cur j 0 ≡ _ =
    ap (λ (x : Entry). get_or (next_clock clocks numbers handed failing x).cur j 0) s ∙ ap (λ (v : ThreadView). get_or v.cur j 0) (next_is calls threads k failing clocks numbers handed rows i h) in
    omega (arith, w, few, same)

rows_here : (calls : List Call) (threads k : ℕ) (failing : Bool) (clocks clocks' : List ThreadView) (numbers numbers' : List ℕ) (handed handed' : Stamp → Option (List ℕ)) (rows rows' : List Row)
    → IsEntered calls threads k failing → ((a : ℕ) → a < length calls → thread_at calls a < threads) → RowsSoFar calls threads k clocks numbers handed rows
    → clocks' ≡ set clocks (thread_at calls k) (next_clock clocks numbers handed failing (entry_of (call_at calls k)))
    → numbers' ≡ set numbers (thread_at calls k) (get_or numbers (thread_at calls k) 0 + 1)
    → ((stamp : Stamp) → handed' stamp ≡ with_times (handed stamp) (handed_by (next_clock clocks numbers handed failing (entry_of (call_at calls k))) (releases_in (event_at calls k)) (times_at handed (read_by (event_at calls k)))) stamp (written_by (event_at calls k)))
    → HasPushed rows rows' (thread_at calls k) (get_or numbers (thread_at calls k) 0) (next_clock clocks numbers handed failing (entry_of (call_at calls k))).cur
    → RowsSoFar calls threads (suc k) clocks' numbers' handed' rows'
rows_here calls threads k failing clocks clocks' numbers numbers' handed handed' rows rows' i all h ec en eh er =
    let t = thread_at calls k in
    let w = next_clock clocks numbers handed failing (entry_of (call_at calls k)) in
    let is = next_is calls threads k failing clocks numbers handed rows i h in
    let num = h.number t i.there in
    let clock : IsClock calls threads (suc k) t w = subst (IsClock calls threads (suc k) t) (sym is)
    (clock_more calls threads k failing (get_or clocks t no_view) handed i (h.clock t i.there) h.hands (fence_of (event_at calls k)) refl (read_by (event_at calls k)) refl) in
    let more = rows_more calls threads k failing clocks numbers handed handed' rows w er.row i all h is eh er.of_thread (er.of_number ∙ num)
    (λ j l. er.counts j (let m = clock.places in omega (arith, l, m)) ∙ ap (λ (x : ℕ). cond (eqb j t) x (get_or w.cur j 0)) num) in
    subst (λ (x : List ThreadView). RowsSoFar calls threads (suc k) x numbers' handed' rows') (sym ec)
    (subst (λ (x : List ℕ). RowsSoFar calls threads (suc k) (set clocks t w) x handed' rows') (sym (en ∙ ap (λ (u : ℕ). set numbers t (u + 1)) num))
    (subst (λ (x : List Row). RowsSoFar calls threads (suc k) (set clocks t w) (set numbers t (number_in_thread calls k + 1)) handed' x) (sym er.pushed) more))

pub rows_next : (calls : List Call) (threads k : ℕ) (failing : Bool) (clocks clocks' : List ThreadView) (numbers numbers' : List ℕ) (handed handed' : Stamp → Option (List ℕ)) (rows rows' : List Row) (e : Entry)
    → IsEntered calls threads k failing → ((a : ℕ) → a < length calls → thread_at calls a < threads) → RowsSoFar calls threads k clocks numbers handed rows → entry_of (call_at calls k) ≡ e
    → clocks' ≡ set clocks e.thread (next_clock clocks numbers handed failing e)
    → numbers' ≡ set numbers e.thread (get_or numbers e.thread 0 + 1)
    → ((stamp : Stamp) → handed' stamp ≡ with_times (handed stamp) (handed_by (next_clock clocks numbers handed failing e) (releases_in e.event) (times_at handed (read_by e.event))) stamp (written_by e.event))
    → HasPushed rows rows' e.thread (get_or numbers e.thread 0) (next_clock clocks numbers handed failing e).cur
    → RowsSoFar calls threads (suc k) clocks' numbers' handed' rows'
rows_next calls threads k failing clocks clocks' numbers numbers' handed handed' rows rows' e i all h s =
    subst (λ (e : Entry).
    clocks' ≡ set clocks e.thread (next_clock clocks numbers handed failing e)
    → numbers' ≡ set numbers e.thread (get_or numbers e.thread 0 + 1)
    → ((stamp : Stamp) → handed' stamp ≡ with_times (handed stamp) (handed_by (next_clock clocks numbers handed failing e) (releases_in e.event) (times_at handed (read_by e.event))) stamp (written_by e.event))
    → HasPushed rows rows' e.thread (get_or numbers e.thread 0) (next_clock clocks numbers handed failing e).cur
    → RowsSoFar calls threads (suc k) clocks' numbers' handed' rows') s
    (rows_here calls threads k failing clocks clocks' numbers numbers' handed handed' rows rows' i all h)

-- ---- at first

pub rows_first : (calls : List Call) (threads : ℕ) (handed : Stamp → Option (List ℕ)) → ((stamp : Stamp) → handed stamp ≡ None) → RowsSoFar calls threads 0 (replicate threads (zero_view threads)) (replicate threads 0) handed []
rows_first calls threads handed none = record {
  many = length-replicate threads _;
  many_numbers = length-replicate threads _;
  clock = λ i l. subst (IsClock calls threads 0 i) (sym (get_or-replicate threads i (zero_view threads) no_view l)) (record {
    views = record {
      cur = nothing_known (HasNumber calls) (HasNumber calls) (Cur calls 0 i) _ (λ a q. (let b = q.before in omega (arith, b)));
      got = nothing_known (HasNumber calls) (HasNumber calls) (Got calls 0 i) _ (none_got calls i);
      rel = nothing_known (HasNumber calls) (HasNumber calls) (Carried calls 0 i) _ (λ a q. (let b = q.last.before in omega (arith, b)));
    };
    cur = λ j. (let z = get_or-zeros threads j in omega (arith, z));
    got = λ j. (let z = get_or-zeros threads j in omega (arith, z));
    rel = λ j. (let z = get_or-zeros threads j in omega (arith, z));
    ordered = zero_ordered threads;
    places = length-replicate threads _;
  });
  number = λ i l. get_or-zeros threads i;
  hands = λ stamp. subst (Hands calls threads 0 stamp) (sym (none stamp)) (λ w l e. absurd (omega (arith, l)));
  many_rows = refl;
  row = λ k d l. absurd (omega (arith, l));
}
