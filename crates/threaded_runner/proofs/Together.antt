-- A whole run: what the passes have worked is one run, complete and drawn.
use Rattle.std.proofs.Common.{◌≡◌, ℕ, zero, suc, ◌+◌, ◌*◌, ◌<◌, ◌≤◌, List, [], ◌∷◌, length, refl, ◌∙◌, subst, arith, Some, slice_get}
use mathlib.Core.List.{IsPrefix}
use Rattle.std.specs.List.{AllByRecursion}
use Rattle.values_undef.specs.declared.journal.Entry.{Entry}
use Rattle.il_syntax.specs.declared.program.Program.{Program}
use Rattle.message_memory.specs.declared.history.Call.{Call}
use Rattle.message_memory.specs.History.{calls_by, entries_of}
use Rattle.shared_memory.specs.declared.params.SharedParams.{SharedParams}
use Rattle.shared_memory.specs.Slot.{IsHistory, params_for}
use Rattle.shared_memory.specs.Passes.{SharedValue, PassValue, fresh_from, IsRow, own_calls, IsWholeHistory}
use Rattle.view_machine.specs.Laws.{IsHistoryOf}
use Rattle.view_machine.specs.Runs.{IsJournalRun}
use Rattle.run_choices.specs.Complete.{IsComplete}
use Rattle.run_choices.specs.Drawn.{Drawn}
use Rattle.threaded_runner.specs.Worked.{Worked}
use Rattle.view_machine.proofs.Callers.{runs_short}
use Rattle.threaded_runner.proofs.Worked.{worked_run}

-- the pass of a number in a row
record At (memory : SharedValue) (p : Program) (seed steps first : ℕ) (list : List PassValue) (i : ℕ) : Type 0 where
  pub pass : PassValue
  pub found : slice_get list i ≡ Some pass
  pub thread : pass.thread ≡ first + i
  pub worked : Worked p pass.thread pass.seen (own_calls pass) seed steps

pass_at : (memory : SharedValue) (p : Program) (seed steps first : ℕ) (list : List PassValue) (i : ℕ) → i < length list → IsRow memory first list
    → AllByRecursion (λ pass. Worked p pass.thread pass.seen (own_calls pass) seed steps) list → At memory p seed steps first list i
pass_at memory p seed steps first [] i lt row all = absurd (omega arith)
pass_at memory p seed steps first (x ∷ list) zero lt row all = record { pass = x; found = refl; thread = row.0.1 ∙ omega arith; worked = all.0 }
pass_at memory p seed steps first (x ∷ list) (suc i) lt row all =
    let r = pass_at memory p seed steps (suc first) list i (omega arith) row.1 all.1 in
    record { pass = r.pass; found = r.found; thread = r.thread ∙ omega arith; worked = r.worked }

whole_worked : (p : Program) (memory : SharedValue) (share seed steps : ℕ) (journal : List Entry) (list : List PassValue) (h : List Call) → memory.params ≡ params_for p share → length list ≡ length p.threads → IsRow memory 0 list
    → AllByRecursion (λ pass. Worked p pass.thread pass.seen (own_calls pass) seed steps) list → IsWholeHistory memory.params journal list h
    → IsHistoryOf p h × ((i : ℕ) → i < length p.threads → (seen : List Call) × IsPrefix seen h × Worked p i seen (calls_by i h) seed steps)
whole_worked p memory share seed steps journal list h params all row worked w = (
  subst (λ (x : SharedParams). IsHistory x h) params w.legal,
  λ i lt.
      let a = pass_at memory p seed steps 0 list i (omega (arith, all, lt)) row worked in
      let thread : a.pass.thread ≡ i = a.thread ∙ omega arith in
      let own : own_calls a.pass ≡ calls_by i h = w.own i a.pass a.found in
      (a.pass.seen, w.begins i a.pass a.found, subst (λ (x : ℕ × List Call). Worked p x.0 a.pass.seen x.1 seed steps) (λ j. (thread j, own j)) a.worked),
)

pub fresh_all : (memory : SharedValue) (first n : ℕ) → AllByRecursion (λ pass. own_calls pass ≡ []) (fresh_from memory first n)
fresh_all memory first zero = tt
fresh_all memory first (suc n) = (refl, fresh_all memory (suc first) n)

-- the journal itself
pub record IsDrawnJournal (p : Program) (journal : List Entry) (seed steps : ℕ) : Type 0 where
  pub run : IsJournalRun p journal
  pub complete : IsComplete p journal steps
  pub drawn : Drawn p journal seed
  pub few : length journal ≤ length p.threads * (steps + 1)

pub whole_journal : (p : Program) (memory : SharedValue) (share seed steps : ℕ) (journal : List Entry) (list : List PassValue) (h : List Call) → memory.params ≡ params_for p share → length list ≡ length p.threads → IsRow memory 0 list
    → AllByRecursion (λ pass. Worked p pass.thread pass.seen (own_calls pass) seed steps) list → IsWholeHistory memory.params journal list h → IsDrawnJournal p journal seed steps
whole_journal p memory share seed steps journal list h params all row worked w =
    let e = whole_worked p memory share seed steps journal list h params all row worked w in
    let r = worked_run p h seed steps e.0 e.1 in
    subst (λ (j : List Entry). IsDrawnJournal p j seed steps) w.journal_is (record {
      run = r.run;
      complete = r.complete;
      drawn = r.drawn;
      few = runs_short p (entries_of h) steps r.run r.complete.within;
    })
