-- What a run prints, by thread, is what its threads print.
use Rattle.std.proofs.Common.{◌≡◌, ◌⊎◌, inl, inr, ℕ, ℤ, ◌<◌, ◌≤◌, Bool, true, false, cond, eqb, List, [], ◌∷◌, ◌++◌, length, map, get_or, refl, sym, ap, ap₂, ◌∙◌, arith}
use Rattle.std.specs.List.{AllByRecursion, flat_map, range_with_len}
use Rattle.std.proofs.lemmas.Bool.{cases_lt, cond-true, cond-false, eqb-true, ne_eqb}
use Rattle.std.proofs.lemmas.List.{map-append}
use Rattle.std.proofs.lemmas.List.Elements.{filter-append}
use Rattle.std.proofs.lemmas.List.FromFn.{get_or-map-range_with_len}
use Rattle.values_undef.specs.Journal.{outputs_of, printed}
use Rattle.values_undef.specs.declared.access.Event.{Event}
use Rattle.values_undef.specs.declared.access.Event.TheVariants as event
use Rattle.values_undef.specs.declared.journal.Ending.{Ending}
use Rattle.values_undef.specs.declared.journal.Entry.{Entry}
use Rattle.il_syntax.specs.declared.program.Program.{Program}
use Rattle.view_machine.specs.Runs.{IsJournalRun}
use Rattle.view_machine.proofs.Callers.{entries_of_threads}
use Rattle.litmus.specs.Outcome.{EndAndOutputs, as_printed, of_thread, printed_in, outcome_in}
use Rattle.litmus.specs.declared.outcome.Printed.{Printed}
use Rattle.outcome_nodes.specs.Nodes.{prints, printed_by}
use Rattle.outcome_nodes.specs.Outcome.{FinalOutcome, final_outcome_of}

abbrev as_of : ℕ → ℤ → Printed
as_of t v = record { thread = t; value = v }

none : (t : ℕ) (b : Bool) → [] ≡ map (as_of t) (cond b [] [])
none t true = refl
none t false = refl

one : (thread t : ℕ) (v : ℤ) (b : Bool) → eqb thread t ≡ b → of_thread t (as_of thread v ∷ []) ≡ map (as_of t) (cond b (v ∷ []) [])
one thread t v true h = cond-true (eqb thread t) _ _ h ∙ ap (λ (n : ℕ). as_of n v ∷ []) (eqb-true thread t h)
one thread t v false h = cond-false (eqb thread t) _ _ h

-- the outputs of one event
of_event : (thread t : ℕ) (e : Event) → of_thread t (map as_printed (printed thread e)) ≡ map (as_of t) (cond (eqb thread t) (prints e) [])
of_event thread t (event.NaRead x v) = none t (eqb thread t)
of_event thread t (event.NaWrite x v version) = none t (eqb thread t)
of_event thread t (event.Read y order v to) = none t (eqb thread t)
of_event thread t (event.Write y order v from to) = none t (eqb thread t)
of_event thread t (event.Update y order old new read to) = none t (eqb thread t)
of_event thread t (event.Miss y order old read) = none t (eqb thread t)
of_event thread t (event.Fence order) = none t (eqb thread t)
of_event thread t (event.Print v) = one thread t v (eqb thread t) refl
of_event thread t (event.Fail cause) = none t (eqb thread t)
of_event thread t (event.FailCompare y read) = none t (eqb thread t)
of_event thread t event.Finish = none t (eqb thread t)
of_event thread t event.Spend = none t (eqb thread t)

-- the outputs of a thread
of_printed : (entries : List Entry) (t : ℕ) → of_thread t (printed_in entries) ≡ map (as_of t) (printed_by entries t)
of_printed [] t = refl
of_printed (e ∷ rest) t =
    ap (of_thread t) (map-append as_printed (printed e.thread e.event) (outputs_of rest))
    ∙ filter-append (λ (o : Printed). eqb o.thread t) (map as_printed (printed e.thread e.event)) (printed_in rest)
    ∙ ap₂ (λ (a b : List Printed). a ++ b) (of_event e.thread t e.event) (of_printed rest t)
    ∙ sym (map-append (as_of t) (cond (eqb e.thread t) (prints e.event) []) (printed_by rest t))

-- another thread than the program's prints nothing
prints_none : (entries : List Entry) (n t : ℕ) → AllByRecursion (λ (e : Entry). e.thread < n) entries → n ≤ t → printed_by entries t ≡ []
prints_none [] n t h l = refl
prints_none (e ∷ rest) n t h l =
    ap₂ (λ (a b : List ℤ). a ++ b) (cond-false (eqb e.thread t) (prints e.event) [] (ne_eqb e.thread t (λ q. absurd (omega (arith, h.0, l, q))))) (prints_none rest n t h.1 l)

module _ (p : Program) (one_run other : List Entry) (run : IsJournalRun p one_run) (run' : IsJournalRun p other) (same : final_outcome_of p one_run ≡ final_outcome_of p other) where
  printed_at : (entries : List Entry) (t : ℕ) → t < length p.threads → get_or (final_outcome_of p entries).printed t [] ≡ printed_by entries t
  printed_at entries t l = get_or-map-range_with_len (printed_by entries) 0 (length p.threads) t t [] l (omega arith)

  printed_same : (t : ℕ) → (t < length p.threads) ⊎ (length p.threads ≤ t) → printed_by one_run t ≡ printed_by other t
  printed_same t (inl l) = sym (printed_at one_run t l) ∙ ap (λ (o : FinalOutcome). get_or o.printed t []) same ∙ printed_at other t l
  printed_same t (inr l) = prints_none one_run (length p.threads) t (entries_of_threads p one_run run) l ∙ sym (prints_none other (length p.threads) t (entries_of_threads p other run') l)

  threads_same : (t : ℕ) → of_thread t (printed_in one_run) ≡ of_thread t (printed_in other)
  threads_same t = of_printed one_run t ∙ ap (map (as_of t)) (printed_same t (cases_lt t (length p.threads))) ∙ sym (of_printed other t)

  -- runs of one outcome come to the same
  pub comes_same : outcome_in one_run (length p.threads) ≡ outcome_in other (length p.threads)
  comes_same =
      ap₂ (λ (e : Ending) (os : List Printed). let o : EndAndOutputs = record { ending = e; outputs = os } in o) (ap (λ (o : FinalOutcome). o.ending) same)
      (λ i. flat_map (λ t. threads_same t i) (range_with_len 0 16))
