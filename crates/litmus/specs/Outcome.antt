-- What a run comes to: how it ends, and what it prints, thread by thread.
use Rattle.std.specs.Prelude.{◌≡◌, ℕ, ◌==◌, ◌&&◌, Bool, true, false, List, map}
use Rattle.std.specs.List.{filter, flat_map, range_with_len}
use Rattle.std.specs.Ordering.{int_eq}
use Rattle.std.specs.Cmp.Lexicographic.{pointwise}
use Rattle.values_undef.specs.Journal.{Output, ending_in, outputs_of}
use Rattle.values_undef.specs.declared.journal.Ending.{Ending}
use Rattle.values_undef.specs.declared.journal.Ending.TheVariants.{Done, Failed, Spent}
use Rattle.values_undef.specs.declared.journal.Entry.{Entry}
use Rattle.litmus.specs.declared.outcome.Printed.{Printed}

-- an output of a journal, as the code has it
abbrev pub as_printed : Output → Printed
as_printed output = record { thread = output.thread; value = output.value }

-- the outputs of a journal, in their order
abbrev pub printed_in : List Entry → List Printed
printed_in journal = map as_printed (outputs_of journal)

-- those of a thread, in their order
abbrev pub of_thread : ℕ → List Printed → List Printed
of_thread thread outputs = filter (λ o. o.thread == thread) outputs

-- outputs by thread, those of one thread in their order; a program has at most 16 threads
abbrev pub by_thread : List Printed → List Printed
by_thread outputs = flat_map (λ thread. of_thread thread outputs) (range_with_len 0 16)

-- what a run comes to
pub record EndAndOutputs : Type 0 where
  pub ending : Ending
  pub outputs : List Printed

-- the outcome of a journal of a program with so many threads
abbrev pub outcome_in : List Entry → ℕ → EndAndOutputs
outcome_in journal threads = record { ending = ending_in journal threads; outputs = by_thread (printed_in journal) }

-- Whether two outcomes are the same. `OutcomesAreToldApart` says that this is equality.

abbrev pub same_ending : Ending → Ending → Bool
same_ending Done Done = true
same_ending Failed Failed = true
same_ending Spent Spent = true
same_ending _ _ = false

abbrev pub same_printed : Printed → Printed → Bool
same_printed a b = (a.thread == b.thread) && int_eq a.value b.value

abbrev pub same_outcome : EndAndOutputs → EndAndOutputs → Bool
same_outcome a b = same_ending a.ending b.ending && pointwise same_printed a.outputs b.outputs
