-- Rows of the definitions, computed: what a trace is, when one journal refines another, when it fails sooner.
use Rattle.std.proofs.Common.{◌≡◌, ℕ, pos, [], ◌∷◌, length, refl, ap, arith, inl, ⊎_elim}
use Rattle.std.proofs.lemmas.List.{length-append}
use Rattle.std.specs.List.{AllZip}
use Rattle.values_undef.specs.declared.value.Val.{Val}
use Rattle.values_undef.specs.declared.value.Val.TheVariants.{Def, Undef}
use Rattle.values_undef.specs.declared.access.Order.TheVariants.{Acq}
use Rattle.values_undef.specs.declared.access.Cause.TheVariants.{Branch}
use Rattle.values_undef.specs.declared.access.Event.TheVariants.{NaRead, NaWrite, Read, Print, Fail, Finish}
use Rattle.values_undef.specs.declared.journal.Entry.{Entry}
use Rattle.values_undef.specs.Journal.{used_steps}
use Rattle.refinement.specs.Refinement.{trace, IsTracedBelow, BeginsBelow, EndsInFailure, StopsAtFailure, FailsSooner, Refines}
use Rattle.values_undef.specs.Access.{weight}
use Rattle.refinement.specs.Books.{entry_of, recorded}

abbrev loads : Entry
loads = entry_of 0 1 (NaRead 0 (Def (pos 7)))

abbrev stores : Entry
stores = entry_of 0 2 (NaWrite 0 (Def (pos 7)) 1)

abbrev reads : Val → Entry
reads v = entry_of 0 1 (Read 0 Acq v 4)

abbrev prints : Entry
prints = entry_of 0 0 (Print (pos 1))

abbrev fails : Entry
fails = entry_of 0 0 (Fail Branch)

abbrev done : Entry
done = entry_of 0 0 Finish

-- the trace leaves out what is done to non-atomic locations
trace_without_loads : trace (loads ∷ stores ∷ []) ≡ []
trace_without_loads = refl

trace_with_reads : trace (stores ∷ reads Undef ∷ done ∷ []) ≡ record { thread = 0; event = Read 0 Acq Undef 4 } ∷ record { thread = 0; event = Finish } ∷ []
trace_with_reads = refl

-- an end takes no step of the budget, every other entry one beside its silent steps
steps_used : used_steps (stores ∷ reads Undef ∷ done ∷ []) 0 ≡ 5
steps_used = refl

steps_of_others : used_steps (stores ∷ reads Undef ∷ done ∷ []) 1 ≡ 0
steps_of_others = refl

weight_of_end : weight Finish ≡ 0
weight_of_end = refl

weight_of_load : weight (NaRead 0 Undef) ≡ 1
weight_of_load = refl

-- the source may read `Undef` where the target reads a value, but not the other way round
read_below : IsTracedBelow (record { thread = 0; event = Read 0 Acq (Def (pos 3)) 4 }) (record { thread = 0; event = Read 0 Acq Undef 4 })
read_below = record { thread = refl; event = record { form = refl; values = (tt, tt) } }

same_thread : IsTracedBelow (record { thread = 0; event = Finish }) (record { thread = 1; event = Finish }) → ⊥
same_thread h = omega (arith, h.thread)

-- a beginning of the target's trace
begins : BeginsBelow (trace (prints ∷ done ∷ [])) (trace (prints ∷ []))
begins = (record { thread = refl; event = record { form = refl; values = tt } }, tt)

begins_not : BeginsBelow (trace (loads ∷ [])) (trace (prints ∷ [])) → ⊥
begins_not h = h

-- a load of the target's own, and a value that the source doesn't know: refined
refines_row : Refines (loads ∷ reads (Def (pos 3)) ∷ done ∷ []) (reads Undef ∷ done ∷ [])
refines_row = record {
  cases = inl (read_below, (record { thread = refl; event = record { form = refl; values = tt } }, tt));
  steps = λ i. omega arith;
}

-- the source fails where the target goes on
sooner_row : FailsSooner (prints ∷ prints ∷ done ∷ []) (prints ∷ fails ∷ [])
sooner_row = record { end = record { before = prints ∷ []; last = fails; split = refl; fails = refl }; matches = (record { thread = refl; event = record { form = refl; values = tt } }, tt) }

ends_not : EndsInFailure [] → ⊥
ends_not e = omega (arith, length-append e.before (e.last ∷ []), ap {B = ℕ} length e.split)

-- the empty journal isn't refined by one that printed
refines_not : Refines (prints ∷ []) [] → ⊥
refines_not r = ⊎_elim (λ (z : AllZip IsTracedBelow (trace (prints ∷ [])) []). absurd z) (λ (f : FailsSooner (prints ∷ []) []). ends_not f.end) r.cases

-- nothing stands after a failure
stops : StopsAtFailure (fails ∷ [])
stops = (λ h. refl, tt)

stops_not : StopsAtFailure (fails ∷ done ∷ []) → ⊥
stops_not h = omega (arith, ap {B = ℕ} length (h.0 refl))

recorded_row : recorded (prints ∷ []) (3 ∷ []) 0 Finish ≡ prints ∷ entry_of 0 3 Finish ∷ []
recorded_row = refl
