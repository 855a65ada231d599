-- What the conditions of a lift give.
use Rattle.std.proofs.Common.{◌≡◌, ℕ, false, List, Result, Ok, Err, IfOk, refl, ⊎_elim}
use Rattle.std.proofs.lemmas.Bool.{both_ways}
use Rattle.il_syntax.specs.declared.program.Program.{Program}
use Rattle.thread_core.proofs.Callers.{well_formed_proper}
use Rattle.values_undef.specs.declared.journal.Entry.{Entry}
use Rattle.values_undef.specs.Journal.{used_steps, last_fails}
use Rattle.refinement.specs.Refinement.{EndsInFailure}
use Rattle.refinement.specs.Playings.{IsPlayed}
use Rattle.refinement.proofs.Callers.{failing_ends}
use Rattle.lift_tidy.specs.States.{AreTidied}
use Rattle.lift_tidy.specs.Lifted.{IsTidyTarget, IsTidyLifted}

pub tidied_of : (source target : Program) → IsTidyTarget source target → AreTidied source target
tidied_of source target h = record { source_proper = well_formed_proper source h.source_well_formed; na = h.na; atomic = h.atomic; threads = h.threads; functions = h.functions }

-- what a play gives
pub lifted_of : (source : Program) (a b : List Entry) → IsPlayed source false a b → IsTidyLifted source a b
lifted_of source a b p = record {
  run = p.run;
  refines = p.refines;
  steps = λ g.
      ⊎_elim
      (λ (h : EndsInFailure b). absurd (both_ways (last_fails b) g ((failing_ends b).0 h)))
      (λ (h : (i : ℕ) → used_steps b i ≡ used_steps a i). h)
      (p.exact refl);
}

-- what holds of the value, if there is one
pub ok_more : {T E : Type 0} (r : Result T E) (P Q : T → Type 0) → ((x : T) → P x → Q x) → IfOk r P → IfOk r Q
ok_more (Ok x) P Q f h = f x h
ok_more (Err e) P Q f h = tt
