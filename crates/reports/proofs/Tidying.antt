-- What the last program of a chain is tidied to, and how its journals are lifted to the first.
use Rattle.std.proofs.Common.{◌≡◌, ◌∙◌, Bool, true, false, not, ◌&&◌, ◌==◌, ℕ, List, [], ◌∷◌, length, Result, Ok, Err, IfOk, refl, sym, ap, subst, arith, ⊎_elim}
use Rattle.std.proofs.lemmas.Bool.{both_ways, cases_Bool}
use Rattle.std.specs.List.{AllZip}
use Rattle.values_undef.specs.Journal.{last_fails}
use Rattle.values_undef.specs.declared.journal.Entry.{Entry}
use Rattle.il_syntax.specs.declared.program.Function.{Function}
use Rattle.il_syntax.specs.declared.program.Program.{Program}
use Rattle.il_syntax.specs.WellFormed.{IsWellFormed}
use Rattle.view_machine.specs.State.{initial_state}
use Rattle.refinement.specs.Refinement.{StopsAtFailure}
use Rattle.refinement.specs.Playings.{AreFew}
use Rattle.refinement.proofs.Callers.{refines_trans, failures_kept, runs_stop, failing_ends}
use Rattle.simulation.specs.Conditions.{IsLifted, have_equal_counts}
use Rattle.tidy.specs.Accepts.{TidyAccepts}
use Rattle.tidy.specs.Programs.{IsTidiedProgram, TidiedProgramsAreAccepted}
use Rattle.lift_tidy.specs.Lifted.{IsTidyTarget, IsTidyLifted}
use Rattle.pass_chain.specs.declared.chains.ProgramChain.{ProgramChain}
use Rattle.reports.specs.Targets.{IsTidiedOf, target_program}

-- journals of a tidied program can be lifted
tidy_target : (p q : Program) → TidiedProgramsAreAccepted → IsWellFormed p → IsWellFormed q → IsTidiedProgram p q → IsTidyTarget p q
tidy_target p q accepted v w t = record {
  source_well_formed = v;
  target_well_formed = w;
  na = t.na;
  atomic = t.atomic;
  threads = t.threads;
  functions = accepted p q t;
}

-- the last program of the chain, tidied
pub tidied_of : {E : Type 0} (c : ProgramChain) (last : Program) (r : Result Program E) → last ≡ target_program c → TidiedProgramsAreAccepted → IsWellFormed (target_program c) → IfOk r (λ q. IsTidiedProgram last q) → IfOk r (λ q. IsWellFormed q)
    → IfOk r (λ q. IsTidiedOf c q)
tidied_of c last (Err e) same accepted v t w = tt
tidied_of c last (Ok q) same accepted v t w =
    let made = subst (λ (p : Program). IsTidiedProgram p q) same t in
    record { made = made; accepted = tidy_target (target_program c) q accepted v w made }

-- its functions have as many registers
same_counts : (fs gs hs : List Function) → AllZip TidyAccepts gs hs → have_equal_counts fs hs ≡ have_equal_counts fs gs
same_counts [] gs hs z = refl
same_counts (f ∷ fs) [] [] z = refl
same_counts (f ∷ fs) [] (h ∷ hs) z = absurd z
same_counts (f ∷ fs) (g ∷ gs) [] z = absurd z
same_counts (f ∷ fs) (g ∷ gs) (h ∷ hs) z = λ i. (length f.registers == length (z.0.registers i)) && same_counts fs gs hs z.1 i

-- a lift to the last program of the chain, and from there to the first
pub lifted_on : (source middle target : Program) (a b c : List Entry) → AllZip TidyAccepts middle.functions target.functions → IsTidyLifted middle a b → IsLifted source middle b c → IsLifted source target a c
lifted_on source middle target a b c z p q =
    let stops : StopsAtFailure c = runs_stop source (initial_state source) c q.run in
    record {
      run = q.run;
      refines = refines_trans a b c stops p.refines q.refines;
      steps = λ e f i.
          let goes : last_fails b ≡ false = ⊎_elim
          (λ (h : last_fails b ≡ true). absurd (both_ways (last_fails c) f ((failing_ends c).0 (failures_kept b c stops q.refines ((failing_ends b).1 h)))))
          (λ (h : last_fails b ≡ false). h)
          (cases_Bool (last_fails b)) in
          q.steps (ap not (sym (same_counts source.functions middle.functions target.functions z)) ∙ e) f i ∙ p.steps goes i;
    }

pub lifted_few : (p : Program) (a b : List Entry) → AreFew a → IsTidyLifted p a b → AreFew b
lifted_few p a b few h = λ i. omega (arith, few i, h.refines.steps i)
