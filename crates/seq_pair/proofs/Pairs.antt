-- What an accepted pair is to the code.
use Rattle.std.proofs.Common.{◌≡◌, ℕ, zero, suc, ◌<◌, List, [], ◌∷◌, length, Option, Some, None, Result, Err, IfErr, slice_get, sym, ap, ◌∙◌, subst, arith}
use Rattle.il_syntax.specs.declared.program.Function.{Function}
use Rattle.il_syntax.specs.declared.program.Location.{Location}
use Rattle.il_syntax.specs.declared.program.Program.{Program}
use Rattle.thread_core.specs.Programs.{function_at}
use Rattle.thread_core.proofs.Callers.{well_formed_proper, function_proper}
use Rattle.validator.proofs.Callers.{accepted}
use Rattle.seq_pair.specs.declared.event.EnvEvent.{EnvEvent}
use Rattle.seq_pair.specs.declared.trace.PairFault.{PairFault}
use Rattle.seq_pair.specs.declared.trace.PairFault.TheVariants as fault
use Rattle.seq_pair.specs.Answers.{IsFaultOf}
use Rattle.seq_pair.specs.Pair.{parameter_count}
use Rattle.seq_pair.specs.Laws.{IsAcceptedPair}
use Rattle.seq_pair.specs.Pairing.{ArePaired}

there_at : (fs : List Function) (f : ℕ) (g : Function) → slice_get fs f ≡ Some g → f < length fs
there_at [] f g e = cc
there_at (x ∷ fs) zero g e = omega arith
there_at (x ∷ fs) (suc f) g e = let b = there_at fs f g e in omega (arith, b)

counted : (p : Program) (f : ℕ) (g : Function) → function_at p f ≡ Some g → parameter_count p f ≡ g.params
counted p f g e = ap (λ (o : Option Function). elim o as (λ _. ℕ) [ Some g ↦ g.params | None ↦ 0 ]) e

pub are_paired : (p q : Program) (f : ℕ) → IsAcceptedPair p q f → ArePaired p q f
are_paired p q f a =
    let source = well_formed_proper p a.source_well_formed in
    let target = well_formed_proper q a.target_well_formed in
    let few = (function_proper p f a.source source a.source_there).few_params in
    let same = (accepted a.source a.target a.accepts).params in
    let here = counted p f a.source a.source_there in
    let there = counted q f a.target a.target_there in
    record {
      source = source;
      target = target;
      same_na = ap {B = ℕ} (λ (xs : List Location). length xs) a.shape.na;
      source_there = there_at p.functions f a.source a.source_there;
      target_there = there_at q.functions f a.target a.target_there;
      same_parameters = there ∙ same ∙ sym here;
      few_parameters = omega (arith, few, here);
    }

-- want of memory tells nothing of the events
pub no_fault : {T : Type 0} (p q : Program) (f : ℕ) (events : List EnvEvent) (r : Result T PairFault) → r ≡ Err fault.NoMemory → IfErr r (λ e. IsFaultOf p q f events e)
no_fault {T} p q f events r e = subst (λ (z : Result T PairFault). IfErr z (λ e. IsFaultOf p q f events e)) (sym e) tt
