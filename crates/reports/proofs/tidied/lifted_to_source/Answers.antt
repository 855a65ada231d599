use Rattle.std.proofs.Common.{◌≡◌, List, Option, Some, sym, subst}
use Rattle.values_undef.specs.declared.journal.Entry.{Entry}
use Rattle.il_syntax.specs.declared.program.Program.{Program}
use Rattle.lift_tidy.specs.Lifted.{IsTidyTarget, IsTidyLifted}
use Rattle.simulation.specs.Chain.{lift_or}
use Rattle.simulation.specs.Conditions.{IsLifted}
use Rattle.reports.specs.Targets.{target_program}
use Rattle.reports.proofs.Tidying.{lifted_on}
use Rattle.reports.proofs.tidied.lifted_to_source.Goals as goal

pub lift_tidy-requires-clause-accepted : goal.lift_tidy-requires-clause-accepted
lift_tidy-requires-clause-accepted g c κs within = subst (λ (p : Program). IsTidyTarget p c.args.tidied.now) (sym c.target.ensures) c.requires.tidied.accepted

pub returns-in-Some : goal.returns-in-Some
returns-in-Some g c =
    lifted_on c.args.chain.now.source (target_program c.args.chain.now) c.args.tidied.now c.args.journal.now c.in_ok-own.own c.in-Some.source c.requires.tidied.accepted.functions
    (subst (λ (p : Program). IsTidyLifted p c.args.journal.now c.in_ok-own.own) c.target.ensures c.in_ok-own.ensures)
    (subst (λ (o : Option (List Entry)). IsLifted c.args.chain.now.source (target_program c.args.chain.now) c.in_ok-own.own (lift_or c.in_ok-own.own o)) c.in-Some.is c.in_ok-source.ensures)
