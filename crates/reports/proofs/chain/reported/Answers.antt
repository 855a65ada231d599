use Rattle.std.proofs.Common.{sym, subst}
use Rattle.std.proofs.lemmas.Result.{IfOk-weaker}
use Rattle.il_syntax.specs.WellFormed.{IsWellFormed}
use Rattle.reports.specs.Targets.{target_program}
use Rattle.reports.proofs.Lifts.{lift_reported}
use Rattle.reports.proofs.chain.reported.Goals as goal

pub written-requires : goal.written-requires
written-requires g c = subst IsWellFormed (sym c.target.ensures) c.requires.accepted.undead.target_well_formed

pub returns : goal.returns
returns g c =
    IfOk-weaker c.written.result _ _ (λ r h. lift_reported c.args.chain.now.source (target_program c.args.chain.now) c.target.result.now c.args.journal.now c.in_ok-source.source c.as_ref.result r.bytes.items r.ending
    c.target.ensures c.in_ok-source.ensures c.as_ref.ensures.value h) c.written.ensures
