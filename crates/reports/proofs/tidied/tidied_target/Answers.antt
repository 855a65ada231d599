use Rattle.std.proofs.Common.{sym, subst}
use Rattle.il_syntax.specs.WellFormed.{IsWellFormed}
use Rattle.reports.proofs.tidied.tidied_target.Goals as goal

pub tidy_program-requires : goal.tidy_program-requires
tidy_program-requires c = subst IsWellFormed (sym c.target.ensures) c.requires
