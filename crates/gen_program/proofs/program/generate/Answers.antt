use Rattle.std.proofs.Common.{rules, ◌≡◌, subst}
use Rattle.il_syntax.specs.WellFormed.{IsWellFormed}
use Rattle.gen_program.specs.Generated.{generated}
use Rattle.gen_program.proofs.WellFormed.{generated_is_well_formed}
use Rattle.gen_program.proofs.program.generate.Goals as goal

pub returns-clause-well_formed : goal.returns-clause-well_formed
returns-clause-well_formed c =
    let same : generated c.args.number c.args.functions ≡ record { na = c.in_ok-locations.field-0; atomic = c.in_ok-locations-2.field-0; functions = c.in_ok-make_functions.field-0; threads = c.in_ok-make_threads.field-0 } = search rules in
    subst IsWellFormed same (generated_is_well_formed c.args.number c.args.functions c.requires.0 c.requires.1)
