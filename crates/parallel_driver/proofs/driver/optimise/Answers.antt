use Rattle.std.proofs.Common.{◌<◌, ◌≤◌, ℕ, List, length, get_or, sym, subst}
use Rattle.il_syntax.specs.declared.program.Function.{Function}
use Rattle.il_syntax.specs.Statements.{site_count}
use Rattle.il_syntax.specs.WellFormed.{declared_by}
use Rattle.il_syntax.proofs.Callers.{functions_well_formed, function_small}
use Rattle.pass_chain.specs.Chain.{IsOptAll}
use Rattle.pass_chain.specs.Laws.{AreWellFormed}
use Rattle.pass_chain.proofs.Callers.{opt_all_is_well_formed}
use Rattle.parallel_driver.specs.Neighbours.{AreNeighbours}
use Rattle.parallel_driver.proofs.NeighbourLaws.{chains_are_accepted}
use Rattle.parallel_driver.proofs.driver.optimise.Goals as goal
use Rattle.validator.proofs.Callers.{if_ok}

pub chains_of-requires-clause-small : goal.chains_of-requires-clause-small
chains_of-requires-clause-small g c κs lives =
    let p = c.args.p.now in
    subst (λ (fs : List Function). (k : ℕ) (d : Function) → k < length fs → site_count (get_or fs k d).body.statements ≤ 4096) (sym c.as_slice.ensures)
    (λ k d lt. (function_small (declared_by p) (get_or p.functions k d) (functions_well_formed p c.requires k d lt)).statements)

pub returns-clause-well_formed : goal.returns-clause-well_formed
returns-clause-well_formed g c =
    if_ok c.gather.result (IsOptAll c.args.p.now) AreWellFormed (λ chain o. opt_all_is_well_formed c.args.p.now chain c.requires o) c.gather.ensures

pub returns-clause-neighbours : goal.returns-clause-neighbours
returns-clause-neighbours g c =
    if_ok c.gather.result (IsOptAll c.args.p.now) AreNeighbours (λ chain o. chains_are_accepted c.args.p.now chain c.requires o) c.gather.ensures
