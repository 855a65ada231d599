-- A well-formed program has few functions, each with few statements.
use Rattle.std.proofs.Common.{◌≤◌, length}
use Rattle.std.specs.Prelude.{All}
use Rattle.il_syntax.specs.declared.program.Function.{Function}
use Rattle.il_syntax.specs.declared.program.Program.{Program}
use Rattle.il_syntax.specs.Statements.{site_count}
use Rattle.il_syntax.specs.WellFormed.{declared_by, IsWellFormed}
use Rattle.il_syntax.proofs.Callers.{functions_well_formed, function_small, facts_of}

pub small_functions : (p : Program) → IsWellFormed p → All (λ (f : Function). site_count f.body.statements ≤ 4096) p.functions
small_functions p w k d h = (function_small (declared_by p) _ (functions_well_formed p w k d h)).statements

pub few_functions : (p : Program) → IsWellFormed p → length p.functions ≤ 256
few_functions p w = (facts_of p w).few_functions
