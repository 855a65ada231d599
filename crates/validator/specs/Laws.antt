-- Laws of accepted targets, each with a public function that has it as its contract.
use Rattle.std.specs.Prelude.{◌≡◌}
use Rattle.il_syntax.specs.declared.program.Function.{Function}
use Rattle.il_syntax.specs.declared.program.Program.{Program}
use Rattle.validator.specs.declared.fault.Judged.{Judged}
use Rattle.validator.specs.declared.programs.Verdict.{Verdict}
use Rattle.validator.specs.Faults.{Accepts, IsJudged}
use Rattle.validator.specs.Programs.{IsProgramVerdict}
use Rattle.validator.specs.Accepted.{Accepted}

-- An accepted target stands beside its source, and along each run of merged code turned loads are known and
-- removed stores are settled in time: all that runs of both need.
abbrev pub AcceptedTargetsAreBeside : Type 0
AcceptedTargetsAreBeside = (f g : Function) → Accepts f g → Accepted f g

-- Each pair of functions is judged, in one way.
abbrev pub EachPairIsJudged : Type 0
EachPairIsJudged = (f g : Function) → (judged : Judged) × IsJudged f g judged × ((other : Judged) → IsJudged f g other → other ≡ judged)

-- Each pair of programs has a verdict.
abbrev pub EachPairHasAVerdict : Type 0
EachPairHasAVerdict = (p q : Program) → (verdict : Verdict) × IsProgramVerdict p q verdict
