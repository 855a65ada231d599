-- The verdicts on pairs of programs.
use Rattle.std.proofs.Common.{◌≡◌, ◌≤◌, ℕ, List, get_or, Result, Ok, Err, inl}
use Rattle.std.specs.Prelude.{All, IfOk}
use Rattle.il_syntax.specs.declared.program.Function.{Function}
use Rattle.il_syntax.specs.declared.program.Program.{Program}
use Rattle.il_syntax.specs.Statements.{site_count}
use Rattle.il_syntax.specs.WellFormed.{IsWellFormed, declared_by}
use Rattle.il_syntax.proofs.Callers.{functions_well_formed, function_small}
use Rattle.validator.specs.declared.fault.Fault.{Fault}
use Rattle.validator.specs.Shape.{SameShape}
use Rattle.validator.specs.Programs.{IsFirstRefused}
use Rattle.pair_text.specs.Reading.{ReadsPair}
use Rattle.tool.specs.declared.status.Status.{Status}
use Rattle.tool.specs.declared.status.Status.TheVariants as status
use Rattle.tool.specs.Validate.{refused_function_line, IsPairVerdict, refused_function, IsValidateOutput}
use Rattle.pass_chain.proofs.Callers.{small_functions}
use Rattle.validator.proofs.Callers.{if_ok}

pub function_verdict : (p q : Program) (k site : ℕ) (why : Fault) → SameShape p q → IsFirstRefused p.functions q.functions k site why
    → (out : List ℕ) (s : Status) → (out ≡ refused_function_line k site why) × (s ≡ status.No) → IsPairVerdict p q out s
function_verdict p q k site why shape first out s h = refused_function k site why shape first h.0 h.1

pub pair_judged : (bytes : List ℕ) (p q : Program) → ReadsPair bytes p q → (out : List ℕ) (s : Status) → IsPairVerdict p q out s → IsValidateOutput bytes out s
pair_judged bytes p q reads out s verdict = inl (record { source = p; target = q; reads = reads; verdict = verdict })
