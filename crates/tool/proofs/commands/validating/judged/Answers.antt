use Rattle.tool.proofs.JudgedPairs.{function_verdict}
use Rattle.tool.proofs.commands.validating.judged.Goals as goal
use Rattle.pass_chain.proofs.Callers.{small_functions}
use Rattle.validator.proofs.Callers.{if_ok}

pub validate_programs-requires : goal.validate_programs-requires
validate_programs-requires c = small_functions c.args.target.now c.requires.target

pub returns-in-Refused : goal.returns-in-Refused
returns-in-Refused c =
    let p = c.args.source.now in
    let q = c.args.target.now in
    let x = c.in-Refused in
    let refused = rw x.is at c.in_ok-validate_programs.ensures in
    if_ok c.function_refused.result _ _ (λ o h. function_verdict p q x.function x.site x.why refused.0 refused.1 o.bytes.items o.status h) c.function_refused.ensures
