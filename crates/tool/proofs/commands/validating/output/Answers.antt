use Rattle.tool.proofs.JudgedPairs.{pair_judged}
use Rattle.tool.proofs.commands.validating.output.Goals as goal
use Rattle.validator.proofs.Callers.{if_ok}

pub returns-in-Ok : goal.returns-in-Ok
returns-in-Ok c =
    if_ok c.judged.result _ _ (λ o verdict. pair_judged c.args.input.now c.in-Ok.pair.source c.in-Ok.pair.target c.in-Ok.ensures.ok o.bytes.items o.status verdict) c.judged.ensures
