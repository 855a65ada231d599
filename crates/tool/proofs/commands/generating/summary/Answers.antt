use Rattle.std.proofs.lemmas.Result.{IfOk-weaker}
use Rattle.tool.proofs.GenLemmas.{program_summary}
use Rattle.tool.proofs.commands.generating.summary.Goals as goal

pub returns : goal.returns
returns g c =
    IfOk-weaker c.chain_summary.result _ _ (λ bytes told. program_summary c.args.number c.args.p.now c.in_ok-chain.chain bytes.items c.in_ok-chain.ensures.made told) c.chain_summary.ensures
