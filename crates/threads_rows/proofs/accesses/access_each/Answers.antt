use Rattle.std.proofs.Common.{subst}
use Rattle.shared_memory.specs.Passes.{PassValue}
use Rattle.threads_rows.specs.Each.{IsSamePass}
use Rattle.threads_rows.proofs.accesses.access_each.Goals as goal

pub returns : goal.returns
returns g c = λ k p lt.
    let e = (c.for_each_mut.ensures k p lt).1 in
    subst (λ (x : PassValue × PassValue). IsSamePass c.args.shared.now x.0 x.1) (λ j. (e.argument_is j, e.left j)) e.call
