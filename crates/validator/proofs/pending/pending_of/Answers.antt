use Rattle.std.proofs.Common.{◌++◌, ◌∙◌}
use Rattle.il_paths.specs.Tree.{tree_of}
use Rattle.il_paths.specs.Code.{placed}
use Rattle.location_sets.specs.Sets.{has, column}
use Rattle.validator.specs.Walk.{role_at}
use Rattle.validator.specs.Pending.{pending_after, pending_within}
use Rattle.validator.proofs.PendingLaws.{are_pending}
use Rattle.validator.proofs.pending.pending_of.Goals as goal

pub returns : goal.returns
returns c =
    let t = tree_of c.args.merged.now in
    let role = role_at c.args.parts.now in
    let none = c.as_slice.ensures ∙ c.new-none.ensures in
    are_pending t role _
    (λ x. c.in_ok-after.ensures.sets x ∙ (λ i. column x (c.new-before.ensures i) ++ pending_within role x (placed 0 t) (has x (none i))))
    (λ x. c.in_ok-after.ensures.pending x ∙ (λ i. pending_after role x (placed 0 t) (has x (none i))))
