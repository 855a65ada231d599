use Rattle.std.proofs.Common.{◌∙◌}
use Rattle.il_paths.specs.Tree.{tree_of}
use Rattle.dead_store.proofs.OverwrittenLaws.{sets_overwritten}
use Rattle.dead_store.proofs.walk.overwritten_after.Goals as goal

pub returns : goal.returns
returns c = sets_overwritten (tree_of c.args.block.now) c.as_slice.result.now c.in_ok-sets_after.field-0 (c.as_slice.ensures ∙ c.new-none.ensures) c.in_ok-sets_after.ensures
