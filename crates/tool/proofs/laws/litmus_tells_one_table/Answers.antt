use Rattle.tool.proofs.OneTable.{litmus_tells_one_table}
use Rattle.tool.proofs.laws.litmus_tells_one_table.Goals as goal

pub returns : goal.returns
returns c = litmus_tells_one_table
