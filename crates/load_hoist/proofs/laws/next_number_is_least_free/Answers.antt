use Rattle.load_hoist.proofs.FreeNames.{next_number_is_least_free}
use Rattle.load_hoist.proofs.laws.next_number_is_least_free.Goals as goal

pub returns : goal.returns
returns c = next_number_is_least_free
