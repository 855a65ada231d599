use Rattle.text_parts.proofs.Dividing.{one_division, never_lacks}
use Rattle.text_parts.proofs.EachDivision.{each_division}
use Rattle.text_parts.proofs.laws.texts_divide_once.Goals as goal

pub returns-clause-some : goal.returns-clause-some
returns-clause-some c = each_division

pub returns-clause-one : goal.returns-clause-one
returns-clause-one c = one_division

pub returns-clause-apart : goal.returns-clause-apart
returns-clause-apart c = never_lacks
