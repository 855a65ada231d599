use Rattle.text_parts.proofs.Dividing.{one_whole_division, never_lacks_whole}
use Rattle.text_parts.proofs.EachDivision.{each_whole_division}
use Rattle.text_parts.proofs.laws.texts_divide_once_at_whole_lines.Goals as goal

pub returns-clause-some : goal.returns-clause-some
returns-clause-some c = each_whole_division

pub returns-clause-one : goal.returns-clause-one
returns-clause-one c = one_whole_division

pub returns-clause-apart : goal.returns-clause-apart
returns-clause-apart c = never_lacks_whole
