-- What an update does with the value that it reads.
use Rattle.std.specs.Prelude.{Bool, true, false}
use Rattle.std.specs.Ordering.{int_eq}
use Rattle.values_undef.specs.Arithmetic.{strict_in_undef, number_result}
use Rattle.values_undef.specs.declared.arithmetic.Op.TheVariants.{Add as Sum}
use Rattle.values_undef.specs.declared.value.Val.{Val}
use Rattle.values_undef.specs.declared.value.Val.TheVariants.{Def, Undef}
use Rattle.values_undef.specs.declared.access.UpdateKind.{UpdateKind}
use Rattle.values_undef.specs.declared.access.UpdateKind.TheVariants.{Add, Swap, Cas}

-- the update writes over a message of this value: a compare-exchange where it finds what it
-- expects, every other update always
abbrev pub succeeds : UpdateKind → Val → Bool
succeeds (Add a) value = true
succeeds (Swap a) value = true
succeeds (Cas (Def expected) new) (Def n) = int_eq expected n
succeeds (Cas (Def expected) new) Undef = false
succeeds (Cas Undef new) value = false

-- a compare-exchange in which the expected value or the message's is undetermined
abbrev pub meets_undef : UpdateKind → Val → Bool
meets_undef (Add a) value = false
meets_undef (Swap a) value = false
meets_undef (Cas (Def expected) new) (Def n) = false
meets_undef (Cas (Def expected) new) Undef = true
meets_undef (Cas Undef new) value = true

-- the new value over an old one
abbrev pub updated : UpdateKind → Val → Val
updated (Add a) old = strict_in_undef (number_result Sum) old a
updated (Swap a) old = a
updated (Cas expected new) old = new
