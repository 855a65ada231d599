-- What the source wants where the target wants something.
use Rattle.il_syntax.specs.declared.program.Program.{Program}
use Rattle.values_undef.specs.declared.access.Cause.{Cause}
use Rattle.values_undef.specs.declared.access.Access.{Access}
use Rattle.values_undef.specs.declared.access.Access.TheVariants as access
use Rattle.values_undef.specs.Matching.{IsAccessBelow}
use Rattle.thread_core.specs.declared.next.Next.{Next}
use Rattle.thread_core.specs.declared.next.Next.TheVariants as next

-- where the source alone may fail: the target is silent, prints or fails
abbrev pub MayFailBeside : Next → Type 0
MayFailBeside next.Silent = Unit {0}
MayFailBeside (next.Access (access.NaRead x)) = ⊥
MayFailBeside (next.Access (access.NaWrite x v)) = ⊥
MayFailBeside (next.Access (access.Read y order)) = ⊥
MayFailBeside (next.Access (access.Write y order v)) = ⊥
MayFailBeside (next.Access (access.Update y order kind)) = ⊥
MayFailBeside (next.Access (access.Fence order)) = ⊥
MayFailBeside (next.Access (access.Print v)) = Unit {0}
MayFailBeside (next.Access (access.Fail cause)) = Unit {0}
MayFailBeside (next.Access access.Finish) = ⊥
MayFailBeside (next.Access access.Spend) = ⊥

-- the same with values above, or it fails
pub data IsNextBelow : Next → Next → Type 0 where
  both_silent : IsNextBelow next.Silent next.Silent
  both_ask : {a b : Access} → IsAccessBelow a b → IsNextBelow (next.Access a) (next.Access b)
  source_fails : {n : Next} {cause : Cause} → MayFailBeside n → IsNextBelow n (next.Access (access.Fail cause))
