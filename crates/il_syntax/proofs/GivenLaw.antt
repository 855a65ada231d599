-- A register to which a statement gives a value is one of the function.
use Rattle.std.proofs.Common.{◌≡◌, ℕ, ◌<◌, true, ◌&&◌, nat_lt, nat_le, Bool, length, Some, subst}
use Rattle.std.specs.List.{list_all}
use Rattle.std.proofs.lemmas.Bool.{and_parts, ltb-true}
use Rattle.std.proofs.lemmas.Option.{none-some, same_Some}
use Rattle.il_syntax.specs.declared.statement.Stmt.TheOpen.{Skip, Copy, Compute, Load, Store, AtomicLoad, AtomicStore, Update, Fence, Print, If, While, Call}
use Rattle.il_syntax.specs.Statements.{Head, heads_of_all}
use Rattle.il_syntax.specs.WellFormed.{atom_exists, operands_exist, numbers_exist, each_statement}
use Rattle.il_syntax.specs.Given.{gives}
use Rattle.il_syntax.specs.Laws.{GivenRegistersExist}
use Rattle.il_syntax.proofs.Passing.{passing_at}

-- the first part of a test says that the register is there
there : (n r s : ℕ) (rest : Bool) → (nat_lt r n && rest) ≡ true → Some r ≡ Some s → s < n
there n r s rest e g = subst (λ k. k < n) (same_Some r s g) (ltb-true r n (and_parts (nat_lt r n) rest e).0)

given_there : (n functions r : ℕ) (h : Head) → numbers_exist n functions h ≡ true → gives h ≡ Some r → r < n
given_there n functions r Skip e g = absurd (none-some r g)
given_there n functions r (Copy s a) e g = there n s r (atom_exists n a) e g
given_there n functions r (Compute s op a b) e g = there n s r (atom_exists n a && atom_exists n b) e g
given_there n functions r (Load s x) e g = subst (λ k. k < n) (same_Some s r g) (ltb-true s n e)
given_there n functions r (Store x a) e g = absurd (none-some r g)
given_there n functions r (AtomicLoad s order y) e g = subst (λ k. k < n) (same_Some s r g) (ltb-true s n e)
given_there n functions r (AtomicStore order y a) e g = absurd (none-some r g)
given_there n functions r (Update s order y kind) e g = there n s r (operands_exist n kind) e g
given_there n functions r (Fence order) e g = absurd (none-some r g)
given_there n functions r (Print a) e g = absurd (none-some r g)
given_there n functions r (If a first second) e g = absurd (none-some r g)
given_there n functions r (While a body) e g = absurd (none-some r g)
given_there n functions r (Call s function args) e g = there n s r (nat_lt function functions && list_all (atom_exists n) args) e g

pub given_registers_exist : GivenRegistersExist
given_registers_exist d f site r h e at g =
    let n = length f.registers in
    let test = numbers_exist n (length d.params) in
    let params = and_parts (nat_le f.params n) (each_statement test f && atom_exists n f.result) e in
    let numbers = and_parts (each_statement test f) (atom_exists n f.result) params.1 in
    given_there n (length d.params) r h (passing_at test (heads_of_all f.body.statements) site h numbers.0 at) g
