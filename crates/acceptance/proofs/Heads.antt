-- What the walk's tests say of things beside themselves.
use Rattle.std.proofs.Common.{◌≡◌, ℕ, Bool, true, cond, ◌&&◌, ◌==◌, List, [], ◌∷◌, ◌++◌, Some, refl, ap, ◌∙◌}
use Rattle.std.proofs.lemmas.Bool.{eq-eqb}
use Rattle.std.specs.Str.{bytes_eq}
use Rattle.il_syntax.specs.Statements.{Head}
use Rattle.rewriting.proofs.Callers.{same_head-refl, both, self}
use Rattle.validator.specs.declared.role.Role.TheVariants.{Same}
use Rattle.validator.specs.Walk.{changed_role, role_of}
use Rattle.validator.specs.Faults.{begins}

pub role_self : (h : Head) → role_of h h ≡ Some Same
role_self h = ap (λ (b : Bool). cond b (Some Same) (changed_role h h)) (same_head-refl h)

pub bytes_self : (bytes : List ℕ) → bytes_eq bytes bytes ≡ true
bytes_self [] = refl
bytes_self (b ∷ bytes) = both (self b) (bytes_self bytes)

pub begins_self : (names more : List (List ℕ)) → begins names (names ++ more) ≡ true
begins_self [] more = refl
begins_self (name ∷ names) more = both (bytes_self name) (begins_self names more)
