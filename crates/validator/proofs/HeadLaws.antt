-- What the role of a statement says of it and its partner.
use Rattle.std.proofs.Common.{◌≡◌, ℕ, Bool, true, false, cond, ◌==◌, Some, None, refl, sym, ap, subst}
use Rattle.std.proofs.lemmas.Bool.{eqb-true}
use Rattle.std.proofs.lemmas.Option.{none-some, same_Some}
use Rattle.il_syntax.specs.declared.statement.Atom.{Atom}
use Rattle.il_syntax.specs.declared.statement.Stmt.TheOpen.{Skip, Copy, Load, Store}
use Rattle.il_syntax.specs.Statements.{Head}
use Rattle.rewriting.specs.Heads.{same_head}
use Rattle.rewriting.proofs.Callers.{same_head-true}
use Rattle.validator.specs.Roles.{Role, Same, Turned, Removed, Inserted}
use Rattle.validator.specs.Walk.{turned_role, removed_role, changed_role, role_of}

-- what a role says of the partner and of the statement
abbrev pub Means : Head → Head → Role → Type 0
Means u h Same = u ≡ h
Means u h (Turned x e) = (r : ℕ) × (u ≡ Load r x) × (h ≡ Copy r e)
Means u h (Removed x e) = (u ≡ Store x e) × (h ≡ Skip)
Means u h Inserted = ⊥

turned_means : (r x : ℕ) (h : Head) (role : Role) → turned_role r x h ≡ Some role → Means (Load r x) h role
turned_means r x (Copy s a) role e = go (r == s) refl e
  where
    go : (t : Bool) → (r == s) ≡ t → cond t (Some (Turned x a)) None ≡ Some role → Means (Load r x) (Copy s a) role
    go true f k = subst (Means (Load r x) (Copy s a)) (same_Some (Turned x a) role k) (r, refl, ap (λ (n : ℕ). Copy n a) (sym (eqb-true r s f)))
    go false f k = absurd (none-some role k)
turned_means r x _ role e = absurd (none-some role e)

removed_means : (x : ℕ) (a : Atom) (h : Head) (role : Role) → removed_role x a h ≡ Some role → Means (Store x a) h role
removed_means x a Skip role e = subst (Means (Store x a) Skip) (same_Some (Removed x a) role e) (refl, refl)
removed_means x a _ role e = absurd (none-some role e)

changed_means : (u h : Head) (role : Role) → changed_role u h ≡ Some role → Means u h role
changed_means (Load r x) h role e = turned_means r x h role e
changed_means (Store x a) h role e = removed_means x a h role e
changed_means _ h role e = absurd (none-some role e)

pub role_means : (u h : Head) (role : Role) → role_of u h ≡ Some role → Means u h role
role_means u h role e = go (same_head u h) refl e
  where
    go : (t : Bool) → same_head u h ≡ t → cond t (Some Same) (changed_role u h) ≡ Some role → Means u h role
    go true f k = subst (Means u h) (same_Some Same role k) (same_head-true u h f)
    go false f k = changed_means u h role k
