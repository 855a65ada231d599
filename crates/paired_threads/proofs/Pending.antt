-- Whether a location is pending after one visit more.
use Rattle.std.proofs.Common.{◌≡◌, ℕ, Bool, true, false, cond, List, [], ◌∷◌, ◌++◌, refl, sym, ap, ◌∙◌}
use Rattle.std.proofs.lemmas.Bool.{eq-eqb, ne_eqb}
use Rattle.il_syntax.specs.declared.statement.Atom.{Atom}
use Rattle.il_syntax.specs.declared.statement.Stmt.TheOpen.{Store}
use Rattle.il_syntax.specs.Statements.{Head}
use Rattle.il_paths.specs.Code.{Visit}
use Rattle.il_paths.specs.Meets.{fold_forward}
use Rattle.flow_facts.specs.declared.level.Level.TheVariants.{Nothing}
use Rattle.flow_facts.specs.declared.level.Kind.TheVariants.{Both}
use Rattle.flow_facts.specs.Levels.{level_step, level_by, level_on}
use Rattle.validator.specs.declared.role.Role.{Role}
use Rattle.validator.specs.declared.role.Role.TheVariants.{Same, Removed}
use Rattle.validator.specs.Roles.{pending_after_role, pending_step, pends}

-- what is folded over a path with one visit more
fold_more : {L : Type 0} (step : Visit → L → L) (p : List Visit) (v : Visit) (l : L) → fold_forward step (p ++ v ∷ []) l ≡ step v (fold_forward step p l)
fold_more step [] v l = refl
fold_more step (u ∷ p) v l = fold_more step p v (step u l)

pub level_more : (x : ℕ) (a : Atom) (p : List Visit) (v : Visit) (h : Head) → v.head ≡ h → level_on x a (p ++ v ∷ []) ≡ level_by x a h (level_on x a p)
level_more x a p v h e = fold_more (level_step Both x a) p v Nothing ∙ ap (λ (k : Head). level_by x a k (level_on x a p)) e

module _ (role : ℕ → Role) (path : List Visit) (v : Visit) where
  pub pends_more : (R : Role) (h : Head) (x : ℕ) → role v.site ≡ R → v.head ≡ h → pends role x (path ++ v ∷ []) ≡ pending_after_role x R h (pends role x path)
  pends_more R h x e f =
      fold_more (pending_step role x) path v false
      ∙ ap (λ (S : Role). pending_after_role x S v.head (pends role x path)) e
      ∙ ap (λ (g : Head). pending_after_role x R g (pends role x path)) f

  -- a removed store makes its location pending, and leaves the others
  pub pends_removed : (x : ℕ) (a : Atom) → role v.site ≡ Removed x a → pends role x (path ++ v ∷ []) ≡ true
  pends_removed x a e = pends_more (Removed x a) v.head x e refl ∙ ap (λ (b : Bool). cond b true (pends role x path)) (eq-eqb x x refl)

  pub pends_removed_other : (x : ℕ) (a : Atom) (y : ℕ) → role v.site ≡ Removed x a → (y ≡ x → ⊥) → pends role y (path ++ v ∷ []) ≡ pends role y path
  pends_removed_other x a y e n = pends_more (Removed x a) v.head y e refl ∙ ap (λ (b : Bool). cond b true (pends role y path)) (ne_eqb x y (λ s. n (sym s)))

  -- a store that isn't removed settles its location, and leaves the others
  pub pends_stored : (x : ℕ) (a : Atom) → role v.site ≡ Same → v.head ≡ Store x a → pends role x (path ++ v ∷ []) ≡ false
  pends_stored x a e f = pends_more Same (Store x a) x e f ∙ ap (λ (b : Bool). cond b false (pends role x path)) (eq-eqb x x refl)

  pub pends_stored_other : (x : ℕ) (a : Atom) (y : ℕ) → role v.site ≡ Same → v.head ≡ Store x a → (y ≡ x → ⊥) → pends role y (path ++ v ∷ []) ≡ pends role y path
  pends_stored_other x a y e f n = pends_more Same (Store x a) y e f ∙ ap (λ (b : Bool). cond b false (pends role y path)) (ne_eqb x y (λ s. n (sym s)))
