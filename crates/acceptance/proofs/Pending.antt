-- What is pending along a path: nothing where nothing is removed, and what is overwritten first where each removed
-- store is dead.
use Rattle.std.proofs.Common.{◌≡◌, ℕ, Bool, true, false, cond, ◌==◌, List, [], ◌∷◌, ◌++◌, refl, sym, ap, ◌∙◌, subst, ◌⊎◌, inl, inr, ⊎_elim, append_assoc}
use Rattle.std.proofs.lemmas.Bool.{false≢true, eqb-true}
use Rattle.il_syntax.specs.declared.statement.Atom.{Atom}
use Rattle.il_syntax.specs.declared.statement.Stmt.TheOpen.{Skip, Copy, Compute, Load, Store, AtomicLoad, AtomicStore, Update, Fence, Print, If, While, Call}
use Rattle.il_syntax.specs.Statements.{Head}
use Rattle.il_paths.specs.Code.{Visit, Code}
use Rattle.il_paths.specs.Paths.{IsPath, After}
use Rattle.il_paths.specs.Meets.{fold_forward}
use Rattle.dead_store.specs.Overwritten.{stores_to, AllPassBy, IsOverwrittenFirst}
use Rattle.validator.specs.declared.role.Role.{Role}
use Rattle.validator.specs.declared.role.Role.TheVariants.{Same, Turned, Removed, Inserted}
use Rattle.validator.specs.Roles.{pending_after_head, pending_after_role, pending_step, pends}

-- what doesn't settle x, and leaves it pending, is no store to x
kept_pending : (x : ℕ) (head : Head) (b : Bool) → pending_after_head x head b ≡ true → (b ≡ true) × (stores_to x head ≡ false)
kept_pending x Skip b e = (e, refl)
kept_pending x (Copy r a) b e = (e, refl)
kept_pending x (Compute r op p q) b e = (e, refl)
kept_pending x (Load r y) b e = (e, refl)
kept_pending x (Store y a) b e = go (y == x) refl e
  where
    go : (t : Bool) → (y == x) ≡ t → cond t false b ≡ true → (b ≡ true) × ((y == x) ≡ false)
    go true f g = absurd (false≢true g)
    go false f g = (g, f)
kept_pending x (AtomicLoad r order y) b e = (e, refl)
kept_pending x (AtomicStore order y a) b e = (e, refl)
kept_pending x (Update r order y kind) b e = (e, refl)
kept_pending x (Fence order) b e = (e, refl)
kept_pending x (Print a) b e = (e, refl)
kept_pending x (If a p q) b e = (e, refl)
kept_pending x (While a p) b e = (e, refl)
kept_pending x (Call r function args) b e = (e, refl)

-- where nothing is removed nothing becomes pending
stays_settled : (x : ℕ) (role : Role) (head : Head) → ((y : ℕ) (a : Atom) → role ≡ Removed y a → ⊥) → pending_after_role x role head false ≡ false
stays_settled x Same head none = never (pending_after_head x head false) (λ e. (kept_pending x head false e).0)
  where
    never : (b : Bool) → (b ≡ true → false ≡ true) → b ≡ false
    never true h = absurd (false≢true (h refl))
    never false h = refl
stays_settled x (Turned y a) head none = refl
stays_settled x (Removed y a) head none = absurd (none y a refl)
stays_settled x Inserted head none = refl

pub never_pends : (role : ℕ → Role) → ((site x : ℕ) (a : Atom) → role site ≡ Removed x a → ⊥) → (x : ℕ) (p : List Visit) → pends role x p ≡ false
never_pends role none x [] = refl
never_pends role none x (v ∷ p) =
    ap (fold_forward (pending_step role x) p) (stays_settled x (role v.site) v.head (none v.site)) ∙ never_pends role none x p

head_is : {v u : Visit} {p q : List Visit} → v ∷ p ≡ u ∷ q → v ≡ u
head_is {v} {u} {p} {q} e = cc

tail_is : {v u : Visit} {p q : List Visit} → v ∷ p ≡ u ∷ q → p ≡ q
tail_is {v} {u} {p} {q} e = cc

-- behind a statement that doesn't store to x
later_overwritten : (x : ℕ) (v : Visit) (q : List Visit) → IsOverwrittenFirst x (v ∷ q) → stores_to x v.head ≡ false → IsOverwrittenFirst x q
later_overwritten x v q o n = go o.before o.is o.untouched
  where
    go : (before : List Visit) → v ∷ q ≡ before ++ o.store ∷ o.after → AllPassBy x before → IsOverwrittenFirst x q
    go [] e u = absurd (false≢true (sym n ∙ ap (λ (w : Visit). stores_to x w.head) (head_is e) ∙ o.stores))
    go (b ∷ before) e u = record { before = before; store = o.store; after = o.after; is = tail_is e; stores = o.stores; untouched = u.1 }

-- what a statement leaves pending
step_kept : (x : ℕ) (role : Role) (head : Head) (b : Bool) → ((y : ℕ) (a : Atom) → role ≡ Removed y a → head ≡ Store y a) → ((y : ℕ) (a : Atom) → role ≡ Turned y a → stores_to x head ≡ false) → (role ≡ Inserted → stores_to x head ≡ false) → pending_after_role x role head b ≡ true → ((a : Atom) × (role ≡ Removed x a)) ⊎ ((b ≡ true) × (stores_to x head ≡ false))
step_kept x Same head b c t i e = inr (kept_pending x head b e)
step_kept x (Turned y a) head b c t i e = inr (e, t y a refl)
step_kept x Inserted head b c t i e = inr (e, i refl)
step_kept x (Removed y a) head b c t i e = go (y == x) refl e
  where
    go : (t : Bool) → (y == x) ≡ t → cond t true b ≡ true → ((d : Atom) × (Removed y a ≡ Removed x d)) ⊎ ((b ≡ true) × (stores_to x head ≡ false))
    go true f g = inl (a, ap (λ (z : ℕ). Removed z a) (eqb-true y x f))
    go false f g = inr (g, ap (stores_to x) (c y a refl) ∙ f)

-- Where stores alone are removed, each dead, the rest of each path on which x is pending overwrites x first. So no
-- load of x, release, call or end comes there.
module _ (code : Code) (role : ℕ → Role) (x : ℕ) (heads : (v : Visit) (y : ℕ) (a : Atom) → role v.site ≡ Removed y a → (p q : List Visit) → IsPath code (p ++ (v ∷ q)) → v.head ≡ Store y a) (turned : (site y : ℕ) (a : Atom) → role site ≡ Turned y a → ⊥) (inserted : (site : ℕ) → role site ≡ Inserted → ⊥) (dead : (site : ℕ) (a : Atom) → role site ≡ Removed x a → (q : List Visit) → After code site q → IsOverwrittenFirst x q) where
  along : (p rest before : List Visit) (b : Bool) → IsPath code (before ++ (p ++ rest)) → (b ≡ true → IsOverwrittenFirst x (p ++ rest)) → fold_forward (pending_step role x) p b ≡ true → IsOverwrittenFirst x rest
  along [] rest before b path so e = so e
  along (v ∷ p) rest before b path so e =
      along p rest (before ++ v ∷ []) (pending_step role x v b) (subst (IsPath code) (sym (append_assoc before (v ∷ []) (p ++ rest))) path)
      (λ f. ⊎_elim
      (λ r. dead v.site r.0 r.1 (p ++ rest) (v, before, refl, path))
      (λ k. later_overwritten x v (p ++ rest) (so k.0) k.1)
      (step_kept x (role v.site) v.head b (λ y a r. heads v y a r before (p ++ rest) path) (λ y a r. absurd (turned v.site y a r)) (λ r. absurd (inserted v.site r)) f))
      e

  pub pending_is_overwritten : (p rest : List Visit) → IsPath code (p ++ rest) → pends role x p ≡ true → IsOverwrittenFirst x rest
  pending_is_overwritten p rest path e = along p rest [] false path (λ f. absurd (false≢true f)) e
