-- Dead stores that became a `skip` are accepted.
use Rattle.std.proofs.Common.{◌≡◌, ℕ, Bool, true, false, List, [], ◌∷◌, ◌++◌, slice_get, Some, refl, sym, ap, ◌∙◌, subst, ⊎_elim, append-nil}
use Rattle.std.specs.Prelude.{if◌then◌else◌}
use Rattle.std.proofs.lemmas.Bool.{false≢true, true≢false}
use Rattle.std.proofs.lemmas.Option.{same_Some}
use Rattle.il_syntax.specs.declared.statement.Atom.{Atom}
use Rattle.il_syntax.specs.declared.statement.Stmt.TheOpen.{Skip, Copy, Compute, Load, Store, AtomicLoad, AtomicStore, Update, Fence, Print, If, While, Call}
use Rattle.il_syntax.specs.declared.program.Function.{Function}
use Rattle.il_syntax.specs.Statements.{Head}
use Rattle.il_paths.specs.Heads.{is_release}
use Rattle.il_paths.specs.Tree.{Leaf, head_of_leaf, Tree, tree_of, heads_in}
use Rattle.il_paths.specs.Code.{Visit, placed}
use Rattle.il_paths.specs.Paths.{IsPath, Before}
use Rattle.dead_store.specs.Overwritten.{stores_to, needs, AllPassBy, IsOverwrittenFirst}
use Rattle.dead_store.specs.Undead.{dropped_leaf}
use Rattle.rewriting.specs.Changed.{IsChanged}
use Rattle.validator.specs.declared.role.Role.{Role}
use Rattle.validator.specs.declared.role.Role.TheVariants.{Same, Turned, Removed, Inserted}
use Rattle.validator.specs.Roles.{pends}
use Rattle.validator.specs.declared.walk.Part.{Part}
use Rattle.validator.specs.declared.fault.Fault.{Fault}
use Rattle.validator.specs.declared.fault.Fault.TheVariants.{V1, V2, V3, V4, V5, V6, V7}
use Rattle.validator.specs.Walk.{role_at, role_of}
use Rattle.validator.specs.Merged.{restored_leaf}
use Rattle.validator.specs.Faults.{FaultAt, Accepts}
use Rattle.validator.proofs.Callers.{visited_head, same_turned, same_removed, removed_inserted, same_inserted}
use Rattle.acceptance.specs.Known.{AreDead}
use Rattle.acceptance.specs.Laws.{DeadStoresAreAccepted, UndeadIsAccepted}
use Rattle.acceptance.proofs.Heads.{role_self}
use Rattle.acceptance.proofs.Roles.{removed_turned, removed_is, Turning, role_by, means, back, each_role}
use Rattle.acceptance.proofs.Pending.{pending_is_overwritten}
use Rattle.acceptance.proofs.Changed.{parts_of, found, none_stray, changed_accepted}
use Rattle.il_paths.proofs.Callers.{site_within}
use Rattle.rewriting.proofs.Callers.{self}

abbrev removed_by : Bool → ℕ → Atom → Role
removed_by true x a = Removed x a
removed_by false x a = Same

store_means : (b : Bool) (x : ℕ) (a : Atom) → role_of (Store x a) (head_of_leaf (if b then Skip else Store x a)) ≡ Some (removed_by b x a)
store_means true x a = refl
store_means false x a = role_self (Store x a)

store_back : (b : Bool) (x : ℕ) (a : Atom) → restored_leaf (removed_by b x a) (if b then Skip else Store x a) ≡ Store x a
store_back true x a = refl
store_back false x a = refl

-- stores may be removed
abbrev turning : (ℕ → Bool) → Turning
turning dead = record {
  load = λ r x. Load r x;
  store = λ x a. if dead x then Skip else Store x a;
  load_role = λ r x. Same;
  store_role = λ x a. removed_by (dead x) x a;
  load_means = λ r x. role_self (Load r x);
  store_means = λ x a. store_means (dead x) x a;
  load_back = λ r x. refl;
  store_back = λ x a. store_back (dead x) x a;
}

-- nothing is turned, and no load is new
store_turned : (b : Bool) (y x : ℕ) (c a : Atom) → removed_by b y c ≡ Turned x a → ⊥
store_turned true y x c a e = removed_turned y c x a e
store_turned false y x c a e = same_turned x a e

never_turned : (dead : ℕ → Bool) (leaf : Leaf) (x : ℕ) (a : Atom) → role_by (turning dead) leaf ≡ Turned x a → ⊥
never_turned dead leaf x a =
    each_role (turning dead) (λ _ role. role ≡ Turned x a → ⊥) (λ _. same_turned x a) (λ r y. same_turned x a) (λ y b. store_turned (dead y) y x b a) leaf

store_inserted : (b : Bool) (y : ℕ) (c : Atom) → removed_by b y c ≡ Inserted → ⊥
store_inserted true y c e = removed_inserted y c e
store_inserted false y c e = same_inserted e

never_inserted : (dead : ℕ → Bool) (leaf : Leaf) → role_by (turning dead) leaf ≡ Inserted → ⊥
never_inserted dead leaf = each_role (turning dead) (λ _ role. role ≡ Inserted → ⊥) (λ _. same_inserted) (λ r y. same_inserted) (λ y b. store_inserted (dead y) y b) leaf

-- what is removed is a dead store
store_removed : (b : Bool) (y x : ℕ) (c a : Atom) → removed_by b y c ≡ Removed x a → (b ≡ true) × (y ≡ x) × (c ≡ a)
store_removed true y x c a e = let is = removed_is y c x a e in (refl, is.0, is.1)
store_removed false y x c a e = absurd (same_removed x a e)

removed_store : (dead : ℕ → Bool) (leaf : Leaf) (x : ℕ) (a : Atom) → role_by (turning dead) leaf ≡ Removed x a → (head_of_leaf leaf ≡ Store x a) × (dead x ≡ true)
removed_store dead leaf x a =
    each_role (turning dead) (λ leaf role. role ≡ Removed x a → (head_of_leaf leaf ≡ Store x a) × (dead x ≡ true)) (λ _ e. absurd (same_removed x a e)) (λ r y e. absurd (same_removed x a e))
    (λ y c e. let p = store_removed (dead y) y x c a e in ((λ i. Store (p.1 i) (p.2 i)), subst (λ (z : ℕ). dead z ≡ true) p.1 p.0)) leaf

-- what needs x doesn't store to it, and is not passed by
not_first : (x : ℕ) (v : Visit) (q : List Visit) → stores_to x v.head ≡ false → needs x v.head ≡ true → IsOverwrittenFirst x (v ∷ q) → ⊥
not_first x v q s n o = go o.before o.is o.untouched
  where
    head_is : {w u : Visit} {p r : List Visit} → w ∷ p ≡ u ∷ r → w ≡ u
    head_is {w} {u} {p} {r} e = cc

    go : (before : List Visit) → v ∷ q ≡ before ++ o.store ∷ o.after → AllPassBy x before → ⊥
    go [] e u = false≢true (sym s ∙ ap (λ (w : Visit). stores_to x w.head) (head_is e) ∙ o.stores)
    go (b ∷ before) e u = true≢false (sym n ∙ ap (λ (w : Visit). needs x w.head) (head_is e) ∙ u.0.1)

-- a list with an element in it is not empty
is_some : List Visit → Bool
is_some [] = false
is_some (v ∷ p) = true

some_there : (before after : List Visit) (v : Visit) → is_some (before ++ v ∷ after) ≡ true
unfolding is_some
some_there [] after v = refl
some_there (b ∷ before) after v = refl

not_at_end : (x : ℕ) → IsOverwrittenFirst x [] → ⊥
unfolding is_some
not_at_end x o = false≢true (ap is_some o.is ∙ some_there o.before o.after o.store)

release_needs : (x : ℕ) (h : Head) → is_release h ≡ true → (stores_to x h ≡ false) × (needs x h ≡ true)
release_needs x (AtomicStore o y a) e = (refl, e)
release_needs x (Update r o y k) e = (refl, e)
release_needs x (Fence o) e = (refl, e)
release_needs x Skip e = absurd (false≢true e)
release_needs x (Copy r a) e = absurd (false≢true e)
release_needs x (Compute r o a b) e = absurd (false≢true e)
release_needs x (Load r y) e = absurd (false≢true e)
release_needs x (Store y a) e = absurd (false≢true e)
release_needs x (AtomicLoad r o y) e = absurd (false≢true e)
release_needs x (Print a) e = absurd (false≢true e)
release_needs x (If a p q) e = absurd (false≢true e)
release_needs x (While a p) e = absurd (false≢true e)
release_needs x (Call r f args) e = absurd (false≢true e)

module _ (dead : ℕ → ℕ → Bool) (f : Function) (are_dead : AreDead dead f) where
  abbrev t : Tree
  t = tree_of f.body

  abbrev changes : ℕ → Leaf → Leaf
  changes site = dropped_leaf (dead site)

  abbrev roles : ℕ → Leaf → Role
  roles site = role_by (turning (dead site))

  abbrev meant : (n : ℕ) (leaf : Leaf) → role_of (head_of_leaf leaf) (head_of_leaf (changes n leaf)) ≡ Some (roles n leaf)
  meant n leaf = means (turning (dead n)) leaf

  abbrev returned : (n : ℕ) (leaf : Leaf) → restored_leaf (roles n leaf) (changes n leaf) ≡ leaf
  returned n leaf = back (turning (dead n)) leaf

  abbrev all : List Part
  all = parts_of changes roles meant returned 0 t

  none_turned : (site x : ℕ) (a : Atom) → role_at all site ≡ Turned x a → ⊥
  none_turned site x a e =
      ⊎_elim (λ k. same_turned x a (sym (ap (λ (p : Part). p.role) k) ∙ e)) (λ g. never_turned (dead site) g.0 x a (sym (ap (λ (p : Part). p.role) g.2) ∙ e)) (found changes roles meant returned t site)

  none_inserted : (site : ℕ) → role_at all site ≡ Inserted → ⊥
  none_inserted site e =
      ⊎_elim (λ k. same_inserted (sym (ap (λ (p : Part). p.role) k) ∙ e)) (λ g. never_inserted (dead site) g.0 (sym (ap (λ (p : Part). p.role) g.2) ∙ e)) (found changes roles meant returned t site)

  -- a removed store stands at its site, and is dead
  store_there : (site x : ℕ) (a : Atom) → role_at all site ≡ Removed x a → (slice_get (heads_in t) site ≡ Some (Store x a)) × (dead site x ≡ true)
  store_there site x a e =
      ⊎_elim (λ k. absurd (same_removed x a (sym (ap (λ (p : Part). p.role) k) ∙ e)))
      (λ g. let s = removed_store (dead site) g.0 x a (sym (ap (λ (p : Part). p.role) g.2) ∙ e) in (g.1 ∙ ap Some s.0, s.1))
      (found changes roles meant returned t site)

  store_head : (v : Visit) (y : ℕ) (a : Atom) → role_at all v.site ≡ Removed y a → (p q : List Visit) → IsPath (placed 0 t) (p ++ (v ∷ q)) → v.head ≡ Store y a
  store_head v y a e p q path = same_Some v.head (Store y a) (sym (visited_head t p v q path) ∙ (store_there v.site y a e).0)

  overwritten : (x : ℕ) (p rest : List Visit) → IsPath (placed 0 t) (p ++ rest) → pends (role_at all) x p ≡ true → IsOverwrittenFirst x rest
  overwritten x p rest path e =
      pending_is_overwritten (placed 0 t) (role_at all) x store_head none_turned none_inserted
      (λ site a r q after. let s = store_there site x a r in are_dead site x a s.0 s.1 q after)
      p rest path e

  -- nothing that needs x is reached with x pending
  not_reached : (site x : ℕ) (h : Head) → slice_get (heads_in t) site ≡ Some h → stores_to x h ≡ false → needs x h ≡ true → (p : List Visit) → Before (placed 0 t) site p → pends (role_at all) x p ≡ true → ⊥
  not_reached site x h here s n p b e =
      let v = b.0 in
      let q = b.1 in
      let at : v.head ≡ h = same_Some v.head h (sym (visited_head t p v q b.3) ∙ ap (slice_get (heads_in t)) b.2 ∙ here) in
      not_first x v q (ap (stores_to x) at ∙ s) (ap (needs x) at ∙ n) (overwritten x p (v ∷ q) b.3 e)

  no_fault : (site : ℕ) (why : Fault) → FaultAt t all site why → ⊥
  no_fault site V1 k = k
  no_fault site V2 k = none_turned site k.0 k.1 k.2
  no_fault site V3 k = not_reached site k.1 (Load k.0 k.1) k.2 refl (self k.1) k.4.0 k.4.1 k.4.2
  no_fault site V4 k = let r = release_needs k.1 k.0 k.3 in not_reached site k.1 k.0 k.2 r.0 r.1 k.4.0 k.4.1 k.4.2
  no_fault site V5 k = not_reached site k.3 (Call k.0 k.1 k.2) k.4 refl refl k.5.0 k.5.1 k.5.2
  no_fault site V6 k = not_at_end k.0 (overwritten k.0 k.2.0 [] (subst (IsPath (placed 0 t)) (sym (append-nil k.2.0)) k.2.1) k.2.2)
  no_fault site V7 k = none_stray changes roles meant returned t site k

  accepted : (g : Function) → IsChanged changes f g → Accepts f g
  accepted g is = changed_accepted changes roles meant returned f g is no_fault

pub dead_stores_are_accepted : DeadStoresAreAccepted
dead_stores_are_accepted dead f g known is = accepted dead f known g is

pub undead_is_accepted : UndeadIsAccepted
undead_is_accepted f g is =
    accepted is.dead f (λ site x a here e. (is.overwritten site x (site_within (tree_of f.body) site (Store x a) here)).0 e) g is.changed
