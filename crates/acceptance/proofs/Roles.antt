-- A change in place of loads and stores, with the role of what each becomes: that of every other statement is that it
-- is the same.
use Rattle.std.proofs.Common.{◌≡◌, ℕ, Bool, true, false, Some, refl, ap, ◌∙◌}
use Rattle.std.proofs.lemmas.Bool.{false≢true}
use Rattle.il_syntax.specs.declared.statement.Atom.{Atom}
use Rattle.il_syntax.specs.declared.statement.Stmt.TheOpen.{Skip, Copy, Compute, Load, Store}
use Rattle.il_paths.specs.Tree.{Leaf, head_of_leaf}
use Rattle.rewriting.specs.Kinds.{Kinds, always, by_kind, unchanged, rewritten_leaf}
use Rattle.rewriting.proofs.Callers.{each_kind, each_rewritten}
use Rattle.validator.specs.declared.role.Role.{Role}
use Rattle.validator.specs.declared.role.Role.TheVariants.{Same, Turned, Removed, Inserted}
use Rattle.validator.specs.Walk.{role_of}
use Rattle.validator.specs.Merged.{restored_skip, restored_copy, restored_leaf}
use Rattle.acceptance.proofs.Heads.{role_self}
use Rattle.validator.proofs.Callers.{same_turned, same_removed, removed_inserted}

-- Roles that differ.

is_turned : Role → Bool
is_turned (Turned x a) = true
is_turned _ = false

is_removed : Role → Bool
is_removed (Removed x a) = true
is_removed _ = false

is_inserted : Role → Bool
is_inserted Inserted = true
is_inserted _ = false

pub turned_removed : (y : ℕ) (b : Atom) (x : ℕ) (a : Atom) → Turned y b ≡ Removed x a → ⊥
unfolding is_removed
turned_removed y b x a e = false≢true (ap is_removed e)

pub removed_turned : (y : ℕ) (b : Atom) (x : ℕ) (a : Atom) → Removed y b ≡ Turned x a → ⊥
unfolding is_turned
removed_turned y b x a e = false≢true (ap is_turned e)

-- A role tells its location and its atom.

place : ℕ → Role → ℕ
place n (Turned x a) = x
place n (Removed x a) = x
place n _ = n

atom : Atom → Role → Atom
atom b (Turned x a) = a
atom b (Removed x a) = a
atom b _ = b

pub turned_is : (y : ℕ) (b : Atom) (x : ℕ) (a : Atom) → Turned y b ≡ Turned x a → (y ≡ x) × (b ≡ a)
unfolding place atom
turned_is y b x a e = (ap (place y) e, ap (atom b) e)

pub removed_is : (y : ℕ) (b : Atom) (x : ℕ) (a : Atom) → Removed y b ≡ Removed x a → (y ≡ x) × (b ≡ a)
unfolding place atom
removed_is y b x a e = (ap (place y) e, ap (atom b) e)

-- what is the same stays
pub same_stays : (leaf : Leaf) → restored_leaf Same leaf ≡ leaf
same_stays =
    each_rewritten (λ leaf new. new ≡ leaf) (record unchanged { skip = restored_skip Same; copy = restored_copy Same })
    (record { skip = refl; copy = λ r a. refl; compute = λ r o a b. refl; load = λ r x. refl; store = λ x a. refl; other = λ leaf. refl })

-- What loads and stores become, the role of that, and why it is the role.
pub record Turning : Type 0 where
  pub load : ℕ → ℕ → Leaf
  pub store : ℕ → Atom → Leaf
  pub load_role : ℕ → ℕ → Role
  pub store_role : ℕ → Atom → Role
  pub load_means : (r x : ℕ) → role_of (Load r x) (head_of_leaf (load r x)) ≡ Some (load_role r x)
  pub store_means : (x : ℕ) (a : Atom) → role_of (Store x a) (head_of_leaf (store x a)) ≡ Some (store_role x a)
  pub load_back : (r x : ℕ) → restored_leaf (load_role r x) (load r x) ≡ Load r x
  pub store_back : (x : ℕ) (a : Atom) → restored_leaf (store_role x a) (store x a) ≡ Store x a

module _ (t : Turning) where
  abbrev leaves : Kinds Leaf
  leaves = record unchanged { load = t.load; store = t.store }

  abbrev roles : Kinds Role
  roles = record (always Same) { load = t.load_role; store = t.store_role }

  abbrev same : Leaf → Role
  same leaf = Same

  -- the role of what a statement becomes
  abbrev pub role_by : Leaf → Role
  role_by = by_kind roles same

  pub means : (leaf : Leaf) → role_of (head_of_leaf leaf) (head_of_leaf (rewritten_leaf leaves leaf)) ≡ Some (role_by leaf)
  means =
      each_kind (λ leaf new role. role_of (head_of_leaf leaf) (head_of_leaf new) ≡ Some role) leaves (λ leaf. leaf) roles same
      (record { skip = role_self Skip; copy = λ r a. role_self (Copy r a); compute = λ r o a b. role_self (Compute r o a b); load = t.load_means; store = t.store_means; other = λ leaf. role_self (head_of_leaf leaf) })

  pub back : (leaf : Leaf) → restored_leaf (role_by leaf) (rewritten_leaf leaves leaf) ≡ leaf
  back =
      each_kind (λ leaf new role. restored_leaf role new ≡ leaf) leaves (λ leaf. leaf) roles same
      (record { skip = refl; copy = λ r a. refl; compute = λ r o a b. refl; load = t.load_back; store = t.store_back; other = same_stays })

  -- a fact of roles by cases
  pub each_role : (P : Leaf → Role → Type 0) → ((leaf : Leaf) → P leaf Same) → ((r x : ℕ) → P (Load r x) (t.load_role r x)) → ((x : ℕ) (a : Atom) → P (Store x a) (t.store_role x a)) → (leaf : Leaf) → P leaf (role_by leaf)
  each_role P same_role load_role store_role =
      each_kind (λ leaf role _. P leaf role) roles same roles same
      (record { skip = same_role Skip; copy = λ r a. same_role (Copy r a); compute = λ r o a b. same_role (Compute r o a b); load = load_role; store = store_role; other = same_role })
