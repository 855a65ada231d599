-- Loads turned into atoms that are known are accepted.
use Rattle.std.proofs.Common.{◌≡◌, ℕ, Bool, true, false, cond, List, Option, Some, None, refl, sym, ap, ◌∙◌, subst, ⊎_elim, arith}
use Rattle.std.proofs.lemmas.Bool.{false≢true}
use Rattle.il_syntax.specs.declared.statement.Atom.{Atom}
use Rattle.il_syntax.specs.declared.statement.Stmt.TheOpen.{Load, Store}
use Rattle.il_syntax.specs.declared.program.Function.{Function}
use Rattle.il_paths.specs.Tree.{Leaf, head_of_leaf, Tree, tree_of}
use Rattle.il_paths.specs.Code.{Visit, placed}
use Rattle.flow_facts.specs.declared.level.Kind.{Kind}
use Rattle.flow_facts.specs.declared.level.Kind.TheVariants.{Both}
use Rattle.flow_facts.specs.declared.level.Level.{Level}
use Rattle.flow_facts.specs.declared.level.Level.TheVariants.{Nothing}
use Rattle.flow_facts.specs.Levels.{rank_of, IsLevel}
use Rattle.flow_facts.specs.Rows.{IsBest}
use Rattle.flow_facts.proofs.Callers.{more_along, rank_injective, levels_exist}
use Rattle.forwarding.specs.Forwarded.{copy_or_load, forwarded_leaf, IsForwarded}
use Rattle.rewriting.specs.Changed.{IsChanged}
use Rattle.validator.specs.declared.role.Role.{Role}
use Rattle.validator.specs.declared.role.Role.TheVariants.{Same, Turned, Removed}
use Rattle.validator.specs.Roles.{pends}
use Rattle.validator.specs.declared.walk.Part.{Part}
use Rattle.validator.specs.declared.fault.Fault.{Fault}
use Rattle.validator.specs.declared.fault.Fault.TheVariants.{V1, V2, V3, V4, V5, V6, V7}
use Rattle.validator.specs.Walk.{role_at, role_of}
use Rattle.validator.specs.Merged.{restored_leaf}
use Rattle.validator.specs.Faults.{FaultAt, Accepts}
use Rattle.acceptance.specs.Known.{AreKnown}
use Rattle.acceptance.specs.Laws.{KnownLoadsAreAccepted, ForwardedIsAccepted}
use Rattle.acceptance.proofs.Heads.{role_self}
use Rattle.acceptance.proofs.Roles.{turned_removed, turned_is, Turning, role_by, means, back, each_role}
use Rattle.acceptance.proofs.Pending.{never_pends}
use Rattle.acceptance.proofs.Changed.{parts_of, found, none_stray, changed_accepted}
use Rattle.il_paths.proofs.Callers.{site_within}
use Rattle.rewriting.proofs.Callers.{self}
use Rattle.validator.proofs.Callers.{same_turned, same_removed}

abbrev turned_by : Option Atom → ℕ → Role
turned_by None x = Same
turned_by (Some a) x = Turned x a

load_means : (mark : Option Atom) (r x : ℕ) → role_of (Load r x) (head_of_leaf (copy_or_load mark r x)) ≡ Some (turned_by mark x)
load_means None r x = role_self (Load r x)
load_means (Some a) r x = ap (λ (b : Bool). cond b (Some (Turned x a)) None) (self r)

load_back : (mark : Option Atom) (r x : ℕ) → restored_leaf (turned_by mark x) (copy_or_load mark r x) ≡ Load r x
load_back None r x = refl
load_back (Some a) r x = refl

-- loads may become copies
abbrev turning : (ℕ → Option Atom) → Turning
turning atom = record {
  load = λ r x. copy_or_load (atom x) r x;
  store = λ x a. Store x a;
  load_role = λ r x. turned_by (atom x) x;
  store_role = λ x a. Same;
  load_means = λ r x. load_means (atom x) r x;
  store_means = λ x a. role_self (Store x a);
  load_back = λ r x. load_back (atom x) r x;
  store_back = λ x a. refl;
}

-- nothing is removed
load_removed : (mark : Option Atom) (y x : ℕ) (a : Atom) → turned_by mark y ≡ Removed x a → ⊥
load_removed None y x a e = same_removed x a e
load_removed (Some b) y x a e = turned_removed y b x a e

never_removed : (atom : ℕ → Option Atom) (leaf : Leaf) (x : ℕ) (a : Atom) → role_by (turning atom) leaf ≡ Removed x a → ⊥
never_removed atom leaf x a =
    each_role (turning atom) (λ _ role. role ≡ Removed x a → ⊥) (λ _. same_removed x a) (λ r y. load_removed (atom y) y x a) (λ y b. same_removed x a) leaf

-- what is turned is a load that has an atom
load_turned : (mark : Option Atom) (y x : ℕ) (a : Atom) → turned_by mark y ≡ Turned x a → (y ≡ x) × (mark ≡ Some a)
load_turned None y x a e = absurd (same_turned x a e)
load_turned (Some b) y x a e = let is = turned_is y b x a e in (is.0, ap Some is.1)

turned_load : (atom : ℕ → Option Atom) (leaf : Leaf) (x : ℕ) (a : Atom) → role_by (turning atom) leaf ≡ Turned x a → (r : ℕ) × (head_of_leaf leaf ≡ Load r x) × (atom x ≡ Some a)
turned_load atom leaf x a =
    each_role (turning atom) (λ leaf role. role ≡ Turned x a → (r : ℕ) × (head_of_leaf leaf ≡ Load r x) × (atom x ≡ Some a)) (λ _ e. absurd (same_turned x a e))
    (λ r y e. let p = load_turned (atom y) y x a e in (r, ap (λ (z : ℕ). Load r z) p.0, subst (λ (z : ℕ). atom z ≡ Some a) p.0 p.1)) (λ y b e. absurd (same_turned x a e)) leaf

-- what is above nothing in one kind is above nothing in both
known_to_both : (t : Tree) (site : ℕ) (kind : Kind) (x : ℕ) (a : Atom) (l : Level) → IsLevel (placed 0 t) site kind x a l → IsLevel (placed 0 t) site Both x a Nothing → l ≡ Nothing
known_to_both t site kind x a l one two =
    let low = one.below two.reached.0 two.reached.1 in
    let more = more_along kind x a two.reached.0 Nothing Nothing (omega arith) in
    let r = ap rank_of two.reached.2 in
    rank_injective l Nothing (omega (arith, low, more, r))

module _ (kind : Kind) (atom : ℕ → ℕ → Option Atom) (f : Function) (known : AreKnown kind atom f) where
  abbrev t : Tree
  t = tree_of f.body

  abbrev changes : ℕ → Leaf → Leaf
  changes site = forwarded_leaf (atom site)

  abbrev roles : ℕ → Leaf → Role
  roles site = role_by (turning (atom site))

  abbrev meant : (n : ℕ) (leaf : Leaf) → role_of (head_of_leaf leaf) (head_of_leaf (changes n leaf)) ≡ Some (roles n leaf)
  meant n leaf = means (turning (atom n)) leaf

  abbrev returned : (n : ℕ) (leaf : Leaf) → restored_leaf (roles n leaf) (changes n leaf) ≡ leaf
  returned n leaf = back (turning (atom n)) leaf

  abbrev all : List Part
  all = parts_of changes roles meant returned 0 t

  none_removed : (site x : ℕ) (a : Atom) → role_at all site ≡ Removed x a → ⊥
  none_removed site x a e =
      ⊎_elim (λ k. same_removed x a (sym (ap (λ (p : Part). p.role) k) ∙ e)) (λ g. never_removed (atom site) g.0 x a (sym (ap (λ (p : Part). p.role) g.2) ∙ e)) (found changes roles meant returned t site)

  never : (x : ℕ) (p : List Visit) → pends (role_at all) x p ≡ true → ⊥
  never x p e = false≢true (sym (never_pends (role_at all) none_removed x p) ∙ e)

  is_known : (site x : ℕ) (a : Atom) → role_at all site ≡ Turned x a → IsLevel (placed 0 t) site Both x a Nothing → ⊥
  is_known site x a e least =
      ⊎_elim (λ k. same_turned x a (sym (ap (λ (p : Part). p.role) k) ∙ e))
      (λ g.
      let load = turned_load (atom site) g.0 x a (sym (ap (λ (p : Part). p.role) g.2) ∙ e) in
      let here = g.1 ∙ ap Some load.1 in
      let own = levels_exist kind x a t site (site_within t site (Load load.0 x) here) in
      known site load.0 x a here load.2 own.0 own.1 (known_to_both t site kind x a own.0 own.1 least))
      (found changes roles meant returned t site)

  no_fault : (site : ℕ) (why : Fault) → FaultAt t all site why → ⊥
  no_fault site V1 k = k
  no_fault site V2 k = is_known site k.0 k.1 k.2 k.3
  no_fault site V3 k = never k.1 k.4.0 k.4.2
  no_fault site V4 k = never k.1 k.4.0 k.4.2
  no_fault site V5 k = never k.3 k.5.0 k.5.2
  no_fault site V6 k = never k.0 k.2.0 k.2.2
  no_fault site V7 k = none_stray changes roles meant returned t site k

  accepted : (g : Function) → IsChanged changes f g → Accepts f g
  accepted g is = changed_accepted changes roles meant returned f g is no_fault

pub known_loads_are_accepted : KnownLoadsAreAccepted
known_loads_are_accepted kind atom f g known is = accepted kind atom f known g is

-- what is best is known
best_known : (kind : Kind) (f g : Function) (is : IsForwarded kind f g) → AreKnown kind is.best f
best_known kind f g is site r x a here mark =
    let best = is.is_best site r x here in
    (subst (λ (b : Option Atom). IsBest (placed 0 (tree_of f.body)) site kind x b) mark best).0

pub forwarded_is_accepted : ForwardedIsAccepted
forwarded_is_accepted kind f g is = accepted kind is.best f (best_known kind f g is) g is.changed
