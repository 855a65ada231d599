-- The fault that the tables tell at a site is the target's first one there.
use Rattle.std.proofs.Common.{◌≡◌, ℕ, zero, suc, ◌<◌, ◌≤◌, ◌⊎◌, inl, inr, ⊎_elim, Bool, true, false, cond, ◌&&◌, ◌||◌, ◌==◌, List, [], ◌∷◌, length, slice_get, Option, Some, None, refl, sym, ap, ◌∙◌, subst, arith}
use Rattle.std.specs.Prelude.{not, if◌then◌else◌}
use Rattle.std.proofs.lemmas.Bool.{false≢true, true≢false, cases_lt, eq-eqb}
use Rattle.std.proofs.lemmas.Option.{none-some, same_Some}
use Rattle.il_syntax.specs.declared.statement.Atom.{Atom}
use Rattle.il_syntax.specs.declared.statement.Stmt.TheOpen.{Skip, Copy, Compute, Load, Store, AtomicLoad, AtomicStore, Update, Fence, Print, If, While, Call}
use Rattle.il_syntax.specs.Statements.{Head}
use Rattle.il_paths.specs.Heads.{is_release}
use Rattle.il_paths.specs.Tree.{Tree, sites_of, heads_in}
use Rattle.il_paths.specs.Code.{Code, placed}
use Rattle.flow_facts.specs.declared.level.Kind.TheVariants.{Both}
use Rattle.flow_facts.specs.declared.level.Level.{Level}
use Rattle.flow_facts.specs.declared.level.Level.TheVariants.{Nothing, Held, Fresh}
use Rattle.flow_facts.specs.declared.known.Known.{Known}
use Rattle.flow_facts.specs.Levels.{rank_of, IsLevel}
use Rattle.flow_facts.specs.Rows.{level_at}
use Rattle.location_sets.specs.Sets.{has}
use Rattle.validator.specs.Roles.{Role, Same, Turned, Removed, Inserted}
use Rattle.validator.specs.declared.walk.Part.{Part}
use Rattle.validator.specs.declared.pending.Pending.{Pending}
use Rattle.validator.specs.declared.told.Need.{Need}
use Rattle.validator.specs.declared.told.Need.TheVariants as need
use Rattle.validator.specs.declared.fault.Fault.{Fault}
use Rattle.validator.specs.declared.fault.Fault.TheVariants.{V1, V2, V3, V4, V5, V6, V7}
use Rattle.validator.specs.declared.fault.Judged.{Judged}
use Rattle.validator.specs.declared.fault.Judged.TheVariants.{Yes, No}
use Rattle.validator.specs.Walk.{part_at, role_at, with_partner}
use Rattle.validator.specs.Pending.{set_at, ArePending, is_none}
use Rattle.validator.specs.Faults.{is_turned, number, FaultAt, IsJudgedBy}
use Rattle.validator.specs.Told.{release_need, need_of, needs_of, need_at, is_nothing, unknown_at, unsettled_at, unfollowed, or_else, fault_at, IsTold}
use Rattle.validator.proofs.NeedLaws.{need_is, head_at}
use Rattle.il_paths.proofs.Callers.{site_within}
use Rattle.flow_facts.proofs.Callers.{rank_injective}

one_level : (c : Code) (site x : ℕ) (a : Atom) (m n : Level) → IsLevel c site Both x a m → IsLevel c site Both x a n → m ≡ n
one_level c site x a m n f g =
    let p = f.below g.reached.0 g.reached.1 in
    let q = g.below f.reached.0 f.reached.1 in
    let r = ap rank_of f.reached.2 in
    let s = ap rank_of g.reached.2 in
    rank_injective m n (omega arith)

is_nothing-true : (l : Level) → is_nothing l ≡ true → l ≡ Nothing
is_nothing-true Nothing e = refl
is_nothing-true Held e = absurd (false≢true e)
is_nothing-true Fresh e = absurd (false≢true e)

not_and : (p q : Bool) → (not p && q) ≡ true → (p ≡ false) × (q ≡ true)
not_and true q e = absurd (false≢true e)
not_and false q e = (refl, e)

number_least : (w : Fault) → number w ≤ 7
number_least V1 = omega arith
number_least V2 = omega arith
number_least V3 = omega arith
number_least V4 = omega arith
number_least V5 = omega arith
number_least V6 = omega arith
number_least V7 = omega arith

-- a set that has a location is not empty, and the other way round
some_in : (set : List ℕ) (x : ℕ) → has x set ≡ true → is_none set ≡ false
some_in [] x e = absurd (false≢true e)
some_in (y ∷ set) x e = refl

or_here : (p q : Bool) → p ≡ true → (p || q) ≡ true
or_here p q e = ap (λ (b : Bool). b || q) e

in_some : (set : List ℕ) → is_none set ≡ false → (x : ℕ) × (has x set ≡ true)
in_some [] e = absurd (true≢false e)
in_some (y ∷ set) e = (y, or_here (y == y) (has y set) (eq-eqb y y refl))

-- what is told is at most this fault
abbrev AtMostTold : Option Fault → Fault → Type 0
AtMostTold told w = (v : Fault) × (told ≡ Some v) × (number v ≤ number w)

told_unknown : (u : Bool) (s : Option Fault) → u ≡ true → AtMostTold (cond u (Some V2) s) V2
told_unknown u s e = (V2, ap (λ (b : Bool). cond b (Some V2) s) e, omega arith)

told_unsettled : (u : Bool) (s f : Option Fault) (w : Fault) → 2 ≤ number w → s ≡ Some w → AtMostTold (cond u (Some V2) (or_else s f)) w
told_unsettled true s f w h e = (V2, refl, h)
told_unsettled false s f w h e = (w, ap (λ (o : Option Fault). or_else o f) e, omega arith)

told_unfollowed : (u : Bool) (s f : Option Fault) → f ≡ Some V7 → AtMostTold (cond u (Some V2) (or_else s f)) V7
told_unfollowed true s f e = (V2, refl, omega arith)
told_unfollowed false None f e = (V7, e, omega arith)
told_unfollowed false (Some v) f e = (v, refl, number_least v)

-- beyond the parts there are none of these faults
past : (parts : List Part) (s : ℕ) → length parts ≤ s → part_at parts s ≡ with_partner Same
past [] s h = refl
past (r ∷ rs) zero h = absurd (omega (arith, h))
past (r ∷ rs) (suc s) h = past rs s (omega (arith, h))

pub same_turned : (x : ℕ) (a : Atom) → Same ≡ Turned x a → ⊥
same_turned x a e = false≢true (ap is_turned e)

-- a release's need, and the release of such a need
need_of-release : (h : Head) → is_release h ≡ true → need_of h ≡ need.Release
need_of-release (AtomicStore order y a) e = ap release_need e
need_of-release (Update r order y kind) e = ap release_need e
need_of-release (Fence order) e = ap release_need e
need_of-release Skip e = absurd (false≢true e)
need_of-release (Copy r a) e = absurd (false≢true e)
need_of-release (Compute r op a b) e = absurd (false≢true e)
need_of-release (Load r x) e = absurd (false≢true e)
need_of-release (Store x a) e = absurd (false≢true e)
need_of-release (AtomicLoad r order y) e = absurd (false≢true e)
need_of-release (Print a) e = absurd (false≢true e)
need_of-release (If a _ _) e = absurd (false≢true e)
need_of-release (While a _) e = absurd (false≢true e)
need_of-release (Call r f args) e = absurd (false≢true e)

-- what a statement is, by its need
abbrev Needs : Need → Head → Type 0
Needs need.Nothing h = Unit {0}
Needs (need.Value x) h = (r : ℕ) × (h ≡ Load r x)
Needs need.Release h = is_release h ≡ true
Needs need.Call h = (r : ℕ) × (f : ℕ) × (args : List Atom) × (h ≡ Call r f args)

by_release : (h : Head) (b : Bool) → is_release h ≡ b → Needs (release_need b) h
by_release h true e = e
by_release h false e = tt

needs : (h : Head) → Needs (need_of h) h
needs Skip = tt
needs (Copy r a) = tt
needs (Compute r op a b) = tt
needs (Load r x) = (r, refl)
needs (Store x a) = tt
needs (AtomicLoad r order y) = tt
needs (AtomicStore order y a) = by_release (AtomicStore order y a) (is_release (AtomicStore order y a)) refl
needs (Update r order y kind) = by_release (Update r order y kind) (is_release (Update r order y kind)) refl
needs (Fence order) = by_release (Fence order) (is_release (Fence order)) refl
needs (Print a) = tt
needs (If a _ _) = tt
needs (While a _) = tt
needs (Call r f args) = (r, f, args, refl)

-- the table has the level of each turned load
abbrev pub TellsTurned : Tree → List Part → List (List Known) → Type 0
TellsTurned merged parts table = (site x : ℕ) (a : Atom) → role_at parts site ≡ Turned x a → site < sites_of merged → IsLevel (placed 0 merged) site Both x a (level_at table site x a)

module _ (merged : Tree) (parts : List Part) (table : List (List Known)) (pending : Pending) (tells : TellsTurned merged parts table) (are_pending : ArePending merged (role_at parts) pending) where
  abbrev set : ℕ → List ℕ
  set site = set_at pending.before site

  abbrev told : ℕ → Option Fault
  told site = fault_at table parts (needs_of merged) pending site

  -- an unsettled statement is told
  unsettled_told : (site : ℕ) (h : Head) (n : Need) (w : Fault) → 2 ≤ number w → slice_get (heads_in merged) site ≡ Some h → need_of h ≡ n → unsettled_at (set site) (role_at parts site) n ≡ Some w → AtMostTold (told site) w
  unsettled_told site h n w k e f g =
      told_unsettled (unknown_at table (role_at parts site) site) (unsettled_at (set site) (role_at parts site) (need_at (needs_of merged) site)) (unfollowed (part_at parts site).stray) w k
      (ap (unsettled_at (set site) (role_at parts site)) (need_is merged site h e ∙ f) ∙ g)

  -- each fault at a site is told, or one with a lower number
  fault_told : (site : ℕ) → site < sites_of merged → (w : Fault) → FaultAt merged parts site w → AtMostTold (told site) w
  fault_told site h V1 k = absurd k
  fault_told site h V2 k =
      let level = one_level (placed 0 merged) site k.0 k.1 _ Nothing (tells site k.0 k.1 k.2 h) k.3 in
      told_unknown (unknown_at table (role_at parts site) site) _ (ap (λ (r : Role). unknown_at table r site) k.2 ∙ ap is_nothing level)
  fault_told site h V3 k =
      let p = (are_pending.before site k.1 h).1 k.4 in
      unsettled_told site (Load k.0 k.1) (need.Value k.1) V3 (omega arith) k.2 refl (λ i. if not (k.3 i) && p i then Some V3 else None)
  fault_told site h V4 k =
      let p = some_in (set site) k.1 ((are_pending.before site k.1 h).1 k.4) in
      unsettled_told site k.0 need.Release V4 (omega arith) k.2 (need_of-release k.0 k.3) (λ i. if p i then None else Some V4)
  fault_told site h V5 k =
      let p = some_in (set site) k.3 ((are_pending.before site k.3 h).1 k.5) in
      unsettled_told site (Call k.0 k.1 k.2) need.Call V5 (omega arith) k.4 refl (λ i. if p i then None else Some V5)
  fault_told site h V6 k = absurd (omega (arith, k.1, h))
  fault_told site h V7 k =
      told_unfollowed (unknown_at table (role_at parts site) site) (unsettled_at (set site) (role_at parts site) (need_at (needs_of merged) site)) (unfollowed (part_at parts site).stray) (ap unfollowed k)

  unknown_sound : (site : ℕ) → site < sites_of merged → (role : Role) → role_at parts site ≡ role → unknown_at table role site ≡ true → FaultAt merged parts site V2
  unknown_sound site h (Turned x a) r e = (x, a, r, subst (IsLevel (placed 0 merged) site Both x a) (is_nothing-true _ e) (tells site x a r h))
  unknown_sound site h Same r e = absurd (false≢true e)
  unknown_sound site h (Removed x a) r e = absurd (false≢true e)
  unknown_sound site h Inserted r e = absurd (false≢true e)

  chosen : (b : Bool) (v why : Fault) → (if b then Some v else None) ≡ Some why → (b ≡ true) × (v ≡ why)
  chosen true v why e = (refl, same_Some v why e)
  chosen false v why e = absurd (none-some why e)

  other : (b : Bool) (v why : Fault) → (if b then None else Some v) ≡ Some why → (b ≡ false) × (v ≡ why)
  other true v why e = absurd (none-some why e)
  other false v why e = (refl, same_Some v why e)

  unsettled_sound : (site : ℕ) → site < sites_of merged → (h : Head) → slice_get (heads_in merged) site ≡ Some h → (n : Need) → Needs n h → (why : Fault) → unsettled_at (set site) (role_at parts site) n ≡ Some why → FaultAt merged parts site why
  unsettled_sound site k h at (need.Value x) n why e =
      let c = chosen _ V3 why e in
      let p = not_and (is_turned (role_at parts site)) (has x (set site)) c.0 in
      subst (FaultAt merged parts site) c.1 (n.0, x, at ∙ ap Some n.1, p.0, (are_pending.before site x k).0 p.1)
  unsettled_sound site k h at need.Release n why e =
      let c = other _ V4 why e in
      let p = in_some (set site) c.0 in
      subst (FaultAt merged parts site) c.1 (h, p.0, at, n, (are_pending.before site p.0 k).0 p.1)
  unsettled_sound site k h at need.Call n why e =
      let c = other _ V5 why e in
      let p = in_some (set site) c.0 in
      subst (FaultAt merged parts site) c.1 (n.0, n.1, n.2, p.0, at ∙ ap Some n.3, (are_pending.before site p.0 k).0 p.1)
  unsettled_sound site k h at need.Nothing n why e = absurd (none-some why e)

  unfollowed_sound : (site : ℕ) (stray : Bool) → (part_at parts site).stray ≡ stray → (why : Fault) → unfollowed stray ≡ Some why → FaultAt merged parts site why
  unfollowed_sound site true r why e = subst (FaultAt merged parts site) (same_Some V7 why e) r
  unfollowed_sound site false r why e = absurd (none-some why e)

  -- what is told at a site is a fault there
  fault_sound : (site : ℕ) → site < sites_of merged → (why : Fault) → told site ≡ Some why → FaultAt merged parts site why
  fault_sound site h why e = go (unknown_at table (role_at parts site) site) refl (unsettled_at (set site) (role_at parts site) (need_at (needs_of merged) site)) refl e
    where
      go : (u : Bool) → unknown_at table (role_at parts site) site ≡ u → (s : Option Fault) → unsettled_at (set site) (role_at parts site) (need_at (needs_of merged) site) ≡ s → (if u then Some V2 else or_else s (unfollowed (part_at parts site).stray)) ≡ Some why → FaultAt merged parts site why
      go true f s g k = subst (FaultAt merged parts site) (same_Some V2 why k) (unknown_sound site h (role_at parts site) refl f)
      go false f (Some v) g k =
          let at = head_at merged site h in
          unsettled_sound site h at.0 at.1 (need_of at.0) (needs at.0) why (ap (unsettled_at (set site) (role_at parts site)) (sym (need_is merged site at.0 at.1)) ∙ g ∙ k)
      go false f None g k = unfollowed_sound site (part_at parts site).stray refl why k

  -- a fault lies at a site or at the end
  within : (long : length parts ≡ sites_of merged) (s : ℕ) (w : Fault) → FaultAt merged parts s w → (s < sites_of merged) ⊎ ((s ≡ sites_of merged) × (w ≡ V6))
  within long s V1 k = absurd k
  within long s V2 k = ⊎_elim (λ h. inl h) (λ h. let e = sym (ap (λ (p : Part). p.role) (past parts s (omega (arith, h, long)))) ∙ k.2 in absurd (same_turned k.0 k.1 e)) (cases_lt s (sites_of merged))
  within long s V3 k = inl (site_within merged s (Load k.0 k.1) k.2)
  within long s V4 k = inl (site_within merged s k.0 k.2)
  within long s V5 k = inl (site_within merged s (Call k.0 k.1 k.2) k.4)
  within long s V6 k = inr (k.1, refl)
  within long s V7 k = ⊎_elim (λ h. inl h) (λ h. let e = sym (ap (λ (p : Part). p.stray) (past parts s (omega (arith, h, long)))) ∙ k in absurd (false≢true e)) (cases_lt s (sites_of merged))

  -- What the tables tell is the judgement.
  pub told_judged : length parts ≡ sites_of merged → (judged : Judged) → IsTold table parts (needs_of merged) pending (sites_of merged) judged → IsJudgedBy (FaultAt merged parts) judged
  told_judged long Yes t = λ s w k.
      ⊎_elim (λ h. let f = fault_told s h w k in none-some f.0 (sym (t.0 s h) ∙ f.1))
      (λ e. let f = subst (FaultAt merged parts s) e.1 k in true≢false (sym t.1 ∙ some_in pending.end f.0 ((are_pending.end f.0).1 f.2))) (within long s w k)
  told_judged long (No site why) t = ⊎_elim
      (λ here. (
        fault_sound site here.0 why here.1,
        λ s w k. ⊎_elim
            (λ h. ⊎_elim
            (λ (below : s < site). let f = fault_told s h w k in absurd (none-some f.0 (sym (t.0 s below h) ∙ f.1)))
            (λ (above : site ≤ s). ⊎_elim (λ (past : site < s). inl past)
            (λ (same : s ≤ site). let e : s ≡ site = omega arith in let f = fault_told site here.0 w (subst (λ n. FaultAt merged parts n w) e k) in let v = ap number (same_Some f.0 why (sym f.1 ∙ here.1)) in inr (sym e, omega (arith, f.2)))
            (cases_lt site s))
            (cases_lt s site))
            (λ e. inl (omega (arith, e.0, here.0))) (within long s w k),
      ))
      (λ end. let c = in_some pending.end end.2 in (
        subst (FaultAt merged parts site) (sym end.1) (c.0, end.0, (are_pending.end c.0).0 c.1),
        λ s w k. ⊎_elim (λ h. let f = fault_told s h w k in absurd (none-some f.0 (sym (t.0 s (omega (arith, end.0)) h) ∙ f.1)))
            (λ e. inr (end.0 ∙ sym e.0, let v = ap number e.1 in let v' = ap number end.1 in omega arith)) (within long s w k),
      ))
      t.1
