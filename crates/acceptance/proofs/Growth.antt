-- New loads before loops are accepted.
use Rattle.std.proofs.Common.{◌≡◌, ℕ, zero, suc, ◌+◌, ◌<◌, ◌≤◌, Bool, true, false, cond, leb, ltb, ◌&&◌, ◌==◌, List, [], ◌∷◌, ◌++◌, length, Option, refl, sym, ap, ◌∙◌, subst, ◌⊎◌, inl, inr, ⊎_elim, arith, append_assoc, append-nil}
use Rattle.std.specs.Str.{bytes_eq}
use Rattle.std.proofs.lemmas.Bool.{false≢true, le-leb, lt-ltb, leb-true}
use Rattle.il_syntax.specs.declared.statement.Atom.{Atom}
use Rattle.il_syntax.specs.declared.statement.Stmt.TheOpen.{Skip, Copy, Compute, Load, Store, AtomicLoad, AtomicStore, Update, Fence, Print, If, While, Call}
use Rattle.il_syntax.specs.Statements.{Head}
use Rattle.il_paths.specs.Tree.{Leaf, head_of_leaf, Tree, Empty, Then, IfThen, WhileThen, tree_of, sites_of}
use Rattle.il_paths.specs.Code.{Visit, AllHeads}
use Rattle.il_paths.specs.Atoms.{atoms_equal}
use Rattle.il_paths.proofs.Callers.{atoms_equal-refl}
use Rattle.rewriting.specs.Kinds.{unchanged}
use Rattle.rewriting.proofs.Callers.{each_rewritten, both, self}
use Rattle.load_hoist.specs.declared.growth.Extra.{Extra}
use Rattle.load_hoist.specs.Introduced.{put_loads}
use Rattle.validator.specs.declared.role.Role.{Role}
use Rattle.validator.specs.declared.role.Role.TheVariants.{Same, Turned, Removed, Inserted}
use Rattle.validator.specs.Roles.{pends}
use Rattle.validator.specs.declared.walk.NewRegisters.{NewRegisters}
use Rattle.validator.specs.declared.walk.Part.{Part}
use Rattle.validator.specs.declared.fault.Fault.{Fault}
use Rattle.validator.specs.declared.fault.Fault.TheVariants.{V1, V2, V3, V4, V5, V6, V7}
use Rattle.validator.specs.Walk.{is_new, is_inserted, before_loop, with_partner, inserted_part, part_at, role_at, role_of, Outcome, Apart, Together, and_then, with_role, plain_step, walk}
use Rattle.validator.specs.Merged.{restored_skip, restored_copy, restored_leaf, restored, merged}
use Rattle.validator.specs.Faults.{begins, same_heads, with_heads, outcome, FaultAt, FaultOf}
use Rattle.acceptance.specs.Known.{AreNew, HasNewLoads, nothing, keeps, branches, loops, LoadsOld}
use Rattle.acceptance.specs.Laws.{NewLoadsAreAccepted}
use Rattle.acceptance.proofs.Heads.{role_self, bytes_self, begins_self}
use Rattle.acceptance.proofs.Roles.{same_stays}
use Rattle.acceptance.proofs.Pending.{never_pends}

-- what the walk finds here: the same statements, and inserted loads before loops
abbrev Kept : Part → Type 0
Kept part = ((part.role ≡ Same) ⊎ (part.role ≡ Inserted)) × (part.stray ≡ false)

abbrev AllKept : List Part → Type 0
AllKept [] = Unit {0}
AllKept (part ∷ parts) = Kept part × AllKept parts

kept_append : (xs ys : List Part) → AllKept xs → AllKept ys → AllKept (xs ++ ys)
kept_append [] ys f g = g
kept_append (x ∷ xs) ys f g = (f.0, kept_append xs ys f.1 g)

kept_at : (parts : List Part) (site : ℕ) → AllKept parts → Kept (part_at parts site)
kept_at [] site f = (inl refl, refl)
kept_at (p ∷ parts) zero f = f.0
kept_at (p ∷ parts) (suc site) f = kept_at parts site f.1

abbrev inserted_parts : List Extra → List Part
inserted_parts [] = []
inserted_parts (extra ∷ more) = inserted_part true ∷ inserted_parts more

inserted_kept : (loads : List Extra) → AllKept (inserted_parts loads)
inserted_kept [] = tt
inserted_kept (extra ∷ more) = ((inr refl, refl), inserted_kept more)

module _ (old end : ℕ) where
  abbrev new : NewRegisters
  new = record { first = old; end = end }

  is_new-in : (r : ℕ) → old ≤ r → r < end → is_new new r ≡ true
  is_new-in r h k = both (le-leb old r h) (lt-ltb r end k)

  -- an old load is not inserted
  below_not : (r : ℕ) (b : Bool) → leb old r ≡ b → r < old → (b && ltb r end) ≡ false
  below_not r true e h = absurd (omega (arith, h, leb-true old r e))
  below_not r false e h = refl

  old_not : (head : Head) → LoadsOld old head → is_inserted new head ≡ false
  old_not (Load r x) h = below_not r (leb old r) refl (h r x refl)
  old_not Skip h = refl
  old_not (Copy r a) h = refl
  old_not (Compute r o a b) h = refl
  old_not (Store x a) h = refl
  old_not (AtomicLoad r o y) h = refl
  old_not (AtomicStore o y a) h = refl
  old_not (Update r o y k) h = refl
  old_not (Fence o) h = refl
  old_not (Print a) h = refl
  old_not (If a p q) h = refl
  old_not (While a p) h = refl
  old_not (Call r f args) h = refl

  loop_follows : (loads : List Extra) (loop : Tree) → AreNew old end loads → before_loop new loop ≡ true → before_loop new (put_loads loads loop) ≡ true
  loop_follows [] loop n e = e
  loop_follows (l ∷ loads) loop n e = both (is_new-in l.r n.0 n.1) (loop_follows loads loop n.2 e)

  -- the loads are walked, and the source stays
  walk_loads : (loads : List Extra) (loop source : Tree) (done : List Part) → AreNew old end loads → before_loop new loop ≡ true → walk new (put_loads loads loop) source done ≡ walk new loop source (done ++ inserted_parts loads)
  walk_loads [] loop source done n e = ap (walk new loop source) (sym (append-nil done))
  walk_loads (l ∷ loads) loop source done n e =
      let rest = put_loads loads loop in
      let step = λ (b : Bool). walk new rest source (done ++ inserted_part b ∷ []) in
      ap (λ (b : Bool). cond b (step (before_loop new rest)) (plain_step (Load l.r l.x) done source (walk new rest))) (is_new-in l.r n.0 n.1) ∙
      ap step (loop_follows loads loop n.2 e) ∙
      walk_loads loads loop source (done ++ inserted_part true ∷ []) n.2 e ∙
      ap (walk new loop source) (append_assoc done (inserted_part true ∷ []) (inserted_parts loads))

  abbrev WalkedOn : Tree → Tree → List Part → Type 0
  WalkedOn s t done = (d : List Part) × AllKept d × (walk new t s done ≡ Together (done ++ d))

  walk_grown : (s t : Tree) → HasNewLoads old end s t → AllHeads (LoadsOld old) s → (done : List Part) → WalkedOn s t done
  walk_grown s t nothing h done = ([], tt, ap Together (sym (append-nil done)))
  walk_grown s t (keeps leaf {s = s1} {t = t1} g) h done =
      let d1 = done ++ with_partner Same ∷ [] in
      let more = walk_grown s1 t1 g h.1 d1 in
      let head = head_of_leaf leaf in (
        with_partner Same ∷ more.0,
        ((inl refl, refl), more.1),
        ap (λ (b : Bool). cond b (walk new t1 (Then leaf s1) (done ++ inserted_part (before_loop new t1) ∷ [])) (with_role done (role_of head head) (walk new t1 s1))) (old_not head h.0) ∙
            ap (λ (r : Option Role). with_role done r (walk new t1 s1)) (role_self head) ∙
            more.2 ∙
            ap Together (append_assoc done (with_partner Same ∷ []) more.0),
      )
  walk_grown s t (branches a {y = y} {y' = y'} {n = n} {n' = n'} {s = s1} {t = t1} f g k) h done =
      let d0 = done ++ with_partner Same ∷ [] in
      let one = walk_grown y y' f h.1 d0 in
      let two = walk_grown n n' g h.2 (d0 ++ one.0) in
      let rest = walk_grown s1 t1 k h.3 ((d0 ++ one.0) ++ two.0) in
      let wn = walk new n' n in
      let wr = walk new t1 s1 in (
        with_partner Same ∷ (one.0 ++ (two.0 ++ rest.0)),
        ((inl refl, refl), kept_append one.0 _ one.1 (kept_append two.0 _ two.1 rest.1)),
        ap (λ (b : Bool). cond b (and_then (walk new y' y d0) (λ d. and_then (wn d) wr)) (Apart (length done))) (atoms_equal-refl a) ∙
            ap (λ (o : Outcome). and_then o (λ d. and_then (wn d) wr)) one.2 ∙
            ap (λ (o : Outcome). and_then o wr) two.2 ∙
            rest.2 ∙
            ap Together (simp append_assoc),
      )
  walk_grown s t (loops a loads {d = d} {d' = d'} {s = s1} {t = t1} n f k) h done =
      let l0 = done ++ inserted_parts loads in
      let d0 = l0 ++ with_partner Same ∷ [] in
      let turn = walk_grown d d' f h.1 d0 in
      let rest = walk_grown s1 t1 k h.2 (d0 ++ turn.0) in
      let wr = walk new t1 s1 in (
        inserted_parts loads ++ (with_partner Same ∷ (turn.0 ++ rest.0)),
        kept_append (inserted_parts loads) _ (inserted_kept loads) ((inl refl, refl), kept_append turn.0 _ turn.1 rest.1),
        walk_loads loads (WhileThen a d' t1) (WhileThen a d s1) done n refl ∙
            ap (λ (b : Bool). cond b (and_then (walk new d' d d0) wr) (Apart (length l0))) (atoms_equal-refl a) ∙
            ap (λ (o : Outcome). and_then o wr) turn.2 ∙
            rest.2 ∙
            ap Together (simp append_assoc),
      )

is_moved : Role → Bool
is_moved (Turned x a) = true
is_moved (Removed x a) = true
is_moved _ = false

unmoved : (role : Role) → (role ≡ Same) ⊎ (role ≡ Inserted) → is_moved role ≡ false
unfolding is_moved
unmoved role h = ⊎_elim (λ e. ap is_moved e) (λ e. ap is_moved e) h

inserted_stays : (leaf : Leaf) → restored_leaf Inserted leaf ≡ leaf
inserted_stays =
    each_rewritten (λ leaf new. new ≡ leaf) (record unchanged { skip = restored_skip Inserted; copy = restored_copy Inserted })
    (record { skip = refl; copy = λ r a. refl; compute = λ r o a b. refl; load = λ r x. refl; store = λ x a. refl; other = λ leaf. refl })

-- where nothing was turned or removed, nothing is restored
stays : (role : Role) (leaf : Leaf) → is_moved role ≡ false → restored_leaf role leaf ≡ leaf
unfolding is_moved
stays (Turned x a) leaf e = absurd (false≢true (sym e))
stays (Removed x a) leaf e = absurd (false≢true (sym e))
stays Same leaf e = same_stays leaf
stays Inserted leaf e = inserted_stays leaf

restored_self : (all : List Part) → AllKept all → (t : Tree) (n : ℕ) → restored all n t ≡ t
restored_self all f Empty n = refl
restored_self all f (Then leaf rest) n =
    (λ i. Then (stays (role_at all n) leaf (unmoved (role_at all n) (kept_at all n f).0) i) (restored_self all f rest (n + 1) i))
restored_self all f (IfThen a y z rest) n =
    (λ i. IfThen a (restored_self all f y (n + 1) i) (restored_self all f z (n + 1 + sites_of y) i) (restored_self all f rest (n + 1 + sites_of y + sites_of z) i))
restored_self all f (WhileThen a d rest) n = (λ i. WhileThen a (restored_self all f d (n + 1) i) (restored_self all f rest (n + 1 + sites_of d) i))

module _ (target : Tree) (all : List Part) (kept : AllKept all) where
  not_turned : (site x : ℕ) (a : Atom) → role_at all site ≡ Turned x a → ⊥
  unfolding is_moved
  not_turned site x a e = false≢true (sym (unmoved (role_at all site) (kept_at all site kept).0) ∙ ap is_moved e)

  not_removed : (site x : ℕ) (a : Atom) → role_at all site ≡ Removed x a → ⊥
  unfolding is_moved
  not_removed site x a e = false≢true (sym (unmoved (role_at all site) (kept_at all site kept).0) ∙ ap is_moved e)

  never : (x : ℕ) (p : List Visit) → pends (role_at all) x p ≡ true → ⊥
  never x p e = false≢true (sym (never_pends (role_at all) not_removed x p) ∙ e)

  no_fault : (site : ℕ) (why : Fault) → FaultAt target all site why → ⊥
  no_fault site V1 k = k
  no_fault site V2 k = not_turned site k.0 k.1 k.2
  no_fault site V3 k = never k.1 k.4.0 k.4.2
  no_fault site V4 k = never k.1 k.4.0 k.4.2
  no_fault site V5 k = never k.3 k.5.0 k.5.2
  no_fault site V6 k = never k.0 k.2.0 k.2.2
  no_fault site V7 k = false≢true (sym (kept_at all site kept).1 ∙ k)

pub new_loads_are_accepted : NewLoadsAreAccepted
new_loads_are_accepted f g is site why k =
    let old = length f.registers in
    let end = length g.registers in
    let grown = walk_grown old end (tree_of f.body) (tree_of g.body) is.body is.old [] in
    let all = grown.0 in
    let heads : same_heads f g ≡ true =
    both (ap (bytes_eq f.name) is.name ∙ bytes_self f.name)
    (both (ap (λ (n : ℕ). f.params == n) is.params ∙ self f.params)
    (both (ap (begins f.registers) is.registers ∙ begins_self f.registers is.more)
    (ap (atoms_equal f.result) is.result ∙ atoms_equal-refl f.result))) in
    let m : merged g all ≡ tree_of g.body = restored_self all grown.1 (tree_of g.body) 0 in
    let out : outcome f g ≡ Together all = (λ i. with_heads (heads i) (sites_of (tree_of g.body)) (grown.2 i)) in
    no_fault (tree_of g.body) all grown.1 site why (subst (λ (tree : Tree). FaultAt tree all site why) m (subst (λ (o : Outcome). FaultOf g o site why) out k))
