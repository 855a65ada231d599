-- A tree whose statements are changed in place, each into one that has the old one as its partner, is walked to its
-- end, and merged code is the old tree.
use Rattle.std.proofs.Common.{◌≡◌, ℕ, zero, suc, ◌+◌, Bool, true, false, cond, leb, ltb, ◌&&◌, ◌==◌, List, [], ◌∷◌, ◌++◌, length, slice_get, Option, Some, refl, sym, ap, ◌∙◌, subst, ◌⊎◌, inl, inr, ⊎_elim, arith, append_assoc, append-nil, length-append}
use Rattle.std.proofs.Math.Seq.{get_or-append_seam}
use Rattle.std.proofs.lemmas.Bool.{false≢true, leb-true, ltb-true, and_parts}
use Rattle.std.specs.Str.{bytes_eq}
use Rattle.il_syntax.specs.declared.statement.Stmt.TheOpen.{Skip, Copy, Compute, Load, Store, AtomicLoad, AtomicStore, Update, Fence, Print, If, While, Call}
use Rattle.il_syntax.specs.declared.program.Function.{Function}
use Rattle.il_syntax.specs.Statements.{Head}
use Rattle.il_paths.specs.Tree.{Leaf, head_of_leaf, Tree, Empty, Then, IfThen, WhileThen, tree_of, sites_of, heads_in}
use Rattle.rewriting.specs.Changed.{changed_tree, SameHeads, IsChanged}
use Rattle.il_paths.specs.Atoms.{atoms_equal}
use Rattle.il_paths.proofs.Callers.{atoms_equal-refl}
use Rattle.validator.specs.declared.role.Role.{Role}
use Rattle.validator.specs.declared.role.Role.TheVariants.{Same}
use Rattle.validator.specs.declared.walk.NewRegisters.{NewRegisters}
use Rattle.validator.specs.declared.walk.Part.{Part}
use Rattle.validator.specs.declared.fault.Fault.{Fault}
use Rattle.validator.specs.Walk.{is_new, is_inserted, before_loop, with_partner, inserted_part, part_at, role_of, Outcome, Apart, Together, and_then, with_role, walk}
use Rattle.validator.specs.Merged.{restored_leaf, restored, merged}
use Rattle.validator.specs.Faults.{begins, same_heads, new_registers, with_heads, outcome, FaultAt, FaultOf, Accepts}
use Rattle.validator.proofs.Callers.{length-heads_in}
use Rattle.acceptance.proofs.Heads.{bytes_self, begins_self}
use Rattle.rewriting.proofs.Callers.{both, self}

-- where the target has no more registers no load is inserted
no_new : (n r : ℕ) (b : Bool) → is_new (record { first = n; end = n }) r ≡ b → b ≡ false
no_new n r false e = refl
no_new n r true e =
    let p = and_parts (leb n r) (ltb r n) e in absurd (omega (arith, leb-true n r p.0, ltb-true r n p.1))

none_inserted : (n : ℕ) (h : Head) → is_inserted (record { first = n; end = n }) h ≡ false
none_inserted n (Load r x) = no_new n r _ refl
none_inserted n Skip = refl
none_inserted n (Copy r a) = refl
none_inserted n (Compute r o a b) = refl
none_inserted n (Store x a) = refl
none_inserted n (AtomicLoad r o y) = refl
none_inserted n (AtomicStore o y a) = refl
none_inserted n (Update r o y k) = refl
none_inserted n (Fence o) = refl
none_inserted n (Print a) = refl
none_inserted n (If a p q) = refl
none_inserted n (While a p) = refl
none_inserted n (Call r f args) = refl

pub same_changed : (f g : Function) → SameHeads f g → same_heads f g ≡ true
same_changed f g h =
    both (ap (bytes_eq f.name) h.name ∙ bytes_self f.name)
    (both (ap (λ (n : ℕ). f.params == n) h.params ∙ self f.params)
    (both (ap (begins f.registers) (h.registers ∙ sym (append-nil f.registers)) ∙ begins_self f.registers [])
    (ap (atoms_equal f.result) h.result ∙ atoms_equal-refl f.result)))

-- what the walk finds of a statement is that it has a partner, of this role
abbrev pub Found : (ℕ → Leaf → Role) → ℕ → Head → Part → Type 0
Found role n head part = (part ≡ with_partner Same) ⊎ ((leaf : Leaf) × (head_of_leaf leaf ≡ head) × (part ≡ with_partner (role n leaf)))

module _ (changed : ℕ → Leaf → Leaf) (role : ℕ → Leaf → Role) (means : (n : ℕ) (leaf : Leaf) → role_of (head_of_leaf leaf) (head_of_leaf (changed n leaf)) ≡ Some (role n leaf)) (back : (n : ℕ) (leaf : Leaf) → restored_leaf (role n leaf) (changed n leaf) ≡ leaf) where
  abbrev pub parts_of : ℕ → Tree → List Part
  parts_of n Empty = []
  parts_of n (Then leaf rest) = with_partner (role n leaf) ∷ parts_of (n + 1) rest
  parts_of n (IfThen a y z rest) = with_partner Same ∷ (parts_of (n + 1) y ++ (parts_of (n + 1 + sites_of y) z ++ parts_of (n + 1 + sites_of y + sites_of z) rest))
  parts_of n (WhileThen a d rest) = with_partner Same ∷ (parts_of (n + 1) d ++ parts_of (n + 1 + sites_of d) rest)

  pub walk_changed : (k : ℕ) (t : Tree) (n : ℕ) (done : List Part) → walk (record { first = k; end = k }) (changed_tree changed n t) t done ≡ Together (done ++ parts_of n t)
  walk_changed k Empty n done = ap Together (sym (append-nil done))
  walk_changed k (Then leaf rest) n done =
      let new : NewRegisters = record { first = k; end = k } in
      let after = changed_tree changed (n + 1) rest in
      let head = head_of_leaf (changed n leaf) in
      let more = walk new after rest in
      ap (λ (b : Bool). cond b (walk new after (Then leaf rest) (done ++ inserted_part (before_loop new after) ∷ [])) (with_role done (role_of (head_of_leaf leaf) head) more)) (none_inserted k head) ∙
      ap (λ (r : Option Role). with_role done r more) (means n leaf) ∙
      walk_changed k rest (n + 1) (done ++ with_partner (role n leaf) ∷ []) ∙
      ap Together (append_assoc done (with_partner (role n leaf) ∷ []) (parts_of (n + 1) rest))
  walk_changed k (IfThen a y z rest) n done =
      let new : NewRegisters = record { first = k; end = k } in
      let wy = walk new (changed_tree changed (n + 1) y) in
      let wz = walk new (changed_tree changed (n + 1 + sites_of y) z) in
      let wr = walk new (changed_tree changed (n + 1 + sites_of y + sites_of z) rest) in
      let ry = parts_of (n + 1) y in
      let rz = parts_of (n + 1 + sites_of y) z in
      let d0 = done ++ with_partner Same ∷ [] in
      ap (λ (t : Bool). cond t (and_then (wy y d0) (λ d. and_then (wz z d) (wr rest))) (Apart (length done))) (atoms_equal-refl a) ∙
      ap (λ (o : Outcome). and_then o (λ d. and_then (wz z d) (wr rest))) (walk_changed k y (n + 1) d0) ∙
      ap (λ (o : Outcome). and_then o (wr rest)) (walk_changed k z (n + 1 + sites_of y) (d0 ++ ry)) ∙
      walk_changed k rest (n + 1 + sites_of y + sites_of z) ((d0 ++ ry) ++ rz) ∙
      ap Together (simp append_assoc)
  walk_changed k (WhileThen a d rest) n done =
      let new : NewRegisters = record { first = k; end = k } in
      let wd = walk new (changed_tree changed (n + 1) d) in
      let wr = walk new (changed_tree changed (n + 1 + sites_of d) rest) in
      let rd = parts_of (n + 1) d in
      let d0 = done ++ with_partner Same ∷ [] in
      ap (λ (t : Bool). cond t (and_then (wd d d0) (wr rest)) (Apart (length done))) (atoms_equal-refl a) ∙
      ap (λ (o : Outcome). and_then o (wr rest)) (walk_changed k d (n + 1) d0) ∙
      walk_changed k rest (n + 1 + sites_of d) (d0 ++ rd) ∙
      ap Together (simp append_assoc)

  pub length-parts : (t : Tree) (n : ℕ) → length (parts_of n t) ≡ sites_of t
  length-parts Empty n = refl
  length-parts (Then leaf rest) n = omega (arith, length-parts rest (n + 1))
  length-parts (IfThen a y z rest) n =
      simp length-append (omega (arith, length-parts y (n + 1), length-parts z (n + 1 + sites_of y), length-parts rest (n + 1 + sites_of y + sites_of z)))
  length-parts (WhileThen a d rest) n = simp length-append (omega (arith, length-parts d (n + 1), length-parts rest (n + 1 + sites_of d)))

  part_seam : (all pre post : List Part) (part : Part) (n : ℕ) → all ≡ pre ++ (part ∷ post) → length pre ≡ n → part_at all n ≡ part
  part_seam all pre post part n e h = rw (e, ← h) (get_or-append_seam pre part post (with_partner Same))

  sites_of-changed : (t : Tree) (n : ℕ) → sites_of (changed_tree changed n t) ≡ sites_of t
  sites_of-changed Empty n = refl
  sites_of-changed (Then leaf rest) n = omega (arith, sites_of-changed rest (n + 1))
  sites_of-changed (IfThen a y z rest) n = omega (arith, sites_of-changed y (n + 1), sites_of-changed z (n + 1 + sites_of y), sites_of-changed rest (n + 1 + sites_of y + sites_of z))
  sites_of-changed (WhileThen a d rest) n = omega (arith, sites_of-changed d (n + 1), sites_of-changed rest (n + 1 + sites_of d))

  -- merged code is the source
  pub restored_changed : (t : Tree) (all pre post : List Part) (n : ℕ) → all ≡ pre ++ (parts_of n t ++ post) → length pre ≡ n → restored all n (changed_tree changed n t) ≡ t
  restored_changed Empty all pre post n e h = refl
  restored_changed (Then leaf rest) all pre post n e h =
      let part = with_partner (role n leaf) in
      let here = ap (λ (p : Part). restored_leaf p.role (changed n leaf)) (part_seam all pre _ part n e h) ∙ back n leaf in
      let more = restored_changed rest all (pre ++ part ∷ []) post (n + 1) (e ∙ sym (append_assoc pre (part ∷ []) _)) (omega (arith, h, length-append pre (part ∷ []))) in
      (λ i. Then (here i) (more i))
  restored_changed (IfThen a y z rest) all pre post n e h =
      let ry = parts_of (n + 1) y in
      let rz = parts_of (n + 1 + sites_of y) z in
      let rr = parts_of (n + 1 + sites_of y + sites_of z) rest in
      let pa = pre ++ with_partner Same ∷ [] in
      let na = length-append pre (with_partner Same ∷ []) in
      let nb = length-append pa ry in
      let nr = length-append (pa ++ ry) rz in
      let one = restored_changed y all pa (rz ++ (rr ++ post)) (n + 1) (e ∙ simp append_assoc) (omega arith) in
      let two = restored_changed z all (pa ++ ry) (rr ++ post) (n + 1 + sites_of y) (e ∙ simp append_assoc) (omega (arith, length-parts y (n + 1))) in
      let three = restored_changed rest all ((pa ++ ry) ++ rz) post (n + 1 + sites_of y + sites_of z) (e ∙ simp append_assoc) (omega (arith, length-parts y (n + 1), length-parts z (n + 1 + sites_of y))) in
      let sa = sites_of-changed y (n + 1) in
      let sb = sites_of-changed z (n + 1 + sites_of y) in
      (λ i. IfThen a (restored all (n + 1) (changed_tree changed (n + 1) y)) (restored all (n + 1 + sa i) (changed_tree changed (n + 1 + sites_of y) z)) (restored all (n + 1 + sa i + sb i) (changed_tree changed (n + 1 + sites_of y + sites_of z) rest))) ∙
      (λ i. IfThen a (one i) (two i) (three i))
  restored_changed (WhileThen a d rest) all pre post n e h =
      let rd = parts_of (n + 1) d in
      let rr = parts_of (n + 1 + sites_of d) rest in
      let pa = pre ++ with_partner Same ∷ [] in
      let na = length-append pre (with_partner Same ∷ []) in
      let nr = length-append pa rd in
      let one = restored_changed d all pa (rr ++ post) (n + 1) (e ∙ simp append_assoc) (omega arith) in
      let two = restored_changed rest all (pa ++ rd) post (n + 1 + sites_of d) (e ∙ simp append_assoc) (omega (arith, length-parts d (n + 1))) in
      let sa = sites_of-changed d (n + 1) in
      (λ i. WhileThen a (restored all (n + 1) (changed_tree changed (n + 1) d)) (restored all (n + 1 + sa i) (changed_tree changed (n + 1 + sites_of d) rest))) ∙
      (λ i. WhileThen a (one i) (two i))

  -- of each statement of the tree, in text order
  abbrev AllFound : ℕ → List Head → List Part → Type 0
  AllFound n [] [] = Unit {0}
  AllFound n (h ∷ hs) (p ∷ ps) = Found role n h p × AllFound (n + 1) hs ps
  AllFound n [] (p ∷ ps) = ⊥
  AllFound n (h ∷ hs) [] = ⊥

  found_append : (n m : ℕ) (xs ys : List Head) (ps qs : List Part) → n + length xs ≡ m → AllFound n xs ps → AllFound m ys qs → AllFound n (xs ++ ys) (ps ++ qs)
  found_append n m [] ys [] qs e f g = subst (λ k. AllFound k ys qs) (let h : m ≡ n = omega (arith, e) in h) g
  found_append n m [] ys (p ∷ ps) qs e f g = absurd f
  found_append n m (x ∷ xs) ys [] qs e f g = absurd f
  found_append n m (x ∷ xs) ys (p ∷ ps) qs e f g = (f.0, found_append (n + 1) m xs ys ps qs (omega (arith, e)) f.1 g)

  all_found : (t : Tree) (n : ℕ) → AllFound n (heads_in t) (parts_of n t)
  all_found Empty n = tt
  all_found (Then leaf rest) n = (inr (leaf, refl, refl), all_found rest (n + 1))
  all_found (IfThen a y z rest) n =
      (inl refl, found_append (n + 1) (n + 1 + sites_of y) (heads_in y) _ (parts_of (n + 1) y) _ (omega (arith, length-heads_in y)) (all_found y (n + 1)) (found_append (n + 1 + sites_of y) (n + 1 + sites_of y + sites_of z) (heads_in z) _ (parts_of (n + 1 + sites_of y) z) _ (omega (arith, length-heads_in z)) (all_found z (n + 1 + sites_of y)) (all_found rest (n + 1 + sites_of y + sites_of z))))
  all_found (WhileThen a d rest) n =
      (inl refl, found_append (n + 1) (n + 1 + sites_of d) (heads_in d) _ (parts_of (n + 1) d) _ (omega (arith, length-heads_in d)) (all_found d (n + 1)) (all_found rest (n + 1 + sites_of d)))

  abbrev FoundAt : ℕ → List Head → ℕ → Part → Type 0
  FoundAt n hs i part = (part ≡ with_partner Same) ⊎ ((leaf : Leaf) × (slice_get hs i ≡ Some (head_of_leaf leaf)) × (part ≡ with_partner (role (n + i) leaf)))

  at_head : (n : ℕ) (h : Head) (hs : List Head) (p : Part) → Found role n h p → FoundAt n (h ∷ hs) zero p
  at_head n h hs p f = ⊎_elim (λ e. inl e) (λ g. inr (g.0, ap Some (sym g.1), g.2 ∙ ap (λ (k : ℕ). with_partner (role k g.0)) (omega arith))) f

  at_more : (n : ℕ) (h : Head) (hs : List Head) (i : ℕ) (p : Part) → FoundAt (n + 1) hs i p → FoundAt n (h ∷ hs) (suc i) p
  at_more n h hs i p f = ⊎_elim (λ e. inl e) (λ g. inr (g.0, g.1, g.2 ∙ ap (λ (k : ℕ). with_partner (role k g.0)) (omega arith))) f

  found_at : (n : ℕ) (hs : List Head) (ps : List Part) (i : ℕ) → AllFound n hs ps → FoundAt n hs i (part_at ps i)
  found_at n [] [] i f = inl refl
  found_at n [] (p ∷ ps) i f = absurd f
  found_at n (h ∷ hs) [] i f = absurd f
  found_at n (h ∷ hs) (p ∷ ps) zero f = at_head n h hs p f.0
  found_at n (h ∷ hs) (p ∷ ps) (suc i) f = at_more n h hs i (part_at ps i) (found_at (n + 1) hs ps i f.1)

  -- at a site the walk finds the same, or the role of the statement there
  pub found : (t : Tree) (site : ℕ) → (part_at (parts_of 0 t) site ≡ with_partner Same) ⊎ ((leaf : Leaf) × (slice_get (heads_in t) site ≡ Some (head_of_leaf leaf)) × (part_at (parts_of 0 t) site ≡ with_partner (role site leaf)))
  found t site =
      ⊎_elim (λ e. inl e) (λ g. inr (g.0, g.1, g.2 ∙ ap (λ (k : ℕ). with_partner (role k g.0)) (let e : 0 + site ≡ site = omega arith in e)))
      (found_at 0 (heads_in t) (parts_of 0 t) site (all_found t 0))

  pub none_stray : (t : Tree) (site : ℕ) → (part_at (parts_of 0 t) site).stray ≡ true → ⊥
  none_stray t site e =
      ⊎_elim (λ k. false≢true (sym (ap (λ (p : Part). p.stray) k) ∙ e)) (λ g. false≢true (sym (ap (λ (p : Part). p.stray) g.2) ∙ e)) (found t site)

  -- where merged code has no fault the function is accepted
  pub changed_accepted : (f g : Function) → IsChanged changed f g → ((site : ℕ) (why : Fault) → FaultAt (tree_of f.body) (parts_of 0 (tree_of f.body)) site why → ⊥) → Accepts f g
  changed_accepted f g is none site why k =
      let t = tree_of f.body in
      let all = parts_of 0 t in
      let n = length f.registers in
      let h = is.heads in
      let range : new_registers f g ≡ record { first = n; end = n } = ap (λ (names : List (List ℕ)). let r : NewRegisters = record { first = n; end = length names } in r) h.registers in
      let heads : same_heads f g ≡ true = same_changed f g h in
      let walked : walk (new_registers f g) (tree_of g.body) t [] ≡ Together all = (λ i. walk (range i) (is.body i) t []) ∙ walk_changed n t 0 [] in
      let m : merged g all ≡ t = ap (restored all 0) is.body ∙ restored_changed t all [] [] 0 (sym (append-nil all)) refl in
      let out : outcome f g ≡ Together all = (λ i. with_heads (heads i) (sites_of (tree_of g.body)) (walked i)) in
      none site why (subst (λ (tree : Tree). FaultAt tree all site why) m (subst (λ (o : Outcome). FaultOf g o site why) out k))
