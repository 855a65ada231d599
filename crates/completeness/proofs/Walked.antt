-- The walk of a target that stands beside its source comes to its end, and finds the roles; and merged code is what it puts
-- back.
use Rattle.std.proofs.Common.{◌≡◌, ℕ, ◌+◌, ◌<◌, ◌≤◌, Bool, true, false, cond, leb, ltb, ◌&&◌, ◌==◌, List, [], ◌∷◌, ◌++◌, length, Option, Some, None, refl, sym, ap, ◌∙◌, subst, arith, append_assoc, append-nil}
use Rattle.std.proofs.lemmas.Bool.{le-leb, lt-ltb, leb-true}
use Rattle.il_syntax.specs.declared.statement.Atom.{Atom}
use Rattle.il_syntax.specs.declared.statement.Stmt.TheOpen.{Skip, Copy, Compute, Load, Store, AtomicLoad, AtomicStore, Update, Fence, Print, If, While, Call}
use Rattle.il_syntax.specs.Statements.{Head}
use Rattle.il_paths.specs.Tree.{Leaf, head_of_leaf, Tree, Empty, Then, IfThen, WhileThen, sites_of}
use Rattle.il_paths.specs.Code.{Visit, Code, End, Plain, Branch, Loop, placed, AllCode}
use Rattle.il_paths.specs.Atoms.{atoms_equal}
use Rattle.il_paths.proofs.Callers.{atoms_equal-refl}
use Rattle.rewriting.specs.Heads.{same_head}
use Rattle.rewriting.proofs.Callers.{both, self, same_head-refl, sites_stay}
use Rattle.validator.specs.declared.role.Role.{Role}
use Rattle.validator.specs.declared.role.Role.TheVariants.{Same, Turned, Removed, Inserted}
use Rattle.validator.specs.declared.walk.NewRegisters.{NewRegisters}
use Rattle.validator.specs.declared.walk.Part.{Part}
use Rattle.validator.specs.Walk.{is_new, is_inserted, before_loop, with_partner, inserted_part, role_at, changed_role, role_of, Outcome, Apart, Together, and_then, with_role, plain_step, walk}
use Rattle.validator.specs.Merged.{restored_skip, restored_copy, restored_leaf, restored}
use Rattle.validator.specs.Beside.{StartsLoop, visit, Beside, both_end, same, turned, removed, inserted, branch, loop}
use Rattle.completeness.proofs.Placed.{placed_end, IsPlain, placed_plain, IsBranch, placed_branch, IsLoop, placed_loop}
use Rattle.completeness.proofs.Parts.{parts_of}
use Rattle.validator.proofs.Callers.{same_kept}

-- what a statement's head is, put back
abbrev back : Role → Head → Head
back role Skip = head_of_leaf (restored_skip role)
back role (Copy r a) = head_of_leaf (restored_copy role r a)
back role head = head

head_back : (role : Role) (leaf : Leaf) → head_of_leaf (restored_leaf role leaf) ≡ back role (head_of_leaf leaf)
head_back role Skip = refl
head_back role (Copy r a) = refl
head_back role (Compute r op a b) = refl
head_back role (Load r x) = refl
head_back role (Store x a) = refl
head_back role (AtomicLoad r order y) = refl
head_back role (AtomicStore order y a) = refl
head_back role (Update r order y kind) = refl
head_back role (Fence order) = refl
head_back role (Print a) = refl
head_back role (If a y z) = absurd y
head_back role (While a d) = absurd d
head_back role (Call r function args) = refl

-- the roles that the walk gives

role_same : (u h : Head) → u ≡ h → role_of u h ≡ Some Same
role_same u h e = ap (λ (k : Head). role_of u k) (sym e) ∙ ap (λ (b : Bool). cond b (Some Same) (changed_role u u)) (same_head-refl u)

role_turned : (r x : ℕ) (a : Atom) → role_of (Load r x) (Copy r a) ≡ Some (Turned x a)
role_turned r x a = ap (λ (b : Bool). cond b (Some (Turned x a)) None) (self r)

-- a load whose register is one of the target's
abbrev pub LoadsBelow : ℕ → Head → Type 0
LoadsBelow end h = (r x : ℕ) → h ≡ Load r x → r < end

-- a load into an old register isn't inserted
module _ (new : NewRegisters) where
  below_first : (r : ℕ) (b : Bool) → leb new.first r ≡ b → r < new.first → (b && ltb r new.end) ≡ false
  below_first r true e h = absurd (omega (arith, h, leb-true new.first r e))
  below_first r false e h = refl

  not_inserted : (h : Head) → LoadsBelow new.first h → is_inserted new h ≡ false
  not_inserted (Load r x) h = below_first r (leb new.first r) refl (h r x refl)
  not_inserted Skip h = refl
  not_inserted (Copy r a) h = refl
  not_inserted (Compute r op a b) h = refl
  not_inserted (Store x a) h = refl
  not_inserted (AtomicLoad r order y) h = refl
  not_inserted (AtomicStore order y a) h = refl
  not_inserted (Update r order y kind) h = refl
  not_inserted (Fence order) h = refl
  not_inserted (Print a) h = refl
  not_inserted (If a y z) h = refl
  not_inserted (While a d) h = refl
  not_inserted (Call r function args) h = refl

module _ (new : NewRegisters) (role : ℕ → Role) where
  pub record Back (n : ℕ) (s t m : Tree) : Type 0 where
    pub long : sites_of m ≡ sites_of t
    pub walked : (done : List Part) → walk new t s done ≡ Together (done ++ parts_of role n t)
    pub starts : (k : ℕ) → StartsLoop (placed k s) → before_loop new t ≡ true
    pub merges : (all : List Part) → ((site : ℕ) → n ≤ site → site < n + sites_of t → role_at all site ≡ role site) → placed n m ≡ placed n (restored all n t)

  -- the parts after one more
  one_more : (done : List Part) (p : Part) (rest : List Part) → Together ((done ++ p ∷ []) ++ rest) ≡ Together (done ++ (p ∷ rest))
  one_more done p rest = ap Together (append_assoc done (p ∷ []) rest)

  plain_back : (u h w : Leaf) (s t m : Tree) (n : ℕ) (r : Role) → role n ≡ r → is_inserted new (head_of_leaf h) ≡ false → role_of (head_of_leaf u) (head_of_leaf h) ≡ Some r
      → head_of_leaf w ≡ head_of_leaf (restored_leaf r h) → Back (n + 1) s t m → Back n (Then u s) (Then h t) (Then w m)
  plain_back u h w s t m n r at own means kept b = record {
    long = omega (arith, b.long);
    walked = λ done.
        ap (λ (x : Bool). cond x (walk new t (Then u s) (done ++ inserted_part (before_loop new t) ∷ [])) (with_role done (role_of (head_of_leaf u) (head_of_leaf h)) (walk new t s))) own
        ∙ ap (λ (o : Option Role). with_role done o (walk new t s)) means
        ∙ ap (λ (q : Role). walk new t s (done ++ with_partner q ∷ [])) (sym at)
        ∙ b.walked (done ++ with_partner (role n) ∷ [])
        ∙ one_more done (with_partner (role n)) (parts_of role (n + 1) t);
    starts = λ k stops. absurd stops;
    merges = λ all is.
        let here : role_at all n ≡ r = is n (omega arith) (omega arith) ∙ at in
        let head : head_of_leaf w ≡ head_of_leaf (restored_leaf (role_at all n) h) = kept ∙ ap (λ (q : Role). head_of_leaf (restored_leaf q h)) (sym here) in
        let after = b.merges all (λ site from to. is site (omega (arith, from)) (omega (arith, to))) in
        (λ i. Plain (visit n (head i)) (after i));
  }

  inserted_back : (h w : Leaf) (s t m : Tree) (k n g x : ℕ) → role n ≡ Inserted → head_of_leaf h ≡ Load g x → new.first ≤ g → g < new.end → StartsLoop (placed k s)
      → head_of_leaf w ≡ head_of_leaf h → Back (n + 1) s t m → Back n s (Then h t) (Then w m)
  inserted_back h w s t m k n g x at is first end starts kept b =
      let own : is_inserted new (head_of_leaf h) ≡ true = ap (is_inserted new) is ∙ both (le-leb new.first g first) (lt-ltb g new.end end) in
      let before = b.starts k starts in
      record {
        long = omega (arith, b.long);
        walked = λ done.
            ap (λ (y : Bool). cond y (walk new t s (done ++ inserted_part (before_loop new t) ∷ [])) (plain_step (head_of_leaf h) done s (walk new t))) own
            ∙ ap (λ (y : Bool). walk new t s (done ++ inserted_part y ∷ [])) before
            ∙ ap (λ (q : Role). walk new t s (done ++ with_partner q ∷ [])) (sym at)
            ∙ b.walked (done ++ with_partner (role n) ∷ [])
            ∙ one_more done (with_partner (role n)) (parts_of role (n + 1) t);
        starts = λ j loops. both own (b.starts j loops);
        merges = λ all is_role.
            let head : head_of_leaf w ≡ head_of_leaf (restored_leaf (role_at all n) h) = kept ∙ is ∙ sym (head_back (role_at all n) h ∙ ap (back (role_at all n)) is) in
            let after = b.merges all (λ site from to. is_role site (omega (arith, from)) (omega (arith, to))) in
            (λ i. Plain (visit n (head i)) (after i));
      }

  -- the same code from the same site
  abbrev SameFrom : ℕ → Tree → Tree → Type 0
  SameFrom n m t = placed n m ≡ placed n t

  branch_back : (a b : Atom) (sy sz s ty tz t my mz m : Tree) (n : ℕ) → role n ≡ Same → b ≡ a → Back (n + 1) sy ty my → Back (n + 1 + sites_of ty) sz tz mz → Back (n + 1 + sites_of ty + sites_of tz) s t m
      → Back n (IfThen b sy sz s) (IfThen a ty tz t) (IfThen a my mz m)
  branch_back a b sy sz s ty tz t my mz m n at test one other rest =
      let n1 = n + 1 in
      let n2 = n + 1 + sites_of ty in
      let n3 = n + 1 + sites_of ty + sites_of tz in
      record {
        long = omega (arith, one.long, other.long, rest.long);
        walked = λ done.
            let d0 = done ++ with_partner Same ∷ [] in
            let d1 = d0 ++ parts_of role n1 ty in
            let d2 = d1 ++ parts_of role n2 tz in
            let wy = walk new ty in
            let wz = walk new tz in
            let wr = walk new t in
            ap (λ (c : Atom). cond (atoms_equal c a) (and_then (wy sy d0) (λ d. and_then (wz sz d) (wr s))) (Apart (length done))) test
            ∙ ap (λ (x : Bool). cond x (and_then (wy sy d0) (λ d. and_then (wz sz d) (wr s))) (Apart (length done))) (atoms_equal-refl a)
            ∙ ap (λ (o : Outcome). and_then o (λ d. and_then (wz sz d) (wr s))) (one.walked d0)
            ∙ ap (λ (o : Outcome). and_then o (wr s)) (other.walked d1)
            ∙ rest.walked d2
            ∙ ap Together (simp append_assoc)
            ∙ ap (λ (q : Role). Together (done ++ (with_partner q ∷ (parts_of role n1 ty ++ (parts_of role n2 tz ++ parts_of role n3 t))))) (sym at);
        starts = λ k stops. absurd stops;
        merges = λ all is.
            let y : SameFrom n1 my (restored all n1 ty) = one.merges all (λ site from to. is site (omega (arith, from)) (omega (arith, to))) in
            let z : SameFrom n2 mz (restored all n2 tz) = other.merges all (λ site from to. is site (omega (arith, from)) (omega (arith, to))) in
            let r : SameFrom n3 m (restored all n3 t) = rest.merges all (λ site from to. is site (omega (arith, from)) (omega (arith, to))) in
            let ly : sites_of (restored all n1 ty) ≡ sites_of ty = sites_stay (λ site. restored_leaf (role_at all site)) n1 ty in
            let lz : sites_of (restored all n2 tz) ≡ sites_of tz = sites_stay (λ site. restored_leaf (role_at all site)) n2 tz in
            branch_same n a my mz m (restored all n1 ty) (restored all n2 tz) (restored all n3 t) n2 n3 (omega (arith, one.long)) (omega (arith, ly)) (omega (arith, one.long, other.long)) (omega (arith, ly, lz)) y z r;
      }
    where
      branch_same : (n : ℕ) (a : Atom) (y z r y' z' r' : Tree) (n2 n3 : ℕ) → n + 1 + sites_of y ≡ n2 → n + 1 + sites_of y' ≡ n2 → n + 1 + sites_of y + sites_of z ≡ n3 → n + 1 + sites_of y' + sites_of z' ≡ n3
          → SameFrom (n + 1) y y' → SameFrom n2 z z' → SameFrom n3 r r' → placed n (IfThen a y z r) ≡ placed n (IfThen a y' z' r')
      branch_same n a y z r y' z' r' n2 n3 e e' f f' h k l =
          let second : placed (n + 1 + sites_of y) z ≡ placed (n + 1 + sites_of y') z' = ap (λ j. placed j z) e ∙ k ∙ ap (λ j. placed j z') (sym e') in
          let last : placed (n + 1 + sites_of y + sites_of z) r ≡ placed (n + 1 + sites_of y' + sites_of z') r' = ap (λ j. placed j r) f ∙ l ∙ ap (λ j. placed j r') (sym f') in
          (λ i. Branch (visit n (If a tt tt)) (h i) (second i) (last i))

  loop_back : (a b : Atom) (sd s td t md m : Tree) (n : ℕ) → role n ≡ Same → b ≡ a → Back (n + 1) sd td md → Back (n + 1 + sites_of td) s t m
      → Back n (WhileThen b sd s) (WhileThen a td t) (WhileThen a md m)
  loop_back a b sd s td t md m n at test body rest =
      let n1 = n + 1 in
      let n2 = n + 1 + sites_of td in
      record {
        long = omega (arith, body.long, rest.long);
        walked = λ done.
            let d0 = done ++ with_partner Same ∷ [] in
            let d1 = d0 ++ parts_of role n1 td in
            let wd = walk new td in
            let wr = walk new t in
            ap (λ (c : Atom). cond (atoms_equal c a) (and_then (wd sd d0) (wr s)) (Apart (length done))) test
            ∙ ap (λ (x : Bool). cond x (and_then (wd sd d0) (wr s)) (Apart (length done))) (atoms_equal-refl a)
            ∙ ap (λ (o : Outcome). and_then o (wr s)) (body.walked d0)
            ∙ rest.walked d1
            ∙ ap Together (simp append_assoc)
            ∙ ap (λ (q : Role). Together (done ++ (with_partner q ∷ (parts_of role n1 td ++ parts_of role n2 t)))) (sym at);
        starts = λ k loops. refl;
        merges = λ all is.
            let d : SameFrom n1 md (restored all n1 td) = body.merges all (λ site from to. is site (omega (arith, from)) (omega (arith, to))) in
            let r : SameFrom n2 m (restored all n2 t) = rest.merges all (λ site from to. is site (omega (arith, from)) (omega (arith, to))) in
            let ld : sites_of (restored all n1 td) ≡ sites_of td = sites_stay (λ site. restored_leaf (role_at all site)) n1 td in
            let last : placed (n + 1 + sites_of md) m ≡ placed (n + 1 + sites_of (restored all n1 td)) (restored all n2 t) =
            ap (λ j. placed j m) (omega (arith, body.long)) ∙ r ∙ ap (λ j. placed j (restored all n2 t)) (omega (arith, ld)) in
            (λ i. Loop (visit n (While a tt)) (d i) (last i));
      }

  -- a load's register, of the source and of the target
  abbrev pub Own : Code → Code → Type 0
  Own a b = AllCode (LoadsBelow new.first) a × AllCode (LoadsBelow new.end) b

  -- what stands beside is walked to its end
  abbrev Goes : (a b c : Code) → Type 0
  Goes a b c = (s t m : Tree) (k n : ℕ) → placed k s ≡ a → placed n t ≡ b → placed n m ≡ c → Own a b → Back n s t m

  back_of : (s s' t t' m m' : Tree) (n : ℕ) → s ≡ s' → t ≡ t' → m ≡ m' → Back n s' t' m' → Back n s t m
  back_of s s' t t' m m' n e f g b = rw (e, f, g) b

  end_back : (n : ℕ) → Back n Empty Empty Empty
  end_back n = record { long = refl; walked = λ done. ap Together (sym (append-nil done)); starts = λ k stops. absurd stops; merges = λ all is. refl }

  -- a plain statement beside its partner
  plain_goes : {u v w : Visit} {a b c : Code} (r : Role) → role v.site ≡ r → ((h : Leaf) → head_of_leaf h ≡ v.head → is_inserted new (head_of_leaf h) ≡ false) → role_of u.head v.head ≡ Some r
      → ((h : Leaf) → head_of_leaf h ≡ v.head → w.head ≡ head_of_leaf (restored_leaf r h)) → Goes a b c → Goes (Plain u a) (Plain v b) (Plain w c)
  plain_goes {u} {v} {w} {a} {b} {c} r at own means kept goes s t m k n es et em o =
      let p = placed_plain k s u a es in
      let q = placed_plain n t v b et in
      let l = placed_plain n m w c em in
      let uh : head_of_leaf p.leaf ≡ u.head = sym (ap (λ (x : Visit). x.head) p.at) in
      let vh : head_of_leaf q.leaf ≡ v.head = sym (ap (λ (x : Visit). x.head) q.at) in
      let wh : head_of_leaf l.leaf ≡ w.head = sym (ap (λ (x : Visit). x.head) l.at) in
      back_of s (Then p.leaf p.rest) t (Then q.leaf q.rest) m (Then l.leaf l.rest) n p.is q.is l.is
      (plain_back p.leaf q.leaf l.leaf p.rest q.rest l.rest n r (ap role (sym (ap (λ (x : Visit). x.site) q.at)) ∙ at) (own q.leaf vh)
      ((λ i. role_of (uh i) (vh i)) ∙ means) (wh ∙ kept q.leaf vh) (goes p.rest q.rest l.rest (k + 1) (n + 1) p.after q.after l.after (o.0.1, o.1.1)))

  goes : {a b c : Code} → Beside new.first role a b c → Goes a b c
  goes both_end s t m k n es et em o = back_of s Empty t Empty m Empty n (placed_end k s es) (placed_end n t et) (placed_end n m em) (end_back n)
  goes (same {u = u} {v = v} {w = w} at heads is more) s t m k n es et em o =
      plain_goes Same at (λ h e. ap (is_inserted new) (e ∙ sym heads) ∙ not_inserted new u.head o.0.0) (role_same u.head v.head heads)
      (λ h e. ap (λ (x : Visit). x.head) is ∙ sym e ∙ sym (same_kept h)) (goes more) s t m k n es et em o
  goes (turned {u = u} {v = v} {w = w} r x a at uh vh is more) s t m k n es et em o =
      plain_goes (Turned x a) at (λ h e. ap (is_inserted new) (e ∙ vh)) ((λ i. role_of (uh i) (vh i)) ∙ role_turned r x a)
      (λ h e. ap (λ (y : Visit). y.head) is ∙ sym (head_back (Turned x a) h ∙ ap (back (Turned x a)) (e ∙ vh))) (goes more) s t m k n es et em o
  goes (removed {u = u} {v = v} {w = w} x a at uh vh is more) s t m k n es et em o =
      plain_goes (Removed x a) at (λ h e. ap (is_inserted new) (e ∙ vh)) (λ i. role_of (uh i) (vh i))
      (λ h e. ap (λ (y : Visit). y.head) is ∙ sym (head_back (Removed x a) h ∙ ap (back (Removed x a)) (e ∙ vh))) (goes more) s t m k n es et em o
  goes (inserted {v = v} {w = w} {a = a} {b = b} {c = c} g x at vh first is starts more) s t m k n es et em o =
      let q = placed_plain n t v b et in
      let l = placed_plain n m w c em in
      let here : head_of_leaf q.leaf ≡ v.head = sym (ap (λ (y : Visit). y.head) q.at) in
      let kept : head_of_leaf l.leaf ≡ head_of_leaf q.leaf = sym (ap (λ (y : Visit). y.head) l.at) ∙ ap (λ (y : Visit). y.head) is ∙ sym here in
      back_of s s t (Then q.leaf q.rest) m (Then l.leaf l.rest) n refl q.is l.is
      (inserted_back q.leaf l.leaf s q.rest l.rest k n g x (ap role (sym (ap (λ (y : Visit). y.site) q.at)) ∙ at) (here ∙ vh) first (o.1.0 g x vh) (subst StartsLoop (sym es) starts) kept
      (goes more s q.rest l.rest k (n + 1) es q.after l.after (o.0, o.1.1)))
  goes (branch {u = u} {v = v} {w = w} {y = y} {n = z} {a = a} {y' = y'} {n' = z'} {b = b} {y'' = y''} {n'' = z''} {c = c} at heads is one other more) s t m k n es et em o =
      let p = placed_branch k s u y z a es in
      let q = placed_branch n t v y' z' b et in
      let l = placed_branch n m w y'' z'' c em in
      let tests : ◌≡◌ {A = Head} (If p.test tt tt) (If q.test tt tt) = ap (λ (x : Visit). x.head) (sym p.at) ∙ heads ∙ ap (λ (x : Visit). x.head) q.at in
      let same_test : p.test ≡ q.test = cc in
      let merged : ◌≡◌ {A = Head} (If l.test tt tt) (If q.test tt tt) = ap (λ (x : Visit). x.head) (sym l.at ∙ is ∙ q.at) in
      let merged_test : l.test ≡ q.test = cc in
      let b1 = goes one p.one q.one l.one (k + 1) (n + 1) p.in_one q.in_one l.in_one (o.0.1, o.1.1) in
      let b2 = goes other p.other q.other l.other (k + 1 + sites_of p.one) (n + 1 + sites_of q.one) p.in_other q.in_other (ap (λ j. placed j l.other) (omega (arith, b1.long)) ∙ l.in_other) (o.0.2, o.1.2) in
      let b3 = goes more p.rest q.rest l.rest (k + 1 + sites_of p.one + sites_of p.other) (n + 1 + sites_of q.one + sites_of q.other) p.after q.after (ap (λ j. placed j l.rest) (omega (arith, b1.long, b2.long)) ∙ l.after) (o.0.3, o.1.3) in
      back_of s (IfThen p.test p.one p.other p.rest) t (IfThen q.test q.one q.other q.rest) m (IfThen q.test l.one l.other l.rest) n p.is q.is (l.is ∙ ap (λ (x : Atom). IfThen x l.one l.other l.rest) merged_test)
      (branch_back q.test p.test p.one p.other p.rest q.one q.other q.rest l.one l.other l.rest n (ap role (sym (ap (λ (x : Visit). x.site) q.at)) ∙ at) same_test b1 b2 b3)
  goes (loop {u = u} {v = v} {w = w} {d = d} {a = a} {d' = d'} {b = b} {d'' = d''} {c = c} at heads is body more) s t m k n es et em o =
      let p = placed_loop k s u d a es in
      let q = placed_loop n t v d' b et in
      let l = placed_loop n m w d'' c em in
      let tests : ◌≡◌ {A = Head} (While p.test tt) (While q.test tt) = ap (λ (x : Visit). x.head) (sym p.at) ∙ heads ∙ ap (λ (x : Visit). x.head) q.at in
      let same_test : p.test ≡ q.test = cc in
      let merged : ◌≡◌ {A = Head} (While l.test tt) (While q.test tt) = ap (λ (x : Visit). x.head) (sym l.at ∙ is ∙ q.at) in
      let merged_test : l.test ≡ q.test = cc in
      let b1 = goes body p.body q.body l.body (k + 1) (n + 1) p.inside q.inside l.inside (o.0.1, o.1.1) in
      let b2 = goes more p.rest q.rest l.rest (k + 1 + sites_of p.body) (n + 1 + sites_of q.body) p.after q.after (ap (λ j. placed j l.rest) (omega (arith, b1.long)) ∙ l.after) (o.0.2, o.1.2) in
      back_of s (WhileThen p.test p.body p.rest) t (WhileThen q.test q.body q.rest) m (WhileThen q.test l.body l.rest) n p.is q.is (l.is ∙ ap (λ (x : Atom). WhileThen x l.body l.rest) merged_test)
      (loop_back q.test p.test p.body p.rest q.body q.rest l.body l.rest n (ap role (sym (ap (λ (x : Visit). x.site) q.at)) ∙ at) same_test b1 b2)

  pub walked_back : (s t m : Tree) → Beside new.first role (placed 0 s) (placed 0 t) (placed 0 m) → Own (placed 0 s) (placed 0 t) → Back 0 s t m
  walked_back s t m beside o = goes beside s t m 0 0 refl refl refl o
