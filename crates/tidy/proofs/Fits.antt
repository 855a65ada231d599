-- What a function is tidied to fits where the function does.
use Rattle.std.proofs.Common.{◌≡◌, ◌≤◌, ◌<◌, ◌^◌, ℕ, ℤ, pos, negsuc, suc, ◌+◌, max, Bool, true, false, cond, not, ◌&&◌, nat_le, nat_lt, eqb, List, [], ◌∷◌, ◌++◌, length, map, Option, Some, None, slice_get, FitsSigned, int_rem, refl, sym, ap, ◌∙◌, subst, ⊎_elim, arith}
use Rattle.std.specs.Prelude.{unwrap_or}
use Rattle.std.specs.List.{list_all, AllByRecursion}
use Rattle.std.specs.Ordering.{int_eq}
use Rattle.std.specs.Int.{w64, cast_signed}
use Rattle.std.specs.Int.Signed.{mag, mag_rem}
use Rattle.std.proofs.lemmas.Int.{ints}
use Rattle.std.proofs.lemmas.Bool.Decides.{Decides-int_eq}
use Rattle.std.proofs.lemmas.Bool.{false≢true, and_parts, and_from, or_cases, lt-ltb, ltb-true}
use Rattle.std.proofs.lemmas.Option.{none-some}
use Rattle.std.proofs.lemmas.List.{length-map}
use Rattle.values_undef.specs.Arithmetic.{truth_value, number_result, divides, is_nonzero, strict_in_undef, result_of}
use Rattle.values_undef.specs.declared.arithmetic.Op.{Op}
use Rattle.values_undef.specs.declared.arithmetic.Op.TheVariants.{Add, Sub, Mul, Div, Rem, And, Or, Xor, Eq, Ne, Lt, Le}
use Rattle.values_undef.specs.declared.value.Val.{Val}
use Rattle.values_undef.specs.declared.value.Val.TheVariants.{Def, Undef}
use Rattle.il_syntax.specs.declared.statement.Atom.{Atom}
use Rattle.il_syntax.specs.declared.statement.Atom.TheVariants.{Const, Reg}
use Rattle.il_syntax.specs.declared.statement.Rmw.TheVariants as rmw
use Rattle.il_syntax.specs.declared.statement.Stmt.TheOpen.{Skip, Copy, Compute, Load, Store, AtomicLoad, AtomicStore, Update, Fence, Print, If, While, Call}
use Rattle.il_syntax.specs.declared.program.Function.{Function}
use Rattle.il_syntax.specs.Statements.{Head, heads_of_all, site_count, depth_of_all}
use Rattle.il_syntax.specs.WellFormed.{Declared, is_signed_64, atom_exists, numbers_exist, atomic_location_exists, na_location_exists, order_is_allowed, arity_agrees, has_params}
use Rattle.il_syntax.specs.Checks.{head_fits, registers_fit, body_fits}
use Rattle.il_syntax.proofs.Callers.{function_fits-is_well_formed, well_formed-function_fits}
use Rattle.il_paths.specs.Atoms.{atoms_equal}
use Rattle.il_paths.specs.Heads.{gives}
use Rattle.il_paths.specs.Tree.{Tree, Empty, Then, IfThen, WhileThen, tree_of, heads_in, sites_of}
use Rattle.il_paths.specs.Code.{Visit, Code, placed, AllCode}
use Rattle.il_paths.specs.Paths.{IsPath, ends, passes, takes_yes_block, takes_no_block, turns, leaves}
use Rattle.il_paths.specs.Meets.{fold_forward}
use Rattle.il_paths.proofs.Callers.{heads_agree, all_heads_of, all_placed, some_path, atoms_equal-true}
use Rattle.path_meets.specs.Chain.{must_rank}
use Rattle.path_meets.proofs.Callers.{before_exist}
use Rattle.rewriting.proofs.Callers.{depth_in, depths_agree, depth_stays, changed_count}
use Rattle.tidy.specs.Atoms.{atoms_in, with_atoms}
use Rattle.tidy.specs.Known.{makes, touches, known_step, known_at_entry, IsKnown, IsKnownAtEnd}
use Rattle.tidy.specs.Propagated.{IsLeast, propagated_atom, propagated_tree}
use Rattle.tidy.specs.Tidied.{folded_leaf, cleared_leaf}
use Rattle.tidy.specs.Laws.{TidiedFits}
use Rattle.tidy.proofs.OnRuns.{site_inside}
use Rattle.tidy.proofs.Counts.{count_propagated}
use Rattle.tidy.proofs.Mapped.{mapped, replaced_head}
use Rattle.tidy.proofs.Cleared.{cleared_head, ClearedCase, stays, goes, cleared_case, heads_of_cleared}
use Rattle.tidy.proofs.Acceptance.{folded_head, FoldedCase, left_so, is_done, folded_case, known_least, tree_of_read, tree_of_computed}

-- ---- numbers of 64 bits

bits_from : (z : ℤ) → mag z < 2 ^ 63 → is_signed_64 z ≡ true
bits_from (pos n) h = lt-ltb n (2 ^ 63) h
bits_from (negsuc n) h = lt-ltb n (2 ^ 63) h

bits_to : (z : ℤ) → is_signed_64 z ≡ true → mag z < 2 ^ 63
bits_to (pos n) h = ltb-true n (2 ^ 63) h
bits_to (negsuc n) h = ltb-true n (2 ^ 63) h

cast_fits : (n : ℕ) → FitsSigned w64 (cast_signed w64 n)
cast_fits n = omega (arith, ints)

-- as a fact of the number alone
record HasBits (z : ℤ) : Type 0 where
  is : is_signed_64 z ≡ true

cast_has_bits : (n : ℕ) → HasBits (cast_signed w64 n)
cast_has_bits n = let f = cast_fits n in record { is = bits_from (cast_signed w64 n) (omega (arith, f.sfits)) }

truth_has_bits : (b : Bool) → HasBits (truth_value b)
truth_has_bits true = record { is = refl }
truth_has_bits false = record { is = refl }

number_has_bits : (op : Op) (x y : ℤ) → is_signed_64 x ≡ true → HasBits (number_result op x y)
number_has_bits Add x y h = cast_has_bits _
number_has_bits Sub x y h = cast_has_bits _
number_has_bits Mul x y h = cast_has_bits _
number_has_bits Div x y h = cast_has_bits _
number_has_bits Rem x y h = let few = bits_to x h in record { is = bits_from (int_rem x y) (omega (arith, few, mag_rem x y)) }
number_has_bits And x y h = cast_has_bits _
number_has_bits Or x y h = cast_has_bits _
number_has_bits Xor x y h = cast_has_bits _
number_has_bits Eq x y h = truth_has_bits _
number_has_bits Ne x y h = truth_has_bits _
number_has_bits Lt x y h = truth_has_bits _
number_has_bits Le x y h = truth_has_bits _

abbrev number_or : ℤ → Option Val → ℤ
number_or n (Some (Def v)) = v
number_or n (Some Undef) = n
number_or n None = n

result_has_bits : (op : Op) (m n v : ℤ) → is_signed_64 m ≡ true → result_of op (Def m) (Def n) ≡ Some (Def v) → is_signed_64 v ≡ true
result_has_bits op m n v h e = go (divides op && not (is_nonzero (Def n))) e
  where
    go : (b : Bool) → cond b None (Some (strict_in_undef (number_result op) (Def m) (Def n))) ≡ Some (Def v) → is_signed_64 v ≡ true
    go true f = absurd (none-some (Def v) f)
    go false f = subst (λ (z : ℤ). is_signed_64 z ≡ true) (ap (number_or m) f) (number_has_bits op m n h).is

-- ---- what is known exists

abbrev OnVisits : (Head → Type 0) → List Visit → Type 0
OnVisits P [] = Unit {0}
OnVisits P (v ∷ p) = P v.head × OnVisits P p

visits_join : (P : Head → Type 0) (p q : List Visit) → OnVisits P p → OnVisits P q → OnVisits P (p ++ q)
visits_join P [] q h k = k
visits_join P (v ∷ p) q h k = (h.0, visits_join P p q h.1 k)

visits_left : (P : Head → Type 0) (p q : List Visit) → OnVisits P (p ++ q) → OnVisits P p
visits_left P [] q h = tt
visits_left P (v ∷ p) q h = (h.0, visits_left P p q h.1)

on_path : (P : Head → Type 0) {c : Code} {p : List Visit} → AllCode P c → IsPath c p → OnVisits P p
on_path P h ends = tt
on_path P h (passes f) = (h.0, on_path P h.1 f)
on_path P h (takes_yes_block {p = p} {q = q} f g) = (h.0, visits_join P p q (on_path P h.1 f) (on_path P h.3 g))
on_path P h (takes_no_block {p = p} {q = q} f g) = (h.0, visits_join P p q (on_path P h.2 f) (on_path P h.3 g))
on_path P h (turns {p = p} {q = q} f g) = (h.0, visits_join P p q (on_path P h.1 f) (on_path P h g))
on_path P h (leaves g) = (h.0, on_path P h.2 g)

module _ (d : Declared) (f : Function) where
  abbrev n : ℕ
  n = length f.registers

  abbrev test : Head → Bool
  test = head_fits n d.na d.atomic d.params

  abbrev Fits : Head → Type 0
  Fits h = test h ≡ true

  numbers_of : (h : Head) → Fits h → numbers_exist n (length d.params) h ≡ true
  numbers_of h e = (and_parts (numbers_exist n (length d.params) h) (atomic_location_exists d.atomic h && (na_location_exists d.na h && (order_is_allowed h && arity_agrees d.params h))) e).0

  made_exists : (r : ℕ) (a : Atom) (h : Head) → Fits h → makes r a h ≡ true → atom_exists n a ≡ true
  made_exists r a (Copy k b) q e =
      let outer = and_parts (eqb k r) (atoms_equal a b && not (atoms_equal a (Reg r))) e in
      let inner = and_parts (atoms_equal a b) (not (atoms_equal a (Reg r))) outer.1 in
      ap (atom_exists n) (atoms_equal-true a b inner.0) ∙ (and_parts (nat_lt k n) (atom_exists n b) (numbers_of (Copy k b) q)).1
  made_exists r a Skip q e = absurd (false≢true e)
  made_exists r a (Compute k op b c) q e = absurd (false≢true e)
  made_exists r a (Load k x) q e = absurd (false≢true e)
  made_exists r a (Store x b) q e = absurd (false≢true e)
  made_exists r a (AtomicLoad k order y) q e = absurd (false≢true e)
  made_exists r a (AtomicStore order y b) q e = absurd (false≢true e)
  made_exists r a (Update k order y kind) q e = absurd (false≢true e)
  made_exists r a (Fence order) q e = absurd (false≢true e)
  made_exists r a (Print b) q e = absurd (false≢true e)
  made_exists r a (If b _ _) q e = absurd (false≢true e)
  made_exists r a (While b _) q e = absurd (false≢true e)
  made_exists r a (Call k g args) q e = absurd (false≢true e)

  carried : (r : ℕ) (a : Atom) (p : List Visit) (b : Bool) → (b ≡ true → atom_exists n a ≡ true) → OnVisits Fits p → fold_forward (known_step r a) p b ≡ true → atom_exists n a ≡ true
  carried r a [] b h on e = h e
  carried r a (v ∷ p) b h on e =
      carried r a p (known_step r a v b)
      (λ k. ⊎_elim (λ (m : makes r a v.head ≡ true). made_exists r a v.head on.0 m) (λ (m : (not (touches r a (gives v.head)) && b) ≡ true). h (and_parts (not (touches r a (gives v.head))) b m).1) (or_cases (makes r a v.head) (not (touches r a (gives v.head)) && b) k))
      on.1 e

  entry_exists : (r : ℕ) (a : Atom) → known_at_entry f r a ≡ true → atom_exists n a ≡ true
  entry_exists r (Const m) e =
      let outer = and_parts (nat_le f.params r) (nat_lt r n && int_eq m (pos 0)) e in
      let inner = and_parts (nat_lt r n) (int_eq m (pos 0)) outer.1 in
      ap (λ (z : ℤ). is_signed_64 z) ((Decides-int_eq m (pos 0)).0 inner.1)
  entry_exists r (Reg s) e = absurd (false≢true e)

  all_fit : list_all test (heads_in (tree_of f.body)) ≡ true → AllCode Fits (placed 0 (tree_of f.body))
  all_fit e = all_placed Fits 0 (tree_of f.body) (all_heads_of Fits (tree_of f.body) (by_list (heads_in (tree_of f.body)) e))
    where
      by_list : (hs : List Head) → list_all test hs ≡ true → AllByRecursion Fits hs
      by_list [] e = tt
      by_list (h ∷ hs) e = let p = and_parts (test h) (list_all test hs) e in (p.0, by_list hs p.1)

  module _ (fit : list_all test (heads_in (tree_of f.body)) ≡ true) where
    known_exists : (site r : ℕ) (a : Atom) → site < sites_of (tree_of f.body) → IsKnown f site r a → atom_exists n a ≡ true
    known_exists site r a l k =
        let some = before_exist Bool must_rank 1 (λ v b. b) (λ v a b h. h) bounded (tree_of f.body) true site l in
        let path = some.1.reached in
        carried r a path.0 (known_at_entry f r a) (entry_exists r a) (visits_left Fits path.0 (path.1.0 ∷ path.1.1) (on_path Fits (all_fit fit) path.1.3)) (k path.0 path.1)
      where
        bounded : (a : Bool) → must_rank a ≤ 1
        bounded true = omega arith
        bounded false = omega arith

    end_exists : (r : ℕ) (a : Atom) → IsKnownAtEnd f r a → atom_exists n a ≡ true
    end_exists r a k =
        let some = some_path (placed 0 (tree_of f.body)) in
        carried r a some.0 (known_at_entry f r a) (entry_exists r a) (on_path Fits (all_fit fit) some.1) (k some.0 some.1)

    replaced_exists : (known : ℕ → Atom → Type 0) (least : ℕ → Option Atom) → ((r : ℕ) → IsLeast (known r) (least r)) → ((r : ℕ) (a : Atom) → known r a → atom_exists n a ≡ true) → (a : Atom) → atom_exists n a ≡ true → atom_exists n (propagated_atom least a) ≡ true
    replaced_exists known least is exists (Const m) e = e
    replaced_exists known least is exists (Reg r) e = go (least r) refl
      where
        go : (o : Option Atom) → least r ≡ o → atom_exists n (unwrap_or o (Reg r)) ≡ true
        go None g = e
        go (Some b) g = exists r b (known_least (known r) (least r) (is r) b g)

  -- ---- statements

  abbrev rest_of : Head → Bool
  rest_of h = atomic_location_exists d.atomic h && (na_location_exists d.na h && (order_is_allowed h && arity_agrees d.params h))

  test_from : (h : Head) → numbers_exist n (length d.params) h ≡ true → rest_of h ≡ true → Fits h
  test_from h p q = and_from (numbers_exist n (length d.params) h) (rest_of h) p q

  test_parts : (h : Head) → Fits h → (numbers_exist n (length d.params) h ≡ true) × (rest_of h ≡ true)
  test_parts h e = and_parts (numbers_exist n (length d.params) h) (rest_of h) e

  module _ (change : Atom → Atom) (keeps : (a : Atom) → atom_exists n a ≡ true → atom_exists n (change a) ≡ true) where
    abbrev put : Head → Head
    put h = with_atoms h (map change (atoms_in h))

    one_given : (r : ℕ) (a : Atom) → (nat_lt r n && atom_exists n a) ≡ true → (nat_lt r n && atom_exists n (change a)) ≡ true
    one_given r a e = let p = and_parts (nat_lt r n) (atom_exists n a) e in and_from (nat_lt r n) (atom_exists n (change a)) p.0 (keeps a p.1)

    two_kept : (a b : Atom) → (atom_exists n a && atom_exists n b) ≡ true → (atom_exists n (change a) && atom_exists n (change b)) ≡ true
    two_kept a b e = let p = and_parts (atom_exists n a) (atom_exists n b) e in and_from (atom_exists n (change a)) (atom_exists n (change b)) (keeps a p.0) (keeps b p.1)

    all_kept : (xs : List Atom) → list_all (atom_exists n) xs ≡ true → list_all (atom_exists n) (map change xs) ≡ true
    all_kept [] e = refl
    all_kept (a ∷ xs) e = let p = and_parts (atom_exists n a) (list_all (atom_exists n) xs) e in and_from (atom_exists n (change a)) (list_all (atom_exists n) (map change xs)) (keeps a p.0) (all_kept xs p.1)

    numbers_put : (h : Head) → numbers_exist n (length d.params) h ≡ true → numbers_exist n (length d.params) (put h) ≡ true
    numbers_put Skip e = refl
    numbers_put (Copy r a) e = one_given r a e
    numbers_put (Compute r op a b) e =
        let p = and_parts (nat_lt r n) (atom_exists n a && atom_exists n b) e in
        and_from (nat_lt r n) (atom_exists n (change a) && atom_exists n (change b)) p.0 (two_kept a b p.1)
    numbers_put (Load r x) e = e
    numbers_put (Store x a) e = keeps a e
    numbers_put (AtomicLoad r order y) e = e
    numbers_put (AtomicStore order y a) e = keeps a e
    numbers_put (Update r order y (rmw.Add a)) e = one_given r a e
    numbers_put (Update r order y (rmw.Swap a)) e = one_given r a e
    numbers_put (Update r order y (rmw.Cas a b)) e =
        let p = and_parts (nat_lt r n) (atom_exists n a && atom_exists n b) e in
        and_from (nat_lt r n) (atom_exists n (change a) && atom_exists n (change b)) p.0 (two_kept a b p.1)
    numbers_put (Fence order) e = refl
    numbers_put (Print a) e = keeps a e
    numbers_put (If a _ _) e = keeps a e
    numbers_put (While a _) e = keeps a e
    numbers_put (Call r g args) e =
        let p = and_parts (nat_lt r n) (nat_lt g (length d.params) && list_all (atom_exists n) args) e in
        let q = and_parts (nat_lt g (length d.params)) (list_all (atom_exists n) args) p.1 in
        and_from (nat_lt r n) (nat_lt g (length d.params) && list_all (atom_exists n) (map change args)) p.0 (and_from (nat_lt g (length d.params)) (list_all (atom_exists n) (map change args)) q.0 (all_kept args q.1))

    rest_put : (h : Head) → rest_of (put h) ≡ rest_of h
    rest_put Skip = refl
    rest_put (Copy r a) = refl
    rest_put (Compute r op a b) = refl
    rest_put (Load r x) = refl
    rest_put (Store x a) = refl
    rest_put (AtomicLoad r order y) = refl
    rest_put (AtomicStore order y a) = refl
    rest_put (Update r order y kind) = refl
    rest_put (Fence order) = refl
    rest_put (Print a) = refl
    rest_put (If a _ _) = refl
    rest_put (While a _) = refl
    rest_put (Call r g args) = ap (has_params d.params g) (length-map args change)

    put_fits : (h : Head) → Fits h → Fits (put h)
    put_fits h e = let p = test_parts h e in test_from (put h) (numbers_put h p.0) (rest_put h ∙ p.1)

  folded_fits : (h : Head) → Fits h → Fits (folded_head h)
  folded_fits h e = go (folded_case h)
    where
      go : FoldedCase h → Fits (folded_head h)
      go (left_so same) = ap test same ∙ e
      go (is_done r op m i v is done result) =
          let q = (test_parts (Compute r op (Const m) (Const i)) (ap test (sym is) ∙ e)).0 in
          let p = and_parts (nat_lt r n) (is_signed_64 m && is_signed_64 i) q in
          let bits = result_has_bits op m i v (and_parts (is_signed_64 m) (is_signed_64 i) p.1).0 result in
          ap test done ∙ test_from (Copy r (Const v)) (and_from (nat_lt r n) (is_signed_64 v) p.0 bits) refl

  cleared_fits : (live : ℕ → Bool) (h : Head) → Fits h → Fits (cleared_head live h)
  cleared_fits live h e = go (cleared_case live h)
    where
      go : ClearedCase live h → Fits (cleared_head live h)
      go (stays same) = ap test same ∙ e
      go (goes r a dead skip) = ap test skip

  all_mapped : (F : ℕ → Head → Head) (m : ℕ) (hs : List Head) → ((i : ℕ) (h : Head) → slice_get hs i ≡ Some h → Fits h → Fits (F (m + i) h)) → list_all test hs ≡ true → list_all test (mapped F m hs) ≡ true
  all_mapped F m [] k e = refl
  all_mapped F m (h ∷ hs) k e =
      let p = and_parts (test h) (list_all test hs) e in
      let here : m + 0 ≡ m = omega arith in
      and_from (test (F m h)) (list_all test (mapped F (m + 1) hs)) (subst (λ (i : ℕ). Fits (F i h)) here (k 0 h refl p.0))
      (all_mapped F (m + 1) hs (λ i x q w. let same : m + suc i ≡ m + 1 + i = omega arith in subst (λ (j : ℕ). Fits (F j x)) same (k (suc i) x q w)) p.1)

depth_replaced : (least : ℕ → ℕ → Option Atom) (m : ℕ) (t : Tree) → depth_in (propagated_tree least m t) ≡ depth_in t
depth_replaced least m Empty = refl
depth_replaced least m (Then leaf rest) = ap (max 0) (depth_replaced least (m + 1) rest)
depth_replaced least m (IfThen a y o rest) =
    λ i. max (1 + max (depth_replaced least (m + 1) y i) (depth_replaced least (m + 1 + sites_of y) o i)) (depth_replaced least (m + 1 + sites_of y + sites_of o) rest i)
depth_replaced least m (WhileThen a body rest) = λ i. max (1 + depth_replaced least (m + 1) body i) (depth_replaced least (m + 1 + sites_of body) rest i)

-- ---- the function

pub tidied_fits : TidiedFits
tidied_fits d f g w t =
    let n = length f.registers in
    let test = head_fits n d.na d.atomic d.params in
    let fits = well_formed-function_fits d f w in
    let a = and_parts (nat_le f.params 8) (nat_le f.params n && (registers_fit d.names f.registers && body_fits d f)) fits in
    let b = and_parts (nat_le f.params n) (registers_fit d.names f.registers && body_fits d f) a.1 in
    let c = and_parts (registers_fit d.names f.registers) (body_fits d f) b.1 in
    let few = nat_le (site_count f.body.statements) 4096 in
    let shallow = nat_le (depth_of_all f.body.statements) 32 in
    let hf = list_all test (heads_of_all f.body.statements) in
    let x = and_parts few (shallow && (hf && atom_exists n f.result)) c.1 in
    let y = and_parts shallow (hf && atom_exists n f.result) x.1 in
    let z = and_parts hf (atom_exists n f.result) y.1 in
    let in_f : list_all test (heads_in (tree_of f.body)) ≡ true = ap (list_all test) (heads_agree f.body) ∙ z.0 in
    let p = t.propagated in
    let in_h : list_all test (heads_in (tree_of t.read.body)) ≡ true = ap (list_all test) (tree_of_read f g t) ∙ all_mapped d f (replaced_head p.least) 0 (heads_in (tree_of f.body))
    (λ i h at e.
    let inside = site_inside f.body i h at in
    let same : 0 + i ≡ i = omega arith in
    subst (λ (j : ℕ). test (replaced_head p.least j h) ≡ true) (sym same)
    (put_fits d f (propagated_atom (p.least i)) (replaced_exists d f in_f (IsKnown f i) (p.least i) (λ r. p.is_least i r inside) (λ r a k. known_exists d f in_f i r a inside k)) h e)) in_f in
    let in_k : list_all test (heads_in (tree_of t.computed.body)) ≡ true = ap (list_all test) (tree_of_computed f g t) ∙ all_mapped d f (λ site. folded_head) 0 (heads_in (tree_of t.read.body)) (λ i h at e. folded_fits d f h e) in_h in
    let in_g : list_all test (heads_in (tree_of g.body)) ≡ true = ap (list_all test) (heads_of_cleared t.computed g t.cleared) ∙ all_mapped d f (λ site. cleared_head (t.cleared.live site)) 0 (heads_in (tree_of t.computed.body)) (λ i h at e. cleared_fits d f (t.cleared.live (0 + i)) h e) in_k in
    let result : atom_exists n g.result ≡ true = ap (atom_exists n) (t.cleared.changed.heads.result ∙ t.folded.heads.result ∙ p.result) ∙ replaced_exists d f in_f (IsKnownAtEnd f) p.at_end p.is_least_at_end (λ r a k. end_exists d f in_f r a k) f.result z.1 in
    let registers : g.registers ≡ f.registers = t.cleared.changed.heads.registers ∙ t.folded.heads.registers ∙ p.registers in
    let params : g.params ≡ f.params = t.cleared.changed.heads.params ∙ t.folded.heads.params ∙ p.params in
    let sites : site_count g.body.statements ≡ site_count f.body.statements = changed_count (λ site. cleared_leaf (t.cleared.live site)) t.computed g t.cleared.changed ∙ changed_count (λ site. folded_leaf) t.read t.computed t.folded ∙ count_propagated f t.read p in
    let depth : depth_of_all g.body.statements ≡ depth_of_all f.body.statements =
    sym (depths_agree g.body) ∙ ap depth_in t.cleared.changed.body ∙ depth_stays (λ site. cleared_leaf (t.cleared.live site)) 0 (tree_of t.computed.body) ∙ ap depth_in t.folded.body ∙ depth_stays (λ site. folded_leaf) 0 (tree_of t.read.body) ∙ ap depth_in p.body ∙ depth_replaced p.least 0 (tree_of f.body) ∙ depths_agree f.body in
    let m = length g.registers in
    let same : m ≡ n = ap length registers in
    let tests = λ (k : ℕ). list_all (head_fits k d.na d.atomic d.params) (heads_of_all g.body.statements) in
    let body : body_fits d g ≡ true =
    and_from (nat_le (site_count g.body.statements) 4096) (nat_le (depth_of_all g.body.statements) 32 && (tests m && atom_exists m g.result)) (ap (λ (k : ℕ). nat_le k 4096) sites ∙ x.0)
    (and_from (nat_le (depth_of_all g.body.statements) 32) (tests m && atom_exists m g.result) (ap (λ (k : ℕ). nat_le k 32) depth ∙ y.0)
    (and_from (tests m) (atom_exists m g.result) (ap tests same ∙ sym (ap (list_all test) (heads_agree g.body)) ∙ in_g) (ap (λ (k : ℕ). atom_exists k g.result) same ∙ result))) in
    function_fits-is_well_formed d g
    (and_from (nat_le g.params 8) (nat_le g.params m && (registers_fit d.names g.registers && body_fits d g)) (ap (λ (k : ℕ). nat_le k 8) params ∙ a.0)
    (and_from (nat_le g.params m) (registers_fit d.names g.registers && body_fits d g) ((λ i. nat_le (params i) (same i)) ∙ b.0)
    (and_from (registers_fit d.names g.registers) (body_fits d g) (ap (registers_fit d.names) registers ∙ c.0) body)))
