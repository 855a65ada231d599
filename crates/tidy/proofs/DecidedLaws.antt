-- The tests of statements say what is accepted.
use Rattle.std.proofs.Common.{◌≡◌, ◌<◌, ℕ, ℤ, Bool, true, false, not, ◌||◌, eqb, List, [], ◌∷◌, get_or, Option, Some, None, refl, sym, ap, ◌∙◌, subst, ⊎_elim}
use Rattle.std.specs.Prelude.{◌↔◌}
use Rattle.std.specs.List.{AllZip}
use Rattle.std.specs.Option.{option_map_or}
use Rattle.std.proofs.lemmas.Bool.{false≢true, and_parts, and_from, or_cases, or_left, or_right, eqb-true, eq-eqb, both_ways, not-true}
use Rattle.std.proofs.lemmas.Bool.Decides.{Decides-int_eq}
use Rattle.std.proofs.lemmas.Option.{none-some, same_Some}
use Rattle.values_undef.specs.Arithmetic.{result_of}
use Rattle.values_undef.specs.declared.arithmetic.Op.{Op}
use Rattle.values_undef.specs.declared.value.Val.{Val}
use Rattle.values_undef.specs.declared.value.Val.TheVariants.{Def, Undef}
use Rattle.il_syntax.specs.declared.statement.Atom.{Atom}
use Rattle.il_syntax.specs.declared.statement.Atom.TheVariants.{Const, Reg}
use Rattle.il_syntax.specs.declared.statement.Stmt.TheOpen.{Skip, Copy, Compute, Load, Store, AtomicLoad, AtomicStore, Update, Fence, Print, If, While, Call}
use Rattle.il_syntax.specs.declared.program.Function.{Function}
use Rattle.il_syntax.specs.Statements.{Head}
use Rattle.il_paths.specs.Atoms.{atoms_equal}
use Rattle.il_paths.specs.Tree.{tree_of, sites_of}
use Rattle.il_paths.proofs.Callers.{atoms_equal-true, atoms_equal-refl}
use Rattle.rewriting.specs.Heads.{is_skip, same_head}
use Rattle.rewriting.proofs.Callers.{same_head-true, same_head-refl}
use Rattle.location_sets.specs.Sets.{has}
use Rattle.tidy.specs.declared.known.KnownPair.{KnownPair}
use Rattle.tidy.specs.Atoms.{atoms_in, with_atoms}
use Rattle.tidy.specs.Known.{IsKnown}
use Rattle.tidy.specs.Live.{AreLiveSets}
use Rattle.tidy.specs.Propagated.{IsLeast}
use Rattle.tidy.specs.Accepts.{StandsFor, same, known_for, assigned_register, StatementAccepted, same_but_atoms, is_folded, is_left}
use Rattle.tidy.specs.Rows.{known_in, AreKnownRows}
use Rattle.tidy.specs.Least.{least_in}
use Rattle.tidy.specs.Decided.{known_as, stands_in, all_stand, differs_in_atoms, constant_of, constant_in, is_number, gives_number, copies_number, is_done, may_go, is_cleared, statement_accepted}
use Rattle.tidy.proofs.AtomLaws.{reads_put}
use Rattle.tidy.proofs.LeastLaws.{least_is}
use Rattle.tidy.proofs.Unique.{known_one}

-- ---- numbers

number_true : (v : ℤ) (o : Option Val) → is_number v o ≡ true → o ≡ Some (Def v)
number_true v None e = absurd (false≢true e)
number_true v (Some Undef) e = absurd (false≢true e)
number_true v (Some (Def n)) e = ap (λ (z : ℤ). Some (Def z)) ((Decides-int_eq n v).0 e)

-- two constants whose arithmetic gives a number
record Computed (op : Op) (o p : Option ℤ) (v : ℤ) : Type 0 where
  m : ℤ
  n : ℤ
  first : o ≡ Some m
  second : p ≡ Some n
  result : result_of op (Def m) (Def n) ≡ Some (Def v)

computed : (op : Op) (o p : Option ℤ) (v : ℤ) → gives_number op o p v ≡ true → Computed op o p v
computed op None p v e = absurd (false≢true e)
computed op (Some m) None v e = absurd (false≢true e)
computed op (Some m) (Some n) v e = record { m = m; n = n; first = refl; second = refl; result = number_true v (result_of op (Def m) (Def n)) e }

-- ---- what a row knows

module _ (known : ℕ → Atom → Type 0) (row : List KnownPair) (is : (r : ℕ) (a : Atom) → (known_in row r a ≡ true) ↔ known r a) where
  known_true : (a b : Atom) → known_as row a b ≡ true → StandsFor known a b
  known_true (Const n) b e = absurd (false≢true e)
  known_true (Reg r) b e = known_for r refl ((is r b).0 e)

  pub stands_true : (a b : Atom) → stands_in row a b ≡ true → StandsFor known a b
  stands_true a b e = ⊎_elim (λ (h : atoms_equal a b ≡ true). same (atoms_equal-true a b h)) (λ (h : known_as row a b ≡ true). known_true a b h) (or_cases (atoms_equal a b) (known_as row a b) e)

  pub stands_from : (a b : Atom) → StandsFor known a b → stands_in row a b ≡ true
  stands_from a b (same e) = or_left (atoms_equal a b) (known_as row a b) (subst (λ (c : Atom). atoms_equal a c ≡ true) e (atoms_equal-refl a))
  stands_from a b (known_for r e k) = or_right (atoms_equal a b) (known_as row a b) (subst (λ (c : Atom). known_as row c b ≡ true) (sym e) ((is r b).1 k))

  all_true : (xs ys : List Atom) → all_stand row xs ys ≡ true → AllZip (StandsFor known) xs ys
  all_true [] [] e = tt
  all_true [] (b ∷ ys) e = absurd (false≢true e)
  all_true (a ∷ xs) [] e = absurd (false≢true e)
  all_true (a ∷ xs) (b ∷ ys) e = let p = and_parts (stands_in row a b) (all_stand row xs ys) e in (stands_true a b p.0, all_true xs ys p.1)

  all_from : (xs ys : List Atom) → AllZip (StandsFor known) xs ys → all_stand row xs ys ≡ true
  all_from [] [] z = refl
  all_from [] (b ∷ ys) z = absurd z
  all_from (a ∷ xs) [] z = absurd z
  all_from (a ∷ xs) (b ∷ ys) z = and_from (stands_in row a b) (all_stand row xs ys) (stands_from a b z.0) (all_from xs ys z.1)

  constant_true : (a : Atom) (m : ℤ) → constant_in row a ≡ Some m → StandsFor known a (Const m)
  constant_true (Const n) m e = same (ap Const (same_Some n m e))
  constant_true (Reg r) m e = known_for r refl ((is r (Const m)).0 (go (least_in row r) (least_is row r) e))
    where
      go : (o : Option Atom) → IsLeast (λ a. known_in row r a ≡ true) o → constant_of o ≡ Some m → known_in row r (Const m) ≡ true
      go None h k = absurd (none-some m k)
      go (Some (Const n)) h k = subst (λ (z : ℤ). known_in row r (Const z) ≡ true) (same_Some n m k) h.0
      go (Some (Reg s)) h k = absurd (none-some m k)

  module _ (one : (r : ℕ) (a b : Atom) → known r a → known r b → a ≡ b) where
    constant_known : (r : ℕ) (m : ℤ) → known r (Const m) → constant_of (least_in row r) ≡ Some m
    constant_known r m k = go (least_in row r) (least_is row r)
      where
        go : (o : Option Atom) → IsLeast (λ a. known_in row r a ≡ true) o → constant_of o ≡ Some m
        go None h = absurd (h (Const m) ((is r (Const m)).1 k))
        go (Some b) h = ap (λ (c : Atom). constant_of (Some c)) (one r b (Const m) ((is r b).0 h.0) k)

    constant_from : (a : Atom) (m : ℤ) → StandsFor known a (Const m) → constant_in row a ≡ Some m
    constant_from a m (same e) = ap (constant_in row) e
    constant_from a m (known_for r e k) = ap (constant_in row) e ∙ constant_known r m k

    done_from : (r : ℕ) (op : Op) (a b : Atom) (m n v : ℤ) (old new : Head) → old ≡ Compute r op a b → new ≡ Copy r (Const v) → StandsFor known a (Const m) → StandsFor known b (Const n) → result_of op (Def m) (Def n) ≡ Some (Def v) → is_done row old new ≡ true
    done_from r op a b m n v old new e f first second result =
        (λ i. is_done row (e i) (f i)) ∙
        and_from (eqb r r) (gives_number op (constant_in row a) (constant_in row b) v) (eq-eqb r r refl)
        ((λ i. gives_number op (constant_from a m first i) (constant_from b n second i) v) ∙ ap (is_number v) result ∙ (Decides-int_eq v v).1 refl)

  differs_from : (old new : Head) (atoms : List Atom) → AllZip (StandsFor known) (atoms_in old) atoms → new ≡ with_atoms old atoms → differs_in_atoms row old new ≡ true
  differs_from old new atoms z e =
      let read : atoms_in new ≡ atoms = ap atoms_in e ∙ reads_put (StandsFor known) old atoms z in
      and_from (all_stand row (atoms_in old) (atoms_in new)) (same_head new (with_atoms old (atoms_in new)))
      (subst (λ (bs : List Atom). all_stand row (atoms_in old) bs ≡ true) (sym read) (all_from (atoms_in old) atoms z))
      (subst (λ (bs : List Atom). same_head new (with_atoms old bs) ≡ true) (sym read) (subst (λ (h : Head). same_head new h ≡ true) e (same_head-refl new)))

-- ---- what may go

record MayGo (live : List ℕ) (old : Head) : Type 0 where
  r : ℕ
  assigns : assigned_register old ≡ Some r
  dead : has r live ≡ false

may_go_true : (live : List ℕ) (old : Head) → may_go live old ≡ true → MayGo live old
may_go_true live old e = go (assigned_register old) refl e
  where
    go : (o : Option ℕ) → assigned_register old ≡ o → option_map_or (λ r. not (has r live)) o false ≡ true → MayGo live old
    go None a k = absurd (false≢true k)
    go (Some r) a k = record { r = r; assigns = a; dead = not-true (has r live) k }

-- ---- a statement

module _ (f g : Function) (rows : List (List KnownPair)) (sets : List (List ℕ)) (known : AreKnownRows f rows) (live : AreLiveSets g sets) (site : ℕ) (in_f : site < sites_of (tree_of f.body)) (in_g : site < sites_of (tree_of g.body)) (old new : Head) where
  abbrev row : List KnownPair
  row = get_or rows site []

  abbrev set : List ℕ
  set = get_or sets site []

  row_is : (r : ℕ) (a : Atom) → (known_in row r a ≡ true) ↔ IsKnown f site r a
  row_is r a = known site r a in_f

  cleared_true : is_cleared set old new ≡ true → StatementAccepted f g site old new
  cleared_true e =
      let p = and_parts (is_skip new) (may_go set old) e in
      let m = may_go_true set old p.1 in
      is_left m.r m.assigns (sym (same_head-true Skip new p.0)) (λ l. both_ways (has m.r set) m.dead ((live site m.r in_g).1 l))

  done_true : is_done row old new ≡ true → StatementAccepted f g site old new
  done_true e = go old new refl refl e
    where
      copied : (r : ℕ) (op : Op) (a b : Atom) (v : ℤ) → old ≡ Compute r op a b → new ≡ Copy r (Const v) → Computed op (constant_in row a) (constant_in row b) v → StatementAccepted f g site old new
      copied r op a b v p q c = is_folded r op a b c.m c.n v p q (constant_true (IsKnown f site) row row_is a c.m c.first) (constant_true (IsKnown f site) row row_is b c.n c.second) c.result

      by_copy : (r : ℕ) (op : Op) (a b : Atom) (h : Head) → old ≡ Compute r op a b → new ≡ h → copies_number row r op a b h ≡ true → StatementAccepted f g site old new
      by_copy r op a b (Copy s (Const v)) p q k =
          let parts = and_parts (eqb r s) (gives_number op (constant_in row a) (constant_in row b) v) k in
          let one = eqb-true r s parts.0 in
          copied r op a b v p (q ∙ ap (λ (t : ℕ). Copy t (Const v)) (sym one)) (computed op (constant_in row a) (constant_in row b) v parts.1)
      by_copy r op a b (Copy s (Reg t)) p q k = absurd (false≢true k)
      by_copy r op a b Skip p q k = absurd (false≢true k)
      by_copy r op a b (Compute s o c d) p q k = absurd (false≢true k)
      by_copy r op a b (Load s x) p q k = absurd (false≢true k)
      by_copy r op a b (Store x c) p q k = absurd (false≢true k)
      by_copy r op a b (AtomicLoad s order y) p q k = absurd (false≢true k)
      by_copy r op a b (AtomicStore order y c) p q k = absurd (false≢true k)
      by_copy r op a b (Update s order y kind) p q k = absurd (false≢true k)
      by_copy r op a b (Fence order) p q k = absurd (false≢true k)
      by_copy r op a b (Print c) p q k = absurd (false≢true k)
      by_copy r op a b (If c y n) p q k = absurd (false≢true k)
      by_copy r op a b (While c y) p q k = absurd (false≢true k)
      by_copy r op a b (Call s o args) p q k = absurd (false≢true k)

      go : (h n : Head) → old ≡ h → new ≡ n → is_done row h n ≡ true → StatementAccepted f g site old new
      go (Compute r op a b) n p q k = by_copy r op a b n p q k
      go Skip n p q k = absurd (false≢true k)
      go (Copy r a) n p q k = absurd (false≢true k)
      go (Load r x) n p q k = absurd (false≢true k)
      go (Store x a) n p q k = absurd (false≢true k)
      go (AtomicLoad r order y) n p q k = absurd (false≢true k)
      go (AtomicStore order y a) n p q k = absurd (false≢true k)
      go (Update r order y kind) n p q k = absurd (false≢true k)
      go (Fence order) n p q k = absurd (false≢true k)
      go (Print a) n p q k = absurd (false≢true k)
      go (If a y m) n p q k = absurd (false≢true k)
      go (While a y) n p q k = absurd (false≢true k)
      go (Call r o args) n p q k = absurd (false≢true k)

  differs_true : differs_in_atoms row old new ≡ true → StatementAccepted f g site old new
  differs_true e =
      let p = and_parts (all_stand row (atoms_in old) (atoms_in new)) (same_head new (with_atoms old (atoms_in new))) e in
      same_but_atoms (atoms_in new) (all_true (IsKnown f site) row row_is (atoms_in old) (atoms_in new) p.0) (same_head-true new (with_atoms old (atoms_in new)) p.1)

  -- the test is true where the statement is accepted, and only there
  pub accepted_true : statement_accepted row set old new ≡ true → StatementAccepted f g site old new
  accepted_true e =
      ⊎_elim (λ (h : is_cleared set old new ≡ true). cleared_true h)
      (λ (h : (is_done row old new || differs_in_atoms row old new) ≡ true).
      ⊎_elim (λ (k : is_done row old new ≡ true). done_true k) (λ (k : differs_in_atoms row old new ≡ true). differs_true k) (or_cases (is_done row old new) (differs_in_atoms row old new) h))
      (or_cases (is_cleared set old new) (is_done row old new || differs_in_atoms row old new) e)

  dead_of : (b : Bool) → (b ≡ true → ⊥) → not b ≡ true
  dead_of true h = absurd (h refl)
  dead_of false h = refl

  pub accepted_from : StatementAccepted f g site old new → statement_accepted row set old new ≡ true
  accepted_from (same_but_atoms atoms z e) =
      or_right (is_cleared set old new) (is_done row old new || differs_in_atoms row old new) (or_right (is_done row old new) (differs_in_atoms row old new) (differs_from (IsKnown f site) row row_is old new atoms z e))
  accepted_from (is_folded r op a b m n v e k first second result) =
      or_right (is_cleared set old new) (is_done row old new || differs_in_atoms row old new)
      (or_left (is_done row old new) (differs_in_atoms row old new) (done_from (IsKnown f site) row row_is (λ r a b. known_one f site r a b in_f) r op a b m n v old new e k first second result))
  accepted_from (is_left r assigns skip unwanted) =
      or_left (is_cleared set old new) (is_done row old new || differs_in_atoms row old new)
      (and_from (is_skip new) (may_go set old) (ap is_skip skip)
      (ap (λ (o : Option ℕ). option_map_or (λ r. not (has r set)) o false) assigns ∙ dead_of (has r set) (λ h. unwanted ((live site r in_g).0 h))))
