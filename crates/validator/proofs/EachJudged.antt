-- Each pair of functions is judged, and each pair of programs has a verdict.
use Rattle.std.proofs.Common.{◌≡◌, ℕ, zero, suc, ◌<◌, ◌≤◌, ◌⊎◌, inl, inr, ⊎_elim, Bool, true, false, cond, ◌&&◌, ◌||◌, ◌==◌, List, [], ◌∷◌, length, Option, Some, None, refl, sym, ap, ◌∙◌, subst, arith}
use Rattle.std.specs.Prelude.{◌↔◌, slice_index_or}
use Rattle.std.specs.List.{AllZip}
use Rattle.std.proofs.lemmas.Bool.{false≢true, cases_lt, eq-eqb, eqb-true, or_cases}
use Rattle.std.proofs.lemmas.Slice.Zip.{AllZip-long}
use Rattle.il_syntax.specs.declared.statement.Atom.{Atom}
use Rattle.il_syntax.specs.declared.statement.Stmt.TheOpen.{Skip, Copy, Compute, Load, Store, AtomicLoad, AtomicStore, Update, Fence, Print, If, While, Call}
use Rattle.il_syntax.specs.declared.program.Function.{Function}
use Rattle.il_syntax.specs.declared.program.Program.{Program}
use Rattle.il_syntax.specs.Statements.{Head}
use Rattle.il_paths.specs.Tree.{Tree, tree_of, sites_of}
use Rattle.il_paths.specs.Code.{Visit, placed}
use Rattle.il_paths.specs.Meets.{fold_forward}
use Rattle.path_meets.specs.Chain.{may_rank}
use Rattle.path_meets.proofs.Callers.{before_exist, through_exist, some_path_before, some_path_through}
use Rattle.flow_facts.specs.declared.level.Kind.TheVariants.{Both}
use Rattle.flow_facts.specs.declared.level.Level.{Level}
use Rattle.flow_facts.specs.declared.level.Level.TheVariants.{Nothing, Held, Fresh}
use Rattle.flow_facts.specs.declared.known.Known.{Known}
use Rattle.flow_facts.specs.Levels.{IsLevel}
use Rattle.il_paths.specs.Atoms.{atoms_equal}
use Rattle.flow_facts.specs.Rows.{higher, level_in}
use Rattle.flow_facts.proofs.Callers.{levels_exist}
use Rattle.il_paths.proofs.Callers.{atoms_equal-refl}
use Rattle.location_sets.specs.Sets.{has}
use Rattle.validator.specs.Roles.{Role, Same, Turned, Removed, Inserted, pending_after_head, pending_after_role, pending_step, pends}
use Rattle.validator.specs.declared.walk.Part.{Part}
use Rattle.validator.specs.declared.pending.Pending.{Pending}
use Rattle.validator.specs.declared.fault.Fault.{Fault}
use Rattle.validator.specs.declared.fault.Fault.TheVariants.{V1, V6}
use Rattle.validator.specs.declared.fault.Judged.{Judged}
use Rattle.validator.specs.declared.fault.Judged.TheVariants.{Yes, No}
use Rattle.validator.specs.declared.programs.Verdict.{Verdict}
use Rattle.validator.specs.declared.programs.Verdict.TheVariants.{OtherShape, Refused, Accepted}
use Rattle.validator.specs.Walk.{role_at, Outcome, Apart, Together, walk}
use Rattle.validator.specs.Merged.{merged}
use Rattle.validator.specs.Pending.{is_none, ArePending}
use Rattle.validator.specs.Faults.{same_heads, new_registers, with_heads, number, FaultAt, FaultOf, ComesPending, EndsPending, Accepts, HasFault, IsJudgedBy, IsJudged}
use Rattle.validator.specs.Told.{needs_of, fault_at}
use Rattle.validator.specs.Shape.{SameSignature, SameShape, parts_equal}
use Rattle.validator.specs.Programs.{IsFirstRefused, IsProgramVerdict}
use Rattle.validator.specs.Laws.{EachPairIsJudged, EachPairHasAVerdict}
use Rattle.validator.proofs.BoundLaws.{Spans, walk_spans}
use Rattle.validator.proofs.MergedLaws.{sites_of-restored}
use Rattle.validator.proofs.PendingLaws.{may_bounded, pending_monotone}
use Rattle.validator.proofs.FaultLaws.{TellsTurned, told_judged}
use Rattle.validator.proofs.FirstFaults.{one_first_fault}
use Rattle.validator.proofs.ShapeLaws.{shape_is}

-- a list of so many rows

abbrev rows_by : {A : Type 0} → ℕ → (ℕ → A) → List A
rows_by zero row = []
rows_by (suc n) row = row zero ∷ rows_by n (λ s. row (suc s))

row_there : {A : Type 0} (d : A) (n : ℕ) (row : ℕ → A) (site : ℕ) → site < n → slice_index_or (rows_by n row) site d ≡ row site
row_there d zero row site h = absurd (omega (arith, h))
row_there d (suc n) row zero h = refl
row_there d (suc n) row (suc site) h = row_there d n (λ s. row (suc s)) site (omega (arith, h))

-- the first of so many sites with a fault

abbrev FoundFirst : (ℕ → Option Fault) → ℕ → Type 0
FoundFirst f n = ((s : ℕ) → s < n → f s ≡ None) ⊎ ((s : ℕ) × (why : Fault) × (s < n) × ((other : ℕ) → other < s → f other ≡ None) × (f s ≡ Some why))

search_first : (f : ℕ → Option Fault) (n : ℕ) → FoundFirst f n
search_first f zero = inl (λ s h. absurd (omega (arith, h)))
search_first f (suc n) = ⊎_elim (λ none. here none (f n) refl) (λ g. inr (g.0, g.1, omega (arith, g.2), g.3, g.4)) (search_first f n)
  where
    here : ((s : ℕ) → s < n → f s ≡ None) → (o : Option Fault) → f n ≡ o → FoundFirst f (suc n)
    here none None e = inl (λ s h. ⊎_elim (λ l. none s l) (λ l. let same : s ≡ n = omega (arith, h, l) in ap f same ∙ e) (cases_lt s n))
    here none (Some why) e = inr (n, why, omega arith, none, e)

-- The members of a set that pass a test.

or_here : (p q : Bool) → p ≡ true → (p || q) ≡ true
or_here p q e = ap (λ (b : Bool). b || q) e

or_there : (p q : Bool) → q ≡ true → (p || q) ≡ true
or_there true q e = refl
or_there false q e = e

abbrev passing : (ℕ → Bool) → List ℕ → List ℕ
passing test [] = []
passing test (y ∷ ys) = cond (test y) (y ∷ passing test ys) (passing test ys)

passes : (test : ℕ → Bool) (xs : List ℕ) (x : ℕ) → has x (passing test xs) ≡ true → test x ≡ true
passes test [] x e = absurd (false≢true e)
passes test (y ∷ ys) x e = go (test y) refl e (passes test ys x)
  where
    go : (t : Bool) → test y ≡ t → has x (cond t (y ∷ passing test ys) (passing test ys)) ≡ true → (has x (passing test ys) ≡ true → test x ≡ true) → test x ≡ true
    go true t f more = ⊎_elim (λ same. ap test (sym (eqb-true y x same)) ∙ t) more (or_cases (y == x) (has x (passing test ys)) f)
    go false t f more = more f

kept_passing : (test : ℕ → Bool) (xs : List ℕ) (x : ℕ) → has x xs ≡ true → test x ≡ true → has x (passing test xs) ≡ true
kept_passing test [] x e t = absurd (false≢true e)
kept_passing test (y ∷ ys) x e t = go (test y) refl (or_cases (y == x) (has x ys) e) (λ h. kept_passing test ys x h t)
  where
    go : (b : Bool) → test y ≡ b → ((y == x) ≡ true) ⊎ (has x ys ≡ true) → (has x ys ≡ true → has x (passing test ys) ≡ true) → has x (cond b (y ∷ passing test ys) (passing test ys)) ≡ true
    go true f (inl same) more = or_here (y == x) (has x (passing test ys)) same
    go true f (inr there) more = or_there (y == x) (has x (passing test ys)) (more there)
    go false f (inl same) more = absurd (false≢true (sym f ∙ ap test (eqb-true y x same) ∙ t))
    go false f (inr there) more = more there

-- The locations of removed stores.

abbrev with_removed : Role → List ℕ → List ℕ
with_removed Same xs = xs
with_removed (Turned x a) xs = xs
with_removed (Removed x a) xs = x ∷ xs
with_removed Inserted xs = xs

abbrev removed : List Part → List ℕ
removed [] = []
removed (p ∷ ps) = with_removed p.role (removed ps)

still_removed : (role : Role) (xs : List ℕ) (x : ℕ) → has x xs ≡ true → has x (with_removed role xs) ≡ true
still_removed Same xs x e = e
still_removed (Turned y a) xs x e = e
still_removed (Removed y a) xs x e = or_there (y == x) (has x xs) e
still_removed Inserted xs x e = e

is_removed : Role → Bool
is_removed (Removed x a) = true
is_removed _ = false

pub same_removed : (x : ℕ) (a : Atom) → Same ≡ Removed x a → ⊥
unfolding is_removed
same_removed x a e = false≢true (ap is_removed e)

removed_there : (ps : List Part) (site x : ℕ) (a : Atom) → role_at ps site ≡ Removed x a → has x (removed ps) ≡ true
removed_there [] site x a e = absurd (same_removed x a e)
removed_there (p ∷ ps) zero x a e = ap (λ (r : Role). has x (with_removed r (removed ps))) e ∙ or_here (x == x) (has x (removed ps)) (eq-eqb x x refl)
removed_there (p ∷ ps) (suc site) x a e = still_removed p.role (removed ps) x (removed_there ps site x a e)

-- what is pending was removed

settled_so : (x : ℕ) (h : Head) (b : Bool) → pending_after_head x h b ≡ true → b ≡ true
settled_so x Skip b e = e
settled_so x (Copy r a) b e = e
settled_so x (Compute r op p q) b e = e
settled_so x (Load r y) b e = e
settled_so x (Store y a) b e = go (y == x) e
  where
    go : (t : Bool) → cond t false b ≡ true → b ≡ true
    go true f = absurd (false≢true f)
    go false f = f
settled_so x (AtomicLoad r order y) b e = e
settled_so x (AtomicStore order y a) b e = e
settled_so x (Update r order y kind) b e = e
settled_so x (Fence order) b e = e
settled_so x (Print a) b e = e
settled_so x (If a p q) b e = e
settled_so x (While a p) b e = e
settled_so x (Call r function args) b e = e

module _ (role : ℕ → Role) (x : ℕ) where
  abbrev SomeRemoved : Type 0
  SomeRemoved = (site : ℕ) × (a : Atom) × (role site ≡ Removed x a)

  step_came : (v : Visit) (b : Bool) → pending_step role x v b ≡ true → (b ≡ true) ⊎ SomeRemoved
  step_came v b e = go (role v.site) refl e
    where
      here : (y : ℕ) (a : Atom) (t : Bool) → (y == x) ≡ t → role v.site ≡ Removed y a → cond t true b ≡ true → (b ≡ true) ⊎ SomeRemoved
      here y a true f g k = inr (v.site, a, g ∙ ap (λ (z : ℕ). Removed z a) (eqb-true y x f))
      here y a false f g k = inl k

      go : (r : Role) → role v.site ≡ r → pending_after_role x r v.head b ≡ true → (b ≡ true) ⊎ SomeRemoved
      go Same f g = inl (settled_so x v.head b g)
      go (Turned y a) f g = inl g
      go (Removed y a) f g = here y a (y == x) refl f g
      go Inserted f g = inl g

  path_came : (p : List Visit) (b : Bool) → fold_forward (pending_step role x) p b ≡ true → (b ≡ true) ⊎ SomeRemoved
  path_came [] b e = inl e
  path_came (v ∷ p) b e = ⊎_elim (step_came v b) (λ k. inr k) (path_came p (pending_step role x v b) e)

-- Merged code that was walked to its end.
module _ (code : Tree) (parts : List Part) where
  abbrev count : ℕ
  count = sites_of code

  abbrev role : ℕ → Role
  role = role_at parts

  pending_removed : (x : ℕ) (p : List Visit) → pends role x p ≡ true → has x (removed parts) ≡ true
  pending_removed x p e = ⊎_elim (λ k. absurd (false≢true k)) (λ k. removed_there parts k.0 x k.1 k.2) (path_came role x p false e)

  -- whether a location is pending before a site, and at the end

  abbrev Decided : Type 0 → Type 0
  Decided P = (b : Bool) × ((b ≡ true) ↔ P)

  decided_before : (site x : ℕ) → site < count → Decided (ComesPending code role site x)
  decided_before site x h =
      let m = before_exist Bool may_rank 1 (pending_step role x) (pending_monotone role x) may_bounded code false site h in
      (m.0, some_path_before (pending_step role x) false (placed 0 code) site m.0 m.1)

  decided_end : (x : ℕ) → Decided (EndsPending code role x)
  decided_end x =
      let m = through_exist Bool may_rank 1 (pending_step role x) (pending_monotone role x) may_bounded code false in
      (m.0, some_path_through (pending_step role x) false (placed 0 code) m.0 m.1)

  abbrev comes : (site : ℕ) → (site < count) ⊎ (count ≤ site) → ℕ → Bool
  comes site (inl h) x = (decided_before site x h).0
  comes site (inr h) x = false

  abbrev set_before : ℕ → List ℕ
  set_before site = passing (comes site (cases_lt site count)) (removed parts)

  abbrev pending : Pending
  pending = record { before = rows_by count set_before; end = passing (λ x. (decided_end x).0) (removed parts) }

  before_so : (site x : ℕ) → site < count → (c : (site < count) ⊎ (count ≤ site)) → (has x (passing (comes site c) (removed parts)) ≡ true) ↔ ComesPending code role site x
  before_so site x h (inl k) = (
    λ e. (decided_before site x k).1.0 (passes (comes site (inl k)) (removed parts) x e),
    λ w. kept_passing (comes site (inl k)) (removed parts) x (pending_removed x w.0 w.2) ((decided_before site x k).1.1 w),
  )
  before_so site x h (inr k) = absurd (omega (arith, h, k))

  are_pending : ArePending code role pending
  are_pending = record {
    before = λ site x h. subst (λ (set : List ℕ). (has x set ≡ true) ↔ ComesPending code role site x) (sym (row_there [] count set_before site h)) (before_so site x h (cases_lt site count));
    end = λ x. (
      λ e. (decided_end x).1.0 (passes (λ y. (decided_end y).0) (removed parts) x e),
      λ w. kept_passing (λ y. (decided_end y).0) (removed parts) x (pending_removed x w.0 w.2) ((decided_end x).1.1 w),
    );
  }

  -- the levels of turned loads

  abbrev known_row : (site : ℕ) → (site < count) ⊎ (count ≤ site) → Role → List Known
  known_row site (inl h) (Turned x a) = record { x = x; a = a; level = (levels_exist Both x a code site h).0 } ∷ []
  known_row site (inl h) Same = []
  known_row site (inl h) (Removed x a) = []
  known_row site (inl h) Inserted = []
  known_row site (inr h) r = []

  abbrev row_before : ℕ → List Known
  row_before site = known_row site (cases_lt site count) (role site)

  abbrev table : List (List Known)
  table = rows_by count row_before

  alone : (l : Level) → higher l Nothing ≡ l
  alone Nothing = refl
  alone Held = refl
  alone Fresh = refl

  own_level : (x : ℕ) (a : Atom) (l : Level) → level_in (record { x = x; a = a; level = l } ∷ []) x a ≡ l
  own_level x a l =
      ap (λ (b : Bool). higher (cond (b && atoms_equal a a) l Nothing) Nothing) (eq-eqb x x refl) ∙ ap (λ (b : Bool). higher (cond b l Nothing) Nothing) (atoms_equal-refl a) ∙ alone l

  row_tells : (site x : ℕ) (a : Atom) → site < count → (c : (site < count) ⊎ (count ≤ site)) → IsLevel (placed 0 code) site Both x a (level_in (known_row site c (Turned x a)) x a)
  row_tells site x a h (inl k) = let l = levels_exist Both x a code site k in subst (IsLevel (placed 0 code) site Both x a) (sym (own_level x a l.0)) l.1
  row_tells site x a h (inr k) = absurd (omega (arith, h, k))

  tells : TellsTurned code parts table
  tells site x a r h =
      subst (IsLevel (placed 0 code) site Both x a)
      (ap (λ (s : Role). level_in (known_row site (cases_lt site count) s) x a) (sym r) ∙ ap (λ (row : List Known). level_in row x a) (sym (row_there [] count row_before site h)))
      (row_tells site x a h (cases_lt site count))

  pub judged_together : length parts ≡ count → (judged : Judged) × IsJudgedBy (FaultAt code parts) judged
  judged_together long =
      ⊎_elim (λ none. at_end none (is_none pending.end) refl)
      (λ g. (No g.0 g.1, told_judged code parts table pending tells are_pending long (No g.0 g.1) (λ o h k. g.3 o h, inl (g.2, g.4))))
      (search_first (fault_at table parts (needs_of code) pending) count)
    where
      at_end : ((s : ℕ) → s < count → fault_at table parts (needs_of code) pending s ≡ None) → (b : Bool) → is_none pending.end ≡ b → (judged : Judged) × IsJudgedBy (FaultAt code parts) judged
      at_end none true e = (Yes, told_judged code parts table pending tells are_pending long Yes (none, e))
      at_end none false e = (No count V6, told_judged code parts table pending tells are_pending long (No count V6) (λ o h k. none o k, inr (refl, refl, e)))

-- one pair of functions

apart_judged : (g : Function) (at : ℕ) → IsJudgedBy (FaultOf g (Apart at)) (No at V1)
apart_judged g at = ((refl, refl), λ site why k. inr (sym k.0, let n = ap number k.1 in omega (arith, n)))

by_outcome : (g : Function) (b : Bool) (o : Outcome) → Spans (sites_of (tree_of g.body)) o → (judged : Judged) × IsJudgedBy (FaultOf g (with_heads b (sites_of (tree_of g.body)) o)) judged
by_outcome g b (Apart at) s = (No at V1, apart_judged g at)
by_outcome g false (Together parts) s = (No (sites_of (tree_of g.body)) V1, apart_judged g (sites_of (tree_of g.body)))
by_outcome g true (Together parts) s = judged_together (merged g parts) parts (s ∙ sym (sites_of-restored parts (tree_of g.body) 0))

judged : (f g : Function) → (j : Judged) × IsJudged f g j
judged f g = by_outcome g (same_heads f g) (walk (new_registers f g) (tree_of g.body) (tree_of f.body) []) (walk_spans (new_registers f g) (tree_of g.body) (tree_of f.body) [] (sites_of (tree_of g.body)) (omega arith))

judged_once : (f g : Function) (i j : Judged) → IsJudged f g i → IsJudged f g j → j ≡ i
judged_once f g Yes Yes h k = refl
judged_once f g Yes (No s v) h k = absurd (h s v k.0)
judged_once f g (No s v) Yes h k = absurd (k s v h.0)
judged_once f g (No s v) (No t w) h k = let same = one_first_fault (HasFault f g) t s w v k h in (λ i. No (same.0 i) (same.1 i))

pub each_pair_is_judged : EachPairIsJudged
each_pair_is_judged f g = let j = judged f g in (j.0, j.1, λ other k. judged_once f g j.0 other j.1 k)

-- two programs

abbrev FirstOf : List Function → List Function → Type 0
FirstOf fs gs = AllZip Accepts fs gs ⊎ ((k : ℕ) × (site : ℕ) × (why : Fault) × IsFirstRefused fs gs k site why)

one_more : (f g : Function) (fs gs : List Function) → (j : Judged) → IsJudged f g j → FirstOf fs gs → FirstOf (f ∷ fs) (g ∷ gs)
one_more f g fs gs (No site why) h r = inr (zero, site, why, h)
one_more f g fs gs Yes h (inl all) = inl (h, all)
one_more f g fs gs Yes h (inr r) = inr (suc r.0, r.1, r.2, (h, r.3))

first_of : (fs gs : List Function) → length gs ≡ length fs → FirstOf fs gs
first_of [] [] e = inl tt
first_of [] (g ∷ gs) e = absurd (omega (arith, e))
first_of (f ∷ fs) [] e = absurd (omega (arith, e))
first_of (f ∷ fs) (g ∷ gs) e = let j = judged f g in one_more f g fs gs j.0 j.1 (first_of fs gs (omega (arith, e)))

of_shape : (p q : Program) → SameShape p q → (verdict : Verdict) × IsProgramVerdict p q verdict
of_shape p q shape =
    ⊎_elim (λ all. (Accepted, record { shape = shape; functions = all })) (λ r. (Refused r.0 r.1 r.2, (shape, r.3)))
    (first_of p.functions q.functions (AllZip-long SameSignature p.functions q.functions shape.functions))

pub each_pair_has_a_verdict : EachPairHasAVerdict
each_pair_has_a_verdict p q = go (parts_equal p q) refl
  where
    go : (b : Bool) → parts_equal p q ≡ b → (verdict : Verdict) × IsProgramVerdict p q verdict
    go true e = of_shape p q ((shape_is p q).0 e)
    go false e = (OtherShape, λ shape. false≢true (sym e ∙ (shape_is p q).1 shape))
