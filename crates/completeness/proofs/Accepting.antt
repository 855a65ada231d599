-- A target that stands beside its source has no fault.
use Rattle.std.proofs.Common.{◌≡◌, ◌≢◌, ℕ, suc, ◌+◌, ◌<◌, ◌≤◌, ◌⊎◌, inl, inr, Bool, true, false, cond, ◌&&◌, ◌==◌, List, [], ◌∷◌, ◌++◌, length, slice_get, Some, refl, sym, ap, ◌∙◌, subst, arith, append_assoc, append-nil}
use Rattle.std.specs.Prelude.{IsTrue}
use Rattle.std.specs.Str.{bytes_eq}
use Rattle.std.specs.List.{AllByRecursion}
use Rattle.std.proofs.lemmas.Bool.{false≢true, cases_lt}
use Rattle.std.proofs.lemmas.Option.{same_Some}
use Rattle.il_syntax.specs.declared.statement.Stmt.TheOpen.{Load, Call}
use Rattle.il_syntax.specs.declared.program.Function.{Function}
use Rattle.il_syntax.specs.Statements.{Head}
use Rattle.il_syntax.specs.WellFormed.{Declared, function_numbers_exist}
use Rattle.il_syntax.proofs.Callers.{given_registers_exist}
use Rattle.il_paths.specs.Heads.{is_release}
use Rattle.il_paths.specs.Tree.{Tree, tree_of, sites_of, heads_in}
use Rattle.il_paths.specs.Code.{Visit, Code, placed, first, AllCode}
use Rattle.il_paths.specs.Meets.{fold_forward}
use Rattle.il_paths.specs.Paths.{IsPath, Before, RunsTo}
use Rattle.il_paths.specs.Atoms.{atoms_equal}
use Rattle.il_paths.proofs.Callers.{atoms_equal-refl, all_heads_of, all_placed, before_reaches, heads_agree, path_runs, site_within}
use Rattle.rewriting.proofs.Callers.{both, self, sites_stay}
use Rattle.validator.specs.declared.role.Role.{Role}
use Rattle.validator.specs.declared.role.Role.TheVariants.{Same, Turned}
use Rattle.validator.specs.declared.walk.Part.{Part}
use Rattle.validator.specs.declared.fault.Fault.{Fault}
use Rattle.validator.specs.declared.fault.Fault.TheVariants.{V1, V2, V3, V4, V5, V6, V7}
use Rattle.validator.specs.Roles.{pending_step, pending_after_role, pends}
use Rattle.validator.specs.Walk.{part_at, role_at, with_partner, Outcome, Together, walk}
use Rattle.validator.specs.Merged.{restored_leaf, merged}
use Rattle.validator.specs.Accepted.{IsTurned, Accepted}
use Rattle.validator.specs.Faults.{is_turned, begins, same_heads, new_registers, with_heads, outcome, FaultAt, FaultOf, Accepts}
use Rattle.validator.proofs.Callers.{visited_head, stands_next, same_turned}
use Rattle.completeness.specs.Laws.{TargetsBesideAreAccepted}
use Rattle.completeness.proofs.Parts.{parts_of, none_stray, part_past, role_there}
use Rattle.completeness.proofs.Walked.{LoadsBelow, Back, walked_back}

-- ---- heads

bytes_same : (bytes : List ℕ) → bytes_eq bytes bytes ≡ true
bytes_same [] = refl
bytes_same (b ∷ bytes) = both (self b) (bytes_same bytes)

begins_so : (names more : List (List ℕ)) → begins names (names ++ more) ≡ true
begins_so [] more = refl
begins_so (name ∷ names) more = both (bytes_same name) (begins_so names more)

heads_so : (f g : Function) → g.name ≡ f.name → Accepted f g → same_heads f g ≡ true
heads_so f g name a =
    both (ap (bytes_eq f.name) name ∙ bytes_same f.name)
    (both (ap (λ (n : ℕ). f.params == n) a.params ∙ self f.params)
    (both (ap (begins f.registers) a.registers ∙ begins_so f.registers a.more) (ap (atoms_equal f.result) a.result ∙ atoms_equal-refl f.result)))

-- each load's register is one of the function's

all_of : (P : Head → Type 0) (hs : List Head) → ((site : ℕ) (h : Head) → slice_get hs site ≡ Some h → P h) → AllByRecursion P hs
all_of P [] each = tt
all_of P (h ∷ hs) each = (each 0 h refl, all_of P hs (λ site k e. each (suc site) k e))

loads_below : (d : Declared) (f : Function) → IsTrue (function_numbers_exist d f) → AllCode (LoadsBelow (length f.registers)) (placed 0 (tree_of f.body))
loads_below d f exist =
    all_placed (LoadsBelow (length f.registers)) 0 (tree_of f.body)
    (all_heads_of (LoadsBelow (length f.registers)) (tree_of f.body) (all_of (LoadsBelow (length f.registers)) (heads_in (tree_of f.body)) each))
  where
    each : (site : ℕ) (h : Head) → slice_get (heads_in (tree_of f.body)) site ≡ Some h → LoadsBelow (length f.registers) h
    each site h at r x is =
        given_registers_exist d f site r (Load r x) exist (ap (λ (hs : List Head). slice_get hs site) (sym (heads_agree f.body)) ∙ at ∙ ap Some is) refl

-- ---- pending along paths of one tree, by roles that agree on its sites

module _ (t : Tree) (one other : ℕ → Role) (agree : (site : ℕ) → site < sites_of t → one site ≡ other site) (x : ℕ) where
  along : (before p q : List Visit) (b : Bool) → IsPath (placed 0 t) (before ++ (p ++ q)) → fold_forward (pending_step one x) p b ≡ fold_forward (pending_step other x) p b
  along before [] q b path = refl
  along before (v ∷ p) q b path =
      let there = site_within t v.site v.head (visited_head t before v (p ++ q) path) in
      ap (λ (r : Role). fold_forward (pending_step one x) p (pending_after_role x r v.head b)) (agree v.site there)
      ∙ along (before ++ v ∷ []) p q (pending_step other x v b) (subst (IsPath (placed 0 t)) (sym (append_assoc before (v ∷ []) (p ++ q))) path)

  same_before : (p : List Visit) (site : ℕ) → Before (placed 0 t) site p → pends one x p ≡ pends other x p
  same_before p site b = along [] p (b.0 ∷ b.1) false b.3

  same_through : (p : List Visit) → IsPath (placed 0 t) p → pends one x p ≡ pends other x p
  same_through p path = along [] p [] false (subst (IsPath (placed 0 t)) (sym (append-nil p)) path)

-- ---- no fault

turned_so : (r : Role) → is_turned r ≡ false → IsTurned r → ⊥
turned_so r e i = false≢true (sym e ∙ ap is_turned i.2)

module _ (f g : Function) (a : Accepted f g) (m : Tree) (is : placed 0 a.merged ≡ placed 0 m) (all : List Part) (count : sites_of m ≡ sites_of (tree_of g.body)) (agree : (site : ℕ) → site < sites_of m → role_at all site ≡ a.role site) (past : (site : ℕ) → sites_of m ≤ site → role_at all site ≡ Same) (unstray : (site : ℕ) → (part_at all site).stray ≡ false) where
  abbrev role : ℕ → Role
  role = role_at all

  -- a statement that a path comes to, and the run to it
  came : (site : ℕ) (p : List Visit) → Before (placed 0 m) site p → (k : Code) × (v : Visit) × RunsTo (placed 0 a.merged) p k × (first k ≡ Some v) × (v.site ≡ site)
  came site p b =
      let r = before_reaches (placed 0 a.merged) site p (subst (λ (c : Code). Before c site p) (sym is) b) in
      (r.continuation, r.visit, r.run, r.next, r.at)

  same_pending : (x site : ℕ) (p : List Visit) → Before (placed 0 m) site p → pends role x p ≡ true → pends a.role x p ≡ false → ⊥
  same_pending x site p b e settled = false≢true (sym settled ∙ sym (same_before m role a.role agree x p site b) ∙ e)

  head_there : (site : ℕ) (h : Head) (p : List Visit) (b : Before (placed 0 m) site p) (v : Visit) (k : Code) → RunsTo (placed 0 a.merged) p k → first k ≡ Some v → v.site ≡ site → slice_get (heads_in m) site ≡ Some h → v.head ≡ h
  head_there site h p b v k run next at there =
      let stands = stands_next m k p v (subst (λ (c : Code). RunsTo c p k) is run) next in
      same_Some v.head h (sym stands ∙ ap (slice_get (heads_in m)) at ∙ there)

  no_fault : (site : ℕ) (why : Fault) → FaultAt m all site why → ⊥
  no_fault site V1 k = k
  no_fault site V2 k = go (cases_lt site (sites_of m))
    where
      go : (site < sites_of m) ⊎ (sites_of m ≤ site) → ⊥
      go (inl lt) =
          let reached = k.3.reached in
          let c = came site reached.0 reached.1 in
          a.turned_known reached.0 c.0 c.1 k.0 k.1 c.2 c.3 (ap a.role c.4 ∙ sym (agree site lt) ∙ k.2) reached.2
      go (inr le) = same_turned k.0 k.1 (sym (past site le) ∙ k.2)
  no_fault site V3 k =
      let p = k.4.0 in
      let b = k.4.1 in
      let c = came site p b in
      let lt = site_within m site (Load k.0 k.1) k.2 in
      same_pending k.1 site p b k.4.2
      (a.load_settled p c.0 c.1 k.0 k.1 c.2 c.3 (head_there site (Load k.0 k.1) p b c.1 c.0 c.2 c.3 c.4 k.2)
      (λ i. turned_so (role site) k.3 (i.0, i.1, agree site lt ∙ ap a.role (sym c.4) ∙ i.2)))
  no_fault site V4 k =
      let p = k.4.0 in
      let b = k.4.1 in
      let c = came site p b in
      same_pending k.1 site p b k.4.2 (a.release_settled p c.0 c.1 c.2 c.3 (ap is_release (head_there site k.0 p b c.1 c.0 c.2 c.3 c.4 k.2) ∙ k.3) k.1)
  no_fault site V5 k =
      let p = k.5.0 in
      let b = k.5.1 in
      let c = came site p b in
      same_pending k.3 site p b k.5.2 (a.call_settled p c.0 c.1 k.0 k.1 k.2 c.2 c.3 (head_there site (Call k.0 k.1 k.2) p b c.1 c.0 c.2 c.3 c.4 k.4) k.3)
  no_fault site V6 k =
      let p = k.2.0 in
      let path = k.2.1 in
      false≢true (sym (a.end_settled p (path_runs (subst (λ (c : Code). IsPath c p) (sym is) path)) k.0) ∙ sym (same_through m role a.role agree k.0 p path) ∙ k.2.2)
  no_fault site V7 k = false≢true (sym (unstray site) ∙ k)

pub targets_beside_are_accepted : TargetsBesideAreAccepted
targets_beside_are_accepted d e f g f_exist g_exist name a =
    let new = new_registers f g in
    let s = tree_of f.body in
    let t = tree_of g.body in
    let all = parts_of a.role 0 t in
    let b = walked_back new a.role s t a.merged a.beside (loads_below d f f_exist, loads_below e g g_exist) in
    let found : outcome f g ≡ Together all =
    (λ i. with_heads (heads_so f g name a i) (sites_of t) (b.walked [] i)) in
    let count : sites_of (merged g all) ≡ sites_of t = sites_stay (λ site. restored_leaf (role_at all site)) 0 t in
    λ site why h.
    no_fault f g a (merged g all) (b.merges all (λ k from to. role_there a.role t k (omega (arith, to)))) all count (λ k lt. role_there a.role t k (omega (arith, lt, count)))
    (λ k le. ap (λ (p : Part). p.role) (part_past a.role t k (omega (arith, le, count)))) (none_stray a.role t) site why (subst (λ (o : Outcome). FaultOf g o site why) found h)
