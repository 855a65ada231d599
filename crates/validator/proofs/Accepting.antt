-- An accepted target has all that runs know of it.
use Rattle.std.proofs.Common.{◌≡◌, ℕ, Bool, true, false, ◌&&◌, ◌==◌, List, [], ◌∷◌, ◌++◌, length, Some, refl, sym, ap, ◌∙◌, subst, arith, append-nil}
use Rattle.std.specs.Str.{bytes_eq}
use Rattle.std.proofs.lemmas.Bool.{false≢true, eqb-true, and_parts, false_from_ne_true}
use Rattle.il_syntax.specs.declared.statement.Atom.{Atom}
use Rattle.il_syntax.specs.declared.program.Function.{Function}
use Rattle.il_paths.specs.Tree.{Tree, tree_of, sites_of}
use Rattle.il_paths.specs.Code.{Visit, Code, placed, first}
use Rattle.il_paths.specs.Paths.{Before, RunsTo}
use Rattle.flow_facts.specs.declared.level.Kind.TheVariants.{Both}
use Rattle.flow_facts.specs.declared.level.Level.TheVariants.{Nothing}
use Rattle.flow_facts.specs.Levels.{level_on, IsLevel}
use Rattle.il_paths.specs.Atoms.{atoms_equal}
use Rattle.il_paths.proofs.Callers.{atoms_equal-true, runs_path, reaches_before}
use Rattle.validator.specs.Roles.{Role, Same, Turned, Removed, Inserted}
use Rattle.validator.specs.declared.walk.Part.{Part}
use Rattle.validator.specs.declared.fault.Fault.{Fault}
use Rattle.validator.specs.declared.fault.Fault.TheVariants.{V1, V2, V3, V4, V5, V6, V7}
use Rattle.validator.specs.Walk.{role_at, Outcome, Apart, Together, walk}
use Rattle.validator.specs.Merged.{merged}
use Rattle.validator.specs.Accepted.{IsTurned, Accepted}
use Rattle.validator.specs.Faults.{is_turned, FaultAt, begins, same_heads, new_registers, with_heads, FaultOf, Accepts}
use Rattle.validator.proofs.BesideLaws.{LoadsNew, PairedBy, walk_paired}
use Rattle.validator.proofs.VisitLaws.{all_runs, all_first, stands_next}

not_turned : (role : Role) → (IsTurned role → ⊥) → is_turned role ≡ false
not_turned Same h = refl
not_turned (Turned x e) h = absurd (h (x, e, refl))
not_turned (Removed x e) h = refl
not_turned Inserted h = refl

same_bytes : (xs ys : List ℕ) → bytes_eq xs ys ≡ true → xs ≡ ys
same_bytes [] [] e = refl
same_bytes [] (y ∷ ys) e = absurd (false≢true e)
same_bytes (x ∷ xs) [] e = absurd (false≢true e)
same_bytes (x ∷ xs) (y ∷ ys) e =
    let p = and_parts (x == y) (bytes_eq xs ys) e in (λ i. eqb-true x y p.0 i ∷ same_bytes xs ys p.1 i)

-- the names that come after the old ones
names_after : (old names : List (List ℕ)) → begins old names ≡ true → (more : List (List ℕ)) × (names ≡ old ++ more)
names_after [] names e = (names, refl)
names_after (a ∷ old) [] e = absurd (false≢true e)
names_after (a ∷ old) (b ∷ names) e =
    let p = and_parts (bytes_eq a b) (begins old names) e in
    let rest = names_after old names p.1 in
    (rest.0, (λ i. sym (same_bytes a b p.0) i ∷ rest.1 i))

least_nothing : (t : Tree) (x : ℕ) (a : Atom) (p : List Visit) (site : ℕ) → Before (placed 0 t) site p → level_on x a p ≡ Nothing → IsLevel (placed 0 t) site Both x a Nothing
least_nothing t x a p site b e = record { below = λ q c. omega arith; reached = (p, b, e) }

comes_to : (c k : Code) (p : List Visit) (v : Visit) → RunsTo c p k → first k ≡ Some v → Before c v.site p
comes_to c k p v l e = reaches_before c v.site p (record { continuation = k; visit = v; run = l; next = e; at = refl })

module _ (f g : Function) where
  accepted_walk : (parts : List Part) → same_heads f g ≡ true → walk (new_registers f g) (tree_of g.body) (tree_of f.body) [] ≡ Together parts → ((site : ℕ) (why : Fault) → FaultAt (merged g parts) parts site why → ⊥) → Accepted f g
  accepted_walk parts heads walked none =
      let m = merged g parts in
      let c = placed 0 m in
      let role = role_at parts in
      let pair = subst (PairedBy (new_registers f g) [] (tree_of f.body) (tree_of g.body)) walked (walk_paired (new_registers f g) (tree_of g.body) (tree_of f.body) []) in
      let one = and_parts (bytes_eq f.name g.name) _ heads in
      let two = and_parts (f.params == g.params) _ one.1 in
      let three = and_parts (begins f.registers g.registers) (atoms_equal f.result g.result) two.1 in
      let names = names_after f.registers g.registers three.0 in
      record {
        params = sym (eqb-true f.params g.params two.0);
        result = sym (atoms_equal-true f.result g.result three.1);
        more = names.0;
        registers = names.1;
        role = role;
        merged = m;
        beside = pair.beside parts [] (sym (append-nil parts)) (λ site e. none site V7 e) 0 0 refl;
        inserted_new = λ p k v h x l n i e. all_first (LoadsNew (length g.registers) role) k v n (all_runs (LoadsNew (length g.registers) role) l (pair.loads parts [] (sym (append-nil parts)) 0 refl)) i h x e;
        turned_known = λ p k v x e l n r nothing. none v.site V2 (x, e, r, least_nothing m x e p v.site (comes_to c k p v l n) nothing);
        load_settled = λ p k v r x l n h turned. false_from_ne_true _ (λ e. none v.site V3 (r, x, stands_next m k p v l n ∙ ap Some h, not_turned (role v.site) turned, (p, comes_to c k p v l n, e)));
        release_settled = λ p k v l n h x. false_from_ne_true _ (λ e. none v.site V4 (v.head, x, stands_next m k p v l n, h, (p, comes_to c k p v l n, e)));
        call_settled = λ p k v r h args l n i x. false_from_ne_true _ (λ e. none v.site V5 (r, h, args, x, stands_next m k p v l n ∙ ap Some i, (p, comes_to c k p v l n, e)));
        end_settled = λ p l x. false_from_ne_true _ (λ e. none (sites_of m) V6 (x, refl, (p, runs_path l, e)));
      }

  accepted_heads : (same : Bool) → same_heads f g ≡ same → (o : Outcome) → walk (new_registers f g) (tree_of g.body) (tree_of f.body) [] ≡ o → ((site : ℕ) (why : Fault) → FaultOf g (with_heads same (sites_of (tree_of g.body)) o) site why → ⊥) → Accepted f g
  accepted_heads same heads (Apart site) walked none = absurd (none site V1 (refl, refl))
  accepted_heads false heads (Together parts) walked none = absurd (none (sites_of (tree_of g.body)) V1 (refl, refl))
  accepted_heads true heads (Together parts) walked none = accepted_walk parts heads walked none

  accepted_pair : Accepts f g → Accepted f g
  accepted_pair none = accepted_heads (same_heads f g) refl (walk (new_registers f g) (tree_of g.body) (tree_of f.body) []) refl none

-- An accepted target has the record.
pub accepted : (f g : Function) → Accepts f g → Accepted f g
accepted f g none = accepted_pair f g none
