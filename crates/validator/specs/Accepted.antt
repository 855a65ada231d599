-- What runs know of an accepted target, and all that they know.
use Rattle.std.specs.Prelude.{◌≡◌, ◌≢◌, ℕ, ◌<◌, true, false, List, ◌++◌, length, Some}
use Rattle.il_syntax.specs.declared.statement.Atom.{Atom}
use Rattle.il_syntax.specs.declared.statement.Stmt.TheOpen.{Load, Call}
use Rattle.il_syntax.specs.declared.program.Function.{Function}
use Rattle.il_paths.specs.Tree.{Tree, tree_of}
use Rattle.il_paths.specs.Code.{Visit, Code, End, placed, first}
use Rattle.il_paths.specs.Heads.{is_release}
use Rattle.il_paths.specs.Paths.{RunsTo}
use Rattle.flow_facts.specs.declared.level.Level.TheVariants.{Nothing}
use Rattle.flow_facts.specs.Levels.{level_on}
use Rattle.validator.specs.Roles.{Role, Turned, Inserted, pends}
use Rattle.validator.specs.Beside.{Beside}

abbrev pub IsTurned : Role → Type 0
IsTurned role = (x : ℕ) × (e : Atom) × (role ≡ Turned x e)

-- g is an accepted target of f: they stand beside each other and merged code, and along each run of merged code
-- a turned load's pair is known, and no location is pending at a load of it, a release, a call or the end.
pub record Accepted (f g : Function) : Type 0 where
  pub params : g.params ≡ f.params
  pub result : g.result ≡ f.result
  pub more : List (List ℕ)
  pub registers : g.registers ≡ f.registers ++ more
  pub role : ℕ → Role
  pub merged : Tree
  pub beside : Beside (length f.registers) role (placed 0 (tree_of f.body)) (placed 0 (tree_of g.body)) (placed 0 merged)
  pub inserted_new : (p : List Visit) (k : Code) (v : Visit) (h x : ℕ) → RunsTo (placed 0 merged) p k → first k ≡ Some v → role v.site ≡ Inserted → v.head ≡ Load h x → h < length g.registers
  pub turned_known : (p : List Visit) (k : Code) (v : Visit) (x : ℕ) (e : Atom) → RunsTo (placed 0 merged) p k → first k ≡ Some v → role v.site ≡ Turned x e → level_on x e p ≢ Nothing
  pub load_settled : (p : List Visit) (k : Code) (v : Visit) (r x : ℕ) → RunsTo (placed 0 merged) p k → first k ≡ Some v → v.head ≡ Load r x → (IsTurned (role v.site) → ⊥) → pends role x p ≡ false
  pub release_settled : (p : List Visit) (k : Code) (v : Visit) → RunsTo (placed 0 merged) p k → first k ≡ Some v → is_release v.head ≡ true → (x : ℕ) → pends role x p ≡ false
  pub call_settled : (p : List Visit) (k : Code) (v : Visit) (r h : ℕ) (args : List Atom) → RunsTo (placed 0 merged) p k → first k ≡ Some v → v.head ≡ Call r h args → (x : ℕ) → pends role x p ≡ false
  pub end_settled : (p : List Visit) → RunsTo (placed 0 merged) p End → (x : ℕ) → pends role x p ≡ false
