-- The faults of a target, which of them is the first, and which targets are accepted.
use Rattle.std.specs.Prelude.{◌≡◌, ◌<◌, ◌≤◌, ◌⊎◌, ℕ, Bool, true, false, ◌&&◌, ◌==◌, if◌then◌else◌, List, [], ◌∷◌, length, slice_get, Some}
use Rattle.std.specs.Str.{bytes_eq}
use Rattle.il_syntax.specs.declared.statement.Atom.{Atom}
use Rattle.il_syntax.specs.declared.statement.Stmt.TheOpen.{Load, Call}
use Rattle.il_syntax.specs.declared.program.Function.{Function}
use Rattle.il_syntax.specs.Statements.{Head}
use Rattle.il_paths.specs.Tree.{Tree, tree_of, sites_of, heads_in}
use Rattle.il_paths.specs.Code.{Visit, placed}
use Rattle.il_paths.specs.Heads.{is_release}
use Rattle.il_paths.specs.Paths.{IsPath, Before}
use Rattle.flow_facts.specs.declared.level.Kind.TheVariants.{Both}
use Rattle.flow_facts.specs.declared.level.Level.TheVariants.{Nothing}
use Rattle.flow_facts.specs.Levels.{IsLevel}
use Rattle.il_paths.specs.Atoms.{atoms_equal}
use Rattle.validator.specs.declared.fault.Fault.{Fault}
use Rattle.validator.specs.declared.fault.Fault.TheVariants.{V1, V2, V3, V4, V5, V6, V7}
use Rattle.validator.specs.declared.fault.Judged.{Judged}
use Rattle.validator.specs.declared.fault.Judged.TheVariants.{Yes, No}
use Rattle.validator.specs.declared.walk.NewRegisters.{NewRegisters}
use Rattle.validator.specs.declared.walk.Part.{Part}
use Rattle.validator.specs.Roles.{Role, Same, Turned, Removed, Inserted, pends}
use Rattle.validator.specs.Walk.{part_at, role_at, Outcome, Apart, Together, walk}
use Rattle.validator.specs.Merged.{merged}

abbrev pub is_turned : Role → Bool
is_turned Same = false
is_turned (Turned x a) = true
is_turned (Removed x a) = false
is_turned Inserted = false

-- a path of merged code comes to the site, or to the end, with x pending
abbrev pub ComesPending : Tree → (ℕ → Role) → ℕ → ℕ → Type 0
ComesPending merged role site x = (p : List Visit) × Before (placed 0 merged) site p × (pends role x p ≡ true)

abbrev pub EndsPending : Tree → (ℕ → Role) → ℕ → Type 0
EndsPending merged role x = (p : List Visit) × IsPath (placed 0 merged) p × (pends role x p ≡ true)

-- The faults of a target that was walked to its end, at a site of merged code.
-- V2: a turned load whose pair is nothing there. V3, V4, V5: a load of x that isn't turned and that a path
-- reaches with x pending; a release, a call that a path reaches with some location pending. V6: the end,
-- so. V7: an inserted load that isn't followed, other inserted loads aside, by a `while` in its block.
abbrev pub FaultAt : Tree → List Part → ℕ → Fault → Type 0
FaultAt merged parts site V1 = ⊥
FaultAt merged parts site V2 =
    (x : ℕ) × (a : Atom) × (role_at parts site ≡ Turned x a) × IsLevel (placed 0 merged) site Both x a Nothing
FaultAt merged parts site V3 =
    (r : ℕ) × (x : ℕ) × (slice_get (heads_in merged) site ≡ Some (Load r x)) × (is_turned (role_at parts site) ≡ false) × ComesPending merged (role_at parts) site x
FaultAt merged parts site V4 =
    (head : Head) × (x : ℕ) × (slice_get (heads_in merged) site ≡ Some head) × (is_release head ≡ true) × ComesPending merged (role_at parts) site x
FaultAt merged parts site V5 =
    (r : ℕ) × (f : ℕ) × (args : List Atom) × (x : ℕ) × (slice_get (heads_in merged) site ≡ Some (Call r f args)) × ComesPending merged (role_at parts) site x
FaultAt merged parts site V6 = (x : ℕ) × (site ≡ sites_of merged) × EndsPending merged (role_at parts) x
FaultAt merged parts site V7 = (part_at parts site).stray ≡ true

-- the names begin with these
abbrev pub begins : List (List ℕ) → List (List ℕ) → Bool
begins [] names = true
begins (old ∷ more) [] = false
begins (old ∷ more) (name ∷ names) = bytes_eq old name && begins more names

-- names, parameter counts and results are equal, and g's registers are f's and then its new ones
abbrev pub same_heads : Function → Function → Bool
same_heads f g = bytes_eq f.name g.name && ((f.params == g.params) && (begins f.registers g.registers && atoms_equal f.result g.result))

abbrev pub new_registers : Function → Function → NewRegisters
new_registers f g = record { first = length f.registers; end = length g.registers }

-- a walk to the end also asks for the same heads
abbrev pub with_heads : Bool → ℕ → Outcome → Outcome
with_heads same end (Apart site) = Apart site
with_heads same end (Together parts) = if same then Together parts else Apart end

-- the target beside its source
abbrev pub outcome : Function → Function → Outcome
outcome f g = with_heads (same_heads f g) (sites_of (tree_of g.body)) (walk (new_registers f g) (tree_of g.body) (tree_of f.body) [])

-- V1 comes first: where a statement has no partner nothing else is asked
abbrev pub FaultOf : Function → Outcome → ℕ → Fault → Type 0
FaultOf g (Apart at) site why = (site ≡ at) × (why ≡ V1)
FaultOf g (Together parts) site why = FaultAt (merged g parts) parts site why

-- g as a target of f has the fault at the site
abbrev pub HasFault : Function → Function → ℕ → Fault → Type 0
HasFault f g site why = FaultOf g (outcome f g) site why

-- g is an accepted target of f
abbrev pub Accepts : Function → Function → Type 0
Accepts f g = (site : ℕ) (why : Fault) → HasFault f g site why → ⊥

abbrev pub number : Fault → ℕ
number V1 = 1
number V2 = 2
number V3 = 3
number V4 = 4
number V5 = 5
number V6 = 6
number V7 = 7

-- where these are the faults, this is the first: at the lowest site, and there of the lowest number
abbrev pub IsFirst : (ℕ → Fault → Type 0) → ℕ → Fault → Type 0
IsFirst Has site why =
    Has site why × ((other : ℕ) (fault : Fault) → Has other fault → (site < other) ⊎ ((site ≡ other) × (number why ≤ number fault)))

abbrev pub IsJudgedBy : (ℕ → Fault → Type 0) → Judged → Type 0
IsJudgedBy Has Yes = (site : ℕ) (why : Fault) → Has site why → ⊥
IsJudgedBy Has (No site why) = IsFirst Has site why

abbrev pub IsFirstFault : Function → Function → ℕ → Fault → Type 0
IsFirstFault f g = IsFirst (HasFault f g)

-- Yes exactly where g is accepted, No with the first fault
abbrev pub IsJudged : Function → Function → Judged → Type 0
IsJudged f g = IsJudgedBy (HasFault f g)
