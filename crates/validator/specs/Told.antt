-- What tables of levels and of pending locations tell of the faults of a target: for the contracts of the code
-- that looks for the first one.
use Rattle.std.specs.Prelude.{◌≡◌, ◌<◌, ◌⊎◌, ℕ, Bool, true, false, ◌&&◌, not, if◌then◌else◌, List, map, slice_index_or, Option, Some, None}
use Rattle.il_syntax.specs.declared.statement.Stmt.TheOpen.{Skip, Copy, Compute, Load, Store, AtomicLoad, AtomicStore, Update, Fence, Print, If, While, Call}
use Rattle.il_syntax.specs.Statements.{Head}
use Rattle.il_paths.specs.Heads.{is_release}
use Rattle.il_paths.specs.Tree.{Tree, heads_in}
use Rattle.flow_facts.specs.declared.level.Level.{Level}
use Rattle.flow_facts.specs.declared.level.Level.TheVariants.{Nothing, Held, Fresh}
use Rattle.flow_facts.specs.declared.known.Known.{Known}
use Rattle.flow_facts.specs.Rows.{level_at}
use Rattle.location_sets.specs.Sets.{has}
use Rattle.validator.specs.Roles.{Role, Same, Turned, Removed, Inserted}
use Rattle.validator.specs.declared.walk.Part.{Part}
use Rattle.validator.specs.declared.pending.Pending.{Pending}
use Rattle.validator.specs.declared.told.Need.{Need}
use Rattle.validator.specs.declared.told.Need.TheVariants as need
use Rattle.validator.specs.declared.fault.Fault.{Fault}
use Rattle.validator.specs.declared.fault.Fault.TheVariants.{V2, V3, V4, V5, V6, V7}
use Rattle.validator.specs.declared.fault.Judged.{Judged}
use Rattle.validator.specs.declared.fault.Judged.TheVariants.{Yes, No}
use Rattle.validator.specs.Walk.{part_at, role_at}
use Rattle.validator.specs.Faults.{is_turned}
use Rattle.validator.specs.Pending.{set_at, is_none}

abbrev pub release_need : Bool → Need
release_need true = need.Release
release_need false = need.Nothing

-- what a statement must find settled: one location, or all
abbrev pub need_of : Head → Need
need_of Skip = need.Nothing
need_of (Copy r a) = need.Nothing
need_of (Compute r op a b) = need.Nothing
need_of (Load r x) = need.Value x
need_of (Store x a) = need.Nothing
need_of (AtomicLoad r order y) = need.Nothing
need_of (AtomicStore order y a) = release_need (is_release (AtomicStore order y a))
need_of (Update r order y kind) = release_need (is_release (Update r order y kind))
need_of (Fence order) = release_need (is_release (Fence order))
need_of (Print a) = need.Nothing
need_of (If a _ _) = need.Nothing
need_of (While a _) = need.Nothing
need_of (Call r function args) = need.Call

-- of each statement, in text order
abbrev pub needs_of : Tree → List Need
needs_of tree = map need_of (heads_in tree)

abbrev pub need_at : List Need → ℕ → Need
need_at needs site = slice_index_or needs site need.Nothing

abbrev pub is_nothing : Level → Bool
is_nothing Nothing = true
is_nothing Held = false
is_nothing Fresh = false

abbrev pub unknown_at : List (List Known) → Role → ℕ → Bool
unknown_at table Same site = false
unknown_at table (Turned x a) site = is_nothing (level_at table site x a)
unknown_at table (Removed x a) site = false
unknown_at table Inserted site = false

abbrev pub unsettled_at : List ℕ → Role → Need → Option Fault
unsettled_at set role (need.Value x) = if not (is_turned role) && has x set then Some V3 else None
unsettled_at set role need.Release = if is_none set then None else Some V4
unsettled_at set role need.Call = if is_none set then None else Some V5
unsettled_at set role need.Nothing = None

abbrev pub unfollowed : Bool → Option Fault
unfollowed true = Some V7
unfollowed false = None

abbrev pub or_else : Option Fault → Option Fault → Option Fault
or_else (Some fault) other = Some fault
or_else None other = other

-- the fault of the lowest number at a site
abbrev pub fault_at : List (List Known) → List Part → List Need → Pending → ℕ → Option Fault
fault_at table parts needs pending site =
    if unknown_at table (role_at parts site) site then Some V2
    else or_else (unsettled_at (set_at pending.before site) (role_at parts site) (need_at needs site)) (unfollowed (part_at parts site).stray)

-- the first fault at so many sites and the end behind them
abbrev pub IsTold : List (List Known) → List Part → List Need → Pending → ℕ → Judged → Type 0
IsTold table parts needs pending count Yes =
    ((site : ℕ) → site < count → fault_at table parts needs pending site ≡ None) × (is_none pending.end ≡ true)
IsTold table parts needs pending count (No site why) =
    ((other : ℕ) → other < site → other < count → fault_at table parts needs pending other ≡ None) × (((site < count) × (fault_at table parts needs pending site ≡ Some why)) ⊎ ((site ≡ count) × (why ≡ V6) × (is_none pending.end ≡ false)))
