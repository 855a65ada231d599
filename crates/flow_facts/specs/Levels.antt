-- The level of a pair of an na location and an atom, and what a statement does to it.
use Rattle.std.specs.Prelude.{ℕ, Bool, true, false, ◌&&◌, ◌==◌, if◌then◌else◌, List}
use Rattle.il_syntax.specs.declared.statement.Atom.{Atom}
use Rattle.il_syntax.specs.declared.statement.Atom.TheVariants.{Reg}
use Rattle.il_syntax.specs.declared.statement.Stmt.TheOpen.{Skip, Copy, Compute, Load, Store, AtomicLoad, AtomicStore, Update, Fence, Print, If, While, Call}
use Rattle.il_syntax.specs.Statements.{Head}
use Rattle.il_paths.specs.Atoms.{atoms_equal}
use Rattle.il_paths.specs.Code.{Visit, Code}
use Rattle.il_paths.specs.Heads.{is_acquire, is_release}
use Rattle.il_paths.specs.Meets.{fold_forward, IsMeetBefore}
use Rattle.flow_facts.specs.declared.level.Kind.{Kind}
use Rattle.flow_facts.specs.declared.level.Kind.TheVariants.{Stores, Loads, Both}
use Rattle.flow_facts.specs.declared.level.Level.{Level}
use Rattle.flow_facts.specs.declared.level.Level.TheVariants.{Nothing, Held, Fresh}
use Rattle.flow_facts.specs.declared.transfer.Transfer.{Transfer}
use Rattle.flow_facts.specs.declared.transfer.Transfer.TheVariants.{Keeps, Becomes, Acquires, Releases, AcquiresAndReleases}

-- the order of the levels
abbrev pub rank_of : Level → ℕ
rank_of Nothing = 0
rank_of Held = 1
rank_of Fresh = 2

-- whether stores, and whether loads give facts
abbrev pub stores_give : Kind → Bool
stores_give Stores = true
stores_give Loads = false
stores_give Both = true

abbrev pub loads_give : Kind → Bool
loads_give Stores = false
loads_give Loads = true
loads_give Both = true

-- the level after a transfer
abbrev pub after_transfer : Transfer → Level → Level
after_transfer Keeps level = level
after_transfer (Becomes new) level = new
after_transfer Acquires Nothing = Nothing
after_transfer Acquires Held = Nothing
after_transfer Acquires Fresh = Fresh
after_transfer Releases Nothing = Nothing
after_transfer Releases Held = Held
after_transfer Releases Fresh = Held
after_transfer AcquiresAndReleases Nothing = Nothing
after_transfer AcquiresAndReleases Held = Nothing
after_transfer AcquiresAndReleases Fresh = Held

-- what an acquire, a release or both do
abbrev pub synchronised : Bool → Bool → Transfer
synchronised false false = Keeps
synchronised true false = Acquires
synchronised false true = Releases
synchronised true true = AcquiresAndReleases

-- a register gets a value, after another transfer
abbrev pub losing : ℕ → Atom → Transfer → Transfer
losing r a other = if atoms_equal a (Reg r) then Becomes Nothing else other

-- what a statement does to the level of a pair, one line a statement
abbrev pub transfer_of : Kind → ℕ → Atom → Head → Transfer
transfer_of kind x a Skip = Keeps
transfer_of kind x a (Copy r b) = losing r a Keeps
transfer_of kind x a (Compute r op b c) = losing r a Keeps
transfer_of kind x a (Load r y) =
    if atoms_equal a (Reg r) then (if (y == x) && loads_give kind then Becomes Held else Becomes Nothing) else Keeps
transfer_of kind x a (Store y b) =
    if y == x then (if atoms_equal a b && stores_give kind then Becomes Fresh else Becomes Nothing) else Keeps
transfer_of kind x a (AtomicLoad r order y) = losing r a (synchronised (is_acquire (AtomicLoad r order y)) (is_release (AtomicLoad r order y)))
transfer_of kind x a (AtomicStore order y b) = synchronised (is_acquire (AtomicStore order y b)) (is_release (AtomicStore order y b))
transfer_of kind x a (Update r order y update) = losing r a (synchronised (is_acquire (Update r order y update)) (is_release (Update r order y update)))
transfer_of kind x a (Fence order) = synchronised (is_acquire (Fence order)) (is_release (Fence order))
transfer_of kind x a (Print b) = Keeps
transfer_of kind x a (If b _ _) = Keeps
transfer_of kind x a (While b _) = Keeps
transfer_of kind x a (Call r function args) = Becomes Nothing

abbrev pub level_change : Kind → ℕ → Atom → Head → Level → Level
level_change kind x a head level = after_transfer (transfer_of kind x a head) level

-- the level of a pair after a statement of a path
abbrev pub level_step : Kind → ℕ → Atom → Visit → Level → Level
level_step kind x a v level = level_change kind x a v.head level

-- the level of a pair after the statements of a path, from nothing
abbrev pub level_along : Kind → ℕ → Atom → List Visit → Level
level_along kind x a p = fold_forward (level_step kind x a) p Nothing

-- in the kind of both: after a statement, and after the statements of a path
abbrev pub level_by : ℕ → Atom → Head → Level → Level
level_by x a head level = level_change Both x a head level

abbrev pub level_on : ℕ → Atom → List Visit → Level
level_on x a p = level_along Both x a p

-- the level of a pair before a site: the least over all paths to it, from nothing
abbrev pub IsLevel : Code → ℕ → Kind → ℕ → Atom → Level → Type 0
IsLevel code site kind x a = IsMeetBefore rank_of (level_step kind x a) Nothing code site
