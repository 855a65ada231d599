-- The loops before which loads were put, in code whose registers from `old` on are new.
use Rattle.std.specs.Prelude.{◌≡◌, ◌≤◌, ◌⊎◌, ℕ, nat_le, if◌then◌else◌, List, [], ◌∷◌}
use Rattle.il_syntax.specs.declared.statement.Atom.TheVariants.{Reg}
use Rattle.il_syntax.specs.declared.statement.Stmt.TheOpen.{Skip, Copy, Compute, Load, Store, AtomicLoad, AtomicStore, Update, Fence, Print, If, While, Call}
use Rattle.il_syntax.specs.Statements.{Head}
use Rattle.il_paths.specs.Code.{Code, End, Plain, Branch, Loop, AllCode}
use Rattle.flow_facts.specs.declared.level.Kind.TheVariants.{Loads}
use Rattle.flow_facts.specs.declared.level.Level.{Level}
use Rattle.flow_facts.specs.Levels.{rank_of, level_change}
use Rattle.load_hoist.specs.declared.growth.Extra.{Extra}

abbrev pub Has : Extra → List Extra → Type 0
Has e [] = ⊥
Has e (f ∷ run) = (e ≡ f) ⊎ Has e run

-- the site is one of the code's
abbrev pub OccursIn : Code → ℕ → Type 0
OccursIn End s = ⊥
OccursIn (Plain v rest) s = (v.site ≡ s) ⊎ OccursIn rest s
OccursIn (Branch v yes_block no_block rest) s = (v.site ≡ s) ⊎ (OccursIn yes_block s ⊎ (OccursIn no_block s ⊎ OccursIn rest s))
OccursIn (Loop v body rest) s = (v.site ≡ s) ⊎ (OccursIn body s ⊎ OccursIn rest s)

-- the loads into new registers that stand directly before the next statement
abbrev pub run_after : ℕ → List Extra → Head → List Extra
run_after old run Skip = []
run_after old run (Copy r a) = []
run_after old run (Compute r op a b) = []
run_after old run (Load r x) = if nat_le old r then record { r = r; x = x } ∷ run else []
run_after old run (Store x a) = []
run_after old run (AtomicLoad r order y) = []
run_after old run (AtomicStore order y a) = []
run_after old run (Update r order y kind) = []
run_after old run (Fence order) = []
run_after old run (Print a) = []
run_after old run (If a _ _) = []
run_after old run (While a _) = []
run_after old run (Call r function args) = []

-- the site stands in the body of a loop before which this load was put
abbrev pub InsideHoisted : ℕ → List Extra → Code → ℕ → Extra → Type 0
InsideHoisted old run End site e = ⊥
InsideHoisted old run (Plain v rest) site e = InsideHoisted old (run_after old run v.head) rest site e
InsideHoisted old run (Branch v yes_block no_block rest) site e = InsideHoisted old [] yes_block site e ⊎ (InsideHoisted old [] no_block site e ⊎ InsideHoisted old [] rest site e)
InsideHoisted old run (Loop v body rest) site e = (Has e run × OccursIn body site) ⊎ (InsideHoisted old [] body site e ⊎ InsideHoisted old [] rest site e)

-- the statement leaves the load's pair above nothing
abbrev pub KeepsPair : Extra → Head → Type 0
KeepsPair e head = (l : Level) → 1 ≤ rank_of l → 1 ≤ rank_of (level_change Loads e.x (Reg e.r) head l)

-- each statement between a load that was put in and the end of its loop leaves its pair above nothing
abbrev pub WellHoisted : ℕ → List Extra → Code → Type 0
WellHoisted old run End = Unit {0}
WellHoisted old run (Plain v rest) = ((e : Extra) → Has e run → Has e (run_after old run v.head) → KeepsPair e v.head) × WellHoisted old (run_after old run v.head) rest
WellHoisted old run (Branch v yes_block no_block rest) = WellHoisted old [] yes_block × WellHoisted old [] no_block × WellHoisted old [] rest
WellHoisted old run (Loop v body rest) = ((e : Extra) → Has e run → KeepsPair e v.head × AllCode (KeepsPair e) body) × WellHoisted old [] body × WellHoisted old [] rest
