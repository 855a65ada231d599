-- What is known in the loops before which loads were put.
use Rattle.std.specs.Prelude.{◌≡◌, ◌≤◌, ◌<◌, ◌^◌, ℕ, true, false, List, [], ◌++◌, length}
use Rattle.il_syntax.specs.declared.statement.Atom.TheVariants.{Reg}
use Rattle.il_syntax.specs.declared.statement.Stmt.TheOpen.{Skip, Copy, Compute, Load, Store, AtomicLoad, AtomicStore, Update, Fence, Print, If, While, Call}
use Rattle.il_syntax.specs.declared.program.Function.{Function}
use Rattle.il_syntax.specs.Statements.{Head}
use Rattle.il_syntax.specs.Name.{is_among}
use Rattle.il_syntax.specs.WellFormed.{Declared, IsFunctionWellFormed}
use Rattle.il_paths.specs.Tree.{Tree, sites_of}
use Rattle.il_paths.specs.Code.{placed, AllHeads}
use Rattle.flow_facts.specs.declared.level.Kind.TheVariants.{Loads}
use Rattle.flow_facts.specs.declared.level.Level.{Level}
use Rattle.flow_facts.specs.Levels.{rank_of, IsLevel}
use Rattle.load_hoist.specs.declared.growth.Extra.{Extra}
use Rattle.load_hoist.specs.declared.growth.Growth.{Growth}
use Rattle.load_hoist.specs.Introduced.{hoisted_name, next_number, introduced, IsIntroduced}
use Rattle.load_hoist.specs.Hoisted.{InsideHoisted, WellHoisted}

-- the statement gives no register from n on
abbrev pub GivesBelow : ℕ → Head → Type 0
GivesBelow n Skip = Unit {0}
GivesBelow n (Copy r a) = r < n
GivesBelow n (Compute r op a b) = r < n
GivesBelow n (Load r x) = r < n
GivesBelow n (Store x a) = Unit {0}
GivesBelow n (AtomicLoad r order y) = r < n
GivesBelow n (AtomicStore order y a) = Unit {0}
GivesBelow n (Update r order y kind) = r < n
GivesBelow n (Fence order) = Unit {0}
GivesBelow n (Print a) = Unit {0}
GivesBelow n (If a _ _) = Unit {0}
GivesBelow n (While a _) = Unit {0}
GivesBelow n (Call r function args) = r < n

-- The pair of a load that was put before a loop is above nothing before each site of the loop's body.
abbrev pub HoistedPairsAreKnown : Type 0
HoistedPairsAreKnown = (t : Tree) (old site : ℕ) (e : Extra) (l : Level) → WellHoisted old [] (placed 0 t) → site < sites_of t → InsideHoisted old [] (placed 0 t) site e →
    IsLevel (placed 0 t) site Loads e.x (Reg e.r) l → 1 ≤ rank_of l

-- What introduction makes is such code.
abbrev pub IntroducedIsWellHoisted : Type 0
IntroducedIsWellHoisted = (na : ℕ) (names : List (List ℕ)) (t : Tree) (g : Growth) → AllHeads (GivesBelow (length g.registers)) t →
    WellHoisted (length g.registers) [] (placed 0 (introduced na names t [] g).0)

-- The number of a new name is the least one whose name nothing has.
abbrev pub NextNumberIsLeastFree : Type 0
NextNumberIsLeastFree = (names : List (List ℕ)) (g : Growth) → length (g.registers ++ names) < 2 ^ 63 →
    (is_among (g.registers ++ names) (hoisted_name (next_number names g)) ≡ false) ×
    ((k : ℕ) → k < next_number names g → is_among (g.registers ++ names) (hoisted_name k) ≡ true)

-- A function has one such function.
abbrev pub IntroducedIsOne : Type 0
IntroducedIsOne = (na : ℕ) (names : List (List ℕ)) (f g h : Function) → IsIntroduced na names f g → IsIntroduced na names f h → g ≡ h

-- It fits where the function fits, if the numbers and names are those of the program that the function fits.
abbrev pub IntroducedFits : Type 0
IntroducedFits = (d : Declared) (f g : Function) → length d.names < 2 ^ 32 → IsFunctionWellFormed d f → IsIntroduced d.na d.names f g → IsFunctionWellFormed d g
