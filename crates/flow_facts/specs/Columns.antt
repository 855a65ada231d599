-- Columns: the levels of one pair before each site, and rows made of columns. For the body that goes pair by
-- pair; no public clause cites this.
use Rattle.std.specs.Prelude.{◌≡◌, ◌<◌, ℕ, List, [], ◌∷◌, length, slice_index_or}
use Rattle.il_syntax.specs.declared.statement.Atom.{Atom}
use Rattle.il_paths.specs.Tree.{Tree, sites_of}
use Rattle.il_paths.specs.Code.{placed}
use Rattle.flow_facts.specs.declared.level.Kind.{Kind}
use Rattle.flow_facts.specs.declared.level.Level.{Level}
use Rattle.flow_facts.specs.declared.level.Level.TheVariants.{Nothing, Fresh}
use Rattle.flow_facts.specs.declared.given.Pair.{Pair}
use Rattle.flow_facts.specs.declared.known.Known.{Known}
use Rattle.flow_facts.specs.declared.walked.Column.{Column}
use Rattle.flow_facts.specs.Levels.{IsLevel}
use Rattle.flow_facts.specs.Rows.{higher, level_of}

-- each is the pair's level before its site
abbrev pub AreLevels : Tree → Kind → Pair → List Level → Type 0
AreLevels tree kind pair levels =
    (length levels ≡ sites_of tree) × ((site : ℕ) → site < sites_of tree → IsLevel (placed 0 tree) site kind pair.x pair.a (slice_index_or levels site Fresh))

-- the pair and its level before a site
abbrev pub entry : Column → ℕ → Known
entry column site = record { x = column.pair.x; a = column.pair.a; level = slice_index_or column.levels site Nothing }

-- the highest level that the columns of a pair have before a site
abbrev pub level_by_columns : List Column → ℕ → ℕ → Atom → Level
level_by_columns [] site x a = Nothing
level_by_columns (column ∷ more) site x a = higher (level_of (entry column site) x a) (level_by_columns more site x a)
