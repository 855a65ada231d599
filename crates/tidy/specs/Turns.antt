-- What a walk of a loop hands to the next: of that loop and those in it, whether a pair is known after a turn. No public
-- clause cites this file.
use Rattle.std.specs.Prelude.{◌≡◌, ℕ, Bool, List, [], ◌∷◌, ◌++◌}
use Rattle.il_syntax.specs.declared.statement.Atom.{Atom}
use Rattle.il_paths.specs.Tree.{head_of_leaf, Tree, Empty, Then, IfThen, WhileThen}
use Rattle.path_meets.specs.Chain.{must_rank}
use Rattle.backward_sets.specs.Turns.{AreTurns}
use Rattle.tidy.specs.Known.{known_change}
use Rattle.tidy.specs.Rows.{exit_known, table_known}

-- the turns of a tree's loops, the first loop's first, and each loop's before those of the loops in it
abbrev pub turns_known : ℕ → Atom → Tree → Bool → List Bool
turns_known r a Empty known = []
turns_known r a (Then leaf rest) known = turns_known r a rest (known_change r a (head_of_leaf leaf) known)
turns_known r a (IfThen test yes_block no_block rest) known =
    turns_known r a yes_block known ++ (turns_known r a no_block known ++ turns_known r a rest (exit_known r a (IfThen test yes_block no_block Empty) known))
turns_known r a (WhileThen test body rest) known =
    exit_known r a body known ∷ (turns_known r a body known ++ turns_known r a rest (exit_known r a (WhileThen test body Empty) known))

-- what the next walk finds of a tree, after it and in the rows before its sites, and that it takes the tree's turns
abbrev pub FillsRows : ℕ → Atom → Tree → (known : Bool) → (turns rows : List Bool) → (after : Bool) → (left filled : List Bool) → Type 0
FillsRows r a tree known turns rows after left filled =
    (others : List Bool) → AreTurns must_rank (turns_known r a tree) known turns others →
    (after ≡ exit_known r a tree known) × (filled ≡ rows ++ table_known r a tree known) × (left ≡ others)
