-- What a walk of a loop hands to the next: of that loop and those in it, what a turn makes of what is known after it.
-- No public clause cites this file.
use Rattle.std.specs.Prelude.{◌≡◌, ◌≤◌, ℕ, Bool, List, [], ◌∷◌, ◌++◌, reverse}
use Rattle.il_syntax.specs.declared.statement.Stmt.TheOpen.{While}
use Rattle.il_syntax.specs.Statements.{Head}
use Rattle.il_paths.specs.Tree.{Tree, Empty, Then, IfThen, WhileThen}
use Rattle.backward_sets.specs.Walk.{before_tree, after_sites}

-- the turns of a tree's loops, the last loop's first, and each loop's before those of the loops in it
abbrev pub turns_of : (Bool → ℕ) → (ℕ → Head → Bool → Bool) → ℕ → Tree → Bool → List Bool
turns_of rank change x Empty later = []
turns_of rank change x (Then leaf rest) later = turns_of rank change x rest later
turns_of rank change x (IfThen test yes_block no_block rest) later =
    let r = before_tree rank change x rest later in
    turns_of rank change x rest later ++ (turns_of rank change x no_block r ++ turns_of rank change x yes_block r)
turns_of rank change x (WhileThen test body rest) later =
    let once = change x (While test tt) (before_tree rank change x rest later) in
    turns_of rank change x rest later ++ (change x (While test tt) (before_tree rank change x body once) ∷ turns_of rank change x body once)

-- turns that end with those that a walk found of some statements, to which no less was known than is now
pub record AreFound (rank : Bool → ℕ) (found : Bool → List Bool) (known : Bool) (turns others : List Bool) : Type 0 where
  pub first : Bool
  pub above : rank known ≤ rank first
  pub is : turns ≡ others ++ reverse (found first)

-- outside of all loops none has been found yet
pub data AreTurns (rank : Bool → ℕ) (found : Bool → List Bool) (known : Bool) (turns others : List Bool) : Type 0 where
  none_yet : turns ≡ [] → others ≡ [] → AreTurns rank found known turns others
  are_found : AreFound rank found known turns others → AreTurns rank found known turns others

-- what the next walk finds of a tree, before it and in the sets after its sites, and that it takes the tree's turns
abbrev pub Fills : (Bool → ℕ) → (ℕ → Head → Bool → Bool) → ℕ → Tree → (later : Bool) → (turns sets : List Bool) → (before : Bool) → (left filled : List Bool) → Type 0
Fills rank change x tree later turns sets before left filled =
    (others : List Bool) → AreTurns rank (turns_of rank change x tree) later turns others →
    (before ≡ before_tree rank change x tree later) × (filled ≡ sets ++ reverse (after_sites rank change x tree later)) × (left ≡ others)
