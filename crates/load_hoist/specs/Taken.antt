-- Names of new registers that need not be tried again. No public clause cites this file.
use Rattle.std.specs.Prelude.{◌≡◌, ◌<◌, ◌++◌, ℕ, true, List}
use Rattle.il_syntax.specs.Name.{is_among}
use Rattle.load_hoist.specs.declared.growth.Growing.{Growing}
use Rattle.load_hoist.specs.Introduced.{hoisted_name}

-- the names of all lower numbers are taken
abbrev pub AreTakenBelow : ℕ → List (List ℕ) → Type 0
AreTakenBelow from taken = (k : ℕ) → k < from → is_among taken (hoisted_name k) ≡ true

-- so for the function so far, in a program with these names
abbrev pub IsTaken : List (List ℕ) → Growing → Type 0
IsTaken names g = AreTakenBelow g.from (g.growth.registers ++ names)
