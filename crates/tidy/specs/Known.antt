-- What a register is known to hold: a pair of a register and an atom is known where they have one value on
-- every path.
use Rattle.std.specs.Prelude.{◌≡◌, ℕ, pos, Bool, true, false, not, ◌&&◌, ◌||◌, ◌==◌, nat_le, nat_lt, List, length, Option, Some, None}
use Rattle.std.specs.Ordering.{int_eq}
use Rattle.il_syntax.specs.declared.statement.Atom.{Atom}
use Rattle.il_syntax.specs.declared.statement.Atom.TheVariants.{Const, Reg}
use Rattle.il_syntax.specs.declared.statement.Stmt.TheOpen.{Skip, Copy, Compute, Load, Store, AtomicLoad, AtomicStore, Update, Fence, Print, If, While, Call}
use Rattle.il_syntax.specs.declared.program.Function.{Function}
use Rattle.il_syntax.specs.Statements.{Head}
use Rattle.il_paths.specs.Atoms.{atoms_equal}
use Rattle.il_paths.specs.Heads.{gives}
use Rattle.il_paths.specs.Code.{Visit, code_of_block}
use Rattle.il_paths.specs.Paths.{IsPath, Before}
use Rattle.il_paths.specs.Meets.{fold_forward}

-- at the entry each register that is no parameter is known to be 0
abbrev pub known_at_entry : Function → ℕ → Atom → Bool
known_at_entry f r (Const n) = nat_le f.params r && (nat_lt r (length f.registers) && int_eq n (pos 0))
known_at_entry f r (Reg s) = false

-- a copy of another atom makes its pair known
abbrev pub makes : ℕ → Atom → Head → Bool
makes r a Skip = false
makes r a (Copy k b) = (k == r) && (atoms_equal a b && not (atoms_equal a (Reg r)))
makes r a (Compute k op b c) = false
makes r a (Load k x) = false
makes r a (Store x b) = false
makes r a (AtomicLoad k order y) = false
makes r a (AtomicStore order y b) = false
makes r a (Update k order y kind) = false
makes r a (Fence order) = false
makes r a (Print b) = false
makes r a (If b _ _) = false
makes r a (While b _) = false
makes r a (Call k function args) = false

-- a register that is given a value stands on a side of the pair
abbrev pub touches : ℕ → Atom → Option ℕ → Bool
touches r a None = false
touches r a (Some k) = (k == r) || atoms_equal a (Reg k)

-- whether the pair is known after a statement: a register that is given a value makes all its pairs unknown, and
-- then a copy makes one known
abbrev pub known_change : ℕ → Atom → Head → Bool → Bool
known_change r a head known = makes r a head || (not (touches r a (gives head)) && known)

abbrev pub known_step : ℕ → Atom → Visit → Bool → Bool
known_step r a v known = known_change r a v.head known

-- whether it is known after a path
abbrev pub known_after : Function → ℕ → Atom → List Visit → Bool
known_after f r a p = fold_forward (known_step r a) p (known_at_entry f r a)

-- the pair is known after every path to the site
abbrev pub IsKnown : Function → (site r : ℕ) → Atom → Type 0
IsKnown f site r a = (p : List Visit) → Before (code_of_block f.body) site p → known_after f r a p ≡ true

-- and after every path of the whole body
abbrev pub IsKnownAtEnd : Function → ℕ → Atom → Type 0
IsKnownAtEnd f r a = (p : List Visit) → IsPath (code_of_block f.body) p → known_after f r a p ≡ true
