-- A function whose statements read what is known in the place of registers.
use Rattle.std.specs.Prelude.{◌≡◌, ◌<◌, ℕ, ◌+◌, map, Option, MatchOption, unwrap_or}
use Rattle.il_syntax.specs.declared.statement.Atom.{Atom}
use Rattle.il_syntax.specs.declared.statement.Atom.TheVariants.{Const, Reg}
use Rattle.il_syntax.specs.declared.program.Function.{Function}
use Rattle.il_paths.specs.Atoms.{AtMost}
use Rattle.il_paths.specs.Tree.{Tree, Empty, Then, IfThen, WhileThen, tree_of, sites_of}
use Rattle.tidy.specs.Atoms.{atoms_in, with_atoms}
use Rattle.tidy.specs.Known.{IsKnown, IsKnownAtEnd}

-- the least atom that is known, or none
abbrev pub IsLeast : (Atom → Type 0) → Option Atom → Type 0
IsLeast known least = MatchOption least ((a : Atom) → known a → ⊥) (λ b. known b × ((a : Atom) → known a → AtMost b a))

-- an atom becomes what is least known for it, and stays where nothing is
abbrev pub propagated_atom : (ℕ → Option Atom) → Atom → Atom
propagated_atom least (Const n) = Const n
propagated_atom least (Reg r) = unwrap_or (least r) (Reg r)

-- the atoms of each statement of a tree, counted from a site
abbrev pub propagated_tree : (ℕ → ℕ → Option Atom) → ℕ → Tree → Tree
propagated_tree least site Empty = Empty
propagated_tree least site (Then leaf rest) = Then (with_atoms leaf (map (propagated_atom (least site)) (atoms_in leaf))) (propagated_tree least (site + 1) rest)
propagated_tree least site (IfThen a yes_block no_block rest) =
    IfThen (propagated_atom (least site) a) (propagated_tree least (site + 1) yes_block) (propagated_tree least (site + 1 + sites_of yes_block) no_block) (propagated_tree least (site + 1 + sites_of yes_block + sites_of no_block) rest)
propagated_tree least site (WhileThen a body rest) =
    WhileThen (propagated_atom (least site) a) (propagated_tree least (site + 1) body) (propagated_tree least (site + 1 + sites_of body) rest)

-- `least site r` is the least atom known for r before the site, `at_end r` the least at the end, and g is f with
-- these in the place of the registers that it reads.
pub record IsPropagated (f g : Function) : Type 0 where
  pub least : ℕ → ℕ → Option Atom
  pub at_end : ℕ → Option Atom
  pub is_least : (site r : ℕ) → site < sites_of (tree_of f.body) → IsLeast (IsKnown f site r) (least site r)
  pub is_least_at_end : (r : ℕ) → IsLeast (IsKnownAtEnd f r) (at_end r)
  pub name : g.name ≡ f.name
  pub params : g.params ≡ f.params
  pub registers : g.registers ≡ f.registers
  pub body : tree_of g.body ≡ propagated_tree least 0 (tree_of f.body)
  pub result : g.result ≡ propagated_atom at_end f.result
