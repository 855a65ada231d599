-- Registers that are still wanted.
use Rattle.std.specs.Prelude.{◌≡◌, ◌↔◌, ◌<◌, ℕ, Bool, true, false, not, ◌&&◌, ◌||◌, ◌==◌, List, [], ◌∷◌, Some, slice_index_or}
use Rattle.std.specs.Option.{option_map_or}
use Rattle.il_syntax.specs.declared.statement.Atom.{Atom}
use Rattle.il_syntax.specs.declared.statement.Atom.TheVariants.{Reg}
use Rattle.il_syntax.specs.declared.program.Function.{Function}
use Rattle.il_syntax.specs.Statements.{Head}
use Rattle.il_paths.specs.Heads.{gives}
use Rattle.il_paths.specs.Tree.{tree_of, sites_of}
use Rattle.il_paths.specs.Code.{Visit, code_of_block}
use Rattle.il_paths.specs.Paths.{After}
use Rattle.location_sets.specs.Sets.{has}
use Rattle.tidy.specs.Atoms.{reads_register}

-- On the path a statement reads the register before any gives it a value, or none gives it one and it is the
-- result. A statement reads before it gives.
pub data IsWanted (r : ℕ) (result : Atom) : List Visit → Type 0 where
  is_result : result ≡ Reg r → IsWanted r result []
  is_read : {v : Visit} {q : List Visit} → reads_register r v.head ≡ true → IsWanted r result (v ∷ q)
  is_kept : {v : Visit} {q : List Visit} → (gives v.head ≡ Some r → ⊥) → IsWanted r result q → IsWanted r result (v ∷ q)

-- some path from just after the site wants the register
abbrev pub IsLive : Function → (site r : ℕ) → Type 0
IsLive f site r = (q : List Visit) × After (code_of_block f.body) site q × IsWanted r f.result q

-- whether the register is live before a statement, from whether it is after it
abbrev pub live_change : ℕ → Head → Bool → Bool
live_change r head later = reads_register r head || (not (option_map_or (λ k. k == r) (gives head) false) && later)

-- each set has the registers that are live after its site
abbrev pub AreLiveSets : Function → List (List ℕ) → Type 0
AreLiveSets f sets = (site r : ℕ) → site < sites_of (tree_of f.body) → (has r (slice_index_or sets site []) ≡ true) ↔ IsLive f site r
