-- Laws of the chain.
use Rattle.std.specs.Prelude.{◌≡◌, ◌≢◌, ◌<◌, ◌≤◌, ℕ, ◌+◌, List, [], length, Some, slice_get}
use Rattle.il_syntax.specs.declared.program.Function.{Function}
use Rattle.il_syntax.specs.declared.program.Program.{Program}
use Rattle.il_syntax.specs.declared.statement.Stmt.TheOpen.{Load}
use Rattle.il_syntax.specs.WellFormed.{Declared, names_of, IsFunctionWellFormed, IsWellFormed, Fits}
use Rattle.il_paths.specs.Tree.{tree_of, heads_in, sites_of}
use Rattle.il_paths.specs.Code.{placed}
use Rattle.load_hoist.specs.declared.growth.Extra.{Extra}
use Rattle.load_hoist.specs.Hoisted.{InsideHoisted}
use Rattle.pass_chain.specs.declared.chains.FunctionChain.{FunctionChain}
use Rattle.pass_chain.specs.declared.chains.ProgramChain.{ProgramChain}
use Rattle.pass_chain.specs.Chain.{IsOpt, IsOptAll}
use Rattle.pass_chain.specs.declared.counts.Counted.TheVariants.{Loads, Stores}
use Rattle.pass_chain.specs.Counts.{is_na_load, is_na_store, head_is_copy, head_is_skip, accesses, statements_of_program, registers_of_program, became_in, counts_of}

-- A function has one chain.
abbrev pub OptIsOne : Type 0
OptIsOne = (na : ℕ) (names : List (List ℕ)) (f : Function) (c d : FunctionChain) → IsOpt na names f c → IsOpt na names f d → c ≡ d

-- and a program
abbrev pub OptAllIsOne : Type 0
OptAllIsOne = (p : Program) (c d : ProgramChain) → IsOptAll p c → IsOptAll p d → c ≡ d

-- The five programs of a well-formed one are well-formed.
pub record AreWellFormed (c : ProgramChain) : Type 0 where
  pub source : IsWellFormed c.source
  pub stored : IsWellFormed c.stored
  pub introduced : IsWellFormed c.introduced
  pub loaded : IsWellFormed c.loaded
  pub undead : IsWellFormed c.undead

abbrev pub OptAllIsWellFormed : Type 0
OptAllIsWellFormed = (p : Program) (c : ProgramChain) → IsWellFormed p → IsOptAll p c → AreWellFormed c

-- Where a function fits a program, so does each function of its chain.
pub record AreFitting (p : Program) (c : FunctionChain) : Type 0 where
  pub source : Fits p c.source
  pub stored : Fits p c.stored
  pub introduced : Fits p c.introduced
  pub loaded : Fits p c.loaded
  pub undead : Fits p c.undead

abbrev pub ChainsFit : Type 0
ChainsFit = (p : Program) (f : Function) (c : FunctionChain) → Fits p f → IsOpt (length p.na) (names_of p) f c → AreFitting p c

-- After load forwarding no load of a location stands in the body of a loop before which a load of it was put.
abbrev pub HoistedLoadsAreGone : Type 0
HoistedLoadsAreGone = (d : Declared) (na : ℕ) (names : List (List ℕ)) (f : Function) (c : FunctionChain) (site r : ℕ) (e : Extra) → IsFunctionWellFormed d f → IsOpt na names f c →
    site < sites_of (tree_of c.introduced.body) → InsideHoisted (length c.stored.registers) [] (placed 0 (tree_of c.introduced.body)) site e →
    slice_get (heads_in (tree_of c.loaded.body)) site ≢ Some (Load r e.x)

-- The counts of a chain are those of sites, and no difference among them is cut off at nothing: a forwarded load is a
-- site with a load before and a copy after, a removed store one with a store before and a `skip` after, and each load
-- that was put in has a register of its own.
pub record AreCountsOfSites (c : ProgramChain) : Type 0 where
  pub forwarded : (counts_of c).forwarded ≡ became_in is_na_load head_is_copy c.source.functions c.stored.functions + became_in is_na_load head_is_copy c.introduced.functions c.loaded.functions
  pub fewer_stored : accesses Loads c.stored ≤ accesses Loads c.source
  pub fewer_loaded : accesses Loads c.loaded ≤ accesses Loads c.introduced
  pub introduced : registers_of_program c.stored + (counts_of c).introduced ≡ registers_of_program c.introduced
  pub more_introduced : statements_of_program c.stored ≤ statements_of_program c.introduced
  pub removed : (counts_of c).removed ≡ became_in is_na_store head_is_skip c.loaded.functions c.undead.functions
  pub fewer_undead : accesses Stores c.undead ≤ accesses Stores c.loaded

abbrev pub CountsAreOfSites : Type 0
CountsAreOfSites = (p : Program) (c : ProgramChain) → IsOptAll p c → AreCountsOfSites c
