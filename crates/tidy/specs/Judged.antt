-- What is answered of two functions: that the one accepts the other, or where it first doesn't.
use Rattle.std.specs.Prelude.{◌≡◌, ◌<◌, ℕ, Some, slice_get}
use Rattle.il_syntax.specs.declared.program.Function.{Function}
use Rattle.il_syntax.specs.Statements.{Head}
use Rattle.il_paths.specs.Tree.{tree_of, sites_of, heads_in}
use Rattle.tidy.specs.Known.{IsKnownAtEnd}
use Rattle.tidy.specs.Accepts.{StandsFor, StatementAccepted, SameBlocks, StatementsAccepted, TidyAccepts}
use Rattle.tidy.specs.declared.judging.Tidiness.{Tidiness}
use Rattle.tidy.specs.declared.judging.Tidiness.TheVariants.{Yes, No}

-- names, parameters, registers and blocks are equal
pub record SameFrame (f g : Function) : Type 0 where
  pub name : g.name ≡ f.name
  pub params : g.params ≡ f.params
  pub registers : g.registers ≡ f.registers
  pub blocks : SameBlocks (tree_of f.body) (tree_of g.body)

-- the statement at the site may stand for the one there
abbrev pub AcceptedAt : Function → Function → ℕ → Type 0
AcceptedAt f g site = (old new : Head) → slice_get (heads_in (tree_of f.body)) site ≡ Some old → slice_get (heads_in (tree_of g.body)) site ≡ Some new → StatementAccepted f g site old new

-- The first place at which f doesn't accept g: g's number of statements where heads or blocks differ, else the first
-- statement that may not stand for the one at its site, else, where the results alone differ, that number again.
pub data IsFirstTidyFault (f g : Function) (site : ℕ) : Type 0 where
  is_frame : (SameFrame f g → ⊥) → site ≡ sites_of (tree_of g.body) → IsFirstTidyFault f g site
  is_statement : SameFrame f g → site < sites_of (tree_of g.body) → ((s : ℕ) → s < site → AcceptedAt f g s) → (AcceptedAt f g site → ⊥) → IsFirstTidyFault f g site
  is_result : SameFrame f g → StatementsAccepted f g → (StandsFor (IsKnownAtEnd f) f.result g.result → ⊥) → site ≡ sites_of (tree_of g.body) → IsFirstTidyFault f g site

abbrev pub IsTidiness : Function → Function → Tidiness → Type 0
IsTidiness f g Yes = TidyAccepts f g
IsTidiness f g (No site) = IsFirstTidyFault f g site
