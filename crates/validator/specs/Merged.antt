-- Merged code: the source with the inserted loads put in. It is the target with its turned loads and its
-- removed stores as they were.
use Rattle.std.specs.Prelude.{ℕ, List}
use Rattle.il_syntax.specs.declared.statement.Atom.{Atom}
use Rattle.il_syntax.specs.declared.statement.Stmt.TheOpen.{Skip, Copy, Load, Store}
use Rattle.il_syntax.specs.declared.program.Function.{Function}
use Rattle.il_paths.specs.Tree.{Leaf, Tree, tree_of}
use Rattle.rewriting.specs.Kinds.{unchanged, rewritten_leaf}
use Rattle.rewriting.specs.Changed.{changed_tree}
use Rattle.validator.specs.Roles.{Role, Same, Turned, Removed, Inserted}
use Rattle.validator.specs.declared.walk.Part.{Part}
use Rattle.validator.specs.Walk.{role_at}

abbrev pub restored_skip : Role → Leaf
restored_skip Same = Skip
restored_skip (Turned x a) = Skip
restored_skip (Removed x a) = Store x a
restored_skip Inserted = Skip

abbrev pub restored_copy : Role → ℕ → Atom → Leaf
restored_copy Same r a = Copy r a
restored_copy (Turned x b) r a = Load r x
restored_copy (Removed x b) r a = Copy r a
restored_copy Inserted r a = Copy r a

-- a statement as it was
abbrev pub restored_leaf : Role → Leaf → Leaf
restored_leaf role = rewritten_leaf (record unchanged { skip = restored_skip role; copy = restored_copy role })

-- a tree that begins at a site
abbrev pub restored : List Part → ℕ → Tree → Tree
restored parts = changed_tree (λ site. restored_leaf (role_at parts site))

abbrev pub merged : Function → List Part → Tree
merged g parts = restored parts 0 (tree_of g.body)
