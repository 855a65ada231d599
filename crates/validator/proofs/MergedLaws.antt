-- Statements as they were, by their heads.
use Rattle.std.proofs.Common.{◌≡◌, ℕ, ◌+◌, List, refl, sym, ap, ◌∙◌, arith}
use Rattle.il_syntax.specs.declared.statement.Stmt.TheOpen.{Skip, Copy, Compute, Load, Store, AtomicLoad, AtomicStore, Update, Fence, Print, If, While, Call}
use Rattle.il_syntax.specs.Statements.{Head}
use Rattle.il_paths.specs.Tree.{Leaf, head_of_leaf, Tree, Empty, Then, IfThen, WhileThen, sites_of}
use Rattle.rewriting.specs.Kinds.{unchanged}
use Rattle.rewriting.proofs.Callers.{each_rewritten}
use Rattle.validator.specs.Roles.{Role, Same}
use Rattle.validator.specs.declared.walk.Part.{Part}
use Rattle.validator.specs.Merged.{restored_skip, restored_copy, restored_leaf, restored}

abbrev pub restored_head : Role → Head → Head
restored_head role Skip = head_of_leaf (restored_skip role)
restored_head role (Copy r a) = head_of_leaf (restored_copy role r a)
restored_head role head = head

pub head_restored : (role : Role) (leaf : Leaf) → head_of_leaf (restored_leaf role leaf) ≡ restored_head role (head_of_leaf leaf)
head_restored role Skip = refl
head_restored role (Copy r a) = refl
head_restored role (Compute r op a b) = refl
head_restored role (Load r x) = refl
head_restored role (Store x a) = refl
head_restored role (AtomicLoad r order y) = refl
head_restored role (AtomicStore order y a) = refl
head_restored role (Update r order y kind) = refl
head_restored role (Fence order) = refl
head_restored role (Print a) = refl
head_restored role (If a yes_block no_block) = absurd yes_block
head_restored role (While a body) = absurd body
head_restored role (Call r function args) = refl

pub same_kept : (leaf : Leaf) → head_of_leaf (restored_leaf Same leaf) ≡ head_of_leaf leaf
same_kept =
    each_rewritten (λ leaf new. head_of_leaf new ≡ head_of_leaf leaf) (record unchanged { skip = restored_skip Same; copy = restored_copy Same })
    (record { skip = refl; copy = λ r a. refl; compute = λ r op a b. refl; load = λ r x. refl; store = λ x a. refl; other = λ leaf. refl })

pub load_kept : (role : Role) (leaf : Leaf) (r x : ℕ) → head_of_leaf leaf ≡ Load r x → head_of_leaf (restored_leaf role leaf) ≡ head_of_leaf leaf
load_kept role leaf r x e = head_restored role leaf ∙ ap (restored_head role) e ∙ sym e

pub sites_of-restored : (parts : List Part) (t : Tree) (n : ℕ) → sites_of (restored parts n t) ≡ sites_of t
sites_of-restored parts Empty n = refl
sites_of-restored parts (Then leaf rest) n = omega (arith, sites_of-restored parts rest (n + 1))
sites_of-restored parts (IfThen test a b rest) n =
    omega (arith, sites_of-restored parts a (n + 1), sites_of-restored parts b (n + 1 + sites_of a), sites_of-restored parts rest (n + 1 + sites_of a + sites_of b))
sites_of-restored parts (WhileThen test a rest) n = omega (arith, sites_of-restored parts a (n + 1), sites_of-restored parts rest (n + 1 + sites_of a))
