-- All sites stay.
use Rattle.std.proofs.Common.{◌≡◌, ℕ, ◌+◌, Option, refl, sym, ap, ◌∙◌, arith}
use Rattle.il_syntax.specs.declared.statement.Atom.{Atom}
use Rattle.il_syntax.specs.declared.program.Function.{Function}
use Rattle.il_syntax.specs.Statements.{site_count}
use Rattle.il_paths.specs.Tree.{Tree, Empty, Then, IfThen, WhileThen, tree_of, sites_of}
use Rattle.il_paths.proofs.Callers.{sites_agree}
use Rattle.tidy.specs.Propagated.{propagated_tree, IsPropagated}

sites_replaced : (least : ℕ → ℕ → Option Atom) (n : ℕ) (t : Tree) → sites_of (propagated_tree least n t) ≡ sites_of t
sites_replaced least n Empty = refl
sites_replaced least n (Then leaf rest) = omega (arith, sites_replaced least (n + 1) rest)
sites_replaced least n (IfThen a y m rest) = omega (arith, sites_replaced least (n + 1) y, sites_replaced least (n + 1 + sites_of y) m, sites_replaced least (n + 1 + sites_of y + sites_of m) rest)
sites_replaced least n (WhileThen a body rest) = omega (arith, sites_replaced least (n + 1) body, sites_replaced least (n + 1 + sites_of body) rest)

pub count_propagated : (f g : Function) → IsPropagated f g → site_count g.body.statements ≡ site_count f.body.statements
count_propagated f g p = sym (sites_agree g.body) ∙ ap sites_of p.body ∙ sites_replaced p.least 0 (tree_of f.body) ∙ sites_agree f.body
