-- Of which tree placed code is, by the code's first statement.
use Rattle.std.proofs.Common.{◌≡◌, ℕ, ◌+◌, refl, sym}
use Rattle.il_syntax.specs.declared.statement.Atom.{Atom}
use Rattle.il_syntax.specs.declared.statement.Stmt.TheOpen.{If, While}
use Rattle.il_paths.specs.Tree.{Leaf, head_of_leaf, Tree, Empty, Then, IfThen, WhileThen, sites_of}
use Rattle.il_paths.specs.Code.{Visit, Code, End, Plain, Branch, Loop, placed}
use Rattle.validator.specs.Beside.{visit}

pub placed_end : (n : ℕ) (t : Tree) → placed n t ≡ End → t ≡ Empty
placed_end n Empty e = refl
placed_end n (Then leaf rest) e = absurd cc
placed_end n (IfThen a y z rest) e = absurd cc
placed_end n (WhileThen a d rest) e = absurd cc

pub record IsPlain (n : ℕ) (t : Tree) (v : Visit) (c : Code) : Type 0 where
  pub leaf : Leaf
  pub rest : Tree
  pub is : t ≡ Then leaf rest
  pub at : v ≡ visit n (head_of_leaf leaf)
  pub after : placed (n + 1) rest ≡ c

pub placed_plain : (n : ℕ) (t : Tree) (v : Visit) (c : Code) → placed n t ≡ Plain v c → IsPlain n t v c
placed_plain n Empty v c e = absurd cc
placed_plain n (Then leaf rest) v c e =
    let first : visit n (head_of_leaf leaf) ≡ v = cc in
    let after : placed (n + 1) rest ≡ c = cc in
    record { leaf = leaf; rest = rest; is = refl; at = sym first; after = after }
placed_plain n (IfThen a y z rest) v c e = absurd cc
placed_plain n (WhileThen a d rest) v c e = absurd cc

pub record IsBranch (n : ℕ) (t : Tree) (v : Visit) (y z c : Code) : Type 0 where
  pub test : Atom
  pub one : Tree
  pub other : Tree
  pub rest : Tree
  pub is : t ≡ IfThen test one other rest
  pub at : v ≡ visit n (If test tt tt)
  pub in_one : placed (n + 1) one ≡ y
  pub in_other : placed (n + 1 + sites_of one) other ≡ z
  pub after : placed (n + 1 + sites_of one + sites_of other) rest ≡ c

pub placed_branch : (n : ℕ) (t : Tree) (v : Visit) (y z c : Code) → placed n t ≡ Branch v y z c → IsBranch n t v y z c
placed_branch n Empty v y z c e = absurd cc
placed_branch n (Then leaf rest) v y z c e = absurd cc
placed_branch n (IfThen a one other rest) v y z c e =
    let first : visit n (If a tt tt) ≡ v = cc in
    let in_one : placed (n + 1) one ≡ y = cc in
    let in_other : placed (n + 1 + sites_of one) other ≡ z = cc in
    let after : placed (n + 1 + sites_of one + sites_of other) rest ≡ c = cc in
    record { test = a; one = one; other = other; rest = rest; is = refl; at = sym first; in_one = in_one; in_other = in_other; after = after }
placed_branch n (WhileThen a d rest) v y z c e = absurd cc

pub record IsLoop (n : ℕ) (t : Tree) (v : Visit) (b c : Code) : Type 0 where
  pub test : Atom
  pub body : Tree
  pub rest : Tree
  pub is : t ≡ WhileThen test body rest
  pub at : v ≡ visit n (While test tt)
  pub inside : placed (n + 1) body ≡ b
  pub after : placed (n + 1 + sites_of body) rest ≡ c

pub placed_loop : (n : ℕ) (t : Tree) (v : Visit) (b c : Code) → placed n t ≡ Loop v b c → IsLoop n t v b c
placed_loop n Empty v b c e = absurd cc
placed_loop n (Then leaf rest) v b c e = absurd cc
placed_loop n (IfThen a y z rest) v b c e = absurd cc
placed_loop n (WhileThen a body rest) v b c e =
    let first : visit n (While a tt) ≡ v = cc in
    let inside : placed (n + 1) body ≡ b = cc in
    let after : placed (n + 1 + sites_of body) rest ≡ c = cc in
    record { test = a; body = body; rest = rest; is = refl; at = sym first; inside = inside; after = after }
