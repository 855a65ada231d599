-- A change in place makes one function, which fits where the first one did.
use Rattle.std.proofs.Common.{◌≡◌, ℕ, Bool, true, ◌&&◌, nat_le, ◌+◌, List, ◌++◌, length, refl, sym, ap, ◌∙◌}
use Rattle.std.specs.List.{list_all}
use Rattle.std.proofs.lemmas.Bool.{and_parts, and_from}
use Rattle.std.proofs.lemmas.List.Folds.{list_all-append}
use Rattle.il_syntax.specs.declared.statement.Block.{Block}
use Rattle.il_syntax.specs.declared.program.Function.{Function}
use Rattle.il_syntax.specs.declared.statement.Stmt.TheOpen.{If, While}
use Rattle.il_syntax.specs.Statements.{Head, heads_of_all, site_count, depth_of_all}
use Rattle.il_syntax.specs.WellFormed.{Declared, atom_exists}
use Rattle.il_syntax.specs.Checks.{head_fits, registers_fit, body_fits}
use Rattle.il_syntax.proofs.Callers.{function_fits-is_well_formed, well_formed-function_fits}
use Rattle.il_paths.specs.Tree.{Leaf, head_of_leaf, Tree, Empty, Then, IfThen, WhileThen, tree_of, block_of, heads_in, sites_of}
use Rattle.il_paths.proofs.Callers.{block_of-tree_of, heads_agree, sites_agree}
use Rattle.rewriting.specs.Changed.{changed_tree, SameHeads, IsChanged}
use Rattle.rewriting.specs.Laws.{ChangedIsOne, ChangedFits}
use Rattle.rewriting.proofs.Leaves.{AllLeaves, all_leaves, sites_stay, one_tree}
use Rattle.rewriting.proofs.Depths.{depth_in, depths_agree, depth_stays}

-- a block is known by its tree
pub one_block : (b c : Block) → tree_of b ≡ tree_of c → b ≡ c
one_block b c e = sym (block_of-tree_of b) ∙ ap block_of e ∙ block_of-tree_of c

-- functions of one head and one body are one
pub one_function : (f g h : Function) → SameHeads f g → SameHeads f h → tree_of g.body ≡ tree_of h.body → g ≡ h
one_function f g h p q e =
    let name = p.name ∙ sym q.name in
    let params = p.params ∙ sym q.params in
    let registers = p.registers ∙ sym q.registers in
    let result = p.result ∙ sym q.result in
    let body = one_block g.body h.body e in
    λ i. record { name = name i; params = params i; registers = registers i; body = body i; result = result i }

pub changed_is_one : ChangedIsOne
changed_is_one one other f g h agree p q =
    one_function f g h p.heads q.heads (p.body ∙ one_tree one other 0 (tree_of f.body) (all_leaves (λ site leaf. one site leaf ≡ other site leaf) (tree_of f.body) agree) ∙ sym q.body)

-- a test that each changed statement passes, where the one before does
module _ (test : Head → Bool) (changed : ℕ → Leaf → Leaf) where
  abbrev Keeps : ℕ → Leaf → Type 0
  Keeps site leaf = test (head_of_leaf leaf) ≡ true → test (head_of_leaf (changed site leaf)) ≡ true

  two_parts : (xs ys : List Head) → list_all test (xs ++ ys) ≡ true → (list_all test xs ≡ true) × (list_all test ys ≡ true)
  two_parts xs ys e = and_parts (list_all test xs) (list_all test ys) (sym (list_all-append test xs ys) ∙ e)

  two_from : (xs ys : List Head) → list_all test xs ≡ true → list_all test ys ≡ true → list_all test (xs ++ ys) ≡ true
  two_from xs ys e f = list_all-append test xs ys ∙ and_from (list_all test xs) (list_all test ys) e f

  pub all_still : (n : ℕ) (t : Tree) → AllLeaves Keeps n t → list_all test (heads_in t) ≡ true → list_all test (heads_in (changed_tree changed n t)) ≡ true
  all_still n Empty k e = refl
  all_still n (Then leaf rest) k e =
      let p = and_parts (test (head_of_leaf leaf)) (list_all test (heads_in rest)) e in
      and_from (test (head_of_leaf (changed n leaf))) (list_all test (heads_in (changed_tree changed (n + 1) rest))) (k.0 p.0) (all_still (n + 1) rest k.1 p.1)
  all_still n (IfThen a y m rest) k e =
      let p = and_parts (test (If a tt tt)) (list_all test (heads_in y ++ (heads_in m ++ heads_in rest))) e in
      let q = two_parts (heads_in y) (heads_in m ++ heads_in rest) p.1 in
      let r = two_parts (heads_in m) (heads_in rest) q.1 in
      let one = heads_in (changed_tree changed (n + 1) y) in
      let other = heads_in (changed_tree changed (n + 1 + sites_of y) m) in
      let more = heads_in (changed_tree changed (n + 1 + sites_of y + sites_of m) rest) in
      and_from (test (If a tt tt)) (list_all test (one ++ (other ++ more))) p.0
      (two_from one (other ++ more) (all_still (n + 1) y k.0 q.0)
      (two_from other more (all_still (n + 1 + sites_of y) m k.1 r.0) (all_still (n + 1 + sites_of y + sites_of m) rest k.2 r.1)))
  all_still n (WhileThen a body rest) k e =
      let p = and_parts (test (While a tt)) (list_all test (heads_in body ++ heads_in rest)) e in
      let q = two_parts (heads_in body) (heads_in rest) p.1 in
      let turn = heads_in (changed_tree changed (n + 1) body) in
      let more = heads_in (changed_tree changed (n + 1 + sites_of body) rest) in
      and_from (test (While a tt)) (list_all test (turn ++ more)) p.0
      (two_from turn more (all_still (n + 1) body k.0 q.0) (all_still (n + 1 + sites_of body) rest k.1 q.1))

-- A body that fits as another one does: as many statements at most 4096, as deep, and each fits.
pub body_still_fits : (d : Declared) (f g : Function) → g.registers ≡ f.registers → g.result ≡ f.result →
    site_count g.body.statements ≡ site_count f.body.statements → depth_of_all g.body.statements ≡ depth_of_all f.body.statements →
    (list_all (head_fits (length f.registers) d.na d.atomic d.params) (heads_of_all f.body.statements) ≡ true → list_all (head_fits (length f.registers) d.na d.atomic d.params) (heads_of_all g.body.statements) ≡ true) →
    body_fits d f ≡ true → body_fits d g ≡ true
body_still_fits d f g regs res sites depth heads e =
    let n = length f.registers in
    let m = length g.registers in
    let same = ap length regs in
    let test = λ (k : ℕ). list_all (head_fits k d.na d.atomic d.params) in
    let hf = heads_of_all f.body.statements in
    let hg = heads_of_all g.body.statements in
    let few = nat_le (site_count f.body.statements) 4096 in
    let shallow = nat_le (depth_of_all f.body.statements) 32 in
    let a = and_parts few (shallow && (test n hf && atom_exists n f.result)) e in
    let b = and_parts shallow (test n hf && atom_exists n f.result) a.1 in
    let c = and_parts (test n hf) (atom_exists n f.result) b.1 in
    and_from (nat_le (site_count g.body.statements) 4096) (nat_le (depth_of_all g.body.statements) 32 && (test m hg && atom_exists m g.result)) (ap (λ (k : ℕ). nat_le k 4096) sites ∙ a.0)
    (and_from (nat_le (depth_of_all g.body.statements) 32) (test m hg && atom_exists m g.result) (ap (λ (k : ℕ). nat_le k 32) depth ∙ b.0)
    (and_from (test m hg) (atom_exists m g.result) (ap (λ (k : ℕ). test k hg) same ∙ heads c.0) ((λ i. atom_exists (same i) (res i)) ∙ c.1)))

pub changed_fits : ChangedFits
changed_fits changed d f g keeps w is =
    let n = length f.registers in
    let test = head_fits n d.na d.atomic d.params in
    let t = tree_of f.body in
    let e = well_formed-function_fits d f w in
    let rest = registers_fit d.names f.registers && body_fits d f in
    let a = and_parts (nat_le f.params 8) (nat_le f.params n && rest) e in
    let b = and_parts (nat_le f.params n) rest a.1 in
    let c = and_parts (registers_fit d.names f.registers) (body_fits d f) b.1 in
    let sites = sym (sites_agree g.body) ∙ ap sites_of is.body ∙ sites_stay changed 0 t ∙ sites_agree f.body in
    let depth = sym (depths_agree g.body) ∙ ap depth_in is.body ∙ depth_stays changed 0 t ∙ depths_agree f.body in
    let body = body_still_fits d f g is.heads.registers is.heads.result sites depth
    (λ h. ap (list_all test) (sym (heads_agree g.body) ∙ ap heads_in is.body) ∙ all_still test changed 0 t (all_leaves (Keeps test changed) t keeps) (ap (list_all test) (heads_agree f.body) ∙ h))
    c.1 in
    function_fits-is_well_formed d g
    (and_from (nat_le g.params 8) (nat_le g.params (length g.registers) && (registers_fit d.names g.registers && body_fits d g)) (ap (λ (k : ℕ). nat_le k 8) is.heads.params ∙ a.0)
    (and_from (nat_le g.params (length g.registers)) (registers_fit d.names g.registers && body_fits d g) ((λ i. nat_le (is.heads.params i) (length (is.heads.registers i))) ∙ b.0)
    (and_from (registers_fit d.names g.registers) (body_fits d g) (ap (registers_fit d.names) is.heads.registers ∙ c.0) body)))

-- as many statements
pub changed_count : (changed : ℕ → Leaf → Leaf) (f g : Function) → IsChanged changed f g → site_count g.body.statements ≡ site_count f.body.statements
changed_count changed f g is = sym (sites_agree g.body) ∙ ap sites_of is.body ∙ sites_stay changed 0 (tree_of f.body) ∙ sites_agree f.body
