-- The walk for pending locations finds what paths say.
use Rattle.std.proofs.Common.{◌≡◌, ◌≤◌, ℕ, zero, suc, Bool, true, false, List, [], ◌∷◌, get_or, refl, sym, ap, ◌∙◌, subst, arith}
use Rattle.std.specs.Prelude.{◌==◌, ◌||◌, if◌then◌else◌}
use Rattle.il_syntax.specs.declared.statement.Stmt.TheOpen.{Skip, Copy, Compute, Load, Store, AtomicLoad, AtomicStore, Update, Fence, Print, If, While, Call}
use Rattle.il_syntax.specs.declared.statement.Atom.{Atom}
use Rattle.il_syntax.specs.declared.statement.Stmt.{Stmt, map-Stmt}
use Rattle.il_syntax.specs.declared.statement.Stmt as made
use Rattle.il_syntax.specs.declared.statement.Stmt.TheViews.{outs-If, outs-While}
use Rattle.il_syntax.specs.declared.statement.Block.{Block}
use Rattle.il_syntax.specs.Statements.{Head, head_of}
use Rattle.il_paths.specs.Tree.{Tree}
use Rattle.il_paths.specs.Code.{Visit, placed}
use Rattle.il_paths.specs.Meets.{IsMeetBefore, IsMeetThrough}
use Rattle.path_meets.specs.Chain.{may_rank}
use Rattle.path_meets.specs.Walks.{meet}
use Rattle.path_meets.proofs.Callers.{table_least, exit_is_least, some_path_before, some_path_through}
use Rattle.location_sets.specs.Sets.{has, column}
use Rattle.validator.specs.Roles.{Role, Same, Turned, Removed, Inserted, pending_after_head, pending_after_role, pending_step}
use Rattle.validator.specs.declared.pending.Pending.{Pending}
use Rattle.validator.specs.Pending.{pending_after, pending_within, set_at, ArePending}

pub may_bounded : (a : Bool) → may_rank a ≤ 1
may_bounded true = omega arith
may_bounded false = omega arith

settled_monotone : (here a b : Bool) → may_rank a ≤ may_rank b → may_rank (if here then false else a) ≤ may_rank (if here then false else b)
settled_monotone true a b h = omega arith
settled_monotone false a b h = h

made_monotone : (here a b : Bool) → may_rank a ≤ may_rank b → may_rank (if here then true else a) ≤ may_rank (if here then true else b)
made_monotone true a b h = omega arith
made_monotone false a b h = h

by_head : (x : ℕ) (head : Head) (a b : Bool) → may_rank a ≤ may_rank b → may_rank (pending_after_head x head a) ≤ may_rank (pending_after_head x head b)
by_head x Skip a b h = h
by_head x (Copy r e) a b h = h
by_head x (Compute r op e f) a b h = h
by_head x (Load r y) a b h = h
by_head x (Store y e) a b h = settled_monotone (y == x) a b h
by_head x (AtomicLoad r order y) a b h = h
by_head x (AtomicStore order y e) a b h = h
by_head x (Update r order y kind) a b h = h
by_head x (Fence order) a b h = h
by_head x (Print e) a b h = h
by_head x (If e _ _) a b h = h
by_head x (While e _) a b h = h
by_head x (Call r function args) a b h = h

by_role : (x : ℕ) (role : Role) (head : Head) (a b : Bool) → may_rank a ≤ may_rank b → may_rank (pending_after_role x role head a) ≤ may_rank (pending_after_role x role head b)
by_role x Same head a b h = by_head x head a b h
by_role x (Turned y e) head a b h = h
by_role x (Removed y e) head a b h = made_monotone (y == x) a b h
by_role x Inserted head a b h = h

pub pending_monotone : (role : ℕ → Role) (x : ℕ) (v : Visit) (a b : Bool) → may_rank a ≤ may_rank b → may_rank (pending_step role x v a) ≤ may_rank (pending_step role x v b)
pending_monotone role x v a b h = by_role x (role v.site) v.head a b h

-- either of two sets has what the lower of two answers says
pub or_meet : (a b : Bool) → (a || b) ≡ meet Bool may_rank a b
or_meet true true = refl
or_meet true false = refl
or_meet false true = refl
or_meet false false = refl

-- the heads of an `if` and a `while`
pub head_of-if : (s : Stmt) (a : Atom) (one other : Block) → s ≡ made.If a one other → head_of s ≡ If a tt tt
head_of-if s a one other e = ap head_of e ∙ ap (map-Stmt Stmt Block (Unit {0}) (Unit {0}) (λ _. tt) (λ _. tt)) (outs-If a one other)

pub head_of-while : (s : Stmt) (a : Atom) (body : Block) → s ≡ made.While a body → head_of s ≡ While a tt
head_of-while s a body e = ap head_of e ∙ ap (map-Stmt Stmt Block (Unit {0}) (Unit {0}) (λ _. tt) (λ _. tt)) (outs-While a body)

column_at : (x : ℕ) (sets : List (List ℕ)) (site : ℕ) → get_or (column x sets) site false ≡ has x (set_at sets site)
column_at x [] site = refl
column_at x (set ∷ sets) zero = refl
column_at x (set ∷ sets) (suc site) = column_at x sets site

pub are_pending : (merged : Tree) (role : ℕ → Role) (pending : Pending) → ((x : ℕ) → column x pending.before ≡ pending_within role x (placed 0 merged) false) → ((x : ℕ) → has x pending.end ≡ pending_after role x (placed 0 merged) false) → ArePending merged role pending
are_pending merged role pending rows after = record {
  before = λ site x h.
      let c = placed 0 merged in
      let step = pending_step role x in
      let least = table_least Bool may_rank 1 step (pending_monotone role x) may_bounded merged false false site h in
      let e = ap (λ (l : List Bool). get_or l site false) (sym (rows x)) ∙ column_at x pending.before site in
      some_path_before step false c site (has x (set_at pending.before site)) (subst (IsMeetBefore may_rank step false c site) e least);
  end = λ x.
      let c = placed 0 merged in
      let step = pending_step role x in
      some_path_through step false c (has x pending.end) (subst (IsMeetThrough may_rank step false c) (sym (after x)) (exit_is_least Bool may_rank 1 step (pending_monotone role x) may_bounded c false));
}
