-- Code side by side: what comes next in it, and that it stays so.
use Rattle.std.proofs.Common.{◌≡◌, ℕ, ◌+◌, Bool, true, false, Some, None, refl, subst, arith}
use Rattle.il_paths.specs.Tree.{Tree, Empty, Then, IfThen, WhileThen, sites_of}
use Rattle.il_paths.specs.Code.{Visit, Code, End, Plain, Branch, Loop, placed, join, first, first_head, go}
use Rattle.tidy.specs.Accepts.{SameBlocks}
use Rattle.tidy.specs.SameSites.{SameSites, both_end, plain, branch, loop}

pub beside_join : {a b : Code} (c d : Code) → SameSites a b → SameSites c d → SameSites (join a c) (join b d)
beside_join c d both_end k = k
beside_join c d (plain s rest) k = plain s (beside_join c d rest k)
beside_join c d (branch s one other rest) k = branch s one other (beside_join c d rest k)
beside_join c d (loop s body rest) k = loop s body (beside_join c d rest k)

-- what comes next in both
pub data AtHead (a b : Code) : Type 0 where
  at_end : first a ≡ None → first b ≡ None → AtHead a b
  at_visits : (u v : Visit) → first a ≡ Some u → first b ≡ Some v → v.site ≡ u.site → ((d : Bool) → SameSites (go a d) (go b d)) → AtHead a b

pub at_head : {a b : Code} → SameSites a b → AtHead a b
at_head both_end = at_end refl refl
at_head (plain {u = u} {v = v} s rest) = at_visits u v refl refl s (λ d. rest)
at_head (branch {u = u} {v = v} {y = y} {n = n} {a = a} {y' = y'} {n' = n'} {b = b} s one other rest) = at_visits u v refl refl s choose
  where
    choose : (d : Bool) → SameSites (go (Branch u y n a) d) (go (Branch v y' n' b) d)
    choose true = beside_join a b one rest
    choose false = beside_join a b other rest
at_head (loop {u = u} {v = v} {c = c} {a = a} {c' = c'} {b = b} s body rest) = at_visits u v refl refl s choose
  where
    choose : (d : Bool) → SameSites (go (Loop u c a) d) (go (Loop v c' b) d)
    choose true = beside_join (Loop u c a) (Loop v c' b) body (loop s body rest)
    choose false = rest

pub same_sites : (t u : Tree) → SameBlocks t u → sites_of u ≡ sites_of t
same_sites Empty Empty h = refl
same_sites (Then one rest) (Then other more) h = omega (arith, same_sites rest more h)
same_sites (IfThen a y n rest) (IfThen b y' n' more) h = omega (arith, same_sites y y' h.0, same_sites n n' h.1, same_sites rest more h.2)
same_sites (WhileThen a c rest) (WhileThen b c' more) h = omega (arith, same_sites c c' h.0, same_sites rest more h.1)
same_sites Empty (Then other more) h = absurd h
same_sites Empty (IfThen b y' n' more) h = absurd h
same_sites Empty (WhileThen b c' more) h = absurd h
same_sites (Then one rest) Empty h = absurd h
same_sites (Then one rest) (IfThen b y' n' more) h = absurd h
same_sites (Then one rest) (WhileThen b c' more) h = absurd h
same_sites (IfThen a y n rest) Empty h = absurd h
same_sites (IfThen a y n rest) (Then other more) h = absurd h
same_sites (IfThen a y n rest) (WhileThen b c' more) h = absurd h
same_sites (WhileThen a c rest) Empty h = absurd h
same_sites (WhileThen a c rest) (Then other more) h = absurd h
same_sites (WhileThen a c rest) (IfThen b y' n' more) h = absurd h

pub placed_beside : (n : ℕ) (t u : Tree) → SameBlocks t u → SameSites (placed n t) (placed n u)
placed_beside n Empty Empty h = both_end
placed_beside n (Then one rest) (Then other more) h = plain refl (placed_beside (n + 1) rest more h)
placed_beside n (IfThen a y m rest) (IfThen b y' m' more) h =
    branch refl (placed_beside (n + 1) y y' h.0)
    (subst (λ (i : ℕ). SameSites (placed (n + 1 + sites_of y) m) (placed i m')) (omega (arith, same_sites y y' h.0)) (placed_beside (n + 1 + sites_of y) m m' h.1))
    (subst (λ (i : ℕ). SameSites (placed (n + 1 + sites_of y + sites_of m) rest) (placed i more)) (omega (arith, same_sites y y' h.0, same_sites m m' h.1)) (placed_beside (n + 1 + sites_of y + sites_of m) rest more h.2))
placed_beside n (WhileThen a c rest) (WhileThen b c' more) h =
    loop refl (placed_beside (n + 1) c c' h.0)
    (subst (λ (i : ℕ). SameSites (placed (n + 1 + sites_of c) rest) (placed i more)) (omega (arith, same_sites c c' h.0)) (placed_beside (n + 1 + sites_of c) rest more h.1))
placed_beside n Empty (Then other more) h = absurd h
placed_beside n Empty (IfThen b y' n' more) h = absurd h
placed_beside n Empty (WhileThen b c' more) h = absurd h
placed_beside n (Then one rest) Empty h = absurd h
placed_beside n (Then one rest) (IfThen b y' n' more) h = absurd h
placed_beside n (Then one rest) (WhileThen b c' more) h = absurd h
placed_beside n (IfThen a y m rest) Empty h = absurd h
placed_beside n (IfThen a y m rest) (Then other more) h = absurd h
placed_beside n (IfThen a y m rest) (WhileThen b c' more) h = absurd h
placed_beside n (WhileThen a c rest) Empty h = absurd h
placed_beside n (WhileThen a c rest) (Then other more) h = absurd h
placed_beside n (WhileThen a c rest) (IfThen b y' n' more) h = absurd h

-- the head of what comes next
pub head_next : (c : Code) (v : Visit) → first c ≡ Some v → first_head c ≡ Some v.head
head_next End v e = cc
head_next (Plain w rest) v e = let same : w ≡ v = cc in subst (λ (u : Visit). Some w.head ≡ Some u.head) same refl
head_next (Branch w one other rest) v e = let same : w ≡ v = cc in subst (λ (u : Visit). Some w.head ≡ Some u.head) same refl
head_next (Loop w body rest) v e = let same : w ≡ v = cc in subst (λ (u : Visit). Some w.head ≡ Some u.head) same refl

pub no_head : (c : Code) → first c ≡ None → first_head c ≡ None
no_head End e = refl
no_head (Plain w rest) e = cc
no_head (Branch w one other rest) e = cc
no_head (Loop w body rest) e = cc

pub ends_code : (c : Code) → first c ≡ None → c ≡ End
ends_code End e = refl
ends_code (Plain w rest) e = cc
ends_code (Branch w one other rest) e = cc
ends_code (Loop w body rest) e = cc
