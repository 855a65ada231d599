-- Code side by side: what comes next in it, and that it stays so.
use Rattle.std.proofs.Common.{◌≡◌, ℕ, ◌≤◌, Bool, true, false, List, [], ◌∷◌, Option, Some, None, refl, sym, ap, ◌∙◌, subst}
use Rattle.il_syntax.specs.declared.statement.Atom.{Atom}
use Rattle.il_syntax.specs.declared.statement.Stmt.TheOpen.{Skip, Copy, Load, Store}
use Rattle.il_syntax.specs.Statements.{Head}
use Rattle.il_paths.specs.Code.{Visit, Code, End, Plain, Branch, Loop, join, first, first_head, go, AllCode}
use Rattle.validator.specs.declared.role.Role.{Role}
use Rattle.validator.specs.declared.role.Role.TheVariants.{Same, Turned, Removed, Inserted}
use Rattle.validator.specs.Beside.{StartsLoop, Beside, both_end, same, turned, removed, inserted, branch, loop}

starts_join : (a b : Code) → StartsLoop a → StartsLoop (join a b)
starts_join End b h = absurd h
starts_join (Plain v rest) b h = absurd h
starts_join (Branch v y n rest) b h = absurd h
starts_join (Loop v body rest) b h = h

pub beside_join : {old : ℕ} {role : ℕ → Role} {a b c : Code} (a' b' c' : Code) → Beside old role a b c → Beside old role a' b' c' → Beside old role (join a a') (join b b') (join c c')
beside_join a' b' c' both_end k = k
beside_join a' b' c' (same r h w rest) k = same r h w (beside_join a' b' c' rest k)
beside_join a' b' c' (turned x y e r h i w rest) k = turned x y e r h i w (beside_join a' b' c' rest k)
beside_join a' b' c' (removed x e r h i w rest) k = removed x e r h i w (beside_join a' b' c' rest k)
beside_join a' b' c' (inserted {a = a} h x r i l w starts rest) k = inserted h x r i l w (starts_join a a' starts) (beside_join a' b' c' rest k)
beside_join a' b' c' (branch r h w one other rest) k = branch r h w one other (beside_join a' b' c' rest k)
beside_join a' b' c' (loop r h w body rest) k = loop r h w body (beside_join a' b' c' rest k)

-- what comes next: in the source's code a, the target's b and the merged c
pub data AtHead (old : ℕ) (role : ℕ → Role) (a b c : Code) : Type 0 where
  at_end : first_head a ≡ None → first_head b ≡ None → c ≡ End → AtHead old role a b c
  at_same : (h : Head) (w : Visit) → first_head a ≡ Some h → first_head b ≡ Some h → first c ≡ Some w → w.head ≡ h → role w.site ≡ Same → ((holds : Bool) → Beside old role (go a holds) (go b holds) (go c holds)) → AtHead old role a b c
  at_turned : (r x : ℕ) (e : Atom) (w : Visit) → first_head a ≡ Some (Load r x) → first_head b ≡ Some (Copy r e) → first c ≡ Some w → w.head ≡ Load r x → role w.site ≡ Turned x e → Beside old role (go a true) (go b true) (go c true) → AtHead old role a b c
  at_removed : (x : ℕ) (e : Atom) (w : Visit) → first_head a ≡ Some (Store x e) → first_head b ≡ Some Skip → first c ≡ Some w → w.head ≡ Store x e → role w.site ≡ Removed x e → Beside old role (go a true) (go b true) (go c true) → AtHead old role a b c
  at_inserted : (h x : ℕ) (w : Visit) → StartsLoop a → first_head b ≡ Some (Load h x) → first c ≡ Some w → w.head ≡ Load h x → role w.site ≡ Inserted → old ≤ h → Beside old role a (go b true) (go c true) → AtHead old role a b c

pub at_head : {old : ℕ} {role : ℕ → Role} {a b c : Code} → Beside old role a b c → AtHead old role a b c
at_head both_end = at_end refl refl refl
at_head {role = role} (same {u = u} {v = v} {w = w} r h e rest) =
    at_same v.head w (ap Some h) refl refl (ap (λ (x : Visit). x.head) e) (ap (λ (x : Visit). role x.site) e ∙ r) (λ d. rest)
at_head {role = role} (turned {u = u} {v = v} {w = w} x y e r h i k rest) =
    at_turned x y e w (ap Some h) (ap Some i) refl (ap (λ (x : Visit). x.head) k) (ap (λ (x : Visit). role x.site) k ∙ r) rest
at_head {role = role} (removed {u = u} {v = v} {w = w} x e r h i k rest) =
    at_removed x e w (ap Some h) (ap Some i) refl (ap (λ (x : Visit). x.head) k) (ap (λ (x : Visit). role x.site) k ∙ r) rest
at_head {role = role} (inserted {v = v} {w = w} h x r i l e starts rest) =
    at_inserted h x w starts (ap Some i) refl (ap (λ (x : Visit). x.head) e ∙ i) (ap (λ (x : Visit). role x.site) e ∙ r) l rest
at_head {old = old} {role = role} (branch {u = u} {v = v} {w = w} {y = y} {n = n} {a = a} {y' = y'} {n' = n'} {b = b} {y'' = y''} {n'' = n''} {c = c} r h e one other rest) =
    at_same v.head w (ap Some h) refl refl (ap (λ (x : Visit). x.head) e) (ap (λ (x : Visit). role x.site) e ∙ r) choose
  where
    choose : (d : Bool) → Beside old role (go (Branch u y n a) d) (go (Branch v y' n' b) d) (go (Branch w y'' n'' c) d)
    choose true = beside_join a b c one rest
    choose false = beside_join a b c other rest
at_head {old = old} {role = role} (loop {u = u} {v = v} {w = w} {d = x} {a = a} {d' = y} {b = b} {d'' = z} {c = c} r h e body rest) =
    at_same v.head w (ap Some h) refl refl (ap (λ (x : Visit). x.head) e) (ap (λ (x : Visit). role x.site) e ∙ r) choose
  where
    choose : (d : Bool) → Beside old role (go (Loop u x a) d) (go (Loop v y b) d) (go (Loop w z c) d)
    choose true = beside_join (Loop u x a) (Loop v y b) (Loop w z c) body (loop r h e body rest)
    choose false = rest
