-- Source, target and merged code side by side, as code still to do. The merged code is the source with the
-- inserted loads put in; it has the target's sites.
use Rattle.std.specs.Prelude.{◌≡◌, ◌≤◌, ℕ}
use Rattle.il_syntax.specs.declared.statement.Atom.{Atom}
use Rattle.il_syntax.specs.declared.statement.Stmt.TheOpen.{Skip, Copy, Load, Store, While}
use Rattle.il_syntax.specs.Statements.{Head}
use Rattle.il_paths.specs.Code.{Visit, Code, End, Plain, Branch, Loop}
use Rattle.validator.specs.Roles.{Role, Same, Turned, Removed, Inserted}

-- the next statement is a `while`
abbrev pub StartsLoop : Code → Type 0
StartsLoop End = ⊥
StartsLoop (Plain v rest) = ⊥
StartsLoop (Branch v yes_block no_block rest) = ⊥
StartsLoop (Loop v body rest) = (a : Atom) × (v.head ≡ While a tt)

abbrev pub visit : ℕ → Head → Visit
visit site head = record { site = site; head = head }

-- Source, target, merged code. Registers from `old` on are the target's own.
pub data Beside (old : ℕ) (role : ℕ → Role) : Code → Code → Code → Type 0 where
  both_end : Beside old role End End End
  same : {u v w : Visit} {a b c : Code} → role v.site ≡ Same → u.head ≡ v.head → w ≡ v → Beside old role a b c → Beside old role (Plain u a) (Plain v b) (Plain w c)
  turned : {u v w : Visit} {a b c : Code} (r x : ℕ) (e : Atom) → role v.site ≡ Turned x e → u.head ≡ Load r x → v.head ≡ Copy r e → w ≡ visit v.site (Load r x) → Beside old role a b c → Beside old role (Plain u a) (Plain v b) (Plain w c)
  removed : {u v w : Visit} {a b c : Code} (x : ℕ) (e : Atom) → role v.site ≡ Removed x e → u.head ≡ Store x e → v.head ≡ Skip → w ≡ visit v.site (Store x e) → Beside old role a b c → Beside old role (Plain u a) (Plain v b) (Plain w c)
  inserted : {v w : Visit} {a b c : Code} (h x : ℕ) → role v.site ≡ Inserted → v.head ≡ Load h x → old ≤ h → w ≡ v → StartsLoop a → Beside old role a b c → Beside old role a (Plain v b) (Plain w c)
  branch : {u v w : Visit} {y n a y' n' b y'' n'' c : Code} → role v.site ≡ Same → u.head ≡ v.head → w ≡ v → Beside old role y y' y'' → Beside old role n n' n'' → Beside old role a b c → Beside old role (Branch u y n a) (Branch v y' n' b) (Branch w y'' n'' c)
  loop : {u v w : Visit} {d a d' b d'' c : Code} → role v.site ≡ Same → u.head ≡ v.head → w ≡ v → Beside old role d d' d'' → Beside old role a b c → Beside old role (Loop u d a) (Loop v d' b) (Loop w d'' c)
