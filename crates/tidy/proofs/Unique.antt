-- Along a path a register is known to hold at most one atom.
use Rattle.std.proofs.Common.{◌≡◌, ◌≤◌, ◌<◌, ℕ, pos, Bool, true, false, not, ◌&&◌, eqb, nat_le, nat_lt, List, [], ◌∷◌, length, sym, ap, ◌∙◌, ⊎_elim, arith}
use Rattle.std.specs.Ordering.{int_eq}
use Rattle.std.proofs.lemmas.Bool.{false≢true, and_parts, or_cases, or_left}
use Rattle.std.proofs.lemmas.Bool.Decides.{Decides-int_eq}
use Rattle.il_syntax.specs.declared.statement.Atom.{Atom}
use Rattle.il_syntax.specs.declared.statement.Atom.TheVariants.{Const, Reg}
use Rattle.il_syntax.specs.declared.statement.Stmt.TheOpen.{Skip, Copy, Compute, Load, Store, AtomicLoad, AtomicStore, Update, Fence, Print, If, While, Call}
use Rattle.il_syntax.specs.declared.program.Function.{Function}
use Rattle.il_syntax.specs.Statements.{Head}
use Rattle.il_paths.specs.Atoms.{atoms_equal}
use Rattle.il_paths.specs.Heads.{gives}
use Rattle.il_paths.specs.Tree.{tree_of, sites_of}
use Rattle.il_paths.specs.Code.{Visit}
use Rattle.il_paths.specs.Meets.{fold_forward}
use Rattle.il_paths.proofs.Callers.{atoms_equal-true}
use Rattle.path_meets.specs.Chain.{must_rank}
use Rattle.path_meets.proofs.Callers.{before_exist}
use Rattle.tidy.specs.Known.{makes, touches, known_change, known_step, known_at_entry, IsKnown}

made_one : (r : ℕ) (a b : Atom) (h : Head) → makes r a h ≡ true → makes r b h ≡ true → a ≡ b
made_one r a b (Copy k c) e f =
    let p = and_parts (eqb k r) (atoms_equal a c && not (atoms_equal a (Reg r))) e in
    let q = and_parts (eqb k r) (atoms_equal b c && not (atoms_equal b (Reg r))) f in
    atoms_equal-true a c (and_parts (atoms_equal a c) (not (atoms_equal a (Reg r))) p.1).0 ∙ sym (atoms_equal-true b c (and_parts (atoms_equal b c) (not (atoms_equal b (Reg r))) q.1).0)
made_one r a b Skip e f = absurd (false≢true e)
made_one r a b (Compute k op c d) e f = absurd (false≢true e)
made_one r a b (Load k x) e f = absurd (false≢true e)
made_one r a b (Store x c) e f = absurd (false≢true e)
made_one r a b (AtomicLoad k order y) e f = absurd (false≢true e)
made_one r a b (AtomicStore order y c) e f = absurd (false≢true e)
made_one r a b (Update k order y kind) e f = absurd (false≢true e)
made_one r a b (Fence order) e f = absurd (false≢true e)
made_one r a b (Print c) e f = absurd (false≢true e)
made_one r a b (If c _ _) e f = absurd (false≢true e)
made_one r a b (While c _) e f = absurd (false≢true e)
made_one r a b (Call k g args) e f = absurd (false≢true e)

made_touches : (r : ℕ) (a b : Atom) (h : Head) → makes r a h ≡ true → touches r b (gives h) ≡ true
made_touches r a b (Copy k c) e = or_left (eqb k r) (atoms_equal b (Reg k)) (and_parts (eqb k r) (atoms_equal a c && not (atoms_equal a (Reg r))) e).0
made_touches r a b Skip e = absurd (false≢true e)
made_touches r a b (Compute k op c d) e = absurd (false≢true e)
made_touches r a b (Load k x) e = absurd (false≢true e)
made_touches r a b (Store x c) e = absurd (false≢true e)
made_touches r a b (AtomicLoad k order y) e = absurd (false≢true e)
made_touches r a b (AtomicStore order y c) e = absurd (false≢true e)
made_touches r a b (Update k order y kind) e = absurd (false≢true e)
made_touches r a b (Fence order) e = absurd (false≢true e)
made_touches r a b (Print c) e = absurd (false≢true e)
made_touches r a b (If c _ _) e = absurd (false≢true e)
made_touches r a b (While c _) e = absurd (false≢true e)
made_touches r a b (Call k g args) e = absurd (false≢true e)

untouched : (b c : Bool) → b ≡ true → (not b && c) ≡ true → ⊥
untouched true c e f = false≢true f
untouched false c e f = false≢true e

after_one : (r : ℕ) (a b : Atom) (h : Head) (x y : Bool) → (x ≡ true → y ≡ true → a ≡ b) → known_change r a h x ≡ true → known_change r b h y ≡ true → a ≡ b
after_one r a b h x y one e f =
    ⊎_elim
    (λ (k : makes r a h ≡ true).
    ⊎_elim (λ (l : makes r b h ≡ true). made_one r a b h k l) (λ (l : (not (touches r b (gives h)) && y) ≡ true). absurd (untouched (touches r b (gives h)) y (made_touches r a b h k) l))
    (or_cases (makes r b h) (not (touches r b (gives h)) && y) f))
    (λ (k : (not (touches r a (gives h)) && x) ≡ true).
    ⊎_elim (λ (l : makes r b h ≡ true). absurd (untouched (touches r a (gives h)) x (made_touches r b a h l) k))
    (λ (l : (not (touches r b (gives h)) && y) ≡ true). one (and_parts (not (touches r a (gives h))) x k).1 (and_parts (not (touches r b (gives h))) y l).1)
    (or_cases (makes r b h) (not (touches r b (gives h)) && y) f))
    (or_cases (makes r a h) (not (touches r a (gives h)) && x) e)

path_one : (r : ℕ) (a b : Atom) (p : List Visit) (x y : Bool) → (x ≡ true → y ≡ true → a ≡ b) → fold_forward (known_step r a) p x ≡ true → fold_forward (known_step r b) p y ≡ true → a ≡ b
path_one r a b [] x y one e f = one e f
path_one r a b (v ∷ p) x y one e f = path_one r a b p (known_step r a v x) (known_step r b v y) (λ k l. after_one r a b v.head x y one k l) e f

entry_one : (f : Function) (r : ℕ) (a b : Atom) → known_at_entry f r a ≡ true → known_at_entry f r b ≡ true → a ≡ b
entry_one f r (Const m) (Const n) e k =
    let p = and_parts (nat_le f.params r) (nat_lt r (length f.registers) && int_eq m (pos 0)) e in
    let q = and_parts (nat_le f.params r) (nat_lt r (length f.registers) && int_eq n (pos 0)) k in
    let i = (Decides-int_eq m (pos 0)).0 (and_parts (nat_lt r (length f.registers)) (int_eq m (pos 0)) p.1).1 in
    let j = (Decides-int_eq n (pos 0)).0 (and_parts (nat_lt r (length f.registers)) (int_eq n (pos 0)) q.1).1 in
    ap Const (i ∙ sym j)
entry_one f r (Const m) (Reg s) e k = absurd (false≢true k)
entry_one f r (Reg s) b e k = absurd (false≢true e)

-- before a site there is some path, so at most one atom is known
pub known_one : (f : Function) (site r : ℕ) (a b : Atom) → site < sites_of (tree_of f.body) → IsKnown f site r a → IsKnown f site r b → a ≡ b
known_one f site r a b l k j =
    let some = before_exist Bool must_rank 1 (λ v b. b) (λ v a b h. h) bounded (tree_of f.body) true site l in
    let path = some.1.reached in
    path_one r a b path.0 (known_at_entry f r a) (known_at_entry f r b) (entry_one f r a b) (k path.0 path.1) (j path.0 path.1)
  where
    bounded : (a : Bool) → must_rank a ≤ 1
    bounded true = omega arith
    bounded false = omega arith
