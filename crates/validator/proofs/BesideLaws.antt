-- A target that was walked to its end stands beside its source.
use Rattle.std.proofs.Common.{◌≡◌, ℕ, ◌+◌, ◌<◌, ◌≤◌, Bool, true, false, cond, leb, ltb, ◌&&◌, List, [], ◌∷◌, ◌++◌, length, Option, Some, None, refl, sym, ap, ◌∙◌, subst, arith, length-append, append_assoc, append-nil}
use Rattle.std.specs.Prelude.{not}
use Rattle.std.proofs.Math.Seq.{get_or-append_seam}
use Rattle.std.proofs.lemmas.Bool.{false≢true, leb-true, ltb-true, and_parts}
use Rattle.il_syntax.specs.declared.statement.Atom.{Atom}
use Rattle.il_syntax.specs.declared.statement.Stmt.TheOpen.{Skip, Copy, Compute, Load, Store, AtomicLoad, AtomicStore, Update, Fence, Print, If, While, Call}
use Rattle.il_syntax.specs.Statements.{Head}
use Rattle.il_paths.specs.Tree.{Leaf, head_of_leaf, Tree, Empty, Then, IfThen, WhileThen, sites_of}
use Rattle.il_paths.specs.Code.{Visit, placed}
use Rattle.il_paths.specs.Atoms.{atoms_equal}
use Rattle.il_paths.proofs.Callers.{atoms_equal-true}
use Rattle.validator.specs.Roles.{Role, Same, Turned, Removed, Inserted}
use Rattle.validator.specs.declared.walk.NewRegisters.{NewRegisters}
use Rattle.validator.specs.declared.walk.Part.{Part}
use Rattle.validator.specs.Walk.{is_inserted, before_loop, with_partner, inserted_part, part_at, role_at, role_of, Outcome, Apart, Together, and_then, with_role, plain_step, branch_step, loop_step, at_end, walk}
use Rattle.validator.specs.Merged.{restored_leaf, restored}
use Rattle.validator.specs.Beside.{StartsLoop, visit, Beside, both_end, same, turned, removed, inserted, branch, loop}
use Rattle.validator.proofs.HeadLaws.{Means, role_means}
use Rattle.validator.proofs.MergedLaws.{restored_head, head_restored, same_kept, load_kept, sites_of-restored}
use Rattle.validator.proofs.VisitLaws.{AllVisits}

-- each inserted load stands before a loop
abbrev pub NoneStray : List Part → Type 0
NoneStray parts = (site : ℕ) → (part_at parts site).stray ≡ true → ⊥

-- an inserted load's register is one of the target's
abbrev pub LoadsNew : ℕ → (ℕ → Role) → Visit → Type 0
LoadsNew end role v = role v.site ≡ Inserted → (h x : ℕ) → v.head ≡ Load h x → h < end

-- What a walk to the end says: there is a part more for each site, and with whatever parts come later
-- the target stands beside its source.
pub record Paired (new : NewRegisters) (done d : List Part) (source target : Tree) : Type 0 where
  pub more : List Part
  pub is : d ≡ done ++ more
  pub long : length d ≡ length done + sites_of target
  pub starts : before_loop new target ≡ true → (k : ℕ) → StartsLoop (placed k source)
  pub beside : (final later : List Part) → final ≡ d ++ later → NoneStray final → (k n : ℕ) → n ≡ length done → Beside new.first (role_at final) (placed k source) (placed n target) (placed n (restored final n target))
  pub loads : (final later : List Part) → final ≡ d ++ later → (n : ℕ) → n ≡ length done → AllVisits (LoadsNew new.end (role_at final)) (placed n (restored final n target))

abbrev pub PairedBy : NewRegisters → List Part → Tree → Tree → Outcome → Type 0
PairedBy new done source target (Apart site) = Unit {0}
PairedBy new done source target (Together d) = Paired new done d source target

paired_cond : (new : NewRegisters) (done : List Part) (source target : Tree) (one other : Outcome) (b : Bool) → (b ≡ true → PairedBy new done source target one) → (b ≡ false → PairedBy new done source target other) → PairedBy new done source target (cond b one other)
paired_cond new done source target one other true f g = f refl
paired_cond new done source target one other false f g = g refl

-- the part that was put there
put_part : (done more later final : List Part) (part : Part) (n : ℕ) → final ≡ ((done ++ part ∷ []) ++ more) ++ later → n ≡ length done → part_at final n ≡ part
put_part done more later final part n e h =
    let f : final ≡ done ++ (part ∷ (more ++ later)) = e ∙ simp append_assoc in
    rw (f, h) (get_or-append_seam done part (more ++ later) (with_partner Same))

-- the parts after one more
onward : (done more d : List Part) (part : Part) → d ≡ (done ++ part ∷ []) ++ more → d ≡ done ++ (part ∷ more)
onward done more d part e = e ∙ append_assoc done (part ∷ []) more

one_more : (done : List Part) (part : Part) → length (done ++ part ∷ []) ≡ length done + 1
one_more done part = length-append done (part ∷ [])

-- where none is stray a `while` follows
followed : (parts : List Part) (n : ℕ) (b : Bool) → NoneStray parts → (part_at parts n).stray ≡ not b → b ≡ true
followed parts n true f e = refl
followed parts n false f e = absurd (f n e)

-- a role that isn't that of an inserted load
is_insertion : Role → Bool
is_insertion Inserted = true
is_insertion _ = false

pub same_inserted : Same ≡ Inserted → ⊥
unfolding is_insertion
same_inserted e = false≢true (ap is_insertion e)

turned_inserted : (x : ℕ) (a : Atom) → Turned x a ≡ Inserted → ⊥
unfolding is_insertion
turned_inserted x a e = false≢true (ap is_insertion e)

pub removed_inserted : (x : ℕ) (a : Atom) → Removed x a ≡ Inserted → ⊥
unfolding is_insertion
removed_inserted x a e = false≢true (ap is_insertion e)

-- the register of an equation of loads
register : Head → ℕ
register (Load r x) = r
register _ = 0

pub load_register : (r x h y : ℕ) → ◌≡◌ {A = Head} (Load r x) (Load h y) → r ≡ h
unfolding register
load_register r x h y e = ap register e

module _ (new : NewRegisters) where
  -- an inserted load
  pub inserted_head : (h : Head) → is_inserted new h ≡ true → (r : ℕ) × (x : ℕ) × (h ≡ Load r x) × (new.first ≤ r) × (r < new.end)
  inserted_head (Load r x) e =
      let p = and_parts (leb new.first r) (ltb r new.end) e in
      (r, x, refl, leb-true new.first r p.0, ltb-true r new.end p.1)
  inserted_head Skip e = absurd (false≢true e)
  inserted_head (Copy r a) e = absurd (false≢true e)
  inserted_head (Compute r o a b) e = absurd (false≢true e)
  inserted_head (Store x a) e = absurd (false≢true e)
  inserted_head (AtomicLoad r o y) e = absurd (false≢true e)
  inserted_head (AtomicStore o y a) e = absurd (false≢true e)
  inserted_head (Update r o y k) e = absurd (false≢true e)
  inserted_head (Fence o) e = absurd (false≢true e)
  inserted_head (Print a) e = absurd (false≢true e)
  inserted_head (If a p q) e = absurd (false≢true e)
  inserted_head (While a p) e = absurd (false≢true e)
  inserted_head (Call r f args) e = absurd (false≢true e)

  paired_inserted : (leaf : Leaf) (source rest : Tree) (done : List Part) (o : Outcome) → is_inserted new (head_of_leaf leaf) ≡ true → PairedBy new (done ++ inserted_part (before_loop new rest) ∷ []) source rest o → PairedBy new done source (Then leaf rest) o
  paired_inserted leaf source rest done (Apart site) own p = tt
  paired_inserted leaf source rest done (Together d) own p =
      let part = inserted_part (before_loop new rest) in
      let f = inserted_head (head_of_leaf leaf) own in
      record {
        more = part ∷ p.more;
        is = onward done p.more d part p.is;
        long = omega (arith, p.long, one_more done part);
        starts = λ e k. p.starts (and_parts (is_inserted new (head_of_leaf leaf)) (before_loop new rest) e).1 k;
        beside = λ final later e none k n m.
            let put = put_part done p.more later final part n (e ∙ ap (λ (l : List Part). l ++ later) p.is) m in
            let follows = followed final n (before_loop new rest) none (ap (λ (q : Part). q.stray) put) in
            inserted f.0 f.1 (ap (λ (q : Part). q.role) put) f.2 f.3 (ap (visit n) (load_kept (role_at final n) leaf f.0 f.1 f.2)) (p.starts follows k) (p.beside final later e none k (n + 1) (omega (arith, m, one_more done part)));
        loads = λ final later e n m. (
          λ i h x g. let k = load_register f.0 f.1 h x (sym f.2 ∙ sym (load_kept (role_at final n) leaf f.0 f.1 f.2) ∙ g) in omega (arith, f.4),
          p.loads final later e (n + 1) (omega (arith, m, one_more done part)),
        );
      }

  paired_plain : (u h : Leaf) (source rest : Tree) (done : List Part) (role : Role) (o : Outcome) → is_inserted new (head_of_leaf h) ≡ false → role_of (head_of_leaf u) (head_of_leaf h) ≡ Some role → PairedBy new (done ++ with_partner role ∷ []) source rest o → PairedBy new done (Then u source) (Then h rest) o
  paired_plain u h source rest done role (Apart site) own r p = tt
  paired_plain u h source rest done role (Together d) own r p = record {
    more = with_partner role ∷ p.more;
    is = onward done p.more d (with_partner role) p.is;
    long = omega (arith, p.long, one_more done (with_partner role));
    starts = λ e k. absurd (false≢true (sym (ap (λ (b : Bool). b && before_loop new rest) own) ∙ e));
    beside = λ final later e none k n m.
        let put = put_part done p.more later final (with_partner role) n (e ∙ ap (λ (l : List Part). l ++ later) p.is) m in
        let tail = p.beside final later e none (k + 1) (n + 1) (omega (arith, m, one_more done (with_partner role))) in
        by_role role (role_means (head_of_leaf u) (head_of_leaf h) role r) final k n (ap (λ (q : Part). q.role) put) tail;
    loads = λ final later e n m.
        let put = put_part done p.more later final (with_partner role) n (e ∙ ap (λ (l : List Part). l ++ later) p.is) m in
        (λ i given x g. absurd (own_role role (role_means (head_of_leaf u) (head_of_leaf h) role r) (sym (ap (λ (q : Part). q.role) put) ∙ i)), p.loads final later e (n + 1) (omega (arith, m, one_more done (with_partner role))));
  }
    where
      own_role : (role : Role) → Means (head_of_leaf u) (head_of_leaf h) role → role ≡ Inserted → ⊥
      own_role Same m e = same_inserted e
      own_role (Turned x a) m e = turned_inserted x a e
      own_role (Removed x a) m e = removed_inserted x a e
      own_role Inserted m e = m

      by_role : (role : Role) → Means (head_of_leaf u) (head_of_leaf h) role → (final : List Part) (k n : ℕ) → role_at final n ≡ role → Beside new.first (role_at final) (placed (k + 1) source) (placed (n + 1) rest) (placed (n + 1) (restored final (n + 1) rest)) → Beside new.first (role_at final) (placed k (Then u source)) (placed n (Then h rest)) (placed n (restored final n (Then h rest)))
      by_role Same m final k n put tail = same put m (ap (visit n) (ap (λ (r : Role). head_of_leaf (restored_leaf r h)) put ∙ same_kept h)) tail
      by_role (Turned x e) m final k n put tail = turned m.0 x e put m.1 m.2 (ap (visit n) (ap (λ (r : Role). head_of_leaf (restored_leaf r h)) put ∙ head_restored (Turned x e) h ∙ ap (restored_head (Turned x e)) m.2)) tail
      by_role (Removed x e) m final k n put tail = removed x e put m.0 m.1 (ap (visit n) (ap (λ (r : Role). head_of_leaf (restored_leaf r h)) put ∙ head_restored (Removed x e) h ∙ ap (restored_head (Removed x e)) m.1)) tail
      by_role Inserted m final k n put tail = absurd m

  -- the rest stands after a block, whose sites the restored block keeps
  after_block : (final : List Part) (source rest : Tree) (k n : ℕ) → Beside new.first (role_at final) (placed k source) (placed n rest) (placed n (restored final n rest)) → (j : ℕ) → j ≡ n → Beside new.first (role_at final) (placed k source) (placed n rest) (placed j (restored final n rest))
  after_block final source rest k n b j f = subst (λ i. Beside new.first (role_at final) (placed k source) (placed n rest) (placed i (restored final n rest))) (sym f) b

  loads_after : (final : List Part) (rest : Tree) (n : ℕ) → AllVisits (LoadsNew new.end (role_at final)) (placed n (restored final n rest)) → (j : ℕ) → j ≡ n → AllVisits (LoadsNew new.end (role_at final)) (placed j (restored final n rest))
  loads_after final rest n b j f = subst (λ i. AllVisits (LoadsNew new.end (role_at final)) (placed i (restored final n rest))) (sym f) b

  not_inserted : (final : List Part) (n : ℕ) (head : Head) → role_at final n ≡ Same → LoadsNew new.end (role_at final) (visit n head)
  not_inserted final n head put i h x g = absurd (same_inserted (sym put ∙ i))

  paired_loop : (u h : Atom) (d0 source d rest : Tree) (done : List Part) (o : Outcome) (more : List Part → Outcome) → u ≡ h → PairedBy new (done ++ with_partner Same ∷ []) d0 d o → ((e : List Part) → PairedBy new e source rest (more e)) → PairedBy new done (WhileThen u d0 source) (WhileThen h d rest) (and_then o more)
  paired_loop u h d0 source d rest done (Apart site) more same_heads p g = tt
  paired_loop u h d0 source d rest done (Together e1) more same_heads p g = go (more e1) (g e1)
    where
      go : (o : Outcome) → PairedBy new e1 source rest o → PairedBy new done (WhileThen u d0 source) (WhileThen h d rest) o
      go (Apart site) q = tt
      go (Together e2) q = record {
        more = with_partner Same ∷ (p.more ++ q.more);
        is = q.is ∙ ap (λ (l : List Part). l ++ q.more) p.is ∙ simp append_assoc;
        long = omega (arith, p.long, q.long, one_more done (with_partner Same));
        starts = λ e k. (u, refl);
        beside = λ final later e none k n m.
            let f1 : final ≡ e1 ++ (q.more ++ later) = e ∙ ap (λ (l : List Part). l ++ later) q.is ∙ append_assoc e1 q.more later in
            let f0 : final ≡ ((done ++ with_partner Same ∷ []) ++ p.more) ++ (q.more ++ later) = f1 ∙ ap (λ (l : List Part). l ++ (q.more ++ later)) p.is in
            let put = ap (λ (q : Part). q.role) (put_part done p.more (q.more ++ later) final (with_partner Same) n f0 m) in
            let body = p.beside final (q.more ++ later) f1 none (k + 1) (n + 1) (omega (arith, m, one_more done (with_partner Same))) in
            let tail = q.beside final later e none (k + 1 + sites_of d0) (n + 1 + sites_of d) (omega (arith, m, p.long, one_more done (with_partner Same))) in
            loop put (ap (λ (a : Atom). While a tt) same_heads) refl body (after_block final source rest (k + 1 + sites_of d0) (n + 1 + sites_of d) tail _ (let s = sites_of-restored final d (n + 1) in omega arith));
        loads = λ final later e n m.
            let f1 : final ≡ e1 ++ (q.more ++ later) = e ∙ ap (λ (l : List Part). l ++ later) q.is ∙ append_assoc e1 q.more later in
            let f0 : final ≡ ((done ++ with_partner Same ∷ []) ++ p.more) ++ (q.more ++ later) = f1 ∙ ap (λ (l : List Part). l ++ (q.more ++ later)) p.is in
            let put = ap (λ (q : Part). q.role) (put_part done p.more (q.more ++ later) final (with_partner Same) n f0 m) in
            let body = p.loads final (q.more ++ later) f1 (n + 1) (omega (arith, m, one_more done (with_partner Same))) in
            let tail = q.loads final later e (n + 1 + sites_of d) (omega (arith, m, p.long, one_more done (with_partner Same))) in
            (not_inserted final n (While h tt) put, body, loads_after final rest (n + 1 + sites_of d) tail _ (let s = sites_of-restored final d (n + 1) in omega arith));
      }

  paired_branch : (u h : Atom) (a0 b0 source a b rest : Tree) (done : List Part) (o : Outcome) (other more : List Part → Outcome) → u ≡ h → PairedBy new (done ++ with_partner Same ∷ []) a0 a o → ((e : List Part) → PairedBy new e b0 b (other e)) → ((e : List Part) → PairedBy new e source rest (more e)) → PairedBy new done (IfThen u a0 b0 source) (IfThen h a b rest) (and_then o (λ e. and_then (other e) more))
  paired_branch u h a0 b0 source a b rest done (Apart site) other more same_heads p g f = tt
  paired_branch u h a0 b0 source a b rest done (Together e1) other more same_heads p g f = second (other e1) (g e1)
    where
      third : (e2 : List Part) → Paired new e1 e2 b0 b → (o : Outcome) → PairedBy new e2 source rest o → PairedBy new done (IfThen u a0 b0 source) (IfThen h a b rest) o
      third e2 q (Apart site) r = tt
      third e2 q (Together e3) r = record {
        more = with_partner Same ∷ (p.more ++ (q.more ++ r.more));
        is = r.is ∙ ap (λ (l : List Part). l ++ r.more) (q.is ∙ ap (λ (l : List Part). l ++ q.more) p.is) ∙ simp append_assoc;
        long = omega (arith, p.long, q.long, r.long, one_more done (with_partner Same));
        starts = λ e k. absurd (false≢true e);
        beside = λ final later e none k n m.
            let f2 : final ≡ e2 ++ (r.more ++ later) = e ∙ ap (λ (l : List Part). l ++ later) r.is ∙ append_assoc e2 r.more later in
            let f1 : final ≡ e1 ++ (q.more ++ (r.more ++ later)) = f2 ∙ ap (λ (l : List Part). l ++ (r.more ++ later)) q.is ∙ append_assoc e1 q.more (r.more ++ later) in
            let f0 : final ≡ ((done ++ with_partner Same ∷ []) ++ p.more) ++ (q.more ++ (r.more ++ later)) = f1 ∙ ap (λ (l : List Part). l ++ (q.more ++ (r.more ++ later))) p.is in
            let put = ap (λ (q : Part). q.role) (put_part done p.more (q.more ++ (r.more ++ later)) final (with_partner Same) n f0 m) in
            let one = p.beside final (q.more ++ (r.more ++ later)) f1 none (k + 1) (n + 1) (omega (arith, m, one_more done (with_partner Same))) in
            let two = q.beside final (r.more ++ later) f2 none (k + 1 + sites_of a0) (n + 1 + sites_of a) (omega (arith, m, p.long, one_more done (with_partner Same))) in
            let tail = r.beside final later e none (k + 1 + sites_of a0 + sites_of b0) (n + 1 + sites_of a + sites_of b) (omega (arith, m, p.long, q.long, one_more done (with_partner Same))) in
            let sa = sites_of-restored final a (n + 1) in
            let sb = sites_of-restored final b (n + 1 + sites_of a) in
            branch put (ap (λ (c : Atom). If c tt tt) same_heads) refl one (after_block final b0 b (k + 1 + sites_of a0) (n + 1 + sites_of a) two _ (omega (arith, sa))) (after_block final source rest (k + 1 + sites_of a0 + sites_of b0) (n + 1 + sites_of a + sites_of b) tail _ (omega (arith, sa, sb)));
        loads = λ final later e n m.
            let f2 : final ≡ e2 ++ (r.more ++ later) = e ∙ ap (λ (l : List Part). l ++ later) r.is ∙ append_assoc e2 r.more later in
            let f1 : final ≡ e1 ++ (q.more ++ (r.more ++ later)) = f2 ∙ ap (λ (l : List Part). l ++ (r.more ++ later)) q.is ∙ append_assoc e1 q.more (r.more ++ later) in
            let f0 : final ≡ ((done ++ with_partner Same ∷ []) ++ p.more) ++ (q.more ++ (r.more ++ later)) = f1 ∙ ap (λ (l : List Part). l ++ (q.more ++ (r.more ++ later))) p.is in
            let put = ap (λ (q : Part). q.role) (put_part done p.more (q.more ++ (r.more ++ later)) final (with_partner Same) n f0 m) in
            let one = p.loads final (q.more ++ (r.more ++ later)) f1 (n + 1) (omega (arith, m, one_more done (with_partner Same))) in
            let two = q.loads final (r.more ++ later) f2 (n + 1 + sites_of a) (omega (arith, m, p.long, one_more done (with_partner Same))) in
            let tail = r.loads final later e (n + 1 + sites_of a + sites_of b) (omega (arith, m, p.long, q.long, one_more done (with_partner Same))) in
            let sa = sites_of-restored final a (n + 1) in
            let sb = sites_of-restored final b (n + 1 + sites_of a) in
            (not_inserted final n (If h tt tt) put, one, loads_after final b (n + 1 + sites_of a) two _ (omega (arith, sa)), loads_after final rest (n + 1 + sites_of a + sites_of b) tail _ (omega (arith, sa, sb)));
      }

      second : (o : Outcome) → PairedBy new e1 b0 b o → PairedBy new done (IfThen u a0 b0 source) (IfThen h a b rest) (and_then o more)
      second (Apart site) q = tt
      second (Together e2) q = third e2 q (more e2) (f e2)

  paired_end : (source : Tree) (done : List Part) → PairedBy new done source Empty (at_end source done)
  paired_end Empty done = record {
    more = [];
    is = sym (append-nil done);
    long = omega arith;
    starts = λ e k. absurd (false≢true e);
    beside = λ final later e none k n m. both_end;
    loads = λ final later e n m. tt;
  }
  paired_end (Then u s) done = tt
  paired_end (IfThen u a b s) done = tt
  paired_end (WhileThen u a s) done = tt

  paired_plain_step : (h : Leaf) (source rest : Tree) (done : List Part) → is_inserted new (head_of_leaf h) ≡ false → ((s : Tree) (d : List Part) → PairedBy new d s rest (walk new rest s d)) → PairedBy new done source (Then h rest) (plain_step (head_of_leaf h) done source (walk new rest))
  paired_plain_step h Empty rest done own ih = tt
  paired_plain_step h (Then u s) rest done own ih = go (role_of (head_of_leaf u) (head_of_leaf h)) refl
    where
      go : (r : Option Role) → role_of (head_of_leaf u) (head_of_leaf h) ≡ r → PairedBy new done (Then u s) (Then h rest) (with_role done r (walk new rest s))
      go None e = tt
      go (Some role) e = paired_plain u h s rest done role (walk new rest s (done ++ with_partner role ∷ [])) own e (ih s (done ++ with_partner role ∷ []))
  paired_plain_step h (IfThen u a b s) rest done own ih = tt
  paired_plain_step h (WhileThen u a s) rest done own ih = tt

  paired_branch_step : (h : Atom) (source a b rest : Tree) (done : List Part) → ((s : Tree) (d : List Part) → PairedBy new d s a (walk new a s d)) → ((s : Tree) (d : List Part) → PairedBy new d s b (walk new b s d)) → ((s : Tree) (d : List Part) → PairedBy new d s rest (walk new rest s d)) → PairedBy new done source (IfThen h a b rest) (branch_step h done source (walk new a) (walk new b) (walk new rest))
  paired_branch_step h Empty a b rest done f g ih = tt
  paired_branch_step h (Then u s) a b rest done f g ih = tt
  paired_branch_step h (IfThen u a0 b0 s) a b rest done f g ih =
      paired_cond new done (IfThen u a0 b0 s) (IfThen h a b rest) (and_then (walk new a a0 (done ++ with_partner Same ∷ [])) (λ d. and_then (walk new b b0 d) (walk new rest s))) (Apart (length done)) (atoms_equal u h)
      (λ e. paired_branch u h a0 b0 s a b rest done (walk new a a0 (done ++ with_partner Same ∷ [])) (walk new b b0) (walk new rest s) (atoms_equal-true u h e) (f a0 (done ++ with_partner Same ∷ [])) (g b0) (ih s))
      (λ e. tt)
  paired_branch_step h (WhileThen u a0 s) a b rest done f g ih = tt

  paired_loop_step : (h : Atom) (source a rest : Tree) (done : List Part) → ((s : Tree) (d : List Part) → PairedBy new d s a (walk new a s d)) → ((s : Tree) (d : List Part) → PairedBy new d s rest (walk new rest s d)) → PairedBy new done source (WhileThen h a rest) (loop_step h done source (walk new a) (walk new rest))
  paired_loop_step h Empty a rest done f ih = tt
  paired_loop_step h (Then u s) a rest done f ih = tt
  paired_loop_step h (IfThen u a0 b0 s) a rest done f ih = tt
  paired_loop_step h (WhileThen u a0 s) a rest done f ih =
      paired_cond new done (WhileThen u a0 s) (WhileThen h a rest) (and_then (walk new a a0 (done ++ with_partner Same ∷ [])) (walk new rest s)) (Apart (length done)) (atoms_equal u h)
      (λ e. paired_loop u h a0 s a rest done (walk new a a0 (done ++ with_partner Same ∷ [])) (walk new rest s) (atoms_equal-true u h e) (f a0 (done ++ with_partner Same ∷ [])) (ih s))
      (λ e. tt)

-- a walk pairs the target with its source
pub walk_paired : (new : NewRegisters) (target source : Tree) (done : List Part) → PairedBy new done source target (walk new target source done)
walk_paired new Empty source done = paired_end new source done
walk_paired new (Then h rest) source done =
    paired_cond new done source (Then h rest) (walk new rest source (done ++ inserted_part (before_loop new rest) ∷ [])) (plain_step (head_of_leaf h) done source (walk new rest)) (is_inserted new (head_of_leaf h))
    (λ e. paired_inserted new h source rest done (walk new rest source (done ++ inserted_part (before_loop new rest) ∷ [])) e (walk_paired new rest source (done ++ inserted_part (before_loop new rest) ∷ [])))
    (λ e. paired_plain_step new h source rest done e (walk_paired new rest))
walk_paired new (IfThen h a b rest) source done = paired_branch_step new h source a b rest done (walk_paired new a) (walk_paired new b) (walk_paired new rest)
walk_paired new (WhileThen h a rest) source done = paired_loop_step new h source a rest done (walk_paired new a) (walk_paired new rest)
