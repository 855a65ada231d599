-- A call after a statement, on both sides.
use Rattle.std.proofs.Common.{◌≡◌, ◌<◌, ℕ, Bool, true, false, ◌&&◌, not, List, [], ◌∷◌, ◌++◌, length, get_or, set, Option, Some, None, refl, sym, ap, ◌∙◌, subst, ◌⊎◌, inl, inr, ⊎_elim, arith}
use Rattle.std.proofs.lemmas.Bool.{or_cases, or_parts, and_parts, both_ways, eq-eqb, cases_eq, not-true}
use Rattle.std.proofs.lemmas.Option.{none-some, same_Some}
use Rattle.std.proofs.lemmas.List.{length-set, get_or-set_same}
use Rattle.values_undef.specs.declared.value.Val.{Val}
use Rattle.values_undef.specs.declared.value.Val.TheVariants.{Undef}
use Rattle.il_syntax.specs.declared.statement.Atom.{Atom}
use Rattle.il_syntax.specs.declared.statement.Atom.TheVariants.{Const, Reg}
use Rattle.il_syntax.specs.declared.program.Program.{Program}
use Rattle.il_paths.specs.Heads.{gives}
use Rattle.il_paths.specs.Tree.{tree_of}
use Rattle.il_paths.specs.Code.{Visit, End, placed, first, go}
use Rattle.il_paths.specs.Paths.{IsPath}
use Rattle.il_paths.proofs.Callers.{path_runs, runs_path, step_runs, some_path, atoms_equal-refl}
use Rattle.thread_core.specs.Frames.{Frame, evaluated}
use Rattle.thread_core.proofs.Callers.{set_others}
use Rattle.il_paths.specs.Atoms.{atoms_equal}
use Rattle.tidy.specs.Atoms.{reads_register}
use Rattle.tidy.specs.Known.{makes, touches, known_after}
use Rattle.tidy.specs.Live.{IsWanted, is_read, is_kept}
use Rattle.tidy.specs.SameSites.{SameSites}
use Rattle.tidy.proofs.Callers.{one_more, known_more}
use Rattle.lift_tidy.specs.Frames.{KnownHolds, FramesTidied}

-- ---- registers

-- all that the register is not named in stays
abbrev pub KeepsOthers : Option ℕ → List Val → List Val → Type 0
KeepsOthers o registers new = (a : Atom) → ((k : ℕ) → o ≡ Some k → a ≡ Reg k → ⊥) → evaluated new a ≡ evaluated registers a

-- the registers with a value given to one, or as they are
abbrev pub put : List Val → Option ℕ → Val → List Val
put registers None w = registers
put registers (Some r) w = set registers r w

pub put_others : (registers : List Val) (o : Option ℕ) (w : Val) → KeepsOthers o registers (put registers o w)
put_others registers None w a h = refl
put_others registers (Some r) w a h = set_others registers r w a h

pub length-put : (registers : List Val) (o : Option ℕ) (w : Val) → length (put registers o w) ≡ length registers
length-put registers None w = refl
length-put registers (Some r) w = length-set registers r w

pub put_at : (registers : List Val) (o : Option ℕ) (w : Val) (r : ℕ) → o ≡ Some r → r < length registers → evaluated (put registers o w) (Reg r) ≡ w
put_at registers None w r e l = absurd (none-some r e)
put_at registers (Some k) w r e l =
    subst (λ (i : ℕ). get_or (set registers k w) i Undef ≡ w) (same_Some k r e) (get_or-set_same registers k w Undef (let same : k ≡ r = same_Some k r e in omega (arith, l, same)))

abbrev number_of : Atom → ℕ
number_of (Const n) = 0
number_of (Reg r) = r

pub same_register : (r k : ℕ) → Reg r ≡ Reg k → r ≡ k
same_register r k e = ap number_of e

-- a register is given by the statement, or it isn't
pub given_or_not : (o : Option ℕ) (r : ℕ) → (o ≡ Some r) ⊎ (o ≡ Some r → ⊥)
given_or_not None r = inr (none-some r)
given_or_not (Some k) r = ⊎_elim (λ (e : k ≡ r). inl (ap Some e)) (λ (n : k ≡ r → ⊥). inr (λ e. n (same_Some k r e))) (cases_eq k r)

pub record IsUntouched (r : ℕ) (a : Atom) (o : Option ℕ) : Type 0 where
  pub left : (k : ℕ) → o ≡ Some k → Reg r ≡ Reg k → ⊥
  pub right : (k : ℕ) → o ≡ Some k → a ≡ Reg k → ⊥

untouched : (r : ℕ) (a : Atom) (o : Option ℕ) → touches r a o ≡ false → IsUntouched r a o
untouched r a None e = record { left = λ k f. absurd (none-some k f); right = λ k f. absurd (none-some k f) }
untouched r a (Some j) e =
    let parts = or_parts _ _ e in
    record {
      left = λ k f g. both_ways _ (parts.0) (eq-eqb j r (same_Some j k f ∙ sym (same_register r k g)));
      right = λ k f g. both_ways _ (parts.1) (subst (λ (b : Atom). atoms_equal b (Reg j) ≡ true) (ap Reg (same_Some j k f) ∙ sym g) (atoms_equal-refl (Reg j)));
    }

-- ---- the call

module _ {source target : Program} {t s : Frame} (h : FramesTidied source target t s) (u v : Visit) (next_s : first s.continuation ≡ Some u) (next_t : first t.continuation ≡ Some v)
    (beside : (d : Bool) → SameSites (go s.continuation d) (go t.continuation d)) where
  -- a path of what comes after is one from here
  from_here : (d : Bool) (q : List Visit) → IsPath (go t.continuation d) q → IsPath t.continuation (v ∷ q)
  from_here d q is = runs_path (step_runs t.continuation End v q d next_t (path_runs is))

  -- what the target's statement reads has one value
  pub read_agrees : (k : ℕ) → reads_register k v.head ≡ true → evaluated t.registers (Reg k) ≡ evaluated s.registers (Reg k)
  read_agrees k e = let some = some_path (go t.continuation true) in h.live k (v ∷ some.0) (from_here true some.0 some.1) (is_read e)

  known_on : (ss : List Val) → KeepsOthers (gives u.head) s.registers ss → ((r : ℕ) (a : Atom) → makes r a u.head ≡ true → evaluated ss (Reg r) ≡ evaluated ss a) → KnownHolds h.function.old (h.source_path ++ u ∷ []) ss
  known_on ss others made r a e =
      ⊎_elim (λ (m : makes r a u.head ≡ true). made r a m)
      (λ (k : (not (touches r a (gives u.head)) && known_after h.function.old r a h.source_path) ≡ true).
      let parts = and_parts _ _ k in
      let free = untouched r a (gives u.head) (not-true _ parts.0) in
      others (Reg r) free.left ∙ h.known r a parts.1 ∙ sym (others a free.right))
      (or_cases _ _ (sym (known_more h.function.old r a h.source_path u) ∙ e))

  -- after registers are given, a step further on
  pub after : (d : Bool) (ts ss : List Val) → length ts ≡ 64 → length ss ≡ 64
      → KeepsOthers (gives u.head) s.registers ss → ((r : ℕ) (a : Atom) → makes r a u.head ≡ true → evaluated ss (Reg r) ≡ evaluated ss a)
      → KeepsOthers (gives v.head) t.registers ts → ((r : ℕ) → gives v.head ≡ Some r → evaluated ts (Reg r) ≡ evaluated ss (Reg r))
      → ((r : ℕ) (q : List Visit) → IsPath (go t.continuation d) q → IsWanted r h.function.new.result q → (gives v.head ≡ Some r → ⊥) → gives u.head ≡ Some r → ⊥)
      → FramesTidied source target (record t { registers = ts; continuation = go t.continuation d }) (record s { registers = ss; continuation = go s.continuation d })
  after d ts ss whole_t whole_s others_s made others_t given unwanted = record {
    number = h.number;
    function = h.function;
    target_function = h.target_function;
    source_function = h.source_function;
    target_whole = whole_t;
    source_whole = whole_s;
    source_path = h.source_path ++ u ∷ [];
    target_path = h.target_path ++ v ∷ [];
    source_run = one_more (placed 0 (tree_of h.function.old.body)) s.continuation h.source_path u d h.source_run next_s;
    target_run = one_more (placed 0 (tree_of h.function.new.body)) t.continuation h.target_path v d h.target_run next_t;
    beside = beside d;
    known = known_on ss others_s made;
    live = λ r q is w.
        ⊎_elim (λ (e : gives v.head ≡ Some r). given r e)
        (λ (n : gives v.head ≡ Some r → ⊥).
        others_t (Reg r) (λ k e f. n (e ∙ ap Some (sym (same_register r k f))))
        ∙ h.live r (v ∷ q) (from_here d q is) (is_kept n w)
        ∙ sym (others_s (Reg r) (λ k e f. unwanted r q is w n (e ∙ ap Some (sym (same_register r k f))))))
        (given_or_not (gives v.head) r);
  }

  -- both give the same value to the same register, or to none
  pub both_put : (d : Bool) (o : Option ℕ) (w : Val) → gives u.head ≡ o → gives v.head ≡ o → ((r : ℕ) → o ≡ Some r → r < 64) → ((r : ℕ) (a : Atom) → makes r a u.head ≡ true → evaluated (put s.registers o w) (Reg r) ≡ evaluated (put s.registers o w) a)
      → FramesTidied source target (record t { registers = put t.registers o w; continuation = go t.continuation d }) (record s { registers = put s.registers o w; continuation = go s.continuation d })
  both_put d o w eu ev inside made =
      after d (put t.registers o w) (put s.registers o w) (length-put t.registers o w ∙ h.target_whole) (length-put s.registers o w ∙ h.source_whole)
      (subst (λ (x : Option ℕ). KeepsOthers x s.registers (put s.registers o w)) (sym eu) (put_others s.registers o w)) made
      (subst (λ (x : Option ℕ). KeepsOthers x t.registers (put t.registers o w)) (sym ev) (put_others t.registers o w))
      (λ r e.
      let l = inside r (sym ev ∙ e) in
      put_at t.registers o w r (sym ev ∙ e) (omega (arith, l, h.target_whole)) ∙ sym (put_at s.registers o w r (sym ev ∙ e) (omega (arith, l, h.source_whole))))
      (λ r q is wanted n e. n (ev ∙ sym eu ∙ e))
