-- A silent step in the top call.
use Rattle.std.proofs.Common.{◌≡◌, ℕ, ◌≤◌, Bool, true, false, cond, List, [], ◌∷◌, ◌++◌, length, set, Option, Some, None, refl, sym, ap, ◌∙◌, subst, ◌⊎◌, inl, inr, ⊎_elim}
use Rattle.std.proofs.lemmas.Bool.{cases_Bool, cond-true, cond-false, eqb-false, false≢true}
use Rattle.std.proofs.lemmas.List.{length-set, get_or-set_other}
use Rattle.values_undef.specs.Value.{IsBelow}
use Rattle.values_undef.specs.Arithmetic.{IsResultBelow}
use Rattle.values_undef.specs.declared.value.Val.{Val}
use Rattle.values_undef.specs.declared.value.Val.TheVariants.{Def, Undef}
use Rattle.values_undef.proofs.Callers.{arithmetic_monotone}
use Rattle.il_syntax.specs.declared.program.Program.{Program}
use Rattle.il_syntax.specs.declared.statement.Atom.{Atom}
use Rattle.il_syntax.specs.declared.statement.Atom.TheVariants.{Const, Reg}
use Rattle.il_syntax.specs.declared.statement.Stmt.TheOpen.{Skip, Copy, Compute, Load, Store, AtomicLoad, AtomicStore, Update, Fence, Print, If, While, Call}
use Rattle.il_syntax.specs.Statements.{Head}
use Rattle.il_paths.specs.Code.{Visit, Code, first, go, AllCode}
use Rattle.il_paths.specs.Paths.{here}
use Rattle.il_paths.proofs.Callers.{runs_more, step_runs, all_go}
use Rattle.thread_core.specs.declared.next.Next.{Next}
use Rattle.thread_core.specs.declared.next.Next.TheVariants as next
use Rattle.thread_core.specs.Programs.{IsProperHead}
use Rattle.thread_core.specs.Frames.{Frame, evaluated, holds, next_at, decided, computed, next_print, passed, gave, assigned, worked, called_function}
use Rattle.flow_facts.specs.declared.level.Level.{Level}
use Rattle.flow_facts.specs.declared.level.Level.TheVariants.{Nothing}
use Rattle.flow_facts.specs.declared.transfer.Transfer.TheVariants.{Keeps, Becomes}
use Rattle.flow_facts.specs.Levels.{after_transfer, losing, level_by, level_on}
use Rattle.il_paths.specs.Atoms.{atoms_equal}
use Rattle.validator.specs.declared.role.Role.{Role}
use Rattle.validator.specs.declared.role.Role.TheVariants.{Same}
use Rattle.validator.specs.Roles.{pends, pending_after_head}
use Rattle.validator.specs.Beside.{Beside}
use Rattle.paired_threads.specs.Values.{RegistersBelow}
use Rattle.paired_threads.specs.Stacks.{CallPaired}
use Rattle.paired_threads.proofs.Pending.{pends_more, level_more}
use Rattle.paired_threads.proofs.Below.{set_below, set_new, atom_below}

-- 64 places on both sides, and below at those of the source's function
pub record AreRegistersRelated (old : ℕ) (t s : List Val) : Type 0 where
  pub target_places : length t ≡ 64
  pub source_places : length s ≡ 64
  pub below : RegistersBelow old t s

pub related : {p q : Program} {t s : Frame} (f : CallPaired p q t s) → AreRegistersRelated (length f.function.source.registers) t.registers s.registers
related f = record { target_places = f.frames.target_whole; source_places = f.frames.source_whole; below = f.frames.registers }

-- a register is given a value on both sides, or a register of the target's own
pub registers_given : (old : ℕ) (t s : List Val) (k : ℕ) (a b : Val) → AreRegistersRelated old t s → IsBelow a b → AreRegistersRelated old (set t k a) (set s k b)
registers_given old t s k a b r q = record {
  target_places = length-set t k a ∙ r.target_places;
  source_places = length-set s k b ∙ r.source_places;
  below = set_below old t s k a b (r.target_places ∙ sym r.source_places) q r.below;
}

pub registers_new : (old : ℕ) (t s : List Val) (k : ℕ) (a : Val) → old ≤ k → AreRegistersRelated old t s → AreRegistersRelated old (set t k a) s
registers_new old t s k a l r = record { target_places = length-set t k a ∙ r.target_places; source_places = r.source_places; below = set_new old t s k a l r.below }

-- a call goes on silently
pub record FramesGoOn {p q : Program} {t s : Frame} (f : CallPaired p q t s) (t' s' : Frame) : Type 0 where
  pub after : CallPaired p q t' s'
  pub pending : (x : ℕ) → pends after.function.accepted.role x after.path ≡ pends f.function.accepted.role x f.path
  pub levels : (x : ℕ) (a : Atom) → (level_on x a after.path ≡ Nothing) ⊎ ((level_on x a after.path ≡ level_on x a f.path) × (evaluated t'.registers a ≡ evaluated t.registers a))

-- the call after a step of the merged statement w
abbrev pub frame_after : {source target : Program} {t s : Frame} (f : CallPaired source target t s) (w : Visit) (d : Bool) (ts ss : List Val) (a : Code) → first f.frames.merged ≡ Some w
    → Beside (length f.function.source.registers) f.function.accepted.role a (go t.continuation d) (go f.frames.merged d) → AllCode (IsProperHead source (length f.function.source.registers)) a → AreRegistersRelated (length f.function.source.registers) ts ss
    → CallPaired source target (record t { registers = ts; continuation = go t.continuation d }) (record s { registers = ss; continuation = a })
frame_after {source} {target} {t} {s} f w d ts ss a e z h r = record {
  number = f.number;
  function = f.function;
  path = f.path ++ w ∷ [];
  frames = record {
    target_function = f.frames.target_function;
    source_function = f.frames.source_function;
    target_whole = r.target_places;
    source_whole = r.source_places;
    registers = r.below;
    merged = go f.frames.merged d;
    run = runs_more f.frames.run (step_runs f.frames.merged (go f.frames.merged d) w [] d e here);
    beside = z;
    source_proper = h;
    target_proper = all_go (IsProperHead target 64) t.continuation d f.frames.target_proper;
  };
}

pub pends_same : (role : ℕ → Role) (x : ℕ) (p : List Visit) (w : Visit) (h : Head) → role w.site ≡ Same → w.head ≡ h → pends role x (p ++ w ∷ []) ≡ pending_after_head x h (pends role x p)
pends_same role x p w h e k =
    pends_more role p w Same h x e k

-- a register that gets a value loses its pairs
lost_level : (r : ℕ) (a : Atom) (l : Level) → after_transfer (losing r a Keeps) l ≡ cond (atoms_equal a (Reg r)) Nothing l
lost_level r a l = choose (atoms_equal a (Reg r))
  where
    choose : (b : Bool) → after_transfer (cond b (Becomes Nothing) Keeps) l ≡ cond b Nothing l
    choose true = refl
    choose false = refl

-- a pair that loses its register, or has another
pub losing_levels : (x : ℕ) (a : Atom) (r : ℕ) (v : Val) (t : List Val) (l new : Level) → new ≡ cond (atoms_equal a (Reg r)) Nothing l
    → (new ≡ Nothing) ⊎ ((new ≡ l) × (evaluated (set t r v) a ≡ evaluated t a))
losing_levels x a r v t l new e =
    ⊎_elim
    (λ (b : atoms_equal a (Reg r) ≡ true). inl (e ∙ cond-true (atoms_equal a (Reg r)) Nothing l b))
    (λ (b : atoms_equal a (Reg r) ≡ false). inr (e ∙ cond-false (atoms_equal a (Reg r)) Nothing l b, other a b))
    (cases_Bool (atoms_equal a (Reg r)))
  where
    other : (a : Atom) → atoms_equal a (Reg r) ≡ false → evaluated (set t r v) a ≡ evaluated t a
    other (Const n) b = refl
    other (Reg k) b = get_or-set_other t r k v Undef (eqb-false k r b)

abbrev is_silent : Next → Bool
is_silent next.Silent = true
is_silent (next.Access a) = false

pub asks_not_silent : (n : Next) → is_silent n ≡ false → n ≡ next.Silent → ⊥
asks_not_silent n e h = false≢true (sym e ∙ ap is_silent h)

decided_same : (c d : Val) → IsBelow c d → decided d ≡ next.Silent → c ≡ d
decided_same c Undef b e = absurd (asks_not_silent (decided Undef) refl e)
decided_same c (Def n) b e = b

module _ {source target : Program} {t s : Frame} (f : CallPaired source target t s) (w : Visit) (is_next : first f.frames.merged ≡ Some w) (role_same : f.function.accepted.role w.site ≡ Same)
    (beside : (d : Bool) → Beside (length f.function.source.registers) f.function.accepted.role (go s.continuation d) (go t.continuation d) (go f.frames.merged d)) where
  -- no register is given a value
  abbrev passing : (h : Head) (d : Bool) → w.head ≡ h → ((x : ℕ) (b : Bool) → pending_after_head x h b ≡ b) → ((x : ℕ) (a : Atom) (l : Level) → level_by x a h l ≡ l) → FramesGoOn f (passed t d) (passed s d)
  passing h d e p l = record {
    after = frame_after f w d t.registers s.registers (go s.continuation d) is_next (beside d) (all_go _ s.continuation d f.frames.source_proper) (related f);
    pending = λ x. pends_same f.function.accepted.role x f.path w h role_same e ∙ p x (pends f.function.accepted.role x f.path);
    levels = λ x a. inr (level_more x a f.path w h e ∙ l x a (level_on x a f.path), refl);
  }

  -- a register is given a value
  abbrev giving : (h : Head) (r : ℕ) (a b : Val) → w.head ≡ h → ((x : ℕ) (b : Bool) → pending_after_head x h b ≡ b) → ((x : ℕ) (a : Atom) (l : Level) → level_by x a h l ≡ cond (atoms_equal a (Reg r)) Nothing l) → IsBelow a b
      → FramesGoOn f (gave t r a) (gave s r b)
  giving h r a b e p l below = record {
    after = frame_after f w true (set t.registers r a) (set s.registers r b) (go s.continuation true) is_next (beside true) (all_go _ s.continuation true f.frames.source_proper)
        (registers_given (length f.function.source.registers) t.registers s.registers r a b (related f) below);
    pending = λ x. pends_same f.function.accepted.role x f.path w h role_same e ∙ p x (pends f.function.accepted.role x f.path);
    levels = λ x c. losing_levels x c r a t.registers (level_on x c f.path) (level_on x c (f.path ++ w ∷ [])) (level_more x c f.path w h e ∙ l x c (level_on x c f.path));
  }

  assigns : (h : Head) (r : ℕ) (c d : Option Val) → w.head ≡ h → ((x : ℕ) (b : Bool) → pending_after_head x h b ≡ b) → ((x : ℕ) (a : Atom) (l : Level) → level_by x a h l ≡ cond (atoms_equal a (Reg r)) Nothing l) → IsResultBelow c d
      → computed d ≡ next.Silent → FramesGoOn f (assigned t r c) (assigned s r d)
  assigns h r c None e p l below silent = absurd (asks_not_silent (computed None) refl silent)
  assigns h r None (Some d) e p l below silent = absurd below
  assigns h r (Some c) (Some d) e p l below silent = giving h r c d e p l below

  decides : (h : Head) (c d : Val) → w.head ≡ h → ((x : ℕ) (b : Bool) → pending_after_head x h b ≡ b) → ((x : ℕ) (a : Atom) (l : Level) → level_by x a h l ≡ l) → IsBelow c d → decided d ≡ next.Silent
      → FramesGoOn f (passed t (holds c)) (passed s (holds d))
  decides h c d e p l below silent =
      subst (λ (v : Val). FramesGoOn f (passed t (holds v)) (passed s (holds d))) (sym (decided_same c d below silent)) (passing h (holds d) e p l)

  pub works : (h : Head) (depth : ℕ) → w.head ≡ h → IsProperHead source (length f.function.source.registers) h → next_at s.registers depth h ≡ next.Silent → ((g : ℕ) → called_function h ≡ Some g → ⊥) → FramesGoOn f (worked t h) (worked s h)
  works Skip depth e proper silent other = passing Skip true e (λ x b. refl) (λ x a l. refl)
  works (Copy i a) depth e proper silent other = giving (Copy i a) i _ _ e (λ x b. refl) (λ x c l. lost_level i c l) (atom_below _ t.registers s.registers f.frames.registers a proper.1)
  works (Compute i op a b) depth e proper silent other =
      assigns (Compute i op a b) i _ _ e (λ x b. refl) (λ x c l. lost_level i c l)
      (arithmetic_monotone op (evaluated t.registers a) (evaluated t.registers b) (evaluated s.registers a) (evaluated s.registers b) (atom_below _ t.registers s.registers f.frames.registers a proper.1) (atom_below _ t.registers s.registers f.frames.registers b proper.2)) silent
  works (Load i x) depth e proper silent other = absurd (asks_not_silent _ refl silent)
  works (Store x a) depth e proper silent other = absurd (asks_not_silent _ refl silent)
  works (AtomicLoad i order y) depth e proper silent other = absurd (asks_not_silent _ refl silent)
  works (AtomicStore order y a) depth e proper silent other = absurd (asks_not_silent _ refl silent)
  works (Update i order y kind) depth e proper silent other = absurd (asks_not_silent _ refl silent)
  works (Fence order) depth e proper silent other = absurd (asks_not_silent _ refl silent)
  works (Print a) depth e proper silent other = absurd (asks_not_silent _ (prints_ask (evaluated s.registers a)) silent)
    where
      prints_ask : (v : Val) → is_silent (next_print v) ≡ false
      prints_ask (Def n) = refl
      prints_ask Undef = refl
  works (If a i j) depth e proper silent other = decides (If a i j) _ _ e (λ x b. refl) (λ x c l. refl) (atom_below _ t.registers s.registers f.frames.registers a proper) silent
  works (While a i) depth e proper silent other = decides (While a i) _ _ e (λ x b. refl) (λ x c l. refl) (atom_below _ t.registers s.registers f.frames.registers a proper) silent
  works (Call i g args) depth e proper silent other = absurd (other g refl)
