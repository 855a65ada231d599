-- Each pair of calls goes on by one of the cases.
use Rattle.std.proofs.Common.{◌≡◌, ℕ, ◌≤◌, Bool, true, false, List, [], length, Option, Some, None, refl, sym, ap, ◌∙◌, subst}
use Rattle.std.proofs.lemmas.List.{length-set}
use Rattle.values_undef.specs.declared.value.Val.{Val}
use Rattle.values_undef.specs.declared.value.Val.TheVariants.{Def, Undef}
use Rattle.values_undef.specs.declared.access.Cause.TheVariants as cause
use Rattle.values_undef.specs.declared.arithmetic.Op.{Op}
use Rattle.values_undef.specs.Arithmetic.{result_of, IsResultBelow}
use Rattle.values_undef.specs.Value.{IsBelow}
use Rattle.values_undef.proofs.Callers.{arithmetic_monotone}
use Rattle.il_syntax.specs.declared.statement.Atom.{Atom}
use Rattle.il_syntax.specs.declared.statement.Stmt.TheOpen.{Skip, Copy, Compute, Load, Store, AtomicLoad, AtomicStore, Update, Fence, Print, If, While, Call}
use Rattle.il_syntax.specs.declared.program.Program.{Program}
use Rattle.il_syntax.specs.Statements.{Head}
use Rattle.il_paths.specs.Code.{Visit, End, placed, first, go}
use Rattle.il_paths.specs.Heads.{is_release}
use Rattle.il_paths.specs.Paths.{RunsTo, here}
use Rattle.il_paths.proofs.Callers.{runs_more, step_runs, all_go, all_first}
use Rattle.thread_core.specs.Programs.{IsProperAtom, IsProperHead}
use Rattle.thread_core.specs.Frames.{Frame, evaluated, holds, decided, computed, next_print, gave, passed, assigned, worked, next_at}
use Rattle.validator.specs.declared.role.Role.{Role}
use Rattle.validator.specs.declared.role.Role.TheVariants.{Same, Turned, Removed, Inserted}
use Rattle.validator.specs.Roles.{pending_after_head, pends}
use Rattle.validator.specs.Beside.{Beside}
use Rattle.paired_threads.proofs.Beside.{AtHead, at_end as is_end, at_same, at_turned, at_removed, at_inserted, at_head}
use Rattle.paired_threads.specs.Functions.{PairedFunction, old_registers}
use Rattle.paired_threads.specs.Frames.{FramesPaired}
use Rattle.paired_threads.specs.Next.{one_more, pending, Settled, PendingStays, GivesPaired, SameNext, both_silent, source_fails, loads, stores, loads_atomic, stores_atomic, updates, fences, prints, calls, PairedNext, both_end, inserts, turns, removes, same, PairsGoOn}
use Rattle.paired_threads.proofs.Below.{set_below, set_new, atom_below, atoms_below, kind_below}
use Rattle.paired_threads.proofs.Pending.{pends_more, pends_removed, pends_removed_other, pends_stored, pends_stored_other}

module _ {p q : Program} {k : ℕ} (fn : PairedFunction p q k) (path : List Visit) (t s : Frame) (h : FramesPaired fn path t s) where
  abbrev old : ℕ
  old = old_registers fn

  abbrev role : ℕ → Role
  role = fn.accepted.role

  abbrev After : Visit → Frame → Frame → Type 0
  After v t' s' = FramesPaired fn (one_more fn path v) t' s'

  lengths : length t.registers ≡ length s.registers
  lengths = h.target_whole ∙ sym h.source_whole

  run_on : (v : Visit) (b : Bool) → first h.merged ≡ Some v → RunsTo (placed 0 fn.accepted.merged) (one_more fn path v) (go h.merged b)
  run_on v b e = runs_more h.run (step_runs h.merged (go h.merged b) v [] b e here)

  -- both statements are done, and no register is written
  both_pass : (v : Visit) (b : Bool) → first h.merged ≡ Some v → Beside old role (go s.continuation b) (go t.continuation b) (go h.merged b) → After v (passed t b) (passed s b)
  both_pass v b e beside = record {
    target_function = h.target_function;
    source_function = h.source_function;
    target_whole = h.target_whole;
    source_whole = h.source_whole;
    registers = h.registers;
    merged = go h.merged b;
    run = run_on v b e;
    beside = beside;
    source_proper = all_go (IsProperHead p old) s.continuation b h.source_proper;
    target_proper = all_go (IsProperHead q 64) t.continuation b h.target_proper;
  }

  -- both give a value to a register
  both_give : (v : Visit) (r : ℕ) → first h.merged ≡ Some v → Beside old role (go s.continuation true) (go t.continuation true) (go h.merged true) → GivesPaired fn path v r t s
  both_give v r e beside b c below = record {
    target_function = h.target_function;
    source_function = h.source_function;
    target_whole = length-set t.registers r b ∙ h.target_whole;
    source_whole = length-set s.registers r c ∙ h.source_whole;
    registers = set_below old t.registers s.registers r b c lengths below h.registers;
    merged = go h.merged true;
    run = run_on v true e;
    beside = beside;
    source_proper = all_go (IsProperHead p old) s.continuation true h.source_proper;
    target_proper = all_go (IsProperHead q 64) t.continuation true h.target_proper;
  }

  -- the target alone gives a value to a new register
  target_gives : (v : Visit) (r : ℕ) → first h.merged ≡ Some v → old ≤ r → Beside old role s.continuation (go t.continuation true) (go h.merged true) → (b : Val) → After v (gave t r b) s
  target_gives v r e new beside b = record {
    target_function = h.target_function;
    source_function = h.source_function;
    target_whole = length-set t.registers r b ∙ h.target_whole;
    source_whole = h.source_whole;
    registers = set_new old t.registers s.registers r b new h.registers;
    merged = go h.merged true;
    run = run_on v true e;
    beside = beside;
    source_proper = h.source_proper;
    target_proper = all_go (IsProperHead q 64) t.continuation true h.target_proper;
  }

  -- what is known at the next statement of the merged code
  at_load : (v : Visit) (r x : ℕ) (R : Role) → first h.merged ≡ Some v → v.head ≡ Load r x → role v.site ≡ R → ((y : ℕ) (a : Atom) → R ≡ Turned y a → ⊥) → pending fn x path ≡ false
  at_load v r x R e f g n = fn.accepted.load_settled path h.merged v r x h.run e f (λ turned. n turned.0 turned.1 (sym g ∙ turned.2))

  at_release : (v : Visit) (head : Head) → first h.merged ≡ Some v → v.head ≡ head → is_release head ≡ true → Settled fn path
  at_release v head e f g = fn.accepted.release_settled path h.merged v h.run e (ap is_release f ∙ g)

  at_end : h.merged ≡ End → Settled fn path
  at_end e = fn.accepted.end_settled path (subst (RunsTo (placed 0 fn.accepted.merged) path) e h.run)

  operand : (a : Atom) → IsProperAtom old a → IsBelow (evaluated t.registers a) (evaluated s.registers a)
  operand a proper = atom_below old t.registers s.registers h.registers a proper

  module _ (v : Visit) (e : first h.merged ≡ Some v) (g : role v.site ≡ Same) (beside : (b : Bool) → Beside old role (go s.continuation b) (go t.continuation b) (go h.merged b)) where
    abbrev Goes : Head → Type 0
    Goes head = SameNext fn path t s v head

    stays : (head : Head) → v.head ≡ head → ((x : ℕ) (b : Bool) → pending_after_head x head b ≡ b) → PendingStays fn path v
    stays head f kept x = pends_more role path v Same head x g f ∙ kept x (pends role x path)

    pass : FramesPaired fn (one_more fn path v) (passed t true) (passed s true)
    pass = both_pass v true e (beside true)

    give : (r : ℕ) → GivesPaired fn path v r t s
    give r = both_give v r e (beside true)

    copies : (r : ℕ) (a : Atom) → v.head ≡ Copy r a → IsProperAtom old a → Goes (Copy r a)
    copies r a f proper = both_silent (λ depth. refl) (λ depth. refl) (stays (Copy r a) f (λ x b. refl)) (give r (evaluated t.registers a) (evaluated s.registers a) (operand a proper))

    module _ (r : ℕ) (op : Op) (a b : Atom) (f : v.head ≡ Compute r op a b) where
      abbrev of : Frame → Option Val
      of frame = result_of op (evaluated frame.registers a) (evaluated frame.registers b)

      computes : (rt rs : Option Val) → of t ≡ rt → of s ≡ rs → IsResultBelow rt rs → Goes (Compute r op a b)
      computes rt None et es below = source_fails cause.Divide (λ depth. ap computed es)
      computes None (Some c) et es below = absurd below
      computes (Some b') (Some c) et es below =
          both_silent (λ depth. ap computed et) (λ depth. ap computed es) (stays (Compute r op a b) f (λ x z. refl))
          (subst (λ (o : Option Val). FramesPaired fn (one_more fn path v) (assigned t r o) (worked s (Compute r op a b))) (sym et)
          (subst (λ (o : Option Val). FramesPaired fn (one_more fn path v) (gave t r b') (assigned s r o)) (sym es)
          (give r b' c below)))

    module _ (a : Atom) (head : Head) (f : v.head ≡ head) (kept : (x : ℕ) (b : Bool) → pending_after_head x head b ≡ b)
        (wants : (registers : List Val) (depth : ℕ) → next_at registers depth head ≡ decided (evaluated registers a)) (works : (frame : Frame) → worked frame head ≡ passed frame (holds (evaluated frame.registers a))) where
      decides : (vt vs : Val) → evaluated t.registers a ≡ vt → evaluated s.registers a ≡ vs → IsBelow vt vs → Goes head
      decides vt Undef et es below = source_fails cause.Branch (λ depth. wants s.registers depth ∙ ap decided es)
      decides vt (Def n) et es below =
          both_silent (λ depth. wants t.registers depth ∙ ap decided (et ∙ below)) (λ depth. wants s.registers depth ∙ ap decided es) (stays head f kept)
          (subst (λ (frame : Frame). FramesPaired fn (one_more fn path v) frame (worked s head)) (sym (works t ∙ ap (λ z. passed t (holds z)) (et ∙ below)))
          (subst (λ (frame : Frame). FramesPaired fn (one_more fn path v) (passed t (holds (Def n))) frame) (sym (works s ∙ ap (λ z. passed s (holds z)) es))
          (both_pass v (holds (Def n)) e (beside (holds (Def n))))))

    print_next : (a : Atom) (vt vs : Val) → v.head ≡ Print a → evaluated t.registers a ≡ vt → evaluated s.registers a ≡ vs → IsBelow vt vs → Goes (Print a)
    print_next a vt Undef f et es below = source_fails cause.Print (λ depth. ap next_print es)
    print_next a vt (Def n) f et es below = prints a n (et ∙ below) es (stays (Print a) f (λ x b. refl)) pass

    same_next : (head : Head) → v.head ≡ head → IsProperHead p old head → Goes head
    same_next Skip f proper = both_silent (λ depth. refl) (λ depth. refl) (stays Skip f (λ x b. refl)) pass
    same_next (Copy r a) f proper = copies r a f proper.1
    same_next (Compute r op a b) f proper =
        computes r op a b f (of r op a b f t) (of r op a b f s) refl refl (arithmetic_monotone op (evaluated t.registers a) (evaluated t.registers b) (evaluated s.registers a) (evaluated s.registers b) (operand a proper.1) (operand b proper.2))
    same_next (Load r x) f proper = loads r x proper.0 (at_load v r x Same e f g (λ y a q. cc)) (stays (Load r x) f (λ y b. refl)) (give r)
    same_next (Store x a) f proper = stores x a (operand a proper.1) (pends_stored role path v x a g f) (λ y n. pends_stored_other role path v x a y g f n) pass
    same_next (AtomicLoad r order y) f proper = loads_atomic r order y (stays (AtomicLoad r order y) f (λ x b. refl)) (give r)
    same_next (AtomicStore order y a) f proper = stores_atomic order y a (operand a proper.2) (λ w. at_release v (AtomicStore order y a) e f w) (stays (AtomicStore order y a) f (λ x b. refl)) pass
    same_next (Update r order y kind) f proper =
        updates r order y kind (kind_below old t.registers s.registers h.registers kind proper.2) (λ w. at_release v (Update r order y kind) e f w) (stays (Update r order y kind) f (λ x b. refl)) (give r)
    same_next (Fence order) f proper = fences order (λ w. at_release v (Fence order) e f w) (stays (Fence order) f (λ x b. refl)) pass
    same_next (Print a) f proper = print_next a (evaluated t.registers a) (evaluated s.registers a) f refl refl (operand a proper)
    same_next (If a one other) f proper = decides a (If a one other) f (λ x b. refl) (λ registers depth. refl) (λ frame. refl) (evaluated t.registers a) (evaluated s.registers a) refl refl (operand a proper)
    same_next (While a body) f proper = decides a (While a body) f (λ x b. refl) (λ registers depth. refl) (λ frame. refl) (evaluated t.registers a) (evaluated s.registers a) refl refl (operand a proper)
    same_next (Call r callee args) f proper =
        calls r callee args (atoms_below old t.registers s.registers h.registers args proper.2) (λ x. fn.accepted.call_settled path h.merged v r callee args h.run e f x) (stays (Call r callee args) f (λ x b. refl)) (give r)

  next_of_pair : AtHead old role s.continuation t.continuation h.merged → PairedNext fn path t s
  next_of_pair (is_end es et em) = both_end et es (at_end em)
  next_of_pair (at_same head v es et em f g beside) =
      let proper = all_first (IsProperHead p old) s.continuation head h.source_proper es in
      same v head et es f proper (same_next v em g beside head f proper)
  next_of_pair (at_turned r x a v es et em f g beside) =
      let proper = all_first (IsProperHead p old) s.continuation (Load r x) h.source_proper es in
      turns v r x a et es f proper.0 (λ none. fn.accepted.turned_known path h.merged v x a h.run em g none) (λ y. pends_more role path v (Turned x a) (Load r x) y g f) (both_give v r em beside)
  next_of_pair (at_removed x a v es et em f g beside) =
      let proper = all_first (IsProperHead p old) s.continuation (Store x a) h.source_proper es in
      removes v x a et es f (operand a proper.1) (pends_removed role path v x a g) (λ y n. pends_removed_other role path v x a y g n) (both_pass v true em beside)
  next_of_pair (at_inserted r x v starts et em f g new beside) =
      let proper = all_first (IsProperHead q 64) t.continuation (Load r x) h.target_proper et in
      inserts v r x et f new proper.0 (at_load v r x Inserted em f g (λ y a q. cc)) (λ y. pends_more role path v Inserted (Load r x) y g f) (target_gives v r em new beside)

pub pairs_go_on : PairsGoOn
pairs_go_on p q k fn path t s h = next_of_pair fn path t s h (at_head h.beside)
