-- A value that both are given: what is seen of both, and how they stand after it.
use Rattle.std.proofs.Common.{◌≡◌, ◌⊎◌, ℕ, Bool, true, false, cond, List, Some, None, refl, sym, ap, ◌∙◌, subst, inl, inr, set}
use Rattle.std.proofs.lemmas.Bool.{false≢true}
use Rattle.values_undef.specs.declared.value.Val.{Val}
use Rattle.values_undef.specs.declared.access.Order.{Order}
use Rattle.values_undef.specs.declared.access.Cause.{Cause}
use Rattle.values_undef.specs.declared.access.Cause.TheVariants as cause
use Rattle.values_undef.specs.declared.access.Access.TheVariants as access
use Rattle.values_undef.specs.Access.{acquires, releases}
use Rattle.values_undef.specs.Value.{IsBelow}
use Rattle.values_undef.specs.Update.{succeeds, meets_undef, updated}
use Rattle.values_undef.specs.Matching.{DoTheSame}
use Rattle.values_undef.proofs.Callers.{update_below}
use Rattle.il_syntax.specs.declared.statement.Atom.{Atom}
use Rattle.il_syntax.specs.declared.statement.Rmw.{Rmw}
use Rattle.il_syntax.specs.declared.statement.Stmt.TheOpen.{Skip, Copy, Compute, Load, Store, AtomicLoad, AtomicStore, Update, Fence, Print, If, While, Call}
use Rattle.il_syntax.specs.declared.program.Program.{Program}
use Rattle.il_syntax.specs.Statements.{Head}
use Rattle.il_paths.specs.Code.{Visit}
use Rattle.il_paths.specs.Heads.{is_release, gives}
use Rattle.thread_core.specs.declared.next.Next.TheVariants as next
use Rattle.thread_core.specs.Frames.{evaluated_kind, gave, next_at}
use Rattle.paired_threads.specs.Functions.{PairedFunction}
use Rattle.paired_threads.specs.Facts.{owed, FactsHold, FactsStay}
use Rattle.paired_threads.specs.Next.{one_more, PendingStays, GivesPaired, SameNext, both_silent, source_fails, loads, stores, loads_atomic, stores_atomic, updates, fences, prints, calls, PairedNext, both_end, inserts, turns, removes, same}
use Rattle.paired_threads.proofs.Callers.{pairs_go_on}
use Rattle.seq_semantics.specs.declared.place.Course.TheVariants.{HasFailed}
use Rattle.seq_semantics.specs.declared.seen.Seen.{Seen}
use Rattle.seq_semantics.specs.declared.seen.Seen.TheVariants as seen
use Rattle.seq_semantics.specs.declared.seen.Wants.TheVariants as want
use Rattle.seq_semantics.specs.Seq.{Seq, with_frame, over, lowered_if, head_in, wanted_at, wants_of, value_seen_at, after_value_at, value_seen, after_value}
use Rattle.seq_pair.specs.Labels.{is_failed, reads_below, updates_below, misses_below, calls_below}
use Rattle.seq_pair.specs.Pair.{wants_value}
use Rattle.seq_pair.specs.Related.{loaded_at, IsOwned, Related}
use Rattle.seq_pair.proofs.Steps.{Outcome, out_failed, out_on, quiet, gave_others, same_memory, lowered_memory, facts_at, wants_in, wants_at}

-- a statement that waits for a value or at a fence makes no silent step, and does not fail
pub silent_steps : (registers : List Val) (h : Head) → ((depth : ℕ) → next_at registers depth h ≡ next.Silent) → wanted_at h ≡ want.Step
silent_steps registers Skip e = refl
silent_steps registers (Copy r a) e = refl
silent_steps registers (Compute r op a b) e = refl
silent_steps registers (Load r x) e = refl
silent_steps registers (Store x a) e = refl
silent_steps registers (AtomicLoad r order y) e = let g : next.Access (access.Read y order) ≡ next.Silent = e 1 in cc
silent_steps registers (AtomicStore order y a) e = refl
silent_steps registers (Update r order y kind) e = let g : next.Access (access.Update y order (evaluated_kind registers kind)) ≡ next.Silent = e 1 in cc
silent_steps registers (Fence order) e = let g : next.Access (access.Fence order) ≡ next.Silent = e 1 in cc
silent_steps registers (Print a) e = refl
silent_steps registers (If a one other) e = refl
silent_steps registers (While a body) e = refl
silent_steps registers (Call r f args) e = let g : next.Access (access.Fail cause.Depth) ≡ next.Silent = e 64 in cc

pub failing_steps : (registers : List Val) (h : Head) (why : Cause) → ((depth : ℕ) → next_at registers depth h ≡ next.Access (access.Fail why)) → wanted_at h ≡ want.Step
failing_steps registers Skip why e = refl
failing_steps registers (Copy r a) why e = refl
failing_steps registers (Compute r op a b) why e = refl
failing_steps registers (Load r x) why e = refl
failing_steps registers (Store x a) why e = refl
failing_steps registers (AtomicLoad r order y) why e = let g : next.Access (access.Read y order) ≡ next.Access (access.Fail why) = e 1 in cc
failing_steps registers (AtomicStore order y a) why e = refl
failing_steps registers (Update r order y kind) why e = let g : next.Access (access.Update y order (evaluated_kind registers kind)) ≡ next.Access (access.Fail why) = e 1 in cc
failing_steps registers (Fence order) why e = let g : next.Access (access.Fence order) ≡ next.Access (access.Fail why) = e 1 in cc
failing_steps registers (Print a) why e = refl
failing_steps registers (If a one other) why e = refl
failing_steps registers (While a body) why e = refl
failing_steps registers (Call r f args) why e = let g : next.Silent ≡ next.Access (access.Fail why) = e 1 in cc

module _ {p q : Program} {f : ℕ} (fn : PairedFunction p q f) (path : List Visit) (t s : Seq) (rel : Related fn path t s) (b c : Val) (below : IsBelow b c) where
  abbrev Given : Head → Type 0
  Given h = Outcome fn (value_seen_at t b h) (value_seen_at s c h) (after_value_at t b h) (after_value_at s c h)

  value_at : (h : Head) → head_in t ≡ Some h → head_in s ≡ Some h → Given h → Outcome fn (value_seen t b) (value_seen s c) (after_value t b) (after_value s c)
  value_at h et es o =
      subst (λ g. Outcome fn (elim g as (λ _. Seen) [ Some i ↦ value_seen_at t b i | None ↦ seen.Silent ]) (value_seen s c) (elim g as (λ _. Seq) [ Some i ↦ after_value_at t b i | None ↦ t ]) (after_value s c)) (sym et)
      (subst (λ g. Outcome fn (value_seen_at t b h) (elim g as (λ _. Seen) [ Some i ↦ value_seen_at s c i | None ↦ seen.Silent ]) (after_value_at t b h) (elim g as (λ _. Seq) [ Some i ↦ after_value_at s c i | None ↦ s ])) (sym es) o)

  -- a register of both is given the values; the memory stays
  module _ (v : Visit) (h : Head) (r : ℕ) (et : head_in t ≡ Some h) (ev : v.head ≡ h) (stays : PendingStays fn path v) (gives_paired : GivesPaired fn path v r t.frame s.frame)
      (no_store : (x : ℕ) (a : Atom) → h ≡ Store x a → ⊥) (no_load : (i x : ℕ) → h ≡ Load i x → ⊥) (gives_r : gives h ≡ Some r) where
    stay : FactsStay v.head t.frame.registers (set t.frame.registers r b) (loaded_at s) (loaded_at s) (IsOwned s) (IsOwned s)
    stay =
        subst (λ g. FactsStay g t.frame.registers (set t.frame.registers r b) (loaded_at s) (loaded_at s) (IsOwned s) (IsOwned s)) (sym ev)
        (quiet h t.frame.registers (set t.frame.registers r b) (loaded_at s) (IsOwned s) no_store no_load (gave_others t.frame.registers r b h gives_r))

    facts : FactsHold path (Some v.head) t.frame.registers (loaded_at s) (IsOwned s)
    facts = facts_at fn path t s rel v h et (λ l. ap (λ g. owed (Some g) l) ev)

    given : Related fn (one_more fn path v) (with_frame t (gave t.frame r b)) (with_frame s (gave s.frame r c))
    given = same_memory fn path t s rel v (gave t.frame r b) (gave s.frame r c) (gives_paired b c below) stays facts stay

    given_lowered : (release : Bool) → (release ≡ true → is_release v.head ≡ true) → Related fn (one_more fn path v) (lowered_if release (with_frame t (gave t.frame r b))) (lowered_if release (with_frame s (gave s.frame r c)))
    given_lowered release e = lowered_memory fn path t s rel release v (gave t.frame r b) (gave s.frame r c) (gives_paired b c below) stays facts stay e

  module _ (v : Visit) (r : ℕ) (order : Order) (y : ℕ) (kind : Rmw) (et : head_in t ≡ Some (Update r order y kind)) (ev : v.head ≡ Update r order y kind) (stays : PendingStays fn path v) (gives_paired : GivesPaired fn path v r t.frame s.frame) where
    lower : (release : Bool) → (release ≡ true → releases order ≡ true) → Related fn (one_more fn path v) (lowered_if release (with_frame t (gave t.frame r b))) (lowered_if release (with_frame s (gave s.frame r c)))
    lower release e = given_lowered v (Update r order y kind) r et ev stays gives_paired (λ x a g. cc) (λ i x g. cc) refl release (λ g. ap is_release ev ∙ e g)

    abbrev label : Bool → Val → Val → Seen
    label hit old new = cond hit (seen.Update y order old new) (seen.Miss y order old)

    update_on : (mt ms st ss : Bool) (bn cn : Val) → mt ≡ false → ms ≡ false → st ≡ ss → IsBelow bn cn
        → Outcome fn (cond mt (seen.Failed true None) (label st b bn)) (cond ms (seen.Failed true None) (label ss c cn))
        (cond mt (over t HasFailed) (lowered_if (cond st (releases order) false) (with_frame t (gave t.frame r b)))) (cond ms (over s HasFailed) (lowered_if (cond ss (releases order) false) (with_frame s (gave s.frame r c))))
    update_on true ms st ss bn cn et es e new = absurd (false≢true (sym et))
    update_on false true st ss bn cn et es e new = absurd (false≢true (sym es))
    update_on false false true true bn cn et es e new = out_on (one_more fn path v) refl refl (updates_below below new, tt) (lower (releases order) (λ g. g))
    update_on false false false false bn cn et es e new = out_on (one_more fn path v) refl refl (misses_below below, tt) (lower false (λ g. absurd (false≢true g)))
    update_on false false true false bn cn et es e new = absurd (false≢true (sym e))
    update_on false false false true bn cn et es e new = absurd (false≢true e)

    update_by : (meets_undef (evaluated_kind s.frame.registers kind) c ≡ true) ⊎ DoTheSame (evaluated_kind t.frame.registers kind) (evaluated_kind s.frame.registers kind) b c → Given (Update r order y kind)
    update_by (inl m) = out_failed (ap (λ (z : Bool). is_failed (cond z (seen.Failed true None) (label (succeeds (evaluated_kind s.frame.registers kind) c) c (updated (evaluated_kind s.frame.registers kind) c)))) m)
        (ap (λ (z : Bool). (cond z (over s HasFailed) (lowered_if (cond (succeeds (evaluated_kind s.frame.registers kind) c) (releases order) false) (with_frame s (gave s.frame r c)))).course) m)
    update_by (inr w) =
        update_on (meets_undef (evaluated_kind t.frame.registers kind) b) (meets_undef (evaluated_kind s.frame.registers kind) c) (succeeds (evaluated_kind t.frame.registers kind) b) (succeeds (evaluated_kind s.frame.registers kind) c)
        (updated (evaluated_kind t.frame.registers kind) b) (updated (evaluated_kind s.frame.registers kind) c) w.target_defined w.source_defined w.same w.new

  not_value : (h : Head) → wants_of t ≡ want.Value → head_in t ≡ Some h → wants_value (wanted_at h) ≡ false → ⊥
  not_value h w e g = false≢true (sym g ∙ ap wants_value (sym (wants_at fn path t s rel h e) ∙ w))

  fence_no_value : (order : Order) → wants_value (wanted_at (Fence order)) ≡ false
  fence_no_value order = by (acquires order)
    where
      by : (b : Bool) → wants_value (cond b want.Fence want.Step) ≡ false
      by true = refl
      by false = refl

  same_value : (v : Visit) (h : Head) → head_in t ≡ Some h → v.head ≡ h → wants_of t ≡ want.Value → SameNext fn path t.frame s.frame v h → Given h
  same_value v h et ev w (both_silent nt ns stays frames) = absurd (not_value h w et (ap wants_value (silent_steps t.frame.registers h nt)))
  same_value v h et ev w (source_fails why ns) = absurd (not_value h w et (ap wants_value (failing_steps s.frame.registers h why ns)))
  same_value v h et ev w (loads r x l settled stays gives_paired) = absurd (not_value (Load r x) w et refl)
  same_value v h et ev w (stores x a k settled others frames) = absurd (not_value (Store x a) w et refl)
  same_value v h et ev w (loads_atomic r order y stays gives_paired) =
      out_on (one_more fn path v) refl refl (reads_below below, tt) (given v (AtomicLoad r order y) r et ev stays gives_paired (λ x a e. cc) (λ i x e. cc) refl)
  same_value v h et ev w (stores_atomic order y a k settled stays frames) = absurd (not_value (AtomicStore order y a) w et refl)
  same_value v h et ev w (updates r order y kind k settled stays gives_paired) =
      update_by v r order y kind et ev stays gives_paired (update_below (evaluated_kind t.frame.registers kind) (evaluated_kind s.frame.registers kind) b c k below)
  same_value v h et ev w (fences order settled stays frames) = absurd (not_value (Fence order) w et (fence_no_value order))
  same_value v h et ev w (prints a n pt ps stays frames) = absurd (not_value (Print a) w et refl)
  same_value v h et ev w (calls r g args k settled stays gives_paired) =
      out_on (one_more fn path v) refl refl (calls_below k, tt) (given v (Call r g args) r et ev stays gives_paired (λ x a e. cc) (λ i x e. cc) refl)

  none_wants : wants_of t ≡ want.Value → head_in t ≡ None → ⊥
  none_wants w e = let k : want.Value ≡ want.Step = sym w ∙ wants_in t None rel.target_runs e in cc

  value_by : PairedNext fn path t.frame s.frame → wants_of t ≡ want.Value → Outcome fn (value_seen t b) (value_seen s c) (after_value t b) (after_value s c)
  value_by (both_end et es settled) w = absurd (none_wants w et)
  value_by (inserts v r x et ev new few settled stays gives_target) w = absurd (not_value (Load r x) w et refl)
  value_by (turns v r x e et es ev l known stays gives_paired) w = absurd (not_value (Copy r e) w et refl)
  value_by (removes v x a et es ev k pends others frames) w = absurd (not_value Skip w et refl)
  value_by (same v h et es ev proper n) w = value_at h et es (same_value v h et ev w n)

  -- Both are given a value.
  pub value_on : wants_of t ≡ want.Value → Outcome fn (value_seen t b) (value_seen s c) (after_value t b) (after_value s c)
  value_on = value_by (pairs_go_on p q f fn path t.frame s.frame rel.frames)
