-- A fence that both pass: what is seen of both, and how they stand after it.
use Rattle.std.proofs.Common.{◌≡◌, ℕ, false, List, Option, Some, None, refl, sym, ap, ◌∙◌, subst}
use Rattle.std.proofs.lemmas.Bool.{false≢true}
use Rattle.il_syntax.specs.declared.statement.Stmt.TheOpen.{Skip, Copy, Load, Store, AtomicLoad, AtomicStore, Update, Print, Call}
use Rattle.il_syntax.specs.declared.program.Program.{Program}
use Rattle.il_syntax.specs.Statements.{Head}
use Rattle.il_paths.specs.Code.{Visit}
use Rattle.paired_threads.specs.Functions.{PairedFunction}
use Rattle.paired_threads.specs.Next.{SameNext, both_silent, source_fails, loads, stores, loads_atomic, stores_atomic, updates, fences, prints, calls, PairedNext, both_end, inserts, turns, removes, same}
use Rattle.paired_threads.proofs.Callers.{pairs_go_on}
use Rattle.seq_semantics.specs.declared.seen.Seen.{Seen}
use Rattle.seq_semantics.specs.declared.seen.Seen.TheVariants as seen
use Rattle.seq_semantics.specs.declared.seen.Wants.TheVariants as want
use Rattle.seq_semantics.specs.Seq.{Seq, head_in, wanted_by, wants_of, pass_seen_at, after_pass_at, pass_seen, after_pass}
use Rattle.seq_pair.specs.Pair.{wants_fence}
use Rattle.seq_pair.specs.Related.{Related}
use Rattle.seq_pair.proofs.Steps.{Outcome, wants_in, fence_on}
use Rattle.seq_pair.proofs.Values.{silent_steps, failing_steps}

module _ {p q : Program} {f : ℕ} (fn : PairedFunction p q f) (path : List Visit) (t s : Seq) (rel : Related fn path t s) where
  abbrev Passes : Head → Type 0
  Passes h = Outcome fn (pass_seen_at h) (pass_seen_at h) (after_pass_at t h) (after_pass_at s h)

  pass_at : (h : Head) → head_in t ≡ Some h → head_in s ≡ Some h → Passes h → Outcome fn (pass_seen t) (pass_seen s) (after_pass t) (after_pass s)
  pass_at h et es o =
      subst (λ g. Outcome fn (elim g as (λ _. Seen) [ Some i ↦ pass_seen_at i | None ↦ seen.Silent ]) (pass_seen s) (elim g as (λ _. Seq) [ Some i ↦ after_pass_at t i | None ↦ t ]) (after_pass s)) (sym et)
      (subst (λ g. Outcome fn (pass_seen_at h) (elim g as (λ _. Seen) [ Some i ↦ pass_seen_at i | None ↦ seen.Silent ]) (after_pass_at t h) (elim g as (λ _. Seq) [ Some i ↦ after_pass_at s i | None ↦ s ])) (sym es) o)

  not_fence : (o : Option Head) → wants_of t ≡ want.Fence → head_in t ≡ o → wants_fence (wanted_by o) ≡ false → ⊥
  not_fence o w e g = false≢true (sym g ∙ ap wants_fence (sym (wants_in t o rel.target_runs e) ∙ w))

  same_pass : (v : Visit) (h : Head) → head_in t ≡ Some h → v.head ≡ h → wants_of t ≡ want.Fence → SameNext fn path t.frame s.frame v h → Passes h
  same_pass v h et ev w (both_silent nt ns stays frames) = absurd (not_fence (Some h) w et (ap wants_fence (silent_steps t.frame.registers h nt)))
  same_pass v h et ev w (source_fails why ns) = absurd (not_fence (Some h) w et (ap wants_fence (failing_steps s.frame.registers h why ns)))
  same_pass v h et ev w (loads r x l settled stays gives_paired) = absurd (not_fence (Some (Load r x)) w et refl)
  same_pass v h et ev w (stores x a k settled others frames) = absurd (not_fence (Some (Store x a)) w et refl)
  same_pass v h et ev w (loads_atomic r order y stays gives_paired) = absurd (not_fence (Some (AtomicLoad r order y)) w et refl)
  same_pass v h et ev w (stores_atomic order y a k settled stays frames) = absurd (not_fence (Some (AtomicStore order y a)) w et refl)
  same_pass v h et ev w (updates r order y kind k settled stays gives_paired) = absurd (not_fence (Some (Update r order y kind)) w et refl)
  same_pass v h et ev w (fences order settled stays frames) = fence_on fn path t s rel v order et ev stays frames
  same_pass v h et ev w (prints a n pt ps stays frames) = absurd (not_fence (Some (Print a)) w et refl)
  same_pass v h et ev w (calls r g args k settled stays gives_paired) = absurd (not_fence (Some (Call r g args)) w et refl)

  pass_by : PairedNext fn path t.frame s.frame → wants_of t ≡ want.Fence → Outcome fn (pass_seen t) (pass_seen s) (after_pass t) (after_pass s)
  pass_by (both_end et es settled) w = absurd (not_fence None w et refl)
  pass_by (inserts v r x et ev new few settled stays gives_target) w = absurd (not_fence (Some (Load r x)) w et refl)
  pass_by (turns v r x e et es ev l known stays gives_paired) w = absurd (not_fence (Some (Copy r e)) w et refl)
  pass_by (removes v x a et es ev k pends others frames) w = absurd (not_fence (Some Skip) w et refl)
  pass_by (same v h et es ev proper n) w = pass_at h et es (same_pass v h et ev w n)

  -- Both pass the fence.
  pub pass_on : wants_of t ≡ want.Fence → Outcome fn (pass_seen t) (pass_seen s) (after_pass t) (after_pass s)
  pass_on = pass_by (pairs_go_on p q f fn path t.frame s.frame rel.frames)
