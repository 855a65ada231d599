-- Silent steps up to the next access.
use Rattle.std.proofs.Common.{◌≡◌, ℕ, zero, suc, ◌+◌, ◌-◌, ◌≤◌, refl, ap, ◌∙◌, arith}
use Rattle.std.proofs.lemmas.Bool.{cond-true, cond-false}
use Rattle.values_undef.specs.declared.access.Access.{Access}
use Rattle.il_syntax.specs.declared.program.Program.{Program}
use Rattle.thread_core.specs.declared.next.Next.{Next}
use Rattle.thread_core.specs.declared.next.Next.TheVariants as next
use Rattle.thread_core.specs.Frames.{Stack, next_of, advanced}
use Rattle.thread_core.specs.Alone.{HasSilent, local_after_silent}
use Rattle.outcome_nodes.specs.Nodes.{is_silent, silent_steps, settled, settled_use}

pub after_parts : (p : Program) (a b : ℕ) (l : Stack) → local_after_silent p (a + b) l ≡ local_after_silent p b (local_after_silent p a l)
after_parts p zero b l = let e : zero + b ≡ b = omega arith in ap (λ (n : ℕ). local_after_silent p n l) e
after_parts p (suc a) b l = let e : suc a + b ≡ suc (a + b) = omega arith in ap (λ (n : ℕ). local_after_silent p n l) e ∙ after_parts p a b (advanced p l)

pub steps_parts : (p : Program) (k r : ℕ) (l : Stack) → HasSilent p k l → silent_steps p (k + r) l ≡ k + silent_steps p r (local_after_silent p k l)
steps_parts p zero r l h = let e : zero + r ≡ r = omega arith in ap (λ (n : ℕ). silent_steps p n l) e ∙ omega arith
steps_parts p (suc k) r l h =
    let e : suc k + r ≡ suc (k + r) = omega arith in
    let q : silent_steps p (k + r) (advanced p l) ≡ k + silent_steps p r (local_after_silent p k (advanced p l)) = steps_parts p k r (advanced p l) h.1 in
    let one : silent_steps p (suc (k + r)) l ≡ suc (silent_steps p (k + r) (advanced p l)) = cond-true (is_silent (next_of l)) (suc (silent_steps p (k + r) (advanced p l))) 0 (ap (λ (n : Next). is_silent n) h.0) in
    ap (λ (n : ℕ). silent_steps p n l) e ∙ one ∙ omega (arith, q)

pub steps_stop : (p : Program) (m : ℕ) (l : Stack) (a : Access) → next_of l ≡ next.Access a → silent_steps p m l ≡ 0
steps_stop p zero l a e = refl
steps_stop p (suc m) l a e = cond-false (is_silent (next_of l)) _ 0 (ap (λ (n : Next). is_silent n) e)

-- a thread settles alike from each state on its silent steps
pub record SettlesAlike (p : Program) (steps used k : ℕ) (l : Stack) : Type 0 where
  pub local : settled p steps used l ≡ settled p steps (used + k) (local_after_silent p k l)
  pub use_same : settled_use p steps used l ≡ settled_use p steps (used + k) (local_after_silent p k l)

pub settles_alike : (p : Program) (steps used k : ℕ) (l : Stack) → HasSilent p k l → used + k ≤ steps → SettlesAlike p steps used k l
settles_alike p steps used k l h le = record {
  local =
      ap (λ (n : ℕ). local_after_silent p (silent_steps p n l) l) e
      ∙ ap (λ (n : ℕ). local_after_silent p n l) (steps_parts p k (steps - (used + k)) l h)
      ∙ after_parts p k (silent_steps p (steps - (used + k)) (local_after_silent p k l)) l;
  use_same = ap (λ (n : ℕ). used + silent_steps p n l) e ∙ ap (λ (n : ℕ). used + n) (steps_parts p k (steps - (used + k)) l h) ∙ omega arith;
}
  where
    e : steps - used ≡ k + (steps - (used + k))
    e = omega (arith, le)

-- at an access, and where no step is left, it stays
pub record Stays (p : Program) (steps used : ℕ) (l : Stack) : Type 0 where
  pub local : settled p steps used l ≡ l
  pub use_same : settled_use p steps used l ≡ used

pub stays_at_access : (p : Program) (steps used : ℕ) (l : Stack) (a : Access) → next_of l ≡ next.Access a → Stays p steps used l
stays_at_access p steps used l a e = record {
  local = ap (λ (n : ℕ). local_after_silent p n l) (steps_stop p (steps - used) l a e);
  use_same = ap (λ (n : ℕ). used + n) (steps_stop p (steps - used) l a e) ∙ omega arith;
}

pub stays_at_end : (p : Program) (steps used : ℕ) (l : Stack) → used ≡ steps → Stays p steps used l
stays_at_end p steps used l e = record {
  local = ap (λ (n : ℕ). local_after_silent p (silent_steps p n l) l) none;
  use_same = ap (λ (n : ℕ). used + silent_steps p n l) none ∙ omega arith;
}
  where
    none : steps - used ≡ 0
    none = omega (arith, e)
