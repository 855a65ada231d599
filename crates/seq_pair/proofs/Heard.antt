-- Where others may be heard.
use Rattle.std.proofs.Common.{◌≡◌, ◌⊎◌, ℕ, Bool, true, false, ◌&&◌, ◌||◌, Option, Some, None, IsSomeAnd, refl, subst, inl, inr}
use Rattle.std.proofs.lemmas.Bool.{false≢true, and_parts, or_cases}
use Rattle.il_syntax.specs.declared.program.Program.{Program}
use Rattle.il_syntax.specs.Statements.{Head}
use Rattle.il_paths.specs.Heads.{is_acquire, is_call}
use Rattle.seq_semantics.specs.Seq.{head_in, wants_of}
use Rattle.seq_semantics.specs.Held.{seq_in, MayHear}
use Rattle.seq_pair.specs.declared.pairing.Pairing.{Pairing}
use Rattle.seq_pair.specs.Pair.{Pair, Stage, AtEntry, Inside, Over, is_at_entry, is_inside, wants_value, wants_fence, hears, may_hear, may_get}
use Rattle.seq_pair.specs.Laws.{IsInStep}
use Rattle.seq_pair.specs.Pairing.{pair_in, IsPairOf}

heard : (o : Option Head) → hears o ≡ true → IsSomeAnd o (λ head. (is_call head ≡ true) ⊎ (is_acquire head ≡ true))
heard None e = absurd (false≢true e)
heard (Some head) e = or_cases (is_call head) (is_acquire head) e

abbrev hears_at : Stage → Bool → Bool → Bool
hears_at stage w b = is_at_entry stage || (is_inside stage && (w && b))

module _ (p q : Program) (f : ℕ) (h : Pairing) (pair : IsPairOf p q f h) (m : may_hear (pair_in p q h) ≡ true) where
  abbrev waits : Bool
  waits = wants_value (wants_of (seq_in q h.target)) || wants_fence (wants_of (seq_in q h.target))

  hearing : (stage : Stage) → h.stage ≡ stage → hears_at stage waits (hears (head_in (seq_in q h.target))) ≡ true
  hearing stage e = subst (λ z. hears_at z waits (hears (head_in (seq_in q h.target))) ≡ true) e m

  -- where the pair may hear others, the target may
  pub target_hears : MayHear q (seq_in q h.target)
  target_hears = by h.stage refl
    where
      by : (stage : Stage) → h.stage ≡ stage → MayHear q (seq_in q h.target)
      by (AtEntry ts ss) e = inl (pair.entry ts ss e).target_begins
      by Inside e = inr (heard (head_in (seq_in q h.target)) (and_parts waits (hears (head_in (seq_in q h.target))) (hearing Inside e)).1)
      by (Over end) e = absurd (false≢true (hearing (Over end) e))

  -- and so may the source, if they are in step
  pub source_hears : (old : ℕ) → IsInStep old (pair_in p q h) → MayHear p (seq_in p h.source)
  source_hears old in_step = by h.stage refl
    where
      by : (stage : Stage) → h.stage ≡ stage → MayHear p (seq_in p h.source)
      by (AtEntry ts ss) e = inl (pair.entry ts ss e).source_begins
      by Inside e = inr (heard (head_in (seq_in p h.source)) (in_step.hears e (and_parts waits (hears (head_in (seq_in q h.target))) (hearing Inside e)).1))
      by (Over end) e = absurd (false≢true (hearing (Over end) e))

-- where the pair may get a location, it may hear
pub heard_first : (p : Program) (s : Pair) (x : ℕ) → may_get p s x ≡ true → may_hear s ≡ true
heard_first p s x e = (and_parts (may_hear s) _ e).0
