-- An input divides in one way.
use Rattle.std.proofs.Common.{◌≡◌, ◌∙◌, ◌⊎◌, inl, inr, sym, subst, refl, []}
use Rattle.text_parts.specs.Lines.{Text}
use Rattle.text_parts.specs.Division.{LacksLine, DividesAtLine}
use Rattle.text_parts.proofs.Callers.{each_division, never_lacks, one_division}
use Rattle.litmus_text.specs.Refusals.{expect_word}
use Rattle.litmus_text.specs.Reading.{DividesLitmus, at_expect, whole}

module _ (input : Text) where
  pub same_parts : (a b a' b' : Text) → DividesLitmus input a b → DividesLitmus input a' b' → (a ≡ a') × (b ≡ b')
  same_parts a b a' b' (at_expect h) (at_expect k) = one_division expect_word input a b a' b' h k
  same_parts a b a' b' (at_expect h) (whole lacks p q) = absurd (never_lacks expect_word input a b h lacks)
  same_parts a b a' b' (whole lacks p q) (at_expect h) = absurd (never_lacks expect_word input a' b' h lacks)
  same_parts a b a' b' (whole lacks p q) (whole lacks' p' q') = (p ∙ sym p', q ∙ sym q')

  -- a fact of the texts of one division is one of those of another
  pub at_parts : (P : Text → Text → Type 0) (a b a' b' : Text) → DividesLitmus input a b → DividesLitmus input a' b' → P a b → P a' b'
  at_parts P a b a' b' h k fact =
      let same = same_parts a b a' b' h k in
      subst (λ (t : Text). P a' t) same.1 (subst (λ (t : Text). P t b) same.0 fact)

  abbrev pub Parted : Type 0
  Parted = (a : Text) × (b : Text) × DividesLitmus input a b

  with_line : ((a : Text) × (b : Text) × DividesAtLine expect_word input a b) ⊎ LacksLine expect_word input → Parted
  with_line (inl x) = (x.0, x.1, at_expect x.2)
  with_line (inr lacks) = (input, [], whole lacks refl refl)

  pub each_parted : Parted
  each_parted = with_line (each_division expect_word input)
