-- An input divides in one way, or lacks a line between its texts.
use Rattle.std.proofs.Common.{◌≡◌, ◌∙◌, ◌⊎◌, inl, inr, sym, subst, refl}
use Rattle.text_parts.specs.Lines.{Text}
use Rattle.text_parts.specs.Division.{LacksLine, DividesAtLine}
use Rattle.text_parts.proofs.Callers.{each_division, never_lacks, one_division}
use Rattle.il_reader.specs.Refusal.{Refusal, line_refusal}
use Rattle.pair_text.specs.Refusals.{target_word}
use Rattle.seq_text.specs.declared.fault.SeqRule.{SeqRule}
use Rattle.seq_text.specs.declared.fault.SeqRule.TheVariants.{T, E}
use Rattle.seq_text.specs.Refusals.{events_word}
use Rattle.seq_text.specs.Reading.{DividesSession, LacksSeparator, no_target, no_events}

module _ (input : Text) where
  pub same_parts : (a b c a' b' c' : Text) → DividesSession input a b c → DividesSession input a' b' c' → (a ≡ a') × (b ≡ b') × (c ≡ c')
  same_parts a b c a' b' c' h k =
      let front = one_division target_word input a h.rest a' k.rest h.at_target k.at_target in
      let back = one_division events_word k.rest b c b' c' (subst (λ r. DividesAtLine events_word r b c) front.1 h.at_events) k.at_events in
      (front.0, back.0, back.1)

  -- a fact of the texts of one division is one of those of another
  pub at_parts : (P : Text → Text → Text → Type 0) (a b c a' b' c' : Text) → DividesSession input a b c → DividesSession input a' b' c' → P a b c → P a' b' c'
  at_parts P a b c a' b' c' h k fact =
      let same = same_parts a b c a' b' c' h k in
      subst (λ t. P a' b' t) same.2 (subst (λ t. P a' t c) same.1 (subst (λ t. P t b c) same.0 fact))

  -- the text after the line `target` has no line `events` of its own
  no_late : (a b c source rest : Text) → DividesSession input a b c → DividesAtLine target_word input source rest → LacksLine events_word rest → ⊥
  no_late a b c source rest h at none =
      let same = one_division target_word input a h.rest source rest h.at_target at in
      never_lacks events_word rest b c (subst (λ r. DividesAtLine events_word r b c) same.1 h.at_events) none

  pub lacks_nothing : (a b c : Text) (r : Refusal SeqRule) → DividesSession input a b c → LacksSeparator input r → ⊥
  lacks_nothing a b c r h (no_target none is) = never_lacks target_word input a h.rest h.at_target none
  lacks_nothing a b c r h (no_events source rest at none is) = no_late a b c source rest h at none

  pub one_separator : (r q : Refusal SeqRule) → LacksSeparator input r → LacksSeparator input q → r ≡ q
  one_separator r q (no_target none is) (no_target none' is') = is ∙ sym is'
  one_separator r q (no_target none is) (no_events source rest at late is') = absurd (never_lacks target_word input source rest at none)
  one_separator r q (no_events source rest at late is) (no_target none is') = absurd (never_lacks target_word input source rest at none)
  one_separator r q (no_events source rest at late is) (no_events source' rest' at' late' is') = is ∙ sym is'

  -- each input divides or lacks a line

  abbrev pub Parted : Type 0
  Parted = ((a : Text) × (b : Text) × (c : Text) × DividesSession input a b c) ⊎ ((r : Refusal SeqRule) × LacksSeparator input r)

  with_late : (a rest : Text) → DividesAtLine target_word input a rest → ((b : Text) × (c : Text) × DividesAtLine events_word rest b c) ⊎ LacksLine events_word rest → Parted
  with_late a rest at (inl x) = inl (a, x.0, x.1, record { rest = rest; at_target = at; at_events = x.2 })
  with_late a rest at (inr none) = inr (line_refusal E 1, no_events a rest at none refl)

  with_target : ((a : Text) × (rest : Text) × DividesAtLine target_word input a rest) ⊎ LacksLine target_word input → Parted
  with_target (inl x) = with_late x.0 x.1 x.2 (each_division events_word x.1)
  with_target (inr none) = inr (line_refusal T 1, no_target none refl)

  pub each_parted : Parted
  each_parted = with_target (each_division target_word input)
