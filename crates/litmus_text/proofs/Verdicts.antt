-- The texts of verdicts, one after the other.
use Rattle.std.proofs.Common.{◌≡◌, ◌∙◌, ◌+◌, ◌<◌, ℕ, Bool, ◌&&◌, List, [], ◌∷◌, ◌++◌, length, take, get_or, append_assoc, append-nil, sym, ap, ap₂}
use Rattle.std.proofs.lemmas.Grind.{flat_map-append}
use Rattle.std.proofs.lemmas.List.{take_more}
use Rattle.std.proofs.lemmas.List.Folds.{list_all_more}
use Rattle.text_parts.specs.Lines.{Text, whole_line}
use Rattle.litmus_text.specs.Expectation.{Expected}
use Rattle.litmus_text.specs.Output.{are_met, verdict_line, verdict_lines}

module _ (test : Expected → Bool) where
  pub verdicts_more : (expectations : List Expected) (start text new : Text) (met : Bool) (i : ℕ) (d : Expected) → i < length expectations → text ≡ start ++ verdict_lines test (take i expectations)
      → met ≡ test (get_or expectations i d) → new ≡ text ++ whole_line (verdict_line met) → new ≡ start ++ verdict_lines test (take (i + 1) expectations)
  verdicts_more expectations start text new met i d below is same more =
      let e = get_or expectations i d in
      let one : verdict_lines test (take (i + 1) expectations) ≡ verdict_lines test (take i expectations) ++ whole_line (verdict_line (test e)) =
      ap (λ (xs : List Expected). verdict_lines test xs) (take_more expectations i d below) ∙ flat_map-append (λ (x : Expected). whole_line (verdict_line (test x))) (take i expectations) (e ∷ [])
      ∙ ap (λ (t : Text). verdict_lines test (take i expectations) ++ t) (append-nil (whole_line (verdict_line (test e)))) in
      more ∙ ap (λ (b : Bool). text ++ whole_line (verdict_line b)) same ∙ ap (λ (t : Text). t ++ whole_line (verdict_line (test e))) is
      ∙ append_assoc start (verdict_lines test (take i expectations)) (whole_line (verdict_line (test e))) ∙ ap (λ (t : Text). start ++ t) (sym one)

  pub all_more : (expectations : List Expected) (all met : Bool) (i : ℕ) (d : Expected) → i < length expectations → all ≡ are_met test (take i expectations)
      → met ≡ test (get_or expectations i d) → (all && met) ≡ are_met test (take (i + 1) expectations)
  all_more expectations all met i d below is same =
      ap₂ (λ (a b : Bool). a && b) is same ∙ sym (list_all_more test expectations i d below)
