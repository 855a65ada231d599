-- The texts of rows, one after the other.
use Rattle.std.proofs.Common.{◌≡◌, ◌∙◌, ◌+◌, ◌<◌, ℕ, List, [], ◌∷◌, ◌++◌, length, map, take, get_or, append-nil, refl, sym, ap, subst}
use Rattle.std.specs.List.{AllZip, flat_map}
use Rattle.std.proofs.lemmas.Grind.{flat_map-append}
use Rattle.std.proofs.lemmas.List.{map-append, take_more}
use Rattle.il_syntax.specs.declared.program.Program.{Program}
use Rattle.text_parts.specs.Lines.{Text}
use Rattle.litmus.specs.Outcome.{EndAndOutputs}
use Rattle.litmus.specs.declared.table.Sample.{Sample}
use Rattle.litmus_session.specs.Session.{AreRowsText, IsRowText, outcome_of_row}

zip_append : {X Y : Type 0} (R : X → Y → Type 0) (xs us : List X) (ys vs : List Y) → AllZip R xs ys → AllZip R us vs → AllZip R (xs ++ us) (ys ++ vs)
zip_append R [] us [] vs h k = k
zip_append R [] us (y ∷ ys) vs h k = absurd h
zip_append R (x ∷ xs) us [] vs h k = absurd h
zip_append R (x ∷ xs) us (y ∷ ys) vs h k = (h.0, zip_append R xs us ys vs h.1 k)

pub no_rows : (given target : Program) → AreRowsText given target [] []
no_rows given target = record { pieces = []; each = tt; is = refl }

pub rows_more : (given target : Program) (samples : List Sample) (text new piece : Text) (i : ℕ) (d : Sample) → i < length samples → AreRowsText given target (take i samples) text
    → IsRowText given target (get_or samples i d) piece → new ≡ text ++ piece → AreRowsText given target (take (i + 1) samples) new
rows_more given target samples text new piece i d below h row more = record {
  pieces = h.pieces ++ piece ∷ [];
  each = subst (λ (xs : List Sample). AllZip (IsRowText given target) xs (h.pieces ++ piece ∷ [])) (sym (take_more samples i d below))
      (zip_append (IsRowText given target) (take i samples) (get_or samples i d ∷ []) h.pieces (piece ∷ []) h.each (row, tt));
  is = more ∙ ap (λ (t : Text). t ++ piece) h.is ∙ ap (λ (t : Text). flat_map (λ (t : Text). t) h.pieces ++ t) (sym (append-nil piece)) ∙ sym (flat_map-append (λ (t : Text). t) h.pieces (piece ∷ []));
}

pub outcomes_more : (target : Program) (samples : List Sample) (outcomes new : List EndAndOutputs) (i : ℕ) (d : Sample) → i < length samples → outcomes ≡ map (outcome_of_row target) (take i samples)
    → new ≡ outcomes ++ outcome_of_row target (get_or samples i d) ∷ [] → new ≡ map (outcome_of_row target) (take (i + 1) samples)
outcomes_more target samples outcomes new i d below is more =
    more ∙ ap (λ (os : List EndAndOutputs). os ++ outcome_of_row target (get_or samples i d) ∷ []) is ∙ sym (map-append (outcome_of_row target) (take i samples) (get_or samples i d ∷ []))
    ∙ ap (map (outcome_of_row target)) (sym (take_more samples i d below))
