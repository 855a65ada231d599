-- Lines that are written piece by piece.
use Rattle.std.proofs.Common.{◌≡◌, ◌∙◌, sym, ap, List, [], ◌∷◌, ◌++◌, Result, Ok, Err, OnOk, append_assoc, append-nil, codes}
use Rattle.std.specs.List.{flat_map, join_with_byte}
use Rattle.text_parts.specs.Lines.{Text}

-- a blank before each word but the first
join_from : (w : Text) (ws : List Text) → join_with_byte 32 (w ∷ ws) ≡ w ++ flat_map (λ word. 32 ∷ word) ws
join_from w [] = sym (append-nil w)
join_from w (v ∷ vs) = ap (λ t. w ++ (32 ∷ t)) (join_from v vs)

-- a call: its two first words, and then its arguments
pub call_written : {X E : Type 0} (r : Result X E) (start one two end name : Text) (words : List Text) → one ≡ start ++ codes "call " → two ≡ one ++ name
    → OnOk r (end ≡ two ++ flat_map (λ word. 32 ∷ word) words) → OnOk r (end ≡ start ++ join_with_byte 32 (codes "call" ∷ (name ∷ words)))
call_written (Ok x) start one two end name words first second third =
    third ∙ ap (λ t. t ++ flat_map (λ word. 32 ∷ word) words) (second ∙ ap (λ t. t ++ name) first)
    ∙ ap (λ t. t ++ flat_map (λ word. 32 ∷ word) words) (append_assoc start (codes "call ") name)
    ∙ append_assoc start (codes "call " ++ name) (flat_map (λ word. 32 ∷ word) words) ∙ ap (λ t. start ++ (codes "call " ++ t)) (sym (join_from name words))
call_written (Err e) start one two end name words first second third = tt
