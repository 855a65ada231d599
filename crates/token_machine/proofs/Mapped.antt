-- Machines that agree under a map answer alike under it.
use Rattle.std.proofs.Common.{◌≡◌, ℕ, List, [], ◌∷◌, length, map, Option, Some, None, Result, Err, refl, ap, ◌∙◌}
use Rattle.std.proofs.lemmas.List.{length-map}
use Rattle.token_machine.specs.declared.fault.Fault.{Fault}
use Rattle.token_machine.specs.Machine.{Move, reject, shift, follow, at_the_end, read_from}
use Rattle.token_machine.specs.Mapped.{move_map, answer_map, finish_map}

module _ {Tree Tree' Rule : Type 0} (on_tree : Tree → Tree') (unexpected : Rule) where
  end_mapped : (o : Option Tree) → at_the_end unexpected (finish_map on_tree o) ≡ answer_map on_tree (at_the_end unexpected o)
  end_mapped None = refl
  end_mapped (Some tree) = refl

module _ {State State' Tree Tree' Rule : Type 0} (on_state : State → State') (on_tree : Tree → Tree') (unexpected : Rule) where
  follow_mapped : (mv : Move Rule State) (left left' : ℕ) (rest : State → Result Tree (Fault Rule)) (rest' : State' → Result Tree' (Fault Rule)) → left' ≡ left → ((s : State) → rest' (on_state s) ≡ answer_map on_tree (rest s)) → follow unexpected (move_map on_state mv) left' rest' ≡ answer_map on_tree (follow unexpected mv left rest)
  follow_mapped reject left left' rest rest' e h = ap (λ n. Err (record { rule = unexpected; left = n })) e
  follow_mapped (shift (Some r) s) left left' rest rest' e h = ap (λ n. Err (record { rule = r; left = n })) e
  follow_mapped (shift None s) left left' rest rest' e h = h s

module _ {State State' Tree Tree' Terminal Terminal' Rule : Type 0} (step : State → Terminal → Move Rule State) (finish : State → Option Tree) (step' : State' → Terminal' → Move Rule State') (finish' : State' → Option Tree') (on_state : State → State') (on_tree : Tree → Tree') (on_terminal : Terminal → Terminal') (unexpected : Rule) (steps : (s : State) (t : Terminal) → step' (on_state s) (on_terminal t) ≡ move_map on_state (step s t)) (finishes : (s : State) → finish' (on_state s) ≡ finish_map on_tree (finish s)) where
  pub answer_mapped : (ts : List Terminal) (s : State) → read_from step' finish' unexpected (on_state s) (map on_terminal ts) ≡ answer_map on_tree (read_from step finish unexpected s ts)
  answer_mapped [] s = ap (at_the_end unexpected) (finishes s) ∙ end_mapped on_tree unexpected (finish s)
  answer_mapped (t ∷ ts) s =
      ap (λ mv. follow unexpected mv (length (map on_terminal (t ∷ ts))) (λ next. read_from step' finish' unexpected next (map on_terminal ts))) (steps s t)
      ∙ follow_mapped on_state on_tree unexpected (step s t) (length (t ∷ ts)) _ (λ next. read_from step finish unexpected next ts) _ (length-map (t ∷ ts) on_terminal) (λ next. answer_mapped ts next)
