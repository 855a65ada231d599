-- Each message that is there where a run ends is the first one, or was put in by an entry.
use Rattle.std.proofs.Common.{◌≡◌, ◌⊎◌, inl, inr, ⊎_elim, ℕ, ℤ, pos, ◌+◌, ◌≤◌, true, false, eqb, ltb, List, [], ◌∷◌, length, map, get_or, Option, None, Some, refl, sym, ap, ◌∙◌, subst}
use Rattle.std.specs.Prelude.{IsSome}
use Rattle.std.proofs.lemmas.Bool.{cases_Bool, cases_eq, false≢true, cond-true, cond_both, eqb-true, eq-eqb, ltb-true, ltb-false}
use Rattle.std.proofs.lemmas.List.{get_or-set_same, get_or-set_other, set_past, get_or_past, length-map, get_or-map}
use Rattle.values_undef.specs.Access.{choice_of_event}
use Rattle.values_undef.specs.declared.access.Access.{Access}
use Rattle.values_undef.specs.declared.access.Access.TheVariants.{NaRead, NaWrite, Read, Write, Update, Fence, Print, Fail, Finish, Spend}
use Rattle.values_undef.specs.declared.access.Choice.{Choice}
use Rattle.values_undef.specs.declared.access.Choice.TheVariants.{Plain, Message, Place, Take}
use Rattle.values_undef.specs.declared.journal.Entry.{Entry}
use Rattle.il_syntax.specs.declared.program.Program.{Program}
use Rattle.views.specs.ThreadView.{ThreadView}
use Rattle.message_memory.specs.declared.message.Message.{Message as TheMessage}
use Rattle.message_memory.specs.Memory.{Memory, Messages, messages, message_at, inserted, with_message, first_message, initial_memory}
use Rattle.message_memory.specs.Step.{AdmitsChoice, StepResult, step_result, is_racy, meets_undef, read_at}
use Rattle.view_machine.specs.State.{State, view_in, initial_state, declared_values}
use Rattle.view_machine.specs.Runs.{after_entry, IsRunFrom, state_after}
use Rattle.outcome_nodes.proofs.Callers.{Spends, Makes, entry_done}
use Rattle.outcome_moves.specs.Ends.{end_in, HasEnd}
use Rattle.memory_likeness.proofs.Callers.{some_here}

found_more : (b : ℕ) (m : TheMessage) (h : Messages) → IsSome (message_at b (m ∷ h)) → (m.to ≡ b) ⊎ IsSome (message_at b h)
found_more b m h = cond_both (eqb m.to b) (Some m) (message_at b h) (λ (o : Option TheMessage). IsSome o → (m.to ≡ b) ⊎ IsSome (message_at b h)) (λ e _. inl (eqb-true m.to b e)) (λ e q. inr q)

found_there : (b : ℕ) (m : TheMessage) (h : Messages) → IsSome (message_at b h) → IsSome (message_at b (m ∷ h))
found_there b m h q = cond_both (eqb m.to b) (Some m) (message_at b h) (λ (o : Option TheMessage). IsSome o) (λ e. refl) (λ e. q)

found_inserted : (b : ℕ) (m : TheMessage) (h : Messages) → IsSome (message_at b (inserted m h)) → (m.to ≡ b) ⊎ IsSome (message_at b h)
found_inserted b m [] q = found_more b m [] q
found_inserted b m (n ∷ h) q =
    cond_both (ltb n.to m.to) (m ∷ n ∷ h) (n ∷ inserted m h) (λ (k : Messages). IsSome (message_at b k) → (m.to ≡ b) ⊎ IsSome (message_at b (n ∷ h)))
    (λ e r. found_more b m (n ∷ h) r)
    (λ e t.
    ⊎_elim
    (λ (r : n.to ≡ b). inr (some_here b n h r))
    (λ (r : IsSome (message_at b (inserted m h))). ⊎_elim (λ (x : m.to ≡ b). inl x) (λ (x : IsSome (message_at b h)). inr (found_there b n h x)) (found_inserted b m h r))
    (found_more b n (inserted m h) t))
    q

with_found : (m : Memory) (z y b : ℕ) (x : TheMessage) → IsSome (message_at b (messages (with_message m z x) y)) → IsSome (message_at b (messages m y)) ⊎ ((z ≡ y) × (x.to ≡ b))
with_found m z y b x q =
    ⊎_elim
    (λ (e : y ≡ z).
    ⊎_elim
    (λ (l : ltb z (length m.atomic) ≡ true).
    let here : messages (with_message m z x) y ≡ inserted x (messages m z) = ap (λ (k : ℕ). messages (with_message m z x) k) e ∙ get_or-set_same m.atomic z (inserted x (messages m z)) [] (ltb-true z (length m.atomic) l) in
    ⊎_elim (λ (r : x.to ≡ b). inr (sym e, r)) (λ (r : IsSome (message_at b (messages m z))). inl (subst (λ (k : ℕ). IsSome (message_at b (messages m k))) (sym e) r))
    (found_inserted b x (messages m z) (subst (λ (h : Messages). IsSome (message_at b h)) here q)))
    (λ (l : ltb z (length m.atomic) ≡ false). inl (subst (λ (k : List Messages). IsSome (message_at b (get_or k y []))) (set_past m.atomic z (inserted x (messages m z)) (ltb-false z (length m.atomic) l)) q))
    (cases_Bool (ltb z (length m.atomic))))
    (λ (e : y ≡ z → ⊥). inl (subst (λ (h : Messages). IsSome (message_at b h)) (get_or-set_other m.atomic z y (inserted x (messages m z)) [] e) q))
    (cases_eq y z)

-- a step puts in the message that its event tells
step_found : (m : Memory) (v : ThreadView) (i : ℕ) (a : Access) (c : Choice) (y b : ℕ) → AdmitsChoice m v a c → IsSome (message_at b (messages (step_result m v i a c).memory y))
    → IsSome (message_at b (messages m y)) ⊎ (end_in y (step_result m v i a c).event ≡ Some b)
step_found m v i (NaRead x) Plain y b h q = inl q
step_found m v i (NaWrite x n) Plain y b h q =
    cond_both (is_racy m v x) _ _ (λ (o : StepResult). IsSome (message_at b (messages o.memory y)) → IsSome (message_at b (messages m y)) ⊎ (end_in y o.event ≡ Some b)) (λ _ r. inl r) (λ _ r. inl r) q
step_found m v i (Read z order) (Message to) y b h q = inl q
step_found m v i (Write z order n) (Place from to) y b h q =
    ⊎_elim (λ (r : IsSome (message_at b (messages m y))). inl r) (λ (r : (z ≡ y) × (to ≡ b)). inr (cond-true (eqb z y) (Some to) None (eq-eqb z y r.0) ∙ ap (λ (k : ℕ). Some k) r.1)) (with_found m z y b _ q)
step_found m v i (Update z order kind) (Message to) y b h q =
    cond_both (meets_undef kind (read_at m z to).value) _ _ (λ (o : StepResult). IsSome (message_at b (messages o.memory y)) → IsSome (message_at b (messages m y)) ⊎ (end_in y o.event ≡ Some b)) (λ _ r. inl r) (λ _ r. inl r) q
step_found m v i (Update z order kind) (Take read to) y b h q =
    ⊎_elim (λ (r : IsSome (message_at b (messages m y))). inl r) (λ (r : (z ≡ y) × (to ≡ b)). inr (cond-true (eqb z y) (Some to) None (eq-eqb z y r.0) ∙ ap (λ (k : ℕ). Some k) r.1)) (with_found m z y b _ q)
step_found m v i (Fence order) Plain y b h q = inl q
step_found m v i (Print n) Plain y b h q = inl q
step_found m v i (Fail cause) Plain y b h q = inl q
step_found m v i Finish Plain y b h q = inl q
step_found m v i Spend Plain y b h q = inl q
step_found m v i _ _ y b h q = absurd h

entry_found : (p : Program) (s : State) (e : Entry) (y b : ℕ) → IsRunFrom p s (e ∷ []) → IsSome (message_at b (messages (after_entry p s e).memory y)) → IsSome (message_at b (messages s.memory y)) ⊎ (end_in y e.event ≡ Some b)
entry_found p s e y b h q =
    ⊎_elim
    (λ (d : Spends p s e). inl (subst (λ (t : State). IsSome (message_at b (messages t.memory y))) d.state q))
    (λ (d : Makes p s e).
    let c = choice_of_event e.event in
    ⊎_elim (λ (r : IsSome (message_at b (messages s.memory y))). inl r) (λ (r : end_in y (step_result s.memory (view_in s e.thread) e.thread d.access (choice_of_event e.event)).event ≡ Some b). inr (ap (end_in y) (sym d.event) ∙ r))
    (step_found s.memory (view_in s e.thread) e.thread d.access c y b d.legal.admits (subst (λ (t : State). IsSome (message_at b (messages t.memory y))) d.state q)))
    (entry_done p s e h.0).cases

run_found : (p : Program) (s : State) (entries : List Entry) (y b : ℕ) → IsRunFrom p s entries → IsSome (message_at b (messages (state_after p s entries).memory y)) → IsSome (message_at b (messages s.memory y)) ⊎ HasEnd entries y b
run_found p s [] y b h q = inl q
run_found p s (e ∷ entries) y b h q =
    ⊎_elim
    (λ (r : IsSome (message_at b (messages (after_entry p s e).memory y))).
    ⊎_elim (λ (x : IsSome (message_at b (messages s.memory y))). inl x) (λ (x : end_in y e.event ≡ Some b). inr (inl x)) (entry_found p s e y b (h.0, tt) r))
    (λ (r : HasEnd entries y b). inr (inr r))
    (run_found p (after_entry p s e) entries y b h.1 q)

first_found : (na atomic : List ℤ) (y b : ℕ) → IsSome (message_at b (messages (initial_memory na atomic) y)) → b ≡ 0
first_found na atomic y b q =
    ⊎_elim
    (λ (l : ltb y (length atomic) ≡ true).
    ⊎_elim (λ (e : 0 ≡ b). sym e) (λ (r : IsSome (message_at b [])). absurd (false≢true r))
    (found_more b _ [] (subst (λ (h : Messages). IsSome (message_at b h)) (get_or-map (λ (n : ℤ). first_message (length na + length atomic) n ∷ []) atomic y (pos 0) [] (ltb-true y (length atomic) l)) q)))
    (λ (l : ltb y (length atomic) ≡ false).
    absurd (false≢true (subst (λ (h : Messages). IsSome (message_at b h)) (get_or_past (map (λ (n : ℤ). first_message (length na + length atomic) n ∷ []) atomic) y [] (subst (λ (k : ℕ). k ≤ y) (sym (length-map atomic (λ (n : ℤ). first_message (length na + length atomic) n ∷ []))) (ltb-false y (length atomic) l))) q)))
    (cases_Bool (ltb y (length atomic)))

pub ends_found : (p : Program) (entries : List Entry) (y b : ℕ) → IsRunFrom p (initial_state p) entries → IsSome (message_at b (messages (state_after p (initial_state p) entries).memory y)) → (b ≡ 0) ⊎ HasEnd entries y b
ends_found p entries y b h q =
    ⊎_elim (λ (r : IsSome (message_at b (messages (initial_state p).memory y))). inl (first_found (declared_values p.na) (declared_values p.atomic) y b r)) (λ (r : HasEnd entries y b). inr r) (run_found p (initial_state p) entries y b h q)
