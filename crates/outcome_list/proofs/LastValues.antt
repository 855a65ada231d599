-- What the entries of a run tell of its last values is what its last memory has.
use Rattle.std.proofs.Common.{◌≡◌, ⊎_elim, ℕ, ℤ, pos, ◌+◌, ◌<◌, ◌≤◌, true, false, eqb, ltb, cond, List, [], ◌∷◌, ◌++◌, length, map, get_or, set, refl, sym, ap, ◌∙◌, subst, arith}
use Rattle.std.specs.List.{range_with_len}
use Rattle.std.proofs.lemmas.Bool.{cases_Bool, cases_eq, cond-true, cond-false, cond_both, eq-eqb, ne_eqb, ltb-true, ltb-false}
use Rattle.std.proofs.lemmas.List.{get_or-set_same, get_or-set_other, get_or_past, length-map, length-set, get_or-map, ext_get_or}
use Rattle.std.proofs.lemmas.List.FromFn.{length-map-range_with_len, get_or-map-range_with_len}
use Rattle.values_undef.specs.Access.{choice_of_event}
use Rattle.values_undef.specs.declared.value.Val.{Val}
use Rattle.values_undef.specs.declared.value.Val.TheVariants.{Def, Undef}
use Rattle.values_undef.specs.declared.access.Access.{Access}
use Rattle.values_undef.specs.declared.access.Access.TheVariants.{NaRead, NaWrite, Read, Write, Update, Fence, Print, Fail, Finish, Spend}
use Rattle.values_undef.specs.declared.access.Choice.{Choice}
use Rattle.values_undef.specs.declared.access.Choice.TheVariants.{Plain, Message, Place, Take}
use Rattle.values_undef.specs.declared.access.Event.{Event}
use Rattle.values_undef.specs.declared.journal.Entry.{Entry}
use Rattle.il_syntax.specs.declared.program.Program.{Program}
use Rattle.views.specs.ThreadView.{ThreadView}
use Rattle.message_memory.specs.declared.message.Message.{Message as TheMessage}
use Rattle.message_memory.specs.declared.message.Versioned.{Versioned}
use Rattle.message_memory.specs.Memory.{Memory, Messages, messages, absent_location, location_in, inserted, with_message, first_message, initial_memory, last_to}
use Rattle.message_memory.specs.Step.{AdmitsChoice, StepResult, step_result, is_racy, meets_undef, read_at}
use Rattle.thread_core.specs.Programs.{IsProperProgram}
use Rattle.view_machine.specs.State.{State, view_in, initial_state, declared_values}
use Rattle.view_machine.specs.Runs.{after_entry, IsRunFrom, IsJournalRun, state_after}
use Rattle.view_machine.specs.Laws.{IsReached}
use Rattle.view_machine.proofs.Callers.{states_whole}
use Rattle.outcome_nodes.specs.Outcome.{last_value, final_values}
use Rattle.outcome_nodes.proofs.Callers.{Spends, Makes, entry_done}
use Rattle.outcome_list.specs.declared.values.Newest.{Newest}
use Rattle.outcome_list.specs.Values.{stored_after, newer, newest_after, value_at_end, newest_at_end, last_value_of, first_newest, newest_value_of}

-- ---- non-atomic locations

record HasValue (m : Memory) (x : ℕ) (v : Val) : Type 0 where
  there : x < length m.na
  is : (location_in m x).value ≡ v

stored : (m : Memory) (x z n : ℕ) (v w : Val) → HasValue m x v → HasValue (record m { na = set m.na z (record { value = w; version = n }) }) x (cond (eqb z x) w v)
stored m x z n v w h = record { there = subst (λ (k : ℕ). x < k) (sym (length-set m.na z (record { value = w; version = n }))) h.there; is = here }
  where
    new : Versioned
    new = record { value = w; version = n }

    here : (get_or (set m.na z new) x absent_location).value ≡ cond (eqb z x) w v
    here =
        ⊎_elim
        (λ (e : z ≡ x).
        ap (λ (c : Versioned). c.value) (subst (λ (k : ℕ). get_or (set m.na k new) x absent_location ≡ new) (sym e) (get_or-set_same m.na x new absent_location h.there)) ∙ sym (cond-true (eqb z x) w v (eq-eqb z x e)))
        (λ (e : z ≡ x → ⊥).
        ap (λ (c : Versioned). c.value) (get_or-set_other m.na z x new absent_location (λ (q : x ≡ z). e (sym q))) ∙ h.is ∙ sym (cond-false (eqb z x) w v (ne_eqb z x e)))
        (cases_eq z x)

step_value : (m : Memory) (t : ThreadView) (i : ℕ) (a : Access) (c : Choice) (x : ℕ) (v : Val) → AdmitsChoice m t a c → HasValue m x v → HasValue (step_result m t i a c).memory x (stored_after x v (step_result m t i a c).event)
step_value m t i (NaRead z) Plain x v h q = q
step_value m t i (NaWrite z n) Plain x v h q =
    cond_both (is_racy m t z) _ _ (λ (o : StepResult). HasValue o.memory x (stored_after x v o.event)) (λ _. record { there = q.there; is = q.is }) (λ _. stored m x z ((location_in m z).version + 1) v n q)
step_value m t i (Read z order) (Message to) x v h q = q
step_value m t i (Write z order n) (Place from to) x v h q = record { there = q.there; is = q.is }
step_value m t i (Update z order kind) (Message to) x v h q =
    cond_both (meets_undef kind (read_at m z to).value) _ _ (λ (o : StepResult). HasValue o.memory x (stored_after x v o.event)) (λ _. record { there = q.there; is = q.is }) (λ _. q)
step_value m t i (Update z order kind) (Take read to) x v h q = record { there = q.there; is = q.is }
step_value m t i (Fence order) Plain x v h q = q
step_value m t i (Print n) Plain x v h q = record { there = q.there; is = q.is }
step_value m t i (Fail cause) Plain x v h q = record { there = q.there; is = q.is }
step_value m t i Finish Plain x v h q = q
step_value m t i Spend Plain x v h q = q
step_value m t i _ _ x v h q = absurd h

-- ---- atomic locations

record HasNewest (h : Messages) (n : Newest) : Type 0 where
  some : 1 ≤ length h
  to : last_to h ≡ n.to
  value : last_value h ≡ n.value

put_in : (h : Messages) (x : TheMessage) (n : Newest) → HasNewest h n → HasNewest (inserted x h) (newer n (record { to = x.to; value = x.value }))
put_in [] x n q = absurd (omega (arith, q.some))
put_in (m ∷ h) x n q =
    let same : ltb m.to x.to ≡ ltb n.to x.to = ap (λ (k : ℕ). ltb k x.to) q.to in
    ⊎_elim
    (λ (l : ltb m.to x.to ≡ true).
    subst (λ (k : Messages). HasNewest k (newer n (record { to = x.to; value = x.value }))) (sym (cond-true (ltb m.to x.to) (x ∷ m ∷ h) (m ∷ inserted x h) l))
    (subst (λ (k : Newest). HasNewest (x ∷ m ∷ h) k) (sym (cond-true (ltb n.to x.to) (record { to = x.to; value = x.value }) n (sym same ∙ l))) (record { some = omega arith; to = refl; value = refl })))
    (λ (l : ltb m.to x.to ≡ false).
    subst (λ (k : Messages). HasNewest k (newer n (record { to = x.to; value = x.value }))) (sym (cond-false (ltb m.to x.to) (x ∷ m ∷ h) (m ∷ inserted x h) l))
    (subst (λ (k : Newest). HasNewest (m ∷ inserted x h) k) (sym (cond-false (ltb n.to x.to) (record { to = x.to; value = x.value }) n (sym same ∙ l))) (record { some = omega arith; to = q.to; value = q.value })))
    (cases_Bool (ltb m.to x.to))

with_newest : (m : Memory) (z y : ℕ) (x : TheMessage) (n : Newest) → HasNewest (messages m y) n → HasNewest (messages (with_message m z x) y) (cond (eqb z y) (newer n (record { to = x.to; value = x.value })) n)
with_newest m z y x n q =
    ⊎_elim
    (λ (e : y ≡ z).
    ⊎_elim
    (λ (l : ltb z (length m.atomic) ≡ true).
    let here : messages (with_message m z x) y ≡ inserted x (messages m y) =
    ap (λ (k : ℕ). messages (with_message m z x) k) e ∙ get_or-set_same m.atomic z (inserted x (messages m z)) [] (ltb-true z (length m.atomic) l) ∙ ap (λ (k : ℕ). inserted x (messages m k)) (sym e) in
    subst (λ (k : Messages). HasNewest k (cond (eqb z y) (newer n (record { to = x.to; value = x.value })) n)) (sym here)
    (subst (λ (k : Newest). HasNewest (inserted x (messages m y)) k) (sym (cond-true (eqb z y) _ n (eq-eqb z y (sym e)))) (put_in (messages m y) x n q)))
    (λ (l : ltb z (length m.atomic) ≡ false).
    let none : messages m y ≡ [] = get_or_past m.atomic y [] (subst (λ (k : ℕ). length m.atomic ≤ k) (sym e) (ltb-false z (length m.atomic) l)) in
    absurd (omega (arith, q.some, ap length none)))
    (cases_Bool (ltb z (length m.atomic))))
    (λ (e : y ≡ z → ⊥).
    subst (λ (k : Messages). HasNewest k (cond (eqb z y) (newer n (record { to = x.to; value = x.value })) n)) (sym (get_or-set_other m.atomic z y (inserted x (messages m z)) [] e))
    (subst (λ (k : Newest). HasNewest (messages m y) k) (sym (cond-false (eqb z y) _ n (ne_eqb z y (λ (f : z ≡ y). e (sym f))))) q))
    (cases_eq y z)

step_newest : (m : Memory) (t : ThreadView) (i : ℕ) (a : Access) (c : Choice) (y : ℕ) (n : Newest) → AdmitsChoice m t a c → HasNewest (messages m y) n
    → HasNewest (messages (step_result m t i a c).memory y) (newest_after y n (step_result m t i a c).event)
step_newest m t i (NaRead z) Plain y n h q = q
step_newest m t i (NaWrite z v) Plain y n h q = cond_both (is_racy m t z) _ _ (λ (o : StepResult). HasNewest (messages o.memory y) (newest_after y n o.event)) (λ _. q) (λ _. q)
step_newest m t i (Read z order) (Message to) y n h q = q
step_newest m t i (Write z order v) (Place from to) y n h q = with_newest m z y _ n q
step_newest m t i (Update z order kind) (Message to) y n h q =
    cond_both (meets_undef kind (read_at m z to).value) _ _ (λ (o : StepResult). HasNewest (messages o.memory y) (newest_after y n o.event)) (λ _. q) (λ _. q)
step_newest m t i (Update z order kind) (Take read to) y n h q = with_newest m z y _ n q
step_newest m t i (Fence order) Plain y n h q = q
step_newest m t i (Print v) Plain y n h q = q
step_newest m t i (Fail cause) Plain y n h q = q
step_newest m t i Finish Plain y n h q = q
step_newest m t i Spend Plain y n h q = q
step_newest m t i _ _ y n h q = absurd h

-- ---- runs

entry_value : (p : Program) (s : State) (e : Entry) (x : ℕ) (v : Val) → IsRunFrom p s (e ∷ []) → HasValue s.memory x v → HasValue (after_entry p s e).memory x (stored_after x v e.event)
entry_value p s e x v h q =
    ⊎_elim
    (λ (d : Spends p s e). subst (λ (t : State). HasValue t.memory x (stored_after x v e.event)) (sym d.state) (subst (λ (f : Event). HasValue s.memory x (stored_after x v f)) (sym d.event) q))
    (λ (d : Makes p s e).
    subst (λ (t : State). HasValue t.memory x (stored_after x v e.event)) (sym d.state)
    (subst (λ (f : Event). HasValue (step_result s.memory (view_in s e.thread) e.thread d.access (choice_of_event e.event)).memory x (stored_after x v f)) d.event
    (step_value s.memory (view_in s e.thread) e.thread d.access (choice_of_event e.event) x v d.legal.admits q)))
    (entry_done p s e h.0).cases

run_value : (p : Program) (s : State) (entries : List Entry) (x : ℕ) (v : Val) → IsRunFrom p s entries → HasValue s.memory x v → HasValue (state_after p s entries).memory x (value_at_end x v entries)
run_value p s [] x v h q = q
run_value p s (e ∷ entries) x v h q = run_value p (after_entry p s e) entries x (stored_after x v e.event) h.1 (entry_value p s e x v (h.0, tt) q)

entry_newest : (p : Program) (s : State) (e : Entry) (y : ℕ) (n : Newest) → IsRunFrom p s (e ∷ []) → HasNewest (messages s.memory y) n → HasNewest (messages (after_entry p s e).memory y) (newest_after y n e.event)
entry_newest p s e y n h q =
    ⊎_elim
    (λ (d : Spends p s e). subst (λ (t : State). HasNewest (messages t.memory y) (newest_after y n e.event)) (sym d.state) (subst (λ (f : Event). HasNewest (messages s.memory y) (newest_after y n f)) (sym d.event) q))
    (λ (d : Makes p s e).
    subst (λ (t : State). HasNewest (messages t.memory y) (newest_after y n e.event)) (sym d.state)
    (subst (λ (f : Event). HasNewest (messages (step_result s.memory (view_in s e.thread) e.thread d.access (choice_of_event e.event)).memory y) (newest_after y n f)) d.event
    (step_newest s.memory (view_in s e.thread) e.thread d.access (choice_of_event e.event) y n d.legal.admits q)))
    (entry_done p s e h.0).cases

run_newest : (p : Program) (s : State) (entries : List Entry) (y : ℕ) (n : Newest) → IsRunFrom p s entries → HasNewest (messages s.memory y) n → HasNewest (messages (state_after p s entries).memory y) (newest_at_end y n entries)
run_newest p s [] y n h q = q
run_newest p s (e ∷ entries) y n h q = run_newest p (after_entry p s e) entries y (newest_after y n e.event) h.1 (entry_newest p s e y n (h.0, tt) q)

-- ---- all of them

first_value : (na atomic : List ℤ) (x : ℕ) → x < length na → HasValue (initial_memory na atomic) x (Def (get_or na x (pos 0)))
first_value na atomic x l = record {
  there = subst (λ (k : ℕ). x < k) (sym (length-map na (λ (n : ℤ). let c : Versioned = record { value = Def n; version = 0 } in c))) l;
  is = ap (λ (c : Versioned). c.value) (get_or-map (λ (n : ℤ). let c : Versioned = record { value = Def n; version = 0 } in c) na x (pos 0) absent_location l);
}

opening_newest : (na atomic : List ℤ) (y : ℕ) → y < length atomic → HasNewest (messages (initial_memory na atomic) y) (first_newest (get_or atomic y (pos 0)))
opening_newest na atomic y l =
    subst (λ (h : Messages). HasNewest h (first_newest (get_or atomic y (pos 0)))) (sym (get_or-map (λ (n : ℤ). first_message (length na + length atomic) n ∷ []) atomic y (pos 0) [] l)) (record { some = omega arith; to = refl; value = refl })

pub last_values : (p : Program) (entries : List Entry) → IsProperProgram p → IsJournalRun p entries
    → map (last_value_of (declared_values p.na) entries) (range_with_len 0 (length (declared_values p.na))) ++ map (newest_value_of (declared_values p.atomic) entries) (range_with_len 0 (length (declared_values p.atomic)))
    ≡ final_values (state_after p (initial_state p) entries).memory
last_values p entries ok run = λ i. na_is i ++ atomic_is i
  where
    na : List ℤ
    na = declared_values p.na

    atomic : List ℤ
    atomic = declared_values p.atomic

    m : Memory
    m = (state_after p (initial_state p) entries).memory

    whole : IsReached p (state_after p (initial_state p) entries)
    whole = states_whole p entries (state_after p (initial_state p) entries) ok (record { run = run; state = refl })

    many_na : length m.na ≡ length na
    many_na = whole.na ∙ sym (length-map p.na (λ l. l.value))

    many_atomic : length m.atomic ≡ length atomic
    many_atomic = whole.atomic ∙ sym (length-map p.atomic (λ l. l.value))

    value_is : (x : ℕ) → x < length na → (location_in m x).value ≡ last_value_of na entries x
    value_is x l = (run_value p (initial_state p) entries x (Def (get_or na x (pos 0))) run (first_value na atomic x l)).is

    newest_is : (y : ℕ) → y < length atomic → last_value (messages m y) ≡ newest_value_of atomic entries y
    newest_is y l = (run_newest p (initial_state p) entries y (first_newest (get_or atomic y (pos 0))) run (opening_newest na atomic y l)).value

    na_is : map (last_value_of na entries) (range_with_len 0 (length na)) ≡ map (λ (c : Versioned). c.value) m.na
    na_is =
        let a = length-map-range_with_len (last_value_of na entries) 0 (length na) in
        let b = length-map m.na (λ (c : Versioned). c.value) in
        ext_get_or Undef (map (last_value_of na entries) (range_with_len 0 (length na))) (map (λ (c : Versioned). c.value) m.na) (omega (arith, a, b, many_na))
        (λ x l.
        let in_na : x < length na = omega (arith, l, a) in
        get_or-map-range_with_len (last_value_of na entries) 0 (length na) x x Undef in_na (omega arith) ∙ sym (value_is x in_na) ∙ sym (get_or-map (λ (c : Versioned). c.value) m.na x absent_location Undef (omega (arith, in_na, many_na))))

    atomic_is : map (newest_value_of atomic entries) (range_with_len 0 (length atomic)) ≡ map last_value m.atomic
    atomic_is =
        let a = length-map-range_with_len (newest_value_of atomic entries) 0 (length atomic) in
        let b = length-map m.atomic last_value in
        ext_get_or Undef (map (newest_value_of atomic entries) (range_with_len 0 (length atomic))) (map last_value m.atomic) (omega (arith, a, b, many_atomic))
        (λ y l.
        let in_atomic : y < length atomic = omega (arith, l, a) in
        get_or-map-range_with_len (newest_value_of atomic entries) 0 (length atomic) y y Undef in_atomic (omega arith) ∙ sym (newest_is y in_atomic) ∙ sym (get_or-map last_value m.atomic y [] Undef (omega (arith, in_atomic, many_atomic))))

-- what the code puts together
pub values_made : (p : Program) (entries : List Entry) (na atomic : List ℤ) (none first both : List Val) → IsProperProgram p → IsJournalRun p entries → na ≡ declared_values p.na → atomic ≡ declared_values p.atomic → none ≡ []
    → first ≡ none ++ map (last_value_of na entries) (range_with_len 0 (length na)) → both ≡ first ++ map (newest_value_of atomic entries) (range_with_len 0 (length atomic))
    → both ≡ final_values (state_after p (initial_state p) entries).memory
values_made p entries na atomic none first both ok run a b e f g =
    g ∙ (λ i. (f ∙ (λ j. e j ++ map (last_value_of (a j) entries) (range_with_len 0 (length (a j))))) i ++ map (newest_value_of (b i) entries) (range_with_len 0 (length (b i)))) ∙ last_values p entries ok run
