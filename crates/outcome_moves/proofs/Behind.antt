-- Where a message is put in after room was made, it is legal where the next number is free without that room, and its event is told
-- by the memory without the room.
use Rattle.std.proofs.Common.{◌≡◌, ⊎_elim, ℕ, pos, ◌+◌, ◌<◌, ◌≤◌, max, min, Bool, true, false, cond, not, ◌&&◌, eqb, ltb, List, [], ◌∷◌, length, map, get_or, set, Option, None, Some, refl, sym, ap, ◌∙◌, subst, arith}
use Rattle.std.specs.Prelude.{IsSomeAnd}
use Rattle.std.specs.Option.{unwrap_or, option_map}
use Rattle.std.proofs.lemmas.Bool.{cases_lt, cond-true, cond-false, lt-ltb, le-ltb, eq-eqb, ne_eqb, true≢false, false≢true}
use Rattle.std.proofs.lemmas.List.{get_or-set_same, set_past, get_or_past}
use Rattle.values_undef.specs.Access.{leaves_choice}
use Rattle.values_undef.specs.declared.value.Val.{Val}
use Rattle.values_undef.specs.declared.access.Order.{Order}
use Rattle.values_undef.specs.declared.access.UpdateKind.{UpdateKind}
use Rattle.values_undef.specs.declared.access.Access.{Access}
use Rattle.values_undef.specs.declared.access.Access.TheVariants.{NaRead, NaWrite, Read, Write, Update, Fence, Print, Fail, Finish, Spend}
use Rattle.values_undef.specs.declared.access.Choice.TheVariants.{Plain, Message, Place, Take}
use Rattle.values_undef.specs.declared.access.Event.TheVariants as event
use Rattle.views.specs.ThreadView.{ThreadView}
use Rattle.message_memory.specs.declared.message.Message.{Message as TheMessage}
use Rattle.message_memory.specs.Memory.{Memory, Messages, messages, message_at, overlaps, is_free, view_index, first_message}
use Rattle.message_memory.specs.Step.{AdmitsChoice, IsLegal, IsProper, StepResult, step_result, read_at, timestamp_in, succeeds, meets_undef, updated}
use Rattle.memory_likeness.specs.Moved.{opened, moved, moved_view}
use Rattle.memory_likeness.specs.Answering.{puts_in, made_room, view_with_room, choice_behind}
use Rattle.memory_likeness.proofs.Callers.{moved_message, messages_moved}
use Rattle.outcome_moves.specs.Behind.{update_behind, event_behind, choice_close}

opened_low : (b x : ℕ) → x ≤ b → opened b x ≡ x
opened_low b x l = cond-false (ltb b x) (x + 2) x (le-ltb b x l)

opened_high : (b x : ℕ) → b < x → opened b x ≡ x + 2
opened_high b x l = cond-true (ltb b x) (x + 2) x (lt-ltb b x l)

-- ---- messages

module _ (b : ℕ) (f : TheMessage → TheMessage) (ends : (n : TheMessage) → (f n).to ≡ opened b n.to) (begins : (n : TheMessage) → (f n).from ≡ opened b n.from) where
  end_kept : (n : TheMessage) → eqb (f n).to b ≡ eqb n.to b
  end_kept n =
      ⊎_elim
      (λ (l : b < n.to). ne_eqb (f n).to b (λ e. omega (arith, e, ends n, opened_high b n.to l)) ∙ sym (ne_eqb n.to b (λ e. omega (arith, e, l))))
      (λ (l : n.to ≤ b). ap (λ (x : ℕ). eqb x b) (ends n ∙ opened_low b n.to l))
      (cases_lt b n.to)

  found_kept : (h : Messages) → message_at b (map f h) ≡ option_map f (message_at b h)
  found_kept [] = refl
  found_kept (n ∷ h) =
      ap (λ (x : Bool). cond x (Some (f n)) (message_at b (map f h))) (end_kept n) ∙ ap (λ (o : Option TheMessage). cond (eqb n.to b) (Some (f n)) o) (found_kept h) ∙ both (eqb n.to b)
    where
      both : (x : Bool) → cond x (Some (f n)) (option_map f (message_at b h)) ≡ option_map f (cond x (Some n) (message_at b h))
      both true = refl
      both false = refl

  over_kept : (c : ℕ) → b ≤ c → c ≤ b + 1 → (n : TheMessage) → overlaps c (b + 2) (f n) ≡ overlaps b (b + 1) n
  over_kept c low high n =
      ⊎_elim
      (λ (l : b < n.to).
      ⊎_elim
      (λ (k : b < n.from).
      le-ltb (max c (f n).from) (min (b + 2) (f n).to) (omega (arith, begins n, opened_high b n.from k)) ∙ sym (le-ltb (max b n.from) (min (b + 1) n.to) (omega (arith, k))))
      (λ (k : n.from ≤ b).
      lt-ltb (max c (f n).from) (min (b + 2) (f n).to) (omega (arith, begins n, opened_low b n.from k, ends n, opened_high b n.to l, low, high, k, l))
      ∙ sym (lt-ltb (max b n.from) (min (b + 1) n.to) (omega (arith, k, l))))
      (cases_lt b n.from))
      (λ (l : n.to ≤ b).
      le-ltb (max c (f n).from) (min (b + 2) (f n).to) (omega (arith, ends n, opened_low b n.to l, low, l)) ∙ sym (le-ltb (max b n.from) (min (b + 1) n.to) (omega (arith, l))))
      (cases_lt b n.to)

  free_kept : (c : ℕ) → b ≤ c → c ≤ b + 1 → (h : Messages) → is_free c (b + 2) (map f h) ≡ is_free b (b + 1) h
  free_kept c low high [] = refl
  free_kept c low high (n ∷ h) =
      ap (λ (x : Bool). not x && is_free c (b + 2) (map f h)) (over_kept c low high n) ∙ ap (λ (x : Bool). not (overlaps b (b + 1) n) && x) (free_kept c low high h)

-- ---- the memory with the room

-- a number at an index, and no other
at_place : (b i : ℕ) (times : List ℕ) → get_or (set times i (opened b (get_or times i 0))) i 0 ≡ opened b (get_or times i 0)
at_place b i times =
    ⊎_elim
    (λ (l : i < length times). get_or-set_same times i (opened b (get_or times i 0)) 0 l)
    (λ (l : length times ≤ i).
    let none : get_or times i 0 ≡ 0 = get_or_past times i 0 l in
    ap (λ (xs : List ℕ). get_or xs i 0) (set_past times i (opened b (get_or times i 0)) l) ∙ none ∙ sym (ap (opened b) none ∙ opened_low b 0 (omega arith)))
    (cases_lt i (length times))

module _ (m : Memory) (v : ThreadView) (y b : ℕ) (there : y < length m.atomic) where
  abbrev m' : Memory
  m' = moved m y (opened b)

  abbrev v' : ThreadView
  v' = moved_view (view_index m y) (opened b) v

  abbrev f : TheMessage → TheMessage
  f = moved_message (view_index m y) y (opened b) y

  here : (t : ℕ) → cond (eqb y y) (opened b t) t ≡ opened b t
  here t = cond-true (eqb y y) (opened b t) t (eq-eqb y y refl)

  listed : messages m' y ≡ map f (messages m y)
  listed = messages_moved m y (opened b) y there

  seen : timestamp_in m' v' y ≡ opened b (timestamp_in m v y)
  seen = at_place b (view_index m y) v.cur

  found : message_at b (messages m' y) ≡ option_map f (message_at b (messages m y))
  found = ap (message_at b) listed ∙ found_kept b f (λ n. here n.to) (λ n. here n.from) (messages m y)

  free : (c : ℕ) → b ≤ c → c ≤ b + 1 → is_free c (b + 2) (messages m' y) ≡ is_free b (b + 1) (messages m y)
  free c low high = ap (is_free c (b + 2)) listed ∙ free_kept b f (λ n. here n.to) (λ n. here n.from) c low high (messages m y)

  pub value_kept : (read_at (moved m y (opened b)) y b).value ≡ (read_at m y b).value
  value_kept = ap (λ (o : Option TheMessage). (unwrap_or o (first_message 0 (pos 0))).value) found ∙ same (message_at b (messages m y))
    where
      same : (o : Option TheMessage) → (unwrap_or (option_map f o) (first_message 0 (pos 0))).value ≡ (unwrap_or o (first_message 0 (pos 0))).value
      same None = refl
      same (Some x) = refl

  low_seen : timestamp_in m' v' y ≤ b → timestamp_in m v y ≤ b
  low_seen h = ⊎_elim (λ (l : b < timestamp_in m v y). absurd (omega (arith, h, l, seen, opened_high b (timestamp_in m v y) l))) (λ (l : timestamp_in m v y ≤ b). l) (cases_lt b (timestamp_in m v y))

  seen_low : timestamp_in m v y ≤ b → timestamp_in m' v' y ≤ b
  seen_low l = omega (arith, l, seen, opened_low b (timestamp_in m v y) l)

  write_closer : (order : Order) (n : Val) → AdmitsChoice m' v' (Write y order n) (Place (b + 1) (b + 2)) → AdmitsChoice m v (Write y order n) (Place b (b + 1))
  write_closer order n h = (
    omega arith,
    ⊎_elim (λ (l : b < timestamp_in m v y). absurd (omega (arith, h.1, l, seen, opened_high b (timestamp_in m v y) l))) (λ (l : timestamp_in m v y ≤ b). omega (arith, l)) (cases_lt b (timestamp_in m v y)),
    sym (free (b + 1) (omega arith) (omega arith)) ∙ h.2,
  )

  write_opened : (order : Order) (n : Val) → AdmitsChoice m v (Write y order n) (Place b (b + 1)) → AdmitsChoice m' v' (Write y order n) (Place (b + 1) (b + 2))
  write_opened order n h = (
    omega arith,
    (let l : timestamp_in m v y ≤ b = omega (arith, h.1) in omega (arith, seen_low l)),
    free (b + 1) (omega arith) (omega arith) ∙ h.2,
  )

  take_closer : (order : Order) (kind : UpdateKind) → AdmitsChoice m' v' (Update y order kind) (Take b (b + 2)) → AdmitsChoice m v (Update y order kind) (Take b (b + 1))
  take_closer order kind h = (
    low_seen h.0,
    omega arith,
    sym (free b (omega arith) (omega arith)) ∙ h.2,
    back (message_at b (messages m y)) (subst (λ (o : Option TheMessage). IsSomeAnd o (λ old. succeeds kind old.value ≡ true)) found h.3),
  )
    where
      back : (o : Option TheMessage) → IsSomeAnd (option_map f o) (λ old. succeeds kind old.value ≡ true) → IsSomeAnd o (λ old. succeeds kind old.value ≡ true)
      back None q = q
      back (Some x) q = q

  take_opened : (order : Order) (kind : UpdateKind) → AdmitsChoice m v (Update y order kind) (Take b (b + 1)) → AdmitsChoice m' v' (Update y order kind) (Take b (b + 2))
  take_opened order kind h = (
    seen_low h.0,
    omega arith,
    free b (omega arith) (omega arith) ∙ h.2,
    subst (λ (o : Option TheMessage). IsSomeAnd o (λ old. succeeds kind old.value ≡ true)) (sym found) (forth (message_at b (messages m y)) h.3),
  )
    where
      forth : (o : Option TheMessage) → IsSomeAnd o (λ old. succeeds kind old.value ≡ true) → IsSomeAnd (option_map f o) (λ old. succeeds kind old.value ≡ true)
      forth None q = q
      forth (Some x) q = q

  update_closer : (order : Order) (kind : UpdateKind) (s : Bool) → IsLegal (cond s (moved m y (opened b)) m) (cond s (moved_view (view_index m y) (opened b) v) v) (Update y order kind) (cond s (Take b (b + 2)) (Message b))
      → IsLegal m v (Update y order kind) (cond s (Take b (b + 1)) (Message b))
  update_closer order kind true h = record { running = h.running; admits = take_closer order kind h.admits }
  update_closer order kind false h = h

  update_opened : (order : Order) (kind : UpdateKind) (s : Bool) → IsLegal m v (Update y order kind) (cond s (Take b (b + 1)) (Message b))
      → IsLegal (cond s (moved m y (opened b)) m) (cond s (moved_view (view_index m y) (opened b) v) v) (Update y order kind) (cond s (Take b (b + 2)) (Message b))
  update_opened order kind true h = record { running = h.running; admits = take_opened order kind h.admits }
  update_opened order kind false h = h

-- ---- legal with the room, legal without

pub legal_close : (m : Memory) (v : ThreadView) (a : Access) (b : ℕ) → IsProper m a → IsLegal (made_room m a b) (view_with_room m v a b) a (choice_behind m a b) → IsLegal m v a (choice_close m a b)
legal_close m v (NaRead x) b p h = h
legal_close m v (NaWrite x n) b p h = h
legal_close m v (Read y order) b p h = h
legal_close m v (Write y order n) b p h = record { running = h.running; admits = write_closer m v y b p.0 order n h.admits }
legal_close m v (Update y order kind) b p h = update_closer m v y b p order kind (succeeds kind (read_at m y b).value) h
legal_close m v (Fence order) b p h = h
legal_close m v (Print n) b p h = h
legal_close m v (Fail c) b p h = h
legal_close m v Finish b p h = h
legal_close m v Spend b p h = h

pub legal_opened : (m : Memory) (v : ThreadView) (a : Access) (b : ℕ) → IsProper m a → IsLegal m v a (choice_close m a b) → IsLegal (made_room m a b) (view_with_room m v a b) a (choice_behind m a b)
legal_opened m v (NaRead x) b p h = h
legal_opened m v (NaWrite x n) b p h = h
legal_opened m v (Read y order) b p h = h
legal_opened m v (Write y order n) b p h = record { running = h.running; admits = write_opened m v y b p.0 order n h.admits }
legal_opened m v (Update y order kind) b p h = update_opened m v y b p order kind (succeeds kind (read_at m y b).value) h
legal_opened m v (Fence order) b p h = h
legal_opened m v (Print n) b p h = h
legal_opened m v (Fail c) b p h = h
legal_opened m v Finish b p h = h
legal_opened m v Spend b p h = h

-- ---- the event

update_same : (m : Memory) (v w : ThreadView) (i y b : ℕ) (order : Order) (kind : UpdateKind) (s : Bool) → y < length m.atomic → succeeds kind (read_at m y b).value ≡ s
    → (step_result (cond s (moved m y (opened b)) m) w i (Update y order kind) (cond s (Take b (b + 2)) (Message b))).event ≡ update_behind y order kind (read_at m y b).value b
update_same m v w i y b order kind true l e =
    ap (λ (x : Val). event.Update y order x (updated kind x) b (b + 2)) (value_kept m v y b l) ∙ sym (cond-true (succeeds kind (read_at m y b).value) _ _ e)
update_same m v w i y b order kind false l e = either (meets_undef kind (read_at m y b).value) _ _ refl refl ∙ sym (cond-false (succeeds kind (read_at m y b).value) _ _ e)
  where
    either : (x : Bool) (o r : StepResult) → o.event ≡ event.FailCompare y b → r.event ≡ event.Miss y order (read_at m y b).value b → (cond x o r).event ≡ cond x (event.FailCompare y b) (event.Miss y order (read_at m y b).value b)
    either true o r p q = p
    either false o r p q = q

pub event_same : (m : Memory) (w : ThreadView) (i : ℕ) (a : Access) (b : ℕ) → IsProper m a → leaves_choice a ≡ true → (step_result (made_room m a b) w i a (choice_behind m a b)).event ≡ event_behind m a b
event_same m w i (NaRead x) b p h = absurd (false≢true h)
event_same m w i (NaWrite x n) b p h = absurd (false≢true h)
event_same m w i (Read y order) b p h = refl
event_same m w i (Write y order n) b p h = refl
event_same m w i (Update y order kind) b p h = update_same m w w i y b order kind (succeeds kind (read_at m y b).value) p refl
event_same m w i (Fence order) b p h = absurd (false≢true h)
event_same m w i (Print n) b p h = absurd (false≢true h)
event_same m w i (Fail c) b p h = absurd (false≢true h)
event_same m w i Finish b p h = absurd (false≢true h)
event_same m w i Spend b p h = absurd (false≢true h)

-- ---- where nothing is chosen

pub plain_legal : (m : Memory) (v : ThreadView) (a : Access) → leaves_choice a ≡ false → m.failed ≡ false → IsLegal m v a Plain
plain_legal m v (NaRead x) h r = record { running = r; admits = tt }
plain_legal m v (NaWrite x n) h r = record { running = r; admits = tt }
plain_legal m v (Read y order) h r = absurd (true≢false h)
plain_legal m v (Write y order n) h r = absurd (true≢false h)
plain_legal m v (Update y order kind) h r = absurd (true≢false h)
plain_legal m v (Fence order) h r = record { running = r; admits = tt }
plain_legal m v (Print n) h r = record { running = r; admits = tt }
plain_legal m v (Fail c) h r = record { running = r; admits = tt }
plain_legal m v Finish h r = record { running = r; admits = tt }
plain_legal m v Spend h r = record { running = r; admits = tt }

pub plain_choice : (m : Memory) (a : Access) (b : ℕ) → leaves_choice a ≡ false → choice_behind m a b ≡ Plain
plain_choice m (NaRead x) b h = refl
plain_choice m (NaWrite x n) b h = refl
plain_choice m (Read y order) b h = absurd (true≢false h)
plain_choice m (Write y order n) b h = absurd (true≢false h)
plain_choice m (Update y order kind) b h = absurd (true≢false h)
plain_choice m (Fence order) b h = refl
plain_choice m (Print n) b h = refl
plain_choice m (Fail c) b h = refl
plain_choice m Finish b h = refl
plain_choice m Spend b h = refl

pub plain_puts : (m : Memory) (a : Access) (b : ℕ) → leaves_choice a ≡ false → puts_in m a b ≡ false
plain_puts m (NaRead x) b h = refl
plain_puts m (NaWrite x n) b h = refl
plain_puts m (Read y order) b h = absurd (true≢false h)
plain_puts m (Write y order n) b h = absurd (true≢false h)
plain_puts m (Update y order kind) b h = absurd (true≢false h)
plain_puts m (Fence order) b h = refl
plain_puts m (Print n) b h = refl
plain_puts m (Fail c) b h = refl
plain_puts m Finish b h = refl
plain_puts m Spend b h = refl
