-- A step of a memory is a step with moved timestamps.
use Rattle.std.proofs.Common.{◌≡◌, ⊎_elim, ℕ, ◌+◌, ◌<◌, ◌≤◌, Bool, true, false, cond, ltb, List, length, get_or, set, Option, refl, sym, ap, ◌∙◌, subst, arith}
use Rattle.std.proofs.lemmas.Bool.{cases_eq}
use Rattle.std.proofs.lemmas.List.{length-set}
use Rattle.std.specs.Option.{unwrap_or, option_map, IsSome}
use Rattle.std.specs.Prelude.{pos}
use Rattle.values_undef.specs.Access.{acquires, releases}
use Rattle.values_undef.specs.declared.value.Val.{Val}
use Rattle.values_undef.specs.declared.access.Order.{Order}
use Rattle.values_undef.specs.declared.access.UpdateKind.{UpdateKind}
use Rattle.values_undef.specs.declared.access.Access.{Access}
use Rattle.values_undef.specs.declared.access.Access.TheVariants.{NaRead, NaWrite, Read, Write, Update, Fence, Print, Fail, Finish, Spend}
use Rattle.values_undef.specs.declared.access.Choice.{Choice}
use Rattle.values_undef.specs.declared.access.Choice.TheVariants.{Plain, Message, Place, Take}
use Rattle.values_undef.specs.declared.access.Event.TheVariants as event
use Rattle.views.specs.Timestamps.{raised, joined}
use Rattle.views.specs.ThreadView.{ThreadView, raised_view, heard}
use Rattle.views.proofs.Callers.{length-joined, length-raised}
use Rattle.message_memory.specs.declared.message.Message.{Message as TheMessage}
use Rattle.message_memory.specs.Memory.{Memory, messages, message_at, is_free, location_in, view_index, first_message, with_message}
use Rattle.message_memory.specs.Step.{AdmitsChoice, IsLegal, IsProper, StepResult, step_result, is_racy, read_value, read_at, timestamp_in, view_after_read, message_times, write_message, update_message, meets_undef, succeeds, updated}
use Rattle.message_memory.specs.Candidates.{location_of}
use Rattle.message_memory.proofs.Callers.{some_from_and, all_found, cond_related, some_and, and_some}
use Rattle.memory_likeness.specs.Moved.{IsRisingMap, moved_times, moved_view, moved_stamp, moved_choice, moved_event, moved, HaveAllPlaces, HasAllPlaces, IsMovedStep, StepsAreMoved}
use Rattle.memory_likeness.proofs.Moving.{map_le}
use Rattle.memory_likeness.proofs.MovedTimes.{stamp_rises, stamp_here, stamp_there, moved_at, moved_other, raised_there, raised_moved, joined_moved, view_same, fenced_moved, raised_view_moved, heard_moved, cond_mapped}
use Rattle.memory_likeness.proofs.MovedMessages.{moved_message, message_same, messages_moved, found_moved, free_moved, some_mapped, unwrap_mapped, with_moved, na_moved}

-- what comes of a step with moved timestamps
pub record AreMovedResults (m : Memory) (y : ℕ) (g : ℕ → ℕ) (o p : StepResult) : Type 0 where
  pub event : p.event ≡ moved_event y g o.event
  pub memory : p.memory ≡ moved o.memory y g
  pub view : p.view ≡ moved_view (view_index m y) g o.view

module _ (m : Memory) (v : ThreadView) (i y : ℕ) (g : ℕ → ℕ) (r : IsRisingMap g) (there : y < length m.atomic) (places : HaveAllPlaces m) (own : HasAllPlaces m v) where
  abbrev m' : Memory
  m' = moved m y g

  abbrev place : ℕ
  place = view_index m y

  abbrev v' : ThreadView
  v' = moved_view place g v

  abbrev mm : ℕ → TheMessage → TheMessage
  mm z = moved_message place y g z

  abbrev stamp : ℕ → ℕ → ℕ
  stamp z t = moved_stamp y g z t

  from_results : (a : Access) (c : Choice) → m.failed ≡ false → AdmitsChoice m' v' a (moved_choice y g (location_of a) c) → AreMovedResults m y g (step_result m v i a c) (step_result m' v' i a (moved_choice y g (location_of a) c)) → IsMovedStep m v i a c y g
  from_results a c e h q = record { legal = record { running = e; admits = h }; event = q.event; memory = q.memory; view = q.view }

  -- ---- non-atomic locations

  seen_na : (x : ℕ) → x < length m.na → get_or v'.cur x 0 ≡ get_or v.cur x 0
  seen_na x l = moved_other place g v.cur x (λ e. omega arith)

  racy : (x : ℕ) → x < length m.na → is_racy m' v' x ≡ is_racy m v x
  racy x l = ap (λ (n : ℕ). ltb n (location_in m x).version) (seen_na x l)

  reads : (x : ℕ) → x < length m.na → read_value m' v' x ≡ read_value m v x
  reads x l = cond_related (λ (a b : Val). a ≡ b) (is_racy m' v' x) (is_racy m v x) _ _ _ _ (racy x l) refl refl

  load : (x : ℕ) → m.failed ≡ false → x < length m.na → IsMovedStep m v i (NaRead x) Plain y g
  load x e l = from_results (NaRead x) Plain e tt (record { event = ap (event.NaRead x) (reads x l); memory = refl; view = refl })

  store : (x : ℕ) (n : Val) → m.failed ≡ false → x < length m.na → IsMovedStep m v i (NaWrite x n) Plain y g
  store x n e l =
      from_results (NaWrite x n) Plain e tt
      (cond_related (AreMovedResults m y g) (is_racy m v x) (is_racy m' v' x) _ _ _ _ (sym (racy x l))
      (record { event = refl; memory = refl; view = refl })
      (record {
        event = refl;
        memory = sym (na_moved m y g (set m.na x (record { value = n; version = (location_in m x).version + 1 })) (length-set m.na x _));
        view = view_same _ _ (sym (raised_there place g v.cur x _ (λ f. omega arith))) (sym (raised_there place g v.got x _ (λ f. omega arith))) refl;
      }))

  -- ---- atomic locations

  seen_at : (z : ℕ) → z < length m.atomic → timestamp_in m' v' z ≡ stamp z (timestamp_in m v z)
  seen_at z l =
      ⊎_elim
      (λ (e : z ≡ y).
      subst (λ (k : ℕ). timestamp_in m' v' k ≡ stamp k (timestamp_in m v k)) (sym e) (moved_at place g v.cur (omega (arith, own.cur)) ∙ sym (stamp_here y g (timestamp_in m v y))))
      (λ (e : z ≡ y → ⊥). moved_other place g v.cur (view_index m z) (λ f. e (omega arith)) ∙ sym (stamp_there y g z (timestamp_in m v z) e))
      (cases_eq z y)

  seen_le : (z t : ℕ) → z < length m.atomic → timestamp_in m v z ≤ t → timestamp_in m' v' z ≤ stamp z t
  seen_le z t l h = omega (arith, seen_at z l, map_le (moved_stamp y g z) (stamp_rises y g z r) (timestamp_in m v z) t h)

  found_at : (z t : ℕ) → z < length m.atomic → message_at (stamp z t) (messages m' z) ≡ option_map (mm z) (message_at t (messages m z))
  found_at z t l = ap (message_at (stamp z t)) (messages_moved m y g z l) ∙ found_moved (mm z) (moved_stamp y g z) (stamp_rises y g z r) (λ n. refl) (λ n. refl) t (messages m z)

  some_at : (z t : ℕ) → z < length m.atomic → IsSome (message_at t (messages m z)) → IsSome (message_at (stamp z t) (messages m' z))
  some_at z t l h = subst (λ (o : Option TheMessage). IsSome o) (sym (found_at z t l)) (some_mapped (mm z) (message_at t (messages m z)) h)

  old_at : (z t : ℕ) → z < length m.atomic → IsSome (message_at t (messages m z)) → read_at m' z (stamp z t) ≡ mm z (read_at m z t)
  old_at z t l h = ap (λ (o : Option TheMessage). unwrap_or o (first_message 0 (pos 0))) (found_at z t l) ∙ unwrap_mapped (mm z) (message_at t (messages m z)) (first_message 0 (pos 0)) h

  old_places : (z t : ℕ) → z < length m.atomic → IsSome (message_at t (messages m z)) → length (read_at m z t).times ≡ length m.na + length m.atomic
  old_places z t l h = all_found (λ n. length n.times ≡ length m.na + length m.atomic) t (messages m z) (first_message 0 (pos 0)) (places z l) h

  free_at : (z a b : ℕ) → z < length m.atomic → is_free a b (messages m z) ≡ true → is_free (stamp z a) (stamp z b) (messages m' z) ≡ true
  free_at z a b l h =
      ap (is_free (stamp z a) (stamp z b)) (messages_moved m y g z l) ∙ free_moved (mm z) (moved_stamp y g z) (stamp_rises y g z r) (λ n. refl) (λ n. refl) a b (messages m z) ∙ h

  view_read : (z : ℕ) (order : Order) (t : ℕ) (old : TheMessage) → length old.times ≡ length m.na + length m.atomic → view_after_read m' v' z order (stamp z t) (mm z old) ≡ moved_view place g (view_after_read m v z order t old)
  view_read z order t old e =
      ap (λ (u : ThreadView). heard u (moved_times place g old.times) (acquires order)) (raised_view_moved m y g v z t r)
      ∙ heard_moved place g (raised_view v (view_index m z) t) old.times (acquires order) r (omega (arith, e, own.cur, length-raised v.cur (view_index m z) t)) (omega (arith, e, own.got, length-raised v.got (view_index m z) t))

  read : (z : ℕ) (order : Order) (t : ℕ) → m.failed ≡ false → z < length m.atomic → AdmitsChoice m v (Read z order) (Message t) → IsMovedStep m v i (Read z order) (Message t) y g
  read z order t e l h =
      let old = old_at z t l h.1 in
      from_results (Read z order) (Message t) e (seen_le z t l h.0, some_at z t l h.1) (record {
        event = ap (λ (n : TheMessage). event.Read z order n.value (stamp z t)) old;
        memory = refl;
        view = ap (view_after_read m' v' z order (stamp z t)) old ∙ view_read z order t (read_at m z t) (old_places z t l h.1);
      })

  -- what a write hands on, of a thread with the view u after it
  handed : (u : ThreadView) (z : ℕ) (order : Order) (t : ℕ) → message_times m' (moved_view place g u) z order (stamp z t) ≡ moved_times place g (message_times m u z order t)
  handed u z order t =
      ap (λ (x : List ℕ). cond (releases order) (moved_times place g u.cur) x) (sym (raised_moved m y g u.rel z t r)) ∙ cond_mapped (moved_times place g) (releases order) u.cur (raised u.rel (view_index m z) t)

  write : (z : ℕ) (order : Order) (n : Val) (from to : ℕ) → m.failed ≡ false → z < length m.atomic → AdmitsChoice m v (Write z order n) (Place from to) → IsMovedStep m v i (Write z order n) (Place from to) y g
  write z order n from to e l h =
      from_results (Write z order n) (Place from to) e
      ((stamp_rises y g z r).rises from to h.0, omega (arith, seen_at z l, (stamp_rises y g z r).rises (timestamp_in m v z) to h.1), free_at z from to l h.2) (record {
        event = refl;
        memory = ap (with_message m' z) made ∙ sym (with_moved m y g z (write_message m v z order n from to) r l);
        view = raised_view_moved m y g v z to r;
      })
    where
      made : write_message m' v' z order n (stamp z from) (stamp z to) ≡ mm z (write_message m v z order n from to)
      made =
          message_same _ _ refl refl refl
          (ap (λ (u : ThreadView). message_times m' u z order (stamp z to)) (raised_view_moved m y g v z to r) ∙ handed (raised_view v (view_index m z) to) z order to)

  miss : (z : ℕ) (order : Order) (kind : UpdateKind) (t : ℕ) → m.failed ≡ false → z < length m.atomic → AdmitsChoice m v (Update z order kind) (Message t) → IsMovedStep m v i (Update z order kind) (Message t) y g
  miss z order kind t e l h =
      let found = some_from_and (message_at t (messages m z)) _ h.1 in
      let old = old_at z t l found in
      let fails : succeeds kind (read_at m z t).value ≡ false = and_some (message_at t (messages m z)) (λ x. succeeds kind x.value ≡ false) _ h.1 in
      from_results (Update z order kind) (Message t) e
      (seen_le z t l h.0, some_and (message_at (stamp z t) (messages m' z)) (λ x. succeeds kind x.value ≡ false) _ (some_at z t l found) (ap (λ (n : TheMessage). succeeds kind n.value) old ∙ fails))
      (cond_related (AreMovedResults m y g) (meets_undef kind (read_at m z t).value) (meets_undef kind (read_at m' z (stamp z t)).value) _ _ _ _ (ap (λ (n : TheMessage). meets_undef kind n.value) (sym old))
      (record { event = refl; memory = refl; view = refl })
      (record {
        event = ap (λ (n : TheMessage). event.Miss z order n.value (stamp z t)) old;
        memory = refl;
        view = ap (view_after_read m' v' z order (stamp z t)) old ∙ view_read z order t (read_at m z t) (old_places z t l found);
      }))

  take : (z : ℕ) (order : Order) (kind : UpdateKind) (from to : ℕ) → m.failed ≡ false → z < length m.atomic → AdmitsChoice m v (Update z order kind) (Take from to) → IsMovedStep m v i (Update z order kind) (Take from to) y g
  take z order kind from to e l h =
      from_results (Update z order kind) (Take from to) e (
        seen_le z from l h.0,
        (stamp_rises y g z r).rises from to h.1,
        free_at z from to l h.2,
        some_and (message_at (stamp z from) (messages m' z)) (λ x. succeeds kind x.value ≡ true) _ (some_at z from l found) (ap (λ (n : TheMessage). succeeds kind n.value) old ∙ hits),
      ) (record {
        event = ap (λ (n : TheMessage). event.Update z order n.value (updated kind n.value) (stamp z from) (stamp z to)) old;
        memory = ap (with_message m' z) made ∙ sym (with_moved m y g z (update_message m v z order kind (read_at m z from) from to) r l);
        view = ap (view_after_read m' v' z order (stamp z to)) old ∙ view_read z order to (read_at m z from) wide;
      })
    where
      found : IsSome (message_at from (messages m z))
      found = some_from_and (message_at from (messages m z)) _ h.3

      old : read_at m' z (stamp z from) ≡ mm z (read_at m z from)
      old = old_at z from l found

      wide : length (read_at m z from).times ≡ length m.na + length m.atomic
      wide = old_places z from l found

      hits : succeeds kind (read_at m z from).value ≡ true
      hits = and_some (message_at from (messages m z)) (λ x. succeeds kind x.value ≡ true) _ h.3

      u : ThreadView
      u = view_after_read m v z order to (read_at m z from)

      cond_length : (b : Bool) (x w : List ℕ) (n : ℕ) → length x ≡ n → length w ≡ n → length (cond b x w) ≡ n
      cond_length true x w n p q = p
      cond_length false x w n p q = q

      raised_long : (x : List ℕ) (t : ℕ) → length x ≡ length m.na + length m.atomic → length (raised x (view_index m z) t) ≡ length m.na + length m.atomic
      raised_long x t p = length-raised x (view_index m z) t ∙ p

      long : length (message_times m u z order to) ≡ length m.na + length m.atomic
      long =
          cond_length (releases order) u.cur (raised u.rel (view_index m z) to) (length m.na + length m.atomic)
          (cond_length (acquires order) (joined (raised v.cur (view_index m z) to) (read_at m z from).times) (raised v.cur (view_index m z) to) (length m.na + length m.atomic)
          (length-joined (raised v.cur (view_index m z) to) (read_at m z from).times ∙ raised_long v.cur to own.cur) (raised_long v.cur to own.cur))
          (raised_long v.rel to own.rel)

      made : update_message m' v' z order kind (read_at m' z (stamp z from)) (stamp z from) (stamp z to) ≡ mm z (update_message m v z order kind (read_at m z from) from to)
      made =
          ap (λ (n : TheMessage). update_message m' v' z order kind n (stamp z from) (stamp z to)) old
          ∙ message_same _ _ refl refl refl
          (ap (λ (w : ThreadView). joined (message_times m' w z order (stamp z to)) (moved_times place g (read_at m z from).times)) (view_read z order to (read_at m z from) wide)
          ∙ ap (λ (x : List ℕ). joined x (moved_times place g (read_at m z from).times)) (handed u z order to)
          ∙ sym (joined_moved place g (message_times m u z order to) (read_at m z from).times r (wide ∙ sym long)))

  pub step_moved : (a : Access) (c : Choice) → IsProper m a → IsLegal m v a c → IsMovedStep m v i a c y g
  step_moved (NaRead x) Plain p h = load x h.running p
  step_moved (NaWrite x n) Plain p h = store x n h.running p
  step_moved (Read z order) (Message t) p h = read z order t h.running p.0 h.admits
  step_moved (Write z order n) (Place from to) p h = write z order n from to h.running p.0 h.admits
  step_moved (Update z order kind) (Message t) p h = miss z order kind t h.running p h.admits
  step_moved (Update z order kind) (Take from to) p h = take z order kind from to h.running p h.admits
  step_moved (Fence order) Plain p h = from_results (Fence order) Plain h.running tt (record { event = refl; memory = refl; view = fenced_moved place g v order })
  step_moved (Print n) Plain p h = from_results (Print n) Plain h.running tt (record { event = refl; memory = refl; view = refl })
  step_moved (Fail cause) Plain p h = from_results (Fail cause) Plain h.running tt (record { event = refl; memory = refl; view = refl })
  step_moved Finish Plain p h = from_results Finish Plain h.running tt (record { event = refl; memory = refl; view = refl })
  step_moved Spend Plain p h = from_results Spend Plain h.running tt (record { event = refl; memory = refl; view = refl })
  step_moved _ _ p h = absurd h.admits

pub steps_moved : StepsAreMoved
steps_moved m v i a c y g r l places own p h = step_moved m v i y g r l places own a c p h
