-- One entry more: each access, as the table of the memory has them.
use Rattle.std.proofs.Common.{◌≡◌, ℕ, suc, ◌+◌, ◌<◌, ◌≤◌, ◌⊎◌, inl, inr, Bool, true, false, cond, List, length, get_or, Some, None, refl, sym, ap, subst, ◌∙◌, arith}
use Rattle.std.proofs.lemmas.Bool.{cond_both, ltb-false, true≢false, cases_eq}
use Rattle.std.proofs.lemmas.Option.{same_Some}
use Rattle.std.proofs.lemmas.List.{get_or-set_same, get_or-set_other}
use Rattle.std.specs.Prelude.{slice_set}
use Rattle.std.specs.Option.{IsSome}
use Rattle.values_undef.specs.Access.{acquires, releases, is_failure}
use Rattle.values_undef.specs.declared.access.Order.{Order}
use Rattle.values_undef.specs.declared.access.UpdateKind.{UpdateKind}
use Rattle.values_undef.specs.declared.access.Access.{Access}
use Rattle.values_undef.specs.declared.access.Access.TheVariants as access
use Rattle.values_undef.specs.declared.access.Choice.{Choice}
use Rattle.values_undef.specs.declared.access.Choice.TheVariants.{Plain, Message, Place, Take}
use Rattle.values_undef.specs.declared.access.Event.{Event}
use Rattle.values_undef.specs.declared.access.Event.TheVariants as event
use Rattle.values_undef.specs.declared.value.Val.{Val}
use Rattle.views.specs.Timestamps.{raised, joined}
use Rattle.views.specs.ThreadView.{ThreadView, raised_view}
use Rattle.views.proofs.Callers.{length-raised, length-joined, get_or-raised_same, get_or-joined}
use Rattle.message_memory.specs.declared.history.Call.{Call}
use Rattle.message_memory.specs.declared.message.Message.{Message as TheMessage}
use Rattle.message_memory.specs.declared.message.Versioned.{Versioned}
use Rattle.message_memory.specs.Memory.{Memory, messages, location_in, view_index, message_at, is_free, with_message, absent_location, IsClosedView}
use Rattle.message_memory.specs.Step.{StepResult, step_result, AdmitsChoice, IsProper, acquires_by, releases_by, is_racy, meets_undef, updated, read_at, view_after_read, message_times, write_message, update_message}
use Rattle.message_memory.proofs.Callers.{some_from_and, parts_ordered}
use Rattle.exec_graph.specs.Entries.{thread_at, access_at, event_at, read_by, written_by, is_fence, is_acquire_fence, is_release_fence}
use Rattle.exec_graph.specs.Known.{Slot, slot, HasSlot, na_written, WroteVersion, interval_by}
use Rattle.exec_graph.specs.Past.{Gives}
use Rattle.exec_graph.proofs.Sets.{Given, older}
use Rattle.exec_graph.proofs.Agrees.{later}
use Rattle.exec_graph.proofs.Views.{no_read, IsNew, numbered}
use Rattle.exec_graph.proofs.Invariant.{AgreesIn, ViewsIn, stamp_of, Stepped, Before, IsFresh, closed_past, no_fresh, quiet_messages, quiet_there, more_last, IsQuiet}
use Rattle.exec_graph.proofs.Cases.{quiet_step, fence_step, new_atomic, IsRead, is_read, read_view, read_step, Base, gives_alone, gives_with, base_times, base_own, message_step}

-- ---- a write of a non-atomic location

nawrite_step : (calls : List Call) (n : ℕ) (m : Memory) (v : ThreadView) (x : ℕ) (value : Val) (e : Event) → Before calls n m v → x < length m.na → is_racy m v x ≡ false → is_fence (access_at calls n) ≡ false
    → event_at calls n ≡ event.NaWrite x value ((location_in m x).version + 1)
    → Stepped calls (length m.na) n (record {
      event = e;
      memory = record m { na = slice_set m.na x (record { value = value; version = (location_in m x).version + 1 }) };
      view = raised_view v x ((location_in m x).version + 1);
    })
nawrite_step calls n m v x value e b l racy f is = record {
  view = numbered (HasSlot calls (length m.na)) (WroteVersion calls (length m.na)) calls n x next v (λ a. no_read calls n a (ap read_by is)) f new b.view;
  memory = record {
    messages = quiet_messages calls n m b.well_formed fresh (ap written_by is) b.memory.messages;
    there = quiet_there calls n m (ap interval_by is) b.memory.there;
    versions = λ a z t k h. elim (older a n k) as (λ _. (0 < t) × (t ≤ (get_or na z absent_location).version)) [
      | inl old ↦ (let r = b.memory.versions a z t old h in let g = grown z in (r.0, omega (arith, r.1, g)))
      | inr s ↦ (let w = written (subst (λ (k : ℕ). WroteVersion calls (length m.na) k z t) s h) in
          let at : (get_or na z absent_location).version ≡ next = ap (λ (i : ℕ). (get_or na i absent_location).version) w.0 ∙ here in
          (omega (arith, w.1), omega (arith, w.1, at)))
    ];
    last = λ z k. elim (cases_eq z x) as (λ _. ((get_or na z absent_location).version ≡ 0) ⊎ ((w : ℕ) × (w < suc n) × WroteVersion calls (length m.na) w z (get_or na z absent_location).version)) [
      | inl s ↦ inr (
        n,
        omega arith,
        subst (λ (i : ℕ). WroteVersion calls (length m.na) n i (get_or na i absent_location).version) (sym s)
            (l, ap na_written is ∙ ap (λ (t : ℕ). Some (record { index = x; number = t })) (sym here)),
      )
      | inr ne ↦ subst (λ (t : ℕ). (t ≡ 0) ⊎ ((w : ℕ) × (w < suc n) × WroteVersion calls (length m.na) w z t)) (sym (other z ne)) (more_last calls (length m.na) n m b.memory.last z k)
    ];
  };
}
  where
    next : ℕ
    next = (location_in m x).version + 1

    na : List Versioned
    na = slice_set m.na x (record { value = value; version = (location_in m x).version + 1 })

    here : (get_or (slice_set m.na x (record { value = value; version = (location_in m x).version + 1 })) x absent_location).version ≡ (location_in m x).version + 1
    here = ap (λ (c : Versioned). c.version) (get_or-set_same m.na x (record { value = value; version = (location_in m x).version + 1 }) absent_location l)

    other : (z : ℕ) → (z ≡ x → ⊥) → (get_or (slice_set m.na x (record { value = value; version = (location_in m x).version + 1 })) z absent_location).version ≡ (location_in m z).version
    other z ne = ap (λ (c : Versioned). c.version) (get_or-set_other m.na x z (record { value = value; version = (location_in m x).version + 1 }) absent_location ne)

    grown : (z : ℕ) → (location_in m z).version ≤ (get_or (slice_set m.na x (record { value = value; version = (location_in m x).version + 1 })) z absent_location).version
    grown z = elim (cases_eq z x) as (λ _. (location_in m z).version ≤ (get_or (slice_set m.na x (record { value = value; version = (location_in m x).version + 1 })) z absent_location).version) [
      | inl s ↦ subst (λ (i : ℕ). (location_in m i).version ≤ (get_or (slice_set m.na x (record { value = value; version = (location_in m x).version + 1 })) i absent_location).version) (sym s) (omega (arith, here))
      | inr ne ↦ (let o = other z ne in omega (arith, o))
    ]

    written : {z t : ℕ} → WroteVersion calls (length m.na) n z t → (z ≡ x) × (t ≡ (location_in m x).version + 1)
    written {z = z} {t = t} h =
        let s = same_Some (record { index = x; number = (location_in m x).version + 1 }) (record { index = z; number = t }) (sym (ap na_written is) ∙ h.1) in
        (sym (ap (λ (y : Slot). y.index) s), sym (ap (λ (y : Slot). y.number) s))

    fresh : IsFresh calls n m
    fresh i t h = let w = written h in w.1 ∙ ap (λ (z : ℕ). (location_in m z).version + 1) (sym w.0)

    -- the thread knows the last version
    current : (location_in m x).version ≤ get_or v.cur x 0
    current = ltb-false _ _ racy

    new : IsNew (HasSlot calls (length m.na)) (WroteVersion calls (length m.na)) n x ((location_in m x).version + 1) v
    new = record {
      there = omega (arith, l, b.closed.cur.locations);
      there_too = omega (arith, l, b.closed.got.locations);
      one = λ j u h.
          let s = same_Some (record { index = x; number = (location_in m x).version + 1 }) (record { index = j; number = u }) (sym (ap (slot (length m.na)) is) ∙ h) in
          (sym (ap (λ (y : Slot). y.index) s), sym (ap (λ (y : Slot). y.number) s));
      known = λ a u k h. let r = b.memory.versions a x u k h in let c = current in omega (arith, r.1, c);
      known_too = λ a u k h. let r = b.memory.versions a x u k h in let c = current in let o = parts_ordered v.cur v.got x b.closed.ordered.got_length b.closed.ordered.got_above in omega (arith, r.1, c, o);
      past = closed_past calls n m v.rel fresh b.closed.rel;
    }

-- ---- a write, and an update

write_step : (calls : List Call) (n : ℕ) (m : Memory) (v : ThreadView) (y from to : ℕ) (order : Order) (value : Val) (e : Event) → Before calls n m v → y < length m.atomic
    → from < to → get_or v.cur (view_index m y) 0 < to → is_free from to (messages m y) ≡ true
    → event_at calls n ≡ event.Write y order value from to → is_fence (access_at calls n) ≡ false → releases_by (access_at calls n) ≡ releases order
    → Stepped calls (length m.na) n (record { event = e; memory = with_message m y (write_message m v y order value from to); view = raised_view v (view_index m y) to })
write_step calls n m v y from to order value e b l short above free is f q = record {
  view = view;
  memory = message_step calls n m v y (write_message m v y order value from to) b l short free (ap interval_by is) (ap written_by is) (ap na_written is) agrees own;
}
  where
    after : ThreadView
    after = raised_view v (view_index m y) to

    view : ViewsIn calls (length m.na) (suc n) (thread_at calls n) (raised_view v (view_index m y) to)
    view = numbered (HasSlot calls (length m.na)) (WroteVersion calls (length m.na)) calls n (view_index m y) to v (λ a. no_read calls n a (ap read_by is)) f
        (new_atomic calls n m v y to b l (ap na_written is) (ap (slot (length m.na)) is)) b.view

    agrees : AgreesIn calls (length m.na) (suc n) (Gives calls n) (write_message m v y order value from to).times
    agrees = gives_alone (HasSlot calls (length m.na)) (WroteVersion calls (length m.na)) calls n (write_message m v y order value from to).times (λ a. no_read calls n a (ap read_by is))
        (base_times calls n m v (raised_view v (view_index m y) to) y to b refl (ap na_written is) view (releases order) q)

    own : get_or (write_message m v y order value from to).times (length m.na + y) 0 ≤ to
    own = base_own m v (raised_view v (view_index m y) to) y to refl b.closed l (omega (arith, above))
        (let at = get_or-raised_same v.cur (view_index m y) to (omega (arith, l, b.closed.cur.locations)) in omega (arith, at, above)) (releases order)

-- what an update does to the thread's view at its own location
update_own : (m : Memory) (v : ThreadView) (y read to : ℕ) (old : TheMessage) → IsClosedView m v → y < length m.atomic → get_or v.cur (view_index m y) 0 ≤ read → read < to → get_or old.times (view_index m y) 0 ≤ read
    → length old.times ≡ length v.cur → (b : Bool) → get_or (cond b (joined (raised v.cur (view_index m y) to) old.times) (raised v.cur (view_index m y) to)) (view_index m y) 0 ≤ to
update_own m v y read to old c l k r o len true =
    let at = get_or-raised_same v.cur (view_index m y) to (omega (arith, l, c.cur.locations)) in
    let both = get_or-joined (raised v.cur (view_index m y) to) old.times (view_index m y) (len ∙ sym (length-raised v.cur (view_index m y) to)) in
    omega (arith, at, both, k, r, o)
update_own m v y read to old c l k r o len false =
    let at = get_or-raised_same v.cur (view_index m y) to (omega (arith, l, c.cur.locations)) in omega (arith, at, k, r)

length_read : (w times : List ℕ) (i t : ℕ) (b : Bool) → length (cond b (joined (raised w i t) times) (raised w i t)) ≡ length w
length_read w times i t true = length-joined (raised w i t) times ∙ length-raised w i t
length_read w times i t false = length-raised w i t

length_base : (cur rel : List ℕ) (i t k : ℕ) (b : Bool) → length cur ≡ k → length rel ≡ k → length (cond b cur (raised rel i t)) ≡ k
length_base cur rel i t k true e f = e
length_base cur rel i t k false e f = length-raised rel i t ∙ f

update_step : (calls : List Call) (n : ℕ) (m : Memory) (v : ThreadView) (y read to : ℕ) (order : Order) (kind : UpdateKind) (e : Event) → Before calls n m v → y < length m.atomic
    → get_or v.cur (view_index m y) 0 ≤ read → read < to → is_free read to (messages m y) ≡ true → IsSome (message_at read (messages m y))
    → event_at calls n ≡ event.Update y order (read_at m y read).value (updated kind (read_at m y read).value) read to
    → is_fence (access_at calls n) ≡ false → releases_by (access_at calls n) ≡ releases order → acquires_by (access_at calls n) ≡ acquires order
    → Stepped calls (length m.na) n (record { event = e; memory = with_message m y (update_message m v y order kind (read_at m y read) read to); view = view_after_read m v y order to (read_at m y read) })
update_step calls n m v y read to order kind e b l above short free some is f q g = record {
  view = view;
  memory = message_step calls n m v y (update_message m v y order kind (read_at m y read) read to) b l short free (ap interval_by is) (ap written_by is) (ap na_written is) agrees own;
}
  where
    old : TheMessage
    old = read_at m y read

    after : ThreadView
    after = view_after_read m v y order to (read_at m y read)

    there : IsRead calls n m y read (read_at m y read)
    there = is_read calls n m v y read b l some

    view : ViewsIn calls (length m.na) (suc n) (thread_at calls n) (view_after_read m v y order to (read_at m y read))
    view = read_view calls n m v y read to order (read_at m y read) b l there (ap na_written is) (ap (slot (length m.na)) is) (ap read_by is) f g

    times : List ℕ
    times = message_times m (view_after_read m v y order to (read_at m y read)) y order to

    old_length : length (read_at m y read).times ≡ length v.cur
    old_length = there.closed.locations ∙ sym b.closed.cur.locations

    lengths : length (read_at m y read).times ≡ length (message_times m (view_after_read m v y order to (read_at m y read)) y order to)
    lengths = old_length ∙ sym (length_base (view_after_read m v y order to (read_at m y read)).cur v.rel (view_index m y) to (length v.cur) (releases order)
        (length_read v.cur (read_at m y read).times (view_index m y) to (acquires order)) b.closed.ordered.rel_length)

    base : AgreesIn calls (length m.na) (suc n) (Base calls n) (message_times m (view_after_read m v y order to (read_at m y read)) y order to)
    base = base_times calls n m v (view_after_read m v y order to (read_at m y read)) y to b refl (ap na_written is) view (releases order) q

    given : AgreesIn calls (length m.na) (suc n) (Given calls n (stamp_of y read)) (read_at m y read).times
    given = later (HasSlot calls (length m.na)) (WroteVersion calls (length m.na)) n (Given calls n (stamp_of y read)) (read_at m y read).times
        (closed_past calls n m (read_at m y read).times (no_fresh calls n m (ap na_written is)) there.closed) there.agrees

    agrees : AgreesIn calls (length m.na) (suc n) (Gives calls n) (update_message m v y order kind (read_at m y read) read to).times
    agrees = gives_with (HasSlot calls (length m.na)) (WroteVersion calls (length m.na)) calls n (stamp_of y read) (message_times m (view_after_read m v y order to (read_at m y read)) y order to) (read_at m y read).times (ap read_by is) lengths base given

    own : get_or (update_message m v y order kind (read_at m y read) read to).times (length m.na + y) 0 ≤ to
    own =
        let o = there.own in
        let mine = update_own m v y read to (read_at m y read) b.closed l above short there.own old_length (acquires order) in
        let first = base_own m v (view_after_read m v y order to (read_at m y read)) y to refl b.closed l (omega (arith, above, short)) mine (releases order) in
        let both = get_or-joined (message_times m (view_after_read m v y order to (read_at m y read)) y order to) (read_at m y read).times (view_index m y) lengths in
        omega (arith, o, first, both, short)

-- ---- each access

-- an event that writes nothing, by what it is
is_quiet : (e f : Event) → e ≡ f → na_written f ≡ None → written_by f ≡ None → interval_by f ≡ None → IsQuiet e
is_quiet e f s a b c = record { version = ap na_written s ∙ a; stamp = ap written_by s ∙ b; interval = ap interval_by s ∙ c }

fails : (calls : List Call) (na n : ℕ) (e : Event) (o : StepResult) → event_at calls n ≡ e → is_failure e ≡ true → is_failure (event_at calls n) ≡ false → Stepped calls na n o
fails calls na n e o is t f = absurd (true≢false (sym t ∙ ap is_failure (sym is) ∙ f))

pub step_known : (calls : List Call) (n : ℕ) (m : Memory) (v : ThreadView) (a : Access) (c : Choice) → Before calls n m v → IsProper m a → AdmitsChoice m v a c → access_at calls n ≡ a
    → is_failure (event_at calls n) ≡ false → event_at calls n ≡ (step_result m v (thread_at calls n) a c).event → Stepped calls (length m.na) n (step_result m v (thread_at calls n) a c)
step_known calls n m v (access.NaRead x) Plain b p h s g e = quiet_step calls n m m v _ b (is_quiet _ _ e refl refl refl) (ap (slot (length m.na)) e) (ap read_by e) (ap is_fence s) refl refl
step_known calls n m v (access.NaWrite x value) Plain b p h s g e =
    cond_both (is_racy m v x) _ _ (λ (o : StepResult). event_at calls n ≡ o.event → Stepped calls (length m.na) n o)
    (λ _ e. fails calls (length m.na) n _ _ e refl g)
    (λ racy e. nawrite_step calls n m v x value _ b p racy (ap is_fence s) e) e
step_known calls n m v (access.Read y order) (Message to) b p h s g e =
    read_step calls n m v y to order _ b p.0 h.1 (is_quiet _ _ e refl refl refl) (ap (slot (length m.na)) e) (ap read_by e) (ap is_fence s) (ap acquires_by s)
step_known calls n m v (access.Write y order value) (Place from to) b p h s g e =
    write_step calls n m v y from to order value _ b p.0 h.0 h.1 h.2 e (ap is_fence s) (ap releases_by s)
step_known calls n m v (access.Update y order kind) (Message to) b p h s g e =
    cond_both (meets_undef kind (read_at m y to).value) _ _ (λ (o : StepResult). event_at calls n ≡ o.event → Stepped calls (length m.na) n o)
    (λ _ e. fails calls (length m.na) n _ _ e refl g)
    (λ _ e. read_step calls n m v y to order _ b p (some_from_and _ _ h.1) (is_quiet _ _ e refl refl refl) (ap (slot (length m.na)) e) (ap read_by e) (ap is_fence s) (ap acquires_by s)) e
step_known calls n m v (access.Update y order kind) (Take read to) b p h s g e =
    update_step calls n m v y read to order kind _ b p h.0 h.1 h.2 (some_from_and _ _ h.3) e (ap is_fence s) (ap releases_by s) (ap acquires_by s)
step_known calls n m v (access.Fence order) Plain b p h s g e =
    fence_step calls n m v order _ b (is_quiet _ _ e refl refl refl) (ap (slot (length m.na)) e) (ap read_by e) (record { acquire = ap is_acquire_fence s; release = ap is_release_fence s })
step_known calls n m v (access.Print k) Plain b p h s g e = quiet_step calls n m _ v _ b (is_quiet _ _ e refl refl refl) (ap (slot (length m.na)) e) (ap read_by e) (ap is_fence s) refl refl
step_known calls n m v (access.Fail cause) Plain b p h s g e = fails calls (length m.na) n _ _ e refl g
step_known calls n m v access.Finish Plain b p h s g e = quiet_step calls n m m v _ b (is_quiet _ _ e refl refl refl) (ap (slot (length m.na)) e) (ap read_by e) (ap is_fence s) refl refl
step_known calls n m v access.Spend Plain b p h s g e = quiet_step calls n m m v _ b (is_quiet _ _ e refl refl refl) (ap (slot (length m.na)) e) (ap read_by e) (ap is_fence s) refl refl
step_known calls n m v _ _ b p h s g e = absurd h

-- a version that an entry writes is the one after the last
fresh_write : (calls : List Call) (n : ℕ) (m : Memory) (x : ℕ) (value : Val) → event_at calls n ≡ event.NaWrite x value ((location_in m x).version + 1) → IsFresh calls n m
fresh_write calls n m x value is i t h =
    let s = same_Some (record { index = x; number = (location_in m x).version + 1 }) (record { index = i; number = t }) (sym (ap na_written is) ∙ h.1) in
    sym (ap (λ (y : Slot). y.number) s) ∙ ap (λ (z : ℕ). (location_in m z).version + 1) (ap (λ (y : Slot). y.index) s)

pub step_fresh : (calls : List Call) (n : ℕ) (m : Memory) (v : ThreadView) (a : Access) (c : Choice) → AdmitsChoice m v a c
    → is_failure (event_at calls n) ≡ false → event_at calls n ≡ (step_result m v (thread_at calls n) a c).event → IsFresh calls n m
step_fresh calls n m v (access.NaRead x) Plain h g e = no_fresh calls n m (ap na_written e)
step_fresh calls n m v (access.NaWrite x value) Plain h g e =
    cond_both (is_racy m v x) _ _ (λ (o : StepResult). event_at calls n ≡ o.event → IsFresh calls n m)
    (λ _ e. no_fresh calls n m (ap na_written e))
    (λ _ e. fresh_write calls n m x value e) e
step_fresh calls n m v (access.Read y order) (Message to) h g e = no_fresh calls n m (ap na_written e)
step_fresh calls n m v (access.Write y order value) (Place from to) h g e = no_fresh calls n m (ap na_written e)
step_fresh calls n m v (access.Update y order kind) (Message to) h g e =
    cond_both (meets_undef kind (read_at m y to).value) _ _ (λ (o : StepResult). event_at calls n ≡ o.event → IsFresh calls n m)
    (λ _ e. no_fresh calls n m (ap na_written e)) (λ _ e. no_fresh calls n m (ap na_written e)) e
step_fresh calls n m v (access.Update y order kind) (Take read to) h g e = no_fresh calls n m (ap na_written e)
step_fresh calls n m v (access.Fence order) Plain h g e = no_fresh calls n m (ap na_written e)
step_fresh calls n m v (access.Print k) Plain h g e = no_fresh calls n m (ap na_written e)
step_fresh calls n m v (access.Fail cause) Plain h g e = no_fresh calls n m (ap na_written e)
step_fresh calls n m v access.Finish Plain h g e = no_fresh calls n m (ap na_written e)
step_fresh calls n m v access.Spend Plain h g e = no_fresh calls n m (ap na_written e)
step_fresh calls n m v _ _ h g e = absurd h
