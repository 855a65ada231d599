-- One entry more, by its kind.
use Rattle.std.proofs.Common.{◌≡◌, ℕ, suc, ◌+◌, ◌<◌, ◌≤◌, ◌⊎◌, inl, inr, Bool, true, false, cond, List, [], length, get_or, Option, Some, None, refl, sym, ap, subst, ◌∙◌, arith}
use Rattle.std.proofs.lemmas.Bool.{true≢false, cases_eq}
use Rattle.std.proofs.lemmas.Option.{none-some, same_Some}
use Rattle.std.proofs.lemmas.List.{get_or-set_same, get_or-set_other}
use Rattle.std.specs.List.{AllByRecursion}
use Rattle.std.specs.Option.{IsSome, IsSomeAnd}
use Rattle.values_undef.specs.Access.{acquires}
use Rattle.values_undef.specs.declared.access.Order.{Order}
use Rattle.values_undef.specs.declared.access.Event.{Event}
use Rattle.values_undef.specs.declared.access.Event.TheVariants as event
use Rattle.views.specs.Timestamps.{raised, joined}
use Rattle.views.specs.ThreadView.{ThreadView, fenced}
use Rattle.views.proofs.Callers.{get_or-raised_same}
use Rattle.message_memory.specs.declared.history.Call.{Call}
use Rattle.message_memory.specs.declared.message.Message.{Message as TheMessage}
use Rattle.message_memory.specs.Memory.{Memory, Messages, messages, view_index, message_at, inserted, is_free, with_message, IsClosed, IsClosedView}
use Rattle.message_memory.specs.Step.{acquires_by, releases_by, read_at, view_after_read}
use Rattle.message_memory.proofs.Callers.{all_inserted, all_found, parts_ordered}
use Rattle.exec_graph.specs.Entries.{thread_at, access_at, event_at, Stamp, read_by, written_by, is_fence}
use Rattle.exec_graph.specs.Known.{Slot, slot, HasSlot, na_written, WroteVersion, Interval, interval_by}
use Rattle.exec_graph.specs.Past.{Gives}
use Rattle.exec_graph.proofs.Sets.{UpTo, Cur, Given, Carried, GivenParts, older, cur_new, given_new, given_more, gives_from, gives_parts}
use Rattle.exec_graph.proofs.Agrees.{Agrees, same_set, union, later, raised_only}
use Rattle.exec_graph.proofs.Views.{GetsNothing, IsNew, IsFenceOf, plain, reading, fencing, upto_cur, given_is, is_given}
use Rattle.exec_graph.proofs.Messages.{free_apart, unfound, new_found, old_found, all_both, found_to}
use Rattle.exec_graph.proofs.Invariant.{AgreesIn, ViewsIn, stamp_of, Fits, KnowsMemory, Stepped, Before, closed_past, no_fresh, fits_on, closed_at, quiet_versions, more_last, IsQuiet, quiet_memory, same_memory}

-- ---- an entry that leaves the view and the messages

pub no_slot : (calls : List Call) (na n : ℕ) → slot na (event_at calls n) ≡ None → (j u : ℕ) → HasSlot calls na n j u → ⊥
no_slot calls na n e j u h = none-some (record { index = j; number = u }) (sym e ∙ h)

pub quiet_step : (calls : List Call) (n : ℕ) (m m' : Memory) (v : ThreadView) (e : Event) → Before calls n m v → IsQuiet (event_at calls n) → slot (length m.na) (event_at calls n) ≡ None
    → read_by (event_at calls n) ≡ None → is_fence (access_at calls n) ≡ false → m'.na ≡ m.na → m'.atomic ≡ m.atomic
    → Stepped calls (length m.na) n (record { event = e; memory = m'; view = v })
quiet_step calls n m m' v e b quiet s r f na atomic = record {
  view = plain (HasSlot calls (length m.na)) (WroteVersion calls (length m.na)) calls n v r f (no_slot calls (length m.na) n s) (closed_past calls n m v.rel (no_fresh calls n m quiet.version) b.closed.rel) b.view;
  memory = same_memory calls (length m.na) (suc n) m m' na atomic (quiet_memory calls n m quiet b.well_formed b.memory);
}

-- a fence
pub fence_step : (calls : List Call) (n : ℕ) (m : Memory) (v : ThreadView) (order : Order) (e : Event) → Before calls n m v → IsQuiet (event_at calls n) → slot (length m.na) (event_at calls n) ≡ None
    → read_by (event_at calls n) ≡ None → IsFenceOf calls n order
    → Stepped calls (length m.na) n (record { event = e; memory = m; view = fenced v order })
fence_step calls n m v order e b quiet s r f = record {
  view = fencing (HasSlot calls (length m.na)) (WroteVersion calls (length m.na)) calls n order v r f (no_slot calls (length m.na) n s) (closed_past calls n m v.rel (no_fresh calls n m quiet.version) b.closed.rel) b.view;
  memory = quiet_memory calls n m quiet b.well_formed b.memory;
}

-- ---- an entry at an atomic location

pub new_atomic : (calls : List Call) (n : ℕ) (m : Memory) (v : ThreadView) (y to : ℕ) → Before calls n m v → y < length m.atomic → na_written (event_at calls n) ≡ None
    → slot (length m.na) (event_at calls n) ≡ Some (record { index = length m.na + y; number = to })
    → IsNew (HasSlot calls (length m.na)) (WroteVersion calls (length m.na)) n (length m.na + y) to v
new_atomic calls n m v y to b l w s = record {
  there = omega (arith, l, b.closed.cur.locations);
  there_too = omega (arith, l, b.closed.got.locations);
  one = λ j u h. let e = same_Some (record { index = length m.na + y; number = to }) (record { index = j; number = u }) (sym s ∙ h) in (sym (ap (λ (x : Slot). x.index) e), sym (ap (λ (x : Slot). x.number) e));
  known = λ a u k h. let i = h.0 in absurd (omega (arith, i));
  known_too = λ a u k h. let i = h.0 in absurd (omega (arith, i));
  past = closed_past calls n m v.rel (no_fresh calls n m w) b.closed.rel;
}

-- the message that is read
pub record IsRead (calls : List Call) (n : ℕ) (m : Memory) (y to : ℕ) (old : TheMessage) : Type 0 where
  pub agrees : AgreesIn calls (length m.na) n (Given calls n (stamp_of y to)) old.times
  pub own : get_or old.times (length m.na + y) 0 ≤ to
  pub closed : IsClosed m old.times

pub is_read : (calls : List Call) (n : ℕ) (m : Memory) (v : ThreadView) (y to : ℕ) → Before calls n m v → y < length m.atomic → IsSome (message_at to (messages m y)) → IsRead calls n m y to (read_at m y to)
is_read calls n m v y to b l s =
    let old = read_at m y to in
    let fits = all_found (Fits calls (length m.na) n y) to (messages m y) _ (b.memory.messages y) s in
    let at : old.to ≡ to = found_to to (messages m y) _ s in
    record {
      agrees = subst (λ (t : ℕ). AgreesIn calls (length m.na) n (Given calls n (stamp_of y t)) old.times) at fits.agrees;
      own = (let o = fits.own in omega (arith, o, at));
      closed = all_found (λ k. IsClosed m k.times) to (messages m y) _ (b.well_formed.closed y l) s;
    }

-- the view of a thread that has read it
pub read_view : (calls : List Call) (n : ℕ) (m : Memory) (v : ThreadView) (y read to : ℕ) (order : Order) (old : TheMessage) → Before calls n m v → y < length m.atomic → IsRead calls n m y read old
    → na_written (event_at calls n) ≡ None → slot (length m.na) (event_at calls n) ≡ Some (record { index = length m.na + y; number = to }) → read_by (event_at calls n) ≡ Some (stamp_of y read)
    → is_fence (access_at calls n) ≡ false → acquires_by (access_at calls n) ≡ acquires order
    → ViewsIn calls (length m.na) (suc n) (thread_at calls n) (view_after_read m v y order to old)
read_view calls n m v y read to order old b l h w s r f q =
    reading (HasSlot calls (length m.na)) (WroteVersion calls (length m.na)) calls n (length m.na + y) to (stamp_of y read) v old.times (acquires order) r f q
    (new_atomic calls n m v y to b l w s) (h.closed.locations ∙ sym b.closed.cur.locations) (h.closed.locations ∙ sym b.closed.got.locations)
    (closed_past calls n m old.times (no_fresh calls n m w) h.closed) h.agrees b.view

pub read_step : (calls : List Call) (n : ℕ) (m : Memory) (v : ThreadView) (y to : ℕ) (order : Order) (e : Event) → Before calls n m v → y < length m.atomic → IsSome (message_at to (messages m y)) → IsQuiet (event_at calls n)
    → slot (length m.na) (event_at calls n) ≡ Some (record { index = length m.na + y; number = to }) → read_by (event_at calls n) ≡ Some (stamp_of y to)
    → is_fence (access_at calls n) ≡ false → acquires_by (access_at calls n) ≡ acquires order
    → Stepped calls (length m.na) n (record { event = e; memory = m; view = view_after_read m v y order to (read_at m y to) })
read_step calls n m v y to order e b l some quiet s r f q = record {
  view = read_view calls n m v y to to order (read_at m y to) b l (is_read calls n m v y to b l some) quiet.version s r f q;
  memory = quiet_memory calls n m quiet b.well_formed b.memory;
}

-- ---- an entry that writes a message

-- what the message gives but for what it hands on
abbrev pub Base : List Call → ℕ → ℕ → Type 0
Base calls n a = ((releases_by (access_at calls n) ≡ true) × UpTo calls n a) ⊎ ((releases_by (access_at calls n) ≡ false) × Carried calls n (thread_at calls n) a)

-- where its entry gets nothing from another, that is all that it gives
pub gives_alone : (Has Exact : ℕ → ℕ → ℕ → Type 0) (calls : List Call) (n : ℕ) (times : List ℕ) → GetsNothing calls n → Agrees Has Exact (suc n) (Base calls n) times → Agrees Has Exact (suc n) (Gives calls n) times
gives_alone Has Exact calls n times g h =
    same_set Has Exact (suc n) (Base calls n) (Gives calls n) times
    (λ a q. gives_from calls n a (elim q as (λ _. GivenParts calls n a) [ inl r ↦ inl r | inr r ↦ inr (inl r) ]))
    (λ a q. elim (gives_parts calls n a q) as (λ _. Base calls n a) [
      | inl r ↦ inl r
      | inr r ↦ elim r as (λ _. Base calls n a) [ inl s ↦ inr s | inr s ↦ absurd (g a s) ]
    ]) h

-- and else it gives what the message gave that it read, beside
pub gives_with : (Has Exact : ℕ → ℕ → ℕ → Type 0) (calls : List Call) (n : ℕ) (stamp : Stamp) (times old : List ℕ) → read_by (event_at calls n) ≡ Some stamp → length old ≡ length times
    → Agrees Has Exact (suc n) (Base calls n) times → Agrees Has Exact (suc n) (Given calls n stamp) old → Agrees Has Exact (suc n) (Gives calls n) (joined times old)
gives_with Has Exact calls n stamp times old e l h given =
    same_set Has Exact (suc n) (λ a. Base calls n a ⊎ Given calls n stamp a) (Gives calls n) (joined times old)
    (λ a q. gives_from calls n a (elim q as (λ _. GivenParts calls n a) [
      | inl r ↦ elim r as (λ _. GivenParts calls n a) [ inl s ↦ inl s | inr s ↦ inr (inl s) ]
      | inr r ↦ inr (inr (is_given calls n a stamp e r))
    ]))
    (λ a q. elim (gives_parts calls n a q) as (λ _. Base calls n a ⊎ Given calls n stamp a) [
      | inl r ↦ inl (inl r)
      | inr r ↦ elim r as (λ _. Base calls n a ⊎ Given calls n stamp a) [ inl s ↦ inl (inr s) | inr s ↦ inr (given_is calls n a stamp e s) ]
    ])
    (union Has Exact (suc n) (Base calls n) (Given calls n stamp) times old l h given)

pub base_times : (calls : List Call) (n : ℕ) (m : Memory) (v after : ThreadView) (y to : ℕ) → Before calls n m v → after.rel ≡ v.rel → na_written (event_at calls n) ≡ None
    → ViewsIn calls (length m.na) (suc n) (thread_at calls n) after
    → (b : Bool) → releases_by (access_at calls n) ≡ b → AgreesIn calls (length m.na) (suc n) (Base calls n) (cond b after.cur (raised after.rel (view_index m y) to))
base_times calls n m v after y to b same w views true e =
    same_set (HasSlot calls (length m.na)) (WroteVersion calls (length m.na)) (suc n) (Cur calls (suc n) (thread_at calls n)) (Base calls n) after.cur
    (λ a q. inl (e, upto_cur calls n a q))
    (λ a q. elim q as (λ _. Cur calls (suc n) (thread_at calls n) a) [ inl h ↦ cur_new calls n a h.1 | inr h ↦ absurd (true≢false (sym e ∙ h.0)) ])
    views.cur
base_times calls n m v after y to b same w views false e =
    let nothing : (a u : ℕ) → a < suc n → WroteVersion calls (length m.na) a (view_index m y) u → ⊥ = λ a u k h. let i = h.0 in omega (arith, i) in
    let now = later (HasSlot calls (length m.na)) (WroteVersion calls (length m.na)) n (Carried calls n (thread_at calls n)) v.rel (closed_past calls n m v.rel (no_fresh calls n m w) b.closed.rel) b.view.rel in
    let up = raised_only (HasSlot calls (length m.na)) (WroteVersion calls (length m.na)) (suc n) (Carried calls n (thread_at calls n)) v.rel (view_index m y) to nothing now in
    same_set (HasSlot calls (length m.na)) (WroteVersion calls (length m.na)) (suc n) (Carried calls n (thread_at calls n)) (Base calls n) (raised after.rel (view_index m y) to)
    (λ a q. inr (e, q))
    (λ a q. elim q as (λ _. Carried calls n (thread_at calls n) a) [ inl h ↦ absurd (true≢false (sym h.0 ∙ e)) | inr h ↦ h.1 ])
    (subst (λ (r : List ℕ). AgreesIn calls (length m.na) (suc n) (Carried calls n (thread_at calls n)) (raised r (view_index m y) to)) (sym same) up)

-- its own timestamp is the greatest that it knows of its location
pub base_own : (m : Memory) (v after : ThreadView) (y to : ℕ) → after.rel ≡ v.rel → IsClosedView m v → y < length m.atomic → get_or v.cur (view_index m y) 0 ≤ to → get_or after.cur (view_index m y) 0 ≤ to
    → (b : Bool) → get_or (cond b after.cur (raised after.rel (view_index m y) to)) (view_index m y) 0 ≤ to
base_own m v after y to same c l k h true = h
base_own m v after y to same c l k h false =
    let there : view_index m y < length v.rel = omega (arith, l, c.rel.locations) in
    let at = get_or-raised_same v.rel (view_index m y) to there in
    let below = parts_ordered v.rel v.cur (view_index m y) (sym c.ordered.rel_length) c.ordered.rel_below in
    let this : get_or (raised after.rel (view_index m y) to) (view_index m y) 0 ≡ get_or (raised v.rel (view_index m y) to) (view_index m y) 0 = ap (λ (r : List ℕ). get_or (raised r (view_index m y) to) (view_index m y) 0) same in
    omega (arith, at, below, this, k)

-- what an entry wrote has a beginning
pub interval_of : (e : Event) (y to : ℕ) → written_by e ≡ Some (stamp_of y to) → (from : ℕ) × (interval_by e ≡ Some (record { location = y; from = from; to = to }))
interval_of (event.NaRead x v) y to e = absurd (none-some (stamp_of y to) e)
interval_of (event.NaWrite x v n) y to e = absurd (none-some (stamp_of y to) e)
interval_of (event.Read z order v t) y to e = absurd (none-some (stamp_of y to) e)
interval_of (event.Write z order v from t) y to e =
    let s = same_Some (stamp_of z t) (stamp_of y to) e in (from, ap (λ (s : Stamp). Some (record { location = s.location; from = from; to = s.to })) s)
interval_of (event.Update z order old new read t) y to e =
    let s = same_Some (stamp_of z t) (stamp_of y to) e in (read, ap (λ (s : Stamp). Some (record { location = s.location; from = read; to = s.to })) s)
interval_of (event.Miss z order old read) y to e = absurd (none-some (stamp_of y to) e)
interval_of (event.Fence order) y to e = absurd (none-some (stamp_of y to) e)
interval_of (event.Print v) y to e = absurd (none-some (stamp_of y to) e)
interval_of (event.Fail cause) y to e = absurd (none-some (stamp_of y to) e)
interval_of (event.FailCompare z read) y to e = absurd (none-some (stamp_of y to) e)
interval_of event.Finish y to e = absurd (none-some (stamp_of y to) e)
interval_of event.Spend y to e = absurd (none-some (stamp_of y to) e)

stamp_same : (x y : ℕ) (t u : ℕ) → stamp_of x t ≡ stamp_of y u → (x ≡ y) × (t ≡ u)
stamp_same x y t u e = (ap (λ (s : Stamp). s.location) e, ap (λ (s : Stamp). s.to) e)

pub message_step : (calls : List Call) (n : ℕ) (m : Memory) (v : ThreadView) (y : ℕ) (message : TheMessage) → Before calls n m v → y < length m.atomic → message.from < message.to
    → is_free message.from message.to (messages m y) ≡ true
    → interval_by (event_at calls n) ≡ Some (record { location = y; from = message.from; to = message.to }) → written_by (event_at calls n) ≡ Some (stamp_of y message.to) → na_written (event_at calls n) ≡ None
    → AgreesIn calls (length m.na) (suc n) (Gives calls n) message.times → get_or message.times (length m.na + y) 0 ≤ message.to
    → KnowsMemory calls (length m.na) (suc n) (with_message m y message)
message_step calls n m v y message b l short free iv wr w agrees own = record {
  messages = λ z. elim (cases_eq z y) as (λ _. AllByRecursion (Fits calls (length m.na) (suc n) z) (messages (with_message m y message) z)) [
    | inl e ↦ subst (λ (k : ℕ). AllByRecursion (Fits calls (length m.na) (suc n) k) (messages (with_message m y message) k)) (sym e)
        (subst (AllByRecursion (Fits calls (length m.na) (suc n) y)) (sym here) (all_inserted (Fits calls (length m.na) (suc n) y) message (messages m y) mine olds))
    | inr ne ↦ subst (AllByRecursion (Fits calls (length m.na) (suc n) z)) (sym (get_or-set_other m.atomic y z (inserted message (messages m y)) [] ne)) (apart_from z ne)
  ];
  there = λ k i below q. elim (older k n below) as (λ _. IsSomeAnd (message_at i.to (messages (with_message m y message) i.location)) (λ x. x.from ≡ i.from)) [
    | inl old ↦ elim (cases_eq i.location y) as (λ _. IsSomeAnd (message_at i.to (messages (with_message m y message) i.location)) (λ x. x.from ≡ i.from)) [
      | inl e ↦ still i e (b.memory.there k i old q)
      | inr ne ↦ subst (λ (h : Messages). IsSomeAnd (message_at i.to h) (λ x. x.from ≡ i.from)) (sym (get_or-set_other m.atomic y i.location (inserted message (messages m y)) [] ne)) (b.memory.there k i old q)
    ]
    | inr s ↦ subst (λ (x : Interval). IsSomeAnd (message_at x.to (messages (with_message m y message) x.location)) (λ r. r.from ≡ x.from))
        (same_Some (record { location = y; from = message.from; to = message.to }) i (sym iv ∙ ap (λ (x : ℕ). interval_by (event_at calls x)) (sym s) ∙ q)) found_new
  ];
  versions = quiet_versions calls (length m.na) n m w b.memory.versions;
  last = more_last calls (length m.na) n m b.memory.last;
}
  where
    here : messages (with_message m y message) y ≡ inserted message (messages m y)
    here = get_or-set_same m.atomic y (inserted message (messages m y)) [] l

    apart : AllByRecursion (λ k. k.to ≡ message.to → ⊥) (messages m y)
    apart = free_apart message.from message.to (messages m y) short (b.well_formed.disjoint y l) free

    -- nothing was given by this name before
    none_given : (a : ℕ) → Given calls n (stamp_of y message.to) a → ⊥
    none_given a h = let i = interval_of (event_at calls h.entry) y message.to h.written in
        subst (λ (o : Option TheMessage). IsSomeAnd o (λ x. x.from ≡ i.0)) (unfound message.to (messages m y) apart)
        (b.memory.there h.entry (record { location = y; from = i.0; to = message.to }) h.before i.1)

    mine : Fits calls (length m.na) (suc n) y message
    mine = record {
      agrees = same_set (HasSlot calls (length m.na)) (WroteVersion calls (length m.na)) (suc n) (Gives calls n) (Given calls (suc n) (stamp_of y message.to)) message.times
          (λ a q. given_new calls n (stamp_of y message.to) a wr q)
          (λ a q. elim (given_more calls n (stamp_of y message.to) a q) as (λ _. Gives calls n a) [ inl r ↦ absurd (none_given a r) | inr r ↦ r.1 ])
          agrees;
      own = own;
    }

    fits_with : (z : ℕ) (k : TheMessage) → (z ≡ y → k.to ≡ message.to → ⊥) → IsClosed m k.times → Fits calls (length m.na) n z k → Fits calls (length m.na) (suc n) z k
    fits_with z k ne closed fits = fits_on calls (length m.na) n z k
        (λ q. let e = stamp_same y z message.to k.to (same_Some (stamp_of y message.to) (stamp_of z k.to) (sym wr ∙ q)) in ne (sym e.0) (sym e.1))
        (closed_past calls n m k.times (no_fresh calls n m w) closed) fits

    olds : AllByRecursion (Fits calls (length m.na) (suc n) y) (messages m y)
    olds = all_both (λ k. (k.to ≡ message.to → ⊥) × IsClosed m k.times) (Fits calls (length m.na) n y) (Fits calls (length m.na) (suc n) y) (messages m y)
        (λ k p fits. fits_with y k (λ _. p.0) p.1 fits)
        (all_both (λ k. k.to ≡ message.to → ⊥) (λ k. IsClosed m k.times) (λ k. (k.to ≡ message.to → ⊥) × IsClosed m k.times) (messages m y) (λ k p q. (p, q)) apart (b.well_formed.closed y l))
        (b.memory.messages y)

    apart_from : (z : ℕ) → (z ≡ y → ⊥) → AllByRecursion (Fits calls (length m.na) (suc n) z) (messages m z)
    apart_from z ne = all_both (Fits calls (length m.na) n z) (λ k. IsClosed m k.times) (Fits calls (length m.na) (suc n) z) (messages m z)
        (λ k fits closed. fits_with z k (λ e. absurd (ne e)) closed fits) (b.memory.messages z) (closed_at m z b.well_formed)

    found_new : IsSomeAnd (message_at message.to (messages (with_message m y message) y)) (λ r. r.from ≡ message.from)
    found_new = subst (λ (h : Messages). IsSomeAnd (message_at message.to h) (λ r. r.from ≡ message.from)) (sym here)
        (subst (λ (o : Option TheMessage). IsSomeAnd o (λ r. r.from ≡ message.from)) (sym (new_found message (messages m y) apart)) refl)

    still : (i : Interval) → i.location ≡ y → IsSomeAnd (message_at i.to (messages m i.location)) (λ x. x.from ≡ i.from) → IsSomeAnd (message_at i.to (messages (with_message m y message) i.location)) (λ x. x.from ≡ i.from)
    still i e h =
        let at_y : IsSomeAnd (message_at i.to (messages m y)) (λ x. x.from ≡ i.from) = subst (λ (z : ℕ). IsSomeAnd (message_at i.to (messages m z)) (λ x. x.from ≡ i.from)) e h in
        let ne : message.to ≡ i.to → ⊥ = λ s. subst (λ (o : Option TheMessage). IsSomeAnd o (λ x. x.from ≡ i.from)) (ap (λ (t : ℕ). message_at t (messages m y)) (sym s) ∙ unfound message.to (messages m y) apart) at_y in
        subst (λ (z : ℕ). IsSomeAnd (message_at i.to (messages (with_message m y message) z)) (λ x. x.from ≡ i.from)) (sym e)
        (subst (λ (h : Messages). IsSomeAnd (message_at i.to h) (λ x. x.from ≡ i.from)) (sym here)
        (subst (λ (o : Option TheMessage). IsSomeAnd o (λ x. x.from ≡ i.from)) (sym (old_found message (messages m y) i.to ne)) at_y))
