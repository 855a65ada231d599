-- What holds of each state of a history: views and messages know what the sets say.
use Rattle.std.proofs.Common.{◌≡◌, ℕ, suc, ◌+◌, ◌<◌, ◌≤◌, ◌⊎◌, inl, inr, List, [], length, get_or, Some, None, sym, ap, subst, ◌∙◌, arith}
use Rattle.std.proofs.lemmas.Bool.{cases_lt}
use Rattle.std.proofs.lemmas.Option.{none-some}
use Rattle.std.proofs.lemmas.List.{get_or_past}
use Rattle.std.specs.List.{AllByRecursion}
use Rattle.std.specs.Option.{IsSomeAnd}
use Rattle.values_undef.specs.declared.access.Event.{Event}
use Rattle.views.specs.ThreadView.{ThreadView}
use Rattle.message_memory.specs.declared.history.Call.{Call}
use Rattle.message_memory.specs.declared.message.Message.{Message as TheMessage}
use Rattle.message_memory.specs.Memory.{Memory, Messages, messages, location_in, message_at, absent_location, IsClosed, IsClosedView, IsWellFormedMemory}
use Rattle.message_memory.specs.Step.{StepResult}
use Rattle.message_memory.proofs.Callers.{top_times-na}
use Rattle.exec_graph.specs.Entries.{thread_at, event_at, Stamp, written_by}
use Rattle.exec_graph.specs.Known.{HasSlot, na_written, WroteVersion, Interval, interval_by}
use Rattle.exec_graph.proofs.Sets.{Given, older, given_old, given_more}
use Rattle.exec_graph.proofs.Agrees.{Agrees, same_set, later}
use Rattle.exec_graph.proofs.Views.{Views, IsPast}
use Rattle.exec_graph.proofs.Messages.{all_both}

-- ---- what the numbers of a memory say

abbrev pub AgreesIn : List Call → ℕ → ℕ → (ℕ → Type 0) → List ℕ → Type 0
AgreesIn calls na n S v = Agrees (HasSlot calls na) (WroteVersion calls na) n S v

abbrev pub ViewsIn : List Call → ℕ → ℕ → ℕ → ThreadView → Type 0
ViewsIn calls na n i v = Views (HasSlot calls na) (WroteVersion calls na) calls n i v

abbrev pub stamp_of : ℕ → ℕ → Stamp
stamp_of y to = record { location = y; to = to }

-- a message knows what it gives, and of its own location no more than its own timestamp
pub record Fits (calls : List Call) (na n y : ℕ) (m : TheMessage) : Type 0 where
  pub agrees : AgreesIn calls na n (Given calls n (stamp_of y m.to)) m.times
  pub own : get_or m.times (na + y) 0 ≤ m.to

-- each message that an entry wrote is there, with its interval
abbrev pub AreThere : List Call → ℕ → Memory → Type 0
AreThere calls n m = (w : ℕ) (i : Interval) → w < n → interval_by (event_at calls w) ≡ Some i → IsSomeAnd (message_at i.to (messages m i.location)) (λ k. k.from ≡ i.from)

-- versions count from 1 up to the last, which an entry wrote
abbrev pub AreVersions : List Call → ℕ → ℕ → Memory → Type 0
AreVersions calls na n m = (a x t : ℕ) → a < n → WroteVersion calls na a x t → (0 < t) × (t ≤ (location_in m x).version)

abbrev pub HasLast : List Call → ℕ → ℕ → Memory → Type 0
HasLast calls na n m = (x : ℕ) → x < na → ((location_in m x).version ≡ 0) ⊎ ((w : ℕ) × (w < n) × WroteVersion calls na w x (location_in m x).version)

pub record KnowsMemory (calls : List Call) (na n : ℕ) (m : Memory) : Type 0 where
  pub messages : (y : ℕ) → AllByRecursion (Fits calls na n y) (messages m y)
  pub there : AreThere calls n m
  pub versions : AreVersions calls na n m
  pub last : HasLast calls na n m

-- after one entry more
pub record Stepped (calls : List Call) (na n : ℕ) (o : StepResult) : Type 0 where
  pub view : ViewsIn calls na (suc n) (thread_at calls n) o.view
  pub memory : KnowsMemory calls na (suc n) o.memory

-- what each case of a step begins with
pub record Before (calls : List Call) (n : ℕ) (m : Memory) (v : ThreadView) : Type 0 where
  pub view : ViewsIn calls (length m.na) n (thread_at calls n) v
  pub memory : KnowsMemory calls (length m.na) n m
  pub well_formed : IsWellFormedMemory m
  pub closed : IsClosedView m v

-- ---- entry n writes no version, or the one after the last

abbrev pub IsFresh : List Call → ℕ → Memory → Type 0
IsFresh calls n m = (i t : ℕ) → WroteVersion calls (length m.na) n i t → t ≡ (location_in m i).version + 1

pub closed_past : (calls : List Call) (n : ℕ) (m : Memory) (times : List ℕ) → IsFresh calls n m → IsClosed m times → IsPast (WroteVersion calls (length m.na)) n times
closed_past calls n m times f c i t h =
    let there : i < length times = omega (arith, h.0, c.locations) in
    let l = c.below i there in
    let top = top_times-na m i h.0 in
    let e = f i t h in omega (arith, l, top, e)

pub no_version : (calls : List Call) (na n : ℕ) → na_written (event_at calls n) ≡ None → (i t : ℕ) → WroteVersion calls na n i t → ⊥
no_version calls na n e i t h = none-some (record { index = i; number = t }) (sym e ∙ h.1)

pub no_fresh : (calls : List Call) (n : ℕ) (m : Memory) → na_written (event_at calls n) ≡ None → IsFresh calls n m
no_fresh calls n m e i t h = absurd (no_version calls (length m.na) n e i t h)

-- ---- the memory after an entry that writes no message

-- what a message gives stays
pub fits_on : (calls : List Call) (na n y : ℕ) (k : TheMessage) → (written_by (event_at calls n) ≡ Some (stamp_of y k.to) → ⊥) → IsPast (WroteVersion calls na) n k.times → Fits calls na n y k → Fits calls na (suc n) y k
fits_on calls na n y k ne p h = record {
  agrees = same_set (HasSlot calls na) (WroteVersion calls na) (suc n) (Given calls n (stamp_of y k.to)) (Given calls (suc n) (stamp_of y k.to)) k.times
      (λ a. given_old calls n (stamp_of y k.to) a)
      (λ a q. elim (given_more calls n (stamp_of y k.to) a q) as (λ _. Given calls n (stamp_of y k.to) a) [ inl r ↦ r | inr r ↦ absurd (ne r.0) ])
      (later (HasSlot calls na) (WroteVersion calls na) n (Given calls n (stamp_of y k.to)) k.times p h.agrees);
  own = h.own;
}

pub closed_at : (m : Memory) (y : ℕ) → IsWellFormedMemory m → AllByRecursion (λ k. IsClosed m k.times) (messages m y)
closed_at m y w = elim (cases_lt y (length m.atomic)) as (λ _. AllByRecursion (λ k. IsClosed m k.times) (messages m y)) [
  | inl l ↦ w.closed y l
  | inr l ↦ subst (AllByRecursion (λ k. IsClosed m k.times)) (sym (get_or_past m.atomic y [] l)) tt
]

pub quiet_messages : (calls : List Call) (n : ℕ) (m : Memory) → IsWellFormedMemory m → IsFresh calls n m → written_by (event_at calls n) ≡ None
    → ((y : ℕ) → AllByRecursion (Fits calls (length m.na) n y) (messages m y)) → (y : ℕ) → AllByRecursion (Fits calls (length m.na) (suc n) y) (messages m y)
quiet_messages calls n m w f e h y =
    all_both (Fits calls (length m.na) n y) (λ k. IsClosed m k.times) (Fits calls (length m.na) (suc n) y) (messages m y)
    (λ k fits closed. fits_on calls (length m.na) n y k (λ q. none-some (stamp_of y k.to) (sym e ∙ q)) (closed_past calls n m k.times f closed) fits)
    (h y) (closed_at m y w)

pub quiet_there : (calls : List Call) (n : ℕ) (m : Memory) → interval_by (event_at calls n) ≡ None → AreThere calls n m → AreThere calls (suc n) m
quiet_there calls n m e h w i l q = elim (older w n l) as (λ _. IsSomeAnd (message_at i.to (messages m i.location)) (λ k. k.from ≡ i.from)) [
  | inl k ↦ h w i k q
  | inr s ↦ absurd (none-some i (sym e ∙ ap (λ (x : ℕ). interval_by (event_at calls x)) (sym s) ∙ q))
]

pub quiet_versions : (calls : List Call) (na n : ℕ) (m : Memory) → na_written (event_at calls n) ≡ None → AreVersions calls na n m → AreVersions calls na (suc n) m
quiet_versions calls na n m e h a x t l q = elim (older a n l) as (λ _. (0 < t) × (t ≤ (location_in m x).version)) [
  | inl k ↦ h a x t k q
  | inr s ↦ absurd (no_version calls na n e x t (subst (λ (b : ℕ). WroteVersion calls na b x t) s q))
]

pub more_last : (calls : List Call) (na n : ℕ) (m : Memory) → HasLast calls na n m → HasLast calls na (suc n) m
more_last calls na n m h x l = elim (h x l) as (λ _. ((location_in m x).version ≡ 0) ⊎ ((w : ℕ) × (w < suc n) × WroteVersion calls na w x (location_in m x).version)) [
  | inl e ↦ inl e
  | inr q ↦ inr (q.0, (let k = q.1 in omega (arith, k)), q.2)
]

-- the event writes nothing
pub record IsQuiet (e : Event) : Type 0 where
  pub version : na_written e ≡ None
  pub stamp : written_by e ≡ None
  pub interval : interval_by e ≡ None

pub quiet_memory : (calls : List Call) (n : ℕ) (m : Memory) → IsQuiet (event_at calls n) → IsWellFormedMemory m → KnowsMemory calls (length m.na) n m → KnowsMemory calls (length m.na) (suc n) m
quiet_memory calls n m e w h = record {
  messages = quiet_messages calls n m w (no_fresh calls n m e.version) e.stamp h.messages;
  there = quiet_there calls n m e.interval h.there;
  versions = quiet_versions calls (length m.na) n m e.version h.versions;
  last = more_last calls (length m.na) n m h.last;
}

-- another memory of the same locations and messages
pub same_memory : (calls : List Call) (na n : ℕ) (m m' : Memory) → m'.na ≡ m.na → m'.atomic ≡ m.atomic → KnowsMemory calls na n m → KnowsMemory calls na n m'
same_memory calls na n m m' e f h = record {
  messages = λ y. subst (AllByRecursion (Fits calls na n y)) (ap (λ (a : List Messages). get_or a y []) (sym f)) (h.messages y);
  there = λ w i l q. subst (λ (a : List Messages). IsSomeAnd (message_at i.to (get_or a i.location [])) (λ k. k.from ≡ i.from)) (sym f) (h.there w i l q);
  versions = λ a x t l q. let r = h.versions a x t l q in (r.0, subst (λ (b : ℕ). t ≤ b) (version_same x) r.1);
  last = λ x l. subst (λ (b : ℕ). (b ≡ 0) ⊎ ((w : ℕ) × (w < n) × WroteVersion calls na w x b)) (version_same x) (h.last x l);
}
  where
    version_same : (x : ℕ) → (location_in m x).version ≡ (location_in m' x).version
    version_same x = ap (λ a. (get_or a x absent_location).version) (sym e)
