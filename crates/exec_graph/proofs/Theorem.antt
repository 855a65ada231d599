-- Coherence, adjacency, races.
use Rattle.std.proofs.Common.{◌≡◌, ℕ, zero, suc, ◌+◌, ◌<◌, ◌≤◌, ◌⊎◌, inl, inr, min, max, Bool, true, false, ◌&&◌, eqb, ltb, List, [], length, get_or, Option, Some, None, refl, sym, ap, subst, ◌∙◌, arith}
use Rattle.std.proofs.lemmas.Bool.{cond_both, cond-true, cond-false, ltb-true, lt-ltb, false≢true, true≢false, cases_lt, cases_order, cases_Bool, eq-eqb, eqb-true, and_parts}
use Rattle.std.proofs.lemmas.Option.{none-some, same_Some}
use Rattle.std.specs.List.{AllByRecursion}
use Rattle.std.specs.Option.{IsSomeAnd, unwrap_or}
use Rattle.values_undef.specs.Access.{is_failure, choice_of_event}
use Rattle.values_undef.specs.declared.value.Val.{Val}
use Rattle.values_undef.specs.declared.value.Val.TheVariants.{Undef}
use Rattle.values_undef.specs.declared.access.Access.{Access}
use Rattle.values_undef.specs.declared.access.Access.TheVariants as access
use Rattle.values_undef.specs.declared.access.Choice.{Choice}
use Rattle.values_undef.specs.declared.access.Event.{Event}
use Rattle.values_undef.specs.declared.access.Event.TheVariants as event
use Rattle.views.specs.ThreadView.{ThreadView}
use Rattle.message_memory.specs.declared.history.Call.{Call}
use Rattle.message_memory.specs.declared.message.Message.{Message as TheMessage}
use Rattle.message_memory.specs.Memory.{Memory, messages, location_in, view_index, message_at}
use Rattle.message_memory.specs.Step.{StepResult, step_result, is_racy, read_value, acquires_by, IsProper}
use Rattle.message_memory.specs.History.{view_of}
use Rattle.message_memory.proofs.Callers.{all_found, some_from_and}
use Rattle.exec_graph.specs.Entries.{thread_at, access_at, event_at, Stamp, read_by, written_by, is_fence}
use Rattle.exec_graph.specs.Past.{Past}
use Rattle.exec_graph.specs.Known.{Slot, slot, na_written, Interval, interval_by}
use Rattle.exec_graph.specs.Races.{na_location, IsRace, value_before}
use Rattle.exec_graph.specs.Laws.{timestamp, HistoriesAreCoherent, UpdatesAreAdjacent, ReadsTellRaces, WritesTellRaces}
use Rattle.exec_graph.proofs.Sets.{Cur, Given, past_parts, cur_past}
use Rattle.exec_graph.proofs.Invariant.{AgreesIn, Fits, stamp_of}
use Rattle.exec_graph.proofs.Cases.{interval_of}
use Rattle.exec_graph.proofs.Messages.{found_to}
use Rattle.exec_graph.proofs.Histories.{At, declared_in, known_at}
use Rattle.exec_graph.proofs.Legal.{CanRead, IsLegalEvent, legal_event, free_from}

-- ---- coherence

timestamp_slot : (na : ℕ) (e : Event) (s : Stamp) → timestamp e ≡ Some s → slot na e ≡ Some (record { index = na + s.location; number = s.to })
timestamp_slot na (event.NaRead x v) s h = absurd (none-some s h)
timestamp_slot na (event.NaWrite x v n) s h = absurd (none-some s h)
timestamp_slot na (event.Read y o v to) s h = ap (λ (t : Stamp). Some (record { index = na + t.location; number = t.to })) (same_Some (stamp_of y to) s h)
timestamp_slot na (event.Write y o v from to) s h = ap (λ (t : Stamp). Some (record { index = na + t.location; number = t.to })) (same_Some (stamp_of y to) s h)
timestamp_slot na (event.Update y o old new read to) s h = ap (λ (t : Stamp). Some (record { index = na + t.location; number = t.to })) (same_Some (stamp_of y to) s h)
timestamp_slot na (event.Miss y o old read) s h = ap (λ (t : Stamp). Some (record { index = na + t.location; number = t.to })) (same_Some (stamp_of y read) s h)
timestamp_slot na (event.Fence o) s h = absurd (none-some s h)
timestamp_slot na (event.Print v) s h = absurd (none-some s h)
timestamp_slot na (event.Fail cause) s h = absurd (none-some s h)
timestamp_slot na (event.FailCompare y read) s h = ap (λ (t : Stamp). Some (record { index = na + t.location; number = t.to })) (same_Some (stamp_of y read) s h)
timestamp_slot na event.Finish s h = absurd (none-some s h)
timestamp_slot na event.Spend s h = absurd (none-some s h)

-- the entry is legal in the state before it
pub legal_at : (calls : List Call) (declared : ℕ → Val) (na k : ℕ) (h : At calls declared na k) → IsLegalEvent h.state.memory (view_of h.state (thread_at calls k)) (access_at calls k) (event_at calls k)
legal_at calls declared na k h =
    let m = h.state.memory in
    let v = view_of h.state (thread_at calls k) in
    subst (IsLegalEvent m v (access_at calls k)) h.step.step.event
    (legal_event m v (thread_at calls k) (access_at calls k) (choice_of_event (event_at calls k)) h.step.proper h.step.step.legal.admits)

-- what a set says of an entry's timestamp
in_set : (calls : List Call) (declared : ℕ → Val) (na k a : ℕ) (h : At calls declared na k) (S : ℕ → Type 0) (times : List ℕ) (s : Stamp) → AgreesIn calls na k S times → S a → timestamp (event_at calls a) ≡ Some s
    → s.to ≤ get_or times (view_index h.state.memory s.location) 0
in_set calls declared na k a h S times s g q e =
    subst (λ (n : ℕ). s.to ≤ get_or times (n + s.location) 0) (sym h.knows.locations) (g.below a (na + s.location) s.to q (timestamp_slot na (event_at calls a) s e))

-- an entry that is known by what entry k reads has a timestamp up to that
by_reading : (calls : List Call) (declared : ℕ → Val) (na k a : ℕ) (h : At calls declared na k) (t : Stamp) → read_by (event_at calls k) ≡ Some t → Past calls k a
    → (s : Stamp) → timestamp (event_at calls a) ≡ Some s → s.location ≡ t.location → s.to ≤ t.to
by_reading calls declared na k a h t r p s e same =
    let m = h.state.memory in
    let i = thread_at calls k in
    let can = (legal_at calls declared na k h).reads t r in
    let at : get_or (view_of h.state i).cur (view_index m s.location) 0 ≤ t.to = subst (λ (y : ℕ). get_or (view_of h.state i).cur (view_index m y) 0 ≤ t.to) (sym same) can.within in
    elim (past_parts calls k a p) as (λ _. s.to ≤ t.to) [
      | inl c ↦ (let l = in_set calls declared na k a h (Cur calls k i) (view_of h.state i).cur s (h.knows.views i h.step.there).cur c e in omega (arith, l, at))
      | inr c ↦ elim c as (λ _. s.to ≤ t.to) [
        | inl q ↦ (let given = subst (λ (x : Stamp). Given calls k x a) (same_Some q.1.stamp t (sym q.1.read ∙ r)) q.1.has in by_message given can)
        | inr q ↦ absurd (none-some t (sym ((legal_at calls declared na k h).fence (and_parts (is_fence (access_at calls k)) (acquires_by (access_at calls k)) q.0).0) ∙ r))
      ]
    ]
  where
    by_message : Given calls k t a → CanRead h.state.memory (view_of h.state (thread_at calls k)) t → s.to ≤ t.to
    by_message given can =
        let m = h.state.memory in
        let old = unwrap_or (message_at t.to (messages m t.location)) (record { from = 0; to = 0; value = Undef; times = [] }) in
        let fits = all_found (Fits calls na k t.location) t.to (messages m t.location) (record { from = 0; to = 0; value = Undef; times = [] }) (h.knows.memory.messages t.location) can.some in
        let to : old.to ≡ t.to = found_to t.to (messages m t.location) (record { from = 0; to = 0; value = Undef; times = [] }) can.some in
        let agrees = subst (λ (n : ℕ). AgreesIn calls na k (Given calls k (stamp_of t.location n)) old.times) to fits.agrees in
        let l = in_set calls declared na k a h (Given calls k t) old.times s agrees given e in
        let own : get_or old.times (view_index m s.location) 0 ≤ old.to = subst (λ (n : ℕ). get_or old.times (n + s.location) 0 ≤ old.to) (sym h.knows.locations) (subst (λ (y : ℕ). get_or old.times (na + y) 0 ≤ old.to) (sym same) fits.own) in
        omega (arith, l, own, to)

by_writing : (calls : List Call) (declared : ℕ → Val) (na k a : ℕ) (h : At calls declared na k) (t : Stamp) → written_by (event_at calls k) ≡ Some t → Past calls k a
    → (s : Stamp) → timestamp (event_at calls a) ≡ Some s → s.location ≡ t.location → s.to < t.to
by_writing calls declared na k a h t w p s e same =
    let m = h.state.memory in
    let i = thread_at calls k in
    let iv = interval_of (event_at calls k) t.location t.to w in
    let it : Interval = record { location = t.location; from = iv.0; to = t.to } in
    let legal = legal_at calls declared na k h in
    let can = legal.writes it iv.1 in
    let at : get_or (view_of h.state i).cur (view_index m s.location) 0 < t.to = subst (λ (y : ℕ). get_or (view_of h.state i).cur (view_index m y) 0 < t.to) (sym same) can.above in
    elim (past_parts calls k a p) as (λ _. s.to < t.to) [
      | inl c ↦ (let l = in_set calls declared na k a h (Cur calls k i) (view_of h.state i).cur s (h.knows.views i h.step.there).cur c e in omega (arith, l, at))
      | inr c ↦ elim c as (λ _. s.to < t.to) [
        | inl q ↦ (let u = legal.updates q.1.stamp it q.1.read iv.1 in
            let l = by_reading calls declared na k a h q.1.stamp q.1.read p s e (same ∙ sym (ap (λ (x : Stamp). x.location) u)) in
            let f = ap (λ (x : Stamp). x.to) u in
            let short = can.short in omega (arith, l, f, short))
        | inr q ↦ absurd (none-some t (sym (legal.fence_writes (and_parts (is_fence (access_at calls k)) (acquires_by (access_at calls k)) q.0).0) ∙ w))
      ]
    ]

pub coherent : HistoriesAreCoherent
coherent na atomic threads calls a b h l p =
    let at = known_at na atomic threads calls h b l in record {
      reads = λ s t e r same. by_reading calls (declared_in na) (length na) b a at t r p s e same;
      writes = λ s t e w same. by_writing calls (declared_in na) (length na) b a at t w p s e same;
    }

-- ---- adjacency

some_holds : (o : Option TheMessage) (d : TheMessage) (P : TheMessage → Type 0) → IsSomeAnd o P → P (unwrap_or o d)
some_holds None d P h = absurd h
some_holds (Some k) d P h = h

-- two intervals at one location lie apart
pub apart : (calls : List Call) (declared : ℕ → Val) (na k w : ℕ) (h : At calls declared na k) (i j : Interval) → w < k → interval_by (event_at calls k) ≡ Some i → interval_by (event_at calls w) ≡ Some j → i.location ≡ j.location → min i.to j.to ≤ max i.from j.from
apart calls declared na k w h i j l e f same =
    let m = h.state.memory in
    let can = (legal_at calls declared na k h).writes i e in
    let there = h.knows.memory.there w j l f in
    let some = some_from_and _ _ there in
    let free = free_from i.from i.to (messages m i.location) can.free in
    let free_there : AllByRecursion (λ k. min i.to k.to ≤ max i.from k.from) (messages m j.location) = subst (λ (y : ℕ). AllByRecursion (λ k. min i.to k.to ≤ max i.from k.from) (messages m y)) same free in
    let d : TheMessage = record { from = 0; to = 0; value = Undef; times = [] } in
    let old = unwrap_or (message_at j.to (messages m j.location)) d in
    let it = all_found (λ k. min i.to k.to ≤ max i.from k.from) j.to (messages m j.location) d free_there some in
    let to : old.to ≡ j.to = found_to j.to (messages m j.location) d some in
    let from : old.from ≡ j.from = some_holds (message_at j.to (messages m j.location)) d (λ k. k.from ≡ j.from) there in
    omega (arith, it, to, from)

pub adjacent : UpdatesAreAdjacent
adjacent na atomic threads calls k w y read to t order old new h l m is wrote above below =
    let i : Interval = record { location = y; from = read; to = to } in
    let j = interval_of (event_at calls w) y t wrote in
    let it : Interval = record { location = y; from = j.0; to = t } in
    let at_k = known_at na atomic threads calls h k l in
    let at_w = known_at na atomic threads calls h w m in
    let short = ((legal_at calls (declared_in na) (length na) w at_w).writes it j.1).short in
    elim (cases_order w k) as (λ _. ⊥) [
      | inl e ↦ (let s = same_Some (stamp_of y to) (stamp_of y t) (sym (ap written_by is) ∙ ap (λ (x : ℕ). written_by (event_at calls x)) (sym e) ∙ wrote) in
          let f = ap (λ (x : Stamp). x.to) s in omega (arith, f, below))
      | inr o ↦ elim o as (λ _. ⊥) [
        | inl early ↦ (let d = apart calls (declared_in na) (length na) k w at_k i it early (ap interval_by is) j.1 refl in omega (arith, d, short, above, below))
        | inr late ↦ (let d = apart calls (declared_in na) (length na) w k at_w it i late j.1 (ap interval_by is) refl in omega (arith, d, short, above, below))
      ]
    ]

-- ---- races

-- for a non-atomic access Past is what its thread knew before
pub past_cur : (calls : List Call) (declared : ℕ → Val) (na k x a : ℕ) (h : At calls declared na k) → na_location (access_at calls k) ≡ Some x → Past calls k a → Cur calls k (thread_at calls k) a
past_cur calls declared na k x a h e p =
    let n = (legal_at calls declared na k h).na x e in
    elim (past_parts calls k a p) as (λ _. Cur calls k (thread_at calls k) a) [
      | inl c ↦ c
      | inr c ↦ elim c as (λ _. Cur calls k (thread_at calls k) a) [
        | inl q ↦ absurd (none-some q.1.stamp (sym n.0 ∙ q.1.read))
        | inr q ↦ absurd (false≢true (sym n.1 ∙ (and_parts (is_fence (access_at calls k)) (acquires_by (access_at calls k)) q.0).0))
      ]
    ]

-- a write of the location is in Past exactly where the thread's number there is no lower
pub known_write : (calls : List Call) (declared : ℕ → Val) (na k x w t : ℕ) (h : At calls declared na k) → na_location (access_at calls k) ≡ Some x → x < na → w < k → na_written (event_at calls w) ≡ Some (record { index = x; number = t })
    → t ≤ get_or (view_of h.state (thread_at calls k)).cur x 0 → Past calls k w
known_write calls declared na k x w t h e l before wrote m = cur_past calls k w ((h.knows.views (thread_at calls k) h.step.there).cur.exact w x t before (l, wrote) m)

write_slot : (na : ℕ) (e : Event) (s : Slot) → na_written e ≡ Some s → slot na e ≡ Some s
write_slot na (event.NaRead x v) s h = absurd (none-some s h)
write_slot na (event.NaWrite x v n) s h = h
write_slot na (event.Read y o v to) s h = absurd (none-some s h)
write_slot na (event.Write y o v from to) s h = absurd (none-some s h)
write_slot na (event.Update y o old new read to) s h = absurd (none-some s h)
write_slot na (event.Miss y o old read) s h = absurd (none-some s h)
write_slot na (event.Fence o) s h = absurd (none-some s h)
write_slot na (event.Print v) s h = absurd (none-some s h)
write_slot na (event.Fail cause) s h = absurd (none-some s h)
write_slot na (event.FailCompare y read) s h = absurd (none-some s h)
write_slot na event.Finish s h = absurd (none-some s h)
write_slot na event.Spend s h = absurd (none-some s h)

pub write_known : (calls : List Call) (declared : ℕ → Val) (na k x w t : ℕ) (h : At calls declared na k) → na_location (access_at calls k) ≡ Some x → na_written (event_at calls w) ≡ Some (record { index = x; number = t })
    → Past calls k w → t ≤ get_or (view_of h.state (thread_at calls k)).cur x 0
write_known calls declared na k x w t h e wrote p =
    (h.knows.views (thread_at calls k) h.step.there).cur.below w x t (past_cur calls declared na k x w h e p) (write_slot na (event_at calls w) (record { index = x; number = t }) wrote)

-- ---- the first of a bounded search

pub record IsFirst (P : ℕ → Bool) (n w : ℕ) : Type 0 where
  pub before : w < n
  pub holds : P w ≡ true
  pub none : (b : ℕ) → b < w → P b ≡ false

first_below : (P : ℕ → Bool) (n : ℕ) → (((w : ℕ) × IsFirst P n w)) ⊎ ((b : ℕ) → b < n → P b ≡ false)
first_below P zero = inr (λ b l. absurd (omega (arith, l)))
first_below P (suc n) = elim (first_below P n) as (λ _. (((w : ℕ) × IsFirst P (suc n) w)) ⊎ ((b : ℕ) → b < suc n → P b ≡ false)) [
  | inl f ↦ inl (f.0, (let l = f.1.before in record { before = omega (arith, l); holds = f.1.holds; none = f.1.none }))
  | inr none ↦ elim (cases_Bool (P n)) as (λ _. (((w : ℕ) × IsFirst P (suc n) w)) ⊎ ((b : ℕ) → b < suc n → P b ≡ false)) [
    | inl e ↦ inl (n, record { before = omega arith; holds = e; none = none })
    | inr e ↦ inr (λ b l. elim (cases_lt b n) as (λ _. P b ≡ false) [ inl k ↦ none b k | inr k ↦ ap P (omega (arith, l, k)) ∙ e ])
  ]
]

-- the slot is one at the index above the number
abbrev is_above : ℕ → ℕ → Option Slot → Bool
is_above x t None = false
is_above x t (Some s) = eqb s.index x && ltb t s.number

above_some : (x t : ℕ) (o : Option Slot) → is_above x t o ≡ true → (n : ℕ) × (o ≡ Some (record { index = x; number = n })) × (t < n)
above_some x t None h = absurd (false≢true h)
above_some x t (Some s) h =
    let p = and_parts (eqb s.index x) (ltb t s.number) h in
    (s.number, ap (λ (i : ℕ). Some (record { index = i; number = s.number })) (eqb-true s.index x p.0), ltb-true t s.number p.1)

some_above : (x t n : ℕ) (o : Option Slot) → o ≡ Some (record { index = x; number = n }) → t < n → is_above x t o ≡ true
some_above x t n o e l = ap (is_above x t) e ∙ (λ i. eq-eqb x x refl i && lt-ltb t n l i)

-- ---- a thread that is racy at the location has a race, and no other

racy_races : (calls : List Call) (declared : ℕ → Val) (na k x : ℕ) (h : At calls declared na k) → na_location (access_at calls k) ≡ Some x → x < na → is_racy h.state.memory (view_of h.state (thread_at calls k)) x ≡ true
    → (w : ℕ) × IsRace calls k w
racy_races calls declared na k x h e l racy =
    let m = h.state.memory in
    let t = get_or (view_of h.state (thread_at calls k)).cur x 0 in
    let under : t < (location_in m x).version = ltb-true _ _ racy in
    elim (first_below (λ w. is_above x t (na_written (event_at calls w))) k) as (λ _. (w : ℕ) × IsRace calls k w) [
      | inl f ↦ (let w = f.0 in let s = above_some x t (na_written (event_at calls w)) f.1.holds in (
        w,
        record {
          location = x;
          access = e;
          before = f.1.before;
          write = record { version = s.0; written = s.1 };
          apart = λ p. (let n = write_known calls declared na k x w s.0 h e s.1 p in let o = s.2 in omega (arith, n, o));
          first = λ b below write. elim (cases_lt t write.version) as (λ _. Past calls k b) [
            | inl o ↦ absurd (true≢false (sym (some_above x t write.version (na_written (event_at calls b)) write.written o) ∙ f.1.none b below))
            | inr o ↦ known_write calls declared na k x b write.version h e l (let f = f.1.before in omega (arith, below, f)) write.written o
          ];
        },
      ))
      | inr none ↦ elim (h.knows.memory.last x l) as (λ _. (w : ℕ) × IsRace calls k w) [
        | inl z ↦ absurd (omega (arith, z, under))
        | inr q ↦ absurd (true≢false (sym (some_above x t (location_in m x).version (na_written (event_at calls q.0)) q.2.1 under) ∙ none q.0 q.1))
      ]
    ]

races_racy : (calls : List Call) (declared : ℕ → Val) (na k x w : ℕ) (h : At calls declared na k) → na_location (access_at calls k) ≡ Some x → x < na → IsRace calls k w → is_racy h.state.memory (view_of h.state (thread_at calls k)) x ≡ true
races_racy calls declared na k x w h e l race =
    let m = h.state.memory in
    let t = get_or (view_of h.state (thread_at calls k)).cur x 0 in
    let same : race.location ≡ x = same_Some race.location x (sym race.access ∙ e) in
    let wrote : na_written (event_at calls w) ≡ Some (record { index = x; number = race.write.version }) = subst (λ (i : ℕ). na_written (event_at calls w) ≡ Some (record { index = i; number = race.write.version })) same race.write.written in
    let v = h.knows.memory.versions w x race.write.version race.before (l, wrote) in
    elim (cases_lt t (location_in m x).version) as (λ _. is_racy m (view_of h.state (thread_at calls k)) x ≡ true) [
      | inl under ↦ lt-ltb t (location_in m x).version under
      | inr over ↦ absurd (race.apart (known_write calls declared na k x w race.write.version h e l race.before wrote (omega (arith, over, v.1))))
    ]

-- ---- what is read and written

na_there : (calls : List Call) (declared : ℕ → Val) (na k x : ℕ) (a : Access) (h : At calls declared na k) → access_at calls k ≡ a → IsProper h.state.memory a → (IsProper h.state.memory a → x < length h.state.memory.na) → x < na
na_there calls declared na k x a h s p f = let l = f p in let e = h.knows.locations in omega (arith, l, e)

read_event : (calls : List Call) (declared : ℕ → Val) (na k x : ℕ) (h : At calls declared na k) → access_at calls k ≡ access.NaRead x → event_at calls k ≡ event.NaRead x (read_value h.state.memory (view_of h.state (thread_at calls k)) x)
read_event calls declared na k x h s =
    sym h.step.step.event ∙ ap (λ (a : Access). (step_result h.state.memory (view_of h.state (thread_at calls k)) (thread_at calls k) a (choice_of_event (event_at calls k))).event) s

pub reads_tell : ReadsTellRaces
reads_tell na atomic threads calls k x history l s =
    let h = known_at na atomic threads calls history k l in
    let m = h.state.memory in
    let v = view_of h.state (thread_at calls k) in
    let e : na_location (access_at calls k) ≡ Some x = ap na_location s in
    let there : x < length na = na_there calls (declared_in na) (length na) k x (access.NaRead x) h s (subst (IsProper m) s h.step.proper) (λ p. p) in
    let is = read_event calls (declared_in na) (length na) k x h s in record {
      raced = λ w race. is ∙ ap (event.NaRead x) (cond-true (is_racy m v x) Undef (location_in m x).value (races_racy calls (declared_in na) (length na) k x w h e there race));
      apart = λ none. is ∙ ap (event.NaRead x) (elim (cases_Bool (is_racy m v x)) as (λ _. read_value m v x ≡ value_before calls x (declared_in na x) k) [
        | inl racy ↦ (let r = racy_races calls (declared_in na) (length na) k x h e there racy in absurd (none r.0 r.1))
        | inr fine ↦ cond-false (is_racy m v x) Undef (location_in m x).value fine ∙ h.knows.values x there
      ]);
    }

write_fails : (m : Memory) (v : ThreadView) (i x : ℕ) (value : Val) (c : Choice) → is_failure (step_result m v i (access.NaWrite x value) c).event ≡ is_racy m v x
write_fails m v i x value c = cond_both (is_racy m v x) _ _ (λ (o : StepResult). is_failure o.event ≡ is_racy m v x) (λ e. sym e) (λ e. sym e)

pub writes_tell : WritesTellRaces
writes_tell na atomic threads calls k x value history l s =
    let h = known_at na atomic threads calls history k l in
    let m = h.state.memory in
    let v = view_of h.state (thread_at calls k) in
    let e : na_location (access_at calls k) ≡ Some x = ap na_location s in
    let there : x < length na = na_there calls (declared_in na) (length na) k x (access.NaWrite x value) h s (subst (IsProper m) s h.step.proper) (λ p. p) in
    let is : is_failure (event_at calls k) ≡ is_racy m v x =
    ap is_failure (sym h.step.step.event) ∙ ap (λ (a : Access). is_failure (step_result m v (thread_at calls k) a (choice_of_event (event_at calls k))).event) s ∙ write_fails m v (thread_at calls k) x value (choice_of_event (event_at calls k)) in (
      λ fails. racy_races calls (declared_in na) (length na) k x h e there (sym is ∙ fails),
      λ r. is ∙ races_racy calls (declared_in na) (length na) k x r.0 h e there r.1,
    )
