-- The clocks, the numbers, what messages hand on and the rows, entry by entry.
use Rattle.std.proofs.Common.{◌≡◌, ◌↔◌, ℕ, suc, ◌+◌, ◌<◌, ◌≤◌, ◌⊎◌, inl, inr, Bool, true, false, ◌&&◌, cond, eqb, List, [], ◌∷◌, ◌++◌, length, get_or, set, Option, Some, None, refl, sym, ap, subst, ◌∙◌, arith}
use Rattle.std.proofs.lemmas.Bool.{cond-true, cond-false, cases_eq, cases_lt, cases_Bool, true≢false, eq-eqb, ne_eqb}
use Rattle.std.proofs.lemmas.Option.{none-some, same_Some}
use Rattle.std.proofs.lemmas.List.{get_or-set_same, get_or-set_other, length-set, get_or_append_left, length-append}
use Rattle.std.specs.Option.{MatchOption}
use Rattle.std.specs.BTreeMap.{is_at}
use Rattle.values_undef.specs.declared.access.Order.{Order}
use Rattle.values_undef.specs.declared.access.Order.TheVariants.{Rlx, Acq, Rel, AcqRel}
use Rattle.values_undef.specs.declared.access.Access.TheVariants as access
use Rattle.values_undef.specs.declared.access.Event.{Event}
use Rattle.values_undef.specs.declared.access.Event.TheVariants as event
use Rattle.views.specs.Timestamps.{raised, joined}
use Rattle.views.specs.ThreadView.{ThreadView, no_view, raised_view, heard, fenced}
use Rattle.views.proofs.Callers.{length-raised, length-joined, raised_ordered, heard_ordered, fenced_ordered}
use Rattle.message_memory.specs.declared.history.Call.{Call}
use Rattle.message_memory.specs.Step.{acquires_by, releases_by}
use Rattle.exec_graph.specs.declared.row.Row.{Row}
use Rattle.exec_graph.specs.Entries.{Stamp, thread_at, access_at, event_at, read_by, written_by, is_fence, is_acquire_fence, is_release_fence}
use Rattle.exec_graph.specs.Past.{Past, Gives}
use Rattle.exec_graph.specs.Numbers.{number_in, number_in_thread}
use Rattle.exec_graph.specs.Stamps.{stamp_cmp}
use Rattle.exec_graph.specs.Clock.{fence_of, acquires_in, releases_in, times_at, clock_by, handed_by, with_times, IsClockRow}
use Rattle.exec_graph.proofs.Sets.{Cur, Given, Carried, older, cur_new, given_old, given_new, given_more, carried_old, carried_more, past_early}
use Rattle.exec_graph.proofs.Agrees.{same_set}
use Rattle.exec_graph.proofs.Views.{GetsNothing, upto_cur}
use Rattle.exec_graph.proofs.Cases.{Base, gives_alone, gives_with}
use Rattle.exec_graph.proofs.Accesses.{TellsAccess}
use Rattle.exec_graph.proofs.StampLemmas.{at_itself, at_same}
use Rattle.exec_graph.proofs.Ticking.{HasNumber, IsWithin, IsClock, IsHandedOn, number_rises, number_own, other_clock, handed_later, clock_alone, clock_reading, clock_fence, raised_within, heard_within, past_numbers, own_numbers, later_numbers}

-- ---- what is known of entry n

pub record IsEntered (calls : List Call) (threads n : ℕ) (failing : Bool) : Type 0 where
  pub there : thread_at calls n < threads
  pub access : TellsAccess (access_at calls n) (event_at calls n)
  pub acquires : (stamp : Stamp) → read_by (event_at calls n) ≡ Some stamp → acquires_by (access_at calls n) ≡ acquires_in (event_at calls n) failing
  pub new : (stamp : Stamp) → written_by (event_at calls n) ≡ Some stamp → (w : ℕ) → w < n → written_by (event_at calls w) ≡ Some stamp → ⊥

abbrev pub Hands : List Call → ℕ → ℕ → Stamp → Option (List ℕ) → Type 0
Hands calls threads n stamp o = MatchOption o ((w : ℕ) → w < n → written_by (event_at calls w) ≡ Some stamp → ⊥) (λ times. IsHandedOn calls threads n (Given calls n stamp) times)

-- a message that nobody wrote gives nothing
gives_nothing : (calls : List Call) (n : ℕ) (stamp : Stamp) → read_by (event_at calls n) ≡ Some stamp → ((w : ℕ) → w < n → written_by (event_at calls w) ≡ Some stamp → ⊥) → GetsNothing calls n
gives_nothing calls n stamp e h a r =
    let s = same_Some r.stamp stamp (sym r.read ∙ e) in
    h r.has.entry r.has.before (r.has.written ∙ ap Some s)

fence_reads : (e : Event) (order : Order) → fence_of e ≡ Some order → read_by e ≡ None
fence_reads (event.NaRead x v) order h = refl
fence_reads (event.NaWrite x v n) order h = refl
fence_reads (event.Read y o v to) order h = absurd (none-some order h)
fence_reads (event.Write y o v from to) order h = refl
fence_reads (event.Update y o old new read to) order h = absurd (none-some order h)
fence_reads (event.Miss y o old read) order h = absurd (none-some order h)
fence_reads (event.Fence o) order h = refl
fence_reads (event.Print v) order h = refl
fence_reads (event.Fail cause) order h = refl
fence_reads (event.FailCompare y read) order h = absurd (none-some order h)
fence_reads event.Finish order h = refl
fence_reads event.Spend order h = refl

fence_writes : (e : Event) (order : Order) → fence_of e ≡ Some order → written_by e ≡ None
fence_writes (event.NaRead x v) order h = refl
fence_writes (event.NaWrite x v n) order h = refl
fence_writes (event.Read y o v to) order h = refl
fence_writes (event.Write y o v from to) order h = absurd (none-some order h)
fence_writes (event.Update y o old new read to) order h = absurd (none-some order h)
fence_writes (event.Miss y o old read) order h = refl
fence_writes (event.Fence o) order h = refl
fence_writes (event.Print v) order h = refl
fence_writes (event.Fail cause) order h = refl
fence_writes (event.FailCompare y read) order h = refl
fence_writes event.Finish order h = refl
fence_writes event.Spend order h = refl

-- ---- the clock of its thread

alone : (calls : List Call) (threads n : ℕ) (v : ThreadView) → IsClock calls threads n (thread_at calls n) v → thread_at calls n < threads → GetsNothing calls n → is_fence (access_at calls n) ≡ false
    → IsClock calls threads (suc n) (thread_at calls n) (raised_view v (thread_at calls n) (number_in_thread calls n + 1))
alone calls threads n v c l g f = record {
  views = clock_alone calls threads n v c l g f;
  cur = raised_within calls n v.cur c.cur;
  got = raised_within calls n v.got c.got;
  rel = λ i. (let a = c.rel i in let b = number_rises calls i n (suc n) (omega arith) in omega (arith, a, b));
  ordered = raised_ordered v (thread_at calls n) (number_in_thread calls n + 1) c.ordered;
  places = length-raised v.cur (thread_at calls n) (number_in_thread calls n + 1) ∙ c.places;
}

read_clock : (calls : List Call) (threads n : ℕ) (v : ThreadView) (stamp : Stamp) (times : List ℕ) (b : Bool) → IsClock calls threads n (thread_at calls n) v → thread_at calls n < threads
    → read_by (event_at calls n) ≡ Some stamp → is_fence (access_at calls n) ≡ false → acquires_by (access_at calls n) ≡ b → IsHandedOn calls threads n (Given calls n stamp) times
    → IsClock calls threads (suc n) (thread_at calls n) (heard (raised_view v (thread_at calls n) (number_in_thread calls n + 1)) times b)
read_clock calls threads n v stamp times b c l r f q h =
    let w = raised_view v (thread_at calls n) (number_in_thread calls n + 1) in
    let h' = handed_later calls threads n (Given calls n stamp) times h in record {
      views = clock_reading calls threads n v stamp times b c l r f q h;
      cur = heard_within calls (suc n) w.cur times b (raised_within calls n v.cur c.cur) h'.within;
      got = heard_within calls (suc n) w.got times true (raised_within calls n v.got c.got) h'.within;
      rel = λ i. (let a = c.rel i in let b = number_rises calls i n (suc n) (omega arith) in omega (arith, a, b));
      ordered = heard_ordered w times b (raised_ordered v (thread_at calls n) (number_in_thread calls n + 1) c.ordered);
      places = heard_places b ∙ length-raised v.cur (thread_at calls n) (number_in_thread calls n + 1) ∙ c.places;
    }
  where
    heard_places : (b : Bool) → length (cond b (joined (raised v.cur (thread_at calls n) (number_in_thread calls n + 1)) times) (raised v.cur (thread_at calls n) (number_in_thread calls n + 1))) ≡ length (raised v.cur (thread_at calls n) (number_in_thread calls n + 1))
    heard_places true = length-joined (raised v.cur (thread_at calls n) (number_in_thread calls n + 1)) times
    heard_places false = refl

fence_clock : (calls : List Call) (threads n : ℕ) (v : ThreadView) (order : Order) → IsClock calls threads n (thread_at calls n) v → thread_at calls n < threads → read_by (event_at calls n) ≡ None → access_at calls n ≡ access.Fence order
    → IsClock calls threads (suc n) (thread_at calls n) (fenced (raised_view v (thread_at calls n) (number_in_thread calls n + 1)) order)
fence_clock calls threads n v order c l r s =
    let w = raised_view v (thread_at calls n) (number_in_thread calls n + 1) in
    let o = raised_ordered v (thread_at calls n) (number_in_thread calls n + 1) c.ordered in
    let cur = raised_within calls n v.cur c.cur in
    let got = raised_within calls n v.got c.got in
    let rel : IsWithin calls (suc n) v.rel = λ i. (let a = c.rel i in let b = number_rises calls i n (suc n) (omega arith) in omega (arith, a, b)) in record {
      views = clock_fence calls threads n v order c l r (record { acquire = ap is_acquire_fence s; release = ap is_release_fence s });
      cur = fence_cur order cur got;
      got = fence_got order got;
      rel = fence_rel order cur got rel;
      ordered = fenced_ordered w order o;
      places = fence_places order o.got_length ∙ length-raised v.cur (thread_at calls n) (number_in_thread calls n + 1) ∙ c.places;
    }
  where
    w : ThreadView
    w = raised_view v (thread_at calls n) (number_in_thread calls n + 1)

    fence_cur : (order : Order) → IsWithin calls (suc n) (raised v.cur (thread_at calls n) (number_in_thread calls n + 1)) → IsWithin calls (suc n) (raised v.got (thread_at calls n) (number_in_thread calls n + 1))
        → IsWithin calls (suc n) (fenced (raised_view v (thread_at calls n) (number_in_thread calls n + 1)) order).cur
    fence_cur Rlx a b = a
    fence_cur Acq a b = b
    fence_cur Rel a b = a
    fence_cur AcqRel a b = b

    fence_got : (order : Order) → IsWithin calls (suc n) (raised v.got (thread_at calls n) (number_in_thread calls n + 1)) → IsWithin calls (suc n) (fenced (raised_view v (thread_at calls n) (number_in_thread calls n + 1)) order).got
    fence_got Rlx a = a
    fence_got Acq a = a
    fence_got Rel a = a
    fence_got AcqRel a = a

    fence_rel : (order : Order) → IsWithin calls (suc n) (raised v.cur (thread_at calls n) (number_in_thread calls n + 1)) → IsWithin calls (suc n) (raised v.got (thread_at calls n) (number_in_thread calls n + 1)) → IsWithin calls (suc n) v.rel
        → IsWithin calls (suc n) (fenced (raised_view v (thread_at calls n) (number_in_thread calls n + 1)) order).rel
    fence_rel Rlx a b c = c
    fence_rel Acq a b c = c
    fence_rel Rel a b c = a
    fence_rel AcqRel a b c = b

    fence_places : (order : Order) → length (raised v.got (thread_at calls n) (number_in_thread calls n + 1)) ≡ length (raised v.cur (thread_at calls n) (number_in_thread calls n + 1))
        → length (fenced (raised_view v (thread_at calls n) (number_in_thread calls n + 1)) order).cur ≡ length (raised v.cur (thread_at calls n) (number_in_thread calls n + 1))
    fence_places Rlx e = refl
    fence_places Acq e = e
    fence_places Rel e = refl
    fence_places AcqRel e = e

pub clock_more : (calls : List Call) (threads n : ℕ) (failing : Bool) (v : ThreadView) (handed : Stamp → Option (List ℕ)) → IsEntered calls threads n failing → IsClock calls threads n (thread_at calls n) v → ((stamp : Stamp) → Hands calls threads n stamp (handed stamp))
    → (o : Option Order) → fence_of (event_at calls n) ≡ o → (r : Option Stamp) → read_by (event_at calls n) ≡ r
    → IsClock calls threads (suc n) (thread_at calls n) (clock_by v (thread_at calls n) (number_in_thread calls n + 1) o (acquires_in (event_at calls n) failing) (times_at handed r))
clock_more calls threads n failing v handed i c h (Some order) e r er =
    fence_clock calls threads n v order c i.there (fence_reads (event_at calls n) order e) (i.access.fence order e)
clock_more calls threads n failing v handed i c h None e None er =
    alone calls threads n v c i.there (λ a q. none-some q.stamp (sym er ∙ q.read)) (i.access.none e)
clock_more calls threads n failing v handed i c h None e (Some stamp) er = by (handed stamp) (h stamp)
  where
    by : (o : Option (List ℕ)) → Hands calls threads n stamp o → IsClock calls threads (suc n) (thread_at calls n) (clock_by v (thread_at calls n) (number_in_thread calls n + 1) None (acquires_in (event_at calls n) failing) o)
    by None none = alone calls threads n v c i.there (gives_nothing calls n stamp er none) (i.access.none e)
    by (Some times) hands = read_clock calls threads n v stamp times (acquires_in (event_at calls n) failing) c i.there er (i.access.none e) (i.acquires stamp er) hands

-- ---- what its message hands on

base_tells : (calls : List Call) (threads n : ℕ) (w : ThreadView) → is_fence (access_at calls n) ≡ false → IsClock calls threads (suc n) (thread_at calls n) w → (b : Bool) → releases_by (access_at calls n) ≡ b
    → IsHandedOn calls threads (suc n) (Base calls n) (cond b w.cur w.rel)
base_tells calls threads n w f c true e = record {
  tells = same_set (HasNumber calls) (HasNumber calls) (suc n) (Cur calls (suc n) (thread_at calls n)) (Base calls n) w.cur
      (λ a q. inl (e, upto_cur calls n a q))
      (λ a q. elim q as (λ _. Cur calls (suc n) (thread_at calls n) a) [ inl h ↦ cur_new calls n a h.1 | inr h ↦ absurd (true≢false (sym e ∙ h.0)) ])
      c.views.cur;
  within = c.cur;
  places = c.places;
}
base_tells calls threads n w f c false e = record {
  tells = same_set (HasNumber calls) (HasNumber calls) (suc n) (Carried calls (suc n) (thread_at calls n)) (Base calls n) w.rel
      (λ a q. inr (e, carried_more calls n (thread_at calls n) a (λ _. no_fence) q))
      (λ a q. elim q as (λ _. Carried calls (suc n) (thread_at calls n) a) [ inl h ↦ absurd (true≢false (sym h.0 ∙ e)) | inr h ↦ carried_old calls n (thread_at calls n) a (λ _. no_fence) h.1 ])
      c.views.rel;
  within = c.rel;
  places = c.ordered.rel_length ∙ c.places;
}
  where
    no_fence : is_release_fence (access_at calls n) ≡ false
    no_fence = (λ i. f i && releases_by (access_at calls n))

handed_alone : (calls : List Call) (threads n : ℕ) (times : List ℕ) → GetsNothing calls n → IsHandedOn calls threads (suc n) (Base calls n) times → IsHandedOn calls threads (suc n) (Gives calls n) times
handed_alone calls threads n times g h = record { tells = gives_alone (HasNumber calls) (HasNumber calls) calls n times g h.tells; within = h.within; places = h.places }

handed_with : (calls : List Call) (threads n : ℕ) (stamp : Stamp) (times old : List ℕ) → read_by (event_at calls n) ≡ Some stamp → IsHandedOn calls threads (suc n) (Base calls n) times → IsHandedOn calls threads n (Given calls n stamp) old
    → IsHandedOn calls threads (suc n) (Gives calls n) (joined times old)
handed_with calls threads n stamp times old e h given =
    let late = handed_later calls threads n (Given calls n stamp) old given in record {
      tells = gives_with (HasNumber calls) (HasNumber calls) calls n stamp times old e (given.places ∙ sym h.places) h.tells late.tells;
      within = heard_within calls (suc n) times old true h.within late.within;
      places = length-joined times old ∙ h.places;
    }

pub message_hands : (calls : List Call) (threads n : ℕ) (failing : Bool) (w : ThreadView) (handed : Stamp → Option (List ℕ)) (written : Stamp) → IsEntered calls threads n failing → IsClock calls threads (suc n) (thread_at calls n) w → ((stamp : Stamp) → Hands calls threads n stamp (handed stamp))
    → written_by (event_at calls n) ≡ Some written → is_fence (access_at calls n) ≡ false → (r : Option Stamp) → read_by (event_at calls n) ≡ r
    → IsHandedOn calls threads (suc n) (Gives calls n) (handed_by w (releases_in (event_at calls n)) (times_at handed r))
message_hands calls threads n failing w handed written i c h e f None er =
    handed_alone calls threads n _ (λ a q. none-some q.stamp (sym er ∙ q.read)) (base_tells calls threads n w f c (releases_in (event_at calls n)) (i.access.writes written e))
message_hands calls threads n failing w handed written i c h e f (Some stamp) er = by (handed stamp) (h stamp)
  where
    base : IsHandedOn calls threads (suc n) (Base calls n) (cond (releases_in (event_at calls n)) w.cur w.rel)
    base = base_tells calls threads n w f c (releases_in (event_at calls n)) (i.access.writes written e)

    by : (o : Option (List ℕ)) → Hands calls threads n stamp o → IsHandedOn calls threads (suc n) (Gives calls n) (handed_by w (releases_in (event_at calls n)) o)
    by None none = handed_alone calls threads n _ (gives_nothing calls n stamp er none) base
    by (Some old) hands = handed_with calls threads n stamp _ old er base hands

-- ---- what each message hands on after it

keeps : (calls : List Call) (threads n : ℕ) (stamp : Stamp) (o : Option (List ℕ)) → (written_by (event_at calls n) ≡ Some stamp → ⊥) → Hands calls threads n stamp o → Hands calls threads (suc n) stamp o
keeps calls threads n stamp None ne h = λ w l e. elim (older w n l) as (λ _. ⊥) [ inl k ↦ h w k e | inr s ↦ ne (subst (λ (x : ℕ). written_by (event_at calls x) ≡ Some stamp) s e) ]
keeps calls threads n stamp (Some times) ne h =
    let late = handed_later calls threads n (Given calls n stamp) times h in record {
      tells = same_set (HasNumber calls) (HasNumber calls) (suc n) (Given calls n stamp) (Given calls (suc n) stamp) times
          (λ a q. given_old calls n stamp a q)
          (λ a q. elim (given_more calls n stamp a q) as (λ _. Given calls n stamp a) [ inl r ↦ r | inr r ↦ absurd (ne r.0) ]) late.tells;
      within = late.within;
      places = late.places;
    }

gives_new : (calls : List Call) (threads n : ℕ) (failing : Bool) (stamp : Stamp) (times : List ℕ) → IsEntered calls threads n failing → written_by (event_at calls n) ≡ Some stamp → IsHandedOn calls threads (suc n) (Gives calls n) times
    → IsHandedOn calls threads (suc n) (Given calls (suc n) stamp) times
gives_new calls threads n failing stamp times i e h = record {
  tells = same_set (HasNumber calls) (HasNumber calls) (suc n) (Gives calls n) (Given calls (suc n) stamp) times
      (λ a q. given_new calls n stamp a e q)
      (λ a q. elim (given_more calls n stamp a q) as (λ _. Gives calls n a) [ inl r ↦ absurd (i.new stamp e r.entry r.before r.written) | inr r ↦ r.1 ]) h.tells;
  within = h.within;
  places = h.places;
}

pub hands_more : (calls : List Call) (threads n : ℕ) (failing : Bool) (stamp : Stamp) (before : Option (List ℕ)) (times : List ℕ) → IsEntered calls threads n failing → Hands calls threads n stamp before
    → (o : Option Stamp) → written_by (event_at calls n) ≡ o → ((written : Stamp) → o ≡ Some written → IsHandedOn calls threads (suc n) (Gives calls n) times) → Hands calls threads (suc n) stamp (with_times before times stamp o)
hands_more calls threads n failing stamp before times i h None e t = keeps calls threads n stamp before (λ q. none-some stamp (sym e ∙ q)) h
hands_more calls threads n failing stamp before times i h (Some written) e t = elim (cases_Bool (is_at (stamp_cmp written) stamp)) as (λ _. Hands calls threads (suc n) stamp (cond (is_at (stamp_cmp written) stamp) (Some times) before)) [
  | inl y ↦ subst (Hands calls threads (suc n) stamp) (sym (cond-true (is_at (stamp_cmp written) stamp) (Some times) before y))
      (gives_new calls threads n failing stamp times i (e ∙ ap Some (at_same written stamp y)) (t written refl))
  | inr other ↦ subst (Hands calls threads (suc n) stamp) (sym (cond-false (is_at (stamp_cmp written) stamp) (Some times) before other))
      (keeps calls threads n stamp before (λ q. (let s = same_Some written stamp (sym e ∙ q) in true≢false (sym (at_itself written) ∙ ap (is_at (stamp_cmp written)) s ∙ other))) h)
]

-- ---- its row

pub row_more : (calls : List Call) (threads n : ℕ) (w : ThreadView) (row : Row) → IsClock calls threads (suc n) (thread_at calls n) w → ((a : ℕ) → a < length calls → thread_at calls a < threads)
    → row.thread ≡ thread_at calls n → row.number ≡ number_in_thread calls n → ((i : ℕ) → i < threads → get_or row.counts i 0 ≡ cond (eqb i (thread_at calls n)) (number_in_thread calls n) (get_or w.cur i 0)) → IsClockRow calls n row
row_more calls threads n w row c all e f counts = record {
  thread = e;
  number = f;
  counts = λ a l. elim (cases_eq (thread_at calls a) (thread_at calls n)) as (λ _. (number_in_thread calls a < get_or row.counts (thread_at calls a) 0) ↔ Past calls n a) [
    | inl same ↦ subst (λ (x : ℕ). (number_in_thread calls a < x) ↔ Past calls n a) (sym (counts (thread_at calls a) (all a l) ∙ cond-true (eqb (thread_at calls a) (thread_at calls n)) _ _ (eq-eqb (thread_at calls a) (thread_at calls n) same)))
        (own_numbers calls n a same)
    | inr ne ↦ subst (λ (x : ℕ). (number_in_thread calls a < x) ↔ Past calls n a) (sym (counts (thread_at calls a) (all a l) ∙ cond-false (eqb (thread_at calls a) (thread_at calls n)) _ _ (ne_eqb (thread_at calls a) (thread_at calls n) ne)))
        (apart a ne (cases_lt a n))
  ];
}
  where
    apart : (a : ℕ) → (thread_at calls a ≡ thread_at calls n → ⊥) → (a < n) ⊎ (n ≤ a) → (number_in_thread calls a < get_or w.cur (thread_at calls a) 0) ↔ Past calls n a
    apart a ne (inl l) = past_numbers calls threads n w.cur c.views.cur a l ne
    apart a ne (inr l) = (
      (λ k. absurd (later_numbers calls n a w.cur c.cur (elim (cases_eq a n) as (λ _. n < a) [ inl e ↦ absurd (ne (ap (thread_at calls) e)) | inr d ↦ omega (arith, l, d) ]) ne k)),
      (λ p. let early = past_early calls n a p in absurd (omega (arith, early, l))),
    )

-- ---- all of it

pub record RowsSoFar (calls : List Call) (threads n : ℕ) (clocks : List ThreadView) (numbers : List ℕ) (handed : Stamp → Option (List ℕ)) (rows : List Row) : Type 0 where
  pub many : length clocks ≡ threads
  pub many_numbers : length numbers ≡ threads
  pub clock : (i : ℕ) → i < threads → IsClock calls threads n i (get_or clocks i no_view)
  pub number : (i : ℕ) → i < threads → get_or numbers i 0 ≡ number_in calls i n
  pub hands : (stamp : Stamp) → Hands calls threads n stamp (handed stamp)
  pub many_rows : length rows ≡ n
  pub row : (k : ℕ) (d : Row) → k < n → IsClockRow calls k (get_or rows k d)

pub rows_more : (calls : List Call) (threads n : ℕ) (failing : Bool) (clocks : List ThreadView) (numbers : List ℕ) (handed handed' : Stamp → Option (List ℕ)) (rows : List Row) (w : ThreadView) (row : Row)
    → IsEntered calls threads n failing → ((a : ℕ) → a < length calls → thread_at calls a < threads) → RowsSoFar calls threads n clocks numbers handed rows
    → w ≡ clock_by (get_or clocks (thread_at calls n) no_view) (thread_at calls n) (number_in_thread calls n + 1) (fence_of (event_at calls n)) (acquires_in (event_at calls n) failing) (times_at handed (read_by (event_at calls n)))
    → ((stamp : Stamp) → handed' stamp ≡ with_times (handed stamp) (handed_by w (releases_in (event_at calls n)) (times_at handed (read_by (event_at calls n)))) stamp (written_by (event_at calls n)))
    → row.thread ≡ thread_at calls n → row.number ≡ number_in_thread calls n → ((i : ℕ) → i < threads → get_or row.counts i 0 ≡ cond (eqb i (thread_at calls n)) (number_in_thread calls n) (get_or w.cur i 0))
    → RowsSoFar calls threads (suc n) (set clocks (thread_at calls n) w) (set numbers (thread_at calls n) (number_in_thread calls n + 1)) handed' (rows ++ row ∷ [])
rows_more calls threads n failing clocks numbers handed handed' rows w row i all h is hand rt rn rc =
    let t = thread_at calls n in
    let clock : IsClock calls threads (suc n) t w = subst (IsClock calls threads (suc n) t) (sym is)
    (clock_more calls threads n failing (get_or clocks t no_view) handed i (h.clock t i.there) h.hands (fence_of (event_at calls n)) refl (read_by (event_at calls n)) refl) in record {
      many = length-set clocks t w ∙ h.many;
      many_numbers = length-set numbers t (number_in_thread calls n + 1) ∙ h.many_numbers;
      clock = λ j l. elim (cases_eq j t) as (λ _. IsClock calls threads (suc n) j (get_or (set clocks t w) j no_view)) [
        | inl e ↦ subst (λ (k : ℕ). IsClock calls threads (suc n) k (get_or (set clocks t w) k no_view)) (sym e)
            (subst (IsClock calls threads (suc n) t) (sym (get_or-set_same clocks t w no_view (let m = h.many in let th = i.there in omega (arith, m, th)))) clock)
        | inr ne ↦ subst (IsClock calls threads (suc n) j) (sym (get_or-set_other clocks t j w no_view ne)) (other_clock calls threads n j (get_or clocks j no_view) (λ e. ne (sym e)) (h.clock j l))
      ];
      number = λ j l. elim (cases_eq j t) as (λ _. get_or (set numbers t (number_in_thread calls n + 1)) j 0 ≡ number_in calls j (suc n)) [
        | inl e ↦ ap (λ (k : ℕ). get_or (set numbers t (number_in_thread calls n + 1)) k 0) e ∙ get_or-set_same numbers t (number_in_thread calls n + 1) 0 (let m = h.many_numbers in let th = i.there in omega (arith, m, th))
            ∙ sym (number_own calls t n refl) ∙ ap (λ (k : ℕ). number_in calls k (suc n)) (sym e)
        | inr ne ↦ get_or-set_other numbers t j (number_in_thread calls n + 1) 0 ne ∙ h.number j l ∙ sym (cond-false (eqb t j) _ _ (ne_eqb t j (λ e. ne (sym e))))
      ];
      hands = λ stamp. subst (Hands calls threads (suc n) stamp) (sym (hand stamp))
          (hands_more calls threads n failing stamp (handed stamp) _ i (h.hands stamp) (written_by (event_at calls n)) refl
          (λ written e. message_hands calls threads n failing w handed written i clock h.hands e (no_fence written e) (read_by (event_at calls n)) refl));
      many_rows = length-append rows (row ∷ []) ∙ ap (λ (x : ℕ). x + 1) h.many_rows ∙ omega arith;
      row = λ k d l. elim (older k n l) as (λ _. IsClockRow calls k (get_or (rows ++ row ∷ []) k d)) [
        | inl below ↦ subst (IsClockRow calls k) (sym (get_or_append_left rows (row ∷ []) d k (let m = h.many_rows in omega (arith, m, below)))) (h.row k d below)
        | inr e ↦ subst (λ (x : ℕ). IsClockRow calls x (get_or (rows ++ row ∷ []) x d)) (sym e) (subst (IsClockRow calls n) (sym (last_row d)) (row_more calls threads n w row clock all rt rn rc))
      ];
    }
  where
    no_fence : (written : Stamp) → written_by (event_at calls n) ≡ Some written → is_fence (access_at calls n) ≡ false
    no_fence written e = choose (fence_of (event_at calls n)) refl
      where
        choose : (o : Option Order) → fence_of (event_at calls n) ≡ o → is_fence (access_at calls n) ≡ false
        choose None q = i.access.none q
        choose (Some order) q = absurd (none-some written (sym (fence_writes (event_at calls n) order q) ∙ e))

    last_row : (d : Row) → get_or (rows ++ row ∷ []) n d ≡ row
    last_row d = ap (λ (k : ℕ). get_or (rows ++ row ∷ []) k d) (sym h.many_rows) ∙ at_end rows
      where
        at_end : (xs : List Row) → get_or (xs ++ row ∷ []) (length xs) d ≡ row
        at_end [] = refl
        at_end (x ∷ xs) = at_end xs
