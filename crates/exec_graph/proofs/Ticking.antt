-- Clocks: views over threads, in which each entry has its number.
use Rattle.std.proofs.Common.{◌≡◌, ◌↔◌, ℕ, zero, suc, ◌+◌, ◌<◌, ◌≤◌, ◌⊎◌, inl, inr, Bool, true, false, cond, eqb, List, length, get_or, Some, None, refl, sym, ap, subst, ◌∙◌, arith}
use Rattle.std.proofs.lemmas.Bool.{cond-true, cond_both, cases_eq, cases_lt, eq-eqb}
use Rattle.std.proofs.lemmas.List.{get_or_past}
use Rattle.values_undef.specs.declared.access.Order.{Order}
use Rattle.views.specs.Timestamps.{raised, joined}
use Rattle.views.specs.ThreadView.{ThreadView, IsOrdered, raised_view, heard, fenced}
use Rattle.views.proofs.Callers.{length-raised, get_or-raised_same, get_or-raised_other, joined_le}
use Rattle.message_memory.specs.declared.history.Call.{Call}
use Rattle.message_memory.specs.Step.{acquires_by}
use Rattle.message_memory.proofs.Callers.{parts_ordered}
use Rattle.exec_graph.specs.Entries.{thread_at, access_at, event_at, Stamp, read_by, is_fence}
use Rattle.exec_graph.specs.Past.{Past, own}
use Rattle.exec_graph.specs.Numbers.{number_in, number_in_thread}
use Rattle.exec_graph.proofs.Sets.{Cur, Given, cur_new, past_early}
use Rattle.exec_graph.proofs.Agrees.{Agrees, later}
use Rattle.exec_graph.proofs.Views.{Views, IsPast, IsNew, IsFenceOf, GetsNothing, others, numbered, reading, fencing_numbered, upto_cur}

-- ---- numbers

number_more : (calls : List Call) (i n : ℕ) → number_in calls i n ≤ number_in calls i (suc n)
number_more calls i n = cond_both (eqb (thread_at calls n) i) (suc (number_in calls i n)) (number_in calls i n) (λ x. number_in calls i n ≤ x) (λ _. omega arith) (λ _. omega arith)

pub number_rises : (calls : List Call) (i m n : ℕ) → m ≤ n → number_in calls i m ≤ number_in calls i n
number_rises calls i m zero l = let e : m ≡ 0 = omega (arith, l) in subst (λ (k : ℕ). number_in calls i k ≤ number_in calls i 0) (sym e) (omega arith)
number_rises calls i m (suc n) l = elim (cases_lt m (suc n)) as (λ _. number_in calls i m ≤ number_in calls i (suc n)) [
  | inl k ↦ (let a = number_rises calls i m n (omega (arith, k)) in let b = number_more calls i n in omega (arith, a, b))
  | inr k ↦ (let e : m ≡ suc n = omega (arith, l, k) in subst (λ (x : ℕ). number_in calls i m ≤ number_in calls i x) e (omega arith))
]

pub number_own : (calls : List Call) (i n : ℕ) → thread_at calls n ≡ i → number_in calls i (suc n) ≡ number_in calls i n + 1
number_own calls i n e = cond-true (eqb (thread_at calls n) i) _ _ (eq-eqb (thread_at calls n) i e) ∙ omega arith

pub number_few : (calls : List Call) (i n : ℕ) → number_in calls i n ≤ n
number_few calls i zero = omega arith
number_few calls i (suc n) = let l = number_few calls i n in
    cond_both (eqb (thread_at calls n) i) (suc (number_in calls i n)) (number_in calls i n) (λ x. x ≤ suc n) (λ _. omega (arith, l)) (λ _. omega (arith, l))

-- the number of an entry of the thread before n is below that of n
number_below : (calls : List Call) (i a n : ℕ) → thread_at calls a ≡ i → a < n → number_in calls i a + 1 ≤ number_in calls i n
number_below calls i a n e l =
    let one = number_own calls i a e in let more = number_rises calls i (suc a) n (omega (arith, l)) in omega (arith, one, more)

-- ---- what a clock says

pub record HasNumber (calls : List Call) (a i u : ℕ) : Type 0 where
  pub thread : thread_at calls a ≡ i
  pub number : u ≡ number_in calls i a + 1

-- no number is past those that there are
abbrev pub IsWithin : List Call → ℕ → List ℕ → Type 0
IsWithin calls n v = (i : ℕ) → get_or v i 0 ≤ number_in calls i n

abbrev pub Tells : List Call → ℕ → (ℕ → Type 0) → List ℕ → Type 0
Tells calls n S v = Agrees (HasNumber calls) (HasNumber calls) n S v

within_past : (calls : List Call) (n : ℕ) (v : List ℕ) → IsWithin calls n v → IsPast (HasNumber calls) n v
within_past calls n v w i t h = let l = w i in let e = h.number in omega (arith, l, e)

within_more : (calls : List Call) (n : ℕ) (v : List ℕ) → IsWithin calls n v → IsWithin calls (suc n) v
within_more calls n v w i = let l = w i in let m = number_more calls i n in omega (arith, l, m)

within_raised : (calls : List Call) (n : ℕ) (v : List ℕ) → IsWithin calls n v → IsWithin calls (suc n) (raised v (thread_at calls n) (number_in_thread calls n + 1))
within_raised calls n v w i =
    let t = thread_at calls n in
    let l = w i in
    let m = number_more calls i n in
    elim (cases_eq i t) as (λ _. get_or (raised v t (number_in_thread calls n + 1)) i 0 ≤ number_in calls i (suc n)) [
      | inr ne ↦ (let o = get_or-raised_other v t (number_in_thread calls n + 1) i ne in omega (arith, o, l, m))
      | inl e ↦ subst (λ (k : ℕ). get_or (raised v t (number_in_thread calls n + 1)) k 0 ≤ number_in calls k (suc n)) (sym e) (at_own (cases_lt t (length v)))
    ]
  where
    at_own : (thread_at calls n < length v) ⊎ (length v ≤ thread_at calls n) → get_or (raised v (thread_at calls n) (number_in_thread calls n + 1)) (thread_at calls n) 0 ≤ number_in calls (thread_at calls n) (suc n)
    at_own (inl there) = let s = get_or-raised_same v (thread_at calls n) (number_in_thread calls n + 1) there in let l = w (thread_at calls n) in let one = number_own calls (thread_at calls n) n refl in omega (arith, s, l, one)
    at_own (inr past) =
        let z = get_or_past (raised v (thread_at calls n) (number_in_thread calls n + 1)) (thread_at calls n) 0 (let e = length-raised v (thread_at calls n) (number_in_thread calls n + 1) in omega (arith, past, e)) in omega (arith, z)

within_joined : (calls : List Call) (n : ℕ) (v w : List ℕ) → IsWithin calls n v → IsWithin calls n w → IsWithin calls n (joined v w)
within_joined calls n v w a b i = let l = a i in let m = b i in let j = joined_le v w i in omega (arith, l, m, j)

-- ---- the clock of a thread

pub record IsClock (calls : List Call) (threads n i : ℕ) (v : ThreadView) : Type 0 where
  pub views : Views (HasNumber calls) (HasNumber calls) calls n i v
  pub cur : IsWithin calls n v.cur
  pub got : IsWithin calls n v.got
  pub rel : IsWithin calls n v.rel
  pub ordered : IsOrdered v
  pub places : length v.cur ≡ threads

-- what a message hands on
pub record IsHandedOn (calls : List Call) (threads n : ℕ) (S : ℕ → Type 0) (times : List ℕ) : Type 0 where
  pub tells : Tells calls n S times
  pub within : IsWithin calls n times
  pub places : length times ≡ threads

-- the clock of another thread
pub other_clock : (calls : List Call) (threads n i : ℕ) (v : ThreadView) → (thread_at calls n ≡ i → ⊥) → IsClock calls threads n i v → IsClock calls threads (suc n) i v
other_clock calls threads n i v ne c = record {
  views = others (HasNumber calls) (HasNumber calls) calls n i v ne (within_past calls n v.cur c.cur) (within_past calls n v.got c.got) (within_past calls n v.rel c.rel) c.views;
  cur = within_more calls n v.cur c.cur;
  got = within_more calls n v.got c.got;
  rel = within_more calls n v.rel c.rel;
  ordered = c.ordered;
  places = c.places;
}

pub handed_later : (calls : List Call) (threads n : ℕ) (S : ℕ → Type 0) (times : List ℕ) → IsHandedOn calls threads n S times → IsHandedOn calls threads (suc n) S times
handed_later calls threads n S times h = record {
  tells = later (HasNumber calls) (HasNumber calls) n S times (within_past calls n times h.within) h.tells;
  within = within_more calls n times h.within;
  places = h.places;
}

new_number : (calls : List Call) (threads n : ℕ) (v : ThreadView) → IsClock calls threads n (thread_at calls n) v → thread_at calls n < threads → IsNew (HasNumber calls) (HasNumber calls) n (thread_at calls n) (number_in_thread calls n + 1) v
new_number calls threads n v c l = record {
  there = (let e = c.places in omega (arith, l, e));
  there_too = (let e = c.places in let f = c.ordered.got_length in omega (arith, l, e, f));
  one = λ j u h. (sym h.thread, h.number ∙ ap (λ (i : ℕ). number_in calls i n + 1) (sym h.thread));
  known = known;
  known_too = λ a u k h. let m = known a u k h in let o = parts_ordered v.cur v.got (thread_at calls n) c.ordered.got_length c.ordered.got_above in omega (arith, m, o);
  past = within_past calls n v.rel c.rel;
}
  where
    -- an entry of the thread before n is in what the thread knows
    known : (a u : ℕ) → a < n → HasNumber calls a (thread_at calls n) u → u ≤ get_or v.cur (thread_at calls n) 0
    known a u k h = c.views.cur.below a (thread_at calls n) u (record { entry = a; before = k; thread = h.thread; has = inl refl }) h

-- the clock of the entry's thread after it: it gets nothing
pub clock_alone : (calls : List Call) (threads n : ℕ) (v : ThreadView) → IsClock calls threads n (thread_at calls n) v → thread_at calls n < threads → GetsNothing calls n → is_fence (access_at calls n) ≡ false
    → Views (HasNumber calls) (HasNumber calls) calls (suc n) (thread_at calls n) (raised_view v (thread_at calls n) (number_in_thread calls n + 1))
clock_alone calls threads n v c l g f = numbered (HasNumber calls) (HasNumber calls) calls n (thread_at calls n) (number_in_thread calls n + 1) v g f (new_number calls threads n v c l) c.views

-- it reads
pub clock_reading : (calls : List Call) (threads n : ℕ) (v : ThreadView) (stamp : Stamp) (times : List ℕ) (b : Bool) → IsClock calls threads n (thread_at calls n) v → thread_at calls n < threads
    → read_by (event_at calls n) ≡ Some stamp → is_fence (access_at calls n) ≡ false → acquires_by (access_at calls n) ≡ b → IsHandedOn calls threads n (Given calls n stamp) times
    → Views (HasNumber calls) (HasNumber calls) calls (suc n) (thread_at calls n) (heard (raised_view v (thread_at calls n) (number_in_thread calls n + 1)) times b)
clock_reading calls threads n v stamp times b c l r f q h =
    reading (HasNumber calls) (HasNumber calls) calls n (thread_at calls n) (number_in_thread calls n + 1) stamp v times b r f q (new_number calls threads n v c l)
    (h.places ∙ sym c.places) (h.places ∙ sym (c.ordered.got_length ∙ c.places)) (within_past calls n times h.within) h.tells c.views

-- it is a fence
pub clock_fence : (calls : List Call) (threads n : ℕ) (v : ThreadView) (order : Order) → IsClock calls threads n (thread_at calls n) v → thread_at calls n < threads → read_by (event_at calls n) ≡ None → IsFenceOf calls n order
    → Views (HasNumber calls) (HasNumber calls) calls (suc n) (thread_at calls n) (fenced (raised_view v (thread_at calls n) (number_in_thread calls n + 1)) order)
clock_fence calls threads n v order c l r f = fencing_numbered (HasNumber calls) (HasNumber calls) calls n (thread_at calls n) (number_in_thread calls n + 1) order v r f (new_number calls threads n v c l) c.views

-- ---- the bounds of these

pub raised_within : (calls : List Call) (n : ℕ) (v : List ℕ) → IsWithin calls n v → IsWithin calls (suc n) (raised v (thread_at calls n) (number_in_thread calls n + 1))
raised_within = within_raised

pub heard_within : (calls : List Call) (n : ℕ) (v times : List ℕ) (b : Bool) → IsWithin calls n v → IsWithin calls n times → IsWithin calls n (cond b (joined v times) v)
heard_within calls n v times true a h = within_joined calls n v times a h
heard_within calls n v times false a h = a

-- ---- Past by numbers

-- what the clock after an entry says, with the entry's own number in the place of its thread
pub past_numbers : (calls : List Call) (threads n : ℕ) (cur : List ℕ) → Tells calls (suc n) (Cur calls (suc n) (thread_at calls n)) cur → (a : ℕ) → a < n → (thread_at calls a ≡ thread_at calls n → ⊥)
    → (number_in_thread calls a < get_or cur (thread_at calls a) 0) ↔ Past calls n a
past_numbers calls threads n cur h a l ne = (
  (λ k. elim (upto_cur calls n a (h.exact a (thread_at calls a) (number_in_thread calls a + 1) (omega (arith, l)) (record { thread = refl; number = refl }) (omega (arith, k)))) as (λ _. Past calls n a) [
    | inl e ↦ absurd (omega (arith, l, e))
    | inr p ↦ p
  ]),
  (λ p. let m = h.below a (thread_at calls a) (number_in_thread calls a + 1) (cur_new calls n a (inr p)) (record { thread = refl; number = refl }) in omega (arith, m)),
)

-- and of the thread itself its earlier entries alone
pub own_numbers : (calls : List Call) (n a : ℕ) → thread_at calls a ≡ thread_at calls n → (number_in_thread calls a < number_in_thread calls n) ↔ Past calls n a
own_numbers calls n a e = (
  (λ k. own n (record { before = before k; thread = e })),
  (λ p. let l = past_early calls n a p in let m = number_below calls (thread_at calls n) a n e l in let s = ap (λ (i : ℕ). number_in calls i a) e in omega (arith, m, s)),
)
  where
    before : number_in_thread calls a < number_in_thread calls n → a < n
    before k = elim (cases_lt a n) as (λ _. a < n) [
      | inl l ↦ l
      | inr l ↦ (let m = number_rises calls (thread_at calls n) n a l in let s = ap (λ (i : ℕ). number_in calls i a) e in absurd (omega (arith, m, s, k)))
    ]

-- later entries are not in Past
pub later_numbers : (calls : List Call) (n a : ℕ) (cur : List ℕ) → IsWithin calls (suc n) cur → n < a → (thread_at calls a ≡ thread_at calls n → ⊥) → number_in_thread calls a < get_or cur (thread_at calls a) 0 → ⊥
later_numbers calls n a cur w l ne k =
    let b = w (thread_at calls a) in let m = number_rises calls (thread_at calls a) (suc n) a (omega (arith, l)) in omega (arith, b, m, k)
