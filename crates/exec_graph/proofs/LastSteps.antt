-- A thread of a run is what it is alone, and so is what its last entry asks for.
use Rattle.std.proofs.Common.{◌≡◌, ℕ, zero, suc, ◌<◌, ◌≤◌, Bool, true, false, eqb, List, [], ◌∷◌, length, get_or, set, take, slice_get, IsSomeAnd, map, refl, sym, ap, subst, ◌∙◌, arith, inl, inr}
use Rattle.std.proofs.lemmas.Bool.{cond-true, cond-false, cases_eq, eq-eqb, ne_eqb}
use Rattle.std.proofs.lemmas.List.{get_or-set_same, get_or-set_other, length-set}
use Rattle.values_undef.specs.Access.{choice_of_event, is_spend}
use Rattle.values_undef.specs.declared.value.Val.TheVariants.{Def}
use Rattle.values_undef.specs.declared.access.Choice.TheVariants.{Plain}
use Rattle.values_undef.specs.declared.access.Event.{Event}
use Rattle.values_undef.specs.declared.journal.Entry.{Entry}
use Rattle.il_syntax.specs.declared.program.Program.{Program}
use Rattle.il_syntax.specs.declared.program.Start.{Start}
use Rattle.message_memory.specs.Step.{step_result}
use Rattle.thread_core.specs.declared.next.Next.{Next}
use Rattle.thread_core.specs.declared.next.Next.TheVariants as next
use Rattle.thread_core.specs.Frames.{Stack, next_of, advanced, begun}
use Rattle.thread_core.specs.Alone.{local_after_silent, HasSilent, local_after_event}
use Rattle.thread_core.specs.Asking.{asked}
use Rattle.view_machine.specs.declared.stepped.Stepped.TheVariants as stepped
use Rattle.view_machine.specs.State.{State, local_in, view_in, next_in, idle, step_by, after_step, start_of, initial_state}
use Rattle.view_machine.specs.Runs.{after_silent, AreSilent, MakesEventBy, after_event_by, IsEntry, after_entry, IsRunFrom, state_after}
use Rattle.view_machine.proofs.Callers.{spend_is, event_there}
use Rattle.exec_graph.specs.Alone.{after_own, local_after}
use Rattle.exec_graph.specs.Calls.{access_made, calls_past}
use Rattle.exec_graph.specs.Entries.{access_at}

-- ---- silent steps

pub has_silent_at : (p : Program) (n r : ℕ) (l : Stack) → HasSilent p n l → r < n → next_of (local_after_silent p r l) ≡ next.Silent
has_silent_at p zero r l h k = absurd (omega (arith, k))
has_silent_at p (suc n) zero l h k = h.0
has_silent_at p (suc n) (suc r) l h k = has_silent_at p n r (advanced p l) h.1 (omega (arith, k))

-- a thread that has so many silent steps makes them all
pub all_silent : (p : Program) (n r : ℕ) (l : Stack) → HasSilent p n l → r ≤ n → (next_of (local_after_silent p r l) ≡ next.Silent → r ≡ n) → r ≡ n
all_silent p n r l h below stops = elim (cases_eq r n) as (λ _. r ≡ n) [ inl e ↦ e | inr ne ↦ stops (has_silent_at p n r l h (omega (arith, below, ne))) ]

record Silently (p : Program) (i n : ℕ) (s : State) : Type 0 where
  has : HasSilent p n (local_in s i)
  own : local_in (after_silent p i n s) i ≡ local_after_silent p n (local_in s i)
  others : (j : ℕ) → (j ≡ i → ⊥) → local_in (after_silent p i n s) j ≡ local_in s j
  many : length (after_silent p i n s).locals ≡ length s.locals

silently : (p : Program) (i n : ℕ) (s : State) → i < length s.locals → AreSilent p i n s → Silently p i n s
silently p i zero s l h = record { has = tt; own = refl; others = λ j ne. refl; many = refl }
silently p i (suc n) s l h =
    let t : State = record s { locals = set s.locals i (advanced p (local_in s i)) } in
    let is : (after_step p s i Plain).state ≡ t = ap (λ (x : Next). (step_by p s i Plain x).state) h.1 in
    let here : local_in t i ≡ advanced p (local_in s i) = get_or-set_same s.locals i (advanced p (local_in s i)) idle l in
    let len = length-set s.locals i (advanced p (local_in s i)) in
    let rest = silently p i n t (omega (arith, l, len)) (subst (AreSilent p i n) is h.2) in
    record {
      has = (h.1, subst (HasSilent p n) here rest.has);
      own = ap (λ (x : State). local_in (after_silent p i n x) i) is ∙ rest.own ∙ ap (local_after_silent p n) here;
      others = λ j ne. ap (λ (x : State). local_in (after_silent p i n x) j) is ∙ rest.others j ne ∙ get_or-set_other s.locals i j (advanced p (local_in s i)) idle ne;
      many = ap (λ (x : State). length (after_silent p i n x).locals) is ∙ rest.many ∙ len;
    }

-- ---- events

record Takes (s : State) (i : ℕ) (e : Event) (t : State) : Type 0 where
  own : local_in t i ≡ local_after_event (local_in s i) e
  others : (j : ℕ) → (j ≡ i → ⊥) → local_in t j ≡ local_in s j
  many : length t.locals ≡ length s.locals

takes_access : (p : Program) (s : State) (i : ℕ) (e : Event) (n : Next) → i < length s.locals → (step_by p s i (choice_of_event e) n).done ≡ stepped.Did e → Takes s i e (step_by p s i (choice_of_event e) n).state
takes_access p s i e next.Silent l q = cc
takes_access p s i e (next.Access a) l q =
    let o = step_result s.memory (view_in s i) i a (choice_of_event e) in
    let same : o.event ≡ e = cc in
    record {
      own = get_or-set_same s.locals i (local_after_event (local_in s i) o.event) idle l ∙ ap (local_after_event (local_in s i)) same;
      others = λ j ne. get_or-set_other s.locals i j (local_after_event (local_in s i) o.event) idle ne;
      many = length-set s.locals i (local_after_event (local_in s i) o.event);
    }

takes : (p : Program) (s : State) (i : ℕ) (e : Event) (b : Bool) → i < length s.locals → is_spend e ≡ b → MakesEventBy p s i e b → Takes s i e (after_event_by p s i e b)
takes p s i e true l q h = record { own = ap (local_after_event (local_in s i)) (sym (spend_is e q)); others = λ j ne. refl; many = refl }
takes p s i e false l q h = takes_access p s i e (next_in s i) l h.event

-- ---- entries

record Passes (p : Program) (s : State) (e : Entry) : Type 0 where
  each : (j : ℕ) → local_in (after_entry p s e) j ≡ after_own p j (local_in s j) e
  many : length (after_entry p s e).locals ≡ length s.locals
  has : HasSilent p e.silent (local_in s e.thread)

silent_there : (p : Program) (i n : ℕ) (s : State) → AreSilent p i n s → i < length (after_silent p i n s).locals → i < length s.locals
silent_there p i zero s h l = l
silent_there p i (suc n) s h l = h.0.able.there

passes : (p : Program) (s : State) (e : Entry) → IsEntry p s e → Passes p s e
passes p s e h =
    let t = after_silent p e.thread e.silent s in
    let in_t = event_there p t e.thread e.event (is_spend e.event) h.event in
    let q = silently p e.thread e.silent s (silent_there p e.thread e.silent s h.silent in_t) h.silent in
    let k = takes p t e.thread e.event (is_spend e.event) in_t refl h.event in
    record {
      each = λ j. elim (cases_eq e.thread j) as (λ _. local_in (after_entry p s e) j ≡ after_own p j (local_in s j) e) [
        | inl same ↦ subst (λ (x : ℕ). local_in (after_entry p s e) x ≡ after_own p x (local_in s x) e) same
            (k.own ∙ ap (λ (l : Stack). local_after_event l e.event) q.own ∙ sym (cond-true (eqb e.thread e.thread) _ _ (eq-eqb e.thread e.thread refl)))
        | inr ne ↦ k.others j (λ x. ne (sym x)) ∙ q.others j (λ x. ne (sym x)) ∙ sym (cond-false (eqb e.thread j) _ _ (ne_eqb e.thread j ne))
      ];
      many = k.many ∙ q.many;
      has = q.has;
    }

pub alone : (p : Program) (s : State) (entries : List Entry) (i : ℕ) → IsRunFrom p s entries → local_in (state_after p s entries) i ≡ local_after p i (local_in s i) entries
alone p s [] i h = refl
alone p s (e ∷ more) i h = alone p (after_entry p s e) more i h.1 ∙ ap (λ (l : Stack). local_after p i l more) ((passes p s e h.0).each i)

-- ---- what entry k of a run asks for, by its thread alone

pub record Asked (p : Program) (s : State) (entries : List Entry) (k : ℕ) (d : Entry) : Type 0 where
  pub has : HasSilent p (get_or entries k d).silent (local_after p (get_or entries k d).thread (local_in s (get_or entries k d).thread) (take k entries))
  pub access : is_spend (get_or entries k d).event ≡ false
      → access_at (calls_past p s entries) k ≡ asked (next_of (local_after_silent p (get_or entries k d).silent (local_after p (get_or entries k d).thread (local_in s (get_or entries k d).thread) (take k entries))))

pub asked_at : (p : Program) (s : State) (entries : List Entry) (k : ℕ) (d : Entry) → k < length entries → IsRunFrom p s entries → Asked p s entries k d
asked_at p s [] k d l h = absurd (omega (arith, l))
asked_at p s (e ∷ more) zero d l h =
    let q = passes p s e h.0 in
    let t = after_silent p e.thread e.silent s in
    let in_t = event_there p t e.thread e.event (is_spend e.event) h.0.event in
    let silent = silently p e.thread e.silent s (silent_there p e.thread e.silent s h.0.silent in_t) h.0.silent in record {
      has = q.has;
      access = λ f. ap (λ (b : Bool). access_made b (next_in t e.thread)) f ∙ ap (λ (x : Stack). asked (next_of x)) silent.own;
    }
asked_at p s (e ∷ more) (suc k) d l h =
    let r = asked_at p (after_entry p s e) more k d (omega (arith, l)) h.1 in
    let i = (get_or more k d).thread in
    let same = (passes p s e h.0).each i in record {
      has = subst (λ (x : Stack). HasSilent p (get_or more k d).silent (local_after p i x (take k more))) same r.has;
      access = λ f. r.access f ∙ ap (λ (x : Stack). asked (next_of (local_after_silent p (get_or more k d).silent (local_after p i x (take k more))))) same;
    }

-- ---- one entry more

pub local_more : (p : Program) (i : ℕ) (l : Stack) (entries : List Entry) (k : ℕ) (d : Entry) → k < length entries → local_after p i l (take (suc k) entries) ≡ after_own p i (local_after p i l (take k entries)) (get_or entries k d)
local_more p i l [] k d m = absurd (omega (arith, m))
local_more p i l (e ∷ entries) zero d m = refl
local_more p i l (e ∷ entries) (suc k) d m = local_more p i (after_own p i l e) entries k d (omega (arith, m))

-- the beginning of a thread
pub starts : (p : Program) (i : ℕ) (l : Stack) → IsSomeAnd (slice_get p.threads i) (λ s. l ≡ begun p s.function (map Def s.args)) → l ≡ local_in (initial_state p) i
starts p i l h = at p.threads i h
  where
    at : (threads : List Start) (k : ℕ) → IsSomeAnd (slice_get threads k) (λ s. l ≡ begun p s.function (map Def s.args)) → l ≡ get_or (map (start_of p) threads) k idle
    at [] k h = absurd h
    at (s ∷ threads) zero h = h
    at (s ∷ threads) (suc k) h = at threads k h
