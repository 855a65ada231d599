-- How many entries a run has.
use Rattle.std.proofs.Common.{◌≡◌, ℕ, zero, suc, ◌+◌, ◌*◌, ◌<◌, ◌≤◌, Bool, true, false, cond, eqb, List, [], ◌∷◌, length, get_or, set, refl, sym, ap, ◌∙◌, subst, arith, ⊎_elim}
use Rattle.std.proofs.lemmas.Bool.{cases_eq, eq-eqb, ne_eqb, false≢true, true≢false, cond-true, cond-false}
use Rattle.std.proofs.lemmas.List.{length-set, length-replicate, set-get_or}
use Rattle.std.specs.List.{AllByRecursion}
use Rattle.values_undef.specs.Access.{choice_of_event, ends_thread}
use Rattle.values_undef.specs.Journal.{is_finish, entry_steps, used_steps}
use Rattle.values_undef.specs.declared.access.Choice.TheVariants.{Plain}
use Rattle.values_undef.specs.declared.access.Event.{Event}
use Rattle.values_undef.specs.declared.access.Event.TheVariants.{NaRead, NaWrite, Read, Write, Update, Miss, Fence, Print, Fail, FailCompare, Finish, Spend}
use Rattle.values_undef.specs.declared.journal.Entry.{Entry}
use Rattle.il_syntax.specs.declared.program.Program.{Program}
use Rattle.message_memory.specs.Step.{step_result}
use Rattle.thread_core.specs.declared.next.Next.{Next}
use Rattle.thread_core.specs.declared.next.Next.TheVariants as next
use Rattle.view_machine.specs.declared.stepped.Stepped.{Stepped}
use Rattle.view_machine.specs.declared.stepped.Stepped.TheVariants as stepped
use Rattle.view_machine.specs.State.{State, view_in, next_in, step_by, after_step, initial_state}
use Rattle.view_machine.specs.Runs.{is_spend, after_silent, AreSilent, MakesEventBy, after_event_by, IsEntry, after_entry, IsRunFrom}
use Rattle.view_machine.specs.Lengths.{EntriesAreOfThreads, RunsAreShort}
use Rattle.view_machine.proofs.RunLaws.{spend_is}

-- ---- sums over threads

-- the number at thread i, and nothing at any other
abbrev at_thread : ℕ → ℕ → ℕ → ℕ
at_thread i n j = cond (eqb i j) n 0

abbrev sum_below : (ℕ → ℕ) → ℕ → ℕ
sum_below f zero = 0
sum_below f (suc n) = sum_below f n + f n

sum_below-add : (f g : ℕ → ℕ) (n : ℕ) → sum_below (λ j. f j + g j) n ≡ sum_below f n + sum_below g n
sum_below-add f g zero = refl
sum_below-add f g (suc n) = omega (arith, sum_below-add f g n)

sum_at : (i m n : ℕ) → i < n → m ≤ sum_below (at_thread i m) n
sum_at i m zero l = absurd (omega arith)
sum_at i m (suc n) l =
    ⊎_elim
    (λ (e : i ≡ n). let here = cond-true (eqb i n) m 0 (eq-eqb i n e) in omega (arith, here))
    (λ (e : i ≡ n → ⊥). let below : i < n = omega (arith, l, e) in let more = sum_at i m n below in omega (arith, more))
    (cases_eq i n)

sum_bound : (f : ℕ → ℕ) (bound n : ℕ) → ((i : ℕ) → i < n → f i ≤ bound) → sum_below f n ≤ n * bound
sum_bound f bound zero h = omega arith
sum_bound f bound (suc n) h =
    let fewer = sum_bound f bound n (λ i l. h i (omega (arith, l))) in
    let here = h n (omega arith) in
    omega (arith, fewer, here)

-- ---- the steps of entries

-- how many steps of the budget an event takes
abbrev weight : Event → ℕ
weight e = cond (ends_thread e) 0 1

abbrev weights : List Entry → ℕ
weights [] = 0
weights (e ∷ entries) = weight e.event + weights entries

abbrev AreThere : ℕ → List Entry → Type 0
AreThere n entries = AllByRecursion (λ e. e.thread < n) entries

entries_few : (n : ℕ) (entries : List Entry) → AreThere n entries → weights entries ≤ sum_below (used_steps entries) n
entries_few n [] t = omega arith
entries_few n (e ∷ entries) t =
    omega (arith, sum_below-add (at_thread e.thread (entry_steps e)) (used_steps entries) n, sum_at e.thread (entry_steps e) n t.0, entries_few n entries t.1)

weight_finish : (e : Event) → is_spend e ≡ false → weight e ≡ cond (is_finish e) 0 1
weight_finish (NaRead x v) h = refl
weight_finish (NaWrite x v n) h = refl
weight_finish (Read y o v to) h = refl
weight_finish (Write y o v from to) h = refl
weight_finish (Update y o old new read to) h = refl
weight_finish (Miss y o old read) h = refl
weight_finish (Fence o) h = refl
weight_finish (Print v) h = refl
weight_finish (Fail c) h = refl
weight_finish (FailCompare y read) h = refl
weight_finish Finish h = refl
weight_finish Spend h = absurd (true≢false h)

-- ---- threads that have ended

abbrev ended_count : List Bool → ℕ
ended_count [] = 0
ended_count (true ∷ bs) = 1 + ended_count bs
ended_count (false ∷ bs) = ended_count bs

ended_few : (bs : List Bool) → ended_count bs ≤ length bs
ended_few [] = omega arith
ended_few (true ∷ bs) = omega (arith, ended_few bs)
ended_few (false ∷ bs) = omega (arith, ended_few bs)

one_more_ended : (bs : List Bool) (i : ℕ) → get_or bs i true ≡ false → ended_count (set bs i true) ≡ ended_count bs + 1
one_more_ended [] i h = absurd (true≢false h)
one_more_ended (true ∷ bs) zero h = absurd (true≢false h)
one_more_ended (false ∷ bs) zero h = omega arith
one_more_ended (true ∷ bs) (suc i) h = omega (arith, one_more_ended bs i h)
one_more_ended (false ∷ bs) (suc i) h = omega (arith, one_more_ended bs i h)

pub note_there : (bs : List Bool) (i : ℕ) → get_or bs i true ≡ false → i < length bs
note_there [] i h = absurd (true≢false h)
note_there (b ∷ bs) zero h = omega arith
note_there (b ∷ bs) (suc i) h = omega (arith, note_there bs i h)

silent_ended : (p : Program) (i n : ℕ) (s : State) → AreSilent p i n s → (after_silent p i n s).ended ≡ s.ended
silent_ended p i zero s h = refl
silent_ended p i (suc n) s h = silent_ended p i n (after_step p s i Plain).state h.2 ∙ ap (λ (k : Next). (step_by p s i Plain k).state.ended) h.1

abbrev did : Stepped → Bool
did stepped.Silent = false
did (stepped.Did e) = true

abbrev event_done : Stepped → Event
event_done stepped.Silent = Spend
event_done (stepped.Did e) = e

-- what an event does to the notes of ended threads
record EndsBy (i : ℕ) (before after : List Bool) (e : Event) : Type 0 where
  there : i < length before
  same_length : length after ≡ length before
  count : ended_count before + 1 ≤ ended_count after + weight e

finishes : (bs : List Bool) (i : ℕ) (b : Bool) → get_or bs i true ≡ false → ended_count bs + 1 ≤ ended_count (set bs i b) + cond b 0 1
finishes bs i true h = omega (arith, one_more_ended bs i h)
finishes bs i false h = omega (arith, ap {B = ℕ} ended_count (ap (set bs i) (sym h) ∙ set-get_or bs i true))

ends_by : (p : Program) (s : State) (i : ℕ) (e : Event) (b : Bool) → is_spend e ≡ b → MakesEventBy p s i e b → EndsBy i s.ended (after_event_by p s i e b).ended e
ends_by p s i e true q m = record {
  there = note_there s.ended i m.able.going;
  same_length = length-set s.ended i true;
  count = let none : weight e ≡ 0 = ap weight (spend_is e q) in omega (arith, one_more_ended s.ended i m.able.going, none);
}
ends_by p s i e false q m = choose (next_in s i) refl m.event
  where
    choose : (n : Next) → next_in s i ≡ n → (after_step p s i (choice_of_event e)).done ≡ stepped.Did e → EndsBy i s.ended (after_step p s i (choice_of_event e)).state.ended e
    choose next.Silent f d = absurd (false≢true (sym (ap (λ (n : Next). did (step_by p s i (choice_of_event e) n).done) f) ∙ ap did d))
    choose (next.Access a) f d =
        let o = step_result s.memory (view_in s i) i a (choice_of_event e) in
        let is : o.event ≡ e = sym (ap (λ (n : Next). event_done (step_by p s i (choice_of_event e) n).done) f) ∙ ap event_done d in
        let after : (after_step p s i (choice_of_event e)).state.ended ≡ set s.ended i (is_finish e) = ap (λ (n : Next). (step_by p s i (choice_of_event e) n).state.ended) f ∙ ap (λ (x : Event). set s.ended i (is_finish x)) is in
        subst (λ (bs : List Bool). EndsBy i s.ended bs e) (sym after) (record {
          there = note_there s.ended i m.step.able.going;
          same_length = length-set s.ended i (is_finish e);
          count = omega (arith, finishes s.ended i (is_finish e) m.step.able.going, weight_finish e q);
        })

entry_ends : (p : Program) (s : State) (e : Entry) → IsEntry p s e → EndsBy e.thread s.ended (after_entry p s e).ended e.event
entry_ends p s e h =
    subst (λ (bs : List Bool). EndsBy e.thread bs (after_entry p s e).ended e.event) (silent_ended p e.thread e.silent s h.silent)
    (ends_by p (after_silent p e.thread e.silent s) e.thread e.event (is_spend e.event) refl h.event)

all_there : (p : Program) (n : ℕ) (s : State) (entries : List Entry) → IsRunFrom p s entries → length s.ended ≡ n → AreThere n entries
all_there p n s [] h l = tt
all_there p n s (e ∷ entries) h l =
    let k = entry_ends p s e h.0 in
    (omega (arith, k.there, l), all_there p n (after_entry p s e) entries h.1 (k.same_length ∙ l))

entries_within : (p : Program) (s : State) (entries : List Entry) → IsRunFrom p s entries → length entries + ended_count s.ended ≤ weights entries + length s.ended
entries_within p s [] h = omega (arith, ended_few s.ended)
entries_within p s (e ∷ entries) h =
    let k = entry_ends p s e h.0 in
    omega (arith, entries_within p (after_entry p s e) entries h.1, k.same_length, k.count)

long : (p : Program) → length (initial_state p).ended ≡ length p.threads
long p = length-replicate (length p.threads) false

pub entries_of_threads : EntriesAreOfThreads
entries_of_threads p entries run = all_there p (length p.threads) (initial_state p) entries run (long p)

pub runs_short : RunsAreShort
runs_short p entries steps run h =
    omega (
      arith,
      entries_within p (initial_state p) entries run,
      entries_few (length p.threads) entries (entries_of_threads p entries run),
      sum_bound (used_steps entries) steps (length p.threads) h,
      long p,
    )
