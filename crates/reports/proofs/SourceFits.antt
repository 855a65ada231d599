-- The source journal of a report stands in the text of a journal: its timestamps are those of the journal that it
-- explains, and what its last entry alone may name is a message that an entry before has written.
use Rattle.std.proofs.Common.{◌≡◌, ◌⊎◌, ℕ, ◌+◌, ◌*◌, ◌^◌, ◌<◌, ◌≤◌, Bool, true, false, cond, eqb, if◌then◌else◌, List, [], ◌∷◌, ◌++◌, length, inl, inr, refl, sym, ap, subst, ◌∙◌, arith, ⊎_elim}
use Rattle.std.specs.List.{AllByRecursion, AllZip}
use Rattle.std.proofs.Math.Nat.{mul-le-mul_right}
use Rattle.std.proofs.lemmas.Bool.{true≢false, cond_both, eq-eqb, cases_eq}
use Rattle.std.proofs.lemmas.List.{get_or-set_same, get_or-set_other, length-set, length-append}
use Rattle.values_undef.proofs.Callers.{all_get}
use Rattle.values_undef.specs.Access.{choice_of_event, acquires, releases, is_fence_order, is_failure}
use Rattle.values_undef.specs.Journal.{used_steps, entry_steps}
use Rattle.values_undef.specs.Matching.{form_of, is_traced}
use Rattle.values_undef.specs.declared.access.Access.{Access}
use Rattle.values_undef.specs.declared.access.Access.TheVariants as access
use Rattle.values_undef.specs.declared.access.Choice.{Choice}
use Rattle.values_undef.specs.declared.access.Choice.TheVariants.{Plain, Message, Place, Take}
use Rattle.values_undef.specs.declared.access.Event.{Event}
use Rattle.values_undef.specs.declared.access.Event.TheVariants.{NaRead, NaWrite, Read, Write, Update, Miss, Fence, Print, Fail, FailCompare, Finish, Spend}
use Rattle.values_undef.specs.declared.access.Order.{Order}
use Rattle.values_undef.specs.declared.access.Order.TheVariants.{Rlx, Acq, Rel, AcqRel}
use Rattle.values_undef.specs.declared.journal.Entry.{Entry}
use Rattle.il_syntax.specs.declared.program.Program.{Program}
use Rattle.il_syntax.specs.WellFormed.{IsWellFormed}
use Rattle.views.specs.ThreadView.{ThreadView}
use Rattle.message_memory.specs.declared.message.Message.{Message as TheMessage}
use Rattle.message_memory.specs.Memory.{Memory, messages, inserted, with_message, last_to, location_in, IsWellFormedMemory}
use Rattle.message_memory.specs.Step.{AdmitsChoice, StepResult, step_result, is_racy, meets_undef, read_at, write_message, update_message}
use Rattle.message_memory.proofs.Callers.{found_within, some_from_and, last_to-inserted}
use Rattle.thread_core.specs.declared.next.Next.{Next}
use Rattle.thread_core.specs.declared.next.Next.TheVariants as step
use Rattle.thread_core.specs.Programs.{IsProperProgram, IsProperAccess, IsProperNext}
use Rattle.thread_core.specs.Steps.{IsProperStack}
use Rattle.thread_core.proofs.Callers.{well_formed_proper, next_proper}
use Rattle.view_machine.specs.declared.stepped.Stepped.TheVariants as stepped
use Rattle.view_machine.specs.State.{State, idle, local_in, view_in, next_in, step_by, Allows, declared_values, initial_state}
use Rattle.view_machine.specs.Runs.{is_spend, after_silent, MakesAccess, MakesEventBy, after_event_by, IsEntry, after_entry, IsRunFrom, IsJournalRun, IsRunTo}
use Rattle.view_machine.specs.Laws.{IsReached}
use Rattle.view_machine.proofs.Callers.{silent_reached, states_whole, spend_is, silent_memory, run_goes_on, versions_are_few, entries_of_threads, runs_short}
use Rattle.walker.proofs.Callers.{first_within, event_is}
use Rattle.refinement.specs.Refinement.{Traced, trace, IsTracedBelow, BeginsBelow, FailsSooner, Refines}
use Rattle.journal_text.specs.Limits.{IsStamp, IsReadOrder, IsWriteOrder, IsFenceOrder, FitsEvent, FitsEntry}
use Rattle.walk_limits.specs.Values.{HasEventValues}
use Rattle.walk_limits.proofs.Callers.{read_order, write_order, fence_order}
use Rattle.refinement.proofs.Callers.{zip_begins}

-- ---- timestamps of events

-- but for the message that a failing compare-exchange met
abbrev HasStamps : Event → Type 0
HasStamps (NaRead x v) = Unit {0}
HasStamps (NaWrite x v version) = Unit {0}
HasStamps (Read y order v to) = IsStamp to
HasStamps (Write y order v from to) = IsStamp from × IsStamp to
HasStamps (Update y order old new read to) = IsStamp read × IsStamp to
HasStamps (Miss y order old read) = IsStamp read
HasStamps (Fence order) = Unit {0}
HasStamps (Print v) = Unit {0}
HasStamps (Fail cause) = Unit {0}
HasStamps (FailCompare y read) = Unit {0}
HasStamps Finish = Unit {0}
HasStamps Spend = Unit {0}

abbrev AreStamped : List Entry → Type 0
AreStamped es = AllByRecursion (λ e. HasStamps e.event) es

fits_stamps : (p : Program) (e : Event) → FitsEvent p e → HasStamps e
fits_stamps p (NaRead x v) h = tt
fits_stamps p (NaWrite x v version) h = tt
fits_stamps p (Read y order v to) h = h.3
fits_stamps p (Write y order v from to) h = (h.3, h.4)
fits_stamps p (Update y order old new read to) h = (h.3, h.4)
fits_stamps p (Miss y order old read) h = h.2
fits_stamps p (Fence order) h = tt
fits_stamps p (Print v) h = tt
fits_stamps p (Fail cause) h = tt
fits_stamps p (FailCompare y read) h = tt
fits_stamps p Finish h = tt
fits_stamps p Spend h = tt

to_form : (e : Event) → HasStamps e → HasStamps (form_of e)
to_form (NaRead x v) h = h
to_form (NaWrite x v version) h = h
to_form (Read y order v to) h = h
to_form (Write y order v from to) h = h
to_form (Update y order old new read to) h = h
to_form (Miss y order old read) h = h
to_form (Fence order) h = h
to_form (Print v) h = h
to_form (Fail cause) h = h
to_form (FailCompare y read) h = h
to_form Finish h = h
to_form Spend h = h

from_form : (e : Event) → HasStamps (form_of e) → HasStamps e
from_form (NaRead x v) h = h
from_form (NaWrite x v version) h = h
from_form (Read y order v to) h = h
from_form (Write y order v from to) h = h
from_form (Update y order old new read to) h = h
from_form (Miss y order old read) h = h
from_form (Fence order) h = h
from_form (Print v) h = h
from_form (Fail cause) h = h
from_form (FailCompare y read) h = h
from_form Finish h = h
from_form Spend h = h

below_stamps : (e f : Event) → form_of e ≡ form_of f → HasStamps e → HasStamps f
below_stamps e f same h = from_form f (subst HasStamps same (to_form e h))

untraced_stamps : (e : Event) → is_traced e ≡ false → HasStamps e
untraced_stamps (NaRead x v) h = tt
untraced_stamps (NaWrite x v version) h = tt
untraced_stamps (Read y order v to) h = absurd (true≢false h)
untraced_stamps (Write y order v from to) h = absurd (true≢false h)
untraced_stamps (Update y order old new read to) h = absurd (true≢false h)
untraced_stamps (Miss y order old read) h = absurd (true≢false h)
untraced_stamps (Fence order) h = tt
untraced_stamps (Print v) h = tt
untraced_stamps (Fail cause) h = tt
untraced_stamps (FailCompare y read) h = tt
untraced_stamps Finish h = tt
untraced_stamps Spend h = tt

failure_stamps : (e : Event) → is_failure e ≡ true → HasStamps e
failure_stamps (NaRead x v) h = tt
failure_stamps (NaWrite x v version) h = tt
failure_stamps (Read y order v to) h = absurd (true≢false (sym h))
failure_stamps (Write y order v from to) h = absurd (true≢false (sym h))
failure_stamps (Update y order old new read to) h = absurd (true≢false (sym h))
failure_stamps (Miss y order old read) h = absurd (true≢false (sym h))
failure_stamps (Fence order) h = tt
failure_stamps (Print v) h = tt
failure_stamps (Fail cause) h = tt
failure_stamps (FailCompare y read) h = tt
failure_stamps Finish h = tt
failure_stamps Spend h = tt

-- ---- of two journals of which one refines the other

traced_stamps : (p : Program) (es : List Entry) → AllByRecursion (FitsEntry p) es → AllByRecursion (λ (t : Traced). HasStamps t.event) (trace es)
traced_stamps p [] h = tt
traced_stamps p (e ∷ es) h = go (is_traced e.event) (traced_stamps p es h.1)
  where
    go : (b : Bool) → AllByRecursion (λ (t : Traced). HasStamps t.event) (trace es) → AllByRecursion (λ (t : Traced). HasStamps t.event) (if b then record { thread = e.thread; event = e.event } ∷ trace es else trace es)
    go true rest = (fits_stamps p e.event h.0.event, rest)
    go false rest = rest

matched_stamps : (ts : List Traced) (es : List Entry) → BeginsBelow ts (trace es) → AllByRecursion (λ (t : Traced). HasStamps t.event) ts → AreStamped es
matched_stamps ts [] z h = tt
matched_stamps ts (e ∷ es) z h = go ts (is_traced e.event) (λ us y k. matched_stamps us es y k) refl z h
  where
    go : (us : List Traced) (b : Bool) → ((us : List Traced) → BeginsBelow us (trace es) → AllByRecursion (λ (t : Traced). HasStamps t.event) us → AreStamped es) → is_traced e.event ≡ b → BeginsBelow us (if b then record { thread = e.thread; event = e.event } ∷ trace es else trace es) → AllByRecursion (λ (t : Traced). HasStamps t.event) us
        → HasStamps e.event × AreStamped es
    go [] true rest is y k = absurd y
    go (t ∷ us) true rest is y k = (below_stamps t.event e.event y.0.event.form k.0, rest us y.1 k.1)
    go us false rest is y k = (untraced_stamps e.event is, rest us y k)

stamped_more : (es : List Entry) (e : Entry) → AreStamped es → HasStamps e.event → AreStamped (es ++ e ∷ [])
stamped_more [] e h k = (k, tt)
stamped_more (x ∷ es) e h k = (h.0, stamped_more es e h.1 k)

source_stamps : (q : Program) (target source : List Entry) → AllByRecursion (FitsEntry q) target → Refines target source → AreStamped source
source_stamps q target source fits refines = go refines.cases
  where
    go : AllZip IsTracedBelow (trace target) (trace source) ⊎ FailsSooner target source → AreStamped source
    go (inl z) = matched_stamps (trace target) source (zip_begins (trace target) (trace source) z) (traced_stamps q target fits)
    go (inr f) =
        subst AreStamped (sym f.end.split)
        (stamped_more f.end.before f.end.last (matched_stamps (trace target) f.end.before f.matches (traced_stamps q target fits)) (failure_stamps f.end.last.event f.end.fails))

-- ---- one access

-- no message ends past the greatest timestamp of a text
abbrev HasSmallMessages : Memory → Type 0
HasSmallMessages m = (y : ℕ) → y < length m.atomic → last_to (messages m y) ≤ 2 ^ 60

-- the memory has what the program has; versions are few, and messages end early
record IsSmall (p : Program) (m : Memory) (n : ℕ) : Type 0 where
  na : length m.na ≡ length p.na
  atomic : length m.atomic ≡ length p.atomic
  well_formed : IsWellFormedMemory m
  versions : (x : ℕ) → (location_in m x).version ≤ n
  messages : HasSmallMessages m
  few : n + 1 ≤ 262160

access_fits : (p : Program) (m : Memory) (v : ThreadView) (i : ℕ) (a : Access) (c : Choice) (n : ℕ) → IsSmall p m n → IsProperAccess p a → AdmitsChoice m v a c
    → HasStamps (step_result m v i a c).event → HasEventValues (step_result m v i a c).event → FitsEvent p (step_result m v i a c).event
access_fits p m v i (access.NaRead x) Plain n s proper h = λ stamps values. (proper, values)
access_fits p m v i (access.NaWrite x value) Plain n s proper h =
    cond_both (is_racy m v x) _ _ (λ (o : StepResult). HasStamps o.event → HasEventValues o.event → FitsEvent p o.event) (λ _ stamps values. tt)
    (λ _ stamps values. (proper, values, let old = s.versions x in let few = s.few in omega (arith, old, few)))
access_fits p m v i (access.Read y order) (Message to) n s proper h = λ stamps values. (read_order order proper.1, proper.0, values, stamps)
access_fits p m v i (access.Write y order value) (Place from to) n s proper h = λ stamps values. (write_order order proper.1, proper.0, values, stamps.0, stamps.1)
access_fits p m v i (access.Update y order kind) (Message to) n s proper h =
    let lt : y < length m.atomic = let same = s.atomic in omega (arith, proper, same) in
    let there = found_within to (messages m y) (s.well_formed.disjoint y lt) (some_from_and _ _ h.1) in
    let old : IsStamp to = let small = s.messages y lt in omega (arith, there, small) in
    cond_both (meets_undef kind (read_at m y to).value) _ _ (λ (o : StepResult). HasStamps o.event → HasEventValues o.event → FitsEvent p o.event)
    (λ _ stamps values. (proper, old)) (λ _ stamps values. (proper, values, stamps))
access_fits p m v i (access.Update y order kind) (Take read to) n s proper h = λ stamps values. (proper, values.0, values.1, stamps.0, stamps.1)
access_fits p m v i (access.Fence order) Plain n s proper h = λ stamps values. fence_order order proper
access_fits p m v i (access.Print value) Plain n s proper h = λ stamps values. values
access_fits p m v i (access.Fail cause) Plain n s proper h = λ stamps values. tt
access_fits p m v i access.Finish Plain n s proper h = λ stamps values. tt
access_fits p m v i access.Spend Plain n s proper h = λ stamps values. tt
access_fits p m v i _ _ n s proper h = absurd h

message_small : (m : Memory) (y : ℕ) (message : TheMessage) → y < length m.atomic → message.to ≤ 2 ^ 60 → HasSmallMessages m → HasSmallMessages (with_message m y message)
message_small m y message l small s z lt =
    ⊎_elim
    (λ (e : z ≡ y). omega (
      arith,
      ap (λ (k : ℕ). last_to (messages (with_message m y message) k)) e,
      ap last_to (get_or-set_same m.atomic y (inserted message (messages m y)) [] l),
      last_to-inserted message (messages m y),
      small,
      s y l,
    ))
    (λ (e : z ≡ y → ⊥).
    let there : z < length m.atomic = omega (arith, lt, length-set m.atomic y (inserted message (messages m y))) in
    omega (arith, ap last_to (get_or-set_other m.atomic y z (inserted message (messages m y)) [] e), s z there))
    (cases_eq z y)

access_small : (p : Program) (m : Memory) (v : ThreadView) (i : ℕ) (a : Access) (c : Choice) (n : ℕ) → IsSmall p m n → IsProperAccess p a → AdmitsChoice m v a c
    → HasStamps (step_result m v i a c).event → HasSmallMessages (step_result m v i a c).memory
access_small p m v i (access.NaRead x) Plain n s proper h stamps = s.messages
access_small p m v i (access.NaWrite x value) Plain n s proper h stamps =
    cond_both (is_racy m v x) _ _ (λ (o : StepResult). HasSmallMessages o.memory) (λ _. s.messages) (λ _. s.messages)
access_small p m v i (access.Read y order) (Message to) n s proper h stamps = s.messages
access_small p m v i (access.Write y order value) (Place from to) n s proper h stamps =
    message_small m y (write_message m v y order value from to) (let same = s.atomic in omega (arith, proper.0, same)) stamps.1 s.messages
access_small p m v i (access.Update y order kind) (Message to) n s proper h stamps =
    cond_both (meets_undef kind (read_at m y to).value) _ _ (λ (o : StepResult). HasSmallMessages o.memory) (λ _. s.messages) (λ _. s.messages)
access_small p m v i (access.Update y order kind) (Take read to) n s proper h stamps =
    message_small m y (update_message m v y order kind (read_at m y read) read to) (let same = s.atomic in omega (arith, proper, same)) stamps.1 s.messages
access_small p m v i (access.Fence order) Plain n s proper h stamps = s.messages
access_small p m v i (access.Print value) Plain n s proper h stamps = s.messages
access_small p m v i (access.Fail cause) Plain n s proper h stamps = s.messages
access_small p m v i access.Finish Plain n s proper h stamps = s.messages
access_small p m v i access.Spend Plain n s proper h stamps = s.messages
access_small p m v i _ _ n s proper h stamps = absurd h

-- ---- one entry

-- the event fits, and the messages of the memory after it end early
abbrev Goes : Program → Event → Memory → Type 0
Goes p e m = (HasEventValues e → FitsEvent p e) × HasSmallMessages m

made_goes : (p : Program) (s : State) (i : ℕ) (e : Event) (n : ℕ) (x : Next) → IsSmall p s.memory n → next_in s i ≡ x → MakesAccess p s i e → IsProperNext p x → HasStamps e
    → Goes p e (step_by p s i (choice_of_event e) x).state.memory
made_goes p s i e n step.Silent small nx h proper stamps =
    let q : (step_by p s i (choice_of_event e) step.Silent).done ≡ stepped.Did e = ap (λ (x : Next). (step_by p s i (choice_of_event e) x).done) (sym nx) ∙ h.event in
    cc
made_goes p s i e n (step.Access a) small nx h proper stamps =
    let c = choice_of_event e in
    let legal = subst (Allows s.memory (view_in s i) c) nx h.step.allowed in
    let is = event_is p s i a e nx h in
    let own = subst HasStamps (sym is) stamps in (
      λ values. subst (FitsEvent p) is (access_fits p s.memory (view_in s i) i a c n small proper legal.admits own (subst HasEventValues (sym is) values)),
      access_small p s.memory (view_in s i) i a c n small proper legal.admits own,
    )

event_goes : (p : Program) (s : State) (i : ℕ) (e : Event) (n : ℕ) (b : Bool) → is_spend e ≡ b → IsReached p s → IsSmall p s.memory n → MakesEventBy p s i e b → HasStamps e
    → Goes p e (after_event_by p s i e b).memory
event_goes p s i e n true is r small h stamps = (λ values. subst (FitsEvent p) (sym (spend_is e is)) tt, small.messages)
event_goes p s i e n false is r small h stamps =
    made_goes p s i e n (next_in s i) small refl h (next_proper p (local_in s i) (all_get (IsProperStack p) s.locals i idle h.step.able.there r.stacks)) stamps

entry_goes : (p : Program) (before : List Entry) (s : State) (e : Entry) → IsProperProgram p → IsRunTo p before s → IsEntry p s e → length before + 1 ≤ 262160 → HasSmallMessages s.memory → HasStamps e.event
    → Goes p e.event (after_entry p s e).memory
entry_goes p before s e ok run h few small stamps =
    let r = states_whole p before s ok run in
    let t = after_silent p e.thread e.silent s in
    let same = silent_memory p e.thread e.silent s h.silent in
    let reached = silent_reached p e.thread e.silent s ok r h.silent in
    event_goes p t e.thread e.event (length before) (is_spend e.event) refl reached (record {
      na = reached.na;
      atomic = reached.atomic;
      well_formed = reached.well_formed.well_formed;
      versions = λ x. subst (λ (m : Memory). (location_in m x).version ≤ length before) (sym same) (versions_are_few p before s x ok run);
      messages = subst HasSmallMessages (sym same) small;
      few = few;
    }) h.event stamps

-- ---- a run

run_fits : (p : Program) (before rest : List Entry) (s : State) → IsProperProgram p → IsRunTo p before s → IsRunFrom p s rest → length before + length rest ≤ 262160 → HasSmallMessages s.memory → AreStamped rest
    → AllByRecursion (λ e. HasEventValues e.event) rest → AllByRecursion (λ e. FitsEvent p e.event) rest
run_fits p before [] s ok run h few small stamps values = tt
run_fits p before (e ∷ rest) s ok run h few small stamps values =
    let goes = entry_goes p before s e ok run h.0 (omega (arith, few)) small stamps.0 in (
      goes.0 values.0,
      run_fits p (before ++ e ∷ []) rest (after_entry p s e) ok (run_goes_on p before s e run h.0) h.1 (omega (arith, few, length-append before (e ∷ []))) goes.1 stamps.1 values.1,
    )

few_silent : (n steps : ℕ) (es : List Entry) → AllByRecursion (λ e. e.thread < n) es → ((i : ℕ) → i < n → used_steps es i ≤ steps) → AllByRecursion (λ e. e.silent ≤ steps) es
few_silent n steps [] h used = tt
few_silent n steps (e ∷ more) h used = (
  let all = used e.thread h.0 in
      let own : cond (eqb e.thread e.thread) (entry_steps e) 0 ≡ entry_steps e = ap (λ (b : Bool). cond b (entry_steps e) 0) (eq-eqb e.thread e.thread refl) in
      omega (arith, all, own),
  few_silent n steps more h.1 (λ i lt. let all = used i lt in omega (arith, all)),
)

all_fit : (p : Program) (steps : ℕ) (es : List Entry) → length p.threads ≤ 16 → steps ≤ 16384 → AllByRecursion (λ e. e.thread < length p.threads) es → AllByRecursion (λ e. e.silent ≤ steps) es
    → AllByRecursion (λ e. FitsEvent p e.event) es → AllByRecursion (FitsEntry p) es
all_fit p steps [] few less there silent events = tt
all_fit p steps (e ∷ more) few less there silent events = (
  record {
    thread = omega (arith, there.0, few);
    silent = omega (arith, silent.0, less);
    event = events.0;
  },
  all_fit p steps more few less there.1 silent.1 events.1,
)

-- what is lifted from a journal that fits the text of a journal does too
pub source_fits : (p q : Program) (steps : ℕ) (target source : List Entry) → IsWellFormed p → steps ≤ 16384 → AllByRecursion (FitsEntry q) target → Refines target source → IsJournalRun p source
    → ((i : ℕ) → i < length p.threads → used_steps source i ≤ steps) → AllByRecursion (λ e. HasEventValues e.event) source
    → AllByRecursion (FitsEntry p) source × (length source ≤ 262160)
source_fits p q steps target source formed less fits refines run used values =
    let ok = well_formed_proper p formed in
    let short = runs_short p source steps run used in
    let most : length p.threads * (steps + 1) ≤ 16 * (steps + 1) = mul-le-mul_right (steps + 1) ok.few_threads in
    let few : length source ≤ 262160 = omega (arith, short, most, less) in
    let there = entries_of_threads p source run in
    let first : HasSmallMessages (initial_state p).memory = λ y lt. let none = (first_within (declared_values p.na) (declared_values p.atomic)).timestamps y lt in omega (arith, none) in
    let start : IsRunTo p [] (initial_state p) = record { run = tt; state = refl } in
    let events = run_fits p [] source (initial_state p) ok start run (omega (arith, few)) first (source_stamps q target source fits refines) values in
    (all_fit p steps source ok.few_threads less there (few_silent (length p.threads) steps source there used) events, few)
