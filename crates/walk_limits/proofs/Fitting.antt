-- The entries of a walk fit the text of a journal.
use Rattle.std.proofs.Common.{◌≡◌, ℕ, ◌+◌, ◌*◌, ◌<◌, ◌≤◌, Bool, true, false, cond, eqb, List, [], ◌∷◌, length, refl, sym, ap, subst, ◌∙◌, arith}
use Rattle.std.specs.List.{AllByRecursion}
use Rattle.std.proofs.Math.Nat.{mul-le-mul_right}
use Rattle.std.proofs.lemmas.Bool.{true≢false, cond_both, eq-eqb}
use Rattle.std.proofs.lemmas.List.{get_or-set_same, length-set}
use Rattle.std.proofs.lemmas.List.Elements.{All-from_recursion, recursion_from_All}
use Rattle.values_undef.proofs.Callers.{all_get}
use Rattle.values_undef.specs.Access.{choice_of_event, acquires, releases, is_fence_order}
use Rattle.values_undef.specs.Journal.{used_steps, entry_steps}
use Rattle.values_undef.specs.declared.access.Access.{Access}
use Rattle.values_undef.specs.declared.access.Access.TheVariants as access
use Rattle.values_undef.specs.declared.access.Choice.{Choice}
use Rattle.values_undef.specs.declared.access.Choice.TheVariants.{Plain, Message, Place, Take}
use Rattle.values_undef.specs.declared.access.Event.{Event}
use Rattle.values_undef.specs.declared.access.Event.TheVariants.{NaRead, NaWrite, Read, Write, Update, Miss, Fence, Print, Fail, FailCompare, Finish, Spend}
use Rattle.values_undef.specs.declared.access.Order.{Order}
use Rattle.values_undef.specs.declared.access.Order.TheVariants.{Rlx, Acq, Rel, AcqRel}
use Rattle.values_undef.specs.declared.journal.Entry.{Entry}
use Rattle.il_syntax.specs.declared.program.Program.{Program}
use Rattle.views.specs.ThreadView.{ThreadView}
use Rattle.message_memory.specs.declared.message.Message.{Message as TheMessage}
use Rattle.message_memory.specs.Memory.{Memory, messages, inserted, with_message, last_to, IsWellFormedMemory}
use Rattle.message_memory.specs.Step.{AdmitsChoice, StepResult, step_result, is_racy, meets_undef, read_at, write_message, update_message}
use Rattle.message_memory.proofs.Callers.{found_within, some_from_and, last_to-inserted}
use Rattle.thread_core.specs.declared.next.Next.{Next}
use Rattle.thread_core.specs.declared.next.Next.TheVariants as step
use Rattle.thread_core.specs.Programs.{IsProperProgram, IsProperAccess, IsProperNext}
use Rattle.thread_core.specs.Steps.{IsProperStack}
use Rattle.thread_core.proofs.Callers.{next_proper, well_formed_proper}
use Rattle.view_machine.specs.declared.stepped.Stepped.TheVariants as stepped
use Rattle.view_machine.specs.State.{State, idle, local_in, view_in, next_in, step_by, Allows, declared_values, initial_state}
use Rattle.view_machine.specs.Runs.{is_spend, after_silent, MakesAccess, MakesEventBy, after_event_by, IsEntry, after_entry, IsRunFrom}
use Rattle.view_machine.specs.Laws.{IsReached}
use Rattle.walker.specs.Progress.{IsWithin}
use Rattle.walker.proofs.Callers.{first_within, event_is}
use Rattle.view_machine.proofs.Callers.{entry_there}
use Rattle.journal_text.specs.Limits.{IsStamp, IsReadOrder, IsWriteOrder, IsFenceOrder, FitsEvent, FitsEntry}
use Rattle.walk_limits.specs.Values.{HasEventValues}
use Rattle.walk_limits.specs.Walks.{RunsAreFew, RunsFit, WalksFit}
use Rattle.walk_limits.proofs.RunValues.{runs_have_values}
use Rattle.view_machine.proofs.Callers.{runs_short, silent_reached, initial_reached, run_reached, spend_is, silent_memory}
use Rattle.walk_limits.proofs.Stamps.{AreSomeChosen, some_chosen, within_after}

-- ---- what an event names, without its values

abbrev HasEventPlaces : Program → Event → Type 0
HasEventPlaces p (NaRead x v) = x < length p.na
HasEventPlaces p (NaWrite x v version) = (x < length p.na) × IsStamp version
HasEventPlaces p (Read y order v to) = IsReadOrder order × (y < length p.atomic) × IsStamp to
HasEventPlaces p (Write y order v from to) = IsWriteOrder order × (y < length p.atomic) × IsStamp from × IsStamp to
HasEventPlaces p (Update y order old new read to) = (y < length p.atomic) × IsStamp read × IsStamp to
HasEventPlaces p (Miss y order old read) = (y < length p.atomic) × IsStamp read
HasEventPlaces p (Fence order) = IsFenceOrder order
HasEventPlaces p (Print v) = Unit {0}
HasEventPlaces p (Fail cause) = Unit {0}
HasEventPlaces p (FailCompare y read) = (y < length p.atomic) × IsStamp read
HasEventPlaces p Finish = Unit {0}
HasEventPlaces p Spend = Unit {0}

fits_event : (p : Program) (e : Event) → HasEventPlaces p e → HasEventValues e → FitsEvent p e
fits_event p (NaRead x v) h q = (h, q)
fits_event p (NaWrite x v version) h q = (h.0, q, h.1)
fits_event p (Read y order v to) h q = (h.0, h.1, q, h.2)
fits_event p (Write y order v from to) h q = (h.0, h.1, q, h.2, h.3)
fits_event p (Update y order old new read to) h q = (h.0, q.0, q.1, h.1, h.2)
fits_event p (Miss y order old read) h q = (h.0, q, h.1)
fits_event p (Fence order) h q = h
fits_event p (Print v) h q = q
fits_event p (Fail cause) h q = tt
fits_event p (FailCompare y read) h q = h
fits_event p Finish h q = tt
fits_event p Spend h q = tt

pub read_order : (order : Order) → releases order ≡ false → IsReadOrder order
read_order Rlx h = tt
read_order Acq h = tt
read_order Rel h = true≢false h
read_order AcqRel h = true≢false h

pub write_order : (order : Order) → acquires order ≡ false → IsWriteOrder order
write_order Rlx h = tt
write_order Acq h = true≢false h
write_order Rel h = tt
write_order AcqRel h = true≢false h

pub fence_order : (order : Order) → is_fence_order order ≡ true → IsFenceOrder order
fence_order Rlx h = true≢false (sym h)
fence_order Acq h = tt
fence_order Rel h = tt
fence_order AcqRel h = tt

-- ---- one access

-- the stamp of a message that is there
old_stamp : (m : Memory) (y n to : ℕ) → y < length m.atomic → IsWithin n m → n ≤ 262160 → to ≤ last_to (messages m y) → IsStamp to
old_stamp m y n to lt w few old = let small = w.timestamps y lt in omega (arith, small, old, few)

-- a new message ends no later than the last
new_end : (m : Memory) (y : ℕ) (message : TheMessage) → y < length m.atomic → message.to ≤ last_to (messages (with_message m y message) y)
new_end m y message lt =
    omega (arith, ap last_to (get_or-set_same m.atomic y (inserted message (messages m y)) [] lt), last_to-inserted message (messages m y))

new_stamp : (m : Memory) (y n : ℕ) (message : TheMessage) → y < length m.atomic → IsWithin n (with_message m y message) → n ≤ 262160 → IsStamp message.to
new_stamp m y n message lt w few =
    let there : y < length (with_message m y message).atomic = omega (arith, lt, length-set m.atomic y (inserted message (messages m y))) in
    old_stamp (with_message m y message) y n message.to there w few (new_end m y message lt)

-- the memory has what the program has, and is one after few entries
record IsMemoryOf (p : Program) (m : Memory) (n : ℕ) : Type 0 where
  na : length m.na ≡ length p.na
  atomic : length m.atomic ≡ length p.atomic
  well_formed : IsWellFormedMemory m
  within : IsWithin n m
  few : n + 1 ≤ 262160

access_places : (p : Program) (m : Memory) (v : ThreadView) (i : ℕ) (a : Access) (c : Choice) (n : ℕ) → IsMemoryOf p m n → IsProperAccess p a → IsWithin (n + 1) (step_result m v i a c).memory → AdmitsChoice m v a c
    → HasEventPlaces p (step_result m v i a c).event
access_places p m v i (access.NaRead x) Plain n s proper w h = proper
access_places p m v i (access.NaWrite x value) Plain n s proper w h =
    cond_both (is_racy m v x) _ _ (λ (o : StepResult). HasEventPlaces p o.event) (λ _. tt)
    (λ _. (proper, let old = s.within.versions x in let few = s.few in omega (arith, old, few)))
access_places p m v i (access.Read y order) (Message to) n s proper w h =
    let lt : y < length m.atomic = let same = s.atomic in omega (arith, proper.0, same) in
    (read_order order proper.1, proper.0, old_stamp m y n to lt s.within (let few = s.few in omega (arith, few)) (found_within to (messages m y) (s.well_formed.disjoint y lt) h.1))
access_places p m v i (access.Write y order value) (Place from to) n s proper w h =
    let lt : y < length m.atomic = let same = s.atomic in omega (arith, proper.0, same) in
    let last : IsStamp to = new_stamp m y (n + 1) (write_message m v y order value from to) lt w s.few in
    (write_order order proper.1, proper.0, omega (arith, last, h.0), last)
access_places p m v i (access.Update y order kind) (Message to) n s proper w h =
    let lt : y < length m.atomic = let same = s.atomic in omega (arith, proper, same) in
    let old : IsStamp to = old_stamp m y n to lt s.within (let few = s.few in omega (arith, few)) (found_within to (messages m y) (s.well_formed.disjoint y lt) (some_from_and _ _ h.1)) in
    cond_both (meets_undef kind (read_at m y to).value) _ _ (λ (o : StepResult). HasEventPlaces p o.event) (λ _. (proper, old)) (λ _. (proper, old))
access_places p m v i (access.Update y order kind) (Take read to) n s proper w h =
    let lt : y < length m.atomic = let same = s.atomic in omega (arith, proper, same) in
    let last : IsStamp to = new_stamp m y (n + 1) (update_message m v y order kind (read_at m y read) read to) lt w s.few in
    (proper, omega (arith, last, h.1), last)
access_places p m v i (access.Fence order) Plain n s proper w h = fence_order order proper
access_places p m v i (access.Print value) Plain n s proper w h = tt
access_places p m v i (access.Fail cause) Plain n s proper w h = tt
access_places p m v i access.Finish Plain n s proper w h = tt
access_places p m v i access.Spend Plain n s proper w h = tt
access_places p m v i _ _ n s proper w h = absurd h

-- ---- one entry

made_places : (p : Program) (s : State) (i : ℕ) (e : Event) (n : ℕ) (x : Next) → IsReached p s → IsWithin n s.memory → n + 1 ≤ 262160 → next_in s i ≡ x → MakesAccess p s i e → IsProperNext p x
    → IsWithin (n + 1) (step_by p s i (choice_of_event e) x).state.memory → HasEventPlaces p e
made_places p s i e n step.Silent r w few nx h proper more =
    let q : (step_by p s i (choice_of_event e) step.Silent).done ≡ stepped.Did e = ap (λ (x : Next). (step_by p s i (choice_of_event e) x).done) (sym nx) ∙ h.event in
    cc
made_places p s i e n (step.Access a) r w few nx h proper more =
    let legal = subst (Allows s.memory (view_in s i) (choice_of_event e)) nx h.step.allowed in
    subst (HasEventPlaces p) (event_is p s i a e nx h)
    (access_places p s.memory (view_in s i) i a (choice_of_event e) n (record { na = r.na; atomic = r.atomic; well_formed = r.well_formed.well_formed; within = w; few = few }) proper more legal.admits)

event_places : (p : Program) (s : State) (i : ℕ) (e : Event) (n : ℕ) (b : Bool) → is_spend e ≡ b → IsReached p s → IsWithin n s.memory → n + 1 ≤ 262160 → MakesEventBy p s i e b
    → IsWithin (n + 1) (after_event_by p s i e b).memory → HasEventPlaces p e
event_places p s i e n true is r w few h more = subst (HasEventPlaces p) (sym (spend_is e is)) tt
event_places p s i e n false is r w few h more =
    made_places p s i e n (next_in s i) r w few refl h (next_proper p (local_in s i) (all_get (IsProperStack p) s.locals i idle h.step.able.there r.stacks)) more

-- an entry without its silent steps and values
pub record HasPlaces (p : Program) (e : Entry) : Type 0 where
  pub thread : e.thread < length p.threads
  pub event : HasEventPlaces p e.event

entry_places : (p : Program) (s : State) (e : Entry) (n : ℕ) → IsProperProgram p → IsReached p s → IsWithin n s.memory → n + 1 ≤ 262160 → IsEntry p s e → IsWithin (n + 1) (after_entry p s e).memory → HasPlaces p e
entry_places p s e n ok r w few h more = record {
  thread = let there = entry_there p s e h in let same = r.threads in omega (arith, there, same);
  event = event_places p (after_silent p e.thread e.silent s) e.thread e.event n (is_spend e.event) refl (silent_reached p e.thread e.silent s ok r h.silent)
      (subst (IsWithin n) (sym (silent_memory p e.thread e.silent s h.silent)) w) few h.event more;
}

run_places : (p : Program) (s : State) (entries : List Entry) (n : ℕ) → IsProperProgram p → IsReached p s → IsRunFrom p s entries → AreSomeChosen p s entries → IsWithin n s.memory → length entries + n ≤ 262160
    → AllByRecursion (HasPlaces p) entries
run_places p s [] n ok r h chosen w few = tt
run_places p s (e ∷ more) n ok r h chosen w few =
    let after = within_after p s e n ok r (h.0, tt) chosen.0 w in (
      entry_places p s e n ok r w (omega (arith, few)) h.0 after,
      run_places p (after_entry p s e) more (n + 1) ok (run_reached p s (e ∷ []) ok r (h.0, tt)) h.1 chosen.1 after (omega (arith, few)),
    )

-- ---- silent steps

few_silent : (p : Program) (steps : ℕ) (entries : List Entry) → AllByRecursion (HasPlaces p) entries → ((i : ℕ) → i < length p.threads → used_steps entries i ≤ steps) → AllByRecursion (λ e. e.silent ≤ steps) entries
few_silent p steps [] h used = tt
few_silent p steps (e ∷ more) h used = (
  let all = used e.thread h.0.thread in
      let own : cond (eqb e.thread e.thread) (entry_steps e) 0 ≡ entry_steps e = ap (λ (b : Bool). cond b (entry_steps e) 0) (eq-eqb e.thread e.thread refl) in
      omega (arith, all, own),
  few_silent p steps more h.1 (λ i lt. let all = used i lt in omega (arith, all)),
)

-- ---- all together

fit_all : (p : Program) (steps : ℕ) (entries : List Entry) → length p.threads ≤ 16 → steps ≤ 16384 → AllByRecursion (HasPlaces p) entries → AllByRecursion (λ e. e.silent ≤ steps) entries
    → AllByRecursion (λ e. HasEventValues e.event) entries → AllByRecursion (FitsEntry p) entries
fit_all p steps [] few less h silent values = tt
fit_all p steps (e ∷ more) few less h silent values = (
  record {
    thread = let lt = h.0.thread in omega (arith, lt, few);
    silent = omega (arith, silent.0, less);
    event = fits_event p e.event h.0.event values.0;
  },
  fit_all p steps more few less h.1 silent.1 values.1,
)

pub runs_few : RunsAreFew
runs_few p entries steps formed less run complete =
    let ok = well_formed_proper p formed in
    let short = runs_short p entries steps run complete.within in
    let most : length p.threads * (steps + 1) ≤ 16 * (steps + 1) = mul-le-mul_right (steps + 1) ok.few_threads in
    omega (arith, short, most, less)

pub runs_fit : RunsFit
runs_fit p entries steps formed less run complete takes =
    let ok = well_formed_proper p formed in
    let few = runs_few p entries steps formed less run complete in
    let places = run_places p (initial_state p) entries 0 ok (initial_reached p ok) run (some_chosen p (initial_state p) entries takes) (first_within (declared_values p.na) (declared_values p.atomic)) (omega (arith, few)) in
    let silent = few_silent p steps entries places complete.within in
    All-from_recursion (FitsEntry p) entries (fit_all p steps entries ok.few_threads less places silent (recursion_from_All (λ e. HasEventValues e.event) entries (runs_have_values p entries formed run)))

pub walks_fit : WalksFit
walks_fit p entries order steps formed less run complete turns takes =
    (runs_fit p entries steps formed less run complete takes, runs_few p entries steps formed less run complete)
