-- Laws of runs: their parts, failures and outputs.
use Rattle.std.proofs.Common.{◌≡◌, ◌↔◌, ℕ, zero, suc, Bool, true, false, List, [], ◌∷◌, ◌++◌, refl, sym, ap, subst, ◌∙◌}
use Rattle.std.proofs.lemmas.Bool.{false≢true, true≢false}
use Rattle.std.proofs.lemmas.List.{append_assoc, append-nil}
use Rattle.values_undef.specs.Access.{choice_of_event, is_failure}
use Rattle.values_undef.specs.Journal.{Output, printed, outputs_of}
use Rattle.values_undef.specs.declared.access.Choice.{Choice}
use Rattle.values_undef.specs.declared.access.Choice.TheVariants.{Plain}
use Rattle.values_undef.specs.declared.access.Event.{Event}
use Rattle.values_undef.specs.declared.access.Event.TheVariants.{NaRead, NaWrite, Read, Write, Update, Miss, Fence, Print, Fail, FailCompare, Finish, Spend}
use Rattle.values_undef.specs.declared.journal.Entry.{Entry}
use Rattle.il_syntax.specs.declared.program.Program.{Program}
use Rattle.message_memory.specs.Memory.{Memory}
use Rattle.message_memory.specs.Step.{step_result, MemStep}
use Rattle.message_memory.proofs.Callers.{failures_fail, outputs_grow}
use Rattle.thread_core.specs.declared.next.Next.{Next}
use Rattle.thread_core.specs.declared.next.Next.TheVariants as next
use Rattle.view_machine.specs.declared.stepped.Stepped.TheVariants as stepped
use Rattle.view_machine.specs.State.{State, view_in, next_in, Allows, IsStep, step_by, after_step, initial_state}
use Rattle.view_machine.specs.Runs.{is_spend, after_silent, AreSilent, MakesEventBy, after_event_by, IsEntry, after_entry, IsRunFrom, IsJournalRun, state_after, IsRunTo}

-- ---- parts

pub silent_more : (p : Program) (i n : ℕ) (s : State) → AreSilent p i n s → IsStep (after_silent p i n s) i Plain → next_in (after_silent p i n s) i ≡ next.Silent → AreSilent p i (suc n) s
silent_more p i zero s h step e = (step, e, tt)
silent_more p i (suc n) s h step e = (h.0, h.1, silent_more p i n (after_step p s i Plain).state h.2 step e)

pub after_silent-more : (p : Program) (i n : ℕ) (s : State) → after_silent p i (suc n) s ≡ (after_step p (after_silent p i n s) i Plain).state
after_silent-more p i zero s = refl
after_silent-more p i (suc n) s = after_silent-more p i n (after_step p s i Plain).state

pub runs_join : (p : Program) (s : State) (before after : List Entry) → IsRunFrom p s before → IsRunFrom p (state_after p s before) after → IsRunFrom p s (before ++ after)
runs_join p s [] after h q = q
runs_join p s (e ∷ before) after h q = (h.0, runs_join p (after_entry p s e) before after h.1 q)

pub runs_cut : (p : Program) (s : State) (before after : List Entry) → IsRunFrom p s (before ++ after) → IsRunFrom p s before × IsRunFrom p (state_after p s before) after
runs_cut p s [] after h = (tt, h)
runs_cut p s (e ∷ before) after h = let r = runs_cut p (after_entry p s e) before after h.1 in ((h.0, r.0), r.1)

pub runs_split : (p : Program) (s : State) (before after : List Entry) → IsRunFrom p s (before ++ after) ↔ (IsRunFrom p s before × IsRunFrom p (state_after p s before) after)
runs_split p s before after = (runs_cut p s before after, λ h. runs_join p s before after h.0 h.1)

pub states_split : (p : Program) (s : State) (before after : List Entry) → state_after p s (before ++ after) ≡ state_after p (state_after p s before) after
states_split p s [] after = refl
states_split p s (e ∷ before) after = states_split p (after_entry p s e) before after

pub run_goes_on : (p : Program) (entries : List Entry) (s : State) (e : Entry) → IsRunTo p entries s → IsEntry p s e → IsRunTo p (entries ++ e ∷ []) (after_entry p s e)
run_goes_on p entries s e r h = record {
  run = runs_join p (initial_state p) entries (e ∷ []) r.run (subst (λ (t : State). IsEntry p t e) (sym r.state) h, tt);
  state = states_split p (initial_state p) entries (e ∷ []) ∙ ap (λ (t : State). after_entry p t e) r.state;
}

pub runs_lead : (p : Program) (entries : List Entry) → IsJournalRun p entries ↔ IsRunTo p entries (state_after p (initial_state p) entries)
runs_lead p entries = (λ h. record { run = h; state = refl }, λ r. r.run)

-- ---- events

pub spend_is : (e : Event) → is_spend e ≡ true → e ≡ Spend
spend_is (NaRead x v) h = absurd (false≢true h)
spend_is (NaWrite x v n) h = absurd (false≢true h)
spend_is (Read y o v to) h = absurd (false≢true h)
spend_is (Write y o v a b) h = absurd (false≢true h)
spend_is (Update y o a b c d) h = absurd (false≢true h)
spend_is (Miss y o v a) h = absurd (false≢true h)
spend_is (Fence order) h = absurd (false≢true h)
spend_is (Print v) h = absurd (false≢true h)
spend_is (Fail cause) h = absurd (false≢true h)
spend_is (FailCompare y read) h = absurd (false≢true h)
spend_is Finish h = absurd (false≢true h)
spend_is Spend h = refl

-- the step of the memory in a step that has an event
memory_step : (p : Program) (s : State) (i : ℕ) (c : Choice) (n : Next) (e : Event) → Allows s.memory (view_in s i) c n → (step_by p s i c n).done ≡ stepped.Did e
    → ((step_by p s i c n).state.memory.failed ≡ is_failure e) × ((step_by p s i c n).state.memory.outputs ≡ s.memory.outputs ++ printed i e)
memory_step p s i c next.Silent e h q = cc
memory_step p s i c (next.Access a) e h q =
    let o = step_result s.memory (view_in s i) i a c in
    let same : o.event ≡ e = cc in
    let made : MemStep s.memory (view_in s i) i a c e o.memory o.view = record { legal = h; event = same; memory = refl; view = refl } in
    (failures_fail s.memory o.memory (view_in s i) o.view i a c e made, outputs_grow s.memory o.memory (view_in s i) o.view i a c e made)

running_by : (p : Program) (s : State) (i : ℕ) (e : Event) (b : Bool) → MakesEventBy p s i e b → s.memory.failed ≡ false
running_by p s i e true h = h.able.running
running_by p s i e false h = h.step.able.running

fails_by : (p : Program) (s : State) (i : ℕ) (e : Event) (b : Bool) → is_spend e ≡ b → MakesEventBy p s i e b → is_failure e ≡ true → (after_event_by p s i e b).memory.failed ≡ true
fails_by p s i e true q h f = absurd (false≢true (sym (ap is_failure (spend_is e q)) ∙ f))
fails_by p s i e false q h f = (memory_step p s i (choice_of_event e) (next_in s i) e h.step.allowed h.event).0 ∙ f

prints_by : (p : Program) (s : State) (i : ℕ) (e : Event) (b : Bool) → is_spend e ≡ b → MakesEventBy p s i e b → (after_event_by p s i e b).memory.outputs ≡ s.memory.outputs ++ printed i e
prints_by p s i e true q h = sym (append-nil s.memory.outputs) ∙ ap (λ (x : Event). s.memory.outputs ++ printed i x) (sym (spend_is e q))
prints_by p s i e false q h = (memory_step p s i (choice_of_event e) (next_in s i) e h.step.allowed h.event).1

-- silent steps leave the memory
silent_step_memory : (p : Program) (s : State) (i : ℕ) (c : Choice) (n : Next) → n ≡ next.Silent → (step_by p s i c n).state.memory ≡ s.memory
silent_step_memory p s i c next.Silent e = refl
silent_step_memory p s i c (next.Access a) e = cc

pub silent_memory : (p : Program) (i n : ℕ) (s : State) → AreSilent p i n s → (after_silent p i n s).memory ≡ s.memory
silent_memory p i zero s h = refl
silent_memory p i (suc n) s h = silent_memory p i n (after_step p s i Plain).state h.2 ∙ silent_step_memory p s i Plain (next_in s i) h.1

entry_running : (p : Program) (s : State) (e : Entry) → IsEntry p s e → s.memory.failed ≡ false
entry_running p s e h =
    ap (λ (m : Memory). m.failed) (sym (silent_memory p e.thread e.silent s h.silent)) ∙ running_by p (after_silent p e.thread e.silent s) e.thread e.event (is_spend e.event) h.event

-- ---- failures and outputs

-- an entry that fails is the last of a run
pub failure_last : (p : Program) (s : State) (before : List Entry) (e : Entry) (after : List Entry) → IsRunFrom p s (before ++ e ∷ after) → is_failure e.event ≡ true → after ≡ []
failure_last p s [] e [] h f = refl
failure_last p s [] e (y ∷ after) h f =
    let failed = fails_by p (after_silent p e.thread e.silent s) e.thread e.event (is_spend e.event) refl h.0.event f in
    absurd (true≢false (sym failed ∙ entry_running p (after_entry p s e) y h.1.0))
failure_last p s (x ∷ before) e after h f = failure_last p (after_entry p s x) before e after h.1 f

run_prints : (p : Program) (s : State) (entries : List Entry) → IsRunFrom p s entries → (state_after p s entries).memory.outputs ≡ s.memory.outputs ++ outputs_of entries
run_prints p s [] h = sym (append-nil s.memory.outputs)
run_prints p s (e ∷ entries) h =
    let t = after_silent p e.thread e.silent s in
    run_prints p (after_entry p s e) entries h.1
    ∙ ap (λ (outputs : List Output). outputs ++ outputs_of entries)
    (prints_by p t e.thread e.event (is_spend e.event) refl h.0.event ∙ ap (λ (m : Memory). m.outputs ++ printed e.thread e.event) (silent_memory p e.thread e.silent s h.0.silent))
    ∙ append_assoc s.memory.outputs (printed e.thread e.event) (outputs_of entries)

-- what the memory has printed is what the journal prints
pub outputs_printed : (p : Program) (entries : List Entry) (s : State) → IsRunTo p entries s → s.memory.outputs ≡ outputs_of entries
outputs_printed p entries s r =
    ap (λ (t : State). t.memory.outputs) (sym r.state) ∙ run_prints p (initial_state p) entries r.run
