-- Threads that run apart, over one memory, make a run of the machine.
use Rattle.std.proofs.Common.{◌≡◌, ℕ, zero, suc, ◌<◌, Bool, true, false, cond, eqb, List, [], ◌∷◌, ◌++◌, length, set, inl, inr, refl, sym, ap, subst, ◌∙◌, arith}
use Rattle.std.proofs.lemmas.List.{set-get_or, get_or-set_same, get_or-set_other, set-set, length-set, length-map, length-replicate, get_or-replicate, append-nil}
use Rattle.std.proofs.lemmas.Bool.{eq-eqb, ne_eqb, cases_eq, cases_Bool, cond-true, cond-false}
use Rattle.values_undef.specs.Access.{choice_of_event}
use Rattle.values_undef.specs.Journal.{is_finish}
use Rattle.values_undef.specs.declared.access.Access.{Access}
use Rattle.values_undef.specs.declared.access.Access.TheVariants as access
use Rattle.values_undef.specs.declared.access.Choice.{Choice}
use Rattle.values_undef.specs.declared.access.Choice.TheVariants.{Plain}
use Rattle.values_undef.specs.declared.access.Event.{Event}
use Rattle.il_syntax.specs.declared.program.Program.{Program}
use Rattle.views.specs.ThreadView.{ThreadView, no_view}
use Rattle.message_memory.specs.Step.{IsLegal, StepResult, step_result}
use Rattle.message_memory.specs.declared.history.Call.{Call}
use Rattle.message_memory.specs.History.{MemoryState, IsHistoryFrom, after_call, calls_by, entry_of, entries_of}
use Rattle.message_memory.specs.History.{memory_state_after as memories_after}
use Rattle.thread_core.specs.declared.next.Next.{Next}
use Rattle.thread_core.specs.declared.next.Next.TheVariants as next
use Rattle.thread_core.specs.Frames.{Stack, next_of, advanced}
use Rattle.thread_core.specs.Alone.{local_after_silent, HasSilent, local_after_event}
use Rattle.view_machine.specs.declared.stepped.Stepped.TheVariants as stepped
use Rattle.view_machine.specs.State.{State, local_in, with_local, view_in, has_ended, next_in, idle, Allows, IsRunning, IsStep, StepTaken, step_by, after_step, after_spend, start_of, initial_state}
use Rattle.view_machine.specs.Runs.{is_spend, after_silent, AreSilent, MakesAccess, MakesEventBy, MakesEvent, after_event_by, after_event, after_entry, state_after, IsRunFrom}
use Rattle.view_machine.specs.Laws.{MakesCallBy, Follows, FollowsThread, IsHistoryOf}
use Rattle.view_machine.proofs.Reached.{initial_memories}
use Rattle.view_machine.specs.Merged.{seen_in, MergedHistoriesLead, MergedHistoriesAsk}
use Rattle.message_memory.proofs.Callers.{other_first}

-- ---- one thread's silent steps

pub local_same : (s : State) (i : ℕ) → with_local s i (local_in s i) ≡ s
local_same s i = ap (λ (x : List Stack). record s { locals = x }) (set-get_or s.locals i idle)

pub going_with : (s : State) (i : ℕ) (l : Stack) → IsRunning s i → IsRunning (with_local s i l) i
going_with s i l g = record { there = let e = length-set s.locals i l in omega (arith, e, g.there); going = g.going; running = g.running }

pub silent_step : (s : State) (i : ℕ) → IsRunning s i → next_in s i ≡ next.Silent → IsStep s i Plain
silent_step s i g e = record { able = g; allowed = subst (Allows s.memory (view_in s i) Plain) (sym e) refl }

-- an access that is legal is a step, and each step is one
pub access_step : (s : State) (i : ℕ) (c : Choice) (a : Access) → IsRunning s i → next_in s i ≡ next.Access a → IsLegal s.memory (view_in s i) a c → IsStep s i c
access_step s i c a g e h = record { able = g; allowed = subst (Allows s.memory (view_in s i) c) (sym e) h }

pub step_legal : (s : State) (i : ℕ) (c : Choice) (a : Access) → next_in s i ≡ next.Access a → IsStep s i c → IsLegal s.memory (view_in s i) a c
step_legal s i c a e h = subst (Allows s.memory (view_in s i) c) e h.allowed

-- the access of a thread is what its entry makes
pub access_made : (p : Program) (s u : State) (i : ℕ) (c : Choice) (e : Event) (a : Access) → IsRunning s i → next_in s i ≡ next.Access a → IsLegal s.memory (view_in s i) a c
    → choice_of_event e ≡ c → after_step p s i c ≡ record { state = u; done = stepped.Did e }
    → MakesAccess p s i e × ((after_step p s i (choice_of_event e)).state ≡ u)
access_made p s u i c e a g asks legal q made = (
  record {
    step = subst (IsStep s i) (sym q) (access_step s i c a g asks legal);
    event = ap (λ (x : Choice). (after_step p s i x).done) q ∙ ap (λ (t : StepTaken). t.done) made;
  },
  ap (λ (x : Choice). (after_step p s i x).state) q ∙ ap (λ (t : StepTaken). t.state) made,
)

pub record Ran (p : Program) (i n : ℕ) (s : State) : Type 0 where
  pub silent : AreSilent p i n s
  pub state : after_silent p i n s ≡ with_local s i (local_after_silent p n (local_in s i))

pub runs_silent : (p : Program) (i n : ℕ) (s : State) → IsRunning s i → HasSilent p n (local_in s i) → Ran p i n s
runs_silent p i zero s g h = record { silent = tt; state = sym (local_same s i) }
runs_silent p i (suc n) s g h =
    let l = local_in s i in
    let t = with_local s i (advanced p l) in
    let stepped_to : (after_step p s i Plain).state ≡ t = ap (λ (x : Next). (step_by p s i Plain x).state) h.0 in
    let same : local_in t i ≡ advanced p l = get_or-set_same s.locals i (advanced p l) idle g.there in
    let r = runs_silent p i n t (going_with s i (advanced p l) g) (subst (HasSilent p n) (sym same) h.1) in
    record {
      silent = (silent_step s i g h.0, h.0, subst (AreSilent p i n) (sym stepped_to) r.silent);
      state =
          ap (after_silent p i n) stepped_to ∙ r.state
          ∙ ap (λ (x : Stack). with_local t i (local_after_silent p n x)) same
          ∙ ap (λ (x : List Stack). record s { locals = x }) (set-set s.locals i (advanced p l) (local_after_silent p n (advanced p l)));
    }

pub silent_steps_local : (p : Program) (i n : ℕ) (s : State) → IsRunning s i → HasSilent p n (local_in s i) → AreSilent p i n s × (after_silent p i n s ≡ with_local s i (local_after_silent p n (local_in s i)))
silent_steps_local p i n s g h = let r = runs_silent p i n s g h in (r.silent, r.state)

-- ---- the calls of a thread

pub own_calls : (c : Call) (calls : List Call) → calls_by c.thread (c ∷ calls) ≡ c ∷ calls_by c.thread calls
own_calls c calls = cond-true (eqb c.thread c.thread) _ _ (eq-eqb c.thread c.thread refl)

abbrev pub HasMore : List Call → Type 0
HasMore [] = ⊥
HasMore (c ∷ calls) = Unit {0}

none_left : (calls : List Call) → calls ≡ [] → HasMore calls → ⊥
none_left calls e h = subst HasMore e h

-- ---- what holds before each call

pub record Ready (p : Program) (s : State) (calls : List Call) : Type 0 where
  pub notes : length s.ended ≡ length s.locals
  pub views : length s.views ≡ length s.locals
  pub going : (j : ℕ) → j < length s.locals → HasMore (calls_by j calls) → has_ended s j ≡ false
  pub follows : (j : ℕ) → j < length s.locals → Follows p (local_in s j) (calls_by j calls)
  pub memory : IsHistoryFrom (seen_in s) calls

unfinished : (c : Call) (more : List Call) → (is_finish c.event ≡ true → more ≡ []) → HasMore more → is_finish c.event ≡ false
unfinished c more h m =
    elim (cases_Bool (is_finish c.event)) [ inl e ↦ absurd (none_left more (h e) m) | inr e ↦ e ]

-- what a call does to the state, the thread being where its silent steps led it
pub record Did (p : Program) (t : State) (c : Call) (calls : List Call) : Type 0 where
  pub event : MakesEvent p t c.thread c.event
  pub ready : Ready p (after_event p t c.thread c.event) calls
  pub seen : seen_in (after_event p t c.thread c.event) ≡ after_call (seen_in t) c

pub does : (p : Program) (s : State) (c : Call) (calls : List Call) (l : Stack) → Ready p s (c ∷ calls) → IsRunning s c.thread → (b : Bool) → is_spend c.event ≡ b
    → MakesCallBy l c (calls_by c.thread calls) b → Follows p (local_after_event l c.event) (calls_by c.thread calls) → Did p (with_local s c.thread l) c calls
does p s c calls l r g true b asks rest =
    let i = c.thread in
    let t = with_local s i l in
    let u = after_spend t i in
    let here : local_in t i ≡ l = get_or-set_same s.locals i l idle g.there in
    let n = length-set s.locals i l in
    let after : after_event p t i c.event ≡ u = ap (λ (x : Bool). after_event_by p t i c.event x) b in
    let o : step_result s.memory (view_in s i) i c.access (choice_of_event c.event) ≡ step_result s.memory (view_in s i) i access.Spend (choice_of_event c.event) = ap (λ (a : Access). step_result s.memory (view_in s i) i a (choice_of_event c.event)) asks.0 in
    let kept : after_call (seen_in s) c ≡ seen_in s =
    ap (λ (x : StepResult). let y : MemoryState = record { memory = x.memory; views = set s.views i x.view } in y) o
    ∙ ap (λ (v : List ThreadView). let y : MemoryState = record { memory = s.memory; views = v } in y) (set-get_or s.views i no_view) in
    record {
      event = subst (MakesEventBy p t i c.event) (sym b) (record { able = going_with s i l g; unfinished = λ q. asks.1 (ap (λ (x : Stack). next_of x) (sym here) ∙ q) });
      ready = subst (λ (x : State). Ready p x calls) (sym after) (record {
        notes = length-set s.ended i true ∙ r.notes ∙ sym n;
        views = r.views ∙ sym n;
        going = λ j h more. elim (cases_eq c.thread j) [
          | inl e ↦ absurd (none_left (calls_by c.thread calls) asks.2 (subst (λ (k : ℕ). HasMore (calls_by k calls)) (sym e) more))
          | inr ne ↦ get_or-set_other s.ended i j true true (λ e. ne (sym e)) ∙ r.going j (omega (arith, n, h)) (subst HasMore (sym (other_first c calls j ne)) more)
        ];
        follows = λ j h. elim (cases_eq c.thread j) [
          | inl e ↦ subst (λ (k : ℕ). Follows p (local_in u j) (calls_by k calls)) e (subst (Follows p (local_in u j)) (sym asks.2) tt)
          | inr ne ↦ subst (λ (x : Stack). Follows p x (calls_by j calls)) (sym (get_or-set_other s.locals i j l idle (λ e. ne (sym e))))
              (subst (Follows p (local_in s j)) (other_first c calls j ne) (r.follows j (omega (arith, n, h))))
        ];
        memory = subst (λ (x : MemoryState). IsHistoryFrom x calls) kept r.memory.1;
      });
      seen = ap seen_in after ∙ sym kept;
    }
does p s c calls l r g false b asks rest =
    let i = c.thread in
    let t = with_local s i l in
    let d = choice_of_event c.event in
    let o = step_result s.memory (view_in s i) i c.access d in
    let u = (step_by p t i d (next.Access c.access)).state in
    let here : local_in t i ≡ l = get_or-set_same s.locals i l idle g.there in
    let next : next_in t i ≡ next.Access c.access = ap (λ (x : Stack). next_of x) here ∙ asks.0 in
    let n = length-set s.locals i l in
    let n2 = length-set (set s.locals i l) i (local_after_event (local_in t i) o.event) in
    let first = r.memory.0 in
    let same : o.event ≡ c.event = first.step.event in
    let after : after_event p t i c.event ≡ u =
    ap (λ (x : Bool). after_event_by p t i c.event x) b ∙ ap (λ (x : Next). (step_by p t i d x).state) next in
    let it : MakesAccess p t i c.event = record {
      step = record { able = going_with s i l g; allowed = subst (Allows s.memory (view_in s i) d) (sym next) first.step.legal };
      event = ap (λ (x : Next). (step_by p t i d x).done) next ∙ ap stepped.Did same;
    } in
    record {
      event = subst (MakesEventBy p t i c.event) (sym b) it;
      ready = subst (λ (x : State). Ready p x calls) (sym after) (record {
        notes = length-set s.ended i (is_finish o.event) ∙ r.notes ∙ sym n ∙ sym n2;
        views = length-set s.views i o.view ∙ r.views ∙ sym n ∙ sym n2;
        going = λ j h more. elim (cases_eq c.thread j) [
          | inl e ↦ subst (λ (k : ℕ). has_ended u k ≡ false) e
              (get_or-set_same s.ended i (is_finish o.event) true (omega (arith, g.there, r.notes)) ∙ ap is_finish same
              ∙ unfinished c (calls_by c.thread calls) asks.1 (subst (λ (k : ℕ). HasMore (calls_by k calls)) (sym e) more))
          | inr ne ↦ get_or-set_other s.ended i j (is_finish o.event) true (λ e. ne (sym e)) ∙ r.going j (omega (arith, n, n2, h)) (subst HasMore (sym (other_first c calls j ne)) more)
        ];
        follows = λ j h. elim (cases_eq c.thread j) [
          | inl e ↦ subst (λ (k : ℕ). Follows p (local_in u k) (calls_by k calls)) e
              (subst (λ (x : Stack). Follows p x (calls_by i calls))
              (sym (get_or-set_same (set s.locals i l) i (local_after_event (local_in t i) o.event) idle (omega (arith, n, g.there)) ∙ (λ k. local_after_event (here k) (same k)))) rest)
          | inr ne ↦ subst (λ (x : Stack). Follows p x (calls_by j calls))
              (sym (get_or-set_other (set s.locals i l) i j (local_after_event (local_in t i) o.event) idle (λ e. ne (sym e)) ∙ get_or-set_other s.locals i j l idle (λ e. ne (sym e))))
              (subst (Follows p (local_in s j)) (other_first c calls j ne) (r.follows j (omega (arith, n, n2, h))))
        ];
        memory = r.memory.1;
      });
      seen = ap seen_in after;
    }

pub merges : (p : Program) (s : State) (calls : List Call) → Ready p s calls → IsRunFrom p s (entries_of calls)
merges p s [] r = tt
merges p s (c ∷ calls) r =
    let i = c.thread in
    let there : i < length s.locals = omega (arith, r.memory.0.there, r.views) in
    let f = subst (Follows p (local_in s i)) (own_calls c calls) (r.follows i there) in
    let g : IsRunning s i = record { there = there; going = r.going i there (subst HasMore (sym (own_calls c calls)) tt); running = r.memory.0.step.legal.running } in
    let ran = runs_silent p i c.silent s g f.0 in
    let did = does p s c calls (local_after_silent p c.silent (local_in s i)) r g (is_spend c.event) refl f.1 f.2 in (
      record { silent = ran.silent; event = subst (λ (x : State). MakesEvent p x i c.event) (sym ran.state) did.event },
      merges p (after_entry p s (entry_of c)) calls (subst (λ (x : State). Ready p (after_event p x i c.event) calls) (sym ran.state) did.ready),
    )

-- ---- the state before each call

-- the state after the entries of some first calls
pub record Came (p : Program) (s : State) (before rest : List Call) : Type 0 where
  pub ready : Ready p (state_after p s (entries_of before)) rest
  pub seen : seen_in (state_after p s (entries_of before)) ≡ memories_after (seen_in s) before

-- the state before a call, and after its silent steps
pub record Stands (p : Program) (s : State) (c : Call) : Type 0 where
  pub there : c.thread < length s.locals
  pub state : after_silent p c.thread c.silent s ≡ with_local s c.thread (local_after_silent p c.silent (local_in s c.thread))
  pub asks : is_spend c.event ≡ false → next_of (local_after_silent p c.silent (local_in s c.thread)) ≡ next.Access c.access

pub one_call : (p : Program) (s : State) (c : Call) (calls : List Call) → Ready p s (c ∷ calls) → Stands p s c × Ready p (after_entry p s (entry_of c)) calls × (seen_in (after_entry p s (entry_of c)) ≡ after_call (seen_in s) c)
one_call p s c calls r =
    let i = c.thread in
    let there : i < length s.locals = omega (arith, r.memory.0.there, r.views) in
    let f = subst (Follows p (local_in s i)) (own_calls c calls) (r.follows i there) in
    let g : IsRunning s i = record { there = there; going = r.going i there (subst HasMore (sym (own_calls c calls)) tt); running = r.memory.0.step.legal.running } in
    let ran = runs_silent p i c.silent s g f.0 in
    let did = does p s c calls (local_after_silent p c.silent (local_in s i)) r g (is_spend c.event) refl f.1 f.2 in (
      record { there = there; state = ran.state; asks = λ e. (subst (MakesCallBy (local_after_silent p c.silent (local_in s i)) c (calls_by i calls)) e f.1).0 },
      subst (λ (x : State). Ready p (after_event p x i c.event) calls) (sym ran.state) did.ready,
      ap (λ (x : State). seen_in (after_event p x i c.event)) ran.state ∙ did.seen,
    )

pub came : (p : Program) (s : State) (before rest : List Call) → Ready p s (before ++ rest) → Came p s before rest
came p s [] rest r = record { ready = r; seen = refl }
came p s (c ∷ before) rest r =
    let one = one_call p s c (before ++ rest) r in
    let more = came p (after_entry p s (entry_of c)) before rest one.1 in
    record { ready = more.ready; seen = more.seen ∙ ap (λ (x : MemoryState). memories_after x before) one.2 }

pub opened : (p : Program) (calls : List Call) → IsHistoryOf p calls → ((i : ℕ) → i < length p.threads → FollowsThread p i (calls_by i calls)) → Ready p (initial_state p) calls
opened p calls memory follows =
    let n : length (initial_state p).locals ≡ length p.threads = length-map p.threads (start_of p) in
    record {
      notes = length-replicate (length p.threads) false ∙ sym n;
      views = length-replicate (length p.threads) _ ∙ sym n;
      going = λ j h more. get_or-replicate (length p.threads) j false true (omega (arith, n, h));
      follows = λ j h. follows j (omega (arith, n, h));
      memory = subst (λ (x : MemoryState). IsHistoryFrom x calls) (initial_memories p) memory;
    }

pub merged : (p : Program) (calls : List Call) → IsHistoryOf p calls → ((i : ℕ) → i < length p.threads → FollowsThread p i (calls_by i calls)) → IsRunFrom p (initial_state p) (entries_of calls)
merged p calls memory follows = merges p (initial_state p) calls (opened p calls memory follows)

-- the run leads to the memory and the views of the history
pub merged_leads : MergedHistoriesLead
merged_leads p calls memory follows =
    let whole : calls ++ [] ≡ calls = append-nil calls in
    let r = subst (Ready p (initial_state p)) (sym whole) (opened p calls memory follows) in
    (came p (initial_state p) calls [] r).seen ∙ ap (λ (x : MemoryState). memories_after x calls) (sym (initial_memories p))

pub ask_before : MergedHistoriesAsk
ask_before p before c after history follows =
    let came_here = came p (initial_state p) before (c ∷ after) (opened p (before ++ c ∷ after) history follows) in
    let s = state_after p (initial_state p) (entries_of before) in
    let stands = (one_call p s c after came_here.ready).0 in
    let seen = came_here.seen ∙ ap (λ (x : MemoryState). memories_after x before) (sym (initial_memories p)) in
    let l = local_after_silent p c.silent (local_in s c.thread) in
    record {
      memory = ap (λ (x : State). x.memory) stands.state ∙ ap (λ (x : MemoryState). x.memory) seen;
      views = ap (λ (x : State). x.views) stands.state ∙ ap (λ (x : MemoryState). x.views) seen;
      asks = λ e. ap (λ (x : State). next_in x c.thread) stands.state ∙ ap (λ (x : Stack). next_of x) (get_or-set_same s.locals c.thread l idle stands.there) ∙ stands.asks e;
    }
