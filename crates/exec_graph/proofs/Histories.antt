-- The invariant along a history.
use Rattle.std.proofs.Common.{◌≡◌, ℕ, zero, suc, ℤ, pos, ◌+◌, ◌<◌, ◌≤◌, inl, inr, true, false, cond, eqb, List, [], ◌∷◌, length, map, get_or, set, refl, sym, ap, subst, ◌∙◌, arith}
use Rattle.std.proofs.lemmas.Bool.{cond_both, cond-true, cond-false, true≢false, cases_eq, eq-eqb, ne_eqb}
use Rattle.std.proofs.lemmas.List.{get_or-set_same, get_or-set_other, length-set, length-map}
use Rattle.std.specs.List.{AllByRecursion}
use Rattle.values_undef.specs.Access.{is_failure, choice_of_event}
use Rattle.values_undef.specs.declared.value.Val.{Val}
use Rattle.values_undef.specs.declared.value.Val.TheVariants.{Def}
use Rattle.values_undef.specs.declared.access.Access.{Access}
use Rattle.values_undef.specs.declared.access.Access.TheVariants as access
use Rattle.values_undef.specs.declared.access.Choice.{Choice}
use Rattle.values_undef.specs.declared.access.Choice.TheVariants.{Plain, Message, Place, Take}
use Rattle.views.specs.ThreadView.{ThreadView, no_view}
use Rattle.views.proofs.Callers.{get_or-zeros}
use Rattle.message_memory.specs.declared.history.Call.{Call}
use Rattle.message_memory.specs.declared.message.Message.{Message as TheMessage}
use Rattle.message_memory.specs.declared.message.Versioned.{Versioned}
use Rattle.message_memory.specs.Memory.{Memory, Messages, location_in, absent_location, first_message, IsClosedView}
use Rattle.message_memory.specs.Step.{StepResult, step_result, AdmitsChoice, is_racy, meets_undef, read_at}
use Rattle.message_memory.specs.History.{MemoryState, view_of, CallStep, after_call, IsHistoryFrom, MemHistory, IsWellFormedState, initial_memory_state}
use Rattle.message_memory.proofs.Callers.{all_at, well_formed_calls, initial_state_well_formed, keep_locations, failures_fail}
use Rattle.exec_graph.specs.Entries.{call_at, thread_at, access_at, event_at, Stamp}
use Rattle.exec_graph.specs.Known.{HasSlot, WroteVersion}
use Rattle.exec_graph.specs.Races.{value_after, value_before}
use Rattle.exec_graph.proofs.Sets.{Cur, Given, Got, Carried}
use Rattle.exec_graph.proofs.Agrees.{nothing_known}
use Rattle.exec_graph.proofs.Views.{others}
use Rattle.exec_graph.proofs.Invariant.{ViewsIn, Fits, KnowsMemory, Stepped, Before, IsFresh, closed_past}
use Rattle.exec_graph.proofs.Steps.{step_known, step_fresh}

-- what holds after the first n calls
pub record Knows (calls : List Call) (declared : ℕ → Val) (na n : ℕ) (s : MemoryState) : Type 0 where
  pub locations : length s.memory.na ≡ na
  pub well_formed : IsWellFormedState s
  pub views : (i : ℕ) → i < length s.views → ViewsIn calls na n i (view_of s i)
  pub memory : KnowsMemory calls na n s.memory
  pub values : (x : ℕ) → x < na → (location_in s.memory x).value ≡ value_before calls x (declared x) n

-- what a step leaves of the values
value_step : (m : Memory) (v : ThreadView) (i x : ℕ) (a : Access) (c : Choice) → x < length m.na → AdmitsChoice m v a c
    → (location_in (step_result m v i a c).memory x).value ≡ value_after x (location_in m x).value (step_result m v i a c).event
value_step m v i x (access.NaRead z) Plain l h = refl
value_step m v i x (access.NaWrite z n) Plain l h =
    cond_both (is_racy m v z) _ _ (λ (o : StepResult). (location_in o.memory x).value ≡ value_after x (location_in m x).value o.event)
    (λ _. refl)
    (λ _. elim (cases_eq z x) as (λ _. (get_or (set m.na z (record { value = n; version = (location_in m z).version + 1 })) x absent_location).value ≡ cond (eqb z x) n (location_in m x).value) [
      | inl e ↦ ap (λ (k : ℕ). (get_or (set m.na k (record { value = n; version = (location_in m z).version + 1 })) x absent_location).value) e
          ∙ ap (λ (c : Versioned). c.value) (get_or-set_same m.na x (record { value = n; version = (location_in m z).version + 1 }) absent_location l)
          ∙ sym (cond-true (eqb z x) n (location_in m x).value (eq-eqb z x e))
      | inr ne ↦ ap (λ (c : Versioned). c.value) (get_or-set_other m.na z x (record { value = n; version = (location_in m z).version + 1 }) absent_location (λ e. ne (sym e)))
          ∙ sym (cond-false (eqb z x) n (location_in m x).value (ne_eqb z x ne))
    ])
value_step m v i x (access.Read y order) (Message to) l h = refl
value_step m v i x (access.Write y order n) (Place from to) l h = refl
value_step m v i x (access.Update y order kind) (Message to) l h =
    cond_both (meets_undef kind (read_at m y to).value) _ _ (λ (o : StepResult). (location_in o.memory x).value ≡ value_after x (location_in m x).value o.event) (λ _. refl) (λ _. refl)
value_step m v i x (access.Update y order kind) (Take read to) l h = refl
value_step m v i x (access.Fence order) Plain l h = refl
value_step m v i x (access.Print n) Plain l h = refl
value_step m v i x (access.Fail cause) Plain l h = refl
value_step m v i x access.Finish Plain l h = refl
value_step m v i x access.Spend Plain l h = refl
value_step m v i x _ _ l h = absurd h

step_here : (calls : List Call) (declared : ℕ → Val) (n : ℕ) (s : MemoryState) → Knows calls declared (length s.memory.na) n s → CallStep s (call_at calls n) (after_call s (call_at calls n)) → is_failure (event_at calls n) ≡ false
    → Knows calls declared (length s.memory.na) (suc n) (after_call s (call_at calls n))
step_here calls declared n s k step fine =
    let m = s.memory in
    let i = thread_at calls n in
    let v = view_of s i in
    let c = choice_of_event (event_at calls n) in
    let o = step_result m v i (access_at calls n) c in
    let closed = all_at (IsClosedView m) s.views i step.there k.well_formed.closed in
    let b : Before calls n m v = record { view = k.views i step.there; memory = k.memory; well_formed = k.well_formed.well_formed; closed = closed } in
    let e : event_at calls n ≡ o.event = sym step.step.event in
    let after : Stepped calls (length m.na) n o = step_known calls n m v (access_at calls n) c b step.proper step.step.legal.admits refl fine e in
    let fresh : IsFresh calls n m = step_fresh calls n m v (access_at calls n) c step.step.legal.admits fine e in
    record {
      locations = (keep_locations m o.memory v o.view i (access_at calls n) c (event_at calls n) k.well_formed.well_formed closed step.proper (record { legal = step.step.legal; event = step.step.event; memory = refl; view = refl })).0;
      well_formed = well_formed_calls s (call_at calls n ∷ []) k.well_formed (step, tt);
      views = λ j l. elim (cases_eq j i) as (λ _. ViewsIn calls (length m.na) (suc n) j (get_or (set s.views i o.view) j no_view)) [
        | inl same ↦ subst (λ (x : ℕ). ViewsIn calls (length m.na) (suc n) x (get_or (set s.views i o.view) x no_view)) (sym same)
            (subst (ViewsIn calls (length m.na) (suc n) i) (sym (get_or-set_same s.views i o.view no_view step.there)) after.view)
        | inr ne ↦ (let there : j < length s.views = let len = length-set s.views i o.view in omega (arith, l, len) in
            let w = all_at (IsClosedView m) s.views j there k.well_formed.closed in
            subst (ViewsIn calls (length m.na) (suc n) j) (sym (get_or-set_other s.views i j o.view no_view ne))
            (others (HasSlot calls (length m.na)) (WroteVersion calls (length m.na)) calls n j (view_of s j) (λ q. ne (sym q))
            (closed_past calls n m (view_of s j).cur fresh w.cur) (closed_past calls n m (view_of s j).got fresh w.got) (closed_past calls n m (view_of s j).rel fresh w.rel) (k.views j there)))
      ];
      memory = after.memory;
      values = λ x l. value_step m v i x (access_at calls n) c l step.step.legal.admits
          ∙ ap (value_after x (location_in m x).value) step.step.event
          ∙ ap (λ (a : Val). value_after x a (event_at calls n)) (k.values x l);
    }

pub step_knows : (calls : List Call) (declared : ℕ → Val) (na n : ℕ) (s : MemoryState) → Knows calls declared na n s → CallStep s (call_at calls n) (after_call s (call_at calls n)) → is_failure (event_at calls n) ≡ false
    → Knows calls declared na (suc n) (after_call s (call_at calls n))
step_knows calls declared na n s k step fine =
    subst (λ (x : ℕ). Knows calls declared x (suc n) (after_call s (call_at calls n))) k.locations
    (step_here calls declared n s (subst (λ (x : ℕ). Knows calls declared x n s) (sym k.locations) k) step fine)

-- ---- the states of a history

-- the state before entry k, and its step
pub record At (calls : List Call) (declared : ℕ → Val) (na k : ℕ) : Type 0 where
  pub state : MemoryState
  pub knows : Knows calls declared na k state
  pub step : CallStep state (call_at calls k) (after_call state (call_at calls k))
  -- a failure is the last
  pub ending : is_failure (event_at calls k) ≡ true → length calls ≡ k + 1

-- nothing fails that is followed by another call
followed : (s : MemoryState) (c d : Call) (rest : List Call) → IsHistoryFrom s (c ∷ d ∷ rest) → is_failure c.event ≡ false
followed s c d rest h =
    let o = step_result s.memory (view_of s c.thread) c.thread c.access (choice_of_event c.event) in
    sym (failures_fail s.memory o.memory (view_of s c.thread) o.view c.thread c.access (choice_of_event c.event) c.event (record { legal = h.0.step.legal; event = h.0.step.event; memory = refl; view = refl }))
    ∙ h.1.0.step.legal.running

walk : (calls : List Call) (declared : ℕ → Val) (na n : ℕ) (rest : List Call) (s : MemoryState) → ((j : ℕ) → call_at calls (n + j) ≡ call_at rest j) → length calls ≡ n + length rest
    → Knows calls declared na n s → IsHistoryFrom s rest → (k : ℕ) → n ≤ k → k < length calls → At calls declared na k
walk calls declared na n [] s same len q h k l m = absurd (omega (arith, len, l, m))
walk calls declared na n (c ∷ []) s same len q h k l m =
    let here : call_at calls n ≡ c = ap (call_at calls) (omega arith) ∙ same 0 in
    let e : n ≡ k = omega (arith, len, l, m) in
    subst (At calls declared na) e (record { state = s; knows = q; step = subst (λ (x : Call). CallStep s x (after_call s x)) (sym here) h.0; ending = λ _. len })
walk calls declared na n (c ∷ d ∷ rest) s same len q h k l m =
    let here : call_at calls n ≡ c = ap (call_at calls) (omega arith) ∙ same 0 in
    let step = subst (λ (x : Call). CallStep s x (after_call s x)) (sym here) h.0 in
    let fine : is_failure (event_at calls n) ≡ false = ap (λ (x : Call). is_failure x.event) here ∙ followed s c d rest h in
    let next = subst (λ (x : Call). Knows calls declared na (suc n) (after_call s x)) here (step_knows calls declared na n s q step fine) in
    let deeper = λ (l : suc n ≤ k). walk calls declared na (suc n) (d ∷ rest) (after_call s c) (λ j. ap (call_at calls) (omega arith) ∙ same (suc j)) (omega (arith, len)) next h.1 k l m in
    elim (cases_eq n k) as (λ _. At calls declared na k) [
      | inl e ↦ subst (At calls declared na) e (record { state = s; knows = q; step = step; ending = λ fails. absurd (true≢false (sym fails ∙ fine)) })
      | inr ne ↦ deeper (omega (arith, l, ne))
    ]

-- ---- the first state

first_value : (na : List ℤ) (x : ℕ) → x < length na → (get_or (map (λ (n : ℤ). let c : Versioned = record { value = Def n; version = 0 } in c) na) x absent_location).value ≡ Def (get_or na x (pos 0))
first_value [] x l = absurd (omega (arith, l))
first_value (n ∷ na) zero l = refl
first_value (n ∷ na) (suc x) l = first_value na x (omega (arith, l))

first_version : (na : List ℤ) (x : ℕ) → (get_or (map (λ (n : ℤ). let c : Versioned = record { value = Def n; version = 0 } in c) na) x absent_location).version ≡ 0
first_version [] x = refl
first_version (n ∷ na) zero = refl
first_version (n ∷ na) (suc x) = first_version na x

first_messages : (P : TheMessage → Type 0) (locations y : ℕ) (atomic : List ℤ) → ((n : ℤ) → P (first_message locations n)) → AllByRecursion P (get_or (map (λ (n : ℤ). let h : Messages = first_message locations n ∷ [] in h) atomic) y [])
first_messages P locations y [] f = tt
first_messages P locations zero (n ∷ atomic) f = (f n, tt)
first_messages P locations (suc y) (n ∷ atomic) f = first_messages P locations y atomic f

none_cur : (calls : List Call) (i a : ℕ) → Cur calls 0 i a → ⊥
none_cur calls i a h = let l = h.before in omega (arith, l)

pub none_got : (calls : List Call) (i a : ℕ) → Got calls 0 i a → ⊥
none_got calls i a (inl h) = none_cur calls i a h
none_got calls i a (inr h) = let l = h.before in omega (arith, l)

none_carried : (calls : List Call) (i a : ℕ) → Carried calls 0 i a → ⊥
none_carried calls i a h = let l = h.last.before in omega (arith, l)

none_given : (calls : List Call) (stamp : Stamp) (a : ℕ) → Given calls 0 stamp a → ⊥
none_given calls stamp a h = let l = h.before in omega (arith, l)

abbrev pub declared_in : List ℤ → ℕ → Val
declared_in na x = Def (get_or na x (pos 0))

pub knows_first : (calls : List Call) (na atomic : List ℤ) (threads : ℕ) → Knows calls (declared_in na) (length na) 0 (initial_memory_state na atomic threads)
knows_first calls na atomic threads = record {
  locations = length-map na _;
  well_formed = initial_state_well_formed na atomic threads;
  views = λ i l. record {
    cur = nothing_known (HasSlot calls (length na)) (WroteVersion calls (length na)) (Cur calls 0 i) _ (none_cur calls i);
    got = nothing_known (HasSlot calls (length na)) (WroteVersion calls (length na)) (Got calls 0 i) _ (none_got calls i);
    rel = nothing_known (HasSlot calls (length na)) (WroteVersion calls (length na)) (Carried calls 0 i) _ (none_carried calls i);
  };
  memory = record {
    messages = λ y. first_messages (Fits calls (length na) 0 y) (length na + length atomic) y atomic (λ n. record {
      agrees = nothing_known (HasSlot calls (length na)) (WroteVersion calls (length na)) (Given calls 0 (record { location = y; to = 0 })) _ (none_given calls (record { location = y; to = 0 }));
      own = (let z = get_or-zeros (length na + length atomic) (length na + y) in omega (arith, z));
    });
    there = λ w i l q. absurd (omega (arith, l));
    versions = λ a x t l q. absurd (omega (arith, l));
    last = λ x l. inl (first_version na x);
  };
  values = λ x l. first_value na x l;
}

-- each entry of a history is a step from a state of which all this holds
pub known_at : (na atomic : List ℤ) (threads : ℕ) (calls : List Call) → MemHistory na atomic threads calls → (k : ℕ) → k < length calls → At calls (declared_in na) (length na) k
known_at na atomic threads calls h k l =
    walk calls (declared_in na) (length na) 0 calls (initial_memory_state na atomic threads) (λ j. ap (call_at calls) (omega arith)) (omega arith) (knows_first calls na atomic threads) h k (omega arith) l
