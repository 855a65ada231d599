-- The slot's value keeps its calls.
use Rattle.std.proofs.Common.{◌≡◌, ℕ, zero, suc, ◌+◌, ◌*◌, ◌-◌, ◌<◌, ◌≤◌, true, List, [], ◌∷◌, ◌++◌, length, map, ℤ, refl, sym, ap, ◌∙◌, subst, arith, length-append, mul-le-mul_right, get_or, get_or-set_same}
use Rattle.values_undef.specs.declared.access.Access.{Access}
use Rattle.values_undef.specs.declared.access.Choice.{Choice}
use Rattle.values_undef.specs.declared.access.Event.{Event}
use Rattle.values_undef.specs.declared.journal.Entry.{Entry}
use Rattle.views.specs.ThreadView.{ThreadView, no_view}
use Rattle.message_memory.specs.declared.history.Call.{Call}
use Rattle.message_memory.specs.Memory.{Memory, messages, last_to, IsClosedView, HasSmallTimestamps}
use Rattle.message_memory.specs.Step.{IsProper, MemStep, VersionFits}
use Rattle.message_memory.specs.Candidates.{IsAtomic, IsCandidate}
use Rattle.message_memory.specs.History.{MemoryState, view_of, with_view, CallStep, memory_state_after, entries_of}
use Rattle.message_memory.proofs.Callers.{stay_near, call_made, histories_go_on, step_choice, failed_ends}
use Rattle.chooser.specs.Chosen.{IsChosen, chooser_after}
use Rattle.shared_memory.specs.declared.params.SharedParams.{SharedParams}
use Rattle.shared_memory.specs.Slot.{first_state, first_memory, IsHistory, memory_with, view_with, call_of, calls_from, IsSmall, IsKept}
use Rattle.shared_memory.specs.Answers.{FailsAt, IsDone}
use Rattle.shared_memory.proofs.Histories.{threads_with, closed_with, proper_with, fits_with, well_formed_with, fails_at}

pub length-calls_from : (es : List Entry) (rs : List Access) → length es ≡ length rs → length (calls_from es rs) ≡ length es
length-calls_from [] rs e = refl
length-calls_from (x ∷ es) [] e = absurd (omega arith)
length-calls_from (x ∷ es) (r ∷ rs) e = ap suc (length-calls_from es rs (omega arith))

pub calls_from-push : (es : List Entry) (rs : List Access) (e : Entry) (r : Access) → length es ≡ length rs → calls_from (es ++ e ∷ []) (rs ++ r ∷ []) ≡ calls_from es rs ++ call_of e.thread e.silent r e.event ∷ []
calls_from-push [] [] e r same = refl
calls_from-push [] (q ∷ rs) e r same = absurd (omega arith)
calls_from-push (x ∷ es) [] e r same = absurd (omega arith)
calls_from-push (x ∷ es) (q ∷ rs) e r same = ap (λ l. call_of x.thread x.silent q x.event ∷ l) (calls_from-push es rs e r (omega arith))

pub entries_from : (es : List Entry) (rs : List Access) → length es ≡ length rs → entries_of (calls_from es rs) ≡ es
entries_from [] rs e = refl
entries_from (x ∷ es) [] e = absurd (omega arith)
entries_from (x ∷ es) (r ∷ rs) e = ap (λ l. x ∷ l) (entries_from es rs (omega arith))

module _ (memory : Memory) (spare : ℕ) (params : SharedParams) (es : List Entry) (rs : List Access) (capacity access_capacity : ℕ) (k : IsKept memory spare params es rs capacity access_capacity) where
  abbrev h : List Call
  h = calls_from es rs

  -- how many calls there may be, in numbers
  few : length h < params.threads * params.share → length es < 262160
  few less =
      let small = k.small in
      let a : params.threads * params.share ≤ 16 * params.share = mul-le-mul_right params.share small.threads in
      let b = small.share in
      let n = length-calls_from es rs k.alike in omega arith

  pub fits : length h < params.threads * params.share → length es < capacity
  fits less = let n = length-calls_from es rs k.alike in let r = k.journal_room in omega arith

  pub access_fits : length h < params.threads * params.share → length rs < access_capacity
  access_fits less = let n = length-calls_from es rs k.alike in let e = k.alike in let r = k.access_room in omega arith

  pub spare_left : length h < params.threads * params.share → 1 ≤ spare
  spare_left less = let n = length-calls_from es rs k.alike in let r = k.room in omega arith

  pub small_stamps : length h < params.threads * params.share → HasSmallTimestamps memory
  small_stamps less y lt = let f = few less in let l = k.low y in omega arith

  pub version_fits : (a : Access) → length h < params.threads * params.share → IsProper (first_memory params) a → VersionFits memory a
  version_fits a less p = subst (λ (m : Memory). VersionFits m a) (sym k.memory_is) (fits_with params h k.history a (let f = few less in let n = length-calls_from es rs k.alike in omega arith) p)

  pub view_closed : (view : ThreadView) (thread : ℕ) → thread < params.threads → view ≡ view_with params h thread → IsClosedView memory view
  view_closed view thread lt is = subst (λ (x : Memory × ThreadView). IsClosedView x.0 x.1) (λ i. (sym k.memory_is i, sym is i)) (closed_with params h k.history thread lt)

  pub is_proper : (a : Access) → IsProper (first_memory params) a → IsProper memory a
  is_proper a p = subst (λ (m : Memory). IsProper m a) (sym k.memory_is) (proper_with params h k.history a p)

  pub fails_last : memory.failed ≡ true → FailsAt h (length es - 1)
  fails_last failed =
      let e = failed_ends (first_state params) h k.history refl (ap (λ (x : Memory). x.failed) (sym k.memory_is) ∙ failed) in
      let n : length h ≡ length es = length-calls_from es rs k.alike in
      let m : length h ≡ length e.before + 1 = ap length e.whole ∙ length-append e.before (e.last ∷ []) in
      fails_at h e (length es - 1) (omega arith)

  pub some_call : memory.failed ≡ true → 1 ≤ length es
  some_call failed = let f = fails_last failed in let n = length-calls_from es rs k.alike in let g = f.last in omega arith

  module _ (thread silent : ℕ) (view view' : ThreadView) (a : Access) (choice : Choice) (event : Event) (memory' : Memory) (lt : thread < params.threads) (is : view ≡ view_with params h thread) (proper : IsProper (first_memory params) a)
      (may : MemStep memory view thread a choice event memory' view') where
    abbrev c : Call
    c = call_of thread silent a event

    abbrev s : MemoryState
    s = memory_state_after (first_state params) h

    -- the call is a step of the state after the others
    made : CallStep s c (with_view s thread memory' view')
    made = call_made s thread silent view a choice event memory' view' (let n = threads_with params h k.history in omega arith) (proper_with params h k.history a proper) is
        (subst (λ (m : Memory). MemStep m view thread a choice event memory' view') k.memory_is may)

    pub history_after : IsHistory params (h ++ c ∷ [])
    history_after = (histories_go_on (first_state params) (with_view s thread memory' view') h c k.history made).0

    state_is : memory_state_after (first_state params) (h ++ c ∷ []) ≡ with_view s thread memory' view'
    state_is = (histories_go_on (first_state params) (with_view s thread memory' view') h c k.history made).1

    pub view_after_call : view_with params (h ++ c ∷ []) thread ≡ view'
    view_after_call = ap (λ (t : MemoryState). view_of t thread) state_is ∙ get_or-set_same s.views thread view' no_view (let n = threads_with params h k.history in omega arith)

    pub kept_after : (spare' : ℕ) (e : Entry) (es' : List Entry) (rs' : List Access) (capacity' access_capacity' : ℕ) → (IsAtomic a → IsCandidate memory view a choice) → spare ≤ spare' + 1
        → e ≡ record { thread = thread; silent = silent; event = event } → es' ≡ es ++ e ∷ [] → rs' ≡ rs ++ a ∷ [] → capacity' ≡ capacity → access_capacity' ≡ access_capacity → IsKept memory' spare' params es' rs' capacity' access_capacity'
    kept_after spare' e es' rs' capacity' access_capacity' candidate less entry longer more same access_same =
        let whole : calls_from es' rs' ≡ h ++ c ∷ [] = (λ i. calls_from (longer i) (more i)) ∙ (calls_from-push es rs e a k.alike ∙ ap (λ (x : Entry). h ++ call_of x.thread x.silent a x.event ∷ []) entry) in
        let n : length es' ≡ length es + 1 = ap length longer ∙ length-append es (e ∷ []) in
        let m : length rs' ≡ length rs + 1 = ap length more ∙ length-append rs (a ∷ []) in
        let alike = k.alike in
        let room = k.room in let journal_room = k.journal_room in let access_room = k.access_room in record {
          small = k.small;
          alike = omega arith;
          history = subst (IsHistory params) (sym whole) history_after;
          memory_is = ap (λ (t : MemoryState). t.memory) (sym state_is) ∙ ap (memory_with params) (sym whole);
          low = λ y.
              let near = stay_near memory memory' view view' thread y a choice event (subst (λ (x : Memory). Rattle.message_memory.specs.Memory.IsWellFormedMemory x) (sym k.memory_is) (well_formed_with params h k.history).well_formed) (view_closed view thread lt is) (is_proper a proper) candidate may in
              let l = k.low y in omega arith;
          room = omega arith;
          journal_room = omega arith;
          access_room = omega arith;
        }

    -- what the call answers
    pub done_after : {C : Type 0} (ask : C → ℕ → ℕ → ℕ) (go : C → ℕ → ℕ → C) (ch ch' : C) (es' : List Entry) (rs' : List Access) (e : Entry)
        → e ≡ record { thread = thread; silent = silent; event = event } → es' ≡ es ++ e ∷ [] → rs' ≡ rs ++ a ∷ []
        → IsChosen ask memory view a ch thread choice → ch' ≡ chooser_after go memory view a ch thread
        → IsDone ask go params h thread silent a ch event (calls_from es' rs') view view' ch'
    done_after ask go ch ch' es' rs' e entry longer more chosen chooser =
        let whole : calls_from es' rs' ≡ h ++ c ∷ [] = (λ i. calls_from (longer i) (more i)) ∙ (calls_from-push es rs e a k.alike ∙ ap (λ (x : Entry). h ++ call_of x.thread x.silent a x.event ∷ []) entry) in record {
          calls = whole;
          history = subst (IsHistory params) (sym whole) history_after;
          chosen = subst (λ (x : Memory × Choice). IsChosen ask x.0 view a ch thread x.1) (λ i. (k.memory_is i, sym (step_choice may) i)) chosen;
          view_is = sym view_after_call ∙ ap (λ (l : List Call). view_with params l thread) (sym whole);
          chooser_is = chooser ∙ ap (λ (m : Memory). chooser_after go m view a ch thread) k.memory_is;
        }

-- ---- a memory on which no call was made

none_last : (atomic : List ℤ) (n y : ℕ) → last_to (get_or (map (λ v. Rattle.message_memory.specs.Memory.first_message n v ∷ []) atomic) y []) ≡ 0
none_last [] n y = refl
none_last (v ∷ atomic) n zero = refl
none_last (v ∷ atomic) n (suc y) = none_last atomic n y

pub kept_new : (memory : Memory) (spare : ℕ) (params : SharedParams) (capacity access_capacity : ℕ) → IsSmall params → memory ≡ first_memory params → params.threads * params.share ≤ spare
    → params.threads * params.share ≤ capacity → params.threads * params.share ≤ access_capacity → IsKept memory spare params [] [] capacity access_capacity
kept_new memory spare params capacity access_capacity small is room journal_room access_room = record {
  small = small;
  alike = refl;
  history = tt;
  memory_is = is;
  low = λ y. let e = ap (λ (m : Memory). last_to (messages m y)) is in let z = none_last params.atomic (length params.na + length params.atomic) y in omega arith;
  room = omega arith;
  journal_room = journal_room;
  access_room = access_room;
}

pub kept_new_at : (memory : Memory) (spare : ℕ) (params : SharedParams) (es : List Entry) (rs : List Access) (capacity access_capacity : ℕ) → es ≡ [] → rs ≡ [] → IsSmall params → memory ≡ first_memory params → params.threads * params.share ≤ spare
    → params.threads * params.share ≤ capacity → params.threads * params.share ≤ access_capacity → IsKept memory spare params es rs capacity access_capacity
kept_new_at memory spare params es rs capacity access_capacity e r small is room journal_room access_room =
    subst (λ (x : List Entry × List Access). IsKept memory spare params x.0 x.1 capacity access_capacity) (λ i. (sym e i, sym r i)) (kept_new memory spare params capacity access_capacity small is room journal_room access_room)
