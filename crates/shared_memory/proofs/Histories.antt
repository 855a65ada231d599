-- What a history tells of the memory after it: its locations and views, and that it has failed by its last call alone.
use Rattle.std.proofs.Common.{◌≡◌, ℕ, ℤ, zero, suc, ◌+◌, ◌-◌, ◌^◌, ◌<◌, List, [], ◌∷◌, length, refl, sym, ap, ◌∙◌, subst, arith, length-append, map, Some, slice_get}
use Rattle.std.specs.Prelude.{slice_index_or}
use Rattle.values_undef.specs.declared.value.Val.TheVariants.{Def}
use Rattle.message_memory.specs.declared.message.Versioned.{Versioned}
use Rattle.std.proofs.lemmas.List.{length-replicate}
use Rattle.values_undef.specs.declared.access.Access.{Access}
use Rattle.values_undef.specs.declared.access.Access.TheVariants.{NaRead, NaWrite, Read, Write, Update, Fence, Print, Fail, Finish, Spend}
use Rattle.views.specs.ThreadView.{zero_view}
use Rattle.message_memory.specs.declared.history.Call.{Call}
use Rattle.message_memory.specs.Memory.{location_in, absent_location, IsClosedView}
use Rattle.message_memory.specs.Step.{IsProper, VersionFits}
use Rattle.message_memory.specs.History.{MemoryState, view_of, memory_state_after, IsWellFormedState, calls_by}
use Rattle.message_memory.specs.HistoryLaws.{EndsInFailure}
use Rattle.message_memory.proofs.Callers.{views_many, locations_many, failed_ends, none_between, proper_same, views_wait, versions_few, well_formed_calls, initial_state_well_formed, state_after-append, all_at}
use Rattle.shared_memory.specs.declared.params.SharedParams.{SharedParams}
use Rattle.shared_memory.specs.Slot.{first_state, first_memory, IsHistory, memory_with, view_with}
use Rattle.shared_memory.specs.Answers.{FailsAt}
use Rattle.shared_memory.specs.Laws.{FailedMemoriesEnd, ViewsWait}
use Rattle.shared_memory.proofs.Calls.{get_last}

pub fails_at : (h : List Call) → EndsInFailure h → (place : ℕ) → place + 1 ≡ length h → FailsAt h place
fails_at h e place is =
    let m : length h ≡ length e.before + 1 = ap length e.whole ∙ length-append e.before (e.last ∷ []) in
    let at : length e.before ≡ place = omega arith in
    record { call = e.last; found = subst (λ (x : List Call × ℕ). slice_get x.0 x.1 ≡ Some e.last) (λ i. (sym e.whole i, at i)) (get_last e.before e.last); failure = e.failure; last = is }

pub failed_memories_end : FailedMemoriesEnd
failed_memories_end params h legal failed =
    let e = failed_ends (first_state params) h legal refl failed in
    let m : length h ≡ length e.before + 1 = ap length e.whole ∙ length-append e.before (e.last ∷ []) in
    fails_at h e (length h - 1) (omega arith)

-- ---- a history of a shared memory

module _ (params : SharedParams) (h : List Call) (legal : IsHistory params h) where
  abbrev s : MemoryState
  s = first_state params

  pub well_formed_with : IsWellFormedState (memory_state_after s h)
  well_formed_with = well_formed_calls s h (initial_state_well_formed params.na params.atomic params.threads) legal

  pub threads_with : length (memory_state_after s h).views ≡ params.threads
  threads_with = views_many s h ∙ length-replicate params.threads (zero_view (length params.na + length params.atomic))

  pub closed_with : (i : ℕ) → i < params.threads → IsClosedView (memory_with params h) (view_with params h i)
  closed_with i lt = all_at (IsClosedView (memory_with params h)) (memory_state_after s h).views i (let n = threads_with in omega arith) well_formed_with.closed

  pub proper_with : (a : Access) → IsProper (first_memory params) a → IsProper (memory_with params h) a
  proper_with a p = let l = locations_many s h (initial_state_well_formed params.na params.atomic params.threads) legal in proper_same (memory_with params h) (first_memory params) a l.0 l.1 p

  -- versions are few, so there is a number for a further one
  pub fits_with : (a : Access) → length h < 2 ^ 60 → IsProper (first_memory params) a → VersionFits (memory_with params h) a
  fits_with (NaRead x) few p = tt
  fits_with (NaWrite x v) few p =
      let n = versions_few s h x legal in
      let z = first_version x in omega arith
    where
      first_version : (x : ℕ) → (location_in (first_memory params) x).version ≡ 0
      first_version x = zero_at params.na x
        where
          zero_at : (na : List ℤ) (x : ℕ) → (slice_index_or (map (λ n. let l : Versioned = record { value = Def n; version = 0 } in l) na) x absent_location).version ≡ 0
          zero_at [] x = refl
          zero_at (n ∷ na) zero = refl
          zero_at (n ∷ na) (suc x) = zero_at na x
  fits_with (Read y order) few p = tt
  fits_with (Write y order v) few p = tt
  fits_with (Update y order kind) few p = tt
  fits_with (Fence order) few p = tt
  fits_with (Print v) few p = tt
  fits_with (Fail cause) few p = tt
  fits_with Finish few p = tt
  fits_with Spend few p = tt

-- the calls of others leave the view of a thread
pub view_stays : ViewsWait
view_stays params h i seen begins own =
    let s : MemoryState = first_state params in
    let between : List Call = begins.0 in
    let none : calls_by i between ≡ [] = none_between i seen between (own ∙ ap (calls_by i) (sym begins.1)) in
    sym (views_wait (memory_state_after s seen) between i none) ∙ (ap (λ (t : MemoryState). view_of t i) (sym (state_after-append s seen between)) ∙ ap (λ (l : List Call). view_with params l i) begins.1)
