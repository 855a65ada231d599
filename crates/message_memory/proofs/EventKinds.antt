-- The kind of an event is that of its access.
use Rattle.std.proofs.Common.{◌≡◌, ℕ, ◌+◌, ◌<◌, Bool, true, false, length, refl, sym, ap, ◌∙◌, subst, ⊎_elim, inl, inr}
use Rattle.std.proofs.lemmas.Bool.{cond_both, cond-true, cases_Bool, both_ways}
use Rattle.std.proofs.lemmas.List.{get_or-set_same}
use Rattle.values_undef.specs.Access.{is_failure, leaves_choice}
use Rattle.values_undef.specs.declared.value.Val.{Val}
use Rattle.values_undef.specs.declared.access.Access.{Access}
use Rattle.values_undef.specs.declared.access.Access.TheVariants.{NaRead, NaWrite, Read, Write, Update, Fence, Print, Fail, Finish, Spend}
use Rattle.values_undef.specs.declared.access.Choice.{Choice}
use Rattle.values_undef.specs.declared.access.Choice.TheVariants.{Plain, Message, Place, Take}
use Rattle.values_undef.specs.declared.access.Event.{Event}
use Rattle.values_undef.specs.declared.access.Event.TheVariants as event
use Rattle.views.specs.ThreadView.{ThreadView}
use Rattle.message_memory.specs.declared.message.Versioned.{Versioned}
use Rattle.message_memory.specs.Memory.{Memory, location_in, absent_location}
use Rattle.message_memory.specs.Step.{AdmitsChoice, StepResult, step_result, MemStep, is_racy, meets_undef, read_at}
use Rattle.message_memory.specs.EventLaws.{IsOfKind, EventsAreOfTheirKind, StoresAreOneHigher, ProperByLocations, AtomicAccessesLeaveChoices}
use Rattle.message_memory.specs.Candidates.{IsAtomic}
use Rattle.message_memory.proofs.Alone.{store_made}

kind_of : (m : Memory) (v : ThreadView) (i : ℕ) (a : Access) (c : Choice) → AdmitsChoice m v a c → IsOfKind a (step_result m v i a c).event
kind_of m v i (NaRead x) Plain h = record { load = refl; atomic = refl; ends = refl; spends = refl }
kind_of m v i (NaWrite x n) Plain h =
    cond_both (is_racy m v x) _ _ (λ (o : StepResult). IsOfKind (NaWrite x n) o.event)
    (λ _. record { load = refl; atomic = refl; ends = refl; spends = refl })
    (λ _. record { load = refl; atomic = refl; ends = refl; spends = refl })
kind_of m v i (Read y order) (Message to) h = record { load = refl; atomic = refl; ends = refl; spends = refl }
kind_of m v i (Write y order n) (Place from to) h = record { load = refl; atomic = refl; ends = refl; spends = refl }
kind_of m v i (Update y order kind) (Message to) h =
    cond_both (meets_undef kind (read_at m y to).value) _ _ (λ (o : StepResult). IsOfKind (Update y order kind) o.event)
    (λ _. record { load = refl; atomic = refl; ends = refl; spends = refl })
    (λ _. record { load = refl; atomic = refl; ends = refl; spends = refl })
kind_of m v i (Update y order kind) (Take read to) h = record { load = refl; atomic = refl; ends = refl; spends = refl }
kind_of m v i (Fence order) Plain h = record { load = refl; atomic = refl; ends = refl; spends = refl }
kind_of m v i (Print n) Plain h = record { load = refl; atomic = refl; ends = refl; spends = refl }
kind_of m v i (Fail cause) Plain h = record { load = refl; atomic = refl; ends = refl; spends = refl }
kind_of m v i Finish Plain h = record { load = refl; atomic = refl; ends = refl; spends = refl }
kind_of m v i Spend Plain h = record { load = refl; atomic = refl; ends = refl; spends = refl }
kind_of m v i _ _ h = absurd h

pub events_of_kind : EventsAreOfTheirKind
events_of_kind m m' v v' i a c e step = subst (IsOfKind a) step.event (kind_of m v i a c step.legal.admits)

-- ---- stores

racy_fails : (m : Memory) (v : ThreadView) (i x : ℕ) (n : Val) → is_racy m v x ≡ true → is_failure (step_result m v i (NaWrite x n) Plain).event ≡ true
racy_fails m v i x n b = ap (λ (o : StepResult). is_failure o.event) (cond-true (is_racy m v x) _ _ b)

store_by : (m m' : Memory) (v v' : ThreadView) (i x : ℕ) (n : Val) (c : Choice) (e : Event) → x < length m.na → AdmitsChoice m v (NaWrite x n) c → MemStep m v i (NaWrite x n) c e m' v' → is_failure e ≡ false
    → (e ≡ event.NaWrite x n ((location_in m x).version + 1)) × (location_in m' x ≡ record { value = n; version = (location_in m x).version + 1 })
store_by m m' v v' i x n Plain e p h step runs =
    ⊎_elim
    (λ (b : is_racy m v x ≡ true). absurd (both_ways _ (ap is_failure step.event ∙ runs) (racy_fails m v i x n b)))
    (λ (b : is_racy m v x ≡ false).
    let made = store_made m v i x n b in
    let new : Versioned = record { value = n; version = (location_in m x).version + 1 } in (
      sym step.event ∙ ap (λ (o : StepResult). o.event) made,
      ap (λ (k : Memory). location_in k x) (sym step.memory) ∙ ap (λ (o : StepResult). location_in o.memory x) made ∙ get_or-set_same m.na x new absent_location p,
    ))
    (cases_Bool (is_racy m v x))
store_by m m' v v' i x n _ e p h step runs = absurd h

pub stores_one_higher : StoresAreOneHigher
stores_one_higher m m' v v' i x n c e p step runs = store_by m m' v v' i x n c e p step.legal.admits step runs

-- ---- proper accesses

pub proper_same : ProperByLocations
proper_same m n (NaRead x) na atomic p = subst (λ (k : ℕ). x < k) (sym na) p
proper_same m n (NaWrite x v) na atomic p = subst (λ (k : ℕ). x < k) (sym na) p
proper_same m n (Read y order) na atomic p = (subst (λ (k : ℕ). y < k) (sym atomic) p.0, p.1)
proper_same m n (Write y order v) na atomic p = (subst (λ (k : ℕ). y < k) (sym atomic) p.0, p.1)
proper_same m n (Update y order kind) na atomic p = subst (λ (k : ℕ). y < k) (sym atomic) p
proper_same m n (Fence order) na atomic p = p
proper_same m n (Print v) na atomic p = tt
proper_same m n (Fail cause) na atomic p = tt
proper_same m n Finish na atomic p = tt
proper_same m n Spend na atomic p = tt

-- ---- atomic accesses

pub leaves_atomic : (a : Access) → leaves_choice a ≡ true → IsAtomic a
leaves_atomic a e = subst (λ (b : Bool). elim b as (λ _. Type 0) [ true ↦ Unit {0} | false ↦ ⊥ ]) (sym e) tt

pub plain_leaves : (a : Access) → leaves_choice a ≡ false → IsAtomic a → ⊥
plain_leaves a e h = subst (λ (b : Bool). elim b as (λ _. Type 0) [ true ↦ Unit {0} | false ↦ ⊥ ]) e h

pub atomic_leaves : (a : Access) → IsAtomic a → leaves_choice a ≡ true
atomic_leaves a h = elim (cases_Bool (leaves_choice a)) [ inl e ↦ e | inr e ↦ absurd (plain_leaves a e h) ]

pub atomic_exactly : AtomicAccessesLeaveChoices
atomic_exactly a = (atomic_leaves a, leaves_atomic a)
