-- What holds of two related memories.
use Rattle.std.specs.Prelude.{if◌then◌else◌, ◌==◌, ◌≡◌, ℕ, ℤ, ◌<◌, true, false, List, length, Some, None, ◌⊎◌, ◌+◌}
use Rattle.values_undef.specs.Value.{IsBelow}
use Rattle.values_undef.specs.declared.value.Val.{Val}
use Rattle.values_undef.specs.Access.{releases}
use Rattle.values_undef.specs.declared.access.Order.{Order}
use Rattle.values_undef.specs.declared.access.Access.{Access}
use Rattle.values_undef.specs.declared.access.Access.TheVariants.{NaRead, NaWrite, Fence, Print, Fail, Finish, Spend}
use Rattle.values_undef.specs.declared.access.Choice.{Choice}
use Rattle.values_undef.specs.declared.access.Choice.TheVariants.{Plain}
use Rattle.views.specs.ThreadView.{ThreadView, zero_view}
use Rattle.message_memory.specs.Memory.{Memory, IsClosedView, initial_memory}
use Rattle.message_memory.specs.Step.{IsLegal, IsProper, step_result, is_racy, releases_by, read_value}
use Rattle.message_memory.specs.Candidates.{IsAtomic}
use Rattle.memory_relation.specs.Relation.{Pairing, owner, hides, HidesNothing, AreMemoriesRelated, AreViewsRelated, GoesOn, next, settle, hide, opening_pairing}
use Rattle.values_undef.specs.Matching.{IsAccessBelow, without_place}
use Rattle.memory_relation.specs.Answering.{IsFailed, IsMatch, IsAnswered, choice_for}

-- an atomic access of the target is answered by the source's, if a release hides nothing
abbrev pub AtomicAccessesAreAnswered : Type 0
AtomicAccessesAreAnswered = (p : Pairing) (i : ℕ) (t s : Memory) (v w : ThreadView) (a b : Access) (c : Choice)
    → AreMemoriesRelated p t s → AreViewsRelated p i t s v w → IsAccessBelow a b → IsAtomic a → IsProper t a → IsLegal t v a c → (releases_by a ≡ true → HidesNothing p i)
    → IsAnswered p p i t s v w a b c

-- the access is none to a location
abbrev pub IsPlain : Access → Type 0
IsPlain (Print n) = Unit {0}
IsPlain (Fail cause) = Unit {0}
IsPlain Finish = Unit {0}
IsPlain Spend = Unit {0}
IsPlain _ = ⊥

-- an output, an end and a failure are answered
abbrev pub PlainAccessesAreAnswered : Type 0
PlainAccessesAreAnswered = (p : Pairing) (i : ℕ) (t s : Memory) (v w : ThreadView) (a b : Access)
    → AreMemoriesRelated p t s → AreViewsRelated p i t s v w → IsAccessBelow a b → IsPlain a → IsAnswered p p i t s v w a b Plain

-- a fence is answered, if a release hides nothing
abbrev pub FencesAreAnswered : Type 0
FencesAreAnswered = (p : Pairing) (i : ℕ) (t s : Memory) (v w : ThreadView) (order : Order) → AreMemoriesRelated p t s → AreViewsRelated p i t s v w → (releases order ≡ true → HidesNothing p i)
    → IsAnswered p p i t s v w (Fence order) (Fence order) Plain

-- the source's choice is the target's where that is legal, and else the message alone
abbrev pub ChoicesAreFound : Type 0
ChoicesAreFound = (s : Memory) (w : ThreadView) (b : Access) (c : Choice) → IsLegal s w b (choice_for s b c)
    → (IsLegal s w b c → choice_for s b c ≡ c) × ((IsLegal s w b c → ⊥) → choice_for s b c ≡ without_place c)

-- what the target reads is below what the source reads, if the thread has the location not pending
abbrev pub ReadsAreBelow : Type 0
ReadsAreBelow = (p : Pairing) (i : ℕ) (t s : Memory) (v w : ThreadView) (x : ℕ) → AreMemoriesRelated p t s → AreViewsRelated p i t s v w → x < length p.maps → hides p i x ≡ false
    → IsBelow (read_value t v x) (read_value s w x)

abbrev pub LoadsAreAnswered : Type 0
LoadsAreAnswered = (p : Pairing) (i : ℕ) (t s : Memory) (v w : ThreadView) (x : ℕ) → AreMemoriesRelated p t s → AreViewsRelated p i t s v w → x < length p.maps → hides p i x ≡ false
    → IsAnswered p p i t s v w (NaRead x) (NaRead x) Plain

-- a store is answered, whoever has the location pending; after it nobody has
abbrev pub StoresAreAnswered : Type 0
StoresAreAnswered = (p : Pairing) (i : ℕ) (t s : Memory) (v w : ThreadView) (x : ℕ) (a b : Val) → AreMemoriesRelated p t s → AreViewsRelated p i t s v w → IsClosedView t v → x < length p.maps → IsBelow a b
    → IsAnswered p (settle p x (next s x)) i t s v w (NaWrite x a) (NaWrite x b) Plain

-- nobody has the location pending, and the target's store is no race: nor is the source's
abbrev pub StoresAreRelated : Type 0
StoresAreRelated = (p : Pairing) (i : ℕ) (t s : Memory) (v w : ThreadView) (x : ℕ) (a b : Val) → AreMemoriesRelated p t s → AreViewsRelated p i t s v w → IsClosedView t v → x < length p.maps → IsBelow a b
    → owner p x ≡ None → is_racy t v x ≡ false → IsMatch p (settle p x (next s x)) i t s (step_result t v i (NaWrite x a) Plain) (step_result s w i (NaWrite x b) Plain)

-- the thread itself has the location pending: its store settles it
abbrev pub StoresSettle : Type 0
StoresSettle = (p : Pairing) (i : ℕ) (t s : Memory) (v w : ThreadView) (x : ℕ) (a b : Val) → AreMemoriesRelated p t s → AreViewsRelated p i t s v w → IsClosedView t v → x < length p.maps → IsBelow a b
    → owner p x ≡ Some i → IsMatch p (settle p x (next s x)) i t s (step_result t v i (NaWrite x a) Plain) (step_result s w i (NaWrite x b) Plain)

-- another thread has the location pending: the source's store is a race
abbrev pub StoresAreBlocked : Type 0
StoresAreBlocked = (p : Pairing) (i j : ℕ) (t s : Memory) (v w : ThreadView) (x : ℕ) (b : Val) → AreMemoriesRelated p t s → AreViewsRelated p i t s v w → x < length p.maps
    → owner p x ≡ Some j → (j ≡ i → ⊥) → IsFailed (step_result s w i (NaWrite x b) Plain)

-- a store of the source alone fails, or leaves the location pending
abbrev pub StoresAreRemoved : Type 0
StoresAreRemoved = (p : Pairing) (i : ℕ) (t s : Memory) (v w : ThreadView) (x : ℕ) (b : Val) → AreMemoriesRelated p t s → AreViewsRelated p i t s v w → IsClosedView t v → x < length p.maps
    → IsFailed (step_result s w i (NaWrite x b) Plain)
    ⊎ GoesOn p (hide p x i) i t s t (step_result s w i (NaWrite x b) Plain).memory v (step_result s w i (NaWrite x b) Plain).view

-- one declared memory is related to itself, and so are the views that have seen nothing
abbrev pub OpeningsAreRelated : Type 0
OpeningsAreRelated = (na atomic : List ℤ) (i : ℕ)
    → AreMemoriesRelated (opening_pairing (length na)) (initial_memory na atomic) (initial_memory na atomic)
    × AreViewsRelated (opening_pairing (length na)) i (initial_memory na atomic) (initial_memory na atomic) (zero_view (length na + length atomic)) (zero_view (length na + length atomic))

-- what a thread has pending after a store on both sides, and after one of thread i in the source alone
pub record PendingFollows : Type 0 where
  pub settled : (p : Pairing) (x n j z : ℕ) → x < length p.owners → hides (settle p x n) j z ≡ (if z == x then false else hides p j z)
  pub hidden : (p : Pairing) (x i j z : ℕ) → x < length p.owners → hides (hide p x i) j z ≡ (if z == x then i == j else hides p j z)
  pub opening : (n i x : ℕ) → hides (opening_pairing n) i x ≡ false
