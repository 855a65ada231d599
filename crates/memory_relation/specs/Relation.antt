-- The memories of a target and of its source. Each non-atomic location has a map from the versions of the target to those of the source. A store of the source that the target leaves out leaves the location pending: its thread, the owner, alone knows of it.
use Rattle.std.specs.Prelude.{◌≡◌, ℕ, ◌+◌, ◌<◌, ◌==◌, Bool, true, false, List, [], ◌∷◌, length, replicate, slice_index, slice_index_or, slice_set, Option, Some, None}
use Rattle.std.specs.List.{AllZip}
use Rattle.values_undef.specs.Value.{IsBelow}
use Rattle.views.specs.ThreadView.{ThreadView}
use Rattle.memory_relation.specs.Images.{IsRising, map_at, IsImageBut, IsImage, with_number}
use Rattle.message_memory.specs.declared.message.Message.{Message}
use Rattle.message_memory.specs.declared.message.Versioned.{Versioned}
use Rattle.message_memory.specs.Memory.{Memory, messages, location_in}
use Rattle.message_memory.specs.Step.{reach, carried}

-- for each non-atomic location its map and its owner
pub record Pairing : Type 0 where
  pub maps : List (List ℕ)
  pub owners : List (Option ℕ)

abbrev pub owner : Pairing → ℕ → Option ℕ
owner p x = slice_index_or p.owners x None

abbrev pub is_thread : ℕ → Option ℕ → Bool
is_thread i None = false
is_thread i (Some j) = j == i

-- the thread has the location pending
abbrev pub hides : Pairing → ℕ → ℕ → Bool
hides p i x = is_thread i (owner p x)

-- the thread has nothing pending
abbrev pub HidesNothing : Pairing → ℕ → Type 0
HidesNothing p i = (x : ℕ) → x < length p.maps → hides p i x ≡ false

-- a location of the target and of the source
pub record AreCellsRelated (m : List ℕ) (o : Option ℕ) (t s : Versioned) : Type 0 where
  pub rising : IsRising m
  pub places : length m ≡ t.version + 1
  pub settled : o ≡ None → slice_index m t.version ≡ s.version
  pub value : o ≡ None → IsBelow t.value s.value
  pub hidden : (j : ℕ) → o ≡ Some j → slice_index m t.version < s.version

pub record AreMessagesRelated (maps : List (List ℕ)) (a b : Message) : Type 0 where
  pub from : b.from ≡ a.from
  pub to : b.to ≡ a.to
  pub value : IsBelow a.value b.value
  pub times : IsImage maps a.times b.times

pub record AreMemoriesRelated (p : Pairing) (t s : Memory) : Type 0 where
  pub target_places : length t.na ≡ length p.maps
  pub source_places : length s.na ≡ length p.maps
  pub owner_places : length p.owners ≡ length p.maps
  pub cells : (x : ℕ) → x < length p.maps → AreCellsRelated (map_at p.maps x) (owner p x) (location_in t x) (location_in s x)
  pub atomic : length s.atomic ≡ length t.atomic
  pub histories : (y : ℕ) → AllZip (AreMessagesRelated p.maps) (messages t y) (messages s y)
  pub outputs : t.outputs ≡ s.outputs
  pub target_runs : t.failed ≡ false
  pub source_runs : s.failed ≡ false

-- what a read of the thread respects; what it may come to respect is its reach, and what a relaxed write hands on
-- is carried: these three are all that is said of a view
abbrev pub respected : ThreadView → List ℕ
respected v = v.cur

-- times that thread i knows: an image but at what it has pending, of which it knows the last version on both sides
pub record AreTimesRelated (p : Pairing) (i : ℕ) (t s : Memory) (v w : List ℕ) : Type 0 where
  pub image : IsImageBut p.maps (hides p i) v w
  pub target_last : (x : ℕ) → x < length p.maps → hides p i x ≡ true → slice_index v x ≡ (location_in t x).version
  pub source_last : (x : ℕ) → x < length p.maps → hides p i x ≡ true → slice_index w x ≡ (location_in s x).version

-- the views of thread i; what its relaxed writes hand on knows of nothing pending
pub record AreViewsRelated (p : Pairing) (i : ℕ) (t s : Memory) (v w : ThreadView) : Type 0 where
  pub cur : AreTimesRelated p i t s (respected v) (respected w)
  pub got : AreTimesRelated p i t s (reach v) (reach w)
  pub rel : IsImage p.maps (carried v) (carried w)

-- the relation holds again after a step of thread i on either side, or on one
pub record GoesOn (p q : Pairing) (i : ℕ) (t s t' s' : Memory) (v' w' : ThreadView) : Type 0 where
  pub memories : AreMemoriesRelated q t' s'
  pub views : AreViewsRelated q i t' s' v' w'
  pub others : (j : ℕ) → (j ≡ i → ⊥) → (v w : ThreadView) → AreViewsRelated p j t s v w → AreViewsRelated q j t' s' v w
  pub pending : (j : ℕ) → (j ≡ i → ⊥) → (x : ℕ) → x < length p.maps → hides q j x ≡ hides p j x

-- the version that a write gives
abbrev pub next : Memory → ℕ → ℕ
next m x = (location_in m x).version + 1

-- the pairing after a write on both sides, for which the source has given this version
abbrev pub settle : Pairing → ℕ → ℕ → Pairing
settle p x n = record { maps = with_number p.maps x n; owners = slice_set p.owners x None }

-- the pairing after a write of thread i in the source alone
abbrev pub hide : Pairing → ℕ → ℕ → Pairing
hide p x i = record { maps = p.maps; owners = slice_set p.owners x (Some i) }

-- the pairing at the start
abbrev pub opening_pairing : ℕ → Pairing
opening_pairing n = record { maps = replicate n (0 ∷ []); owners = replicate n None }
