-- How an index keeps the histories of the locations.
use Rattle.std.specs.Prelude.{◌≡◌, ℕ, ◌+◌, ◌*◌, ◌^◌, ◌<◌, ◌≤◌, List, length, map, vec_capacity}
use Rattle.std.specs.List.{AllByRecursion}
use Rattle.message_memory.specs.Memory.{Messages}
use Rattle.message_memory.specs.declared.message.Message.{Message}
use Rattle.indexed_memory.specs.declared.line.Line.{Line}
use Rattle.indexed_memory.specs.Sorted.{history_of, AreSorted, AreRuns}

-- the messages of a location
abbrev pub line_history : List Message → Line → Messages
line_history pool line = history_of pool line.places.items

-- the messages of each location
abbrev pub histories_in : List Message → List Line → List Messages
histories_in pool lines = map (line_history pool) lines

-- the places and runs of a location are right, and there is room for so many more
pub record IsIndexLine (pool : List Message) (spare : ℕ) (line : Line) : Type 0 where
  pub sorted : AreSorted pool line.places.items
  pub runs : AreRuns pool line.places.items line.runs.items
  pub place_room : length line.places.items + spare ≤ vec_capacity line.places
  pub run_room : length line.places.items + spare ≤ 256 * vec_capacity line.runs + 256

-- so it is for each location, and each place has a number of 32 bits
pub record IsIndex (pool : List Message) (len capacity spare : ℕ) (lines : List Line) : Type 0 where
  pub each : AllByRecursion (IsIndexLine pool spare) lines
  pub pool_room : len + spare ≤ capacity
  pub small : len + spare < 2 ^ 32

-- ---- what a call leaves of a line

-- its places and runs stay, and it has no less room
pub record HasGrown (old new : Line) : Type 0 where
  pub places : new.places.items ≡ old.places.items
  pub runs : new.runs.items ≡ old.runs.items
  pub place_room : vec_capacity old.places ≤ vec_capacity new.places
  pub run_room : vec_capacity old.runs ≤ vec_capacity new.runs

-- it has room for n more places, and for the runs that these make
pub record HasRoomFor (n : ℕ) (line : Line) : Type 0 where
  pub place_room : length line.places.items + n ≤ vec_capacity line.places
  pub run_room : 256 * length line.runs.items + n ≤ 256 * vec_capacity line.runs
