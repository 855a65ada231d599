-- One call of a source or a sink in memory: when it fails, how much it moves, and what it leaves.
use Rattle.std.specs.Prelude.{ℕ, ◌-◌, ◌<◌, ◌≤◌, ◌⊎◌, min, List, ◌++◌, length, take, drop, Contains, Result, Ok, Err}
use Rattle.sq_outside.specs.Faults.{next_count}
use Rattle.sq_outside.specs.MemoryValues.{MemSourceValue, MemSinkValue}

-- how much a source gives into so many places
abbrev pub taken_count : MemSourceValue → ℕ → ℕ
taken_count s places = min s.piece (min (length s.left) places)

-- the source after a call with this answer
abbrev pub source_after : {E : Type 0} → MemSourceValue → Result ℕ E → MemSourceValue
source_after s (Ok n) = record s { left = drop n s.left; calls = next_count s.calls }
source_after s (Err e) = record s { calls = next_count s.calls; faults = next_count s.faults }

-- A sink refuses these bytes: the call is to fail, or there are some and no room for any.
abbrev pub Refuses : MemSinkValue → List ℕ → Type 0
Refuses s bytes = Contains s.failing s.calls ⊎ ((s.room ≤ length s.written) × (0 < length bytes))

-- how much of so many bytes a sink takes
abbrev pub put_count : MemSinkValue → ℕ → ℕ
put_count s count = min s.piece (min count (s.room - length s.written))

-- the sink after a call with this answer
abbrev pub sink_after : {E : Type 0} → MemSinkValue → List ℕ → Result ℕ E → MemSinkValue
sink_after s bytes (Ok n) = record s { written = s.written ++ take n bytes; calls = next_count s.calls }
sink_after s bytes (Err e) = record s { calls = next_count s.calls; faults = next_count s.faults }
