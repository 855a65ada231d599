-- What happened before what: `Past` of an entry, and what a message gives to whoever acquires it.
use Rattle.std.specs.Prelude.{◌≡◌, ℕ, true, false, List}
use Rattle.message_memory.specs.declared.history.Call.{Call}
use Rattle.message_memory.specs.Step.{acquires_by, releases_by}
use Rattle.exec_graph.specs.Entries.{thread_at, access_at, is_acquire_fence, IsOwnBefore, IsFrom, IsLastFence}

-- a set of entries: what stands before an entry, or what the message of an entry gives
pub data EntrySet : Type 0 where
  past : ℕ → EntrySet
  gives : ℕ → EntrySet

-- entry a is in the set
pub data IsIn (calls : List Call) (a : ℕ) : EntrySet → Type 0 where
  -- Past of k has the entries of k's thread before k
  own : (k : ℕ) → IsOwnBefore calls a k → IsIn calls a (past k)
  -- with their Past
  through_own : (b k : ℕ) → IsOwnBefore calls b k → IsIn calls a (past b) → IsIn calls a (past k)
  -- where k is a reading entry that acquires, what the message that it read gives
  acquired : (w k : ℕ) → acquires_by (access_at calls k) ≡ true → IsFrom calls k w → IsIn calls a (gives w) → IsIn calls a (past k)
  -- where k is a fence that acquires, what the messages give that its thread read before it
  fenced : (r w k : ℕ) → is_acquire_fence (access_at calls k) ≡ true → IsOwnBefore calls r k → IsFrom calls r w → IsIn calls a (gives w) → IsIn calls a (past k)
  -- the message of a release w gives w, and Past of w
  itself : releases_by (access_at calls a) ≡ true → IsIn calls a (gives a)
  released : (w : ℕ) → releases_by (access_at calls w) ≡ true → IsIn calls a (past w) → IsIn calls a (gives w)
  -- that of another gives the last release fence of w's thread before w, and Past of the fence
  the_fence : (w : ℕ) → releases_by (access_at calls w) ≡ false → IsLastFence calls w (thread_at calls w) a → IsIn calls a (gives w)
  through_fence : (q w : ℕ) → releases_by (access_at calls w) ≡ false → IsLastFence calls w (thread_at calls w) q → IsIn calls a (past q) → IsIn calls a (gives w)
  -- and that of an update gives, beside, what the message that it read gives
  handed_on : (v w : ℕ) → IsFrom calls w v → IsIn calls a (gives v) → IsIn calls a (gives w)

-- a stands before k
abbrev pub Past : List Call → ℕ → ℕ → Type 0
Past calls k a = IsIn calls a (past k)

-- the message of w gives a
abbrev pub Gives : List Call → ℕ → ℕ → Type 0
Gives calls w a = IsIn calls a (gives w)
