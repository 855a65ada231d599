-- What contracts see of a source and of a sink in memory.
use Rattle.std.specs.Prelude.{ℕ, List}

pub record MemSourceValue : Type 0 where
  -- the bytes that are left
  pub left : List ℕ
  -- the most that one call gives
  pub piece : ℕ
  -- the numbers of the calls that fail
  pub failing : List ℕ
  -- how many calls there were
  pub calls : ℕ
  -- how many of them failed
  pub faults : ℕ

pub record MemSinkValue : Type 0 where
  -- the bytes that were written
  pub written : List ℕ
  -- how many bytes there is room for in all
  pub room : ℕ
  -- the most that one call takes
  pub piece : ℕ
  -- the numbers of the calls that fail
  pub failing : List ℕ
  -- how many calls there were
  pub calls : ℕ
  -- how many of them failed
  pub faults : ℕ
