-- Passes before and after one access of each.
use Rattle.std.specs.Prelude.{◌≡◌, ◌<◌, length}
use Rattle.shared_memory.specs.Passes.{SharedValue, PassValue, IsPassOf, own_calls}

-- a pass of the memory that may make a further access
pub record IsReadyPass (memory : SharedValue) (pass : PassValue) : Type 0 where
  pub of : IsPassOf memory pass
  pub share : length (own_calls pass) < memory.params.share

-- the pass is one of the memory still, of the same thread
pub record IsSamePass (memory : SharedValue) (old new : PassValue) : Type 0 where
  pub pass : IsPassOf memory new
  pub thread : new.thread ≡ old.thread
