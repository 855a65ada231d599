use Rattle.std.proofs.Common.{◌≡◌, ℤ, [], ◌∷◌, length, map, take}
use Rattle.std.specs.List.{AllByRecursion}
use Rattle.message_memory.specs.Memory.{first_message}
use Rattle.indexed_memory.specs.Index.{IsIndexLine, histories_in}
use Rattle.indexed_memory.proofs.index.IndexHistories.start.Given as goal

abbrev pub invariant-loop-y : goal.invariant-loop-y
invariant-loop-y l = record {
  messages : length l.pool.items ≡ l.y;
  lines : length l.lines.items ≡ l.y;
  each : AllByRecursion (IsIndexLine l.pool.items 0) l.lines.items;
  histories : histories_in l.pool.items l.lines.items ≡ map (λ (n : ℤ). first_message l.locations n ∷ []) (take l.y l.atomic);
}
