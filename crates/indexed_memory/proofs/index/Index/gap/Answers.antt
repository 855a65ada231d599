use Rattle.std.proofs.Common.{ℕ, List, [], length, get_or, sym, ap, arith}
use Rattle.message_memory.specs.Memory.{Messages}
use Rattle.message_memory.specs.PoolValue.{PoolValue}
use Rattle.indexed_memory.specs.declared.line.Line.{Line}
use Rattle.indexed_memory.specs.Index.{line_history}
use Rattle.indexed_memory.proofs.Counting.{length_newest}
use Rattle.indexed_memory.proofs.Growing.{history_at, line_there}
use Rattle.indexed_memory.proofs.index.Index.gap.Goals as goal

pub gap_at-requires-clause-there : goal.gap_at-requires-clause-there
gap_at-requires-clause-there c =
    let pool = c.self.inside.pool.items in
    let lines = c.self.inside.lines.items in
    let line = c.index.result.now in
    let there = line_there pool lines c.args.self.now.histories c.args.y (ap (λ (v : PoolValue). v.histories) c.self.view_is) c.requires.there in
    let seen = ap {B = ℕ} (λ (v : PoolValue). length (get_or v.histories c.args.y [])) c.self.view_is in
    let own = ap {B = ℕ} (λ (h : Messages). length h) (history_at pool lines c.args.y line there) in
    let same = ap {B = ℕ} (λ (l : Line). length (line_history pool l)) (sym c.index.ensures) in
    let places = ap {B = ℕ} (λ (ps : List ℕ). length ps) c.as_slice-2.ensures.value in
    omega (arith, c.requires.message, seen, own, same, places, length_newest pool line.places.items (length line.places.items))
