use Rattle.std.proofs.Common.{◌≡◌, ◌≤◌, ◌-◌, List, [], ◌∷◌, get_or, set, sym, ap, ◌∙◌, subst, arith, rules}
use Rattle.std.specs.List.{AllByRecursion}
use Rattle.message_memory.specs.declared.message.Message.{Message}
use Rattle.message_memory.specs.Memory.{Messages, inserted}
use Rattle.message_memory.specs.PoolValue.{PoolValue}
use Rattle.indexed_memory.specs.declared.line.Line.{Line}
use Rattle.indexed_memory.specs.Sorted.{message_of, history_of, AreSorted, AreRuns}
use Rattle.indexed_memory.specs.Index.{histories_in, IsIndexLine}
use Rattle.indexed_memory.proofs.Growing.{line_any, line_there}
use Rattle.indexed_memory.proofs.Pushing.{own_runs, pushed_histories, pushed_lines}
use Rattle.indexed_memory.proofs.index.IndexHistories.push.Goals as goal

pub insert-requires-clause-runs : goal.insert-requires-clause-runs
insert-requires-clause-runs c =
    let pool = c.self.inside.pool.items in
    let lines = c.self.inside.lines.items in
    let old = c.index_mut.result.now in
    let there = line_there pool lines c.args.self.now.histories c.args.y (ap (λ (v : PoolValue). v.histories) c.self.view_is) c.requires.there in
    let longer = c.as_slice.ensures.value ∙ c.push_reserved.ensures.items in
    let is : (d : Line) → get_or lines c.args.y d ≡ old = λ d. line_any lines c.args.y d old there ∙ sym c.index_mut.ensures.value in
    subst (λ (p : List Message). AreRuns p old.places.items old.runs.items) (sym longer) (own_runs pool c.args.message lines c.args.y old there is c.self.inside.spare c.self.invariant.each)

pub invariant_of-self : goal.invariant_of-self
invariant_of-self c =
    let pool = c.self.inside.pool.items in
    let lines = c.self.inside.lines.items in
    let old = c.index_mut.result.now in
    let there = line_there pool lines c.args.self.now.histories c.args.y (ap (λ (v : PoolValue). v.histories) c.self.view_is) c.requires.there in
    let longer = c.as_slice.ensures.value ∙ c.push_reserved.ensures.items in
    let is : (d : Line) → get_or lines c.args.y d ≡ old = λ d. line_any lines c.args.y d old there ∙ sym c.index_mut.ensures.value in
    let new = c.insert.new.self in
    let some : 1 ≤ c.self.inside.spare = subst (λ (v : PoolValue). 1 ≤ v.room) (sym c.self.view_is) c.requires.room in
    record {
      each =
          subst (λ (p : List Message). AllByRecursion (IsIndexLine p (c.self.inside.spare - 1)) (set lines c.args.y new)) (sym c.push_reserved.ensures.items)
          (pushed_lines pool c.args.message lines c.args.y old there is new c.self.inside.spare some c.self.invariant.each
          (subst (λ (p : List Message). AreSorted p new.places.items) longer c.insert.ensures.sorted)
          (subst (λ (p : List Message). AreRuns p new.places.items new.runs.items) longer c.insert.ensures.runs)
          c.insert.ensures.len c.insert.ensures.place_room c.insert.ensures.run_room);
      pool_room = omega (arith, some, c.push_reserved.ensures.len, c.push_reserved.ensures.capacity, c.self.invariant.pool_room);
      small = omega (arith, some, c.push_reserved.ensures.len, c.self.invariant.small);
    }

pub returns-clause-histories : goal.returns-clause-histories
returns-clause-histories c =
    let pool = c.self.inside.pool.items in
    let lines = c.self.inside.lines.items in
    let old = c.index_mut.result.now in
    let there = line_there pool lines c.args.self.now.histories c.args.y (ap (λ (v : PoolValue). v.histories) c.self.view_is) c.requires.there in
    let longer = c.as_slice.ensures.value ∙ c.push_reserved.ensures.items in
    let is : (d : Line) → get_or lines c.args.y d ≡ old = λ d. line_any lines c.args.y d old there ∙ sym c.index_mut.ensures.value in
    let new = c.insert.new.self in
    let place = c.len-place.result in
    ap (λ (p : List Message). histories_in p (set lines c.args.y new)) c.push_reserved.ensures.items
    ∙ pushed_histories pool c.args.message lines c.args.y old there is new c.self.inside.spare place (first_of (omega (arith, c.len-place.ensures), search rules)) c.self.invariant.each
    (subst (λ (p : List Message). history_of p new.places.items ≡ inserted (message_of p (place ∷ []) 0) (history_of p old.places.items)) longer c.insert.ensures.history)
    ∙ ap (λ (hs : List Messages). set hs c.args.y (inserted c.args.message (get_or hs c.args.y []))) (ap (λ (v : PoolValue). v.histories) c.self.view_is)
