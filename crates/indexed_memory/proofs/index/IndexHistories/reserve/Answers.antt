use Rattle.std.proofs.Common.{◌≡◌, List, length, vec_len, vec_capacity, sym, ap, ◌∙◌, subst, arith}
use Rattle.std.specs.List.{AllByRecursion, AllZip}
use Rattle.std.proofs.lemmas.List.{with_items_is}
use Rattle.std.proofs.lemmas.Slice.Zip.{AllZip-long}
use Rattle.message_memory.specs.declared.message.Message.{Message}
use Rattle.message_memory.specs.PoolValue.{PoolValue}
use Rattle.indexed_memory.specs.declared.line.Line.{Line}
use Rattle.indexed_memory.specs.Index.{histories_in, IsIndexLine, IsIndex, HasGrown}
use Rattle.indexed_memory.proofs.Growing.{histories_grown, lines_kept, lines_roomy}
use Rattle.indexed_memory.proofs.index.IndexHistories.reserve.Goals as goal

pub invariant_of-self-in_err-reserve_lines : goal.invariant_of-self-in_err-reserve_lines
invariant_of-self-in_err-reserve_lines c =
    let pool = c.self.inside.pool.items in
    let olds = c.self.inside.lines.items in
    let news = c.reserve_lines.new.lines in
    let grown : AllZip HasGrown olds news = subst (λ (ls : List Line). AllZip HasGrown ls news) c.as_mut_slice.ensures.value c.reserve_lines.ensures.grown in
    let many : length news ≡ c.self.inside.lines.len = AllZip-long HasGrown c.as_mut_slice.result.now news c.reserve_lines.ensures.grown ∙ c.as_mut_slice.ensures.len in
    let back = with_items_is c.self.inside.lines news many in
    subst (λ (ls : List Line). IsIndex c.reserve.new.self.items (vec_len c.reserve.new.self) (vec_capacity c.reserve.new.self) c.self.inside.spare ls) (sym back)
    (record {
      each = subst (λ (p : List Message). AllByRecursion (IsIndexLine p c.self.inside.spare) news) (sym c.reserve.ensures.items) (lines_kept pool c.self.inside.spare olds news grown c.self.invariant.each);
      pool_room = omega (arith, c.reserve.ensures.len, c.reserve.ensures.capacity, c.self.invariant.pool_room);
      small = omega (arith, c.reserve.ensures.len, c.self.invariant.small);
    })

pub returns-in_err-reserve_lines-clause-histories : goal.returns-in_err-reserve_lines-clause-histories
returns-in_err-reserve_lines-clause-histories c =
    let pool = c.self.inside.pool.items in
    let olds = c.self.inside.lines.items in
    let news = c.reserve_lines.new.lines in
    let grown : AllZip HasGrown olds news = subst (λ (ls : List Line). AllZip HasGrown ls news) c.as_mut_slice.ensures.value c.reserve_lines.ensures.grown in
    let many : length news ≡ c.self.inside.lines.len = AllZip-long HasGrown c.as_mut_slice.result.now news c.reserve_lines.ensures.grown ∙ c.as_mut_slice.ensures.len in
    let back = with_items_is c.self.inside.lines news many in
    ap (histories_in c.reserve.new.self.items) back
    ∙ ap (λ (p : List Message). histories_in p news) c.reserve.ensures.items
    ∙ histories_grown pool olds news grown
    ∙ ap (λ (v : PoolValue). v.histories) c.self.view_is

pub invariant_of-self-2 : goal.invariant_of-self-2
invariant_of-self-2 c =
    let pool = c.self.inside.pool.items in
    let olds = c.self.inside.lines.items in
    let news = c.reserve_lines.new.lines in
    let grown : AllZip HasGrown olds news = subst (λ (ls : List Line). AllZip HasGrown ls news) c.as_mut_slice.ensures.value c.reserve_lines.ensures.grown in
    let many : length news ≡ c.self.inside.lines.len = AllZip-long HasGrown c.as_mut_slice.result.now news c.reserve_lines.ensures.grown ∙ c.as_mut_slice.ensures.len in
    let back = with_items_is c.self.inside.lines news many in
    subst (λ (ls : List Line). IsIndex c.reserve.new.self.items (vec_len c.reserve.new.self) (vec_capacity c.reserve.new.self) c.args.n ls) (sym back)
    (record {
      each = subst (λ (p : List Message). AllByRecursion (IsIndexLine p c.args.n) news) (sym c.reserve.ensures.items) (lines_roomy pool c.self.inside.spare c.args.n olds news grown c.in_ok-reserve_lines.ensures.room c.self.invariant.each);
      pool_room = omega (arith, c.reserve.ensures.len, c.in_ok-reserve.ensures.ok);
      small = omega (arith, c.reserve.ensures.len, c.if-n-len.false, c.len.ensures, c.self.invariant.small);
    })

pub returns-clause-histories : goal.returns-clause-histories
returns-clause-histories c =
    let pool = c.self.inside.pool.items in
    let olds = c.self.inside.lines.items in
    let news = c.reserve_lines.new.lines in
    let grown : AllZip HasGrown olds news = subst (λ (ls : List Line). AllZip HasGrown ls news) c.as_mut_slice.ensures.value c.reserve_lines.ensures.grown in
    let many : length news ≡ c.self.inside.lines.len = AllZip-long HasGrown c.as_mut_slice.result.now news c.reserve_lines.ensures.grown ∙ c.as_mut_slice.ensures.len in
    let back = with_items_is c.self.inside.lines news many in
    ap (histories_in c.reserve.new.self.items) back
    ∙ ap (λ (p : List Message). histories_in p news) c.reserve.ensures.items
    ∙ histories_grown pool olds news grown
    ∙ ap (λ (v : PoolValue). v.histories) c.self.view_is
