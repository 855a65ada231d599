use Rattle.std.proofs.Common.{◌≡◌, ◌∙◌, ◌+◌, ℕ, List, ap, sym, subst, length, arith}
use Rattle.std.specs.List.{AllZip}
use Rattle.litmus.specs.Table.{IsTableRow}
use Rattle.litmus.specs.declared.table.Sample.{Sample}
use Rattle.litmus.proofs.Tables.{firsts_below, row_added, row_passed}
use Rattle.litmus.proofs.table.table.Goals as goal
use Rattle.litmus.proofs.table.table.Goals.{then-is_first+in_ok-row+in_ok-push, else-is_first}

pub loop-k-preserved : goal.loop-k-preserved
loop-k-preserved c =
    let seed = c.args.seed in
    let runs = c.args.runs.now in
    let k = c.loop-k.k in
    let test = c.loop-k-test.true in
    record {
      within = omega (arith, test);
      rows = elim c.if-is_first.branch [
        | then-is_first+in_ok-row+in_ok-push w ↦
            subst (λ (xs : List Sample). AllZip (IsTableRow seed runs) (firsts_below runs (k + 1)) xs) (sym (ap (λ v. v.items) w.samples-is))
            (row_added seed runs k c.loop-k.samples.items w.push.new.self.items w.in_ok-row.field-0 (sym c.is_first.ensures ∙ w.if-is_first.true) c.loop-k.invariant.rows w.in_ok-row.ensures w.in_ok-push.ensures.items)
        | else-is_first w ↦
            subst (λ (xs : List Sample). AllZip (IsTableRow seed runs) (firsts_below runs (k + 1)) xs) (sym (ap (λ v. v.items) w.samples-is))
            (row_passed seed runs k c.loop-k.samples.items (sym c.is_first.ensures ∙ w.if-is_first.false) c.loop-k.invariant.rows)
      ];
    }
