use Rattle.std.proofs.Common.{◌∙◌, Bool, ap, sym}
use Rattle.std.specs.Prelude.{◌||◌}
use Rattle.outcomes_session.specs.Judging.{is_as_expected}
use Rattle.outcomes_session.proofs.Verdicts.{any_more}
use Rattle.outcomes_session.proofs.judging.is_found.Goals as goal
use Rattle.outcomes_session.proofs.judging.is_found.Goals.{then-there, else-there}

pub loop-i-preserved : goal.loop-i-preserved
loop-i-preserved c =
    let p = c.args.p.now in
    let e = c.args.e.now in
    let list = c.args.list.now in
    let i = c.loop-i.i in
    let here = c.is_as_expected-here.result in
    let same = c.is_as_expected-here.ensures ∙ ap (is_as_expected p e) c.index-list-i.is in
    let any = any_more p e list c.loop-i.there here i c.index-list-i.result c.loop-i-test.true c.loop-i.invariant same in
    elim c.if-there.branch [
      | then-there w ↦ w.there-is ∙ w.if-there.true ∙ sym (ap (λ (b : Bool). b || here) w.if-there.true) ∙ any
      | else-there w ↦ w.there-is ∙ sym (ap (λ (b : Bool). b || here) w.if-there.false) ∙ any
    ]
