use Rattle.std.proofs.Common.{◌∙◌, sym}
use Rattle.refute_session.proofs.Answered.{first_missed, missed_verdict, unknown_verdict}
use Rattle.refute_session.proofs.comparing.verdict.Goals as goal

pub returns-in_ok-text : goal.returns-in_ok-text
returns-in_ok-text c =
    let first = first_missed c.args.source_list.now c.args.target_list.now c.in-Some.at c.index-target_list-at.result c.refines.result c.refines.ensures c.in-Some.is c.index-target_list-at.is in
    unknown_verdict c.args.target.now c.args.source_list.now c.args.target_list.now c.index-target_list-at.result c.in_ok-text.text first (sym c.some_is_spent.ensures ∙ c.if-some_is_spent.true) c.in_ok-text.ensures

pub returns-in_ok-text-2 : goal.returns-in_ok-text-2
returns-in_ok-text-2 c =
    let first = first_missed c.args.source_list.now c.args.target_list.now c.in-Some.at c.index-target_list-at.result c.refines.result c.refines.ensures c.in-Some.is c.index-target_list-at.is in
    missed_verdict c.args.target.now c.args.source_list.now c.args.target_list.now c.index-target_list-at.result c.in_ok-text-2.text first (sym c.some_is_spent.ensures ∙ c.if-some_is_spent.false) c.in_ok-text-2.ensures
