use Rattle.seq_session.proofs.Answered.{accepted_pair, refusal_answered, small_function, target_there}
use Rattle.seq_session.proofs.session.judged.Goals as goal

pub function_of-target-requires : goal.function_of-target-requires
function_of-target-requires c = target_there c.args.session.now.source c.args.session.now.target c.args.function (c.same_shape.ensures.0 c.if-not-same_shape.false) c.requires.there

pub validate-requires : goal.validate-requires
validate-requires c =
    small_function c.args.session.now.target c.args.function c.function_of-target.result.now c.requires.target
    (target_there c.args.session.now.source c.args.session.now.target c.args.function (c.same_shape.ensures.0 c.if-not-same_shape.false) c.requires.there) c.function_of-target.ensures

pub played-requires-clause-accepted : goal.played-requires-clause-accepted
played-requires-clause-accepted c =
    accepted_pair c.args.session.now.source c.args.session.now.target c.args.function c.function_of-source.result.now c.function_of-target.result.now (c.same_shape.ensures.0 c.if-not-same_shape.false)
    c.function_of-source.ensures c.function_of-target.ensures c.in_ok-site.field-0 c.in_ok-site.ensures c.requires.source c.requires.target c.in-Yes.is

pub returns-in-No : goal.returns-in-No
returns-in-No c =
    refusal_answered c.args.session.now.source c.args.session.now.target c.args.function c.function_of-source.result.now c.function_of-target.result.now (c.same_shape.ensures.0 c.if-not-same_shape.false)
    c.function_of-source.ensures c.function_of-target.ensures c.in_ok-site.field-0 c.in_ok-site.ensures c.args.session.now.events.items c.args.session.now.first_line c.in-No.site c.in-No.why c.in-No.is
