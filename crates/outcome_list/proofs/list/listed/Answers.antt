use Rattle.std.proofs.Common.{◌<◌, List, [], length, subst, arith}
use Rattle.std.proofs.lemmas.List.{get_or_default}
use Rattle.values_undef.specs.declared.journal.Entry.{Entry}
use Rattle.outcome_list.specs.List.{IsAdded}
use Rattle.outcome_list.proofs.Listing.{first_more, those_more, nothing_missed, nothing_invented, first_at_end}
use Rattle.outcome_list.proofs.list.listed.Goals as goal

pub loop-k-preserved : goal.loop-k-preserved
loop-k-preserved c =
    let p = c.args.p.now in
    let runs = c.args.runs.items in
    let k = c.loop-k.k in
    let before = c.loop-k.list.items in
    let after = c.add_run.new.list.items in
    let there : k < length runs = omega (arith, c.loop-k-test.true, c.len-k-end.ensures) in
    let added =
    subst (λ (r : List Entry). IsAdded p r before after) (get_or_default runs k c.index.result.now [] there) (subst (λ (r : List Entry). IsAdded p r before after) c.index.ensures c.in_ok-add_run.ensures) in
    record {
      within = omega (arith, there);
      rising = added.rising;
      first = first_more p runs k before after added c.loop-k.invariant.all c.loop-k.invariant.first;
      all = those_more p runs k before after added c.loop-k.invariant.all;
    }

pub returns-clause-nothing_missed : goal.returns-clause-nothing_missed
returns-clause-nothing_missed c =
    nothing_missed c.args.p.now c.args._steps c.loop-k.k c.args.runs.items c.loop-k.list.items c.requires.all (omega (arith, c.loop-k-test.false, c.len-k-end.ensures)) c.loop-k.invariant.all

pub returns-clause-nothing_invented : goal.returns-clause-nothing_invented
returns-clause-nothing_invented c =
    nothing_invented c.args.p.now c.args._steps c.loop-k.k c.args.runs.items c.loop-k.list.items c.requires.all c.loop-k.invariant.within c.loop-k.invariant.first

pub returns-clause-first : goal.returns-clause-first
returns-clause-first c = first_at_end c.args.p.now c.loop-k.k c.args.runs.items c.loop-k.list.items c.loop-k.invariant.within (omega (arith, c.loop-k-test.false, c.len-k-end.ensures)) c.loop-k.invariant.first
