use Rattle.std.proofs.Common.{Bool, List, sym, ap, ◌∙◌, subst}
use Rattle.std.proofs.lemmas.Bool.{eqb-true}
use Rattle.std.proofs.lemmas.List.{nil_from_length}
use Rattle.il_paths.specs.Tree.{Empty, before_rest}
use Rattle.location_sets.specs.Sets.{has, column}
use Rattle.backward_sets.specs.Turns.{turns_of, AreFound}
use Rattle.backward_sets.proofs.SetLaws.{column-reverse}
use Rattle.backward_sets.proofs.TurnLaws.{found_now}
use Rattle.backward_sets.proofs.walk.find_turns.Goals as goal

pub returns-in_ok-enter : goal.returns-in_ok-enter
returns-in_ok-enter g c x others told =
    let rank = g.B.Backward.rank c.args.walk.now in
    let change = g.B.Backward.change c.args.walk.now in
    let all = turns_of rank change x (before_rest c.args.statement.now Empty) in
    let l = has x c.args.after.now in
    let turns = c.args.turns.now in
    let none = nil_from_length turns.items (sym turns.ok.0 ∙ eqb-true turns.len 0 (sym c.is_empty.ensures ∙ c.if-is_empty.true)) in
    let found = found_now rank all l (column x turns.items) others (column x c.enter.new.turns.items) (ap (column x) none) told (c.in_ok-enter.ensures.turns x) in
    subst (λ (bs : List Bool). AreFound rank all l bs others) (sym (ap (column x) c.reverse.ensures.items ∙ column-reverse x c.enter.new.turns.items)) found
