use Rattle.std.proofs.Common.{Bool, List, sym, ap, ◌∙◌, subst, ◌++◌}
use Rattle.std.proofs.lemmas.Bool.{eqb-true}
use Rattle.std.proofs.lemmas.List.{nil_from_length}
use Rattle.il_paths.specs.Tree.{Empty, before_rest}
use Rattle.path_meets.specs.Chain.{must_rank}
use Rattle.backward_sets.specs.Turns.{AreFound}
use Rattle.backward_sets.proofs.Callers.{found_now}
use Rattle.tidy.specs.declared.known.KnownPair.{KnownPair}
use Rattle.tidy.specs.Rows.{known_in, known_column}
use Rattle.tidy.specs.Turns.{turns_known}
use Rattle.tidy.proofs.TurnLaws.{column-reverse}
use Rattle.tidy.proofs.known.find_turns.Goals as goal

pub returns-in_ok-exit : goal.returns-in_ok-exit
returns-in_ok-exit c r a others told =
    let all = turns_known r a (before_rest c.args.statement.now Empty) in
    let l = known_in c.args.row.now r a in
    let turns = c.args.turns.now in
    let none = nil_from_length turns.items (sym turns.ok.0 ∙ eqb-true turns.len 0 (sym c.is_empty.ensures ∙ c.if-is_empty.true)) in
    let new = c.in_ok-exit.ensures.turns r a ∙ ap (λ (row : List KnownPair). known_column r a turns.items ++ all (known_in row r a)) c.in_ok-copy.ensures in
    let found = found_now must_rank all l (known_column r a turns.items) others (known_column r a c.exit.new.turns.items) (ap (known_column r a) none) told new in
    subst (λ (bs : List Bool). AreFound must_rank all l bs others) (sym (ap (known_column r a) c.reverse.ensures.items ∙ column-reverse r a c.exit.new.turns.items)) found
