use Rattle.std.proofs.Common.{◌≡◌, ℕ, List, Option, Ok, Some, subst}
use Rattle.tool.specs.Answers.{Seen, seen}
use Rattle.tool.specs.Prepared.{HasRead}
use Rattle.tool.proofs.OutputLemmas.{whole_prepared}
use Rattle.tool.proofs.output.read_output.Goals as goal

pub returns-in_ok-output_of-in-Some-clause-prepared : goal.returns-in_ok-output_of-in-Some-clause-prepared
returns-in_ok-output_of-in-Some-clause-prepared g c =
    let before : Seen = seen (g.S.Source.left c.args.input.now) (g.S.Source.faults c.args.input.now) in
    let now : Seen = seen (g.S.Source.left c.read_input.new.input) (g.S.Source.faults c.read_input.new.input) in
    let same : c.in-Some.bytes ≡ c.as_slice.result.now = cc in
    let read : HasRead c.args.most before now (Ok (Some c.in-Some.bytes)) = subst (λ (o : Option (List ℕ)). HasRead c.args.most before now (Ok o)) c.in-Some.is c.in_ok-bytes.ensures.read in
    whole_prepared c.args.command.now c.args.most before now c.requires.limit c.in_ok-output_of-in-Some.field-0 c.as_slice.result.now
    (subst (λ (bytes : List ℕ). HasRead c.args.most before now (Ok (Some bytes))) same read) c.in_ok-output_of-in-Some.ensures
