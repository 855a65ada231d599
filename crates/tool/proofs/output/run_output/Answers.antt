use Rattle.std.proofs.Common.{◌≡◌, ℕ, List, Option, Ok, Some, refl, subst}
use Rattle.words.specs.declared.command.Command.TheVariants.{Run}
use Rattle.tool.specs.Refusals.{text_limit}
use Rattle.tool.specs.Answers.{Seen, seen}
use Rattle.tool.specs.Prepared.{HasRead}
use Rattle.tool.proofs.OutputLemmas.{whole_prepared}
use Rattle.tool.proofs.output.run_output.Goals as goal

pub returns-in_ok-output-in-Some-clause-prepared : goal.returns-in_ok-output-in-Some-clause-prepared
returns-in_ok-output-in-Some-clause-prepared g c =
    let before : Seen = seen (g.S.Source.left c.args.input.now) (g.S.Source.faults c.args.input.now) in
    let now : Seen = seen (g.S.Source.left c.read_input.new.input) (g.S.Source.faults c.read_input.new.input) in
    let same : c.in-Some.bytes ≡ c.as_slice-bytes.result.now = cc in
    let read : HasRead text_limit before now (Ok (Some c.in-Some.bytes)) = subst (λ (o : Option (List ℕ)). HasRead text_limit before now (Ok o)) c.in-Some.is c.in_ok-bytes.ensures.read in
    whole_prepared (Run c.args.seed c.args.steps) text_limit before now refl c.in_ok-output-in-Some.field-0 c.as_slice-bytes.result.now
    (subst (λ (bytes : List ℕ). HasRead text_limit before now (Ok (Some bytes))) same read) c.in_ok-output-in-Some.ensures
