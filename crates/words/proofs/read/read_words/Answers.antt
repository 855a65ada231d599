use Rattle.std.proofs.Common.{◌≡◌, ◌∙◌, ap, sym, true, false, rules}
use Rattle.clap.specs.Simple.{subcommand_of}
use Rattle.clap.specs.Faults.{fault_of}
use Rattle.words.specs.Commands.{commands}
use Rattle.words.specs.Program.{clap_program}
use Rattle.words.proofs.Meanings.{passes, meant, no_rows, only, matched, only_memory}
use Rattle.words.proofs.WordTexts.{texts_of}
use Rattle.words.proofs.read.read_words.Goals as goal

pub returns-then-has_dashes-clause-only : goal.returns-then-has_dashes-clause-only
returns-then-has_dashes-clause-only c d m =
    let bad : true ≡ false = sym c.if-has_dashes.true ∙ c.has_dashes.ensures ∙ (passes c.args.words.now d m).dashes in absurd cc

pub returns-in_err-matches-clause-only : goal.returns-in_err-matches-clause-only
returns-in_err-matches-clause-only c d m =
    let same : texts_of c.as_slice.result.now ≡ c.args.words.now = ap texts_of c.as_slice.ensures.value ∙ c.in_ok-texts.ensures in
    let memory = only_memory c.in_err-matches.field-0.0 (λ f. c.in_err-matches.ensures.err f (ap (fault_of (clap_program commands)) same ∙ (passes c.args.words.now d m).fault)) in
    search rules

pub returns-in-Some-clause-meant : goal.returns-in-Some-clause-meant
returns-in-Some-clause-meant c =
    let same : texts_of c.as_slice.result.now ≡ c.args.words.now = ap texts_of c.as_slice.ensures.value ∙ c.in_ok-texts.ensures in
    let read = c.in_ok-matches.ensures.ok in
    let given = matched c.in_ok-matches.matches c.in-Some.name.now _ c.in-Some.ensures.name c.in-Some.ensures.rows in
    meant c.args.words.now c.in-Some.name.now _ c.command.result (sym c.has_dashes.ensures ∙ c.if-has_dashes.false) (ap (fault_of (clap_program commands)) (sym same) ∙ read.0)
    (ap (subcommand_of (clap_program commands)) (sym same) ∙ sym read.1 ∙ given) c.command.ensures

pub returns-in-Some-clause-only : goal.returns-in-Some-clause-only
returns-in-Some-clause-only c d m =
    let same : texts_of c.as_slice.result.now ≡ c.args.words.now = ap texts_of c.as_slice.ensures.value ∙ c.in_ok-texts.ensures in
    let given = matched c.in_ok-matches.matches c.in-Some.name.now _ c.in-Some.ensures.name c.in-Some.ensures.rows in
    only c.args.words.now d m c.in-Some.name.now _ c.command.result (ap (subcommand_of (clap_program commands)) (sym same) ∙ sym c.in_ok-matches.ensures.ok.1 ∙ given) c.command.ensures

pub returns-clause-only : goal.returns-clause-only
returns-clause-only c d m =
    let same : texts_of c.as_slice.result.now ≡ c.args.words.now = ap texts_of c.as_slice.ensures.value ∙ c.in_ok-texts.ensures in
    absurd (no_rows c.in_ok-matches.matches _ c.in-None.ensures.rows (c.in_ok-matches.ensures.ok.1 ∙ ap (subcommand_of (clap_program commands)) same ∙ (passes c.args.words.now d m).rows))
