use Rattle.std.proofs.Common.{◌∙◌, ◌++◌, ap, codes}
use Rattle.std.specs.Option.{option_map_or}
use Rattle.il_syntax.specs.Text.{program_text}
use Rattle.text_parts.specs.Lines.{Text}
use Rattle.journal_text.specs.Report.{report_text, titled_journal, titled_outputs}
use Rattle.journal_text.proofs.Reports.{five_pieces}
use Rattle.journal_text.proofs.report_text.report.Goals as goal

pub returns : goal.returns
unfolding report_text
returns c =
    let p = c.args.p.now in
    five_pieces (codes "program\n") (program_text p) (titled_journal (codes "journal") p c.args.journal.now c.args.threads)
    (titled_journal (codes "source") p (option_map_or (λ s. s.now) c.args.source c.args.journal.now) c.args.threads) (titled_outputs c.args.journal.now)
    _ _ _ _
    (c.in_ok-push.ensures ∙ ap (λ (t : Text). t ++ codes "program\n") c.new-out.ensures.items)
    c.in_ok-push_program.ensures
    c.in_ok-push_journals.ensures c.in_ok-push_titled_outputs.ensures
