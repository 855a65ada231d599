use Rattle.std.proofs.Common.{◌≡◌, ◌∙◌, sym}
use Rattle.words.specs.declared.command.WordsFault.TheVariants.{Refused, NoMemory}
use Rattle.words.proofs.Meanings.{clap_reads, clap_refuses}
use Rattle.words.proofs.WordTexts.{texts_of}
use Rattle.words.proofs.read.matches.Goals as goal

pub returns-in-Ok-clause-ok : goal.returns-in-Ok-clause-ok
returns-in-Ok-clause-ok c = clap_reads _ (texts_of c.args.words.now) c.in-Ok.matches c.in_ok-program.ensures c.in-Ok.ensures.kinds c.in-Ok.ensures.matches

pub returns-in-Err-clause-err : goal.returns-in-Err-clause-err
returns-in-Err-clause-err c is =
    clap_refuses _ (texts_of c.args.words.now) c.in-Err.error c.in_ok-program.ensures c.in-Err.ensures.kinds
    (λ memory. let bad : NoMemory ≡ Refused = sym (c.fault.ensures.1 memory) ∙ is in absurd cc)
