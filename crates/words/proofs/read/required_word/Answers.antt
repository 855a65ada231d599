use Rattle.std.proofs.Common.{◌∙◌}
use Rattle.clap.specs.Words.{found_of}
use Rattle.words.proofs.Settings.{set_value, word_left, word_set}
use Rattle.words.proofs.read.required_word.Goals as goal

pub returns-in-None : goal.returns-in-None
returns-in-None c os same _ = word_left _ (c.in-None.ensures ∙ set_value (found_of c.args.settings.now) c.args.name.now os same)

pub returns-in-Some : goal.returns-in-Some
returns-in-Some c os same =
    word_set c.in-Some.text.now _ c.word.result (c.in-Some.ensures ∙ set_value (found_of c.args.settings.now) c.args.name.now os same) c.word.ensures
