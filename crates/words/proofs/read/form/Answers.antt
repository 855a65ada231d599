use Rattle.std.proofs.Common.{◌∙◌, codes}
use Rattle.clap.specs.Words.{found_of}
use Rattle.words.proofs.Settings.{form_left, form_set, set_value}
use Rattle.words.proofs.read.form.Goals as goal

pub returns-in-None : goal.returns-in-None
returns-in-None c os same = form_left _ (c.in-None.ensures ∙ set_value (found_of c.args.settings.now) (codes "form") os same)

pub returns-in-Some : goal.returns-in-Some
returns-in-Some c os same = form_set c.in-Some.word.now _ c.form_of.result (c.in-Some.ensures ∙ set_value (found_of c.args.settings.now) (codes "form") os same) c.form_of.ensures
