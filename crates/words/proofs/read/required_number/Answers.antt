use Rattle.std.proofs.Common.{◌∙◌, refl}
use Rattle.clap.specs.Words.{found_of}
use Rattle.words.proofs.Settings.{needed_left, needed_set, set_value}
use Rattle.words.proofs.read.required_number.Goals as goal

pub returns-in-None : goal.returns-in-None
returns-in-None c os same = (refl, needed_left c.args.low c.args.high _ (c.in-None.ensures ∙ set_value (found_of c.args.settings.now) c.args.name.now os same))

pub returns-in-Some : goal.returns-in-Some
returns-in-Some c os same =
    needed_set c.args.low c.args.high c.in-Some.text.now _ c.number_within.result (c.in-Some.ensures ∙ set_value (found_of c.args.settings.now) c.args.name.now os same) c.number_within.ensures
