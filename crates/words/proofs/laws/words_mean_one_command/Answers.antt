use Rattle.words.proofs.Meanings.{one_meaning}
use Rattle.words.proofs.laws.words_mean_one_command.Goals as goal

pub returns : goal.returns
returns c = one_meaning c.args.words.now c.args.first.now c.args.second.now c.requires.first c.requires.second
