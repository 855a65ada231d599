use Rattle.journal_text.proofs.Callers.{few_locations, plain_names}
use Rattle.seq_text.proofs.events.read_env_events.Goals as goal

pub read_lines-requires-clause-few : goal.read_lines-requires-clause-few
read_lines-requires-clause-few c = few_locations c.args.p.now c.requires

pub read_lines-requires-clause-names : goal.read_lines-requires-clause-names
read_lines-requires-clause-names c = plain_names c.args.p.now c.requires
