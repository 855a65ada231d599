use Rattle.il_paths.proofs.PathsBySites.{before_by_sites}
use Rattle.il_paths.proofs.laws.paths_before_by_sites.Goals as goal

pub returns : goal.returns
returns c = before_by_sites
