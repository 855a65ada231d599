use Rattle.il_paths.proofs.PathsBySites.{after_by_sites}
use Rattle.il_paths.proofs.laws.paths_after_by_sites.Goals as goal

pub returns : goal.returns
returns c = after_by_sites
