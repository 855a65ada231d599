use Rattle.std.proofs.Common.{◌≡◌, ◌<◌, ℕ, true}
use Rattle.tidy.specs.Decided.{accepted_in}
use Rattle.tidy.proofs.judging.first_refused.Given as goal

abbrev pub invariant-loop-site : goal.invariant-loop-site
invariant-loop-site l = (earlier : ℕ) → earlier < l.site → accepted_in l.rows l.sets l.olds l.news earlier ≡ true
