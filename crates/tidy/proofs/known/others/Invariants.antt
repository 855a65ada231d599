use Rattle.std.proofs.Common.{◌≡◌, ℕ, not, ◌&&◌, Some, take}
use Rattle.il_syntax.specs.declared.statement.Atom.{Atom}
use Rattle.tidy.specs.Known.{touches}
use Rattle.tidy.specs.Rows.{known_in}
use Rattle.tidy.proofs.known.others.Given as goal

abbrev pub invariant-loop-pair : goal.invariant-loop-pair
invariant-loop-pair l = (r : ℕ) (a : Atom) → known_in l.new r a ≡ (not (touches r a (Some l.k)) && known_in (take l.pair-index l.row) r a)
