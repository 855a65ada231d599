use Rattle.std.proofs.Common.{◌≡◌, take}
use Rattle.seq_pair.specs.Pair.{Came, pair_run}
use Rattle.seq_pair.specs.Pairing.{pair_in, IsPairOf}
use Rattle.seq_pair.proofs.run.seq_pair.Given as goal

abbrev pub invariant-loop-at : goal.invariant-loop-at
invariant-loop-at l = record {
  reached : pair_run l.source l.target l.function (take l.at l.events) ≡ Came (pair_in l.source l.target l.pair);
  pair : IsPairOf l.source l.target l.function l.pair;
}
