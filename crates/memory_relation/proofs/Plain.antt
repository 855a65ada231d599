-- An output, an end and a failure.
use Rattle.std.proofs.Common.{◌++◌, [], ◌∷◌, refl, ap, inl, inr}
use Rattle.values_undef.specs.Matching.{loads, stores, reads, writes, updates, fences, prints, fails, finishes, spends}
use Rattle.memory_relation.specs.Laws.{PlainAccessesAreAnswered}
use Rattle.memory_relation.proofs.Owners.{goes_on}
use Rattle.values_undef.proofs.Callers.{event_refl}

pub plain_answered : PlainAccessesAreAnswered
plain_answered p i t s v w a b m r (loads) h = absurd h
plain_answered p i t s v w a b m r (stores q) h = absurd h
plain_answered p i t s v w a b m r (reads) h = absurd h
plain_answered p i t s v w a b m r (writes q) h = absurd h
plain_answered p i t s v w a b m r (updates q) h = absurd h
plain_answered p i t s v w a b m r (fences) h = absurd h
plain_answered p i t s v w a b m r (prints {n = n}) h = record {
  legal = record { running = m.source_runs; admits = tt };
  cases = inr (
    refl,
    record {
      event = event_refl _;
      goes_on = goes_on p i t s _ _ v w refl refl (record {
        target_places = m.target_places;
        source_places = m.source_places;
        owner_places = m.owner_places;
        cells = m.cells;
        atomic = m.atomic;
        histories = m.histories;
        outputs = ap (λ o. o ++ record { thread = i; value = n } ∷ []) m.outputs;
        target_runs = m.target_runs;
        source_runs = m.source_runs;
      }) r;
    },
  );
}
plain_answered p i t s v w a b m r (fails) h = record {
  legal = record { running = m.source_runs; admits = tt };
  cases = inl (record { event = refl; memory = refl });
}
plain_answered p i t s v w a b m r (finishes) h = record {
  legal = record { running = m.source_runs; admits = tt };
  cases = inr (refl, record { event = event_refl _; goes_on = goes_on p i t s t s v w refl refl m r });
}
plain_answered p i t s v w a b m r (spends) h = record {
  legal = record { running = m.source_runs; admits = tt };
  cases = inr (refl, record { event = event_refl _; goes_on = goes_on p i t s t s v w refl refl m r });
}
