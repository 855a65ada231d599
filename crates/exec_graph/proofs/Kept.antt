-- What is kept of messages, as its two parts.
use Rattle.std.proofs.Common.{◌≡◌, ℕ, List, Bool, true, false, cond, Option, Some, None, refl}
use Rattle.std.specs.BTreeMap.{is_at}
use Rattle.exec_graph.specs.declared.stamp.Stamp.{Stamp}
use Rattle.exec_graph.specs.declared.links.Link.{Link}
use Rattle.exec_graph.specs.Handed.{Handed}
use Rattle.exec_graph.specs.Stamps.{stamp_cmp}
use Rattle.exec_graph.specs.Clock.{times_at, with_times}
use Rattle.exec_graph.specs.Made.{with_read, with_writer}
use Rattle.exec_graph.specs.Handed.{times_in, writer_in, message_in, with_handed}

pub times_kept : (kept : Stamp → Option Handed) (o : Option Stamp) → times_in (message_in kept o) ≡ times_at (λ stamp. times_in (kept stamp)) o
times_kept kept None = refl
times_kept kept (Some stamp) = refl

pub read_kept : (links : List Link) (kept : Stamp → Option Handed) (k : ℕ) (o : Option Stamp) → with_read links (λ _. writer_in (message_in kept o)) k o ≡ with_read links (λ stamp. writer_in (kept stamp)) k o
read_kept links kept k None = refl
read_kept links kept k (Some stamp) = refl

pub times_with : (before : Option Handed) (message : Handed) (stamp : Stamp) (o : Option Stamp) → times_in (with_handed before message stamp o) ≡ with_times (times_in before) message.times stamp o
times_with before message stamp None = refl
times_with before message stamp (Some written) = by (is_at (stamp_cmp written) stamp)
  where
    by : (b : Bool) → times_in (cond b (Some message) before) ≡ cond b (Some message.times) (times_in before)
    by true = refl
    by false = refl

pub writer_with : (before : Option Handed) (message : Handed) (stamp : Stamp) (o : Option Stamp) → writer_in (with_handed before message stamp o) ≡ with_writer (writer_in before) message.writer stamp o
writer_with before message stamp None = refl
writer_with before message stamp (Some written) = by (is_at (stamp_cmp written) stamp)
  where
    by : (b : Bool) → writer_in (cond b (Some message) before) ≡ cond b (Some message.writer) (writer_in before)
    by true = refl
    by false = refl
