-- What is kept of the messages that entries wrote, by their names.
use Rattle.std.specs.Prelude.{ℕ, List, Option, Some, None, if◌then◌else◌}
use Rattle.std.specs.BTreeMap.{BTreeMap, get, is_at}
use Rattle.exec_graph.specs.declared.stamp.Stamp.{Stamp}
use Rattle.exec_graph.specs.Stamps.{stamp_cmp}

-- the entry that wrote a message, and what the message hands on
pub record Handed : Type 0 where
  pub writer : ℕ
  pub times : List ℕ

-- what the message hands on, where one is kept
abbrev pub times_in : Option Handed → Option (List ℕ)
times_in None = None
times_in (Some message) = Some message.times

-- the entry that wrote the message, where one is kept
abbrev pub writer_in : Option Handed → Option ℕ
writer_in None = None
writer_in (Some message) = Some message.writer

abbrev pub get_in : BTreeMap Stamp Handed → Stamp → Option Handed
get_in messages stamp = get stamp_cmp messages stamp

-- what each message hands on
abbrev pub handed_in : BTreeMap Stamp Handed → Stamp → Option (List ℕ)
handed_in messages stamp = times_in (get_in messages stamp)

-- the entry that wrote each message
abbrev pub writers_in : BTreeMap Stamp Handed → Stamp → Option ℕ
writers_in messages stamp = writer_in (get_in messages stamp)

-- what is kept of the message of a name, if there is a name
abbrev pub message_in : (Stamp → Option Handed) → Option Stamp → Option Handed
message_in kept None = None
message_in kept (Some stamp) = kept stamp

-- what is kept of a message after an entry that wrote one, or did not
abbrev pub with_handed : Option Handed → Handed → Stamp → Option Stamp → Option Handed
with_handed before message stamp None = before
with_handed before message stamp (Some written) = if is_at (stamp_cmp written) stamp then Some message else before
