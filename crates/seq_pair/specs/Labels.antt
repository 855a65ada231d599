-- Labels are what others see of a step. A target's label matches its source's where it is the same label, with
-- values below.
use Rattle.std.specs.Prelude.{ℕ, ℤ, Bool, true, false, ◌||◌, List, [], ◌∷◌, if◌then◌else◌}
use Rattle.values_undef.specs.declared.value.Val.{Val}
use Rattle.values_undef.specs.declared.access.Order.{Order}
use Rattle.values_undef.specs.Value.{IsBelow}
use Rattle.values_undef.specs.Matching.{ValuesBelow}
use Rattle.seq_semantics.specs.declared.seen.Seen.{Seen}
use Rattle.seq_semantics.specs.declared.seen.Seen.TheVariants.{Silent, Plain, Read, Write, Update, Miss, Fence, Print, Call, End, Failed}
use Rattle.seq_pair.specs.declared.trace.PairLabel.{PairLabel}

-- others see it: it is neither silent nor an access of a non-atomic location
abbrev pub is_label : Seen → Bool
is_label Silent = false
is_label Plain = false
is_label _ = true

abbrev pub is_failed : Seen → Bool
is_failed (Failed compare cause) = true
is_failed _ = false

-- the target's label and the source's; no label matches a failure
pub data Matches : Seen → Seen → Type 0 where
  reads_below : {y : ℕ} {order : Order} {a b : Val} → IsBelow a b → Matches (Read y order a) (Read y order b)
  writes_below : {y : ℕ} {order : Order} {a b : Val} → IsBelow a b → Matches (Write y order a) (Write y order b)
  updates_below : {y : ℕ} {order : Order} {a b c d : Val} → IsBelow a b → IsBelow c d → Matches (Update y order a c) (Update y order b d)
  misses_below : {y : ℕ} {order : Order} {a b : Val} → IsBelow a b → Matches (Miss y order a) (Miss y order b)
  fences_alike : {order : Order} → Matches (Fence order) (Fence order)
  prints_alike : {n : ℤ} → Matches (Print n) (Print n)
  calls_below : {f : ℕ} {ts ss : List Val} → ValuesBelow ts ss → Matches (Call f ts) (Call f ss)
  ends_below : {a b : Val} → IsBelow a b → Matches (End a) (End b)

abbrev pub LabelMatches : PairLabel → Type 0
LabelMatches label = Matches label.target label.source

-- what is written down of a step: both labels, where either is seen
abbrev pub labelled : Seen → Seen → List PairLabel
labelled t s = if is_label t || is_label s then record { target = t; source = s } ∷ [] else []
