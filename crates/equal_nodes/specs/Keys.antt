-- A key that equal nodes share: a number made of the values that the events of its threads tell.
use Rattle.std.specs.Prelude.{ℕ, ◌+◌, ◌*◌, ◌%◌, ◌^◌, unsigned_abs, List, [], ◌∷◌}
use Rattle.values_undef.specs.declared.value.Val.{Val}
use Rattle.values_undef.specs.declared.value.Val.TheVariants.{Def, Undef}
use Rattle.values_undef.specs.declared.access.Event.{Event}
use Rattle.values_undef.specs.declared.access.Event.TheVariants as event

abbrev pub mixed : ℕ → ℕ → ℕ
mixed key n = (key * 1099511628211 % 2 ^ 64 + n) % 2 ^ 64

abbrev pub value_number : Val → ℕ
value_number (Def n) = unsigned_abs n
value_number Undef = 9223372036854775809

-- where a thread stands is told by the values that it has met, so its locations and orders aren't mixed in
abbrev pub event_number : Event → ℕ
event_number (event.NaRead x v) = value_number v
event_number (event.NaWrite x v version) = version
event_number (event.Read y order v to) = value_number v
event_number (event.Write y order v from to) = value_number v
event_number (event.Update y order old new read to) = value_number old
event_number (event.Miss y order old read) = value_number old
event_number (event.Fence order) = 0
event_number (event.Print n) = unsigned_abs n
event_number (event.Fail cause) = 0
event_number (event.FailCompare y read) = 0
event_number event.Finish = 0
event_number event.Spend = 0

abbrev pub thread_key : ℕ → List Event → ℕ
thread_key key [] = key
thread_key key (e ∷ told) = thread_key (mixed key (event_number e)) told

-- a number between the threads tells where the events of one end
abbrev pub threads_key : ℕ → List (List Event) → ℕ
threads_key key [] = key
threads_key key (told ∷ more) = threads_key (mixed (thread_key key told) 257) more

-- the key of a node whose threads have had these events
abbrev pub key_of : List (List Event) → ℕ
key_of told = threads_key 1 told
