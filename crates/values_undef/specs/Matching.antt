-- Values, accesses and events that stand below others: equal but for values, and these below. So stands
-- what a thread of an optimised program does to what its source does.
use Rattle.std.specs.Prelude.{◌≡◌, ◌⊎◌, ℕ, ℤ, Bool, true, false, List, [], ◌∷◌}
use Rattle.std.specs.List.{AllZip}
use Rattle.values_undef.specs.Value.{IsBelow}
use Rattle.values_undef.specs.Update.{succeeds, meets_undef, updated}
use Rattle.values_undef.specs.declared.value.Val.{Val}
use Rattle.values_undef.specs.declared.value.Val.TheVariants.{Undef}
use Rattle.values_undef.specs.declared.access.Order.{Order}
use Rattle.values_undef.specs.declared.access.Cause.{Cause}
use Rattle.values_undef.specs.declared.access.UpdateKind.{UpdateKind}
use Rattle.values_undef.specs.declared.access.UpdateKind.TheVariants.{Add, Swap, Cas}
use Rattle.values_undef.specs.declared.access.Access.{Access}
use Rattle.values_undef.specs.declared.access.Access.TheVariants.{NaRead, NaWrite, Read, Write, Update, Fence, Print, Fail, Finish, Spend}
use Rattle.values_undef.specs.declared.access.Choice.{Choice}
use Rattle.values_undef.specs.declared.access.Choice.TheVariants.{Plain, Message, Place, Take}
use Rattle.values_undef.specs.declared.access.Event.{Event}
use Rattle.values_undef.specs.declared.access.Event.TheVariants as event

-- one value below the other, all along
abbrev pub ValuesBelow : List Val → List Val → Type 0
ValuesBelow ts ss = AllZip IsBelow ts ss

-- ---- updates

-- the same update, of values below
pub data IsKindBelow : UpdateKind → UpdateKind → Type 0 where
  adds : {a b : Val} → IsBelow a b → IsKindBelow (Add a) (Add b)
  swaps : {a b : Val} → IsBelow a b → IsKindBelow (Swap a) (Swap b)
  compares : {a b c d : Val} → IsBelow a b → IsBelow c d → IsKindBelow (Cas a c) (Cas b d)

-- two updates on two values do the same: neither meets `Undef`, both write or neither does, and what the
-- first writes is below
pub record DoTheSame (k l : UpdateKind) (a b : Val) : Type 0 where
  pub target_defined : meets_undef k a ≡ false
  pub source_defined : meets_undef l b ≡ false
  pub same : succeeds k a ≡ succeeds l b
  pub new : IsBelow (updated k a) (updated l b)

-- of two updates one below the other, on values one below the other, the upper one meets `Undef`, or they
-- do the same
abbrev pub UpdatesMatch : Type 0
UpdatesMatch = (k l : UpdateKind) (a b : Val) → IsKindBelow k l → IsBelow a b → (meets_undef l b ≡ true) ⊎ DoTheSame k l a b

-- ---- accesses

-- the first access is the second, with values below its values
pub data IsAccessBelow : Access → Access → Type 0 where
  loads : {x : ℕ} → IsAccessBelow (NaRead x) (NaRead x)
  stores : {x : ℕ} {a b : Val} → IsBelow a b → IsAccessBelow (NaWrite x a) (NaWrite x b)
  reads : {y : ℕ} {order : Order} → IsAccessBelow (Read y order) (Read y order)
  writes : {y : ℕ} {order : Order} {a b : Val} → IsBelow a b → IsAccessBelow (Write y order a) (Write y order b)
  updates : {y : ℕ} {order : Order} {k l : UpdateKind} → IsKindBelow k l → IsAccessBelow (Update y order k) (Update y order l)
  fences : {order : Order} → IsAccessBelow (Fence order) (Fence order)
  prints : {n : ℤ} → IsAccessBelow (Print n) (Print n)
  fails : {cause : Cause} → IsAccessBelow (Fail cause) (Fail cause)
  finishes : IsAccessBelow Finish Finish
  spends : IsAccessBelow Spend Spend

-- ---- events

-- the event without its values, and without the version of a non-atomic write
abbrev pub form_of : Event → Event
form_of (event.NaRead x v) = event.NaRead x Undef
form_of (event.NaWrite x v version) = event.NaWrite x Undef 0
form_of (event.Read y order v to) = event.Read y order Undef to
form_of (event.Write y order v from to) = event.Write y order Undef from to
form_of (event.Update y order old new read to) = event.Update y order Undef Undef read to
form_of (event.Miss y order old read) = event.Miss y order Undef read
form_of (event.Fence order) = event.Fence order
form_of (event.Print n) = event.Print n
form_of (event.Fail cause) = event.Fail cause
form_of (event.FailCompare y read) = event.FailCompare y read
form_of event.Finish = event.Finish
form_of event.Spend = event.Spend

-- the values of an event
abbrev pub values_of : Event → List Val
values_of (event.NaRead x v) = v ∷ []
values_of (event.NaWrite x v version) = v ∷ []
values_of (event.Read y order v to) = v ∷ []
values_of (event.Write y order v from to) = v ∷ []
values_of (event.Update y order old new read to) = old ∷ new ∷ []
values_of (event.Miss y order old read) = old ∷ []
values_of (event.Fence order) = []
values_of (event.Print v) = []
values_of (event.Fail cause) = []
values_of (event.FailCompare y read) = []
values_of event.Finish = []
values_of event.Spend = []

-- equal form, location, order, timestamps and cause, and values below
pub record IsEventBelow (e f : Event) : Type 0 where
  pub form : form_of e ≡ form_of f
  pub values : ValuesBelow (values_of e) (values_of f)

-- the event is none of a non-atomic location
abbrev pub is_traced : Event → Bool
is_traced (event.NaRead x v) = false
is_traced (event.NaWrite x v version) = false
is_traced (event.Read y order v to) = true
is_traced (event.Write y order v from to) = true
is_traced (event.Update y order old new read to) = true
is_traced (event.Miss y order old read) = true
is_traced (event.Fence order) = true
is_traced (event.Print v) = true
is_traced (event.Fail cause) = true
is_traced (event.FailCompare y read) = true
is_traced event.Finish = true
is_traced event.Spend = true

-- what is left of a choice whose place is given up
abbrev pub without_place : Choice → Choice
without_place Plain = Plain
without_place (Message to) = Message to
without_place (Place from to) = Place from to
without_place (Take read to) = Message read

-- to be below is a preorder of events: of two events below each other only the versions may differ
pub record EventsAreOrdered : Type 0 where
  pub reflexive : (e : Event) → IsEventBelow e e
  pub transitive : (e f g : Event) → IsEventBelow e f → IsEventBelow f g → IsEventBelow e g
