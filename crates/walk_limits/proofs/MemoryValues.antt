-- The memory holds values, and the events of its steps tell values.
use Rattle.std.proofs.Common.{ℕ, pos, eqb, List, [], ◌∷◌, Option, Some, arith}
use Rattle.std.proofs.lemmas.Bool.{cond_both}
use Rattle.std.specs.List.{AllByRecursion}
use Rattle.std.specs.Option.{unwrap_or}
use Rattle.values_undef.proofs.Callers.{all_or, all_set, all_map}
use Rattle.values_undef.specs.declared.value.Val.{Val}
use Rattle.values_undef.specs.declared.value.Val.TheVariants.{Undef}
use Rattle.values_undef.specs.declared.arithmetic.Op.TheVariants.{Add as Sum}
use Rattle.values_undef.specs.declared.access.UpdateKind.{UpdateKind}
use Rattle.values_undef.specs.declared.access.UpdateKind.TheVariants as kind
use Rattle.values_undef.specs.declared.access.Access.{Access}
use Rattle.values_undef.specs.declared.access.Access.TheVariants.{NaRead, NaWrite, Read, Write, Update, Fence, Print, Fail, Finish, Spend}
use Rattle.values_undef.specs.declared.access.Choice.{Choice}
use Rattle.values_undef.specs.declared.access.Choice.TheVariants.{Message, Place, Take}
use Rattle.il_syntax.specs.declared.program.Location.{Location}
use Rattle.views.specs.ThreadView.{ThreadView}
use Rattle.message_memory.specs.declared.message.Message.{Message as TheMessage}
use Rattle.message_memory.specs.declared.message.Versioned.{Versioned}
use Rattle.message_memory.specs.Memory.{Memory, Messages, messages, location_in, absent_location, message_at, first_message, inserted, with_message, initial_memory}
use Rattle.message_memory.specs.Step.{StepResult, step_result, is_racy, meets_undef, read_value, read_at, updated, write_message, update_message}
use Rattle.message_memory.proofs.Callers.{all_inserted}
use Rattle.view_machine.specs.State.{declared_values}
use Rattle.journal_text.specs.Limits.{Has64Bits, IsValue}
use Rattle.walk_limits.specs.Values.{HasEventValues}
use Rattle.walk_limits.proofs.ResultValues.{strict_value}
use Rattle.walk_limits.proofs.Constants.{FitsLocation}
use Rattle.walk_limits.proofs.ThreadValues.{FitsKind, FitsAccess}

-- a location, a message, the messages of a location
abbrev pub FitsVersioned : Versioned → Type 0
FitsVersioned location = IsValue location.value

abbrev pub FitsMessage : TheMessage → Type 0
FitsMessage message = IsValue message.value

abbrev pub FitMessages : Messages → Type 0
FitMessages = AllByRecursion FitsMessage

-- each location and each message holds a value
pub record FitsMemory (m : Memory) : Type 0 where
  pub na : AllByRecursion FitsVersioned m.na
  pub atomic : AllByRecursion FitMessages m.atomic

-- ---- what is read

messages_fit : (m : Memory) (y : ℕ) → FitsMemory m → FitMessages (messages m y)
messages_fit m y h = all_or FitMessages m.atomic y [] tt h.atomic

read_value_fits : (m : Memory) (view : ThreadView) (x : ℕ) → FitsMemory m → IsValue (read_value m view x)
read_value_fits m view x h =
    cond_both (is_racy m view x) Undef (location_in m x).value IsValue (λ e. tt) (λ e. all_or FitsVersioned m.na x absent_location tt h.na)

found_fits : (t : ℕ) (h : Messages) (d : TheMessage) → FitsMessage d → FitMessages h → FitsMessage (unwrap_or (message_at t h) d)
found_fits t [] d q h = q
found_fits t (m ∷ ms) d q h =
    cond_both (eqb m.to t) (Some m) (message_at t ms) (λ (o : Option TheMessage). FitsMessage (unwrap_or o d)) (λ e. h.0) (λ e. found_fits t ms d q h.1)

read_at_fits : (m : Memory) (y to : ℕ) → FitsMemory m → FitsMessage (read_at m y to)
read_at_fits m y to h = found_fits to (messages m y) (first_message 0 (pos 0)) (omega arith) (messages_fit m y h)

updated_value : (k : UpdateKind) (old : Val) → FitsKind k → IsValue old → IsValue (updated k old)
updated_value (kind.Add a) old h q = strict_value Sum old a q
updated_value (kind.Swap a) old h q = h
updated_value (kind.Cas expected new) old h q = h.1

-- ---- what is kept

with_message_fits : (m : Memory) (y : ℕ) (message : TheMessage) → FitsMemory m → FitsMessage message → FitsMemory (with_message m y message)
with_message_fits m y message h q = record {
  na = h.na;
  atomic = all_set FitMessages m.atomic y (inserted message (messages m y)) (all_inserted FitsMessage message (messages m y) q (messages_fit m y h)) h.atomic;
}

-- the event tells values, and the memory holds values after it
abbrev pub FitsResult : StepResult → Type 0
FitsResult r = HasEventValues r.event × FitsMemory r.memory

-- an access that hands over values, with any choice, legal or not
pub access_fits : (m : Memory) (view : ThreadView) (i : ℕ) (a : Access) (c : Choice) → FitsMemory m → FitsAccess a → FitsResult (step_result m view i a c)
access_fits m view i (NaRead x) c h q = (read_value_fits m view x h, h)
access_fits m view i (NaWrite x value) c h q =
    cond_both (is_racy m view x) _ _ FitsResult
    (λ e. (tt, record { na = h.na; atomic = h.atomic }))
    (λ e. (q, record { na = all_set FitsVersioned m.na x _ q h.na; atomic = h.atomic }))
access_fits m view i (Read y order) (Message to) h q = (read_at_fits m y to h, h)
access_fits m view i (Write y order value) (Place from to) h q = (q, with_message_fits m y (write_message m view y order value from to) h q)
access_fits m view i (Update y order k) (Message to) h q =
    cond_both (meets_undef k (read_at m y to).value) _ _ FitsResult
    (λ e. (tt, record { na = h.na; atomic = h.atomic }))
    (λ e. (read_at_fits m y to h, h))
access_fits m view i (Update y order k) (Take read to) h q =
    let old = read_at_fits m y read h in
    let new = updated_value k (read_at m y read).value q old in
    ((old, new), with_message_fits m y (update_message m view y order k (read_at m y read) read to) h new)
access_fits m view i (Fence order) c h q = (q, record { na = h.na; atomic = h.atomic })
access_fits m view i (Print n) c h q = (q, record { na = h.na; atomic = h.atomic })
access_fits m view i (Fail cause) c h q = (tt, record { na = h.na; atomic = h.atomic })
access_fits m view i Finish c h q = (tt, h)
access_fits m view i Spend c h q = (tt, h)
access_fits m view i (Read y order) _ h q = (tt, h)
access_fits m view i (Write y order value) _ h q = (tt, h)
access_fits m view i (Update y order k) _ h q = (tt, h)

-- ---- the first memory

values_fit : (locations : List Location) → AllByRecursion FitsLocation locations → AllByRecursion Has64Bits (declared_values locations)
values_fit locations h = all_map FitsLocation Has64Bits (λ l. l.value) locations (λ l q. q) h

pub initial_memory_fits : (na atomic : List Location) → AllByRecursion FitsLocation na → AllByRecursion FitsLocation atomic → FitsMemory (initial_memory (declared_values na) (declared_values atomic))
initial_memory_fits na atomic h q = record {
  na = all_map Has64Bits FitsVersioned _ (declared_values na) (λ n b. b) (values_fit na h);
  atomic = all_map Has64Bits FitMessages _ (declared_values atomic) (λ n b. (b, tt)) (values_fit atomic q);
}
