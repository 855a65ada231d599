-- The calls at work: what they tell after three writes, two one behind the other and one into the first gap.
use Rattle.std.proofs.Common.{◌≡◌, ℕ, pos, [], ◌∷◌, length, Some, None, refl}
use Rattle.values_undef.specs.declared.value.Val.TheVariants.{Def}
use Rattle.values_undef.specs.declared.access.Order.TheVariants.{Rlx}
use Rattle.values_undef.specs.declared.access.Access.TheVariants.{Write}
use Rattle.values_undef.specs.declared.access.Choice.TheVariants.{Place}
use Rattle.views.specs.ThreadView.{zero_view}
use Rattle.message_memory.specs.Memory.{Memory, Messages, initial_memory, messages}
use Rattle.message_memory.specs.Step.{step_result}
use Rattle.indexed_memory.specs.declared.ranks.Rank.TheVariants.{At, Between}
use Rattle.indexed_memory.specs.Calls.{rank_in, gap_in}

-- the memory after a write of 1 to the one location, by a thread that knows nothing yet
abbrev written : Memory → ℕ → ℕ → Memory
written m from to = (step_result m (zero_view 1) 0 (Write 0 Rlx (Def (pos 1))) (Place from to)).memory

abbrev three_written : Messages
three_written = messages (written (written (written (initial_memory [] (pos 0 ∷ [])) 1048576 2097152) 3145728 4194304) 262144 524288) 0

pub there_are_four : length three_written ≡ 4
there_are_four = refl

pub a_message_is_found : rank_in 524288 three_written ≡ At 1
a_message_is_found = refl

pub between_two_messages : rank_in 600000 three_written ≡ Between 2
between_two_messages = refl

pub first_gap : gap_in 0 three_written ≡ Some 262144
first_gap = refl

pub second_gap : gap_in 1 three_written ≡ Some 524288
second_gap = refl

pub last_has_no_gap : gap_in 3 three_written ≡ None
last_has_no_gap = refl
