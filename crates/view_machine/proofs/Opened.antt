-- Where the threads of a program begin.
use Rattle.std.proofs.Common.{◌≡◌, ℕ, ◌+◌, Bool, false, List, [], ◌∷◌, ◌++◌, length, map, take, replicate, Option, Some, None, slice_get, IsSomeAnd, refl, sym, ap, subst, ◌∙◌}
use Rattle.std.specs.List.{AllByRecursion}
use Rattle.std.proofs.lemmas.List.{length-map, length-replicate, take_more, map-append}
use Rattle.std.proofs.lemmas.Option.{slice_get_within, get_or_from_slice_get}
use Rattle.il_syntax.specs.declared.program.Program.{Program}
use Rattle.il_syntax.specs.declared.program.Start.{Start}
use Rattle.views.specs.ThreadView.{ThreadView, zero_view}
use Rattle.message_memory.specs.Memory.{Memory, initial_memory}
use Rattle.message_memory.specs.History.{IsWellFormedState}
use Rattle.message_memory.proofs.Callers.{initial_state_well_formed}
use Rattle.view_machine.proofs.Reached.{initial_memories}
use Rattle.thread_core.specs.Steps.{Positions, stack_in}
use Rattle.view_machine.specs.State.{start_of, declared_values}
use Rattle.view_machine.specs.Held.{IsWhole}

pub whole_at_first : (p : Program) (locals : List Positions) (views : List ThreadView) (ended : List Bool) (memory : Memory) (spare : ℕ)
    → map (stack_in p) locals ≡ map (start_of p) p.threads → views ≡ replicate (length p.threads) (zero_view (length p.na + length p.atomic))
    → ended ≡ replicate (length p.threads) false → memory ≡ initial_memory (declared_values p.na) (declared_values p.atomic)
    → IsWhole (record { locals = locals; views = views; ended = ended; memory = memory; spare = spare })
whole_at_first p locals views ended memory spare l v e m =
    let n : length locals ≡ length p.threads = sym (length-map locals (stack_in p)) ∙ ap length l ∙ length-map p.threads (start_of p) in
    record {
      views = ap length v ∙ length-replicate (length p.threads) (zero_view (length p.na + length p.atomic)) ∙ sym n;
      ended = ap length e ∙ length-replicate (length p.threads) false ∙ sym n;
      well_formed = subst IsWellFormedState (λ i. record { memory = (sym m) i; views = (sym v) i }) (subst IsWellFormedState (initial_memories p) (initial_state_well_formed (declared_values p.na) (declared_values p.atomic) (length p.threads)));
    }
