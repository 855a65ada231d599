-- The first node stands for the initial state.
use Rattle.std.proofs.Common.{◌≡◌, ⊎_elim, ℕ, ℤ, ◌+◌, ◌<◌, true, List, [], length, get_or, refl, sym, ap, ◌∙◌, subst, arith}
use Rattle.std.proofs.lemmas.Bool.{false≢true}
use Rattle.std.proofs.lemmas.List.{length-map, length-replicate, get_or-map, get_or-replicate}
use Rattle.values_undef.specs.Journal.{has_finished}
use Rattle.il_syntax.specs.declared.program.Program.{Program}
use Rattle.il_syntax.specs.declared.program.Start.{Start}
use Rattle.views.specs.ThreadView.{ThreadView, no_view, zero_view}
use Rattle.message_memory.specs.Memory.{Memory, initial_memory}
use Rattle.thread_core.specs.Frames.{Stack}
use Rattle.view_machine.specs.State.{local_in, idle, start_of, declared_values, initial_state}
use Rattle.run_choices.specs.Complete.{has_spent}
use Rattle.memory_likeness.specs.Likeness.{AreViewsAlike}
use Rattle.memory_likeness.proofs.Callers.{openings_alike}
use Rattle.outcome_nodes.specs.Nodes.{first_node, settled, settled_use}
use Rattle.outcome_nodes.proofs.Following.{IsAt}
use Rattle.view_machine.proofs.Callers.{length_values}

no_start : Start
no_start = record { function = 0; args = [] }

pub first_at : (p : Program) (steps : ℕ) → IsAt p steps [] (initial_state p) (first_node p steps)
first_at p steps = record {
  many_locals = length-map p.threads (λ start. settled p steps 0 (start_of p start));
  many_used = length-map p.threads (λ start. settled_use p steps 0 (start_of p start));
  many_views = length-replicate (length p.threads) zero;
  many_printed = length-replicate {A = List ℤ} (length p.threads) [];
  locals = λ j l. get_or-map (λ start. settled p steps 0 (start_of p start)) p.threads j no_start idle l ∙ ap (λ (x : Stack). settled p steps 0 x) (sym (begins j l));
  used = λ j l. get_or-map (λ start. settled_use p steps 0 (start_of p start)) p.threads j no_start 0 l ∙ ap (λ (x : Stack). settled_use p steps 0 x) (sym (begins j l));
  views = λ j l.
      subst (λ (v : ThreadView). AreViewsAlike start start v v) (sym (get_or-replicate (length p.threads) j zero no_view l))
      (subst (λ (n : ℕ). AreViewsAlike start start (zero_view n) (zero_view n)) many (openings_alike (declared_values p.na) (declared_values p.atomic)).1);
  memories = (openings_alike (declared_values p.na) (declared_values p.atomic)).0;
  printed = λ j l. get_or-replicate {A = List ℤ} (length p.threads) j [] [] l;
  finished = λ j l h. absurd (false≢true h);
  spent = λ j l h. absurd (false≢true h);
  ended = λ j h. ⊎_elim (λ (q : has_finished [] j ≡ true). absurd (false≢true q)) (λ (q : has_spent [] j ≡ true). absurd (false≢true q)) h;
  goes = refl;
}
  where
    zero : ThreadView
    zero = zero_view (length p.na + length p.atomic)

    start : Memory
    start = initial_memory (declared_values p.na) (declared_values p.atomic)

    many : length (declared_values p.na) + length (declared_values p.atomic) ≡ length p.na + length p.atomic
    many = omega (arith, length_values p.na, length_values p.atomic)

    begins : (j : ℕ) → j < length p.threads → local_in (initial_state p) j ≡ start_of p (get_or p.threads j no_start)
    begins j l = get_or-map (start_of p) p.threads j no_start idle l
