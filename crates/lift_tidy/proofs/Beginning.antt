-- The beginning, and the runs from it.
use Rattle.std.proofs.Common.{◌≡◌, ℕ, zero, suc, ◌+◌, ◌<◌, false, List, [], ◌∷◌, length, get_or, replicate, map, refl, sym, ap, ◌∙◌, subst, arith}
use Rattle.std.proofs.lemmas.List.{length-map}
use Rattle.std.proofs.lemmas.Option.{same_Some}
use Rattle.std.specs.List.{AllByRecursion}
use Rattle.values_undef.specs.declared.value.Val.TheVariants.{Def}
use Rattle.il_syntax.specs.declared.program.Location.{Location}
use Rattle.il_syntax.specs.declared.program.Function.{Function}
use Rattle.il_syntax.specs.declared.program.Program.{Program}
use Rattle.il_syntax.specs.declared.program.Start.{Start}
use Rattle.views.specs.ThreadView.{zero_view}
use Rattle.message_memory.specs.Memory.{initial_memory}
use Rattle.thread_core.specs.Programs.{function_at, IsProperStart}
use Rattle.view_machine.specs.State.{State, idle, start_of, declared_values, initial_state}
use Rattle.view_machine.proofs.Callers.{initial_reached}
use Rattle.refinement.proofs.Callers.{run_played}
use Rattle.lift_tidy.specs.Stacks.{StacksTidied}
use Rattle.lift_tidy.specs.States.{AreTidied, AreStatesTidied}
use Rattle.lift_tidy.specs.Laws.{BeginningsAreTidied, TidiedRunsArePlayable}
use Rattle.lift_tidy.proofs.Calls.{begins}
use Rattle.lift_tidy.proofs.Programs.{function_pairs}
use Rattle.lift_tidy.proofs.Threads.{some_of}
use Rattle.lift_tidy.proofs.Steps.{silent_played, events_played}

module _ (source target : Program) (ok : AreTidied source target) where
  start_begins : (x : Start) → IsProperStart source x → StacksTidied source target (start_of target x) (start_of source x)
  start_begins x h =
      let there = some_of (function_at source x.function) _ h in
      let pair = function_pairs source target ok x.function there.0 there.1 in
      record { top = begins x.function pair (map Def x.args) (length-map x.args Def ∙ there.2 ∙ ap (λ (g : Function). g.params) (same_Some there.0 pair.old (sym there.1 ∙ pair.source_has))); callers = tt }

  all_begin : (xs : List Start) (i : ℕ) → i < length xs → AllByRecursion (IsProperStart source) xs → StacksTidied source target (get_or (map (start_of target) xs) i idle) (get_or (map (start_of source) xs) i idle)
  all_begin [] i l h = absurd (omega arith)
  all_begin (x ∷ xs) zero l h = start_begins x h.0
  all_begin (x ∷ xs) (suc i) l h = all_begin xs i (omega arith) h.1

  -- the target begins as the source, but for its code
  abbrev t0 : State
  t0 = record { locals = map (start_of target) source.threads; views = (initial_state source).views; ended = (initial_state source).ended; memory = (initial_state source).memory }

  begins_alike : initial_state target ≡ t0
  begins_alike =
      ap (λ (xs : List Start). record {
        locals = map (start_of target) xs;
        views = replicate (length xs) (zero_view (length target.na + length target.atomic));
        ended = replicate (length xs) false;
        memory = initial_memory (declared_values target.na) (declared_values target.atomic);
      }) ok.threads
      ∙ ap (λ (xs : List Location). record {
        locals = map (start_of target) source.threads;
        views = replicate (length source.threads) (zero_view (length xs + length target.atomic));
        ended = replicate (length source.threads) false;
        memory = initial_memory (declared_values xs) (declared_values target.atomic);
      }) ok.na
      ∙ ap (λ (xs : List Location). record {
        locals = map (start_of target) source.threads;
        views = replicate (length source.threads) (zero_view (length source.na + length xs));
        ended = replicate (length source.threads) false;
        memory = initial_memory (declared_values source.na) (declared_values xs);
      }) ok.atomic

  beginning : AreStatesTidied source target (initial_state target) (initial_state source)
  beginning =
      subst (λ (t : State). AreStatesTidied source target t (initial_state source)) (sym begins_alike) (record {
        memory = refl;
        views = refl;
        ended = refl;
        count = omega (arith, length-map source.threads (start_of target), length-map source.threads (start_of source));
        threads = λ i l. all_begin source.threads i (omega (arith, l, length-map source.threads (start_of target))) ok.source_proper.threads;
        reached = initial_reached source ok.source_proper;
      })

pub beginnings : BeginningsAreTidied
beginnings source target ok = beginning source target ok

pub runs_playable : TidiedRunsArePlayable
runs_playable source target entries ok run =
    run_played source target false (AreStatesTidied source target) (λ t s i h step quiet. silent_played source target t s i ok h step quiet) (λ t s i e h m. events_played source target t s i e ok h m)
    (initial_state target) (initial_state source) entries run (beginning source target ok)
