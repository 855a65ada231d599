-- Events, and the accesses that they come from.
use Rattle.std.proofs.Common.{◌≡◌, ◌⊎◌, ℕ, Bool, true, false, refl, sym, ap, ◌∙◌, ⊎_elim, inl, inr}
use Rattle.std.specs.Prelude.{◌||◌}
use Rattle.std.proofs.lemmas.Bool.{false≢true}
use Rattle.values_undef.specs.Access.{is_failure, ends_thread, is_atomic_event}
use Rattle.values_undef.specs.Journal.{is_finish}
use Rattle.values_undef.specs.declared.access.Access.{Access}
use Rattle.values_undef.specs.declared.access.Access.TheVariants.{NaRead, NaWrite, Read, Write, Update, Fence, Print, Fail, Finish, Spend}
use Rattle.values_undef.specs.declared.access.Choice.{Choice}
use Rattle.values_undef.specs.declared.access.Event.{Event}
use Rattle.values_undef.specs.declared.access.Event.TheVariants as event
use Rattle.views.specs.ThreadView.{ThreadView}
use Rattle.message_memory.specs.Memory.{Memory}
use Rattle.message_memory.specs.Step.{MemStep}
use Rattle.message_memory.specs.EventLaws.{IsOfKind, spends, is_end}
use Rattle.message_memory.proofs.Callers.{events_of_kind}
use Rattle.view_machine.specs.Runs.{is_spend}
use Rattle.chooser.specs.Chosen.{leaves_choice}
use Rattle.thread_core.specs.Alone.{is_last}
use Rattle.run_choices.proofs.Callers.{spend_ends}

not_spend : (a : Access) → (a ≡ Spend → ⊥) → spends a ≡ false
not_spend (NaRead x) n = refl
not_spend (NaWrite x v) n = refl
not_spend (Read y order) n = refl
not_spend (Write y order v) n = refl
not_spend (Update y order kind) n = refl
not_spend (Fence order) n = refl
not_spend (Print v) n = refl
not_spend (Fail cause) n = refl
not_spend Finish n = refl
not_spend Spend n = absurd (n refl)

module _ {m : Memory} {v : ThreadView} {i : ℕ} {a : Access} {c : Choice} {e : Event} {m' : Memory} {v' : ThreadView} (step : MemStep m v i a c e m' v') where
  kind : IsOfKind a e
  kind = events_of_kind m m' v v' i a c e step

  pub spend_of : a ≡ Spend → is_spend e ≡ true
  spend_of is = kind.spends ∙ ap spends is

  pub spend_not : (a ≡ Spend → ⊥) → is_spend e ≡ false
  spend_not n = kind.spends ∙ not_spend a n

  pub atomic_of : is_atomic_event e ≡ leaves_choice a
  atomic_of = kind.atomic

  -- the end of a thread ends it
  pub ends_of : (a ≡ Finish) ⊎ (a ≡ Spend) → ends_thread e ≡ true
  ends_of is = kind.ends ∙ ⊎_elim (λ (f : a ≡ Finish). ap is_end f) (λ (s : a ≡ Spend). ap is_end s) is

pub finish_ends : (e : Event) → is_finish e ≡ true → ends_thread e ≡ true
finish_ends (event.NaRead x v) h = absurd cc
finish_ends (event.NaWrite x v version) h = absurd cc
finish_ends (event.Read y order v to) h = absurd cc
finish_ends (event.Write y order v from to) h = absurd cc
finish_ends (event.Update y order old new read to) h = absurd cc
finish_ends (event.Miss y order old read) h = absurd cc
finish_ends (event.Fence order) h = absurd cc
finish_ends (event.Print v) h = absurd cc
finish_ends (event.Fail cause) h = absurd cc
finish_ends (event.FailCompare y read) h = absurd cc
finish_ends event.Finish h = refl
finish_ends event.Spend h = refl

-- a failure ends no budget
pub fails_or_ends : (e : Event) → is_last e ≡ true → (is_failure e ≡ true) ⊎ (ends_thread e ≡ true)
fails_or_ends e h = or_cases (is_failure e) (ends_thread e) h
  where
    or_cases : (a b : Bool) → (a || b) ≡ true → (a ≡ true) ⊎ (b ≡ true)
    or_cases true b h = inl refl
    or_cases false b h = inr h

pub ends_last : (e : Event) → ends_thread e ≡ true → is_last e ≡ true
ends_last e h = or_right (is_failure e) (ends_thread e) h
  where
    or_right : (a b : Bool) → b ≡ true → (a || b) ≡ true
    or_right true b h = refl
    or_right false b h = h

pub goes_on_ends : (e : Event) → is_last e ≡ false → ends_thread e ≡ false
goes_on_ends e h = or_false (is_failure e) (ends_thread e) h
  where
    or_false : (a b : Bool) → (a || b) ≡ false → b ≡ false
    or_false true b h = absurd (false≢true (sym h))
    or_false false b h = h
