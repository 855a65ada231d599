-- What the event of an access that was legal tells of the memory and the view before it.
use Rattle.std.proofs.Common.{◌≡◌, ℕ, ◌<◌, ◌≤◌, min, max, true, false, [], ◌∷◌, length, get_or, Some, None, refl, sym, ap, subst, ◌∙◌, arith}
use Rattle.std.proofs.lemmas.Bool.{cond_both, false≢true, and_parts, not-true, ltb-false}
use Rattle.std.proofs.lemmas.Option.{none-some, same_Some}
use Rattle.std.specs.List.{AllByRecursion}
use Rattle.std.specs.Option.{IsSome}
use Rattle.values_undef.specs.declared.access.Access.{Access}
use Rattle.values_undef.specs.declared.access.Access.TheVariants as access
use Rattle.values_undef.specs.declared.access.Choice.{Choice}
use Rattle.values_undef.specs.declared.access.Choice.TheVariants.{Plain, Message, Place, Take}
use Rattle.values_undef.specs.declared.access.Event.{Event}
use Rattle.views.specs.ThreadView.{ThreadView}
use Rattle.message_memory.specs.Memory.{Memory, Messages, messages, view_index, message_at, is_free}
use Rattle.message_memory.specs.Step.{StepResult, step_result, AdmitsChoice, IsProper, is_racy, meets_undef, read_at}
use Rattle.message_memory.proofs.Callers.{some_from_and}
use Rattle.exec_graph.specs.Entries.{Stamp, read_by, written_by, is_fence}
use Rattle.exec_graph.specs.Known.{Interval, interval_by}
use Rattle.exec_graph.specs.Races.{na_location}
use Rattle.exec_graph.proofs.Invariant.{stamp_of}

pub record CanRead (m : Memory) (v : ThreadView) (t : Stamp) : Type 0 where
  pub there : t.location < length m.atomic
  pub within : get_or v.cur (view_index m t.location) 0 ≤ t.to
  pub some : IsSome (message_at t.to (messages m t.location))

pub record CanWrite (m : Memory) (v : ThreadView) (i : Interval) : Type 0 where
  pub there : i.location < length m.atomic
  pub above : get_or v.cur (view_index m i.location) 0 < i.to
  pub short : i.from < i.to
  pub free : is_free i.from i.to (messages m i.location) ≡ true

pub record IsLegalEvent (m : Memory) (v : ThreadView) (a : Access) (e : Event) : Type 0 where
  pub reads : (t : Stamp) → read_by e ≡ Some t → CanRead m v t
  pub writes : (i : Interval) → interval_by e ≡ Some i → CanWrite m v i
  pub updates : (t : Stamp) (i : Interval) → read_by e ≡ Some t → interval_by e ≡ Some i → t ≡ stamp_of i.location i.from
  pub fence : is_fence a ≡ true → read_by e ≡ None
  pub fence_writes : is_fence a ≡ true → written_by e ≡ None
  pub na : (x : ℕ) → na_location a ≡ Some x → (read_by e ≡ None) × (is_fence a ≡ false)

-- the event has to do with no message
nothing : (m : Memory) (v : ThreadView) (a : Access) (e : Event) → read_by e ≡ None → interval_by e ≡ None → written_by e ≡ None → ((x : ℕ) → na_location a ≡ Some x → is_fence a ≡ false) → IsLegalEvent m v a e
nothing m v a e r i w f = record {
  reads = λ t q. absurd (none-some t (sym r ∙ q));
  writes = λ t q. absurd (none-some t (sym i ∙ q));
  updates = λ t j q s. absurd (none-some t (sym r ∙ q));
  fence = λ q. r;
  fence_writes = λ q. w;
  na = λ x q. (r, f x q);
}

reading : (m : Memory) (v : ThreadView) (a : Access) (e : Event) (y to : ℕ) → read_by e ≡ Some (stamp_of y to) → interval_by e ≡ None → is_fence a ≡ false → na_location a ≡ None
    → y < length m.atomic → get_or v.cur (view_index m y) 0 ≤ to → IsSome (message_at to (messages m y)) → IsLegalEvent m v a e
reading m v a e y to r i f na l w s = record {
  reads = λ t q. subst (CanRead m v) (same_Some (stamp_of y to) t (sym r ∙ q)) (record { there = l; within = w; some = s });
  writes = λ t q. absurd (none-some t (sym i ∙ q));
  updates = λ t j q s. absurd (none-some j (sym i ∙ s));
  fence = λ q. absurd (false≢true (sym f ∙ q));
  fence_writes = λ q. absurd (false≢true (sym f ∙ q));
  na = λ x q. absurd (none-some x (sym na ∙ q));
}

pub legal_event : (m : Memory) (v : ThreadView) (i : ℕ) (a : Access) (c : Choice) → IsProper m a → AdmitsChoice m v a c → IsLegalEvent m v a (step_result m v i a c).event
legal_event m v i (access.NaRead x) Plain p h = nothing m v (access.NaRead x) _ refl refl refl (λ _ _. refl)
legal_event m v i (access.NaWrite x value) Plain p h =
    cond_both (is_racy m v x) _ _ (λ (o : StepResult). IsLegalEvent m v (access.NaWrite x value) o.event)
    (λ _. nothing m v (access.NaWrite x value) _ refl refl refl (λ _ _. refl)) (λ _. nothing m v (access.NaWrite x value) _ refl refl refl (λ _ _. refl))
legal_event m v i (access.Read y order) (Message to) p h = reading m v (access.Read y order) _ y to refl refl refl refl p.0 h.0 h.1
legal_event m v i (access.Write y order value) (Place from to) p h = record {
  reads = λ t q. absurd (none-some t q);
  writes = λ t q. subst (CanWrite m v) (same_Some (record { location = y; from = from; to = to }) t q) (record { there = p.0; above = h.1; short = h.0; free = h.2 });
  updates = λ t j q s. absurd (none-some t q);
  fence = λ q. absurd (false≢true q);
  fence_writes = λ q. absurd (false≢true q);
  na = λ x q. absurd (none-some x q);
}
legal_event m v i (access.Update y order kind) (Message to) p h =
    cond_both (meets_undef kind (read_at m y to).value) _ _ (λ (o : StepResult). IsLegalEvent m v (access.Update y order kind) o.event)
    (λ _. reading m v (access.Update y order kind) _ y to refl refl refl refl p h.0 (some_from_and _ _ h.1))
    (λ _. reading m v (access.Update y order kind) _ y to refl refl refl refl p h.0 (some_from_and _ _ h.1))
legal_event m v i (access.Update y order kind) (Take read to) p h = record {
  reads = λ t q. subst (CanRead m v) (same_Some (stamp_of y read) t q) (record { there = p; within = h.0; some = some_from_and _ _ h.3 });
  writes = λ t q. subst (CanWrite m v) (same_Some (record { location = y; from = read; to = to }) t q) (let l = h.0 in let k = h.1 in record { there = p; above = omega (arith, l, k); short = h.1; free = h.2 });
  updates = λ t j q s. sym (same_Some (stamp_of y read) t q) ∙ ap (λ (x : Interval). stamp_of x.location x.from) (same_Some (record { location = y; from = read; to = to }) j s);
  fence = λ q. absurd (false≢true q);
  fence_writes = λ q. absurd (false≢true q);
  na = λ x q. absurd (none-some x q);
}
legal_event m v i (access.Fence order) Plain p h = nothing m v (access.Fence order) _ refl refl refl (λ x q. absurd (none-some x q))
legal_event m v i (access.Print n) Plain p h = nothing m v (access.Print n) _ refl refl refl (λ _ _. refl)
legal_event m v i (access.Fail cause) Plain p h = nothing m v (access.Fail cause) _ refl refl refl (λ _ _. refl)
legal_event m v i access.Finish Plain p h = nothing m v access.Finish _ refl refl refl (λ _ _. refl)
legal_event m v i access.Spend Plain p h = nothing m v access.Spend _ refl refl refl (λ _ _. refl)
legal_event m v i _ _ p h = absurd h

-- a free interval lies apart from each message
pub free_from : (from to : ℕ) (h : Messages) → is_free from to h ≡ true → AllByRecursion (λ k. min to k.to ≤ max from k.from) h
free_from from to [] f = tt
free_from from to (m ∷ h) f = (ltb-false _ _ (not-true _ (and_parts _ _ f).0), free_from from to h (and_parts _ _ f).1)
