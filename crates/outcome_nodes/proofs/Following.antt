-- A run is followed by the nodes of a closed list.
use Rattle.std.proofs.Common.{◌≡◌, ◌⊎◌, inl, inr, ⊎_elim, ℕ, ℤ, ◌+◌, ◌<◌, ◌≤◌, Bool, true, false, cond, eqb, ◌&&◌, List, [], ◌∷◌, ◌++◌, length, map, set, refl, sym, ap, ◌∙◌, subst, arith}
use Rattle.std.specs.Prelude.{◌||◌}
use Rattle.std.proofs.lemmas.Bool.{cases_eq, true≢false, cond-true, cond-false, eq-eqb, ne_eqb, eqb-true, and_parts}
use Rattle.std.proofs.lemmas.List.{append-nil, length-set, length-map, get_or-map, get_or-set_same, get_or-set_other}
use Rattle.values_undef.specs.Access.{choice_of_event, is_failure, ends_thread, is_spend}
use Rattle.values_undef.specs.Journal.{is_finish, last_fails, has_finished, entry_steps, used_steps}
use Rattle.values_undef.specs.declared.access.Access.{Access}
use Rattle.values_undef.specs.declared.access.Event.{Event}
use Rattle.values_undef.specs.declared.journal.Entry.{Entry}
use Rattle.il_syntax.specs.declared.program.Program.{Program}
use Rattle.views.specs.ThreadView.{ThreadView, no_view}
use Rattle.message_memory.specs.Memory.{Memory}
use Rattle.message_memory.specs.Step.{StepResult, step_result}
use Rattle.thread_core.specs.declared.next.Next.TheVariants as next
use Rattle.thread_core.specs.Frames.{Stack, next_of}
use Rattle.thread_core.specs.Alone.{local_after_silent, local_after_event}
use Rattle.view_machine.specs.State.{State, local_in, view_in, has_ended, idle}
use Rattle.run_choices.specs.Complete.{has_spent}
use Rattle.run_choices.proofs.Callers.{used_more, spent_more, fails_more}
use Rattle.memory_likeness.specs.Likeness.{AreViewsAlike, AreMemoriesAlike, without_stamps}
use Rattle.memory_likeness.specs.Answering.{StayAlike, IsFollowed, view_with_room}
use Rattle.memory_likeness.proofs.Callers.{other_flags}
use Rattle.outcome_nodes.specs.Nodes.{Node, local_of, used_of, view_at, printed_of, settled, settled_use, prints, result_at, after_move, IsFinished, IsSpent, printed_by, told_by, HasPrinted}
use Rattle.outcome_nodes.proofs.Settling.{SettlesAlike, settles_alike, stays_at_access}
use Rattle.outcome_nodes.proofs.Entries.{EntryDone}
use Rattle.outcome_nodes.proofs.Appending.{prints_same, local_same, finished_more, printed_more, told_more, unended}

-- the node stands for the state, which the entries have led to
pub record IsAt (p : Program) (steps : ℕ) (before : List Entry) (s : State) (n : Node) : Type 0 where
  pub many_locals : length n.locals ≡ length p.threads
  pub many_used : length n.used ≡ length p.threads
  pub many_views : length n.views ≡ length p.threads
  pub many_printed : length n.printed ≡ length p.threads
  pub locals : (j : ℕ) → j < length p.threads → local_of n j ≡ settled p steps (used_steps before j) (local_in s j)
  pub used : (j : ℕ) → j < length p.threads → used_of n j ≡ settled_use p steps (used_steps before j) (local_in s j)
  pub views : (j : ℕ) → j < length p.threads → AreViewsAlike s.memory n.memory (view_in s j) (view_at n j)
  pub memories : AreMemoriesAlike s.memory n.memory
  pub printed : HasPrinted (length p.threads) n before
  pub finished : (j : ℕ) → j < length p.threads → has_finished before j ≡ true → IsFinished n j
  pub spent : (j : ℕ) → j < length p.threads → has_spent before j ≡ true → IsSpent steps n j
  pub ended : (j : ℕ) → (has_finished before j ≡ true) ⊎ (has_spent before j ≡ true) → has_ended s j ≡ true
  pub goes : last_fails before ≡ false

-- ---- one more entry

or_true : (b c : Bool) → (b || c) ≡ true → (b ≡ true) ⊎ (c ≡ true)
or_true true c e = inl refl
or_true false c e = inr e

module _ (before : List Entry) (e : Entry) where
  pub used_here : used_steps (before ++ e ∷ []) e.thread ≡ used_steps before e.thread + entry_steps e
  used_here = used_more before e e.thread ∙ ap (λ (n : ℕ). used_steps before e.thread + n) (cond-true (eqb e.thread e.thread) (entry_steps e) 0 (eq-eqb e.thread e.thread refl))

  pub used_other : (j : ℕ) → (j ≡ e.thread → ⊥) → used_steps (before ++ e ∷ []) j ≡ used_steps before j
  used_other j n =
      let none : cond (eqb e.thread j) (entry_steps e) 0 ≡ 0 = cond-false (eqb e.thread j) (entry_steps e) 0 (ne_eqb e.thread j (λ q. n (sym q))) in
      omega (arith, used_more before e j, none)

  pub printed_here : printed_by (before ++ e ∷ []) e.thread ≡ printed_by before e.thread ++ prints e.event
  printed_here = printed_more before e e.thread ∙ ap (λ (r : List ℤ). printed_by before e.thread ++ r) (cond-true (eqb e.thread e.thread) (prints e.event) [] (eq-eqb e.thread e.thread refl))

  pub printed_other : (j : ℕ) → (j ≡ e.thread → ⊥) → printed_by (before ++ e ∷ []) j ≡ printed_by before j
  printed_other j n =
      printed_more before e j ∙ ap (λ (r : List ℤ). printed_by before j ++ r) (cond-false (eqb e.thread j) (prints e.event) [] (ne_eqb e.thread j (λ q. n (sym q)))) ∙ append-nil (printed_by before j)

  pub printed_none : prints e.event ≡ [] → (j : ℕ) → printed_by (before ++ e ∷ []) j ≡ printed_by before j
  printed_none q j =
      ⊎_elim
      (λ (f : j ≡ e.thread). subst (λ (k : ℕ). printed_by (before ++ e ∷ []) k ≡ printed_by before k) (sym f) (printed_here ∙ ap (λ (r : List ℤ). printed_by before e.thread ++ r) q ∙ append-nil (printed_by before e.thread)))
      (λ (f : j ≡ e.thread → ⊥). printed_other j f)
      (cases_eq j e.thread)

  pub told_here : told_by (before ++ e ∷ []) e.thread ≡ told_by before e.thread ++ without_stamps e.event ∷ []
  told_here = told_more before e e.thread ∙ ap (λ (r : List Event). told_by before e.thread ++ r) (cond-true (eqb e.thread e.thread) (without_stamps e.event ∷ []) [] (eq-eqb e.thread e.thread refl))

  pub told_other : (j : ℕ) → (j ≡ e.thread → ⊥) → told_by (before ++ e ∷ []) j ≡ told_by before j
  told_other j n =
      told_more before e j ∙ ap (λ (r : List Event). told_by before j ++ r) (cond-false (eqb e.thread j) (without_stamps e.event ∷ []) [] (ne_eqb e.thread j (λ q. n (sym q)))) ∙ append-nil (told_by before j)

  pub finished_from : (j : ℕ) → has_finished (before ++ e ∷ []) j ≡ true → (has_finished before j ≡ true) ⊎ ((e.thread ≡ j) × (is_finish e.event ≡ true))
  finished_from j h =
      ⊎_elim (λ (q : has_finished before j ≡ true). inl q) (λ (q : (eqb e.thread j && is_finish e.event) ≡ true). let r = and_parts _ _ q in inr (eqb-true e.thread j r.0, r.1))
      (or_true (has_finished before j) (eqb e.thread j && is_finish e.event) (sym (finished_more before e j) ∙ h))

  pub spent_from : (j : ℕ) → has_spent (before ++ e ∷ []) j ≡ true → (has_spent before j ≡ true) ⊎ ((e.thread ≡ j) × (is_spend e.event ≡ true))
  spent_from j h =
      ⊎_elim (λ (q : has_spent before j ≡ true). inl q) (λ (q : (eqb e.thread j && is_spend e.event) ≡ true). let r = and_parts _ _ q in inr (eqb-true e.thread j r.0, r.1))
      (or_true (has_spent before j) (eqb e.thread j && is_spend e.event) (sym (spent_more before e j) ∙ h))

pub settled_same : (p : Program) (steps u u' : ℕ) (l l' : Stack) → u ≡ u' → l ≡ l' → settled p steps u l ≡ settled p steps u' l'
settled_same p steps u u' l l' e f = ap (λ (x : ℕ). settled p steps x l) e ∙ ap (λ (x : Stack). settled p steps u' x) f

pub use_same : (p : Program) (steps u u' : ℕ) (l l' : Stack) → u ≡ u' → l ≡ l' → settled_use p steps u l ≡ settled_use p steps u' l'
use_same p steps u u' l l' e f = ap (λ (x : ℕ). settled_use p steps x l) e ∙ ap (λ (x : Stack). settled_use p steps u' x) f

-- ---- an entry that ends its thread

abbrev pub local_then : Program → State → Entry → Stack
local_then p s e = local_after_silent p e.silent (local_in s e.thread)

-- the thread has made its silent steps and ended, and all else is as before
pub record Stands (p : Program) (s t : State) (e : Entry) : Type 0 where
  pub here : local_in t e.thread ≡ local_then p s e
  pub other : (j : ℕ) → (j ≡ e.thread → ⊥) → local_in t j ≡ local_in s j
  pub memory : t.memory ≡ s.memory
  pub views : (j : ℕ) → view_in t j ≡ view_in s j
  pub ended_here : has_ended t e.thread ≡ true
  pub ended_other : (j : ℕ) → (j ≡ e.thread → ⊥) → has_ended t j ≡ has_ended s j
  pub takes : entry_steps e ≡ e.silent
  pub prints_none : prints e.event ≡ []
  pub goes : is_failure e.event ≡ false

pub stood : (p : Program) (steps : ℕ) (before : List Entry) (s t : State) (n : Node) (e : Entry) → IsAt p steps before s n → EntryDone p s e → Stands p s t e → e.thread < length p.threads
    → used_steps before e.thread + e.silent ≤ steps → (is_finish e.event ≡ true → IsFinished n e.thread) → (is_spend e.event ≡ true → IsSpent steps n e.thread)
    → IsAt p steps (before ++ e ∷ []) t n
stood p steps before s t n e at d q there le fin spe = record {
  many_locals = at.many_locals;
  many_used = at.many_used;
  many_views = at.many_views;
  many_printed = at.many_printed;
  locals = λ j h.
      ⊎_elim
      (λ (f : j ≡ e.thread).
      subst (λ (k : ℕ). local_of n k ≡ settled p steps (used_steps (before ++ e ∷ []) k) (local_in t k)) (sym f)
      (at.locals e.thread there ∙ alike.local ∙ settled_same p steps _ _ (local_then p s e) (local_in t e.thread) now (sym q.here)))
      (λ (f : j ≡ e.thread → ⊥). at.locals j h ∙ settled_same p steps (used_steps before j) (used_steps (before ++ e ∷ []) j) (local_in s j) (local_in t j) (sym (used_other before e j f)) (sym (q.other j f)))
      (cases_eq j e.thread);
  used = λ j h.
      ⊎_elim
      (λ (f : j ≡ e.thread).
      subst (λ (k : ℕ). used_of n k ≡ settled_use p steps (used_steps (before ++ e ∷ []) k) (local_in t k)) (sym f)
      (at.used e.thread there ∙ alike.use_same ∙ use_same p steps _ _ (local_then p s e) (local_in t e.thread) now (sym q.here)))
      (λ (f : j ≡ e.thread → ⊥). at.used j h ∙ use_same p steps (used_steps before j) (used_steps (before ++ e ∷ []) j) (local_in s j) (local_in t j) (sym (used_other before e j f)) (sym (q.other j f)))
      (cases_eq j e.thread);
  views = λ j h. subst (λ (m : Memory). AreViewsAlike m n.memory (view_in t j) (view_at n j)) (sym q.memory) (subst (λ (v : ThreadView). AreViewsAlike s.memory n.memory v (view_at n j)) (sym (q.views j)) (at.views j h));
  memories = subst (λ (m : Memory). AreMemoriesAlike m n.memory) (sym q.memory) at.memories;
  printed = λ j h. at.printed j h ∙ sym (printed_none before e q.prints_none j);
  finished = λ j h f. ⊎_elim (λ (g : has_finished before j ≡ true). at.finished j h g) (λ (g : (e.thread ≡ j) × (is_finish e.event ≡ true)). subst (IsFinished n) g.0 (fin g.1)) (finished_from before e j f);
  spent = λ j h f. ⊎_elim (λ (g : has_spent before j ≡ true). at.spent j h g) (λ (g : (e.thread ≡ j) × (is_spend e.event ≡ true)). subst (IsSpent steps n) g.0 (spe g.1)) (spent_from before e j f);
  ended = λ j f.
      ⊎_elim
      (λ (g : j ≡ e.thread). subst (λ (k : ℕ). has_ended t k ≡ true) (sym g) q.ended_here)
      (λ (g : j ≡ e.thread → ⊥). q.ended_other j g ∙ at.ended j (before_too j g f))
      (cases_eq j e.thread);
  goes = fails_more before e ∙ q.goes;
}
  where
    alike : SettlesAlike p steps (used_steps before e.thread) e.silent (local_in s e.thread)
    alike = settles_alike p steps (used_steps before e.thread) e.silent (local_in s e.thread) d.silent le

    now : used_steps before e.thread + e.silent ≡ used_steps (before ++ e ∷ []) e.thread
    now = ap (λ (k : ℕ). used_steps before e.thread + k) (sym q.takes) ∙ sym (used_here before e)

    before_too : (j : ℕ) → (j ≡ e.thread → ⊥) → (has_finished (before ++ e ∷ []) j ≡ true) ⊎ (has_spent (before ++ e ∷ []) j ≡ true) → (has_finished before j ≡ true) ⊎ (has_spent before j ≡ true)
    before_too j g (inl h) = ⊎_elim (λ (r : has_finished before j ≡ true). inl r) (λ (r : (e.thread ≡ j) × (is_finish e.event ≡ true)). absurd (g (sym r.0))) (finished_from before e j h)
    before_too j g (inr h) = ⊎_elim (λ (r : has_spent before j ≡ true). inr r) (λ (r : (e.thread ≡ j) × (is_spend e.event ≡ true)). absurd (g (sym r.0))) (spent_from before e j h)

-- ---- an entry that goes on

module _ (p : Program) (steps : ℕ) (before : List Entry) (s : State) (n : Node) (e : Entry) (a : Access) (b : ℕ) (at : IsAt p steps before s n) (d : EntryDone p s e) (there : e.thread < length p.threads)
    (many : length s.locals ≡ length p.threads) (many_s : length s.views ≡ length p.threads)
    (le : used_steps before e.thread + e.silent ≤ steps) (asks : next_of (local_then p s e) ≡ next.Access a) where
  pub local_now : local_of n e.thread ≡ local_then p s e
  local_now =
      at.locals e.thread there ∙ (settles_alike p steps (used_steps before e.thread) e.silent (local_in s e.thread) d.silent le).local
      ∙ (stays_at_access p steps (used_steps before e.thread + e.silent) (local_then p s e) a asks).local

  pub used_now : used_of n e.thread ≡ used_steps before e.thread + e.silent
  used_now =
      at.used e.thread there ∙ (settles_alike p steps (used_steps before e.thread) e.silent (local_in s e.thread) d.silent le).use_same
      ∙ (stays_at_access p steps (used_steps before e.thread + e.silent) (local_then p s e) a asks).use_same

  -- the event of the node's access
  abbrev r : StepResult
  r = result_at n e.thread a b

  abbrev o : StepResult
  o = step_result s.memory (view_in s e.thread) e.thread a (choice_of_event e.event)

  abbrev pub t : State
  t = record {
    locals = set s.locals e.thread (local_after_event (local_then p s e) e.event);
    views = set s.views e.thread o.view;
    ended = set s.ended e.thread (is_finish e.event);
    memory = o.memory;
  }

  abbrev m : Node
  m = after_move p steps n e.thread a b

  module _ (f : IsFollowed s.memory n.memory (view_in s e.thread) (view_at n e.thread) e.thread a (choice_of_event e.event) b) (same : o.event ≡ e.event) (going : ends_thread e.event ≡ false) (fine : is_failure e.event ≡ false) where
    events : without_stamps r.event ≡ without_stamps e.event
    events = f.answered.result.event ∙ ap without_stamps same

    local_next : local_after_event (local_of n e.thread) r.event ≡ local_after_event (local_then p s e) e.event
    local_next =
        ap (λ (l : Stack). local_after_event l r.event) local_now ∙ sym (local_same (local_then p s e) r.event)
        ∙ ap (λ (x : Event). local_after_event (local_then p s e) x) events ∙ local_same (local_then p s e) e.event

    printed_next : prints r.event ≡ prints e.event
    printed_next = sym (prints_same r.event) ∙ ap prints events ∙ prints_same e.event

    used_next : used_of n e.thread + 1 ≡ used_steps (before ++ e ∷ []) e.thread
    used_next = omega (arith, used_now, used_here before e, (unended e.event going).2)

    clear : StayAlike o.memory r.memory o.memory m.memory o.view r.view
    clear = other_flags o.memory r.memory o.memory (record r.memory { outputs = [] }) o.view r.view refl refl refl refl f.answered.result.alike.memories.failed f.answered.result.alike.memories f.answered.result.alike.views

    elsewhere : (j : ℕ) → (has_finished before j ≡ true) ⊎ (has_spent before j ≡ true) → j ≡ e.thread → ⊥
    elsewhere j h g = true≢false (sym (at.ended j h) ∙ ap (has_ended s) g ∙ d.running.going)

    local_m : (j : ℕ) → (j ≡ e.thread → ⊥) → local_of m j ≡ local_of n j
    local_m j g = get_or-set_other n.locals e.thread j _ idle g

    used_m : (j : ℕ) → (j ≡ e.thread → ⊥) → used_of m j ≡ used_of n j
    used_m j g = get_or-set_other n.used e.thread j _ 0 g

    view_m : (j : ℕ) → j < length p.threads → (j ≡ e.thread → ⊥) → view_at m j ≡ view_with_room n.memory (view_at n j) a b
    view_m j h g =
        get_or-set_other (map (λ v. view_with_room n.memory v a b) n.views) e.thread j r.view no_view g
        ∙ get_or-map (λ v. view_with_room n.memory v a b) n.views j no_view no_view (omega (arith, at.many_views))

    view_here : view_at m e.thread ≡ r.view
    view_here = get_or-set_same (map (λ v. view_with_room n.memory v a b) n.views) e.thread r.view no_view (omega (arith, at.many_views, length-map n.views (λ v. view_with_room n.memory v a b)))

    finished_before : (j : ℕ) → has_finished (before ++ e ∷ []) j ≡ true → has_finished before j ≡ true
    finished_before j h = ⊎_elim (λ (g : has_finished before j ≡ true). g) (λ (g : (e.thread ≡ j) × (is_finish e.event ≡ true)). absurd (true≢false (sym g.1 ∙ (unended e.event going).0))) (finished_from before e j h)

    spent_before : (j : ℕ) → has_spent (before ++ e ∷ []) j ≡ true → has_spent before j ≡ true
    spent_before j h = ⊎_elim (λ (g : has_spent before j ≡ true). g) (λ (g : (e.thread ≡ j) × (is_spend e.event ≡ true)). absurd (true≢false (sym g.1 ∙ (unended e.event going).1))) (spent_from before e j h)

    ended_before : (j : ℕ) → (has_finished (before ++ e ∷ []) j ≡ true) ⊎ (has_spent (before ++ e ∷ []) j ≡ true) → (has_finished before j ≡ true) ⊎ (has_spent before j ≡ true)
    ended_before j (inl h) = inl (finished_before j h)
    ended_before j (inr h) = inr (spent_before j h)

    pub moved_on : IsAt p steps (before ++ e ∷ []) t m
    moved_on = record {
      many_locals = length-set n.locals e.thread _ ∙ at.many_locals;
      many_used = length-set n.used e.thread _ ∙ at.many_used;
      many_views = length-set (map (λ v. view_with_room n.memory v a b) n.views) e.thread r.view ∙ length-map n.views (λ v. view_with_room n.memory v a b) ∙ at.many_views;
      many_printed = length-set n.printed e.thread _ ∙ at.many_printed;
      locals = λ j h.
          ⊎_elim
          (λ (g : j ≡ e.thread).
          subst (λ (k : ℕ). local_of m k ≡ settled p steps (used_steps (before ++ e ∷ []) k) (local_in t k)) (sym g)
          (get_or-set_same n.locals e.thread _ idle (omega (arith, at.many_locals))
          ∙ settled_same p steps _ _ _ _ used_next (local_next ∙ sym (get_or-set_same s.locals e.thread (local_after_event (local_then p s e) e.event) idle (omega (arith, many))))))
          (λ (g : j ≡ e.thread → ⊥).
          local_m j g ∙ at.locals j h ∙ settled_same p steps _ _ _ _ (sym (used_other before e j g)) (sym (get_or-set_other s.locals e.thread j (local_after_event (local_then p s e) e.event) idle g)))
          (cases_eq j e.thread);
      used = λ j h.
          ⊎_elim
          (λ (g : j ≡ e.thread).
          subst (λ (k : ℕ). used_of m k ≡ settled_use p steps (used_steps (before ++ e ∷ []) k) (local_in t k)) (sym g)
          (get_or-set_same n.used e.thread _ 0 (omega (arith, at.many_used))
          ∙ use_same p steps _ _ _ _ used_next (local_next ∙ sym (get_or-set_same s.locals e.thread (local_after_event (local_then p s e) e.event) idle (omega (arith, many))))))
          (λ (g : j ≡ e.thread → ⊥).
          used_m j g ∙ at.used j h ∙ use_same p steps _ _ _ _ (sym (used_other before e j g)) (sym (get_or-set_other s.locals e.thread j (local_after_event (local_then p s e) e.event) idle g)))
          (cases_eq j e.thread);
      views = λ j h.
          ⊎_elim
          (λ (g : j ≡ e.thread).
          subst (λ (k : ℕ). AreViewsAlike t.memory m.memory (view_in t k) (view_at m k)) (sym g)
          (subst (λ (v : ThreadView). AreViewsAlike t.memory m.memory v (view_at m e.thread)) (sym (get_or-set_same s.views e.thread o.view no_view (omega (arith, many_s))))
          (subst (λ (v : ThreadView). AreViewsAlike t.memory m.memory o.view v) (sym view_here) clear.views)))
          (λ (g : j ≡ e.thread → ⊥).
          subst (λ (v : ThreadView). AreViewsAlike t.memory m.memory v (view_at m j)) (sym (get_or-set_other s.views e.thread j o.view no_view g))
          (subst (λ (v : ThreadView). AreViewsAlike t.memory m.memory (view_in s j) v) (sym (view_m j h g))
          (clear.others (view_in s j) (view_with_room n.memory (view_at n j) a b)
          (f.answered.result.alike.others (view_in s j) (view_with_room n.memory (view_at n j) a b) (f.others (view_in s j) (view_at n j) (at.views j h))))))
          (cases_eq j e.thread);
      memories = clear.memories;
      printed = λ j h.
          ⊎_elim
          (λ (g : j ≡ e.thread).
          subst (λ (k : ℕ). printed_of m k ≡ printed_by (before ++ e ∷ []) k) (sym g)
          (get_or-set_same n.printed e.thread (printed_of n e.thread ++ prints r.event) [] (omega (arith, at.many_printed))
          ∙ ap (λ (x : List ℤ). x ++ prints r.event) (at.printed e.thread there) ∙ ap (λ (x : List ℤ). printed_by before e.thread ++ x) printed_next ∙ sym (printed_here before e)))
          (λ (g : j ≡ e.thread → ⊥).
          get_or-set_other n.printed e.thread j (printed_of n e.thread ++ prints r.event) [] g ∙ at.printed j h ∙ sym (printed_other before e j g))
          (cases_eq j e.thread);
      finished = λ j h g.
          let old = finished_before j g in
          ap (λ (l : Stack). next_of l) (local_m j (elsewhere j (inl old))) ∙ at.finished j h old;
      spent = λ j h g.
          let old = spent_before j g in
          let other = elsewhere j (inr old) in
          let sp = at.spent j h old in
          record { used = used_m j other ∙ sp.used; unfinished = λ q. sp.unfinished (ap (λ (l : Stack). next_of l) (sym (local_m j other)) ∙ q) };
      ended = λ j g.
          let old = ended_before j g in
          get_or-set_other s.ended e.thread j (is_finish e.event) true (elsewhere j old) ∙ at.ended j old;
      goes = fails_more before e ∙ fine;
    }
