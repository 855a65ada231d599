-- A thread that goes on has an entry within its budget: silent steps, and then an access, its end or the end of its budget.
use Rattle.std.proofs.Common.{◌≡◌, ◌⊎◌, inl, inr, ⊎_elim, ℕ, zero, suc, ◌+◌, ◌-◌, ◌<◌, ◌≤◌, true, false, cond, List, [], ◌∷◌, ◌++◌, length, refl, sym, ap, ◌∙◌, subst, arith}
use Rattle.std.proofs.lemmas.Bool.{cases_Bool, cases_lt, false≢true, true≢false, cond_both, cond-false}
use Rattle.std.proofs.lemmas.List.{get_or-set_same}
use Rattle.values_undef.specs.Access.{is_spend, ends_thread, weight}
use Rattle.values_undef.specs.Journal.{entry_steps, used_steps}
use Rattle.values_undef.specs.declared.access.Access.{Access}
use Rattle.values_undef.specs.declared.access.Access.TheVariants as access
use Rattle.values_undef.specs.declared.access.Choice.{Choice}
use Rattle.values_undef.specs.declared.access.Choice.TheVariants.{Plain}
use Rattle.values_undef.specs.declared.access.Event.TheVariants as event
use Rattle.values_undef.specs.declared.journal.Entry.{Entry}
use Rattle.il_syntax.specs.declared.program.Program.{Program}
use Rattle.message_memory.specs.Step.{IsLegal, step_result}
use Rattle.message_memory.specs.EventLaws.{IsOfKind}
use Rattle.message_memory.proofs.Callers.{events_of_kind}
use Rattle.thread_core.specs.declared.next.Next.{Next}
use Rattle.thread_core.specs.declared.next.Next.TheVariants as next
use Rattle.thread_core.specs.Programs.{IsProperProgram, IsProperAccess}
use Rattle.thread_core.specs.Frames.{Stack, next_of, advanced}
use Rattle.thread_core.specs.Alone.{HasSilent, local_after_silent}
use Rattle.view_machine.specs.State.{State, local_in, with_local, view_in, idle, IsRunning, IsSpendable}
use Rattle.view_machine.specs.Runs.{after_silent, AreSilent, IsEntry}
use Rattle.view_machine.specs.Laws.{IsReached}
use Rattle.view_machine.proofs.Callers.{silent_steps_local, going_with}
use Rattle.outcome_nodes.specs.Nodes.{is_silent, silent_steps}
use Rattle.outcome_nodes.proofs.Callers.{has_steps, few_steps, end_or_not, entry_of_access, access_entry}
use Rattle.outcome_budgets.specs.Budgets.{KeepsBudget}
use Rattle.outcome_budgets.proofs.Within.{within_more}
use Rattle.outcome_budgets.proofs.Asking.{proper_there, choice_there, never_spends}

-- ---- the end of a budget

abbrev pub spend_of : ℕ → ℕ → Entry
spend_of i n = record { thread = i; silent = n; event = event.Spend }

pub spend_entry : (p : Program) (s : State) (i n : ℕ) → IsRunning s i → HasSilent p n (local_in s i) → (next_of (local_after_silent p n (local_in s i)) ≡ next.Access access.Finish → ⊥) → IsEntry p s (spend_of i n)
spend_entry p s i n g h unfinished = record { silent = silent.0; event = subst (λ (t : State). IsSpendable t i) (sym silent.1) able }
  where
    silent : AreSilent p i n s × (after_silent p i n s ≡ with_local s i (local_after_silent p n (local_in s i)))
    silent = silent_steps_local p i n s g h

    able : IsSpendable (with_local s i (local_after_silent p n (local_in s i))) i
    able = record {
      able = going_with s i (local_after_silent p n (local_in s i)) g;
      unfinished = λ q. unfinished (ap (λ (x : Stack). next_of x) (sym (get_or-set_same s.locals i (local_after_silent p n (local_in s i)) idle g.there)) ∙ q);
    }

-- ---- where silent steps stop

pub unsilent : (a : Access) → next.Silent ≡ next.Access a → ⊥
unsilent a e = true≢false (ap is_silent e)

-- a thread makes no more silent steps than its budget has, and stops before only at an access
stops : (p : Program) (m : ℕ) (l : Stack) → next_of (local_after_silent p (silent_steps p m l) l) ≡ next.Silent → silent_steps p m l ≡ m
stops p zero l e = refl
stops p (suc m) l e = ⊎_elim (goes (stops p m (advanced p l))) halts (cases_Bool (is_silent (next_of l)))
  where
    goes : (next_of (local_after_silent p (silent_steps p m (advanced p l)) (advanced p l)) ≡ next.Silent → silent_steps p m (advanced p l) ≡ m) → is_silent (next_of l) ≡ true → silent_steps p (suc m) l ≡ suc m
    goes rest q =
        let to : silent_steps p (suc m) l ≡ suc (silent_steps p m (advanced p l)) = ap (λ b. cond b (suc (silent_steps p m (advanced p l))) 0) q in
        to ∙ ap suc (rest (ap (λ (k : ℕ). next_of (local_after_silent p k l)) (sym to) ∙ e))

    halts : is_silent (next_of l) ≡ false → silent_steps p (suc m) l ≡ suc m
    halts q =
        let to : silent_steps p (suc m) l ≡ 0 = ap (λ b. cond b (suc (silent_steps p m (advanced p l))) 0) q in
        absurd (false≢true (sym q ∙ ap is_silent (ap (λ (k : ℕ). next_of (local_after_silent p k l)) (sym to) ∙ e)))

-- ---- the next entry of a thread

pub record HasTurn (p : Program) (entries : List Entry) (steps : ℕ) (s : State) (i : ℕ) : Type 0 where
  pub entry : Entry
  pub own : entry.thread ≡ i
  pub made : IsEntry p s entry
  pub within : KeepsBudget p (entries ++ entry ∷ []) steps
  pub moves : (ends_thread entry.event ≡ true) ⊎ (1 ≤ entry_steps entry)

module _ (p : Program) (entries : List Entry) (steps : ℕ) (s : State) (i : ℕ) (ok : IsProperProgram p) (reached : IsReached p s) (w : KeepsBudget p entries steps) (there : i < length p.threads) (g : IsRunning s i) where
  abbrev left : ℕ
  left = steps - used_steps entries i

  abbrev k : ℕ
  k = silent_steps p (steps - used_steps entries i) (local_in s i)

  abbrev l : Stack
  l = local_after_silent p (silent_steps p (steps - used_steps entries i) (local_in s i)) (local_in s i)

  few : k ≤ left
  few = few_steps p (steps - used_steps entries i) (local_in s i)

  -- its budget is used up
  spends : k ≡ left → (next_of l ≡ next.Access access.Finish → ⊥) → HasTurn p entries steps s i
  spends q unfinished = record {
    entry = spend_of i k;
    own = refl;
    made = spend_entry p s i k g (has_steps p (steps - used_steps entries i) (local_in s i)) unfinished;
    within = within_more p entries (spend_of i k) steps w (omega (arith, q, w.within i there)) (λ _. omega (arith, q, w.within i there));
    moves = inl refl;
  }

  -- it makes an access
  makes : (a : Access) (c : Choice) → next_of l ≡ next.Access a → IsLegal s.memory (view_in s i) a c → is_spend (step_result s.memory (view_in s i) i a c).event ≡ false
      → used_steps entries i + entry_steps (entry_of_access s i k a c) ≤ steps → HasTurn p entries steps s i
  makes a c asks legal unspent room = record {
    entry = entry_of_access s i k a c;
    own = refl;
    made = (access_entry p s i k a c g (has_steps p (steps - used_steps entries i) (local_in s i)) asks legal unspent).entry;
    within = within_more p entries (entry_of_access s i k a c) steps w room (λ q. absurd (false≢true (sym unspent ∙ q)));
    moves =
        ⊎_elim (λ (q : ends_thread (entry_of_access s i k a c).event ≡ true). inl q)
        (λ (q : ends_thread (entry_of_access s i k a c).event ≡ false). let one : weight (entry_of_access s i k a c).event ≡ 1 = cond-false (ends_thread (entry_of_access s i k a c).event) 0 1 q in inr (omega (arith, one)))
        (cases_Bool (ends_thread (entry_of_access s i k a c).event));
  }

  -- with a legal choice, which there is
  goes : (a : Access) → next_of l ≡ next.Access a → k < left → HasTurn p entries steps s i
  goes a asks room = makes a choice.0 asks choice.1 (kind.spends ∙ never_spends p a proper) (omega (arith, room, light, w.within i there))
    where
      proper : IsProperAccess p a
      proper = proper_there p s i k a ok reached g (has_steps p (steps - used_steps entries i) (local_in s i)) asks

      choice : (c : Choice) × IsLegal s.memory (view_in s i) a c
      choice = choice_there p s i a reached g proper

      kind : IsOfKind a (step_result s.memory (view_in s i) i a choice.0).event
      kind = events_of_kind s.memory _ (view_in s i) _ i a choice.0 _ (record { legal = choice.1; event = refl; memory = refl; view = refl })

      light : weight (entry_of_access s i k a choice.0).event ≤ 1
      light = cond_both (ends_thread (entry_of_access s i k a choice.0).event) 0 1 (λ (n : ℕ). n ≤ 1) (λ _. omega arith) (λ _. omega arith)

  asks_for : (n : Next) → next_of l ≡ n → HasTurn p entries steps s i
  asks_for next.Silent e = spends (stops p (steps - used_steps entries i) (local_in s i) e) (λ f. unsilent access.Finish (sym e ∙ f))
  asks_for (next.Access a) e =
      ⊎_elim
      (λ (q : a ≡ access.Finish). makes access.Finish Plain (e ∙ ap (λ (x : Access). next.Access x) q) (record { running = g.running; admits = tt }) refl (omega (arith, few, w.within i there)))
      (λ (n : a ≡ access.Finish → ⊥).
      ⊎_elim (λ (r : k < left). goes a e r) (λ (r : left ≤ k). spends (omega (arith, r, few)) (λ f. n (same_access (sym e ∙ f)))) (cases_lt k left))
      (end_or_not a)
    where
      asked : Next → Access
      asked next.Silent = a
      asked (next.Access x) = x

      same_access : next.Access a ≡ next.Access access.Finish → a ≡ access.Finish
      same_access q = ap asked q

  pub turn : HasTurn p entries steps s i
  turn = asks_for (next_of l) refl
