-- Journals with one more entry, and events without their timestamps.
use Rattle.std.proofs.Common.{◌≡◌, ◌⊎◌, inl, inr, ⊎_elim, ℕ, ℤ, ◌+◌, Bool, true, false, cond, eqb, ◌&&◌, List, [], ◌∷◌, ◌++◌, refl, sym, ap, ◌∙◌, arith}
use Rattle.std.specs.Prelude.{◌||◌}
use Rattle.std.proofs.lemmas.Bool.{false≢true, true≢false, cond-false, ne_eqb}
use Rattle.std.proofs.lemmas.List.{append_assoc, append-nil, get_or-set_other}
use Rattle.std.proofs.lemmas.List.Folds.{list_any-append}
use Rattle.values_undef.specs.Access.{is_failure, ends_thread, is_spend, weight}
use Rattle.values_undef.specs.Journal.{is_finish, has_finished, finishes, entry_steps, used_steps}
use Rattle.values_undef.specs.declared.access.Access.{Access}
use Rattle.values_undef.specs.declared.access.Access.TheVariants as access
use Rattle.values_undef.specs.declared.access.Event.{Event}
use Rattle.values_undef.specs.declared.access.Event.TheVariants.{NaRead, NaWrite, Read, Write, Update, Miss, Fence, Print, Fail, FailCompare, Finish, Spend}
use Rattle.values_undef.specs.declared.journal.Entry.{Entry}
use Rattle.il_syntax.specs.declared.program.Program.{Program}
use Rattle.message_memory.specs.EventLaws.{is_end, spends}
use Rattle.thread_core.specs.Frames.{Stack}
use Rattle.thread_core.specs.Alone.{local_after_event}
use Rattle.view_machine.specs.State.{State, has_ended}
use Rattle.view_machine.specs.Runs.{after_entry, IsRunFrom}
use Rattle.run_choices.specs.Complete.{has_ended as journal_ended, has_spent}
use Rattle.memory_likeness.specs.Likeness.{without_stamps}
use Rattle.outcome_nodes.specs.Nodes.{prints, printed_by, told_by}
use Rattle.outcome_nodes.proofs.Entries.{Spends, Makes, EntryDone, entry_done}
use Rattle.run_choices.proofs.Callers.{one_any}

-- ---- events

pub prints_same : (e : Event) → prints (without_stamps e) ≡ prints e
prints_same (NaRead x v) = refl
prints_same (NaWrite x v n) = refl
prints_same (Read y o v to) = refl
prints_same (Write y o v a b) = refl
prints_same (Update y o a b c d) = refl
prints_same (Miss y o v a) = refl
prints_same (Fence order) = refl
prints_same (Print v) = refl
prints_same (Fail cause) = refl
prints_same (FailCompare y read) = refl
prints_same Finish = refl
prints_same Spend = refl

pub local_same : (l : Stack) (e : Event) → local_after_event l (without_stamps e) ≡ local_after_event l e
local_same l (NaRead x v) = refl
local_same l (NaWrite x v n) = refl
local_same l (Read y o v to) = refl
local_same l (Write y o v a b) = refl
local_same l (Update y o a b c d) = refl
local_same l (Miss y o v a) = refl
local_same l (Fence order) = refl
local_same l (Print v) = refl
local_same l (Fail cause) = refl
local_same l (FailCompare y read) = refl
local_same l Finish = refl
local_same l Spend = refl

pub failures_print_nothing : (e : Event) → is_failure e ≡ true → prints e ≡ []
failures_print_nothing (NaRead x v) h = absurd (false≢true h)
failures_print_nothing (NaWrite x v n) h = absurd (false≢true h)
failures_print_nothing (Read y o v to) h = absurd (false≢true h)
failures_print_nothing (Write y o v a b) h = absurd (false≢true h)
failures_print_nothing (Update y o a b c d) h = absurd (false≢true h)
failures_print_nothing (Miss y o v a) h = absurd (false≢true h)
failures_print_nothing (Fence order) h = absurd (false≢true h)
failures_print_nothing (Print v) h = absurd (false≢true h)
failures_print_nothing (Fail cause) h = refl
failures_print_nothing (FailCompare y read) h = refl
failures_print_nothing Finish h = absurd (false≢true h)
failures_print_nothing Spend h = absurd (false≢true h)

pub ends_by : (e : Event) → ends_thread e ≡ true → (is_finish e ≡ true) ⊎ (is_spend e ≡ true)
ends_by (NaRead x v) h = absurd (false≢true h)
ends_by (NaWrite x v n) h = absurd (false≢true h)
ends_by (Read y o v to) h = absurd (false≢true h)
ends_by (Write y o v a b) h = absurd (false≢true h)
ends_by (Update y o a b c d) h = absurd (false≢true h)
ends_by (Miss y o v a) h = absurd (false≢true h)
ends_by (Fence order) h = absurd (false≢true h)
ends_by (Print v) h = absurd (false≢true h)
ends_by (Fail cause) h = absurd (false≢true h)
ends_by (FailCompare y read) h = absurd (false≢true h)
ends_by Finish h = inl refl
ends_by Spend h = inr refl

pub unended : (e : Event) → ends_thread e ≡ false → (is_finish e ≡ false) × (is_spend e ≡ false) × (weight e ≡ 1)
unended (NaRead x v) h = (refl, refl, refl)
unended (NaWrite x v n) h = (refl, refl, refl)
unended (Read y o v to) h = (refl, refl, refl)
unended (Write y o v a b) h = (refl, refl, refl)
unended (Update y o a b c d) h = (refl, refl, refl)
unended (Miss y o v a) h = (refl, refl, refl)
unended (Fence order) h = (refl, refl, refl)
unended (Print v) h = (refl, refl, refl)
unended (Fail cause) h = (refl, refl, refl)
unended (FailCompare y read) h = (refl, refl, refl)
unended Finish h = absurd (true≢false h)
unended Spend h = absurd (true≢false h)

-- the access is the thread's end
abbrev is_the_end : Access → Bool
is_the_end access.Finish = true
is_the_end _ = false

pub end_or_not : (a : Access) → (a ≡ access.Finish) ⊎ (a ≡ access.Finish → ⊥)
end_or_not access.Finish = inl refl
end_or_not (access.NaRead x) = inr (λ e. false≢true (ap is_the_end e))
end_or_not (access.NaWrite x v) = inr (λ e. false≢true (ap is_the_end e))
end_or_not (access.Read y o) = inr (λ e. false≢true (ap is_the_end e))
end_or_not (access.Write y o v) = inr (λ e. false≢true (ap is_the_end e))
end_or_not (access.Update y o k) = inr (λ e. false≢true (ap is_the_end e))
end_or_not (access.Fence o) = inr (λ e. false≢true (ap is_the_end e))
end_or_not (access.Print v) = inr (λ e. false≢true (ap is_the_end e))
end_or_not (access.Fail c) = inr (λ e. false≢true (ap is_the_end e))
end_or_not access.Spend = inr (λ e. false≢true (ap is_the_end e))

pub no_end : (a : Access) → (a ≡ access.Finish → ⊥) → spends a ≡ false → is_end a ≡ false
no_end access.Finish h s = absurd (h refl)
no_end (access.NaRead x) h s = refl
no_end (access.NaWrite x v) h s = refl
no_end (access.Read y o) h s = refl
no_end (access.Write y o v) h s = refl
no_end (access.Update y o k) h s = refl
no_end (access.Fence o) h s = refl
no_end (access.Print v) h s = refl
no_end (access.Fail c) h s = refl
no_end access.Spend h s = absurd (true≢false s)

-- ---- one more entry

pub finished_more : (xs : List Entry) (e : Entry) (i : ℕ) → has_finished (xs ++ e ∷ []) i ≡ (has_finished xs i || (eqb e.thread i && is_finish e.event))
finished_more xs e i = list_any-append (finishes i) xs (e ∷ []) ∙ ap (λ (b : Bool). has_finished xs i || b) (one_any (finishes i) e)

pub printed_more : (xs : List Entry) (e : Entry) (i : ℕ) → printed_by (xs ++ e ∷ []) i ≡ printed_by xs i ++ cond (eqb e.thread i) (prints e.event) []
printed_more [] e i = append-nil (cond (eqb e.thread i) (prints e.event) [])
printed_more (x ∷ xs) e i =
    ap (λ (r : List ℤ). cond (eqb x.thread i) (prints x.event) [] ++ r) (printed_more xs e i)
    ∙ sym (append_assoc (cond (eqb x.thread i) (prints x.event) []) (printed_by xs i) (cond (eqb e.thread i) (prints e.event) []))

pub told_more : (xs : List Entry) (e : Entry) (i : ℕ) → told_by (xs ++ e ∷ []) i ≡ told_by xs i ++ cond (eqb e.thread i) (without_stamps e.event ∷ []) []
told_more [] e i = append-nil (cond (eqb e.thread i) (without_stamps e.event ∷ []) [])
told_more (x ∷ xs) e i =
    ap (λ (r : List Event). cond (eqb x.thread i) (without_stamps x.event ∷ []) [] ++ r) (told_more xs e i)
    ∙ sym (append_assoc (cond (eqb x.thread i) (without_stamps x.event ∷ []) []) (told_by xs i) (cond (eqb e.thread i) (without_stamps e.event ∷ []) []))

pub used_parts : (xs ys : List Entry) (i : ℕ) → used_steps (xs ++ ys) i ≡ used_steps xs i + used_steps ys i
used_parts [] ys i = omega arith
used_parts (x ∷ xs) ys i = let r = used_parts xs ys i in omega (arith, r)

-- where a thread has ended, it has come to its end or spent its budget
pub ended_how : (xs : List Entry) (i : ℕ) → journal_ended xs i ≡ true → (has_finished xs i ≡ true) ⊎ (has_spent xs i ≡ true)
ended_how [] i h = absurd (false≢true h)
ended_how (x ∷ xs) i h = choose (ended_how xs i) (eqb x.thread i) (ends_thread x.event) refl h
  where
    choose : (journal_ended xs i ≡ true → (has_finished xs i ≡ true) ⊎ (has_spent xs i ≡ true)) → (b c : Bool) → ends_thread x.event ≡ c → ((b && c) || journal_ended xs i) ≡ true → (((b && is_finish x.event) || has_finished xs i) ≡ true) ⊎ (((b && is_spend x.event) || has_spent xs i) ≡ true)
    choose r true true q h = ⊎_elim (λ (e : is_finish x.event ≡ true). inl (ap (λ (d : Bool). d || has_finished xs i) e)) (λ (e : is_spend x.event ≡ true). inr (ap (λ (d : Bool). d || has_spent xs i) e)) (ends_by x.event q)
    choose r true false q h =
        let n = unended x.event q in
        ⊎_elim (λ (e : has_finished xs i ≡ true). inl (ap (λ (d : Bool). d || has_finished xs i) n.0 ∙ e)) (λ (e : has_spent xs i ≡ true). inr (ap (λ (d : Bool). d || has_spent xs i) n.1 ∙ e)) (r h)
    choose r false c q h = r h

-- ---- a thread that has ended makes no more entries

ended_stays : (p : Program) (s : State) (e : Entry) (i : ℕ) → EntryDone p s e → (i ≡ e.thread → ⊥) → has_ended (after_entry p s e) i ≡ has_ended s i
ended_stays p s e i d n =
    ⊎_elim
    (λ (q : Spends p s e). ap (λ (t : State). has_ended t i) q.state ∙ get_or-set_other s.ended e.thread i true true n)
    (λ (q : Makes p s e). ap (λ (t : State). has_ended t i) q.state ∙ get_or-set_other s.ended e.thread i (is_finish e.event) true n)
    d.cases

pub ended_idle : (p : Program) (s : State) (entries : List Entry) (i : ℕ) → IsRunFrom p s entries → has_ended s i ≡ true → used_steps entries i ≡ 0
ended_idle p s [] i h q = refl
ended_idle p s (e ∷ entries) i h q =
    let d = entry_done p s e h.0 in
    let other : i ≡ e.thread → ⊥ = λ f. true≢false (sym q ∙ ap (has_ended s) f ∙ d.running.going) in
    let none : cond (eqb e.thread i) (entry_steps e) 0 ≡ 0 = cond-false (eqb e.thread i) (entry_steps e) 0 (ne_eqb e.thread i (λ f. other (sym f))) in
    omega (arith, none, ended_idle p (after_entry p s e) entries i h.1 (ended_stays p s e i d other ∙ q))
