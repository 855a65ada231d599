-- How the threads of a run end.
use Rattle.std.proofs.Common.{◌≡◌, ◌⊎◌, inl, inr, ⊎_elim, ℕ, suc, ◌-◌, ◌<◌, Bool, true, false, eqb, ◌&&◌, List, [], ◌∷◌, length, refl, sym, ap, subst, ◌∙◌, arith}
use Rattle.std.specs.Prelude.{◌||◌, slice_get}
use Rattle.std.specs.List.{AllByRecursion, list_any}
use Rattle.std.specs.Option.{option_map_or}
use Rattle.std.proofs.lemmas.Bool.{false≢true, ne_eqb, eqb-true, cases_Bool}
use Rattle.std.proofs.lemmas.List.{length-map}
use Rattle.values_undef.specs.Access.{is_failure, ends_thread, is_spend}
use Rattle.values_undef.specs.Journal.{is_finish, last_fails, has_finished}
use Rattle.values_undef.specs.declared.access.Event.{Event}
use Rattle.values_undef.specs.declared.access.Event.TheVariants.{NaRead, NaWrite, Read, Write, Update, Miss, Fence, Print, Fail, FailCompare, Finish, Spend}
use Rattle.values_undef.specs.declared.journal.Entry.{Entry}
use Rattle.il_syntax.specs.declared.program.Program.{Program}
use Rattle.view_machine.specs.State.{State, start_of, initial_state, has_ended as ended_in}
use Rattle.view_machine.specs.Runs.{IsEntry, after_entry, IsRunFrom, IsJournalRun}
use Rattle.view_machine.proofs.Callers.{entry_there, entry_threads, entry_going, stays_ended, ends_here, none_later}
use Rattle.run_choices.specs.Complete.{has_spent}
use Rattle.run_choices.proofs.Appending.{fails_more}

-- ---- events

record Finishes (e : Event) : Type 0 where
  ends : ends_thread e ≡ true
  stays : is_spend e ≡ false
  runs : is_failure e ≡ false

finishes : (e : Event) → is_finish e ≡ true → Finishes e
finishes (NaRead x v) h = absurd (false≢true h)
finishes (NaWrite x v n) h = absurd (false≢true h)
finishes (Read y o v to) h = absurd (false≢true h)
finishes (Write y o v a b) h = absurd (false≢true h)
finishes (Update y o a b c d) h = absurd (false≢true h)
finishes (Miss y o v a) h = absurd (false≢true h)
finishes (Fence order) h = absurd (false≢true h)
finishes (Print v) h = absurd (false≢true h)
finishes (Fail cause) h = absurd (false≢true h)
finishes (FailCompare y read) h = absurd (false≢true h)
finishes Finish h = record { ends = refl; stays = refl; runs = refl }
finishes Spend h = absurd (false≢true h)

pub spend_ends : (e : Event) → is_spend e ≡ true → ends_thread e ≡ true
spend_ends (NaRead x v) h = absurd (false≢true h)
spend_ends (NaWrite x v n) h = absurd (false≢true h)
spend_ends (Read y o v to) h = absurd (false≢true h)
spend_ends (Write y o v a b) h = absurd (false≢true h)
spend_ends (Update y o a b c d) h = absurd (false≢true h)
spend_ends (Miss y o v a) h = absurd (false≢true h)
spend_ends (Fence order) h = absurd (false≢true h)
spend_ends (Print v) h = absurd (false≢true h)
spend_ends (Fail cause) h = absurd (false≢true h)
spend_ends (FailCompare y read) h = absurd (false≢true h)
spend_ends Finish h = absurd (false≢true h)
spend_ends Spend h = refl

-- ---- tests of the entries of a thread

-- the first entry, or one behind it
first_or_later : (own here later : Bool) → ((own && here) || later) ≡ true → ((own ≡ true) × (here ≡ true)) ⊎ (later ≡ true)
first_or_later true true later h = inl (refl, refl)
first_or_later true false later h = inr h
first_or_later false here later h = inr h

neither : (own here later : Bool) → (own ≡ true → here ≡ false) → later ≡ false → ((own && here) || later) ≡ false
neither true true later h l = absurd (false≢true (sym (h refl)))
neither true false later h l = l
neither false here later h l = l

none_any : (test : Event → Bool) (i : ℕ) (entries : List Entry) → AllByRecursion (λ e. e.thread ≡ i → ⊥) entries → list_any (λ e. eqb e.thread i && test e.event) entries ≡ false
none_any test i [] h = refl
none_any test i (e ∷ more) h = neither (eqb e.thread i) (test e.event) _ (λ own. absurd (h.0 (eqb-true e.thread i own))) (none_any test i more h.1)

-- a thread that has ended after an entry of its own
over : (p : Program) (s : State) (x : Entry) (i : ℕ) → IsEntry p s x → eqb x.thread i ≡ true → ends_thread x.event ≡ true → ended_in (after_entry p s x) i ≡ true
over p s x i h own ends = subst (λ k. ended_in (after_entry p s x) k ≡ true) (eqb-true x.thread i own) (ends_here p s x h ends)

-- ---- a thread that came to its end was not stopped

unspent_from : (p : Program) (s : State) (entries : List Entry) (i : ℕ) → IsRunFrom p s entries → has_finished entries i ≡ true → has_spent entries i ≡ false
unspent_from p s [] i h f = absurd (false≢true f)
unspent_from p s (x ∷ xs) i h f = ⊎_elim
    (λ (t : (eqb x.thread i ≡ true) × (is_finish x.event ≡ true)).
    let fin = finishes x.event t.1 in
    neither (eqb x.thread i) (is_spend x.event) (has_spent xs i) (λ _. fin.stays)
    (none_any is_spend i xs (none_later p (after_entry p s x) xs i h.1 (over p s x i h.0 t.0 fin.ends))))
    (λ (more : has_finished xs i ≡ true). neither (eqb x.thread i) (is_spend x.event) (has_spent xs i) (stays more) (unspent_from p (after_entry p s x) xs i h.1 more))
    (first_or_later (eqb x.thread i) (is_finish x.event) (has_finished xs i) f)
  where
    stays : has_finished xs i ≡ true → eqb x.thread i ≡ true → is_spend x.event ≡ false
    stays more own = elim (cases_Bool (is_spend x.event)) as (λ _. is_spend x.event ≡ false) [
      | inl spend ↦ absurd (false≢true (sym (none_any is_finish i xs (none_later p (after_entry p s x) xs i h.1 (over p s x i h.0 own (spend_ends x.event spend)))) ∙ more))
      | inr no_spend ↦ no_spend
    ]

pub finished_unspent : (p : Program) (entries : List Entry) (i : ℕ) → IsJournalRun p entries → has_finished entries i ≡ true → has_spent entries i ≡ false
finished_unspent p entries i h f = unspent_from p (initial_state p) entries i h f

-- ---- where each thread came to its end, none failed

last_behind : (x y : Entry) (more : List Entry) → last_fails (x ∷ y ∷ more) ≡ last_fails (y ∷ more)
last_behind x y more =
    let n : length (x ∷ y ∷ more) - 1 ≡ suc (length (y ∷ more) - 1) = omega arith in
    ap (λ (k : ℕ). option_map_or (λ (entry : Entry). is_failure entry.event) (slice_get (x ∷ y ∷ more) k) false) n

unfailed_from : (p : Program) (s : State) (entries : List Entry) (n : ℕ) → length s.locals ≡ n → IsRunFrom p s entries → ((i : ℕ) → i < n → (ended_in s i ≡ true) ⊎ (has_finished entries i ≡ true)) → last_fails entries ≡ false
unfailed_from p s [] n len h all = refl
unfailed_from p s (x ∷ []) n len h all = fails_more [] x ∙ ⊎_elim
    (λ (t : ended_in s x.thread ≡ true). absurd (false≢true (sym (entry_going p s x h.0) ∙ t)))
    (λ (f : has_finished (x ∷ []) x.thread ≡ true). ⊎_elim
    (λ (t : (eqb x.thread x.thread ≡ true) × (is_finish x.event ≡ true)). (finishes x.event t.1).runs)
    (λ (t : false ≡ true). absurd (false≢true t))
    (first_or_later (eqb x.thread x.thread) (is_finish x.event) false f))
    (all x.thread (subst (λ k. x.thread < k) len (entry_there p s x h.0)))
unfailed_from p s (x ∷ y ∷ more) n len h all =
    last_behind x y more ∙ unfailed_from p (after_entry p s x) (y ∷ more) n (entry_threads p s x ∙ len) h.1 later
  where
    later : (i : ℕ) → i < n → (ended_in (after_entry p s x) i ≡ true) ⊎ (has_finished (y ∷ more) i ≡ true)
    later i below = ⊎_elim
        (λ (t : ended_in s i ≡ true). inl (stays_ended p s x i h.0 t))
        (λ (f : has_finished (x ∷ y ∷ more) i ≡ true). ⊎_elim
        (λ (t : (eqb x.thread i ≡ true) × (is_finish x.event ≡ true)). inl (over p s x i h.0 t.0 (finishes x.event t.1).ends))
        (λ (t : has_finished (y ∷ more) i ≡ true). inr t)
        (first_or_later (eqb x.thread i) (is_finish x.event) (has_finished (y ∷ more) i) f))
        (all i below)

pub finished_unfailed : (p : Program) (entries : List Entry) → IsJournalRun p entries → ((i : ℕ) → i < length p.threads → has_finished entries i ≡ true) → last_fails entries ≡ false
finished_unfailed p entries h all = unfailed_from p (initial_state p) entries (length p.threads) (length-map p.threads (start_of p)) h (λ i below. inr (all i below))
