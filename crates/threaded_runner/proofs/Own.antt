-- What a thread's own calls tell of a history, and a beginning that has all of them.
use Rattle.std.proofs.Common.{◌≡◌, ◌⊎◌, ℕ, suc, ◌+◌, Bool, true, cond, eqb, ◌&&◌, List, [], ◌∷◌, ◌++◌, length, inl, inr, refl, sym, ap, ◌∙◌, ⊎_elim, arith, length-append}
use Rattle.std.specs.Prelude.{◌||◌}
use Rattle.std.specs.List.{list_any}
use Rattle.std.proofs.lemmas.Bool.{cond-false, ne_eqb, cases_eq, false≢true}
use Rattle.std.proofs.lemmas.List.{map-append}
use Rattle.values_undef.specs.Access.{is_atomic_event, is_failure, ends_thread}
use Rattle.values_undef.specs.Journal.{used_steps, last_fails, entry_steps}
use Rattle.values_undef.specs.declared.access.Event.{Event}
use Rattle.values_undef.specs.declared.journal.Entry.{Entry}
use Rattle.message_memory.specs.declared.history.Call.{Call}
use Rattle.message_memory.specs.History.{calls_by, entry_of, entries_of}
use Rattle.view_machine.specs.Runs.{is_spend}
use Rattle.run_choices.specs.Complete.{has_spent}
use Rattle.run_choices.specs.Complete.{has_ended}
use Rattle.run_choices.specs.Drawn.{atomic_entries_of}
use Rattle.run_choices.proofs.Callers.{fails_more}
use Rattle.message_memory.proofs.Callers.{calls_by-append, own_first, other_first}

-- a sum over a thread's entries is the sum over its own calls
module _ (f : Entry → ℕ) (i : ℕ) (total : List Entry → ℕ) (total_nil : total [] ≡ 0) (total_cons : (e : Entry) (es : List Entry) → total (e ∷ es) ≡ cond (eqb e.thread i) (f e) 0 + total es) where
  pub sum_own : (h : List Call) → total (entries_of h) ≡ total (entries_of (calls_by i h))
  sum_own [] = refl
  sum_own (c ∷ h) = elim (cases_eq c.thread i) [
    | inl same ↦ total_cons (entry_of c) (entries_of h) ∙ (ap (λ (n : ℕ). cond (eqb c.thread i) (f (entry_of c)) 0 + n) (sum_own h) ∙ (sym (total_cons (entry_of c) (entries_of (calls_by i h))) ∙ ap (λ (l : List Call). total (entries_of l)) (sym (own_first c h i same))))
    | inr other ↦ total_cons (entry_of c) (entries_of h) ∙ (ap (λ (n : ℕ). n + total (entries_of h)) (cond-false (eqb c.thread i) (f (entry_of c)) 0 (ne_eqb c.thread i other)) ∙ (let n : 0 + total (entries_of h) ≡ total (entries_of h) = omega arith in n) ∙ (sum_own h ∙ ap (λ (l : List Call). total (entries_of l)) (sym (other_first c h i other))))
  ]

pub used_own : (i : ℕ) (h : List Call) → used_steps (entries_of h) i ≡ used_steps (entries_of (calls_by i h)) i
used_own i h = sum_own entry_steps i (λ es. used_steps es i) refl (λ e es. refl) h

-- a test of a thread's entries is the test of its own calls
module _ (t : Event → Bool) (i : ℕ) where
  abbrev test : Entry → Bool
  test e = eqb e.thread i && t e.event

  pub any_own : (h : List Call) → list_any test (entries_of h) ≡ list_any test (entries_of (calls_by i h))
  any_own [] = refl
  any_own (c ∷ h) = elim (cases_eq c.thread i) [
    | inl same ↦ ap (λ (b : Bool). test (entry_of c) || b) (any_own h) ∙ ap (λ (l : List Call). list_any test (entries_of l)) (sym (own_first c h i same))
    | inr other ↦ ap (λ (b : Bool). (b && t c.event) || list_any test (entries_of h)) (ne_eqb c.thread i other) ∙ (any_own h ∙ ap (λ (l : List Call). list_any test (entries_of l)) (sym (other_first c h i other)))
  ]

pub spent_own : (i : ℕ) (h : List Call) → has_spent (entries_of h) i ≡ has_spent (entries_of (calls_by i h)) i
spent_own i h = any_own is_spend i h

pub ended_own : (i : ℕ) (h : List Call) → has_ended (entries_of h) i ≡ has_ended (entries_of (calls_by i h)) i
ended_own i h = any_own ends_thread i h

pub atomics_own : (i : ℕ) (h : List Call) → atomic_entries_of i (entries_of h) ≡ atomic_entries_of i (entries_of (calls_by i h))
atomics_own i [] = refl
atomics_own i (c ∷ h) = elim (cases_eq c.thread i) [
  | inl same ↦ ap (λ (n : ℕ). cond (eqb c.thread i && is_atomic_event c.event) 1 0 + n) (atomics_own i h) ∙ ap (λ (l : List Call). atomic_entries_of i (entries_of l)) (sym (own_first c h i same))
  | inr other ↦ ap (λ (b : Bool). cond (b && is_atomic_event c.event) 1 0 + atomic_entries_of i (entries_of h)) (ne_eqb c.thread i other) ∙ ((let n : 0 + atomic_entries_of i (entries_of h) ≡ atomic_entries_of i (entries_of h) = omega arith in n) ∙ (atomics_own i h ∙ ap (λ (l : List Call). atomic_entries_of i (entries_of l)) (sym (other_first c h i other))))
]

-- ---- a beginning that has all calls of a thread

-- a list in which the thread has a call has some
pub some_own : (i : ℕ) (b : List Call) (c : Call) (a : List Call) → c.thread ≡ i → calls_by i (b ++ c ∷ a) ≡ [] → ⊥
some_own i b c a own none =
    let n = ap length (sym none ∙ (calls_by-append i b (c ∷ a) ∙ ap (λ l. calls_by i b ++ l) (own_first c a i own))) ∙ length-append (calls_by i b) (c ∷ calls_by i a) in
    let m : length (c ∷ calls_by i a) ≡ suc (length (calls_by i a)) = refl in
    absurd (omega (arith, n, m))

pub within_beginning : (i : ℕ) (seen rest b : List Call) (c : Call) (a : List Call) → seen ++ rest ≡ b ++ c ∷ a → calls_by i rest ≡ [] → c.thread ≡ i → (more : List Call) × (seen ≡ b ++ c ∷ more)
within_beginning i [] rest b c a is none own = absurd (some_own i b c a own (ap (calls_by i) (sym is) ∙ none))
within_beginning i (x ∷ seen) rest [] c a is none own = (seen, cc is)
within_beginning i (x ∷ seen) rest (y ∷ b) c a is none own =
    let r = within_beginning i seen rest b c a (cc is) none own in
    (r.0, (λ j. (let e : x ≡ y = cc is in e) j ∷ r.1 j))

-- ---- the last call

pub snoc : (h : List Call) → (h ≡ []) ⊎ ((b : List Call) × (c : Call) × (h ≡ b ++ c ∷ []))
snoc [] = inl refl
snoc (x ∷ xs) = ⊎_elim
    (λ (e : xs ≡ []). inr ([], x, ap (λ l. x ∷ l) e))
    (λ (e : (b : List Call) × (c : Call) × (xs ≡ b ++ c ∷ [])). inr (x ∷ e.0, e.1, ap (λ l. x ∷ l) e.2))
    (snoc xs)

pub fails_push : (b : List Call) (c : Call) → last_fails (entries_of (b ++ c ∷ [])) ≡ is_failure c.event
fails_push b c = ap last_fails (map-append entry_of b (c ∷ [])) ∙ fails_more (entries_of b) (entry_of c)

-- the history ends in a failure
pub record FailsLast (h : List Call) : Type 0 where
  pub before : List Call
  pub last : Call
  pub whole : h ≡ before ++ last ∷ []
  pub failure : is_failure last.event ≡ true

pub fails_last : (h : List Call) → last_fails (entries_of h) ≡ true → FailsLast h
fails_last h f = ⊎_elim
    (λ (e : h ≡ []). absurd (false≢true (ap (λ (l : List Call). last_fails (entries_of l)) (sym e) ∙ f)))
    (λ (e : (b : List Call) × (c : Call) × (h ≡ b ++ c ∷ [])). record { before = e.0; last = e.1; whole = e.2; failure = sym (fails_push e.0 e.1) ∙ (ap (λ (l : List Call). last_fails (entries_of l)) (sym e.2) ∙ f) })
    (snoc h)

-- ---- entries taken apart

pub record SplitCalls (h : List Call) (b : List Entry) (e : Entry) (a : List Entry) : Type 0 where
  pub before : List Call
  pub call : Call
  pub after : List Call
  pub whole : h ≡ before ++ call ∷ after
  pub before_is : entries_of before ≡ b
  pub call_is : entry_of call ≡ e

pub split_calls : (h : List Call) (b : List Entry) (e : Entry) (a : List Entry) → entries_of h ≡ b ++ e ∷ a → SplitCalls h b e a
split_calls [] [] e a is = absurd cc
split_calls [] (x ∷ b) e a is = absurd cc
split_calls (c ∷ h) [] e a is = record { before = []; call = c; after = h; whole = refl; before_is = refl; call_is = cc is }
split_calls (c ∷ h) (x ∷ b) e a is =
    let r = split_calls h b e a (cc is) in
    record { before = c ∷ r.before; call = r.call; after = r.after; whole = ap (λ l. c ∷ l) r.whole; before_is = (λ j. (let q : entry_of c ≡ x = cc is in q) j ∷ r.before_is j); call_is = r.call_is }
