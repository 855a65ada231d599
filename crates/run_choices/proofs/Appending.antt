-- Journals with one more entry.
use Rattle.std.proofs.Common.{◌≡◌, ℕ, ◌+◌, ◌-◌, Bool, true, false, cond, eqb, ◌&&◌, List, [], ◌∷◌, ◌++◌, length, Option, Some, refl, ap, ◌∙◌, arith}
use Rattle.std.specs.Prelude.{◌||◌, slice_get}
use Rattle.std.specs.List.{list_any}
use Rattle.std.specs.Option.{option_map_or}
use Rattle.std.proofs.lemmas.List.{length-append}
use Rattle.std.proofs.lemmas.List.Folds.{list_any-append}
use Rattle.values_undef.specs.Access.{is_failure, ends_thread, is_spend}
use Rattle.values_undef.specs.Journal.{last_fails, used_steps, entry_steps}
use Rattle.values_undef.specs.declared.journal.Entry.{Entry}
use Rattle.run_choices.specs.Complete.{has_ended, has_spent}

pub used_more : (xs : List Entry) (e : Entry) (i : ℕ) → used_steps (xs ++ e ∷ []) i ≡ used_steps xs i + cond (eqb e.thread i) (entry_steps e) 0
used_more [] e i = omega arith
used_more (x ∷ xs) e i = let more = used_more xs e i in omega (arith, more)

pub one_any : (test : Entry → Bool) (e : Entry) → list_any test (e ∷ []) ≡ test e
one_any test e = elim (test e) as (λ b. (b || false) ≡ b) [ true ↦ refl | false ↦ refl ]

pub ended_more : (xs : List Entry) (e : Entry) (i : ℕ) → has_ended (xs ++ e ∷ []) i ≡ (has_ended xs i || (eqb e.thread i && ends_thread e.event))
ended_more xs e i =
    let test = λ (entry : Entry). eqb entry.thread i && ends_thread entry.event in
    list_any-append test xs (e ∷ []) ∙ ap (λ (b : Bool). has_ended xs i || b) (one_any test e)

pub spent_more : (xs : List Entry) (e : Entry) (i : ℕ) → has_spent (xs ++ e ∷ []) i ≡ (has_spent xs i || (eqb e.thread i && is_spend e.event))
spent_more xs e i =
    let test = λ (entry : Entry). eqb entry.thread i && is_spend entry.event in
    list_any-append test xs (e ∷ []) ∙ ap (λ (b : Bool). has_spent xs i || b) (one_any test e)

last_got : (xs : List Entry) (e : Entry) → slice_get (xs ++ e ∷ []) (length xs) ≡ Some e
last_got [] e = refl
last_got (x ∷ xs) e = last_got xs e

pub fails_more : (xs : List Entry) (e : Entry) → last_fails (xs ++ e ∷ []) ≡ is_failure e.event
fails_more xs e =
    let n : length (xs ++ e ∷ []) - 1 ≡ length xs = omega (arith, length-append xs (e ∷ [])) in
    ap (λ (k : ℕ). option_map_or (λ (entry : Entry). is_failure entry.event) (slice_get (xs ++ e ∷ []) k) false) n
    ∙ ap (λ (o : Option Entry). option_map_or (λ (entry : Entry). is_failure entry.event) o false) (last_got xs e)
