-- Traces and used_steps steps of journals.
use Rattle.std.proofs.Common.{◌≡◌, ℕ, ◌+◌, Bool, true, false, cond, eqb, List, [], ◌∷◌, ◌++◌, refl, sym, ap, ◌∙◌, arith, ◌⊎◌, inl, inr, ⊎_elim}
use Rattle.std.proofs.lemmas.Bool.{cond-true, cond-false, cases_eq, eq-eqb, ne_eqb}
use Rattle.std.specs.List.{AllZip}
use Rattle.values_undef.specs.Journal.{used_steps}
use Rattle.values_undef.specs.Matching.{is_traced}
use Rattle.refinement.specs.Books.{at_thread}
use Rattle.values_undef.proofs.Callers.{event_refl, event_trans}
use Rattle.values_undef.specs.declared.journal.Entry.{Entry}
use Rattle.refinement.specs.Refinement.{Traced, trace, IsTracedBelow, BeginsBelow}

-- ---- traces

abbrev pub traced : Entry → Traced
traced e = record { thread = e.thread; event = e.event }

pub trace_kept : (e : Entry) (js : List Entry) → is_traced e.event ≡ true → trace (e ∷ js) ≡ traced e ∷ trace js
trace_kept e js h = cond-true (is_traced e.event) (traced e ∷ trace js) (trace js) h

pub trace_skipped : (e : Entry) (js : List Entry) → is_traced e.event ≡ false → trace (e ∷ js) ≡ trace js
trace_skipped e js h = cond-false (is_traced e.event) (traced e ∷ trace js) (trace js) h

pub trace-append : (js ks : List Entry) → trace (js ++ ks) ≡ trace js ++ trace ks
trace-append [] ks = refl
trace-append (e ∷ js) ks = choose (is_traced e.event) (trace-append js ks)
  where
    choose : (b : Bool) → trace (js ++ ks) ≡ trace js ++ trace ks → cond b (traced e ∷ trace (js ++ ks)) (trace (js ++ ks)) ≡ cond b (traced e ∷ trace js) (trace js) ++ trace ks
    choose true h = ap (λ r. traced e ∷ r) h
    choose false h = h

pub traced_refl : (t : Traced) → IsTracedBelow t t
traced_refl t = record { thread = refl; event = event_refl t.event }

pub traced_trans : (a b c : Traced) → IsTracedBelow a b → IsTracedBelow b c → IsTracedBelow a c
traced_trans a b c p q = record { thread = p.thread ∙ q.thread; event = event_trans a.event b.event c.event p.event q.event }

pub zip_refl : (ts : List Traced) → AllZip IsTracedBelow ts ts
zip_refl [] = tt
zip_refl (t ∷ ts) = (traced_refl t, zip_refl ts)

pub zip_trans : (xs ys zs : List Traced) → AllZip IsTracedBelow xs ys → AllZip IsTracedBelow ys zs → AllZip IsTracedBelow xs zs
zip_trans [] [] zs p q = q
zip_trans [] (b ∷ ys) zs p q = absurd p
zip_trans (a ∷ xs) [] zs p q = absurd p
zip_trans (a ∷ xs) (b ∷ ys) [] p q = absurd q
zip_trans (a ∷ xs) (b ∷ ys) (c ∷ zs) p q = (traced_trans a b c p.0 q.0, zip_trans xs ys zs p.1 q.1)

pub zip_begins : (xs ys : List Traced) → AllZip IsTracedBelow xs ys → BeginsBelow xs ys
zip_begins xs [] p = tt
zip_begins [] (b ∷ ys) p = p
zip_begins (a ∷ xs) (b ∷ ys) p = (p.0, zip_begins xs ys p.1)

pub begins_trans : (xs ys zs : List Traced) → BeginsBelow xs ys → BeginsBelow ys zs → BeginsBelow xs zs
begins_trans xs ys [] p q = tt
begins_trans xs [] (c ∷ zs) p q = absurd q
begins_trans [] (b ∷ ys) (c ∷ zs) p q = absurd p
begins_trans (a ∷ xs) (b ∷ ys) (c ∷ zs) p q = (traced_trans a b c p.0 q.0, begins_trans xs ys zs p.1 q.1)

pub begins_more : (xs ys rest : List Traced) → BeginsBelow xs ys → BeginsBelow (xs ++ rest) ys
begins_more xs [] rest p = tt
begins_more [] (b ∷ ys) rest p = absurd p
begins_more (a ∷ xs) (b ∷ ys) rest p = (p.0, begins_more xs ys rest p.1)

pub zip_append : (xs ys zs ws : List Traced) → AllZip IsTracedBelow xs ys → AllZip IsTracedBelow zs ws → AllZip IsTracedBelow (xs ++ zs) (ys ++ ws)
zip_append [] [] zs ws p q = q
zip_append [] (b ∷ ys) zs ws p q = absurd p
zip_append (a ∷ xs) [] zs ws p q = absurd p
zip_append (a ∷ xs) (b ∷ ys) zs ws p q = (p.0, zip_append xs ys zs ws p.1 q)

-- ---- used_steps steps

pub used_steps-append : (js ks : List Entry) (j : ℕ) → used_steps (js ++ ks) j ≡ used_steps js j + used_steps ks j
used_steps-append [] ks j = omega arith
used_steps-append (e ∷ js) ks j = omega (arith, used_steps-append js ks j)

-- at the thread itself the number, elsewhere 0
pub record IsAt (i j : ℕ) : Type 0 where
  pub same : j ≡ i
  pub number : (n : ℕ) → at_thread i n j ≡ n

pub record IsElsewhere (i j : ℕ) : Type 0 where
  pub other : j ≡ i → ⊥
  pub number : (n : ℕ) → at_thread i n j ≡ 0

pub at_or_elsewhere : (i j : ℕ) → IsAt i j ⊎ IsElsewhere i j
at_or_elsewhere i j =
    ⊎_elim
    (λ (e : j ≡ i). inl (record { same = e; number = λ n. cond-true (eqb i j) n 0 (eq-eqb i j (sym e)) }))
    (λ (e : j ≡ i → ⊥). inr (record { other = e; number = λ n. cond-false (eqb i j) n 0 (ne_eqb i j (λ (h : i ≡ j). e (sym h))) }))
    (cases_eq j i)
