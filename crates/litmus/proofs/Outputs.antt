-- Outputs that are gathered entry by entry.
use Rattle.std.proofs.Common.{◌≡◌, ◌∙◌, ◌+◌, ◌<◌, ◌==◌, ℕ, sym, ap, refl, Bool, true, false, cond, List, [], ◌∷◌, ◌++◌, length, get_or, map, take, append_assoc, append-nil}
use Rattle.std.specs.List.{flat_map, range_with_len}
use Rattle.std.proofs.lemmas.Bool.{eq-eqb, ne_eqb}
use Rattle.std.proofs.lemmas.Grind.{flat_map-append}
use Rattle.std.proofs.lemmas.List.{map-append, take_more}
use Rattle.std.proofs.lemmas.List.Elements.{filter_more}
use Rattle.values_undef.specs.Journal.{Output, outputs_of, printed}
use Rattle.values_undef.specs.declared.journal.Entry.{Entry}
use Rattle.litmus.specs.declared.outcome.Printed.{Printed}
use Rattle.litmus.specs.Outcome.{as_printed, of_thread, printed_in}
use Rattle.litmus.proofs.Tables.{range_from_zero}

outputs_append : (xs ys : List Entry) → outputs_of (xs ++ ys) ≡ outputs_of xs ++ outputs_of ys
outputs_append [] ys = refl
outputs_append (x ∷ xs) ys = ap (λ (os : List Output). printed x.thread x.event ++ os) (outputs_append xs ys) ∙ sym (append_assoc (printed x.thread x.event) (outputs_of xs) (outputs_of ys))

-- one entry more
pub printed_more : (entries : List Entry) (out new : List Printed) (i : ℕ) (d : Entry) → i < length entries → out ≡ printed_in (take i entries)
    → new ≡ out ++ map as_printed (printed (get_or entries i d).thread (get_or entries i d).event) → new ≡ printed_in (take (i + 1) entries)
printed_more entries out new i d below is more =
    let e = get_or entries i d in
    let one : outputs_of (take (i + 1) entries) ≡ outputs_of (take i entries) ++ printed e.thread e.event =
    ap outputs_of (take_more entries i d below) ∙ outputs_append (take i entries) (e ∷ []) ∙ ap (λ (os : List Output). outputs_of (take i entries) ++ os) (append-nil (printed e.thread e.event)) in
    more ∙ ap (λ (os : List Printed). os ++ map as_printed (printed e.thread e.event)) is ∙ sym (map-append as_printed (outputs_of (take i entries)) (printed e.thread e.event)) ∙ sym (ap (map as_printed) one)

-- one thread more
pub threads_more : (outputs out new : List Printed) (t : ℕ) → out ≡ flat_map (λ k. of_thread k outputs) (range_with_len 0 t) → new ≡ out ++ of_thread t outputs
    → new ≡ flat_map (λ k. of_thread k outputs) (range_with_len 0 (t + 1))
threads_more outputs out new t is more =
    more ∙ ap (λ (os : List Printed). os ++ of_thread t outputs) is
    ∙ ap (λ (os : List Printed). flat_map (λ k. of_thread k outputs) (range_with_len 0 t) ++ os) (sym (append-nil (of_thread t outputs)))
    ∙ sym (flat_map-append (λ k. of_thread k outputs) (range_with_len 0 t) (t ∷ [])) ∙ sym (ap (flat_map (λ k. of_thread k outputs)) (range_from_zero t))

-- one output more, which is the thread's, or isn't
pub kept_more : (start out new outputs : List Printed) (thread i : ℕ) (d : Printed) → i < length outputs → out ≡ start ++ of_thread thread (take i outputs) → (get_or outputs i d).thread ≡ thread
    → new ≡ out ++ get_or outputs i d ∷ [] → new ≡ start ++ of_thread thread (take (i + 1) outputs)
kept_more start out new outputs thread i d below is same more =
    let o = get_or outputs i d in
    let one : of_thread thread (take (i + 1) outputs) ≡ of_thread thread (take i outputs) ++ o ∷ [] =
    filter_more (λ (p : Printed). p.thread == thread) outputs i d below ∙ ap (λ (b : Bool). of_thread thread (take i outputs) ++ cond b (o ∷ []) []) (eq-eqb o.thread thread same) in
    more ∙ ap (λ (os : List Printed). os ++ o ∷ []) is ∙ append_assoc start (of_thread thread (take i outputs)) (o ∷ []) ∙ sym (ap (λ (os : List Printed). start ++ os) one)

pub passed_more : (start out outputs : List Printed) (thread i : ℕ) (d : Printed) → i < length outputs → out ≡ start ++ of_thread thread (take i outputs) → ((get_or outputs i d).thread ≡ thread → ⊥)
    → out ≡ start ++ of_thread thread (take (i + 1) outputs)
passed_more start out outputs thread i d below is other =
    let o = get_or outputs i d in
    let one : of_thread thread (take (i + 1) outputs) ≡ of_thread thread (take i outputs) =
    filter_more (λ (p : Printed). p.thread == thread) outputs i d below ∙ ap (λ (b : Bool). of_thread thread (take i outputs) ++ cond b (o ∷ []) []) (ne_eqb o.thread thread other) ∙ append-nil (of_thread thread (take i outputs)) in
    is ∙ sym (ap (λ (os : List Printed). start ++ os) one)
