-- The test of outcomes is equality.
use Rattle.std.proofs.Common.{◌≡◌, ◌==◌, ◌↔◌, Bool, true, false, ◌&&◌, refl, sym, ap, subst, ◌∙◌, List}
use Rattle.std.specs.Bool.{Decides}
use Rattle.std.specs.Cmp.{unsigned_Decides, signed_Decides}
use Rattle.std.specs.Cmp.Lexicographic.{pointwise}
use Rattle.std.specs.Ordering.{int_eq}
use Rattle.std.proofs.lemmas.Bool.{and_parts, and_from, true≢false}
use Rattle.std.proofs.lemmas.Slice.Eq.{slice_eq-Decides}
use Rattle.values_undef.specs.declared.journal.Ending.{Ending}
use Rattle.values_undef.specs.declared.journal.Ending.TheVariants.{Done, Failed, Spent}
use Rattle.litmus.specs.declared.outcome.Printed.{Printed}
use Rattle.litmus.specs.Outcome.{EndAndOutputs, same_ending, same_printed, same_outcome}

printed_decided : (a b : Printed) → Decides (same_printed a b) (a ≡ b)
printed_decided a b = (
  (λ e.
      let both = and_parts (a.thread == b.thread) (int_eq a.value b.value) e in
      let thread = (unsigned_Decides a.thread b.thread).0 both.0 in
      let value = (signed_Decides a.value b.value).0 both.1 in
      λ i. record { thread = thread i; value = value i }),
  (λ e. and_from (a.thread == b.thread) (int_eq a.value b.value)
      ((unsigned_Decides a.thread b.thread).1 (ap (λ (o : Printed). o.thread) e))
      ((signed_Decides a.value b.value).1 (ap (λ (o : Printed). o.value) e))),
)

ending_forward : (a b : Ending) → same_ending a b ≡ true → a ≡ b
ending_forward Done Done e = refl
ending_forward Failed Failed e = refl
ending_forward Spent Spent e = refl
ending_forward Done Failed e = absurd (true≢false (sym e))
ending_forward Done Spent e = absurd (true≢false (sym e))
ending_forward Failed Done e = absurd (true≢false (sym e))
ending_forward Failed Spent e = absurd (true≢false (sym e))
ending_forward Spent Done e = absurd (true≢false (sym e))
ending_forward Spent Failed e = absurd (true≢false (sym e))

ending_same : (a : Ending) → same_ending a a ≡ true
ending_same Done = refl
ending_same Failed = refl
ending_same Spent = refl

outputs_decided : (xs ys : List Printed) → Decides (pointwise same_printed xs ys) (xs ≡ ys)
outputs_decided xs ys = slice_eq-Decides printed_decided xs ys (pointwise same_printed xs ys) refl

pub told : (a b : EndAndOutputs) → same_outcome a b ≡ true → a ≡ b
told a b e =
    let both = and_parts (same_ending a.ending b.ending) (pointwise same_printed a.outputs b.outputs) e in
    let ending = ending_forward a.ending b.ending both.0 in
    let outputs = (outputs_decided a.outputs b.outputs).0 both.1 in
    λ i. record { ending = ending i; outputs = outputs i }

pub same_is : (a : EndAndOutputs) → same_outcome a a ≡ true
same_is a = and_from (same_ending a.ending a.ending) (pointwise same_printed a.outputs a.outputs) (ending_same a.ending) ((outputs_decided a.outputs a.outputs).1 refl)

pub told_apart : (a b : EndAndOutputs) → (same_outcome a b ≡ true) ↔ (a ≡ b)
told_apart a b = (told a b, λ e. subst (λ (o : EndAndOutputs). same_outcome a o ≡ true) e (same_is a))
