use Rattle.std.proofs.Common.{◌≡◌, ◌⊎◌, inl, inr, true, length, refl, sym, ap, subst, ◌∙◌}
use Rattle.values_undef.specs.declared.access.Access.TheVariants as access
use Rattle.thread_core.specs.declared.next.Next.TheVariants as next
use Rattle.thread_core.specs.Programs.{IsProperNext}
use Rattle.thread_core.specs.Alone.{within}
use Rattle.thread_core.proofs.Callers.{within_some, within_none, within_spent}
use Rattle.std.proofs.lemmas.List.{length-map}
use Rattle.il_syntax.specs.Given.{declared_values}
use Rattle.message_memory.specs.Memory.{Memory}
use Rattle.shared_memory.specs.Slot.{first_memory, params_for}
use Rattle.view_machine.proofs.Callers.{proper_in}
use Rattle.threaded_runner.proofs.steps.next_access.Goals as goal

pub returns-in-Some-clause-next : goal.returns-in-Some-clause-next
returns-in-Some-clause-next c =
    let a = c.in-Some.a in
    let some = sym c.within.ensures ∙ c.in-Some.is in
    let asks = within_some c.args.spent c.args.next a some in
    record {
      asked = inl (asks, λ e. subst (IsProperNext c.args._p.now) (asks ∙ ap next.Access e) c.requires.named);
      ends = λ spent. within_spent c.args.next a (ap (λ b. within b c.args.next) (sym spent) ∙ some);
    }

pub returns-in-None-clause-next : goal.returns-in-None-clause-next
returns-in-None-clause-next c =
    let none = within_none c.args.spent c.args.next c.requires.stops (sym c.within.ensures ∙ c.in-None.is) in
    record { asked = inr (refl, none.0, none.1); ends = λ _. inr refl }

pub returns-in-Some-clause-proper : goal.returns-in-Some-clause-proper
returns-in-Some-clause-proper c =
    let p = c.args._p.now in
    let m : Memory = first_memory (params_for p 0) in
    let na : length m.na ≡ length p.na = length-map (declared_values p.na) _ ∙ length-map p.na _ in
    let atomic : length m.atomic ≡ length p.atomic = length-map (declared_values p.atomic) _ ∙ length-map p.atomic _ in
    proper_in p m c.in-Some.a na atomic (subst (IsProperNext p) (within_some c.args.spent c.args.next c.in-Some.a (sym c.within.ensures ∙ c.in-Some.is)) c.requires.named)
