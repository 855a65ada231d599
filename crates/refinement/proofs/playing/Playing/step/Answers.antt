use Rattle.std.proofs.Common.{rules, ◌≡◌, ap, sym, subst, ◌∙◌}
use Rattle.view_machine.specs.Held.{state_in}
use Rattle.view_machine.specs.State.{State, IsStep}
use Rattle.refinement.proofs.playing.Playing.step.Goals as goal

pub returns-in-Err : goal.returns-in-Err
returns-in-Err g c =
    let p = c.args.p.now in
    let kept : state_in p c.reserve.new.self ≡ state_in p c.args.self.now.machine = ap (state_in p) c.in_ok-reserve.ensures.same in
    let same : state_in p c.step.new.self ≡ state_in p c.args.self.now.machine = ap (state_in p) c.in-Err.ensures.same ∙ kept in
    record {
      made = record {
        none = λ h. c.in-Err.ensures.none (subst (λ (s : State). IsStep s c.args.thread c.args.c.now) (sym kept) h);
        same = record { state = same; silent = search rules; entries = search rules; program = search rules };
      };
    }
