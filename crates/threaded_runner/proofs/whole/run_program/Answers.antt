use Rattle.std.proofs.Common.{◌≡◌, [], List, length, sym, ap, ◌∙◌, subst}
use Rattle.std.specs.List.{AllByRecursion}
use Rattle.shared_memory.specs.Passes.{PassValue, IsRow, own_calls}
use Rattle.shared_memory.proofs.Callers.{length-fresh, fresh_row}
use Rattle.threaded_runner.proofs.Together.{fresh_all, whole_journal}
use Rattle.threaded_runner.proofs.whole.run_program.Goals as goal

pub run_threads-requires-clause-all : goal.run_threads-requires-clause-all
run_threads-requires-clause-all g c κs within = ap length c.in_ok-shared.ensures.passes ∙ length-fresh c.in_ok-shared.shared 0 (length c.args.p.now.threads)

pub run_threads-requires-clause-row : goal.run_threads-requires-clause-row
run_threads-requires-clause-row g c κs within = subst (λ (l : List PassValue). IsRow c.in_ok-shared.shared 0 l) (sym c.in_ok-shared.ensures.passes) (fresh_row c.in_ok-shared.shared 0 (length c.args.p.now.threads))

pub run_threads-requires-clause-fresh : goal.run_threads-requires-clause-fresh
run_threads-requires-clause-fresh g c κs within = subst (AllByRecursion (λ (pass : PassValue). own_calls pass ≡ [])) (sym c.in_ok-shared.ensures.passes) (fresh_all c.in_ok-shared.shared 0 (length c.args.p.now.threads))

pub returns-clause-run : goal.returns-clause-run
returns-clause-run g c = (whole_journal c.args.p.now c.in_ok-shared.shared _ c.args.seed c.args.steps c.close.result c.run_threads.new.passes.list _ c.in_ok-shared.ensures.params c.in_ok-run_threads.ensures.all c.in_ok-run_threads.ensures.row c.in_ok-run_threads.ensures.worked c.close.ensures).run

pub returns-clause-complete : goal.returns-clause-complete
returns-clause-complete g c = (whole_journal c.args.p.now c.in_ok-shared.shared _ c.args.seed c.args.steps c.close.result c.run_threads.new.passes.list _ c.in_ok-shared.ensures.params c.in_ok-run_threads.ensures.all c.in_ok-run_threads.ensures.row c.in_ok-run_threads.ensures.worked c.close.ensures).complete

pub returns-clause-drawn : goal.returns-clause-drawn
returns-clause-drawn g c = (whole_journal c.args.p.now c.in_ok-shared.shared _ c.args.seed c.args.steps c.close.result c.run_threads.new.passes.list _ c.in_ok-shared.ensures.params c.in_ok-run_threads.ensures.all c.in_ok-run_threads.ensures.row c.in_ok-run_threads.ensures.worked c.close.ensures).drawn

pub returns-clause-few : goal.returns-clause-few
returns-clause-few g c = (whole_journal c.args.p.now c.in_ok-shared.shared _ c.args.seed c.args.steps c.close.result c.run_threads.new.passes.list _ c.in_ok-shared.ensures.params c.in_ok-run_threads.ensures.all c.in_ok-run_threads.ensures.row c.in_ok-run_threads.ensures.worked c.close.ensures).few
