use Rattle.std.proofs.Common.{rules, ◌≡◌, ◌-◌, ◌<◌, List, length, get_or, sym, ap, ◌∙◌, arith}
use Rattle.values_undef.specs.declared.journal.Entry.{Entry}
use Rattle.thread_core.specs.Frames.{Stack, next_of}
use Rattle.thread_core.specs.Asking.{asked}
use Rattle.thread_core.specs.Steps.{stack_in}
use Rattle.exec_graph.proofs.LastSteps.{starts}
use Rattle.exec_graph.proofs.LastGoals.{last_there, own_silent, own_more, last_silent, last_asks}
use Rattle.exec_graph.proofs.last.last_access.Goals as goal

pub start-requires-clause-there : goal.start-requires-clause-there
start-requires-clause-there c =
    let journal = c.args.journal.now in
    let item = c.index.result.now in
    let listed : c.journal.inside.entries.items ≡ journal = c.journal.view_is in
    let k = c.len-last.result - 1 in
    let many = ap (λ (xs : List Entry). length xs) listed in
    let below : k < length journal = first_of (search rules, omega (arith, many, c.requires.some)) in
    last_there c.args.p.now journal k item c.requires.run below (sym (c.index.ensures ∙ ap (λ (xs : List Entry). get_or xs k item) listed))

pub loop-k-init : goal.loop-k-init
loop-k-init c = record {
  stack = starts c.args.p.now c.index.result.now.thread (stack_in c.args.p.now c.in_ok-local.local) c.in_ok-local.ensures.stack;
  at = c.in_ok-local.ensures.at;
}

pub pass-requires-clause-silent : goal.pass-requires-clause-silent
pass-requires-clause-silent c =
    let journal = c.args.journal.now in
    let item = c.index-in-loop-k.result.now in
    let listed : c.journal.inside.entries.items ≡ journal = c.journal.view_is in
    let k = c.loop-k.k in
    let many = ap (λ (xs : List Entry). length xs) listed in
    let below : k < length journal = first_of (search rules, omega (arith, many, c.requires.some)) in
    own_silent c.args.p.now journal k c.index.result.now.thread item (stack_in c.args.p.now c.loop-k.local) c.requires.run below
    (sym (c.index-in-loop-k.ensures ∙ ap (λ (xs : List Entry). get_or xs k item) listed)) c.loop-k.invariant.stack

pub loop-k-preserved : goal.loop-k-preserved
loop-k-preserved c =
    let journal = c.args.journal.now in
    let item = c.index-in-loop-k.result.now in
    let listed : c.journal.inside.entries.items ≡ journal = c.journal.view_is in
    let k = c.loop-k.k in
    let many = ap (λ (xs : List Entry). length xs) listed in
    let below : k < length journal = first_of (search rules, omega (arith, many, c.requires.some)) in
    record {
      stack = own_more c.args.p.now journal k c.index.result.now.thread item (stack_in c.args.p.now c.loop-k.local) (stack_in c.args.p.now c.pass.new.local) below
          (sym (c.index-in-loop-k.ensures ∙ ap (λ (xs : List Entry). get_or xs k item) listed)) c.loop-k.invariant.stack c.pass.ensures.stack;
      at = c.pass.ensures.at;
    }

pub make_silent-next-requires-clause-silent : goal.make_silent-next-requires-clause-silent
make_silent-next-requires-clause-silent c =
    let journal = c.args.journal.now in
    let item = c.index.result.now in
    let other = c.index-2.result.now in
    let listed : c.journal.inside.entries.items ≡ journal = c.journal.view_is in
    let k = c.len-last.result - 1 in
    let many = ap (λ (xs : List Entry). length xs) listed in
    let below : k < length journal = first_of (search rules, omega (arith, many, c.requires.some)) in
    let n : c.loop-k.k ≡ k = first_of (search rules, omega arith) in
    last_silent c.args.p.now journal k c.loop-k.k item other (stack_in c.args.p.now c.loop-k.local) c.requires.run below
    (sym (c.index.ensures ∙ ap (λ (xs : List Entry). get_or xs k item) listed)) (sym (c.index-2.ensures ∙ ap (λ (xs : List Entry). get_or xs k other) listed)) n c.loop-k.invariant.stack

pub returns : goal.returns
returns c =
    let p = c.args.p.now in
    let journal = c.args.journal.now in
    let item = c.index.result.now in
    let other = c.index-2.result.now in
    let listed : c.journal.inside.entries.items ≡ journal = c.journal.view_is in
    let k = c.len-last.result - 1 in
    let many = ap (λ (xs : List Entry). length xs) listed in
    let below : k < length journal = first_of (search rules, omega (arith, many, c.requires.some)) in
    let last : k ≡ length journal - 1 = first_of (search rules, omega (arith, many, c.requires.some)) in
    let n : c.loop-k.k ≡ k = first_of (search rules, omega arith) in
    c.asked.ensures ∙ ap asked (c.make_silent-next.ensures.next ∙ ap (λ (x : Stack). next_of x) c.make_silent-next.ensures.stack)
    ∙ last_asks p journal k c.loop-k.k item other (stack_in p c.loop-k.local) c.requires.run below last
    (sym (c.index.ensures ∙ ap (λ (xs : List Entry). get_or xs k item) listed)) (sym (c.index-2.ensures ∙ ap (λ (xs : List Entry). get_or xs k other) listed)) n c.loop-k.invariant.stack c.requires.asks
