use Rattle.std.proofs.Common.{rules, ◌≡◌, get_or, refl}
use Rattle.std.specs.Prelude.{IsSome}
use Rattle.views.specs.ThreadView.{no_view}
use Rattle.message_memory.specs.Memory.{messages, message_at}
use Rattle.message_memory.specs.Candidates.{location_of}
use Rattle.message_memory.specs.Step.{IsLegal}
use Rattle.memory_likeness.specs.Answering.{puts_in}
use Rattle.outcome_moves.specs.Behind.{event_behind}
use Rattle.outcome_moves.specs.Moves.{last_state}
use Rattle.outcome_moves.proofs.Making.{legal_there, far_there, tried_far, tried_close}
use Rattle.outcome_moves.proofs.moves.try_move.Goals as goal

pub returns-then-not-is_legal-clause-tried : goal.returns-then-not-is_legal-clause-tried
returns-then-not-is_legal-clause-tried c =
    let p = c.args.p.now in
    let s = last_state p c.args.entries.now in
    let told : c.in-Some.puts ≡ puts_in (last_state c.args.p.now c.args.entries.now).memory c.args.a.now c.args.b = search rules in
    let never : IsLegal c.args.machine.now.memory (get_or c.args.machine.now.views c.args.thread no_view) c.args.a.now c.choice_close-choice.result → ⊥ = search rules in
    tried_far p c.args._steps c.args.entries.now c.args.thread c.args.a.now c.args.b c.requires.proper c.requires.run c.requires.there c.requires.asks c.requires.named c.in-Some.puts _ told refl c.choice_close-choice.result
    (c.choice_close-choice.ensures s.memory told) (λ h. never (far_there s c.args.thread c.args.a.now c.choice_close-choice.result c.args.machine.now.memory c.args.machine.now.views c.requires.memory c.requires.views h))

pub returns-clause-tried : goal.returns-clause-tried
returns-clause-tried c =
    let p = c.args.p.now in
    let s = last_state p c.args.entries.now in
    let told : c.in-Some.puts ≡ puts_in (last_state c.args.p.now c.args.entries.now).memory c.args.a.now c.args.b = search rules in
    let event : c.in-Some.event ≡ event_behind (last_state c.args.p.now c.args.entries.now).memory c.args.a.now c.args.b = search rules in
    let found : IsSome (message_at c.args.b (messages (last_state c.args.p.now c.args.entries.now).memory (location_of c.args.a.now))) = search rules in
    let legal : IsLegal c.args.machine.now.memory (get_or c.args.machine.now.views c.args.thread no_view) c.args.a.now c.choice_close-choice.result = search rules in
    (tried_close p c.args._steps c.args.entries.now c.args.thread c.args.a.now c.args.b c.requires.proper c.requires.run c.requires.there c.requires.asks c.requires.named c.in-Some.puts _ told refl c.choice_close-choice.result c.args.silent c.in-Some.event
    c.in_ok-made.made.entries.items c.in_ok-made.made.fails (c.choice_close-choice.ensures s.memory told) c.requires.silent c.requires.choice found
    (legal_there s c.args.thread c.args.a.now c.choice_close-choice.result c.args.machine.now.memory c.args.machine.now.views c.requires.memory c.requires.views legal) event c.in_ok-made.ensures.run c.in_ok-made.ensures.fails).0

pub returns-clause-small : goal.returns-clause-small
returns-clause-small c =
    let p = c.args.p.now in
    let s = last_state p c.args.entries.now in
    let told : c.in-Some.puts ≡ puts_in (last_state c.args.p.now c.args.entries.now).memory c.args.a.now c.args.b = search rules in
    let event : c.in-Some.event ≡ event_behind (last_state c.args.p.now c.args.entries.now).memory c.args.a.now c.args.b = search rules in
    let found : IsSome (message_at c.args.b (messages (last_state c.args.p.now c.args.entries.now).memory (location_of c.args.a.now))) = search rules in
    let legal : IsLegal c.args.machine.now.memory (get_or c.args.machine.now.views c.args.thread no_view) c.args.a.now c.choice_close-choice.result = search rules in
    (tried_close p c.args._steps c.args.entries.now c.args.thread c.args.a.now c.args.b c.requires.proper c.requires.run c.requires.there c.requires.asks c.requires.named c.in-Some.puts _ told refl c.choice_close-choice.result c.args.silent c.in-Some.event
    c.in_ok-made.made.entries.items c.in_ok-made.made.fails (c.choice_close-choice.ensures s.memory told) c.requires.silent c.requires.choice found
    (legal_there s c.args.thread c.args.a.now c.choice_close-choice.result c.args.machine.now.memory c.args.machine.now.views c.requires.memory c.requires.views legal) event c.in_ok-made.ensures.run c.in_ok-made.ensures.fails).1
