use Rattle.std.proofs.Common.{rules, ◌≡◌, Some, arith}
use Rattle.message_memory.specs.Memory.{messages, message_at}
use Rattle.equal_nodes.proofs.Views.{times_many}
use Rattle.equal_nodes.proofs.memories.same_at.Goals as goal

pub same_message-requires : goal.same_message-requires
same_message-requires c =
    let m = c.args.a.now.memory in
    let n = c.args.b.now.memory in
    let h = c.requires.beside in
    let first : message_at c.args.to (messages m c.args.y) ≡ Some c.in-Some-Some.first.now = search rules in
    let second : message_at c.args.to (messages n c.args.y) ≡ Some c.in-Some-Some.second.now = search rules in
    omega (
      arith,
      h.na,
      h.atomic,
      times_many m c.args.y c.args.to c.in-Some-Some.first.now h.first c.requires.there first,
      times_many n c.args.y c.args.to c.in-Some-Some.second.now h.second (omega (arith, h.atomic, c.requires.there)) second,
    )
