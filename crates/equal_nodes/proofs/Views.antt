-- Equal views, and the lengths of messages' times.
use Rattle.std.proofs.Common.{◌≡◌, ℕ, ◌+◌, ◌<◌, length, Option, Some, sym, ap, ◌∙◌, subst, refl, arith}
use Rattle.std.specs.Prelude.{IsSome, unwrap_or}
use Rattle.views.specs.ThreadView.{ThreadView, IsOrdered, IsViewBelow}
use Rattle.views.proofs.Callers.{below_antisymmetric}
use Rattle.memory_likeness.proofs.Callers.{view_same}
use Rattle.message_memory.specs.declared.message.Message.{Message}
use Rattle.message_memory.specs.Memory.{Memory, messages, message_at, IsWellFormedMemory, IsClosed}
use Rattle.message_memory.proofs.Callers.{all_found}

-- views that are below each other are equal
pub view_equal : (v w : ThreadView) → IsOrdered v → IsOrdered w → length w.cur ≡ length v.cur → IsViewBelow v w → IsViewBelow w v → v ≡ w
view_equal v w a b e p q =
    view_same v w
    (below_antisymmetric v.cur w.cur e p.cur q.cur)
    (below_antisymmetric v.got w.got (omega (arith, e, a.got_length, b.got_length)) p.got q.got)
    (below_antisymmetric v.rel w.rel (omega (arith, e, a.rel_length, b.rel_length)) p.rel q.rel)

pub view_below : (v w : ThreadView) → v ≡ w → IsViewBelow v w
view_below v w e = subst (IsViewBelow v) e (record { cur = λ k h. omega arith; got = λ k h. omega arith; rel = λ k h. omega arith })

-- a message has a timestamp for each location
pub times_many : (m : Memory) (y to : ℕ) (x : Message) → IsWellFormedMemory m → y < length m.atomic → message_at to (messages m y) ≡ Some x → length x.times ≡ length m.na + length m.atomic
times_many m y to x ok l e =
    ap (λ (o : Option Message). length (unwrap_or o x).times) (sym e)
    ∙ (all_found (λ (n : Message). IsClosed m n.times) to (messages m y) x (ok.closed y l) (subst (λ (o : Option Message). IsSome o) (sym e) refl)).locations
