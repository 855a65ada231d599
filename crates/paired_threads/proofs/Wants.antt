-- What the source wants at a statement where the target wants something at it.
use Rattle.std.proofs.Common.{◌≡◌, ℕ, Bool, true, false, cond, nat_lt, List, Option, Some, None, sym, subst}
use Rattle.values_undef.specs.Value.{IsBelow}
use Rattle.values_undef.specs.Arithmetic.{IsResultBelow}
use Rattle.values_undef.specs.declared.value.Val.{Val}
use Rattle.values_undef.specs.declared.value.Val.TheVariants.{Def, Undef}
use Rattle.values_undef.specs.declared.access.Cause.TheVariants as cause
use Rattle.values_undef.specs.declared.access.Access.TheVariants as access
use Rattle.values_undef.proofs.Callers.{arithmetic_monotone}
use Rattle.il_syntax.specs.declared.program.Program.{Program}
use Rattle.il_syntax.specs.declared.statement.Stmt.TheOpen.{Skip, Copy, Compute, Load, Store, AtomicLoad, AtomicStore, Update, Fence, Print, If, While, Call}
use Rattle.il_syntax.specs.Statements.{Head}
use Rattle.values_undef.specs.Matching.{loads, stores, reads, writes, updates, fences, prints}
use Rattle.thread_core.specs.declared.next.Next.TheVariants as next
use Rattle.thread_core.specs.Programs.{IsProperHead}
use Rattle.thread_core.specs.Frames.{evaluated, next_at, decided, computed, next_print, deepened}
use Rattle.paired_threads.specs.Values.{RegistersBelow}
use Rattle.paired_threads.specs.Wants.{IsNextBelow, both_silent, both_ask, source_fails}
use Rattle.paired_threads.proofs.Below.{atom_below, kind_below}

decided_below : (a b : Val) → IsBelow a b → IsNextBelow (decided a) (decided b)
decided_below Undef Undef h = source_fails tt
decided_below (Def n) Undef h = source_fails tt
decided_below a (Def n) h = subst (λ (c : Val). IsNextBelow (decided c) next.Silent) (sym h) both_silent

computed_below : (a b : Option Val) → IsResultBelow a b → IsNextBelow (computed a) (computed b)
computed_below None None h = source_fails tt
computed_below (Some c) None h = source_fails tt
computed_below None (Some d) h = absurd h
computed_below (Some c) (Some d) h = both_silent

printed_below : (a b : Val) → IsBelow a b → IsNextBelow (next_print a) (next_print b)
printed_below Undef Undef h = source_fails tt
printed_below (Def n) Undef h = source_fails tt
printed_below a (Def n) h = subst (λ (c : Val). IsNextBelow (next_print c) (next.Access (access.Print n))) (sym h) (both_ask prints)

deepened_below : (depth : ℕ) → IsNextBelow (deepened depth) (deepened depth)
deepened_below depth = choose (nat_lt depth 64)
  where
    choose : (b : Bool) → IsNextBelow (cond b next.Silent (next.Access (access.Fail cause.Depth))) (cond b next.Silent (next.Access (access.Fail cause.Depth)))
    choose true = both_silent
    choose false = source_fails tt

-- what the source wants at a statement where the target wants something at it
pub next_below : (p : Program) (old depth : ℕ) (t s : List Val) (h : Head) → RegistersBelow old t s → IsProperHead p old h → IsNextBelow (next_at t depth h) (next_at s depth h)
next_below p old depth t s Skip r q = both_silent
next_below p old depth t s (Copy k a) r q = both_silent
next_below p old depth t s (Compute k op a b) r q =
    computed_below _ _ (arithmetic_monotone op (evaluated t a) (evaluated t b) (evaluated s a) (evaluated s b) (atom_below old t s r a q.1) (atom_below old t s r b q.2))
next_below p old depth t s (Load k x) r q = both_ask loads
next_below p old depth t s (Store x a) r q = both_ask (stores (atom_below old t s r a q.1))
next_below p old depth t s (AtomicLoad k order y) r q = both_ask reads
next_below p old depth t s (AtomicStore order y a) r q = both_ask (writes (atom_below old t s r a q.2))
next_below p old depth t s (Update k order y kind) r q = both_ask (updates (kind_below old t s r kind q.2))
next_below p old depth t s (Fence order) r q = both_ask fences
next_below p old depth t s (Print a) r q = printed_below _ _ (atom_below old t s r a q)
next_below p old depth t s (If a _ _) r q = decided_below _ _ (atom_below old t s r a q)
next_below p old depth t s (While a _) r q = decided_below _ _ (atom_below old t s r a q)
next_below p old depth t s (Call k f args) r q = deepened_below depth
