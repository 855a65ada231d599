-- What the access of a statement does.
use Rattle.std.proofs.Common.{◌≡◌, ℕ, Bool, true, false, cond, nat_lt, Option, Some, None, List, refl, sym, ap, ◌∙◌}
use Rattle.std.proofs.lemmas.Bool.{false≢true, eqb-true, both_ways}
use Rattle.values_undef.specs.Access.{acquires, releases}
use Rattle.values_undef.specs.declared.value.Val.{Val}
use Rattle.values_undef.specs.declared.value.Val.TheVariants.{Def, Undef}
use Rattle.values_undef.specs.declared.access.Cause.{Cause}
use Rattle.values_undef.specs.declared.access.Cause.TheVariants as cause
use Rattle.values_undef.specs.declared.access.Order.{Order}
use Rattle.values_undef.specs.declared.access.Order.TheVariants.{Rlx, Acq, Rel, AcqRel}
use Rattle.values_undef.specs.declared.access.Access.{Access}
use Rattle.values_undef.specs.declared.access.Access.TheVariants as access
use Rattle.il_syntax.specs.declared.statement.Stmt.TheOpen.{Skip, Copy, Compute, Load, Store, AtomicLoad, AtomicStore, Update, Fence, Print, If, While, Call}
use Rattle.il_syntax.specs.Statements.{Head}
use Rattle.il_paths.specs.Heads.{is_acquire, is_release, is_acquire_order, is_release_order}
use Rattle.message_memory.specs.Step.{acquires_by as access_acquires, releases_by as access_releases, is_write_of}
use Rattle.thread_core.specs.declared.next.Next.TheVariants as next
use Rattle.thread_core.specs.Frames.{computed, decided, next_print}
use Rattle.thread_core.specs.Asking.{asked}
use Rattle.view_machine.specs.Asking.{HasAccess, StatementsHaveTheirAccesses}

no_access : (h : Head) (b : Access) → is_acquire h ≡ false → is_release h ≡ false → access_acquires b ≡ false → access_releases b ≡ false → ((x : ℕ) → is_write_of x b ≡ false) → HasAccess h b
no_access h b e f g i j = record { acquires = g ∙ sym e; releases = i ∙ sym f; writes = λ x w. absurd (both_ways (is_write_of x b) (j x) w) }

load_order : (o : Order) → releases o ≡ false → acquires o ≡ is_acquire_order o
load_order Rlx h = refl
load_order Acq h = refl
load_order Rel h = refl
load_order AcqRel h = absurd (false≢true (sym h))

store_order : (o : Order) → acquires o ≡ false → releases o ≡ is_release_order o
store_order Rlx h = refl
store_order Acq h = refl
store_order Rel h = refl
store_order AcqRel h = absurd (false≢true (sym h))

computed_access : (h : Head) (o : Option Val) → is_acquire h ≡ false → is_release h ≡ false → HasAccess h (asked (computed o))
computed_access h None e f = no_access h _ e f refl refl (λ x. refl)
computed_access h (Some v) e f = no_access h _ e f refl refl (λ x. refl)

decided_access : (h : Head) (v : Val) → is_acquire h ≡ false → is_release h ≡ false → HasAccess h (asked (decided v))
decided_access h (Def n) e f = no_access h _ e f refl refl (λ x. refl)
decided_access h Undef e f = no_access h _ e f refl refl (λ x. refl)

printed_access : (h : Head) (v : Val) → is_acquire h ≡ false → is_release h ≡ false → HasAccess h (asked (next_print v))
printed_access h (Def n) e f = no_access h _ e f refl refl (λ x. refl)
printed_access h Undef e f = no_access h _ e f refl refl (λ x. refl)

deepened_access : (h : Head) (b : Bool) (cause : Cause) → is_acquire h ≡ false → is_release h ≡ false → HasAccess h (asked (cond b next.Silent (next.Access (access.Fail cause))))
deepened_access h true cause e f = no_access h _ e f refl refl (λ x. refl)
deepened_access h false cause e f = no_access h _ e f refl refl (λ x. refl)

pub has_access : StatementsHaveTheirAccesses
has_access p n depth s Skip q = no_access _ _ refl refl refl refl (λ x. refl)
has_access p n depth s (Copy r a) q = no_access _ _ refl refl refl refl (λ x. refl)
has_access p n depth s (Compute r op a b) q = computed_access (Compute r op a b) _ refl refl
has_access p n depth s (Load r x) q = no_access _ _ refl refl refl refl (λ x. refl)
has_access p n depth s (Store x a) q = record { acquires = refl; releases = refl; writes = λ z w. ap (λ (k : ℕ). Some k) (eqb-true x z w) }
has_access p n depth s (AtomicLoad r order y) q = record { acquires = load_order order q.2; releases = refl; writes = λ z w. absurd (false≢true w) }
has_access p n depth s (AtomicStore order y a) q = record { acquires = refl; releases = store_order order q.1; writes = λ z w. absurd (false≢true w) }
has_access p n depth s (Update r order y kind) q = record { acquires = refl; releases = refl; writes = λ z w. absurd (false≢true w) }
has_access p n depth s (Fence order) q = record { acquires = refl; releases = refl; writes = λ z w. absurd (false≢true w) }
has_access p n depth s (Print a) q = printed_access (Print a) _ refl refl
has_access p n depth s (If a i j) q = decided_access (If a i j) _ refl refl
has_access p n depth s (While a i) q = decided_access (While a i) _ refl refl
has_access p n depth s (Call r f args) q = deepened_access (Call r f args) (nat_lt depth 64) cause.Depth refl refl
