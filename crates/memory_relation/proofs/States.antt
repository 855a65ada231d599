-- Related states.
use Rattle.std.proofs.Common.{◌≡◌, ℕ, ℤ, ◌+◌, ◌<◌, length, refl, sym, ◌∙◌, subst, arith, ⊎_elim}
use Rattle.std.proofs.lemmas.Bool.{cases_eq}
use Rattle.std.proofs.lemmas.List.{length-set, get_or-set_same, get_or-set_other, get_or-replicate, length-replicate}
use Rattle.values_undef.specs.Matching.{loads, stores, reads, writes, updates, fences, prints, fails, finishes, spends}
use Rattle.values_undef.specs.declared.access.Access.TheVariants.{NaRead, NaWrite, Fence, Print, Fail, Finish, Spend}
use Rattle.values_undef.specs.declared.access.Cause.{Cause}
use Rattle.values_undef.specs.declared.access.Order.{Order}
use Rattle.values_undef.specs.declared.value.Val.{Val}
use Rattle.values_undef.specs.declared.access.Choice.{Choice}
use Rattle.values_undef.specs.declared.access.Choice.TheVariants.{Plain}
use Rattle.views.specs.ThreadView.{ThreadView, zero_view, no_view}
use Rattle.message_memory.specs.Memory.{Memory}
use Rattle.message_memory.specs.Step.{AdmitsChoice}
use Rattle.message_memory.specs.History.{view_of, with_view, initial_memory_state}
use Rattle.memory_relation.specs.Relation.{AreViewsRelated, opening_pairing}
use Rattle.memory_relation.specs.Answering.{IsAnswered}
use Rattle.memory_relation.specs.States.{AccessesAreAnswered, StatesGoOn, OpeningStatesAreRelated}
use Rattle.memory_relation.proofs.Plain.{plain_answered}
use Rattle.memory_relation.proofs.Atomic.{atomic_answered, fences_answered}
use Rattle.memory_relation.proofs.NonAtomic.{loads_answered}
use Rattle.memory_relation.proofs.Stores.{stores_answered}
use Rattle.memory_relation.proofs.Openings.{openings_related}

-- an access that is none to an atomic location has the plain choice alone
load_choice : (t : Memory) (v : ThreadView) (x : ℕ) (c : Choice) → AdmitsChoice t v (NaRead x) c → c ≡ Plain
load_choice t v x Plain h = refl
load_choice t v x _ h = absurd h

store_choice : (t : Memory) (v : ThreadView) (x : ℕ) (a : Val) (c : Choice) → AdmitsChoice t v (NaWrite x a) c → c ≡ Plain
store_choice t v x a Plain h = refl
store_choice t v x a _ h = absurd h

fence_choice : (t : Memory) (v : ThreadView) (order : Order) (c : Choice) → AdmitsChoice t v (Fence order) c → c ≡ Plain
fence_choice t v order Plain h = refl
fence_choice t v order _ h = absurd h

print_choice : (t : Memory) (v : ThreadView) (n : ℤ) (c : Choice) → AdmitsChoice t v (Print n) c → c ≡ Plain
print_choice t v n Plain h = refl
print_choice t v n _ h = absurd h

fail_choice : (t : Memory) (v : ThreadView) (cause : Cause) (c : Choice) → AdmitsChoice t v (Fail cause) c → c ≡ Plain
fail_choice t v cause Plain h = refl
fail_choice t v cause _ h = absurd h

finish_choice : (t : Memory) (v : ThreadView) (c : Choice) → AdmitsChoice t v Finish c → c ≡ Plain
finish_choice t v Plain h = refl
finish_choice t v _ h = absurd h

spend_choice : (t : Memory) (v : ThreadView) (c : Choice) → AdmitsChoice t v Spend c → c ≡ Plain
spend_choice t v Plain h = refl
spend_choice t v _ h = absurd h

pub accesses_answered : AccessesAreAnswered
accesses_answered p i t s v w a b c m r covers (loads {x = x}) proper legal may =
    subst (IsAnswered p p i t s v w (NaRead x) (NaRead x)) (sym (load_choice t v x c legal.admits)) (loads_answered p i t s v w x m r (omega (arith, proper, m.target_places)) may)
accesses_answered p i t s v w a b c m r covers (stores {x = x} {a = d} {b = e} q) proper legal may =
    subst (IsAnswered p _ i t s v w (NaWrite x d) (NaWrite x e)) (sym (store_choice t v x d c legal.admits)) (stores_answered p i t s v w x d e m r covers (omega (arith, proper, m.target_places)) q)
accesses_answered p i t s v w a b c m r covers (reads) proper legal may = atomic_answered p i t s v w _ _ c m r reads tt proper legal may
accesses_answered p i t s v w a b c m r covers (writes q) proper legal may = atomic_answered p i t s v w _ _ c m r (writes q) tt proper legal may
accesses_answered p i t s v w a b c m r covers (updates q) proper legal may = atomic_answered p i t s v w _ _ c m r (updates q) tt proper legal may
accesses_answered p i t s v w a b c m r covers (fences {order = order}) proper legal may =
    subst (IsAnswered p p i t s v w (Fence order) (Fence order)) (sym (fence_choice t v order c legal.admits)) (fences_answered p i t s v w order m r may)
accesses_answered p i t s v w a b c m r covers (prints {n = n}) proper legal may =
    subst (IsAnswered p p i t s v w (Print n) (Print n)) (sym (print_choice t v n c legal.admits)) (plain_answered p i t s v w (Print n) (Print n) m r prints tt)
accesses_answered p i t s v w a b c m r covers (fails {cause = cause}) proper legal may =
    subst (IsAnswered p p i t s v w (Fail cause) (Fail cause)) (sym (fail_choice t v cause c legal.admits)) (plain_answered p i t s v w (Fail cause) (Fail cause) m r fails tt)
accesses_answered p i t s v w a b c m r covers (finishes) proper legal may =
    subst (IsAnswered p p i t s v w Finish Finish) (sym (finish_choice t v c legal.admits)) (plain_answered p i t s v w Finish Finish m r finishes tt)
accesses_answered p i t s v w a b c m r covers (spends) proper legal may =
    subst (IsAnswered p p i t s v w Spend Spend) (sym (spend_choice t v c legal.admits)) (plain_answered p i t s v w Spend Spend m r spends tt)

pub states_go_on : StatesGoOn
states_go_on p q i t s m n v w r l g = record {
  memories = g.memories;
  threads = length-set s.views i w ∙ r.threads ∙ sym (length-set t.views i v);
  views = λ j h.
      ⊎_elim
      (λ (e : j ≡ i). subst (λ (k : ℕ). AreViewsRelated q k m n (view_of (with_view t i m v) k) (view_of (with_view s i n w) k)) (sym e)
      (subst (λ (u : ThreadView). AreViewsRelated q i m n u (view_of (with_view s i n w) i)) (sym (get_or-set_same t.views i v no_view l))
      (subst (AreViewsRelated q i m n v) (sym (get_or-set_same s.views i w no_view (omega (arith, l, r.threads)))) g.views)))
      (λ (e : j ≡ i → ⊥).
      subst (λ (u : ThreadView). AreViewsRelated q j m n u (view_of (with_view s i n w) j)) (sym (get_or-set_other t.views i j v no_view e))
      (subst (AreViewsRelated q j m n (view_of t j)) (sym (get_or-set_other s.views i j w no_view e))
      (g.others j e (view_of t j) (view_of s j) (r.views j (omega (arith, h, length-set t.views i v))))))
      (cases_eq j i);
}

pub opening_states_related : OpeningStatesAreRelated
opening_states_related na atomic threads = record {
  memories = (openings_related na atomic 0).0;
  threads = refl;
  views = λ i l.
      let within : i < threads = omega (arith, l, length-replicate {A = ThreadView} threads (zero_view (length na + length atomic))) in
      let same : view_of (initial_memory_state na atomic threads) i ≡ zero_view (length na + length atomic) = get_or-replicate threads i (zero_view (length na + length atomic)) no_view within in
      subst (λ (u : ThreadView). AreViewsRelated (opening_pairing (length na)) i (initial_memory_state na atomic threads).memory (initial_memory_state na atomic threads).memory u u) (sym same) (openings_related na atomic i).1;
}
