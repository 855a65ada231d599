-- What the conditions of a lift give.
use Rattle.std.proofs.Common.{◌≡◌, ℕ, zero, suc, ◌+◌, ◌≤◌, Bool, true, false, not, ◌&&◌, eqb, List, [], ◌∷◌, ◌++◌, length, slice_get, take, drop, get_or, take_all, length-drop, ◌-◌, Some, Result, Ok, Err, IfOk, refl, sym, ap, ◌∙◌, subst, arith, ⊎_elim}
use Rattle.std.proofs.lemmas.Bool.{true≢false, false≢true, eqb-true, eq-eqb, both_ways, cases_Bool, and_from}
use Rattle.std.proofs.lemmas.List.{length-append, append-nil}
use Rattle.std.proofs.lemmas.Option.{none-some, same_Some}
use Rattle.std.specs.List.{AllZip}
use Rattle.std.specs.Prelude.{All}
use Rattle.il_syntax.specs.Statements.{site_count}
use Rattle.il_syntax.specs.WellFormed.{IsWellFormed, declared_by}
use Rattle.il_syntax.proofs.Callers.{functions_well_formed, function_small}
use Rattle.validator.specs.Shape.{SameShape}
use Rattle.il_syntax.specs.declared.program.Function.{Function}
use Rattle.il_syntax.specs.declared.program.Program.{Program}
use Rattle.thread_core.proofs.Callers.{well_formed_proper}
use Rattle.validator.specs.Faults.{Accepts}
use Rattle.validator.proofs.Callers.{accepted, if_ok}
use Rattle.validator.specs.Accepted.{Accepted}
use Rattle.values_undef.specs.declared.journal.Entry.{Entry}
use Rattle.values_undef.specs.Journal.{used_steps, last_fails}
use Rattle.view_machine.specs.State.{initial_state}
use Rattle.view_machine.specs.Runs.{IsJournalRun}
use Rattle.refinement.specs.Refinement.{EndsInFailure, StopsAtFailure}
use Rattle.refinement.specs.Playings.{IsPlayed, AreFew}
use Rattle.refinement.proofs.Callers.{refines_refl, refines_trans, failures_kept, runs_stop, failing_ends}
use Rattle.simulation.specs.Relation.{AreAccepted}
use Rattle.simulation.specs.Laws.{MayHaveNews}
use Rattle.simulation.specs.Conditions.{IsAcceptedTarget, have_equal_counts, has_new_registers, IsLifted}
use Rattle.pass_chain.proofs.Callers.{small_functions}

all_accepted : (fs gs : List Function) → AllZip Accepts fs gs → AllZip Accepted fs gs
all_accepted [] [] z = tt
all_accepted [] (g ∷ gs) z = absurd z
all_accepted (f ∷ fs) [] z = absurd z
all_accepted (f ∷ fs) (g ∷ gs) z = (accepted f g z.0, all_accepted fs gs z.1)

pub functions_of : (source target : Program) → IsAcceptedTarget source target → AllZip Accepted source.functions target.functions
functions_of source target h = all_accepted source.functions target.functions h.functions

pub accepted_of : (source target : Program) → IsAcceptedTarget source target → AreAccepted source target
accepted_of source target h = record {
  source_proper = well_formed_proper source h.source_well_formed;
  target_proper = well_formed_proper target h.target_well_formed;
  na = h.shape.na;
  atomic = h.shape.atomic;
  threads = h.shape.threads;
  functions = functions_of source target h;
}

first_of_both : (b c : Bool) → (b && c) ≡ true → b ≡ true
first_of_both true c h = refl
first_of_both false c h = h

second_of_both : (b c : Bool) → (b && c) ≡ true → c ≡ true
second_of_both true c h = h
second_of_both false c h = absurd (false≢true h)

-- a list that is no longer is the same
same_registers : (f g : Function) → Accepted f g → eqb (length f.registers) (length g.registers) ≡ true → g.registers ≡ f.registers
same_registers f g a e =
    let none : a.more ≡ [] = empty a.more (omega (arith, eqb-true (length f.registers) (length g.registers) e, ap {B = ℕ} length a.registers, length-append f.registers a.more)) in
    a.registers ∙ ap (λ (more : List (List ℕ)). f.registers ++ more) none ∙ append-nil f.registers
  where
    empty : (xs : List (List ℕ)) → length xs ≡ 0 → xs ≡ []
    empty [] h = refl
    empty (x ∷ xs) h = absurd (omega (arith, h))

equal_registers : (fs gs : List Function) → AllZip Accepted fs gs → have_equal_counts fs gs ≡ true → (k : ℕ) (f g : Function) → slice_get fs k ≡ Some f → slice_get gs k ≡ Some g → g.registers ≡ f.registers
equal_registers [] gs z h k f g e i = absurd (none-some f e)
equal_registers (x ∷ fs) [] z h k f g e i = absurd z
equal_registers (x ∷ fs) (y ∷ gs) z h zero f g e i =
    subst (λ (u : Function). u.registers ≡ f.registers) (same_Some y g i) (subst (λ (u : Function). y.registers ≡ u.registers) (same_Some x f e) (same_registers x y z.0 (first_of_both _ _ h)))
equal_registers (x ∷ fs) (y ∷ gs) z h (suc k) f g e i = equal_registers fs gs z.1 (second_of_both _ _ h) k f g e i

no_news : (b : Bool) → not b ≡ false → b ≡ true
no_news true h = refl
no_news false h = absurd (true≢false h)

pub news_of : (source target : Program) → IsAcceptedTarget source target → (news : Bool) → news ≡ has_new_registers source target → MayHaveNews source target news
news_of source target h news e f k old new i j =
    equal_registers source.functions target.functions (functions_of source target h) (no_news (have_equal_counts source.functions target.functions) (sym e ∙ f)) k old new i j

-- ---- a lift of a lift

-- the registers of an accepted target begin with its source's
abbrev pub Grows : Function → Function → Type 0
Grows f g = length f.registers ≤ length g.registers

pub all_grow : (fs gs : List Function) → AllZip Accepted fs gs → AllZip Grows fs gs
all_grow [] [] z = tt
all_grow [] (g ∷ gs) z = absurd z
all_grow (f ∷ fs) [] z = absurd z
all_grow (f ∷ fs) (g ∷ gs) z = (omega (arith, ap {B = ℕ} length z.0.registers, length-append f.registers z.0.more), all_grow fs gs z.1)

pub grow_on : (fs gs hs : List Function) → AllZip Grows fs gs → AllZip Grows gs hs → AllZip Grows fs hs
grow_on [] [] hs y z = z
grow_on [] (g ∷ gs) hs y z = absurd y
grow_on (f ∷ fs) [] hs y z = absurd y
grow_on (f ∷ fs) (g ∷ gs) [] y z = absurd z
grow_on (f ∷ fs) (g ∷ gs) (h ∷ hs) y z = (omega (arith, y.0, z.0), grow_on fs gs hs y.1 z.1)

-- where the first and the last are alike, so are those between
pub between : (fs gs hs : List Function) → AllZip Grows fs gs → AllZip Grows gs hs → have_equal_counts fs hs ≡ true → (have_equal_counts fs gs ≡ true) × (have_equal_counts gs hs ≡ true)
between [] [] hs y z e = (refl, refl)
between [] (g ∷ gs) hs y z e = absurd y
between (f ∷ fs) [] hs y z e = absurd y
between (f ∷ fs) (g ∷ gs) [] y z e = absurd z
between (f ∷ fs) (g ∷ gs) (h ∷ hs) y z e =
    let same : length f.registers ≡ length h.registers = eqb-true (length f.registers) (length h.registers) (first_of_both _ _ e) in
    let rest = between fs gs hs y.1 z.1 (second_of_both _ _ e) in (
      and_from _ _ (eq-eqb (length f.registers) (length g.registers) (omega (arith, same, y.0, z.0))) rest.0,
      and_from _ _ (eq-eqb (length g.registers) (length h.registers) (omega (arith, same, y.0, z.0))) rest.1,
    )

as_new : (b : Bool) → b ≡ true → not b ≡ false
as_new true e = refl
as_new false e = absurd (false≢true e)

pub lifted_on : (source middle target : Program) (a b c : List Entry) → AllZip Grows source.functions middle.functions → AllZip Grows middle.functions target.functions → IsLifted middle target a b → IsLifted source middle b c → IsLifted source target a c
lifted_on source middle target a b c y z p q =
    let stops : StopsAtFailure c = runs_stop source (initial_state source) c q.run in
    record {
      run = q.run;
      refines = refines_trans a b c stops p.refines q.refines;
      steps = λ e f i.
          let alike = between source.functions middle.functions target.functions y z (no_news (have_equal_counts source.functions target.functions) e) in
          let goes : last_fails b ≡ false = ⊎_elim
          (λ (h : last_fails b ≡ true). absurd (both_ways (last_fails c) f ((failing_ends c).0 (failures_kept b c stops q.refines ((failing_ends b).1 h)))))
          (λ (h : last_fails b ≡ false). h)
          (cases_Bool (last_fails b)) in
          q.steps (as_new _ alike.0) f i ∙ p.steps (as_new _ alike.1) goes i;
    }

pub lifted_few : (source target : Program) (a b : List Entry) → AreFew a → IsLifted source target a b → AreFew b
lifted_few source target a b few p = λ i. omega (arith, few i, p.refines.steps i)

-- what a play gives
pub lifted_of : (source target : Program) (news : Bool) (a b : List Entry) → news ≡ has_new_registers source target → IsPlayed source news a b → IsLifted source target a b
lifted_of source target news a b e p = record {
  run = p.run;
  refines = p.refines;
  steps = λ f g.
      ⊎_elim
      (λ (h : EndsInFailure b). absurd (both_ways (last_fails b) g ((failing_ends b).0 h)))
      (λ (h : (i : ℕ) → used_steps b i ≡ used_steps a i). h)
      (p.exact (e ∙ f));
}

drop_none : (fs : List Function) → drop 0 fs ≡ fs
drop_none [] = refl
drop_none (f ∷ fs) = refl

others : (f : Function) (fs : List Function) → take (length (f ∷ fs) - 1) (drop 1 (f ∷ fs)) ≡ fs
others f fs = take_all _ _ (omega (arith, length-drop 1 (f ∷ fs))) ∙ drop_none fs

-- the first of both, and the others
pub both_accepted : (fs gs : List Function) (f g : Function) → 1 ≤ length fs → 1 ≤ length gs → f ≡ get_or fs 0 f → g ≡ get_or gs 0 g → Accepts f g → AllZip Accepts (take (length fs - 1) (drop 1 fs)) (take (length gs - 1) (drop 1 gs)) → AllZip Accepts fs gs
both_accepted [] gs f g h k i j a z = absurd (omega (arith, h))
both_accepted (x ∷ fs) [] f g h k i j a z = absurd (omega (arith, k))
both_accepted (x ∷ fs) (y ∷ gs) f g h k i j a z = (
  subst (λ (u : Function). Accepts u y) i (subst (λ (v : Function). Accepts f v) j a),
  subst (λ (us : List Function). AllZip Accepts us gs) (others x fs) (subst (λ (vs : List Function). AllZip Accepts (take (length (x ∷ fs) - 1) (drop 1 (x ∷ fs))) vs) (others y gs) z),
)

pub accepted_target : (source target : Program) (fs gs : List Function) → fs ≡ source.functions → gs ≡ target.functions → IsWellFormed source → IsWellFormed target → SameShape source target → AllZip Accepts fs gs → IsAcceptedTarget source target
accepted_target source target fs gs e f v w shape z = record {
  source_well_formed = v;
  target_well_formed = w;
  shape = shape;
  functions = subst (λ (hs : List Function). AllZip Accepts source.functions hs) f (subst (λ (hs : List Function). AllZip Accepts hs gs) e z);
}

-- one lift after another
pub lifted_twice : (source middle target : Program) (a b c : List Entry) → IsAcceptedTarget source middle → IsAcceptedTarget middle target → IsLifted middle target a b → IsLifted source middle b c → IsLifted source target a c
lifted_twice source middle target a b c y z p q =
    lifted_on source middle target a b c (all_grow source.functions middle.functions (functions_of source middle y)) (all_grow middle.functions target.functions (functions_of middle target z)) p q

-- where the programs are equal a journal is its own lift
pub lifted_itself : (source target : Program) (a : List Entry) → source ≡ target → IsJournalRun target a → IsLifted source target a a
lifted_itself source target a e run = record {
  run = subst (λ (p : Program). IsJournalRun p a) (sym e) run;
  refines = refines_refl a;
  steps = λ f g i. refl;
}

-- both halves of a chain
pub lifted_along : (source stored introduced loaded undead : Program) (a c e : List Entry) → IsAcceptedTarget source stored → IsAcceptedTarget stored introduced → IsAcceptedTarget introduced loaded → IsAcceptedTarget loaded undead
    → IsLifted introduced undead a c → IsLifted source introduced c e → IsLifted source undead a e
lifted_along source stored introduced loaded undead a c e p q r s f g =
    let one = all_grow source.functions stored.functions (functions_of source stored p) in
    let two = all_grow stored.functions introduced.functions (functions_of stored introduced q) in
    let three = all_grow introduced.functions loaded.functions (functions_of introduced loaded r) in
    let four = all_grow loaded.functions undead.functions (functions_of loaded undead s) in
    lifted_on source introduced undead a c e (grow_on source.functions stored.functions introduced.functions one two) (grow_on introduced.functions loaded.functions undead.functions three four) f g
