-- A thread of a program without a fence never asks for one.
use Rattle.std.proofs.Common.{◌≡◌, ℕ, ◌+◌, ◌&&◌, Bool, true, false, cond, zero, suc, nat_lt, List, [], ◌∷◌, length, Option, Some, None, refl, sym, subst}
use Rattle.std.proofs.lemmas.Bool.{and_parts, cond_both, false≢true}
use Rattle.std.specs.List.{AllByRecursion, list_all, slice_get}
use Rattle.values_undef.specs.Arithmetic.{result_of}
use Rattle.values_undef.specs.declared.value.Val.{Val}
use Rattle.values_undef.specs.declared.value.Val.TheVariants.{Def, Undef}
use Rattle.values_undef.specs.declared.access.Access.{Access}
use Rattle.il_syntax.specs.declared.program.Function.{Function}
use Rattle.il_syntax.specs.declared.program.Program.{Program}
use Rattle.il_syntax.specs.declared.statement.Stmt.TheOpen.{Skip, Copy, Compute, Load, Store, AtomicLoad, AtomicStore, Update, Fence, Print, If, While, Call}
use Rattle.il_syntax.specs.Statements.{Head, heads_of_all}
use Rattle.il_syntax.specs.WellFormed.{each_statement}
use Rattle.il_syntax.specs.Fences.{is_no_fence, has_no_fence}
use Rattle.il_paths.specs.Tree.{tree_of}
use Rattle.il_paths.specs.Code.{placed, first_head, AllHeads, AllCode}
use Rattle.il_paths.proofs.Callers.{all_placed, all_first, heads_agree, all_heads_of}
use Rattle.message_memory.specs.OneViewLaws.{is_fence}
use Rattle.thread_core.specs.declared.next.Next.{Next}
use Rattle.thread_core.specs.declared.next.Next.TheVariants as next
use Rattle.thread_core.specs.Programs.{function_at, code_of, body_in}
use Rattle.thread_core.specs.Frames.{Frame, Stack, evaluated, decided, computed, next_print, ended, next_at, next_after, next_of}
use Rattle.thread_core.proofs.Callers.{HasEach}
use Rattle.values_undef.proofs.Callers.{all_got}

-- the statement is no fence
abbrev pub IsNoFence : Head → Type 0
IsNoFence h = is_no_fence h ≡ true

all_true : {X : Type 0} (test : X → Bool) (xs : List X) → list_all test xs ≡ true → AllByRecursion (λ x. test x ≡ true) xs
all_true test [] h = tt
all_true test (x ∷ xs) h = let q = and_parts (test x) (list_all test xs) h in (q.0, all_true test xs q.1)

body_without : (f : Function) → each_statement is_no_fence f ≡ true → AllHeads IsNoFence (tree_of f.body)
body_without f h = all_heads_of IsNoFence (tree_of f.body) (subst (AllByRecursion IsNoFence) (sym (heads_agree f.body)) (all_true is_no_fence (heads_of_all f.body.statements) h))

code_without_by : (p : Program) (f : ℕ) → has_no_fence p ≡ true → (o : Option Function) → function_at p f ≡ o → AllCode IsNoFence (code_of p f)
code_without_by p f h None e = subst (λ (o : Option Function). AllCode IsNoFence (placed 0 (body_in o))) (sym e) tt
code_without_by p f h (Some g) e =
    subst (λ (o : Option Function). AllCode IsNoFence (placed 0 (body_in o))) (sym e)
    (all_placed IsNoFence 0 (tree_of g.body) (body_without g (all_got (λ (q : Function). each_statement is_no_fence q ≡ true) p.functions f g (all_true (each_statement is_no_fence) p.functions h) e)))

-- no function of the program has one
pub code_without : (p : Program) (f : ℕ) → has_no_fence p ≡ true → AllCode IsNoFence (code_of p f)
code_without p f h = code_without_by p f h (function_at p f) refl

-- what is asked for is no fence
abbrev pub AsksForNoFence : Next → Type 0
AsksForNoFence next.Silent = Unit {0}
AsksForNoFence (next.Access a) = is_fence a ≡ false

decided_asks : (v : Val) → AsksForNoFence (decided v)
decided_asks (Def n) = tt
decided_asks Undef = refl

computed_asks : (o : Option Val) → AsksForNoFence (computed o)
computed_asks (Some v) = tt
computed_asks None = refl

printed_asks : (v : Val) → AsksForNoFence (next_print v)
printed_asks (Def n) = refl
printed_asks Undef = refl

ended_asks : (callers : List Frame) → AsksForNoFence (ended callers)
ended_asks [] = refl
ended_asks (c ∷ callers) = tt

head_asks : (registers : List Val) (depth : ℕ) (h : Head) → IsNoFence h → AsksForNoFence (next_at registers depth h)
head_asks registers depth Skip h = tt
head_asks registers depth (Copy r a) h = tt
head_asks registers depth (Compute r op a b) h = computed_asks (result_of op (evaluated registers a) (evaluated registers b))
head_asks registers depth (Load r x) h = refl
head_asks registers depth (Store x a) h = refl
head_asks registers depth (AtomicLoad r order y) h = refl
head_asks registers depth (AtomicStore order y a) h = refl
head_asks registers depth (Update r order y kind) h = refl
head_asks registers depth (Fence order) h = absurd (false≢true h)
head_asks registers depth (Print a) h = printed_asks (evaluated registers a)
head_asks registers depth (If a x y) h = decided_asks (evaluated registers a)
head_asks registers depth (While a x) h = decided_asks (evaluated registers a)
head_asks registers depth (Call r f args) h = cond_both (nat_lt depth 64) _ _ AsksForNoFence (λ e. tt) (λ e. refl)

next_asks : (s : Stack) (o : Option Head) → first_head s.top.continuation ≡ o → HasEach IsNoFence s → AsksForNoFence (next_after s o)
next_asks s None e h = ended_asks s.callers
next_asks s (Some head) e h = head_asks s.top.registers (1 + length s.callers) head (all_first IsNoFence s.top.continuation head h.top e)

pub asks_for_no_fence : (s : Stack) → HasEach IsNoFence s → AsksForNoFence (next_of s)
asks_for_no_fence s h = next_asks s (first_head s.top.continuation) refl h
