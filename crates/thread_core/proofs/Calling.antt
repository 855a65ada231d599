-- What a call finds and gives, what a thread asks for, and how it goes on, for whoever relates two threads.
use Rattle.std.proofs.Common.{◌≡◌, ℕ, ◌+◌, Bool, true, false, cond, List, [], ◌∷◌, length, set, Option, Some, None, refl, ap, ◌∙◌, arith}
use Rattle.std.specs.Prelude.{◌||◌}
use Rattle.std.specs.List.{AllZip}
use Rattle.std.proofs.lemmas.List.{length-set}
use Rattle.values_undef.specs.Access.{is_failure, ends_thread}
use Rattle.values_undef.specs.declared.value.Val.{Val}
use Rattle.values_undef.specs.declared.value.Val.TheVariants.{Undef}
use Rattle.values_undef.specs.declared.access.Access.{Access}
use Rattle.values_undef.specs.declared.access.Event.{Event}
use Rattle.il_syntax.specs.declared.program.Function.{Function}
use Rattle.il_syntax.specs.declared.program.Program.{Program}
use Rattle.il_paths.specs.Tree.{tree_of}
use Rattle.il_paths.specs.Code.{placed}
use Rattle.thread_core.specs.declared.next.Next.TheVariants as next
use Rattle.thread_core.specs.Programs.{function_at, body_in, code_of}
use Rattle.thread_core.specs.Frames.{Frame, Stack, loaded, evaluated, function_result, resumed}
use Rattle.thread_core.specs.Alone.{local_after_event}
use Rattle.thread_core.specs.Asking.{asked}

pub length-loaded : (from : ℕ) (ts rt : List Val) → length (loaded from ts rt) ≡ length rt
length-loaded from [] rt = refl
length-loaded from (b ∷ ts) rt = length-loaded (from + 1) ts (set rt from b) ∙ length-set rt from b

pub code_is : (p : Program) (k : ℕ) (f : Function) → function_at p k ≡ Some f → code_of p k ≡ placed 0 (tree_of f.body)
code_is p k f e = ap (λ (o : Option Function). placed 0 (body_in o)) e

pub result_is : (p : Program) (k : ℕ) (f : Function) (frame : Frame) → frame.function ≡ k → function_at p k ≡ Some f → function_result p frame ≡ evaluated frame.registers f.result
result_is p k f frame e there =
    ap (λ (o : Option Function). elim o as (λ _. Val) [ Some g ↦ evaluated frame.registers g.result | None ↦ Undef ]) (ap (function_at p) e ∙ there)

pub same_lengths : {A B : Type 0} (R : A → B → Type 0) (xs : List A) (ys : List B) → AllZip R xs ys → length xs ≡ length ys
same_lengths R [] [] z = refl
same_lengths R [] (y ∷ ys) z = absurd z
same_lengths R (x ∷ xs) [] z = absurd z
same_lengths R (x ∷ xs) (y ∷ ys) z = omega (arith, same_lengths R xs ys z.1)

pub asked_same : (a b : Access) → next.Access a ≡ next.Access b → a ≡ b
asked_same a b e = ap asked e

-- a thread that has its event goes on
pub goes_past : (l : Stack) (e : Event) → is_failure e ≡ false → ends_thread e ≡ false → local_after_event l e ≡ resumed l e
goes_past l e f g = ap (λ (b : Bool). cond (b || ends_thread e) l (resumed l e)) f ∙ ap (λ (b : Bool). cond b l (resumed l e)) g
