-- Fresh passes, and the accesses that a program's memory has.
use Rattle.std.proofs.Common.{◌≡◌, ℕ, zero, suc, ◌<◌, false, List, length, get_or, sym, ap, ◌∙◌, subst, refl, arith}
use Rattle.std.proofs.lemmas.List.{length-map}
use Rattle.values_undef.specs.Access.{acquires, releases}
use Rattle.values_undef.specs.declared.access.Order.{Order}
use Rattle.values_undef.specs.declared.value.Val.{Val}
use Rattle.values_undef.specs.declared.access.Access.TheVariants.{Read, Write}
use Rattle.il_syntax.specs.declared.program.Program.{Program}
use Rattle.message_memory.specs.Step.{IsProper}
use Rattle.il_syntax.specs.Given.{declared_values}
use Rattle.shared_memory.specs.Slot.{first_memory, params_for}
use Rattle.shared_memory.specs.Passes.{SharedValue, PassValue, fresh_from}
use Rattle.shared_memory.proofs.Callers.{length-fresh}
use Rattle.threads_rows.specs.Each.{IsReadyPass}

fresh_ready : (memory : SharedValue) (first n : ℕ) → 0 < memory.params.share → (k : ℕ) (p : PassValue) → k < n → IsReadyPass memory (get_or (fresh_from memory first n) k p)
fresh_ready memory first zero some k p lt = absurd (omega arith)
fresh_ready memory first (suc n) some zero p lt = record { of = record { id = refl; params = refl }; share = some }
fresh_ready memory first (suc n) some (suc k) p lt = fresh_ready memory (suc first) n some k p (omega arith)

-- each pass of a new memory may make an access
pub ready_list : (memory : SharedValue) (ps : List PassValue) (n : ℕ) → ps ≡ fresh_from memory 0 n → 0 < memory.params.share → (k : ℕ) (p : PassValue) → k < length ps → IsReadyPass memory (get_or ps k p)
ready_list memory ps n is some k p lt =
    subst (λ (l : List PassValue). IsReadyPass memory (get_or l k p)) (sym is) (fresh_ready memory 0 n some k p (let m = length-fresh memory 0 n in let e = ap length is in omega arith))

many : (p : Program) → length (first_memory (params_for p 8)).atomic ≡ length p.atomic
many p = length-map (declared_values p.atomic) _ ∙ length-map p.atomic _

pub proper_read : (p : Program) (y : ℕ) (order : Order) → y < length p.atomic → releases order ≡ false → IsProper (first_memory (params_for p 8)) (Read y order)
proper_read p y order lt free = (subst (λ (n : ℕ). y < n) (sym (many p)) lt, free)

pub proper_write : (p : Program) (y : ℕ) (order : Order) (v : Val) → y < length p.atomic → acquires order ≡ false → IsProper (first_memory (params_for p 8)) (Write y order v)
proper_write p y order v lt free = (subst (λ (n : ℕ). y < n) (sym (many p)) lt, free)
