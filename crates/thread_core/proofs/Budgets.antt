-- What comes next under a budget of steps.
use Rattle.std.proofs.Common.{◌≡◌, ◌⊎◌, inl, inr, Bool, true, false, cond, not, Option, Some, None, ⊎_elim, refl, sym, ap, subst, ◌∙◌}
use Rattle.std.specs.Prelude.{◌&&◌}
use Rattle.std.proofs.lemmas.Bool.{false≢true}
use Rattle.values_undef.specs.declared.access.Access.{Access}
use Rattle.values_undef.specs.declared.access.Access.TheVariants as access
use Rattle.il_syntax.specs.declared.program.Program.{Program}
use Rattle.thread_core.specs.declared.next.Next.{Next}
use Rattle.thread_core.specs.declared.next.Next.TheVariants as next
use Rattle.thread_core.specs.Programs.{IsProperNext}
use Rattle.thread_core.specs.Asking.{ends_by}
use Rattle.thread_core.specs.Alone.{within}

asks : (b : Bool) (x a : Access) → cond b None (Some x) ≡ Some a → x ≡ a
asks true x a e = cc
asks false x a e = cc

-- an access is what the code asks for
pub within_some : (spent : Bool) (n : Next) (a : Access) → within spent n ≡ Some a → n ≡ next.Access a
within_some spent next.Silent a e = cc
within_some spent (next.Access x) a e = ap next.Access (asks (spent && not (ends_by x)) x a e)

-- there is none where the budget is used up, and not at the end of the code
pub within_none : (spent : Bool) (n : Next) → (n ≡ next.Silent → spent ≡ true) → within spent n ≡ None → (spent ≡ true) × (n ≡ next.Access access.Finish → ⊥)
within_none spent next.Silent stops e = (stops refl, λ f. cc)
within_none false (next.Access x) stops e = cc
within_none true (next.Access x) stops e = (refl, λ f. let g : Some access.Finish ≡ None = ap (within true) (sym f) ∙ e in cc)

-- a code that is not silent asks for an access, if the budget isn't used up
pub within_silent : (n : Next) → within false n ≡ None → n ≡ next.Silent
within_silent next.Silent e = refl
within_silent (next.Access x) e = cc

ends_it : (x : Access) → (ends_by x ≡ true) → (x ≡ access.Finish) ⊎ (x ≡ access.Spend)
ends_it access.Finish e = inl refl
ends_it access.Spend e = inr refl
ends_it (access.NaRead x) e = absurd (false≢true e)
ends_it (access.NaWrite x v) e = absurd (false≢true e)
ends_it (access.Read y order) e = absurd (false≢true e)
ends_it (access.Write y order v) e = absurd (false≢true e)
ends_it (access.Update y order kind) e = absurd (false≢true e)
ends_it (access.Fence order) e = absurd (false≢true e)
ends_it (access.Print v) e = absurd (false≢true e)
ends_it (access.Fail cause) e = absurd (false≢true e)

-- with a budget that is used up only the end of the thread is left
pub within_spent : (n : Next) (a : Access) → within true n ≡ Some a → (a ≡ access.Finish) ⊎ (a ≡ access.Spend)
within_spent next.Silent a e = cc
within_spent (next.Access x) a e = ends x a (ends_by x) refl e
  where
    ends : (x a : Access) (b : Bool) → ends_by x ≡ b → cond (not b) None (Some x) ≡ Some a → (a ≡ access.Finish) ⊎ (a ≡ access.Spend)
    ends x a true over e = let same : x ≡ a = cc in ends_it a (ap ends_by (sym same) ∙ over)
    ends x a false over e = cc

-- so a thread that still has an access to make is at its end
pub within_finish : (p : Program) (n : Next) (a : Access) → IsProperNext p n → within true n ≡ Some a → n ≡ next.Access access.Finish
within_finish p n a proper e = ⊎_elim
    (λ (f : a ≡ access.Finish). within_some true n a e ∙ ap next.Access f)
    (λ (s : a ≡ access.Spend). absurd (subst (IsProperNext p) (within_some true n a e ∙ ap next.Access s) proper))
    (within_spent n a e)
