-- Silent steps of a thread alone.
use Rattle.std.proofs.Common.{◌≡◌, ℕ, zero, suc, ◌+◌, refl, sym, ap, ◌∙◌, add-one}
use Rattle.il_syntax.specs.declared.program.Program.{Program}
use Rattle.thread_core.specs.declared.next.Next.TheVariants as next
use Rattle.thread_core.specs.Frames.{Stack, next_of, advanced}
use Rattle.thread_core.specs.Alone.{HasSilent, local_after_silent}

pub after_more : (p : Program) (n : ℕ) (l : Stack) → local_after_silent p (suc n) l ≡ advanced p (local_after_silent p n l)
after_more p zero l = refl
after_more p (suc n) l = after_more p n (advanced p l)

pub silent_more : (p : Program) (n : ℕ) (l : Stack) → HasSilent p n l → next_of (local_after_silent p n l) ≡ next.Silent → HasSilent p (suc n) l
silent_more p zero l h e = (e, tt)
silent_more p (suc n) l h e = (h.0, silent_more p n (advanced p l) h.1 e)

-- one more silent step
pub one_more_silent : (p : Program) (n : ℕ) (l m : Stack) → HasSilent p n l → m ≡ local_after_silent p n l → next_of m ≡ next.Silent → HasSilent p (n + 1) l
one_more_silent p n l m h e q = rw add-one (silent_more p n l h (ap (λ (x : Stack). next_of x) (sym e) ∙ q))

pub after_one_more : (p : Program) (n : ℕ) (l m k : Stack) → m ≡ local_after_silent p n l → k ≡ advanced p m → k ≡ local_after_silent p (n + 1) l
after_one_more p n l m k e q = rw add-one (q ∙ (ap (advanced p) e ∙ sym (after_more p n l)))
