-- The equations of `gaps_in`, which is shut so that no goal counts a run of 256 out.
use Rattle.std.proofs.Common.{◌≡◌, ℕ, zero, suc, ◌+◌, Bool, cond, leb, List, refl, ap, ◌∙◌, arith}
use Rattle.std.proofs.lemmas.Bool.{le-leb}
use Rattle.message_memory.specs.declared.message.Message.{Message}
use Rattle.indexed_memory.specs.Sorted.{gap_of, gaps_in}

pub gaps_none : (pool : List Message) (places : List ℕ) (w from : ℕ) → gaps_in pool places w from 0 ≡ 0
unfolding gaps_in
gaps_none pool places w from = refl

pub gaps_more : (pool : List Message) (places : List ℕ) (w from n : ℕ) → gaps_in pool places w from (suc n) ≡ gaps_in pool places w from n + cond (leb w (gap_of pool places (from + n))) 1 0
unfolding gaps_in
gaps_more pool places w from n = refl

-- each gap is at least 0 wide
pub gaps_all : (pool : List Message) (places : List ℕ) (from n : ℕ) → gaps_in pool places 0 from n ≡ n
gaps_all pool places from zero = gaps_none pool places 0 from
gaps_all pool places from (suc n) =
    omega (arith, gaps_more pool places 0 from n, gaps_all pool places from n, ap {B = ℕ} (λ (b : Bool). cond b 1 0) (le-leb 0 (gap_of pool places (from + n)) (omega arith)))

pub gaps_next : (pool : List Message) (places : List ℕ) (w from n : ℕ) → gaps_in pool places w from (n + 1) ≡ gaps_in pool places w from n + cond (leb w (gap_of pool places (from + n))) 1 0
gaps_next pool places w from n = (let e : n + 1 ≡ suc n = omega arith in ap (gaps_in pool places w from) e) ∙ gaps_more pool places w from n
