-- Places of two pools that give the same messages as far as one looks.
use Rattle.std.proofs.Common.{◌≡◌, ℕ, zero, suc, ◌+◌, ◌-◌, ◌*◌, ◌<◌, cond, leb, List, ◌∷◌, refl, sym, ap, ◌∙◌, arith}
use Rattle.message_memory.specs.declared.message.Message.{Message}
use Rattle.indexed_memory.specs.Sorted.{message_of, newest_first, gap_of, gaps_in, run_of}
use Rattle.indexed_memory.proofs.GapSums.{gaps_none, gaps_more}

module _ (pool pool' : List Message) (places places' : List ℕ) where
  pub newest_same : (n : ℕ) → ((i : ℕ) → i < n → message_of pool' places' i ≡ message_of pool places i) → newest_first pool' places' n ≡ newest_first pool places n
  newest_same zero h = refl
  newest_same (suc n) h = λ j. h n (omega arith) j ∷ newest_same n (λ i l. h i (omega arith)) j

  gaps_same : (w from d n : ℕ) → from + d < n → ((i : ℕ) → i < n → message_of pool' places' i ≡ message_of pool places i) → gaps_in pool' places' w from d ≡ gaps_in pool places w from d
  gaps_same w from zero n l h = gaps_none pool' places' w from ∙ sym (gaps_none pool places w from)
  gaps_same w from (suc d) n l h =
      let last : gap_of pool' places' (from + d) ≡ gap_of pool places (from + d) = λ j. (h (from + d + 1) (omega arith) j).from - (h (from + d) (omega arith) j).to in
      omega (
        arith,
        gaps_more pool' places' w from d,
        gaps_more pool places w from d,
        gaps_same w from d n (omega arith) h,
        ap {B = ℕ} (λ (gap : ℕ). cond (leb w gap) 1 0) last,
      )

  pub run_same : (r n : ℕ) → 256 * r + 256 < n → ((i : ℕ) → i < n → message_of pool' places' i ≡ message_of pool places i) → run_of pool' places' r ≡ run_of pool places r
  run_same r n l h = λ j. record { narrow = gaps_same 1 (256 * r) 256 n l h j; wide = gaps_same 4 (256 * r) 256 n l h j }
