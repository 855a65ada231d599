-- The turns that a seed draws, word by word.
use Rattle.std.proofs.Common.{◌≡◌, ℕ, zero, suc, ◌+◌, ◌<◌, ◌%◌, IsTrue, nat_lt, length, List, [], ◌∷◌, ◌++◌, map, refl, sym, ap, ◌∙◌, arith}
use Rattle.std.specs.List.{range_with_len}
use Rattle.std.proofs.lemmas.List.FromFn.{length-map-range_with_len, map-range_with_len_more}
use Rattle.std.proofs.lemmas.Bool.Decides.{nat_tests}
use Rattle.rand_pcg.specs.Lcg.{Lcg}
use Rattle.chooser.specs.Draws.{generator, generators, drawn, after_draw, word}
use Rattle.chooser.proofs.Callers.{first_word, next_word}
use Rattle.litmus.specs.Sampled.{order_stream}

-- the first turns of a seed
abbrev pub turns : ℕ → ℕ → ℕ → List ℕ
turns seed threads n = map (λ k. word (generator seed order_stream) k % threads) (range_with_len 0 n)

-- the generator has given n words of another
abbrev pub HasGiven : Lcg → ℕ → Lcg → Type 0
HasGiven first n now = (k : ℕ) → word now k ≡ word first (n + k)

pub gives_more : (first now : Lcg) (n : ℕ) → HasGiven first n now → HasGiven first (n + 1) (after_draw now)
gives_more first now n h k =
    let place : n + suc k ≡ n + 1 + k = omega arith in
    next_word now k ∙ h (suc k) ∙ ap (word first) place

pub turns_more : (seed threads n : ℕ) (now : Lcg) (order new : List ℕ) → HasGiven (generator seed order_stream) n now → order ≡ turns seed threads n
    → new ≡ order ++ drawn now threads ∷ [] → new ≡ turns seed threads (n + 1)
turns_more seed threads n now order new given is pushed =
    let place : n + 0 ≡ n = omega arith in
    let value : drawn now threads ≡ word (generator seed order_stream) n % threads =
    first_word now threads ∙ ap (λ (w : ℕ). w % threads) (given 0 ∙ ap (word (generator seed order_stream)) place) in
    pushed ∙ ap (λ (xs : List ℕ). xs ++ drawn now threads ∷ []) is ∙ ap (λ (x : ℕ). turns seed threads n ++ x ∷ []) value
    ∙ sym (map-range_with_len_more (λ k. word (generator seed order_stream) k % threads) 0 n n (omega arith))

-- each thread has a generator
pub are_served : (seed threads : ℕ) (i : ℕ) → i < threads → IsTrue (nat_lt i (length (generators seed threads)))
are_served seed threads i below =
    let lt : i < length (generators seed threads) = omega (arith, below, length-map-range_with_len (generator seed) 0 threads) in
    grind (arith, nat_tests)
