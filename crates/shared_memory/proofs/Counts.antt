-- A history is as long as the threads' lists together.
use Rattle.std.proofs.Common.{◌≡◌, ℕ, zero, suc, ◌+◌, ◌*◌, ◌<◌, ◌≤◌, List, [], ◌∷◌, length, eqb, refl, ap, ◌∙◌, subst, ⊎_elim, arith, suc-mul}
use Rattle.std.proofs.lemmas.Bool.{cond-true, cond-false, ne_eqb, eq-eqb, cases_eq}
use Rattle.message_memory.specs.declared.history.Call.{Call}
use Rattle.message_memory.specs.History.{calls_by}
use Rattle.shared_memory.specs.Turns.{AllBelow}

abbrev total : ℕ → List Call → ℕ
total zero h = 0
total (suc n) h = total n h + length (calls_by n h)

one_more : (i : ℕ) (c : Call) (h : List Call) → c.thread ≡ i → length (calls_by i (c ∷ h)) ≡ length (calls_by i h) + 1
one_more i c h e = ap length (cond-true (eqb c.thread i) (c ∷ calls_by i h) (calls_by i h) (eq-eqb c.thread i e)) ∙ omega arith

same_many : (i : ℕ) (c : Call) (h : List Call) → (c.thread ≡ i → ⊥) → length (calls_by i (c ∷ h)) ≡ length (calls_by i h)
same_many i c h ne = ap length (cond-false (eqb c.thread i) (c ∷ calls_by i h) (calls_by i h) (ne_eqb c.thread i ne))

total_past : (n : ℕ) (c : Call) (h : List Call) → n ≤ c.thread → total n (c ∷ h) ≡ total n h
total_past zero c h le = refl
total_past (suc n) c h le = let a = total_past n c h (omega arith) in let b = same_many n c h (λ e. omega arith) in omega arith

total_push : (n : ℕ) (c : Call) (h : List Call) → c.thread < n → total n (c ∷ h) ≡ total n h + 1
total_push zero c h lt = absurd (omega arith)
total_push (suc n) c h lt = ⊎_elim
    (λ (e : c.thread ≡ n). let a = total_past n c h (omega arith) in let b = one_more n c h e in omega arith)
    (λ (ne : c.thread ≡ n → ⊥). let a = total_push n c h (omega arith) in let b = same_many n c h ne in omega arith)
    (cases_eq c.thread n)

total_nil : (n : ℕ) → total n [] ≡ 0
total_nil zero = refl
total_nil (suc n) = let a = total_nil n in omega arith

total_is : (n : ℕ) (h : List Call) → AllBelow n h → total n h ≡ length h
total_is n [] below = total_nil n
total_is n (c ∷ cs) below = let a = total_push n c cs below.0 in let b = total_is n cs below.1 in omega arith

total_most : (n share : ℕ) (h : List Call) → ((i : ℕ) → length (calls_by i h) ≤ share) → total n h ≤ n * share
total_most zero share h short = omega arith
total_most (suc n) share h short = let a = total_most n share h short in let b = short n in let c = suc-mul n share in omega arith

total_less : (n share k : ℕ) (h : List Call) → ((i : ℕ) → length (calls_by i h) ≤ share) → k < n → length (calls_by k h) < share → total n h < n * share
total_less zero share k h short lt less = absurd (omega arith)
total_less (suc n) share k h short lt less = let c = suc-mul n share in let b = short n in ⊎_elim
    (λ (e : k ≡ n). let a = total_most n share h short in let d : length (calls_by n h) < share = subst (λ (i : ℕ). length (calls_by i h) < share) e less in omega arith)
    (λ (ne : k ≡ n → ⊥). let a = total_less n share k h short (omega arith) less in omega arith)
    (cases_eq k n)

-- where each thread keeps to its share and one has room, the history is shorter than all shares
pub has_room : (n share k : ℕ) (h : List Call) → AllBelow n h → ((i : ℕ) → length (calls_by i h) ≤ share) → k < n → length (calls_by k h) < share → length h < n * share
has_room n share k h below short lt less = let a = total_is n h below in let b = total_less n share k h short lt less in omega arith
