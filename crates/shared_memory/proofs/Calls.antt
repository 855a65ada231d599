-- Lists of calls, woven of those of each thread.
use Rattle.std.proofs.Common.{◌≡◌, ℕ, List, [], ◌∷◌, ◌++◌, length, take, drop, get_or, set, refl, sym, ap, ◌∙◌, subst, ⊎_elim, arith, Some, slice_get, length-set, get_or-set_same, get_or-set_other}
use Rattle.std.proofs.lemmas.Bool.{cases_eq}
use Rattle.message_memory.specs.declared.history.Call.{Call}
use Rattle.message_memory.specs.History.{calls_by, entries_of}
use Rattle.message_memory.proofs.Callers.{own_first, other_first}
use Rattle.shared_memory.specs.Turns.{AllBelow}
use Rattle.shared_memory.specs.Passes.{weave}
use Rattle.shared_memory.specs.Laws.{HistoriesAreWoven}

pub get_last : (xs : List Call) (c : Call) → slice_get (xs ++ c ∷ []) (length xs) ≡ Some c
get_last [] c = refl
get_last (x ∷ xs) c = get_last xs c

pub woven : HistoriesAreWoven
woven [] lists below own = refl
woven (c ∷ cs) lists below own =
    let i : ℕ = c.thread in
    let mine : get_or lists i [] ≡ c ∷ calls_by i cs = own i below.0 ∙ own_first c cs i refl in
    let front : take 1 (get_or lists i []) ≡ c ∷ [] = ap (take 1) mine in
    let after : List (List Call) = set lists i (drop 1 (get_or lists i [])) in
    let many : length after ≡ length lists = length-set lists i (drop 1 (get_or lists i [])) in
    let rest : weave (entries_of cs) after ≡ cs = woven cs after (subst (λ (n : ℕ). AllBelow n cs) (sym many) below.1)
    (λ j lt. ⊎_elim
    (λ (e : i ≡ j). ap (λ (k : ℕ). get_or after k []) (sym e) ∙ (get_or-set_same lists i (drop 1 (get_or lists i [])) [] below.0 ∙ (ap (drop 1) mine ∙ ap (λ (k : ℕ). calls_by k cs) e)))
    (λ (ne : i ≡ j → ⊥). get_or-set_other lists i j (drop 1 (get_or lists i [])) [] (λ e. ne (sym e)) ∙ (own j (omega arith) ∙ other_first c cs j ne))
    (cases_eq i j)) in
    ap (λ l. l ++ weave (entries_of cs) after) front ∙ ap (λ l. c ∷ l) rest
