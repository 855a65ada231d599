-- The steps that a thread has used, entry by entry.
use Rattle.std.proofs.Common.{◌≡◌, ℕ, pos, ◌+◌, ◌<◌, ◌≤◌, cond, eqb, List, [], ◌∷◌, ◌++◌, length, get_or, take, drop, ap, arith}
use Rattle.std.proofs.lemmas.List.{take_more, take-append-drop}
use Rattle.values_undef.specs.Journal.{entry_steps, used_steps}
use Rattle.values_undef.specs.declared.value.Val.TheVariants.{Def}
use Rattle.values_undef.specs.declared.access.Event.TheVariants.{NaRead}
use Rattle.values_undef.specs.declared.journal.Entry.{Entry}
use Rattle.outcome_nodes.proofs.Callers.{used_parts}

-- the entry that stands for one that isn't there
abbrev pub no_entry : Entry
no_entry = record { thread = 0; silent = 0; event = NaRead 0 (Def (pos 0)) }

pub used_one : (entries : List Entry) (k : ℕ) (d : Entry) (i : ℕ) → k < length entries → used_steps (take (k + 1) entries) i ≡ used_steps (take k entries) i + cond (eqb (get_or entries k d).thread i) (entry_steps (get_or entries k d)) 0
used_one entries k d i l =
    let e : used_steps (take (k + 1) entries) i ≡ used_steps (take k entries ++ get_or entries k d ∷ []) i = ap (λ (xs : List Entry). used_steps xs i) (take_more entries k d l) in
    omega (arith, e, used_parts (take k entries) (get_or entries k d ∷ []) i)

pub used_few : (entries : List Entry) (k i : ℕ) → used_steps (take k entries) i ≤ used_steps entries i
used_few entries k i =
    let e : used_steps (take k entries ++ drop k entries) i ≡ used_steps entries i = ap (λ (xs : List Entry). used_steps xs i) (take-append-drop k entries) in
    omega (arith, e, used_parts (take k entries) (drop k entries) i)
