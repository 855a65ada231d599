-- Journals that stop where a budget of steps says.
use Rattle.std.specs.Prelude.{◌≡◌, ◌⊎◌, ℕ, ◌<◌, ◌≤◌, Bool, true, ◌&&◌, ◌==◌, List, length}
use Rattle.std.specs.List.{list_any}
use Rattle.values_undef.specs.Access.{ends_thread, is_spend}
use Rattle.values_undef.specs.Journal.{last_fails, used_steps}
use Rattle.values_undef.specs.declared.journal.Entry.{Entry}
use Rattle.il_syntax.specs.declared.program.Program.{Program}

-- the thread has an entry that ends it
abbrev pub has_ended : List Entry → ℕ → Bool
has_ended entries i = list_any (λ entry. entry.thread == i && ends_thread entry.event) entries

-- the thread has an entry `Spend`
abbrev pub has_spent : List Entry → ℕ → Bool
has_spent entries i = list_any (λ entry. entry.thread == i && is_spend entry.event) entries

-- No thread uses more steps than its budget, one that is ended for it has used all of it, and every thread
-- has ended unless the journal ends in a failure.
pub record IsComplete (p : Program) (entries : List Entry) (steps : ℕ) : Type 0 where
  pub within : (i : ℕ) → i < length p.threads → used_steps entries i ≤ steps
  pub spent : (i : ℕ) → i < length p.threads → has_spent entries i ≡ true → used_steps entries i ≡ steps
  pub whole : (last_fails entries ≡ true) ⊎ ((i : ℕ) → i < length p.threads → has_ended entries i ≡ true)
