-- The words that are drawn, and the candidates that are chosen.
use Rattle.std.proofs.Common.{ℕ, length, refl, subst}
use Rattle.values_undef.specs.declared.access.Access.{Access}
use Rattle.values_undef.specs.declared.access.Choice.{Choice}
use Rattle.views.specs.ThreadView.{ThreadView}
use Rattle.message_memory.specs.Memory.{Memory}
use Rattle.message_memory.specs.Candidates.{candidates, IsAtomic, IsCandidate}
use Rattle.message_memory.proofs.Callers.{atomic_leaves}
use Rattle.chooser.specs.Chosen.{IsChosen, IsChosenBy}
use Rattle.chooser.specs.Draws.{word}
use Rattle.chooser.specs.Laws.{DrawsAreWords, WordsGoOn}

pub first_word : DrawsAreWords
unfolding word
first_word g count = refl

pub next_word : WordsGoOn
unfolding word
next_word g k = refl

-- a choice that a chooser answered is a candidate
pub chosen_candidate : {C : Type 0} (answer : C → ℕ → ℕ → ℕ) (m : Memory) (view : ThreadView) (a : Access) (chooser : C) (thread : ℕ) (c : Choice) → IsChosen answer m view a chooser thread c → IsAtomic a → IsCandidate m view a c
chosen_candidate answer m view a chooser thread c chosen atomic =
    (answer chooser thread (length (candidates m view a)), subst (IsChosenBy answer m view a chooser thread c) (atomic_leaves a atomic) chosen)
