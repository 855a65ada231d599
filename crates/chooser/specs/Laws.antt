-- What holds of each chooser, and of the words that are drawn.
use Rattle.std.specs.Prelude.{◌≡◌, ℕ, suc, ◌%◌}
use Rattle.rand_pcg.specs.Lcg.{Lcg}
use Rattle.values_undef.specs.declared.access.Access.{Access}
use Rattle.values_undef.specs.declared.access.Choice.{Choice}
use Rattle.views.specs.ThreadView.{ThreadView}
use Rattle.message_memory.specs.Memory.{Memory}
use Rattle.message_memory.specs.Candidates.{IsAtomic, IsCandidate}
use Rattle.chooser.specs.Chosen.{IsChosen}
use Rattle.chooser.specs.Draws.{drawn, after_draw, word}

-- a choice that is chosen for an access to an atomic location is a candidate
abbrev pub ChosenAreCandidates : {C : Type 0} → (C → ℕ → ℕ → ℕ) → Type 0
ChosenAreCandidates {C} answer = (m : Memory) (view : ThreadView) (a : Access) (chooser : C) (thread : ℕ) (c : Choice) → IsChosen answer m view a chooser thread c → IsAtomic a → IsCandidate m view a c

-- a draw is the first word of its generator over the number of choices, and leaves the words after it
abbrev pub DrawsAreWords : Type 0
DrawsAreWords = (g : Lcg) (count : ℕ) → drawn g count ≡ word g 0 % count

abbrev pub WordsGoOn : Type 0
WordsGoOn = (g : Lcg) (k : ℕ) → word (after_draw g) k ≡ word g (suc k)
