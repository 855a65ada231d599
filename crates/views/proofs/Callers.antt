-- What a caller's proof needs: a place of a raised or joined view, and how views grow.
pub use Rattle.views.proofs.ViewLemmas.{length-raised, get_or-raised_same, get_or-raised_other, raised_alike, raised_below, below_set}
pub use Rattle.views.proofs.ViewLemmas.{length-joined, get_or-joined, get_or-joined_within, get_or-joined_past, joined_le, joined_ge, joined_same, joined_below}
pub use Rattle.views.proofs.ViewLemmas.{get_or-zeros, zero_below, below_trans, below_antisymmetric}
pub use Rattle.views.proofs.ThreadViewLemmas.{below_same, raised_mono, joined_mono, below_joined, zero_ordered, raised_ordered, heard_ordered, fenced_ordered, length-heard, length-fenced, seeing_rises, hearing_rises, fences_rise}
