-- The relation of a pair of accepted runs.
use Rattle.std.specs.Prelude.{◌≡◌, ◌≢◌, ◌⊎◌, ℕ, Bool, false, List, length}
use Rattle.std.specs.List.{AllByRecursion}
use Rattle.values_undef.specs.declared.value.Val.{Val}
use Rattle.values_undef.specs.Value.{IsBelow}
use Rattle.values_undef.specs.Matching.{ValuesBelow}
use Rattle.il_syntax.specs.declared.program.Program.{Program}
use Rattle.il_paths.specs.Code.{Visit}
use Rattle.paired_threads.specs.Functions.{PairedFunction}
use Rattle.paired_threads.specs.Frames.{FramesPaired}
use Rattle.paired_threads.specs.Facts.{FactsHold}
use Rattle.paired_threads.specs.Next.{pending}
use Rattle.seq_semantics.specs.declared.place.Perm.TheVariants.{Bare, Owned}
use Rattle.seq_semantics.specs.declared.place.Place.{Place}
use Rattle.seq_semantics.specs.declared.place.Course.TheVariants.{Running, AtEnd, HasFailed}
use Rattle.seq_semantics.specs.Seq.{Seq, place_in, loaded_from, head_in}
use Rattle.seq_pair.specs.declared.trace.PairEnd.{PairEnd}
use Rattle.seq_pair.specs.declared.trace.PairEnd.TheVariants.{Same, SourceFailed, Cut}
use Rattle.seq_pair.specs.Labels.{LabelMatches}
use Rattle.seq_pair.specs.Pair.{Pair, Stage, AtEntry, Inside, Over}

-- what a load of the location would give
abbrev pub loaded_at : Seq → ℕ → Val
loaded_at s x = loaded_from (place_in s.places x)

-- nobody can take the location
abbrev pub IsOwned : Seq → ℕ → Type 0
IsOwned s x = (place_in s.places x).permission ≡ Owned

-- Nothing is claimed of a location that the source has lost. Else the target has it too, and its value is
-- below, but while a removed store of it is pending.
abbrev pub PlacePaired : Bool → Place → Place → Type 0
PlacePaired pends t s = (s.permission ≡ Bare) ⊎ ((t.permission ≢ Bare) × (pends ≡ false → IsBelow t.value s.value))

abbrev pub PlacesPaired : (ℕ → Bool) → List Place → List Place → Type 0
PlacesPaired pends ts ss = (x : ℕ) → PlacePaired (pends x) (place_in ts x) (place_in ss x)

-- in the function, of which this path was run
pub record Related {p q : Program} {f : ℕ} (fn : PairedFunction p q f) (path : List Visit) (t s : Seq) : Type 0 where
  pub frames : FramesPaired fn path t.frame s.frame
  pub same_many : length t.places ≡ length s.places
  pub places : PlacesPaired (λ x. pending fn x path) t.places s.places
  pub facts : FactsHold path (head_in t) t.frame.registers (loaded_at s) (IsOwned s)
  pub target_runs : t.course ≡ Running
  pub source_runs : s.course ≡ Running

-- at the entry, with the values that were given so far
pub record EntryRelated (ts ss : List Val) (t s : Seq) : Type 0 where
  pub values : ValuesBelow ts ss
  pub same_many : length t.places ≡ length s.places
  pub places : PlacesPaired (λ x. false) t.places s.places
  pub target_runs : t.course ≡ Running
  pub source_runs : s.course ≡ Running

abbrev pub Finished : PairEnd → Seq → Seq → Type 0
Finished Same t s = (t.course ≡ AtEnd) × (s.course ≡ AtEnd)
Finished SourceFailed t s = s.course ≡ HasFailed
Finished Cut t s = ⊥

module _ {p q : Program} {f : ℕ} (fn : PairedFunction p q f) where
  abbrev pub Stands : Stage → Seq → Seq → Type 0
  Stands (AtEntry ts ss) t s = EntryRelated ts ss t s
  Stands Inside t s = (path : List Visit) × Related fn path t s
  Stands (Over end) t s = Finished end t s

  pub record PairRelated (s : Pair) : Type 0 where
    pub labels : AllByRecursion LabelMatches s.labels
    pub stands : Stands s.stage s.target s.source
