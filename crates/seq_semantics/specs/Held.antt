-- What a function alone is as a value of the code.
use Rattle.std.specs.Prelude.{◌≡◌, ◌⊎◌, true, List, [], length, IsSomeAnd}
use Rattle.il_syntax.specs.declared.program.Program.{Program}
use Rattle.thread_core.specs.Steps.{Positions, frame_in, ArePositions}
use Rattle.seq_semantics.specs.declared.place.Place.{Place}
use Rattle.seq_semantics.specs.declared.place.Course.{Course}
use Rattle.il_syntax.specs.Given.{is_call}
use Rattle.il_paths.specs.Heads.{is_acquire}
use Rattle.thread_core.specs.Programs.{code_of}
use Rattle.seq_semantics.specs.Seq.{Seq, head_in}

pub record HeldSeq : Type 0 where
  pub positions : Positions
  pub places : List Place
  pub course : Course

-- the same in a program
abbrev pub seq_in : Program → HeldSeq → Seq
seq_in p s = record { frame = frame_in p s.positions.top; places = s.places; course = s.course }

-- it is one of the program's, and has no caller
pub record IsSeqOf (p : Program) (s : HeldSeq) : Type 0 where
  pub at : ArePositions p s.positions
  pub alone : s.positions.callers ≡ []
  pub places : length s.places ≡ length p.na

-- others may be heard: at the function's beginning, an acquire or a call. (The beginning is where the whole code is still
-- to do: so at the head of a loop that the function begins with others may be heard again, and where an empty function
-- has ended. That only widens the condition of a gain.)
abbrev pub MayHear : Program → Seq → Type 0
MayHear p s = (s.frame.continuation ≡ code_of p s.frame.function) ⊎ IsSomeAnd (head_in s) (λ head. (is_call head ≡ true) ⊎ (is_acquire head ≡ true))

-- the next statement is a call
abbrev pub IsAtCall : Seq → Type 0
IsAtCall s = IsSomeAnd (head_in s) (λ head. is_call head ≡ true)
