-- What the parts that read a command give.
use Rattle.std.specs.Prelude.{◌≡◌, List, None, Result, MatchResult, codes}
use Rattle.words.specs.Meaning.{GivesSeed, GivesValues, name_of}
use Rattle.words.specs.Numbers.{AreNumbers}
use Rattle.words.specs.Options.{value_of}
use Rattle.words.specs.Spelling.{Setting, WordText}
use Rattle.words.specs.declared.command.Command.{Command}
use Rattle.words.specs.declared.command.Drawing.{Drawing}
use Rattle.words.specs.declared.command.Drawing.TheVariants.{Seed, Picks}
use Rattle.words.specs.declared.command.WordsFault.{WordsFault}
use Rattle.words.specs.declared.command.WordsFault.TheVariants.{Refused}

-- the drawing is a seed that the settings give
abbrev pub IsSeed : List Setting → Drawing → Type 0
IsSeed settings (Seed seed) = GivesSeed settings seed
IsSeed settings (Picks list) = ⊥

-- the drawing is the list of the text
abbrev pub ListsPicks : WordText → Drawing → Type 0
ListsPicks text (Seed seed) = ⊥
ListsPicks text (Picks list) = AreNumbers 4294967295 text list

-- the drawing is the list of the text, and there is no seed
abbrev pub IsPicks : List Setting → WordText → Drawing → Type 0
IsPicks settings text d = (value_of (codes "seed") settings ≡ None) × ListsPicks text d

-- the command of this name that the settings give, or refused where they give none
abbrev pub ReadsCommand : WordText → List Setting → Result Command WordsFault → Type 0
ReadsCommand name settings r =
    MatchResult r (λ c. (name_of c ≡ name) × GivesValues settings c)
    (λ e. e ≡ Refused → (c : Command) → name_of c ≡ name → GivesValues settings c → ⊥)
