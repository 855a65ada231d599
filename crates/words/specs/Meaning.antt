-- The command that words mean.
use Rattle.std.specs.Prelude.{◌≡◌, ℕ, true, List, [], ◌∷◌, Option, Some, None, codes}
use Rattle.il_syntax.specs.Name.{is_word}
use Rattle.words.specs.Commands.{CommandWords, check_words, gen_words, graph_words, litmus_words, opt_words, outcomes_words, refute_words, replay_words, run_words, seq_words, tidy_words, validate_words, walk_words}
use Rattle.words.specs.Numbers.{IsNumber, AreNumbers}
use Rattle.words.specs.Options.{AllowsSettings, Options, value_of}
use Rattle.words.specs.Spelling.{Setting, SpellsSettings, WordText}
use Rattle.words.specs.declared.command.Command.{Command}
use Rattle.words.specs.declared.command.Command.TheVariants.{Check, Gen, Graph, Litmus, Opt, Outcomes, Refute, Replay, Run, Seq, Tidy, Validate, Walk}
use Rattle.words.specs.declared.command.Drawing.{Drawing}
use Rattle.words.specs.declared.command.Drawing.TheVariants.{Seed, Picks}
use Rattle.words.specs.declared.command.Form.{Form}
use Rattle.words.specs.declared.command.Form.TheVariants.{Text, Summary}

-- the number that a value gives, from low to high, or the default where the option is left out
abbrev pub GivesNumber : ℕ → ℕ → ℕ → Option WordText → ℕ → Type 0
GivesNumber low high default None n = n ≡ default
GivesNumber low high default (Some text) n = IsNumber low high text n

-- the number that a value gives, from low to high, of an option that is there
abbrev pub SetsNumber : ℕ → ℕ → Option WordText → ℕ → Type 0
SetsNumber low high None n = ⊥
SetsNumber low high (Some text) n = IsNumber low high text n

-- the text is a word of the language, reserved or not and of any length
abbrev pub IsWordOf : WordText → WordText → Type 0
IsWordOf text word = (word ≡ text) × (is_word text ≡ true)

-- the word that a value gives, of an option that is there
abbrev pub SetsWord : Option WordText → WordText → Type 0
SetsWord None word = ⊥
SetsWord (Some text) word = IsWordOf text word

-- the numbers that a value lists, each from 0 to high, or none where the option is left out
abbrev pub GivesNumbers : ℕ → Option WordText → List ℕ → Type 0
GivesNumbers high None ns = ns ≡ []
GivesNumbers high (Some text) ns = AreNumbers high text ns

-- the numbers that a value lists, each from 0 to high, of an option that is there
abbrev pub ListsNumbers : ℕ → Option WordText → List ℕ → Type 0
ListsNumbers high None ns = ⊥
ListsNumbers high (Some text) ns = AreNumbers high text ns

-- a word of the language, and never left out
abbrev pub GivesFunctionName : List Setting → WordText → Type 0
GivesFunctionName settings function = SetsWord (value_of (codes "function") settings) function

-- up to 2^64 - 1, and 0 where it is left out
abbrev pub GivesSeed : List Setting → ℕ → Type 0
GivesSeed settings seed = GivesNumber 0 18446744073709551615 0 (value_of (codes "seed") settings) seed

-- from 1 to 16384, and 1000 where it is left out
abbrev pub GivesSteps : List Setting → ℕ → Type 0
GivesSteps settings steps = GivesNumber 1 16384 1000 (value_of (codes "steps") settings) steps

-- up to 2^63 - 1, and 0 where it is left out
abbrev pub GivesFirstSeed : List Setting → ℕ → Type 0
GivesFirstSeed settings seed = GivesNumber 0 9223372036854775807 0 (value_of (codes "seed") settings) seed

-- from 1 to 500, and 100 where it is left out
abbrev pub GivesSeeds : List Setting → ℕ → Type 0
GivesSeeds settings seeds = GivesNumber 1 500 100 (value_of (codes "seeds") settings) seeds

-- from 1 to 100, and 100 where it is left out
abbrev pub GivesFewSteps : List Setting → ℕ → Type 0
GivesFewSteps settings steps = GivesNumber 1 100 100 (value_of (codes "steps") settings) steps

-- from 1 to 2^20, and 2^16 where it is left out
abbrev pub GivesStates : List Setting → ℕ → Type 0
GivesStates settings states = GivesNumber 1 1048576 65536 (value_of (codes "states") settings) states

-- numbers of threads up to 15, and the empty list where it is left out
abbrev pub GivesOrder : List Setting → List ℕ → Type 0
GivesOrder settings order = GivesNumbers 15 (value_of (codes "order") settings) order

-- picks up to 2^32 - 1, without a seed, or else a seed
abbrev pub GivesDraws : List Setting → Drawing → Type 0
GivesDraws settings (Seed seed) = (value_of (codes "picks") settings ≡ None) × GivesSeed settings seed
GivesDraws settings (Picks list) = (value_of (codes "seed") settings ≡ None) × ListsNumbers 4294967295 (value_of (codes "picks") settings) list

-- the values of each command that walks
abbrev pub GivesWalk : List Setting → List ℕ → Drawing → ℕ → Type 0
GivesWalk settings order draws steps = GivesOrder settings order × GivesDraws settings draws × GivesSteps settings steps

-- up to 2^64 - 1, and never left out
abbrev pub GivesProgramNumber : List Setting → ℕ → Type 0
GivesProgramNumber settings number = SetsNumber 0 18446744073709551615 (value_of (codes "number") settings) number

-- from 1 to 256, and 4 where it is left out
abbrev pub GivesFunctions : List Setting → ℕ → Type 0
GivesFunctions settings functions = GivesNumber 1 256 4 (value_of (codes "functions") settings) functions

abbrev pub form_word : Form → WordText
form_word Text = codes "text"
form_word Summary = codes "summary"

-- the form of this word, or the text where the option is left out
abbrev pub IsFormOf : Option WordText → Form → Type 0
IsFormOf None form = form ≡ Text
IsFormOf (Some text) form = text ≡ form_word form

abbrev pub GivesForm : List Setting → Form → Type 0
GivesForm settings form = IsFormOf (value_of (codes "form") settings) form

-- A command in words: its name and options, and when settings give it its values.
pub record InWords : Type 1 where
  pub words : CommandWords
  pub gives : List Setting → Type 0

-- a command without values
abbrev pub without_values : CommandWords → InWords
without_values words = record { words = words; gives = λ settings. Unit {0} }

abbrev pub in_words : Command → InWords
in_words Check = without_values check_words
in_words Opt = without_values opt_words
in_words (Tidy order draws steps) = record { words = tidy_words; gives = λ settings. GivesWalk settings order draws steps }
in_words Validate = without_values validate_words
in_words (Seq function) = record { words = seq_words; gives = λ settings. GivesFunctionName settings function }
in_words (Walk order draws steps) = record { words = walk_words; gives = λ settings. GivesWalk settings order draws steps }
in_words (Run seed steps) = record { words = run_words; gives = λ settings. GivesSeed settings seed × GivesSteps settings steps }
in_words Replay = without_values replay_words
in_words Graph = without_values graph_words
in_words (Litmus seed seeds steps) = record { words = litmus_words; gives = λ settings. GivesFirstSeed settings seed × GivesSeeds settings seeds × GivesFewSteps settings steps }
in_words (Outcomes steps states) = record { words = outcomes_words; gives = λ settings. GivesFewSteps settings steps × GivesStates settings states }
in_words (Refute steps states) = record { words = refute_words; gives = λ settings. GivesFewSteps settings steps × GivesStates settings states }
in_words (Gen number functions form) = record { words = gen_words; gives = λ settings. GivesProgramNumber settings number × GivesFunctions settings functions × GivesForm settings form }

abbrev pub name_of : Command → WordText
name_of command = (in_words command).words.0

abbrev pub options_of : Command → Options
options_of command = (in_words command).words.1

-- the settings give the command its values
abbrev pub GivesValues : List Setting → Command → Type 0
GivesValues settings command = (in_words command).gives settings

-- the first word is the command, and the rest spell settings that its options allow and that give its values
pub record Means (words : List WordText) (command : Command) : Type 0 where
  pub rest : List WordText
  pub settings : List Setting
  pub first : words ≡ name_of command ∷ rest
  pub spells : SpellsSettings settings rest
  pub allows : AllowsSettings (options_of command) settings
  pub values : GivesValues settings command
