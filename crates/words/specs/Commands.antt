-- The commands and their options.
use Rattle.std.specs.Prelude.{true, false, List, [], ◌∷◌, codes}
use Rattle.words.specs.Options.{Options}
use Rattle.words.specs.Spelling.{WordText}

-- a command's name and its options
abbrev pub CommandWords : Type 0
CommandWords = WordText × Options

-- the options of each command that walks
abbrev pub walk_options : Options
walk_options = (codes "order", false) ∷ ((codes "picks", false) ∷ ((codes "seed", false) ∷ ((codes "steps", false) ∷ [])))

abbrev pub check_words : CommandWords
check_words = (codes "check", [])

abbrev pub opt_words : CommandWords
opt_words = (codes "opt", [])

abbrev pub tidy_words : CommandWords
tidy_words = (codes "tidy", walk_options)

abbrev pub validate_words : CommandWords
validate_words = (codes "validate", [])

abbrev pub seq_words : CommandWords
seq_words = (codes "seq", (codes "function", true) ∷ [])

abbrev pub walk_words : CommandWords
walk_words = (codes "walk", walk_options)

abbrev pub run_words : CommandWords
run_words = (codes "run", (codes "seed", false) ∷ ((codes "steps", false) ∷ []))

abbrev pub replay_words : CommandWords
replay_words = (codes "replay", [])

abbrev pub graph_words : CommandWords
graph_words = (codes "graph", [])

abbrev pub litmus_words : CommandWords
litmus_words = (codes "litmus", (codes "seed", false) ∷ ((codes "seeds", false) ∷ ((codes "steps", false) ∷ [])))

-- the options of each command that searches for all outcomes
abbrev pub search_options : Options
search_options = (codes "steps", false) ∷ ((codes "states", false) ∷ [])

abbrev pub outcomes_words : CommandWords
outcomes_words = (codes "outcomes", search_options)

abbrev pub refute_words : CommandWords
refute_words = (codes "refute", search_options)

abbrev pub gen_words : CommandWords
gen_words = (codes "gen", (codes "number", true) ∷ ((codes "functions", false) ∷ ((codes "form", false) ∷ [])))

abbrev pub commands : List CommandWords
commands =
    check_words
    ∷ (opt_words
    ∷ (tidy_words
    ∷ (validate_words
    ∷ (seq_words
    ∷ (walk_words
    ∷ (run_words
    ∷ (replay_words
    ∷ (graph_words
    ∷ (litmus_words
    ∷ (outcomes_words
    ∷ (refute_words
    ∷ (gen_words
    ∷ []))))))))))))
