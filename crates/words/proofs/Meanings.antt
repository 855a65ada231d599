-- clap takes exactly the words that mean a command, up to the ranges of values.
use Rattle.std.proofs.Common.{◌≡◌, ◌∙◌, ◌⊎◌, ◌==◌, inl, inr, ◌<◌, ◌^◌, ℕ, Bool, true, false, refl, sym, ap, subst, List, [], ◌∷◌, ap₂, get_or, map, codes, Option, Some, None, Result, Ok, Err, option_map, arith}
use Rattle.std.specs.Prelude.{find, IfOk, MatchResult}
use Rattle.std.specs.List.{list_all, list_any}
use Rattle.std.specs.Str.{bytes_eq}
use Rattle.std.specs.Option.{option_map_or}
use Rattle.std.specs.Box.{box_value}
use Rattle.std.proofs.lemmas.Fmt.{decimal_injective}
use Rattle.std.proofs.lemmas.Slice.Eq.{bytes_eq-Decides}
use Rattle.std.proofs.lemmas.Bool.Decides.{nat_tests}
use Rattle.clap.specs.Walk.{Row}
use Rattle.clap.specs.Matches.{subcommand_name_of}
use Rattle.clap.specs.Simple.{App, HasMatchesOf, built, is_simple, subcommand_of, subcommand_rows, subcommand_rows_of}
use Rattle.clap.specs.Faults.{fault_of, is_simple_and_free}
use Rattle.clap.specs.Kinds.{HasKind}
use Rattle.clap.specs.Words.{kind_of}
use Rattle.clap.specs.declared.error.Error.{Error}
use Rattle.clap.specs.declared.error.kind.ErrorKind.TheVariants as kind
use Rattle.clap.specs.declared.parser.matches.ArgMatches.{ArgMatches}
use Rattle.clap.specs.declared.parser.matches.ArgMatches.TheViews.{out-ArgMatches, out-SubCommand}
use Rattle.il_syntax.specs.Name.{is_letter, is_word}
use Rattle.words.specs.Commands.{CommandWords, commands, search_options, walk_options}
use Rattle.words.specs.Reading.{ReadsCommand}
use Rattle.words.specs.Meaning.{ListsNumbers, Means, GivesValues, GivesDraws, GivesWalk, GivesFewSteps, GivesStates, GivesNumber, GivesNumbers, IsFormOf, SetsNumber, SetsWord, form_word, in_words, name_of, options_of}
use Rattle.words.specs.Options.{Options, AllowsSettings, is_option, value_of}
use Rattle.words.specs.Program.{clap_program, row_of}
use Rattle.words.specs.Spelling.{Setting, WordText}
use Rattle.words.specs.declared.command.Command.{Command}
use Rattle.words.specs.declared.command.Command.TheVariants.{Check, Gen, Graph, Litmus, Opt, Outcomes, Refute, Replay, Run, Seq, Tidy, Validate, Walk}
use Rattle.words.specs.declared.command.Drawing.{Drawing}
use Rattle.words.specs.declared.command.Drawing.TheVariants.{Seed, Picks}
use Rattle.words.specs.declared.command.Form.{Form}
use Rattle.words.specs.declared.command.Form.TheVariants.{Text, Summary}
use Rattle.words.specs.declared.command.WordsFault.{WordsFault}
use Rattle.words.specs.declared.command.WordsFault.TheVariants.{Refused, NoMemory}
use Rattle.words.proofs.Agreement.{Taken, words_taken, words_take, options_no_dashes}
use Rattle.words.proofs.App.{program}
use Rattle.words.proofs.Reading.{IsNoDash, NoDashes}
use Rattle.words.proofs.Spelled.{IsPlain}
use Rattle.words.proofs.Values.{PlainValues, is_named}
use Rattle.words.proofs.NumberLists.{plain_decimal, plain_numbers, same_numbers}
use Rattle.words.specs.Numbers.{AreNumbers}

pub program_simple : is_simple_and_free (clap_program commands) ≡ true
program_simple = refl

pub program_is_simple : is_simple (clap_program commands) ≡ true
program_is_simple = refl

program_built : built (clap_program commands) ≡ program (codes "seqopt") commands
program_built = refl

dashes_none : (words : List WordText) → list_any (λ w. bytes_eq w (codes "--")) words ≡ false → NoDashes words
dashes_none [] h = tt
dashes_none (w ∷ ws) h = go (bytes_eq w (codes "--")) refl (dashes_none ws)
  where
    go : (t : Bool) → bytes_eq w (codes "--") ≡ t → (list_any (λ w. bytes_eq w (codes "--")) ws ≡ false → NoDashes ws) → NoDashes (w ∷ ws)
    go true e more = absurd (let bad : true ≡ false = rw e at h in cc)
    go false e more = (e, more (rw e at h))

none_dashes : (words : List WordText) → NoDashes words → list_any (λ w. bytes_eq w (codes "--")) words ≡ false
none_dashes [] h = refl
none_dashes (w ∷ ws) h = rw h.0 (none_dashes ws h.1)

-- what clap has read, or why it has refused
pub clap_reads : (a : App) (words : List WordText) (m : ArgMatches) → a ≡ clap_program commands → (is_simple_and_free a ≡ true → fault_of a words ≡ []) → HasMatchesOf a words m
    → (fault_of (clap_program commands) words ≡ []) × (subcommand_rows_of m ≡ subcommand_of (clap_program commands) words)
clap_reads a words m same kinds has = (
  subst (λ (b : App). is_simple_and_free b ≡ true → fault_of b words ≡ []) same kinds program_simple,
  (subst (λ (b : App). HasMatchesOf b words m) same has program_is_simple).1,
)

no_kind : (e : Error) → (kind_of e ≡ kind.OutOfMemory → ⊥) → HasKind [] e → ⊥
no_kind e other (inl memory) = other memory
no_kind e other (inr among) = among

pub clap_refuses : (a : App) (words : List WordText) (e : Error) → a ≡ clap_program commands → (is_simple_and_free a ≡ true → HasKind (fault_of a words) e)
    → (kind_of e ≡ kind.OutOfMemory → ⊥) → fault_of (clap_program commands) words ≡ [] → ⊥
clap_refuses a words e same kinds other none =
    no_kind e other (subst (λ ks. HasKind ks e) none (subst (λ (b : App). is_simple_and_free b ≡ true → HasKind (fault_of b words) e) same kinds program_simple))

-- no subcommand was read
pub no_rows : (m : ArgMatches) (p : WordText × List Row) → None ≡ option_map (λ q. q.1) (subcommand_rows_of m) → subcommand_rows_of m ≡ Some p → ⊥
no_rows m p none some = let bad : ◌≡◌ {A = Option (List Row)} None (Some p.1) = none ∙ ap (option_map (λ q. q.1)) some in absurd cc

-- ---- values

one_number : (low high default n m : ℕ) (value : Option WordText) → high < 2 ^ 64 → GivesNumber low high default value n → GivesNumber low high default value m → n ≡ m
one_number low high default n m None h a b = a ∙ sym b
one_number low high default n m (Some text) h a b = decimal_injective n m (omega arith) (omega arith) (sym a.0 ∙ b.0)

plain_number : (low high default n : ℕ) (value : Option WordText) (text : WordText) → high < 2 ^ 64 → GivesNumber low high default value n → value ≡ Some text → IsPlain text
plain_number low high default n None text h a e = absurd cc
plain_number low high default n (Some t) text h a e =
    let same : t ≡ text = cc in
    subst IsPlain (sym a.0 ∙ same) (plain_decimal n (omega arith))

one_number_set : (low high n m : ℕ) (value : Option WordText) → high < 2 ^ 64 → SetsNumber low high value n → SetsNumber low high value m → n ≡ m
one_number_set low high n m None h a b = absurd a
one_number_set low high n m (Some text) h a b = decimal_injective n m (omega arith) (omega arith) (sym a.0 ∙ b.0)

plain_number_set : (low high n : ℕ) (value : Option WordText) (text : WordText) → high < 2 ^ 64 → SetsNumber low high value n → value ≡ Some text → IsPlain text
plain_number_set low high n None text h a e = absurd a
plain_number_set low high n (Some t) text h a e =
    let same : t ≡ text = cc in
    subst IsPlain (sym a.0 ∙ same) (plain_decimal n (omega arith))

apart : (a b : WordText) → bytes_eq a b ≡ false → a ≡ b → ⊥
apart a b differs same = let bad : true ≡ false = sym ((bytes_eq-Decides a b).1 same) ∙ differs in absurd cc

form_of_word : (f g : Form) → form_word f ≡ form_word g → f ≡ g
form_of_word Text Text e = refl
form_of_word Text Summary e = absurd (apart (codes "text") (codes "summary") refl e)
form_of_word Summary Text e = absurd (apart (codes "summary") (codes "text") refl e)
form_of_word Summary Summary e = refl

one_form : (f g : Form) (value : Option WordText) → IsFormOf value f → IsFormOf value g → f ≡ g
one_form f g None a b = a ∙ sym b
one_form f g (Some text) a b = form_of_word f g (sym a ∙ b)

plain_form_word : (f : Form) → IsPlain (form_word f)
plain_form_word Text = refl
plain_form_word Summary = refl

plain_form : (f : Form) (value : Option WordText) (text : WordText) → IsFormOf value f → value ≡ Some text → IsPlain text
plain_form f None text a e = absurd cc
plain_form f (Some t) text a e = let same : t ≡ text = cc in subst IsPlain (sym a ∙ same) (plain_form_word f)

-- a word of the language begins with no hyphen
letter_no_hyphen : (b : ℕ) → is_letter b ≡ true → (b == 45) ≡ false
letter_no_hyphen b letter = go (b == 45) refl
  where
    go : (t : Bool) → (b == 45) ≡ t → t ≡ false
    go true e =
        let same : b ≡ 45 = grind (arith, nat_tests) in
        let bad : true ≡ false = sym letter ∙ ap is_letter same in absurd cc
    go false e = refl

plain_text : (text : WordText) → is_word text ≡ true → IsPlain text
plain_text [] h = absurd cc
plain_text (b ∷ bs) h = rw (letter_no_hyphen b (letter (is_letter b) refl)) refl
  where
    letter : (t : Bool) → is_letter b ≡ t → t ≡ true
    letter true e = refl
    letter false e = absurd (let bad : false ≡ true = rw e at h in cc)

plain_word : (word : WordText) (value : Option WordText) (text : WordText) → SetsWord value word → value ≡ Some text → IsPlain text
plain_word word None text a e = absurd a
plain_word word (Some t) text a e = let same : t ≡ text = cc in subst IsPlain same (plain_text t a.1)

one_word : (word word' : WordText) (value : Option WordText) → SetsWord value word → SetsWord value word' → word ≡ word'
one_word word word' None a b = absurd a
one_word word word' (Some text) a b = a.0 ∙ sym b.0

-- ---- commands

-- a command of the list: clap finds it by its name, and takes its options for what they are
pub record IsListed (w : CommandWords) : Type 0 where
  pub found : find (λ p. bytes_eq p.0 w.0) commands ≡ Some w
  pub named : list_all is_named w.1 ≡ true
  pub no_dash : IsNoDash w.0

listed : (c : Command) → IsListed (in_words c).words
listed Check = record { found = refl; named = refl; no_dash = refl }
listed Opt = record { found = refl; named = refl; no_dash = refl }
listed (Tidy order draws steps) = record { found = refl; named = refl; no_dash = refl }
listed Validate = record { found = refl; named = refl; no_dash = refl }
listed (Seq function) = record { found = refl; named = refl; no_dash = refl }
listed (Walk order draws steps) = record { found = refl; named = refl; no_dash = refl }
listed (Run seed steps) = record { found = refl; named = refl; no_dash = refl }
listed Replay = record { found = refl; named = refl; no_dash = refl }
listed Graph = record { found = refl; named = refl; no_dash = refl }
listed (Litmus seed seeds steps) = record { found = refl; named = refl; no_dash = refl }
listed (Outcomes steps states) = record { found = refl; named = refl; no_dash = refl }
listed (Refute steps states) = record { found = refl; named = refl; no_dash = refl }
listed (Gen number functions form) = record { found = refl; named = refl; no_dash = refl }

-- a name of a list of options is that of the first, or of the rest
option_cases : (o : WordText × Bool) (os : Options) (name : WordText) → is_option (o ∷ os) name ≡ true → (o.0 ≡ name) ⊎ (is_option os name ≡ true)
option_cases o os name e = go (bytes_eq o.0 name) refl
  where
    go : (t : Bool) → bytes_eq o.0 name ≡ t → (o.0 ≡ name) ⊎ (is_option os name ≡ true)
    go true f = inl ((bytes_eq-Decides o.0 name).0 f)
    go false f = inr (rw f at e)

-- the numbers of a list are given by its text
one_list : (high : ℕ) (value : Option WordText) (ns ms : List ℕ) → high < 2 ^ 64 → GivesNumbers high value ns → GivesNumbers high value ms → ns ≡ ms
one_list high None ns ms h a b = a ∙ sym b
one_list high (Some text) ns ms h a b = same_numbers high text ns ms h a b

laid : (high : ℕ) (value : Option WordText) (ns : List ℕ) → ListsNumbers high value ns → (text : WordText) × (value ≡ Some text) × AreNumbers high text ns
laid high None ns h = absurd h
laid high (Some text) ns h = (text, refl, h)

plain_list : (high : ℕ) (value : Option WordText) (ns : List ℕ) (text : WordText) → high < 2 ^ 64 → GivesNumbers high value ns → value ≡ Some text → IsPlain text
plain_list high None ns text h a e = absurd cc
plain_list high (Some t) ns text h a e = let same : t ≡ text = cc in subst IsPlain same (plain_numbers high t ns h a)

plain_draws : (os : List Setting) (d : Drawing) (value : WordText) → GivesDraws os d
    → (value_of (codes "picks") os ≡ Some value → IsPlain value) × (value_of (codes "seed") os ≡ Some value → IsPlain value)
plain_draws os (Seed seed) value s = (
  (λ e. let bad : None ≡ Some value = sym s.0 ∙ e in absurd cc),
  (λ e. plain_number 0 18446744073709551615 0 seed (value_of (codes "seed") os) value (omega arith) s.1 e),
)
plain_draws os (Picks list) value s =
    let l = laid 4294967295 (value_of (codes "picks") os) list s.1 in (
      (λ e. plain_list 4294967295 (Some l.0) list value (omega arith) l.2 (sym l.1 ∙ e)),
      (λ e. let bad : None ≡ Some value = sym s.0 ∙ e in absurd cc),
    )

one_draws : (os : List Setting) (c d : Drawing) → GivesDraws os c → GivesDraws os d → c ≡ d
one_draws os (Seed a) (Seed b) s t = let same : a ≡ b = one_number 0 18446744073709551615 0 a b (value_of (codes "seed") os) (omega arith) s.1 t.1 in cc
one_draws os (Seed a) (Picks b) s t = let l = laid 4294967295 (value_of (codes "picks") os) b t.1 in let bad : None ≡ Some l.0 = sym s.0 ∙ l.1 in absurd cc
one_draws os (Picks a) (Seed b) s t = let l = laid 4294967295 (value_of (codes "picks") os) a s.1 in let bad : None ≡ Some l.0 = sym t.0 ∙ l.1 in absurd cc
one_draws os (Picks a) (Picks b) s t =
    let l = laid 4294967295 (value_of (codes "picks") os) a s.1 in
    let m = laid 4294967295 (value_of (codes "picks") os) b t.1 in
    let texts : Some l.0 ≡ Some m.0 = sym l.1 ∙ m.1 in
    let text : l.0 ≡ m.0 = cc in
    let same : a ≡ b = same_numbers 4294967295 l.0 a b (omega arith) l.2 (subst (λ t. AreNumbers 4294967295 t b) (sym text) m.2) in cc

-- the settings of each command that walks
plain_walk : (order : List ℕ) (draws : Drawing) (steps : ℕ) (os : List Setting) → GivesWalk os order draws steps → PlainValues walk_options os
plain_walk order draws steps os s name value option is = first (option_cases (codes "order", false) ((codes "picks", false) ∷ ((codes "seed", false) ∷ ((codes "steps", false) ∷ []))) name option)
  where
    fourth : (codes "steps" ≡ name) ⊎ (is_option [] name ≡ true) → IsPlain value
    fourth (inl same) = plain_number 1 16384 1000 steps (value_of (codes "steps") os) value (omega arith) s.2 (ap (λ n. value_of n os) same ∙ is)
    fourth (inr none) = absurd cc

    third : (codes "seed" ≡ name) ⊎ (is_option ((codes "steps", false) ∷ []) name ≡ true) → IsPlain value
    third (inl same) = (plain_draws os draws value s.1).1 (ap (λ n. value_of n os) same ∙ is)
    third (inr rest) = fourth (option_cases (codes "steps", false) [] name rest)

    second : (codes "picks" ≡ name) ⊎ (is_option ((codes "seed", false) ∷ ((codes "steps", false) ∷ [])) name ≡ true) → IsPlain value
    second (inl same) = (plain_draws os draws value s.1).0 (ap (λ n. value_of n os) same ∙ is)
    second (inr rest) = third (option_cases (codes "seed", false) ((codes "steps", false) ∷ []) name rest)

    first : (codes "order" ≡ name) ⊎ (is_option ((codes "picks", false) ∷ ((codes "seed", false) ∷ ((codes "steps", false) ∷ []))) name ≡ true) → IsPlain value
    first (inl same) = plain_list 15 (value_of (codes "order") os) order value (omega arith) s.0 (ap (λ n. value_of n os) same ∙ is)
    first (inr rest) = second (option_cases (codes "picks", false) ((codes "seed", false) ∷ ((codes "steps", false) ∷ [])) name rest)

-- the settings of each command that searches
plain_search : (steps states : ℕ) (os : List Setting) → GivesFewSteps os steps × GivesStates os states → PlainValues search_options os
plain_search steps states os s name value option is = first (option_cases (codes "steps", false) ((codes "states", false) ∷ []) name option)
  where
    second : (codes "states" ≡ name) ⊎ (is_option [] name ≡ true) → IsPlain value
    second (inl same) = plain_number 1 1048576 65536 states (value_of (codes "states") os) value (omega arith) s.1 (ap (λ n. value_of n os) same ∙ is)
    second (inr none) = absurd cc

    first : (codes "steps" ≡ name) ⊎ (is_option ((codes "states", false) ∷ []) name ≡ true) → IsPlain value
    first (inl same) = plain_number 1 100 100 steps (value_of (codes "steps") os) value (omega arith) s.0 (ap (λ n. value_of n os) same ∙ is)
    first (inr rest) = second (option_cases (codes "states", false) [] name rest)

plain_settings : (c : Command) (os : List Setting) → GivesValues os c → PlainValues (options_of c) os
plain_settings (Seq function) os s name value option is = first (option_cases (codes "function", true) [] name option)
  where
    first : (codes "function" ≡ name) ⊎ (is_option [] name ≡ true) → IsPlain value
    first (inl same) = plain_word function (value_of (codes "function") os) value s (ap (λ n. value_of n os) same ∙ is)
    first (inr none) = absurd cc
plain_settings (Tidy order draws steps) os s name value option is = plain_walk order draws steps os s name value option is
plain_settings (Walk order draws steps) os s name value option is = plain_walk order draws steps os s name value option is
plain_settings (Run seed steps) os s name value option is = first (option_cases (codes "seed", false) ((codes "steps", false) ∷ []) name option)
  where
    second : (codes "steps" ≡ name) ⊎ (is_option [] name ≡ true) → IsPlain value
    second (inl same) = plain_number 1 16384 1000 steps (value_of (codes "steps") os) value (omega arith) s.1 (ap (λ n. value_of n os) same ∙ is)
    second (inr none) = absurd cc

    first : (codes "seed" ≡ name) ⊎ (is_option ((codes "steps", false) ∷ []) name ≡ true) → IsPlain value
    first (inl same) = plain_number 0 18446744073709551615 0 seed (value_of (codes "seed") os) value (omega arith) s.0 (ap (λ n. value_of n os) same ∙ is)
    first (inr rest) = second (option_cases (codes "steps", false) [] name rest)
plain_settings (Litmus seed seeds steps) os s name value option is = first (option_cases (codes "seed", false) ((codes "seeds", false) ∷ ((codes "steps", false) ∷ [])) name option)
  where
    third : (codes "steps" ≡ name) ⊎ (is_option [] name ≡ true) → IsPlain value
    third (inl same) = plain_number 1 100 100 steps (value_of (codes "steps") os) value (omega arith) s.2 (ap (λ n. value_of n os) same ∙ is)
    third (inr none) = absurd cc

    second : (codes "seeds" ≡ name) ⊎ (is_option ((codes "steps", false) ∷ []) name ≡ true) → IsPlain value
    second (inl same) = plain_number 1 500 100 seeds (value_of (codes "seeds") os) value (omega arith) s.1 (ap (λ n. value_of n os) same ∙ is)
    second (inr rest) = third (option_cases (codes "steps", false) [] name rest)

    first : (codes "seed" ≡ name) ⊎ (is_option ((codes "seeds", false) ∷ ((codes "steps", false) ∷ [])) name ≡ true) → IsPlain value
    first (inl same) = plain_number 0 9223372036854775807 0 seed (value_of (codes "seed") os) value (omega arith) s.0 (ap (λ n. value_of n os) same ∙ is)
    first (inr rest) = second (option_cases (codes "seeds", false) ((codes "steps", false) ∷ []) name rest)
plain_settings (Outcomes steps states) os s name value option is = plain_search steps states os s name value option is
plain_settings (Refute steps states) os s name value option is = plain_search steps states os s name value option is
plain_settings (Gen number functions form) os s name value option is = first (option_cases (codes "number", true) ((codes "functions", false) ∷ ((codes "form", false) ∷ [])) name option)
  where
    third : (codes "form" ≡ name) ⊎ (is_option [] name ≡ true) → IsPlain value
    third (inl same) = plain_form form (value_of (codes "form") os) value s.2 (ap (λ n. value_of n os) same ∙ is)
    third (inr none) = absurd cc

    second : (codes "functions" ≡ name) ⊎ (is_option ((codes "form", false) ∷ []) name ≡ true) → IsPlain value
    second (inl same) = plain_number 1 256 4 functions (value_of (codes "functions") os) value (omega arith) s.1 (ap (λ n. value_of n os) same ∙ is)
    second (inr rest) = third (option_cases (codes "form", false) [] name rest)

    first : (codes "number" ≡ name) ⊎ (is_option ((codes "functions", false) ∷ ((codes "form", false) ∷ [])) name ≡ true) → IsPlain value
    first (inl same) = plain_number_set 0 18446744073709551615 number (value_of (codes "number") os) value (omega arith) s.0 (ap (λ n. value_of n os) same ∙ is)
    first (inr rest) = second (option_cases (codes "functions", false) ((codes "form", false) ∷ []) name rest)
plain_settings c os s name value option is = absurd cc

one_walk : (os : List Setting) (order order' : List ℕ) (draws draws' : Drawing) (steps steps' : ℕ) → GivesWalk os order draws steps → GivesWalk os order' draws' steps' → (order ≡ order') × (draws ≡ draws') × (steps ≡ steps')
one_walk os order order' draws draws' steps steps' s t = (
  one_list 15 (value_of (codes "order") os) order order' (omega arith) s.0 t.0,
  one_draws os draws draws' s.1 t.1,
  one_number 1 16384 1000 steps steps' (value_of (codes "steps") os) (omega arith) s.2 t.2,
)

-- two commands of one name are of one kind
same_name : (c d : Command) → bytes_eq (name_of c) (name_of d) ≡ false → name_of c ≡ name_of d → ⊥
same_name c d differs same = apart (name_of c) (name_of d) differs same

one_command : (os : List Setting) (c d : Command) → name_of c ≡ name_of d → GivesValues os c → GivesValues os d → c ≡ d
one_command os Check Check same s t = refl
one_command os Opt Opt same s t = refl
one_command os Validate Validate same s t = refl
one_command os Replay Replay same s t = refl
one_command os Graph Graph same s t = refl
one_command os (Seq function) (Seq function') same s t =
    let functions : function ≡ function' = one_word function function' (value_of (codes "function") os) s t in
    cc
one_command os (Tidy order draws steps) (Tidy order' draws' steps') same s t =
    let walks = one_walk os order order' draws draws' steps steps' s t in
    λ i. Tidy (walks.0 i) (walks.1 i) (walks.2 i)
one_command os (Walk order draws steps) (Walk order' draws' steps') same s t =
    let walks = one_walk os order order' draws draws' steps steps' s t in
    λ i. Walk (walks.0 i) (walks.1 i) (walks.2 i)
one_command os (Run seed steps) (Run seed' steps') same s t =
    let seeds : seed ≡ seed' = one_number 0 18446744073709551615 0 seed seed' (value_of (codes "seed") os) (omega arith) s.0 t.0 in
    let all_steps : steps ≡ steps' = one_number 1 16384 1000 steps steps' (value_of (codes "steps") os) (omega arith) s.1 t.1 in
    cc
one_command os (Litmus seed seeds steps) (Litmus seed' seeds' steps') same s t =
    let firsts : seed ≡ seed' = one_number 0 9223372036854775807 0 seed seed' (value_of (codes "seed") os) (omega arith) s.0 t.0 in
    let counts : seeds ≡ seeds' = one_number 1 500 100 seeds seeds' (value_of (codes "seeds") os) (omega arith) s.1 t.1 in
    let all_steps : steps ≡ steps' = one_number 1 100 100 steps steps' (value_of (codes "steps") os) (omega arith) s.2 t.2 in
    cc
one_command os (Outcomes steps states) (Outcomes steps' states') same s t =
    let all_steps : steps ≡ steps' = one_number 1 100 100 steps steps' (value_of (codes "steps") os) (omega arith) s.0 t.0 in
    let all_states : states ≡ states' = one_number 1 1048576 65536 states states' (value_of (codes "states") os) (omega arith) s.1 t.1 in
    cc
one_command os (Refute steps states) (Refute steps' states') same s t =
    let all_steps : steps ≡ steps' = one_number 1 100 100 steps steps' (value_of (codes "steps") os) (omega arith) s.0 t.0 in
    let all_states : states ≡ states' = one_number 1 1048576 65536 states states' (value_of (codes "states") os) (omega arith) s.1 t.1 in
    cc
one_command os (Gen number functions form) (Gen number' functions' form') same s t =
    let numbers : number ≡ number' = one_number_set 0 18446744073709551615 number number' (value_of (codes "number") os) (omega arith) s.0 t.0 in
    let all_functions : functions ≡ functions' = one_number 1 256 4 functions functions' (value_of (codes "functions") os) (omega arith) s.1 t.1 in
    let forms : form ≡ form' = one_form form form' (value_of (codes "form") os) s.2 t.2 in
    cc
one_command os c d same s t = absurd (same_name c d refl same)

-- ---- the words

abbrev taken_of : (words : List WordText) (c : Command) → Means words c → Taken commands words
taken_of words c m = record {
  word = name_of c;
  rest = m.rest;
  options = options_of c;
  settings = m.settings;
  is = m.first;
  command = (listed c).found;
  spells = m.spells;
  allows = m.allows;
}

-- words that mean a command pass clap, which reads their settings
pub record Passes (words : List WordText) (c : Command) (settings : List Setting) : Type 0 where
  pub dashes : list_any (λ w. bytes_eq w (codes "--")) words ≡ false
  pub fault : fault_of (clap_program commands) words ≡ []
  pub rows : subcommand_of (clap_program commands) words ≡ Some (name_of c, map row_of settings)

pub passes : (words : List WordText) (c : Command) (m : Means words c) → Passes words c m.settings
passes words c m =
    let t = taken_of words c m in
    let plain = plain_settings c m.settings m.values in
    let taken = words_take (codes "seqopt") commands words t (listed c).named plain in
    let rest = options_no_dashes (codes "seqopt") commands words t (listed c).named plain in
    record {
      dashes = none_dashes words (subst NoDashes (sym m.first) ((listed c).no_dash, rest));
      fault = taken.0;
      rows = taken.1;
    }

-- the matches of clap
pub name_is : (m : ArgMatches) → subcommand_name_of m ≡ option_map (λ p. p.0) (subcommand_rows_of m)
name_is m =
    elim (out-ArgMatches m).subcommand as (λ s. option_map (λ b. (out-SubCommand (box_value b)).name.now) s ≡ option_map (λ p. p.0) (subcommand_rows s)) [ None ↦ refl | Some b ↦ refl ]

-- a command that its settings give is what the words mean
pub meant : (words : List WordText) (name : WordText) (rows : List Row) (r : Result Command WordsFault) → list_any (λ w. bytes_eq w (codes "--")) words ≡ false
    → fault_of (clap_program commands) words ≡ [] → subcommand_of (clap_program commands) words ≡ Some (name, rows)
    → ((os : List Setting) → rows ≡ map row_of os → ReadsCommand name os r) → IfOk r (λ c. Means words c)
meant words name rows (Err e) dashes fault is gives = tt
meant words name rows (Ok c) dashes fault is gives =
    let taken = words_taken (codes "seqopt") commands words (dashes_none words dashes) fault in
    let t = taken.0 in
    let same : Some (name, rows) ≡ Some (t.word, map row_of t.settings) = sym is ∙ taken.1 in
    let names : name ≡ t.word = ap (λ o. option_map_or (λ p. p.0) o []) same in
    let same_rows : rows ≡ map row_of t.settings = ap (λ o. option_map_or (λ p. p.1) o []) same in
    let given = gives t.settings same_rows in
    let found : Some (t.word, t.options) ≡ Some (name_of c, options_of c) =
    sym t.command ∙ ap (λ w. find (λ p. bytes_eq p.0 w) commands) (sym names ∙ sym given.0) ∙ (listed c).found in
    let options : t.options ≡ options_of c = ap (λ o. option_map_or (λ p. p.1) o []) found in
    record {
      rest = t.rest;
      settings = t.settings;
      first = t.is ∙ ap (λ w. w ∷ t.rest) (sym names ∙ sym given.0);
      spells = t.spells;
      allows = subst (λ os. AllowsSettings os t.settings) options t.allows;
      values = given.1;
    }

-- and nothing else is
pub only : (words : List WordText) (c : Command) (m : Means words c) (name : WordText) (rows : List Row) (r : Result Command WordsFault) → subcommand_of (clap_program commands) words ≡ Some (name, rows)
    → ((os : List Setting) → rows ≡ map row_of os → ReadsCommand name os r) → MatchResult r (λ d. d ≡ c) (λ e. e ≡ NoMemory)
only words c m name rows r is gives = go r (gives m.settings same_rows)
  where
    same : ◌≡◌ {A = Option (WordText × List Row)} (Some (name, rows)) (Some (name_of c, map row_of m.settings))
    same = sym is ∙ (passes words c m).rows

    same_rows : rows ≡ map row_of m.settings
    same_rows = ap (λ o. option_map_or (λ p. p.1) o []) same

    names : name ≡ name_of c
    names = ap (λ o. option_map_or (λ p. p.0) o []) same

    go : (r : Result Command WordsFault) → ReadsCommand name m.settings r → MatchResult r (λ d. d ≡ c) (λ e. e ≡ NoMemory)
    go (Ok d) given = one_command m.settings d c (given.0 ∙ names) given.1 m.values
    go (Err NoMemory) given = refl
    go (Err Refused) given = absurd (given refl c (sym names) m.values)

pub matched : (m : ArgMatches) (name : WordText) (rows : List Row) → Some name ≡ subcommand_name_of m → Some rows ≡ option_map (λ p. p.1) (subcommand_rows_of m) → subcommand_rows_of m ≡ Some (name, rows)
matched m name rows n r = go (subcommand_rows_of m) (n ∙ name_is m) r
  where
    go : (s : Option (WordText × List Row)) → Some name ≡ option_map (λ p. p.0) s → Some rows ≡ option_map (λ p. p.1) s → s ≡ Some (name, rows)
    go None a b = absurd cc
    go (Some p) a b =
        let names : name ≡ p.0 = cc in
        let same : rows ≡ p.1 = cc in
        λ i. Some (sym names i, sym same i)

pub only_memory : (e : WordsFault) → (e ≡ Refused → ⊥) → e ≡ NoMemory
only_memory NoMemory h = refl
only_memory Refused h = absurd (h refl)

-- a setting is that of its row
same_row : (o p : Setting) → row_of o ≡ row_of p → o ≡ p
same_row o p e = λ i. record { name = ap (λ (r : Row). r.id) e i; value = ap (λ (r : Row). get_or r.values 0 []) e i }

-- the settings are those of the rows
same_rows : (os ps : List Setting) → map row_of os ≡ map row_of ps → os ≡ ps
same_rows [] [] e = refl
same_rows [] (p ∷ ps) e = absurd cc
same_rows (o ∷ os) [] e = absurd cc
same_rows (o ∷ os) (p ∷ ps) e =
    let head : row_of o ≡ row_of p = cc in
    let tail : map row_of os ≡ map row_of ps = cc in
    ap₂ (λ x xs. x ∷ xs) (same_row o p head) (same_rows os ps tail)

-- words mean one command
pub one_meaning : (words : List WordText) (c d : Command) → Means words c → Means words d → c ≡ d
one_meaning words c d m n = one_command m.settings c d names m.values (subst (λ os. GivesValues os d) (sym same_settings) n.values)
  where
    same : ◌≡◌ {A = Option (WordText × List Row)} (Some (name_of c, map row_of m.settings)) (Some (name_of d, map row_of n.settings))
    same = sym (passes words c m).rows ∙ (passes words d n).rows

    names : name_of c ≡ name_of d
    names = ap (λ o. option_map_or (λ p. p.0) o []) same

    same_settings : m.settings ≡ n.settings
    same_settings = same_rows m.settings n.settings (ap (λ o. option_map_or (λ p. p.1) o []) same)
