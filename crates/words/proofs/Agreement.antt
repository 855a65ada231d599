-- clap takes exactly the words that are a command and then spell settings that its options allow.
use Rattle.std.proofs.Common.{◌≡◌, ◌∙◌, inl, inr, Bool, true, false, not, refl, sym, ap, subst, List, [], ◌∷◌, map, Option, Some, None}
use Rattle.std.specs.Prelude.{find}
use Rattle.std.specs.List.{list_all}
use Rattle.std.specs.Str.{bytes_eq}
use Rattle.clap.specs.Walk.{Row, rows_after, stop_after}
use Rattle.clap.specs.Simple.{entered, label_of}
use Rattle.clap.specs.Kinds.{Kinds, or_else}
use Rattle.clap.specs.declared.error.kind.ErrorKind.TheVariants as kind
use Rattle.std.specs.Option.{option_map_or}
use Rattle.words.specs.Spelling.{Setting, SpellsSettings, WordText}
use Rattle.words.specs.Options.{Options, AllowsSettings, are_new}
use Rattle.words.specs.Program.{row_of}
use Rattle.words.proofs.Steps.{leaf}
use Rattle.words.proofs.Reading.{IsNoDash, NoDashes, Reads, reads, refuses, reading, given, from_word}
use Rattle.words.proofs.Spelled.{spelled, spelled_no_dashes}
use Rattle.words.proofs.Level.{Level, taken, missing, refused, level, fault_at, is_missing}
use Rattle.words.proofs.Allowed.{given_after, missing_is, all_known, all_given}
use Rattle.words.proofs.Values.{PlainValues, plain_after, is_named, are_named}
use Rattle.words.proofs.App.{Commands, program, program_fault, leaf_of, FindsCommand, find_command, no_words, no_command, command_fault, enters}

-- what the words are
pub record Taken (commands : Commands) (words : List WordText) : Type 0 where
  pub word : WordText
  pub rest : List WordText
  pub options : Options
  pub settings : List Setting
  pub is : words ≡ word ∷ rest
  pub command : find (λ c. bytes_eq c.0 word) commands ≡ Some (word, options)
  pub spells : SpellsSettings settings rest
  pub allows : AllowsSettings options settings

-- what clap has read of words that spell settings
module _ (command : WordText) (options : Options) (settings : List Setting) (words : List WordText) where
  given_rows : from_word command options [] None words ≡ given settings [] → are_new [] settings ≡ true → from_word command options [] None words ≡ Some (map row_of settings)
  given_rows read new = read ∙ given_after [] settings ∙ rw new

  given_new : (rows : List Row) → from_word command options [] None words ≡ given settings [] → from_word command options [] None words ≡ Some rows → (are_new [] settings ≡ true) × (rows ≡ map row_of settings)
  given_new rows read is = go (are_new [] settings) refl
    where
      go : (t : Bool) → are_new [] settings ≡ t → (are_new [] settings ≡ true) × (rows ≡ map row_of settings)
      go true e = let same : Some rows ≡ Some (map row_of settings) = sym is ∙ given_rows read e in (e, cc)
      go false e = let same : Some rows ≡ None = sym is ∙ read ∙ given_after [] settings ∙ rw e in absurd cc

  level_taken : Level command options words → (fault_at command options words ≡ [])
      → (rows : List Row) × (from_word command options [] None words ≡ Some rows) × (is_missing options rows ≡ false) × (rows_after (leaf command options).rules [] words ≡ rows)
  level_taken (taken rows read none _ after) e = (rows, read, none, after)
  level_taken (missing rows read some not) e = absurd (not e)
  level_taken (refused read not) e = absurd (not e)

  level_takes : Level command options words → (rows : List Row) → from_word command options [] None words ≡ Some rows → is_missing options rows ≡ false
      → (fault_at command options words ≡ []) × (rows_after (leaf command options).rules [] words ≡ rows)
  level_takes (taken rows read none fault after) other is allows = let same : Some rows ≡ Some other = sym read ∙ is in (fault, cc)
  level_takes (missing rows read some not) other is allows =
      let same : Some rows ≡ Some other = sym read ∙ is in
      let rows_same : rows ≡ other = cc in
      let bad : true ≡ false = sym some ∙ ap (is_missing options) rows_same ∙ allows in absurd cc
  level_takes (refused read not) other is allows = let bad : None ≡ Some other = sym read ∙ is in absurd cc

module _ (name : WordText) (commands : Commands) where
  abbrev pub rows_of_words : List WordText → Option (WordText × List Row)
  rows_of_words words = entered (program name commands) (stop_after [] (map label_of (map leaf_of commands)) words)

  no_fault : (k : Kinds) → or_else k [] ≡ [] → k ≡ []
  no_fault [] e = refl
  no_fault (k ∷ ks) e = e

  reads_taken : (word : WordText) (words : List WordText) (options : Options) (rows : List Row) → find (λ c. bytes_eq c.0 word) commands ≡ Some (word, options) → from_word word options [] None words ≡ Some rows
      → is_missing options rows ≡ false → rows_of_words (word ∷ words) ≡ Some (word, rows) → Reads word options words → (t : Taken commands (word ∷ words)) × (rows_of_words (word ∷ words) ≡ Some (t.word, map row_of t.settings))
  reads_taken word words options rows command is allowed after (refuses never) = let bad : Some rows ≡ None = sym is ∙ never [] None tt in absurd cc
  reads_taken word words options rows command is allowed after (reads settings spells known read) =
      let parts = given_new word options settings words rows (read [] None tt) is in (
        record {
          word = word;
          rest = words;
          options = options;
          settings = settings;
          is = refl;
          command = command;
          spells = spells;
          allows = record {
            known = all_known word options settings known;
            once = parts.0;
            required = sym (missing_is options settings) ∙ ap (is_missing options) (sym parts.1) ∙ allowed;
          };
        },
        after ∙ ap (λ r. Some (word, r)) parts.1,
      )

  command_taken : (word : WordText) (words : List WordText) → NoDashes words → IsNoDash word → program_fault name commands (word ∷ words) ≡ [] → FindsCommand word commands
      → (t : Taken commands (word ∷ words)) × (rows_of_words (word ∷ words) ≡ Some (t.word, map row_of t.settings))
  command_taken word words h first e (inl none) = absurd (no_command name commands word words first none.1 e)
  command_taken word words h first e (inr some) =
      let fault = no_fault (fault_at word some.0 words) (sym (command_fault name commands word some.0 some.2 some.3 words) ∙ e) in
      let read = level_taken word some.0 [] words (level word some.0 words) fault in
      reads_taken word words some.0 read.0 some.1 read.1 read.2 (enters name commands word some.0 some.2 some.3 words ∙ ap (λ r. Some (word, r)) read.3) (reading word some.0 words h)

  pub words_taken : (words : List WordText) → NoDashes words → program_fault name commands words ≡ [] → (t : Taken commands words) × (rows_of_words words ≡ Some (t.word, map row_of t.settings))
  words_taken [] h e = absurd (let bad : kind.MissingSubcommand ∷ [] ≡ [] = sym (no_words name commands) ∙ e in cc)
  words_taken (word ∷ words) h e = command_taken word words h.1 h.0 e (find_command word commands)

  command_takes : (word : WordText) (words : List WordText) (options : Options) (settings : List Setting) → find (λ c. bytes_eq c.0 word) commands ≡ Some (word, options) → SpellsSettings settings words → AllowsSettings options settings
      → list_all is_named options ≡ true → PlainValues options settings → FindsCommand word commands
      → (program_fault name commands (word ∷ words) ≡ []) × (rows_of_words (word ∷ words) ≡ Some (word, map row_of settings))
  command_takes word words options settings command spells allows named plain (inl none) =
      let bad : ◌≡◌ {A = Option (WordText × Options)} (Some (word, options)) None = sym command ∙ none.0 in absurd cc
  command_takes word words options settings command spells allows named plain (inr some) =
      let found : Some (word, some.0) ≡ Some (word, options) = sym some.1 ∙ command in
      let same : some.0 ≡ options = ap (λ o. option_map_or (λ p. p.1) o []) found in
      let by_shape = some.3 ∙ ap (λ o. Some (leaf word o)) same in
      let all_plain = plain_after word options [] settings allows.once allows.known plain in
      let read = spelled word options settings words (are_named word options named) spells (all_given word options settings allows.known) all_plain [] None tt in
      let rows = given_rows word options settings words read allows.once in
      let passes = level_takes word options [] words (level word options words) (map row_of settings) rows (missing_is options settings ∙ allows.required) in (
        command_fault name commands word options some.2 by_shape words ∙ ap (λ k. or_else k []) passes.0,
        enters name commands word options some.2 by_shape words ∙ ap (λ r. Some (word, r)) passes.1,
      )

  pub words_take : (words : List WordText) (t : Taken commands words) → list_all is_named t.options ≡ true → PlainValues t.options t.settings
      → (program_fault name commands words ≡ []) × (rows_of_words words ≡ Some (t.word, map row_of t.settings))
  words_take words t named plain =
      subst (λ ws. (program_fault name commands ws ≡ []) × (rows_of_words ws ≡ Some (t.word, map row_of t.settings))) (sym t.is)
      (command_takes t.word t.rest t.options t.settings t.command t.spells t.allows named plain (find_command t.word commands))

  pub options_no_dashes : (words : List WordText) (t : Taken commands words) → list_all is_named t.options ≡ true → PlainValues t.options t.settings → NoDashes t.rest
  options_no_dashes words t named plain =
      spelled_no_dashes t.word t.options t.settings t.rest (are_named t.word t.options named) t.spells (all_given t.word t.options t.settings t.allows.known)
      (plain_after t.word t.options [] t.settings t.allows.once t.allows.known plain)
