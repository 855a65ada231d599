-- What is handed to clap for these commands.
use Rattle.std.specs.Prelude.{Bool, true, false, List, [], ◌∷◌, codes, map, Some, None}
use Rattle.clap.specs.Values.{reading_of}
use Rattle.clap.specs.Walk.{Row, Rule, Text}
use Rattle.words.specs.Spelling.{Setting}
use Rattle.clap.specs.declared.builder.value_parser.ValueParser.TheVariants as vp
use Rattle.clap.specs.declared.parser.matches.ValueSource.TheVariants.{CommandLine}
use Rattle.clap.specs.Simple.{App, Shape, new_rule, new_shape}
use Rattle.clap.specs.declared.builder.action.ArgAction.TheVariants.{Set}

-- an option that takes one value
abbrev pub clap_rule : Text × Bool → Rule
clap_rule o = record (new_rule o.0) { long = Some o.0; action = Some Set; required = o.1 }

abbrev pub clap_shape : Text × List (Text × Bool) → Shape
clap_shape c = record (new_shape c.0) { rules = map clap_rule c.1 }

abbrev pub clap_command : Text × List (Text × Bool) → App
clap_command c = record { top = clap_shape c; subs = [] }

abbrev pub clap_program : List (Text × List (Text × Bool)) → App
clap_program commands = record {
  top = record (new_shape (codes "seqopt")) {
    is_leaf = false;
    no_binary_name = true;
    disable_help_flag = true;
    disable_help_subcommand = true;
    disable_version_flag = true;
    subcommand_required = true;
  };
  subs = map clap_shape commands;
}

-- what clap keeps of a setting
abbrev pub row_of : Setting → Row
row_of o = record {
  id = o.name;
  values = o.value ∷ [];
  count = None;
  source = Some CommandLine;
  reading = reading_of vp.String;
}
