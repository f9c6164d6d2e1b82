-- The command line: its subcommands, each with its options.
use Rattle.std.specs.Prelude.{true, Some, [], ◌∷◌, codes}
use Rattle.clap.specs.Simple.{on_top}
use Rattle.clap.specs.Words.{App, Rule, new_app, new_rule, with_rule, with_subcommand}
use Rattle.clap.specs.declared.builder.value_parser.ValueParser.TheVariants.{Unsigned}

-- `--db PATH`, required.
abbrev pub db_option : Rule
db_option = record (new_rule (codes "db")) {
  long = Some (codes "db");
  value_names = 1;
  required = true;
}

-- `--db PATH`, optional.
abbrev pub optional_db_option : Rule
optional_db_option = record (new_rule (codes "db")) {
  long = Some (codes "db");
  value_names = 1;
}

-- `--settings PATH`, required.
abbrev pub settings_option : Rule
settings_option = record (new_rule (codes "settings")) {
  long = Some (codes "settings");
  value_names = 1;
  required = true;
}

-- `--settings PATH`, optional.
abbrev pub optional_settings_option : Rule
optional_settings_option = record (new_rule (codes "settings")) {
  long = Some (codes "settings");
  value_names = 1;
}

-- `--port N`, from 1 to 65535; 8080 if it is left out.
abbrev pub port_option : Rule
port_option = record (new_rule (codes "port")) {
  long = Some (codes "port");
  value_names = 1;
  parser = Some (Unsigned 1 65535);
  defaults = codes "8080" ∷ [];
}

-- `--count N`, from 1 to 1000000000; 1000000000 if it is left out.
abbrev pub count_option : Rule
count_option = record (new_rule (codes "count")) {
  long = Some (codes "count");
  value_names = 1;
  parser = Some (Unsigned 1 1000000000);
  defaults = codes "1000000000" ∷ [];
}

-- `--now N`, required, any unsigned number of 64 bits.
abbrev pub now_option : Rule
now_option = record (new_rule (codes "now")) {
  long = Some (codes "now");
  value_names = 1;
  parser = Some (Unsigned 0 18446744073709551615);
  required = true;
}

-- `--seed HEX`, required.
abbrev pub seed_option : Rule
seed_option = record (new_rule (codes "seed")) {
  long = Some (codes "seed");
  value_names = 1;
  required = true;
}

-- `BATCH`, required.
abbrev pub batch_argument : Rule
batch_argument = record (new_rule (codes "batch")) {
  value_names = 1;
  required = true;
}

-- `FROM`, required.
abbrev pub from_argument : Rule
from_argument = record (new_rule (codes "from")) {
  value_names = 1;
  required = true;
}

-- `TO`, required.
abbrev pub to_argument : Rule
to_argument = record (new_rule (codes "to")) {
  value_names = 1;
  required = true;
}

-- With the two files.
abbrev pub with_files : App → App
with_files app = with_rule (with_rule app db_option) settings_option

-- With the two files, each of which may be left out.
abbrev pub with_optional_files : App → App
with_optional_files app = with_rule (with_rule app optional_db_option) optional_settings_option

-- `serve --db PATH --settings PATH --port N --count N`
abbrev pub serve_subcommand : App
serve_subcommand = with_rule (with_rule (with_files (new_app (codes "serve"))) port_option) count_option

-- `answer --db PATH --settings PATH --now N --seed HEX`
abbrev pub answer_subcommand : App
answer_subcommand =
    with_rule (with_rule (with_optional_files (new_app (codes "answer"))) now_option) seed_option

-- `print BATCH --db PATH --settings PATH`
abbrev pub print_subcommand : App
print_subcommand = with_rule (with_files (new_app (codes "print"))) batch_argument

-- `takings FROM TO --db PATH --settings PATH`
abbrev pub takings_subcommand : App
takings_subcommand = with_rule (with_rule (with_files (new_app (codes "takings"))) from_argument) to_argument

-- `check --db PATH --settings PATH`
abbrev pub check_subcommand : App
check_subcommand = with_files (new_app (codes "check"))

-- The program without its subcommands, one of which is required; `--version` asks for its version.
abbrev pub bare_command_line : App
bare_command_line =
    on_top (λ s. record s { subcommand_required = true; has_version = true }) (new_app (codes "portal"))

-- With `serve` and `answer`.
abbrev pub with_serving_subcommands : App
with_serving_subcommands =
    with_subcommand (with_subcommand bare_command_line serve_subcommand.top) answer_subcommand.top

-- With `serve`, `answer`, `print` and `takings`.
abbrev pub with_printing_subcommands : App
with_printing_subcommands =
    with_subcommand (with_subcommand with_serving_subcommands print_subcommand.top) takings_subcommand.top

-- With all five subcommands.
abbrev pub command_line : App
command_line = with_subcommand with_printing_subcommands check_subcommand.top
