-- The commands of the program, as clap sees them.
use Rattle.std.specs.Prelude.{◌≡◌, ℕ, true, false, codes, Some}
use Rattle.clap.specs.Words.{App, Rule, Text, app_of, new_app, new_rule, with_rule, with_subcommand}
use Rattle.clap.specs.declared.builder.command.Command.TheViews.{out-Command}
use Rattle.clap.specs.declared.builder.command.Command.{Command}
use Rattle.clap.specs.declared.builder.ArgAction.TheVariants.{Set, Append, SetTrue}
use Rattle.clap.specs.declared.builder.value_parser.ValueParser.TheVariants as parser
use Rattle.book.specs.Book.{latest}

-- the most connections that one call of the program serves
abbrev pub most_connections : ℕ
most_connections = 1000000

-- one word that has to be there
abbrev pub word_rule : Text → Rule
word_rule name = record (new_rule name) { required = true; action = Some Set }

-- one word, which may be left out
abbrev pub optional_word_rule : Text → Rule
optional_word_rule name = record (new_rule name) { action = Some Set }

-- any number of words, which may be left out
abbrev pub many_rule : Text → Rule
many_rule name = record (new_rule name) {
  action = Some Append;
  range = Some (record { start_inclusive = 1; end_inclusive = 18446744073709551615 });
}

-- one or more words
abbrev pub path_rule : Rule
path_rule = record (many_rule (codes "PATH")) { required = true }

-- --db FILE
abbrev pub db_rule : Rule
db_rule = record (word_rule (codes "db")) { long = Some (codes "db"); value_names = 1 }

-- --from FILE
abbrev pub from_rule : Rule
from_rule = record (word_rule (codes "from")) { long = Some (codes "from"); value_names = 1 }

-- --at N
abbrev pub at_rule : Rule
at_rule = record (word_rule (codes "at")) { long = Some (codes "at"); value_names = 1; parser = Some (parser.Unsigned 0 latest) }

-- --at N, which may be left out
abbrev pub optional_at_rule : Rule
optional_at_rule = record at_rule { required = false }

-- --NAME with a value after it, which may be left out
abbrev pub option_rule : Text → Rule
option_rule name = record (new_rule name) { long = Some name; value_names = 1; action = Some Set }

-- --NAME, which has no value
abbrev pub flag_rule : Text → Rule
flag_rule name = record (new_rule name) { long = Some name; action = Some SetTrue }

-- COUNT
abbrev pub count_rule : Rule
count_rule = record (word_rule (codes "COUNT")) { parser = Some (parser.Unsigned 1 most_connections) }

abbrev pub try_app : App
try_app = with_rule (new_app (codes "try")) path_rule

abbrev pub compare_app : App
compare_app = with_rule (with_rule (new_app (codes "compare")) (word_rule (codes "A"))) (word_rule (codes "B"))

-- a command on the archive of a database, and one that is also given a moment
abbrev pub db_app : Text → App
db_app name = with_rule (new_app name) db_rule

abbrev pub timed_app : Text → App
timed_app name = with_rule (db_app name) at_rule

abbrev pub init_app : App
init_app = with_rule (timed_app (codes "init")) (word_rule (codes "CONF"))

abbrev pub put_app : App
put_app = with_rule (timed_app (codes "put")) path_rule

abbrev pub copy_app : App
copy_app =
    with_rule (with_rule (with_rule (timed_app (codes "copy")) (word_rule (codes "FROM"))) (word_rule (codes "TO")))
    (word_rule (codes "SOURCE"))

abbrev pub promote_app : App
promote_app =
    with_rule (with_rule (with_rule (timed_app (codes "promote")) (word_rule (codes "FROM"))) (word_rule (codes "TO")))
    (many_rule (codes "SOURCE"))

abbrev pub remove_app : App
remove_app = with_rule (with_rule (timed_app (codes "remove")) (word_rule (codes "SUITE"))) (word_rule (codes "PACKAGE"))

abbrev pub run_app : App
run_app = with_rule (timed_app (codes "run")) (flag_rule (codes "strict"))

abbrev pub batch_app : App
batch_app = with_rule (with_rule (timed_app (codes "batch")) (flag_rule (codes "strict"))) (word_rule (codes "LIST"))

abbrev pub configure_app : App
configure_app = with_rule (timed_app (codes "configure")) (word_rule (codes "CONF"))

abbrev pub migrate_app : App
migrate_app = with_rule (with_rule (with_rule (with_rule (new_app (codes "migrate")) from_rule) db_rule) at_rule) (word_rule (codes "CONF"))

abbrev pub check_app : App
check_app = with_rule (new_app (codes "check")) (word_rule (codes "CONF"))

abbrev pub show_app : App
show_app = with_rule (db_app (codes "show")) (word_rule (codes "PATH"))

abbrev pub list_app : App
list_app = with_rule (with_rule (db_app (codes "list")) (flag_rule (codes "json"))) (optional_word_rule (codes "SUITE"))

abbrev pub waiting_app : App
waiting_app = with_rule (timed_app (codes "waiting")) (flag_rule (codes "json"))

abbrev pub verdicts_app : App
verdicts_app = with_rule (db_app (codes "verdicts")) (flag_rule (codes "json"))

abbrev pub why_app : App
why_app =
    with_rule (with_rule (with_rule (db_app (codes "why")) optional_at_rule) (flag_rule (codes "json")))
    (optional_word_rule (codes "NAME"))

-- the options of `export` up to `--by-hash`
abbrev pub export_options : App
export_options =
    with_rule (with_rule (with_rule (with_rule (db_app (codes "export")) optional_at_rule) (flag_rule (codes "signed"))) (flag_rule (codes "unsigned")))
    (flag_rule (codes "by-hash"))

-- the options of `export` alone
abbrev pub export_keyed : App
export_keyed = with_rule export_options (option_rule (codes "key"))

abbrev pub export_app : App
export_app = with_rule export_keyed (word_rule (codes "DIR"))

-- the options of `serve` up to `--signed`
abbrev pub serve_options : App
serve_options =
    with_rule (with_rule (with_rule (with_rule (timed_app (codes "serve")) (option_rule (codes "moments"))) (flag_rule (codes "log"))) (option_rule (codes "export")))
    (flag_rule (codes "signed"))

-- the options of `serve` up to `--unsigned`
abbrev pub serve_unsigned : App
serve_unsigned = with_rule serve_options (flag_rule (codes "unsigned"))

-- the options of `serve` up to `--by-hash`
abbrev pub serve_by_hash : App
serve_by_hash = with_rule serve_unsigned (flag_rule (codes "by-hash"))

-- the options of `serve` up to `--key`
abbrev pub serve_keyed : App
serve_keyed = with_rule serve_by_hash (option_rule (codes "key"))

-- the options of `serve` up to `--refuse-origin`
abbrev pub serve_refusing : App
serve_refusing = with_rule serve_keyed (flag_rule (codes "refuse-origin"))

abbrev pub serve_app : App
serve_app = with_rule (with_rule serve_refusing (word_rule (codes "ADDRESS"))) count_rule

-- `archive` with its version. Its own name is not among the words that it reads. One command is required; without any word, help is printed.
abbrev pub new_archive : App
new_archive = record (new_app (codes "archive")) {
  top = record (new_app (codes "archive")).top {
    no_binary_name = true;
    has_version = true;
    subcommand_required = true;
    arg_required_else_help = true;
  };
}

-- with the commands that change an archive
abbrev pub with_changes : App → App
with_changes app =
    with_subcommand (with_subcommand (with_subcommand (with_subcommand (with_subcommand (with_subcommand (with_subcommand (with_subcommand (with_subcommand (with_subcommand app init_app.top)
    put_app.top)
    run_app.top)
    copy_app.top)
    promote_app.top)
    remove_app.top)
    (timed_app (codes "clean")).top)
    batch_app.top)
    configure_app.top)
    migrate_app.top

-- with the commands that ask an archive, and the one that serves it
abbrev pub with_questions : App → App
with_questions app =
    with_subcommand (with_subcommand (with_subcommand (with_subcommand (with_subcommand (with_subcommand (with_subcommand (with_subcommand (with_subcommand app show_app.top) list_app.top)
    waiting_app.top)
    verdicts_app.top)
    why_app.top)
    (db_app (codes "configuration")).top)
    (timed_app (codes "status")).top)
    export_app.top)
    serve_app.top

-- with the commands that need no archive
abbrev pub with_others : App → App
with_others app = with_subcommand (with_subcommand (with_subcommand app try_app.top) compare_app.top) check_app.top

abbrev pub archive_app : App
archive_app = with_questions (with_changes (with_others new_archive))

-- a command that a parse reads so, and that may be used
pub record IsCommand (app : App) (c : Command) : Type 0 where
  pub shape : app_of c ≡ app
  pub local : (out-Command c).has_globals ≡ false
