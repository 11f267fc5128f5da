-- What clap says of the words of a command line.
use Rattle.std.proofs.Common.{◌≡◌, true, List, refl, ap, ◌∙◌}
use Rattle.clap.specs.Words.{App, HasMatchesOf, Text, app_of, found_of, is_simple, matches_of, rows_of}
use Rattle.clap.specs.declared.builder.command.Command.{Command}
use Rattle.clap.specs.declared.parser.matches.ArgMatches.{ArgMatches}
use Rattle.clap.proofs.OnLiterals.{clap_on_literals}
use Rattle.fzn_options.specs.CommandLines.{check_line, solve_line}

pub solve-simple : is_simple solve_line ≡ true
unfolding clap_on_literals solve_line
solve-simple = refl

pub check-simple : is_simple check_line ≡ true
unfolding clap_on_literals check_line
check-simple = refl

-- the rows of the matches are those of clap's definition
pub rows-said : (line : App) (command : Command) (words : List Text) (matches : ArgMatches) → app_of command ≡ line → is_simple line ≡ true → HasMatchesOf (app_of command) words matches
    → rows_of (found_of matches) ≡ matches_of line words
rows-said line command words matches is simple has = (has (ap is_simple is ∙ simple)).0 ∙ ap (λ (l : App). matches_of l words) is
