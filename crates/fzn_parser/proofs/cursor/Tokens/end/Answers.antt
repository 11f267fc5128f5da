-- The token is the end.
use Rattle.std.proofs.Common.{refl, ap, ◌∙◌}
use Rattle.fzn_lexer.specs.declared.token.Symbol.TheVariants.{End}
use Rattle.fzn_parser.specs.Reads.{next_is}
use Rattle.fzn_parser.specs.Taken.{is}
use Rattle.fzn_parser.proofs.cursor.Tokens.end.Goals as goal

pub returns-clause-ok : goal.returns-clause-ok
returns-clause-ok c =
    let t = c.in_ok-take_if.ensures.takes.ok _ refl in
    ap (next_is (is End)) t.parts ∙ t.wanted
