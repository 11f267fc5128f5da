-- A value within the limit, or past it.
use Rattle.fzn_parser.specs.GoesOn.{goes_further}
use Rattle.fzn_parser.proofs.FormLaws.{within_limit, over_limit}
use Rattle.fzn_parser.proofs.ValueLaws.{basic_told}
use Rattle.fzn_parser.proofs.Onward.{gives_refused}
use Rattle.std.proofs.lemmas.Bool.{lt-ltb, le-ltb}
use Rattle.fzn_parser.proofs.values.BasicPart.read.Goals as goal

pub returns-then-number-lt-LONGEST-clause-reads : goal.returns-then-number-lt-LONGEST-clause-reads
returns-then-number-lt-LONGEST-clause-reads c = within_limit _ (lt-ltb _ _ c.if-number-lt-LONGEST.true) c.basic.ensures.reads

pub returns-else-number-lt-LONGEST-clause-reads : goal.returns-else-number-lt-LONGEST-clause-reads
returns-else-number-lt-LONGEST-clause-reads c = gives_refused _ c.refuse_more.ensures (over_limit basic_told goes_further _ _ (le-ltb _ _ c.if-number-lt-LONGEST.false))
