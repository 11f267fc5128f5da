-- What goes on an annotation, or begins one more.
use Rattle.fzn_parser.specs.GoesOn.{goes_further}
use Rattle.fzn_parser.proofs.AnnLaws.{anns_many, anns_end}
use Rattle.fzn_parser.proofs.Onward.{weaker_reads}
use Rattle.fzn_parser.proofs.annotations.anns.Goals as goal

pub many-requires : goal.many-requires
many-requires c = record { many = anns_many }

pub returns-clause-reads : goal.returns-clause-reads
returns-clause-reads c = weaker_reads goes_further anns_end c.many.ensures.reads
