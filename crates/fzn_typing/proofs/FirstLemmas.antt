-- The first of a list of faults, part by part.
use Rattle.fzn_names.proofs.FirstLemmas.{first-append_none, first-append_some, empty-first, first-at_none, first-at_some}

pub ruleset firsts = (first-append_none, first-append_some, empty-first, first-at_none, first-at_some)
