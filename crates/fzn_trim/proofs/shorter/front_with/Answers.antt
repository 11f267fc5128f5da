use Rattle.std.specs.Prelude.{option_map, string_bytes}
use Rattle.fzn_trim.proofs.ShorterLemmas.{opened-formed}
use Rattle.fzn_trim.proofs.shorter.front_with.Goals as goal

pub returns-in-Some-clause-formed : goal.returns-in-Some-clause-formed
returns-in-Some-clause-formed c =
    opened-formed c.args.model.now c.open_with.new.model (option_map string_bytes c.in_ok-opening.opening) c.requires c.in_ok-opening.ensures

pub returns-in_ok-lines-in-None-clause-formed : goal.returns-in_ok-lines-in-None-clause-formed
returns-in_ok-lines-in-None-clause-formed c =
    opened-formed c.args.model.now c.open_with.new.model (option_map string_bytes c.in_ok-opening.opening) c.requires c.in_ok-opening.ensures
