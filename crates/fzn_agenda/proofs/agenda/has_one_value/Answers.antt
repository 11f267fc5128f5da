-- the one value is the least and the greatest
use Rattle.std.proofs.Common.{◌≡◌, arith}
use Rattle.fzn_domain.proofs.SetLemmas.{only_member}
use Rattle.fzn_agenda.proofs.agenda.has_one_value.Goals as goal

pub returns-then-not-is_empty : goal.returns-then-not-is_empty
returns-then-not-is_empty c differ one =
    let same : c.min.result ≡ c.max.result = only_member c.args.set.now c.min.result c.max.result one c.min.ensures.member c.max.ensures.member in
    grind (arith, same, differ)
