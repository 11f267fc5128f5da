use Rattle.fzn_names.specs.Annotations.{ranges_in, size_of}
use Rattle.fzn_names.specs.Capped.{capped}
use Rattle.fzn_names.proofs.SizeLemmas.{capped-done}
use Rattle.fzn_names.proofs.annotation.capped_size.Goals as goal

-- no factor is left
pub returns : goal.returns
returns c =
    capped-done c.loop-terms.size (capped (size_of (ranges_in c.args.terms.now))) c.loop-terms.terms.now c.in_default.len_below c.loop-terms.invariant.low c.loop-terms.invariant.built
