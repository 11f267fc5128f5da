use Rattle.std.proofs.Common.{refl}
use Rattle.fzn_cert_reader.specs.Script.{steps_spelled}
use Rattle.fzn_cert_reader.proofs.script.Script.new.Goals as goal

pub invariant_of-result : goal.invariant_of-result
unfolding steps_spelled
invariant_of-result c = rw (c.new.ensures.items, c.new-2.ensures.items) (record { spelled = tt; lines = refl; places = refl })

pub returns : goal.returns
unfolding steps_spelled
returns c = rw c.new-2.ensures.items
