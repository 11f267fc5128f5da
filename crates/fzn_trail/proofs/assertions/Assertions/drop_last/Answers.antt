use Rattle.std.proofs.Common.{arith}
use Rattle.fzn_trail.proofs.AssertionLemmas.{back_in_last, AreAssertions-back}
use Rattle.fzn_trail.proofs.assertions.Assertions.drop_last.Goals as goal

pub index_mut-requires : goal.index_mut-requires
index_mut-requires c =
    omega (arith, back_in_last c.self.inside.sets c.self.inside.last.items c.pop.new.self.items c.in-Some.assertion c.self.inside.assertions.items c.in-Some.ensures.items c.self.invariant)

pub invariant_of-self : goal.invariant_of-self
invariant_of-self c =
    AreAssertions-back c.self.inside.sets c.self.inside.last.items c.pop.new.self.items c.in-Some.assertion c.self.inside.assertions.items c.in-Some.ensures.items c.self.invariant c.undo.new.self c.undo.ensures
