use Rattle.fzn_sets.proofs.SetsLemmas.{back_in_present, IsSets-back, undone_is}
use Rattle.fzn_sets.proofs.sets.Sets.undo.Goals as goal

pub put-requires : goal.put-requires
put-requires c =
    back_in_present c.self.inside.declared.items c.self.inside.present.items c.pop.new.self.items c.in-Some.narrowing c.self.inside.narrowings.items c.in-Some.ensures.items c.self.invariant

pub invariant_of-self : goal.invariant_of-self
invariant_of-self c =
    IsSets-back c.self.inside.declared.items c.self.inside.present.items c.pop.new.self.items c.in-Some.narrowing c.self.inside.narrowings.items c.in-Some.ensures.items c.self.invariant c.put.new.domains.items c.put.ensures

pub returns-in-Some : goal.returns-in-Some
returns-in-Some c =
    undone_is c.self.inside.declared.items c.self.inside.present.items c.pop.new.self.items c.in-Some.narrowing c.self.inside.narrowings.items c.in-Some.ensures.items c.self.invariant c.put.new.domains.items c.put.ensures
    c.args.self.now c.self.view_is
