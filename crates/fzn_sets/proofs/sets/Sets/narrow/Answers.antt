use Rattle.std.proofs.Common.{◌≡◌, ◌-◌, length, subst, sym, ◌∙◌, arith}
use Rattle.std.proofs.lemmas.List.{get_or_default}
use Rattle.fzn_domain.specs.Narrow.{IsVariable}
use Rattle.fzn_sets.specs.Sets.{Narrowed}
use Rattle.fzn_sets.proofs.SetsLemmas.{IsSets-push, pushed_is}
use Rattle.fzn_sets.proofs.sets.Sets.narrow.Goals as goal
use Rattle.fzn_sets.proofs.sets.Sets.narrow.Goals.{In-Ok}

over : (c : In-Ok) → IsVariable (length c.self.inside.present.items) c.args.lit.var
over c = subst (λ (s : Narrowed). IsVariable (length s.present) c.args.lit.var) (sym c.self.view_is) c.requires

pub invariant_of-self-in-Ok : goal.invariant_of-self-in-Ok
invariant_of-self-in-Ok c =
    let var = over c in
    let same : c.index.result.now ≡ c.index_mut.result.now =
    c.index.ensures ∙ get_or_default c.self.inside.present.items (c.args.lit.var.0 - 1) c.index.result.now c.index_mut.result.now (omega arith) ∙ sym c.index_mut.ensures.value in
    IsSets-push c.self.inside.declared.items c.self.inside.present.items c.self.inside.narrowings.items c.self.invariant c.args.lit c.in_ok-before.before c.index_mut.result.now c.restrict.new.self
    var (c.in_ok-before.ensures ∙ same) c.index_mut.ensures.value c.in-Ok.ensures.ok c.push.new.self.items c.in_ok-push.ensures.items

pub returns-in-Ok-clause-ok : goal.returns-in-Ok-clause-ok
returns-in-Ok-clause-ok c =
    pushed_is c.self.inside.declared.items c.self.inside.present.items c.self.inside.narrowings.items c.self.invariant c.args.lit c.in_ok-before.before c.index_mut.result.now c.restrict.new.self
    (over c) c.index_mut.ensures.value c.in-Ok.ensures.ok c.push.new.self.items c.in_ok-push.ensures.items c.args.self.now c.self.view_is
