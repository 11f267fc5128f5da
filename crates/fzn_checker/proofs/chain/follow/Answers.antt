use Rattle.std.proofs.Common.{length, ap, sym, subst, ◌∙◌, All, IfSome}
use Rattle.fzn_sets.specs.Link.{IsLink}
use Rattle.fzn_sets.specs.declared.chain.Link.{Link}
use Rattle.fzn_sets.specs.declared.chain.Link.TheVariants.{Narrowed}
use Rattle.fzn_domain.specs.Narrow.{IsClauseOver, possible_in}
use Rattle.fzn_domain.proofs.NarrowLemmas.{length-narrowed}
use Rattle.fzn_checker.proofs.ChainLemmas.{held_over, chain-more}
use Rattle.fzn_checker.proofs.chain.follow.Goals as goal

pub follow-requires : goal.follow-requires
follow-requires c =
    let sets = c.loop-id.sets.present in
    record {
      over = subst (IsClauseOver (length sets)) (sym c.as_slice.ensures)
          (held_over (length sets) c.args.history.now _ c.in-Some.clause.now
          (subst (λ n. All (λ held. IfSome held (IsClauseOver n)) c.args.history.now.clauses) (sym c.loop-id.invariant.same_length) c.requires.over) c.in-Some.ensures);
    }

pub loop-id-preserved : goal.loop-id-preserved
loop-id-preserved c =
    let sets = c.loop-id.sets.present in
    let L : Link → Type 0 = λ it. IsLink sets c.as_slice.result.now c.follow.new.sets.present it in
    let link : L Narrowed = subst L c.in-Narrowed.is c.in_ok-follow.ensures.link in
    record {
      rest = chain-more c.args.history.now sets c.follow.new.sets.present c.args.ids.now c.loop-id.id-index c.in-Some.clause.now link.0 _ c.loop-id-test.true c.in-Some.ensures
          (ap (possible_in sets) (sym c.as_slice.ensures) ∙ link.1) link.2 c.loop-id.invariant.rest;
      same_length = ap length link.2 ∙ length-narrowed sets link.0 ∙ c.loop-id.invariant.same_length;
      declared = c.in_ok-follow.ensures.declared ∙ c.loop-id.invariant.declared;
    }
