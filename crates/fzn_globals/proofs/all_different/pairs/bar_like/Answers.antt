use Rattle.fzn_domain.proofs.DomainLemmas.{real}
use Rattle.fzn_globals.proofs.ApartLemmas.{apart_more}
use Rattle.fzn_globals.proofs.all_different.pairs.bar_like.Goals as goal
use Rattle.fzn_globals.proofs.all_different.pairs.bar_like.Goals.{then-j-i+in_ok-bar_pair, else-j-i}

pub loop-j-preserved : goal.loop-j-preserved
loop-j-preserved c =
    let invariant = c.loop-j.invariant in
    let value = c.least_of-value.result in
    elim c.if-j-i.branch [
      | then-j-i+in_ok-bar_pair w ↦
          let pair = w.in_ok-bar_pair.ensures in
          rw w.found-is (record {
            found = pair.found;
            kept = λ nothing. invariant.kept (pair.kept nothing);
            apart = λ nothing. apart_more c.args.pass.now.trail.now.sets c.args.pass.now.places.now c.args.i c.loop-j.j value c.requires.place c.least_of-value.ensures.member (invariant.apart (pair.kept nothing)) (λ other. rw (real _ c.least_of-value.ensures.in_limits) at (pair.none nothing));
          })
      | else-j-i w ↦ rw w.found-is (record {
        found = invariant.found;
        kept = invariant.kept;
        apart = λ nothing. apart_more c.args.pass.now.trail.now.sets c.args.pass.now.places.now c.args.i c.loop-j.j value c.requires.place c.least_of-value.ensures.member (invariant.apart nothing) (λ other. absurd (other w.if-j-i.false));
      })
    ]
