use Rattle.std.proofs.Common.{ℕ, ◌<◌, refl, sym, subst, ◌∙◌, arith, ℤ}
use Rattle.std.proofs.lemmas.Bool.{MatchBool-at_true, MatchBool-at_false, true≢false}
use Rattle.fzn_values.specs.Term.{numbers_in}
use Rattle.fzn_terms.specs.Values.{place_at}
use Rattle.fzn_terms.specs.Denied.{that, IsDenied, IsClaimForced}
use Rattle.fzn_table.specs.Passes.{number_in_row}
use Rattle.fzn_table.proofs.PropagatorLemmas.{table_justified}
use Rattle.fzn_table.proofs.TableLemmas.{row_below, below_count, claim_explained, matches_out, matches_other, matches_passed, real_near}
use Rattle.fzn_table.proofs.table.explain_claim.Goals as goal
use Rattle.fzn_table.proofs.table.explain_claim.Goals.{then-row_stands+in_ok-refute_row+else-not-branch, else-row_stands}

pub returns-then-not-branch-clause-none : goal.returns-then-not-branch-clause-none
returns-then-not-branch-clause-none c =
    let pass = c.args.pass.now in
    let r = c.loop-r.r in (
      number_in_row pass r c.args.p,
      sym c.row_stands.ensures ∙ c.if-row_stands.true,
      (
        r,
        record {
          whole = row_below pass r (subst (λ (n : ℕ). r < n) c.count.ensures c.loop-r-test.true);
          has_value = refl;
          is_open = MatchBool-at_false _ _ c.if-not-branch.true c.in_ok-refute_row.ensures;
        },
      ),
    )

pub loop-r-preserved : goal.loop-r-preserved
loop-r-preserved c =
    let pass = c.args.pass.now in
    let declared = pass.trail.now.declared in
    let nums = numbers_in pass.rows.now in
    let bound = c.args.bound.now in
    let r = c.loop-r.r in
    let before = c.loop-r.invariant in
    let next = c.next_row-r in
    elim c.if-row_stands.branch [
      | then-row_stands+in_ok-refute_row+else-not-branch w ↦
          let out = MatchBool-at_true _ _ w.if-not-branch.false w.in_ok-refute_row.ensures in
          rw w.clause-is (record {
            still = out.still;
            in_rows = next.ensures.in_rows;
            out = matches_passed pass.places.now nums c.args.p c.args.op bound declared w.refute_row.new.clause r next.result (matches_out declared pass.places.now nums c.args.p c.args.op bound c.loop-r.clause w.refute_row.new.clause r before.out out.keeps out.says) next.ensures.between;
          })
      | else-row_stands w ↦
          rw w.clause-is (record {
            still = before.still;
            in_rows = next.ensures.in_rows;
            out = matches_passed pass.places.now nums c.args.p c.args.op bound declared c.loop-r.clause r next.result (matches_other declared pass.places.now nums c.args.p c.args.op bound c.loop-r.clause c.loop-r.clause r before.out (sym c.row_stands.ensures ∙ w.if-row_stands.false)) next.ensures.between;
          })
    ]

pub returns-clause-found : goal.returns-clause-found
returns-clause-found c =
    let pass = c.args.pass.now in
    let trail = pass.trail.now in
    let places = pass.places.now in
    let rows = numbers_in pass.rows.now in
    let bound = c.args.bound.now in
    let ended = c.loop-r-test.false in
    let forced = MatchBool-at_true _ _ c.if-not-branch-2.false c.in_ok-force.ensures in
    table_justified trail places rows c.force.new.clause
    (claim_explained trail places rows c.args.p c.args.op bound c.loop-r.clause c.force.new.clause c.loop-r.r c.requires.in_range (λ r whole. let below = below_count pass r whole in let count = c.count.ensures in omega (arith, below, ended, count)) c.loop-r.invariant.out
    (subst (λ (x : ℤ). IsClaimForced trail (that (place_at places c.args.p) c.args.op x) c.loop-r.clause c.force.new.clause) (real_near bound c.requires.near) forced))

pub returns-then-not-branch-2-clause-none : goal.returns-then-not-branch-2-clause-none
returns-then-not-branch-2-clause-none c =
    let pass = c.args.pass.now in
    let stands = c.requires.may_stand in
    let denied = MatchBool-at_false _ _ c.if-not-branch-2.true c.in_ok-force.ensures in
    let none = subst (λ (x : ℤ). IsDenied pass.trail.now.sets (that (place_at pass.places.now c.args.p) c.args.op x)) (real_near c.args.bound.now c.requires.near) denied in
    absurd (true≢false (sym stands.2 ∙ none stands.0 stands.1))
