use Rattle.std.proofs.Common.{◌≡◌, ◌*◌, length, inr, arith, ap, subst, ◌∙◌, ℤ, pos, ◌-ℤ◌, ◌≤ℤ◌, w64, to_z, of_z}
use Rattle.std.proofs.lemmas.Int.{ints}
use Rattle.std.proofs.lemmas.Result.{IfOk-weaker}
use Rattle.fzn_domain.specs.declared.literal.Op.TheVariants.{AtMost}
use Rattle.fzn_terms.specs.declared.claim.Claim.{Claim}
use Rattle.fzn_terms.specs.Denied.{that, IsDenied, IsClaimForced}
use Rattle.fzn_terms.proofs.CaseLemmas.{either}
use Rattle.fzn_cumulative.proofs.PushLemmas.{capacity_inferred}
use Rattle.fzn_cumulative.specs.Passes.{tasks_of}
use Rattle.fzn_cumulative.proofs.push.push_capacity.Goals as goal

limit_is : (load : ℤ) → pos 0 ≤ℤ load → load ≤ℤ pos (100000 * 1000000000) → to_z w64 (of_z w64 (to_z w64 (of_z w64 load) -ℤ pos 1)) ≡ load -ℤ pos 1
limit_is load low high = omega (arith, ints)

pub returns : goal.returns
returns c =
    IfOk-weaker c.force.result _ _
    (λ found told.
    let limit = limit_is c.load_at-load.result c.load_at-load.ensures.not_negative c.load_at-load.ensures.bounded in
    either found
    (λ forced. capacity_inferred c.args.pass.now.trail.now (tasks_of c.args.pass.now) c.args.time.now c.load_at-load.result _ (length c.args.pass.now.starts.now) c.clear.new.self c.explain_uses.new.clause c.force.new.clause c.args.pass.now.ready (omega arith) c.in_ok-explain_uses.ensures
    (subst (λ (claim : Claim). IsClaimForced c.args.pass.now.trail.now claim c.explain_uses.new.clause c.force.new.clause) c.at_most.ensures forced) c.load_at-load.ensures.value limit)
    (λ none. inr (subst (λ (n : ℤ). IsDenied c.args.pass.now.trail.now.sets (that c.args.pass.now.capacity AtMost n)) (limit ∙ ap (λ (n : ℤ). n -ℤ pos 1) c.load_at-load.ensures.value)
    (subst (IsDenied c.args.pass.now.trail.now.sets) c.at_most.ensures none)))
    told)
    c.force.ensures
