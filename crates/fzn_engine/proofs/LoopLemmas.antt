-- Going on, one part of an iteration after the other.
use Rattle.std.proofs.Common.{◌≡◌, ◌<◌, ◌≤◌, List, sym, ap, ◌∙◌, subst, arith, Bool, true, false}
use Rattle.fzn_meaning.specs.declared.model.Model.{Model}
use Rattle.fzn_cert.specs.declared.step.Step.{Step}
use Rattle.fzn_engine.specs.declared.limits.Limits.{Limits}
use Rattle.fzn_state.specs.declared.solver.Solver.{Solver}
use Rattle.fzn_engine.specs.Outcome.{HasRoomForMore}
use Rattle.fzn_state.specs.Changes.{IsStateKept}
use Rattle.fzn_engine.specs.Loop.{IsOngoing, Goes, IsWithinLimits}
use Rattle.fzn_state.specs.Search.{Tally, tally_of, work, work_of}
use Rattle.fzn_trail.specs.Levels.{Levels}
use Rattle.fzn_state.proofs.SolverLemmas.{closed-from}

-- neither limit is passed where the tally is the same
pub within-tally : (model : Model) (limits : Limits) (old new : Solver) → tally_of new ≡ tally_of old → IsWithinLimits model limits old → IsWithinLimits model limits new
within-tally model limits old new same within =
    let P : Tally → Type 0 = λ t. (t.nodes ≤ limits.nodes) × HasRoomForMore model.goal limits.solutions t.found in
    subst P (sym same) within

-- what keeps the state keeps that the search goes on
pub kept-ongoing : {model : Model} {limits : Limits} {old mid new : Solver} {before now : List Step} → IsOngoing model limits old mid before → IsStateKept model now mid new → IsOngoing model limits old new now
kept-ongoing {model = model} {limits = limits} {mid = mid} {new = new} o k =
    let less = k.less limits.nodes in
    record {
      state = k.state;
      less = omega (arith, o.less);
      within = within-tally model limits mid new k.tally o.within;
      learn = ap (λ (tally : Tally). tally.learn) k.tally ∙ o.learn;
    }

-- a change before it that leaves the trail and the tally as they are
pub goes-from : (model : Model) (old mid new : Solver) (steps : List Step) (goes_on : Bool) → mid.trail ≡ old.trail → tally_of mid ≡ tally_of old → Goes model mid new steps goes_on → Goes model old new steps goes_on
goes-from model old mid new steps true trail tally go = λ limit.
    let b = go limit in
    let T : Levels → Type 0 = λ t. work_of limit new < work limit mid.search.nodes t in
    let N : Tally → Type 0 = λ t. work_of limit new < work limit t.nodes old.trail in
    record { state = b.state; less = subst N tally (subst T trail b.less); tally = b.tally ∙ tally }
goes-from model old mid new steps false trail tally go = closed-from tally go
