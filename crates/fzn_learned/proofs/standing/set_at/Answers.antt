use Rattle.std.proofs.Common.{◌≢◌, ℕ, ◌-◌, ◌<◌, ◌≤◌, List, length, take, get_or, sym, ap, ◌∙◌, arith}
use Rattle.std.proofs.lemmas.List.{take_all}
use Rattle.fzn_domain.specs.IntSet.{IntSet, no_values}
use Rattle.fzn_domain.specs.Narrow.{set_of}
use Rattle.fzn_trail.specs.declared.trail.Entry.{Entry}
use Rattle.fzn_trail.specs.Replay.{replayed, variable_at}
use Rattle.fzn_learned.proofs.StandingLemmas.{set_of-until}
use Rattle.fzn_learned.proofs.standing.set_at.Goals as goal
use Rattle.fzn_learned.proofs.standing.set_at.Goals.{in_default-via-in-Some+else-place-count, in_default-via-in_default}

-- no entry on the variable lies between the count and the first one from it on
pub returns-in-Some : goal.returns-in-Some
returns-in-Some c =
    let trail = c.args.trail.now in
    let first = c.first_from.result in
    let there = c.in-Some.ensures.found.there in
    c.domain_before.ensures.value
    ∙ ap (λ (n : ℕ). get_or (replayed trail.declared (take first trail.entries)) (n - 1) no_values) (c.first_from.ensures.same ∙ there)
    ∙ set_of-until trail.declared trail.entries c.args.var c.args.count first c.requires.variable.0 c.requires.variables c.first_from.ensures.from (omega (arith, c.first_from.ensures.in_list))
    (λ k above below same. c.first_from.ensures.first k above below (same ∙ sym there))

-- no entry on the variable comes after the count
pub returns-in_default : goal.returns-in_default
returns-in_default c =
    let trail = c.args.trail.now in
    let none : (k : ℕ) → c.args.count ≤ k → k < length trail.entries → variable_at trail.entries k ≢ c.args.var.0 =
    elim c.in_default.branch [
      | in_default-via-in-Some+else-place-count w ↦ λ k above below. w.in-Some.ensures.found.last k (omega (arith, w.if-place-count.false)) below
      | in_default-via-in_default w ↦ λ k above below. w.in_default.ensures.none k below
    ] in
    c.domain.ensures.value
    ∙ ap (λ (s : List IntSet). set_of s c.args.var) c.last_of.ensures.replayed
    ∙ ap (λ (all : List Entry). set_of (replayed trail.declared all) c.args.var) (sym (take_all (length trail.entries) trail.entries (omega arith)))
    ∙ set_of-until trail.declared trail.entries c.args.var c.args.count (length trail.entries) c.requires.variable.0 c.requires.variables c.requires.fits (omega arith) none
