use Rattle.std.proofs.Common.{◌≡◌, ◌↔◌, ◌-◌, ◌≤◌, ℕ, List, true, length, subst, ◌∙◌, arith}
use Rattle.std.specs.Prelude.{Contains}
use Rattle.fzn_derive.specs.declared.derivation.Derivation.{Derivation}
use Rattle.fzn_head.proofs.CallerLemmas.{one_for_each}
use Rattle.fzn_core.specs.Core.{IsNeeded}
use Rattle.fzn_core.specs.Kept.{kept_steps}
use Rattle.fzn_core.proofs.CoreLemmas.{closed-core}
use Rattle.fzn_core.proofs.cited.core_numbers.Goals as goal

pub returns : goal.returns
returns c = λ own wf extends.
    let after = c.args.model.now in
    let held = c.args.held in
    let read = held.derivations.items in
    let cites = c.in_ok-cited.cited.items in
    let numbers = c.in_ok-numbers.numbers.items in
    let count = c.len.result - c.len-2.result in
    let closed : held.closed ≡ true = grind (arith, c.if-not-held.false) in
    let count_is : count ≡ length own.constraints = omega (arith, c.len.ensures, c.len-2.ensures, held.derivations.ok.0, one_for_each own after read extends) in
    let read_is : c.as_slice.result.now ≡ read = c.as_slice.ensures.value ∙ c.in_ok-kept.ensures.derivations in
    let needed : (n : ℕ) → Contains numbers n ↔ ((1 ≤ n) × (n ≤ count) × IsNeeded count read cites n) =
    subst (λ (ns : List ℕ). (n : ℕ) → Contains numbers n ↔ ((1 ≤ n) × (n ≤ count) × IsNeeded count read ns n)) c.as_slice-2.ensures.value
    (subst (λ (ds : List Derivation). (n : ℕ) → Contains numbers n ↔ ((1 ≤ n) × (n ≤ count) × IsNeeded count ds c.as_slice-2.result.now n)) read_is c.in_ok-numbers.ensures.needed) in
    closed-core own after read held (kept_steps c.in_ok-kept.kept) count cites numbers wf c.requires.model extends count_is closed c.in_ok-kept.ensures.steps c.in_ok-cited.ensures.cited c.in_ok-cited.ensures.rising needed c.in_ok-numbers.ensures.rising
