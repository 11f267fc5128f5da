-- What the claims on the terms of a task say of sets.
use Rattle.std.proofs.Common.{◌≡◌, ◌≢◌, ℕ, zero, suc, ◌<◌, List, length, arith, subst, sym, ℤ, ◌≤ℤ◌}
use Rattle.std.specs.List.{All}
use Rattle.fzn_domain.specs.declared.literal.Lit.{Lit}
use Rattle.fzn_domain.specs.declared.literal.Op.TheVariants.{AtMost, AtLeast}
use Rattle.fzn_domain.specs.IntSet.{IntSet}
use Rattle.fzn_values.specs.declared.term.Term.{Term}
use Rattle.fzn_values.specs.Term.{IsTerm}
use Rattle.fzn_sets.specs.Terms.{least_value, greatest_value}
use Rattle.fzn_sets.proofs.ValueLemmas.{MayBe-ends, MayBe-between}
use Rattle.fzn_trail.specs.Levels.{Levels}
use Rattle.fzn_propagator.specs.Clause.{AreLeftByClause}
use Rattle.fzn_terms.specs.declared.claim.Claim.{Claim}
use Rattle.fzn_terms.specs.Denied.{that, IsEntailed, AreEntailedBut}
use Rattle.fzn_terms.proofs.OrderLemmas.{at_most, le_test}
use Rattle.fzn_cumulative.specs.Claims.{task_claims}
use Rattle.fzn_cumulative.specs.Loads.{AreReady, start_at, duration_at, uses_at}
use Rattle.fzn_cumulative.specs.declared.tasks.Tasks.{Tasks}

all_most : (sets : List IntSet) (term : Term) (n : ℤ) → greatest_value sets term ≤ℤ n → IsEntailed sets (that term AtMost n)
all_most sets term n h v may = let b = MayBe-between sets term v may in le_test v (greatest_value sets term) n b.1 h

all_least : (sets : List IntSet) (term : Term) (n : ℤ) → n ≤ℤ least_value sets term → IsEntailed sets (that term AtLeast n)
all_least sets term n h v may = let b = MayBe-between sets term v may in le_test n (least_value sets term) v h b.0

-- the claims of the same numbers
pub task_same : (start duration uses : Term) (a b c d latest earliest shortest least : ℤ) (claims : List Claim) → claims ≡ task_claims start duration uses a b c d → a ≡ latest → b ≡ earliest → c ≡ shortest → d ≡ least → claims ≡ task_claims start duration uses latest earliest shortest least
task_same start duration uses a b c d latest earliest shortest least claims is e f g h = cc

module _ (start duration uses : Term) (latest earliest shortest least : ℤ) where
  -- what is entailed, but for the one at an index
  pub task_entailed : (sets : List IntSet) (x : ℕ) → (0 ≢ x → greatest_value sets start ≤ℤ latest) → (1 ≢ x → earliest ≤ℤ least_value sets start) → (2 ≢ x → shortest ≤ℤ least_value sets duration) → (3 ≢ x → least ≤ℤ least_value sets uses) → AreEntailedBut x (task_claims start duration uses latest earliest shortest least) sets
  task_entailed sets x by from for at zero e below apart = all_most sets start latest (by apart)
  task_entailed sets x by from for at (suc zero) e below apart = all_least sets start earliest (from apart)
  task_entailed sets x by from for at (suc (suc zero)) e below apart = all_least sets duration shortest (for apart)
  task_entailed sets x by from for at (suc (suc (suc zero))) e below apart = all_least sets uses least (at apart)
  task_entailed sets x by from for at (suc (suc (suc (suc k)))) e below apart = absurd (omega arith)

-- the task starts at these times at the latest and at the earliest, lasts so long and uses so much at least
pub record AreWithin (sets : List IntSet) (start duration uses : Term) (latest earliest shortest least : ℤ) : Type 0 where
  pub no_later : greatest_value sets start ≤ℤ latest
  pub no_sooner : earliest ≤ℤ least_value sets start
  pub no_shorter : shortest ≤ℤ least_value sets duration
  pub no_less : least ≤ℤ least_value sets uses

-- where a clause is denied that says the claims, the sets are so
pub task_said : (tasks : Tasks) (k : ℕ) (latest earliest shortest least : ℤ) (trail : Levels) (clause : List Lit) (sets : List IntSet) → AreLeftByClause trail.declared clause sets → AreReady (length trail.declared) tasks → k < length tasks.starts → All (IsEntailed sets) (task_claims (start_at tasks k) (duration_at tasks k) (uses_at tasks k) latest earliest shortest least) → AreWithin sets (start_at tasks k) (duration_at tasks k) (uses_at tasks k) latest earliest shortest least
task_said tasks k latest earliest shortest least trail clause sets left ready inside all =
    let d = ready.as_many_durations in
    let u = ready.as_many_uses in
    let any = that (start_at tasks k) AtMost latest in
    let ends = λ (term : Term) (fit : IsTerm (length trail.declared) term). MayBe-ends sets term left.filled (subst (λ (n : ℕ). IsTerm n term) (sym left.one_each) fit) in
    let start = ends (start_at tasks k) (ready.starts.0 k _ inside) in
    record {
      no_later = at_most (greatest_value sets (start_at tasks k)) latest (all 0 any (omega arith) (greatest_value sets (start_at tasks k)) start.1);
      no_sooner = at_most earliest (least_value sets (start_at tasks k)) (all 1 any (omega arith) (least_value sets (start_at tasks k)) start.0);
      no_shorter = at_most shortest (least_value sets (duration_at tasks k)) (all 2 any (omega arith) (least_value sets (duration_at tasks k)) (ends (duration_at tasks k) (ready.durations.0 k _ (omega arith))).0);
      no_less = at_most least (least_value sets (uses_at tasks k)) (all 3 any (omega arith) (least_value sets (uses_at tasks k)) (ends (uses_at tasks k) (ready.uses.0 k _ (omega arith))).0);
    }
