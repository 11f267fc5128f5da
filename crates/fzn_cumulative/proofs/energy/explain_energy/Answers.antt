use Rattle.std.proofs.Common.{rules, ◌≡◌, ◌*◌, ◌≤◌, ap₂, inl, inr, sym, subst, ◌∙◌, arith, ℤ, pos, negsuc, ◌-ℤ◌, ◌*ℤ◌, ◌≤ℤ◌, ◌<ℤ◌, unsigned_abs, w64, to_z, of_z, FitsSigned}
use Rattle.std.proofs.lemmas.Int.{ints}
use Rattle.fzn_domain.specs.Limits.{IsInLimits}
use Rattle.fzn_sets.specs.Terms.{greatest_value}
use Rattle.fzn_cumulative.specs.Loads.{IsTime}
use Rattle.fzn_cumulative.specs.Energies.{energies_of}
use Rattle.fzn_cumulative.proofs.EnergyLemmas.{product_near, energy_inferred, later}
use Rattle.fzn_domain.proofs.DomainLemmas.{real}
use Rattle.fzn_cumulative.specs.Passes.{tasks_of}
use Rattle.fzn_cumulative.proofs.energy.explain_energy.Goals as goal
use mir.Syntax.{w128}

elapsed_is : (f u : ℤ) → IsTime f → IsTime u → to_z w64 (of_z w64 (to_z w64 (of_z w64 u) -ℤ to_z w64 (of_z w64 f))) ≡ u -ℤ f
elapsed_is f u a b = omega (arith, ints, a.0, a.1, b.0, b.1)

elapsed_high : (f u : ℤ) → IsTime f → IsTime u → (u -ℤ f) ≤ℤ pos 3000000000
elapsed_high f u a b = omega (arith, ints, a.0, a.1, b.0, b.1)

ends_of : (g : ℤ) → unsigned_abs g ≤ 3000000000000000000 → (negsuc 2999999999999999999 ≤ℤ g) × (g ≤ℤ pos 3000000000000000000)
ends_of g h = (omega (arith, ints), omega (arith, ints))

difference_fits : (e g : ℤ) → pos 0 ≤ℤ e → e ≤ℤ pos (100000 * 1000000000000000000) → negsuc 2999999999999999999 ≤ℤ g → g ≤ℤ pos 3000000000000000000 → FitsSigned w128 (to_z w128 (of_z w128 e) -ℤ to_z w128 (of_z w128 g))
difference_fits e g a b c d = search (rules, ints)

spare_fits : (e g : ℤ) → pos 0 ≤ℤ e → e ≤ℤ pos (100000 * 1000000000000000000) → negsuc 2999999999999999999 ≤ℤ g → g ≤ℤ pos 3000000000000000000 → FitsSigned w128 (to_z w128 (of_z w128 (to_z w128 (of_z w128 e) -ℤ to_z w128 (of_z w128 g))) -ℤ pos 1)
spare_fits e g a b c d = search (rules, ints)

spare_is : (e g : ℤ) → pos 0 ≤ℤ e → e ≤ℤ pos (100000 * 1000000000000000000) → negsuc 2999999999999999999 ≤ℤ g → g ≤ℤ pos 3000000000000000000 → to_z w128 (of_z w128 (to_z w128 (of_z w128 (to_z w128 (of_z w128 e) -ℤ to_z w128 (of_z w128 g))) -ℤ pos 1)) ≡ (e -ℤ g) -ℤ pos 1
spare_is e g a b c d = omega (arith, ints)

spare_low : (e g : ℤ) → g <ℤ e → pos 0 ≤ℤ ((e -ℤ g) -ℤ pos 1)
spare_low e g h = omega (arith, ints)

near : (given amount bits f u elapsed : ℤ) → given ≡ bits *ℤ elapsed → bits ≡ amount → elapsed ≡ u -ℤ f → IsInLimits amount → IsTime f → IsTime u → f <ℤ u → (negsuc 2999999999999999999 ≤ℤ given) × (given ≤ℤ pos 3000000000000000000)
near given amount bits f u elapsed is bits_same elapsed_same limits a b h =
    ends_of given (subst (λ (x : ℤ). unsigned_abs x ≤ 3000000000000000000) (sym (is ∙ ap₂ (λ (x y : ℤ). x *ℤ y) bits_same elapsed_same)) (product_near amount (u -ℤ f) limits (later f u h) (elapsed_high f u a b)))

within : (e total g given : ℤ) → e ≡ total → g ≡ given → e ≤ℤ g → total ≤ℤ given
within e total g given a b h = omega (arith, ints)

pub returns-then-span : goal.returns-then-span
returns-then-span c = inl (omega (arith, ints, c.args.span.now.begins.0, c.args.span.now.begins.1, c.args.span.now.ends.0, c.args.span.now.ends.1))

pub returns-then-energy-given : goal.returns-then-energy-given
returns-then-energy-given c =
    let tasks = tasks_of c.args.pass.now in
    let sets = c.args.pass.now.trail.now.sets in
    let later : c.args.span.now.from <ℤ c.args.span.now.until = omega (arith, ints, c.args.span.now.begins.0, c.args.span.now.begins.1, c.args.span.now.ends.0, c.args.span.now.ends.1) in
    let elapsed = elapsed_is c.args.span.now.from c.args.span.now.until c.args.span.now.begins c.args.span.now.ends in
    let amount = real c.greatest_of-capacity.result c.greatest_of-capacity.ensures.in_limits in
    let bounds = near c.product-given.result c.greatest_of-capacity.result _ c.args.span.now.from c.args.span.now.until _ c.product-given.ensures amount elapsed c.greatest_of-capacity.ensures.in_limits c.args.span.now.begins c.args.span.now.ends later in
    let low = c.energies_of-energy.ensures.low in
    let high = c.energies_of-energy.ensures.high in
    let no_more : c.energies_of-energy.result ≤ℤ c.product-given.result = omega (arith, ints, bounds.0, bounds.1) in
    inr (within c.energies_of-energy.result (energies_of sets c.args.span.now.from c.args.span.now.until tasks.starts tasks.durations tasks.uses) c.product-given.result (greatest_value sets tasks.capacity *ℤ (c.args.span.now.until -ℤ c.args.span.now.from)) c.energies_of-energy.ensures.value
    (c.product-given.ensures ∙ ap₂ (λ (x y : ℤ). x *ℤ y) (amount ∙ c.greatest_of-capacity.ensures.value) elapsed) no_more)

pub overflow_sub-energy : goal.overflow_sub-energy
overflow_sub-energy c =
    let later : c.args.span.now.from <ℤ c.args.span.now.until = omega (arith, ints, c.args.span.now.begins.0, c.args.span.now.begins.1, c.args.span.now.ends.0, c.args.span.now.ends.1) in
    let bounds = near c.product-given.result c.greatest_of-capacity.result _ c.args.span.now.from c.args.span.now.until _ c.product-given.ensures (real c.greatest_of-capacity.result c.greatest_of-capacity.ensures.in_limits) (elapsed_is c.args.span.now.from c.args.span.now.until c.args.span.now.begins c.args.span.now.ends) c.greatest_of-capacity.ensures.in_limits c.args.span.now.begins c.args.span.now.ends later in
    difference_fits c.energies_of-energy.result c.product-given.result c.energies_of-energy.ensures.low c.energies_of-energy.ensures.high bounds.0 bounds.1

pub overflow_sub-energy-2 : goal.overflow_sub-energy-2
overflow_sub-energy-2 c =
    let later : c.args.span.now.from <ℤ c.args.span.now.until = omega (arith, ints, c.args.span.now.begins.0, c.args.span.now.begins.1, c.args.span.now.ends.0, c.args.span.now.ends.1) in
    let bounds = near c.product-given.result c.greatest_of-capacity.result _ c.args.span.now.from c.args.span.now.until _ c.product-given.ensures (real c.greatest_of-capacity.result c.greatest_of-capacity.ensures.in_limits) (elapsed_is c.args.span.now.from c.args.span.now.until c.args.span.now.begins c.args.span.now.ends) c.greatest_of-capacity.ensures.in_limits c.args.span.now.begins c.args.span.now.ends later in
    spare_fits c.energies_of-energy.result c.product-given.result c.energies_of-energy.ensures.low c.energies_of-energy.ensures.high bounds.0 bounds.1

pub explain_energies-requires-clause-spare : goal.explain_energies-requires-clause-spare
explain_energies-requires-clause-spare c =
    let later : c.args.span.now.from <ℤ c.args.span.now.until = omega (arith, ints, c.args.span.now.begins.0, c.args.span.now.begins.1, c.args.span.now.ends.0, c.args.span.now.ends.1) in
    let bounds = near c.product-given.result c.greatest_of-capacity.result _ c.args.span.now.from c.args.span.now.until _ c.product-given.ensures (real c.greatest_of-capacity.result c.greatest_of-capacity.ensures.in_limits) (elapsed_is c.args.span.now.from c.args.span.now.until c.args.span.now.begins c.args.span.now.ends) c.greatest_of-capacity.ensures.in_limits c.args.span.now.begins c.args.span.now.ends later in
    let low = c.energies_of-energy.ensures.low in
    let high = c.energies_of-energy.ensures.high in
    let more : c.product-given.result <ℤ c.energies_of-energy.result = omega (arith, ints, bounds.0, bounds.1) in
    subst (λ (x : ℤ). pos 0 ≤ℤ x) (sym (spare_is c.energies_of-energy.result c.product-given.result low high bounds.0 bounds.1)) (spare_low c.energies_of-energy.result c.product-given.result more)

same_spare : (e total g given : ℤ) → e ≡ total → g ≡ given → (e -ℤ g) -ℤ pos 1 ≡ (total -ℤ given) -ℤ pos 1
same_spare e total g given a b = omega (arith, ints)

pub returns : goal.returns
returns c =
    let trail = c.args.pass.now.trail.now in
    let tasks = tasks_of c.args.pass.now in
    let from = c.args.span.now.from in
    let until = c.args.span.now.until in
    let later : c.args.span.now.from <ℤ c.args.span.now.until = omega (arith, ints, c.args.span.now.begins.0, c.args.span.now.begins.1, c.args.span.now.ends.0, c.args.span.now.ends.1) in
    let elapsed = elapsed_is c.args.span.now.from c.args.span.now.until c.args.span.now.begins c.args.span.now.ends in
    let bounds = near c.product-given.result c.greatest_of-capacity.result _ c.args.span.now.from c.args.span.now.until _ c.product-given.ensures (real c.greatest_of-capacity.result c.greatest_of-capacity.ensures.in_limits) elapsed c.greatest_of-capacity.ensures.in_limits c.args.span.now.begins c.args.span.now.ends later in
    energy_inferred trail tasks from until _ c.explain_capacity.new.clause c.explain_energies.new.clause later c.in_ok-explain_capacity.ensures c.in_ok-explain_energies.ensures
    (spare_is c.energies_of-energy.result c.product-given.result c.energies_of-energy.ensures.low c.energies_of-energy.ensures.high bounds.0 bounds.1
    ∙ same_spare c.energies_of-energy.result (energies_of trail.sets from until tasks.starts tasks.durations tasks.uses) c.product-given.result (greatest_value trail.sets tasks.capacity *ℤ (until -ℤ from)) c.energies_of-energy.ensures.value
    (c.product-given.ensures ∙ ap₂ (λ (x y : ℤ). x *ℤ y) (real c.greatest_of-capacity.result c.greatest_of-capacity.ensures.in_limits ∙ c.greatest_of-capacity.ensures.value) elapsed))
