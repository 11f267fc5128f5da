-- What tasks use between two times, task by task.
use Rattle.std.proofs.Common.{◌≡◌, ℕ, zero, suc, ◌+◌, ◌<◌, ◌≤◌, List, [], ◌∷◌, length, get_or, take, sym, ap, subst, ◌∙◌, arith, add-one, ℤ, pos, negsuc, ◌+ℤ◌, ◌-ℤ◌, ◌*ℤ◌, ◌≤ℤ◌, ◌<ℤ◌, unsigned_abs}
use Rattle.std.specs.Int.{int_min, int_max}
use Rattle.std.proofs.lemmas.Int.{ints, clamps, unsigned_abs-mul}
use Rattle.std.proofs.lemmas.Nat.{mul-le}
use Rattle.std.proofs.lemmas.List.{take_all}
use Rattle.std.proofs.Math.IntN.{*ℤ-zero, *ℤ_comm}
use Rattle.fzn_domain.specs.declared.literal.Lit.{Lit}
use Rattle.fzn_domain.specs.IntSet.{IntSet}
use Rattle.fzn_domain.specs.Limits.{IsInLimits}
use Rattle.fzn_values.specs.declared.term.Term.{Term}
use Rattle.fzn_values.specs.Term.{IsTerm}
use Rattle.fzn_rules.specs.declared.rule.Rule.TheVariants.{Energy}
use Rattle.fzn_rules.specs.Rules.{IsMet}
use Rattle.fzn_sets.specs.Terms.{least_value, greatest_value}
use Rattle.fzn_sets.proofs.ValueLemmas.{MayBe-ends, MayBe-between}
use Rattle.fzn_terms.proofs.ProductLemmas.{mono_up}
use Rattle.fzn_rules.specs.Energy.{overlap, least_energy, IsEnergyMet}
use Rattle.fzn_trail.specs.Levels.{Levels}
use Rattle.fzn_terms.specs.Denied.{IsGrown, AreEntailedBut}
use Rattle.fzn_propagator.specs.Clause.{IsJustified}
use Rattle.fzn_cumulative.specs.declared.tasks.Tasks.{Tasks}
use Rattle.fzn_cumulative.specs.Claims.{task_claims}
use Rattle.fzn_cumulative.specs.Loads.{AreReady, cumulative_of, HasNoMore, IsTime, start_at, duration_at, uses_at}
use Rattle.fzn_cumulative.proofs.ClaimLemmas.{task_said}
use Rattle.fzn_cumulative.specs.Energies.{least_cover, energy_of, energies_of, IsEnergyExplained, AreEnergiesExplained}
use Rattle.fzn_propagator.proofs.CallerLemmas.{forcing_of_false, justified_where}
use Rattle.fzn_terms.proofs.OrderLemmas.{step_more, step_spare, wider, le_trans}

-- ---- products

mul_mono : (a b c d : ℤ) → pos 0 ≤ℤ a → a ≤ℤ c → pos 0 ≤ℤ b → b ≤ℤ d → (a *ℤ b) ≤ℤ (c *ℤ d)
mul_mono a b c d za p zb q =
    le_trans (a *ℤ b) (a *ℤ d) (c *ℤ d) (mono_up a b d za q)
    (subst (λ (x : ℤ). x ≤ℤ (c *ℤ d)) (*ℤ_comm d a) (subst (λ (x : ℤ). (d *ℤ a) ≤ℤ x) (*ℤ_comm d c) (mono_up d a c (le_trans (pos 0) b d zb q) p)))

pub product_low : (a b : ℤ) → pos 0 ≤ℤ a → pos 0 ≤ℤ b → pos 0 ≤ℤ (a *ℤ b)
product_low a b za zb = subst (λ (x : ℤ). x ≤ℤ (a *ℤ b)) (*ℤ-zero a) (mono_up a (pos 0) b za zb)

pub product_high : (a b : ℤ) → pos 0 ≤ℤ a → a ≤ℤ pos 1000000000 → pos 0 ≤ℤ b → b ≤ℤ pos 1000000000 → (a *ℤ b) ≤ℤ pos 1000000000000000000
product_high a b za p zb q = mul_mono a b (pos 1000000000) (pos 1000000000) za p zb q

-- a product above 0 has no factor 0
pub product_some : (a b : ℤ) → pos 0 ≤ℤ b → pos 0 <ℤ (a *ℤ b) → pos 0 <ℤ b
product_some a (pos zero) zb some = absurd (none_of (a *ℤ pos 0) (*ℤ-zero a) some)
  where
    none_of : (x : ℤ) → x ≡ pos 0 → pos 0 <ℤ x → ⊥
    none_of x e h = omega (arith, ints)
product_some a (pos (suc n)) zb some = omega (arith, ints)
product_some a (negsuc n) zb some = absurd (omega (arith, ints))

-- a capacity over some time
pub product_near : (a t : ℤ) → IsInLimits a → pos 0 ≤ℤ t → t ≤ℤ pos 3000000000 → unsigned_abs (a *ℤ t) ≤ 3000000000000000000
product_near a t limits low high =
    let p : unsigned_abs a ≤ 1000000000 = omega (arith, ints, limits.0, limits.1) in
    let q : unsigned_abs t ≤ 3000000000 = omega (arith, ints) in
    rw (unsigned_abs-mul a t) (mul-le (unsigned_abs a) (unsigned_abs t) 1000000000 3000000000 p q)

-- ---- covers

pub cover_low : (from until l h s : ℤ) → pos 0 ≤ℤ int_min (overlap from until l s) (overlap from until h s)
cover_low from until l h s = omega (arith, ints, clamps)

pub end_near : (s d u e : ℤ) → IsInLimits s → IsInLimits d → IsTime u → e ≡ int_min (s +ℤ d) u → (negsuc 1999999999 ≤ℤ e) × (e ≤ℤ pos 2000000000)
end_near s d u e a b t is = (omega (arith, ints, clamps, a.0, b.0, t.0), omega (arith, ints, clamps, t.1))

pub begin_near : (s f b : ℤ) → IsInLimits s → IsTime f → b ≡ int_max s f → (negsuc 999999999 ≤ℤ b) × (b ≤ℤ pos 2000000000)
begin_near s f b a t is = (omega (arith, ints, clamps, a.0), omega (arith, ints, clamps, a.1, t.1))

pub overlap_is : (from until start duration end begin covered : ℤ) → end ≡ int_min (start +ℤ duration) until → begin ≡ int_max start from → covered ≡ int_max (end -ℤ begin) (pos 0) → covered ≡ overlap from until start duration
overlap_is from until start duration end begin covered end_is begin_is is = is ∙ either_way (end -ℤ begin) ∙ rw (end_is, begin_is)
  where
    either_way : (x : ℤ) → int_max x (pos 0) ≡ int_max (pos 0) x
    either_way x = omega (arith, ints, clamps)

pub overlap_high : (from until start duration : ℤ) → IsInLimits duration → overlap from until start duration ≤ℤ pos 1000000000
overlap_high from until start duration limits = omega (arith, ints, clamps, limits.1)

overlap_parts : (from until u s covered : ℤ) → covered ≤ℤ overlap from until u s → pos 0 <ℤ covered → (covered ≤ℤ s) × (covered ≤ℤ (until -ℤ from)) × (u ≤ℤ (until -ℤ covered)) × (((from +ℤ covered) -ℤ s) ≤ℤ u)
overlap_parts from until u s covered h some = (omega (arith, ints, clamps), omega (arith, ints, clamps), omega (arith, ints, clamps), omega (arith, ints, clamps))

overlap_most : (from until u s covered : ℤ) → covered ≤ℤ s → covered ≤ℤ (until -ℤ from) → u ≤ℤ (until -ℤ covered) → ((from +ℤ covered) -ℤ s) ≤ℤ u → covered ≤ℤ overlap from until u s
overlap_most from until u s covered a b c d = omega (arith, ints, clamps)

both_parts : (x a b : ℤ) → x ≡ int_min a b → (x ≤ℤ a) × (x ≤ℤ b)
both_parts x a b e = (omega (arith, ints, clamps), omega (arith, ints, clamps))

both_most : (x a b : ℤ) → x ≤ℤ a → x ≤ℤ b → x ≤ℤ int_min a b
both_most x a b p q = omega (arith, ints, clamps)

less_wide : (x s w u : ℤ) → s ≤ℤ w → (x -ℤ s) ≤ℤ u → (x -ℤ w) ≤ℤ u
less_wide x s w u p q = omega (arith, ints)

max_mono : (a b : ℤ) → a ≤ℤ b → int_max (pos 0) a ≤ℤ int_max (pos 0) b
max_mono a b h = omega (arith, ints, clamps)

max_low : (a : ℤ) → pos 0 ≤ℤ int_max (pos 0) a
max_low a = omega (arith, ints, clamps)

module _ (trail : Levels) (tasks : Tasks) (k : ℕ) (from until covered : ℤ) (is : covered ≡ least_cover trail.sets from until (start_at tasks k) (duration_at tasks k)) (some : pos 0 <ℤ covered) where
  on_trail : (covered ≤ℤ overlap from until (least_value trail.sets (start_at tasks k)) (least_value trail.sets (duration_at tasks k))) × (covered ≤ℤ overlap from until (greatest_value trail.sets (start_at tasks k)) (least_value trail.sets (duration_at tasks k)))
  on_trail = both_parts covered (overlap from until (least_value trail.sets (start_at tasks k)) (least_value trail.sets (duration_at tasks k))) (overlap from until (greatest_value trail.sets (start_at tasks k)) (least_value trail.sets (duration_at tasks k))) is

  pub cover_latest : greatest_value trail.sets (start_at tasks k) ≤ℤ (until -ℤ covered)
  cover_latest = (overlap_parts from until (greatest_value trail.sets (start_at tasks k)) (least_value trail.sets (duration_at tasks k)) covered on_trail.1 some).2

  pub cover_earliest : ((from +ℤ covered) -ℤ least_value trail.sets (duration_at tasks k)) ≤ℤ least_value trail.sets (start_at tasks k)
  cover_earliest = (overlap_parts from until (least_value trail.sets (start_at tasks k)) (least_value trail.sets (duration_at tasks k)) covered on_trail.0 some).3

  -- where the claims are entailed, the task (uses_at tasks k) no less than on the trail
  pub energy_explained : (old new : List Lit) → AreReady (length trail.declared) tasks → k < length tasks.starts → IsGrown trail (AreEntailedBut 4 (task_claims (start_at tasks k) (duration_at tasks k) (uses_at tasks k) (until -ℤ covered) ((from +ℤ covered) -ℤ least_value trail.sets (duration_at tasks k)) (least_value trail.sets (duration_at tasks k)) (least_value trail.sets (uses_at tasks k)))) old new → IsEnergyExplained trail from until (start_at tasks k) (duration_at tasks k) (uses_at tasks k) old new
  unfolding least_energy
  energy_explained old new ready inside said = record {
    still = said.still;
    keeps = said.keeps;
    says = λ sets left.
        let within = task_said tasks k _ _ _ _ trail new sets left ready inside (λ x any below. said.says sets left x any below (omega arith)) in
        let ends = MayBe-ends sets (start_at tasks k) left.filled (subst (λ (n : ℕ). IsTerm n (start_at tasks k)) (sym left.one_each) (ready.starts.0 k _ inside)) in
        let order = (MayBe-between sets (start_at tasks k) (greatest_value sets (start_at tasks k)) ends.1).0 in
        let parts = overlap_parts from until (least_value trail.sets (start_at tasks k)) (least_value trail.sets (duration_at tasks k)) covered on_trail.0 some in
        let long = le_trans covered (least_value trail.sets (duration_at tasks k)) (least_value sets (duration_at tasks k)) parts.0 within.no_shorter in
        let at_least = λ (u : ℤ) (by : u ≤ℤ (until -ℤ covered)) (since : ((from +ℤ covered) -ℤ least_value trail.sets (duration_at tasks k)) ≤ℤ u).
        overlap_most from until u (least_value sets (duration_at tasks k)) covered long parts.1 by (less_wide (from +ℤ covered) (least_value trail.sets (duration_at tasks k)) (least_value sets (duration_at tasks k)) u within.no_shorter since) in
        mul_mono (int_max (pos 0) (least_value trail.sets (uses_at tasks k))) (least_cover trail.sets from until (start_at tasks k) (duration_at tasks k)) (int_max (pos 0) (least_value sets (uses_at tasks k))) (least_cover sets from until (start_at tasks k) (duration_at tasks k))
        (max_low (least_value trail.sets (uses_at tasks k))) (max_mono (least_value trail.sets (uses_at tasks k)) (least_value sets (uses_at tasks k)) within.no_less)
        (cover_low from until (least_value trail.sets (start_at tasks k)) (greatest_value trail.sets (start_at tasks k)) (least_value trail.sets (duration_at tasks k)))
        (subst (λ (x : ℤ). x ≤ℤ least_cover sets from until (start_at tasks k) (duration_at tasks k)) is (both_most covered _ _
        (at_least (least_value sets (start_at tasks k)) (le_trans _ _ _ order within.no_later) within.no_sooner)
        (at_least (greatest_value sets (start_at tasks k)) within.no_later (le_trans _ _ _ within.no_sooner order))));
  }

-- ---- the loop over the tasks

module _ (sets : List IntSet) (from until : ℤ) where
  energies-take : (ss ds rs : List Term) (k : ℕ) (x : Term) → length ds ≡ length ss → length rs ≡ length ss → k < length ss → energies_of sets from until (take (suc k) ss) (take (suc k) ds) (take (suc k) rs) ≡ energies_of sets from until (take k ss) (take k ds) (take k rs) +ℤ energy_of sets from until (get_or ss k x) (get_or ds k x) (get_or rs k x)
  energies-take [] ds rs k x p q below = absurd (omega arith)
  energies-take (s ∷ ss) [] rs k x p q below = absurd (omega arith)
  energies-take (s ∷ ss) (d ∷ ds) [] k x p q below = absurd (omega arith)
  energies-take (s ∷ ss) (d ∷ ds) (r ∷ rs) zero x p q below = omega (arith, ints)
  energies-take (s ∷ ss) (d ∷ ds) (r ∷ rs) (suc k) x p q below =
      let rest = energies-take ss ds rs k x (omega arith) (omega arith) (omega arith) in
      omega (arith, ints)

  pub energies-more : (ss ds rs : List Term) (k : ℕ) (x : Term) → length ds ≡ length ss → length rs ≡ length ss → k < length ss → energies_of sets from until (take (k + 1) ss) (take (k + 1) ds) (take (k + 1) rs) ≡ energies_of sets from until (take k ss) (take k ds) (take k rs) +ℤ energy_of sets from until (get_or ss k x) (get_or ds k x) (get_or rs k x)
  energies-more ss ds rs k x p q below = rw add-one (energies-take ss ds rs k x p q below)

  pub energies-all : (ss ds rs : List Term) (k : ℕ) → length ds ≡ length ss → length rs ≡ length ss → length ss ≤ k → energies_of sets from until (take k ss) (take k ds) (take k rs) ≡ energies_of sets from until ss ds rs
  energies-all ss ds rs k p q all =
      ap (λ (xs : List Term). energies_of sets from until xs (take k ds) (take k rs)) (take_all k ss all)
      ∙ ap (λ (xs : List Term). energies_of sets from until ss xs (take k rs)) (take_all k ds (omega arith))
      ∙ ap (λ (xs : List Term). energies_of sets from until ss ds xs) (take_all k rs (omega arith))

energy_low : (sets : List IntSet) (from until : ℤ) (start duration uses : Term) → pos 0 ≤ℤ energy_of sets from until start duration uses
unfolding least_energy
energy_low sets from until start duration uses =
    product_low (int_max (pos 0) (least_value sets uses)) (least_cover sets from until start duration) (max_low (least_value sets uses)) (cover_low from until (least_value sets start) (greatest_value sets start) (least_value sets duration))

module _ (trail : Levels) (from until : ℤ) (ss ds rs : List Term) (k : ℕ) (x : Term) (same_d : length ds ≡ length ss) (same_r : length rs ≡ length ss) (below : k < length ss) (old : List Lit) where
  -- a task that is explained
  pub energies_more : (spare : ℤ) (clause new : List Lit) → AreEnergiesExplained trail from until spare (take k ss) (take k ds) (take k rs) old clause → IsEnergyExplained trail from until (get_or ss k x) (get_or ds k x) (get_or rs k x) clause new → AreEnergiesExplained trail from until spare (take (k + 1) ss) (take (k + 1) ds) (take (k + 1) rs) old new
  energies_more spare clause new before used = record {
    still = used.still;
    keeps = λ sets left. before.keeps sets (used.keeps sets left);
    says = λ sets left.
        rw (add-one, energies-take trail.sets from until ss ds rs k x same_d same_r below, energies-take sets from until ss ds rs k x same_d same_r below)
        (step_more _ _ spare _ _ (before.says sets (used.keeps sets left)) (used.says sets left));
  }

  -- one that is left out
  pub energies_spare : (spare : ℤ) (clause : List Lit) → AreEnergiesExplained trail from until spare (take k ss) (take k ds) (take k rs) old clause → AreEnergiesExplained trail from until (spare +ℤ energy_of trail.sets from until (get_or ss k x) (get_or ds k x) (get_or rs k x)) (take (k + 1) ss) (take (k + 1) ds) (take (k + 1) rs) old clause
  energies_spare spare clause before = record {
    still = before.still;
    keeps = before.keeps;
    says = λ sets left.
        rw (add-one, energies-take trail.sets from until ss ds rs k x same_d same_r below, energies-take sets from until ss ds rs k x same_d same_r below)
        (step_spare _ _ spare _ _ (before.says sets left) (energy_low sets from until (get_or ss k x) (get_or ds k x) (get_or rs k x)));
  }

-- all of them, and less left out
pub energies_all : (trail : Levels) (from until spare most : ℤ) (k : ℕ) (ss ds rs : List Term) (old new : List Lit) → length ds ≡ length ss → length rs ≡ length ss → length ss ≤ k → spare ≤ℤ most → AreEnergiesExplained trail from until spare (take k ss) (take k ds) (take k rs) old new → AreEnergiesExplained trail from until most ss ds rs old new
energies_all trail from until spare most k ss ds rs old new p q past le before = record {
  still = before.still;
  keeps = before.keeps;
  says = λ sets left.
      wider (energies_of trail.sets from until ss ds rs) (energies_of sets from until ss ds rs) spare most le
      (subst (λ (a : ℤ). a ≤ℤ (energies_of sets from until ss ds rs +ℤ spare)) (energies-all trail.sets from until ss ds rs k p q past)
      (subst (λ (b : ℤ). energies_of trail.sets from until (take k ss) (take k ds) (take k rs) ≤ℤ (b +ℤ spare)) (energies-all sets from until ss ds rs k p q past) (before.says sets left)));
}

-- ---- the rule

pub later : (from until : ℤ) → from <ℤ until → pos 0 ≤ℤ (until -ℤ from)
later from until p = omega (arith, ints)

excess_of : (most given energy spare total : ℤ) → most ≤ℤ given → energy ≤ℤ (total +ℤ spare) → spare ≡ (energy -ℤ given) -ℤ pos 1 → most <ℤ total
excess_of most given energy spare total a b e = omega (arith, ints)

pub energy_inferred : (trail : Levels) (tasks : Tasks) (from until spare : ℤ) (c1 c2 : List Lit) → from <ℤ until → HasNoMore trail tasks c1 → AreEnergiesExplained trail from until spare tasks.starts tasks.durations tasks.uses c1 c2 → spare ≡ (energies_of trail.sets from until tasks.starts tasks.durations tasks.uses -ℤ (greatest_value trail.sets tasks.capacity *ℤ (until -ℤ from))) -ℤ pos 1 → IsJustified trail (cumulative_of tasks) (Energy from until) c2
unfolding IsMet IsEnergyMet
energy_inferred trail tasks from until spare c1 c2 in_order most explained is =
    justified_where trail (cumulative_of tasks) (Energy from until) c2 (forcing_of_false trail c2 explained.still) (λ sets left.
    let capacity = greatest_value trail.sets tasks.capacity in
    let no_more = most.says sets (explained.keeps sets left) in
    record {
      in_order = in_order;
      excess = excess_of (greatest_value sets tasks.capacity *ℤ (until -ℤ from)) (capacity *ℤ (until -ℤ from)) (energies_of trail.sets from until tasks.starts tasks.durations tasks.uses) spare (energies_of sets from until tasks.starts tasks.durations tasks.uses)
          (subst (λ (x : ℤ). x ≤ℤ (capacity *ℤ (until -ℤ from))) (*ℤ_comm (until -ℤ from) (greatest_value sets tasks.capacity))
          (subst (λ (x : ℤ). ((until -ℤ from) *ℤ greatest_value sets tasks.capacity) ≤ℤ x) (*ℤ_comm (until -ℤ from) capacity) (mono_up (until -ℤ from) (greatest_value sets tasks.capacity) capacity (later from until in_order) no_more)))
          (explained.says sets left) is;
    })
