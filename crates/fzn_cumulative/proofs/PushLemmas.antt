-- A task that has to run at another time, or less.
use Rattle.std.proofs.Common.{◌≡◌, ℕ, ◌<◌, ◌≤◌, true, List, length, refl, sym, subst, inl, inr, arith, ℤ, pos, ◌+ℤ◌, ◌-ℤ◌, ◌≤ℤ◌, ◌<ℤ◌}
use Rattle.std.specs.Int.{int_max}
use Rattle.std.specs.List.{All}
use Rattle.std.proofs.lemmas.Int.{ints}
use Rattle.fzn_domain.specs.declared.literal.Lit.{Lit}
use Rattle.fzn_domain.specs.declared.literal.Op.TheVariants.{AtMost, AtLeast}
use Rattle.fzn_domain.specs.IntSet.{IntSet}
use Rattle.fzn_values.specs.declared.term.Term.TheVariants.{Constant}
use Rattle.fzn_values.specs.Term.{IsTerm}
use Rattle.fzn_rules.specs.declared.rule.Rule.TheVariants.{Load}
use Rattle.fzn_rules.specs.Rules.{IsMet}
use Rattle.fzn_sets.specs.Terms.{least_value, greatest_value}
use Rattle.fzn_sets.proofs.ValueLemmas.{MayBe-ends}
use Rattle.fzn_rules.specs.Load.{IsLoadMet}
use Rattle.fzn_trail.specs.Levels.{Levels}
use Rattle.fzn_propagator.specs.Clause.{IsJustified}
use Rattle.fzn_terms.specs.declared.claim.Claim.{Claim}
use Rattle.fzn_terms.specs.Denied.{that, IsEntailed, IsDenied, IsClaimForced, IsGrownToForce, AreEntailedBut}
use Rattle.fzn_cumulative.specs.declared.tasks.Tasks.{Tasks}
use Rattle.fzn_cumulative.specs.Claims.{use_claims, IsNotPushed}
use Rattle.fzn_cumulative.specs.Loads.{AreReady, cumulative_of, least_use_of, total_of, total_but, AreExplained, HasNoMore, start_at, duration_at, uses_at, runs_surely, least_amount, others_of, HasRoomBeside, IsFreeAfter, IsFreeBefore, IsFreeForLong, IsFreeToUse}
use Rattle.fzn_cumulative.proofs.ClaimLemmas.{task_entailed, task_said}
use Rattle.fzn_cumulative.proofs.LoadLemmas.{but-one, but-none, use_full, run_parts}
use Rattle.fzn_propagator.proofs.CallerLemmas.{justified_where}
use Rattle.fzn_terms.proofs.OrderLemmas.{at_most, le_same}

over_of : (capacity others spare amount most but : ℤ) → most ≤ℤ capacity → others ≤ℤ (but +ℤ spare) → spare ≡ ((others +ℤ amount) -ℤ capacity) -ℤ pos 1 → most <ℤ (but +ℤ amount)
over_of capacity others spare amount most but a b e = omega (arith, ints)

more_of : (most but amount use_k total : ℤ) → most <ℤ (but +ℤ amount) → amount ≤ℤ use_k → total ≡ but +ℤ use_k → most <ℤ total
more_of most but amount use_k total a b e = omega (arith, ints)

-- a clause by which a task uses more than the others leave
pub push_inferred : (trail : Levels) (tasks : Tasks) (t s u capacity spare : ℤ) (k : ℕ) (c1 c2 new : List Lit) → AreReady (length trail.declared) tasks → k < length tasks.starts → HasNoMore trail tasks c1 → AreExplained trail t k spare tasks.starts tasks.durations tasks.uses c1 c2 → spare ≡ ((others_of trail.sets t k tasks +ℤ int_max (pos 0) u) -ℤ capacity) -ℤ pos 1 → capacity ≡ greatest_value trail.sets tasks.capacity → IsGrownToForce trail (λ sets. All (IsEntailed sets) (use_claims tasks k t s u)) c2 new → IsJustified trail (cumulative_of tasks) (Load t) new
unfolding IsMet IsLoadMet
push_inferred trail tasks t s u capacity spare k c1 c2 new ready inside most explained is limit forced =
    justified_where trail (cumulative_of tasks) (Load t) new forced.forcing (λ sets left.
    let before = forced.keeps sets left in
    let no_more = subst (λ (n : ℤ). greatest_value sets tasks.capacity ≤ℤ n) (sym limit) (most.says sets (explained.keeps sets before)) in
    more_of (greatest_value sets tasks.capacity) (others_of sets t k tasks) (int_max (pos 0) u) (least_use_of sets t (start_at tasks k) (duration_at tasks k) (uses_at tasks k)) (total_of sets t tasks.starts tasks.durations tasks.uses)
    (over_of capacity (others_of trail.sets t k tasks) spare (int_max (pos 0) u) (greatest_value sets tasks.capacity) (others_of sets t k tasks) no_more (explained.says sets before) is)
    (use_full sets (start_at tasks k) (duration_at tasks k) (uses_at tasks k) t s u (task_said tasks k _ _ _ _ trail new sets left ready inside (forced.says sets left)))
    (but-one sets t tasks.starts tasks.durations tasks.uses k (Constant (pos 0)) ready.as_many_durations ready.as_many_uses inside))

-- ---- the claims that are entailed but for one, and what holds where that one is not forced

early : (t s low shortest : ℤ) → t <ℤ (low +ℤ shortest) → s ≡ shortest → ((t -ℤ s) +ℤ pos 1) ≤ℤ low
early t s low shortest h e = omega (arith, ints)

late : (t s low : ℤ) → s ≡ (t -ℤ low) +ℤ pos 1 → ((t -ℤ s) +ℤ pos 1) ≤ℤ low
late t s low e = omega (arith, ints)

no_room : (u most others : ℤ) → u ≡ (most -ℤ others) +ℤ pos 1 → (others +ℤ int_max (pos 0) u) ≤ℤ most → ⊥
no_room u most others e h = grind (arith, ints)

module _ (sets : List IntSet) (tasks : Tasks) (t s u : ℤ) (k : ℕ) where
  pub but_latest : t <ℤ (least_value sets (start_at tasks k) +ℤ least_value sets (duration_at tasks k)) → s ≡ least_value sets (duration_at tasks k) → u ≡ least_value sets (uses_at tasks k) → AreEntailedBut 0 (use_claims tasks k t s u) sets
  but_latest ends shortest least =
      task_entailed (start_at tasks k) (duration_at tasks k) (uses_at tasks k) t _ s u sets 0 (λ apart. absurd (apart refl))
      (λ _. early t s (least_value sets (start_at tasks k)) (least_value sets (duration_at tasks k)) ends shortest) (λ _. le_same _ _ shortest) (λ _. le_same _ _ least)

  pub but_earliest : greatest_value sets (start_at tasks k) ≤ℤ t → s ≡ least_value sets (duration_at tasks k) → u ≡ least_value sets (uses_at tasks k) → AreEntailedBut 1 (use_claims tasks k t s u) sets
  but_earliest begins shortest least =
      task_entailed (start_at tasks k) (duration_at tasks k) (uses_at tasks k) t _ s u sets 1 (λ _. begins) (λ apart. absurd (apart refl)) (λ _. le_same _ _ shortest) (λ _. le_same _ _ least)

  pub but_shortest : greatest_value sets (start_at tasks k) ≤ℤ t → s ≡ (t -ℤ least_value sets (start_at tasks k)) +ℤ pos 1 → u ≡ least_value sets (uses_at tasks k) → AreEntailedBut 2 (use_claims tasks k t s u) sets
  but_shortest begins shortest least =
      task_entailed (start_at tasks k) (duration_at tasks k) (uses_at tasks k) t _ s u sets 2 (λ _. begins) (λ _. late t s (least_value sets (start_at tasks k)) shortest) (λ apart. absurd (apart refl)) (λ _. le_same _ _ least)

  pub but_least : runs_surely sets t (start_at tasks k) (duration_at tasks k) ≡ true → s ≡ least_value sets (duration_at tasks k) → AreEntailedBut 3 (use_claims tasks k t s u) sets
  but_least runs shortest =
      let parts = run_parts (greatest_value sets (start_at tasks k)) t (least_value sets (start_at tasks k)) (least_value sets (duration_at tasks k)) runs in
      task_entailed (start_at tasks k) (duration_at tasks k) (uses_at tasks k) t _ s u sets 3 (λ _. parts.0)
      (λ _. subst (λ (n : ℤ). ((t -ℤ n) +ℤ pos 1) ≤ℤ least_value sets (start_at tasks k)) (sym shortest) parts.1) (λ _. le_same _ _ shortest) (λ apart. absurd (apart refl))

  any : Claim
  any = that (start_at tasks k) AtMost t

  room_for : u ≡ least_value sets (uses_at tasks k) → HasRoomBeside sets t k (int_max (pos 0) u) tasks → HasRoomBeside sets t k (least_amount sets (uses_at tasks k)) tasks
  room_for least room = subst (λ (n : ℤ). HasRoomBeside sets t k (int_max (pos 0) n) tasks) least room

  pub free_after : u ≡ least_value sets (uses_at tasks k) → IsNotPushed sets t k s u 0 tasks → IsFreeAfter sets t k tasks
  free_after least (inl room) = inr (inl (room_for least room))
  free_after least (inr none) = inr (inr (none any))

  pub free_before : s ≡ least_value sets (duration_at tasks k) → u ≡ least_value sets (uses_at tasks k) → IsNotPushed sets t k s u 1 tasks → IsFreeBefore sets t k tasks
  free_before shortest least (inl room) = inr (inl (room_for least room))
  free_before shortest least (inr none) = inr (inr (subst (λ (n : ℤ). IsDenied sets (that (start_at tasks k) AtLeast ((t -ℤ n) +ℤ pos 1))) shortest (none any)))

  pub free_for_long : s ≡ (t -ℤ least_value sets (start_at tasks k)) +ℤ pos 1 → u ≡ least_value sets (uses_at tasks k) → IsNotPushed sets t k s u 2 tasks → IsFreeForLong sets t k tasks
  free_for_long shortest least (inl room) = inr (inl (room_for least room))
  free_for_long shortest least (inr none) = inr (inr (subst (λ (n : ℤ). IsDenied sets (that (duration_at tasks k) AtLeast n)) shortest (none any)))

  pub free_to_use : u ≡ (greatest_value sets tasks.capacity -ℤ others_of sets t k tasks) +ℤ pos 1 → IsNotPushed sets t k s u 3 tasks → IsFreeToUse sets t k tasks
  free_to_use least (inl room) = absurd (no_room u (greatest_value sets tasks.capacity) (others_of sets t k tasks) least room)
  free_to_use least (inr none) = inr (inr (subst (λ (n : ℤ). IsDenied sets (that (uses_at tasks k) AtLeast n)) least (none any)))

-- ---- the capacity

least_of : (most limit load total trail_total : ℤ) → most ≤ℤ limit → trail_total ≤ℤ (total +ℤ pos 0) → load ≡ trail_total → limit ≡ load -ℤ pos 1 → most <ℤ total
least_of most limit load total trail_total a b e f = omega (arith, ints)

pub capacity_inferred : (trail : Levels) (tasks : Tasks) (t load limit : ℤ) (n : ℕ) (c0 c1 c2 : List Lit) → AreReady (length trail.declared) tasks → length tasks.starts ≤ n → AreExplained trail t n (pos 0) tasks.starts tasks.durations tasks.uses c0 c1 → IsClaimForced trail (that tasks.capacity AtMost limit) c1 c2 → load ≡ total_of trail.sets t tasks.starts tasks.durations tasks.uses → limit ≡ load -ℤ pos 1 → IsJustified trail (cumulative_of tasks) (Load t) c2
unfolding IsMet IsLoadMet
capacity_inferred trail tasks t load limit n c0 c1 c2 ready all explained forced is limit_is =
    justified_where trail (cumulative_of tasks) (Load t) c2 forced.forcing (λ sets left.
    let on_trail = but-none trail.sets t tasks.starts tasks.durations tasks.uses n ready.as_many_durations ready.as_many_uses all in
    let on_sets = but-none sets t tasks.starts tasks.durations tasks.uses n ready.as_many_durations ready.as_many_uses all in
    let ends = MayBe-ends sets tasks.capacity left.filled (subst (λ (k : ℕ). IsTerm k tasks.capacity) (sym left.one_each) ready.capacity) in
    least_of (greatest_value sets tasks.capacity) limit load (total_of sets t tasks.starts tasks.durations tasks.uses) (total_of trail.sets t tasks.starts tasks.durations tasks.uses)
    (at_most (greatest_value sets tasks.capacity) limit (forced.says sets left (greatest_value sets tasks.capacity) ends.1))
    (subst (λ (a : ℤ). a ≤ℤ (total_of sets t tasks.starts tasks.durations tasks.uses +ℤ pos 0)) on_trail (subst (λ (b : ℤ). total_but n trail.sets t tasks.starts tasks.durations tasks.uses ≤ℤ (b +ℤ pos 0)) on_sets (explained.says sets (forced.keeps sets left))))
    is limit_is)
