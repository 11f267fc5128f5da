-- Literals of one list that are possible.
use Rattle.std.proofs.Common.{◌≡◌, ℕ, ◌+◌, ◌-◌, ◌*◌, ◌^◌, ◌<◌, ◌⊎◌, ℤ, List, min, get_or, sym, ap, subst, ◌∙◌, inl, inr, arith}
use Rattle.std.proofs.Math.Nat.{min-eq_left, min-eq_right}
use Rattle.std.proofs.lemmas.Bool.{cases_eq, cases_lt}
use Rattle.fzn_domain.specs.declared.literal.Lit.{Lit}
use Rattle.fzn_domain.specs.declared.literal.Op.{Op}
use Rattle.fzn_domain.specs.declared.literal.VarId.{VarId}
use Rattle.fzn_domain.specs.IntSet.{IntSet}
use Rattle.fzn_domain.specs.Narrow.{set_of}
use Rattle.fzn_clauses.specs.declared.lists.Watcher.{Watcher}
use Rattle.fzn_clauses.specs.declared.state.Fallen.{Fallen}
use Rattle.fzn_clauses.specs.Keys.{place_of, operator_at, key, key_of, AreFallen, IsOutside, IsStill}
use Rattle.fzn_clauses.specs.Kept.{AreOutside, ArePassed, IsSatisfiedAt}
use Rattle.fzn_clauses.specs.Lists.{no_watcher}
use Rattle.fzn_clauses.specs.Watched.{Watched}
use Rattle.fzn_clauses.proofs.PlaceLemmas.{operator_is, place_among_less}

under : (x limit : ℕ) → min x limit < limit → min x limit ≡ x
under x limit h = elim (cases_lt x limit) [
  | inl lt ↦ min-eq_left (omega (arith, lt))
  | inr ge ↦ let e : min x limit ≡ limit = min-eq_right ge in absurd (omega (arith, e, h))
]

-- a key that is not the greatest number is of one variable and one place
plain : (var place limit : ℕ) → min (min (var * 18) limit + place) limit < limit → min (min (var * 18) limit + place) limit ≡ var * 18 + place
plain var place limit h =
    let outer : min (min (var * 18) limit + place) limit ≡ min (var * 18) limit + place = under (min (var * 18) limit + place) limit h in
    let inner : min (var * 18) limit ≡ var * 18 = under (var * 18) limit (omega (arith, outer, h)) in
    outer ∙ ap (λ (n : ℕ). n + place) inner

one_key : (a b p q : ℕ) → p < 18 → q < 18 → key a p ≡ key b q → key b q < 2 ^ 64 - 1 → (a ≡ b) × (p ≡ q)
unfolding key
one_key a b p q small_p small_q same low =
    let here = plain b q (2 ^ 64 - 1) low in
    let there = plain a p (2 ^ 64 - 1) (subst (λ (n : ℕ). n < 2 ^ 64 - 1) (sym same) low) in
    let sum : a * 18 + p ≡ b * 18 + q = sym there ∙ same ∙ here in
    let at : p ≡ q = omega (arith, sum, small_p, small_q) in
    (omega (arith, sum, at), at)

abbrev literal : ℕ → Op → ℤ → Lit
literal var op value = record { var = record { 0 = var }; op = op; value = value }

-- the literal at this place of the list, in its variable, is possible or left as it was
module _ (earlier : IntSet) (entry : Lit) (arena : List Watched) (sets : List IntSet) where
  pub ArePassed-none : (key : ℕ) (list : List Watcher) (end : ℕ) → ArePassed earlier entry arena sets key list end end
  ArePassed-none key list end i lit low high is at = absurd (omega (arith, low, high))

  here : (var : VarId) (place : ℕ) (w : Watcher) → place < 18 → key var.0 place < 2 ^ 64 - 1 → IsStill earlier entry (set_of sets var) (record { var = var; op = operator_at place; value = w.value }) → (lit : Lit) → key_of lit ≡ key var.0 place → lit.value ≡ w.value → IsStill earlier entry (set_of sets lit.var) lit
  here var place w in_range own possible lit is at =
      let one = one_key lit.var.0 var.0 (place_of lit) place (place_among_less lit.op lit.value) in_range is own in
      let same : lit ≡ literal var.0 (operator_at place) w.value =
      ap (λ (n : ℕ). literal n lit.op lit.value) one.0 ∙ ap (λ (o : Op). literal var.0 o lit.value) (operator_is lit place one.1) ∙ ap (literal var.0 (operator_at place)) at in
      subst (λ (l : Lit). IsStill earlier entry (set_of sets l.var) l) (sym same) possible

  -- one more watcher is passed
  pub ArePassed-more : (var : VarId) (place : ℕ) (list : List Watcher) (j from end : ℕ) → place < 18 → from ≡ j + 1 → ((key var.0 place < 2 ^ 64 - 1) × IsStill earlier entry (set_of sets var) (record { var = var; op = operator_at place; value = (get_or list j no_watcher).value })) ⊎ IsSatisfiedAt arena sets (get_or list j no_watcher).k → ArePassed earlier entry arena sets (key var.0 place) list from end → ArePassed earlier entry arena sets (key var.0 place) list j end
  ArePassed-more var place list j from end in_range next passed others i lit low high is at = elim (cases_eq i j) [
    | inr apart ↦ others i lit (omega (arith, low, apart, next)) high is at
    | inl e ↦ elim passed [
      | inl (own, possible) ↦ inl (here var place (get_or list j no_watcher) in_range own possible lit is (at ∙ ap (λ (n : ℕ). (get_or list n no_watcher).value) e))
      | inr satisfied ↦ inr (subst (λ (n : ℕ). IsSatisfiedAt arena sets (get_or list n no_watcher).k) (sym e) satisfied)
    ]
  ]

  -- watchers with other numbers than those that may have fallen
  pub ArePassed-outside : (var : VarId) (place : ℕ) (list : List Watcher) (fallen : Fallen) (from end : ℕ) → place < 18 → key var.0 place < 2 ^ 64 - 1 → AreFallen earlier (set_of sets var) entry place fallen → AreOutside fallen arena sets list from end → ArePassed earlier entry arena sets (key var.0 place) list from end
  ArePassed-outside var place list fallen from end in_range own fell outside i lit low high is at = elim (outside i low high) [
    | inl out ↦ inl (here var place (get_or list i no_watcher) in_range own (fell.others var (get_or list i no_watcher).value out) lit is at)
    | inr satisfied ↦ inr satisfied
  ]

module _ (fallen : Fallen) (arena : List Watched) (sets : List IntSet) (list : List Watcher) where
  pub AreOutside-none : (end : ℕ) → AreOutside fallen arena sets list end end
  AreOutside-none end i low high = absurd (omega (arith, low, high))

  pub AreOutside-more : (j from end : ℕ) → from ≡ j + 1 → IsOutside fallen (get_or list j no_watcher).value ⊎ IsSatisfiedAt arena sets (get_or list j no_watcher).k → AreOutside fallen arena sets list from end → AreOutside fallen arena sets list j end
  AreOutside-more j from end next at others i low high = elim (cases_eq i j) [
    | inr apart ↦ others i (omega (arith, low, apart, next)) high
    | inl e ↦ subst (λ (n : ℕ). IsOutside fallen (get_or list n no_watcher).value ⊎ IsSatisfiedAt arena sets (get_or list n no_watcher).k) (sym e) at
  ]
