-- A way through fixed successors, step by step.
use Rattle.std.proofs.Common.{◌≡◌, ℕ, zero, suc, ◌+◌, ◌-◌, ◌<◌, ◌≤◌, true, false, List, [], ◌∷◌, ◌++◌, length, get_or, take, refl, sym, ap, ap₂, subst, int_lt, ◌∙◌, inl, inr, ◌⊎◌, arith, ℤ, pos, negsuc, ◌≤ℤ◌, ◌<ℤ◌, All, FitsSigned, w64, to_z, of_z}
use Rattle.std.specs.List.{Contains}
use Rattle.std.specs.List.Sorted.{IsSorted, IsPermutation}
use Rattle.std.specs.Ordering.{int_cmp, is_lt}
use Rattle.std.proofs.lemmas.Int.{ints, to_z-of_z}
use Rattle.std.proofs.lemmas.Bool.{cases_lt}
use Rattle.std.proofs.lemmas.List.{length-append, get_or_append_left, get_or-take, length-take-le}
use Rattle.std.proofs.Math.Seq.{get_or-append_seam}
use Rattle.std.proofs.lemmas.List.Elements.{All-push, All-more, All-weaker, All-contains, All-get_or, Contains-push, Contains-append_left, Contains-get_or}
use Rattle.std.proofs.lemmas.List.Sorted.{Contains-permutation, IsPermutation-sym}
use Rattle.fzn_domain.specs.declared.literal.Lit.{Lit}
use Rattle.fzn_domain.specs.declared.literal.Op.TheVariants.{Equal}
use Rattle.fzn_domain.specs.Ascending.{IsAscending}
use Rattle.fzn_domain.specs.IntSet.{IntSet, contains, size, no_values}
use Rattle.fzn_domain.specs.Narrow.{NoneEmpty, set_of}
use Rattle.fzn_domain.proofs.SetLemmas.{member_of_size, contains-least}
use Rattle.fzn_list.specs.Limits.{longest}
use Rattle.fzn_values.specs.declared.term.Term.{Term}
use Rattle.fzn_values.specs.declared.term.Term.TheVariants.{Constant, Variable}
use Rattle.fzn_meaning.specs.declared.constraint.Constraint.TheVariants.{Circuit}
use Rattle.fzn_values.specs.Circuit.{reached_from}
use Rattle.fzn_values.specs.Entries.{IsIndex, entry_at}
use Rattle.fzn_values.specs.Term.{IsTerm}
use Rattle.fzn_sets.proofs.TermLemmas.{IsTerm-term_at}
use Rattle.fzn_rules.specs.declared.rule.Rule.TheVariants.{Cut}
use Rattle.fzn_rules.specs.Rules.{IsMet}
use Rattle.fzn_sets.specs.Terms.{MayBe, IsFixedTo, term_at}
use Rattle.fzn_rules.specs.Cut.{LeadsInto, IsCutMet}
use Rattle.fzn_trail.specs.Levels.{Levels}
use Rattle.fzn_propagator.specs.Inference.{IsHint, HasWritableHints}
use Rattle.fzn_terms.specs.Denied.{that, IsDenied, IsClaimExplained, IsClaimForced}
use Rattle.fzn_propagator.specs.Clause.{IsJustified}
use Rattle.fzn_circuit.specs.Circuits.{AreFixedPlaces, IsWay, IsAtEnd, HasNoShortWay}
use Rattle.fzn_propagator.proofs.CallerLemmas.{justified_where}
use Rattle.fzn_terms.proofs.OrderLemmas.{le_trans, equal_of, equal_self, le_lt, le_same}

-- ---- rising lists

-- the first k of the values, each once, in rising order
pub record IsRisen (values : List ℤ) (k : ℕ) (items : List ℤ) : Type 0 where
  pub ascending : IsAscending items
  pub same : All (Contains values) items
  pub all : All (Contains items) (take k values)
  pub few : length items ≤ k
  pub below : 0 < k → All (λ item. item ≤ℤ get_or values (k - 1) (pos 0)) items

last_is : (xs : List ℤ) (x d : ℤ) (j : ℕ) → j < length (xs ++ x ∷ []) → length xs ≤ j → get_or (xs ++ x ∷ []) j d ≡ x
last_is xs x d j inside past =
    let e : j ≡ length xs = omega (arith, length-append xs (x ∷ [])) in
    ap (λ n. get_or (xs ++ x ∷ []) n d) e ∙ get_or-append_seam xs x [] d

ascending-push : (xs : List ℤ) (x : ℤ) → IsAscending xs → All (λ y. y <ℤ x) xs → IsAscending (xs ++ x ∷ [])
ascending-push xs x up below i j d before inside =
    let len = length-append xs (x ∷ []) in
    elim (cases_lt j (length xs)) [
      | inl within ↦
          let first = get_or_append_left xs (x ∷ []) d i (omega arith) in
          let second = get_or_append_left xs (x ∷ []) d j within in
          subst (λ v. v <ℤ get_or (xs ++ x ∷ []) j d) (sym first) (subst (λ v. get_or xs i d <ℤ v) (sym second) (up i j d before within))
      | inr past ↦
          let first = get_or_append_left xs (x ∷ []) d i (omega arith) in
          subst (λ v. v <ℤ get_or (xs ++ x ∷ []) j d) (sym first) (subst (λ v. get_or xs i d <ℤ v) (sym (last_is xs x d j inside past)) (below i d (omega arith)))
    ]

lt_le : (a b : ℤ) → a <ℤ b → a ≤ℤ b
lt_le a b h = omega (arith, ints)

le_from_cmp : (a b : ℤ) → is_lt (int_cmp b a) ≡ false → a ≤ℤ b
le_from_cmp a b h = grind (arith, ints)

between_same : (a b : ℤ) → a ≤ℤ b → (a <ℤ b → ⊥) → a ≡ b
between_same a b h k = grind (arith, ints)

module _ (values : List ℤ) (k : ℕ) (items : List ℤ) (inside : k < length values) (before : IsRisen values k items) where
  at_next : k + 1 - 1 ≡ k
  at_next = omega arith

  pub risen_push : (k ≡ 0) ⊎ ((0 < k) × (get_or values (k - 1) (pos 0) <ℤ get_or values k (pos 0))) → IsRisen values (k + 1) (items ++ get_or values k (pos 0) ∷ [])
  risen_push where_new =
      let x : ℤ = get_or values k (pos 0) in
      let under : All (λ item. item <ℤ get_or values k (pos 0)) items = elim where_new [
        | inl none ↦ λ i d within. absurd (let f = before.few in omega arith)
        | inr more ↦ λ i d within. le_lt (get_or items i d) (get_or values (k - 1) (pos 0)) (get_or values k (pos 0)) (before.below more.0 i d within) more.1
      ] in
      record {
        ascending = ascending-push items x before.ascending under;
        same = All-push (Contains values) items x before.same (Contains-get_or values k (pos 0) inside);
        all = All-more (Contains (items ++ x ∷ [])) values k (pos 0) inside (All-weaker (Contains items) (Contains (items ++ x ∷ [])) (λ y h. Contains-append_left items (x ∷ []) y h) (take k values) before.all) (Contains-push items x);
        few = let f = before.few in omega (arith, length-append items (x ∷ []));
        below = λ some. subst (λ (n : ℕ). All (λ item. item ≤ℤ get_or values n (pos 0)) (items ++ get_or values k (pos 0) ∷ [])) (sym at_next)
            (All-push (λ item. item ≤ℤ get_or values k (pos 0)) items x (All-weaker (λ item. item <ℤ get_or values k (pos 0)) (λ item. item ≤ℤ get_or values k (pos 0)) (λ y h. lt_le y (get_or values k (pos 0)) h) items under) (le_same x x refl));
      }

  pub risen_same : IsSorted int_cmp values → 0 < k → (get_or values (k - 1) (pos 0) <ℤ get_or values k (pos 0) → ⊥) → IsRisen values (k + 1) items
  risen_same sorted some not_more =
      let back : k - 1 + 1 ≡ k = omega arith in
      let up : get_or values (k - 1) (pos 0) ≤ℤ get_or values k (pos 0) =
      le_from_cmp (get_or values (k - 1) (pos 0)) (get_or values k (pos 0)) (subst (λ (n : ℕ). is_lt (int_cmp (get_or values n (pos 0)) (get_or values (k - 1) (pos 0))) ≡ false) back (sorted (k - 1) (pos 0) (omega arith) (omega arith))) in
      let equal = between_same (get_or values (k - 1) (pos 0)) (get_or values k (pos 0)) up not_more in
      record {
        ascending = before.ascending;
        same = before.same;
        all = All-more (Contains items) values k (pos 0) inside before.all (subst (Contains items) equal (in_front (k - 1) (omega arith)));
        few = let f = before.few in omega arith;
        below = λ _. subst (λ (n : ℕ). All (λ item. item ≤ℤ get_or values n (pos 0)) items) (sym at_next)
            (λ i d within. le_trans (get_or items i d) (get_or values (k - 1) (pos 0)) (get_or values k (pos 0)) (before.below some i d within) up);
      }
    where
      in_front : (n : ℕ) → n < k → Contains items (get_or values n (pos 0))
      in_front n h =
          let len = length-take-le k values (omega arith) in
          subst (Contains items) (get_or-take k values n (pos 0) h) (before.all n (pos 0) (omega arith))

lt_test : (a b : ℤ) → int_lt a b ≡ true → a <ℤ b
lt_test a b h = grind (arith, ints)

not_lt_test : (a b : ℤ) → int_lt a b ≡ false → a <ℤ b → ⊥
not_lt_test a b h k = grind (arith, ints)

pub lt_bits : (a b : ℤ) → FitsSigned w64 a → FitsSigned w64 b → int_lt (to_z w64 (of_z w64 a)) (to_z w64 (of_z w64 b)) ≡ true → a <ℤ b
lt_bits a b f g h = lt_test a b (sym (ap₂ int_lt (to_z-of_z w64 a f) (to_z-of_z w64 b g)) ∙ h)

pub not_lt_bits : (a b : ℤ) → FitsSigned w64 a → FitsSigned w64 b → int_lt (to_z w64 (of_z w64 a)) (to_z w64 (of_z w64 b)) ≡ false → a <ℤ b → ⊥
not_lt_bits a b f g h = not_lt_test a b (sym (ap₂ int_lt (to_z-of_z w64 a f) (to_z-of_z w64 b g)) ∙ h)

-- ---- steps

-- the entry of the values at a place is what its successor is fixed to
one_value : (sets : List IntSet) (term : Term) (a b : ℤ) → IsFixedTo sets term a → IsFixedTo sets term b → a ≡ b
one_value sets term a b h k = sym h.0 ∙ k.0

module _ (sets : List IntSet) (successors : List Term) (values : List ℤ) (fixed : AreFixedPlaces sets successors values) where
  entry_fixed : (p : ℤ) → IsIndex (length successors) p → IsFixedTo sets (term_at successors p) (entry_at values p)
  entry_fixed (pos zero) h = absurd (omega (arith, ints, h.0))
  entry_fixed (pos (suc k)) h =
      let at : suc k - 1 ≡ k = omega arith in
      subst (λ (n : ℕ). IsFixedTo sets (get_or successors n (Constant (pos 0))) (get_or values n (pos 0))) (sym at) (fixed.fixed k (Constant (pos 0)) (omega (arith, ints, h.1)))
  entry_fixed (negsuc k) h = absurd (omega (arith, ints, h.0))

  reached_next : (start last next : ℤ) (n : ℕ) → 0 < n → IsIndex (length successors) last → reached_from values start (n - 1) ≡ last → IsFixedTo sets (term_at successors last) next → reached_from values start n ≡ next
  reached_next start last next zero some place here leads = absurd (omega arith)
  reached_next start last next (suc n) some place here leads =
      let at : suc n - 1 ≡ n = omega arith in
      ap (entry_at values) (sym (ap (reached_from values start) at) ∙ here) ∙ one_value sets (term_at successors last) (entry_at values last) next (entry_fixed last place) leads

module _ (trail : Levels) (successors : List Term) (start last : ℤ) (places : List ℤ) (old : List Lit) (way : IsWay trail successors start last places old) where
  pub last_place : IsIndex (length successors) last
  last_place = let some = way.some in subst (IsIndex (length successors)) way.ends (way.indices (length places - 1) (pos 0) (omega arith))

  pub in_way : Contains places last
  in_way = let some = way.some in subst (Contains places) way.ends (Contains-get_or places (length places - 1) (pos 0) (omega arith))

  pub start_in_way : Contains places start
  start_in_way = subst (Contains places) way.first (Contains-get_or places 0 (pos 0) way.some)

  pub next_reached : (next : ℤ) → IsFixedTo trail.sets (term_at successors last) next → (values : List ℤ) → AreFixedPlaces trail.sets successors values → reached_from values start (length places) ≡ next
  next_reached next leads values fixed =
      let some = way.some in
      reached_next trail.sets successors values fixed start last next (length places) way.some last_place (sym (way.steps values fixed (length places - 1) (omega arith)) ∙ way.ends) leads

  -- the next step comes back
  pub comes_back : (next : ℤ) → next ≡ start → IsFixedTo trail.sets (term_at successors last) next → IsAtEnd trail.sets successors start places
  comes_back next back leads = inr (λ values fixed. next_reached next leads values fixed ∙ back)

-- one more place
pub way_step : (trail : Levels) (successors : List Term) (start last next : ℤ) (places : List ℤ) (old new : List Lit) → IsWay trail successors start last places old → length places < length successors → IsIndex (length successors) next → IsFixedTo trail.sets (term_at successors last) next → (next ≡ start → ⊥) → IsClaimExplained trail (that (term_at successors last) Equal next) old new → IsWay trail successors start next (places ++ next ∷ []) new
way_step trail successors start last next places old new way room place leads apart explained =
    let len = length-append places (next ∷ []) in
    let some = way.some in
    record {
      still = explained.still;
      some = omega arith;
      few = omega arith;
      indices = All-push (IsIndex (length successors)) places next way.indices place;
      first = get_or_append_left places (next ∷ []) (pos 0) 0 way.some ∙ way.first;
      ends = last_is places next (pos 0) (length (places ++ next ∷ []) - 1) (omega arith) (omega arith);
      leads = λ sets left.
          All-push (λ place. (place ≡ next) ⊎ LeadsInto sets (places ++ next ∷ []) (term_at successors place)) places next
          (All-weaker (λ place. (place ≡ last) ⊎ LeadsInto sets places (term_at successors place)) (λ place. (place ≡ next) ⊎ LeadsInto sets (places ++ next ∷ []) (term_at successors place))
          (λ p either. inr (elim either [
            | inl is_last ↦ λ x may. subst (Contains (places ++ next ∷ [])) (sym (equal_of x next (explained.says sets left x (subst (λ (q : ℤ). MayBe sets (term_at successors q) x) is_last may)))) (Contains-push places next)
            | inr before ↦ λ x may. Contains-append_left places (next ∷ []) x (before x may)
          ])) places (way.leads sets (explained.keeps sets left)))
          (inl refl);
      steps = λ values fixed k inside. elim (cases_lt k (length places)) [
        | inl before ↦ get_or_append_left places (next ∷ []) (pos 0) k before ∙ way.steps values fixed k before
        | inr past ↦
            let e : length places ≡ k = omega arith in
            last_is places next (pos 0) k inside past ∙ sym (next_reached trail successors start last places old way next leads values fixed) ∙ ap (reached_from values start) e
      ];
      not_back = λ k low inside back. elim (cases_lt k (length places)) [
        | inl before ↦ way.not_back k low before (sym (get_or_append_left places (next ∷ []) (pos 0) k before) ∙ back)
        | inr past ↦ apart (sym (last_is places next (pos 0) k inside past) ∙ back)
      ];
    }

-- ---- the rule

pub hint_of : (n : ℕ) (p : ℤ) → n ≤ longest → IsIndex n p → IsHint p
hint_of n p short place = (omega (arith, ints, place.0), omega (arith, ints, place.1))

module _ (trail : Levels) (successors : List Term) (start last : ℤ) (places sorted items : List ℤ) (old : List Lit) (way : IsWay trail successors start last places old) (order : IsPermutation places sorted) (same : All (Contains sorted) items) (all : All (Contains items) sorted) where
  from_way : (x : ℤ) → Contains places x → Contains items x
  from_way x there = All-contains (Contains items) sorted x all (Contains-permutation places sorted x order there)

  to_way : All (Contains places) items
  to_way = All-weaker (Contains sorted) (Contains places) (λ x h. Contains-permutation sorted places x (IsPermutation-sym places sorted order) h) items same

  indices_of : All (IsIndex (length successors)) items
  indices_of = All-weaker (Contains places) (IsIndex (length successors)) (λ x h. All-contains (IsIndex (length successors)) places x way.indices h) items to_way

  pub hints_are : length successors ≤ longest → IsAscending items → HasWritableHints (Cut items)
  hints_are short up = (All-weaker (IsIndex (length successors)) IsHint (λ p place. hint_of (length successors) p short place) items indices_of, up)

  some_items : (x : ℤ) → Contains items x → 0 < length items
  some_items x h = let below = h.1 in omega arith

  pub cut_inferred : (new : List Lit) → IsAscending items → length items < length successors → IsClaimForced trail (that (term_at successors last) Equal start) old new → IsJustified trail (Circuit successors) (Cut items) new
  unfolding IsMet IsCutMet
  cut_inferred new up fewer forced =
      justified_where trail (Circuit successors) (Cut items) new forced.forcing (λ sets left. record {
        some = some_items start (from_way start (start_in_way trail successors start last places old way));
        rising = up;
        indices = indices_of;
        not_all = fewer;
        closed = All-weaker (Contains places) (λ place. LeadsInto sets items (term_at successors place))
            (λ p there x may. from_way x (elim (All-contains (λ place. (place ≡ last) ⊎ LeadsInto sets places (term_at successors place)) places p (way.leads sets (forced.keeps sets left)) there) [
              | inl is_last ↦ subst (Contains places) (sym (equal_of x start (forced.says sets left x (subst (λ (q : ℤ). MayBe sets (term_at successors q) x) is_last may)))) (start_in_way trail successors start last places old way)
              | inr leads ↦ leads x may
            ])) items to_way;
      })

-- ---- no short way

least_may : (sets : List IntSet) (term : Term) (v : ℤ) → NoneEmpty sets → IsTerm (length sets) term → IsFixedTo sets term v → MayBe sets term v
least_may sets (Constant k) v filled fits fixed = fixed.0
least_may sets (Variable var) v filled fits fixed =
    let some = member_of_size (set_of sets var) (All-get_or (λ (s : IntSet). 0 < size s) sets (var.0 - 1) no_values (omega arith) filled) in
    subst (λ (x : ℤ). contains (set_of sets var) x ≡ true) fixed.0 (contains-least (set_of sets var) some.0 some.1)

module _ (trail : Levels) (successors : List Term) (start last : ℤ) (places : List ℤ) (old : List Lit) (way : IsWay trail successors start last places old) where
  pub none_of_long : length successors ≤ length places → HasNoShortWay trail.sets successors start
  none_of_long long values fixed k low high back =
      let few = way.few in
      let same = fixed.one_each in
      way.not_back k low (omega arith) (way.steps values fixed k (omega arith) ∙ back)

  pub none_of_apart : length places < length successors → NoneEmpty trail.sets → length trail.sets ≡ length trail.declared → All (IsTerm (length trail.declared)) successors → IsAtEnd trail.sets successors start places → IsDenied trail.sets (that (term_at successors last) Equal start) → HasNoShortWay trail.sets successors start
  none_of_apart short filled one_each fit (inl all) none = absurd (omega arith)
  none_of_apart short filled one_each fit (inr ends) none = λ values fixed k low high back.
      let place = last_place trail successors start last places old way in
      let fits : IsTerm (length trail.sets) (term_at successors last) = subst (λ (n : ℕ). IsTerm n (term_at successors last)) (sym one_each) (IsTerm-term_at (length trail.declared) successors last fit place) in
      let leads : IsFixedTo trail.sets (term_at successors last) start =
      subst (IsFixedTo trail.sets (term_at successors last)) (entry_reached values fixed ∙ ends values fixed) (entry_fixed trail.sets successors values fixed last place) in
      equal_self start (none start (least_may trail.sets (term_at successors last) start filled fits leads))
    where
      entry_reached : (values : List ℤ) → AreFixedPlaces trail.sets successors values → entry_at values last ≡ reached_from values start (length places)
      entry_reached values fixed =
          sym (next_reached trail successors start last places old way (entry_at values last) (entry_fixed trail.sets successors values fixed last (last_place trail successors start last places old way)) values fixed)
