-- What refutes a side: the form is met by the rule on the denied sets, where the switch has its one value.
use Rattle.std.proofs.Common.{◌≡◌, Bool, true, false, cond, List, [], ◌∷◌, ◌++◌, length, get_or, refl, sym, ap, subst, ◌∙◌, inl, inr, arith, ℤ, pos, ◌-ℤ◌, ◌≤ℤ◌, ◌<ℤ◌, int_lt, negsuc, ◌*ℤ◌, All, Option, Some, None}
use Rattle.std.proofs.lemmas.Int.{ints}
use Rattle.std.proofs.lemmas.Bool.{true≢false}
use Rattle.std.proofs.lemmas.List.{append-nil}
use Rattle.std.proofs.lemmas.List.Elements.{All-push, filter-append}
use Rattle.fzn_domain.specs.declared.literal.Lit.{Lit}
use Rattle.fzn_domain.specs.declared.literal.Op.TheVariants as op
use Rattle.fzn_domain.specs.IntSet.{IntSet, contains, is_possible, least, greatest}
use Rattle.fzn_domain.specs.Limits.{IsNearLimits}
use Rattle.fzn_domain.specs.Narrow.{IsVariable, IsClauseOver, set_of, denied, is_some_empty, possible_in}
use Rattle.fzn_domain.proofs.SetLemmas.{least_le, le_greatest}
use Rattle.fzn_values.specs.declared.term.Term.{Term}
use Rattle.fzn_values.specs.declared.term.Term.TheVariants.{Constant, Variable}
use Rattle.fzn_values.specs.declared.term.Place.{Place}
use Rattle.fzn_meaning.specs.declared.relation.Comparison.{Comparison}
use Rattle.fzn_meaning.specs.declared.relation.Comparison.TheVariants.{AtMost, Equal, NotEqual}
use Rattle.fzn_meaning.specs.Meaning.{IsSwitch}
use Rattle.fzn_values.specs.Term.{IsTerm, IsPlace}
use Rattle.fzn_sets.specs.Terms.{IsFixedTo, MayBe}
use Rattle.fzn_builtin_rules.specs.Linear.{low_end, low_product, high_product, least_sum, greatest_sum, NoneCompares, AllCompare}
use Rattle.fzn_builtin_rules.specs.Form.{Form, form, IsFormMet}
use Rattle.fzn_trail.specs.Levels.{Levels}
use Rattle.fzn_propagator.specs.Clause.{IsWritable, IsFalseClause, IsForcing}
use Rattle.fzn_propagator.specs.Left.{IsLeft}
use Rattle.fzn_propagator.proofs.CallerLemmas.{end_left, ends_ordered, last_fails, value_where_false, denied_one, may_fail, forcing_of_false, forcing_push}
use Rattle.fzn_terms.proofs.ProductLemmas.{mono_up, mono_down}
use Rattle.fzn_linear.specs.declared.form.SumForm.{SumForm}
use Rattle.fzn_sum.specs.declared.inequality.Inequality.{Inequality}
use Rattle.fzn_linear.specs.declared.side.Side.{Side}
use Rattle.fzn_sum.specs.Explained.{Exceeds}
use Rattle.fzn_linear.specs.Kinds.{form_of_sum}
use Rattle.fzn_sum.specs.Opposite.{opposites}
use Rattle.fzn_linear.specs.OppositeForm.{other_comparison, other_bound}
use Rattle.fzn_linear.specs.Passes.{IsInferredGuarded, IsBoundOfSide}
use Rattle.fzn_sum.specs.Refuted.{RulesOut, IsSumConflict, IsRefutation}
use Rattle.fzn_linear.specs.Switched.{form_where, value_where, MayBeSwitchAt, IsSwitchFixed, guard_of}
use Rattle.fzn_sum.proofs.CallerLemmas.{total_le, least_sum-opposites, greatest_sum-opposites, opposites_fit, rules_out-more}

-- ---- the ends on the denied sets

module _ (trail : Levels) (clause : List Lit) (over : IsClauseOver (length trail.declared) clause) (some : is_some_empty (denied trail.declared clause) ≡ false) where
  exceeds_denied : (places : List Place) (bound : ℤ) → All (IsPlace (length trail.declared)) places → Exceeds trail clause places bound → bound <ℤ least_sum (denied trail.declared clause) places
  unfolding low_product
  exceeds_denied places bound fit exceeds = exceeds (low_end (denied trail.declared clause)) (λ k d below.
      let place = get_or places k d in
      end_left trail.declared clause place.term (int_lt place.coefficient (pos 0)) over (fit k d below).0 some)

  product_ordered : (c low high : ℤ) → low ≤ℤ high → (c *ℤ cond (int_lt c (pos 0)) high low) ≤ℤ (c *ℤ cond (int_lt c (pos 0)) low high)
  product_ordered (pos n) low high h =
      let sign : int_lt (pos n) (pos 0) ≡ false = grind (arith, ints) in
      rw sign (mono_up (pos n) low high (omega (arith, ints)) h)
  product_ordered (negsuc n) low high h = mono_down (negsuc n) low high (omega (arith, ints)) h

  ordered : (places : List Place) → All (IsPlace (length trail.declared)) places → least_sum (denied trail.declared clause) places ≤ℤ greatest_sum (denied trail.declared clause) places
  unfolding low_product high_product
  ordered places fit = total_le (low_product (denied trail.declared clause)) (high_product (denied trail.declared clause)) places (λ k d below.
      let place = get_or places k d in
      product_ordered place.coefficient _ _ (ends_ordered trail.declared clause place.term (fit k d below).0 some))

  pub none_compares : (comparison : Comparison) (places : List Place) (bound : ℤ) → All (IsPlace (length trail.declared)) places → RulesOut trail clause comparison places bound → NoneCompares comparison (least_sum (denied trail.declared clause) places) (greatest_sum (denied trail.declared clause) places) bound
  none_compares AtMost places bound fit out = exceeds_denied places bound fit out
  none_compares Equal places bound fit out =
      let other = least_sum-opposites (denied trail.declared clause) places in
      elim out [
        | inl above ↦ inl (exceeds_denied places bound fit above)
        | inr below ↦ let h = exceeds_denied (opposites places) (pos 0 -ℤ bound) (opposites_fit (length trail.declared) places fit) below in inr (omega (arith, ints))
      ]
  none_compares NotEqual places bound fit out =
      let other = least_sum-opposites (denied trail.declared clause) places in
      let up = exceeds_denied places (bound -ℤ pos 1) fit out.0 in
      let down = exceeds_denied (opposites places) ((pos 0 -ℤ bound) -ℤ pos 1) (opposites_fit (length trail.declared) places fit) out.1 in
      let ends = ordered places fit in
      (omega (arith, ints), omega (arith, ints))

  pub fixed_switch : (switch : Term) (value : ℤ) → IsTerm (length trail.declared) switch → ((v : ℤ) → IsLeft trail.declared clause switch v → v ≡ value) → IsFixedTo (denied trail.declared clause) switch value
  fixed_switch switch value fits one = (one _ (end_left trail.declared clause switch false over fits some), one _ (end_left trail.declared clause switch true over fits some))

-- ---- the form is met

all_compare : (comparison : Comparison) (low high other_low other_high bound : ℤ) → other_low ≡ pos 0 -ℤ high → other_high ≡ pos 0 -ℤ low → NoneCompares (other_comparison comparison) other_low other_high (other_bound comparison bound) → AllCompare comparison low high bound
all_compare AtMost low high other_low other_high bound e f none = omega (arith, ints)
all_compare Equal low high other_low other_high bound e f none = (omega (arith, ints), omega (arith, ints))
all_compare NotEqual low high other_low other_high bound e f none = elim none [ inl below ↦ inr (omega (arith, ints)) | inr above ↦ inl (omega (arith, ints)) ]

-- the clause leaves the switch its one value
one_left : (trail : Levels) (clause : List Lit) (switch : Term) (on : Bool) → MayBe trail.sets switch (value_where on) → (v : ℤ) → IsLeft trail.declared (clause ++ guard_of (Some switch) on) switch v → v ≡ value_where on
one_left trail clause (Constant k) on may v left = left ∙ may
one_left trail clause (Variable var) on may v left =
    let lit : Lit = record { var = var; op = op.NotEqual; value = value_where on } in
    value_where_false lit refl v (last_fails trail.declared clause lit v left)

module _ (trail : Levels) (clause : List Lit) (comparison : Comparison) (places : List Place) (bound : ℤ) (fit : All (IsPlace (length trail.declared)) places) where
  excluded : (switch : Option Term) (on : Bool) → IsSwitch (length trail.declared) switch → MayBeSwitchAt trail.sets switch on → IsClauseOver (length trail.declared) (clause ++ guard_of switch on) → is_some_empty (denied trail.declared (clause ++ guard_of switch on)) ≡ false → (let side = form_where on (form places comparison bound switch) in RulesOut trail (clause ++ guard_of switch on) side.comparison side.places side.bound) → IsFormMet (form places comparison bound switch) (denied trail.declared (clause ++ guard_of switch on))
  excluded None true fits may over some out = none_compares trail (clause ++ []) over some comparison places bound fit out
  excluded None false fits may over some out = absurd (true≢false (sym may))
  excluded (Some switch) true fits may over some out =
      let all = clause ++ guard_of (Some switch) true in
      inl (fixed_switch trail all over some switch (pos 1) fits (one_left trail clause switch true may), none_compares trail all over some comparison places bound fit out)
  excluded (Some switch) false fits may over some out =
      let all = clause ++ guard_of (Some switch) false in
      let sets = denied trail.declared all in
      inr (
        fixed_switch trail all over some switch (pos 0) fits (one_left trail clause switch false may),
        all_compare comparison (least_sum sets places) (greatest_sum sets places) (least_sum sets (opposites places)) (greatest_sum sets (opposites places)) bound (least_sum-opposites sets places) (greatest_sum-opposites sets places)
            (none_compares trail all over some (other_comparison comparison) (opposites places) (other_bound comparison bound) (opposites_fit (length trail.declared) places fit) out),
      )

-- ---- how a clause and the literal of its switch stand

module _ (trail : Levels) (clause : List Lit) where
  -- one more literal, which is false
  forcing_more : (lit : Lit) → IsVariable (length trail.declared) lit.var → IsWritable lit → is_possible (set_of trail.sets lit.var) lit ≡ false → IsForcing trail clause → IsForcing trail (clause ++ lit ∷ [])
  forcing_more lit variable writable impossible forcing =
      let same : possible_in trail.sets (clause ++ lit ∷ []) ≡ possible_in trail.sets clause =
      filter-append (λ (l : Lit). is_possible (set_of trail.sets l.var) l) clause (lit ∷ []) ∙ ap (λ (b : Bool). possible_in trail.sets clause ++ cond b (lit ∷ []) []) impossible ∙ append-nil (possible_in trail.sets clause) in
      record {
        over = All-push (λ (l : Lit). IsVariable (length trail.declared) l.var) clause lit forcing.over variable;
        writable = All-push IsWritable clause lit forcing.writable writable;
        forces = elim forcing.forces [
          | inl none ↦ inl (same ∙ none)
          | inr (one, unit) ↦ inr (one, record { only = same ∙ unit.only; not_yet_true = unit.not_yet_true })
        ];
      }

  writable_guard : (on : Bool) → IsNearLimits (value_where on)
  writable_guard true = (omega (arith, ints), omega (arith, ints))
  writable_guard false = (omega (arith, ints), omega (arith, ints))

  least_of_one : (s : IntSet) (v : ℤ) → contains s v ≡ true → least s ≡ greatest s → least s ≡ v
  least_of_one s v may one = let low = least_le s v may in let high = le_greatest s v may in omega (arith, ints)

  -- a clause that is false
  forcing_false : (switch : Option Term) (on : Bool) → IsSwitch (length trail.declared) switch → MayBeSwitchAt trail.sets switch on → IsFalseClause trail clause → IsForcing trail (clause ++ guard_of switch on)
  forcing_false None on fits may still = rw (append-nil clause) (forcing_of_false trail clause still)
  forcing_false (Some (Constant k)) on fits may still = rw (append-nil clause) (forcing_of_false trail clause still)
  forcing_false (Some (Variable var)) on fits may still =
      let lit : Lit = record { var = var; op = op.NotEqual; value = value_where on } in
      forcing_push trail clause lit still fits (writable_guard on) (may_fail lit refl (set_of trail.sets var) may)

  -- one that forces a literal, where the switch has one value
  forcing_decided : (switch : Option Term) (on : Bool) → IsSwitch (length trail.declared) switch → MayBeSwitchAt trail.sets switch on → IsSwitchFixed trail.sets switch → IsForcing trail clause → IsForcing trail (clause ++ guard_of switch on)
  forcing_decided None on fits may one forcing = rw (append-nil clause) forcing
  forcing_decided (Some (Constant k)) on fits may one forcing = rw (append-nil clause) forcing
  forcing_decided (Some (Variable var)) on fits may one forcing =
      let lit : Lit = record { var = var; op = op.NotEqual; value = value_where on } in
      forcing_more lit fits (writable_guard on) (denied_one lit refl (set_of trail.sets var) one (least_of_one (set_of trail.sets var) (value_where on) may one)) forcing

-- ---- what refutes a side

module _ (side : Side) (clause : List Lit) where
  cause_by : IsForcing side.pass.trail.now (clause ++ guard_of side.pass.form.now.switch side.on) → RulesOut side.pass.trail.now clause side.sum.now.comparison side.sum.now.places side.sum.now.bound → IsInferredGuarded side clause
  cause_by forcing out = record {
    forcing = forcing;
    met = λ some.
        let trail = side.pass.trail.now in
        let found = form_of_sum side.pass.form.now in
        let more = rules_out-more trail clause (guard_of found.switch side.on) side.sum.now.comparison side.sum.now.places side.sum.now.bound out in
        excluded trail clause found.comparison found.places found.bound side.pass.ready.on.places_fit found.switch side.on side.pass.ready.switch_fits side.may forcing.over some
        (subst (λ (f : Form). RulesOut side.pass.trail.now (clause ++ guard_of side.pass.form.now.switch side.on) f.comparison f.places f.bound) side.sum_is more);
  }

  pub cause_of_conflict : IsSumConflict side.pass.trail.now side.sum.now.comparison side.sum.now.places side.sum.now.bound clause → IsInferredGuarded side clause
  cause_of_conflict conflict = cause_by (forcing_false side.pass.trail.now clause side.pass.form.now.switch side.on side.pass.ready.switch_fits side.may conflict.still) conflict.rules_out

  pub cause_of_refutation : IsSwitchFixed side.pass.trail.now.sets side.pass.form.now.switch → IsRefutation side.pass.trail.now side.sum.now.comparison side.sum.now.places side.sum.now.bound clause → IsInferredGuarded side clause
  cause_of_refutation one refutes = cause_by (forcing_decided side.pass.trail.now clause side.pass.form.now.switch side.on side.pass.ready.switch_fits side.may one refutes.forcing) refutes.rules_out

  -- and of a part of it
  module _ (part : Inequality) (is : IsBoundOfSide side part) where
    pub cause_of_excess : IsSumConflict part.trail.now AtMost part.places.now part.bound clause → IsInferredGuarded side clause
    cause_of_excess conflict = cause_of_conflict (record {
      still = subst (λ (t : Levels). IsFalseClause t clause) is.trail_is conflict.still;
      rules_out = is.rules_out side.pass.trail.now clause (subst (λ (t : Levels). Exceeds t clause part.places.now part.bound) is.trail_is conflict.rules_out);
    })

    pub cause_of_forced : IsSwitchFixed side.pass.trail.now.sets side.pass.form.now.switch → IsRefutation part.trail.now AtMost part.places.now part.bound clause → IsInferredGuarded side clause
    cause_of_forced one refutes = cause_of_refutation one (record {
      forcing = subst (λ (t : Levels). IsForcing t clause) is.trail_is refutes.forcing;
      rules_out = is.rules_out side.pass.trail.now clause (subst (λ (t : Levels). Exceeds t clause part.places.now part.bound) is.trail_is refutes.rules_out);
    })

-- ---- the parts of a side

module _ (side : Side) (part : Inequality) (trail_is : part.trail.now ≡ side.pass.trail.now) where
  part_by : (comparison : Comparison) → side.sum.now.comparison ≡ comparison → ((trail : Levels) (clause : List Lit) → Exceeds trail clause part.places.now part.bound → RulesOut trail clause comparison side.sum.now.places side.sum.now.bound) → IsBoundOfSide side part
  part_by comparison is out = record {
    trail_is = trail_is;
    rules_out = λ trail clause exceeds. subst (λ (k : Comparison). RulesOut trail clause k side.sum.now.places side.sum.now.bound) (sym is) (out trail clause exceeds);
  }

  exceeds_as : (places : List Place) (bound : ℤ) → part.places.now ≡ places → part.bound ≡ bound → (trail : Levels) (clause : List Lit) → Exceeds trail clause part.places.now part.bound → Exceeds trail clause places bound
  exceeds_as places bound places_are bound_is trail clause exceeds =
      subst (λ (b : ℤ). Exceeds trail clause places b) bound_is (subst (λ (ps : List Place). Exceeds trail clause ps part.bound) places_are exceeds)

  module _ (places_are : part.places.now ≡ side.sum.now.places) (bound_is : part.bound ≡ side.sum.now.bound) where
    pub part_alone : side.sum.now.comparison ≡ AtMost → IsBoundOfSide side part
    part_alone is = part_by AtMost is (exceeds_as side.sum.now.places side.sum.now.bound places_are bound_is)

    pub part_above : side.sum.now.comparison ≡ Equal → IsBoundOfSide side part
    part_above is = part_by Equal is (λ trail clause exceeds. inl (exceeds_as side.sum.now.places side.sum.now.bound places_are bound_is trail clause exceeds))

  pub part_below : part.places.now ≡ opposites side.sum.now.places → part.bound ≡ pos 0 -ℤ side.sum.now.bound → side.sum.now.comparison ≡ Equal → IsBoundOfSide side part
  part_below places_are bound_is is = part_by Equal is (λ trail clause exceeds. inr (exceeds_as (opposites side.sum.now.places) (pos 0 -ℤ side.sum.now.bound) places_are bound_is trail clause exceeds))

-- the sum of a call is that of the side
pub as_sum : (P : Comparison → List Place → ℤ → Type 0) (sum : SumForm) (places : List Place) (bound : ℤ) → sum.comparison ≡ NotEqual → places ≡ sum.places → bound ≡ sum.bound → P NotEqual places bound → P sum.comparison sum.places sum.bound
as_sum P sum places bound is places_are bound_is h =
    subst (λ (k : Comparison). P k sum.places sum.bound) (sym is) (subst (λ (ps : List Place). P NotEqual ps sum.bound) places_are (subst (λ (b : ℤ). P NotEqual places b) bound_is h))
