-- One multiple more, or one that cannot be added.
use Rattle.std.proofs.Common.{◌≡◌, ◌⊎◌, ℕ, ◌+◌, ◌-◌, ◌<◌, ◌≤◌, List, [], ◌∷◌, ◌++◌, take, length, get_or, replicate, All, refl, sym, ap, subst, ◌∙◌, inl, inr, arith, ℤ, pos, ◌+ℤ◌, ◌*ℤ◌, Option, Some, None, IfSome, IsSome, IsSomeAnd, Result, Ok, Err, IfErr, unsigned_abs}
use Rattle.std.specs.Option.{option_and_then, option_map_or}
use Rattle.std.proofs.lemmas.Int.{ints}
use Rattle.std.proofs.lemmas.Bool.{cases_eq, cases_lt}
use Rattle.std.proofs.lemmas.List.{take_more, take_all, append-nil, get_or-replicate, get_or_past, length-replicate}
use Rattle.fzn_values.specs.declared.term.Place.{Place}
use Rattle.fzn_meaning.specs.declared.constraint.Constraint.{Constraint}
use Rattle.fzn_builtin_rules.specs.Form.{Form, form_of}
use Rattle.fzn_cited.specs.declared.multiple.Multiple.{Multiple}
use Rattle.fzn_derive.specs.declared.adder.Cell.{Cell}
use Rattle.fzn_derive.specs.declared.adder.Adder.{Adder}
use Rattle.fzn_cited.specs.declared.fault.DeriveFault.{DeriveFault}
use Rattle.fzn_cited.specs.declared.fault.DeriveFault.TheVariants.{Memory, NoSuchVariable, NoSuchConstraint, NotDerived}
use Rattle.fzn_cited.specs.Cited.{constraint_at, IsGiven}
use Rattle.fzn_derive.specs.Merged.{coefficient_of, constant_of}
use Rattle.fzn_derive.specs.Summed.{form_given, times, scaled, scaled_all, scaled_bounds, bound_left, IsUsable, multiple_at, IsCitedAt, IsAddableAt, AreAddable, IsFaultAt, IsFirstSumFault}
use Rattle.fzn_derive.specs.Room.{variables_in, blank, cell_of, HoldsNothing, ListsTouched, AreCounted, IsWithinLimit, AreWithinLimit, bound_with, IsPastLimit, IsUsableForm, IsMultipleAdded, IsMultipleFault, AreSummedUp}
use Rattle.fzn_derive.proofs.MergedLemmas.{coefficient_of-nil, coefficient_of-append, constant_of-nil, constant_of-append}
use Rattle.fzn_derive.proofs.SummedLemmas.{scaled_all-nil, scaled_all-push, scaled_bounds-nil, scaled_bounds-push, bound_left-is}

-- the first so many have been added
pub record IsSumming (given : List Constraint) (multiples : List Multiple) (i : ℕ) (room : Adder) (bound : ℤ) : Type 0 where
  pub addable : AreAddable given multiples i
  pub counted : AreCounted room (scaled_all given (take i multiples))
  pub bound_is : bound ≡ bound_left given (take i multiples)
  pub sums_within : AreWithinLimit room
  pub bound_within : IsWithinLimit bound

replicate-blank : (count k : ℕ) → get_or (replicate count blank) k blank ≡ blank
replicate-blank count k = elim (cases_lt k count) [
  | inl inside ↦ get_or-replicate count k blank blank inside
  | inr past ↦ get_or_past (replicate count blank) k blank (omega (arith, length-replicate count blank))
]

clear-blank : (count : ℕ) (room : Adder) → HoldsNothing count room → (k : ℕ) → cell_of room k ≡ blank
clear-blank count room clear k = ap (λ (cells : List Cell). get_or cells k blank) clear.cells ∙ replicate-blank count k

pub clear-variables : (count : ℕ) (room : Adder) → HoldsNothing count room → variables_in room ≡ count
clear-variables count room clear = ap (λ (cells : List Cell). length cells) clear.cells ∙ length-replicate count blank

-- a clear room is in order, and nothing has been added in it
pub clear-listed : (count : ℕ) (room : Adder) → HoldsNothing count room → ListsTouched room
clear-listed count room clear = record {
  listed = λ k. inl (clear-blank count room clear k);
  inside = subst (λ (ns : List ℕ). All (λ (n : ℕ). n < length room.cells.items) ns) (sym clear.touched) (λ k d inside. absurd (omega arith));
}

pub summing-none : (given : List Constraint) (multiples : List Multiple) (count : ℕ) (room : Adder) → HoldsNothing count room → IsSumming given multiples 0 room (pos 0)
summing-none given multiples count room clear = record {
  addable = λ j below. absurd (omega arith);
  counted = λ k. ap (λ (c : Cell). c.sum) (clear-blank count room clear k) ∙ sym (ap (coefficient_of (k + 1)) (scaled_all-nil given) ∙ coefficient_of-nil (k + 1));
  bound_is =
      let is = bound_left-is given [] in
      let bounds = scaled_bounds-nil given in
      let places = ap constant_of (scaled_all-nil given) in
      let none = constant_of-nil in
      omega (arith, ints);
  sums_within = λ k. subst (λ (c : Cell). IsWithinLimit c.sum) (sym (clear-blank count room clear k)) (omega arith);
  bound_within = omega arith;
}

-- in the end all have been added
pub summing-all : (given : List Constraint) (multiples : List Multiple) (i : ℕ) (room : Adder) (bound : ℤ) → length multiples ≤ i → IsSumming given multiples i room bound → AreSummedUp given room multiples bound
summing-all given multiples i room bound past so_far =
    let all = take_all i multiples past in record {
      addable = λ j below. so_far.addable j (omega arith);
      counted = subst (λ (ms : List Multiple). AreCounted room (scaled_all given ms)) all so_far.counted;
      bound_is = so_far.bound_is ∙ ap (bound_left given) all;
    }

-- a constraint with a form is given
given-form : (o : Option Constraint) (found : Form) → option_and_then form_of o ≡ Some found → IsSome o
given-form None found is = absurd (cc)
given-form (Some c) found is = refl

-- a form that leaves the limits is a fault of its multiple
pub past-fault : {T : Type 0} (given : List Constraint) (room : Adder) (bound so_far by : ℤ) (multiple : Multiple) (found : Form) (result : Result T DeriveFault) → so_far ≡ bound → by ≡ multiple.multiplier → IsUsableForm given multiple found
    → IfErr result (λ (fault : DeriveFault). (fault ≡ Memory) ⊎ ((fault ≡ NotDerived) × IsPastLimit room so_far by found))
    → IfErr result (λ (fault : DeriveFault). (fault ≡ Memory) ⊎ IsMultipleFault given room bound multiple fault)
past-fault given room bound so_far by multiple found (Ok x) bound_is by_is usable past = tt
past-fault given room bound so_far by multiple found (Err fault) bound_is by_is usable (inl memory) = inl memory
past-fault given room bound so_far by multiple found (Err fault) bound_is by_is usable (inr past) =
    let here = subst (λ (k : ℤ). IsPastLimit room bound k found) by_is (subst (λ (b : ℤ). IsPastLimit room b by found) bound_is past.1) in
    inr (subst (IsMultipleFault given room bound multiple) (sym past.0) (
      given-form (constraint_at given multiple.constraint) found usable.form_is,
      λ other form_is may. subst (λ (o : Option Form). IfSome o (λ (f : Form). IsPastLimit room bound multiple.multiplier f)) (sym usable.form_is ∙ form_is) here,
    ))

some_of : (P : Form → Type 0) (o : Option Form) → IsSomeAnd o P → (found : Form) × (o ≡ Some found) × P found
some_of P None has = absurd has
some_of P (Some found) has = (found, refl, has)

module _ (given : List Constraint) (multiples : List Multiple) (i : ℕ) (m : Multiple) (inside : i < length multiples) (m_is : multiple_at multiples i ≡ m) where
  next : take (i + 1) multiples ≡ take i multiples ++ m ∷ []
  next = take_more multiples i (record { multiplier = pos 0; constraint = 0 }) inside ∙ ap (λ (x : Multiple). take i multiples ++ x ∷ []) m_is

  module _ (found : Form) (form_is : form_given given m.constraint ≡ Some found) where
    scaled_all-next : scaled_all given (take (i + 1) multiples) ≡ scaled_all given (take i multiples) ++ times m.multiplier found.places
    scaled_all-next =
        ap (scaled_all given) next ∙ scaled_all-push given (take i multiples) m
        ∙ ap (λ (ps : List Place). scaled_all given (take i multiples) ++ ps) (append-nil (scaled given m) ∙ ap (λ (o : Option Form). option_map_or (λ (f : Form). times m.multiplier f.places) o []) form_is)

    scaled_bounds-next : scaled_bounds given (take (i + 1) multiples) ≡ scaled_bounds given (take i multiples) +ℤ m.multiplier *ℤ found.bound
    scaled_bounds-next =
        ap (scaled_bounds given) next ∙ scaled_bounds-push given (take i multiples) m
        ∙ ap (λ (o : Option Form). scaled_bounds given (take i multiples) +ℤ option_map_or (λ (f : Form). m.multiplier *ℤ f.bound) o (pos 0)) form_is

    bound_left-next : bound_left given (take (i + 1) multiples) ≡ bound_with (bound_left given (take i multiples)) m.multiplier found
    bound_left-next =
        let before = bound_left-is given (take i multiples) in
        let after = bound_left-is given (take (i + 1) multiples) in
        let bounds = scaled_bounds-next in
        let places = ap constant_of scaled_all-next in
        let both = constant_of-append (scaled_all given (take i multiples)) (times m.multiplier found.places) in
        omega (arith, ints)

    coefficient-next : (n : ℕ) → coefficient_of n (scaled_all given (take (i + 1) multiples)) ≡ coefficient_of n (scaled_all given (take i multiples)) +ℤ coefficient_of n (times m.multiplier found.places)
    coefficient-next n = ap (coefficient_of n) scaled_all-next ∙ coefficient_of-append n (scaled_all given (take i multiples)) (times m.multiplier found.places)

  pub summing-next : (first second : Adder) (bound after : ℤ) → IsSumming given multiples i first bound → IsMultipleAdded given first second bound m after → IsSumming given multiples (i + 1) second after
  summing-next first second bound after so_far new = record {
    addable = λ j below. elim (cases_eq j i) [
      | inl same ↦ subst (λ (n : ℕ). IsCitedAt given multiples n × IsAddableAt given multiples n) (sym same) (given_here, addable_here)
      | inr other ↦ so_far.addable j (omega arith)
    ];
    counted = counted;
    bound_is = bound_is;
    sums_within = new.added.sums_within;
    bound_within = new.added.bound_within;
  }
    where
      counted : AreCounted second (scaled_all given (take (i + 1) multiples))
      counted = λ place.
          let a = so_far.counted place in
          let b = new.added.added place in
          let c = coefficient-next new.found new.form.form_is (place + 1) in
          omega (arith, ints)

      bound_is : after ≡ bound_left given (take (i + 1) multiples)
      bound_is =
          let a = new.added.bound_is in
          let b = ap (λ (x : ℤ). bound_with x m.multiplier new.found) so_far.bound_is in
          a ∙ b ∙ sym (bound_left-next new.found new.form.form_is)

      given_here : IsCitedAt given multiples i
      given_here = subst (λ (x : Multiple). IsGiven given x.constraint) (sym m_is) (given-form (constraint_at given m.constraint) new.found new.form.form_is)

      addable_here : IsAddableAt given multiples i
      addable_here = record {
        usable = subst (λ (x : Multiple). IsSomeAnd (form_given given x.constraint) (IsUsable x.multiplier)) (sym m_is)
            (subst (λ (o : Option Form). IsSomeAnd o (IsUsable m.multiplier)) (sym new.form.form_is) new.form.usable);
        within = record {
          coefficients = λ number some.
              let e = counted (number - 1) in
              let n : number - 1 + 1 ≡ number = omega arith in
              subst (λ (k : ℕ). unsigned_abs (coefficient_of k (scaled_all given (take (i + 1) multiples))) ≤ 1000000000000000000) n
              (subst (λ (x : ℤ). unsigned_abs x ≤ 1000000000000000000) e (new.added.sums_within (number - 1)));
          bound = subst (λ (x : ℤ). unsigned_abs x ≤ 1000000000000000000) bound_is new.added.bound_within;
        };
      }

  pub fault-here : (room : Adder) (bound : ℤ) (fault : DeriveFault) → IsSumming given multiples i room bound → IsMultipleFault given room bound m fault → IsFaultAt given multiples i fault
  fault-here room bound Memory so_far here = here
  fault-here room bound NoSuchVariable so_far here = here
  fault-here room bound NoSuchConstraint so_far here = λ is. here (subst (λ (x : Multiple). IsGiven given x.constraint) m_is is)
  fault-here room bound NotDerived so_far here = (
    subst (λ (x : Multiple). IsGiven given x.constraint) (sym m_is) here.0,
    λ addable.
        let usable = subst (λ (x : Multiple). IsSomeAnd (form_given given x.constraint) (IsUsable x.multiplier)) m_is addable.usable in
        let form = some_of (IsUsable m.multiplier) (form_given given m.constraint) usable in
        here.1 form.0 form.1 form.2
        (λ place.
        let a = so_far.counted place in
        let c = coefficient-next form.0 form.1 (place + 1) in
        let e : coefficient_of (place + 1) (scaled_all given (take (i + 1) multiples)) ≡ (cell_of room place).sum +ℤ coefficient_of (place + 1) (times m.multiplier form.0.places) = omega (arith, ints) in
        subst (λ (x : ℤ). unsigned_abs x ≤ 1000000000000000000) e (addable.within.coefficients (place + 1) (omega arith)))
        (subst (λ (x : ℤ). unsigned_abs x ≤ 1000000000000000000)
        (bound_left-next form.0 form.1 ∙ sym (ap (λ (x : ℤ). bound_with x m.multiplier form.0) so_far.bound_is)) addable.within.bound),
  )

  -- so it is the first fault of all
  pub fault-first : (room : Adder) (bound : ℤ) (fault : DeriveFault) → IsSumming given multiples i room bound → (fault ≡ Memory) ⊎ IsMultipleFault given room bound m fault → (fault ≡ Memory) ⊎ IsFirstSumFault given multiples fault
  fault-first room bound fault so_far (inl is) = inl is
  fault-first room bound fault so_far (inr here) = inr (record { place = i; inside = inside; before = so_far.addable; here = fault-here room bound fault so_far here })
