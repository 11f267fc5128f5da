-- What a change makes of what the parts of a row weigh more than its bound.
use Rattle.std.proofs.Common.{◌≡◌, Bool, true, false, cond, eqb, List, [], ◌∷◌, ◌++◌, map, refl, sym, ap, ◌∙◌, subst, inl, inr, arith, ℤ, pos, ◌+ℤ◌, ◌-ℤ◌, ◌*ℤ◌, ◌≤ℤ◌, Option, None, Some, IsSome, unwrap_or, Result, Ok, Err, All}
use Rattle.std.proofs.lemmas.Int.{ints}
use Rattle.std.proofs.lemmas.Bool.{eq-eqb, ne_eqb, cases_eq}
use Rattle.std.proofs.lemmas.List.Elements.{All-nil, All-cons, All-head, All-tail, All-map, All-append}
use Rattle.fzn_domain.specs.declared.literal.VarId.{VarId}
use Rattle.fzn_domain.specs.Narrow.{value_of}
use Rattle.fzn_cited.specs.declared.fault.DeriveFault.{DeriveFault}
use Rattle.fzn_cited.specs.declared.fault.DeriveFault.TheVariants.{NotDerived}
use Rattle.fzn_meaning.specs.declared.row.VariablePart.{VariablePart}
use Rattle.fzn_meaning.specs.declared.row.Part.{Part}
use Rattle.fzn_meaning.specs.declared.row.Part.TheVariants.{Variable, Table}
use Rattle.fzn_meaning.specs.Separable.{weighed, listed_at, weight_of, total_weight, RowHolds}
use Rattle.fzn_dependence.proofs.IntLemmas.{plus_times}
use Rattle.fzn_weights.specs.Limits.{is_row_number, is_coefficient}
use Rattle.fzn_row.specs.declared.room.BegunTable.{BegunTable}
use Rattle.fzn_row.specs.Draft.{Draft, row_of, blank_part, part_for, with_part, with_bound, with_coefficient, and_then, in_turn}
use Rattle.fzn_row.proofs.IntLemmas.{zero_times}
use Rattle.fzn_row.proofs.PartLemmas.{var-part_for}

pub total-nil : (values : List ℤ) → total_weight values [] ≡ pos 0
unfolding total_weight
total-nil values = refl

total-part : (values : List ℤ) (part : Part) (parts : List Part) → total_weight values (part ∷ parts) ≡ unwrap_or (weight_of values part) (pos 0) +ℤ total_weight values parts
unfolding total_weight
total-part values part parts = refl

pub total-cons : (values : List ℤ) (part : VariablePart) (parts : List VariablePart) → total_weight values (map Variable (part ∷ parts)) ≡ unwrap_or (weight_of values (Variable part)) (pos 0) +ℤ total_weight values (map Variable parts)
total-cons values part parts = total-part values (Variable part) (map Variable parts)

-- the tables as parts of a row
abbrev pub table_parts : List BegunTable → List Part
table_parts tables = map (λ begun. Table begun.part) tables

pub total-table : (values : List ℤ) (begun : BegunTable) (tables : List BegunTable) → total_weight values (table_parts (begun ∷ tables)) ≡ unwrap_or (weight_of values (Table begun.part)) (pos 0) +ℤ total_weight values (table_parts tables)
total-table values begun tables = total-part values (Table begun.part) (table_parts tables)

total-both : (values : List ℤ) (first second : List Part) → total_weight values (first ++ second) ≡ total_weight values first +ℤ total_weight values second
total-both values [] second = let e = total-nil values in omega (arith, ints)
total-both values (part ∷ parts) second =
    let a = total-part values part (parts ++ second) in
    let b = total-part values part parts in
    let rest = total-both values parts second in
    omega (arith, ints)

pub all-unmap : {A B : Type 0} (P : B → Type 0) (f : A → B) (xs : List A) → All P (map f xs) → All (λ x. P (f x)) xs
all-unmap P f [] all = All-nil (λ x. P (f x))
all-unmap P f (x ∷ xs) all = All-cons (λ x. P (f x)) x xs (All-head P (f x) (map f xs) all) (all-unmap P f xs (All-tail P (f x) (map f xs) all))

pub all-front : {A : Type 0} (P : A → Type 0) (xs ys : List A) → All P (xs ++ ys) → All P xs
all-front P [] ys all = All-nil P
all-front P (x ∷ xs) ys all = All-cons P x xs (All-head P x (xs ++ ys) all) (all-front P xs ys (All-tail P x (xs ++ ys) all))

pub all-back : {A : Type 0} (P : A → Type 0) (xs ys : List A) → All P (xs ++ ys) → All P ys
all-back P [] ys all = all
all-back P (x ∷ xs) ys all = all-back P xs ys (All-tail P x (xs ++ ys) all)

pub some_of : {A : Type 0} (o : Option A) → IsSome o → (w : A) × (o ≡ Some w)
some_of None some = absurd (cc)
some_of (Some w) some = (w, refl)

pub some_is : (o : Option ℤ) (w : ℤ) → o ≡ Some w → IsSome o
some_is o w is = rw is refl

pub amount_is : (o : Option ℤ) (w : ℤ) → o ≡ Some w → unwrap_or o (pos 0) ≡ w
amount_is o w is = rw is refl

pub no_error : (fault : DeriveFault) (after : Draft) → ◌≡◌ {A = Result Draft DeriveFault} (Err fault) (Ok after) → ⊥
no_error fault after e = cc

-- what is not refused is made
pub kept : (test : Bool) (made draft : Draft) → cond test (Ok made) (Err NotDerived) ≡ Ok draft → made ≡ draft
kept true made draft is = cc
kept false made draft is = absurd (no_error NotDerived draft is)

module _ (values : List ℤ) where
  abbrev pub Unbarred : List VariablePart → Type 0
  Unbarred parts = All (λ part. IsSome (weight_of values (Variable part))) parts

  pub blank_part-weight : (var : VarId) → weight_of values (Variable (blank_part var)) ≡ Some (pos 0)
  blank_part-weight var = ap (λ (x : ℤ). Some x) (let e = zero_times (value_of values var) in omega (arith, ints))

  -- the part of a variable weighs something where no part is barred
  pub part-weight : (var : VarId) (parts : List VariablePart) → Unbarred parts → IsSome (weight_of values (Variable (part_for var parts)))
  part-weight var [] unbarred = some_is _ _ (blank_part-weight var)
  part-weight var (part ∷ parts) unbarred = pick (eqb part.var.0 var.0) (All-head (λ (p : VariablePart). IsSome (weight_of values (Variable p))) part parts unbarred) (part-weight var parts (All-tail (λ (p : VariablePart). IsSome (weight_of values (Variable p))) part parts unbarred))
    where
      pick : (test : Bool) → IsSome (weight_of values (Variable part)) → IsSome (weight_of values (Variable (part_for var parts))) → IsSome (weight_of values (Variable (cond test part (part_for var parts))))
      pick true here there = here
      pick false here there = there

  -- another part of a variable changes what all weigh by what the two differ
  pub record IsPut (new : VariablePart) (parts : List VariablePart) (before after : ℤ) : Type 0 where
    pub unbarred : Unbarred (with_part new parts)
    pub total : total_weight values (map Variable (with_part new parts)) +ℤ before ≡ total_weight values (map Variable parts) +ℤ after

  pub put-weight : (new : VariablePart) (parts : List VariablePart) (before after : ℤ) → Unbarred parts → weight_of values (Variable (part_for new.var parts)) ≡ Some before → weight_of values (Variable new) ≡ Some after → IsPut new parts before after
  put-weight new [] before after unbarred was is = record {
    unbarred = All-cons (λ (p : VariablePart). IsSome (weight_of values (Variable p))) new [] (some_is _ _ is) (All-nil (λ (p : VariablePart). IsSome (weight_of values (Variable p))));
    total =
        let none : before ≡ pos 0 = one_value before (pos 0) (sym was ∙ blank_part-weight new.var) in
        let a = total-cons values new [] in
        let b = total-nil values in
        let d = amount_is (weight_of values (Variable new)) after is in
        omega (arith, ints);
  }
    where
      one_value : (a b : ℤ) → ◌≡◌ {A = Option ℤ} (Some a) (Some b) → a ≡ b
      one_value a b e = cc
  put-weight new (part ∷ parts) before after unbarred was is = elim (cases_eq part.var.0 new.var.0) [
    | inl same ↦
        let test = eq-eqb part.var.0 new.var.0 same in
        let was_here : weight_of values (Variable part) ≡ Some before = ap (λ (b : Bool). weight_of values (Variable (cond b part (part_for new.var parts)))) (sym test) ∙ was in
        let form : with_part new (part ∷ parts) ≡ new ∷ parts = ap (λ (b : Bool). cond b (new ∷ parts) (part ∷ with_part new parts)) test in
        record {
          unbarred = subst Unbarred (sym form) (All-cons (λ (p : VariablePart). IsSome (weight_of values (Variable p))) new parts (some_is _ _ is) rest_unbarred);
          total =
              let a = ap (λ (ps : List VariablePart). total_weight values (map Variable ps)) form ∙ total-cons values new parts in
              let b = total-cons values part parts in
              let d = amount_is (weight_of values (Variable new)) after is in
              let e = amount_is (weight_of values (Variable part)) before was_here in
              omega (arith, ints);
        }
    | inr other ↦
        let test = ne_eqb part.var.0 new.var.0 other in
        let was_there : weight_of values (Variable (part_for new.var parts)) ≡ Some before = ap (λ (b : Bool). weight_of values (Variable (cond b part (part_for new.var parts)))) (sym test) ∙ was in
        let form : with_part new (part ∷ parts) ≡ part ∷ with_part new parts = ap (λ (b : Bool). cond b (new ∷ parts) (part ∷ with_part new parts)) test in
        let there = put-weight new parts before after rest_unbarred was_there is in
        record {
          unbarred = subst Unbarred (sym form) (All-cons (λ (p : VariablePart). IsSome (weight_of values (Variable p))) part (with_part new parts) (All-head (λ (p : VariablePart). IsSome (weight_of values (Variable p))) part parts unbarred) there.unbarred);
          total =
              let a = ap (λ (ps : List VariablePart). total_weight values (map Variable ps)) form ∙ total-cons values part (with_part new parts) in
              let b = total-cons values part parts in
              omega (arith, ints, there.total);
        }
  ]
    where
      rest_unbarred : Unbarred parts
      rest_unbarred = All-tail (λ (p : VariablePart). IsSome (weight_of values (Variable p))) part parts unbarred

  abbrev pub NoneBarred : List BegunTable → Type 0
  NoneBarred tables = All (λ begun. IsSome (weight_of values (Table begun.part))) tables

  -- no part is barred, and the parts weigh so much more than the bound
  pub record Exceeds (draft : Draft) (excess : ℤ) : Type 0 where
    pub unbarred : Unbarred draft.parts
    pub tables : NoneBarred draft.tables
    pub is : total_weight values (map Variable draft.parts) +ℤ total_weight values (table_parts draft.tables) -ℤ draft.bound ≡ excess

  pub exceeds-same : (draft : Draft) (a b : ℤ) → a ≡ b → Exceeds draft a → Exceeds draft b
  exceeds-same draft a b e h = subst (Exceeds draft) e h

  abbrev Weighs : Part → Type 0
  Weighs part = IsSome (weight_of values part)

  pub exceeds-holds : (draft : Draft) (excess : ℤ) → Exceeds draft excess → excess ≤ℤ pos 0 → RowHolds (row_of draft) values
  exceeds-holds draft excess h least = record {
    none_barred = All-append Weighs (map Variable draft.parts) (table_parts draft.tables) (All-map Weighs Variable draft.parts h.unbarred) (All-map Weighs (λ (begun : BegunTable). Table begun.part) draft.tables h.tables);
    most =
        let e = h.is in
        let t = total-both values (map Variable draft.parts) (table_parts draft.tables) in
        omega (arith, ints);
  }

  pub holds-exceeds : (draft : Draft) → RowHolds (row_of draft) values → (excess : ℤ) × (excess ≤ℤ pos 0) × Exceeds draft excess
  holds-exceeds draft h = (
    total_weight values (map Variable draft.parts) +ℤ total_weight values (table_parts draft.tables) -ℤ draft.bound,
    (let m = h.most in let t = total-both values (map Variable draft.parts) (table_parts draft.tables) in omega (arith, ints)),
    record {
      unbarred = all-unmap Weighs Variable draft.parts (all-front Weighs (map Variable draft.parts) (table_parts draft.tables) h.none_barred);
      tables = all-unmap Weighs (λ (begun : BegunTable). Table begun.part) draft.tables (all-back Weighs (map Variable draft.parts) (table_parts draft.tables) h.none_barred);
      is = refl;
    },
  )

  pub bound-exceeds : (bound : ℤ) (draft after : Draft) (excess : ℤ) → Exceeds draft excess → with_bound bound draft ≡ Ok after → Exceeds after ((excess +ℤ draft.bound) -ℤ bound)
  bound-exceeds bound draft after excess h is =
      subst (λ (d : Draft). Exceeds d ((excess +ℤ draft.bound) -ℤ bound)) (kept (is_row_number bound) (record draft { bound = bound }) after is)
      (record { unbarred = h.unbarred; tables = h.tables; is = let e = h.is in omega (arith, ints) })

  more-weight : (c a v : ℤ) (entry : Option ℤ) (w : ℤ) → weighed c v entry ≡ Some w → weighed (c +ℤ a) v entry ≡ Some (w +ℤ a *ℤ v)
  more-weight c a v None w is = absurd (no_weight w is)
    where
      no_weight : (w : ℤ) → ◌≡◌ {A = Option ℤ} None (Some w) → ⊥
      no_weight w e = cc
  more-weight c a v (Some x) w is =
      let same : (c *ℤ v) +ℤ x ≡ w = one_value _ _ is in
      let e = plus_times c a v in
      ap (λ (y : ℤ). Some y) (omega (arith, ints))
    where
      one_value : (a b : ℤ) → ◌≡◌ {A = Option ℤ} (Some a) (Some b) → a ≡ b
      one_value a b e = cc

  pub coefficient-exceeds : (var : VarId) (amount : ℤ) (draft after : Draft) (excess : ℤ) → Exceeds draft excess → with_coefficient var ((part_for var draft.parts).coefficient +ℤ amount) draft ≡ Ok after → Exceeds after (excess +ℤ amount *ℤ value_of values var)
  coefficient-exceeds var amount draft after excess h is =
      let old = part_for var draft.parts in
      let new : VariablePart = record old { coefficient = old.coefficient +ℤ amount } in
      let v = value_of values old.var in
      let of = var-part_for var draft.parts in
      let had = some_of (weight_of values (Variable old)) (part-weight var draft.parts h.unbarred) in
      let had_new : weight_of values (Variable (part_for new.var draft.parts)) ≡ Some had.0 = ap (λ (x : VarId). weight_of values (Variable (part_for x draft.parts))) of ∙ had.1 in
      let has : weight_of values (Variable new) ≡ Some (had.0 +ℤ amount *ℤ v) = more-weight old.coefficient amount v (listed_at old.listed v) had.0 had.1 in
      let put = put-weight new draft.parts had.0 (had.0 +ℤ amount *ℤ v) h.unbarred had_new has in
      let at = ap (λ (x : VarId). amount *ℤ value_of values x) of in
      subst (λ (d : Draft). Exceeds d (excess +ℤ amount *ℤ value_of values var)) (kept (is_coefficient (old.coefficient +ℤ amount)) (record draft { parts = with_part new draft.parts }) after is)
      (record { unbarred = put.unbarred; tables = h.tables; is = let e = h.is in let t = put.total in omega (arith, ints) })

-- ---- in turn

pub then-both : {A : Type 0} (first : Result Draft DeriveFault) (next : Draft → Result A DeriveFault) (after : A) → and_then first next ≡ Ok after → (middle : Draft) × (first ≡ Ok middle) × (next middle ≡ Ok after)
then-both (Ok middle) next after is = (middle, refl, is)
then-both {A} (Err fault) next after is = absurd (no_value is)
  where
    no_value : ◌≡◌ {A = Result A DeriveFault} (Err fault) (Ok after) → ⊥
    no_value e = cc

-- what each change keeps, all of them keep
pub turn-keeps : {A : Type 0} (change : Draft → A → Result Draft DeriveFault) (P : Draft → Type 0) (xs : List A) (draft after : Draft) → All (λ x. (before next : Draft) → P before → change before x ≡ Ok next → P next) xs → P draft → in_turn change draft xs ≡ Ok after → P after
turn-keeps change P [] draft after each holds is = subst P (same draft after is) holds
  where
    same : (a b : Draft) → ◌≡◌ {A = Result Draft DeriveFault} (Ok a) (Ok b) → a ≡ b
    same a b e = cc
turn-keeps change P (x ∷ xs) draft after each holds is =
    let parts = then-both (change draft x) (λ next. in_turn change next xs) after is in
    turn-keeps change P xs parts.0 after (All-tail (λ x. (before next : Draft) → P before → change before x ≡ Ok next → P next) x xs each) (All-head (λ x. (before next : Draft) → P before → change before x ≡ Ok next → P next) x xs each draft parts.0 holds parts.1) parts.2
