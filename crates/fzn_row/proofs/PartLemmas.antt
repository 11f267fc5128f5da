-- The part of a variable among others, and where it stands.
use Rattle.std.proofs.Common.{◌≡◌, ◌≢◌, ℕ, zero, suc, ◌-◌, ◌<◌, Bool, true, false, cond, eqb, List, [], ◌∷◌, ◌++◌, length, get_or, set, refl, sym, ap, ◌∙◌, subst, inl, inr, arith, ℤ, Result, Ok, Option, IfSome}
use Rattle.std.proofs.lemmas.Bool.{eq-eqb, ne_eqb, eqb-true, cases_eq}
use Rattle.std.proofs.lemmas.List.{get_or_push, get_or_default, get_or-set_same, get_or-set_other, set-get_or, set_at, length_push, length-set}
use Rattle.std.proofs.lemmas.List.Elements.{All-head, All-tail}
use Rattle.fzn_domain.specs.declared.literal.VarId.{VarId}
use Rattle.std.proofs.lemmas.Bool.Decides.{nat_tests}
use Rattle.fzn_domain.specs.Narrow.{IsVariable}
use Rattle.fzn_meaning.specs.declared.row.Listed.{Listed}
use Rattle.fzn_meaning.specs.declared.row.VariablePart.{VariablePart}
use Rattle.fzn_meaning.specs.Separable.{IsCoefficient, IsWeightList, IsVariablePart}
use Rattle.fzn_cited.specs.declared.fault.DeriveFault.{DeriveFault}
use Rattle.fzn_weights.specs.Limits.{is_coefficient}
use Rattle.fzn_row.specs.declared.room.BegunTable.{BegunTable}
use Rattle.fzn_row.specs.Draft.{Draft, blank_part, part_for, with_part, with_coefficient}
use Rattle.fzn_row.specs.Room.{AreFound, IsAbsent, IsPlaceOfPart}

-- the first part of the variable stands at this place
pub record IsFirst (var : VarId) (parts : List VariablePart) (place : ℕ) : Type 0 where
  pub inside : place < length parts
  pub here : (d : VariablePart) → (get_or parts place d).var.0 ≡ var.0
  pub before : (k : ℕ) (d : VariablePart) → k < place → (get_or parts k d).var.0 ≢ var.0

later : (var : VarId) (part : VariablePart) (parts : List VariablePart) (place : ℕ) → IsFirst var (part ∷ parts) (suc place) → IsFirst var parts place
later var part parts place first = record {
  inside = let h = first.inside in omega arith;
  here = first.here;
  before = λ k d below. first.before (suc k) d (omega arith);
}

pub first-part_for : (var : VarId) (parts : List VariablePart) (place : ℕ) (d : VariablePart) → IsFirst var parts place → part_for var parts ≡ get_or parts place d
first-part_for var [] place d first = absurd (let h = first.inside in omega arith)
first-part_for var (part ∷ parts) zero d first = rw (eq-eqb part.var.0 var.0 (first.here d)) refl
first-part_for var (part ∷ parts) (suc place) d first =
    rw (ne_eqb part.var.0 var.0 (first.before 0 d (omega arith))) (first-part_for var parts place d (later var part parts place first))

pub first-with_part : (new : VariablePart) (parts : List VariablePart) (place : ℕ) → IsFirst new.var parts place → with_part new parts ≡ set parts place new
first-with_part new [] place first = absurd (let h = first.inside in omega arith)
first-with_part new (part ∷ parts) zero first = rw (eq-eqb part.var.0 new.var.0 (first.here part)) refl
first-with_part new (part ∷ parts) (suc place) first =
    rw (ne_eqb part.var.0 new.var.0 (first.before 0 part (omega arith))) (ap (λ (ps : List VariablePart). part ∷ ps) (first-with_part new parts place (later new.var part parts place first)))

pub absent-part_for : (var : VarId) (parts : List VariablePart) → IsAbsent var parts → part_for var parts ≡ blank_part var
absent-part_for var [] absent = refl
absent-part_for var (part ∷ parts) absent =
    rw (ne_eqb part.var.0 var.0 (All-head (λ (p : VariablePart). p.var.0 ≢ var.0) part parts absent)) (absent-part_for var parts (All-tail (λ (p : VariablePart). p.var.0 ≢ var.0) part parts absent))

pub absent-with_part : (new : VariablePart) (parts : List VariablePart) → IsAbsent new.var parts → with_part new parts ≡ parts ++ new ∷ []
absent-with_part new [] absent = refl
absent-with_part new (part ∷ parts) absent =
    rw (ne_eqb part.var.0 new.var.0 (All-head (λ (p : VariablePart). p.var.0 ≢ new.var.0) part parts absent)) (ap (λ (ps : List VariablePart). part ∷ ps) (absent-with_part new parts (All-tail (λ (p : VariablePart). p.var.0 ≢ new.var.0) part parts absent)))

same_var : (a b : VarId) → a.0 ≡ b.0 → a ≡ b
same_var a b e = ap (λ (n : ℕ). record { 0 = n }) e

first_of_same : (new : VariablePart) (var : VarId) (parts : List VariablePart) (place : ℕ) → new.var ≡ var → IsFirst var parts place → IsFirst new.var parts place
first_of_same new var parts place is first = subst (λ (v : VarId). IsFirst v parts place) (sym is) first

-- ---- where a slot leads

-- the part that a slot leads to is the first of its variable
pub slot-first : (var : VarId) (slots : List ℕ) (parts : List VariablePart) (slot : ℕ) → AreFound slots parts → slot ≡ get_or slots (var.0 - 1) 0 → slot < length parts → ((d : VariablePart) → (get_or parts slot d).var.0 ≡ var.0) → IsFirst var parts slot
slot-first var slots parts slot found is inside here = record {
  inside = inside;
  here = here;
  before = λ k d below same.
      let there : get_or slots ((get_or parts k d).var.0 - 1) 0 ≡ k = found k (get_or parts k d) (omega arith) (get_or_default parts k (get_or parts k d) d (omega arith)) in
      let at : get_or slots (var.0 - 1) 0 ≡ k = subst (λ (n : ℕ). get_or slots (n - 1) 0 ≡ k) same there in
      omega arith;
}

-- no part is of the variable where its slot leads to none
pub slot-absent : (var : VarId) (slots : List ℕ) (parts : List VariablePart) (slot : ℕ) → AreFound slots parts → slot ≡ get_or slots (var.0 - 1) 0 → (slot < length parts → (d : VariablePart) → (get_or parts slot d).var.0 ≢ var.0) → IsAbsent var parts
slot-absent var slots parts slot found is none k d inside same =
    let there : get_or slots ((get_or parts k d).var.0 - 1) 0 ≡ k = found k (get_or parts k d) inside (get_or_default parts k (get_or parts k d) d inside) in
    let at : slot ≡ k = is ∙ sym (ap (λ (n : ℕ). get_or slots (n - 1) 0) same) ∙ there in
    none (omega arith) d (ap (λ (n : ℕ). (get_or parts n d).var.0) at ∙ same)

pub place-found : (var : VarId) (parts : List VariablePart) (place : ℕ) → IsFirst var parts place → IsPlaceOfPart var parts parts place
place-found var parts place first = record {
  inside = first.inside;
  same =
      let part = part_for var parts in
      let is = first-part_for var parts place part first in
      sym (first-with_part part parts place (subst (λ (v : VarId). IsFirst v parts place) (same_var var part.var (sym (ap (λ (p : VariablePart). p.var.0) is ∙ first.here part))) first)
      ∙ ap (set parts place) is ∙ set-get_or parts place part);
  here = λ d. sym (first-part_for var parts place d first);
  replaced = λ part of. sym (first-with_part part parts place (first_of_same part var parts place of first));
}

pub place-new : (var : VarId) (parts : List VariablePart) → IsAbsent var parts → IsPlaceOfPart var parts (parts ++ blank_part var ∷ []) (length parts)
place-new var parts absent =
    let is = absent-part_for var parts absent in record {
      inside = rw (length_push parts (blank_part var)) (omega arith);
      same = sym (ap (λ (p : VariablePart). with_part p parts) is ∙ absent-with_part (blank_part var) parts absent);
      here = λ d. get_or_push parts (blank_part var) d (length parts) refl ∙ sym is;
      replaced = λ part of. set_at parts (blank_part var) [] part (length parts) refl ∙ sym (absent-with_part part parts (subst (λ (v : VarId). IsAbsent v parts) (sym of) absent));
    }

-- ---- another part at a place

pub var-part_for : (var : VarId) (parts : List VariablePart) → (part_for var parts).var ≡ var
var-part_for var [] = refl
var-part_for var (part ∷ parts) = pick var part (part_for var parts) (eqb part.var.0 var.0) refl (var-part_for var parts)
  where
    pick : (var : VarId) (part other : VariablePart) (test : Bool) → eqb part.var.0 var.0 ≡ test → other.var ≡ var → (cond test part other).var ≡ var
    pick var part other true e rest = same_var part.var var (eqb-true part.var.0 var.0 e)
    pick var part other false e rest = rest

pub found-set : (slots : List ℕ) (parts : List VariablePart) (place : ℕ) (new : VariablePart) → place < length parts → new.var ≡ (get_or parts place new).var → AreFound slots parts → AreFound slots (set parts place new)
found-set slots parts place new inside same found = λ k part below is.
    let within : k < length parts = rw (← length-set parts place new) below in
    elim (cases_eq k place) [
      | inl here ↦
          let at : get_or (set parts place new) k part ≡ new = ap (λ (n : ℕ). get_or (set parts place new) n part) here ∙ get_or-set_same parts place new part inside in
          let vars : part.var ≡ (get_or parts place new).var = ap (λ (p : VariablePart). p.var) (sym is ∙ at) ∙ same in
          ap (λ (v : VarId). get_or slots (v.0 - 1) 0) vars ∙ found place (get_or parts place new) inside (get_or_default parts place (get_or parts place new) new inside) ∙ sym here
      | inr other ↦ found k part within (sym (get_or-set_other parts place k new part other) ∙ is)
    ]

-- what is written at the place of the variable's part is the draft with that part
pub with_coefficient-is : (var : VarId) (draft : Draft) (after : List VariablePart) (place : ℕ) (new : VariablePart) (tables : List BegunTable) (sum bound : ℤ) (left : ℕ)
    → IsPlaceOfPart var draft.parts after place → is_coefficient sum ≡ true → new ≡ record (part_for var draft.parts) { coefficient = sum } → tables ≡ draft.tables → bound ≡ draft.bound → left ≡ draft.left
    → with_coefficient var sum draft ≡ Ok (record { parts = set after place new; tables = tables; bound = bound; left = left })
with_coefficient-is var draft after place new tables sum bound left there within is same_tables bounds lefts =
    let parts : with_part (record (part_for var draft.parts) { coefficient = sum }) draft.parts ≡ set after place new =
    ap (λ (p : VariablePart). with_part p draft.parts) (sym is) ∙ sym (there.replaced new (ap (λ (p : VariablePart). p.var) is ∙ var-part_for var draft.parts)) in
    rw within (same_draft _ _ _ _ _ _ _ _ parts (sym same_tables) (sym bounds) (sym lefts))
  where
    same_draft : (parts parts' : List VariablePart) (tables tables' : List BegunTable) (bound bound' : ℤ) (left left' : ℕ) → parts ≡ parts' → tables ≡ tables' → bound ≡ bound' → left ≡ left'
        → ◌≡◌ {A = Result Draft DeriveFault} (Ok (record { parts = parts; tables = tables; bound = bound; left = left })) (Ok (record { parts = parts'; tables = tables'; bound = bound'; left = left' }))
    same_draft parts parts' tables tables' bound bound' left left' p t q r = cc

pub part-set : (count : ℕ) (old new : VariablePart) → IsVariablePart count old → new.var ≡ old.var → new.listed ≡ old.listed → is_coefficient new.coefficient ≡ true → IsVariablePart count new
part-set count old new formed vars lists within = record {
  variable = subst (IsVariable count) (sym vars) formed.variable;
  coefficient = within_limit new.coefficient within;
  listed = subst (λ (l : Option Listed). IfSome l IsWeightList) (sym lists) formed.listed;
}
  where
    within_limit : (n : ℤ) → is_coefficient n ≡ true → IsCoefficient n
    within_limit n h = grind (arith, nat_tests)

pub part-with : (old other : VariablePart) (a b : ℤ) → other ≡ old → a ≡ b → ◌≡◌ {A = VariablePart} (record { var = old.var; coefficient = a; listed = old.listed }) (record other { coefficient = b })
part-with old other a b p q = rw (p, q) refl
