-- The parts of tables among others.
use Rattle.std.proofs.Common.{◌≡◌, ◌≢◌, ℕ, zero, suc, ◌*◌, ◌/◌, ◌%◌, ◌<◌, ◌≤◌, Bool, true, false, cond, eqb, List, [], ◌∷◌, ◌++◌, length, get_or, set, refl, sym, ap, ◌∙◌, subst, inl, inr, arith, ℤ, pos, ◌-ℤ◌, Option, None, Some, Result, Ok, Err, All}
use Rattle.std.specs.List.{list_all}
use Rattle.std.specs.Option.{option_map_or}
use Rattle.std.proofs.lemmas.Nat.{div-add-mod'}
use Rattle.std.proofs.lemmas.Bool.{eq-eqb, ne_eqb, eqb-false, cases_eq}
use Rattle.std.proofs.lemmas.List.{get_or_push, get_or_default, get_or_append_left, get_or-set_same, get_or-set_other, length_push, length-set}
use Rattle.std.proofs.lemmas.List.Elements.{All-nil, All-cons, All-head, All-tail, All-set, All-push}
use Rattle.fzn_domain.specs.declared.literal.VarId.{VarId}
use Rattle.fzn_domain.specs.IntSet.{IntSet, least}
use Rattle.fzn_domain.specs.Narrow.{set_of}
use Rattle.fzn_list.specs.Limits.{longest}
use Rattle.fzn_domain.specs.Limits.{IsInLimits}
use Rattle.fzn_cited.specs.declared.fault.DeriveFault.{DeriveFault}
use Rattle.fzn_cited.specs.declared.fault.DeriveFault.TheVariants.{NotDerived}
use Rattle.fzn_values.specs.declared.term.Term.{Term}
use Rattle.fzn_values.specs.declared.term.Term.TheVariants as term
use Rattle.fzn_meaning.specs.declared.row.VariablePart.{VariablePart}
use Rattle.fzn_meaning.specs.declared.row.TablePart.{TablePart}
use Rattle.fzn_meaning.specs.declared.constraint.Constraint.{Constraint}
use Rattle.fzn_meaning.specs.declared.constraint.Constraint.TheVariants as constraint
use Rattle.fzn_meaning.specs.Meaning.{IsWellFormedConstraint, AreTerms}
use Rattle.fzn_meaning.specs.Separable.{weight_at}
use Rattle.fzn_weights.specs.Prices.{price_at}
use Rattle.fzn_weights.specs.Limits.{is_entry_within}
use Rattle.fzn_weights.specs.Moves.{moved_from, span, is_narrow}
use Rattle.fzn_weights.specs.Tables.{blank_table, row_count, part_raised}
use Rattle.fzn_weights.proofs.TableLemmas.{length-blank}
use Rattle.fzn_row.specs.declared.room.BegunTable.{BegunTable}
use Rattle.fzn_row.specs.Draft.{Draft, blank_part, part_for, with_part, and_then}
use Rattle.fzn_row.specs.Prices.{with_list}
use Rattle.fzn_row.specs.Weights.{without_part}
use Rattle.fzn_row.specs.Tables.{table_of, with_table, table_begun, weights_spent, table_raised, term_lowered, part_to_rows}
use Rattle.fzn_row.specs.Room.{IsTableKept, AreBegun, IsPlaceOfTable}

-- ---- where the part of a table stands

-- the first part of this number stands at this place
pub record IsFirstTable (id : ℕ) (tables : List BegunTable) (place : ℕ) : Type 0 where
  pub inside : place < length tables
  pub here : (d : BegunTable) → (get_or tables place d).constraint ≡ id
  pub before : (k : ℕ) (d : BegunTable) → k < place → (get_or tables k d).constraint ≢ id

later : (id : ℕ) (begun : BegunTable) (tables : List BegunTable) (place : ℕ) → IsFirstTable id (begun ∷ tables) (suc place) → IsFirstTable id tables place
later id begun tables place first = record {
  inside = let h = first.inside in omega arith;
  here = first.here;
  before = λ k d below. first.before (suc k) d (omega arith);
}

first-table_of : (id : ℕ) (tables : List BegunTable) (place : ℕ) (d : BegunTable) → IsFirstTable id tables place → table_of id tables ≡ Some (get_or tables place d).part
first-table_of id [] place d first = absurd (let h = first.inside in omega arith)
first-table_of id (begun ∷ tables) zero d first = rw (eq-eqb begun.constraint id (first.here d)) refl
first-table_of id (begun ∷ tables) (suc place) d first =
    rw (ne_eqb begun.constraint id (first.before 0 d (omega arith))) (first-table_of id tables place d (later id begun tables place first))

first-with_table : (new : BegunTable) (tables : List BegunTable) (place : ℕ) → IsFirstTable new.constraint tables place → with_table new tables ≡ set tables place new
first-with_table new [] place first = absurd (let h = first.inside in omega arith)
first-with_table new (begun ∷ tables) zero first = rw (eq-eqb begun.constraint new.constraint (first.here begun)) refl
first-with_table new (begun ∷ tables) (suc place) first =
    rw (ne_eqb begun.constraint new.constraint (first.before 0 begun (omega arith))) (ap (λ (bs : List BegunTable). begun ∷ bs) (first-with_table new tables place (later new.constraint begun tables place first)))

abbrev pub AreOthers : ℕ → List BegunTable → Type 0
AreOthers id tables = All (λ (begun : BegunTable). begun.constraint ≢ id) tables

others-none : (id : ℕ) (tables : List BegunTable) → AreOthers id tables → table_of id tables ≡ None
others-none id [] others = refl
others-none id (begun ∷ tables) others =
    rw (ne_eqb begun.constraint id (All-head (λ (b : BegunTable). b.constraint ≢ id) begun tables others)) (others-none id tables (All-tail (λ (b : BegunTable). b.constraint ≢ id) begun tables others))

none-others : (id : ℕ) (tables : List BegunTable) → table_of id tables ≡ None → AreOthers id tables
none-others id [] none = All-nil (λ (b : BegunTable). b.constraint ≢ id)
none-others id (begun ∷ tables) none = pick (eqb begun.constraint id) refl none (none-others id tables)
  where
    pick : (test : Bool) → eqb begun.constraint id ≡ test → cond test (Some begun.part) (table_of id tables) ≡ None → (table_of id tables ≡ None → AreOthers id tables) → AreOthers id (begun ∷ tables)
    pick true e n rest = absurd (cc)
    pick false e n rest = All-cons (λ (b : BegunTable). b.constraint ≢ id) begun tables (eqb-false begun.constraint id e) (rest n)

module _ (id slot : ℕ) (slots : List ℕ) (tables : List BegunTable) (begun : AreBegun slots tables) (is : slot ≡ get_or slots id 0) where
  -- the part that a slot leads to is that of its number
  pub table-found : slot < length tables → ((d : BegunTable) → (get_or tables slot d).constraint ≡ id) → IsPlaceOfTable id tables slot
  table-found inside here =
      let first : IsFirstTable id tables slot = record {
        inside = inside;
        here = here;
        before = λ k d below same.
            let there : get_or slots (get_or tables k d).constraint 0 ≡ k = begun.found k (get_or tables k d) (omega arith) (get_or_default tables k (get_or tables k d) d (omega arith)) in
            let at : get_or slots id 0 ≡ k = subst (λ (n : ℕ). get_or slots n 0 ≡ k) same there in
            omega arith;
      } in
      record {
        inside = inside;
        here = λ d. first-table_of id tables slot d first;
        number = here;
        replaced = λ new of. sym (first-with_table new tables slot (subst (λ (n : ℕ). IsFirstTable n tables slot) (sym of) first));
      }

  -- no part is of a number whose slot leads to none
  pub table-none : (slot < length tables → (d : BegunTable) → (get_or tables slot d).constraint ≢ id) → table_of id tables ≡ None
  table-none none = others-none id tables (λ k d inside same.
      let there : get_or slots (get_or tables k d).constraint 0 ≡ k = begun.found k (get_or tables k d) inside (get_or_default tables k (get_or tables k d) d inside) in
      let at : slot ≡ k = is ∙ sym (ap (λ (n : ℕ). get_or slots n 0) same) ∙ there in
      none (omega arith) d (ap (λ (n : ℕ). (get_or tables n d).constraint) at ∙ same))

-- ---- one more part

module _ (id : ℕ) (slots slots' : List ℕ) (tables : List BegunTable) (begun : AreBegun slots tables) (none : table_of id tables ≡ None) (others : (k : ℕ) → k ≢ id → get_or slots' k 0 ≡ get_or slots k 0) where
  -- the slot of a number that has no part may lead anywhere
  pub slot-free : AreBegun slots' tables
  slot-free = record {
    parts = begun.parts;
    found = λ place b inside is.
        let other : b.constraint ≢ id = λ same. none-others id tables none place b inside (ap (λ (x : BegunTable). x.constraint) is ∙ same) in
        others b.constraint other ∙ begun.found place b inside is;
  }

  pub begun-push : (part : TablePart) → IsTableKept part → get_or slots' id 0 ≡ length tables → AreBegun slots' (tables ++ record { constraint = id; part = part } ∷ [])
  begun-push part kept here = record {
    parts = All-push (λ (b : BegunTable). IsTableKept b.part) tables new begun.parts kept;
    found = λ place b inside is. elim (cases_eq place (length tables)) [
      | inl last ↦
          let at : new ≡ b = sym (ap (λ (n : ℕ). get_or (tables ++ new ∷ []) n b) last ∙ get_or_push tables new b (length tables) refl) ∙ is in
          ap (λ (x : BegunTable). get_or slots' x.constraint 0) (sym at) ∙ here ∙ sym last
      | inr other ↦
          let within : place < length tables = below place inside other in
          (slot-free).found place b within (sym (get_or_append_left tables (new ∷ []) b place within) ∙ is)
    ];
  }
    where
      new : BegunTable
      new = record { constraint = id; part = part }

      below : (place : ℕ) → place < length (tables ++ new ∷ []) → place ≢ length tables → place < length tables
      below place inside other = let l = length_push tables new in omega arith

-- ---- another part at a place

pub begun-set : (slots : List ℕ) (tables : List BegunTable) (place : ℕ) (new : BegunTable) → place < length tables → new.constraint ≡ (get_or tables place new).constraint → IsTableKept new.part → AreBegun slots tables → AreBegun slots (set tables place new)
begun-set slots tables place new inside same kept begun = record {
  parts = All-set (λ (b : BegunTable). IsTableKept b.part) tables place new kept begun.parts;
  found = λ k b below is.
      let within : k < length tables = rw (← length-set tables place new) below in
      elim (cases_eq k place) [
        | inl here ↦
            let at : get_or (set tables place new) k b ≡ new = ap (λ (n : ℕ). get_or (set tables place new) n b) here ∙ get_or-set_same tables place new b inside in
            let numbers : b.constraint ≡ (get_or tables place new).constraint = ap (λ (x : BegunTable). x.constraint) (sym is ∙ at) ∙ same in
            ap (λ (n : ℕ). get_or slots n 0) numbers ∙ begun.found place (get_or tables place new) inside (get_or_default tables place (get_or tables place new) new inside) ∙ sym here
        | inr other ↦ begun.found k b within (sym (get_or-set_other tables place k new b other) ∙ is)
      ];
}

-- a part that is kept at first, and with as many weights
pub blank-kept : (declared : List IntSet) (places : List Term) (rows : List ℤ) → All IsInLimits rows → length rows ≤ longest → IsTableKept (blank_table declared places rows)
blank-kept declared places rows numbers few = record {
  numbers = numbers;
  few = rw (length-blank declared places rows (row_count places rows)) (whole (length rows) (length places) few);
}
  where
    whole : (n d : ℕ) → n ≤ longest → n / d * d ≤ longest
    whole n d h = let e = div-add-mod' n d in omega arith

pub kept-raised : (part : TablePart) (weights : List (Option ℤ)) → IsTableKept part → length weights ≡ length part.weights → IsTableKept (record part { weights = weights })
kept-raised part weights kept many = record { numbers = kept.numbers; few = subst (λ (n : ℕ). n * length part.places ≤ longest) (sym many) kept.few }

-- what is well formed of a table
pub table-formed : (n : ℕ) (c : Constraint) (places : List Term) (rows : List ℤ) → c ≡ constraint.Table places rows → IsWellFormedConstraint n c → AreTerms n places × (0 < length places) × All IsInLimits rows × (length rows ≤ longest) × (length rows % length places ≡ 0)
unfolding IsWellFormedConstraint
table-formed n c places rows is well = subst (IsWellFormedConstraint n) is well

-- ---- a part that goes to the rows

begun-parts : (declared : List IntSet) (id : ℕ) (places : List Term) (rows : List ℤ) (draft : Draft) → (table_begun declared id places rows draft).parts ≡ draft.parts
begun-parts declared id places rows draft = same (table_of id draft.tables) (record draft { tables = draft.tables ++ record { constraint = id; part = blank_table declared places rows } ∷ [] }) refl
  where
    same : (o : Option TablePart) (new : Draft) → new.parts ≡ draft.parts → (option_map_or (λ (part : TablePart). draft) o new).parts ≡ draft.parts
    same None new is = is
    same (Some part) new is = refl

-- the rows weigh as much, whether the part is taken before or afterwards
raised-without : (id : ℕ) (more : ℤ → Option ℤ) (column : ℕ) (var : VarId) (draft : Draft) → table_raised id more column (without_part var draft) ≡ and_then (table_raised id more column draft) (λ raised. Ok (without_part var raised))
raised-without id more column var draft = maybe (table_of id draft.tables)
  where
    tested : (test : Bool) (tables : List BegunTable) → cond test (Ok (record (without_part var draft) { tables = tables })) (Err NotDerived) ≡ and_then (cond test (Ok (record draft { tables = tables })) (Err NotDerived)) (λ raised. Ok (without_part var raised))
    tested true tables = refl
    tested false tables = refl

    maybe : (o : Option TablePart)
        → option_map_or (λ (part : TablePart). cond (list_all is_entry_within (part_raised more column part).weights) (Ok (record (without_part var draft) { tables = with_table (record { constraint = id; part = part_raised more column part }) draft.tables })) (Err NotDerived)) o (Err NotDerived)
        ≡ and_then (option_map_or (λ (part : TablePart). cond (list_all is_entry_within (part_raised more column part).weights) (Ok (record draft { tables = with_table (record { constraint = id; part = part_raised more column part }) draft.tables })) (Err NotDerived)) o (Err NotDerived)) (λ raised. Ok (without_part var raised))
    maybe None = refl
    maybe (Some part) = tested (list_all is_entry_within (part_raised more column part).weights) (with_table (record { constraint = id; part = part_raised more column part }) draft.tables)

pub to_rows-is : (declared : List IntSet) (id : ℕ) (places : List Term) (rows : List ℤ) (column : ℕ) (var : VarId) (draft spent begun taken : Draft) (part : VariablePart) → weights_spent (row_count places rows) draft ≡ Ok spent → begun ≡ table_begun declared id places rows spent
    → part ≡ part_for var begun.parts → taken.parts ≡ with_part (blank_part var) begun.parts → taken.tables ≡ begun.tables → taken.bound ≡ begun.bound → taken.left ≡ begun.left
    → table_raised id (weight_at part) column taken ≡ part_to_rows declared id places rows column var draft
to_rows-is declared id places rows column var draft spent begun taken part spends begins part_is parts tables bound left =
    let had : part ≡ part_for var spent.parts = part_is ∙ ap (λ (d : Draft). part_for var d.parts) begins ∙ ap (part_for var) (begun-parts declared id places rows spent) in
    let without : taken ≡ without_part var (table_begun declared id places rows spent) = same_draft _ _ _ _ _ _ _ _ parts tables bound left ∙ ap (without_part var) begins in
    ap (table_raised id (weight_at part) column) without
    ∙ ap (λ (p : VariablePart). table_raised id (weight_at p) column (without_part var (table_begun declared id places rows spent))) had
    ∙ raised-without id (weight_at (part_for var spent.parts)) column var (table_begun declared id places rows spent)
    ∙ ap (λ (r : Result Draft DeriveFault). and_then r (λ d. and_then (table_raised id (weight_at (part_for var d.parts)) column (table_begun declared id places rows d)) (λ raised. Ok (without_part var raised)))) (sym spends)
  where
    same_draft : (parts parts' : List VariablePart) (tables tables' : List BegunTable) (bound bound' : ℤ) (left left' : ℕ) → parts ≡ parts' → tables ≡ tables' → bound ≡ bound' → left ≡ left'
        → ◌≡◌ {A = Draft} (record { parts = parts; tables = tables; bound = bound; left = left }) (record { parts = parts'; tables = tables'; bound = bound'; left = left' })
    same_draft parts parts' tables tables' bound bound' left left' p t q r = cc

-- ---- a place whose values weigh less

pub lowered-is : (declared : List IntSet) (low : ℤ) (prices : List ℤ) (draft : Draft) (var : VarId) (set : IntSet) → set ≡ set_of declared var → is_narrow set ≡ true
    → with_list var draft (least set) (moved_from (λ value. Some (pos 0 -ℤ price_at low prices value)) (least set) (span set) (part_for var draft.parts).listed) ≡ term_lowered declared low prices draft (term.Variable var)
lowered-is declared low prices draft var set is narrow =
    let list = λ (s : IntSet). with_list var draft (least s) (moved_from (λ value. Some (pos 0 -ℤ price_at low prices value)) (least s) (span s) (part_for var draft.parts).listed) in
    ap (λ (b : Bool). cond b (list set) (Err NotDerived)) (sym narrow) ∙ ap (λ (s : IntSet). cond (is_narrow s) (list s) (Err NotDerived)) is

-- ---- slots

-- one more slot that is 0 changes none
pub push-zero : (slots : List ℕ) (k : ℕ) → get_or (slots ++ 0 ∷ []) k 0 ≡ get_or slots k 0
push-zero [] zero = refl
push-zero [] (suc k) = refl
push-zero (slot ∷ slots) zero = refl
push-zero (slot ∷ slots) (suc k) = push-zero slots k
