-- Entries that lead from sets to sets, and the decisions among them.
use Rattle.std.proofs.Common.{◌≡◌, ℕ, zero, suc, ◌⊎◌, true, List, [], ◌∷◌, ◌++◌, length, take, Some, refl, sym, ap, subst, ◌∙◌, inl, inr, All}
use Rattle.std.specs.List.{slice_get}
use Rattle.std.proofs.lemmas.List.Elements.{All-nil, All-cons, All-head, All-tail, All-weaker}
use Rattle.fzn_domain.specs.declared.literal.Lit.{Lit}
use Rattle.fzn_domain.specs.IntSet.{IntSet, is_possible}
use Rattle.fzn_domain.specs.Narrow.{IsVariable, IsOpen, set_of, narrowed}
use Rattle.fzn_domain.proofs.NarrowLemmas.{length-narrowed}
use Rattle.fzn_clauses.specs.Held as numbered
use Rattle.fzn_trail.specs.declared.trail.Entry.{Entry}
use Rattle.fzn_trail.specs.declared.trail.Antecedent.{Antecedent}
use Rattle.fzn_trail.specs.declared.trail.Reason.{Reason}
use Rattle.fzn_trail.specs.declared.trail.Reason.TheVariants.{Decision, Implied}
use Rattle.fzn_trail.specs.Levels.{IsNarrower, NoneEmpty}
use Rattle.fzn_trail.proofs.CallerLemmas.{IsNarrower-narrowed, NoneEmpty-narrowed}
use Rattle.fzn_learned.specs.Learned.{antecedent_before, antecedents_of}
use Rattle.fzn_learned.proofs.KnownLemmas.{grown, IsForcedFrom-grown, stacked_more, IsForcedFrom-stacked, IsForcedFrom-below, IsStill, IsForcedFrom-still}
use Rattle.fzn_learned.specs.Reasoned.{IsBelow, cut_at}
use Rattle.fzn_learned.specs.Reasoned.{Known, IsKnown, antecedent_clause, IsReason, Leads, Open, open_at, opens}
use Rattle.fzn_learned.proofs.NarrowerLemmas.{IsTrueOn, IsNarrower-self, IsNarrower-through, IsTrueOn-narrower, IsTrueOn-narrowed, possible_if_unit}

-- the sets after these entries
abbrev pub after : List IntSet → List Entry → List IntSet
after from [] = from
after from (entry ∷ later) = after (narrowed from entry.lit) later

pub Leads-after : (known : Known) (entries : List Entry) (from to : List IntSet) → Leads known from entries to → after from entries ≡ to
Leads-after known [] from to leads = leads
Leads-after known (entry ∷ later) from to leads = Leads-after known later (narrowed from entry.lit) to leads.2

pub Leads-append : (known : Known) (xs ys : List Entry) (from middle to : List IntSet) → Leads known from xs middle → Leads known middle ys to → Leads known from (xs ++ ys) to
Leads-append known [] ys from middle to first then_on = subst (λ (s : List IntSet). Leads known s ys to) (sym first) then_on
Leads-append known (x ∷ xs) ys from middle to first then_on = (first.0, first.1, Leads-append known xs ys (narrowed from x.lit) middle to first.2 then_on)

pub Leads-front : (known : Known) (xs ys : List Entry) (from to : List IntSet) → Leads known from (xs ++ ys) to → Leads known from xs (after from xs)
Leads-front known [] ys from to leads = refl
Leads-front known (x ∷ xs) ys from to leads = (leads.0, leads.1, Leads-front known xs ys (narrowed from x.lit) to leads.2)

pub Leads-back : (known : Known) (xs ys : List Entry) (from to : List IntSet) → Leads known from (xs ++ ys) to → Leads known (after from xs) ys to
Leads-back known [] ys from to leads = leads
Leads-back known (x ∷ xs) ys from to leads = Leads-back known xs ys (narrowed from x.lit) to leads.2

pub Leads-length : (known : Known) (entries : List Entry) (from to : List IntSet) → Leads known from entries to → length to ≡ length from
Leads-length known [] from to leads = ap length (sym leads)
Leads-length known (entry ∷ later) from to leads = Leads-length known later (narrowed from entry.lit) to leads.2 ∙ length-narrowed from entry.lit

pub Leads-narrower : (known : Known) (entries : List Entry) (from to : List IntSet) → Leads known from entries to → IsNarrower to from
Leads-narrower known [] from to leads = subst (λ (s : List IntSet). IsNarrower s from) leads (IsNarrower-self from)
Leads-narrower known (entry ∷ later) from to leads =
    IsNarrower-through to (narrowed from entry.lit) from
    (Leads-narrower known later (narrowed from entry.lit) to leads.2)
    (IsNarrower-narrowed from from entry.lit leads.0 (IsNarrower-self from))

-- ---- reasons

-- a reason stays one where more clauses are known
IsReason-grown : (known : Known) (more : numbered.Held) (sets : List IntSet) (lit : Lit) (reason : Reason) → IsReason known sets lit reason → IsReason (grown more known) sets lit reason
IsReason-grown known more sets lit Decision h = h
IsReason-grown known more sets lit (Implied antecedent) h = IsForcedFrom-grown known more sets lit antecedent h

pub Leads-grown : (known : Known) (more : numbered.Held) (entries : List Entry) (from to : List IntSet) → Leads known from entries to → Leads (grown more known) from entries to
Leads-grown known more [] from to leads = leads
Leads-grown known more (entry ∷ later) from to leads =
    (leads.0, IsReason-grown known more from entry.lit entry.reason leads.1, Leads-grown known more later (narrowed from entry.lit) to leads.2)

-- and where more inferences are stacked
IsReason-stacked : (known : Known) (more : List (List Lit)) (sets : List IntSet) (lit : Lit) (reason : Reason) → IsReason known sets lit reason → IsReason (stacked_more more known) sets lit reason
IsReason-stacked known more sets lit Decision h = h
IsReason-stacked known more sets lit (Implied antecedent) h = IsForcedFrom-stacked known more sets lit antecedent h

pub Leads-stacked : (known : Known) (more : List (List Lit)) (entries : List Entry) (from to : List IntSet) → Leads known from entries to → Leads (stacked_more more known) from entries to
Leads-stacked known more [] from to leads = leads
Leads-stacked known more (entry ∷ later) from to leads =
    (leads.0, IsReason-stacked known more from entry.lit entry.reason leads.1, Leads-stacked known more later (narrowed from entry.lit) to leads.2)

-- and where the stack is cut above the reasons that are used
IsReason-below : (known : Known) (n : ℕ) (sets : List IntSet) (lit : Lit) (reason : Reason) → IsBelow n reason → IsReason known sets lit reason → IsReason (cut_at n known) sets lit reason
IsReason-below known n sets lit Decision low h = h
IsReason-below known n sets lit (Implied antecedent) low h = IsForcedFrom-below known n sets lit antecedent low h

pub Leads-below : (known : Known) (n : ℕ) (entries : List Entry) (from to : List IntSet) → All (λ (entry : Entry). IsBelow n entry.reason) entries → Leads known from entries to → Leads (cut_at n known) from entries to
Leads-below known n [] from to low leads = leads
Leads-below known n (entry ∷ later) from to low leads = (
  leads.0,
  IsReason-below known n from entry.lit entry.reason (All-head (λ (e : Entry). IsBelow n e.reason) entry later low) leads.1,
  Leads-below known n later (narrowed from entry.lit) to (All-tail (λ (e : Entry). IsBelow n e.reason) entry later low) leads.2,
)

-- and where other clauses are held, the reasons among them
IsReason-still : (known : Known) (held : numbered.Held) (sets : List IntSet) (lit : Lit) (reason : Reason) → IsStill known.held held reason → IsReason known sets lit reason → IsReason (record known { held = held }) sets lit reason
IsReason-still known held sets lit Decision still h = h
IsReason-still known held sets lit (Implied antecedent) still h = IsForcedFrom-still known held sets lit antecedent still h

pub Leads-still : (known : Known) (held : numbered.Held) (entries : List Entry) (from to : List IntSet) → All (λ (entry : Entry). IsStill known.held held entry.reason) entries → Leads known from entries to → Leads (record known { held = held }) from entries to
Leads-still known held [] from to still leads = leads
Leads-still known held (entry ∷ later) from to still leads = (
  leads.0,
  IsReason-still known held from entry.lit entry.reason (All-head (λ (e : Entry). IsStill known.held held e.reason) entry later still) leads.1,
  Leads-still known held later (narrowed from entry.lit) to (All-tail (λ (e : Entry). IsStill known.held held e.reason) entry later still) leads.2,
)

possible_by_reason : (known : Known) (sets : List IntSet) (lit : Lit) (reason : Reason) → IsReason known sets lit reason → is_possible (set_of sets lit.var) lit ≡ true
possible_by_reason known sets lit Decision h = h.0
possible_by_reason known sets lit (Implied antecedent) h = possible_if_unit sets (antecedent_clause known antecedent) lit h.1.0

pub Leads-filled : (known : Known) (entries : List Entry) (from to : List IntSet) → Leads known from entries to → NoneEmpty from → NoneEmpty to
Leads-filled known [] from to leads filled = subst NoneEmpty leads filled
Leads-filled known (entry ∷ later) from to leads filled =
    Leads-filled known later (narrowed from entry.lit) to leads.2
    (NoneEmpty-narrowed from entry.lit (possible_by_reason known from entry.lit entry.reason leads.1) filled)

known_before : (known : Known) (sets : List IntSet) (lit : Lit) (reason : Reason) (later : List Antecedent) → IsReason known sets lit reason → All (IsKnown known) later → All (IsKnown known) (antecedent_before reason later)
known_before known sets lit Decision later h rest = rest
known_before known sets lit (Implied antecedent) later h rest = All-cons (IsKnown known) antecedent later h.0 rest

pub antecedents_known : (known : Known) (entries : List Entry) (from to : List IntSet) → Leads known from entries to → All (IsKnown known) (antecedents_of entries)
antecedents_known known [] from to leads = All-nil (IsKnown known)
antecedents_known known (entry ∷ later) from to leads =
    known_before known from entry.lit entry.reason (antecedents_of later) leads.1 (antecedents_known known later (narrowed from entry.lit) to leads.2)

antecedent_before-append : (reason : Reason) (later more : List Antecedent) → antecedent_before reason later ++ more ≡ antecedent_before reason (later ++ more)
antecedent_before-append Decision later more = refl
antecedent_before-append (Implied antecedent) later more = refl

pub antecedents_of-append : (xs ys : List Entry) → antecedents_of (xs ++ ys) ≡ antecedents_of xs ++ antecedents_of ys
antecedents_of-append [] ys = refl
antecedents_of-append (x ∷ xs) ys = ap (antecedent_before x.reason) (antecedents_of-append xs ys) ∙ sym (antecedent_before-append x.reason (antecedents_of xs) (antecedents_of ys))

-- ---- decisions

open_at-append : (sets : List IntSet) (lit : Lit) (reason : Reason) (later more : List Open) → open_at sets lit reason later ++ more ≡ open_at sets lit reason (later ++ more)
open_at-append sets lit Decision later more = refl
open_at-append sets lit (Implied antecedent) later more = refl

pub opens-append : (xs ys : List Entry) (from : List IntSet) → opens from (xs ++ ys) ≡ opens from xs ++ opens (after from xs) ys
opens-append [] ys from = refl
opens-append (x ∷ xs) ys from =
    ap (open_at from x.lit x.reason) (opens-append xs ys (narrowed from x.lit))
    ∙ sym (open_at-append from x.lit x.reason (opens (narrowed from x.lit) xs) (opens (after (narrowed from x.lit) xs) ys))

-- a decision was open where it was taken, on sets within the first ones
pub record IsTaken (from : List IntSet) (at : Open) : Type 0 where
  pub variable : IsVariable (length from) at.decision.var
  pub narrower : IsNarrower at.sets from
  pub is_open : IsOpen at.sets at.decision

IsTaken-before : (from : List IntSet) (lit : Lit) (at : Open) → IsVariable (length from) lit.var → IsTaken (narrowed from lit) at → IsTaken from at
IsTaken-before from lit at var taken = record {
  variable = subst (λ (n : ℕ). IsVariable n at.decision.var) (length-narrowed from lit) taken.variable;
  narrower = IsNarrower-through at.sets (narrowed from lit) from taken.narrower (IsNarrower-narrowed from from lit var (IsNarrower-self from));
  is_open = taken.is_open;
}

taken_here : (known : Known) (from : List IntSet) (lit : Lit) (reason : Reason) (later : List Open) → IsVariable (length from) lit.var → IsReason known from lit reason → All (IsTaken from) later → All (IsTaken from) (open_at from lit reason later)
taken_here known from lit Decision later var h rest =
    All-cons (IsTaken from) (record { sets = from; decision = lit }) later (record { variable = var; narrower = IsNarrower-self from; is_open = h }) rest
taken_here known from lit (Implied antecedent) later var h rest = rest

pub opens-taken : (known : Known) (entries : List Entry) (from to : List IntSet) → Leads known from entries to → All (IsTaken from) (opens from entries)
opens-taken known [] from to leads = All-nil (IsTaken from)
opens-taken known (entry ∷ later) from to leads =
    taken_here known from entry.lit entry.reason (opens (narrowed from entry.lit) later) leads.0 leads.1
    (All-weaker (IsTaken (narrowed from entry.lit)) (IsTaken from) (λ at taken. IsTaken-before from entry.lit at leads.0 taken)
    (opens (narrowed from entry.lit) later) (opens-taken known later (narrowed from entry.lit) to leads.2))

true_here : (known : Known) (from to : List IntSet) (lit : Lit) (reason : Reason) (later : List Open) → IsTrueOn to lit → All (λ (at : Open). IsTrueOn to at.decision) later → All (λ (at : Open). IsTrueOn to at.decision) (open_at from lit reason later)
true_here known from to lit Decision later holds rest = All-cons (λ (at : Open). IsTrueOn to at.decision) (record { sets = from; decision = lit }) later holds rest
true_here known from to lit (Implied antecedent) later holds rest = rest

-- each decision is true on the sets that the entries lead to
pub opens-true : (known : Known) (entries : List Entry) (from to : List IntSet) → Leads known from entries to → All (λ (at : Open). IsTrueOn to at.decision) (opens from entries)
opens-true known [] from to leads = All-nil (λ (at : Open). IsTrueOn to at.decision)
opens-true known (entry ∷ later) from to leads =
    true_here known from to entry.lit entry.reason (opens (narrowed from entry.lit) later)
    (IsTrueOn-narrower to (narrowed from entry.lit) entry.lit (Leads-narrower known later (narrowed from entry.lit) to leads.2) (IsTrueOn-narrowed from entry.lit leads.0))
    (opens-true known later (narrowed from entry.lit) to leads.2)

-- ---- fronts of one list

-- of two fronts of a list one is the front of the other
pub front_cases : (xs ys more rest : List Entry) (x : Entry) → xs ++ x ∷ more ≡ ys ++ rest → ((between : List Entry) × (ys ≡ xs ++ x ∷ between)) ⊎ ((between : List Entry) × (xs ≡ ys ++ between))
front_cases xs [] more rest x e = inr (xs, refl)
front_cases [] (y ∷ ys) more rest x e = let same : x ≡ y = cc in inl (ys, cc)
front_cases (z ∷ xs) (y ∷ ys) more rest x e =
    let same : z ≡ y = cc in
    let tails : xs ++ x ∷ more ≡ ys ++ rest = cc in
    elim (front_cases xs ys more rest x tails) [
      | inl m ↦ let is = m.1 in inl (m.0, cc)
      | inr m ↦ let is = m.1 in inr (m.0, cc)
    ]

-- what an entry at a place says
pub record IsEntry (known : Known) (from sets : List IntSet) (entry : Entry) : Type 0 where
  pub variable : IsVariable (length from) entry.lit.var
  pub narrower : IsNarrower sets from
  pub reason : IsReason known sets entry.lit entry.reason

pub entry_at : (known : Known) (entries : List Entry) (from to : List IntSet) (i : ℕ) (entry : Entry) → Leads known from entries to → slice_get entries i ≡ Some entry → IsEntry known from (after from (take i entries)) entry
entry_at known [] from to i entry leads is = cc
entry_at known (x ∷ later) from to zero entry leads is =
    let same : x ≡ entry = cc in
    subst (λ (e : Entry). IsEntry known from from e) same (record { variable = leads.0; narrower = IsNarrower-self from; reason = leads.1 })
entry_at known (x ∷ later) from to (suc i) entry leads is =
    let r = entry_at known later (narrowed from x.lit) to i entry leads.2 is in
    record {
      variable = subst (λ (n : ℕ). IsVariable n entry.lit.var) (length-narrowed from x.lit) r.variable;
      narrower = IsNarrower-through (after (narrowed from x.lit) (take i later)) (narrowed from x.lit) from r.narrower (IsNarrower-narrowed from from x.lit leads.0 (IsNarrower-self from));
      reason = r.reason;
    }
