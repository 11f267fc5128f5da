-- Known clauses as they become more or fewer.
use Rattle.std.proofs.Common.{◌≡◌, ℕ, List, [], ◌∷◌, ◌++◌, length-append, refl, sym, ap, subst, ◌∙◌, arith, All, Option}
use Rattle.std.specs.Prelude.{IsSome}
use Rattle.std.specs.Option.{unwrap_or}
use Rattle.std.proofs.lemmas.List.{get_or_append_left, get_or-take, length-take}
use Rattle.std.proofs.lemmas.List.Elements.{All-nil, All-cons, All-head, All-tail}
use Rattle.fzn_domain.specs.declared.literal.Lit.{Lit}
use Rattle.fzn_domain.specs.IntSet.{IntSet}
use Rattle.fzn_domain.specs.Narrow.{possible_in}
use Rattle.fzn_clauses.specs.Held as numbered
use Rattle.fzn_clauses.proofs.HeldLemmas as still
use Rattle.fzn_trail.specs.declared.trail.Antecedent.{Antecedent}
use Rattle.fzn_trail.specs.declared.trail.Antecedent.TheVariants.{Clause, Inference}
use Rattle.fzn_trail.specs.declared.trail.Reason.{Reason}
use Rattle.fzn_trail.specs.declared.trail.Reason.TheVariants.{Decision, Implied}
use Rattle.fzn_learned.specs.Reasoned.{Known, IsKnown, antecedent_clause, cut_at, IsBelow, IsForcedFrom}

-- more held clauses, and more inferences
abbrev pub grown : numbered.Held → Known → Known
grown more known = record known { held = known.held ++ more }

abbrev pub stacked_more : List (List Lit) → Known → Known
stacked_more more known = record known { stacked = known.stacked ++ more }

pub clause_of-grown : (known : Known) (more : numbered.Held) (antecedent : Antecedent) → IsKnown known antecedent → antecedent_clause (grown more known) antecedent ≡ antecedent_clause known antecedent
clause_of-grown known more (Clause id) h = still.clause_of-grown known.held more id h
clause_of-grown known more (Inference place) h = refl

pub IsKnown-grown : (known : Known) (more : numbered.Held) (antecedent : Antecedent) → IsKnown known antecedent → IsKnown (grown more known) antecedent
IsKnown-grown known more (Clause id) h = still.IsHeld-grown known.held more id h
IsKnown-grown known more (Inference place) h = h

pub clause_of-stacked : (known : Known) (more : List (List Lit)) (antecedent : Antecedent) → IsKnown known antecedent → antecedent_clause (stacked_more more known) antecedent ≡ antecedent_clause known antecedent
clause_of-stacked known more (Clause id) h = refl
clause_of-stacked known more (Inference place) h = get_or_append_left known.stacked more [] place h

pub IsKnown-stacked : (known : Known) (more : List (List Lit)) (antecedent : Antecedent) → IsKnown known antecedent → IsKnown (stacked_more more known) antecedent
IsKnown-stacked known more (Clause id) h = h
IsKnown-stacked known more (Inference place) h = omega (arith, length-append known.stacked more, h)

-- a literal that was forced stays so
pub IsForcedFrom-grown : (known : Known) (more : numbered.Held) (sets : List IntSet) (lit : Lit) (antecedent : Antecedent) → IsForcedFrom known sets lit antecedent → IsForcedFrom (grown more known) sets lit antecedent
IsForcedFrom-grown known more sets lit antecedent h =
    (IsKnown-grown known more antecedent h.0, (ap (possible_in sets) (clause_of-grown known more antecedent h.0) ∙ h.1.0, h.1.1))

pub IsForcedFrom-stacked : (known : Known) (more : List (List Lit)) (sets : List IntSet) (lit : Lit) (antecedent : Antecedent) → IsForcedFrom known sets lit antecedent → IsForcedFrom (stacked_more more known) sets lit antecedent
IsForcedFrom-stacked known more sets lit antecedent h =
    (IsKnown-stacked known more antecedent h.0, (ap (possible_in sets) (clause_of-stacked known more antecedent h.0) ∙ h.1.0, h.1.1))

-- where the stack is cut above it too
pub IsForcedFrom-below : (known : Known) (n : ℕ) (sets : List IntSet) (lit : Lit) (antecedent : Antecedent) → IsBelow n (Implied antecedent) → IsForcedFrom known sets lit antecedent → IsForcedFrom (cut_at n known) sets lit antecedent
IsForcedFrom-below known n sets lit (Clause id) low h = h
IsForcedFrom-below known n sets lit (Inference place) low h = (
  omega (arith, length-take n known.stacked, low, h.0),
  (ap (possible_in sets) (get_or-take n known.stacked place [] low) ∙ h.1.0, h.1.1),
)

-- where other clauses are held, a reason that was held is under its number still
abbrev pub IsStill : numbered.Held → numbered.Held → Reason → Type 0
IsStill old new Decision = Unit {0}
IsStill old new (Implied (Clause id)) = numbered.IsHeld old id → numbered.at_number new id ≡ numbered.at_number old id
IsStill old new (Implied (Inference place)) = Unit {0}

pub IsForcedFrom-still : (known : Known) (held : numbered.Held) (sets : List IntSet) (lit : Lit) (antecedent : Antecedent) → IsStill known.held held (Implied antecedent) → IsForcedFrom known sets lit antecedent → IsForcedFrom (record known { held = held }) sets lit antecedent
IsForcedFrom-still known held sets lit (Clause id) same h =
    let e = same h.0 in
    (subst IsSome (sym e) h.0, (ap (λ (o : Option (List Lit)). possible_in sets (unwrap_or o [])) e ∙ h.1.0, h.1.1))
IsForcedFrom-still known held sets lit (Inference place) same h = h

-- what holds of all of a list holds of its front
pub All-front : {X : Type 0} (P : X → Type 0) (xs ys : List X) → All P (xs ++ ys) → All P xs
All-front P [] ys h = All-nil P
All-front P (x ∷ xs) ys h = All-cons P x xs (All-head P x (xs ++ ys) h) (All-front P xs ys (All-tail P x (xs ++ ys) h))
