-- How a trail stays reasoned as it changes, and what becomes of its decisions.
use Rattle.std.proofs.Common.{◌≡◌, ℕ, ◌+◌, ◌<◌, ◌≤◌, List, [], ◌∷◌, ◌++◌, map, length, take, length-append, refl, sym, ap, subst, ◌∙◌, inl, inr, arith, All}
use Rattle.std.proofs.lemmas.Bool.{cases_lt}
use Rattle.std.proofs.lemmas.List.{append-nil, append_assoc, map-append, take-map, length-take-le, take_all, length_push, take_more}
use Rattle.std.proofs.lemmas.Option.{get_or_from_slice_get}
use Rattle.fzn_domain.specs.declared.literal.Lit.{Lit}
use Rattle.fzn_domain.specs.Literal.{negated}
use Rattle.fzn_domain.specs.IntSet.{IntSet}
use Rattle.fzn_domain.specs.Narrow.{IsVariable, IsOpen, narrowed}
use Rattle.fzn_clauses.specs.Held as numbered
use Rattle.fzn_trail.specs.declared.trail.Entry.{Entry}
use Rattle.fzn_trail.specs.declared.trail.Antecedent.{Antecedent}
use Rattle.fzn_trail.specs.declared.trail.Reason.{Reason}
use Rattle.fzn_trail.specs.declared.trail.Reason.TheVariants.{Decision, Implied}
use Rattle.fzn_trail.specs.Levels.{Levels, standing, level_of, fresh, pushed, asserted, restored, returned}
use Rattle.fzn_trail.proofs.CallerLemmas.{returned-present}
use Rattle.fzn_learned.specs.Reasoned.{Known, IsBelow, cut_at, IsForcedFrom, IsReason, Leads, Open, opens, IsLevelStanding, IsReasoned, negated_decisions}
use Rattle.fzn_learned.proofs.KnownLemmas.{grown, stacked_more, All-front}
pub use Rattle.fzn_learned.proofs.KnownLemmas.{IsStill}
use Rattle.fzn_learned.proofs.EntryLemmas.{after, Leads-after, Leads-append, Leads-grown, Leads-stacked, Leads-below, Leads-still, opens-append, front_cases}
use Rattle.fzn_learned.proofs.DecisionLemmas.{slice_get_front, slice_get_at, slice_get_take, opens-below, returned-standing}
pub use Rattle.fzn_learned.proofs.DecisionLemmas.{length-reasoned, narrower-reasoned, filled-reasoned, length-opens, taken-reasoned, IsDecisionAt, decision_at}

-- ---- a new trail

pub IsReasoned-fresh : (known : Known) (declared : List IntSet) → IsReasoned known (fresh declared)
IsReasoned-fresh known declared = record { leads = refl; one_each = refl; standing = λ k below. absurd (omega arith) }

-- ---- more known clauses

IsStanding-grown : (known : Known) (more : numbered.Held) (trail : Levels) (k : ℕ) → IsLevelStanding known trail k → IsLevelStanding (grown more known) trail k
IsStanding-grown known more trail k stands = record {
  stood = stands.stood;
  here = stands.here;
  lit = stands.lit;
  level = stands.level;
  later = stands.later;
  parts = stands.parts;
  leads = Leads-grown known more stands.stood.entries trail.declared stands.stood.sets stands.leads;
  below = stands.below;
}

pub IsReasoned-grown : (known : Known) (more : numbered.Held) (trail : Levels) → IsReasoned known trail → IsReasoned (grown more known) trail
IsReasoned-grown known more trail reasoned = record {
  leads = Leads-grown known more trail.entries trail.declared trail.sets reasoned.leads;
  one_each = reasoned.one_each;
  standing = λ k below. IsStanding-grown known more trail k (reasoned.standing k below);
}

-- ---- more inferences, and fewer

pub IsReasoned-stacked : (known : Known) (more : List (List Lit)) (trail : Levels) → IsReasoned known trail → IsReasoned (stacked_more more known) trail
IsReasoned-stacked known more trail reasoned = record {
  leads = Leads-stacked known more trail.entries trail.declared trail.sets reasoned.leads;
  one_each = reasoned.one_each;
  standing = λ k below. let stands = reasoned.standing k below in record {
    stood = stands.stood;
    here = stands.here;
    lit = stands.lit;
    level = stands.level;
    later = stands.later;
    parts = stands.parts;
    leads = Leads-stacked known more stands.stood.entries trail.declared stands.stood.sets stands.leads;
    below = stands.below;
  };
}

-- the stack may be cut where each reason among the entries lies below
pub IsReasoned-cut : (known : Known) (n : ℕ) (trail : Levels) → All (λ (entry : Entry). IsBelow n entry.reason) trail.entries → IsReasoned known trail → IsReasoned (cut_at n known) trail
IsReasoned-cut known n trail low reasoned = record {
  leads = Leads-below known n trail.entries trail.declared trail.sets low reasoned.leads;
  one_each = reasoned.one_each;
  standing = λ k below. let stands = reasoned.standing k below in record {
    stood = stands.stood;
    here = stands.here;
    lit = stands.lit;
    level = stands.level;
    later = stands.later;
    parts = stands.parts;
    leads = Leads-below known n stands.stood.entries trail.declared stands.stood.sets
        (All-front (λ (entry : Entry). IsBelow n entry.reason) stands.stood.entries (record { lit = stands.lit; reason = Decision; level = stands.level } ∷ stands.later)
        (subst (All (λ (entry : Entry). IsBelow n entry.reason)) stands.parts low))
        stands.leads;
    below = stands.below;
  };
}

-- other clauses may be held, the reasons among them
pub IsReasoned-still : (known : Known) (held : numbered.Held) (trail : Levels) → All (λ (entry : Entry). IsStill known.held held entry.reason) trail.entries → IsReasoned known trail → IsReasoned (record known { held = held }) trail
IsReasoned-still known held trail still reasoned = record {
  leads = Leads-still known held trail.entries trail.declared trail.sets still reasoned.leads;
  one_each = reasoned.one_each;
  standing = λ k below. let stands = reasoned.standing k below in record {
    stood = stands.stood;
    here = stands.here;
    lit = stands.lit;
    level = stands.level;
    later = stands.later;
    parts = stands.parts;
    leads = Leads-still known held stands.stood.entries trail.declared stands.stood.sets
        (All-front (λ (entry : Entry). IsStill known.held held entry.reason) stands.stood.entries (record { lit = stands.lit; reason = Decision; level = stands.level } ∷ stands.later)
        (subst (All (λ (entry : Entry). IsStill known.held held entry.reason)) stands.parts still))
        stands.leads;
    below = stands.below;
  };
}

-- ---- another mark

pub IsReasoned-marked : (known : Known) (trail : Levels) (mark : ℕ) → IsReasoned known trail → IsReasoned known (record trail { mark = mark })
IsReasoned-marked known trail mark reasoned = record {
  leads = reasoned.leads;
  one_each = reasoned.one_each;
  standing = λ k below. let stands = reasoned.standing k below in record {
    stood = stands.stood;
    here = stands.here;
    lit = stands.lit;
    level = stands.level;
    later = stands.later;
    parts = stands.parts;
    leads = stands.leads;
    below = stands.below;
  };
}

-- ---- one more entry

module _ (known : Known) (trail : Levels) (lit : Lit) (reason : Reason) (reasoned : IsReasoned known trail) (var : IsVariable (length trail.declared) lit.var) (is : IsReason known trail.sets lit reason) (level : ℕ) where
  Leads-more : Leads known trail.declared (trail.entries ++ record { lit = lit; reason = reason; level = level } ∷ []) (narrowed trail.sets lit)
  Leads-more =
      Leads-append known trail.entries (record { lit = lit; reason = reason; level = level } ∷ []) trail.declared trail.sets (narrowed trail.sets lit) reasoned.leads
      (subst (λ (n : ℕ). IsVariable n lit.var) (sym (length-reasoned known trail reasoned)) var, is, refl)

  parts_more : (k : ℕ) (stands : IsLevelStanding known trail k) → trail.entries ++ record { lit = lit; reason = reason; level = level } ∷ [] ≡ stands.stood.entries ++ record { lit = stands.lit; reason = Decision; level = stands.level } ∷ (stands.later ++ record { lit = lit; reason = reason; level = level } ∷ [])
  parts_more k stands =
      let entry : Entry = record { lit = lit; reason = reason; level = level } in
      let decision : Entry = record { lit = stands.lit; reason = Decision; level = stands.level } in
      ap (λ (es : List Entry). es ++ entry ∷ []) stands.parts ∙ append_assoc stands.stood.entries (decision ∷ stands.later) (entry ∷ [])

-- ---- a decision at a new level

module _ (known : Known) (trail : Levels) (lit : Lit) (reasoned : IsReasoned known trail) where
  pub opens-decided : opens (asserted lit Decision (pushed trail)).declared (asserted lit Decision (pushed trail)).entries ≡ opens trail.declared trail.entries ++ record { sets = trail.sets; decision = lit } ∷ []
  opens-decided =
      opens-append trail.entries (record { lit = lit; reason = Decision; level = level_of (pushed trail) } ∷ []) trail.declared
      ∙ ap (λ (s : List IntSet). opens trail.declared trail.entries ++ record { sets = s; decision = lit } ∷ [])
      (Leads-after known trail.entries trail.declared trail.sets reasoned.leads)

  pub negated_decisions-decided : negated_decisions (asserted lit Decision (pushed trail)).declared (asserted lit Decision (pushed trail)).entries ≡ negated_decisions trail.declared trail.entries ++ negated lit ∷ []
  negated_decisions-decided =
      ap (λ (taken : List Open). map (λ (at : Open). negated at.decision) taken) opens-decided
      ∙ map-append (λ (at : Open). negated at.decision) (opens trail.declared trail.entries) (record { sets = trail.sets; decision = lit } ∷ [])

  pub IsReasoned-decided : IsVariable (length trail.declared) lit.var → IsOpen trail.sets lit → IsReasoned known (asserted lit Decision (pushed trail))
  IsReasoned-decided var is_open = record {
    leads = Leads-more known trail lit Decision reasoned var is_open (level_of (pushed trail));
    one_each = ap length opens-decided ∙ length_push (opens trail.declared trail.entries) (record { sets = trail.sets; decision = lit }) ∙ ap (λ (n : ℕ). n + 1) reasoned.one_each ∙ sym (length_push trail.saved (standing trail));
    standing = λ k below. elim (cases_lt k (length trail.saved)) [
      | inl lower ↦ let stands = reasoned.standing k lower in record {
        stood = stands.stood;
        here = slice_get_front trail.saved (standing trail ∷ []) k stands.stood stands.here;
        lit = stands.lit;
        level = stands.level;
        later = stands.later ++ record { lit = lit; reason = Decision; level = level_of (pushed trail) } ∷ [];
        parts = parts_more known trail lit Decision reasoned var is_open (level_of (pushed trail)) k stands;
        leads = stands.leads;
        below = stands.below;
      }
      | inr higher ↦
          let last : length trail.saved ≡ k = omega (arith, length_push trail.saved (standing trail)) in
          record {
            stood = standing trail;
            here = slice_get_at trail.saved [] (standing trail) k last;
            lit = lit;
            level = level_of (pushed trail);
            later = [];
            parts = refl;
            leads = reasoned.leads;
            below = reasoned.one_each ∙ last;
          }
    ];
  }

-- ---- a forced literal

pub opens-forced : (trail : Levels) (lit : Lit) (antecedent : Antecedent) → opens (asserted lit (Implied antecedent) trail).declared (asserted lit (Implied antecedent) trail).entries ≡ opens trail.declared trail.entries
opens-forced trail lit antecedent =
    opens-append trail.entries (record { lit = lit; reason = Implied antecedent; level = level_of trail } ∷ []) trail.declared
    ∙ append-nil (opens trail.declared trail.entries)

pub IsReasoned-forced : (known : Known) (trail : Levels) (lit : Lit) (antecedent : Antecedent) → IsReasoned known trail → IsVariable (length trail.declared) lit.var → IsForcedFrom known trail.sets lit antecedent → IsReasoned known (asserted lit (Implied antecedent) trail)
IsReasoned-forced known trail lit antecedent reasoned var forced = record {
  leads = Leads-more known trail lit (Implied antecedent) reasoned var forced (level_of trail);
  one_each = ap length (opens-forced trail lit antecedent) ∙ reasoned.one_each;
  standing = λ k below. let stands = reasoned.standing k below in record {
    stood = stands.stood;
    here = stands.here;
    lit = stands.lit;
    level = stands.level;
    later = stands.later ++ record { lit = lit; reason = Implied antecedent; level = level_of trail } ∷ [];
    parts = parts_more known trail lit (Implied antecedent) reasoned var forced (level_of trail) k stands;
    leads = stands.leads;
    below = stands.below;
  };
}

-- ---- the way back

module _ (known : Known) (trail : Levels) (level : ℕ) (reasoned : IsReasoned known trail) (within : level < level_of trail) (stands : IsLevelStanding known trail level) where
  -- what stood at a level below, on the way back to this one
  standing_below : (k : ℕ) → k < level → IsLevelStanding known trail k → IsLevelStanding known (restored level stands.stood trail) k
  standing_below k below lower = elim (front_cases lower.stood.entries stands.stood.entries lower.later (record { lit = stands.lit; reason = Decision; level = stands.level } ∷ stands.later) (record { lit = lower.lit; reason = Decision; level = lower.level }) (sym lower.parts ∙ stands.parts)) [
    | inl m ↦ record {
      stood = lower.stood;
      here = slice_get_take trail.saved level k lower.stood below (omega arith) lower.here;
      lit = lower.lit;
      level = lower.level;
      later = m.0;
      parts = m.1;
      leads = lower.leads;
      below = lower.below;
    }
    | inr m ↦
        let counts : length (opens trail.declared lower.stood.entries) ≡ length (opens trail.declared stands.stood.entries ++ opens (after trail.declared stands.stood.entries) m.0) =
        ap (λ (es : List Entry). length (opens trail.declared es)) m.1 ∙ ap length (opens-append stands.stood.entries m.0 trail.declared) in
        absurd (omega (arith, counts, lower.below, stands.below, length-append (opens trail.declared stands.stood.entries) (opens (after trail.declared stands.stood.entries) m.0)))
  ]

  restored_reasoned : IsReasoned known (restored level stands.stood trail)
  restored_reasoned = record {
    leads = stands.leads;
    one_each = stands.below ∙ sym (length-take-le level trail.saved (omega arith));
    standing = λ k below.
        let lower : k < level = omega (arith, length-take-le level trail.saved) in
        standing_below k lower (reasoned.standing k (omega arith));
  }

pub IsReasoned-returned : (known : Known) (trail : Levels) (level : ℕ) → IsReasoned known trail → level ≤ level_of trail → IsReasoned known (returned level trail)
IsReasoned-returned known trail level reasoned h = elim (cases_lt level (level_of trail)) [
  | inl below ↦
      let stands = reasoned.standing level below in
      subst (λ (t : Levels). IsReasoned known t) (sym (returned-standing known trail reasoned level stands below)) (restored_reasoned known trail level reasoned below stands)
  | inr present ↦ subst (λ (t : Levels). IsReasoned known t) (sym (returned-present level trail present)) reasoned
]

-- the decisions of the levels that are left
pub opens-returned : (known : Known) (trail : Levels) (level : ℕ) → IsReasoned known trail → level ≤ level_of trail → opens (returned level trail).declared (returned level trail).entries ≡ take level (opens trail.declared trail.entries)
opens-returned known trail level reasoned h = elim (cases_lt level (level_of trail)) [
  | inl below ↦
      let stands = reasoned.standing level below in
      ap (λ (t : Levels). opens t.declared t.entries) (returned-standing known trail reasoned level stands below) ∙ opens-below known trail reasoned level stands
  | inr present ↦
      ap (λ (t : Levels). opens t.declared t.entries) (returned-present level trail present)
      ∙ sym (take_all level (opens trail.declared trail.entries) (omega (arith, reasoned.one_each)))
]

pub negated_decisions-returned : (known : Known) (trail : Levels) (level : ℕ) → IsReasoned known trail → level ≤ level_of trail → negated_decisions (returned level trail).declared (returned level trail).entries ≡ take level (negated_decisions trail.declared trail.entries)
negated_decisions-returned known trail level reasoned h =
    ap (λ (taken : List Open). map (λ (at : Open). negated at.decision) taken) (opens-returned known trail level reasoned h)
    ∙ sym (take-map (λ (at : Open). negated at.decision) level (opens trail.declared trail.entries))

-- the decisions of the present levels are those left one level back, and the last one
pub opens-last : (known : Known) (trail : Levels) (level : ℕ) → IsReasoned known trail → (below : level + 1 ≡ level_of trail) → (at : IsDecisionAt trail level) → opens trail.declared trail.entries ≡ opens (returned level trail).declared (returned level trail).entries ++ at.at ∷ []
opens-last known trail level reasoned below at =
    let fits : length (opens trail.declared trail.entries) ≤ level + 1 = omega (arith, reasoned.one_each) in
    let in_list : level < length (opens trail.declared trail.entries) = omega (arith, reasoned.one_each) in
    sym (take_all (level + 1) (opens trail.declared trail.entries) fits)
    ∙ take_more (opens trail.declared trail.entries) level at.at in_list
    ∙ ap (λ (o : Open). take level (opens trail.declared trail.entries) ++ o ∷ []) (get_or_from_slice_get (opens trail.declared trail.entries) level at.at at.at at.is)
    ∙ ap (λ (taken : List Open). taken ++ at.at ∷ []) (sym (opens-returned known trail level reasoned (omega arith)))
