-- The learned clause and its ids, as far as the entries were read, and what they promise.
use Rattle.std.proofs.Common.{◌≡◌, ℕ, ◌+◌, ◌-◌, ◌<◌, true, ℤ, pos, ◌+ℤ◌, ◌-ℤ◌, ◌≤ℤ◌, cond, List, [], ◌∷◌, ◌++◌, map, length, take, get_or, Some, refl, sym, ap, subst, ◌∙◌, inr, arith, All}
use Rattle.std.specs.List.{slice_get}
use Rattle.std.proofs.lemmas.Int.{ints}
use Rattle.std.proofs.lemmas.Bool.Decides.{Decides-int_eq}
use Rattle.std.proofs.lemmas.List.{append-nil, map-append, take_more, nil_from_length}
use Rattle.std.proofs.lemmas.List.Elements.{All-nil, All-cons, All-append, All-map, All-same, All-weaker, filter-append}
use Rattle.std.proofs.lemmas.Option.{slice_get_within, get_or_from_slice_get}
use Rattle.fzn_domain.specs.declared.literal.Op.{Op}
use Rattle.fzn_domain.specs.declared.literal.Op.TheVariants.{AtMost, AtLeast, Equal, NotEqual}
use Rattle.fzn_domain.specs.declared.literal.Lit.{Lit}
use Rattle.fzn_domain.specs.Literal.{compares, negated, opposite_op, opposite_bound}
use Rattle.fzn_domain.specs.IntSet.{IntSet, contains, no_values, is_possible}
use Rattle.fzn_domain.specs.Limits.{IsInLimits, IsLimited}
use Rattle.fzn_domain.specs.Narrow.{IsVariable, IsOpen, set_of, possible_in, IsAcceptedFrom}
use Rattle.fzn_domain.proofs.SetLemmas.{witness}
use Rattle.fzn_trail.specs.declared.trail.Entry.{Entry}
use Rattle.fzn_trail.specs.declared.trail.Antecedent.{Antecedent}
use Rattle.fzn_trail.specs.declared.trail.Reason.{Reason}
use Rattle.fzn_trail.specs.declared.trail.Reason.TheVariants.{Decision, Implied}
use Rattle.fzn_trail.specs.Levels.{Levels, level_of, returned, IsNarrower}
use Rattle.fzn_learned.specs.declared.learned.Learned.{Learned}
use Rattle.fzn_learned.specs.Learned.{antecedents_of, IsConflicting, IsLearned, IsPlain, ForcesBack}
use Rattle.fzn_learned.specs.Reasoned.{Known, IsKnown, antecedent_clause, IsLoneLiteral, IsReason, Open, opens, IsReasoned, negated_decisions}
use Rattle.fzn_learned.proofs.NarrowerLemmas.{possible-twice}
use Rattle.fzn_learned.proofs.EntryLemmas.{after, IsTaken, entry_at, opens-append, opens-true, antecedents_of-append, antecedents_known}
use Rattle.fzn_learned.proofs.ChainLemmas.{accepted_plain, negations_false}
use Rattle.fzn_learned.proofs.CallerLemmas.{decision_at, opens-last, IsReasoned-returned, taken-reasoned}

-- ---- one more entry read

module _ (from : List IntSet) (entries : List Entry) (i : ℕ) (entry : Entry) (is : slice_get entries i ≡ Some entry) where
  taken_more : take (i + 1) entries ≡ take i entries ++ entry ∷ []
  taken_more =
      let below : i < length entries = slice_get_within entries i entry is in
      take_more entries i entry below ∙ ap (λ (e : Entry). take i entries ++ e ∷ []) (get_or_from_slice_get entries i entry entry is)

  pub opens-more : opens from (take (i + 1) entries) ≡ opens from (take i entries) ++ opens (after from (take i entries)) (entry ∷ [])
  opens-more = ap (opens from) taken_more ∙ opens-append (take i entries) (entry ∷ []) from

  pub antecedents_of-more : antecedents_of (take (i + 1) entries) ≡ antecedents_of (take i entries) ++ antecedents_of (entry ∷ [])
  antecedents_of-more = ap antecedents_of taken_more ∙ antecedents_of-append (take i entries) (entry ∷ [])

by_decision : (sets : List IntSet) (lit : Lit) (reason : Reason) (level : ℕ) → reason ≡ Decision → opens sets (record { lit = lit; reason = reason; level = level } ∷ []) ≡ record { sets = sets; decision = lit } ∷ []
by_decision sets lit Decision level e = refl
by_decision sets lit (Implied antecedent) level e = cc

by_antecedent : (sets : List IntSet) (lit : Lit) (reason : Reason) (level : ℕ) (antecedent : Antecedent) → reason ≡ Implied antecedent → opens sets (record { lit = lit; reason = reason; level = level } ∷ []) ≡ []
by_antecedent sets lit Decision level antecedent e = cc
by_antecedent sets lit (Implied other) level antecedent e = refl

no_antecedent : (lit : Lit) (reason : Reason) (level : ℕ) → reason ≡ Decision → antecedents_of (record { lit = lit; reason = reason; level = level } ∷ []) ≡ []
no_antecedent lit Decision level e = refl
no_antecedent lit (Implied antecedent) level e = cc

one_antecedent : (lit : Lit) (reason : Reason) (level : ℕ) (antecedent : Antecedent) → reason ≡ Implied antecedent → antecedents_of (record { lit = lit; reason = reason; level = level } ∷ []) ≡ antecedent ∷ []
one_antecedent lit Decision level antecedent e = cc
one_antecedent lit (Implied other) level antecedent e =
    let same : other ≡ antecedent = cc in
    ap (λ (a : Antecedent). a ∷ []) same

module _ (from : List IntSet) (entries : List Entry) (i : ℕ) (entry : Entry) (is : slice_get entries i ≡ Some entry) where
  pub negated_decisions-decision : entry.reason ≡ Decision → negated_decisions from (take (i + 1) entries) ≡ negated_decisions from (take i entries) ++ negated entry.lit ∷ []
  negated_decisions-decision e =
      let now : List IntSet = after from (take i entries) in
      ap (λ (taken : List Open). map (λ (at : Open). negated at.decision) taken)
      (opens-more from entries i entry is ∙ ap (λ (taken : List Open). opens from (take i entries) ++ taken) (by_decision now entry.lit entry.reason entry.level e))
      ∙ map-append (λ (at : Open). negated at.decision) (opens from (take i entries)) (record { sets = now; decision = entry.lit } ∷ [])

  pub negated_decisions-implied : (antecedent : Antecedent) → entry.reason ≡ Implied antecedent → negated_decisions from (take (i + 1) entries) ≡ negated_decisions from (take i entries)
  negated_decisions-implied antecedent e =
      ap (λ (taken : List Open). map (λ (at : Open). negated at.decision) taken)
      (opens-more from entries i entry is
      ∙ ap (λ (taken : List Open). opens from (take i entries) ++ taken) (by_antecedent (after from (take i entries)) entry.lit entry.reason entry.level antecedent e)
      ∙ append-nil (opens from (take i entries)))

  pub antecedents_of-decision : entry.reason ≡ Decision → antecedents_of (take (i + 1) entries) ≡ antecedents_of (take i entries)
  antecedents_of-decision e =
      antecedents_of-more from entries i entry is
      ∙ ap (λ (antecedents : List Antecedent). antecedents_of (take i entries) ++ antecedents) (no_antecedent entry.lit entry.reason entry.level e)
      ∙ append-nil (antecedents_of (take i entries))

  pub antecedents_of-implied : (antecedent : Antecedent) → entry.reason ≡ Implied antecedent → antecedents_of (take (i + 1) entries) ≡ antecedents_of (take i entries) ++ antecedent ∷ []
  antecedents_of-implied antecedent e =
      antecedents_of-more from entries i entry is
      ∙ ap (λ (antecedents : List Antecedent). antecedents_of (take i entries) ++ antecedents) (one_antecedent entry.lit entry.reason entry.level antecedent e)

-- ---- numbers

-- where a value within the limits makes a literal true and another one false, its number and that of its negation are within them
numbers_in_limits : (op : Op) (bound v w : ℤ) → IsInLimits v → IsInLimits w → compares op v bound ≡ true → compares (opposite_op op) w (opposite_bound op bound) ≡ true → IsInLimits bound × IsInLimits (opposite_bound op bound)
numbers_in_limits AtMost bound v w hv hw true_there false_there =
    let a : v ≤ℤ bound = grind (arith, ints) in
    let b : (bound +ℤ pos 1) ≤ℤ w = grind (arith, ints) in
    ((omega (arith, ints), omega (arith, ints)), (omega (arith, ints), omega (arith, ints)))
numbers_in_limits AtLeast bound v w hv hw true_there false_there =
    let a : bound ≤ℤ v = grind (arith, ints) in
    let b : w ≤ℤ (bound -ℤ pos 1) = grind (arith, ints) in
    ((omega (arith, ints), omega (arith, ints)), (omega (arith, ints), omega (arith, ints)))
numbers_in_limits Equal bound v w hv hw true_there false_there =
    let same : v ≡ bound = (Decides-int_eq v bound).0 true_there in
    (subst IsInLimits same hv, subst IsInLimits same hv)
numbers_in_limits NotEqual bound v w hv hw true_there false_there =
    let same : w ≡ bound = (Decides-int_eq w bound).0 false_there in
    (subst IsInLimits same hw, subst IsInLimits same hw)

limited_below : (sets declared : List IntSet) (k : ℕ) (value : ℤ) → k < length declared → IsNarrower sets declared → All IsLimited declared → contains (get_or sets k no_values) value ≡ true → IsInLimits value
limited_below sets declared k value below narrower limited h = limited k no_values below value (narrower.within k value h)

pub open_in_limits : (sets declared : List IntSet) (lit : Lit) → IsVariable (length declared) lit.var → IsNarrower sets declared → All IsLimited declared → IsOpen sets lit → IsInLimits lit.value × IsInLimits (negated lit).value
open_in_limits sets declared lit var narrower limited is_open =
    let holds = witness (set_of sets lit.var) lit is_open.0 in
    let fails = witness (set_of sets lit.var) (negated lit) is_open.1 in
    let below : lit.var.0 - 1 < length declared = omega arith in
    numbers_in_limits lit.op lit.value holds.0 fails.0
    (limited_below sets declared (lit.var.0 - 1) holds.0 below narrower limited holds.1)
    (limited_below sets declared (lit.var.0 - 1) fails.0 below narrower limited fails.1)
    holds.2 fails.2

open_by_reason : (known : Known) (sets : List IntSet) (lit : Lit) (reason : Reason) → reason ≡ Decision → IsReason known sets lit reason → IsOpen sets lit
open_by_reason known sets lit Decision e h = h
open_by_reason known sets lit (Implied antecedent) e h = cc

-- the number of a decision among the entries
pub decision_in_limits : (known : Known) (trail : Levels) (i : ℕ) (entry : Entry) → IsReasoned known trail → All IsLimited trail.declared → slice_get trail.entries i ≡ Some entry → entry.reason ≡ Decision → IsInLimits entry.lit.value
decision_in_limits known trail i entry reasoned limited is e =
    let at = entry_at known trail.entries trail.declared trail.sets i entry reasoned.leads is in
    (open_in_limits (after trail.declared (take i trail.entries)) trail.declared entry.lit at.variable at.narrower limited
    (open_by_reason known (after trail.declared (take i trail.entries)) entry.lit entry.reason e at.reason)).0

-- ---- what the plain clause promises

-- the negation of an open literal, behind literals that are false, is forced
forced_there : (sets : List IntSet) (before clause : List Lit) (lit : Lit) → clause ≡ before ++ negated lit ∷ [] → possible_in sets before ≡ [] → IsOpen sets lit → IsLoneLiteral sets clause (negated lit)
forced_there sets before clause lit is none is_open = (
  ap (λ (c : List Lit). possible_in sets c) is
      ∙ filter-append (λ (l : Lit). is_possible (set_of sets l.var) l) before (negated lit ∷ [])
      ∙ ap (λ (ls : List Lit). ls ++ possible_in sets (negated lit ∷ [])) none
      ∙ ap (λ b. cond b (negated lit ∷ []) []) is_open.1,
  possible-twice (set_of sets lit.var) lit is_open.0,
)

module _ (known : Known) (trail : Levels) (conflict : Antecedent) (learned : Learned) (reasoned : IsReasoned known trail) (limited : All IsLimited trail.declared) (false_there : IsConflicting known trail.sets conflict) (clause_is : learned.clause ≡ negated_decisions trail.declared trail.entries) (antecedents_is : learned.antecedents ≡ antecedents_of trail.entries ++ conflict ∷ []) (level_is : learned.level ≡ level_of trail - 1) where
  clauses_is : map (antecedent_clause known) learned.antecedents ≡ map (antecedent_clause known) (antecedents_of trail.entries) ++ antecedent_clause known conflict ∷ []
  clauses_is = ap (map (antecedent_clause known)) antecedents_is ∙ map-append (antecedent_clause known) (antecedents_of trail.entries) (conflict ∷ [])

  is_accepted : IsAcceptedFrom trail.declared learned.clause (map (antecedent_clause known) learned.antecedents)
  is_accepted =
      let all = accepted_plain known (antecedent_clause known conflict) trail.entries trail.declared trail.sets reasoned.leads false_there.is_false in
      let with_ids = subst (λ (earlier : List (List Lit)). IsAcceptedFrom trail.declared (negated_decisions trail.declared trail.entries) earlier) (sym clauses_is) all in
      subst (λ (c : List Lit). IsAcceptedFrom trail.declared c (map (antecedent_clause known) learned.antecedents)) (sym clause_is) with_ids

  all_known : All (IsKnown known) learned.antecedents
  all_known =
      let P : Antecedent → Type 0 = IsKnown known in
      All-same P learned.antecedents (antecedents_of trail.entries ++ conflict ∷ []) antecedents_is
      (All-append P (antecedents_of trail.entries) (conflict ∷ []) (antecedents_known known trail.entries trail.declared trail.sets reasoned.leads) (All-cons P conflict [] false_there.is_known (All-nil P)))

  each_negation : (P : Lit → Type 0) → ((at : Open) → IsTaken trail.declared at → P (negated at.decision)) → All P learned.clause
  each_negation P each =
      let Q : Open → Type 0 = λ at. P (negated at.decision) in
      All-same P learned.clause (negated_decisions trail.declared trail.entries) clause_is
      (All-map P (λ (at : Open). negated at.decision) (opens trail.declared trail.entries)
      (All-weaker (IsTaken trail.declared) Q each (opens trail.declared trail.entries) (taken-reasoned known trail reasoned)))

  closes : level_of trail ≡ 0 → learned.clause ≡ []
  closes at_0 =
      clause_is ∙ ap (λ (taken : List Open). map (λ (at : Open). negated at.decision) taken) (nil_from_length (opens trail.declared trail.entries) (reasoned.one_each ∙ at_0))

  forces_back : 0 < level_of trail → ForcesBack trail learned
  forces_back above =
      let one_less : learned.level + 1 ≡ level_of trail = omega arith in
      let below : learned.level < level_of trail = omega arith in
      let at = decision_at known trail learned.level reasoned below in
      let back : Levels = returned learned.level trail in
      let still = IsReasoned-returned known trail learned.level reasoned (omega arith) in
      let earlier : List Open = opens back.declared back.entries in
      let split : learned.clause ≡ map (λ (o : Open). negated o.decision) earlier ++ negated at.at.decision ∷ [] =
      clause_is ∙ ap (λ (taken : List Open). map (λ (o : Open). negated o.decision) taken) (opens-last known trail learned.level reasoned one_less at)
      ∙ map-append (λ (o : Open). negated o.decision) earlier (at.at ∷ []) in
      let none : possible_in back.sets (map (λ (o : Open). negated o.decision) earlier) ≡ [] =
      negations_false earlier back.sets (opens-true known back.entries back.declared back.sets still.leads) in
      record {
        one_less = one_less;
        last = at.at;
        is_last = at.is;
        stood = at.sets;
        forced = forced_there at.at.sets (map (λ (o : Open). negated o.decision) earlier) learned.clause at.at.decision split (subst (λ (s : List IntSet). possible_in s (map (λ (o : Open). negated o.decision) earlier) ≡ []) at.sets none) at.taken.is_open;
      }

  pub learned_plain : IsLearned known trail learned
  learned_plain = record {
    accepted = is_accepted;
    all_known = all_known;
    over = each_negation (λ (lit : Lit). IsVariable (length trail.declared) lit.var) (λ at taken. taken.variable);
    in_limits = each_negation (λ (lit : Lit). IsInLimits lit.value) (λ at taken. (open_in_limits at.sets trail.declared at.decision taken.variable taken.narrower limited taken.is_open).1);
    at_level_0 = closes;
    below = λ above. omega (arith, (forces_back above).one_less);
    forces = λ above.
        let back = forces_back above in
        inr (negated back.last.decision, subst (λ (s : List IntSet). IsLoneLiteral s learned.clause (negated back.last.decision)) (sym back.stood) back.forced);
  }

  pub plain_is : IsPlain trail conflict learned
  plain_is = record { clause = clause_is; antecedents = antecedents_is; back = forces_back }
