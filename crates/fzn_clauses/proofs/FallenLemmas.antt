-- Which literals an entry leaves as they were.
use Rattle.std.proofs.Common.{◌≡◌, ◌⊎◌, true, false, not, ℤ, pos, ◌+ℤ◌, ◌<ℤ◌, ◌≤ℤ◌, int_eq, sym, ap, ◌∙◌, inl, inr, arith}
use Rattle.std.proofs.lemmas.Int.{ints}
use Rattle.std.proofs.lemmas.Bool.{cases_Bool, true≢false}
use Rattle.std.proofs.lemmas.Bool.Decides.{Decides-int_eq}
use Rattle.fzn_domain.specs.declared.literal.Op.TheVariants.{AtMost, AtLeast, Equal, NotEqual}
use Rattle.fzn_domain.specs.declared.literal.Op.{Op}
use Rattle.fzn_domain.specs.declared.literal.VarId.{VarId}
use Rattle.fzn_domain.specs.declared.literal.Lit.{Lit}
use Rattle.fzn_domain.specs.Literal.{compares, is_true_at}
use Rattle.fzn_domain.specs.IntSet.{IntSet, contains}
use Rattle.fzn_domain.proofs.SetLemmas.{possible_when, impossible_when}
use Rattle.fzn_clauses.specs.Keys.{IsStill}

module _ (earlier now : IntSet) (entry : Lit) (var : VarId) (v : ℤ) where
  -- at most a number: below the least value of the earlier set, or not below that of the later one
  pub at_most_still : (from until : ℤ) → ((w : ℤ) → contains earlier w ≡ true → from ≤ℤ w) → contains now until ≡ true → (v <ℤ from) ⊎ (until ≤ℤ v) → IsStill earlier entry now (record { var = var; op = AtMost; value = v })
  at_most_still from until first member outside = elim outside [
    | inl low ↦ inr (inl (impossible_when earlier (record { var = var; op = AtMost; value = v }) (λ w inside. let least = first w inside in grind (arith, ints))))
    | inr high ↦ inl (possible_when now (record { var = var; op = AtMost; value = v }) until member (grind (arith, ints)))
  ]

  -- at least a number: above the greatest value of the earlier set, or not above that of the later one
  pub at_least_still : (greatest last from until : ℤ) → contains now greatest ≡ true → ((w : ℤ) → contains earlier w ≡ true → w ≤ℤ last) → from ≡ greatest +ℤ pos 1 → until ≡ last +ℤ pos 1 → (v <ℤ from) ⊎ (until ≤ℤ v) → IsStill earlier entry now (record { var = var; op = AtLeast; value = v })
  at_least_still greatest last from until member highest is_from is_until outside = elim outside [
    | inl low ↦
        let less : v ≤ℤ greatest = omega (arith, ints) in
        inl (possible_when now (record { var = var; op = AtLeast; value = v }) greatest member (grind (arith, ints)))
    | inr high ↦ inr (inl (impossible_when earlier (record { var = var; op = AtLeast; value = v }) (λ w inside.
        let most = highest w inside in
        let less : w <ℤ v = omega (arith, ints) in
        grind (arith, ints))))
  ]

  -- an equation whose number is no value of the earlier set, or at which the entry's literal is true
  pub equation_still : (op : Op) → op ≡ Equal → (contains earlier v ≡ false) ⊎ (is_true_at entry v ≡ true) → IsStill earlier entry now (record { var = var; op = op; value = v })
  equation_still AtMost is outside = cc
  equation_still AtLeast is outside = cc
  equation_still NotEqual is outside = cc
  equation_still Equal is outside = elim outside [
    | inr cleared ↦ inr (inr cleared)
    | inl absent ↦ inr (inl (impossible_when earlier (record { var = var; op = Equal; value = v }) (λ w inside. elim (cases_Bool (int_eq w v)) [
      | inr e ↦ e
      | inl e ↦ absurd (true≢false (sym inside ∙ ap (contains earlier) ((Decides-int_eq w v).0 e) ∙ absent))
    ])))
  ]

-- ---- values that an entry takes out

pub absent_over : (s : IntSet) (last v : ℤ) → ((w : ℤ) → contains s w ≡ true → w ≤ℤ last) → last <ℤ v → contains s v ≡ false
absent_over s last v highest over = elim (cases_Bool (contains s v)) [
  | inr e ↦ e
  | inl e ↦ let most = highest v e in absurd (omega (arith, ints))
]

pub absent_under : (s : IntSet) (first v : ℤ) → ((w : ℤ) → contains s w ≡ true → first ≤ℤ w) → v <ℤ first → contains s v ≡ false
absent_under s first v lowest under = elim (cases_Bool (contains s v)) [
  | inr e ↦ e
  | inl e ↦ let least = lowest v e in absurd (omega (arith, ints))
]

pub kept_at_most : (op : Op) (v bound : ℤ) → op ≡ AtMost → v ≤ℤ bound → compares op v bound ≡ true
kept_at_most AtMost v bound is h = grind (arith, ints)
kept_at_most AtLeast v bound is h = cc
kept_at_most Equal v bound is h = cc
kept_at_most NotEqual v bound is h = cc

pub kept_at_least : (op : Op) (v bound : ℤ) → op ≡ AtLeast → bound ≤ℤ v → compares op v bound ≡ true
kept_at_least AtMost v bound is h = cc
kept_at_least AtLeast v bound is h = grind (arith, ints)
kept_at_least Equal v bound is h = cc
kept_at_least NotEqual v bound is h = cc

pub kept_beside : (op : Op) (v bound : ℤ) → op ≡ NotEqual → (v <ℤ bound) ⊎ (bound <ℤ v) → compares op v bound ≡ true
kept_beside AtMost v bound is h = cc
kept_beside AtLeast v bound is h = cc
kept_beside Equal v bound is h = cc
kept_beside NotEqual v bound is h = elim (cases_Bool (int_eq v bound)) [
  | inr e ↦ ap not e
  | inl e ↦
      let same : v ≡ bound = (Decides-int_eq v bound).0 e in
      elim h [ inl low ↦ absurd (omega (arith, ints)) | inr high ↦ absurd (omega (arith, ints)) ]
]
