-- A part that moves by what is decided.
use Rattle.std.proofs.Common.{◌≡◌, Bool, true, false, cond, List, ap, ◌∙◌, ℤ, Option, Some, option_and_then, Result, Err}
use Rattle.std.specs.Option.{option_map_or}
use Rattle.fzn_domain.specs.declared.literal.VarId.{VarId}
use Rattle.fzn_domain.specs.IntSet.{IntSet, least}
use Rattle.fzn_domain.specs.Narrow.{set_of}
use Rattle.fzn_meaning.specs.declared.constraint.Constraint.{Constraint}
use Rattle.fzn_cited.specs.declared.fault.DeriveFault.{DeriveFault}
use Rattle.fzn_cited.specs.declared.fault.DeriveFault.TheVariants.{NotDerived}
use Rattle.fzn_dependence.specs.Decided.{decider_in, decided_in}
use Rattle.fzn_weights.specs.Moves.{weight_within, weight_where, span, is_narrow}
use Rattle.fzn_weights.proofs.MoveLemmas.{moved-alike}
use Rattle.fzn_row.specs.Draft.{Draft, part_for}
use Rattle.fzn_row.specs.Prices.{with_list}
use Rattle.fzn_row.specs.Weights.{without_part}
use Rattle.fzn_row.specs.Moves.{part_moved_so, decided_moved}

-- it moves alike by what is decided alike
pub moved-by_alike : (declared : List IntSet) (decided decided' : ℤ → Option ℤ) (source by : VarId) (draft : Draft) → ((value : ℤ) → decided value ≡ decided' value) → part_moved_so declared decided source by draft ≡ part_moved_so declared decided' source by draft
moved-by_alike declared decided decided' source by draft each =
    let set = set_of declared source in
    let part = part_for source draft.parts in
    ap (with_list by (without_part source draft) (least (set_of declared by)))
    (moved-alike (weight_where set part decided) (weight_where set part decided') (part_for by (without_part source draft).parts).listed (λ value. ap (option_and_then (weight_within set part)) (each value)) (least (set_of declared by)) (span (set_of declared by)))

-- ---- what is decided

module _ (declared : List IntSet) (source by : VarId) (draft : Draft) (c : Constraint) (decider : decider_in source c ≡ Some by) where
  abbrev Tested : VarId → Result Draft DeriveFault
  Tested other = cond (is_narrow (set_of declared other)) (part_moved_so declared (λ (value : ℤ). decided_in other value c) source other draft) (Err NotDerived)

  pub decided-narrow : is_narrow (set_of declared by) ≡ true → decided_moved declared source draft c ≡ part_moved_so declared (λ (value : ℤ). decided_in by value c) source by draft
  decided-narrow narrow = ap (λ (o : Option VarId). option_map_or Tested o (Err NotDerived)) decider ∙ ap (λ (b : Bool). cond b (part_moved_so declared (λ (value : ℤ). decided_in by value c) source by draft) (Err NotDerived)) narrow

  pub decided-wide : is_narrow (set_of declared by) ≡ false → decided_moved declared source draft c ≡ Err NotDerived
  decided-wide wide = ap (λ (o : Option VarId). option_map_or Tested o (Err NotDerived)) decider ∙ ap (λ (b : Bool). cond b (part_moved_so declared (λ (value : ℤ). decided_in by value c) source by draft) (Err NotDerived)) wide
