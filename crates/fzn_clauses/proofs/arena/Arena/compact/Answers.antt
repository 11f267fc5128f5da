use Rattle.std.proofs.Common.{rules, ◌≡◌, List, [], length, map, sym, ap, ap₂, subst, ◌∙◌, All}
use Rattle.fzn_domain.specs.declared.literal.Lit.{Lit}
use Rattle.fzn_clauses.specs.declared.arena.Slot.{Slot}
use Rattle.fzn_clauses.specs.Slots.{range_of, IsSlot, gathered}
use Rattle.fzn_clauses.proofs.GatherLemmas.{length-gathered, ranges_laid, slots_laid}
use Rattle.fzn_clauses.proofs.arena.Arena.compact.Goals as goal

pub lay_out-requires : goal.lay_out-requires
lay_out-requires c =
    let lits = c.self.inside.lits.items in
    let slots = c.self.inside.slots.items in
    let is : c.in_ok-lits.lits.items ≡ gathered lits slots = c.in_ok-lits.ensures ∙ ap₂ gathered c.as_slice.ensures.value c.as_slice-2.ensures.value in
    let count : c.len.result ≡ length c.in_ok-lits.lits.items = search rules in
    sym (count ∙ ap length is ∙ length-gathered lits slots c.self.invariant)

pub returns : goal.returns
returns c =
    let lits = c.self.inside.lits.items in
    let slots = c.self.inside.slots.items in
    let is : c.in_ok-lits.lits.items ≡ gathered lits slots = c.in_ok-lits.ensures ∙ ap₂ gathered c.as_slice.ensures.value c.as_slice-2.ensures.value in
    ap₂ (λ (ls : List Lit) (ss : List Slot). map (range_of ls) ss) is c.lay_out.ensures ∙ ranges_laid lits [] slots c.self.invariant ∙ c.self.view_is

pub invariant_of-self : goal.invariant_of-self
invariant_of-self c =
    let lits = c.self.inside.lits.items in
    let slots = c.self.inside.slots.items in
    let is : c.in_ok-lits.lits.items ≡ gathered lits slots = c.in_ok-lits.ensures ∙ ap₂ gathered c.as_slice.ensures.value c.as_slice-2.ensures.value in
    subst (λ (ls : List Lit). All (IsSlot ls) c.lay_out.new.slots.items) (sym is) (subst (All (IsSlot (gathered lits slots))) (sym c.lay_out.ensures) (slots_laid lits [] slots c.self.invariant))
