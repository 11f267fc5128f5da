use Rattle.std.proofs.Common.{rules, ◌≡◌, ◌++◌, ℕ, List, length, map, set, sym, ap, ap₂, subst, ◌∙◌, All}
use Rattle.fzn_domain.specs.declared.literal.Lit.{Lit}
use Rattle.fzn_clauses.specs.declared.arena.Slot.{Slot}
use Rattle.fzn_clauses.specs.Watched.{Watched, added}
use Rattle.fzn_clauses.specs.Slots.{range_of, IsSlot, slot_of}
use Rattle.fzn_clauses.proofs.ArenaLemmas.{ranges_put, slots_put}
use Rattle.fzn_clauses.proofs.arena.Arena.put.Goals as goal

pub returns-clause-ok : goal.returns-clause-ok
returns-clause-ok c =
    let lits = c.self.inside.lits.items in
    let slots = c.self.inside.slots.items in
    let count : c.len.result ≡ length c.self.inside.lits.items = search rules in
    ap₂ (λ (all : List Lit) (slot : Slot). map (range_of all) (set slots c.args.k slot)) c.in_ok-extend_from_slice.ensures.items (c.slot_of-slot.ensures ∙ ap (λ (n : ℕ). slot_of n c.args.clause.now) count)
    ∙ ranges_put lits c.args.clause.now slots c.args.k c.self.invariant
    ∙ ap (λ (ws : List Watched). set ws c.args.k (added c.args.clause.now)) (c.self.view_is ∙ c.in_ok-make_room.ensures)

pub invariant_of-self-2 : goal.invariant_of-self-2
invariant_of-self-2 c =
    let lits = c.self.inside.lits.items in
    let slots = c.self.inside.slots.items in
    let clause = c.args.clause.now in
    let count : c.len.result ≡ length c.self.inside.lits.items = search rules in
    let is : c.slot_of-slot.result ≡ slot_of (length c.self.inside.lits.items) c.args.clause.now = c.slot_of-slot.ensures ∙ ap (λ (n : ℕ). slot_of n c.args.clause.now) count in
    subst (λ (extended : List Lit). All (IsSlot extended) (set slots c.args.k c.slot_of-slot.result)) (sym c.in_ok-extend_from_slice.ensures.items)
    (subst (λ (s : Slot). All (IsSlot (lits ++ clause)) (set slots c.args.k s)) (sym is) (slots_put lits clause slots c.args.k c.self.invariant))
