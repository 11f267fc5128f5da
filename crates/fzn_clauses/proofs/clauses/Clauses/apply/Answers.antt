-- The clause forces one literal, or none.
use Rattle.std.proofs.Common.{List, length, sym, ◌∙◌, subst}
use Rattle.std.proofs.lemmas.List.Elements.{All-get_or}
use Rattle.fzn_domain.specs.declared.literal.Lit.{Lit}
use Rattle.fzn_domain.specs.Narrow.{IsVariable, IsClauseOver}
use Rattle.fzn_clauses.specs.Guard.{no_literal, literal_at}
use Rattle.fzn_clauses.specs.State.{IsOnlyPossible}
use Rattle.fzn_clauses.proofs.AnewLemmas.{applied-propagated, applied-left, applied-watching}
use Rattle.fzn_clauses.proofs.HeldLemmas.{held_within, held_live, live_clause}
use Rattle.fzn_clauses.proofs.clauses.Clauses.apply.Goals as goal

pub state_of-requires : goal.state_of-requires
state_of-requires c =
    let arena = c.args.self.now.arena in
    let is = c.clause.ensures ∙ sym (live_clause arena c.args.id (held_within arena c.args.id c.requires.held) (held_live arena c.args.id c.requires.held)) in
    record { over = subst (IsClauseOver (length c.args.trail.now.declared)) (sym is) (c.requires.over c.args.id c.requires.held) }

pub force-requires-clause-var : goal.force-requires-clause-var
force-requires-clause-var c =
    let arena = c.args.self.now.arena in
    let count = length c.args.trail.now.declared in
    let same = c.clause-in-One.ensures ∙ sym c.clause.ensures in
    let is = c.clause.ensures ∙ sym (live_clause arena c.args.id (held_within arena c.args.id c.requires.held) (held_live arena c.args.id c.requires.held)) in
    let over = subst (IsClauseOver (length c.args.trail.now.declared)) (sym is) (c.requires.over c.args.id c.requires.held) in
    subst (λ (lits : List Lit). IsVariable count (literal_at lits c.in-One.place).var) (sym same)
    (All-get_or (λ (l : Lit). IsVariable count l.var) c.clause.result.now c.in-One.place no_literal c.in-One.ensures.in_clause over)

pub returns-in_ok-force-in-One-clause-propagated : goal.returns-in_ok-force-in-One-clause-propagated
returns-in_ok-force-in-One-clause-propagated c =
    let arena = c.args.self.now.arena in
    let told = c.args.trail.now in
    let is = c.clause-in-One.ensures ∙ sym (live_clause arena c.args.id (held_within arena c.args.id c.requires.held) (held_live arena c.args.id c.requires.held)) in
    let only = subst (λ (lits : List Lit). IsOnlyPossible told.sets lits c.in-One.place) (c.clause.ensures ∙ sym c.clause-in-One.ensures) c.in-One.ensures in
    applied-propagated c.args.self.now c.args.id c.requires.held told c.requires.over c.requires.not_empty c.requires.watching is c.in-One.place only c.force.new.trail c.in_ok-force-in-One.ensures.ok

pub returns-in_ok-force-in-One-clause-left : goal.returns-in_ok-force-in-One-clause-left
returns-in_ok-force-in-One-clause-left c =
    let arena = c.args.self.now.arena in
    let told = c.args.trail.now in
    let is = c.clause-in-One.ensures ∙ sym (live_clause arena c.args.id (held_within arena c.args.id c.requires.held) (held_live arena c.args.id c.requires.held)) in
    let only = subst (λ (lits : List Lit). IsOnlyPossible told.sets lits c.in-One.place) (c.clause.ensures ∙ sym c.clause-in-One.ensures) c.in-One.ensures in
    applied-left c.args.self.now c.args.id c.requires.held told c.requires.over c.requires.not_empty c.requires.watching is c.in-One.place only c.force.new.trail c.in_ok-force-in-One.ensures.ok

pub returns-in_ok-force-in-One-clause-watching : goal.returns-in_ok-force-in-One-clause-watching
returns-in_ok-force-in-One-clause-watching c =
    let arena = c.args.self.now.arena in
    let told = c.args.trail.now in
    let is = c.clause-in-One.ensures ∙ sym (live_clause arena c.args.id (held_within arena c.args.id c.requires.held) (held_live arena c.args.id c.requires.held)) in
    let only = subst (λ (lits : List Lit). IsOnlyPossible told.sets lits c.in-One.place) (c.clause.ensures ∙ sym c.clause-in-One.ensures) c.in-One.ensures in
    applied-watching c.args.self.now c.args.id c.requires.held told c.requires.over c.requires.not_empty c.requires.watching is c.in-One.place only c.force.new.trail c.in_ok-force-in-One.ensures.ok
