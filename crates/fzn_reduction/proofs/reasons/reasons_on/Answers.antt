-- The flags so far stay, and the entry's is set.
use Rattle.std.proofs.Common.{◌<◌, List, All, length, take, get_or, subst, sym, arith}
use Rattle.std.proofs.lemmas.List.{take_more, take_all}
use Rattle.std.proofs.lemmas.List.Elements.{All-push, All-weaker}
use Rattle.std.proofs.lemmas.Option.{get_or_from_slice_get}
use Rattle.fzn_trail.specs.declared.trail.Entry.{Entry}
use Rattle.fzn_reduction.specs.Forgetting.{IsFlagged}
use Rattle.fzn_reduction.proofs.reasons.reasons_on.Goals as goal

pub loop-i-preserved : goal.loop-i-preserved
loop-i-preserved c =
    let entries = c.args.trail.now.entries in
    let within : c.loop-i.i < length c.args.trail.now.entries = omega arith in
    let before = c.loop-i.flags.items in
    let now = c.flag.new.flags.items in
    let L : List Entry → Type 0 = λ es. All (λ (entry : Entry). IsFlagged c.flag.new.flags.items entry.reason) es in
    let E : Entry → Type 0 = λ e. IsFlagged c.flag.new.flags.items e.reason in
    subst L (sym (take_more entries c.loop-i.i c.entry.result within))
    (All-push (λ (e : Entry). IsFlagged now e.reason) (take c.loop-i.i entries) (get_or entries c.loop-i.i c.entry.result)
    (All-weaker (λ (e : Entry). IsFlagged before e.reason) (λ (e : Entry). IsFlagged now e.reason) (λ e one. c.flag.ensures.kept e.reason one) (take c.loop-i.i entries) c.loop-i.invariant)
    (subst E (sym (get_or_from_slice_get entries c.loop-i.i c.entry.result c.entry.result c.entry.ensures)) c.flag.ensures.flagged))

pub returns : goal.returns
returns c =
    let L : List Entry → Type 0 = λ es. All (λ (entry : Entry). IsFlagged c.loop-i.flags.items entry.reason) es in
    subst L (take_all c.loop-i.i c.args.trail.now.entries (omega arith)) c.loop-i.invariant
