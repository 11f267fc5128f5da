use Rattle.std.proofs.Common.{◌≡◌, ◌⊎◌, sym, ap, ◌∙◌, subst, inr, ℕ, ℤ, Option, IfSome, OnOk, IfErr, Some, Result, Ok, Err}
use Rattle.std.specs.Option.{option_map}
use Rattle.fzn_domain.specs.Narrow.{IsVariable}
use Rattle.fzn_meaning.specs.Solutions.{declared_sets}
use Rattle.fzn_cited.specs.declared.fault.DeriveFault.{DeriveFault}
use Rattle.fzn_cited.specs.declared.fault.DeriveFault.TheVariants.{Memory}
use Rattle.fzn_dependence.specs.declared.decided.Decider.{Decider}
use Rattle.fzn_dependence.specs.Decided.{decider_in, decided_in}
use Rattle.fzn_dependence.specs.Dependence.{dependent_at}
use Rattle.fzn_dependence.proofs.DecidedSound.{decided-variables, form-bounded}
use Rattle.fzn_weights.specs.Moves.{is_narrow}
use Rattle.fzn_row.specs.Draft.{Draft}
use Rattle.fzn_row.specs.Room.{room_size, draft_of}
use Rattle.fzn_row.proofs.MoveLemmas.{moved-by_alike, decided-narrow, decided-wide}
use Rattle.fzn_row.proofs.room.RowDeriver.move_decided.Goals as goal

pub decider_of-requires : goal.decider_of-requires
decider_of-requires c = record { form = form-bounded (room_size c.args.self.now) c.args.constraint.now c.requires.constraint }

pub declared_set-requires : goal.declared_set-requires
declared_set-requires c =
    let decider : decider_in c.args.source c.args.constraint.now ≡ Some c.in-Some.decider.by = sym c.decider_of.ensures.by ∙ ap (option_map (λ (found : Decider). found.by)) c.in-Some.is in
    subst (λ (n : ℕ). IsVariable n c.in-Some.decider.by) (sym c.requires.vars) (decided-variables (room_size c.args.self.now) c.args.source c.in-Some.decider.by c.args.constraint.now c.requires.constraint decider).0

pub move_part-requires-clause-source : goal.move_part-requires-clause-source
move_part-requires-clause-source c = (decided-variables (room_size c.args.self.now) c.args.source c.in-Some.decider.by c.args.constraint.now c.requires.constraint (sym c.decider_of.ensures.by ∙ ap (option_map (λ (found : Decider). found.by)) c.in-Some.is)).1

pub move_part-requires-clause-by : goal.move_part-requires-clause-by
move_part-requires-clause-by c = (decided-variables (room_size c.args.self.now) c.args.source c.in-Some.decider.by c.args.constraint.now c.requires.constraint (sym c.decider_of.ensures.by ∙ ap (option_map (λ (found : Decider). found.by)) c.in-Some.is)).0

pub move_part-requires-clause-narrow : goal.move_part-requires-clause-narrow
move_part-requires-clause-narrow c = ap is_narrow (sym c.declared_set.ensures) ∙ sym c.is_narrow.ensures ∙ c.if-not-is_narrow.false

pub returns-then-not-is_narrow-clause-err : goal.returns-then-not-is_narrow-clause-err
returns-then-not-is_narrow-clause-err c =
    let decider : decider_in c.args.source c.args.constraint.now ≡ Some c.in-Some.decider.by = sym c.decider_of.ensures.by ∙ ap (option_map (λ (found : Decider). found.by)) c.in-Some.is in
    let wide = ap is_narrow (sym c.declared_set.ensures) ∙ sym c.is_narrow.ensures ∙ c.if-not-is_narrow.true in
    inr (decided-wide (declared_sets c.args.vars.now) c.args.source c.in-Some.decider.by (draft_of c.args.self.now) c.args.constraint.now decider wide)

pub returns-clause-ok : goal.returns-clause-ok
returns-clause-ok c =
    let decider : decider_in c.args.source c.args.constraint.now ≡ Some c.in-Some.decider.by = sym c.decider_of.ensures.by ∙ ap (option_map (λ (found : Decider). found.by)) c.in-Some.is in
    let narrow = ap is_narrow (sym c.declared_set.ensures) ∙ sym c.is_narrow.ensures ∙ c.if-not-is_narrow.false in
    let value = subst (λ (o : Option Decider). IfSome o (λ found. (value : ℤ) → dependent_at found.dependence value ≡ decided_in found.by value c.args.constraint.now)) c.in-Some.is c.decider_of.ensures.value in
    subst (λ (r : Result Draft DeriveFault). OnOk c.move_part.result (r ≡ Ok (draft_of c.move_part.new.self))) (moved-by_alike (declared_sets c.args.vars.now) (dependent_at c.in-Some.decider.dependence) (λ (v : ℤ). decided_in c.in-Some.decider.by v c.args.constraint.now) c.args.source c.in-Some.decider.by (draft_of c.args.self.now) value ∙ sym (decided-narrow (declared_sets c.args.vars.now) c.args.source c.in-Some.decider.by (draft_of c.args.self.now) c.args.constraint.now decider narrow)) c.move_part.ensures.ok

pub returns-clause-err : goal.returns-clause-err
returns-clause-err c =
    let decider : decider_in c.args.source c.args.constraint.now ≡ Some c.in-Some.decider.by = sym c.decider_of.ensures.by ∙ ap (option_map (λ (found : Decider). found.by)) c.in-Some.is in
    let narrow = ap is_narrow (sym c.declared_set.ensures) ∙ sym c.is_narrow.ensures ∙ c.if-not-is_narrow.false in
    let value = subst (λ (o : Option Decider). IfSome o (λ found. (value : ℤ) → dependent_at found.dependence value ≡ decided_in found.by value c.args.constraint.now)) c.in-Some.is c.decider_of.ensures.value in
    subst (λ (r : Result Draft DeriveFault). IfErr c.move_part.result (λ fault. (fault ≡ Memory) ⊎ (r ≡ Err fault))) (moved-by_alike (declared_sets c.args.vars.now) (dependent_at c.in-Some.decider.dependence) (λ (v : ℤ). decided_in c.in-Some.decider.by v c.args.constraint.now) c.args.source c.in-Some.decider.by (draft_of c.args.self.now) value ∙ sym (decided-narrow (declared_sets c.args.vars.now) c.args.source c.in-Some.decider.by (draft_of c.args.self.now) c.args.constraint.now decider narrow)) c.move_part.ensures.err
