-- The lines of the derivations so far, and the model with what they give.
use Rattle.std.proofs.Common.{length, string_bytes, List, sym, subst, ◌∙◌}
use Rattle.fzn_meaning.specs.declared.model.Var.{Var}
use Rattle.fzn_head.specs.Extender.{IsReadyFor}
use Rattle.fzn_head.proofs.OpeningLaws.{HasPushed, pushed-more, pushed-same, pushed-formed}
use Rattle.fzn_head.proofs.opening.open_with.Goals.{then-branch, else-branch}
use Rattle.fzn_head.proofs.opening.open_with.Goals as goal

pub push_line-requires-clause-formed : goal.push_line-requires-clause-formed
push_line-requires-clause-formed c =
    pushed-formed c.args.model.now c.loop-derivation.model (string_bytes c.loop-derivation.lines) c.loop-derivation.derived c.requires c.loop-derivation.invariant.pushed

pub loop-derivation-preserved : goal.loop-derivation-preserved
loop-derivation-preserved c =
    let model = c.args.model.now in
    let before = c.loop-derivation.model in
    let after = c.push_line.new.model in
    let old = string_bytes c.loop-derivation.lines in
    let new = string_bytes c.push_line.new.lines in
    let count = c.loop-derivation.derived in
    let so_far = c.loop-derivation.invariant.pushed in
    record {
      ready = subst (λ (vars : List Var). IsReadyFor (length vars) c.push_line.new.extender) (sym c.push_line.ensures.same_vars) c.push_line.ensures.ready;
      most = c.push_line.ensures.same_most ∙ c.loop-derivation.invariant.most;
      pushed = elim c.if-branch.branch [
        | then-branch w ↦ subst (HasPushed model after new) (sym w.derived-is) (pushed-more model before after _ old new count so_far (c.in_ok-push_line.ensures.pushed w.if-branch.true))
        | else-branch w ↦
            let same = c.in_ok-push_line.ensures.left_out w.if-branch.false in
            subst (HasPushed model after new) (sym w.derived-is) (pushed-same model before after old new count so_far same.0 same.1)
      ];
    }
