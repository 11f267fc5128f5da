use Rattle.std.proofs.Common.{◌≡◌, ◌+◌, sym, subst, ◌∙◌}
use Rattle.std.specs.Io.KnownBytes.{Consumes}
use Rattle.fzn_cert.specs.declared.step.Version.TheVariants.{One}
use Rattle.fzn_cert_reader.specs.Input.{left_in}
use Rattle.fzn_checker.specs.Rewritten.{first_line, CopiesStep, CopiesEnd, IsRewriteFault}
use Rattle.fzn_checker.proofs.AnswerLaws.{error-is}
use Rattle.fzn_checker.proofs.RewriteLemmas.{IsCopied, copied-header, copied-step, rewritten-kept, end-begins, first-write_fault, second-rewrite_fault, later-rewrite_fault, on_true, on_false}
use Rattle.fzn_checker.proofs.rewrite.to2_tracked.Goals as goal

pub returns-in_err-put_line-clause-err : goal.returns-in_err-put_line-clause-err
returns-in_err-put_line-clause-err g c =
    let old = left_in g.C.Read.remaining c.args.lines.now.bytes in
    let left = left_in g.C.Read.remaining c.take_version.new.lines.bytes in
    let before = g.W.Write.contents c.args.new.now in
    let after = g.W.Write.contents c.put_line.new.out in
    let taken : Consumes old left (first_line One) = c.in_ok-take_version.ensures.ok in
    error-is c.from_residual-in_err-put_line.result c.in_err-put_line.field-0.0 (IsRewriteFault old before after) c.from_residual-in_err-put_line.ensures.1
    (first-write_fault old left before after c.in_err-put_line.field-0.0 taken c.in_err-put_line.ensures.err)

pub returns-in_err-copy_counts-clause-err : goal.returns-in_err-copy_counts-clause-err
returns-in_err-copy_counts-clause-err g c =
    let old = left_in g.C.Read.remaining c.args.lines.now.bytes in
    let left = left_in g.C.Read.remaining c.take_version.new.lines.bytes in
    let before = g.W.Write.contents c.args.new.now in
    let after = g.W.Write.contents c.copy_counts.new.new in
    let taken : Consumes old left (first_line One) = c.in_ok-take_version.ensures.ok in
    error-is c.from_residual-in_err-copy_counts.result c.in_err-copy_counts.field-0.0 (IsRewriteFault old before after) c.from_residual-in_err-copy_counts.ensures.1
    (second-rewrite_fault old left before (g.W.Write.contents c.put_line.new.out) after c.in_err-copy_counts.field-0.0 taken c.in_ok-put_line.ensures.ok c.in_err-copy_counts.ensures.err)

pub loop-init : goal.loop-init
loop-init g c =
    let old = left_in g.C.Read.remaining c.args.lines.now.bytes in
    let left = left_in g.C.Read.remaining c.take_version.new.lines.bytes in
    let taken : Consumes old left (first_line One) = c.in_ok-take_version.ensures.ok in
    record {
      copied = copied-header old left (left_in g.C.Read.remaining c.copy_counts.new.lines.bytes) (g.W.Write.contents c.args.new.now) (g.W.Write.contents c.put_line.new.out) (g.W.Write.contents c.copy_counts.new.new) c.copy_counts.new.lines.steps
          (c.copy_counts.ensures.same ∙ c.take_version.ensures.same ∙ c.requires.unread) taken c.in_ok-put_line.ensures.ok c.in_ok-copy_counts.ensures.ok;
      same_stream = c.copy_counts.ensures.same_stream ∙ c.put_line.ensures.due.0;
    }

pub returns-in_err-copy_line-clause-err : goal.returns-in_err-copy_line-clause-err
returns-in_err-copy_line-clause-err g c =
    let old = left_in g.C.Read.remaining c.args.lines.now.bytes in
    let before = g.W.Write.contents c.args.new.now in
    let after = g.W.Write.contents c.copy_line.new.new in
    error-is c.from_residual-in_err-copy_line.result c.in_err-copy_line.field-0.0 (IsRewriteFault old before after) c.from_residual-in_err-copy_line.ensures.1
    (later-rewrite_fault old (left_in g.C.Read.remaining c.loop.lines.bytes) before (g.W.Write.contents c.loop.new) after c.loop.lines.steps c.in_err-copy_line.field-0.0 c.loop.invariant.copied c.in_err-copy_line.ensures.err)

pub loop-preserved : goal.loop-preserved
loop-preserved g c =
    let old = left_in g.C.Read.remaining c.args.lines.now.bytes in
    let left = left_in g.C.Read.remaining c.loop.lines.bytes in
    let next = left_in g.C.Read.remaining c.copy_line.new.lines.bytes in
    let before = g.W.Write.contents c.args.new.now in
    let now = g.W.Write.contents c.loop.new in
    let after = g.W.Write.contents c.copy_line.new.new in
    let count = c.loop.lines.steps in
    let step = on_true c.in_ok-copy_line.field-0 (CopiesStep count left next now after) c.if-branch.true c.in_ok-copy_line.ensures.step in
    let counted = on_true c.in_ok-copy_line.field-0 (c.copy_line.new.lines.steps ≡ count + 1) c.if-branch.true c.in_ok-copy_line.ensures.counted in
    record {
      copied = subst (λ n. IsCopied old next before after n) (sym counted) (copied-step old left next before now after count c.loop.invariant.copied step);
      same_stream = c.copy_line.ensures.same_stream ∙ c.loop.invariant.same_stream;
    }

pub returns-in-Ok-clause-ok : goal.returns-in-Ok-clause-ok
returns-in-Ok-clause-ok g c =
    let left = left_in g.C.Read.remaining c.loop.lines.bytes in
    let next = left_in g.C.Read.remaining c.copy_line.new.lines.bytes in
    let now = g.W.Write.contents c.loop.new in
    let after = g.W.Write.contents c.copy_line.new.new in
    let count = c.loop.lines.steps in
    let end = on_false c.in_ok-copy_line.field-0 (CopiesEnd left next now after) c.if-branch.false c.in_ok-copy_line.ensures.end in
    let same = on_false c.in_ok-copy_line.field-0 (c.copy_line.new.lines.steps ≡ count) c.if-branch.false c.in_ok-copy_line.ensures.same in
    rewritten-kept (left_in g.C.Read.remaining c.args.lines.now.bytes) left next (g.W.Write.contents c.args.new.now) now after (g.W.Write.contents c.flush_all.new.self) count c.copy_line.new.lines.steps c.loop.invariant.copied end c.flush_all.ensures.kept same

pub returns-in-Err-clause-err : goal.returns-in-Err-clause-err
returns-in-Err-clause-err g c =
    let left = left_in g.C.Read.remaining c.loop.lines.bytes in
    let next = left_in g.C.Read.remaining c.copy_line.new.lines.bytes in
    let now = g.W.Write.contents c.loop.new in
    let after = g.W.Write.contents c.copy_line.new.new in
    let end = on_false c.in_ok-copy_line.field-0 (CopiesEnd left next now after) c.if-branch.false c.in_ok-copy_line.ensures.end in
    end-begins (left_in g.C.Read.remaining c.args.lines.now.bytes) left next (g.W.Write.contents c.args.new.now) now after (g.W.Write.contents c.flush_all.new.self) c.loop.lines.steps c.loop.invariant.copied end c.flush_all.ensures.kept
