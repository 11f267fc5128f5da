use Rattle.std.proofs.Common.{◌∙◌}
use Rattle.fzn_cert_reader.proofs.ScriptLaws.{count-viewed}
use Rattle.fzn_cert_reader.proofs.script.Script.len.Goals as goal

pub returns : goal.returns
returns c =
    let ends = c.self.inside.ends in
    c.len.ensures ∙ ends.ok.0 ∙ count-viewed c.self.inside.text.items ends.items c.args.self.now c.self.invariant c.self.view_is
