use Rattle.std.proofs.Common.{length, sym, ap, ◌∙◌}
use Rattle.std.proofs.lemmas.List.{length-map}
use Rattle.fzn_lexer.proofs.list.TokenList.len.Goals as goal

pub returns : goal.returns
returns c = c.len.ensures ∙ (sym (length-map _ _) ∙ ap length c.self.view_is)
