use Rattle.std.proofs.Common.{◌≡◌, ◌∙◌}
use Rattle.fzn_names.proofs.NameLemmas.{insert-seen}
use Rattle.fzn_names.proofs.names.Names.insert.Goals as goal

-- a new name goes last
pub returns : goal.returns
returns c =
    let same : c.in_ok-key.key.items ≡ c.args.name.now = c.in_ok-key.ensures.items ∙ c.as_slice.ensures in
    insert-seen (λ key. key.items) c.args.self.now.map c.insert.new.self c.in_ok-key.key c.args.declared c.args.name.now same c.requires c.in_ok-insert.ensures.entries
