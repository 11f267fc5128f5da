use Rattle.std.proofs.Common.{sym, ◌∙◌, ap}
use Rattle.std.proofs.lemmas.List.{drop-map, take_rest}
use Rattle.fzn_values.specs.Term.{term_value, values_of}
use Rattle.fzn_values.proofs.entries.Entries.from.Goals as goal

-- the rest of the values is the values of the rest
pub returns : goal.returns
returns c =
    rw (← c.self.view_is) (ap (values_of c.self.inside.values.now) (take_rest c.self.inside.terms.now c.args.place)
    ∙ sym (drop-map (term_value c.self.inside.values.now) c.args.place c.self.inside.terms.now))
