use Rattle.std.proofs.Common.{bytes_eq}
use Rattle.fzn_names.proofs.NameLemmas.{lookup-seen}
use Rattle.fzn_names.proofs.names.Names.meaning.Goals as goal

-- the keys are seen by their bytes
pub returns : goal.returns
returns c =
    let seen = lookup-seen (λ key. key.items) (bytes_eq c.as_slice.result.now) c.args.self.now.map.entries in
    rw (← c.as_slice.ensures) (cc)
