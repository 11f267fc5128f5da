use Rattle.fzn_items.proofs.ListedLemmas.{own-listing}
use Rattle.fzn_items.proofs.read.own_in.Goals as goal

pub returns : goal.returns
returns c =
    own-listing c.args.bytes.now c.args.tokens.now c.args.tree.now c.args.items.now c.args.named.now.model c.in_ok-listing.listing.text.items c.in_ok-listing.listing.counts
    c.requires.lexed c.requires.parsed c.requires.typed c.requires.items c.in_ok-listing.ensures
