use Rattle.std.proofs.Common.{arith, ◌≡◌, length}
use Rattle.fzn_row.proofs.PartLemmas.{place-new}
use Rattle.fzn_row.proofs.room.RowDeriver.put_blank.Goals as goal

pub returns-clause-place : goal.returns-clause-place
returns-clause-place c =
    let parts = c.args.self.now.parts.items in
    let at : c.len-place.result ≡ length parts = omega arith in
    rw (c.in_ok-push.ensures.items, at) (place-new c.args.var parts c.requires.none)
