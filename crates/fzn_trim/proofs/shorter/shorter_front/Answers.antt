use Rattle.std.proofs.Common.{◌≡◌, length, arith}
use Rattle.fzn_trim.proofs.shorter.shorter_front.Goals as goal

-- the model of the file with what the new head derives has at most as many constraints as this one
pub returns : goal.returns
returns c =
    let most : c.len-3.result ≡ length c.args.model.now.constraints = omega (arith, c.len-3.ensures) in
    rw most at c.tested_front.ensures
