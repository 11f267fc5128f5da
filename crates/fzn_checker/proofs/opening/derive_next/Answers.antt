use Rattle.std.proofs.Common.{sym, subst}
use Rattle.fzn_cert_reader.specs.Reader.{progress}
use Rattle.fzn_head.specs.Extender.{most_terms}
use Rattle.fzn_checker.specs.Checked.{IsFaultWhere}
use Rattle.fzn_checker.specs.Opened.{IsRefusedAt}
use Rattle.fzn_checker.proofs.OpeningLaws.{derive-refused}
use Rattle.fzn_checker.proofs.opening.derive_next.Goals as goal

pub returns-in-Err-extend-clause-err : goal.returns-in-Err-extend-clause-err
returns-in-Err-extend-clause-err g c =
    let model = c.args.model.now in
    let most = most_terms c.args.extender.now model in
    let old = progress g.C.Read.remaining c.args.cert.now in
    subst (IsFaultWhere (IsRefusedAt most model c.args.line old.left)) (sym c.derive_fault.ensures)
    (derive-refused most model c.args.line old (progress g.C.Read.remaining c.next_derivation.new.self) c.in-Ok.derivation c.in-Err-extend.fault c.in-Ok.ensures.ok c.in-Err-extend.ensures.fault)
