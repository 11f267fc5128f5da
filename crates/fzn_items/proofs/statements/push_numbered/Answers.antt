use Rattle.std.proofs.Common.{◌++◌, ℕ, List, codes}
use Rattle.std.specs.Fmt.{decimal}
use Rattle.fzn_items.proofs.TextLemmas.{behind, behind_eq}
use Rattle.fzn_items.proofs.statements.push_numbered.Goals as goal

pub returns : goal.returns
returns c =
    let r = c.push_bytes-3.result in
    let end = c.push_bytes-3.new.text.items in
    let name = c.args.name.now in
    let space : List ℕ = codes " " in
    let number = decimal c.args.number in
    let start = c.args.text.now.items in
    let word : List ℕ = codes "constraint " in
    let with_number = behind_eq start c.push_bytes.new.text.items c.push_number.new.text.items word number c.in_ok-push_bytes.ensures c.in_ok-push_number.ensures in
    let with_space = behind_eq start c.push_number.new.text.items c.push_bytes-2.new.text.items (word ++ number) space with_number c.in_ok-push_bytes-2.ensures in
    behind r start c.push_bytes-2.new.text.items end (word ++ number ++ space) name with_space c.push_bytes-3.ensures
