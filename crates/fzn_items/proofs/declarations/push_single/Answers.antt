use Rattle.std.proofs.Common.{◌++◌, ℕ, List, codes, ap, ◌∙◌}
use Rattle.fzn_names.specs.Known.{known}
use Rattle.fzn_tree.specs.declared.tree.Ann.{Ann}
use Rattle.fzn_items.specs.Declarations.{marks_text, single_text, type_text}
use Rattle.fzn_items.specs.Pieces.{span_text}
use Rattle.fzn_items.proofs.TextLemmas.{behind, behind_eq}
use Rattle.fzn_items.proofs.declarations.push_single.Goals as goal

pub returns : goal.returns
returns c =
    let var = c.args.var.now in
    let r = c.push_bytes.result in
    let end = c.push_bytes.new.text.items in
    let last : List ℕ = codes "\n" in
    let name = single_text (known c.args.names.now) var.name in
    let kind = type_text var.base in
    let place = span_text c.args.item in
    let marks = marks_text var.anns in
    let start = c.args.text.now.items in
    let with_kind = behind_eq start c.push_single_name.new.text.items c.push_type.new.text.items name kind c.in_ok-push_single_name.ensures c.in_ok-push_type.ensures in
    let with_place = behind_eq start c.push_type.new.text.items c.push_place.new.text.items (name ++ kind) place with_kind c.in_ok-push_place.ensures in
    let with_marks = behind_eq start c.push_place.new.text.items c.push_marks.new.text.items (name ++ kind ++ place) marks with_place
    (c.in_ok-push_marks.ensures ∙ ap (λ (anns : List Ann). c.push_place.new.text.items ++ marks_text anns) c.as_slice.ensures) in
    behind r start c.push_marks.new.text.items end (name ++ kind ++ place ++ marks) last with_marks c.push_bytes.ensures
