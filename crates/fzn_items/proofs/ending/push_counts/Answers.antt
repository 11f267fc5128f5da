use Rattle.std.proofs.Common.{◌++◌, ℕ, List, codes}
use Rattle.fzn_items.specs.Ending.{tally_text}
use Rattle.fzn_items.proofs.TextLemmas.{behind, behind_eq}
use Rattle.fzn_items.proofs.ending.push_counts.Goals as goal

pub returns : goal.returns
returns c =
    let counts = c.args.counts.now in
    let r = c.push_bytes.result in
    let end = c.push_bytes.new.text.items in
    let last : List ℕ = codes "\n" in
    let e = tally_text (codes " mended ") counts.mended in
    let d = tally_text (codes " constraints ") counts.constraints in
    let a = tally_text (codes " arrays ") counts.arrays in
    let b = tally_text (codes " variables ") counts.variables in
    let p = tally_text (codes "end parameters ") counts.parameters in
    let start = c.args.text.now.items in
    let with_b = behind_eq start c.push_count.new.text.items c.push_count-2.new.text.items p b c.in_ok-push_count.ensures c.in_ok-push_count-2.ensures in
    let with_a = behind_eq start c.push_count-2.new.text.items c.push_count-3.new.text.items (p ++ b) a with_b c.in_ok-push_count-3.ensures in
    let with_d = behind_eq start c.push_count-3.new.text.items c.push_count-4.new.text.items (p ++ b ++ a) d with_a c.in_ok-push_count-4.ensures in
    let with_e = behind_eq start c.push_count-4.new.text.items c.push_count-5.new.text.items (p ++ b ++ a ++ d) e with_d c.in_ok-push_count-5.ensures in
    behind r start c.push_count-5.new.text.items end (p ++ b ++ a ++ d ++ e) last with_e c.push_bytes.ensures
