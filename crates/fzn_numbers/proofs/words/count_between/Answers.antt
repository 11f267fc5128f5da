use Rattle.std.proofs.Common.{arith, rules, ◌≡◌, ◌+◌, ◌-◌, ◌*◌, ◌/◌, ℕ, ap}
use Rattle.fzn_numbers.specs.Bits.{bits_below}
use Rattle.fzn_numbers.proofs.BitLemmas.{run_next, run_few, run_ends, bits_rise}
use Rattle.fzn_numbers.proofs.words.count_between.Goals as goal

pub loop-word-init : goal.loop-word-init
loop-word-init c =
    let same : c.args.from / 64 ≡ c.args.from / 64 + 0 = omega arith in
    let few = c.ones_in-count.ensures.few in
    record {
      sum = ap (λ (n : ℕ). c.ones_in-count.result + bits_below c.args.words.now (n * 64)) same;
      few = omega arith;
    }

pub overflow_add-count : goal.overflow_add-count
overflow_add-count c =
    let inv = c.loop-word.invariant in
    let few = run_few c.args.words.now (c.args.from / 64) (c.args.end / 64) c.loop-word.word-index c.loop-word-test.true (c.type_inv.words (c.args.from / 64 + c.loop-word.word-index)).fits in
    search (rules, few, inv.few)

pub loop-word-preserved : goal.loop-word-preserved
loop-word-preserved c =
    let inv = c.loop-word.invariant in
    let fits = (c.type_inv.words (c.args.from / 64 + c.loop-word.word-index)).fits in
    record {
      sum = omega (arith, inv.sum, run_next c.args.words.now (c.args.from / 64) (c.args.end / 64) c.loop-word.word-index c.loop-word-test.true fits);
      few = omega (arith, inv.few, run_few c.args.words.now (c.args.from / 64) (c.args.end / 64) c.loop-word.word-index c.loop-word-test.true fits);
    }

pub overflow_sub-result : goal.overflow_sub-result
overflow_sub-result c =
    let ends : c.args.from / 64 + c.loop-word.word-index ≡ c.args.end / 64 =
    run_ends c.args.words.now (c.args.from / 64) (c.args.end / 64) c.loop-word.word-index (omega arith) (omega arith) c.loop-word-test.false (omega arith) in
    let rest : c.args.from + (c.args.end - c.args.from) ≡ c.args.end = omega arith in
    omega (arith, c.loop-word.invariant.sum, c.ones_in-count.ensures.count, c.ones_in.ensures.count, ap (λ (n : ℕ). bits_below c.args.words.now (n * 64)) ends, bits_rise c.args.words.now c.args.from (c.args.end - c.args.from), ap (λ (n : ℕ). bits_below c.args.words.now n) rest)

pub returns : goal.returns
returns c =
    let ends : c.args.from / 64 + c.loop-word.word-index ≡ c.args.end / 64 =
    run_ends c.args.words.now (c.args.from / 64) (c.args.end / 64) c.loop-word.word-index (omega arith) (omega arith) c.loop-word-test.false (omega arith) in
    let fits = overflow_sub-result c in
    omega (arith, c.loop-word.invariant.sum, c.ones_in-count.ensures.count, c.ones_in.ensures.count, ap (λ (n : ℕ). bits_below c.args.words.now (n * 64)) ends, fits)
