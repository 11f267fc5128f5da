use Rattle.std.proofs.Common.{◌≡◌, length, arith, ℤ, pos, ◌-ℤ◌, ◌≤ℤ◌, ◌*◌, w64, to_z, of_z}
use Rattle.std.proofs.lemmas.Int.{ints}
use Rattle.fzn_domain.specs.Limits.{IsInLimits}
use Rattle.fzn_cumulative.proofs.LoadLemmas.{load_inferred}
use Rattle.fzn_cumulative.specs.Passes.{tasks_of}
use Rattle.fzn_cumulative.proofs.load.explain_load.Goals as goal

spare_is : (load total cap greatest : ℤ) → load ≡ total → pos 0 ≤ℤ load → load ≤ℤ pos (100000 * 1000000000) → IsInLimits cap → cap ≡ greatest → to_z w64 (of_z w64 (to_z w64 (of_z w64 (to_z w64 (of_z w64 load) -ℤ to_z w64 (of_z w64 cap))) -ℤ pos 1)) ≡ (total -ℤ greatest) -ℤ pos 1
spare_is load total cap greatest e low high limits is = omega (arith, ints, limits.0, limits.1)

pub returns : goal.returns
returns c =
    load_inferred c.args.pass.now.trail.now (tasks_of c.args.pass.now) c.args.time.now _ (length c.args.pass.now.starts.now) c.explain_capacity.new.clause c.explain_uses.new.clause c.args.pass.now.ready (omega arith) c.in_ok-explain_capacity.ensures c.in_ok-explain_uses.ensures
    (spare_is c.load_at-load.result _ c.greatest_of-capacity.result _ c.load_at-load.ensures.value c.load_at-load.ensures.not_negative c.load_at-load.ensures.bounded c.greatest_of-capacity.ensures.in_limits c.greatest_of-capacity.ensures.value)
