use Rattle.std.proofs.Common.{◌≡◌, ◌<◌, ◌≤◌, ◌+◌, [], ◌∷◌, ◌++◌, length, take, refl, sym, ap, subst, ◌∙◌, arith, rules, FitsSigned, ℤ, pos, ◌-ℤ◌, unsigned_abs}
use Rattle.std.proofs.lemmas.Int.{ints, to_z-of_z}
use mir.Syntax.{w64, w128}
use mir.Val.{to_z, of_z}
use Rattle.fzn_values.specs.declared.term.Term.TheVariants.{Constant}
use Rattle.fzn_values.specs.declared.term.Place.{Place}
use Rattle.fzn_builtin_rules.specs.Borrowed.{places_in}
use Rattle.fzn_derive.specs.Merged.{constant_of}
use Rattle.fzn_derive.specs.Summed.{times}
use Rattle.fzn_derive.specs.Room.{variables_in}
use Rattle.fzn_derive.proofs.MergedLemmas.{coefficient_of-nil, constant_of-nil}
use Rattle.fzn_derive.proofs.RoomLemmas.{scaled_place, times-more, added-more, constant-more, sum-bound, left-bound}
use Rattle.fzn_derive.proofs.adder.Adder.add_places.Goals as goal

pub loop-i-init : goal.loop-i-init
loop-i-init c = record {
  listed = c.requires.listed;
  len = refl;
  added = λ place. let e = coefficient_of-nil (place + 1) in omega (arith, ints);
  left_is = let e = constant_of-nil in omega (arith, ints);
}

pub add_place-requires-clause-sums : goal.add_place-requires-clause-sums
add_place-requires-clause-sums c = λ k.
    let m : ℤ = to_z w64 (of_z w64 c.args.multiplier) in
    let hm : unsigned_abs m ≤ 1000000000000 = subst (λ (x : ℤ). unsigned_abs x ≤ 1000000000000) (sym (to_z-of_z w64 c.args.multiplier c.ranges.multiplier)) c.requires.multiplier in
    sum-bound (variables_in c.args.self.now) c.loop-i.i m (places_in c.args.places.now) hm c.requires.fit c.requires.few c.args.self.now c.loop-i.self k (c.requires.sums k) c.loop-i.invariant.added

pub add_place-requires-clause-bound : goal.add_place-requires-clause-bound
add_place-requires-clause-bound c =
    let m : ℤ = to_z w64 (of_z w64 c.args.multiplier) in
    let hm : unsigned_abs m ≤ 1000000000000 = subst (λ (x : ℤ). unsigned_abs x ≤ 1000000000000) (sym (to_z-of_z w64 c.args.multiplier c.ranges.multiplier)) c.requires.multiplier in
    let places = places_in c.args.places.now in
    let is : to_z w128 c.loop-i.left-bits ≡ c.args.bound -ℤ constant_of (times m (take c.loop-i.i places)) = omega (arith, ints, c.loop-i.invariant.left_is, c.loop-i.left-is) in
    left-bound (variables_in c.args.self.now) c.loop-i.i m places hm c.requires.fit c.requires.few c.args.bound (to_z w128 c.loop-i.left-bits) c.requires.bound is

pub loop-i-preserved : goal.loop-i-preserved
loop-i-preserved c =
    let m : ℤ = to_z w64 (of_z w64 c.args.multiplier) in
    let places = places_in c.args.places.now in
    let i = c.loop-i.i in
    let d : Place = record { coefficient = pos 0; term = Constant (pos 0) } in
    let inside : i < length places = omega arith in
    let more : times m (take (i + 1) places) ≡ times m (take i places) ++ scaled_place m c.place.result ∷ [] = times-more m places i d inside ∙ ap (λ (p : Place). times m (take i places) ++ scaled_place m p ∷ []) (sym c.place.ensures) in
    let fits : FitsSigned w128 c.in_ok-left.left = search rules in
    let before : to_z w128 c.loop-i.left-bits ≡ to_z w128 (of_z w128 c.args.bound) -ℤ constant_of (times m (take i places)) = omega (arith, ints, c.loop-i.invariant.left_is, c.loop-i.left-is) in
    let now : to_z w128 (of_z w128 c.in_ok-left.left) ≡ to_z w128 c.loop-i.left-bits -ℤ constant_of (times m (c.place.result ∷ [])) = to_z-of_z w128 c.in_ok-left.left fits ∙ c.in_ok-left.ensures.left in
    record {
      listed = c.add_place.ensures.listed;
      len = c.add_place.ensures.len ∙ c.loop-i.invariant.len;
      added = added-more c.args.self.now c.loop-i.self c.add_place.new.self (times m (take i places)) (scaled_place m c.place.result) (times m (take (i + 1) places)) more c.loop-i.invariant.added c.in_ok-left.ensures.added;
      left_is = constant-more (times m (take i places)) (scaled_place m c.place.result) (times m (take (i + 1) places)) (to_z w128 (of_z w128 c.args.bound)) (to_z w128 c.loop-i.left-bits) (to_z w128 (of_z w128 c.in_ok-left.left)) more before now;
    }
