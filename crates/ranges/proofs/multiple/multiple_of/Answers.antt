use Rattle.std.proofs.Common.{◌≡◌, w64, SFits, to_z, of_z, rules}
use Rattle.std.proofs.lemmas.Int.{to_z-of_z}
use Rattle.ranges.specs.Whole.{◌·◌}
use Rattle.ranges.proofs.Mixes.{multiple_low, multiple_high}
use Rattle.ranges.proofs.multiple.multiple_of.Goals as goal

pub product-requires : goal.product-requires
unfolding ◌·◌
product-requires c =
    let fits : SFits w64 c.args.z = c.ranges.z in
    simp to_z-of_z (record { low = multiple_low _ _ c.requires.low; high = multiple_high _ _ c.requires.high })

pub returns : goal.returns
unfolding ◌·◌
returns c =
    let e : to_z w64 (of_z w64 c.product.result) ≡ c.args.k · c.args.z = search rules in
    record { value = e; least = rw e (multiple_low _ _ c.requires.low); greatest = rw e (multiple_high _ _ c.requires.high) }
