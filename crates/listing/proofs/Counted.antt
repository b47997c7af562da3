-- A list counts as many things as it says.
use Rattle.std.proofs.Common.{◌≡◌, length}
use Rattle.std.proofs.lemmas.List.{length-take-le}
use Rattle.listing.specs.declared.listed.Listed.{Listed}
use Rattle.listing.specs.Listing.{counted}

pub counted_length : {X : Type 0} {i : _} (l : Listed X i) → length (counted l) ≡ l.count
counted_length l = length-take-le l.count l.items.now l.indexed.counted
