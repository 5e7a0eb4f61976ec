-- What holds of the places of a node at all times.
use Rattle.object_region.proofs.Words.{◌≡◌, ℕ, ◌<◌, true, List, [], ◌∷◌, refl, arith, nat_cmp, Less, AllByRecursion, IsStrictlySortedBy, keys_of, IsSome, and_parts, ltb-true, nat_tests, Made, width, IsBelow, Rises, IsOccupancy, Regions, occupancy_of, made_at, taken_in}
use Rattle.std.proofs.Common.{Option, Some, None}
use Rattle.object_region.proofs.Keys.{In_from_made}

below_all : (m : ℕ) (ms : List ℕ) → AllByRecursion (λ y. nat_cmp m y ≡ Less) ms → IsBelow m ms
below_all m [] h = tt
below_all m (y ∷ ys) h = (grind (arith, nat_tests, h.0), below_all m ys h.1)

rising : (ms : List ℕ) → IsStrictlySortedBy nat_cmp ms → Rises ms
unfolding IsStrictlySortedBy
rising [] h = tt
rising (m ∷ ms) h = (below_all m ms h.0, rising ms h.1)

taken_there : (o : Option Made) (offset : ℕ) → taken_in o offset ≡ true → IsSome o × (offset < width)
taken_there None offset e = cc
taken_there (Some m) offset e = (refl, ltb-true offset width (and_parts _ _ e).0)

pub occupied : (r : Regions) → IsStrictlySortedBy nat_cmp (keys_of r.made) → IsOccupancy (occupancy_of r)
occupied r sorted = record {
  rising = rising (keys_of r.made) sorted;
  placed = λ a taken. let there = taken_there (made_at r.made a.region) a.offset taken in (In_from_made a.region r.made there.0, there.1);
}
