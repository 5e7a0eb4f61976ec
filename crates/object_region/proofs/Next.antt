-- Which place comes next.
use Rattle.object_region.proofs.Words.{◌≡◌, ℕ, ◌+◌, ◌*◌, ◌<◌, true, false, List, inl, inr, ⊎_elim, refl, sym, ap, ◌∙◌, arith, Option, Some, None, IsSome, IfSome, is_some, false≢true, Addr, Made, IsFull, IsFirstFree, width, region_count, LeastFree, IsSpent, Regions, made_at, taken_in, occupancy_of, IsFullAt, IsLowestListed, IsLowestUnmade}
use Rattle.object_region.proofs.Keys.{made_from_In, In_from_made}
use Rattle.object_region.proofs.Kept.{some_listed}

full_taken : (made : List (ℕ × Made)) (q : ℕ) → IsSome (made_at made q) → IsFullAt made q → (j : ℕ) → j < width → taken_in (made_at made q) j ≡ true
full_taken made q = full (made_at made q) where
  full : (o : Option Made) → IsSome o → IfSome o (λ m. IsFull m.region) → (j : ℕ) → j < width → taken_in o j ≡ true
  full None some all = absurd (false≢true some)
  full (Some m) some all = all

first_is_free : (o : Option Made) (offset : ℕ) → IsSome o → IfSome o (λ m. IsFirstFree m.region offset)
    → (offset < width) × (taken_in o offset ≡ false) × ((j : ℕ) → j < offset → taken_in o j ≡ true)
first_is_free None offset some first = absurd (false≢true some)
first_is_free (Some m) offset some first = (first.within, first.free, first.below_taken)

pub least_made : (r : Regions) (region offset : ℕ) → IsLowestListed r region → IfSome (made_at r.made region) (λ m. IsFirstFree m.region offset)
    → (let a : Addr = record { region = region; offset = offset } in LeastFree (occupancy_of r) a)
least_made r region offset lowest first =
    let some : IsSome (made_at r.made region) = some_listed (made_at r.made region) lowest.listed in
    let parts = first_is_free (made_at r.made region) offset some first in
    record {
      place = (lowest.of_node, parts.0);
      free = parts.1;
      least = inl (record {
        region_made = In_from_made region r.made some;
        below_taken = λ b made within. ⊎_elim
            (λ lower. full_taken r.made b.region (made_from_In b.region r.made made) (lowest.before_full b.region lower) b.offset within)
            (λ same. rw same.0 (parts.2 b.offset same.1));
      });
    }

pub least_new : (r : Regions) (region : ℕ) → ((q : ℕ) → IsFullAt r.made q) → IsLowestUnmade r region
    → (let a : Addr = record { region = region; offset = 0 } in LeastFree (occupancy_of r) a)
unfolding width
least_new r region full lowest = record {
  place = (lowest.of_node, omega arith);
  free = ap (λ o. taken_in o 0) lowest.unmade;
  least = inr (record {
    all_taken = λ b made. full_taken r.made b.region (made_from_In b.region r.made made) (full b.region) b.offset;
    not_made = λ made. false≢true (sym (ap (λ o. is_some o) lowest.unmade) ∙ made_from_In region r.made made);
    lower_made = λ k below. In_from_made (r.node + k * r.nodes) r.made (lowest.before_made k below);
    first = refl;
  });
}

pub all_spent : (r : Regions) → ((q : ℕ) → IsFullAt r.made q) → ((k : ℕ) → k < region_count → IsSome (made_at r.made (r.node + k * r.nodes)))
    → IsSpent (occupancy_of r)
all_spent r full made a place = full_taken r.made a.region (rw place.0.2 (made place.0.0 place.0.1)) (full a.region) a.offset place.1
