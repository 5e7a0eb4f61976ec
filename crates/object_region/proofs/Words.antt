-- The names that the proofs of this crate cite of the layers below and of its definitions, passed on from one place.
pub use Rattle.std.proofs.Common.{◌≡◌, ℕ, Bool, false, cond, eqb, not, ◌||◌, ◌&&◌, List, refl, sym, ap, ◌∙◌, arith, ◌+◌, ◌*◌, ◌<◌, ◌≤◌, true, Ordering, get_or, mul-le-mul_left, mul-le-mul_right, ◌^◌, [], ◌∷◌, length, ⊎_elim, subst, inl, inr, ◌-◌, vec_len}
pub use Rattle.std.proofs.Math.Path.{fun_ext}
pub use Rattle.std.specs.Prelude.{Some, Option, None, IsSome, IfSome, is_some, nat_eq, Result, Ok, Err, IfOk, OnErr}
pub use Rattle.std.specs.Ordering.{nat_cmp, is_eq, is_lt}
pub use Rattle.std.specs.Map.{keys_of, lookup, set_value}
pub use Rattle.std.proofs.lemmas.Bool.Decides.{nat_tests}
pub use Rattle.std.specs.List.{All, list_any, AllByRecursion}
unfoldable pub use Rattle.std.specs.List.{IsDistinct}
pub use Rattle.std.specs.List.Sorted.{IsPermutation}
unfoldable pub use Rattle.std.specs.List.Sorted.{IsStrictlySortedBy}
pub use Rattle.std.specs.BinaryHeap.{IsHeap, IsUpperBound, PopsGreatest, heap_items, heap_capacity}
pub use Rattle.std.specs.declared.cmp.Reverse.{Reverse}
pub use Rattle.std.proofs.lemmas.Bool.{cases_lt, cond_both, cond-true, cond-false, or_left, or_cases, eqb-true, eq-eqb, false≢true, and_parts, ltb-true, or_right}
pub use Rattle.std.proofs.lemmas.List.{length-map}
pub use Rattle.std.proofs.lemmas.List.Elements.{All-from_recursion, All-weaker, All-map}
pub use Rattle.std.proofs.lemmas.List.Folds.{list_any_none}
pub use Rattle.std.proofs.lemmas.List.Sorted.{IsPermutation-map, IsPermutation-to_front, list_any-IsPermutation}
pub use Rattle.std.proofs.lemmas.Map.Keys.{IsDistinct-IsPermutation, IsDistinct-head, IsDistinct-tail, IsDistinct-push, sorted_head, sorted_tail}
pub use Rattle.std.proofs.lemmas.Map.Entries.{length-keys_of, sum_by-set_value}
pub use Rattle.std.proofs.lemmas.Map.Views.{All-keys_from_lookup, length-le_from_below}
pub use Rattle.std.proofs.lemmas.Map.Steps.{length-le_from_keys, set_value_same}
pub use Rattle.std.proofs.lemmas.Option.{MatchOption-at_some}
pub use Rattle.std.specs.Cmp.{nat_eq_equiv, nat_cmp_total, eq_by_cmp_equiv}
pub use Rattle.std.specs.declared.cmp.Ordering.TheVariants.{Less}
pub use Rattle.std.specs.Option.{option_copied_mut}
pub use Rattle.std.specs.BTreeMap.{BTreeMap, insert_entry, is_at, WritesThrough}
pub use Rattle.std.proofs.lemmas.Result.{IfOk-at_ok}
pub use denote.MutBor.{MutBor}
pub use Rattle.a1_base.specs.declared.place.Addr.{Addr}
pub use Rattle.a1_base.specs.Lists.{IsAmong}
pub use Rattle.a1_base.specs.declared.limits.TheConstants.{REGION_LIMIT, REGION_WIDTH}
pub use Rattle.object_region.specs.declared.places.Made.{Made}
pub use Rattle.object_region.specs.Flags.{is_taken, IsFull, IsFirstFree}
pub use Rattle.object_region.specs.Occupancy.{Occupancy, same_addr, with_place, without_place, IsBelow, Rises, IsOccupancy, LeastFree, IsSpent, add_region}
unfoldable pub use Rattle.object_region.specs.Occupancy.{width, region_count}
pub use Rattle.object_region.specs.Regions.{Regions, made_at, taken_in, occupancy_of, with_region, listed_in, numbers, IsRegion, IsLowestListed, IsLowestUnmade, IsKept, IsFullAt, listed_count}
pub use Rattle.object_region.specs.declared.places.TakeFault.{TakeFault}
