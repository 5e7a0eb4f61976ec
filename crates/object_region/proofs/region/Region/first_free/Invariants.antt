use Rattle.object_region.proofs.Words.{◌≡◌, ◌<◌, ◌-◌, ℕ, true, vec_len, REGION_WIDTH, width, is_taken}
use Rattle.object_region.proofs.region.Region.first_free.Given as goal

abbrev pub invariant-loop-self : goal.invariant-loop-self
invariant-loop-self l = record {
  same : l.self-inside.taken.items ≡ l.initial.self-inside.taken.items;
  count : vec_len l.self-inside.taken ≡ width;
  below_taken : (k : ℕ) → k < l.self-inside.low → is_taken l.self-inside.taken.items k ≡ true;
}

abbrev pub decreases-loop-self : goal.decreases-loop-self
decreases-loop-self l = REGION_WIDTH - l.self-inside.low
