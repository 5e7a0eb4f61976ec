-- What the occupancy is, as a place of a made region is taken or given back, or a region is made.
use Rattle.object_region.proofs.Words.{◌≡◌, ℕ, Bool, false, cond, eqb, not, ◌||◌, ◌&&◌, List, refl, sym, ap, ◌∙◌, arith, fun_ext, Some, nat_cmp, is_eq, keys_of, nat_tests, Addr, Made, is_taken, Occupancy, same_addr, with_place, without_place, Regions, made_at, taken_in, occupancy_of, with_region, Option, BTreeMap, MutBor, option_copied_mut, WritesThrough}
use Rattle.object_region.proofs.Keys.{Changed, put_both, In_from_made, add_region_there, add_region_twice, changed}

abbrev occupied_by : ℕ → ℕ → List ℕ → (Addr → Bool) → Occupancy
occupied_by node nodes ks t = record { node = node; nodes = nodes; regions = ks; taken = t }

same_occupancy : (node nodes : ℕ) (ks ls : List ℕ) (t u : Addr → Bool) → ks ≡ ls → ((a : Addr) → t a ≡ u a)
    → occupied_by node nodes ks t ≡ occupied_by node nodes ls u
same_occupancy node nodes ks ls t u e h = ap (λ rs. occupied_by node nodes rs t) e ∙ ap (λ f. occupied_by node nodes ls f) (fun_ext h)

abbrev taken_at : List (ℕ × Made) → Addr → Bool
taken_at made a = taken_in (made_at made a.region) a.offset

-- where w tells by f of each place of a's region whether it is taken, f tells so of each place
taken_put : (made made' : List (ℕ × Made)) (a : Addr) (m w : Made) (f : Bool → Bool → Bool) → Changed made made' a.region m w
    → ((j : ℕ) → is_taken w.region j ≡ f (eqb a.offset j) (is_taken m.region j)) → ((t : Bool) → f false t ≡ t)
    → (b : Addr) → taken_at made' b ≡ f (same_addr a b) (taken_at made b)
taken_put made made' a m w f change here elsewhere b =
    put_both (λ o. taken_in o b.offset ≡ f (same_addr a b) (taken_at made b)) a.region b.region w _ _ (change.put b.region)
    (λ same. let t : same_addr a b ≡ eqb a.offset b.offset = grind (arith, nat_tests) in rw (t, same, change.there) (here b.offset))
    (λ other. let t : same_addr a b ≡ false = grind (arith, nat_tests) in rw t (sym (elsewhere (taken_at made b))))

abbrev regions_of : ℕ → ℕ → List (ℕ × Made) → Regions
regions_of node nodes made = record { node = node; nodes = nodes; made = made }

module _ {node nodes : ℕ} {made : List (ℕ × Made)} {r : Regions} (is : regions_of node nodes made ≡ r) (made' : List (ℕ × Made)) where
  pub marked : (a : Addr) {m w : Made} → Changed made made' a.region m w
      → ((j : ℕ) → is_taken w.region j ≡ (eqb a.offset j || is_taken m.region j)) → occupancy_of (regions_of node nodes made') ≡ with_place a (occupancy_of r)
  marked a {m = m} {w = w} change here =
      let kept = add_region_there a.region (keys_of made) change.rising (In_from_made a.region made (rw change.there refl)) in
      same_occupancy node nodes _ _ _ _ (change.keys ∙ sym kept) (taken_put made made' a m w (λ s t. s || t) change here (λ _. refl))
      ∙ ap (λ r. with_place a (occupancy_of r)) is

  given : (a : Addr) {m w : Made} → Changed made made' a.region m w
      → ((j : ℕ) → is_taken w.region j ≡ (not (eqb a.offset j) && is_taken m.region j))
      → occupancy_of (regions_of node nodes made') ≡ without_place a (occupancy_of r)
  given a {m = m} {w = w} change here =
      same_occupancy node nodes _ _ _ _ change.keys (taken_put made made' a m w (λ s t. not s && t) change here (λ _. refl))
      ∙ ap (λ r. without_place a (occupancy_of r)) is

  -- where the same places are taken in w as were in the region k, which may not have been made, the same are taken in all
  pub unchanged : (f : List ℕ → List ℕ) (k : ℕ) (w : Made) → keys_of made' ≡ f (keys_of made)
      → ((q : ℕ) → made_at made' q ≡ cond (is_eq (nat_cmp k q)) (Some w) (made_at made q)) → ((j : ℕ) → is_taken w.region j ≡ taken_in (made_at made k) j)
      → occupancy_of (regions_of node nodes made') ≡ record (occupancy_of r) { regions = f (occupancy_of r).regions }
  unchanged f k w keys put here =
      same_occupancy node nodes _ _ _ _ keys
      (λ b. put_both (λ o. taken_in o b.offset ≡ taken_at made b) k b.region w _ _ (put b.region) (λ same. rw same (here b.offset)) (λ _. refl))
      ∙ ap (λ r. record (occupancy_of r) { regions = f (occupancy_of r).regions }) is

-- a place of the region that `get_mut` lent is given back
pub given_back : {node nodes : ℕ} {r : Regions} {w : Made} {lent : Option (MutBor Made)} {x : MutBor Made} (m n : BTreeMap ℕ Made) (a : Addr)
    → regions_of node nodes m.entries ≡ r → option_copied_mut lent ≡ made_at m.entries a.region → lent ≡ Some x
    → WritesThrough nat_cmp (nat_cmp a.region) m w n
    → ((j : ℕ) → is_taken w.region j ≡ (not (eqb a.offset j) && is_taken x.now.region j))
    → occupancy_of (regions_of node nodes n.entries) ≡ without_place a (occupancy_of r)
given_back {w = w} m n a is value some through here = given is n.entries a (changed m n a.region w _ _ value some through) here

pub placed_twice : (a : Addr) (o : Occupancy) → with_place a (with_region a.region o) ≡ with_place a o
placed_twice a o = same_occupancy o.node o.nodes _ _ _ _ (add_region_twice a.region o.regions) (λ _. refl)
