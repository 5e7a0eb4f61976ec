-- What is kept of the regions, as one of them changes.
use Rattle.object_region.proofs.Words.{◌≡◌, ℕ, ◌+◌, ◌*◌, ◌<◌, ◌≤◌, Bool, true, false, cond, Ordering, get_or, mul-le-mul_left, mul-le-mul_right, ◌^◌, List, [], ◌∷◌, length, ⊎_elim, refl, sym, ap, ◌∙◌, subst, arith, Option, Some, None, IsSome, IfSome, is_some, nat_eq, nat_cmp, is_eq, is_lt, All, list_any, IsDistinct, IsPermutation, IsStrictlySortedBy, lookup, keys_of, IsHeap, IsUpperBound, PopsGreatest, Reverse, cases_lt, cond_both, cond-true, cond-false, or_left, or_cases, eqb-true, eq-eqb, false≢true, fun_ext, nat_tests, length-map, All-from_recursion, All-weaker, All-map, list_any_none, IsPermutation-map, IsPermutation-to_front, list_any-IsPermutation, IsDistinct-IsPermutation, IsDistinct-head, IsDistinct-tail, IsDistinct-push, length-keys_of, All-keys_from_lookup, length-le_from_below, length-le_from_keys, MatchOption-at_some, nat_eq_equiv, nat_cmp_total, eq_by_cmp_equiv, Made, IsFull, Regions, made_at, listed_in, numbers, IsRegion, IsLowestListed, IsLowestUnmade, IsKept, region_count}
use Rattle.object_region.proofs.Keys.{put_both}

abbrev pub highest : Reverse ℕ → Reverse ℕ → Ordering
highest x y = nat_cmp y.0 x.0

-- ---- the numbers in the heap

same_numbers : (xs ys : List (Reverse ℕ)) → IsPermutation xs ys → IsDistinct nat_eq (numbers xs) → IsDistinct nat_eq (numbers ys)
same_numbers xs ys h = IsDistinct-IsPermutation nat_eq (λ x y. grind (arith, nat_tests)) (numbers xs) (numbers ys) (IsPermutation-map (λ y. y.0) xs ys h)

any_number : (q : ℕ) (xs ys : List (Reverse ℕ)) → IsPermutation xs ys → list_any (nat_eq q) (numbers xs) ≡ list_any (nat_eq q) (numbers ys)
any_number q xs ys h = list_any-IsPermutation (nat_eq q) (numbers xs) (numbers ys) (IsPermutation-map (λ y. y.0) xs ys h)

one_number_more : (k : ℕ) (ks : List ℕ) → list_any (nat_eq k) ks ≡ false → IsDistinct nat_eq ks → IsDistinct nat_eq (k ∷ ks)
one_number_more k ks new once = IsDistinct-IsPermutation nat_eq (λ x y. grind (arith, nat_tests)) _ _
    (IsPermutation-to_front ks k) (IsDistinct-push nat_eq_equiv ks k once new)

none_below : (x : Reverse ℕ) (q : ℕ) (ys : List (Reverse ℕ)) → q < x.0 → IsUpperBound highest x ys → list_any (nat_eq q) (numbers ys) ≡ false
none_below x q ys below bound = list_any_none (nat_eq q) (numbers ys) (All-map (λ n. nat_eq q n ≡ false) (λ y. y.0) ys
    (All-weaker (λ y. is_lt (highest x y) ≡ false) (λ y. nat_eq q y.0 ≡ false) (λ y least. grind (arith, nat_tests, least)) ys (All-from_recursion _ ys bound)))

first_listed : (x : Reverse ℕ) (xs : List (Reverse ℕ)) → 0 < length xs → x ≡ get_or xs 0 x → list_any (nat_eq x.0) (numbers xs) ≡ true
first_listed x [] some at = absurd (omega arith)
first_listed x (y ∷ ys) some at = or_left _ _ (eq-eqb x.0 y.0 (ap (λ z. z.0) at))

some_number : (k : ℕ) (xs : List (Reverse ℕ)) → list_any (nat_eq k) (numbers xs) ≡ true → 0 < length xs
some_number k [] listed = absurd (false≢true listed)
some_number k (x ∷ xs) listed = omega arith

pub some_listed : (o : Option Made) → listed_in o ≡ true → IsSome o
some_listed None e = absurd (false≢true e)
some_listed (Some m) e = refl

full_unlisted : (o : Option Made) → IfSome o (λ m. m.listed ≡ false → IsFull m.region) → listed_in o ≡ false → IfSome o (λ m. IsFull m.region)
full_unlisted None h e = tt
full_unlisted (Some m) h e = h e

none_left : (o : Option Made) → is_some o ≡ false → o ≡ None
none_left None e = refl
none_left (Some m) e = absurd (false≢true (sym e))

distinct_none : IsDistinct nat_eq []
unfolding IsDistinct
distinct_none = tt

pub kept_first : (node nodes room : ℕ) (made : List (ℕ × Made)) (xs : List (Reverse ℕ)) → node < nodes → nodes ≤ 16 → made ≡ [] → xs ≡ []
    → IsHeap highest xs → IsKept node nodes 0 made xs room
kept_first node nodes room made xs some few none empty heap = record {
  some_node = some;
  few_nodes = few;
  within = omega arith;
  below_made = λ k h. absurd (omega arith);
  of_node = λ q. rw none (λ h. cc);
  unlisted_full = λ q. rw none tt;
  once = rw empty distinct_none;
  listed = λ q. rw (none, empty) refl;
  lowest_first = heap;
  roomy = rw none (omega arith);
}

region_below : (node nodes k : ℕ) → node < nodes → nodes ≤ 16 → k < region_count → node + k * nodes < 2 ^ 24
unfolding region_count
region_below node nodes k some few within = omega (arith, mul-le-mul_left k few)

same_lookup : (q : ℕ) (made : List (ℕ × Made)) → made_at made q ≡ lookup (nat_eq q) made
same_lookup q made = ap (λ test. lookup test made) (fun_ext (λ k. grind (arith, nat_tests)))

module _ {node nodes next room : ℕ} {made : List (ℕ × Made)} {xs : List (Reverse ℕ)} (kept : IsKept node nodes next made xs room) where
  abbrev here : Regions
  here = record { node = node; nodes = nodes; made = made }

  abbrev IsPut : List (ℕ × Made) → ℕ → Made → Type 0
  IsPut made' k w = (q : ℕ) → made_at made' q ≡ cond (is_eq (nat_cmp k q)) (Some w) (made_at made q)

  -- one of the regions changes, or comes
  kept_put : (made' : List (ℕ × Made)) (ys : List (Reverse ℕ)) (room' k : ℕ) (w : Made)
      → IsPut made' k w → IsRegion node nodes k → (w.listed ≡ false → IsFull w.region) → IsDistinct nat_eq (numbers ys)
      → ((q : ℕ) → list_any (nat_eq q) (numbers ys) ≡ cond (is_eq (nat_cmp k q)) w.listed (list_any (nat_eq q) (numbers xs)))
      → IsHeap highest ys → length made' ≤ room' → IsKept node nodes next made' ys room'
  kept_put made' ys room' k w put region full once listed heap roomy = record {
    some_node = kept.some_node;
    few_nodes = kept.few_nodes;
    within = kept.within;
    below_made = λ j h. put_both (λ o. IsSome o) k _ w _ _ (put _) (λ _. refl) (λ _. kept.below_made j h);
    of_node = λ q. put_both (λ o. IsSome o → IsRegion node nodes q) k q w _ _ (put q) (λ same _. rw same region) (λ _. kept.of_node q);
    unlisted_full = λ q. put_both (λ o. IfSome o (λ m. m.listed ≡ false → IsFull m.region)) k q w _ _ (put q) (λ _. full) (λ _. kept.unlisted_full q);
    once = once;
    listed = λ q. rw (put q, listed q, kept.listed q) (cond_both (is_eq (nat_cmp k q)) (Some w) (made_at made q)
        (λ o. cond (is_eq (nat_cmp k q)) w.listed (listed_in (made_at made q)) ≡ listed_in o) (cond-true _ _ _) (cond-false _ _ _));
    lowest_first = heap;
    roomy = roomy;
  }

  -- the region of x, which was not listed, is listed
  pub kept_listed : (made' : List (ℕ × Made)) (ys : List (Reverse ℕ)) (room' : ℕ) (x : Reverse ℕ) (w : Made)
      → IsPut made' x.0 w → IsRegion node nodes x.0 → listed_in (made_at made x.0) ≡ false → w.listed ≡ true
      → IsPermutation (x ∷ xs) ys → IsHeap highest ys → length made' ≤ room' → IsKept node nodes next made' ys room'
  kept_listed made' ys room' x w put region before after moved heap roomy =
      kept_put made' ys room' x.0 w put region (λ unlisted. absurd (false≢true (sym unlisted ∙ after)))
      (same_numbers (x ∷ xs) ys moved (one_number_more x.0 (numbers xs) (kept.listed x.0 ∙ before) kept.once))
      (λ q. let e = any_number q (x ∷ xs) ys moved in grind (arith, nat_tests, e, after)) heap roomy

  pub top_is_lowest : (x : Reverse ℕ) → 0 < length xs → x ≡ get_or xs 0 x → IsUpperBound highest x xs → IsLowestListed here x.0
  top_is_lowest x some at bound =
      let there : listed_in (made_at made x.0) ≡ true = sym (kept.listed x.0) ∙ first_listed x xs some at in
      record {
        of_node = kept.of_node x.0 (some_listed (made_at made x.0) there);
        listed = there;
        least = λ q other. ⊎_elim (λ below. absurd (false≢true (sym (none_below x q xs below bound) ∙ (kept.listed q ∙ other)))) (λ past. past) (cases_lt q x.0);
        before_full = λ q below. full_unlisted (made_at made q) (kept.unlisted_full q) (sym (kept.listed q) ∙ none_below x q xs below bound);
      }

  listed_made : (q : ℕ) → list_any (nat_eq q) (numbers xs) ≡ true → IsSome (lookup (nat_eq q) made)
  listed_made q h = subst (λ o. IsSome o) (same_lookup q made) (some_listed (made_at made q) (sym (kept.listed q) ∙ h))

  pub listed_fit : length xs ≤ length made
  listed_fit = omega (arith, length-le_from_keys nat_eq_equiv (numbers xs) made kept.once listed_made, length-map xs (λ x. x.0))

  pub next_is_lowest : next < region_count → is_some (made_at made (node + next * nodes)) ≡ false → IsLowestUnmade here (node + next * nodes)
  next_is_lowest within missing = record {
    of_node = (next, within, refl);
    unmade = none_left _ missing;
    before_made = λ k below. ⊎_elim (kept.below_made k) (λ past. absurd (omega (arith, below, mul-le-mul_right nodes past))) (cases_lt k next);
  }

  pub some_to_strike : (k : ℕ) → listed_in (made_at made k) ≡ true → 0 < length xs
  some_to_strike k listed = some_number k xs (kept.listed k ∙ listed)

  struck_is : (k : ℕ) → IsLowestListed here k → (x : Reverse ℕ) (ys : List (Reverse ℕ)) → IsPermutation xs (x ∷ ys) → IsUpperBound highest x xs → x.0 ≡ k
  struck_is k lowest x ys moved bound =
      let among = any_number x.0 xs (x ∷ ys) moved ∙ or_left _ _ (eq-eqb x.0 x.0 refl) in
      let le : k ≤ x.0 = lowest.least x.0 (sym (kept.listed x.0) ∙ among) in
      ⊎_elim (λ below. absurd (false≢true (sym (none_below x k xs below bound) ∙ (kept.listed k ∙ lowest.listed)))) (λ past. omega (arith, past)) (cases_lt k x.0)

  -- the first in the heap is struck off
  pub kept_struck : (made' : List (ℕ × Made)) (ys : List (Reverse ℕ)) (room' k : ℕ) (w : Made)
      → IsPut made' k w → IsLowestListed here k → w.listed ≡ false → IsFull w.region
      → (top : Option (Reverse ℕ)) → IsSome top → IfSome top (λ x. IsPermutation xs (x ∷ ys)) → IfSome top (λ x. PopsGreatest highest xs x ys)
      → length made' ≤ room' → IsKept node nodes next made' ys room'
  kept_struck made' ys room' k w put lowest after full None some moved pops roomy = absurd (false≢true some)
  kept_struck made' ys room' k w put lowest after full (Some x) some moved pops roomy =
      let popped = pops kept.lowest_first in
      let same : x.0 ≡ k = struck_is k lowest x ys moved popped.1 in
      let once = same_numbers xs (x ∷ ys) moved kept.once in
      let gone = list_any_none (nat_eq x.0) (numbers ys) (All-from_recursion _ _ (IsDistinct-head nat_eq x.0 (numbers ys) once)) in
      kept_put made' ys room' k w put lowest.of_node (λ _. full) (IsDistinct-tail nat_eq x.0 (numbers ys) once)
      (λ q. let e = any_number q xs (x ∷ ys) moved in rw (after, ← same) (grind (arith, nat_tests, e, gone))) popped.0 roomy

  -- how many regions there are
  pub few_made : IsStrictlySortedBy nat_cmp (keys_of made) → length made ≤ 2 ^ 24
  few_made up =
      let below : All (λ q. q < 2 ^ 24) (keys_of made) = All-keys_from_lookup (eq_by_cmp_equiv nat_cmp_total) (λ q. q < 2 ^ 24) made
      (λ q some. let at = kept.of_node q some in rw at.2 (region_below _ _ at.0 kept.some_node kept.few_nodes at.1)) in
      omega (arith, length-le_from_below (2 ^ 24) (keys_of made) up below, length-keys_of made)

-- a region that is not listed leaves room for its number
pub room_for : {node nodes next room : ℕ} {made : List (ℕ × Made)} {xs : List (Reverse ℕ)} → IsKept node nodes next made xs room
    → (k : ℕ) → IsSome (made_at made k) → listed_in (made_at made k) ≡ false → length xs < room
room_for {made = made} {xs = xs} kept k there unlisted =
    let each : (q : ℕ) → list_any (nat_eq q) (k ∷ numbers xs) ≡ true → IsSome (lookup (nat_eq q) made) = λ q h.
    ⊎_elim (λ same. rw (eqb-true q k same) (subst (λ o. IsSome o) (same_lookup k made) there)) (listed_made kept q) (or_cases (nat_eq q k) _ h) in
    omega (
      arith,
      kept.roomy,
      length-map xs (λ x. x.0),
      length-le_from_keys nat_eq_equiv (k ∷ numbers xs) made (one_number_more k (numbers xs) (kept.listed k ∙ unlisted) kept.once) each,
    )

pub full_here : (o : Option Made) (m : Made) → o ≡ Some m → IfSome o (λ x. IsFull x.region) → IsFull m.region
full_here o m e full = MatchOption-at_some _ (λ (x : Made). IsFull x.region) m e full

pub one_more : (b : Bool) (n m : ℕ) → n ≡ m + cond b 0 1 → n ≤ m + 1
one_more true n m e = omega arith
one_more false n m e = omega arith
