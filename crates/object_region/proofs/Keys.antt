-- What a map of made regions has at a number, which numbers it has, and what changes as one of them does.
use Rattle.object_region.proofs.Words.{◌≡◌, ℕ, ◌<◌, true, false, cond, List, [], ◌∷◌, length, inl, inr, refl, sym, ap, ◌∙◌, subst, arith, Option, Some, IsSome, option_copied_mut, nat_cmp, is_eq, Less, AllByRecursion, IsStrictlySortedBy, keys_of, set_value, BTreeMap, insert_entry, is_at, WritesThrough, cond_both, nat_tests, sum_by-set_value, sorted_head, sorted_tail, MutBor, IsAmong, Made, add_region, made_at, listed_count}

-- a fact of what is at q once w was put at k
pub put_both : (P : Option Made → Type 0) (k q : ℕ) (w : Made) (before after : Option Made) → after ≡ cond (is_eq (nat_cmp k q)) (Some w) before
    → (q ≡ k → P (Some w)) → ((q ≡ k → ⊥) → P before) → P after
put_both P k q w before after e here apart = subst P (sym e)
    (cond_both (is_eq (nat_cmp k q)) (Some w) before P (λ t. here (grind (arith, nat_tests, t))) (λ f. apart (λ same. grind (arith, nat_tests, f, same))))

pub made_from_In : (q : ℕ) (made : List (ℕ × Made)) → IsAmong q (keys_of made) → IsSome (made_at made q)
made_from_In q [] h = absurd h
made_from_In q (e ∷ es) h = cond_both (is_eq (nat_cmp q e.0)) (Some e.1) (made_at es q) (λ o. IsSome o) (λ _. refl)
    (λ f. elim h [
      | inl same ↦ absurd (grind (arith, nat_tests, f, same))
      | inr later ↦ made_from_In q es later
    ])

pub In_from_made : (q : ℕ) (made : List (ℕ × Made)) → IsSome (made_at made q) → IsAmong q (keys_of made)
In_from_made q [] = λ h. cc
In_from_made q (e ∷ es) = cond_both (is_eq (nat_cmp q e.0)) (Some e.1) (made_at es q) (λ o. IsSome o → IsAmong q (keys_of (e ∷ es)))
    (λ t _. inl (grind (arith, nat_tests, t))) (λ _ h. inr (In_from_made q es h))

-- a new number
pub keys_insert_entry : (k : ℕ) (w : Made) (made : List (ℕ × Made)) → keys_of (insert_entry nat_cmp made k w) ≡ add_region k (keys_of made)
keys_insert_entry k w [] = refl
keys_insert_entry k w (e ∷ es) = let more = keys_insert_entry k w es in grind (arith, nat_tests, more)

below_later : (m k : ℕ) (ms : List ℕ) → AllByRecursion (λ y. nat_cmp m y ≡ Less) ms → IsAmong k ms → m < k
below_later m k [] up h = absurd h
below_later m k (y ∷ ys) up (inl same) = let here = up.0 in grind (arith, nat_tests)
below_later m k (y ∷ ys) up (inr later) = below_later m k ys up.1 later

-- a number that is there
pub add_region_there : (k : ℕ) (ks : List ℕ) → IsStrictlySortedBy nat_cmp ks → IsAmong k ks → add_region k ks ≡ ks
add_region_there k [] up h = absurd h
add_region_there k (m ∷ ms) up (inl same) = grind (arith, nat_tests)
add_region_there k (m ∷ ms) up (inr later) =
    let more = add_region_there k ms (sorted_tail nat_cmp m ms up) later in
    let above : m < k = below_later m k ms (sorted_head nat_cmp m ms up) later in
    grind (arith, nat_tests, more)

pub add_region_twice : (k : ℕ) (ks : List ℕ) → add_region k (add_region k ks) ≡ add_region k ks
add_region_twice k [] = grind (arith, nat_tests)
add_region_twice k (m ∷ ms) = let more = add_region_twice k ms in grind (arith, nat_tests, more)

-- the region k was `old`, and is now w
pub record Changed (made made' : List (ℕ × Made)) (k : ℕ) (old w : Made) : Type 0 where
  pub there : made_at made k ≡ Some old
  pub entries : made' ≡ set_value (is_at (nat_cmp k)) made w
  pub keys : keys_of made' ≡ keys_of made
  pub count : length made' ≡ length made
  pub put : (q : ℕ) → made_at made' q ≡ cond (is_eq (nat_cmp k q)) (Some w) (made_at made q)
  pub rising : IsStrictlySortedBy nat_cmp (keys_of made)

-- as `get_mut` and what is written to the region that it lent leave it
pub changed : (m n : BTreeMap ℕ Made) (k : ℕ) (w : Made) (r : Option (MutBor Made)) (x : MutBor Made)
    → option_copied_mut r ≡ made_at m.entries k → r ≡ Some x → WritesThrough nat_cmp (nat_cmp k) m w n → Changed m.entries n.entries k x.now w
changed m n k w r x value some through =
    let there = sym value ∙ ap option_copied_mut some in
    record {
      there = there;
      entries = through.0;
      keys = through.1;
      count = through.2;
      put = (through.3 (rw there refl)).0;
      rising = subst (IsStrictlySortedBy nat_cmp) through.1 through.4;
    }

-- one is listed no more
pub fewer_listed : {k : ℕ} {made made' : List (ℕ × Made)} {m w : Made} → Changed made made' k m w → m.listed ≡ true → w.listed ≡ false
    → listed_count made' < listed_count made
fewer_listed {k = k} {made = made} {m = m} {w = w} change before after =
    let was : cond {A = ℕ} m.listed 1 0 ≡ 1 = rw before refl in
    let is : cond {A = ℕ} w.listed 1 0 ≡ 0 = rw after refl in
    rw change.entries (omega (arith, was, is, sum_by-set_value (λ (x : Made). cond x.listed 1 0) (is_at (nat_cmp k)) made m w change.there))
