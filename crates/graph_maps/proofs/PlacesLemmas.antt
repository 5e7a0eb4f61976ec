-- Places and their trail as functions of the keys.
use Rattle.std.proofs.Common.{ℕ, zero, suc, ◌<◌, arith, take, length, get_or, map, ◌≡◌, List, [], ◌∷◌, ◌++◌, Bool, true, false, cond, not, Option, Some, None, is_some, sym, refl, ap, ◌∙◌, subst, Ordering, Less, is_eq}
use Rattle.std.proofs.Math.ListN.{set}
use Rattle.std.proofs.Math.Seq.{take-suc}
use Rattle.std.proofs.lemmas.List.{take-set, map-append, append-nil}
use Rattle.std.proofs.lemmas.List.Elements.{filter_map-append}
use Rattle.std.specs.Cmp.{IsTotalOrder, eq_by_cmp_equiv}
use Rattle.std.specs.Option.{option_flatten, option_map}
use Rattle.std.specs.Map.{keys_of, remove_entry}
use Rattle.std.specs.BTreeMap.{is_at}
use Rattle.std.specs.List.{AllByRecursion, cons_option}
use Rattle.std.specs.List.Sorted.{IsStrictlySortedBy}
use Rattle.std.proofs.lemmas.Map.{lookup-set_value, keys-set_value}
use Rattle.std.proofs.lemmas.Map.Lookups.{CmpEqualImpliesEq}
use Rattle.a1_base.specs.Maps.{at, with_entry, without, IsOrdered}
use Rattle.graph_maps.specs.Places.{filled, kept, set_at, led_back, ArePlaced, AreSound}
use Rattle.graph_maps.proofs.MapLemmas.{one_key, itself, at_with, at_filter, ordered_filter, ordered_with, none_again, ordered_rest, same_lists}

-- the list, with a place's content in front of it
abbrev shown : {K X : Type 0} → K → Option X → List (K × X) → List (K × X)
shown k w rest = cons_option (option_map (λ x. (k, x)) w) rest

module _ {K X : Type 0} (R : K → K → Ordering) where
  -- what stands at the key, where an empty place is none
  abbrev pub content : K → List (K × Option X) → Option X
  content q places = option_flatten (at R q places)

  -- what stood at the key before the changes of the trail, where f says what stands there
  abbrev over : List (K × Option X) → (K → Option X) → K → Option X
  over [] f q = f q
  over (u ∷ trail) f q = cond (is_eq (R q u.0)) u.1 (over trail f q)

  over_same : (trail : List (K × Option X)) (f g : K → Option X) → ((q : K) → f q ≡ g q) → (q : K) → over trail f q ≡ over trail g q
  over_same [] f g h q = h q
  over_same (u ∷ trail) f g h q = ap (λ z. cond (is_eq (R q u.0)) u.1 z) (over_same trail f g h q)

  -- ---- the keys stay

  keys_led : (trail places : List (K × Option X)) → keys_of (led_back R trail places) ≡ keys_of places
  keys_led [] places = refl
  keys_led (u ∷ trail) places = keys-set_value (is_at (R u.0)) (led_back R trail places) u.1 ∙ keys_led trail places

  ordered_led : (trail places : List (K × Option X)) → IsOrdered R places → IsOrdered R (led_back R trail places)
  ordered_led trail places s = subst (IsStrictlySortedBy R) (sym (keys_led trail places)) s

  either : (b : Bool) (v w : Option X) (y z : Option (Option X)) → is_some y ≡ is_some z → is_some (cond b (Some v) y) ≡ is_some (cond b (Some w) z)
  either true v w y z e = refl
  either false v w y z e = e

  has_set : (q k : K) (w : Option X) (places : List (K × Option X)) → is_some (at R q (set_at R k w places)) ≡ is_some (at R q places)
  has_set q k w [] = refl
  has_set q k w (p ∷ places) = by (has_set q k w places) (is_eq (R k p.0)) where
    by : is_some (at R q (set_at R k w places)) ≡ is_some (at R q places) → (b : Bool) → is_some (at R q (cond b ((p.0, w) ∷ places) (p ∷ set_at R k w places))) ≡ is_some (at R q (p ∷ places))
    by ih true = either (is_eq (R q p.0)) w p.1 (at R q places) (at R q places) refl
    by ih false = either (is_eq (R q p.0)) p.1 p.1 (at R q (set_at R k w places)) (at R q places) ih

  has_led : (q : K) (trail places : List (K × Option X)) → is_some (at R q (led_back R trail places)) ≡ is_some (at R q places)
  has_led q [] places = refl
  has_led q (u ∷ trail) places = has_set q u.0 u.1 (led_back R trail places) ∙ has_led q trail places

  -- the last change is undone first
  pub led_last : (trail : List (K × Option X)) (k : K) (w : Option X) (places : List (K × Option X)) → led_back R (trail ++ (k, w) ∷ []) places ≡ led_back R trail (set_at R k w places)
  led_last [] k w places = refl
  led_last (u ∷ trail) k w places = ap (set_at R u.0 u.1) (led_last trail k w places)

  -- ---- what is there, in order

  all_kept : (P : K → Type 0) (places : List (K × Option X)) → AllByRecursion P (keys_of places) → AllByRecursion P (keys_of (kept places))
  all_kept P [] all = tt
  all_kept P (p ∷ places) all = by (all_kept P places all.1) p.1 where
    by : AllByRecursion P (keys_of (kept places)) → (w : Option X) → AllByRecursion P (keys_of (shown p.0 w (kept places)))
    by ih None = ih
    by ih (Some x) = (all.0, ih)

  pub ordered_kept : (places : List (K × Option X)) → IsOrdered R places → IsOrdered R (kept places)
  unfolding IsStrictlySortedBy
  ordered_kept [] s = tt
  ordered_kept (p ∷ places) s = by (ordered_kept places s.1) p.1 where
    by : IsOrdered R (kept places) → (w : Option X) → IsOrdered R (shown p.0 w (kept places))
    by ih None = ih
    by ih (Some x) = (all_kept (λ y. R p.0 y ≡ Less) places s.0, ih)

  -- an empty place that is taken out was not seen
  pub kept_less : (k : K) (places : List (K × Option X)) → at R k places ≡ Some None → kept (remove_entry (is_at (R k)) places) ≡ kept places
  kept_less k [] e = refl
  kept_less k (p ∷ places) e = by (is_eq (R k p.0)) (kept_less k places) e where
    by : (b : Bool) → (at R k places ≡ Some None → kept (remove_entry (is_at (R k)) places) ≡ kept places) → cond b (Some p.1) (at R k places) ≡ Some None
        → kept (cond b places (p ∷ remove_entry (is_at (R k)) places)) ≡ kept (p ∷ places)
    by true ih f = let empty : p.1 ≡ None = cc in sym (ap (λ w. shown p.0 w (kept places)) empty)
    by false ih f = ap (λ z. shown p.0 p.1 z) (ih f)

  -- what all keys have, the others have where one is taken out
  pub all_less : (S : K → Type 0) (k : K) (places : List (K × Option X)) → AllByRecursion S (keys_of places) → AllByRecursion S (keys_of (remove_entry (is_at (R k)) places))
  all_less S k [] all = tt
  all_less S k (p ∷ places) all = by (all_less S k places all.1) (is_eq (R k p.0)) where
    by : AllByRecursion S (keys_of (remove_entry (is_at (R k)) places)) → (b : Bool) → AllByRecursion S (keys_of (cond b places (p ∷ remove_entry (is_at (R k)) places)))
    by ih true = all.1
    by ih false = (all.0, ih)

  -- only the place at k is changed, and has w now
  pub record Changes (k : K) (w : Option X) (old new : List (K × Option X)) : Type 0 where
    pub ordered : IsOrdered R new
    pub at_each : (q : K) → at R q new ≡ cond (is_eq (R q k)) (Some w) (at R q old)

  -- where no place is, nothing is set
  pub set_absent : (k : K) (w : Option X) (places : List (K × Option X)) → at R k places ≡ None → set_at R k w places ≡ places
  set_absent k w [] none = refl
  set_absent k w (p ∷ places) none = by (is_eq (R k p.0)) (set_absent k w places) none where
    by : (b : Bool) → (at R k places ≡ None → set_at R k w places ≡ places) → cond b (Some p.1) (at R k places) ≡ None → cond b ((p.0, w) ∷ places) (p ∷ set_at R k w places) ≡ p ∷ places
    by true ih f = cc
    by false ih f = ap (λ z. p ∷ z) (ih f)

  -- ---- a step of the way back

  placed_get : (trail places : List (K × Option X)) (i : ℕ) (d : K × Option X) → ArePlaced R trail places → i < length trail → is_some (at R (get_or trail i d).0 places) ≡ true
  placed_get [] places i d there below = absurd (omega arith)
  placed_get (u ∷ trail) places zero d there below = there.0
  placed_get (u ∷ trail) places (suc i) d there below = placed_get trail places i d there.1 (omega arith)

  placed_other : (trail places : List (K × Option X)) (i : ℕ) (u : K × Option X) → ArePlaced R trail places → is_some (at R u.0 places) ≡ true → ArePlaced R (set trail i u) places
  placed_other [] places i u there here = tt
  placed_other (t ∷ trail) places zero u there here = (here, there.1)
  placed_other (t ∷ trail) places (suc i) u there here = (there.0, placed_other trail places i u there.1 here)

  placed_set : (trail places : List (K × Option X)) (k : K) (w : Option X) → ArePlaced R trail places → ArePlaced R trail (set_at R k w places)
  placed_set [] places k w there = tt
  placed_set (u ∷ trail) places k w there = (has_set u.0 k w places ∙ there.0, placed_set trail places k w there.1)

  pub sound_undone : (S : K → Type 0) (trail places new : List (K × Option X)) (i : ℕ) (t u : K × Option X) → AreSound R S trail places → i < length trail
      → t ≡ get_or trail i t → new ≡ set_at R t.0 t.1 places → u.0 ≡ t.0 → AreSound R S (set trail i u) new
  sound_undone S trail places new i t u sound below is there same =
      let here : is_some (at R u.0 places) ≡ true = ap (λ k. is_some (at R k places)) (same ∙ ap (λ z. z.0) is) ∙ placed_get trail places i t sound.placed below in
      let keys : keys_of (set_at R t.0 t.1 places) ≡ keys_of places = keys-set_value (is_at (R t.0)) places t.1 in
      subst (λ n. AreSound R S (set trail i u) n) (sym there)
      (record {
        ordered = subst (IsStrictlySortedBy R) (sym keys) sound.ordered;
        sound = subst (AllByRecursion S) (sym keys) sound.sound;
        placed = placed_set (set trail i u) places t.0 t.1 (placed_other trail places i u sound.placed here);
      })

  pub led_undone : (trail places new : List (K × Option X)) (i : ℕ) (t u : K × Option X) → i < length trail → t ≡ get_or trail i t → new ≡ set_at R t.0 t.1 places
      → led_back R (take i (set trail i u)) new ≡ led_back R (take (suc i) trail) places
  led_undone trail places new i t u below is there =
      ap (λ l. led_back R l new) (take-set trail i u)
      ∙ (ap (led_back R (take i trail)) there
      ∙ (sym (led_last (take i trail) t.0 t.1 places)
      ∙ ap (λ l. led_back R l places) (ap (λ z. take i trail ++ z ∷ []) is ∙ sym (take-suc trail i t below))))

  module _ (o : IsTotalOrder R) (exact : CmpEqualImpliesEq R) where
    pub at_set : (q k : K) (w : Option X) (places : List (K × Option X)) → is_some (at R k places) ≡ true → at R q (set_at R k w places) ≡ cond (is_eq (R q k)) (Some w) (at R q places)
    at_set q k w places there =
        lookup-set_value (eq_by_cmp_equiv o) (is_at (R k)) (λ x y h. (eq_by_cmp_equiv o).congr k x y h) q w places there
        ∙ ap (λ b. cond b (Some w) (at R q places)) ((eq_by_cmp_equiv o).symm k q)

    pub at_kept : (q : K) (places : List (K × Option X)) → IsOrdered R places → at R q (kept places) ≡ content q places
    at_kept q [] s = refl
    at_kept q (p ∷ places) s = by (at_kept q places (ordered_rest R o exact p places s)) p.1 (is_eq (R q p.0)) refl where
      by : at R q (kept places) ≡ content q places → (w : Option X) (b : Bool) → is_eq (R q p.0) ≡ b → at R q (shown p.0 w (kept places)) ≡ option_flatten (cond b (Some w) (at R q places))
      by ih None true e = ih ∙ ap option_flatten (subst (λ k. at R k places ≡ None) (sym (one_key R o exact q p.0 e)) (none_again R o exact p places s))
      by ih None false e = ih
      by ih (Some x) true e = ap (λ b. cond b (Some x) (at R q (kept places))) e
      by ih (Some x) false e = ap (λ b. cond b (Some x) (at R q (kept places))) e ∙ ih

    flat_set : (b : Bool) (w : Option X) (z : Option (Option X)) → option_flatten (cond b (Some w) z) ≡ cond b w (option_flatten z)
    flat_set true w z = refl
    flat_set false w z = refl

    content_led : (trail places : List (K × Option X)) → ArePlaced R trail places → (q : K) → content q (led_back R trail places) ≡ over trail (λ k. content k places) q
    content_led [] places there q = refl
    content_led (u ∷ trail) places there q =
        ap option_flatten (at_set q u.0 u.1 (led_back R trail places) (has_led u.0 trail places ∙ there.0))
        ∙ (flat_set (is_eq (R q u.0)) u.1 (at R q (led_back R trail places))
        ∙ ap (λ z. cond (is_eq (R q u.0)) u.1 z) (content_led trail places there.1 q))

    same_led : (trail some more : List (K × Option X)) → IsOrdered R some → IsOrdered R more → ArePlaced R trail some → ArePlaced R trail more → ((q : K) → content q some ≡ content q more)
        → kept (led_back R trail some) ≡ kept (led_back R trail more)
    same_led trail some more s t there here h =
        same_lists R o exact (kept (led_back R trail some)) (kept (led_back R trail more))
        (ordered_kept (led_back R trail some) (ordered_led trail some s)) (ordered_kept (led_back R trail more) (ordered_led trail more t))
        (λ q. at_kept q (led_back R trail some) (ordered_led trail some s)
        ∙ (content_led trail some there q
        ∙ (over_same trail (λ k. content k some) (λ k. content k more) h q
        ∙ (sym (content_led trail more here q) ∙ sym (at_kept q (led_back R trail more) (ordered_led trail more t))))))

    -- ---- one change, and its entry in the trail

    stays : (b : Bool) (w : Option X) (z : Option (Option X)) → is_some z ≡ true → is_some (cond b (Some w) z) ≡ true
    stays true w z e = refl
    stays false w z e = e

    still_placed : (trail old new : List (K × Option X)) (k : K) (w : Option X) → Changes k w old new → ArePlaced R trail old → ArePlaced R trail new
    still_placed [] old new k w change there = tt
    still_placed (u ∷ trail) old new k w change there =
        (ap is_some (change.at_each u.0) ∙ stays (is_eq (R u.0 k)) w (at R u.0 old) there.0, still_placed trail old new k w change there.1)

    there_now : (old new : List (K × Option X)) (k : K) (w : Option X) → Changes k w old new → is_some (at R k new) ≡ true
    there_now old new k w change = ap is_some (change.at_each k) ∙ ap (λ b. is_some (cond b (Some w) (at R k old))) (itself R o k)

    placed_last : (trail places : List (K × Option X)) (k : K) (w : Option X) → ArePlaced R trail places → is_some (at R k places) ≡ true → ArePlaced R (trail ++ (k, w) ∷ []) places
    placed_last [] places k w there here = (here, tt)
    placed_last (u ∷ trail) places k w there here = (there.0, placed_last trail places k w there.1 here)

    pub sound_then : (S : K → Type 0) (trail old new : List (K × Option X)) (k : K) (v w : Option X) → AreSound R S trail old → Changes k w old new
        → AllByRecursion S (keys_of new) → AreSound R S (trail ++ (k, v) ∷ []) new
    sound_then S trail old new k v w sound change keys = record {
      ordered = change.ordered;
      sound = keys;
      placed = placed_last trail new k v (still_placed trail old new k w change sound.placed) (there_now old new k w change);
    }

    undone : (b : Bool) (w : Option X) (here there : Option (Option X)) → (b ≡ true → option_flatten here ≡ option_flatten there)
        → option_flatten (cond b (Some (option_flatten here)) (cond b (Some w) there)) ≡ option_flatten there
    undone true w here there e = e refl
    undone false w here there e = refl

    pub was_then : (S : K → Type 0) (trail old new : List (K × Option X)) (k : K) (w : Option X) → AreSound R S trail old → Changes k w old new
        → kept (led_back R (trail ++ (k, content k old) ∷ []) new) ≡ kept (led_back R trail old)
    was_then S trail old new k w sound change =
        ap kept (led_last trail k (content k old) new)
        ∙ same_led trail (set_at R k (content k old) new) old
        (subst (IsStrictlySortedBy R) (sym (keys-set_value (is_at (R k)) new (content k old))) change.ordered) sound.ordered
        (still_placed trail new (set_at R k (content k old) new) k (content k old) back (still_placed trail old new k w change sound.placed)) sound.placed
        (λ q. ap option_flatten (back.at_each q ∙ ap (λ z. cond (is_eq (R q k)) (Some (content k old)) z) (change.at_each q))
        ∙ undone (is_eq (R q k)) w (at R k old) (at R q old) (λ e. ap (λ z. content z old) (sym (one_key R o exact q k e)))) where
          back : Changes k (content k old) new (set_at R k (content k old) new)
          back = record {
            ordered = subst (IsStrictlySortedBy R) (sym (keys-set_value (is_at (R k)) new (content k old))) change.ordered;
            at_each = λ q. at_set q k (content k old) new (there_now old new k w change);
          }

    now_then : (old new : List (K × Option X)) (k : K) (w : Option X) → IsOrdered R old → Changes k w old new → (q : K) → at R q (kept new) ≡ cond (is_eq (R q k)) w (at R q (kept old))
    now_then old new k w s change q =
        at_kept q new change.ordered
        ∙ (ap option_flatten (change.at_each q)
        ∙ (flat_set (is_eq (R q k)) w (at R q old)
        ∙ ap (λ z. cond (is_eq (R q k)) w z) (sym (at_kept q old s))))

    pub now_put : (old new : List (K × Option X)) (k : K) (x : X) → IsOrdered R old → Changes k (Some x) old new → kept new ≡ with_entry R k x (kept old)
    now_put old new k x s change =
        same_lists R o exact (kept new) (with_entry R k x (kept old)) (ordered_kept new change.ordered) (ordered_with R o exact k x (kept old) (ordered_kept old s))
        (λ q. now_then old new k (Some x) s change q ∙ sym (at_with R o exact q k x (kept old)))

    turned : (b : Bool) (z : Option X) → cond b None z ≡ cond (not b) z None
    turned true z = refl
    turned false z = refl

    pub now_taken : (old new : List (K × Option X)) (k : K) → IsOrdered R old → Changes k None old new → kept new ≡ without R k (kept old)
    now_taken old new k s change =
        same_lists R o exact (kept new) (without R k (kept old)) (ordered_kept new change.ordered)
        (ordered_filter R o exact (λ e. not (is_eq (R e.0 k))) (kept old) (ordered_kept old s))
        (λ q. now_then old new k None s change q
        ∙ (turned (is_eq (R q k)) (at R q (kept old)) ∙ sym (at_filter R o exact (λ q. not (is_eq (R q k))) q (kept old))))

    pub changes_with : (k : K) (w : Option X) (places : List (K × Option X)) → IsOrdered R places → Changes k w places (with_entry R k w places)
    changes_with k w places s = record { ordered = ordered_with R o exact k w places s; at_each = λ q. at_with R o exact q k w places }

    pub changes_set : (k : K) (w : Option X) (places : List (K × Option X)) → IsOrdered R places → is_some (at R k places) ≡ true → Changes k w places (set_at R k w places)
    changes_set k w places s there = record {
      ordered = subst (IsStrictlySortedBy R) (sym (keys-set_value (is_at (R k)) places w)) s;
      at_each = λ q. at_set q k w places there;
    }

    -- ---- the methods

    -- the places and their trail after a change of the place at k
    pub step : (S : K → Type 0) (trail old trail_then new : List (K × Option X)) (k again : K) (w v : Option X) → AreSound R S trail old → Changes k w old new
        → AllByRecursion S (keys_of new) → trail_then ≡ trail ++ (again, v) ∷ [] → again ≡ k → v ≡ content k old
        → AreSound R S trail_then new × (kept (led_back R trail_then new) ≡ kept (led_back R trail old))
    step S trail old trail_then new k again w v sound change keys more same was =
        let e : trail_then ≡ trail ++ (k, content k old) ∷ [] = cc in (
          subst (λ t. AreSound R S t new) (sym e) (sound_then S trail old new k (content k old) w sound change keys),
          ap (λ t. kept (led_back R t new)) e ∙ was_then S trail old new k w sound change,
        )

    -- where nothing is at the key, nothing is taken
    pub kept_without : (k : K) (places : List (K × Option X)) → IsOrdered R places → at R k places ≡ None → kept places ≡ without R k (kept places)
    kept_without k places s none =
        same_lists R o exact (kept places) (without R k (kept places)) (ordered_kept places s)
        (ordered_filter R o exact (λ e. not (is_eq (R e.0 k))) (kept places) (ordered_kept places s))
        (λ q. by q (is_eq (R q k)) refl ∙ sym (at_filter R o exact (λ q. not (is_eq (R q k))) q (kept places))) where
          by : (q : K) (b : Bool) → is_eq (R q k) ≡ b → at R q (kept places) ≡ cond (not b) (at R q (kept places)) None
          by q true e = at_kept q places s ∙ ap option_flatten (subst (λ z. at R z places ≡ None) (sym (one_key R o exact q k e)) none)
          by q false e = refl

-- what a walk over the places has shown, after one more that shows this
shown_more : {K X A B : Type 0} (row : A → K × X) (place : B → K × Option X) (rows more : List A) (passed : List B) (next : B)
    → map row rows ≡ kept (map place passed) → map row more ≡ kept (place next ∷ []) → map row (rows ++ more) ≡ kept (map place (passed ++ next ∷ []))
shown_more row place rows more passed next so_far this =
    map-append row rows more
    ∙ (ap (λ z. z ++ map row more) so_far
    ∙ (ap (λ z. kept (map place passed) ++ z) this
    ∙ (sym (filter_map-append filled (map place passed) (place next ∷ [])) ∙ ap kept (sym (map-append place passed (next ∷ []))))))

-- the same where one row was put at the end of a list with room
pub shown_one : {K X A B : Type 0} {this : A} {rows room more : List A} (row : A → K × X) (place : B → K × Option X) (passed : List B) (next : B)
    → more ≡ room ++ this ∷ [] → room ≡ rows → map row rows ≡ kept (map place passed) → row this ∷ [] ≡ kept (place next ∷ []) → map row more ≡ kept (map place (passed ++ next ∷ []))
shown_one {this = this} {rows = rows} row place passed next put same so_far fits =
    ap (map row) (put ∙ ap (λ l. l ++ this ∷ []) same) ∙ shown_more row place rows (this ∷ []) passed next so_far fits

-- and where the place is empty
pub shown_none : {K X A B : Type 0} (row : A → K × X) (place : B → K × Option X) (rows : List A) (passed : List B) (next : B)
    → map row rows ≡ kept (map place passed) → [] ≡ kept (place next ∷ []) → map row rows ≡ kept (map place (passed ++ next ∷ []))
shown_none row place rows passed next so_far fits = sym (ap (map row) (append-nil rows)) ∙ shown_more row place rows [] passed next so_far fits
