-- What the entries of a set say of its writes.
use Rattle.std.proofs.Common.{◌≡◌, ℕ, zero, suc, ◌<◌, ◌^◌, false, List, [], ◌∷◌, ◌++◌, Option, Some, None, Result, Ok, Err, OnOk, OnErr, is_some, IfSome, IfNone, nat_eq, slice_get, slice_set, refl, sym, ap, subst, ◌∙◌, true≢false, inl, inr}
use Rattle.std.specs.Option.{option_map}
use Rattle.std.specs.Map.{values_of, lookup}
use Rattle.std.proofs.lemmas.Bool.{eqb-true, eqb-false}
use Rattle.std.proofs.lemmas.List.{map-append}
use Rattle.std.proofs.lemmas.Map.{none_passes_from_lookup}
use Rattle.std.proofs.lemmas.Map.Entries.{place_from_lookup}
use Rattle.std.proofs.lemmas.Nat.{div-mul-add, mod-mul-add}
use Rattle.std.proofs.lemmas.Option.{none-some, same_Some, slice_get-map}
use Rattle.a1_base.specs.declared.place.Addr.{Addr}
use Rattle.indexmap.proofs.CallerLemmas.{insert_entry-new}
use Rattle.indexmap.specs.IndexMap.{IndexMap, insert_entry, set_value_at}
use Rattle.object_view.specs.Layout.{addr_of, word_of}
use Rattle.write_set.proofs.Lists.{all_at, at_pushed, lacks_all, lacks_at}
use Rattle.write_set.specs.Keys.{IsKeyed}
use Rattle.write_set.specs.Writes.{writes, AreApart, Lacks, StandsAt}
use Rattle.write_set.specs.declared.set.Write.{Write}
use Rattle.write_set.specs.declared.set.WriteSet.{WriteSet}

abbrev Entries : Type 0
Entries = List (ℕ × Write)

addr_back : (a : Addr) → a.offset < 2 ^ 32 → addr_of (word_of a) ≡ a
addr_back a h = rw (div-mul-add a.region (2 ^ 32) a.offset h, mod-mul-add a.region (2 ^ 32) a.offset h) refl

-- addresses with one word are one
pub same_at : (a b : Addr) → a.offset < 2 ^ 32 → b.offset < 2 ^ 32 → word_of a ≡ word_of b → a ≡ b
same_at a b p q e = sym (addr_back a p) ∙ ap addr_of e ∙ addr_back b q

value_at : (es : Entries) (i : ℕ) (e : ℕ × Write) → slice_get es i ≡ Some e → slice_get (values_of es) i ≡ Some e.1
value_at es i e h = slice_get-map (λ (p : ℕ × Write). p.1) es i ∙ ap (option_map (λ (p : ℕ × Write). p.1)) h

some_entry : (es : Entries) (i : ℕ) (w : Write) → slice_get (values_of es) i ≡ Some w → (k : ℕ) × (slice_get es i ≡ Some (k, w))
some_entry [] i w h = absurd (none-some w h)
some_entry (e ∷ es) zero w h = (e.0, ap (λ (v : Write). Some (e.0, v)) (same_Some e.1 w h))
some_entry (e ∷ es) (suc i) w h = some_entry es i w h

-- a write in another's place
pub values_set : (es : Entries) (i : ℕ) (w : Write) → values_of (set_value_at es i w) ≡ slice_set (values_of es) i w
values_set [] i w = refl
values_set (e ∷ es) zero w = refl
values_set (e ∷ es) (suc i) w = ap (λ (ws : List Write). e.1 ∷ ws) (values_set es i w)

-- the entry that stood there before, with the same key and address
record Like (es : Entries) (j : ℕ) (f : ℕ × Write) : Type 0 where
  entry : ℕ × Write
  stands : slice_get es j ≡ Some entry
  word : f.0 ≡ entry.0
  at : f.1.at ≡ entry.1.at

like : (es : Entries) (i j : ℕ) (v w : Write) (f : ℕ × Write) → slice_get (values_of es) i ≡ Some w → v.at ≡ w.at
    → slice_get (set_value_at es i v) j ≡ Some f → Like es j f
like [] i j v w f h same p = absurd (none-some f p)
like (e ∷ es) zero zero v w f h same p =
    let is : (e.0, v) ≡ f = same_Some (e.0, v) f p in
    record {
      entry = e;
      stands = refl;
      word = ap (λ (x : ℕ × Write). x.0) (sym is);
      at = ap (λ (x : ℕ × Write). x.1.at) (sym is) ∙ same ∙ ap (λ (x : Write). x.at) (sym (same_Some e.1 w h));
    }
like (e ∷ es) zero (suc j) v w f h same p = record { entry = f; stands = p; word = refl; at = refl }
like (e ∷ es) (suc i) zero v w f h same p = record { entry = f; stands = p; word = refl; at = refl }
like (e ∷ es) (suc i) (suc j) v w f h same p =
    let l = like es i j v w f h same p in
    record { entry = l.entry; stands = l.stands; word = l.word; at = l.at }

module _ (es : Entries) (keyed : IsKeyed es) where
  entry_at : (i : ℕ) (w : Write) → slice_get (values_of es) i ≡ Some w → slice_get es i ≡ Some (word_of w.at, w)
  entry_at i w h =
      let e : (k : ℕ) × (slice_get es i ≡ Some (k, w)) = some_entry es i w h in
      e.1 ∙ ap (λ (k : ℕ). Some (k, w)) (keyed.word i (e.0, w) e.1)

  pub apart : AreApart (values_of es)
  apart i j v w p q e = keyed.once i j (word_of v.at, v) (word_of w.at, w) (entry_at i v p) (entry_at j w q) (ap word_of e)

  -- the key k of an address
  module _ (a : Addr) (k : ℕ) (is : k ≡ word_of a) (small : a.offset < 2 ^ 32) where
    at_word : (i : ℕ) (e : ℕ × Write) → slice_get es i ≡ Some e → e.0 ≡ k → e.1.at ≡ a
    at_word i e h same = same_at e.1.at a (keyed.small i e h) small (sym (keyed.word i e h) ∙ same ∙ is)

    looked_up : (v : Write) → lookup (nat_eq k) es ≡ Some v → (i : ℕ) × (slice_get (values_of es) i ≡ Some v) × (v.at ≡ a)
    looked_up v h =
        let p = place_from_lookup (nat_eq k) es v h in
        (p.0, value_at es p.0 (p.1, v) p.2, at_word p.0 (p.1, v) p.2 (sym (eqb-true k p.1 p.3)))

    not_looked_up : lookup (nat_eq k) es ≡ None → Lacks (values_of es) a
    not_looked_up none = lacks_all (values_of es) a (λ i w h same.
        eqb-false k (word_of w.at)
        (all_at (λ (e : ℕ × Write). nat_eq k e.0 ≡ false) es i (word_of w.at, w)
        (none_passes_from_lookup (nat_eq k) es none) (entry_at i w h))
        (is ∙ ap word_of (sym same)))

    -- a lacking address is not looked up
    pub none_there : Lacks (values_of es) a → lookup (nat_eq k) es ≡ None
    none_there lacks = by (lookup (nat_eq k) es) refl
      where
        by : (r : Option Write) → lookup (nat_eq k) es ≡ r → r ≡ None
        by None e = refl
        by (Some v) e = let s = looked_up v e in absurd (lacks_at (values_of es) a s.0 v lacks s.1 s.2)

    module _ (r : Option ℕ) (found : is_some r ≡ is_some (lookup (nat_eq k) es)) where
      -- the index of a key is the place of the write
      pub index_stands : IfSome r (λ i. slice_get (values_of es) i ≡ lookup (nat_eq k) es)
          → IfSome r (λ i. StandsAt (values_of es) i a)
      index_stands = by r (lookup (nat_eq k) es) found refl
        where
          by : (o : Option ℕ) (l : Option Write) → is_some o ≡ is_some l → lookup (nat_eq k) es ≡ l
              → IfSome o (λ i. slice_get (values_of es) i ≡ l) → IfSome o (λ i. StandsAt (values_of es) i a)
          by None l f e v = tt
          by (Some i) None f e v = absurd (true≢false f)
          by (Some i) (Some w) f e v = (w, v, (looked_up w e).2)

      -- a key without an index is that of a lacking address
      pub index_lacks : IfNone r (Lacks (values_of es) a)
      index_lacks = by r (lookup (nat_eq k) es) found refl
        where
          by : (o : Option ℕ) (l : Option Write) → is_some o ≡ is_some l → lookup (nat_eq k) es ≡ l
              → IfNone o (Lacks (values_of es) a)
          by None None f e = not_looked_up e
          by None (Some w) f e = absurd (true≢false (sym f))
          by (Some i) l f e = tt

  -- an entry more, of an address that is lacking
  module _ (w : Write) (k : ℕ) (is : k ≡ word_of w.at) (small : w.at.offset < 2 ^ 32) (lacks : Lacks (values_of es) w.at) where
    new_key : (i : ℕ) (e : ℕ × Write) → slice_get es i ≡ Some e → e.0 ≡ k → ⊥
    new_key i e h same = lacks_at (values_of es) w.at i e.1 lacks (value_at es i e h) (at_word w.at k is small i e h same)

    pub keyed_pushed : IsKeyed (es ++ (k, w) ∷ [])
    keyed_pushed = record { word = word; once = once; small = fits } where
      word : (i : ℕ) (e : ℕ × Write) → slice_get (es ++ (k, w) ∷ []) i ≡ Some e → e.0 ≡ word_of e.1.at
      word i e h = elim (at_pushed es (k, w) i e h) [
        | inl old ↦ keyed.word i e old
        | inr new ↦ subst (λ (p : ℕ × Write). p.0 ≡ word_of p.1.at) (sym new.1) is
      ]

      fits : (i : ℕ) (e : ℕ × Write) → slice_get (es ++ (k, w) ∷ []) i ≡ Some e → e.1.at.offset < 2 ^ 32
      fits i e h = elim (at_pushed es (k, w) i e h) [
        | inl old ↦ keyed.small i e old
        | inr new ↦ subst (λ (p : ℕ × Write). p.1.at.offset < 2 ^ 32) (sym new.1) small
      ]

      once : (i j : ℕ) (e f : ℕ × Write) → slice_get (es ++ (k, w) ∷ []) i ≡ Some e
          → slice_get (es ++ (k, w) ∷ []) j ≡ Some f → e.0 ≡ f.0 → i ≡ j
      once i j e f p q same = elim (at_pushed es (k, w) i e p) [
        | inl old ↦ elim (at_pushed es (k, w) j f q) [
          | inl older ↦ keyed.once i j e f old older same
          | inr new ↦ absurd (new_key i e old (same ∙ ap (λ (p : ℕ × Write). p.0) new.1))
        ]
        | inr new ↦ elim (at_pushed es (k, w) j f q) [
          | inl old ↦ absurd (new_key j f old (sym same ∙ ap (λ (p : ℕ × Write). p.0) new.1))
          | inr newer ↦ new.0 ∙ sym newer.0
        ]
      ]

  -- another write of the same address in place of one
  module _ (i : ℕ) (v w : Write) (stands : slice_get (values_of es) i ≡ Some w) (same : v.at ≡ w.at) where
    pub keyed_set : IsKeyed (set_value_at es i v)
    keyed_set =
        let was = λ (j : ℕ) (f : ℕ × Write) (h : slice_get (set_value_at es i v) j ≡ Some f). like es i j v w f stands same h in
        record {
          word = λ j f h. (was j f h).word ∙ keyed.word j (was j f h).entry (was j f h).stands ∙ ap word_of (sym (was j f h).at);
          once = λ m n e f p q one.
              keyed.once m n (was m e p).entry (was n f q).entry (was m e p).stands (was n f q).stands
              (sym (was m e p).word ∙ one ∙ (was n f q).word);
          small = λ j f h. subst (λ (a : Addr). a.offset < 2 ^ 32) (sym (was j f h).at)
              (keyed.small j (was j f h).entry (was j f h).stands);
        }

-- a write more in a map, of an address that is lacking
module _ {S : Type 0} (m : IndexMap ℕ Write S) (keyed : IsKeyed m.entries) (w : Write) (k : ℕ) (is : k ≡ word_of w.at)
    (small : w.at.offset < 2 ^ 32) (lacks : Lacks (values_of m.entries) w.at) where
  inserted : insert_entry nat_eq m.entries k w ≡ m.entries ++ (k, w) ∷ []
  inserted = insert_entry-new nat_eq m k w (none_there m.entries keyed w.at k is small lacks)

  pub keyed_inserted : {A E : Type 0} (r : Result A E) (es : Entries) → OnOk r (es ≡ insert_entry nat_eq m.entries k w)
      → OnErr r (es ≡ m.entries) → IsKeyed es
  keyed_inserted (Ok x) es ok err =
      subst IsKeyed (sym (ok ∙ inserted)) (keyed_pushed m.entries keyed w k is small lacks)
  keyed_inserted (Err x) es ok err = subst IsKeyed (sym err) keyed

  pub writes_inserted : (es : Entries) → es ≡ insert_entry nat_eq m.entries k w → values_of es ≡ values_of m.entries ++ w ∷ []
  writes_inserted es ok = ap values_of (ok ∙ inserted) ∙ map-append (λ (e : ℕ × Write). e.1) m.entries ((k, w) ∷ [])

-- no two writes of a set have one address
pub writes_apart : (s : WriteSet) → AreApart (writes s)
writes_apart s = apart s.map.entries s.keyed
