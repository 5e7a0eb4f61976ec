-- A record made value by value, up to the one that a number is added to, and what fits where it is added.
use Rattle.std.proofs.Common.{◌≡◌, ℕ, ℤ, ◌+◌, ◌≤◌, ◌<◌, nat_lt, [], ◌∷◌, ◌++◌, length, get_or, drop, Bool, true, false, Some, Result, Ok, Err, refl, sym, ap, ◌∙◌, subst, append_assoc, length-append}
use Rattle.std.specs.Prelude.{◌&&◌, if◌then◌else◌, bytes_eq, IfOk, IsTrue}
use Rattle.std.specs.List.{flat_map}
use Rattle.std.proofs.lemmas.List.{drop_all}
use Rattle.a1_value.specs.declared.value.Value.{Value}
use Rattle.a1_value.specs.declared.value.Value.TheVariants as value
use Rattle.a1_value.specs.Encoding.{value_size, value_bytes}
use Rattle.type_schema.specs.declared.schema.Attr.{Attr}
use Rattle.type_schema.specs.declared.schema.Kind.{Kind}
use Rattle.type_schema.specs.declared.schema.Kind.TheVariants as kind
use Rattle.type_schema.specs.declared.refusal.Refusal.{Refusal}
use Rattle.type_schema.specs.declared.refusal.Word.TheVariants as word
use Rattle.type_schema.specs.declared.refusal.GraphFault.{GraphFault}
use Rattle.type_schema.specs.Refusals.{refused, passing, Gives}
use Rattle.type_schema.specs.Names.{Name}
use Rattle.type_schema.specs.Schemas.{Schema, Record, is_of, are_of, most, too_long, behind, fits, sum_in, added_to, added}
use Rattle.type_schema.proofs.CheckLemmas.{drop_here, with_front, regroup, fault_of, passing_back, behind_back}

-- ---- value by value

module _ (front after : Record) where
  met_by : (s : Result ℤ Refusal) (w : Value) (total : Result Record Refusal) → passing s (λ n. Ok (value.Int n)) ≡ Ok w → with_front front (passing s (λ n. Ok (value.Int n ∷ after))) ≡ total → total ≡ Ok (front ++ w ∷ [] ++ after)
  unfolding passing
  met_by (Ok n) w total e met = let is : value.Int n ≡ w = cc in sym met ∙ ap (λ x. Ok (front ++ x ∷ after)) is ∙ ap Ok (sym (append_assoc front (w ∷ []) after))
  met_by (Err r) w total e met = absurd cc

  fails_by : (s : Result ℤ Refusal) (r : Refusal) (total : Result Record Refusal) → passing {Y = Value} s (λ n. Ok (value.Int n)) ≡ Err r → with_front front (passing s (λ n. Ok (value.Int n ∷ after))) ≡ total → total ≡ Err r
  unfolding passing
  fails_by (Ok n) r total e met = absurd cc
  fails_by (Err f) r total e met = let is : f ≡ r = cc in sym met ∙ ap Err is

module _ (schema : Schema) (old : Record) (name : Name) (by : ℤ) (front : Record) (i : ℕ) (total : Result Record Refusal) (so_far : with_front front (added_to (drop i schema) old name by) ≡ total) where
  module _ (a : Attr) (v : Value) (after : Record) (lt : i < length schema) (here : a ≡ get_or schema i a) (is : old ≡ v ∷ after) where
    opened : with_front front (added_to (a ∷ drop (i + 1) schema) (v ∷ after) name by) ≡ total
    opened = subst (λ z. with_front front (added_to (a ∷ drop (i + 1) schema) z name by) ≡ total) is (subst (λ z. with_front front (added_to z old name by) ≡ total) (drop_here schema i a lt here) so_far)

    pub add_more : bytes_eq a.name name ≡ false → with_front (front ++ v ∷ []) (added_to (drop (i + 1) schema) after name by) ≡ total
    add_more other = regroup front v (added_to (drop (i + 1) schema) after name by) ∙ (rw other at opened)

    met : bytes_eq a.name name ≡ true → with_front front (passing (sum_in a v by) (λ n. Ok (value.Int n ∷ after))) ≡ total
    met same = rw same at opened

    pub add_here : (w : Value) → bytes_eq a.name name ≡ true → passing (sum_in a v by) (λ n. Ok (value.Int n)) ≡ Ok w → total ≡ Ok (front ++ w ∷ [] ++ after)
    add_here w same e = met_by front after (sum_in a v by) w total e (met same)

    pub add_fails : (f : GraphFault) → bytes_eq a.name name ≡ true → Gives {X = Value} (Err f) (passing (sum_in a v by) (λ n. Ok (value.Int n))) → Gives {X = Record} (Err f) total
    add_fails f same h = fault_of f _ total (λ r e. fails_by front after (sum_in a v by) r total e (met same)) h

  pub add_short : i < length schema → old ≡ [] → total ≡ Err (refused word.NoAttr)
  add_short lt is = none (drop i schema) (subst (λ z. with_front front (added_to (drop i schema) z name by) ≡ total) is so_far) where
    none : (rest : Schema) → with_front front (added_to rest [] name by) ≡ total → total ≡ Err (refused word.NoAttr)
    none [] s = sym s
    none (a ∷ rest) s = sym s

  pub add_nowhere : length schema ≤ i → total ≡ Err (refused word.NoAttr)
  add_nowhere le = sym so_far ∙ ap (λ z. with_front front (added_to z old name by)) (drop_all i schema le)

pub ruleset adding = (add_more, add_short, add_nowhere)

-- ---- a sum takes as much room as the number did

record Alike (schema : Schema) (values old : Record) : Type 0 where
  of : are_of schema values ≡ are_of schema old
  long : too_long schema values ≡ too_long schema old
  size : length (flat_map value_bytes values) ≡ length (flat_map value_bytes old)

length_more : (v : Value) (rest : Record) → length (flat_map value_bytes (v ∷ rest)) ≡ length (value_bytes v) + length (flat_map value_bytes rest)
length_more v rest = length-append (value_bytes v) (flat_map value_bytes rest)

alike_sum : (a : Attr) (schema : Schema) (v : Value) (old : Record) (by n : ℤ) → sum_in a v by ≡ Ok n → Alike (a ∷ schema) (value.Int n ∷ old) (v ∷ old)
alike_sum a schema (value.Int m) old by n e = record {
  of = ap (λ z. z && are_of schema old) (kind_alone a.kind m n);
  long = refl;
  size = length_more (value.Int n) old ∙ sym (length_more (value.Int m) old);
} where
  kind_alone : (k : Kind) (m n : ℤ) → is_of k (value.Int n) ≡ is_of k (value.Int m)
  kind_alone kind.Int m n = refl
  kind_alone kind.Text m n = refl
  kind_alone kind.Bytes m n = refl
alike_sum a schema (value.Text t) old by n e = absurd cc
alike_sum a schema (value.Bytes b) old by n e = absurd cc

alike_more : (a : Attr) (schema : Schema) (v : Value) (rest old : Record) → Alike schema rest old → Alike (a ∷ schema) (v ∷ rest) (v ∷ old)
alike_more a schema v rest old h = record {
  of = ap (λ z. is_of a.kind v && z) h.of;
  long = ap (λ z. if nat_lt (most a) (value_size v) then Some a.name else z) h.long;
  size = length_more v rest ∙ ap (λ n. length (value_bytes v) + n) h.size ∙ sym (length_more v old);
}

alike : (schema : Schema) (old : Record) (name : Name) (by : ℤ) (values : Record) → added_to schema old name by ≡ Ok values → Alike schema values old
alike [] old name by values e = absurd cc
alike (a ∷ schema) [] name by values e = absurd cc
alike (a ∷ schema) (v ∷ old) name by values e = at (bytes_eq a.name name) (alike schema old name by) e where
  at : (t : Bool) → ((rest : Record) → added_to schema old name by ≡ Ok rest → Alike schema rest old)
      → (if t then passing (sum_in a v by) (λ n. Ok (value.Int n ∷ old)) else behind v (added_to schema old name by)) ≡ Ok values → Alike (a ∷ schema) values (v ∷ old)
  at true more e =
      let p = passing_back (sum_in a v by) (λ n. Ok (value.Int n ∷ old)) values e in
      let is : value.Int p.0 ∷ old ≡ values = cc in
      subst (λ z. Alike (a ∷ schema) z (v ∷ old)) is (alike_sum a schema v old by p.0 p.1)
  at false more e =
      let p = behind_back v (added_to schema old name by) values e in
      subst (λ z. Alike (a ∷ schema) z (v ∷ old)) (sym p.2) (alike_more a schema v p.0 old (more p.0 p.1))

fits_alike : (schema : Schema) (values old : Record) → Alike schema values old → fits schema values ≡ fits schema old
unfolding fits
fits_alike schema values old h = rw (h.of, h.long, h.size) refl

add_of : (schema : Schema) (old : Record) (name : Name) (by : ℤ) (values : Record) → fits schema old ≡ true → added schema old name by ≡ Ok values → fits schema values ≡ true
unfolding added
add_of [] old name by values was e = absurd cc
add_of (a ∷ schema) [] name by values was e = absurd cc
add_of (a ∷ schema) (key ∷ old) name by values was e =
    let p = behind_back key (added_to schema old name by) values e in
    let same = fits_alike (a ∷ schema) (key ∷ p.0) (key ∷ old) (alike_more a schema key p.0 old (alike schema old name by p.0 p.1)) in
    subst (λ z. fits (a ∷ schema) z ≡ true) (sym p.2) (same ∙ was)

pub add_fits : (schema : Schema) (old : Record) (name : Name) (by : ℤ) (result : Result Record GraphFault) → IsTrue (fits schema old) → Gives result (added schema old name by) → IfOk result (λ values. IsTrue (fits schema values))
add_fits schema old name by (Ok values) was h = add_of schema old name by values was h
add_fits schema old name by (Err f) was h = tt
