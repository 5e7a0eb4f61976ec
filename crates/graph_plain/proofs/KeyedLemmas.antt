-- A record that is changed keeps its first value, the key.
use Rattle.std.proofs.Common.{◌≡◌, ℕ, ℤ, [], ◌∷◌, Bool, true, false, Option, Some, None, sym, refl, ap, ◌∙◌}
use Rattle.std.specs.Prelude.{Result, Ok, Err, nat_lt, length}
use Rattle.a1_base.specs.declared.limits.TheConstants.{RECORD_LIMIT}
use Rattle.type_schema.specs.declared.refusal.Refusal.{Refusal}
use Rattle.type_schema.specs.declared.refusal.Word.TheVariants as word
use Rattle.type_schema.specs.Names.{Name}
use Rattle.type_schema.specs.Layout.{record_bytes}
use Rattle.type_schema.specs.Refusals.{refused, refused_at, unless, unless_at, passing}
use Rattle.type_schema.specs.Schemas.{Schema, Record, Members, too_long, unknown, made_over, added_to, behind, if_short, merged, added, key_of}

short_is : (schema : Schema) (values w : Record) → if_short schema values ≡ Ok w → values ≡ w
unfolding unless unless_at
short_is schema values w e = by (too_long schema values) (nat_lt RECORD_LIMIT (length (record_bytes values))) e where
  by : (long : Option Name) (over : Bool) → unless_at long (refused_at word.Long) (unless over (refused word.RecordLong) (Ok values)) ≡ Ok w → values ≡ w
  by None false e = cc
  by None true e = absurd cc
  by (Some name) over e = absurd cc

first_stays : (schema : Schema) (old w : Record) (more : Option Name) → unless_at more (refused_at word.Unknown) (if_short schema old) ≡ Ok w → key_of w ≡ key_of old
unfolding unless_at
first_stays schema old w None e = sym (ap key_of (short_is schema old w e))
first_stays schema old w (Some name) e = absurd cc

pub merged_keeps : (schema : Schema) (old : Record) (members : Members) (w : Record) → merged schema old members ≡ Ok w → key_of w ≡ key_of old
unfolding merged unless_at passing
merged_keeps [] old members w e = first_stays [] old w (unknown [] members) e
merged_keeps (a ∷ schema) [] members w e = absurd cc
merged_keeps (a ∷ schema) (key ∷ old) members w e = by (unknown schema members) (made_over schema old members) e where
  by : (more : Option Name) (r : Result Record Refusal) → unless_at more (refused_at word.Unknown) (passing (behind key r) (if_short (a ∷ schema))) ≡ Ok w → key_of w ≡ key
  by None (Ok values) e = sym (ap key_of (short_is (a ∷ schema) (key ∷ values) w e))
  by None (Err fault) e = absurd cc
  by (Some name) r e = absurd cc

pub added_keeps : (schema : Schema) (old : Record) (name : Name) (n : ℤ) (w : Record) → added schema old name n ≡ Ok w → key_of w ≡ key_of old
unfolding added
added_keeps [] old name n w e = absurd cc
added_keeps (a ∷ schema) [] name n w e = absurd cc
added_keeps (a ∷ schema) (key ∷ old) name n w e = by (added_to schema old name n) e where
  by : (r : Result Record Refusal) → behind key r ≡ Ok w → key_of w ≡ key
  by (Ok values) e = let same : key ∷ values ≡ w = cc in sym (ap key_of same)
  by (Err fault) e = absurd cc
