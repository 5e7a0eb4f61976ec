-- Names, schemas and records read back.
use Rattle.std.proofs.Common.{◌≡◌, ℕ, zero, suc, ◌<◌, Bool, true, false, List, [], ◌∷◌, ◌++◌, length, refl, arith, nat_le, nat_eq}
use Rattle.std.specs.Prelude.{IsTrue, ⊤}
use Rattle.std.specs.List.{list_all, AllByRecursion}
use Rattle.std.proofs.lemmas.Bool.{false≢true, and_parts, leb-true, le-leb}
use Rattle.a1_base.specs.declared.limits.TheConstants.{RECORD_LIMIT}
use Rattle.a1_base.specs.Fronts.{byte, both, made, tested, counted, sized, Exact}
use Rattle.a1_base.proofs.Exact.{byte_exact, sized_exact, tested_exact, made_exact, both_exact, counted_exact, same_exact}
use Rattle.a1_value.specs.Encoding.{IsStored, value_bytes, stored_front}
use Rattle.a1_value.proofs.ValueLemmas.{value_exact}
use Rattle.type_schema.specs.declared.schema.Attr.{Attr}
use Rattle.type_schema.specs.declared.schema.Kind.{Kind}
use Rattle.type_schema.specs.declared.schema.Kind.TheVariants as kind
use Rattle.type_schema.specs.Names.{Name, is_name}
use Rattle.type_schema.specs.Layout.{name_bytes, kind_code, flag, attr_bytes, schema_bytes, record_bytes}
use Rattle.type_schema.specs.Formed.{is_list, IsRecord}
use Rattle.type_schema.specs.Reading.{name_front, is_kind_code, kind_of, kind_front, flag_front, attr_front, schema_front, is_short, record_front}
use Rattle.type_schema.proofs.SchemaLemmas.{few_attributes, short}

abbrev one_byte : ℕ → List ℕ
one_byte n = n ∷ []

abbrev IsByte : ℕ → Type 0
IsByte n = n < 256

pub name_exact : Exact name_front name_bytes (λ name. IsTrue (is_name name))
unfolding name_front
name_exact = same_exact (tested is_name (sized byte)) name_bytes (λ name. IsByte (length name) × (is_name name ≡ true)) (λ name. IsTrue (is_name name))
    (tested_exact (sized byte) name_bytes (λ name. IsByte (length name)) (sized_exact byte one_byte IsByte byte_exact) is_name)
    (λ name h. h.1) (λ name h. (short name h, h))

-- ---- attributes

kind_back : (code : ℕ) → is_kind_code code ≡ true → kind_code (kind_of code) ≡ code
kind_back zero h = absurd (false≢true h)
kind_back (suc zero) h = refl
kind_back (suc (suc zero)) h = refl
kind_back (suc (suc (suc zero))) h = refl
kind_back (suc (suc (suc (suc n)))) h =
    let few = leb-true (suc (suc (suc (suc n)))) 3 (and_parts (nat_le 1 (suc (suc (suc (suc n))))) (nat_le (suc (suc (suc (suc n)))) 3) h).1 in
    absurd (omega (arith, few))

kind_there : (k : Kind) → kind_of (kind_code k) ≡ k
kind_there kind.Int = refl
kind_there kind.Text = refl
kind_there kind.Bytes = refl

kind_fits : (k : Kind) → IsByte (kind_code k) × (is_kind_code (kind_code k) ≡ true)
kind_fits kind.Int = (omega arith, refl)
kind_fits kind.Text = (omega arith, refl)
kind_fits kind.Bytes = (omega arith, refl)

kind_exact : Exact kind_front (λ k. kind_code k ∷ []) (λ k. ⊤)
unfolding kind_front
kind_exact = same_exact (made kind_of (tested is_kind_code byte)) (λ k. kind_code k ∷ []) (λ k. IsByte (kind_code k) × (is_kind_code (kind_code k) ≡ true)) (λ k. ⊤)
    (made_exact (tested is_kind_code byte) one_byte (λ code. IsByte code × (is_kind_code code ≡ true)) (tested_exact byte one_byte IsByte byte_exact is_kind_code)
    kind_of kind_code (λ code h. kind_back code h.1) (λ k h. kind_there k))
    (λ k h. tt) (λ k h. kind_fits k)

flag_back : (code : ℕ) → nat_le code 1 ≡ true → flag (nat_eq code 1) ≡ code
flag_back zero h = refl
flag_back (suc zero) h = refl
flag_back (suc (suc n)) h = let few = leb-true (suc (suc n)) 1 h in absurd (omega (arith, few))

flag_there : (b : Bool) → nat_eq (flag b) 1 ≡ b
flag_there true = refl
flag_there false = refl

flag_fits : (b : Bool) → IsByte (flag b) × (nat_le (flag b) 1 ≡ true)
flag_fits true = (omega arith, refl)
flag_fits false = (omega arith, refl)

flag_exact : Exact flag_front (λ b. flag b ∷ []) (λ b. ⊤)
unfolding flag_front
flag_exact = same_exact (made (λ code. nat_eq code 1) (tested (λ code. nat_le code 1) byte)) (λ b. flag b ∷ []) (λ b. IsByte (flag b) × (nat_le (flag b) 1 ≡ true)) (λ b. ⊤)
    (made_exact (tested (λ code. nat_le code 1) byte) one_byte (λ code. IsByte code × (nat_le code 1 ≡ true)) (tested_exact byte one_byte IsByte byte_exact (λ code. nat_le code 1))
    (λ code. nat_eq code 1) flag (λ code h. flag_back code h.1) (λ b h. flag_there b))
    (λ b h. tt) (λ b h. flag_fits b)

abbrev Named : Attr → Type 0
Named a = IsTrue (is_name a.name)

abbrev parts : Attr → Name × (Kind × Bool)
parts a = (a.name, (a.kind, a.index))

abbrev of_parts : Name × (Kind × Bool) → Attr
of_parts x = record { name = x.0; kind = x.1.0; index = x.1.1 }

attr_exact : Exact attr_front attr_bytes Named
unfolding attr_front
attr_exact = same_exact (made of_parts (both name_front (both kind_front flag_front))) attr_bytes (λ a. Named a × (⊤ × ⊤)) Named
    (made_exact (both name_front (both kind_front flag_front)) (λ x. name_bytes x.0 ++ kind_code x.1.0 ∷ flag x.1.1 ∷ []) (λ x. IsTrue (is_name x.0) × (⊤ × ⊤))
    (both_exact name_front name_bytes (λ name. IsTrue (is_name name)) name_exact (both kind_front flag_front) (λ x. (kind_code x.0 ∷ []) ++ (flag x.1 ∷ [])) (λ x. ⊤ × ⊤)
    (both_exact kind_front (λ k. kind_code k ∷ []) (λ k. ⊤) kind_exact flag_front (λ b. flag b ∷ []) (λ b. ⊤) flag_exact))
    of_parts parts (λ x h. refl) (λ a h. refl))
    (λ a h. h.0) (λ a h. (h, (tt, tt)))

-- ---- schemas

each_named : (schema : List Attr) → list_all (λ a. is_name a.name) schema ≡ true → AllByRecursion Named schema
each_named [] h = tt
each_named (a ∷ schema) h = let two = and_parts (is_name a.name) _ h in (two.0, each_named schema two.1)

names_of : (schema : List Attr) → IsTrue (is_list schema) → AllByRecursion Named schema
unfolding is_list
names_of schema h = each_named schema (and_parts _ _ (and_parts _ _ h).1).0

pub schema_exact : Exact schema_front schema_bytes (λ schema. IsTrue (is_list schema))
unfolding schema_front
schema_exact = same_exact (tested is_list (counted attr_front)) schema_bytes (λ schema. (AllByRecursion Named schema × IsByte (length schema)) × (is_list schema ≡ true)) (λ schema. IsTrue (is_list schema))
    (tested_exact (counted attr_front) schema_bytes (λ schema. AllByRecursion Named schema × IsByte (length schema)) (counted_exact attr_front attr_bytes Named attr_exact) is_list)
    (λ schema h. h.1) (λ schema h. ((names_of schema h, few_attributes schema h), h))

-- ---- records

pub record_exact : Exact record_front record_bytes IsRecord
unfolding record_front
record_exact = same_exact (tested is_short (counted stored_front)) record_bytes (λ values. (AllByRecursion IsStored values × IsByte (length values)) × (is_short values ≡ true)) IsRecord
    (tested_exact (counted stored_front) record_bytes (λ values. AllByRecursion IsStored values × IsByte (length values)) (counted_exact stored_front value_bytes IsStored value_exact) is_short)
    (λ values h. record { few = h.0.1; each = h.0.0; short = leb-true (length (record_bytes values)) RECORD_LIMIT h.1 })
    (λ values h. ((h.each, h.few), le-leb (length (record_bytes values)) RECORD_LIMIT h.short))

-- what the law of the layouts cites
pub ruleset layouts = (name_exact, schema_exact, record_exact)
