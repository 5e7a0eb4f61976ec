-- Schemas and records: what fits, the record that a put makes, and the record that a set leaves.
use Rattle.std.specs.Prelude.{ℕ, ℤ, pos, negsuc, ◌+ℤ◌, int_le, List, [], ◌∷◌, length, Bool, true, false, not, ◌&&◌, ◌||◌, nat_le, nat_lt, if◌then◌else◌, Option, Some, None, is_some, is_none, option_map, option_and_then, Result, Ok, Err, codes, bytes_eq}
use Rattle.std.specs.List.{list_any}
use Rattle.std.specs.Result.{result_ok}
use Rattle.hex.specs.Hex.{decode_of}
use Rattle.a1_base.specs.declared.limits.TheConstants.{KEY_LIMIT, TEXT_LIMIT, RECORD_LIMIT}
use Rattle.a1_value.specs.declared.given.Given.{Given}
use Rattle.a1_value.specs.declared.given.Given.TheVariants as given
use Rattle.a1_value.specs.declared.value.Value.{Value}
use Rattle.a1_value.specs.declared.value.Value.TheVariants as value
use Rattle.a1_value.specs.Encoding.{value_size}
use Rattle.type_schema.specs.declared.schema.Attr.{Attr}
use Rattle.type_schema.specs.declared.schema.Kind.{Kind}
use Rattle.type_schema.specs.declared.schema.Kind.TheVariants as kind
use Rattle.type_schema.specs.declared.refusal.Refusal.{Refusal}
use Rattle.type_schema.specs.declared.refusal.Word.TheVariants as word
use Rattle.type_schema.specs.Names.{Name}
use Rattle.type_schema.specs.Refusals.{refused, refused_at, unless, unless_at, need, passing}
use Rattle.type_schema.specs.Layout.{record_bytes}

-- the attributes of a type, in their order
abbrev pub Schema : Type 0
Schema = List Attr

-- the values of a vertex or an edge, in the order of its type's attributes
abbrev pub Record : Type 0
Record = List Value

-- the members of a request's object, by the bytes of their names
abbrev pub Members : Type 0
Members = List (Name × Given)

-- ---- what fits

-- the value is of this kind
abbrev pub is_of : Kind → Value → Bool
is_of kind.Int (value.Int n) = true
is_of kind.Int (value.Text t) = false
is_of kind.Int (value.Bytes b) = false
is_of kind.Text (value.Int n) = false
is_of kind.Text (value.Text t) = true
is_of kind.Text (value.Bytes b) = false
is_of kind.Bytes (value.Int n) = false
is_of kind.Bytes (value.Text t) = false
is_of kind.Bytes (value.Bytes b) = true

abbrev pub id : Name
id = codes "id"

-- the most bytes of an attribute's value: 256 where it is `id` or indexed, else 4,096
abbrev pub most : Attr → ℕ
most attr = if bytes_eq attr.name id || attr.index then KEY_LIMIT else TEXT_LIMIT

-- each value is of its attribute's kind
abbrev pub are_of : Schema → Record → Bool
are_of [] [] = true
are_of [] (v ∷ values) = false
are_of (a ∷ schema) [] = false
are_of (a ∷ schema) (v ∷ values) = is_of a.kind v && are_of schema values

-- the first attribute whose value is too long
abbrev pub too_long : Schema → Record → Option Name
too_long [] values = None
too_long (a ∷ schema) [] = None
too_long (a ∷ schema) (v ∷ values) = if nat_lt (most a) (value_size v) then Some a.name else too_long schema values

-- a record of this schema
unfoldable pub fits : Schema → Record → Bool
fits schema values =
    are_of schema values && (is_none (too_long schema values) && nat_le (length (record_bytes values)) RECORD_LIMIT)

-- ---- the record that a request's members make

-- an int fits a number, a text fits a text, and bytes fit a text of an even number of hexadecimal digits of either case
abbrev pub value_in : Kind → Given → Option Value
value_in kind.Int (given.Int n) = Some (value.Int n)
value_in kind.Int (given.Text t) = None
value_in kind.Text (given.Int n) = None
value_in kind.Text (given.Text t) = Some (value.Text t)
value_in kind.Bytes (given.Int n) = None
value_in kind.Bytes (given.Text t) = option_map value.Bytes (result_ok (decode_of t))

-- what the member of this name gives
abbrev pub member : Name → Members → Option Given
member name [] = None
member name (m ∷ members) = if bytes_eq m.0 name then Some m.1 else member name members

abbrev pub is_attr : Schema → Name → Bool
is_attr schema name = list_any (λ a. bytes_eq a.name name) schema

-- the first attribute that the members lack
abbrev pub missing : Schema → Members → Option Name
missing [] members = None
missing (a ∷ schema) members = if is_some (member a.name members) then missing schema members else Some a.name

-- the first member that the schema lacks
abbrev pub unknown : Schema → Members → Option Name
unknown schema [] = None
unknown schema (m ∷ members) = if is_attr schema m.0 then unknown schema members else Some m.0

abbrev pub behind : Value → Result Record Refusal → Result Record Refusal
behind v (Ok values) = Ok (v ∷ values)
behind v (Err fault) = Err fault

-- the members' values, or the first attribute whose value does not fit
abbrev pub made : Schema → Members → Result Record Refusal
made [] members = Ok []
made (a ∷ schema) members =
    need (option_and_then (value_in a.kind) (member a.name members)) (refused_at word.Kind a.name)
    (λ v. behind v (made schema members))

-- the old value, or what is given in its place
abbrev pub value_over : Kind → Value → Option Given → Option Value
value_over kind old None = Some old
value_over kind old (Some given) = value_in kind given

-- the old values, with those of the members in their place
abbrev pub made_over : Schema → Record → Members → Result Record Refusal
made_over (a ∷ schema) (v ∷ values) members =
    need (value_over a.kind v (member a.name members)) (refused_at word.Kind a.name)
    (λ w. behind w (made_over schema values members))
made_over [] values members = Ok values
made_over (a ∷ schema) [] members = Ok []

-- the values, where none is too long and they are not too long together
abbrev pub if_short : Schema → Record → Result Record Refusal
if_short schema values =
    unless_at (too_long schema values) (refused_at word.Long)
    (unless (nat_lt RECORD_LIMIT (length (record_bytes values))) (refused word.RecordLong) (Ok values))

-- the record of a put or a link, or the first fault
unfoldable pub checked : Schema → Members → Result Record Refusal
checked schema members =
    unless_at (missing schema members) (refused_at word.Missing)
    (unless_at (unknown schema members) (refused_at word.Unknown) (passing (made schema members) (if_short schema)))

-- the record of a set, or the first fault: the first attribute is the key, which stays and is none of those to be set
unfoldable pub merged : Schema → Record → Members → Result Record Refusal
merged (a ∷ schema) (key ∷ old) members =
    unless_at (unknown schema members) (refused_at word.Unknown)
    (passing (behind key (made_over schema old members)) (if_short (a ∷ schema)))
merged [] old members = unless_at (unknown [] members) (refused_at word.Unknown) (if_short [] old)
merged (a ∷ schema) [] members = Err (refused_at word.Missing a.name)

-- the first value
abbrev pub key_of : Record → Value
key_of [] = value.Int (pos 0)
key_of (v ∷ values) = v

abbrev pub kind_of_key : Schema → Kind
kind_of_key [] = kind.Int
kind_of_key (a ∷ schema) = a.kind

-- the key that a request names: a value of the first attribute's kind, of at most 256 bytes
unfoldable pub key_in : Schema → Given → Result Value Refusal
key_in schema given =
    need (value_in (kind_of_key schema) given) (refused_at word.Kind id)
    (λ v. unless (nat_lt KEY_LIMIT (value_size v)) (refused_at word.Long id) (Ok v))

-- ---- the record that an add leaves

-- a number of 64 bits with its sign
abbrev pub is_i64 : ℤ → Bool
is_i64 n = int_le (negsuc 9223372036854775807) n && int_le n (pos 9223372036854775807)

abbrev pub sum_in : Attr → Value → ℤ → Result ℤ Refusal
sum_in a (value.Int n) by = unless (not (is_i64 (n +ℤ by))) (refused word.Overflow) (Ok (n +ℤ by))
sum_in a (value.Text text) by = Err (refused_at word.Kind a.name)
sum_in a (value.Bytes bytes) by = Err (refused_at word.Kind a.name)

-- the values, with a number added to that of one attribute
abbrev pub added_to : Schema → Record → Name → ℤ → Result Record Refusal
added_to [] values name by = Err (refused word.NoAttr)
added_to (a ∷ schema) [] name by = Err (refused word.NoAttr)
added_to (a ∷ schema) (v ∷ values) name by =
    if bytes_eq a.name name
    then passing (sum_in a v by) (λ n. Ok (value.Int n ∷ values))
    else behind v (added_to schema values name by)

-- the record of an add, or its refusal: the key is no attribute to add to
unfoldable pub added : Schema → Record → Name → ℤ → Result Record Refusal
added (a ∷ schema) (key ∷ old) name by = behind key (added_to schema old name by)
added [] old name by = Err (refused word.NoAttr)
added (a ∷ schema) [] name by = Err (refused word.NoAttr)
