-- For the clauses of the readers of names, schemas and records.
use Rattle.std.specs.Prelude.{ℕ, Bool, ◌&&◌, nat_le, length, ◌==◌, if◌then◌else◌}
use Rattle.a1_base.specs.declared.limits.TheConstants.{RECORD_LIMIT}
use Rattle.a1_base.specs.Fronts.{Front, byte, both, made, tested, counted, sized}
use Rattle.a1_value.specs.Encoding.{stored_front}
use Rattle.type_schema.specs.declared.schema.Attr.{Attr}
use Rattle.type_schema.specs.declared.schema.Kind.{Kind}
use Rattle.type_schema.specs.declared.schema.Kind.TheVariants as kind
use Rattle.type_schema.specs.Names.{Name, is_name}
use Rattle.type_schema.specs.Layout.{record_bytes}
use Rattle.type_schema.specs.Schemas.{Schema, Record}
use Rattle.type_schema.specs.Formed.{is_list}

-- the name in front
unfoldable pub name_front : Front Name
name_front bytes = tested is_name (sized byte) bytes

abbrev pub is_kind_code : ℕ → Bool
is_kind_code code = nat_le 1 code && nat_le code 3

abbrev pub kind_of : ℕ → Kind
kind_of code = if code == 1 then kind.Int else if code == 2 then kind.Text else kind.Bytes

unfoldable pub kind_front : Front Kind
kind_front bytes = made kind_of (tested is_kind_code byte) bytes

unfoldable pub flag_front : Front Bool
flag_front bytes = made (λ code. code == 1) (tested (λ code. nat_le code 1) byte) bytes

-- the attribute in front
unfoldable pub attr_front : Front Attr
attr_front bytes =
    made (λ x. record { name = x.0; kind = x.1.0; index = x.1.1 }) (both name_front (both kind_front flag_front)) bytes

-- the schema in front
unfoldable pub schema_front : Front Schema
schema_front bytes = tested is_list (counted attr_front) bytes

abbrev pub is_short : Record → Bool
is_short values = nat_le (length (record_bytes values)) RECORD_LIMIT

-- the record in front
unfoldable pub record_front : Front Record
record_front bytes = tested is_short (counted stored_front) bytes
