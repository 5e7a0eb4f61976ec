-- What a reply prints.
use Rattle.std.specs.Prelude.{ℕ, List, ◌∷◌, ◌++◌, [], map, decimal, true, Option, Some, None, codes}
use Rattle.hex.specs.Hex.{encode_lower}
use Rattle.serde_json.specs.Data.{unsigned, Data, boolean, number, string, array, object, Items, Members, no_members, member}
use Rattle.serde_json.specs.Find.{of_integer}
use Rattle.serde_json.specs.View.{items_of}
use Rattle.serde_json.specs.Written.{compact_text}
use Rattle.a1_json.specs.Written.{put_all}
use Rattle.a1_base.specs.declared.place.Addr.{Addr}
use Rattle.a1_base.specs.declared.place.TxnId.{TxnId}
use Rattle.a1_value.specs.declared.value.Value.{Value}
use Rattle.a1_value.specs.declared.value.Value.TheVariants.{Int, Text, Bytes}
use Rattle.type_schema.specs.declared.refusal.Word.{Word}
use Rattle.type_schema.specs.declared.refusal.Word.TheVariants as word
use Rattle.type_schema.specs.declared.refusal.Refusal.{Refusal}
use Rattle.a1ql_reader.specs.declared.ask.Row.{Row}
use Rattle.request_reader.specs.declared.request.BadWord.{BadWord}
use Rattle.request_reader.specs.declared.request.BadWord.TheVariants as bad
use Rattle.answer_text.specs.declared.reply.Reply.{Reply}
use Rattle.answer_text.specs.declared.reply.Reply.TheVariants.{Ok, Rows, Count, Refused, Changed, Held, Told, Bad, SpentNode, SpentStamps, Memory}

-- ---- stamps

-- the stamp at which the reply says that it was committed
abbrev pub ok_stamp : Reply → Option ℕ
ok_stamp (Ok stamp) = Some stamp
ok_stamp (Rows at rows) = None
ok_stamp (Count at count) = None
ok_stamp (Refused at refusal) = None
ok_stamp (Changed a seen now) = None
ok_stamp (Held a by) = None
ok_stamp (Told line) = None
ok_stamp (Bad word) = None
ok_stamp SpentNode = None
ok_stamp SpentStamps = None
ok_stamp Memory = None

-- the stamp that the reply prints, as `ok` or as `at`
abbrev pub printed : Reply → Option ℕ
printed (Ok stamp) = Some stamp
printed (Rows at rows) = Some at
printed (Count at count) = Some at
printed (Refused at refusal) = Some at
printed (Changed a seen now) = None
printed (Held a by) = None
printed (Told line) = None
printed (Bad word) = None
printed SpentNode = None
printed SpentStamps = None
printed Memory = None

-- ---- text

abbrev pub word_text : Word → List ℕ
word_text word.System = codes "system"
word_text word.NoTenant = codes "no_tenant"
word_text word.TenantTaken = codes "tenant_taken"
word_text word.NoGraph = codes "no_graph"
word_text word.GraphTaken = codes "graph_taken"
word_text word.GraphsFull = codes "graphs_full"
word_text word.NoType = codes "no_type"
word_text word.TypeTaken = codes "type_taken"
word_text word.Missing = codes "missing"
word_text word.Unknown = codes "unknown"
word_text word.Kind = codes "kind"
word_text word.Long = codes "long"
word_text word.RecordLong = codes "record_long"
word_text word.NoVertex = codes "no_vertex"
word_text word.KeyTaken = codes "key_taken"
word_text word.NoEdge = codes "no_edge"
word_text word.EdgeTaken = codes "edge_taken"
word_text word.NoAttr = codes "no_attr"
word_text word.Overflow = codes "overflow"
word_text word.Large = codes "large"
word_text word.Deep = codes "deep"
word_text word.WorkingSet = codes "working_set"

abbrev pub bad_text : BadWord → List ℕ
bad_text bad.NotJson = codes "not_json"
bad_text bad.NotWhole = codes "not_whole"
bad_text bad.Shape = codes "shape"
bad_text bad.Name = codes "name"
bad_text bad.Attrs = codes "attrs"

-- a value as JSON: bytes are a text of lower-case hexadecimal digits
abbrev pub value_data : Value → Data
value_data (Int n) = number (of_integer n)
value_data (Text text) = string text
value_data (Bytes bytes) = string (encode_lower bytes)

abbrev pub row_members : List (List ℕ × Value) → Members
row_members members = put_all no_members (map (λ m. (m.0, value_data m.1)) members)

abbrev pub row_data : Row → Data
row_data row = object (row_members row.members)

abbrev pub rows_data : List Row → Items
rows_data rows = items_of (map row_data rows)

-- rows at a stamp as JSON
abbrev pub answer_data : ℕ → List Row → Data
answer_data at rows =
    object (member (codes "at") (number (unsigned at)) (member (codes "rows") (array (rows_data rows)) no_members))

-- an attribute, where the refusal has one, in front of these members
abbrev pub with_attr : Option (List ℕ) → Members → Members
with_attr None members = members
with_attr (Some attr) members = member (codes "attr") (string attr) members

-- a refusal at a stamp as JSON
abbrev pub refused_data : ℕ → Refusal → Data
refused_data at refusal =
    object (member (codes "at") (number (unsigned at))
    (with_attr refusal.attr (member (codes "refused") (string (word_text refusal.word)) no_members)))

-- an object by its region and its offset
abbrev pub object_text : Addr → List ℕ
object_text a = decimal a.region ++ 58 ∷ decimal a.offset

-- a changed object as JSON
abbrev pub changed_data : Addr → ℕ → ℕ → Data
changed_data a seen now =
    object (member (codes "conflict") (string (codes "changed"))
    (member (codes "now") (number (unsigned now))
    (member (codes "object") (string (object_text a))
    (member (codes "seen") (number (unsigned seen)) no_members))))

-- a held object as JSON
abbrev pub held_data : Addr → TxnId → Data
held_data a by =
    object (member (codes "by") (array (items_of (number (unsigned by.actor) ∷ number (unsigned by.number) ∷ [])))
    (member (codes "conflict") (string (codes "held"))
    (member (codes "object") (string (object_text a)) no_members)))

-- a reply as JSON
abbrev pub reply_data : Reply → Data
reply_data (Ok stamp) = object (member (codes "ok") (number (unsigned stamp)) no_members)
reply_data (Rows at rows) = answer_data at rows
reply_data (Count at count) =
    object (member (codes "at") (number (unsigned at)) (member (codes "count") (number (unsigned count)) no_members))
reply_data (Refused at refusal) = refused_data at refusal
reply_data (Changed a seen now) = changed_data a seen now
reply_data (Held a by) = held_data a by
reply_data (Told line) = object (member (codes "told") (number (unsigned line)) no_members)
reply_data (Bad word) = object (member (codes "bad") (string (bad_text word)) no_members)
reply_data SpentNode = object (member (codes "spent") (string (codes "node")) no_members)
reply_data SpentStamps = object (member (codes "spent") (string (codes "stamps")) no_members)
reply_data Memory = object (member (codes "memory") (boolean true) no_members)

-- its compact text
unfoldable pub reply_text : Reply → List ℕ
reply_text reply = compact_text (reply_data reply)
