-- That a reply as JSON has no float.
use Rattle.std.proofs.Common.{◌≡◌, ℕ, List, [], ◌∷◌, map, false, Option, None, Some, refl, ℤ, pos, negsuc}
use Rattle.serde_json.specs.Data.{Members, no_members, put}
use Rattle.serde_json.specs.View.{items_of}
use Rattle.serde_json.specs.Written.{has_float, items_have_float, members_have_float}
use Rattle.a1_json.specs.Written.{put_all}
use Rattle.a1_json.proofs.WholeLemmas.{put_whole}
use Rattle.a1_value.specs.declared.value.Value.{Value}
use Rattle.a1_value.specs.declared.value.Value.TheVariants.{Int, Text, Bytes}
use Rattle.a1ql_reader.specs.declared.ask.Row.{Row}
use Rattle.answer_text.specs.declared.reply.Reply.{Reply}
use Rattle.answer_text.specs.declared.reply.Reply.TheVariants.{Ok, Rows, Count, Refused, Changed, Held, Told, Bad, SpentNode, SpentStamps, Memory}
use Rattle.answer_text.specs.Reply.{value_data, row_data, with_attr, reply_data}

int_plain : (n : ℤ) → has_float (value_data (Int n)) ≡ false
int_plain (pos n) = refl
int_plain (negsuc n) = refl

value_plain : (v : Value) → has_float (value_data v) ≡ false
value_plain (Int n) = int_plain n
value_plain (Text text) = refl
value_plain (Bytes bytes) = refl

all_plain : (members : List (List ℕ × Value)) (done : Members) → members_have_float done ≡ false → members_have_float (put_all done (map (λ m. (m.0, value_data m.1)) members)) ≡ false
all_plain [] done h = h
all_plain (m ∷ members) done h = all_plain members (put m.0 (value_data m.1) done) (put_whole m.0 (value_data m.1) done (value_plain m.1) h)

rows_plain : (rows : List Row) → items_have_float (items_of (map row_data rows)) ≡ false
rows_plain [] = refl
rows_plain (row ∷ rows) = rw (all_plain row.members no_members refl, rows_plain rows) refl

attr_plain : (attr : Option (List ℕ)) (members : Members) → members_have_float members ≡ false → members_have_float (with_attr attr members) ≡ false
attr_plain None ms h = h
attr_plain (Some attr) ms h = h

-- no reply has a float
pub reply_plain : (r : Reply) → has_float (reply_data r) ≡ false
reply_plain (Ok stamp) = refl
reply_plain (Rows at rows) = rw (rows_plain rows)
reply_plain (Count at count) = refl
reply_plain (Refused at refusal) = attr_plain refusal.attr _ refl
reply_plain (Changed a seen now) = refl
reply_plain (Held a by) = refl
reply_plain (Told line) = refl
reply_plain (Bad word) = refl
reply_plain SpentNode = refl
reply_plain SpentStamps = refl
reply_plain Memory = refl
