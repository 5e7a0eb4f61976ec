-- The objects of vertices, edges and lists of half-edges: their bytes, and how they are read.
use Rattle.std.specs.Prelude.{ℕ, ◌<◌, ◌^◌, ◌==◌, nat_lt, List, ◌∷◌, ◌++◌, Option}
use Rattle.std.specs.Int.{w32, w64, to_be_bytes}
use Rattle.a1_base.specs.declared.place.Addr.{Addr}
use Rattle.a1_base.specs.Fronts.{Front, byte, number, both, made, tested, whole}
use Rattle.a1_value.specs.declared.value.Value.{Value}
use Rattle.a1_value.specs.Encoding.{IsKey, key_bytes}
use Rattle.object_view.specs.Layout.{Entry, addr_of, word_of, object_bytes, entries}
use Rattle.type_schema.specs.declared.objects.Header.{Header}
use Rattle.type_schema.specs.declared.objects.Half.{Half}
use Rattle.type_schema.specs.Layout.{record_bytes}
use Rattle.type_schema.specs.Reading.{record_front}
use Rattle.type_schema.specs.Schemas.{Record}

-- ---- addresses

-- region and offset have 32 bits each
abbrev pub IsAddr : Addr → Type 0
IsAddr a = (a.region < 2 ^ 32) × (a.offset < 2 ^ 32)

abbrev pub addr_bytes : Addr → List ℕ
addr_bytes a = to_be_bytes w64 (word_of a)

abbrev pub addr_front : Front Addr
addr_front bytes = made addr_of (number w64) bytes

-- the owner of an object of a kind, and the rest
abbrev pub owner_front : ℕ → Front Addr
owner_front kind bytes = made (λ x. x.1) (both (tested (λ code. code == kind) byte) addr_front) bytes

-- ---- a vertex's header: the number of its type, its record's object, and its lists of outgoing and incoming half-edges

abbrev pub header_bytes : Addr → Header → List ℕ
header_bytes graph h = object_bytes 7 (word_of graph)
    (to_be_bytes w32 h.kind ++ (addr_bytes h.body ++ (addr_bytes h.out ++ addr_bytes h.into)))

pub record IsHeader (h : Header) : Type 0 where
  pub kind : h.kind < 2 ^ 32
  pub body : IsAddr h.body
  pub out : IsAddr h.out
  pub into : IsAddr h.into

abbrev pub of_fields : ℕ × (Addr × (Addr × Addr)) → Header
of_fields x = record { kind = x.0; body = x.1.0; out = x.1.1.0; into = x.1.1.1 }

unfoldable pub fields_front : Front Header
fields_front bytes = made of_fields (both (number w32) (both addr_front (both addr_front addr_front))) bytes

-- the graph and the fields of a header
unfoldable pub header_of : List ℕ → Option (Addr × Header)
header_of bytes = whole (both (owner_front 7) fields_front) bytes

-- ---- a record in an object of its own: that of a vertex has the kind 8 and belongs to the header, that of an edge has
-- the kind 10 and belongs to the header of its source

abbrev pub body_bytes : ℕ → Addr → Record → List ℕ
body_bytes kind owner values = object_bytes kind (word_of owner) (record_bytes values)

unfoldable pub body_of : ℕ → List ℕ → Option (Addr × Record)
body_of kind bytes = whole (both (owner_front kind) record_front) bytes

-- ---- half-edges: the number of an edge's type, the header at its other end, and the object of its record

-- by the number of the type, then by the address of the far header
abbrev pub half_key : ℕ → Addr → List ℕ
half_key kind far = to_be_bytes w32 kind ++ addr_bytes far

-- a half-edge as an entry of a tree
abbrev pub half_entry : Half → Entry
half_entry h = record { key = half_key h.kind h.far; word = word_of h.body }

pub record IsHalf (h : Half) : Type 0 where
  pub kind : h.kind < 2 ^ 32
  pub far : IsAddr h.far
  pub body : IsAddr h.body

-- the kind and the far header of a key
unfoldable pub half_key_of : List ℕ → Option (ℕ × Addr)
half_key_of bytes = whole (both (number w32) addr_front) bytes

-- ---- a list of half-edges: 0 and its half-edges as the entries of a tree's node, or 1, their number, and the anchor of
-- the tree that has them

abbrev pub short_bytes : Addr → List Entry → List ℕ
short_bytes owner es = object_bytes 9 (word_of owner) (0 ∷ entries es)

abbrev pub long_bytes : Addr → ℕ → Addr → List ℕ
long_bytes owner count anchor = object_bytes 9 (word_of owner) (1 ∷ to_be_bytes w64 count ++ addr_bytes anchor)

-- the owner, whether the half-edges are in a tree, and the rest
unfoldable pub list_front : Front (Addr × ℕ)
list_front bytes = both (owner_front 9) (tested (λ code. nat_lt code 2) byte) bytes

-- the number of half-edges and the anchor of the tree
unfoldable pub long_of : List ℕ → Option (ℕ × Addr)
long_of bytes = whole (both (number w64) addr_front) bytes

-- ---- indexes

-- a value, the key of a vertex that has it, and the vertex's header
pub record IndexRow : Type 0 where
  pub value : Value
  pub key : Value
  pub header : Addr

-- by the value, then by the key
abbrev pub index_key : Value → Value → List ℕ
index_key value key = key_bytes value ++ key_bytes key

abbrev pub index_entry : IndexRow → Entry
index_entry row = record { key = index_key row.value row.key; word = word_of row.header }

pub record IsIndexRow (row : IndexRow) : Type 0 where
  pub value : IsKey row.value
  pub key : IsKey row.key
  pub header : IsAddr row.header
