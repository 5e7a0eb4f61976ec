-- How a node is spelled: its kind, its owner, and its entries to the end; an entry is a key and a word.
use Rattle.std.specs.Prelude.{ℕ, ◌+◌, ◌*◌, ◌/◌, ◌%◌, ◌^◌, ◌<◌, ◌≤◌, cond, ltb, eqb, List, [], ◌∷◌, ◌++◌, length, take, drop, Option, Some, None}
use Rattle.std.specs.Int.{w16, w64, from_be_bytes, to_be_bytes}
use Rattle.std.specs.List.{flat_map}
use Rattle.a1_base.specs.declared.place.Addr.{Addr}

pub record Entry : Type 0 where
  pub key : List ℕ
  pub word : ℕ

pub record IsEntry (e : Entry) : Type 0 where
  pub key : length e.key ≤ 1100
  pub word : e.word < 2 ^ 64

abbrev pub word_of : Addr → ℕ
word_of a = a.region * 2 ^ 32 + a.offset

abbrev pub addr_of : ℕ → Addr
addr_of w = record { region = w / 2 ^ 32; offset = w % 2 ^ 32 }

abbrev pub entry : Entry → List ℕ
entry e = to_be_bytes w16 (length e.key) ++ (e.key ++ to_be_bytes w64 e.word)

abbrev pub entries : List Entry → List ℕ
entries es = flat_map entry es

-- the kind, the owner and the rest
abbrev pub object_bytes : ℕ → ℕ → List ℕ → List ℕ
object_bytes kind owner rest = kind ∷ (to_be_bytes w64 owner ++ rest)

abbrev pub node_bytes : ℕ → List Entry → List ℕ
node_bytes owner es = object_bytes 3 owner (entries es)

abbrev pub anchor_bytes : ℕ → ℕ → ℕ → List ℕ
anchor_bytes owner root height = object_bytes 2 owner (to_be_bytes w64 root ++ height ∷ [])

-- reading the owner and the rest of an object of a kind
unfoldable pub owner_at : List ℕ → Option (ℕ × List ℕ)
owner_at bytes = cond (ltb (length bytes) 8) None (Some (from_be_bytes w64 (take 8 bytes), drop 8 bytes))

abbrev pub head_at : ℕ → List ℕ → Option (ℕ × List ℕ)
head_at kind [] = None
head_at kind (b ∷ bytes) = cond (eqb b kind) (owner_at bytes) None

-- reading an entry from the front
unfoldable pub key_at : ℕ → List ℕ → Option (Entry × List ℕ)
key_at n bytes = cond (ltb (length bytes) (n + 8)) None (Some (
  record {
    key = take n bytes;
    word = from_be_bytes w64
        (take 8 (drop n bytes));
  },
  drop 8 (drop n bytes),
))

unfoldable pub entry_at : List ℕ → Option (Entry × List ℕ)
entry_at bytes = cond (ltb (length bytes) 2) None (key_at (from_be_bytes w16 (take 2 bytes)) (drop 2 bytes))
