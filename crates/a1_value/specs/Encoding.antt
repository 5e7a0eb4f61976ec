-- Values as bytes, and as keys in the order of values.
use Rattle.std.specs.Prelude.{◌≡◌, ℕ, zero, suc, ◌≤◌, ◌+◌, ◌-◌, ℤ, pos, negsuc, List, [], ◌∷◌, ◌++◌, length, nat_lt, ◌==◌, if◌then◌else◌, Option, Some, None, option_map, option_and_then, ok_or, Result, Ok, Err, IsTrue, ⊤}
use Rattle.std.specs.Int.{w32, w64, to_be_bytes, cast_unsigned, cast_signed}
use Rattle.std.specs.Int.RustNames.{FitsSigned}
use Rattle.std.specs.Result.{result_ok}
use Rattle.std.specs.Str.{is_utf8}
use Rattle.a1_base.specs.declared.limits.TheConstants.{KEY_LIMIT, TEXT_LIMIT}
use Rattle.a1_base.specs.Fronts.{IsBytes, Front, byte, part, number, made, tested}
use Rattle.a1_value.specs.declared.fault.ValueFault.{ValueFault}
use Rattle.a1_value.specs.declared.fault.ValueFault.TheVariants as fault
use Rattle.a1_value.specs.declared.value.Value.{Value}
use Rattle.a1_value.specs.declared.value.Value.TheVariants.{Int, Text, Bytes}
use Rattle.a1_value.specs.Order.{byte_order, value_order}

-- ---- what may be written

-- the bytes of a text or a list of bytes
abbrev pub value_size : Value → ℕ
value_size (Int n) = 0
value_size (Text t) = length t
value_size (Bytes b) = length b

-- a number of 64 bits, a text, or a list of bytes
abbrev pub IsValue : Value → Type 0
IsValue (Int n) = FitsSigned w64 n
IsValue (Text t) = IsTrue (is_utf8 t)
IsValue (Bytes b) = IsBytes b

-- a value that may be kept
abbrev pub IsStored : Value → Type 0
IsStored v = IsValue v × (value_size v ≤ TEXT_LIMIT)

-- a value that may be a key
abbrev pub IsKey : Value → Type 0
IsKey v = IsValue v × (value_size v ≤ KEY_LIMIT)

-- ---- the encoding

-- the kind, then the number in two's complement, or the length and the bytes
abbrev pub value_bytes : Value → List ℕ
value_bytes (Int n) = 1 ∷ to_be_bytes w64 (cast_unsigned w64 n)
value_bytes (Text t) = 2 ∷ to_be_bytes w32 (length t) ++ t
value_bytes (Bytes b) = 3 ∷ to_be_bytes w32 (length b) ++ b

-- the next step, or the fault before it
abbrev pub passing : {A B : Type 0} → Result A ValueFault → (A → Result B ValueFault) → Result B ValueFault
passing (Ok x) next = next x
passing (Err f) next = Err f

-- a length of at most 4,096, and that many bytes
unfoldable pub content : List ℕ → Result (List ℕ × List ℕ) ValueFault
content bytes = passing (ok_or (number w32 bytes) fault.Short) (λ n.
    if nat_lt TEXT_LIMIT n.0 then Err fault.Long else ok_or (part n.0 n.1) fault.Short)

-- the value of a kind, and the bytes behind it, or the first fault
unfoldable pub value_of_kind : ℕ → List ℕ → Result (Value × List ℕ) ValueFault
value_of_kind kind bytes =
    if kind == 1 then ok_or (made (λ n. Int (cast_signed w64 n)) (number w64) bytes) fault.Short
    else if kind == 2 then passing (content bytes) (λ t. if is_utf8 t.0 then Ok (Text t.0, t.1) else Err fault.Utf8)
    else if kind == 3 then passing (content bytes) (λ b. Ok (Bytes b.0, b.1))
    else Err (fault.Kind kind)

-- the value that the bytes begin with, and the bytes behind it, or the first fault
unfoldable pub value_front : List ℕ → Result (Value × List ℕ) ValueFault
value_front bytes = passing (ok_or (byte bytes) fault.Short) (λ kind. value_of_kind kind.0 kind.1)

-- the value in front, if there is one
abbrev pub stored_front : Front Value
stored_front bytes = result_ok (value_front bytes)

-- the value that the bytes are, or the first fault
unfoldable pub decoded : List ℕ → Result Value ValueFault
decoded bytes = passing (value_front bytes) (λ v. if length v.1 == 0 then Ok v.0 else Err fault.Spare)

-- the result, seen so, is what is wanted, unless memory was wanting
abbrev pub Decodes : {X A : Type 0} → (X → A) → Result X ValueFault → Result A ValueFault → Type 0
Decodes view (Ok x) wanted = wanted ≡ Ok (view x)
Decodes view (Err fault.Memory) wanted = ⊤
Decodes view (Err f) wanted = wanted ≡ Err f

-- ---- keys

-- two's complement of 64 bits with the highest bit turned over
abbrev pub turned_over : ℤ → ℕ
turned_over (pos n) = n + 9223372036854775808
turned_over (negsuc n) = 9223372036854775807 - n

abbrev pub turned_back : ℕ → ℤ
turned_back n = if nat_lt n 9223372036854775808 then negsuc (9223372036854775807 - n) else pos (n - 9223372036854775808)

-- each 00 as 00 ff
abbrev pub escaped : List ℕ → List ℕ
escaped [] = []
escaped (zero ∷ bytes) = 0 ∷ 255 ∷ escaped bytes
escaped (suc b ∷ bytes) = suc b ∷ escaped bytes

-- the kind, then the number, or the escaped bytes and 00 00
abbrev pub key_bytes : Value → List ℕ
key_bytes (Int n) = 1 ∷ to_be_bytes w64 (turned_over n)
key_bytes (Text t) = 2 ∷ escaped t ++ 0 ∷ 0 ∷ []
key_bytes (Bytes b) = 3 ∷ escaped b ++ 0 ∷ 0 ∷ []

-- the next of escaped bytes, or none at their end, and the bytes behind it
abbrev pub next_escaped : Front (Option ℕ)
next_escaped bytes = option_and_then (λ a.
    if a.0 == 0 then option_and_then (λ b.
    if b.0 == 0 then Some (None, b.1) else if b.0 == 255 then Some (Some 0, b.1) else None) (byte a.1)
    else Some (Some a.0, a.1)) (byte bytes)

-- a byte in front of what more is read, or the end
abbrev pub going_on : Front (List ℕ) → Option ℕ → Front (List ℕ)
going_on more None rest = Some ([], rest)
going_on more (Some b) rest = option_map (λ p. (b ∷ p.0, p.1)) (more rest)

-- at most so many bytes that stand escaped in front of 00 00
unfoldable pub unescaped : ℕ → Front (List ℕ)
unescaped zero bytes = option_and_then (λ n. going_on (λ _. None) n.0 n.1) (next_escaped bytes)
unescaped (suc room) bytes = option_and_then (λ n. going_on (unescaped room) n.0 n.1) (next_escaped bytes)

-- the key of a kind, and the bytes behind it
unfoldable pub key_of_kind : ℕ → Front Value
key_of_kind kind bytes =
    if kind == 1 then made (λ n. Int (turned_back n)) (number w64) bytes
    else if kind == 2 then made Text (tested is_utf8 (unescaped KEY_LIMIT)) bytes
    else if kind == 3 then made Bytes (unescaped KEY_LIMIT) bytes
    else None

-- the key that the bytes begin with, and the bytes behind it
unfoldable pub key_front : Front Value
key_front bytes = option_and_then (λ kind. key_of_kind kind.0 kind.1) (byte bytes)

-- ---- what is said of them

-- keys are in the order of their values
abbrev pub KeysInOrder : Type 0
KeysInOrder = (a b : Value) → IsValue a → IsValue b → byte_order (key_bytes a) (key_bytes b) ≡ value_order a b
