-- Lines and their first words.
use Rattle.std.proofs.Common.{◌≡◌, ◌≢◌, ℕ, zero, suc, ◌/◌, ◌%◌, ◌^◌, ◌<◌, List, [], ◌∷◌, ◌++◌, Option, Some, None, Result, Ok, Err, refl, sym, ap, subst, ◌∙◌, arith}
use Rattle.std.specs.Prelude.{codes, decimal, Bool, true, ◌&&◌, ◌==◌, not, nat_lt, slice_index}
use Rattle.std.specs.List.{list_all, AllByRecursion}
use Rattle.std.specs.Option.{ok_or}
use Rattle.std.specs.Str.{IsAscii, IsUtf8}
use Rattle.std.proofs.lemmas.Bool.Decides.{nat_tests}
use Rattle.std.proofs.lemmas.Bool.{and_parts}
use Rattle.std.proofs.lemmas.Str.{IsUtf8-from_ascii}
use Rattle.std.proofs.lemmas.Str.Ascii.{IsAscii-nil, IsAscii-cons}
use Rattle.std.proofs.lemmas.Fmt.{IsAscii-decimal}
use Rattle.a1_base.specs.declared.limits.TheConstants.{REGION_WIDTH}
use Rattle.hex.specs.Hex.{encode_lower, encode_with, lower_digits}
use Rattle.a1_base.specs.declared.place.Addr.{Addr}
use Rattle.a1_base.specs.declared.place.TxnId.{TxnId}
use Rattle.object_region.specs.Occupancy.{width}
use Rattle.farm_core.specs.declared.event.Event.{Event}
use Rattle.farm_core.specs.declared.event.Event.TheVariants.{Load, Begin, Read, Alloc, Lock, Draw, Check, Put, Unlock, Shut, Collect}
use Rattle.steps_text.specs.declared.fault.LineFault.{LineFault}
use Rattle.steps_text.specs.declared.fault.LineFault.TheVariants.{Malformed, Memory}
use Rattle.steps_text.specs.EventText.{txn_text, addr_text, new_text, event_text, IsEvent}
use Rattle.steps_text.specs.Reading.{Lacks, IsCut, Refuses, Parses, ParsesOrFails, IsTxn, IsTextAddr, verb, arguments, IsForm}
use Rattle.steps_text.proofs.WordLemmas.{one_cut, has_mark, decimal_lacks}

-- ---- the first word

lacks_by_test : (mark : ℕ) (xs : List ℕ) → list_all (λ b. not (b == mark)) xs ≡ true → Lacks mark xs
lacks_by_test mark [] h = tt
lacks_by_test mark (x ∷ xs) h =
    let parts = and_parts (not (x == mark)) (list_all (λ b. not (b == mark)) xs) h in
    ((λ e. let head : not (x == mark) ≡ true = parts.0 in grind (arith, nat_tests)), lacks_by_test mark xs parts.1)

pub verb_clean : (e : Event) → Lacks 32 (verb e)
verb_clean (Load a bytes) = lacks_by_test 32 (codes "load") refl
verb_clean e = lacks_by_test 32 (verb e) refl

pub verb_first : (e : Event) → event_text e ≡ verb e ++ 32 ∷ arguments e
verb_first (Load a bytes) = refl
verb_first e = refl

pub event_uncut : (nodes : ℕ) (line : List ℕ) → Lacks 32 line → Refuses event_text (IsEvent nodes) line
event_uncut nodes line h = record { none = λ e v same. has_mark 32 (verb e) (arguments e) (rw (sym (verb_first e) ∙ same) h) }

form_refused : (nodes : ℕ) (line word words : List ℕ) → IsCut 32 line word words → Refuses arguments (IsForm nodes word) words → Refuses event_text (IsEvent nodes) line
form_refused nodes line word words cut h = record {
  none = λ e v same.
      let parts = one_cut 32 (verb e) (arguments e) word words (verb_clean e) cut.first (sym (verb_first e) ∙ same ∙ cut.whole) in
      h.none e (parts.0, v) parts.1;
}

-- an event by its first word
pub event_read : (nodes : ℕ) (line word words : List ℕ) (r : Result Event LineFault) → IsCut 32 line word words → ParsesOrFails arguments (IsForm nodes word) words r → ParsesOrFails event_text (IsEvent nodes) line r
event_read nodes line word words (Ok e) cut h =
    (verb_first e ∙ ap (λ v. v ++ 32 ∷ arguments e) h.1.0 ∙ ap (λ a. word ++ 32 ∷ a) h.0 ∙ sym cut.whole, h.1.1)
event_read nodes line word words (Err Malformed) cut h = form_refused nodes line word words cut h
event_read nodes line word words (Err Memory) cut h = tt

pub or_malformed : {A : Type 0} (written : A → List ℕ) (IsValue : A → Type 0) (text : List ℕ) (o : Option A) → Parses written IsValue text o → ParsesOrFails written IsValue text (ok_or o Malformed)
or_malformed written IsValue text (Some x) h = h
or_malformed written IsValue text None h = h

-- ---- plain bytes

-- ASCII, and no LF
Plain : List ℕ → Type 0
Plain bytes = AllByRecursion (λ b. (b ≢ 10) × (b < 128)) bytes

plain_append : (xs ys : List ℕ) → Plain xs → Plain ys → Plain (xs ++ ys)
unfolding Plain
plain_append [] ys h k = k
plain_append (x ∷ xs) ys h k = (h.0, plain_append xs ys h.1 k)

plain_joined : (mark : ℕ) (xs ys : List ℕ) → (mark ≢ 10) × (mark < 128) → Plain xs → Plain ys → Plain (xs ++ mark ∷ ys)
unfolding Plain
plain_joined mark xs ys small h k = plain_append xs (mark ∷ ys) h (small, k)

is_plain : ℕ → Bool
is_plain b = nat_lt b 128 && not (b == 10)

plain_byte : (b : ℕ) → is_plain b ≡ true → (b ≢ 10) × (b < 128)
unfolding is_plain
plain_byte b h = (λ e. grind (arith, nat_tests), grind (arith, nat_tests))

plain_by_test : (xs : List ℕ) → list_all is_plain xs ≡ true → Plain xs
unfolding Plain
plain_by_test [] h = tt
plain_by_test (x ∷ xs) h =
    let parts = and_parts (is_plain x) (list_all is_plain xs) h in
    (plain_byte x parts.0, plain_by_test xs parts.1)

plain_from : (xs : List ℕ) → Lacks 10 xs → IsAscii xs → Plain xs
unfolding Plain
plain_from [] h k = tt
plain_from (x ∷ xs) h k = ((h.0, k 0), plain_from xs h.1 (λ i. k (suc i)))

plain_ascii : (xs : List ℕ) → Plain xs → IsAscii xs
unfolding Plain
plain_ascii [] h = IsAscii-nil
plain_ascii (x ∷ xs) h = IsAscii-cons x xs h.0.1 (plain_ascii xs h.1)

plain_line : (xs : List ℕ) → Plain xs → Lacks 10 xs
unfolding Plain
plain_line [] h = tt
plain_line (x ∷ xs) h = (h.0.0, plain_line xs h.1)

plain_decimal : (n : ℕ) → n < 2 ^ 64 → Plain (decimal n)
plain_decimal n small = plain_from (decimal n) (decimal_lacks 10 n (λ r. omega arith) small) (IsAscii-decimal n small)

plain_at : (t : List ℕ) (v : ℕ) → Plain t → (slice_index t v ≢ 10) × (slice_index t v < 128)
unfolding Plain
plain_at [] v h = (λ e. omega arith, omega arith)
plain_at (x ∷ t) zero h = h.0
plain_at (x ∷ t) (suc v) h = plain_at t v h.1

plain_hex : (bytes : List ℕ) → Plain (encode_lower bytes)
unfolding encode_with Plain is_plain
plain_hex [] = tt
plain_hex (b ∷ bytes) =
    let digits : Plain lower_digits = plain_by_test lower_digits refl in
    (plain_at lower_digits (b / 16) digits, (plain_at lower_digits (b % 16) digits, plain_hex bytes))

plain_txn : (t : TxnId) → IsTxn t → Plain (txn_text t)
plain_txn t v = plain_joined 46 (decimal t.actor) (decimal t.number) (λ e. omega arith, omega arith) (plain_decimal t.actor (omega arith)) (plain_decimal t.number v.1)

plain_addr : (nodes : ℕ) (a : Addr) → IsTextAddr nodes a → Plain (addr_text a)
unfolding width
plain_addr nodes a v =
    let small : a.offset < REGION_WIDTH = v.0.1 in
    plain_joined 58 (decimal a.region) (decimal a.offset) (λ e. omega arith, omega arith) (plain_decimal a.region (omega arith)) (plain_decimal a.offset (omega arith))

plain_new : (new : Option (List ℕ)) → Plain (new_text new)
unfolding is_plain
plain_new None = plain_by_test (codes "-") refl
plain_new (Some bytes) = plain_hex bytes

plain_pair : (xs ys : List ℕ) → Plain xs → Plain ys → Plain (xs ++ 32 ∷ ys)
plain_pair xs ys h k = plain_joined 32 xs ys (λ e. omega arith, omega arith) h k

plain_placed : (nodes : ℕ) (t : TxnId) (a : Addr) → IsTxn t → IsTextAddr nodes a → Plain (txn_text t ++ 32 ∷ addr_text a)
plain_placed nodes t a h k = plain_pair (txn_text t) (addr_text a) (plain_txn t h) (plain_addr nodes a k)

plain_arguments : (nodes : ℕ) (e : Event) → IsEvent nodes e → Plain (arguments e)
plain_arguments nodes (Load a bytes) v = plain_pair (addr_text a) (encode_lower bytes) (plain_addr nodes a (v.0.0, v.1.0)) (plain_hex bytes)
plain_arguments nodes (Begin t) v = plain_txn t v
plain_arguments nodes (Read t a) v = plain_placed nodes t a (v.0.0, v.1.0) (v.0.1, v.1.1)
plain_arguments nodes (Alloc t n bytes) v =
    plain_pair (txn_text t) (decimal n ++ 32 ∷ encode_lower bytes) (plain_txn t (v.0.0, v.1.0))
    (plain_pair (decimal n) (encode_lower bytes) (plain_decimal n (let small : n < 2 ^ 32 = v.1.1 in omega arith)) (plain_hex bytes))
plain_arguments nodes (Lock t a new) v =
    plain_pair (txn_text t) (addr_text a ++ 32 ∷ new_text new) (plain_txn t (v.0.0, v.1.0))
    (plain_pair (addr_text a) (new_text new) (plain_addr nodes a (v.0.1, v.1.1)) (plain_new new))
plain_arguments nodes (Draw t) v = plain_txn t v
plain_arguments nodes (Check t a) v = plain_placed nodes t a (v.0.0, v.1.0) (v.0.1, v.1.1)
plain_arguments nodes (Put t a) v = plain_placed nodes t a (v.0.0, v.1.0) (v.0.1, v.1.1)
plain_arguments nodes (Unlock t a) v = plain_placed nodes t a (v.0.0, v.1.0) (v.0.1, v.1.1)
plain_arguments nodes (Shut t) v = plain_txn t v
plain_arguments nodes (Collect n) v = plain_decimal n (omega arith)

plain_verb : (e : Event) → Plain (verb e)
unfolding is_plain
plain_verb (Load a bytes) = plain_by_test (codes "load") refl
plain_verb e = plain_by_test (verb e) refl

plain_event : (nodes : ℕ) (e : Event) → IsEvent nodes e → Plain (event_text e)
plain_event nodes e v = subst Plain (sym (verb_first e)) (plain_pair (verb e) (arguments e) (plain_verb e) (plain_arguments nodes e v))

pub not_utf8 : (nodes : ℕ) (line : List ℕ) → (IsUtf8 line → ⊥) → Refuses event_text (IsEvent nodes) line
not_utf8 nodes line h = record { none = λ e v same. h (subst IsUtf8 same (IsUtf8-from_ascii (event_text e) (plain_ascii (event_text e) (plain_event nodes e v)))) }

pub event_clean : (nodes : ℕ) (e : Event) → IsEvent nodes e → Lacks 10 (event_text e)
event_clean nodes e v = plain_line (event_text e) (plain_event nodes e v)

-- how a line is read, or is no event's
pub ruleset event_parts = (event_uncut, event_read, not_utf8)
