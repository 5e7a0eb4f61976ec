-- Headers, records, half-edges and lists of them read back.
use Rattle.std.proofs.Common.{◌≡◌, ℕ, ◌<◌, ◌^◌, true, List, [], ◌∷◌, ◌++◌, Some, refl, sym, ap, subst, ◌∙◌, arith, nat_eq, nat_lt}
use Rattle.std.specs.Prelude.{option_map}
use Rattle.std.specs.Int.{w32, w64, to_be_bytes}
use Rattle.std.proofs.Math.Nat.{div-add-mod}
use Rattle.std.proofs.lemmas.Nat.{div-mul-add, mod-mul-add, mod_below}
use Rattle.std.proofs.lemmas.Bool.{eqb-true, ltb-true, lt-ltb, eq-eqb}
use Rattle.a1_base.specs.declared.place.Addr.{Addr}
use Rattle.a1_base.specs.Fronts.{IsBytes, byte, number, both, tested, Exact, ExactWhole}
use Rattle.a1_base.proofs.Exact.{mapped_some, byte_exact, number32_exact, number64_exact, tested_exact, made_exact, both_exact, whole_exact, same_exact}
use Rattle.object_view.specs.Layout.{addr_of, word_of, object_bytes}
use Rattle.type_schema.specs.declared.objects.Header.{Header}
use Rattle.type_schema.specs.Layout.{record_bytes}
use Rattle.type_schema.specs.Reading.{record_front}
use Rattle.type_schema.specs.Formed.{IsRecord}
use Rattle.type_schema.specs.Objects.{IsAddr, addr_bytes, addr_front, owner_front, header_bytes, IsHeader, of_fields, fields_front, header_of, body_bytes, body_of, half_key, half_key_of, list_front, long_of}
use Rattle.type_schema.proofs.LayoutLemmas.{record_exact}

-- ---- addresses

-- a word is that of its address
pub word_back : (w : ℕ) → word_of (addr_of w) ≡ w
word_back w = omega (arith, div-add-mod w (2 ^ 32))

pub addr_fits : (w : ℕ) → w < 2 ^ 64 → IsAddr (addr_of w)
addr_fits w h = (omega (arith, div-add-mod w (2 ^ 32), h), mod_below w (2 ^ 32) (omega arith))

-- an address is that of its word
pub addr_back : (a : Addr) → IsAddr a → addr_of (word_of a) ≡ a
addr_back a h = rw (div-mul-add a.region (2 ^ 32) a.offset h.1, mod-mul-add a.region (2 ^ 32) a.offset h.1) refl

pub word_fits : (a : Addr) → IsAddr a → word_of a < 2 ^ 64
word_fits a h = omega (arith, h.0, h.1)

-- addresses with the same word are the same
pub same_word : (a b : Addr) → IsAddr a → IsAddr b → word_of a ≡ word_of b → a ≡ b
same_word a b p q e = sym (addr_back a p) ∙ ap addr_of e ∙ addr_back b q

addr_exact : Exact addr_front addr_bytes IsAddr
addr_exact = record { takes = takes; again = again } where
  takes : (bytes : List ℕ) (a : Addr × List ℕ) → IsBytes bytes → addr_front bytes ≡ Some a → IsAddr a.0 × (bytes ≡ addr_bytes a.0 ++ a.1)
  takes bytes a fits e = mapped_some (λ p. (addr_of p.0, p.1)) (number w64 bytes) a e (λ x found same.
      let one = number64_exact.takes bytes x fits found in
      subst (λ (p : Addr × List ℕ). IsAddr p.0 × (bytes ≡ addr_bytes p.0 ++ p.1)) same
      (addr_fits x.0 one.0, one.1 ∙ ap (λ (w : ℕ). to_be_bytes w64 w ++ x.1) (sym (word_back x.0))))

  again : (a : Addr) (rest : List ℕ) → IsAddr a → addr_front (addr_bytes a ++ rest) ≡ Some (a, rest)
  again a rest h = ap (option_map (λ p. (addr_of p.0, p.1))) (number64_exact.again (word_of a) rest (word_fits a h))
      ∙ ap (λ (b : Addr). Some (b, rest)) (addr_back a h)

abbrev one_byte : ℕ → List ℕ
one_byte n = n ∷ []

abbrev IsByte : ℕ → Type 0
IsByte n = n < 256

abbrev Coded : ℕ → ℕ → Type 0
Coded kind n = IsByte n × (nat_eq n kind ≡ true)

coded_exact : (kind : ℕ) → Exact (tested (λ code. nat_eq code kind) byte) one_byte (Coded kind)
coded_exact kind = tested_exact byte one_byte IsByte byte_exact (λ code. nat_eq code kind)

-- the owner of an object of a kind
owner_exact : (kind : ℕ) → kind < 256 → Exact (owner_front kind) (λ a. kind ∷ addr_bytes a) IsAddr
owner_exact kind small = same_exact (owner_front kind) (λ a. kind ∷ addr_bytes a) (λ a. Coded kind kind × IsAddr a) IsAddr
    (made_exact (both (tested (λ code. nat_eq code kind) byte) addr_front) (λ x. x.0 ∷ addr_bytes x.1) (λ x. Coded kind x.0 × IsAddr x.1)
    (both_exact (tested (λ code. nat_eq code kind) byte) one_byte (Coded kind) (coded_exact kind) addr_front addr_bytes IsAddr addr_exact)
    (λ x. x.1) (λ a. (kind, a)) (λ x h. ap (λ (k : ℕ). (k, x.1)) (sym (eqb-true x.0 kind h.0.1))) (λ a h. refl))
    (λ a h. h.1) (λ a h. ((small, eq-eqb kind kind refl), h))

-- ---- headers

abbrev fields : Header → ℕ × (Addr × (Addr × Addr))
fields h = (h.kind, (h.body, (h.out, h.into)))

abbrev AreFields : ℕ × (Addr × (Addr × Addr)) → Type 0
AreFields x = (x.0 < 2 ^ 32) × (IsAddr x.1.0 × (IsAddr x.1.1.0 × IsAddr x.1.1.1))

abbrev fields_bytes : ℕ × (Addr × (Addr × Addr)) → List ℕ
fields_bytes x = to_be_bytes w32 x.0 ++ (addr_bytes x.1.0 ++ (addr_bytes x.1.1.0 ++ addr_bytes x.1.1.1))

fields_exact : Exact fields_front (λ h. fields_bytes (fields h)) (λ h. AreFields (fields h))
unfolding fields_front
fields_exact = made_exact (both (number w32) (both addr_front (both addr_front addr_front))) fields_bytes AreFields
    (both_exact (number w32) (to_be_bytes w32) (λ n. n < 2 ^ 32) number32_exact (both addr_front (both addr_front addr_front))
    (λ x. addr_bytes x.0 ++ (addr_bytes x.1.0 ++ addr_bytes x.1.1)) (λ x. IsAddr x.0 × (IsAddr x.1.0 × IsAddr x.1.1))
    (both_exact addr_front addr_bytes IsAddr addr_exact (both addr_front addr_front) (λ x. addr_bytes x.0 ++ addr_bytes x.1) (λ x. IsAddr x.0 × IsAddr x.1)
    (both_exact addr_front addr_bytes IsAddr addr_exact addr_front addr_bytes IsAddr addr_exact)))
    of_fields fields (λ x h. refl) (λ a h. refl)

abbrev IsHeaderOf : Addr × Header → Type 0
IsHeaderOf x = IsAddr x.0 × IsHeader x.1

pub header_exact : ExactWhole header_of (λ x. header_bytes x.0 x.1) IsHeaderOf
unfolding header_of
header_exact = whole_exact (both (owner_front 7) fields_front) (λ x. header_bytes x.0 x.1) IsHeaderOf
    (same_exact (both (owner_front 7) fields_front) (λ x. header_bytes x.0 x.1) (λ x. IsAddr x.0 × AreFields (fields x.1)) IsHeaderOf
    (both_exact (owner_front 7) (λ a. 7 ∷ addr_bytes a) IsAddr (owner_exact 7 (omega arith)) fields_front (λ h. fields_bytes (fields h)) (λ h. AreFields (fields h)) fields_exact)
    (λ x h. (h.0, record { kind = h.1.0; body = h.1.1.0; out = h.1.1.1.0; into = h.1.1.1.1 }))
    (λ x h. (h.0, (h.1.kind, (h.1.body, (h.1.out, h.1.into))))))

-- ---- records

pub body_exact : (kind : ℕ) → kind < 256 → ExactWhole (body_of kind) (λ x. body_bytes kind x.0 x.1) (λ x. IsAddr x.0 × IsRecord x.1)
unfolding body_of
body_exact kind small = whole_exact (both (owner_front kind) record_front) (λ x. body_bytes kind x.0 x.1) (λ x. IsAddr x.0 × IsRecord x.1)
    (both_exact (owner_front kind) (λ a. kind ∷ addr_bytes a) IsAddr (owner_exact kind small) record_front record_bytes IsRecord record_exact)

-- ---- half-edges and lists of them

pub half_exact : ExactWhole half_key_of (λ x. half_key x.0 x.1) (λ x. (x.0 < 2 ^ 32) × IsAddr x.1)
unfolding half_key_of
half_exact = whole_exact (both (number w32) addr_front) (λ x. half_key x.0 x.1) (λ x. (x.0 < 2 ^ 32) × IsAddr x.1)
    (both_exact (number w32) (to_be_bytes w32) (λ n. n < 2 ^ 32) number32_exact addr_front addr_bytes IsAddr addr_exact)

form_exact : Exact (tested (λ code. nat_lt code 2) byte) one_byte (λ n. n < 2)
form_exact = same_exact (tested (λ code. nat_lt code 2) byte) one_byte (λ n. IsByte n × (nat_lt n 2 ≡ true)) (λ n. n < 2)
    (tested_exact byte one_byte IsByte byte_exact (λ code. nat_lt code 2)) (λ n h. ltb-true n 2 h.1) (λ n h. (omega (arith, h), lt-ltb n 2 h))

abbrev IsForm : Addr × ℕ → Type 0
IsForm x = IsAddr x.0 × (x.1 < 2)

pub list_exact : Exact list_front (λ x. object_bytes 9 (word_of x.0) (x.1 ∷ [])) IsForm
unfolding list_front
list_exact = both_exact (owner_front 9) (λ a. 9 ∷ addr_bytes a) IsAddr (owner_exact 9 (omega arith)) (tested (λ code. nat_lt code 2) byte) one_byte (λ n. n < 2) form_exact

pub long_exact : ExactWhole long_of (λ x. to_be_bytes w64 x.0 ++ addr_bytes x.1) (λ x. (x.0 < 2 ^ 64) × IsAddr x.1)
unfolding long_of
long_exact = whole_exact (both (number w64) addr_front) (λ x. to_be_bytes w64 x.0 ++ addr_bytes x.1) (λ x. (x.0 < 2 ^ 64) × IsAddr x.1)
    (both_exact (number w64) (to_be_bytes w64) (λ n. n < 2 ^ 64) number64_exact addr_front addr_bytes IsAddr addr_exact)
