-- The objects of a vertex are read again.
use Rattle.std.proofs.Common.{◌≡◌, ℕ, Bool, true, false, not, ◌&&◌, eqb, eq-eqb, [], List, Some, refl, ap, sym, subst, ◌∙◌, arith}
use Rattle.std.proofs.lemmas.List.{append-nil}
use Rattle.a1_base.specs.declared.place.Addr.{Addr}
use Rattle.type_schema.specs.declared.objects.Header.{Header}
use Rattle.type_schema.specs.Formed.{IsRecord}
use Rattle.type_schema.specs.Objects.{IsAddr, IsHeader, header_bytes, header_of, body_bytes, body_of, short_bytes, list_front}
use Rattle.type_schema.specs.Schemas.{Record}
use Rattle.type_schema.proofs.ObjectLemmas.{header_exact, body_exact, list_exact}

pub header_read : (bytes : List ℕ) (graph : Addr) (fields : Header) → IsAddr graph → IsHeader fields
    → bytes ≡ header_bytes graph fields → header_of bytes ≡ Some (graph, fields)
header_read bytes graph fields near fit e = ap header_of e ∙ header_exact.again (graph, fields) (near, fit)

pub body_read : (bytes : List ℕ) (owner : Addr) (values : Record) → IsAddr owner → IsRecord values
    → bytes ≡ body_bytes 8 owner values → body_of 8 bytes ≡ Some (owner, values)
body_read bytes owner values near fit e =
    ap (body_of 8) e ∙ (body_exact 8 (omega arith)).again (owner, values) (near, fit)

pub list_read : (bytes : List ℕ) (owner : Addr) → IsAddr owner → bytes ≡ short_bytes owner []
    → list_front bytes ≡ Some ((owner, 0), [])
list_read bytes owner near e =
    ap list_front (e ∙ sym (append-nil (short_bytes owner []))) ∙ list_exact.again (owner, 0) [] (near, omega arith)

-- addresses that the code finds to differ
pub found_unlike : (a b : Addr) (t : Bool) → t ≡ not (eqb a.region b.region && eqb a.offset b.offset) → t ≡ true
    → a ≡ b → ⊥
found_unlike a b t is unlike e =
    let same : not (eqb b.region b.region && eqb b.offset b.offset) ≡ false =
    rw (eq-eqb b.region b.region refl, eq-eqb b.offset b.offset refl) refl in
    let no : not (eqb a.region b.region && eqb a.offset b.offset) ≡ false =
    subst (λ (x : Addr). not (eqb x.region b.region && eqb x.offset b.offset) ≡ false) (sym e) same in
    cc
