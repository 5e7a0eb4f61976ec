-- When two addresses are one.
use Rattle.farm_node.proofs.Common.{◌≡◌, eqb, Bool, true, false, ◌&&◌, Option, sym, refl, ap, ◌∙◌, subst, cond_both, cond-true, and_parts, eq-eqb, eqb-true}
use Rattle.farm_node.proofs.Common.{nat_cmp, is_eq, Addr, same_addr, Cell, set_cell}
use Rattle.std.specs.Cmp.{tied_then, unsigned_tied}

-- the first of two tests that both passed
pub and_left : (x y : Bool) → (x && y) ≡ true → x ≡ true
and_left x y e = (and_parts x y e).0

same_parts : (b a : Addr) → (eqb b.region a.region && eqb b.offset a.offset) ≡ same_addr b a
same_parts b a =
    ap (λ (x : Bool). x && eqb b.offset a.offset) (sym (unsigned_tied b.region a.region))
    ∙ (ap (λ (x : Bool). is_eq (nat_cmp b.region a.region) && x) (sym (unsigned_tied b.offset a.offset))
    ∙ tied_then (nat_cmp b.region a.region) (nat_cmp b.offset a.offset))

-- the test of two addresses tells that they are one
pub addr_eq : (b a : Addr) → same_addr b a ≡ true → b ≡ a
addr_eq b a e =
    let both : (eqb b.region a.region && eqb b.offset a.offset) ≡ true = same_parts b a ∙ e in
    let parts = and_parts (eqb b.region a.region) (eqb b.offset a.offset) both in
    λ i. record { region = eqb-true b.region a.region parts.0 i; offset = eqb-true b.offset a.offset parts.1 i }

-- and passes at one address
pub same_self : (a : Addr) → same_addr a a ≡ true
same_self a = sym (same_parts a a) ∙ (ap (λ (x : Bool). x && eqb a.offset a.offset) (eq-eqb a.region a.region refl) ∙ eq-eqb a.offset a.offset refl)

pub same_turned : (a b : Addr) → same_addr a b ≡ true → same_addr b a ≡ true
same_turned a b is = ap (λ (z : Addr). same_addr b z) (addr_eq a b is) ∙ same_self b

-- a change at one address: what holds there of what was put, and elsewhere of what was, holds at each address
pub set_cases : (P : Addr → Option Cell → Type 0) (a b : Addr) (c : Option Cell) (cells : Addr → Option Cell) → P a c → (same_addr a b ≡ false → P b (cells b)) → P b (set_cell a c cells b)
set_cases P a b c cells here there = cond_both (same_addr a b) c (cells b) (P b) (λ is. subst (λ (z : Addr). P z c) (addr_eq a b is) here) there

-- what was put at an address is there
pub set_self : (a : Addr) (c : Option Cell) (cells : Addr → Option Cell) → set_cell a c cells a ≡ c
set_self a c cells = cond-true (same_addr a a) c (cells a) (same_self a)
