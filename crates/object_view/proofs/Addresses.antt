-- Addresses are the same exactly where they are equal.
use Rattle.std.proofs.Common.{◌≡◌, ◌⊎◌, inl, inr, ℕ, Bool, true, false, refl, ap}
use Rattle.std.specs.declared.cmp.Ordering.{Ordering}
use Rattle.std.specs.declared.cmp.Ordering.TheVariants.{Less, Equal, Greater}
use Rattle.std.specs.Ordering.{nat_cmp, is_eq}
use Rattle.std.proofs.lemmas.Cmp.{nat_cmp_total, then_total, on_total, eq_by_cmp_equiv}
use Rattle.std.specs.Cmp.{IsTotalOrder}
use Rattle.std.proofs.lemmas.Map.Lookups.{exact_pairs, exact_unsigned}
use Rattle.a1_base.specs.declared.place.Addr.{Addr}
use Rattle.object_view.specs.Agreement.{same_addr, addr_order}

is_equal : (o : Ordering) → is_eq o ≡ true → o ≡ Equal
is_equal Less h = absurd cc
is_equal Equal h = refl
is_equal Greater h = absurd cc

pub same_is : (a b : Addr) → same_addr a b ≡ true → a ≡ b
same_is a b h = ap (λ (p : ℕ × ℕ). record { region = p.0; offset = p.1 })
    (exact_pairs nat_cmp nat_cmp exact_unsigned exact_unsigned (a.region, a.offset) (b.region, b.offset) (is_equal
    (addr_order a b) h))

pub addr_total : IsTotalOrder addr_order
addr_total = then_total (on_total (λ (a : Addr). a.region) nat_cmp_total) (on_total (λ
    (a : Addr). a.offset) nat_cmp_total)

true_or : (b : Bool) → (b ≡ true) ⊎ (b ≡ false)
true_or true = inl refl
true_or false = inr refl

pub same_or : (a b : Addr) → ((same_addr a b ≡ true) × (a ≡ b)) ⊎ (same_addr a b ≡ false)
same_or a b = elim (true_or (same_addr a b)) [ inl t ↦ inl (t, same_is a b t) | inr f ↦ inr f ]

pub same_itself : (a : Addr) → same_addr a a ≡ true
same_itself a = (eq_by_cmp_equiv addr_total).refl a
