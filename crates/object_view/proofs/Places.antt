-- The places of a node and their numbers.
use Rattle.std.proofs.Common.{◌≡◌, ◌<◌, ◌≤◌, ◌+◌, ◌*◌, ◌/◌, ◌%◌, ℕ, ap, sym, ◌∙◌, arith, add_comm}
use Rattle.std.proofs.Math.Nat.{add-mul-mod_self_left, mul-le-mul_left, div-add-mod, mod-eq_of_lt}
use Rattle.std.proofs.lemmas.Nat.{div-mul-add, mod-mul-add, div_below}
use Rattle.a1_base.specs.declared.place.Addr.{Addr}
use Rattle.object_view.specs.declared.mem_view.TheConstants.{PLACE_COUNT}
use Rattle.object_view.specs.Calls.{IsPlace}
use Rattle.object_view.specs.declared.mem_view.MemView.{MemView}
use Rattle.object_view.specs.Slots.{place_at, IsVacant}
use Rattle.object_view.specs.Held.{IsFull}

pub place_of : (n node number : ℕ) → node < n → number < PLACE_COUNT → IsPlace n node (place_at n node number)
place_of n node number low below =
    let q : number / 4096 < 1048576 = div_below number 4096 1048576 (omega arith) (omega arith) in
    let m : n * (number / 4096 + 1) ≤ n * 1048576 = mul-le-mul_left n (omega arith) in
    record {
      home = add-mul-mod_self_left node n (number / 4096) ∙ mod-eq_of_lt low;
      region = omega (arith, m);
      offset = omega arith;
    }

pub number_of : (a : Addr) (n node : ℕ) → 1 ≤ n → IsPlace n node a
    → (number : ℕ) × (number < PLACE_COUNT) × (a ≡ place_at n node number)
number_of a n node some p =
    let r : a.region / n < 1048576 = div_below a.region n 1048576 (omega arith) p.region in
    let d : (a.region / n * 4096 + a.offset) / 4096 ≡ a.region / n = div-mul-add
    (a.region / n) 4096 a.offset p.offset in
    let m : (a.region / n * 4096 + a.offset) % 4096 ≡ a.offset = mod-mul-add (a.region / n) 4096 a.offset p.offset in
    let e : n * (a.region / n) + a.region % n ≡ a.region = div-add-mod a.region n in
    let s : node + n * (a.region / n) ≡ a.region = add_comm node (n * (a.region / n))
    ∙ ap (λ (x : ℕ). n * (a.region / n) + x) (sym p.home) ∙ e in
    let t : node + n * ((a.region / n * 4096 + a.offset) / 4096) ≡ a.region = ap (λ (x : ℕ). node + n * x) d ∙ s in (
      a.region / n * 4096 + a.offset,
      omega arith,
      sym (ap (λ (x : ℕ). record { region = x; offset = (a.region / n * 4096 + a.offset) % 4096 }) t
          ∙ ap (λ (x : ℕ). record { region = a.region; offset = x }) m),
    )

-- a node with a vacant place is not full
pub not_full : (v : MemView) (node number : ℕ) → node < v.nodes → number < PLACE_COUNT
    → IsVacant v.over v.heap (place_at v.nodes node number) → IsFull v node → ⊥
not_full v node number low below vacant full = full (place_at v.nodes node number)
    (place_of v.nodes node number low below) vacant
