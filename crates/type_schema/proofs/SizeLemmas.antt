-- When there is no room for one part more.
use Rattle.std.proofs.Common.{◌≡◌, ℕ, suc, ◌+◌, ◌<◌, ◌≤◌, List, length, get_or, take, ap, arith}
use Rattle.std.specs.List.{flat_map}
use Rattle.std.proofs.lemmas.List.Folds.{length-flat_map-take}

-- a byte for the number of parts and the parts up to one leave too little for that one: so they don't fit together
pub over : {A : Type 0} (bytes : A → List ℕ) (parts : List A) (i room left : ℕ) (part : A) → i < length parts → part ≡ get_or parts i part
    → left + (1 + length (flat_map bytes (take i parts))) ≡ room → (length (bytes part) ≤ left → ⊥) → suc (length (flat_map bytes parts)) ≤ room → ⊥
over bytes parts i room left part lt same so_far more fits =
    let part_in = length-flat_map-take bytes parts i part lt in
    let same' = ap (λ p. length (bytes p)) same in
    more (omega (arith, part_in, same', so_far, fits))
