-- How many objects and versions a map has.
use Rattle.farm_node.proofs.Common.{◌≡◌, ℕ, ◌+◌, ◌^◌, ◌<◌, List, [], ◌∷◌, length, Some, refl, ap, ◌∙◌, arith, BTreeMap, IsOrdered, btree_map_len, values}
use Rattle.farm_node.proofs.Common.{values_of, Addr, IsAmong, width, Rises, addr_order, Cell, objects_in, versions_in, places, total, counted, cells_of}
use Rattle.farm_node.proofs.Totals.{sum_of, total_listed}

abbrev pub lengths : List Cell → ℕ
lengths [] = 0
lengths (c ∷ cs) = length c.versions + lengths cs

sum_lengths : (es : List (Addr × Cell)) → sum_of (λ c. versions_in (Some c)) es ≡ lengths (values_of es)
sum_lengths [] = refl
sum_lengths (e ∷ es) = ap (λ (n : ℕ). length e.1.versions + n) (sum_lengths es)

sum_ones : (es : List (Addr × Cell)) → sum_of (λ c. objects_in (Some c)) es ≡ length es
sum_ones [] = refl
sum_ones (e ∷ es) = let rest : sum_of (λ c. objects_in (Some c)) es ≡ length es = sum_ones es in omega arith

module _ (objects : BTreeMap Addr Cell) (regions : List ℕ) (ordered : IsOrdered addr_order objects) (rises : Rises regions)
    (placed : (a : Addr) (c : Cell) → cells_of objects a ≡ Some c → IsAmong a.region regions × (a.offset < width)) where
  pub versions_are : total versions_in (cells_of objects) (places regions) ≡ lengths (values objects)
  versions_are = total_listed versions_in regions refl rises objects.entries ordered placed ∙ sum_lengths objects.entries

  pub objects_are : total objects_in (cells_of objects) (places regions) ≡ btree_map_len objects
  objects_are = total_listed objects_in regions refl rises objects.entries ordered placed ∙ sum_ones objects.entries

pub count_ends : (left : List Cell) (count all : ℕ) → left ≡ [] → counted (count + lengths left) ≡ counted all → count < 2 ^ 64 → count ≡ counted all
count_ends left count all none so fits =
    let here : lengths left ≡ 0 = ap lengths none in
    omega arith
