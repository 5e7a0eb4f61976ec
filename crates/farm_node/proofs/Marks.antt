-- The heap of what waits, as the test of which address waits for which stamp.
use Rattle.farm_node.proofs.Common.{◌≡◌, ℕ, ◌<◌, ◌≤◌, ◌==◌, cond, Bool, false, ◌||◌, List, [], ◌∷◌, refl, ap, ◌∙◌, sym, ⊎_elim, arith, both_ways, ne_eqb, Addr, length, slice_index_or, subst, Ordering, nat_cmp}
use Rattle.farm_node.proofs.Common.{is_mark, same_addr}
use Rattle.farm_node.specs.Waiting.{Mark, mark_order, listed_in}
use Rattle.std.specs.BinaryHeap.{IsUpperBound}
use Rattle.std.specs.List.Sorted.{IsPermutation}
use Rattle.std.specs.Ordering.{is_lt, ordering_then}
use Rattle.std.specs.declared.cmp.Ordering.TheVariants.{Less, Equal, Greater}
use Rattle.std.proofs.lemmas.Bool.{and_left, cases_lt, lt-ltb}
use Rattle.std.proofs.lemmas.List.Sorted.{list_any-IsPermutation, length_permutation}

pub listed_more : (x : Mark) (marks more : List Mark) → IsPermutation (x ∷ marks) more → listed_in more ≡ (λ n b. is_mark x.0.0 x.0.1 n b || listed_in marks n b)
listed_more x marks more moves = λ i n b. sym (list_any-IsPermutation (λ m. is_mark m.0.0 m.0.1 n b) (x ∷ marks) more moves) i

listed_fewer : (x : Mark) (marks fewer : List Mark) → IsPermutation marks (x ∷ fewer) → listed_in marks ≡ (λ n b. is_mark x.0.0 x.0.1 n b || listed_in fewer n b)
listed_fewer x marks fewer moves = λ i n b. list_any-IsPermutation (λ m. is_mark m.0.0 m.0.1 n b) marks (x ∷ fewer) moves i

not_before : (y t : ℕ) (o : Ordering) → is_lt (ordering_then (nat_cmp y t) o) ≡ false → t ≤ y
not_before y t o e = ⊎_elim
    (λ (low : y < t). absurd (both_ways (is_lt (ordering_then (nat_cmp y t) o)) e (ap (λ (g : Bool). is_lt (ordering_then (cond g Less (cond (y == t) Equal Greater)) o)) (lt-ltb y t low))))
    (λ high. high) (cases_lt y t)

-- where the first mark is above the floor, nothing waits for it
pub none_due : (top : Mark) (marks : List Mark) (floor s : ℕ) (a : Addr) → IsUpperBound mark_order top marks → floor < top.0.0 → s ≤ floor → listed_in marks s a ≡ false
none_due top [] floor s a first above low = refl
none_due top (m ∷ ms) floor s a first above low =
    let later : top.0.0 ≤ m.0.0 = not_before m.0.0 top.0.0 _ first.0 in
    ap (λ (g : Bool). g || listed_in ms s a) (and_left (m.0.0 == s) (same_addr m.0.1 a) (ne_eqb m.0.0 s (λ is. omega arith))) ∙ none_due top ms floor s a first.1 above low

-- the first of a list, told twice
same_front : {X : Type 0} → (x y : X) (xs rest : List X) → x ≡ slice_index_or xs 0 x → y ≡ slice_index_or xs 0 y → IsPermutation xs (y ∷ rest) → x ≡ y
same_front x y [] rest first second moves = let e : length (y ∷ rest) ≡ 0 = length_permutation [] (y ∷ rest) moves in absurd (omega arith)
same_front x y (z ∷ zs) rest first second moves = first ∙ sym second

-- where the first mark is at most the floor, taking it takes one that waits for a stamp at most the floor
pub taken_due : (top x : Mark) (marks fewer : List Mark) (floor : ℕ) → top ≡ slice_index_or marks 0 top → x ≡ slice_index_or marks 0 x → IsPermutation marks (x ∷ fewer) → top.0.0 ≤ floor
    → (s : ℕ) × (s ≤ floor) × (listed_in marks ≡ (λ n b. is_mark s x.0.1 n b || listed_in fewer n b))
taken_due top x marks fewer floor first second moves low = (
  x.0.0,
  subst (λ (m : Mark). m.0.0 ≤ floor) (same_front top x marks fewer first second moves) low,
  listed_fewer x marks fewer moves,
)
