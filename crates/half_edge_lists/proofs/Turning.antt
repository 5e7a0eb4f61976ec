-- The pairs of a tree of half-edges as the entries of one object.
use Rattle.std.proofs.Common.{◌≡◌, ℕ, zero, suc, ◌+◌, ◌<◌, List, [], ◌∷◌, ◌++◌, length, take, get_or, refl, sym, ap, ◌∙◌, arith}
use Rattle.std.specs.Prelude.{map}
use Rattle.std.proofs.lemmas.List.{map-append}
use Rattle.object_view.specs.Layout.{entry, entries}
use Rattle.object_btree.specs.Intervals.{Pair}
use Rattle.object_btree.proofs.Scans.{entries_append}
use Rattle.type_schema.specs.declared.objects.Half.{Half}
use Rattle.type_schema.specs.Objects.{half_entry}
use Rattle.half_edge_lists.specs.Forms.{half_pair}

-- the half-edge of the pair at a place
pub record NthHalf (halves : List Half) (i : ℕ) (p : Pair) : Type 0 where
  pub half : Half
  pub pair_is : p ≡ half_pair half
  pub more : take (i + 1) halves ≡ take i halves ++ half ∷ []

pub nth_half : (halves : List Half) (i : ℕ) (p d : Pair) → i < length halves → p ≡ get_or (map half_pair halves) i d
    → NthHalf halves i p
nth_half [] i p d lt e = absurd (omega (arith, lt))
nth_half (x ∷ xs) zero p d lt e = record { half = x; pair_is = e; more = refl }
nth_half (x ∷ xs) (suc i) p d lt e =
    let r : NthHalf xs i p = nth_half xs i p d (omega (arith, lt)) e in
    let n : suc i + 1 ≡ suc (i + 1) = omega arith in
    record {
      half = r.half;
      pair_is = r.pair_is;
      more = ap (λ (m : ℕ). take m (x ∷ xs)) n ∙ ap (λ (t : List Half). x ∷ t) r.more;
    }

pub nth_key : (halves : List Half) (i : ℕ) (p : Pair) → NthHalf halves i p → length p.0 ≡ 12
nth_key halves i p n = ap (λ (q : Pair). length q.0) n.pair_is

-- one more entry behind the others
pub spell_next : (halves : List Half) (i : ℕ) (p : Pair) (out one next : List ℕ) → NthHalf halves i p
    → out ≡ entries (map half_entry (take i halves)) → one ≡ entry (record { key = p.0; word = p.1 }) ++ []
    → next ≡ out ++ one → next ≡ entries (map half_entry (take (i + 1) halves))
spell_next halves i p out one next n o f e =
    e ∙ ap (λ (x : List ℕ). x ++ one) o
    ∙ ap (λ (x : List ℕ). entries (map half_entry (take i halves)) ++ x)
    (f ∙ ap (λ (q : Pair). entry (record { key = q.0; word = q.1 }) ++ []) n.pair_is)
    ∙ sym (entries_append (map half_entry (take i halves)) (half_entry n.half ∷ []))
    ∙ ap entries (sym (map-append half_entry (take i halves) (n.half ∷ []))
    ∙ ap (map half_entry) (sym n.more))
