-- Half-edges read one behind another, from entries and from pairs.
use Rattle.std.proofs.Common.{◌≡◌, ℕ, zero, suc, ◌+◌, ◌<◌, ◌≤◌, List, [], ◌∷◌, ◌++◌, length, take, get_or, Some, refl, sym, ap, ◌∙◌, append_assoc, arith}
use Rattle.std.specs.Prelude.{map, option_map}
use Rattle.std.specs.List.{AllByRecursion}
use Rattle.std.proofs.lemmas.List.{append-nil}
use Rattle.object_view.specs.Layout.{Entry, entries, entry_at}
use Rattle.object_view.proofs.Layouts.{some_is, entry_again, entry_long}
use Rattle.object_btree.specs.Intervals.{Pair}
use Rattle.type_schema.specs.declared.objects.Half.{Half}
use Rattle.type_schema.specs.Objects.{IsHalf, half_entry, half_key_of}
use Rattle.type_schema.specs.Structures.{half_of}
use Rattle.half_edge_lists.specs.Forms.{half_pair}
use Rattle.half_edge_lists.proofs.Halves.{half_fits, half_back}

-- ---- from entries

-- the first of them
pub record HalfStep (more : List Half) (key : List ℕ) (word : ℕ) (after : List ℕ) : Type 0 where
  pub here : Half
  pub back : List Half
  pub are : more ≡ here ∷ back
  pub fit : AllByRecursion IsHalf back
  pub spelled : after ≡ entries (map half_entry back)
  pub read : option_map (λ x. half_of x.0 x.1 word) (half_key_of key) ≡ Some here

read_half : (h : Half) (key : List ℕ) (word : ℕ) → IsHalf h → half_entry h ≡ record { key = key; word = word }
    → option_map (λ x. half_of x.0 x.1 word) (half_key_of key) ≡ Some h
read_half h key word f e =
    ap (λ (d : Entry). option_map (λ x. half_of x.0 x.1 d.word) (half_key_of d.key)) (sym e) ∙ half_back h f

-- entries that are left begin with a half-edge's
pub half_step : (bytes : List ℕ) (more : List Half) (key : List ℕ) (word : ℕ) (after : List ℕ)
    → AllByRecursion IsHalf more → bytes ≡ entries (map half_entry more) → 0 < length bytes
    → entry_at bytes ≡ Some (record { key = key; word = word }, after) → HalfStep more key word after
half_step bytes [] key word after f e long some = let z : length bytes ≡ 0 = ap length e in absurd (omega (arith, z, long))
half_step bytes (h ∷ hs) key word after f e long some =
    let p : ◌≡◌ {A = Entry × List ℕ} (half_entry h, entries (map half_entry hs))
    (record { key = key; word = word }, after) =
    some_is _ _ (sym (ap entry_at e ∙ entry_again (half_entry h) (entries (map half_entry hs)) (half_fits h f.0)) ∙ some) in
    record {
      here = h;
      back = hs;
      are = refl;
      fit = f.1;
      spelled = sym (ap (λ (q : Entry × List ℕ). q.1) p);
      read = read_half h key word f.0 (ap (λ (q : Entry × List ℕ). q.0) p);
    }

-- how far they are read, where so many more are wanted
pub record Halfway (halves : List Half) (limit : ℕ) (out : List Half) (rest : List ℕ) (left : ℕ) : Type 0 where
  pub more : List Half
  pub fit : AllByRecursion IsHalf more
  pub spelled : rest ≡ entries (map half_entry more)
  pub taken : take limit halves ≡ out ++ take left more

take_next : (h : Half) (hs : List Half) (n m : ℕ) → n ≡ suc m → take n (h ∷ hs) ≡ h ∷ take m hs
take_next h hs n m e = ap (λ (k : ℕ). take k (h ∷ hs)) e

-- and one more
pub halfway_on : (halves : List Half) (limit : ℕ) (out : List Half) (rest : List ℕ) (left : ℕ) (key : List ℕ)
    (word : ℕ) (after : List ℕ) (half : Half) (now : List Half) (m : ℕ) → Halfway halves limit out rest left
    → left ≡ suc m → 0 < length rest → entry_at rest ≡ Some (record { key = key; word = word }, after)
    → Some half ≡ option_map (λ x. half_of x.0 x.1 word) (half_key_of key) → now ≡ out ++ half ∷ []
    → Halfway halves limit now after m
halfway_on halves limit out rest left key word after half now m w one long some got grown =
    let s : HalfStep w.more key word after = half_step rest w.more key word after w.fit w.spelled long some in
    let same : half ≡ s.here = some_is _ _ (got ∙ s.read) in
    record {
      more = s.back;
      fit = s.fit;
      spelled = s.spelled;
      taken = w.taken ∙ ap (λ (t : List Half). out ++ take left t) s.are
          ∙ ap (λ (t : List Half). out ++ t) (take_next s.here s.back left m one)
          ∙ ap (λ (t : Half). out ++ t ∷ take m s.back) (sym same)
          ∙ sym (append_assoc out (half ∷ []) (take m s.back))
          ∙ ap (λ (t : List Half). t ++ take m s.back) (sym grown);
    }

take_nil : (n : ℕ) → take {A = Half} n [] ≡ []
take_nil zero = refl
take_nil (suc n) = refl

take_none : (n : ℕ) (hs : List Half) → n ≡ 0 → take n hs ≡ []
take_none n hs e = ap (λ (k : ℕ). take k hs) e

-- none more are wanted
pub halfway_full : (halves : List Half) (limit : ℕ) (out : List Half) (rest : List ℕ) (left : ℕ)
    → Halfway halves limit out rest left → left ≡ 0 → out ≡ take limit halves
halfway_full halves limit out rest left w e = sym (w.taken
    ∙ ap (λ (t : List Half). out ++ t) (take_none left w.more e) ∙ append-nil out)

none_spelled : (bytes : List ℕ) (hs : List Half) → bytes ≡ entries (map half_entry hs) → length bytes ≡ 0 → hs ≡ []
none_spelled bytes [] e z = refl
none_spelled bytes (h ∷ hs) e z =
    let n : length bytes ≡ length (entries (half_entry h ∷ map half_entry hs)) = ap length e in
    absurd (omega (arith, z, n, entry_long (half_entry h) (entries (map half_entry hs))))

-- none more are there
pub halfway_all : (halves : List Half) (limit : ℕ) (out : List Half) (rest : List ℕ) (left : ℕ)
    → Halfway halves limit out rest left → length rest ≡ 0 → out ≡ take limit halves
halfway_all halves limit out rest left w z = sym (w.taken
    ∙ ap (λ (t : List Half). out ++ take left t) (none_spelled rest w.more w.spelled z)
    ∙ ap (λ (t : List Half). out ++ t) (take_nil left) ∙ append-nil out)

-- ---- from pairs

-- the next of them
pub record PairStep (hs : List Half) (i : ℕ) (key : List ℕ) (word : ℕ) : Type 0 where
  pub here : Half
  pub read : option_map (λ x. half_of x.0 x.1 word) (half_key_of key) ≡ Some here
  pub taken : take (i + 1) hs ≡ take i hs ++ here ∷ []

pair_first : (h : Half) (hs : List Half) (p : Pair) → IsHalf h → p ≡ half_pair h → PairStep (h ∷ hs) 0 p.0 p.1
pair_first h hs p f e = record {
  here = h;
  read = ap (λ (q : Pair). option_map (λ x. half_of x.0 x.1 q.1) (half_key_of q.0)) e ∙ half_back h f;
  taken = refl;
}

pair_next : (h : Half) (hs : List Half) (i : ℕ) (p : Pair) → PairStep hs i p.0 p.1 → PairStep (h ∷ hs) (suc i) p.0 p.1
pair_next h hs i p s = record {
  here = s.here;
  read = s.read;
  taken = take_next h hs (suc i + 1) (i + 1) (omega arith) ∙ ap (λ (t : List Half). h ∷ t) s.taken;
}

-- a pair that is there is a half-edge's
pub pair_step : (hs : List Half) (i : ℕ) (p : Pair) → AllByRecursion IsHalf hs → i < length (map half_pair hs)
    → p ≡ get_or (map half_pair hs) i p → PairStep hs i p.0 p.1
pair_step [] i p f lt e = absurd (omega (arith, lt))
pair_step (h ∷ hs) zero p f lt e = pair_first h hs p f.0 e
pair_step (h ∷ hs) (suc i) p f lt e = pair_next h hs i p (pair_step hs i p f.1 (omega (arith, lt)) e)

-- as many as there are, or more, are all
pub take_whole : (hs : List Half) (n : ℕ) → length hs ≤ n → take n hs ≡ hs
take_whole [] n h = take_nil n
take_whole (x ∷ xs) zero h = absurd (omega (arith, h))
take_whole (x ∷ xs) (suc n) h = ap (λ (t : List Half). x ∷ t) (take_whole xs n (omega (arith, h)))
