-- The entries of half-edges, read one by one and put into a tree.
use Rattle.std.proofs.Common.{◌≡◌, ℕ, ◌+◌, ◌*◌, ◌≤◌, ◌<◌, List, [], ◌∷◌, ◌++◌, length, Option, Some, None, Ok, Err, refl, sym, ap, subst, ◌∙◌, append_assoc, arith}
use Rattle.std.specs.Prelude.{map}
use Rattle.std.specs.List.{AllByRecursion}
use Rattle.std.proofs.lemmas.List.{length-append, length-map, append-nil}
use Rattle.a1_base.specs.declared.place.Addr.{Addr}
use Rattle.object_view.specs.Agreement.{State}
use Rattle.object_view.specs.Keys.{inserted}
use Rattle.object_view.specs.Layout.{Entry, entry, entries, entry_at}
use Rattle.object_view.specs.Parts.{Tells}
use Rattle.object_view.specs.Trees.{IsTree, Becomes}
use Rattle.object_view.specs.declared.parts.PartFault.{PartFault}
use Rattle.object_view.specs.declared.parts.PartFault.TheVariants as part
use Rattle.object_view.proofs.Layouts.{entry_again, some_is}
use Rattle.object_view.proofs.Moving.{moves_then}
use Rattle.object_btree.specs.Changes.{InsertTells}
use Rattle.type_schema.specs.declared.objects.Half.{Half}
use Rattle.type_schema.specs.Objects.{IsHalf, half_entry}
use Rattle.type_schema.specs.Structures.{Rising}
use Rattle.half_edge_lists.specs.Steps.{Filled}
use Rattle.half_edge_lists.proofs.Halves.{half_fits}
use Rattle.half_edge_lists.proofs.Placing.{put_last}
use Rattle.half_edge_lists.proofs.Sizes.{tall_many}

-- an entry of a half-edge has 22 bytes
pub entries_length : (hs : List Half) → length (entries (map half_entry hs)) ≡ 22 * length hs
entries_length [] = refl
entries_length (h ∷ hs) =
    let r : length (entries (map half_entry hs)) ≡ 22 * length hs = entries_length hs in
    let one : length (entry (half_entry h)) ≡ 22 = refl in
    omega (arith, r, one, length-append (entry (half_entry h)) (entries (map half_entry hs)))

pub record NextHalf (left : List Half) (e : Entry) (after : List ℕ) : Type 0 where
  pub here : Half
  pub more : List Half
  pub are : left ≡ here ∷ more
  pub entry_is : e ≡ half_entry here
  pub fit : AllByRecursion IsHalf more
  pub after_is : after ≡ entries (map half_entry more)

-- bytes that are left begin with the entry of a half-edge
pub next_half : (rest : List ℕ) (left : List Half) (e : Entry) (after : List ℕ) → AllByRecursion IsHalf left
    → rest ≡ entries (map half_entry left) → 0 < length rest → entry_at rest ≡ Some (e, after) → NextHalf left e after
next_half rest [] e after fit h long some = let z : length rest ≡ 0 = ap length h in absurd (omega arith)
next_half rest (x ∷ xs) e after fit h long some =
    let one : entry_at rest ≡ Some (half_entry x, entries (map half_entry xs)) =
    ap entry_at h ∙ entry_again (half_entry x) (entries (map half_entry xs)) (half_fits x fit.0) in
    let pair : ◌≡◌ {A = Entry × List ℕ} (e, after) (half_entry x, entries (map half_entry xs)) =
    some_is _ _ (sym some ∙ one) in
    record {
      here = x;
      more = xs;
      are = refl;
      entry_is = ap (λ (p : Entry × List ℕ). p.0) pair;
      fit = fit.1;
      after_is = ap (λ (p : Entry × List ℕ). p.1) pair;
    }

-- its key has 12 bytes
pub next_key : (left : List Half) (e : Entry) (after : List ℕ) → NextHalf left e after → length e.key ≡ 12
next_key left e after n = ap (λ (x : Entry). length x.key) n.entry_is

pub filled_few : (nodes : ℕ) (s t : State) (anchor at : Addr) (places : List Addr) (halves : List Half)
    (rest : List ℕ) (count : ℕ) → (f : Filled nodes s t anchor at places halves rest count)
    → length halves ≡ length f.done + length f.left
filled_few nodes s t anchor at places halves rest count f =
    let a : length (map half_entry halves) ≡ length (f.done ++ map half_entry f.left) = ap length f.are in
    omega (
      arith,
      a,
      length-append f.done (map half_entry f.left),
      length-map halves half_entry,
      length-map f.left half_entry,
    )

-- one more entry went into the tree
pub filled_more : (nodes : ℕ) (s t u : State) (anchor at : Addr) (places : List Addr) (halves : List Half)
    (rest : List ℕ) (count next : ℕ) (e : Entry) (after : List ℕ) (old : Option ℕ) → Rising (map half_entry halves)
    → (f : Filled nodes s t anchor at places halves rest count) → NextHalf f.left e after
    → InsertTells nodes t u anchor at f.done f.becomes.now e.key e.word (Ok old) → next ≡ count + 1
    → Filled nodes s u anchor at places halves after next
filled_more nodes s t u anchor at places halves rest count next e after old rising f n (o, b) one =
    let are : map half_entry halves ≡ f.done ++ e ∷ map half_entry n.more =
    f.are ∙ ap (λ (x : List Half). f.done ++ map half_entry x) n.are
    ∙ ap (λ (x : Entry). f.done ++ x ∷ map half_entry n.more) (sym n.entry_is) in
    let put : inserted e.key e.word f.done ≡ f.done ++ e ∷ [] =
    put_last (Some []) None f.done e (map half_entry n.more) (subst (λ (x : List Entry). Rising x) are rising) in
    let c : count ≡ length f.done = f.count_is in
    record {
      done = f.done ++ e ∷ [];
      left = n.more;
      fit = n.fit;
      are = are ∙ sym (append_assoc f.done (e ∷ []) (map half_entry n.more));
      rest_is = n.after_is;
      count_is = omega (arith, one, c, length-append f.done (e ∷ []));
      becomes = record {
        now = b.now;
        tree = subst (λ (x : List Entry). IsTree nodes u anchor at x b.now) put b.tree;
        moves = moves_then s t u places f.becomes.now b.now f.becomes.moves b.moves;
      };
    }

-- all went into it
pub filled_all : (nodes : ℕ) (s t : State) (anchor at : Addr) (places : List Addr) (halves : List Half)
    (rest : List ℕ) (count : ℕ) → Filled nodes s t anchor at places halves rest count → length rest ≤ 0
    → (count ≡ length halves) × Becomes nodes s t anchor at places (map half_entry halves)
filled_all nodes s t anchor at places halves rest count f short =
    let r : length rest ≡ length (entries (map half_entry f.left)) = ap length f.rest_is in
    let few : length halves ≡ length f.done + length f.left = filled_few nodes s t anchor at places halves rest count f in
    let c : count ≡ length f.done = f.count_is in
    let left : length f.left ≡ 0 = omega (arith, r, short, entries_length f.left) in
    let are : map half_entry halves ≡ f.done = f.are ∙ ap (λ (x : List Half). f.done ++ map half_entry x)
    (none_in f.left left) ∙ append-nil f.done in (
      omega (arith, few, c, left),
      subst (λ (x : List Entry). Becomes nodes s t anchor at places x) (sym are) f.becomes,
    ) where
      none_in : (xs : List Half) → length xs ≡ 0 → xs ≡ []
      none_in [] h = refl
      none_in (x ∷ xs) h = absurd (omega (arith, h))

-- an insertion into a tree of few pairs never wants a 17th level
pub few_tells : {A : Type 0} (nodes : ℕ) (s t : State) (anchor owner : Addr) (pairs : List Entry) (at : List Addr)
    (k : List ℕ) (v : ℕ) (e : PartFault) (P : A → Type 0) → length pairs ≤ 1001
    → InsertTells nodes s t anchor owner pairs at k v (Err e) → Tells {A = A} (Err e) P
few_tells nodes s t anchor owner pairs at k v part.Memory P few i = tt
few_tells nodes s t anchor owner pairs at k v (part.Spent n) P few i = tt
few_tells nodes s t anchor owner pairs at k v (part.Torn a) P few i = i
few_tells nodes s t anchor owner pairs at k v part.Tall P few i =
    let many : 1001 < length pairs = tall_many nodes s anchor owner pairs at k i in absurd (omega (arith, few, many))
