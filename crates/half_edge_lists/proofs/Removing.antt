-- What is told of a removal.
use Rattle.std.proofs.Common.{◌≡◌, inl, true, false, ℕ, ◌+◌, ◌%◌, List, ◌++◌, [], ◌∷◌, length, Option, Some, None, Result, refl, sym, ap, subst, ◌∙◌, arith}
use Rattle.std.specs.Prelude.{map, is_some}
use Rattle.std.specs.declared.cmp.Ordering.{Ordering}
use Rattle.std.specs.declared.cmp.Ordering.TheVariants.{Less, Equal, Greater}
use Rattle.a1_base.specs.Lists.{IsAmong}
use Rattle.a1_base.specs.declared.place.Addr.{Addr}
use Rattle.object_view.specs.Agreement.{State}
use Rattle.object_view.specs.Keys.{compare, by_order, lookup}
use Rattle.object_view.specs.Layout.{Entry, entries}
use Rattle.object_view.specs.Parts.{Tells}
use Rattle.object_view.specs.Trees.{IsTree, Becomes}
use Rattle.object_view.specs.declared.parts.PartFault.{PartFault}
use Rattle.object_view.proofs.Moving.{moves_beside}
use Rattle.object_view.proofs.Views.{some_not_none, tells_map}
use Rattle.object_btree.specs.Changes.{RemoveTells}
use Rattle.object_btree.specs.Steps.{Place}
use Rattle.object_btree.proofs.Scans.{entries_append}
use Rattle.type_schema.specs.declared.objects.Half.{Half}
use Rattle.type_schema.specs.Objects.{IsAddr, half_key, half_entry}
use Rattle.type_schema.specs.Structures.{IsShort, IsLong, ListBecomes, without_half}
use Rattle.half_edge_lists.specs.Steps.{Formed, ListTaken}
use Rattle.half_edge_lists.proofs.Adding.{not_some}
use Rattle.half_edge_lists.proofs.Becoming.{moves_same, none_apart, long_becomes, list_then}
use Rattle.half_edge_lists.proofs.Placing.{without_fit, without_rising, without_take, without_length}

-- a list with one half-edge less is formed as before
pub without_formed : (nodes : ℕ) (at owner : Addr) (kind : ℕ) (far : Addr) (halves : List Half)
    → Formed nodes at owner halves → Formed nodes at owner (without_half kind far halves)
without_formed nodes at owner kind far halves f = record {
  self = f.self;
  owner_fits = f.owner_fits;
  near = f.near;
  fit = without_fit kind far halves f.fit;
  rising = without_rising kind far halves f.rising;
}

some_not : (w : ℕ) → ◌≡◌ {A = Option ℕ} (Some w) None → ⊥
some_not w e = cc

none_order : (o : Ordering) (x : Half) (xs ys : List Half) (w : ℕ) (rest : Option ℕ)
    → by_order o rest (Some w) None ≡ None → (rest ≡ None → ys ≡ xs) → by_order o (x ∷ ys) xs (x ∷ xs) ≡ x ∷ xs
none_order Less x xs ys w rest n e = ap (λ (t : List Half). x ∷ t) (e n)
none_order Equal x xs ys w rest n e = absurd (some_not w n)
none_order Greater x xs ys w rest n e = refl

-- nothing goes where nothing is at the key
pub without_none : (kind : ℕ) (far : Addr) (hs : List Half) → lookup (half_key kind far) (map half_entry hs) ≡ None
    → without_half kind far hs ≡ hs
without_none kind far [] n = refl
without_none kind far (x ∷ xs) n = none_order (compare (half_key x.kind x.far) (half_key kind far)) x xs
    (without_half kind far xs) (half_entry x).word (lookup (half_key kind far) (map half_entry xs)) n
    (without_none kind far xs)

some_is : (o : Option ℕ) → is_some o ≡ true → (w : ℕ) × (o ≡ Some w)
some_is None n = absurd cc
some_is (Some w) n = (w, refl)

-- the one object stays where nothing is at the key
pub short_stays : (nodes : ℕ) (s : State) (at owner : Addr) (kind : ℕ) (far : Addr) (halves : List Half)
    (places : List Addr) → Formed nodes at owner halves → IsShort s at owner halves places
    → lookup (half_key kind far) (map half_entry halves) ≡ None
    → ListTaken nodes s s at owner kind far halves places None
short_stays nodes s at owner kind far halves places f short none = record {
  old_is = sym none;
  becomes = subst (λ (x : List Half). ListBecomes nodes s s at owner places x)
      (sym (without_none kind far halves none)) (record {
        now = places;
        list = record {
          self = f.self;
          owner_fits = f.owner_fits;
          near = f.near;
          fit = f.fit;
          rising = f.rising;
          form = inl short;
        };
        moves = moves_same s places;
      });
}

-- the entries without that of a half-edge
pub record LessHalf (kind : ℕ) (far : Addr) (halves : List Half) (bytes : List ℕ) (found : Option ℕ) : Type 0 where
  pub old : found ≡ lookup (half_key kind far) (map half_entry halves)
  pub spelled : bytes ≡ entries (map half_entry (without_half kind far halves))

pub less_half : (kind : ℕ) (far : Addr) (halves : List Half) (k front back bytes : List ℕ) (found : Option ℕ)
    → k ≡ half_key kind far → Place k (map half_entry halves) front back found → bytes ≡ front ++ back
    → LessHalf kind far halves bytes found
less_half kind far halves k front back bytes found ke place e =
    let p : Place (half_key kind far) (map half_entry halves) front back found =
    subst (λ (x : List ℕ). Place x (map half_entry halves) front back found) ke place in
    record {
      old = p.old;
      spelled = e ∙ ap (λ (x : List ℕ). x ++ back) p.front_is ∙ ap (λ (x : List ℕ). entries p.low ++ x) p.back_is
          ∙ sym (entries_append p.low p.high) ∙ ap entries (sym p.gone ∙ sym (without_take kind far halves));
    }

-- where a word was found, one half-edge less is left
pub less_length : (kind : ℕ) (far : Addr) (halves : List Half) (found : Option ℕ)
    → found ≡ lookup (half_key kind far) (map half_entry halves) → is_some found ≡ true
    → length halves ≡ length (without_half kind far halves) + 1
less_length kind far halves found e some =
    let w = some_is found some in without_length kind far w.0 halves (sym e ∙ w.1)

-- ---- out of the tree

taken_as : (nodes : ℕ) (s u : State) (anchor at : Addr) (kind : ℕ) (far : Addr) (halves : List Half) (below : List Addr)
    (k : List ℕ) (found : Option ℕ) → k ≡ half_key kind far
    → RemoveTells nodes s u anchor at (map half_entry halves) below k found
    → (found ≡ lookup (half_key kind far) (map half_entry halves))
    × Becomes nodes s u anchor at below (map half_entry (without_half kind far halves))
taken_as nodes s u anchor at kind far halves below k found ke taken =
    let t : RemoveTells nodes s u anchor at (map half_entry halves) below (half_key kind far) found =
    subst (λ (x : List ℕ). RemoveTells nodes s u anchor at (map half_entry halves) below x found) ke taken in (
      t.old_is,
      subst (λ (x : List Entry). Becomes nodes s u anchor at below x) (sym (without_take kind far halves))
          t.becomes,
    )

-- the list in a tree stays where nothing is at the key
pub long_stays : (nodes : ℕ) (s u : State) (at owner : Addr) (kind : ℕ) (far : Addr) (halves : List Half)
    (places : List Addr) (anchor : Addr) (k : List ℕ) (found : Option ℕ) → (long : IsLong nodes s at owner halves places)
    → long.anchor ≡ anchor → Formed nodes at owner halves → k ≡ half_key kind far
    → RemoveTells nodes s u anchor at (map half_entry halves) long.below k found → is_some found ≡ false
    → ListTaken nodes s u at owner kind far halves places None
long_stays nodes s u at owner kind far halves places anchor k found long ea f ke taken free =
    let t = taken_as nodes s u anchor at kind far halves long.below k found ke taken in
    let none : lookup (half_key kind far) (map half_entry halves) ≡ None = sym t.0 ∙ not_some found free in
    let same : without_half kind far halves ≡ halves = without_none kind far halves none in
    let b : Becomes nodes s u long.anchor at long.below (map half_entry halves) =
    subst (λ (x : Addr). Becomes nodes s u x at long.below (map half_entry halves)) (sym ea)
    (subst (λ (x : List Half). Becomes nodes s u anchor at long.below (map half_entry x)) same t.1) in
    let there : s at ≡ None → ⊥ = some_not_none (s at) _ long.bytes in
    let off : IsAmong at b.now → ⊥ = none_apart s u at long.below b.now there long.apart b.moves in
    record {
      old_is = sym none;
      becomes = subst (λ (x : List Half). ListBecomes nodes s u at owner places x) (sym same)
          (subst (λ (x : List Addr). ListBecomes nodes s u at owner x halves) (sym long.places_are)
          (long_becomes nodes s u u at owner long.anchor halves long.below there long.apart f long.many long.count
          long.anchor_fits long.near b (b.moves.others at long.apart off ∙ long.bytes) (λ a n. refl)));
    }

-- the tree lost a half-edge, and then the list was settled
pub long_taken : {A : Type 0} (nodes : ℕ) (s u t : State) (at owner : Addr) (kind : ℕ) (far : Addr) (halves : List Half)
    (places : List Addr) (anchor : Addr) (k : List ℕ) (found : Option ℕ) (next : ℕ) (r : Result A PartFault)
    → (long : IsLong nodes s at owner halves places) → long.anchor ≡ anchor → Formed nodes at owner halves
    → k ≡ half_key kind far → RemoveTells nodes s u anchor at (map half_entry halves) long.below k found
    → is_some found ≡ true → next + 1 ≡ length halves
    → ((hs : List Half) (qs : List Addr) → Formed nodes at owner hs → (u at ≡ None → ⊥) → (IsAmong at qs → ⊥)
    → IsTree nodes u anchor at (map half_entry hs) qs → IsAddr anchor → anchor.region % nodes ≡ at.region % nodes
    → next ≡ length hs → Tells r (λ _. ListBecomes nodes u t at owner (at ∷ qs) hs))
    → Tells r (λ _. ListTaken nodes s t at owner kind far halves places found)
long_taken nodes s u t at owner kind far halves places anchor k found next r long ea f ke taken some one put =
    let x = taken_as nodes s u anchor at kind far halves long.below k found ke taken in
    let b : Becomes nodes s u anchor at long.below (map half_entry (without_half kind far halves)) = x.1 in
    let there : s at ≡ None → ⊥ = some_not_none (s at) _ long.bytes in
    let off : IsAmong at b.now → ⊥ = none_apart s u at long.below b.now there long.apart b.moves in
    let same : u at ≡ s at = b.moves.others at long.apart off in
    let less : length halves ≡ length (without_half kind far halves) + 1 = less_length kind far halves found x.0 some in
    tells_map r (λ _. ListBecomes nodes u t at owner (at ∷ b.now) (without_half kind far halves))
    (λ _. ListTaken nodes s t at owner kind far halves places found)
    (λ v l. record {
      old_is = x.0;
      becomes = subst (λ (ps : List Addr). ListBecomes nodes s t at owner ps (without_half kind far halves))
          (sym long.places_are) (list_then nodes s u t at owner (without_half kind far halves) (at ∷ long.below)
          (at ∷ b.now) (moves_beside s u (at ∷ []) long.below b.now b.moves) l);
    })
    (put (without_half kind far halves) b.now (without_formed nodes at owner kind far halves f)
    (λ none. there (sym same ∙ none)) off b.tree (subst (λ (a : Addr). IsAddr a) ea long.anchor_fits)
    (subst (λ (a : Addr). a.region % nodes ≡ at.region % nodes) ea long.near) (omega (arith, one, less)))
