-- What is told of an addition, and of what there is.
use Rattle.std.proofs.Common.{◌≡◌, Bool, false, ℕ, ◌+◌, ◌%◌, ◌<◌, ◌^◌, inl, List, ◌++◌, length, Option, Some, None, Result, Ok, Err, refl, sym, ap, subst, ◌∙◌, arith}
use Rattle.std.specs.Prelude.{map, option_map, is_some, IsSome, IsErrAnd}
use Rattle.a1_base.specs.declared.place.Addr.{Addr}
use Rattle.object_view.specs.Agreement.{State}
use Rattle.object_view.specs.Keys.{lookup, inserted}
use Rattle.object_view.specs.Layout.{Entry, entry, entries, word_of}
use Rattle.object_view.specs.Parts.{Tells, Gives, with_bytes}
use Rattle.object_view.specs.Trees.{IsTree, Becomes}
use Rattle.object_view.specs.declared.parts.PartFault.{PartFault}
use Rattle.object_view.specs.declared.parts.PartFault.TheVariants as part
use Rattle.object_view.proofs.Views.{some_not_none}
use Rattle.object_btree.specs.Changes.{InsertTells}
use Rattle.object_btree.specs.Levels.{TallAt}
use Rattle.object_btree.specs.Steps.{Place}
use Rattle.object_btree.proofs.Leaves.{spell_mid}
use Rattle.type_schema.specs.declared.objects.Half.{Half}
use Rattle.type_schema.specs.Objects.{IsAddr, IsHalf, long_bytes, half_key, half_entry}
use Rattle.type_schema.specs.Structures.{IsLong, ListBecomes, half_of, half_at, with_half}
use Rattle.half_edge_lists.specs.Changes.{AddTells}
use Rattle.half_edge_lists.specs.Steps.{Formed}
use Rattle.half_edge_lists.proofs.Becoming.{long_tells}
use Rattle.half_edge_lists.proofs.Placing.{with_fit, with_rising, with_put, with_length}

-- a list with one more half-edge is formed as before
pub with_formed : (nodes : ℕ) (at owner : Addr) (h : Half) (halves : List Half) → Formed nodes at owner halves
    → IsHalf h → Formed nodes at owner (with_half h halves)
with_formed nodes at owner h halves f fits = record {
  self = f.self;
  owner_fits = f.owner_fits;
  near = f.near;
  fit = with_fit h halves fits f.fit;
  rising = with_rising h halves f.rising;
}

some_mapped : {A B : Type 0} (f : A → B) (o : Option A) → IsSome o → IsSome (option_map f o)
some_mapped f None s = s
some_mapped f (Some x) s = refl

-- a word at the key: a half-edge
pub half_some : (kind : ℕ) (far : Addr) (halves : List Half) (found : Option ℕ)
    → found ≡ lookup (half_key kind far) (map half_entry halves) → IsSome found → IsSome (half_at kind far halves)
half_some kind far halves found e s =
    some_mapped (half_of kind far) (lookup (half_key kind far) (map half_entry halves)) (subst IsSome e s)

-- none at the key: no half-edge
pub half_none : (kind : ℕ) (far : Addr) (halves : List Half)
    → lookup (half_key kind far) (map half_entry halves) ≡ None → half_at kind far halves ≡ None
half_none kind far halves n = ap (option_map (half_of kind far)) n

add_err : {A : Type 0} (nodes : ℕ) (s t : State) (at owner : Addr) (halves : List Half) (places : List Addr) (h : Half)
    (e : PartFault) (P : A → Type 0) → Tells (Err e) P → AddTells nodes s t at owner halves places h (Err e)
add_err nodes s t at owner halves places h part.Memory P p = tt
add_err nodes s t at owner halves places h (part.Spent n) P p = tt
add_err nodes s t at owner halves places h (part.Torn a) P p = p
add_err nodes s t at owner halves places h part.Tall P p = absurd p

-- a fault handed on by `?`
pub add_on : (nodes : ℕ) (s t : State) (at owner : Addr) (halves : List Half) (places : List Addr) (h : Half)
    (r : Result Bool PartFault) (e : PartFault) → IsErrAnd r (λ f. f ≡ e)
    → AddTells nodes s t at owner halves places h (Err e) → AddTells nodes s t at owner halves places h r
add_on nodes s t at owner halves places h (Ok b) e is p = absurd is
add_on nodes s t at owner halves places h (Err f) e is p =
    subst (λ (x : PartFault). AddTells nodes s t at owner halves places h (Err x)) (sym is) p

-- the fault of a change
pub add_from : {A : Type 0} (nodes : ℕ) (s t : State) (at owner : Addr) (halves : List Half) (places : List Addr)
    (h : Half) (r : Result Bool PartFault) (e : PartFault) (P : A → Type 0) → IsErrAnd r (λ f. f ≡ e)
    → Tells (Err e) P → AddTells nodes s t at owner halves places h r
add_from nodes s t at owner halves places h r e P is p =
    add_on nodes s t at owner halves places h r e is (add_err nodes s t at owner halves places h e P p)

-- the fault of a look as that of a change
pub gives_tells : {A B : Type 0} (e : PartFault) (want : A) (P : B → Type 0) → Gives (Err e) want → Tells (Err e) P
gives_tells part.Memory want P p = tt
gives_tells (part.Spent n) want P p = absurd p
gives_tells (part.Torn a) want P p = p
gives_tells part.Tall want P p = absurd p

pub not_some : (o : Option ℕ) → is_some o ≡ false → o ≡ None
not_some None n = refl
not_some (Some x) n = absurd cc

pub record PutHalf (h : Half) (halves : List Half) (bytes : List ℕ) : Type 0 where
  pub fresh : lookup (half_key h.kind h.far) (map half_entry halves) ≡ None
  pub spelled : bytes ≡ entries (map half_entry (with_half h halves))
  pub more : length (with_half h halves) ≡ length halves + 1

-- the entries with that of a new half-edge at its place
pub put_half : (h : Half) (halves : List Half) (k front back bytes : List ℕ) (w : ℕ) (found : Option ℕ)
    → k ≡ half_key h.kind h.far → w ≡ word_of h.body → Place k (map half_entry halves) front back found
    → is_some found ≡ false → bytes ≡ front ++ (entry (record { key = k; word = w }) ++ back)
    → PutHalf h halves bytes
put_half h halves k front back bytes w found ke we p none e =
    let fresh : lookup (half_key h.kind h.far) (map half_entry halves) ≡ None =
    ap (λ (x : List ℕ). lookup x (map half_entry halves)) (sym ke) ∙ sym p.old ∙ not_some found none in
    record {
      fresh = fresh;
      spelled = e ∙ spell_mid p.low (record { key = k; word = w }) p.high front back p.front_is p.back_is
          ∙ ap entries (sym (p.result w) ∙ ap (λ (x : List ℕ). inserted x w (map half_entry halves)) ke
          ∙ ap (λ (x : ℕ). inserted (half_key h.kind h.far) x (map half_entry halves)) we
          ∙ sym (with_put h halves));
      more = with_length h halves fresh;
    }

-- ---- in the tree

-- an insertion through a view that stands as an earlier one
pub insert_as : (n m : ℕ) (s v u : State) (anchor owner : Addr) (pairs : List Entry) (at : List Addr) (k : List ℕ)
    (w : ℕ) (r : Result (Option ℕ) PartFault) → n ≡ m → v ≡ s
    → (IsTree n v anchor owner pairs at → InsertTells n v u anchor owner pairs at k w r)
    → IsTree m s anchor owner pairs at → InsertTells m s u anchor owner pairs at k w r
insert_as n m s v u anchor owner pairs at k w r en ev put tree =
    subst (λ (x : ℕ). InsertTells x s u anchor owner pairs at k w r) en
    (subst (λ (x : State). InsertTells n x u anchor owner pairs at k w r) ev
    (put (subst (λ (x : State). IsTree n x anchor owner pairs at) (sym ev)
    (subst (λ (x : ℕ). IsTree x s anchor owner pairs at) (sym en) tree))))

-- the fault of an insertion into the tree of a list
pub add_tall : (nodes : ℕ) (s u t : State) (at owner : Addr) (halves : List Half) (places : List Addr) (h : Half)
    (anchor : Addr) (k : List ℕ) (w : ℕ) (e : PartFault) → (long : IsLong nodes s at owner halves places)
    → long.anchor ≡ anchor → k ≡ half_key h.kind h.far
    → InsertTells nodes s u anchor at (map half_entry halves) long.below k w (Err e)
    → AddTells nodes s t at owner halves places h (Err e)
add_tall nodes s u t at owner halves places h anchor k w part.Memory long ea ke i = tt
add_tall nodes s u t at owner halves places h anchor k w (part.Spent n) long ea ke i = tt
add_tall nodes s u t at owner halves places h anchor k w (part.Torn a) long ea ke i = i
add_tall nodes s u t at owner halves places h anchor k w part.Tall long ea ke i =
    let tall : TallAt nodes s long.anchor at (map half_entry halves) long.below (half_key h.kind h.far) =
    subst (λ (x : List ℕ). TallAt nodes s long.anchor at (map half_entry halves) long.below x) ke
    (subst (λ (x : Addr). TallAt nodes s x at (map half_entry halves) long.below k) (sym ea) i) in
    record {
      long = record {
        anchor = long.anchor;
        below = long.below;
        bytes = long.bytes;
        many = long.many;
        count = long.count;
        anchor_fits = long.anchor_fits;
        near = long.near;
        tree = tall.tree;
        apart = long.apart;
        places_are = long.places_are;
      };
      tall = inl tall.tall;
    }

-- one more half-edge went into the tree, and the list's object has their number
pub long_added : {A : Type 0} (nodes : ℕ) (s u t : State) (at owner : Addr) (halves : List Half) (places : List Addr)
    (h : Half) (anchor : Addr) (k : List ℕ) (w next : ℕ) (bytes : List ℕ) (old : Option ℕ) (r : Result A PartFault)
    → (long : IsLong nodes s at owner halves places) → long.anchor ≡ anchor → Formed nodes at owner halves → IsHalf h
    → k ≡ half_key h.kind h.far → w ≡ word_of h.body → lookup k (map half_entry halves) ≡ None
    → InsertTells nodes s u anchor at (map half_entry halves) long.below k w (Ok old) → next ≡ length halves + 1
    → next < 2 ^ 64 → bytes ≡ long_bytes owner next anchor
    → ((u at ≡ None → ⊥) → Tells r (λ _. t ≡ with_bytes at (Some bytes) u))
    → Tells r (λ _. ListBecomes nodes s t at owner places (with_half h halves))
long_added nodes s u t at owner halves places h anchor k w next bytes old r long ea f fits ke we fresh i one under is put =
    let pairs : inserted k w (map half_entry halves) ≡ map half_entry (with_half h halves) =
    ap (λ (x : List ℕ). inserted x w (map half_entry halves)) ke
    ∙ ap (λ (x : ℕ). inserted (half_key h.kind h.far) x (map half_entry halves)) we ∙ sym (with_put h halves) in
    let more : length (with_half h halves) ≡ length halves + 1 =
    with_length h halves (subst (λ (x : List ℕ). lookup x (map half_entry halves) ≡ None) ke fresh) in
    let many = long.many in
    let becomes : Becomes nodes s u anchor at long.below (map half_entry (with_half h halves)) =
    subst (λ (x : List Entry). Becomes nodes s u anchor at long.below x) pairs i.1 in
    subst (λ (x : List Addr). Tells r (λ _. ListBecomes nodes s t at owner x (with_half h halves))) (sym long.places_are)
    (long_tells nodes s u t at owner anchor (with_half h halves) long.below r bytes (some_not_none (s at) _ long.bytes)
    long.apart (with_formed nodes at owner h halves f fits) (omega (arith, many, more)) (omega (arith, one, under, more))
    (subst (λ (x : Addr). IsAddr x) ea long.anchor_fits)
    (subst (λ (x : Addr). x.region % nodes ≡ at.region % nodes) ea long.near) becomes
    (is ∙ ap (λ (x : ℕ). long_bytes owner x anchor) (one ∙ sym more)) put)
