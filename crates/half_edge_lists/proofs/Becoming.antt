-- What a list becomes: the one object with other half-edges, or with another tree.
use Rattle.std.proofs.Common.{◌≡◌, inl, inr, ℕ, ◌%◌, ◌≤◌, ◌<◌, ◌^◌, List, [], ◌∷◌, length, Some, None, Result, refl, sym, ap, subst, ◌∙◌}
use Rattle.std.specs.Prelude.{map}
use Rattle.a1_base.specs.Lists.{IsAmong}
use Rattle.a1_base.specs.declared.place.Addr.{Addr}
use Rattle.a1_base.specs.declared.limits.TheConstants.{SHORT_LIST_LIMIT, SHORT_LIST_AGAIN}
use Rattle.object_view.specs.Agreement.{State}
use Rattle.object_view.specs.Parts.{Moves, Tells, with_bytes}
use Rattle.object_view.specs.Trees.{Becomes}
use Rattle.object_view.proofs.Moving.{moves_beside, moves_then}
use Rattle.object_view.proofs.Standing.{tree_kept}
use Rattle.object_view.specs.declared.parts.PartFault.{PartFault}
use Rattle.object_view.proofs.Views.{here_now, beside, tells_map}
use Rattle.type_schema.specs.declared.objects.Half.{Half}
use Rattle.type_schema.specs.Objects.{IsAddr, half_entry, short_bytes, long_bytes}
use Rattle.type_schema.specs.Structures.{ListBecomes}
use Rattle.half_edge_lists.specs.Steps.{Formed}

-- where other bytes are put at a place that stands, nothing moves
stored_moves : (s t : State) (at : Addr) (below : List Addr) → ((b : Addr) → (b ≡ at → ⊥) → t b ≡ s b)
    → Moves s t (at ∷ below) (at ∷ below)
stored_moves s t at below rest = record {
  others = λ b out off. rest b (λ same. out (inl (sym same)));
  made = λ b i. inl i;
  freed = λ b i. inl i;
}

-- one object with these half-edges, where the places below it were freed
pub short_becomes : (nodes : ℕ) (s u t : State) (at owner : Addr) (halves : List Half) (below : List Addr)
    → Formed nodes at owner halves → length halves ≤ SHORT_LIST_LIMIT → Moves s u below []
    → t ≡ with_bytes at (Some (short_bytes owner (map half_entry halves))) u
    → ListBecomes nodes s t at owner (at ∷ below) halves
short_becomes nodes s u t at owner halves below f few moves e = record {
  now = at ∷ [];
  list = record {
    self = f.self;
    owner_fits = f.owner_fits;
    near = f.near;
    fit = f.fit;
    rising = f.rising;
    form = inl (record {
      bytes = here_now u t at (Some (short_bytes owner (map half_entry halves))) e;
      few = few;
      places_are = refl;
    });
  };
  moves = moves_then s u t (at ∷ below) (at ∷ []) (at ∷ []) (moves_beside s u (at ∷ []) below [] moves)
      (stored_moves u t at [] (beside u t at (Some (short_bytes owner (map half_entry halves))) e));
}

-- the same by the answer of the call that puts the object
pub short_tells : {A : Type 0} (nodes : ℕ) (s u t : State) (at owner : Addr) (halves : List Half) (below : List Addr)
    (r : Result A PartFault) (bytes : List ℕ) → Formed nodes at owner halves → length halves ≤ SHORT_LIST_LIMIT
    → Moves s u below [] → bytes ≡ short_bytes owner (map half_entry halves)
    → Tells r (λ _. t ≡ with_bytes at (Some bytes) u)
    → Tells r (λ _. ListBecomes nodes s t at owner (at ∷ below) halves)
short_tells nodes s u t at owner halves below r bytes f few moves is put =
    tells_map r (λ _. t ≡ with_bytes at (Some bytes) u) (λ _. ListBecomes nodes s t at owner (at ∷ below) halves)
    (λ x e. short_becomes nodes s u t at owner halves below f few moves
    (e ∙ ap (λ (z : List ℕ). with_bytes at (Some z) u) is)) put

-- what stands beside a tree is at none of its later places
pub none_apart : (s u : State) (at : Addr) (below now : List Addr) → (s at ≡ None → ⊥) → (IsAmong at below → ⊥)
    → Moves s u below now → IsAmong at now → ⊥
none_apart s u at below now there apart m i = elim (m.made at i) [ inl j ↦ apart j | inr n ↦ there n ]

apart_other : (at a : Addr) (now : List Addr) → (IsAmong at now → ⊥) → IsAmong a now → a ≡ at → ⊥
apart_other at a now apart i e = apart (subst (λ (x : Addr). IsAmong x now) e i)

-- nothing moves where nothing changes
pub moves_same : (s : State) (ps : List Addr) → Moves s s ps ps
moves_same s ps = record { others = λ b out off. refl; made = λ b i. inl i; freed = λ b i. inl i }

-- the tree of a list became one with these half-edges, and its object has their number
pub long_becomes : (nodes : ℕ) (s u t : State) (at owner anchor : Addr) (halves : List Half) (below : List Addr)
    → (s at ≡ None → ⊥) → (IsAmong at below → ⊥) → Formed nodes at owner halves → SHORT_LIST_AGAIN < length halves
    → length halves < 2 ^ 64 → IsAddr anchor → anchor.region % nodes ≡ at.region % nodes
    → Becomes nodes s u anchor at below (map half_entry halves)
    → t at ≡ Some (long_bytes owner (length halves) anchor) → ((b : Addr) → (b ≡ at → ⊥) → t b ≡ u b)
    → ListBecomes nodes s t at owner (at ∷ below) halves
long_becomes nodes s u t at owner anchor halves below there apart f many count fits near b here rest =
    let off : IsAmong at b.now → ⊥ = none_apart s u at below b.now there apart b.moves in
    record {
      now = at ∷ b.now;
      list = record {
        self = f.self;
        owner_fits = f.owner_fits;
        near = f.near;
        fit = f.fit;
        rising = f.rising;
        form = inr (record {
          anchor = anchor;
          below = b.now;
          bytes = here;
          many = many;
          count = count;
          anchor_fits = fits;
          near = near;
          tree = tree_kept nodes u t anchor at (map half_entry halves) b.now b.tree
              (λ a i. rest a (apart_other at a b.now off i));
          apart = off;
          places_are = refl;
        });
      };
      moves = moves_then s u t (at ∷ below) (at ∷ b.now) (at ∷ b.now)
          (moves_beside s u (at ∷ []) below b.now b.moves) (stored_moves u t at b.now rest);
    }

-- what a list becomes after another change of it
pub list_then : (nodes : ℕ) (s u t : State) (at owner : Addr) (halves : List Half) (ps qs : List Addr)
    → Moves s u ps qs → ListBecomes nodes u t at owner qs halves → ListBecomes nodes s t at owner ps halves
list_then nodes s u t at owner halves ps qs m l =
    record { now = l.now; list = l.list; moves = moves_then s u t ps qs l.now m l.moves }

-- the same by the answer of the call that puts the list's object
pub long_tells : {A : Type 0} (nodes : ℕ) (s u t : State) (at owner anchor : Addr) (halves : List Half)
    (below : List Addr) (r : Result A PartFault) (bytes : List ℕ) → (s at ≡ None → ⊥) → (IsAmong at below → ⊥)
    → Formed nodes at owner halves → SHORT_LIST_AGAIN < length halves → length halves < 2 ^ 64 → IsAddr anchor
    → anchor.region % nodes ≡ at.region % nodes → Becomes nodes s u anchor at below (map half_entry halves)
    → bytes ≡ long_bytes owner (length halves) anchor
    → ((u at ≡ None → ⊥) → Tells r (λ _. t ≡ with_bytes at (Some bytes) u))
    → Tells r (λ _. ListBecomes nodes s t at owner (at ∷ below) halves)
long_tells nodes s u t at owner anchor halves below r bytes there apart f many count fits near b is put =
    let off : IsAmong at b.now → ⊥ = none_apart s u at below b.now there apart b.moves in
    let same : u at ≡ s at = b.moves.others at apart off in
    tells_map r (λ _. t ≡ with_bytes at (Some bytes) u) (λ _. ListBecomes nodes s t at owner (at ∷ below) halves)
    (λ x e. long_becomes nodes s u t at owner anchor halves below there apart f many count fits near b
    (here_now u t at (Some bytes) e ∙ ap (λ (z : List ℕ). Some z) is) (beside u t at (Some bytes) e))
    (put (λ none. there (sym same ∙ none)))

-- a tree went, and its list's object got the half-edges
pub turned_tells : {A : Type 0} (nodes : ℕ) (s u t : State) (at owner : Addr) (halves : List Half) (below : List Addr)
    (r : Result A PartFault) → Moves s u below [] → (IsAmong at below → ⊥) → (s at ≡ None → ⊥)
    → ((u at ≡ None → ⊥) → Tells r (λ _. ListBecomes nodes u t at owner (at ∷ []) halves))
    → Tells r (λ _. ListBecomes nodes s t at owner (at ∷ below) halves)
turned_tells nodes s u t at owner halves below r m apart there put =
    let same : u at ≡ s at = m.others at apart (λ i. i) in
    tells_map r (λ _. ListBecomes nodes u t at owner (at ∷ []) halves)
    (λ _. ListBecomes nodes s t at owner (at ∷ below) halves)
    (λ x l. list_then nodes s u t at owner halves (at ∷ below) (at ∷ []) (moves_beside s u (at ∷ []) below [] m) l)
    (put (λ none. there (sym same ∙ none)))
