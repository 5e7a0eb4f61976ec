-- Objects made one behind another, put in their places anew, or taken away.
use Rattle.std.proofs.Common.{◌≡◌, inl, inr, ℕ, ◌%◌, Bool, true, List, [], ◌∷◌, ◌++◌, Some, None, refl, sym, ap, subst, ◌∙◌}
use Rattle.a1_base.specs.Lists.{IsAmong}
use Rattle.a1_base.specs.declared.place.Addr.{Addr}
use Rattle.object_view.specs.Agreement.{State}
use Rattle.object_view.specs.Parts.{Moves, with_bytes}
use Rattle.object_view.specs.Trees.{Distinct}
use Rattle.object_view.proofs.Moving.{moves_then}
use Rattle.object_view.proofs.Standing.{Full, in_left, in_right, in_or, distinct_join}
use Rattle.object_view.proofs.Views.{some_not_none, here_now, beside}

-- bytes known by an equation
pub put_as : (s t : State) (at : Addr) (a b : List ℕ) → t ≡ with_bytes at (Some a) s → a ≡ b
    → t ≡ with_bytes at (Some b) s
put_as s t at a b put e = put ∙ ap (λ (x : List ℕ). with_bytes at (Some x) s) e

-- an object was made where nothing stood
pub placed : (s t : State) (ps : List Addr) (at : Addr) (bytes : List ℕ) → s at ≡ None
    → t ≡ with_bytes at (Some bytes) s → Moves s t ps (ps ++ at ∷ [])
placed s t ps at bytes free put = record {
  others = λ b out off. beside s t at (Some bytes) put b (λ e. off (in_right b ps (at ∷ []) (inl (sym e))));
  made = λ b i. elim (in_or b ps (at ∷ []) i) [
    | inl j ↦ inl j
    | inr j ↦ elim j [ inl e ↦ inr (ap s (sym e) ∙ free) | inr z ↦ absurd z ]
  ];
  freed = λ b i. inl (in_left b ps (at ∷ []) i);
}

-- an object of the part has other bytes
pub rewritten : (s t : State) (ps : List Addr) (at : Addr) (bytes : List ℕ) → IsAmong at ps
    → t ≡ with_bytes at (Some bytes) s → Moves s t ps ps
rewritten s t ps at bytes among put = record {
  others = λ b out off. beside s t at (Some bytes) put b
      (λ e. out (subst (λ (x : Addr). IsAmong x ps) (sym e) among));
  made = λ b i. inl i;
  freed = λ b i. inl i;
}

-- the first object of the part was taken away
pub taken : (s t : State) (at : Addr) (rest : List Addr) → t ≡ with_bytes at None s → Moves s t (at ∷ rest) rest
taken s t at rest put = record {
  others = λ b out off. beside s t at None put b (λ e. out (inl (sym e)));
  made = λ b i. inl (inr i);
  freed = λ b i. elim i [ inl e ↦ inr (ap t (sym e) ∙ here_now s t at None put) | inr j ↦ inl j ];
}

-- a part came to stand on these places, which differ
pub record Built (s t : State) (ps : List Addr) : Type 0 where
  pub moves : Moves s t [] ps
  pub distinct : Distinct ps
  pub full : Full t ps

pub built_none : (s : State) → Built s s []
built_none s = record {
  moves = record { others = λ b out off. refl; made = λ b i. absurd i; freed = λ b i. absurd i };
  distinct = tt;
  full = λ b i. absurd i;
}

pub built_more : (s t u : State) (ps : List Addr) (at : Addr) (bytes : List ℕ) → Built s t ps → t at ≡ None
    → u ≡ with_bytes at (Some bytes) t → Built s u (ps ++ at ∷ [])
built_more s t u ps at bytes built free put =
    let apart : (x : Addr) → IsAmong x ps → x ≡ at → ⊥ = λ x i e. built.full x i (ap t e ∙ free) in
    record {
      moves = moves_then s t u [] ps (ps ++ at ∷ []) built.moves (placed t u ps at bytes free put);
      distinct = distinct_join ps (at ∷ []) built.distinct (λ i. absurd i, tt)
          (λ x i j. elim j [ inl e ↦ apart x i (sym e) | inr z ↦ absurd z ]);
      full = λ x i none. elim (in_or x ps (at ∷ []) i) [
        | inl j ↦ built.full x j (sym (beside t u at (Some bytes) put x (apart x j)) ∙ none)
        | inr j ↦ elim j [
          | inl e ↦ some_not_none (u at) bytes (here_now t u at (Some bytes) put) (ap u e ∙ none)
          | inr z ↦ absurd z
        ]
      ];
    }

-- what stood before is none of the places of a part that was made
pub stood_apart : (s t : State) (at : Addr) (ps : List Addr) → Moves s t [] ps → (s at ≡ None → ⊥) → IsAmong at ps → ⊥
stood_apart s t at ps moves full i = elim (moves.made at i) [ inl z ↦ absurd z | inr free ↦ full free ]

-- a node that the view serves, by another of its addresses, in a later view
pub served_later : (r q : ℕ → Bool) (n m : ℕ) (near at : Addr) → q ≡ r → m ≡ n → near.region % n ≡ at.region % n
    → r (at.region % n) ≡ true → q (near.region % m) ≡ true
served_later r q n m near at same count home served =
    ap (λ (f : ℕ → Bool). f (near.region % m)) same ∙ ap (λ (k : ℕ). r (near.region % k)) count ∙ ap r home ∙ served
