-- What moves follows what moved before, and moves within a larger part.
use Rattle.std.proofs.Common.{◌≡◌, ◌⊎◌, inl, inr, List, [], ◌∷◌, ◌++◌, ℕ, sym, ◌∙◌, Bool, true, false, ap}
use Rattle.a1_base.specs.declared.place.Addr.{Addr}
use Rattle.a1_base.specs.Lists.{IsAmong}
use Rattle.object_view.specs.Agreement.{Seen, Overlay, State, same_addr}
use Rattle.object_view.specs.Parts.{Moves, Onward}
use Rattle.object_view.proofs.Addresses.{same_or, same_itself}

away : (a b : Addr) → same_addr a b ≡ false → a ≡ b → ⊥
away a b f e = let t : same_addr a b ≡ true = ap (same_addr a) (sym e) ∙ same_itself a in absurd cc

among_or : (b : Addr) (xs : List Addr) → IsAmong b xs ⊎ (IsAmong b xs → ⊥)
among_or b [] = inr (λ i. i)
among_or b (x ∷ xs) = elim (same_or x b) [
  | inl s ↦ inl (inl s.1)
  | inr f ↦ elim (among_or b xs) [
    | inl i ↦ inl (inr i)
    | inr n ↦ inr
        (λ i. elim i [ inl e ↦ away x b f e | inr j ↦ n j ])
  ]
]

in_front : (b : Addr) (xs ys : List Addr) → IsAmong b xs → IsAmong b (xs ++ ys)
in_front b [] ys i = absurd i
in_front b (x ∷ xs) ys (inl e) = inl e
in_front b (x ∷ xs) ys (inr i) = inr (in_front b xs ys i)

behind : (b : Addr) (xs ys : List Addr) → IsAmong b ys → IsAmong b (xs ++ ys)
behind b [] ys i = i
behind b (x ∷ xs) ys i = inr (behind b xs ys i)

in_either : (b : Addr) (xs ys : List Addr) → IsAmong b (xs ++ ys) → IsAmong b xs ⊎ IsAmong b ys
in_either b [] ys i = inr i
in_either b (x ∷ xs) ys (inl e) = inl (inl e)
in_either b (x ∷ xs) ys (inr i) = elim (in_either b xs ys i) [ inl j ↦ inl (inr j) | inr j ↦ inr j ]

-- one change behind another
pub moves_then : (s t u : State) (ps qs rs : List Addr) → Moves s t ps qs → Moves t u qs rs → Moves s u ps rs
moves_then s t u ps qs rs m k = record {
  others = λ b out off. elim (among_or b qs) [
    | inl i ↦ elim (k.freed b i) [
      | inl j ↦ absurd (off j)
      | inr gone ↦ elim (m.made b i) [ inl j ↦ absurd (out j) | inr free ↦ gone ∙ sym free ]
    ]
    | inr n ↦ k.others b n off ∙ m.others b out n
  ];
  made = λ b i. elim (k.made b i) [
    | inl j ↦ m.made b j
    | inr free ↦ elim (among_or b qs) [
      | inl j ↦ m.made b j
      | inr n ↦ elim (among_or b ps) [ inl j ↦ inl j | inr out ↦ inr (sym (m.others b out n) ∙ free) ]
    ]
  ];
  freed = λ b i. elim (m.freed b i) [
    | inl j ↦ k.freed b j
    | inr gone ↦ elim (among_or b qs) [
      | inl j ↦ k.freed b j
      | inr n ↦ elim (among_or b rs) [ inl j ↦ inl j | inr off ↦ inr (k.others b n off ∙ gone) ]
    ]
  ];
}

-- beside places of the same part that stay
pub moves_beside : (s t : State) (xs ps qs : List Addr) → Moves s t ps qs → Moves s t (xs ++ ps) (xs ++ qs)
moves_beside s t xs ps qs m = record {
  others = λ b out off. m.others b (λ i. out (behind b xs ps i)) (λ i. off (behind b xs qs i));
  made = λ b i. elim (in_either b xs qs i) [
    | inl j ↦ inl (in_front b xs ps j)
    | inr j ↦ elim
        (m.made b j) [ inl k ↦ inl (behind b xs ps k) | inr z ↦ inr z ]
  ];
  freed = λ b i. elim (in_either b xs ps i) [
    | inl j ↦ inl (in_front b xs qs j)
    | inr j ↦ elim
        (m.freed b j) [ inl k ↦ inl (behind b xs qs k) | inr z ↦ inr z ]
  ];
}

-- what agrees with a later view agrees with all before it
pub onward_then : {S K : Type 0} (trace : S → List Seen) (overlay : S → Overlay) (reach : S → ℕ
    → Bool) (number : S → ℕ) (keep : S → K) (s t u : S)
    → Onward trace overlay reach number keep s t → Onward trace overlay reach number keep t u
    → Onward trace overlay reach number keep s u
onward_then trace overlay reach number keep s t u m k = record {
  agreed = λ h agrees. m.agreed h (k.agreed h agrees);
  steady = record {
    reaches = k.steady.reaches ∙ m.steady.reaches;
    count = k.steady.count
        ∙ m.steady.count;
    kept = k.steady.kept ∙ m.steady.kept;
  };
}
