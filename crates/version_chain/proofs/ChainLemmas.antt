-- Versions that stand the oldest first, as a chain stores them.
use Rattle.std.proofs.Common.{◌≡◌, ℕ, ◌+◌, ◌-◌, ◌<◌, ◌≤◌, zero, suc, true, false, cond, leb, List, [], ◌∷◌, ◌++◌, length, reverse, get_or, drop, Some, None, refl, ap, inl, inr, subst, arith}
use Rattle.std.specs.List.{AllWithin}
use Rattle.std.specs.List.Sorted.{IsNonDecreasingBy, IsPartitionedBy}
use Rattle.std.specs.Option.{option_or}
use Rattle.std.proofs.lemmas.Bool.{le-leb, lt-leb}
use Rattle.std.proofs.lemmas.Bool.Decides.{leb_tells}
use Rattle.std.proofs.lemmas.Grind.{reverse_onto}
use Rattle.std.proofs.lemmas.List.{get_or-reverse, length-reverse, reverse-reverse}
use Rattle.std.proofs.lemmas.List.Sorted.{IsPartitionedBy-leb}
use Rattle.version_chain.specs.Versions.{Version, Falls, newest, version_at, cut}

-- no older version has a higher stamp
stamps_fall : (vs : List Version) → Falls vs → (i j : ℕ) (d : Version) → i ≤ j → j < length vs → (get_or vs j d).0 ≤ (get_or vs i d).0
stamps_fall [] f i j d le lt = absurd (omega arith)
stamps_fall (v ∷ vs) f zero zero d le lt = omega arith
stamps_fall (v ∷ []) f zero (suc j) d le lt = absurd (omega arith)
stamps_fall (v ∷ w ∷ vs) f zero (suc j) d le lt =
    let first = f.0 in
    let below = stamps_fall (w ∷ vs) f.1 zero j d (omega arith) (omega arith) in
    omega arith
stamps_fall (v ∷ vs) f (suc i) zero d le lt = absurd (omega arith)
stamps_fall (v ∷ vs) f (suc i) (suc j) d le lt = stamps_fall vs f.1 i j d (omega arith) (omega arith)

get_or_mirrored : (xs : List Version) (k : ℕ) (d : Version) → k < length xs → get_or xs k d ≡ get_or (reverse xs) (length xs - 1 - k) d
get_or_mirrored xs k d h =
    let within : k < length (reverse xs) = omega (arith, length-reverse xs) in
    rw (reverse-reverse, length-reverse) at (get_or-reverse (reverse xs) k d within)

stamps_rise : (xs : List Version) → Falls (reverse xs) → IsNonDecreasingBy (λ v. v.0) xs
stamps_rise xs f i j d le lt =
    rw (get_or_mirrored xs i d (omega arith), get_or_mirrored xs j d lt)
    (stamps_fall (reverse xs) f (length xs - 1 - j) (length xs - 1 - i) d (omega arith) (omega (arith, length-reverse xs)))

-- the versions at most s stand before the others
pub parted : (xs : List Version) (s : ℕ) → Falls (reverse xs) → IsPartitionedBy (λ v. leb v.0 s) xs
parted xs s f = IsPartitionedBy-leb (λ v. v.0) xs s (stamps_rise xs f)

version_at-append : (s : ℕ) (vs ws : List Version) → version_at s (vs ++ ws) ≡ option_or (version_at s vs) (version_at s ws)
version_at-append s [] ws = refl
version_at-append s (v ∷ vs) ws = elim (leb_tells v.0 s) [ inl p ↦ rw p.0 refl | inr p ↦ rw p.0 (version_at-append s vs ws) ]

version_at-reverse : (s : ℕ) (x : Version) (xs : List Version) → version_at s (reverse (x ∷ xs)) ≡ option_or (version_at s (reverse xs)) (cond (leb x.0 s) (Some x) None)
version_at-reverse s x xs = rw (reverse_onto xs x []) (version_at-append s (reverse xs) (x ∷ []))

-- none is at most s
pub version_at_none : (s : ℕ) (xs : List Version) → AllWithin (λ v. leb v.0 s ≡ false) xs 0 (length xs) → version_at s (reverse xs) ≡ None
version_at_none s [] h = refl
version_at_none s (x ∷ xs) h =
    let none = version_at_none s xs (λ k d le lt. h (suc k) d (omega arith) (omega arith)) in
    rw (version_at-reverse s x xs, none, h 0 x (omega arith) (omega arith)) refl

-- the one at i is the last that is at most s
pub version_at_last : (s : ℕ) (xs : List Version) (i : ℕ) (d : Version) → i < length xs → leb (get_or xs i d).0 s ≡ true → AllWithin (λ v. leb v.0 s ≡ false) xs (i + 1) (length xs) → version_at s (reverse xs) ≡ Some (get_or xs i d)
version_at_last s [] i d lt here h = absurd (omega arith)
version_at_last s (x ∷ xs) zero d lt here h =
    let none = version_at_none s xs (λ k e le below. h (suc k) e (omega arith) (omega arith)) in
    rw (version_at-reverse s x xs, none, here) refl
version_at_last s (x ∷ xs) (suc i) d lt here h =
    let last = version_at_last s xs i d (omega arith) here (λ k e le below. h (suc k) e (omega arith) (omega arith)) in
    rw (version_at-reverse s x xs, last) refl

newest-append : (vs : List Version) (w : Version) → newest vs ≤ newest (vs ++ w ∷ [])
newest-append [] w = omega arith
newest-append (v ∷ vs) w = omega arith

falls_short : (vs : List Version) (w : Version) → Falls (vs ++ w ∷ []) → Falls vs
falls_short [] w f = tt
falls_short (v ∷ vs) w f = let first = f.0 in (omega (arith, newest-append vs w), falls_short vs w f.1)

-- stamps fall without the oldest version too
pub falls_without_oldest : (xs : List Version) → Falls (reverse xs) → Falls (reverse (drop 1 xs))
falls_without_oldest [] f = tt
falls_without_oldest (x ∷ xs) f = falls_short (reverse xs) x (subst Falls (reverse_onto xs x []) f)

cut_one : (floor : ℕ) (v : Version) → cut floor (v ∷ []) ≡ v ∷ []
cut_one floor v = elim (leb_tells v.0 floor) [ inl p ↦ rw p.0 refl | inr p ↦ rw p.0 refl ]

cut_below : (floor : ℕ) (vs : List Version) (v w : Version) → v.0 ≤ floor → cut floor (vs ++ v ∷ w ∷ []) ≡ cut floor (vs ++ v ∷ [])
cut_below floor [] v w h = rw (le-leb v.0 floor h) refl
cut_below floor (u ∷ vs) v w h = ap (λ ws. cond (leb u.0 floor) (u ∷ []) (u ∷ ws)) (cut_below floor vs v w h)

cut_above : (floor : ℕ) (vs : List Version) (v w : Version) → Falls (vs ++ v ∷ w ∷ []) → floor < v.0 → (floor < newest (vs ++ v ∷ w ∷ [])) × (cut floor (vs ++ v ∷ w ∷ []) ≡ vs ++ v ∷ w ∷ [])
cut_above floor [] v w f h = (h, rw (lt-leb v.0 floor h) (ap (λ ws. v ∷ ws) (cut_one floor w)))
cut_above floor (u ∷ vs) v w f h =
    let rest = cut_above floor vs v w f.1 h in
    let below = f.0 in
    let above : floor < u.0 = omega arith in
    (above, rw (lt-leb u.0 floor above) (ap (λ ws. u ∷ ws) rest.1))

-- a lone version stays
pub cut_short : (floor : ℕ) (xs : List Version) → length xs ≤ 1 → cut floor (reverse xs) ≡ reverse xs
cut_short floor [] h = refl
cut_short floor (x ∷ []) h = cut_one floor x
cut_short floor (x ∷ y ∷ xs) h = absurd (omega arith)

-- the oldest goes exactly where the one next to it is at most the floor
pub cut_by_next : (floor : ℕ) (xs : List Version) (next : Version) → next ≡ get_or xs 1 next → 1 < length xs → Falls (reverse xs) → cut floor (reverse xs) ≡ cond (leb next.0 floor) (cut floor (reverse (drop 1 xs))) (reverse xs)
cut_by_next floor [] next e lt f = absurd (omega arith)
cut_by_next floor (x ∷ []) next e lt f = absurd (omega arith)
cut_by_next floor (x ∷ y ∷ xs) next e lt f =
    let two = reverse_onto xs y (x ∷ []) in
    elim (leb_tells next.0 floor) [ inl p ↦ rw (p.0, two, reverse_onto xs y []) (cut_below floor (reverse xs) y x (rw e at p.1)) | inr p ↦ rw (p.0, two) (cut_above floor (reverse xs) y x (subst Falls two f) (rw e at p.1)).1 ]

-- what stands at the floor and above stays
pub version_at_cut : (s floor : ℕ) (vs : List Version) → floor ≤ s → version_at s (cut floor vs) ≡ version_at s vs
version_at_cut s floor [] h = refl
version_at_cut s floor (v ∷ vs) h =
    elim (leb_tells v.0 floor) [ inl p ↦ let low = p.1 in rw (p.0, le-leb v.0 s (omega arith)) refl | inr p ↦ rw p.0 (ap (λ o. cond (leb v.0 s) (Some v) o) (version_at_cut s floor vs h)) ]
