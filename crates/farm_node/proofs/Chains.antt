-- Lists of versions, and of puts as versions.
use Rattle.farm_node.proofs.Common.{◌≡◌, ℕ, suc, ◌<◌, ◌≤◌, nat_le, cond, true, false, List, [], ◌∷◌, Option, Some, None, sym, refl, ap, ◌∙◌, subst, ⊎_elim}
use Rattle.farm_node.proofs.Common.{arith, cond_both, cond-true, cond-false, and_parts, leb-true, le-leb, lt-leb, IsAmong, Version, version_at, newest, cut}
use Rattle.farm_node.proofs.Common.{Falls, Bytes, found_of, found_at, is_absent, is_gone, Installed, version_of, versions_of, stamped_bytes}

-- versions

taken_at : (s : ℕ) (v : Version) (vs : List Version) → v.0 ≤ s → version_at s (v ∷ vs) ≡ Some v
taken_at s v vs le = cond-true (nat_le v.0 s) (Some v) (version_at s vs) (le-leb v.0 s le)

pub passed_at : (s : ℕ) (v : Version) (vs : List Version) → s < v.0 → version_at s (v ∷ vs) ≡ version_at s vs
passed_at s v vs lt = cond-false (nat_le v.0 s) (Some v) (version_at s vs) (lt-leb v.0 s lt)

-- a cut keeps what stands at each stamp from the floor on
pub cut_at : (floor s : ℕ) (vs : List Version) → floor ≤ s → version_at s (cut floor vs) ≡ version_at s vs
cut_at floor s [] le = refl
cut_at floor s (v ∷ vs) le = cond_both (nat_le v.0 floor) _ _ (λ l. version_at s l ≡ version_at s (v ∷ vs))
    (λ is. let low : v.0 ≤ floor = leb-true v.0 floor is in let here : v.0 ≤ s = omega arith in taken_at s v [] here ∙ sym (taken_at s v vs here))
    (λ is. ap (λ (x : Option Version). cond (nat_le v.0 s) (Some v) x) (cut_at floor s vs le))

-- and the newest version
pub newest_cut : (floor : ℕ) (vs : List Version) → newest (cut floor vs) ≡ newest vs
newest_cut floor [] = refl
newest_cut floor (v ∷ vs) = elim (nat_le v.0 floor) as (λ g. newest (cond g (v ∷ []) (v ∷ cut floor vs)) ≡ v.0) [ true ↦ refl | false ↦ refl ]

-- what goes is absent from the floor on
pub gone_at : (floor s : ℕ) (vs : List Version) → floor ≤ s → is_gone floor vs ≡ true → (stamped_bytes (found_at s vs) ≡ None) × (newest vs ≤ floor)
gone_at floor s [] le gone = cc
gone_at floor s (v ∷ vs) le gone =
    let low : v.0 ≤ floor = leb-true v.0 floor (and_parts _ _ gone).0 in
    let here : v.0 ≤ s = omega arith in
    (ap (λ (x : Option Version). stamped_bytes (found_of x)) (taken_at s v vs here) ∙ absent v.0 v.1 (and_parts _ _ gone).1, low) where
      absent : (n : ℕ) (x : Option Bytes) → is_absent x ≡ true → stamped_bytes (found_of (Some (n, x))) ≡ None
      absent n None e = refl
      absent n (Some y) e = cc

-- puts

-- each put is at most n
abbrev pub BelowAll : ℕ → List Installed → Type 0
BelowAll n [] = Unit {0}
BelowAll n (i ∷ is) = (i.stamp ≤ n) × BelowAll n is

pub below_more : (m n : ℕ) (puts : List Installed) → m ≤ n → BelowAll m puts → BelowAll n puts
below_more m n [] le t = tt
below_more m n (i ∷ is) le t = let x : i.stamp ≤ m = t.0 in (omega arith, below_more m n is le t.1)

pub newest_below : (n : ℕ) (puts : List Installed) → BelowAll n puts → newest (versions_of puts) ≤ n
newest_below n [] t = omega arith
newest_below n (i ∷ is) t = t.0

-- from the newest stamp on nothing changes
pub steady : (r s : ℕ) (puts : List Installed) → BelowAll r puts → r ≤ s → version_at s (versions_of puts) ≡ version_at r (versions_of puts)
steady r s [] low le = refl
steady r s (i ∷ is) low le =
    let here : i.stamp ≤ r = low.0 in
    taken_at s (version_of i) (versions_of is) (omega arith) ∙ sym (taken_at r (version_of i) (versions_of is) here)

-- no older put is above the read stamp of a put's lock
abbrev pub Decided : List Installed → Type 0
Decided [] = Unit {0}
Decided (i ∷ is) = BelowAll i.read is × Decided is

falls_below : (n : ℕ) (puts : List Installed) (i : Installed) → newest (versions_of puts) < n → Falls (versions_of puts) → IsAmong i puts → i.stamp < n
falls_below n [] i low falls there = absurd there
falls_below n (j ∷ js) i low falls there = ⊎_elim
    (λ (is : j ≡ i). let e : j.stamp ≡ i.stamp = ap (λ (z : Installed). z.stamp) is in let l : j.stamp < n = low in omega arith)
    (λ more. let l : j.stamp < n = low in falls_below n js i (let x : newest (versions_of js) < j.stamp = falls.0 in omega arith) falls.1 more) there

-- from its read stamp to its own stamp a put has the value at its read stamp before it
pub decided_at : (puts : List Installed) (i : Installed) (s : ℕ) → Falls (versions_of puts) → Decided puts → IsAmong i puts → i.read ≤ s → s < i.stamp
    → version_at s (versions_of puts) ≡ version_at i.read (versions_of puts)
decided_at [] i s falls decided there low high = absurd there
decided_at (j ∷ js) i s falls decided there low high =
    let above : i.stamp < suc j.stamp = falls_below (suc j.stamp) (j ∷ js) i (omega arith) falls there in
    passed_at s (version_of j) (versions_of js) (omega arith)
    ∙ (⊎_elim (λ (is : j ≡ i). steady i.read s js (subst (λ (z : Installed). BelowAll z.read js) is decided.0) low)
    (λ more. decided_at js i s falls.1 decided.1 more low high) there
    ∙ sym (passed_at i.read (version_of j) (versions_of js) (omega arith)))
