-- Totals over all places of a node, where one address changes.
use Rattle.farm_node.proofs.Common.{◌≡◌, ℕ, zero, suc, ◌+◌, ◌<◌, ◌≤◌, leb, max, cond, Bool, true, false, ◌&&◌, List, [], ◌∷◌, Option, Some, None, sym, refl, ap}
use Rattle.farm_node.proofs.Common.{◌∙◌, subst, inl, inr, ⊎_elim, arith, Ordering, cond_both, cond-true, cond-false, both_ways, cases_Bool, false_from_ne_true}
use Rattle.farm_node.proofs.Common.{cases_eq, is_at, AllByRecursion, is_eq, lookup, keys_of, Addr, IsAmong, width, same_addr, Rises, addr_order, IsBelow}
use Rattle.farm_node.proofs.Common.{Version, cut, Cell, is_open, is_gone, goes, collected, past_collected, set_cell, places_in, places, total, past_over}
use Rattle.std.specs.List.Sorted.{IsStrictlySortedBy}
use Rattle.std.specs.declared.cmp.Ordering.TheVariants.{Less}
use Rattle.std.proofs.lemmas.Map.Keys.{sorted_head, sorted_tail}
use Rattle.farm_node.proofs.Addresses.{addr_eq, same_self, same_turned}
use Rattle.farm_node.proofs.Sound.{among_all}
use Rattle.farm_node.proofs.Steps.{Reaches, reached_over}

-- how often an address stands in a list

abbrev one_at : Addr → Addr → ℕ
one_at a b = cond (same_addr a b) 1 0

abbrev occurrences : Addr → List Addr → ℕ
occurrences a [] = 0
occurrences a (b ∷ bs) = one_at a b + occurrences a bs

one_here : (a b : Addr) → a ≡ b → one_at a b ≡ 1
one_here a b e = ap (one_at a) (sym e) ∙ ap (λ (g : Bool). cond g 1 0) (same_self a)

one_elsewhere : (a b : Addr) → (a ≡ b → ⊥) → one_at a b ≡ 0
one_elsewhere a b apart = ap (λ (g : Bool). cond g 1 0) (false_from_ne_true (same_addr a b) (λ e. apart (addr_eq a b e)))

-- the places of one region do not have an address of another, or one past them
occurrences_outside : (a : Addr) (region n : ℕ) (more : List Addr) → (a.region ≡ region → n ≤ a.offset) → occurrences a (places_in region n more) ≡ occurrences a more
occurrences_outside a region zero more outside = refl
occurrences_outside a region (suc n) more outside =
    let place : Addr = record { region = region; offset = n } in
    let rest : occurrences a (places_in region n more) ≡ occurrences a more = occurrences_outside a region n more (λ r. let above : suc n ≤ a.offset = outside r in omega arith) in
    let apart = λ (e : a ≡ place). let above : suc n ≤ a.offset = outside (λ i. (e i).region) in let same : a.offset ≡ n = (λ i. (e i).offset) in let r : ⊥ = omega arith in r in
    let none : one_at a place ≡ 0 = one_elsewhere a place apart in
    omega arith

occurrences_inside : (a : Addr) (n : ℕ) (more : List Addr) → a.offset < n → occurrences a (places_in a.region n more) ≡ 1 + occurrences a more
occurrences_inside a zero more low = absurd (omega arith)
occurrences_inside a (suc n) more low =
    let place : Addr = record { region = a.region; offset = n } in
    elim (cases_eq a.offset n) as (λ z. one_at a place + occurrences a (places_in a.region n more) ≡ 1 + occurrences a more) [
      | inl o ↦
          let here : one_at a place ≡ 1 = one_here a place (λ i. record { region = a.region; offset = o i }) in
          let rest : occurrences a (places_in a.region n more) ≡ occurrences a more = occurrences_outside a a.region n more (λ r. omega arith) in
          omega arith
      | inr apart ↦
          let none : one_at a place ≡ 0 = one_elsewhere a place (λ e. apart (λ i. (e i).offset)) in
          let rest : occurrences a (places_in a.region n more) ≡ 1 + occurrences a more = occurrences_inside a n more (omega (arith, apart)) in
          omega arith
    ]

occurrences_below : (a : Addr) (regions : List ℕ) → IsBelow a.region regions → occurrences a (places regions) ≡ 0
occurrences_below a [] below = refl
occurrences_below a (n ∷ ns) below =
    occurrences_outside a n width (places ns) (λ r. let low : a.region < n = below.0 in absurd (omega arith)) ∙ occurrences_below a ns below.1

below_each : (m n : ℕ) (ns : List ℕ) → IsBelow m ns → IsAmong n ns → m < n
below_each m n [] below there = absurd there
below_each m n (k ∷ ks) below (inl e) = subst (λ (z : ℕ). m < z) e below.0
below_each m n (k ∷ ks) below (inr there) = below_each m n ks below.1 there

-- each place of the node stands once among its places
occurs_once : (a : Addr) (regions : List ℕ) → Rises regions → IsAmong a.region regions → a.offset < width → occurrences a (places regions) ≡ 1
occurs_once a [] rises there low = absurd there
occurs_once a (n ∷ ns) rises (inl e) low =
    ap (λ (m : ℕ). occurrences a (places_in m width (places ns))) e
    ∙ (occurrences_inside a width (places ns) low
    ∙ ap (λ (m : ℕ). 1 + m) (occurrences_below a ns (subst (λ (m : ℕ). IsBelow m ns) e rises.0)))
occurs_once a (n ∷ ns) rises (inr there) low =
    let above : n < a.region = below_each n a.region ns rises.0 there in
    occurrences_outside a n width (places ns) (λ r. absurd (omega arith)) ∙ occurs_once a ns rises.1 there low

-- a total over any list

module _ (count : Option Cell → ℕ) (a : Addr) (c : Option Cell) (cells : Addr → Option Cell) where
  total_without : (all : List Addr) → occurrences a all ≡ 0 → total count (set_cell a c cells) all ≡ total count cells all
  total_without [] none = refl
  total_without (b ∷ bs) none = at (same_addr a b) none (λ n. total_without bs n) where
    at : (g : Bool) → cond g 1 0 + occurrences a bs ≡ 0 → (occurrences a bs ≡ 0 → total count (set_cell a c cells) bs ≡ total count cells bs)
        → count (cond g c (cells b)) + total count (set_cell a c cells) bs ≡ count (cells b) + total count cells bs
    at true none rest = absurd (omega arith)
    at false none rest = ap (λ (n : ℕ). count (cells b) + n) (rest (omega arith))

  total_with : (all : List Addr) → occurrences a all ≡ 1 → total count (set_cell a c cells) all + count (cells a) ≡ total count cells all + count c
  total_with [] once = absurd (omega arith)
  total_with (b ∷ bs) once = at (same_addr a b) refl once (λ n. total_with bs n) where
    at : (g : Bool) → same_addr a b ≡ g → cond g 1 0 + occurrences a bs ≡ 1 → (occurrences a bs ≡ 1 → total count (set_cell a c cells) bs + count (cells a) ≡ total count cells bs + count c)
        → count (cond g c (cells b)) + total count (set_cell a c cells) bs + count (cells a) ≡ count (cells b) + total count cells bs + count c
    at true is once rest =
        let same : count (cells a) ≡ count (cells b) = ap (λ (z : Addr). count (cells z)) (addr_eq a b is) in
        let others : total count (set_cell a c cells) bs ≡ total count cells bs = total_without bs (omega arith) in
        omega arith
    at false is once rest =
        let others : total count (set_cell a c cells) bs + count (cells a) ≡ total count cells bs + count c = rest (omega arith) in
        omega arith

-- a total changes by what the one address changes
pub total_set : (count : Option Cell → ℕ) (regions : List ℕ) (a : Addr) (c : Option Cell) (cells : Addr → Option Cell) → Rises regions → IsAmong a.region regions → a.offset < width
    → total count (set_cell a c cells) (places regions) + count (cells a) ≡ total count cells (places regions) + count c
total_set count regions a c cells rises there low = total_with count a c cells (places regions) (occurs_once a regions rises there low)

-- what a collection makes of past

past_is_max : (floor past : ℕ) (o : Option Cell) → past_collected floor o past ≡ max (past_collected floor o 0) past
past_is_max floor past None = omega arith
past_is_max floor past (Some c) = elim (goes floor c) as (λ g. cond g (max c.bound past) past ≡ max (cond g (max c.bound 0) 0) past) [ true ↦ omega arith | false ↦ omega arith ]

pub gone_cut : (floor : ℕ) (vs : List Version) → is_gone floor (cut floor vs) ≡ is_gone floor vs
gone_cut floor [] = refl
gone_cut floor (v ∷ vs) = cond_both (leb v.0 floor) _ _ (λ l. is_gone floor l ≡ is_gone floor (v ∷ vs)) (λ is. refl) (λ is. refl)

-- a second collection takes nothing whole
collected_once : (floor : ℕ) (o : Option Cell) → past_collected floor (collected floor o) 0 ≡ 0
collected_once floor None = refl
collected_once floor (Some c) = cond_both (goes floor c) _ _ (λ o. past_collected floor o 0 ≡ 0) (λ is. refl)
    (λ is. cond-false _ _ _ (ap (λ (g : Bool). is_open c.lock && g) (gone_cut floor c.versions) ∙ is))

module _ (floor : ℕ) (a : Addr) (cells : Addr → Option Cell) (past : ℕ) where
  past_moved : (all : List Addr) → past_over floor (set_cell a (collected floor (cells a)) cells) all (past_collected floor (cells a) past) ≡ max (past_collected floor (cells a) 0) (past_over floor cells all past)
  past_moved [] = past_is_max floor past (cells a)
  past_moved (b ∷ bs) = at (same_addr a b) refl _ (past_moved bs) where
    at : (g : Bool) → same_addr a b ≡ g → (later : ℕ) → later ≡ max (past_collected floor (cells a) 0) (past_over floor cells bs past)
        → past_collected floor (cond g (collected floor (cells a)) (cells b)) later ≡ max (past_collected floor (cells a) 0) (past_collected floor (cells b) (past_over floor cells bs past))
    at true is later rest =
        let same : past_collected floor (cells a) 0 ≡ past_collected floor (cells b) 0 = ap (λ (z : Addr). past_collected floor (cells z) 0) (addr_eq a b is) in
        omega (arith, collected_once floor (cells a), past_is_max floor later (collected floor (cells a)), past_is_max floor (past_over floor cells bs past) (cells b))
    at false is later rest = omega (arith, past_is_max floor later (cells b), past_is_max floor (past_over floor cells bs past) (cells b))

past_below : (floor : ℕ) (c : Option Cell) (n : ℕ) → Reaches floor c n → past_collected floor c 0 ≤ n
past_below floor None n reach = omega arith
past_below floor (Some c) n reach = cond_both (goes floor c) _ _ (λ x. x ≤ n) (λ is. let b : c.bound ≤ n = reach is in omega arith) (λ is. omega arith)

-- what was collected at one address raises past no more
pub past_over_set : (floor : ℕ) (regions : List ℕ) (a : Addr) (cells : Addr → Option Cell) (past : ℕ) → Rises regions → IsAmong a.region regions → a.offset < width
    → past_over floor (set_cell a (collected floor (cells a)) cells) (places regions) (past_collected floor (cells a) past) ≡ past_over floor cells (places regions) past
past_over_set floor regions a cells past rises there low =
    omega (arith, past_moved floor a cells past (places regions), past_below floor (cells a) _ (reached_over floor cells (places regions) past a (among_all a regions (there, low))))

-- the total over all places is the sum over the entries of the map
abbrev pub sum_of : (Cell → ℕ) → List (Addr × Cell) → ℕ
sum_of count [] = 0
sum_of count (e ∷ es) = count e.1 + sum_of count es

abbrev cells_in : List (Addr × Cell) → Addr → Option Cell
cells_in es a = lookup (is_at (addr_order a)) es

-- the sum of no entries
total_nothing : (count : Option Cell → ℕ) (all : List Addr) → count None ≡ 0 → total count (λ a. None) all ≡ 0
total_nothing count [] none = refl
total_nothing count (a ∷ rest) none = let others : total count (λ a. None) rest ≡ 0 = total_nothing count rest none in omega arith

same_both : (a b : Addr) → same_addr a b ≡ same_addr b a
same_both a b = elim (cases_Bool (same_addr a b)) as (λ z. same_addr a b ≡ same_addr b a) [
  | inl is ↦ is ∙ sym (same_turned a b is)
  | inr apart ↦ apart ∙ sym (false_from_ne_true (same_addr b a) (λ back. both_ways (same_addr a b) apart (same_turned b a back)))
]

-- the first entry is a change of what the others give
cells_cons : (e : Addr × Cell) (es : List (Addr × Cell)) → cells_in (e ∷ es) ≡ set_cell e.0 (Some e.1) (cells_in es)
cells_cons e es = λ i a. ap (λ (g : Bool). cond g (Some e.1) (cells_in es a)) (same_both a e.0) i

-- the key of the first entry is not among the others
absent_behind : (a : Addr) (es : List (Addr × Cell)) → AllByRecursion (λ b. addr_order a b ≡ Less) (keys_of es) → cells_in es a ≡ None
absent_behind a [] behind = refl
absent_behind a (e ∷ es) behind = ap (λ (o : Ordering). cond (is_eq o) (Some e.1) (cells_in es a)) behind.0 ∙ absent_behind a es behind.1

module _ (count : Option Cell → ℕ) (regions : List ℕ) (none : count None ≡ 0) (rises : Rises regions) where
  pub total_listed : (es : List (Addr × Cell)) → IsStrictlySortedBy addr_order (keys_of es)
      → ((a : Addr) (c : Cell) → cells_in es a ≡ Some c → IsAmong a.region regions × (a.offset < width)) → total count (cells_in es) (places regions) ≡ sum_of (λ c. count (Some c)) es
  total_listed [] ordered placed = total_nothing count (places regions) none
  total_listed (e ∷ es) ordered placed =
      let here : IsAmong e.0.region regions × (e.0.offset < width) = placed e.0 e.1 (ap (λ (g : Bool). cond g (Some e.1) (cells_in es e.0)) (same_self e.0)) in
      let first : total count (cells_in (e ∷ es)) (places regions) ≡ total count (set_cell e.0 (Some e.1) (cells_in es)) (places regions) = ap (λ (cells : Addr → Option Cell). total count cells (places regions)) (cells_cons e es) in
      let change : total count (set_cell e.0 (Some e.1) (cells_in es)) (places regions) + count (cells_in es e.0) ≡ total count (cells_in es) (places regions) + count (Some e.1)
      = total_set count regions e.0 (Some e.1) (cells_in es) rises here.0 here.1 in
      let new : count (cells_in es e.0) ≡ 0 = ap count (absent_behind e.0 es (sorted_head addr_order e.0 (keys_of es) ordered)) ∙ none in
      let others : total count (cells_in es) (places regions) ≡ sum_of (λ c. count (Some c)) es
      = total_listed es (sorted_tail addr_order e.0 (keys_of es) ordered) behind in
      omega arith where
        behind : (a : Addr) (c : Cell) → cells_in es a ≡ Some c → IsAmong a.region regions × (a.offset < width)
        behind a c there = ⊎_elim (λ is. placed a e.1 (cond-true (same_addr a e.0) (Some e.1) (cells_in es a) is))
            (λ other. placed a c (cond-false (same_addr a e.0) (Some e.1) (cells_in es a) other ∙ there)) (cases_Bool (same_addr a e.0))
