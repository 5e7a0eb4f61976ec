-- A collection address by address is the collection of the whole node.
use Rattle.farm_node.proofs.Common.{◌≡◌, ℕ, ◌+◌, ◌-◌, ◌^◌, ◌<◌, ◌≤◌, leb, max, min, cond, Bool, true, false, ◌&&◌, List, [], ◌∷◌}
use Rattle.farm_node.proofs.Common.{Option, Some, None, is_some, sym, refl, ap, ◌∙◌, subst, arith, cond_both}
use Rattle.farm_node.proofs.Common.{cond-true, cond-false, Addr}
use Rattle.farm_node.proofs.Common.{IsAmong, width, Occupancy, Rises, IsOccupancy, Version, cut, Cell, is_open, goes}
use Rattle.farm_node.proofs.Common.{collected, past_collected, objects_in, versions_in, NodeState, set_cell, places, total, object_count, version_count}
use Rattle.farm_node.proofs.Common.{past_over, after_collect, counted, goes_there, SweepsNext, collected_at}
use mir.Val.{bool_byte}
use Rattle.farm_node.specs.declared.swept.Swept.{Swept}
use Rattle.farm_node.proofs.CellMaps.{unset}
use Rattle.farm_node.proofs.Totals.{gone_cut, total_set, past_over_set}
use Rattle.farm_node.proofs.Addresses.{set_cases, set_self}

-- each object lies in a made region
abbrev pub IsPlaced : NodeState → Type 0
IsPlaced p = (a : Addr) (c : Cell) → p.cells a ≡ Some c → IsAmong a.region p.regions × (a.offset < width)

-- a collection leaves nothing to collect

cut_twice : (floor : ℕ) (vs : List Version) → cut floor (cut floor vs) ≡ cut floor vs
cut_twice floor [] = refl
cut_twice floor (v ∷ vs) = cond_both (leb v.0 floor) _ _ (λ l. cut floor l ≡ l) (λ is. cond-true (leb v.0 floor) _ _ is)
    (λ is. cond-false (leb v.0 floor) _ _ is ∙ ap (λ (l : List Version). v ∷ l) (cut_twice floor vs))

collected_twice : (floor : ℕ) (o : Option Cell) → collected floor (collected floor o) ≡ collected floor o
collected_twice floor None = refl
collected_twice floor (Some c) = cond_both (goes floor c) _ _ (λ o. collected floor o ≡ o) (λ is. refl)
    (λ is. cond-false _ _ _ (ap (λ (g : Bool). is_open c.lock && g) (gone_cut floor c.versions) ∙ is) ∙ ap (λ (l : List Version). Some (record c { versions = l })) (cut_twice floor c.versions))

-- where nothing is left to collect, a collection moves the floor alone

past_fixed : (floor : ℕ) (o : Option Cell) (past : ℕ) → collected floor o ≡ o → past_collected floor o past ≡ past
past_fixed floor None past e = refl
past_fixed floor (Some c) past e =
    elim (goes floor c) as (λ g. cond g None (Some (record c { versions = cut floor c.versions })) ≡ Some c → cond g (max c.bound past) past ≡ past) [ true ↦ λ e. absurd (cc) | false ↦ λ e. refl ] e

over_fixed : (floor : ℕ) (cells : Addr → Option Cell) (all : List Addr) (past : ℕ) → ((a : Addr) → collected floor (cells a) ≡ cells a) → past_over floor cells all past ≡ past
over_fixed floor cells [] past fixed = refl
over_fixed floor cells (a ∷ all) past fixed = past_fixed floor (cells a) (past_over floor cells all past) (fixed a) ∙ over_fixed floor cells all past fixed

all_fixed : (floor : ℕ) (p : NodeState) → ((a : Addr) → collected floor (p.cells a) ≡ p.cells a) → after_collect floor p ≡ record p { floor = floor }
all_fixed floor p fixed = λ i. record p { cells = λ a. fixed a i; past = over_fixed floor p.cells (places p.regions) p.past fixed i; floor = floor }

-- collecting one address beforehand changes nothing of the whole

module _ (floor : ℕ) (p : NodeState) (a : Addr) (rises : Rises p.regions) (placed : IsPlaced p) where
  cells_before : (b : Addr) → collected floor (set_cell a (collected floor (p.cells a)) p.cells b) ≡ collected floor (p.cells b)
  cells_before b = set_cases (λ z o. collected floor o ≡ collected floor (p.cells z)) a b (collected floor (p.cells a)) p.cells (collected_twice floor (p.cells a)) (λ apart. refl)

  past_before : past_over floor (set_cell a (collected floor (p.cells a)) p.cells) (places p.regions) (past_collected floor (p.cells a) p.past) ≡ past_over floor p.cells (places p.regions) p.past
  past_before = at (p.cells a) refl where
    at : (o : Option Cell) → p.cells a ≡ o → past_over floor (set_cell a (collected floor (p.cells a)) p.cells) (places p.regions) (past_collected floor (p.cells a) p.past) ≡ past_over floor p.cells (places p.regions) p.past
    at None is =
        ap (λ (o : Option Cell). past_over floor (set_cell a (collected floor o) p.cells) (places p.regions) (past_collected floor o p.past)) is
        ∙ ap (λ (cells : Addr → Option Cell). past_over floor cells (places p.regions) p.past) (unset a p.cells is)
    at (Some c) is = let there = placed a c is in past_over_set floor p.regions a p.cells p.past rises there.0 there.1

  after_before : after_collect floor (collected_at floor a p) ≡ after_collect floor p
  after_before = λ i. record p { cells = λ b. cells_before b i; past = past_before i; floor = floor }

  total_before : (count : Option Cell → ℕ) → total count (set_cell a (collected floor (p.cells a)) p.cells) (places p.regions) + count (p.cells a) ≡ total count p.cells (places p.regions) + count (collected floor (p.cells a))
  total_before count = at (p.cells a) refl where
    at : (o : Option Cell) → p.cells a ≡ o → total count (set_cell a (collected floor (p.cells a)) p.cells) (places p.regions) + count (p.cells a) ≡ total count p.cells (places p.regions) + count (collected floor (p.cells a))
    at None is =
        ap (λ (o : Option Cell). total count (set_cell a (collected floor o) p.cells) (places p.regions) + count o) is
        ∙ (ap (λ (cells : Addr → Option Cell). total count cells (places p.regions) + count None) (unset a p.cells is)
        ∙ ap (λ (o : Option Cell). total count p.cells (places p.regions) + count (collected floor o)) (sym is))
    at (Some c) is = let there = placed a c is in total_set count p.regions a (collected floor (p.cells a)) p.cells rises there.0 there.1

  placed_before : IsPlaced (collected_at floor a p)
  placed_before b d is = set_cases (λ z o. o ≡ Some d → IsAmong z.region p.regions × (z.offset < width)) a b (collected floor (p.cells a)) p.cells
      (λ e. let c = was (p.cells a) e in placed a c.0 c.1) (λ apart e. placed b d e) is where
        was : (o : Option Cell) → collected floor o ≡ Some d → (c : Cell) × (o ≡ Some c)
        was None e = cc
        was (Some c) e = (c, refl)

-- how far a sweep has come

pub record IsSweeping (floor : ℕ) (begin now : NodeState) (versions objects : ℕ) : Type 0 where
  pub same : after_collect floor now ≡ after_collect floor begin
  pub rises : Rises now.regions
  pub placed : IsPlaced now
  pub removed : versions ≡ counted (version_count begin - version_count now)
  pub fewer : version_count now ≤ version_count begin
  pub gone : objects + object_count now ≡ object_count begin

pub sweeping_begins : (floor : ℕ) (p : NodeState) → Rises p.regions → IsPlaced p → IsSweeping floor p p 0 0
sweeping_begins floor p rises placed =
    record { same = refl; rises = rises; placed = placed; removed = omega arith; fewer = omega arith; gone = omega arith }

objects_gone : (floor : ℕ) (o : Option Cell) → objects_in (collected floor o) + bool_byte (goes_there floor o) ≡ objects_in o
objects_gone floor None = refl
objects_gone floor (Some c) = elim (goes floor c) as (λ g. objects_in (cond g None (Some (record c { versions = cut floor c.versions }))) + bool_byte g ≡ 1) [ true ↦ refl | false ↦ refl ]

pub sweeping_more : (floor : ℕ) (begin now later : NodeState) (versions objects : ℕ) (swept : Swept) (versions' objects' : ℕ)
    → IsSweeping floor begin now versions objects → SweepsNext floor now (Some swept) later
    → versions' ≡ min (versions + swept.versions) (2 ^ 64 - 1) → objects' ≡ objects + bool_byte (is_some swept.gone) → IsSweeping floor begin later versions' objects'
sweeping_more floor begin now later versions objects swept versions' objects' s next counted' counts =
    let x : Addr = next.0 in
    let q : NodeState = collected_at floor x now in
    let here : q.cells x ≡ collected floor (now.cells x) = set_self x (collected floor (now.cells x)) now.cells in
    let fewer_versions : version_count q + versions_in (now.cells x) ≡ version_count now + versions_in (collected floor (now.cells x)) = total_before floor now x s.rises s.placed versions_in in
    let fewer_objects : object_count q + objects_in (now.cells x) ≡ object_count now + objects_in (collected floor (now.cells x)) = total_before floor now x s.rises s.placed objects_in in
    let removed : swept.versions + versions_in (collected floor (now.cells x)) ≡ versions_in (now.cells x) =
    ap (λ (o : Option Cell). swept.versions + versions_in o) (sym here) ∙ (ap (λ (p : NodeState). swept.versions + versions_in (p.cells x)) (sym next.1) ∙ next.2) in
    let gone : objects_in (collected floor (now.cells x)) + bool_byte (is_some swept.gone) ≡ objects_in (now.cells x) =
    ap (λ (g : Bool). objects_in (collected floor (now.cells x)) + bool_byte g) next.3 ∙ objects_gone floor (now.cells x) in
    let was_versions : versions ≡ counted (version_count begin - version_count now) = s.removed in
    let was_fewer : version_count now ≤ version_count begin = s.fewer in
    let was_objects : objects + object_count now ≡ object_count begin = s.gone in
    subst (λ (z : NodeState). IsSweeping floor begin z versions' objects') (sym next.1) record {
      same = after_before floor now x s.rises s.placed ∙ s.same;
      rises = s.rises;
      placed = placed_before floor now x s.rises s.placed;
      removed = omega arith;
      fewer = omega arith;
      gone = omega arith;
    }

-- nothing is left: the sweep is the collection
pub sweeping_ends : (floor : ℕ) (begin now later : NodeState) (versions objects : ℕ) → IsSweeping floor begin now versions objects → SweepsNext floor now None later
    → after_collect floor begin ≡ record later { floor = floor }
sweeping_ends floor begin now later versions objects s next = sym s.same ∙ (all_fixed floor now next.1 ∙ (λ i. record (sym next.0 i) { floor = floor }))

pub byte_at_most_one : (b : Bool) → bool_byte b ≤ 1
byte_at_most_one true = omega arith
byte_at_most_one false = omega arith

pub placed_by : (p : NodeState) (o : Occupancy) → IsOccupancy o → p.regions ≡ o.regions → ((a : Addr) → o.taken a ≡ is_some (p.cells a)) → IsPlaced p
placed_by p o sound same agrees a c is =
    let there = sound.placed a (agrees a ∙ ap is_some is) in
    (subst (λ (rs : List ℕ). IsAmong a.region rs) (sym same) there.0, there.1)
