-- Nodes with their objects, and the parts of all actors there, while a farm is made.
use Rattle.std.proofs.Common.{◌≡◌, ◌≢◌, ℕ, ◌+◌, ◌*◌, ◌/◌, ◌%◌, ◌<◌, Bool, true, false, not, cond, eqb, List, [], ◌∷◌, ◌++◌, filter, length, slice_get, Option, Some, None, sym, refl, ap, ◌∙◌, subst, inl, inr, arith}
use Rattle.std.proofs.lemmas.Nat.{div-add-mod', div_below}
use Rattle.std.proofs.lemmas.Bool.{eqb-true, ne_eqb}
use Rattle.std.proofs.lemmas.Option.{same_Some}
use Rattle.a1_base.specs.declared.place.Addr.{Addr}
use Rattle.a1_base.specs.declared.limits.TheConstants.{REGION_LIMIT}
use Rattle.a1_base.specs.Lists.{IsAmong}
use Rattle.object_region.specs.Occupancy.{region_count, width, same_addr, IsPlace}
use Rattle.farm_node.specs.declared.entry.Entry.{Entry}
use Rattle.farm_node.specs.Cell.{Cell, loaded_cell}
use Rattle.farm_node.specs.NodeState.{NodeState, set_cell, occupancy, begun}
use Rattle.farm_node.specs.State.{with_cell, CanLoad}
use Rattle.farm_node.proofs.Addresses.{addr_eq}
use Rattle.turnstile.specs.declared.keeps.Keeps.{Ghosts}
use Rattle.turnstile.specs.declared.lock.Pass.{Pass}
use Rattle.turnstile.specs.Passes.{first_value, numbers, seen, IsPassOf}
use Rattle.write_set.proofs.Lists.{at_pushed}
use Rattle.node_turns.specs.declared.standing.Standing.{Standing}
use Rattle.node_turns.specs.Standing.{Began, CanBegin, bare_start}
use Rattle.transaction_part.specs.Part.{log_in}
use Rattle.farm_commit.specs.Nodes.{Lock, home}
use Rattle.farm_commit.specs.Building.{Loaded, part_of, AreApart, ArePlaces, AreLoaded}
use Rattle.farm_commit.specs.Making.{others_of, HasPass}

-- objects

divided : (r k n : ℕ) → 0 < n → r < k * n → (r / n < k) × (r ≡ r % n + (r / n) * n)
divided r k n pos low = let whole : r / n * n + r % n ≡ r = div-add-mod' r n in (div_below r n k pos low, omega arith)

cell_else : (a b : Addr) (c : Option Cell) (cells : Addr → Option Cell) → (a ≡ b → ⊥) → set_cell a c cells b ≡ cells b
cell_else a b c cells ne = by (same_addr a b) refl where
  by : (g : Bool) → same_addr a b ≡ g → cond g c (cells b) ≡ cells b
  by true e = absurd (ne (addr_eq a b e))
  by false e = refl

can_load : (p : NodeState) (ys : List Loaded) → AreApart ys
    → ((y : Loaded) → IsAmong y ys → IsPlace (occupancy p) y.0 × (p.cells y.0 ≡ None)) → CanLoad p ys
can_load p [] apart all = tt
can_load p (x ∷ xs) apart all =
    let c : Option Cell = Some (loaded_cell p.floor x.1) in
    let h = all x (inl refl) in (
      h.0,
      h.1,
      can_load (with_cell x.0 (loaded_cell p.floor x.1) p) xs apart.1 (λ y there.
          let r = all y (inr there) in
          (r.0, cell_else x.0 y.0 c p.cells (λ (e : x.0 ≡ y.0). apart.0 y there (sym e)) ∙ r.1)),
    )

among_filter : (f : Loaded → Bool) (xs : List Loaded) (y : Loaded) → IsAmong y (filter f xs) → IsAmong y xs × (f y ≡ true)
among_filter f [] y there = absurd there
among_filter f (x ∷ xs) y there = by (λ t. among_filter f xs y t) (f x) refl there where
  by : (IsAmong y (filter f xs) → IsAmong y xs × (f y ≡ true)) → (b : Bool) → f x ≡ b
      → IsAmong y (cond b (x ∷ filter f xs) (filter f xs)) → IsAmong y (x ∷ xs) × (f y ≡ true)
  by h true e t = elim t [
    | inl is ↦ (inl is, subst (λ (z : Loaded). f z ≡ true) is e)
    | inr more ↦ (inr (h more).0, (h more).1)
  ]
  by h false e t = (inr (h t).0, (h t).1)

apart_filter : (f : Loaded → Bool) (xs : List Loaded) → AreApart xs → AreApart (filter f xs)
apart_filter f [] apart = tt
apart_filter f (x ∷ xs) apart = by (apart_filter f xs apart.1) (f x) where
  by : AreApart (filter f xs) → (b : Bool) → AreApart (cond b (x ∷ filter f xs) (filter f xs))
  by h true = ((λ y there. apart.0 y (among_filter f xs y there).0), h)
  by h false = h

filter_within : (f h : Loaded → Bool) → ((x : Loaded) → f x ≡ true → h x ≡ true) → (xs : List Loaded)
    → filter f (filter h xs) ≡ filter f xs
filter_within f h imp [] = refl
filter_within f h imp (x ∷ xs) = by (filter_within f h imp xs) (h x) refl (f x) refl where
  both : Bool → List Loaded
  both z = cond z (x ∷ filter f (filter h xs)) (filter f (filter h xs))

  by : filter f (filter h xs) ≡ filter f xs → (b : Bool) → h x ≡ b → (c : Bool) → f x ≡ c
      → filter f (cond b (x ∷ filter h xs) (filter h xs)) ≡ cond c (x ∷ filter f xs) (filter f xs)
  by s true e true g = ap both g ∙ ap (λ (zs : List Loaded). x ∷ zs) s
  by s true e false g = ap both g ∙ s
  by s false e true g = let bad : false ≡ true = sym e ∙ imp x g in absurd (cc)
  by s false e false g = s

module _ (nodes node : ℕ) where
  -- the objects of another node are all left
  pub part_left : (j : ℕ) → j ≢ node → (xs : List Loaded) → part_of nodes j (others_of nodes node xs) ≡ part_of nodes j xs
  part_left j ne xs = filter_within (λ x. eqb (home nodes x.0) j) (λ x. not (eqb (home nodes x.0) node))
      (λ x yes.
      let is : home nodes x.0 ≡ j = eqb-true (home nodes x.0) j yes in
      ap not (ne_eqb (home nodes x.0) node (λ (e : home nodes x.0 ≡ node). ne (sym is ∙ e))))
      xs

  -- what is left has places, and stands apart
  pub places_left : (xs : List Loaded) → ArePlaces nodes xs → ArePlaces nodes (others_of nodes node xs)
  places_left xs places x there = places x (among_filter (λ y. not (eqb (home nodes y.0) node)) xs x there).0

  pub apart_left : (xs : List Loaded) → AreApart xs → AreApart (others_of nodes node xs)
  apart_left xs apart = apart_filter (λ y. not (eqb (home nodes y.0) node)) xs apart

  -- a node can begin with its objects
  pub can_begin : (actors stamp : ℕ) (xs : List Loaded) → node < nodes → ArePlaces nodes xs → AreApart xs
      → CanBegin node nodes actors stamp (part_of nodes node xs)
  unfolding region_count width
  can_begin actors stamp xs low places apart =
      can_load (begun (bare_start node nodes actors stamp)) (part_of nodes node xs)
      (apart_filter (λ y. eqb (home nodes y.0) node) xs apart)
      (λ y there.
      let r = among_filter (λ z. eqb (home nodes z.0) node) xs y there in
      let is : home nodes y.0 ≡ node = eqb-true (home nodes y.0) node r.1 in
      let p = places y r.0 in
      let parts = divided y.0.region REGION_LIMIT nodes (omega arith) p.0 in
      (((y.0.region / nodes, parts.0, parts.1 ∙ ap (λ (n : ℕ). n + (y.0.region / nodes) * nodes) is), p.1), refl))

-- turnstiles

-- one turnstile more, round the node of its place
pub loaded_more : (locks later : List Lock) (nodes actors stamp : ℕ) (heap part : List Loaded) (s : Standing)
    → (l : Lock) × (later ≡ locks ++ l ∷ []) × (first_value l ≡ s) → Began s (length locks) nodes actors stamp part
    → part ≡ part_of nodes (length locks) heap → AreLoaded locks nodes actors stamp heap → AreLoaded later nodes actors stamp heap
loaded_more locks later nodes actors stamp heap part s (l, pushed, first) began is old i m at =
    elim (at_pushed locks l i m (sym (ap (λ (ls : List Lock). slice_get ls i) pushed) ∙ at)) [
      | inl before ↦ old i m before
      | inr last ↦
          let value : s ≡ first_value m = sym first ∙ ap (λ (z : Lock). first_value z) (sym last.1) in
          subst (λ (n : ℕ). Began (first_value m) n nodes actors stamp (part_of nodes n heap)) (sym last.0)
          (subst (λ (z : Standing). Began z (length locks) nodes actors stamp (part_of nodes (length locks) heap)) value
          (subst (λ (xs : List Loaded). Began s (length locks) nodes actors stamp xs) is began))
    ]

-- passes

module _ {g : Ghosts Standing Entry} where
  -- the pass that is in its place
  pub pass_there : (l : Lock) (ns : List ℕ) (es : List Entry) (place : Option (Pass Standing Entry g)) (p : Pass Standing Entry g)
      → HasPass l ns place → log_in place ≡ es → place ≡ Some p → IsPassOf l p × (numbers p ≡ ns) × (seen p ≡ es)
  pass_there l ns es place p (q, at, of, is) told here =
      let e : q ≡ p = same_Some q p (sym at ∙ here) in (
        subst (λ (z : Pass Standing Entry g). IsPassOf l z) e of,
        ap (λ (z : Pass Standing Entry g). numbers z) (sym e) ∙ is,
        ap (λ (z : Option (Pass Standing Entry g)). log_in z) (sym here) ∙ told,
      )
